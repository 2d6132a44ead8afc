-- The laws of a building that goes on from where it stands.
use mathlib.Core.Path.{◌≡◌, refl, ap, sym, ◌∙◌}
use mathlib.Core.Bool.{Bool, true, false}
use mathlib.Core.List.{List, ◌++◌}
use Prim.Native.Nat.{ℕ, ◌+◌, ◌-◌, ◌<◌, ◌≤◌}
use native.Mathlib.Omega.{arith}
use native.Mathlib.Nat.{add_assoc}
use lib.Dec.{leb}
use Rattle.std.specs.Prelude.{Option, Some, None}
use lib.ListN.{length, drop, length-append}
use lib.Seq.{sets}
use borrow.Author.Tests.{le-leb, lt-leb, leb-true, leb-false}
use Rattle.wire.proofs.Stores.{sets_append}
use Rattle.supply_entries.specs.Emitting.{Stand, broken, stands, put_at, stand_of}
use Rattle.supply_entries.specs.declared.Built.{Built}
use Rattle.supply_entries.proofs.Stores.{sets_before}
use Rattle.protocol.specs.Numbers.{pick}
use Rattle.protocol.specs.Nodes.{Node}
use Rattle.protocol.specs.Building.{Made, wrong, made, made_before, then_made, head_bytes, headed}

-- ---- a call's answer

module _ (r : Option Built) (list out : List ℕ) (x : Stand) (q : stand_of r list out ≡ x) where
  pub none_is : r ≡ None → broken ≡ x
  unfolding stand_of
  none_is e = rw e at q

  pub built_is : (b : Built) → r ≡ Some b → stands (drop b.word list) b.at out ≡ x
  unfolding stand_of
  built_is b e = rw e at q

-- ---- bytes that fit or not

module _ (b ws : List ℕ) (at : ℕ) (out : List ℕ) where
  pub put_small : at + length b ≤ 65535 → put_at (made b ws) at out ≡ stands ws (at + length b) (sets out at b)
  unfolding put_at pick
  put_small h = rw (le-leb (at + length b) 65535 h)

  pub put_large : 65535 < at + length b → put_at (made b ws) at out ≡ broken
  unfolding put_at pick
  put_large h = rw (lt-leb (at + length b) 65535 h)

-- what stands was made, and is not too large
pub record Stood (m : Made) (at : ℕ) (out ws : List ℕ) (at' : ℕ) (out' : List ℕ) : Type 0 where
  pub body : List ℕ
  pub is : m ≡ made body ws
  pub next : at' ≡ at + length body
  pub small : at' ≤ 65535
  pub output : out' ≡ sets out at body

pub stood : (m : Made) (at : ℕ) (out ws : List ℕ) (at' : ℕ) (out' : List ℕ) → stands ws at' out' ≡ put_at m at out → Stood m at out ws at' out'
unfolding put_at pick
stood wrong at out ws at' out' e = let z : ◌≡◌ {A = ℕ} 0 1 = cc in absurd (omega arith)
stood (made b us) at out ws at' out' e = go (leb (at + length b) 65535) refl e
  where
    go : (t : Bool) → leb (at + length b) 65535 ≡ t → stands ws at' out' ≡ pick t (stands us (at + length b) (sets out at b)) broken → Stood (made b us) at out ws at' out'
    go true f g =
        let eu : us ≡ ws = cc in
        let ea : at' ≡ at + length b = cc in
        let eo : out' ≡ sets out at b = cc in
        record { body = b; is = ap (made b) eu; next = ea; small = omega (arith, leb-true (at + length b) 65535 f); output = eo }
    go false f g = let z : ◌≡◌ {A = ℕ} 0 1 = cc in absurd (omega arith)

-- what is broken was not made, or is too large
pub broken_is : (P : Made → Type 0) (m : Made) (at : ℕ) (out : List ℕ) → broken ≡ put_at m at out → P wrong
    → ((b ws : List ℕ) → 65535 < at + length b → P (made b ws)) → P m
unfolding put_at pick
broken_is P wrong at out e w l = w
broken_is P (made b ws) at out e w l = go (leb (at + length b) 65535) refl e
  where
    go : (t : Bool) → leb (at + length b) 65535 ≡ t → broken ≡ pick t (stands ws (at + length b) (sets out at b)) broken → P (made b ws)
    go true f g = let z : ◌≡◌ {A = ℕ} 0 1 = cc in absurd (omega arith)
    go false f g = l b ws (leb-false (at + length b) 65535 f)

-- ---- bytes before others

pub put_before_lem : (b : List ℕ) (m : Made) (at : ℕ) (out : List ℕ) → put_at (made_before b m) at out ≡ put_at m (at + length b) (sets out at b)
unfolding made_before put_at
put_before_lem b wrong at out = refl
put_before_lem b (made c ws) at out = rw (length-append, ← add_assoc, ← sets_append)

past : (m : Made) (at : ℕ) (out : List ℕ) → 65535 < at → broken ≡ put_at m at out
unfolding put_at
past wrong at out h = refl
past (made b ws) at out h = sym (put_large b ws at out (omega arith))

pub before_past : (b : List ℕ) (m : Made) (at : ℕ) (out : List ℕ) → 65535 < at + length b → broken ≡ put_at (made_before b m) at out
before_past b m at out h = past m (at + length b) (sets out at b) h ∙ sym (put_before_lem b m at out)

-- ---- one part after the other

module _ (at : ℕ) (out : List ℕ) (m : Made) (f : List ℕ → Made) where
  pub stop : broken ≡ put_at m at out → broken ≡ put_at (then_made m f) at out
  unfolding then_made put_at
  stop e = broken_is (λ n. broken ≡ put_at (then_made n f) at out) m at out e refl (λ b ws h. before_past b (f ws) at out h)

  pub go : (ws : List ℕ) (at' : ℕ) (out' : List ℕ) → stands ws at' out' ≡ put_at m at out → put_at (then_made m f) at out ≡ put_at (f ws) at' out'
  unfolding then_made
  go ws at' out' e =
      let s = stood m at out ws at' out' e in
      ap (λ (n : Made). put_at (then_made n f) at out) s.is
      ∙ put_before_lem s.body (f ws) at out
      ∙ ap (λ (k : ℕ). put_at (f ws) k (sets out at s.body)) (sym s.next)
      ∙ ap (put_at (f ws) at') (sym s.output)

-- ---- an element, whose head is put before it at last

module _ (v : Node) (i size : ℕ) (sized : (n : ℕ) → length (head_bytes v i n) ≡ size) (at : ℕ) (out : List ℕ) (m : Made) where
  pub headed_stop : broken ≡ put_at m (at + size) out → broken ≡ put_at (headed v i m) at out
  unfolding headed put_at
  headed_stop e =
      broken_is (λ n. broken ≡ put_at (headed v i n) at out) m (at + size) out e refl
      (λ b ws h. sym (put_large (head_bytes v i (length b) ++ b) ws at out (omega (arith, length-append (head_bytes v i (length b)) b, sized (length b)))))

  pub headed_go : (ws : List ℕ) (at' : ℕ) (out₁ : List ℕ) → stands ws at' out₁ ≡ put_at m (at + size) out
      → (out₂ : List ℕ) → out₂ ≡ sets out₁ at (head_bytes v i (at' - (at + size))) → stands ws at' out₂ ≡ put_at (headed v i m) at out
  unfolding headed
  headed_go ws at' out₁ e out₂ g =
      let s = stood m (at + size) out ws at' out₁ e in
      let n : at' - (at + size) ≡ length s.body = omega (arith, s.next) in
      let l : at + length (head_bytes v i (length s.body) ++ s.body) ≡ at' =
      omega (arith, s.next, length-append (head_bytes v i (length s.body)) s.body, sized (length s.body)) in
      let o : out₂ ≡ sets out at (head_bytes v i (length s.body) ++ s.body) =
      g ∙ ap (λ (k : ℕ). sets out₁ at (head_bytes v i k)) n
      ∙ ap (λ (x : List ℕ). sets x at (head_bytes v i (length s.body)))
      (s.output ∙ ap (λ (k : ℕ). sets out (at + k) s.body) (sym (sized (length s.body))))
      ∙ sets_before out at (head_bytes v i (length s.body)) s.body in
      rw s.is
      (sym (put_small (head_bytes v i (length s.body) ++ s.body) ws at out (omega (arith, s.small, l)) ∙ rw (l, ← o)))
