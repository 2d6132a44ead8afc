-- A writing that judges no content puts out the same bytes as one that judged and found no fault.
use mathlib.Core.Path.{◌≡◌, refl}
use mathlib.Core.Bool.{Bool, true, false}
use mathlib.Core.List.{List, [], ◌∷◌}
use Prim.Native.Nat.{ℕ, zero, suc, ◌+◌}
use lib.Dec.{leb, eqb}
use lib.ListN.{length, take, drop}
use Rattle.message_layout.specs.Judged.{judged, unjudged}
use Rattle.protocol.specs.Numbers.{pick, be}
use Rattle.protocol.specs.Text.{well_formed}
use Rattle.protocol.specs.Messages.{Field, number, text, bytes, Layout, done, one, run, u16, permits, Written, unwritten, wrote, fitting}
use Rattle.protocol.specs.Messages.{field_bytes, next_field, put_before, joined, times_written, fields_written}

-- what the first puts out, the second puts out too
abbrev pub Keeps : Written → Written → Type 0
Keeps unwritten w = Unit {0}
Keeps (wrote b ws) w = w ≡ wrote b ws

keeps_same : (w : Written) → Keeps w w
keeps_same unwritten = tt
keeps_same (wrote b ws) = refl

keeps_after : (b : List ℕ) (w w' : Written) → Keeps w w' → Keeps (put_before b w) (put_before b w')
unfolding put_before
keeps_after b unwritten w' k = tt
keeps_after b (wrote c ws) w' k = rw k

keeps_joined : (w w' : Written) (f f' : List ℕ → List ℕ → Written) → Keeps w w' → ((b ws : List ℕ) → Keeps (f b ws) (f' b ws)) → Keeps (joined w f) (joined w' f')
unfolding joined
keeps_joined unwritten w' f f' k r = tt
keeps_joined (wrote b ws) w' f f' k r = rw k (keeps_after b (f b ws) (f' b ws) (r b ws))

keeps_times : (f f' : List ℕ → Written) → ((ws : List ℕ) → Keeps (f ws) (f' ws)) → (n : ℕ) (ws : List ℕ) → Keeps (times_written n f ws) (times_written n f' ws)
unfolding times_written
keeps_times f f' r zero ws = refl
keeps_times f f' r (suc n) ws = keeps_joined (f ws) (f' ws) (λ b. times_written n f) (λ b. times_written n f') (r ws) (λ b. keeps_times f f' r n)

module _ (src : List ℕ) where
  -- with less asked of the content
  keeps_pair : (a x y : Bool) (c ws : List ℕ) → (x ≡ true → y ≡ true) → Keeps (pick a (pick x (wrote c ws) unwritten) unwritten) (pick a (pick y (wrote c ws) unwritten) unwritten)
  unfolding pick
  keeps_pair false x y c ws h = tt
  keeps_pair true false y c ws h = tt
  keeps_pair true true y c ws h = rw (h refl)

  -- the width alone
  width : (b x : Bool) → pick b x false ≡ true → pick b true false ≡ true
  unfolding pick
  width true x e = refl
  width false x e = e

  keeps_field : (f : Field) (ws : List ℕ) → Keeps (next_field f src ws) (next_field (judged false f) src ws)
  unfolding next_field judged fitting field_bytes permits
  keeps_field (number w vs) [] = tt
  keeps_field (number w vs) (s ∷ []) = tt
  keeps_field (number w vs) (s ∷ n ∷ ws) = keeps_pair (leb (s + n) (length src)) _ _ (take n (drop s src)) ws (width (eqb (length (take n (drop s src))) w) (permits vs (be (take n (drop s src)))))
  keeps_field text [] = tt
  keeps_field text (s ∷ []) = tt
  keeps_field text (s ∷ n ∷ ws) = keeps_pair (leb (s + n) (length src)) (well_formed (take n (drop s src))) true (field_bytes text (take n (drop s src))) ws (λ e. refl)
  keeps_field bytes ws = keeps_same (next_field bytes src ws)

pub keeps_fields : (l : Layout) (src ws : List ℕ) → Keeps (fields_written l src ws) (fields_written (unjudged l) src ws)
unfolding fields_written unjudged
keeps_fields done src ws = refl
keeps_fields (one f rest) src ws = keeps_joined _ _ _ _ (keeps_field src f ws) (λ b. keeps_fields rest src)
keeps_fields (run items rest) src ws =
    keeps_joined _ _ _ _
    (keeps_joined _ _ (λ b. times_written (be b) (fields_written items src)) (λ b. times_written (be b) (fields_written (unjudged items) src))
    (keeps_same (next_field u16 src ws))
    (λ b. keeps_times (fields_written items src) (fields_written (unjudged items) src) (keeps_fields items src) (be b)))
    (λ b. keeps_fields rest src)

pub unjudged_writes : (l : Layout) (src ws b us : List ℕ) → fields_written l src ws ≡ wrote b us → fields_written (unjudged l) src ws ≡ wrote b us
unjudged_writes l src ws b us e = rw e at (keeps_fields l src ws)
