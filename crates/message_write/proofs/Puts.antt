-- How a writing ends: the laws of the last tests and of the whole output.
use mathlib.Core.Path.{◌≡◌, refl, ap, sym, ◌∙◌}
use mathlib.Core.Bool.{false}
use mathlib.Core.List.{List, [], ◌∷◌, ◌++◌, append-nil}
use mathlib.Core.Logic.{⊎_elim}
use Prim.Native.Nat.{ℕ, suc, ◌+◌, ◌-◌, ◌<◌, ◌≤◌}
use native.Mathlib.Omega.{arith}
use native.Mathlib.Nat.{zero-add}
use lib.ListN.{length, take, drop, set, length-append, length-take, drop_of_length-le}
use lib.Seq.{sets, sets-eq, take-set-lt, drop-set-lt}
use borrow.Author.Tests.{lt-ltb, le-ltb}
use Rattle.wire.proofs.Numbers.{length_bytes}
use Rattle.wire.proofs.Stores.{sets_append}
use Rattle.message_layout.specs.Judged.{judged_all}
use Rattle.message_layout.specs.Tables.{layout_at, known_at, start_of}
use Rattle.message_layout.proofs.Starts.{start_known}
use Rattle.message_layout.proofs.Codes.{lt_or_ge}
use Rattle.message_write.specs.Emitting.{cap, broken, stands, put_at, stand_of}
use Rattle.message_write.specs.Answers.{Puts, wrote_of}
use Rattle.message_write.specs.declared.Emitted.{Emitted}
use Rattle.std.specs.declared.option.Option.{Option}
use Rattle.std.specs.Prelude.{Result, Ok, Err, Some, None}
use Rattle.message_write.proofs.Caps.{cap_small, cap_exact}
use Rattle.message_write.proofs.Trusted.{unjudged_writes}
use Rattle.protocol.specs.Numbers.{pick, bytes_be}
use Rattle.protocol.specs.Messages.{Written, unwritten, wrote, fields_written, message_whole, body_written, message_written}
use Rattle.protocol.specs.Answers.{output_after}

-- the length of a whole message, as an answer
abbrev whole : ℕ → Result ℕ ℕ
whole n = Ok n

-- what was written, from where it leads
pub record Led (w : Written) (p : ℕ) (us : List ℕ) (at : ℕ) : Type 0 where
  pub body : List ℕ
  pub is : w ≡ wrote body us
  pub next : at ≡ cap (p + length body)

led : (w : Written) (p : ℕ) (o us : List ℕ) (at : ℕ) (o' : List ℕ) → stands us at o' ≡ put_at w p o → Led w p us at
unfolding put_at
led unwritten p o us at o' e = let z : ◌≡◌ {A = ℕ} 0 1 = cc in absurd (omega arith)
led (wrote b vs) p o us at o' e = let f : vs ≡ us = cc in record { body = b; is = ap (wrote b) f; next = cc }

-- the same, from what a call answers
pub led_is : (r : Option Emitted) (e : Emitted) (list : List ℕ) (w : Written) (p : ℕ) (o o' : List ℕ) → r ≡ Some e → stand_of r list o' ≡ put_at w p o → Led w p (drop e.word list) e.at
unfolding stand_of
led_is r e list w p o o' h q = led w p o (drop e.word list) e.at o' (rw h at q)

pub faulty_is : (r : Option Emitted) (list : List ℕ) (w : Written) (p : ℕ) (o o' : List ℕ) → r ≡ None → stand_of r list o' ≡ put_at w p o → broken ≡ put_at w p o
unfolding stand_of
faulty_is r list w p o o' h q = rw h at q

-- no longer than the largest message: the length is exact
pub exact : (w : Written) (p : ℕ) (us : List ℕ) (at : ℕ) (d : Led w p us at) → at ≤ 65536 → p + length d.body ≡ at
exact w p us at d h = sym (cap_exact (p + length d.body) (omega (arith, d.next))) ∙ sym d.next

unled : (w : Written) (p : ℕ) (o : List ℕ) → broken ≡ put_at w p o → w ≡ unwritten
unfolding put_at
unled unwritten p o e = refl
unled (wrote b vs) p o e = let z : ◌≡◌ {A = ℕ} 0 1 = cc in absurd (omega arith)

-- the output of a writing that is known to be whole
output_is : (r : Option Emitted) (list : List ℕ) (w : Written) (b us : List ℕ) (p : ℕ) (o o' : List ℕ) → w ≡ wrote b us → stand_of r list o' ≡ put_at w p o → o' ≡ sets o p b
unfolding stand_of put_at
output_is None list w b us p o o' e q = let f = rw e at q in let z : ◌≡◌ {A = ℕ} 0 1 = cc in absurd (omega arith)
output_is (Some x) list w b us p o o' e q = let f = rw e at q in cc

none_left : (us : List ℕ) → length us ≡ 0 → us ≡ []
none_left [] e = refl
none_left (u ∷ us) e = absurd (omega arith)

-- ---- the type, the length and the body, stored one after the other

take_sets : (n : ℕ) (l : List ℕ) (i : ℕ) (vs : List ℕ) → i + length vs ≤ n → take n (sets l i vs) ≡ sets (take n l) i vs
take_sets n l i [] h = refl
take_sets n l i (v ∷ vs) h =
    take_sets n (set l i v) (suc i) vs (omega arith)
    ∙ ap (λ (k : List ℕ). sets k (suc i) vs) (take-set-lt n l i v (omega arith))

drop_sets : (n : ℕ) (l : List ℕ) (i : ℕ) (vs : List ℕ) → i + length vs ≤ n → drop n (sets l i vs) ≡ drop n l
drop_sets n l i [] h = refl
drop_sets n l i (v ∷ vs) h = drop_sets n (set l i v) (suc i) vs (omega arith) ∙ drop-set-lt n l i v (omega arith)

-- what is stored in the first part of a list, with the rest after it
laid_out : (t n at : ℕ) (b out : List ℕ) → 5 + length b ≡ at → at ≤ length out
    → sets (take at (sets (set out 0 t) 1 (bytes_be 4 n))) 5 b ++ drop at (sets (set out 0 t) 1 (bytes_be 4 n)) ≡ (t ∷ bytes_be 4 n ++ b) ++ drop (length (t ∷ bytes_be 4 n ++ b)) out
laid_out t n at b out ea h =
    let four : length (t ∷ bytes_be 4 n) ≡ 5 = omega (arith, length_bytes 4 n) in
    let all : length (t ∷ bytes_be 4 n ++ b) ≡ at = omega (arith, length-append (bytes_be 4 n) b, length_bytes 4 n) in
    let size : length (take at out) ≡ at = simp length-take (omega arith) in
    let front : take at (sets out 0 (t ∷ bytes_be 4 n)) ≡ sets (take at out) 0 (t ∷ bytes_be 4 n) = take_sets at out 0 (t ∷ bytes_be 4 n) (omega arith) in
    let back : drop at (sets out 0 (t ∷ bytes_be 4 n)) ≡ drop at out = drop_sets at out 0 (t ∷ bytes_be 4 n) (omega arith) in
    let joined : sets (sets (take at out) 0 (t ∷ bytes_be 4 n)) (0 + length (t ∷ bytes_be 4 n)) b ≡ sets (take at out) 0 (t ∷ bytes_be 4 n ++ b) =
    sets_append (take at out) 0 (t ∷ bytes_be 4 n) b in
    let five : 0 + length (t ∷ bytes_be 4 n) ≡ 5 = omega arith in
    let filled : sets (take at out) 0 (t ∷ bytes_be 4 n ++ b) ≡ (t ∷ bytes_be 4 n ++ b) ++ drop (0 + length (t ∷ bytes_be 4 n ++ b)) (take at out) =
    sets-eq (t ∷ bytes_be 4 n ++ b) (take at out) 0 (omega arith) in
    let spent : drop (0 + length (t ∷ bytes_be 4 n ++ b)) (take at out) ≡ [] =
    rw (zero-add, all) (drop_of_length-le (take at out) {i = at} (omega arith)) in
    ap (λ (l : List ℕ). l ++ drop at (sets out 0 (t ∷ bytes_be 4 n)))
    (ap (λ (l : List ℕ). sets l 5 b) front ∙ ap (λ (k : ℕ). sets (sets (take at out) 0 (t ∷ bytes_be 4 n)) k b) (sym five) ∙ joined ∙ filled
    ∙ ap (λ (l : List ℕ). (t ∷ bytes_be 4 n ++ b) ++ l) spent ∙ append-nil (t ∷ bytes_be 4 n ++ b))
    ∙ ap (λ (l : List ℕ). (t ∷ bytes_be 4 n ++ b) ++ l) (back ∙ ap (λ (k : ℕ). drop k out) (sym all))

-- ---- the tests, in their order

module _ (side t : ℕ) (ws src out : List ℕ) where
  pub puts_unknown : None ≡ start_of side t → Puts (message_written side t ws src (length out)) (Err 3) out out
  unfolding message_written body_written known_at wrote_of output_after
  puts_unknown e = rw (← start_known None side t e) (record { answer = refl; output = refl })

  module _ (r : ℕ) (e : Some r ≡ start_of side t) where
    written_is : message_written side t ws src (length out) ≡ message_whole t (length out) (fields_written (layout_at r) src ws)
    unfolding message_written body_written known_at
    written_is = rw (← start_known (Some r) side t e)

    pub puts_faulty : (o : List ℕ) → broken ≡ put_at (fields_written (layout_at r) src ws) 5 o → Puts (message_written side t ws src (length out)) (Err 6) out out
    unfolding message_whole wrote_of output_after
    puts_faulty o q = rw (written_is, unled (fields_written (layout_at r) src ws) 5 o q) (record { answer = refl; output = refl })

    module _ (us : List ℕ) (at : ℕ) (d : Led (fields_written (layout_at r) src ws) 5 us at) where
      pub puts_left : 0 < length us → Puts (message_written side t ws src (length out)) (Err 6) out out
      unfolding message_whole wrote_of output_after
      puts_left g = rw (written_is, d.is) (go us g)
        where
          go : (vs : List ℕ) → 0 < length vs → Puts (message_whole t (length out) (wrote d.body vs)) (Err 6) out out
          go [] l = absurd (omega arith)
          go (v ∷ vs) l = record { answer = refl; output = refl }

      module _ (none : length us ≡ 0) where
        all_is : message_written side t ws src (length out) ≡ message_whole t (length out) (wrote d.body [])
        all_is = written_is ∙ ap (message_whole t (length out)) (d.is ∙ ap (wrote d.body) (none_left us none))

        pub puts_long : 65536 < at → Puts (message_written side t ws src (length out)) (Err 2) out out
        unfolding message_whole wrote_of output_after pick
        puts_long g =
            let k : 65535 < length d.body + 4 =
            ⊎_elim (λ (l : 65535 < length d.body + 4). l)
            (λ (l : length d.body + 4 ≤ 65535). absurd (omega (arith, d.next, cap_small (5 + length d.body) (omega arith))))
            (lt_or_ge 65535 (length d.body + 4)) in
            rw (all_is, lt-ltb 65535 (length d.body + 4) k) (record { answer = refl; output = refl })

        module _ (fit : at ≤ 65536) where
          size : 5 + length d.body ≡ at
          size = exact _ 5 us at d fit

          short : length d.body + 4 ≤ 65535
          short = omega (arith, size)

          pub puts_full : length out < at → Puts (message_written side t ws src (length out)) (Err 32) out out
          unfolding message_whole wrote_of output_after pick
          puts_full g =
              let k : length out < length d.body + 5 = omega (arith, size) in
              rw (all_is, le-ltb 65535 (length d.body + 4) short, lt-ltb (length out) (length d.body + 5) k) (record { answer = refl; output = refl })

          pub puts_whole : at ≤ length out → (x : Option Emitted) (list out₁ front : List ℕ) → out₁ ≡ sets (set out 0 t) 1 (bytes_be 4 (at - 1))
              → stand_of x list front ≡ put_at (fields_written (judged_all false (layout_at r)) src ws) 5 (take at out₁)
              → Puts (message_written side t ws src (length out)) (Ok at) out (front ++ drop at out₁)
          unfolding message_whole wrote_of output_after pick judged_all
          puts_whole g x list out₁ front e q =
              let k : length d.body + 5 ≤ length out = omega (arith, size) in
              let n : at - 1 ≡ length d.body + 4 = omega (arith, size) in
              let u = unjudged_writes (layout_at r) src ws d.body us d.is in
              let o : front ≡ sets (take at out₁) 5 d.body = output_is x list _ d.body us 5 (take at out₁) front u q in
              let len : at ≡ length (t ∷ bytes_be 4 (length d.body + 4) ++ d.body) =
              omega (arith, size, length-append (bytes_be 4 (length d.body + 4)) d.body, length_bytes 4 (length d.body + 4)) in
              rw (all_is, le-ltb 65535 (length d.body + 4) short, le-ltb (length out) (length d.body + 5) k)
              (record {
                answer = ap whole len;
                output = rw (o, e, n) (laid_out t (length d.body + 4) at d.body out size g);
              })
