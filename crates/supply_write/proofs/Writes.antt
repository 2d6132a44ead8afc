-- How a writing ends: the laws of the top value, of the last tests and of the whole output.
use mathlib.Core.Path.{◌≡◌, refl, ap, sym, ◌∙◌}
use mathlib.Core.Bool.{true, false}
use mathlib.Core.List.{List, [], ◌∷◌, ◌++◌}
use Prim.Native.Nat.{ℕ, ◌+◌, ◌^◌, ◌<◌, ◌≤◌}
use native.Mathlib.Omega.{arith}
use native.Mathlib.Nat.{zero-add}
use lib.ListN.{length, take, drop, get_or}
use lib.Seq.{sets, sets-eq, length-sets, take_at}
use borrow.Author.Tests.{lt-ltb, le-ltb}
use Rattle.plan_nodes.proofs.Nodes.{at_root}
use Rattle.plan_nodes.proofs.Roots.{root_none, root_some}
use Rattle.supply_write.specs.Answers.{answer_of, Puts}
use Rattle.supply_entries.specs.Emitting.{broken, stands, put_at, stand_of}
use Rattle.std.specs.Prelude.{Option, Some, None, Ok, Err}
use Rattle.supply_entries.specs.declared.Built.{Built}
use Rattle.supply_entries.proofs.Stands.{put_small, Stood, stood, broken_is}
use Rattle.protocol.specs.Numbers.{pick}
use Rattle.protocol.specs.Plans.{look, without_type, plan_formed}
use Rattle.plan_nodes.specs.Readers.{At}
use Rattle.protocol.specs.Building.{made, build_of, made_by, supplied_by, write_of}
use Rattle.protocol.specs.Answers.{refused_put, put_out, output_roomed, output_after}

-- ---- the plan's root

module _ (src p ws : List ℕ) (f : plan_formed p ≡ true) (out : List ℕ) (r : ℕ) (er : r ≡ get_or p 1 0) where
  -- no type: nothing is put out, and no word is taken
  pub whole_none : ((j : ℕ) → get_or p j 0 < 2 ^ 32) → r ≡ 0 → stands ws 0 out ≡ put_at (made_by p ws src) 0 out
  unfolding made_by pick
  whole_none w z = rw (root_none p f (sym er ∙ z) w) (sym (put_small [] ws 0 out (omega arith)))

  module _ (nz : r ≡ 0 → ⊥) where
    some_type : without_type p ≡ false
    some_type = root_some p f (λ e. nz (er ∙ e))

    pub whole_root : ((j : ℕ) → get_or p j 0 < 2 ^ 32) → At p r
    whole_root w = rw er (at_root p f some_type w)

    pub whole_some : put_at (build_of src (look p) r 0 ws) 0 out ≡ put_at (made_by p ws src) 0 out
    unfolding made_by pick
    whole_some = rw (some_type, er)

-- ---- the tests, in their order

-- all words are taken, or some are left; the value may be too large
fits : (b ws : List ℕ) → length ws ≡ 0 → length b ≤ 65535 → supplied_by (made b ws) ≡ put_out b
unfolding supplied_by pick
fits b [] e h = rw (le-ltb 65535 (length b) h)
fits b (w ∷ ws) e h = absurd (omega arith)

left_over : (b ws : List ℕ) → 0 < length ws → supplied_by (made b ws) ≡ refused_put 34
unfolding supplied_by
left_over b [] h = absurd (omega arith)
left_over b (w ∷ ws) h = refl

too_large : (b ws : List ℕ) → 65535 < length b → supplied_by (made b ws) ≡ refused_put 34
unfolding supplied_by pick
too_large b [] h = rw (lt-ltb 65535 (length b) h)
too_large b (w ∷ ws) h = refl

-- the output of a building that is known to be whole
output_is : (r : Option Built) (list : List ℕ) (b ws out : List ℕ) (n : ℕ) (out' : List ℕ) → stand_of r list out' ≡ stands ws n (sets out 0 b) → out' ≡ sets out 0 b
unfolding stand_of
output_is None list b ws out n out' e = cc
output_is (Some built) list b ws out n out' e = cc

module _ (p ws src out : List ℕ) where
  -- a refusal of a number
  refused_with : (n : ℕ) → write_of p ws src (length out) ≡ refused_put n → Puts (write_of p ws src (length out)) (Err n) out out
  unfolding answer_of output_after
  refused_with n e = rw e (record { answer = refl; output = refl })

  pub puts_unformed : plan_formed p ≡ false → Puts (write_of p ws src (length out)) (Err 33) out out
  unfolding write_of pick
  puts_unformed e = refused_with 33 (rw e)

  module _ (f : plan_formed p ≡ true) where
    formed_is : write_of p ws src (length out) ≡ output_roomed (length out) (supplied_by (made_by p ws src))
    unfolding write_of pick
    formed_is = rw f

    unsupplied : supplied_by (made_by p ws src) ≡ refused_put 34 → Puts (write_of p ws src (length out)) (Err 34) out out
    unfolding output_roomed
    unsupplied e = refused_with 34 (formed_is ∙ rw e)

    pub puts_broken : (none : List ℕ) → broken ≡ put_at (made_by p ws src) 0 none → Puts (write_of p ws src (length out)) (Err 34) out out
    unfolding supplied_by
    puts_broken none q =
        unsupplied (broken_is (λ m. supplied_by m ≡ refused_put 34) (made_by p ws src) 0 none q refl (λ b us h. too_large b us (omega arith)))

    module _ (none us : List ℕ) (at : ℕ) (none' : List ℕ) (q : stands us at none' ≡ put_at (made_by p ws src) 0 none) where
      s : Stood (made_by p ws src) 0 none us at none'
      s = stood (made_by p ws src) 0 none us at none' q

      pub whole_small : at ≤ 65535
      whole_small = s.small

      pub puts_left : 0 < length us → Puts (write_of p ws src (length out)) (Err 34) out out
      puts_left h = unsupplied (rw s.is (left_over s.body us h))

      module _ (z : length us ≡ 0) where
        size : length s.body ≡ at
        size = omega (arith, s.next)

        supplied_is : supplied_by (made_by p ws src) ≡ put_out s.body
        supplied_is = ap supplied_by s.is ∙ fits s.body us z (omega (arith, s.next, s.small))

        pub puts_full : length out < at → Puts (write_of p ws src (length out)) (Err 32) out out
        unfolding output_roomed pick
        puts_full h =
            let l : length out < length s.body = omega (arith, size) in
            refused_with 32 (formed_is ∙ rw (supplied_is, lt-ltb (length out) (length s.body) l))

        module _ (h : at ≤ length out) (out' : List ℕ) where
          puts_sets : out' ≡ sets out 0 s.body → Puts (write_of p ws src (length out)) (Ok at) out out'
          unfolding output_roomed pick answer_of output_after
          puts_sets o =
              let l : length s.body ≤ length out = omega (arith, size) in
              rw (formed_is, supplied_is, le-ltb (length out) (length s.body) l)
              (record {
                answer = ap Ok (sym size);
                output = o ∙ sets-eq s.body out 0 (omega arith) ∙ ap (λ (n : ℕ). s.body ++ drop n out) (zero-add (length s.body));
              })

          -- put out by a second pass
          pub puts_whole : (r : Option Built) → stand_of r ws out' ≡ put_at (made_by p ws src) 0 out → Puts (write_of p ws src (length out)) (Ok at) out out'
          puts_whole r e =
              puts_sets (output_is r ws s.body us out (0 + length s.body) out' (e ∙ rw s.is (put_small s.body us 0 out (omega (arith, size, s.small)))))

          -- copied from where the first pass put it
          copied : at ≤ length none' → take at none' ≡ s.body
          copied l =
              let n : length s.body ≤ length none = omega (arith, size, ap length s.output, length-sets none 0 s.body) in
              ap (take at) (s.output ∙ sets-eq s.body none 0 (omega arith)) ∙ take_at s.body (drop (0 + length s.body) none) at size

          pub puts_copied : at ≤ length none' → out' ≡ sets out 0 (take at none') → Puts (write_of p ws src (length out)) (Ok at) out out'
          puts_copied l o = puts_sets (o ∙ ap (sets out 0) (copied l))
