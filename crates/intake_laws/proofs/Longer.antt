-- What the bytes at hand come to stays so when more bytes come, unless some were lacking.
use mathlib.Core.Path.{◌≡◌, refl, ap, sym, ◌∙◌}
use mathlib.Core.List.{List, ◌++◌}
use mathlib.Core.Logic.{inl, inr}
use Prim.Native.Nat.{ℕ, ◌+◌, ◌-◌, ◌<◌, ◌≤◌}
use native.Mathlib.Omega.{arith}
use native.Mathlib.Decide.{dec_lt}
use lib.ListN.{length, take, drop, length-append, length-drop}
use lib.Seq.{take-append-le, drop-append-le}
use Rattle.message_intake.proofs.Hands.{Ready, told, whole_of, hand_none, hand_no_head, hand_short, hand_length, hand_unfit, hand_lacking, hand_whole}
use Rattle.protocol.specs.Numbers.{be}
use Rattle.protocol.specs.Intake.{at_hand}
use Rattle.forms.specs.declared.AtHand.TheVariants.{Lacking, Whole}
use Rattle.std.specs.Prelude.{Ok}

module _ (room : ℕ) (b d : List ℕ) where
  grown : length b ≤ length (b ++ d)
  grown = simp length-append (omega arith)

  -- a head that is there has the same length field
  same_field : 5 ≤ length b → be (take 4 (drop 1 b)) ≡ be (take 4 (drop 1 (b ++ d)))
  same_field h =
      let one : 1 ≤ length b = omega arith in
      let four : 4 ≤ length (drop 1 b) = simp length-drop (omega arith) in
      rw (drop-append-le 1 b d one, take-append-le 4 (drop 1 b) d four)

  module _ (g : 5 ≤ room) (h : 5 ≤ length b) where
    long : 5 ≤ length (b ++ d)
    long = omega (arith, grown)

    settled_size : 4 ≤ be (take 4 (drop 1 b)) → be (take 4 (drop 1 b)) ≤ 65535 → ((k : ℕ) → at_hand room b ≡ Ok (Lacking k) → ⊥) → at_hand room (b ++ d) ≡ at_hand room b
    settled_size j k sure =
        let m = be (take 4 (drop 1 b)) in
        let f = same_field h in
        elim (dec_lt room (m + 1)) [
          | yes r ↦ hand_unfit room (b ++ d) g long m f j k r ∙ sym (hand_unfit room b g h m refl j k r)
          | no r ↦
              let r' : m + 1 ≤ room = omega arith in
              elim (dec_lt (length b) (m + 1)) [
                | yes q ↦ absurd (sure (m + 1 - length b) (hand_lacking room b g h m refl j k r' q))
                | no q ↦
                    let q' : m + 1 ≤ length b = omega arith in
                    let q'' : m + 1 ≤ length (b ++ d) = omega (arith, grown) in
                    hand_whole room (b ++ d) g long m f j k r' q'' ∙ sym (hand_whole room b g h m refl j k r' q')
              ]
        ]

    settled_head : ((k : ℕ) → at_hand room b ≡ Ok (Lacking k) → ⊥) → at_hand room (b ++ d) ≡ at_hand room b
    settled_head sure =
        let m = be (take 4 (drop 1 b)) in
        let f = same_field h in
        elim (dec_lt m 4) [
          | yes j ↦ hand_length room (b ++ d) g long m f (inl j) ∙ sym (hand_length room b g h m refl (inl j))
          | no j ↦
              let j' : 4 ≤ m = omega arith in
              elim (dec_lt 65535 m) [
                | yes k ↦ hand_length room (b ++ d) g long m f (inr (j', k)) ∙ sym (hand_length room b g h m refl (inr (j', k)))
                | no k ↦ let k' : m ≤ 65535 = omega arith in settled_size j' k' sure
              ]
        ]

  settled_some : 0 < length b → ((k : ℕ) → at_hand room b ≡ Ok (Lacking k) → ⊥) → at_hand room (b ++ d) ≡ at_hand room b
  settled_some s sure =
      let s' : 0 < length (b ++ d) = omega (arith, grown) in
      elim (dec_lt room 5) [
        | yes g ↦ hand_no_head room (b ++ d) s' g ∙ sym (hand_no_head room b s g)
        | no g ↦
            let g' : 5 ≤ room = omega arith in
            elim (dec_lt (length b) 5) [
              | yes h ↦ absurd (sure (5 - length b) (hand_short room b g' s h))
              | no h ↦ let h' : 5 ≤ length b = omega arith in settled_head g' h' sure
            ]
      ]

  -- what lacks nothing is settled
  pub settled : ((k : ℕ) → at_hand room b ≡ Ok (Lacking k) → ⊥) → at_hand room (b ++ d) ≡ at_hand room b
  settled sure =
      elim (dec_lt 0 (length b)) [
        | yes s ↦ settled_some s sure
        | no s ↦ let z : length b ≡ 0 = omega arith in absurd (sure 5 (hand_none room b z))
      ]

  -- a message that is whole with more bytes was whole before, if it ends in the bytes before
  pub whole_before : (n : ℕ) → at_hand room (b ++ d) ≡ Ok (Whole n) → n ≤ length b → at_hand room b ≡ Ok (Whole n)
  whole_before n e q =
      let r : Ready room (b ++ d) n = rw e at (told room (b ++ d)) in
      let h : 5 ≤ length b = omega (arith, r.low) in
      let z : be (take 4 (drop 1 b)) + 1 ≡ n = ap (λ (x : ℕ). x + 1) (same_field h) ∙ sym r.size in
      hand_whole room b (omega (arith, r.low, r.fits)) h (be (take 4 (drop 1 b))) refl (omega (arith, r.low)) (omega (arith, r.high)) (omega (arith, r.fits)) (omega arith)
      ∙ ap whole_of z
