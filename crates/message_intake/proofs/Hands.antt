-- What the bytes at hand come to, by the tests in the order of R10.3.
use mathlib.Core.Path.{◌≡◌, refl, ap, sym, ◌∙◌}
use mathlib.Core.List.{List, [], ◌∷◌, ◌++◌}
use mathlib.Core.Bool.{Bool, true, false}
use mathlib.Core.Logic.{◌⊎◌, inl, inr}
use Prim.Native.Nat.{ℕ, ◌+◌, ◌-◌, ◌*◌, ◌<◌, ◌≤◌}
use native.Mathlib.Omega.{arith}
use lib.Dec.{ltb}
use lib.ListN.{length, take, drop, get_or}
use lib.Seq.{get_or-append-add}
use borrow.Author.Tests.{ltb-true, ltb-false, lt-ltb, le-ltb}
use Rattle.wire.proofs.Picks.{pick_case}
use Rattle.wire.proofs.Numbers.{be_four}
use Rattle.protocol.specs.Numbers.{pick, be}
use Rattle.protocol.specs.Messages.{MessageHead, bad_length, body_short, body_whole, message_head}
use Rattle.protocol.specs.Intake.{roomed_head, at_hand}
use Rattle.forms.specs.declared.AtHand.{AtHand}
use Rattle.forms.specs.declared.AtHand.TheVariants.{Lacking, Whole}
use Rattle.std.specs.Prelude.{Result, Ok, Err}

-- ---- the bytes at hand, held ones and then the source's

-- a byte of the source
pub byte_after : (h s : List ℕ) (k : ℕ) → length h ≤ k → get_or s (k - length h) 0 ≡ get_or (h ++ s) k 0
byte_after h s k g =
    let e : length h + (k - length h) ≡ k = omega arith in
    sym (get_or-append-add h s (k - length h) 0) ∙ ap (λ (j : ℕ). get_or (h ++ s) j 0) e

-- the length field, by its bytes
pub field_is : (s : List ℕ) (a b c d : ℕ) → 5 ≤ length s → a ≡ get_or s 1 0 → b ≡ get_or s 2 0 → c ≡ get_or s 3 0 → d ≡ get_or s 4 0
    → ((a * 256 + b) * 256 + c) * 256 + d ≡ be (take 4 (drop 1 s))
field_is s a b c d h p q r t = rw (p, q, r, t) (sym (be_four s 1 h))

-- ---- what they come to

-- no bytes (row 1)
pub hand_none : (room : ℕ) (s : List ℕ) → length s ≡ 0 → at_hand room s ≡ Ok (Lacking 5)
unfolding at_hand
hand_none room [] h = refl
hand_none room (b ∷ s) h = absurd (omega arith)

-- a room that holds no head (row 2)
pub hand_no_head : (room : ℕ) (s : List ℕ) → 0 < length s → room < 5 → at_hand room s ≡ Err 32
unfolding at_hand pick
hand_no_head room [] h g = absurd (omega arith)
hand_no_head room (b ∷ s) h g = rw (lt-ltb room 5 g)

-- else the head decides
hand_some : (room : ℕ) (s : List ℕ) → 0 < length s → 5 ≤ room → at_hand room s ≡ roomed_head room (message_head s)
unfolding at_hand pick
hand_some room [] h g = absurd (omega arith)
hand_some room (b ∷ s) h g = rw (le-ltb room 5 g)

-- a message that is larger than the room, whole or not
unfit : (room n k : ℕ) (b : Bool) → room < n → roomed_head room (pick b (body_short n k) (body_whole n)) ≡ Err 32
unfolding roomed_head pick
unfit room n k true r = rw (lt-ltb room n r)
unfit room n k false r = rw (lt-ltb room n r)

module _ (room : ℕ) (s : List ℕ) (g : 5 ≤ room) where
  -- row 3
  pub hand_short : 0 < length s → length s < 5 → at_hand room s ≡ Ok (Lacking (5 - length s))
  unfolding roomed_head message_head pick
  hand_short h k = hand_some room s h g ∙ rw (lt-ltb (length s) 5 k)

  module _ (h : 5 ≤ length s) (n : ℕ) (e : n ≡ be (take 4 (drop 1 s))) where
    some : 0 < length s
    some = omega arith

    -- row 4
    pub hand_length : (n < 4) ⊎ ((4 ≤ n) × (65535 < n)) → at_hand room s ≡ Err 2
    unfolding roomed_head message_head pick
    hand_length (inl k) = hand_some room s some g ∙ rw (← e, le-ltb (length s) 5 h, lt-ltb n 4 k)
    hand_length (inr (j, k)) = hand_some room s some g ∙ rw (← e, le-ltb (length s) 5 h, le-ltb n 4 j, lt-ltb 65535 n k)

    module _ (j : 4 ≤ n) (k : n ≤ 65535) where
      -- rows 5 and 6
      pub hand_unfit : room < n + 1 → at_hand room s ≡ Err 32
      unfolding message_head pick
      hand_unfit r =
          hand_some room s some g
          ∙ rw (← e, le-ltb (length s) 5 h, le-ltb n 4 j, le-ltb 65535 n k) (unfit room (n + 1) (n + 1 - length s) (ltb (length s) (n + 1)) r)

      pub hand_lacking : n + 1 ≤ room → length s < n + 1 → at_hand room s ≡ Ok (Lacking (n + 1 - length s))
      unfolding roomed_head message_head pick
      hand_lacking r q = hand_some room s some g ∙ rw (← e, le-ltb (length s) 5 h, le-ltb n 4 j, le-ltb 65535 n k, lt-ltb (length s) (n + 1) q, le-ltb room (n + 1) r)

      pub hand_whole : n + 1 ≤ room → n + 1 ≤ length s → at_hand room s ≡ Ok (Whole (n + 1))
      unfolding roomed_head message_head pick
      hand_whole r q = hand_some room s some g ∙ rw (← e, le-ltb (length s) 5 h, le-ltb n 4 j, le-ltb 65535 n k, le-ltb (length s) (n + 1) q, le-ltb room (n + 1) r)

-- ---- what an outcome says of the bytes at hand and of the room

-- so many bytes are missing, to the head while fewer than five are there, and then to the message
pub record Missing (room : ℕ) (s : List ℕ) (k : ℕ) : Type 0 where
  pub more : 0 < k
  pub fits : length s ≤ room
  pub few : length s + k ≤ 65536
  pub head : length s < 5 → length s + k ≡ 5
  pub message : 5 ≤ length s → length s + k ≡ be (take 4 (drop 1 s)) + 1

-- a message of n bytes is there, for which there is room
pub record Ready (room : ℕ) (s : List ℕ) (n : ℕ) : Type 0 where
  pub size : n ≡ be (take 4 (drop 1 s)) + 1
  pub low : 5 ≤ n
  pub high : n ≤ 65536
  pub fits : n ≤ room
  pub inside : n ≤ length s

-- a whole message of n bytes
abbrev pub whole_of : ℕ → Result AtHand ℕ
whole_of n = Ok (Whole n)

abbrev pub Told : ℕ → List ℕ → Result AtHand ℕ → Type 0
Told room s (Ok (Lacking k)) = Missing room s k
Told room s (Err n) = (n ≡ 2) ⊎ (n ≡ 32)
Told room s (Ok (Whole n)) = Ready room s n

module _ (room : ℕ) (s : List ℕ) where
  told_short : 5 ≤ room → length s < 5 → Missing room s (5 - length s)
  told_short g h =
      record {
        more = omega arith;
        fits = omega arith;
        few = omega arith;
        head = λ _. omega arith;
        message = λ k. absurd (omega arith);
      }

  module _ (h : 5 ≤ length s) (n : ℕ) (e : n ≡ be (take 4 (drop 1 s)) + 1) (low : 5 ≤ n) (high : n ≤ 65536) (fits : n ≤ room) where
    told_lacking : length s < n → Missing room s (n - length s)
    told_lacking k =
        record {
          more = omega arith;
          fits = omega arith;
          few = omega arith;
          head = λ j. absurd (omega arith);
          message = λ _. omega arith;
        }

    told_whole : n ≤ length s → Ready room s n
    told_whole k = record { size = e; low = low; high = high; fits = fits; inside = k }

  told_sized : 5 ≤ length s → (n : ℕ) → n ≡ be (take 4 (drop 1 s)) + 1 → 5 ≤ n → n ≤ 65536
      → Told room s (roomed_head room (pick (ltb (length s) n) (body_short n (n - length s)) (body_whole n)))
  unfolding roomed_head
  told_sized h n e low high =
      pick_case (λ (x : MessageHead). Told room s (roomed_head room x)) (ltb (length s) n) (body_short n (n - length s)) (body_whole n)
      (λ t. pick_case (Told room s) (ltb room n) (Err 32) (Ok (Lacking (n - length s))) (λ _. inr refl)
      (λ q. told_lacking h n e low high (ltb-false room n q) (ltb-true (length s) n t)))
      (λ t. pick_case (Told room s) (ltb room n) (Err 32) (Ok (Whole n)) (λ _. inr refl)
      (λ q. told_whole h n e low high (ltb-false room n q) (ltb-false (length s) n t)))

  told_head : 5 ≤ room → Told room s (roomed_head room (message_head s))
  unfolding roomed_head message_head
  told_head g =
      let n = be (take 4 (drop 1 s)) in
      let P : MessageHead → Type 0 = λ x. Told room s (roomed_head room x) in
      pick_case P (ltb (length s) 5) _ _ (λ t. told_short g (ltb-true (length s) 5 t))
      (λ t. pick_case P (ltb n 4) bad_length _ (λ _. inl refl)
      (λ a. pick_case P (ltb 65535 n) bad_length _ (λ _. inl refl)
      (λ b. told_sized (ltb-false (length s) 5 t) (n + 1) refl (omega (arith, ltb-false n 4 a)) (omega (arith, ltb-false 65535 n b)))))

pub told : (room : ℕ) (s : List ℕ) → Told room s (at_hand room s)
unfolding at_hand
told room [] =
    record { more = omega arith; fits = omega arith; few = omega arith; head = λ _. refl; message = λ k. absurd (omega arith) }
told room (b ∷ s) =
    pick_case (Told room (b ∷ s)) (ltb room 5) (Err 32) _ (λ _. inr refl) (λ t. told_head room (b ∷ s) (ltb-false room 5 t))
