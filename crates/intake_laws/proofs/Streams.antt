-- Reading the bytes of a side message after message: the steps are enough, and more bytes at the end go on where the reading ended.
use mathlib.Core.Path.{◌≡◌, refl, ap, sym, ◌∙◌}
use mathlib.Core.List.{List, [], ◌∷◌, ◌++◌}
use Prim.Native.Nat.{ℕ, zero, suc, ◌≤◌}
use native.Mathlib.Omega.{arith}
use lib.ListN.{length, take, drop, length-drop}
use lib.Seq.{take-append-le, drop-append-le}
use Rattle.message_intake.proofs.Hands.{Told, told}
use Rattle.intake_laws.proofs.Longer.{settled}
use Rattle.protocol.specs.Messages.{MessageRead, unread, read, message_of}
use Rattle.protocol.specs.Intake.{at_hand, StreamEnd, unfinished, broken_off, Stream, no_message, with_message, stream_by, stream_in, stream_of}
use Rattle.forms.specs.declared.AtHand.{AtHand}
use Rattle.forms.specs.declared.AtHand.TheVariants.{Lacking, Whole}
use Rattle.std.specs.Prelude.{Result, Ok, Err}

-- messages before a reading
abbrev pub after : List (List ℕ) → Stream → Stream
after ms x = record { messages = ms ++ x.messages; end = x.end }

-- a reading, and then more bytes: it goes on from the bytes that were not finished
unfoldable pub onward : (List ℕ → Stream) → List ℕ → List (List ℕ) → StreamEnd → Stream
onward next d ms (unfinished h) = after ms (next (h ++ d))
onward next d ms (broken_off n p) = record { messages = ms; end = broken_off n p }

onward_more : (next : List ℕ → Stream) (d m : List ℕ) (ms : List (List ℕ)) (e : StreamEnd) → after (m ∷ []) (onward next d ms e) ≡ onward next d (m ∷ ms) e
unfolding onward
onward_more next d m ms (unfinished h) = refl
onward_more next d m ms (broken_off n p) = refl

module _ (side room : ℕ) where
  -- ---- as many steps as there are bytes, or more, come to the same

  fuel_by : (s : List ℕ) (f g : List ℕ → Stream) → ((n : ℕ) → 5 ≤ n → n ≤ length s → f (drop n s) ≡ g (drop n s)) → (a : Result AtHand ℕ) → Told room s a
      → stream_by side s f a ≡ stream_by side s g a
  unfolding stream_by
  fuel_by s f g h (Ok (Lacking k)) t = refl
  fuel_by s f g h (Err n) t = refl
  fuel_by s f g h (Ok (Whole n)) t = ap (with_message (take n s) (message_of side (take n s))) (h n t.low t.inside)

  fuel_none : (f : ℕ) (s : List ℕ) → length s ≤ 0 → stream_in side room f s ≡ no_message (unfinished s)
  unfolding stream_in stream_by at_hand
  fuel_none zero s h = refl
  fuel_none (suc f) [] h = refl
  fuel_none (suc f) (b ∷ s) h = absurd (omega arith)

  pub fuel : (f g : ℕ) (s : List ℕ) → length s ≤ f → length s ≤ g → stream_in side room f s ≡ stream_in side room g s
  unfolding stream_in
  fuel zero g s h k = sym (fuel_none g s h)
  fuel (suc f) zero s h k = fuel_none (suc f) s k
  fuel (suc f) (suc g) s h k =
      fuel_by s (stream_in side room f) (stream_in side room g)
      (λ n l i. fuel f g (drop n s) (simp length-drop (omega arith)) (simp length-drop (omega arith)))
      (at_hand room s)
      (told room s)

  -- ---- a step

  step_some : (b : ℕ) (s : List ℕ) → stream_of side room (b ∷ s) ≡ stream_by side (b ∷ s) (stream_of side room) (at_hand room (b ∷ s))
  unfolding stream_of stream_in
  step_some b s =
      fuel_by (b ∷ s) (stream_in side room (length s)) (stream_of side room)
      (λ n l i. fuel (length s) (length (drop n (b ∷ s))) (drop n (b ∷ s)) (simp length-drop (omega arith)) (omega arith))
      (at_hand room (b ∷ s))
      (told room (b ∷ s))

  pub step : (s : List ℕ) → stream_of side room s ≡ stream_by side s (stream_of side room) (at_hand room s)
  unfolding stream_of stream_in stream_by at_hand
  step [] = refl
  step (b ∷ s) = step_some b s

  -- ---- more bytes

  more_read : (m d : List ℕ) (o : MessageRead) (x : Stream)
      → with_message m o (onward (stream_of side room) d x.messages x.end) ≡ onward (stream_of side room) d (with_message m o x).messages (with_message m o x).end
  unfolding with_message onward
  more_read m d (unread n p) x = refl
  more_read m d (read u ws) x = onward_more (stream_of side room) d m x.messages x.end

  module _ (b d : List ℕ) where
    more_by : (a : Result AtHand ℕ) → at_hand room b ≡ a → Told room b a
        → ((n : ℕ) → 5 ≤ n → n ≤ length b
        → stream_of side room (drop n b ++ d) ≡ onward (stream_of side room) d (stream_of side room (drop n b)).messages (stream_of side room (drop n b)).end)
        → stream_of side room (b ++ d)
        ≡ onward (stream_of side room) d (stream_by side b (stream_of side room) a).messages (stream_by side b (stream_of side room) a).end
    unfolding stream_by onward
    more_by (Ok (Lacking k)) e t h = refl
    more_by (Err n) e t h =
        let f : at_hand room (b ++ d) ≡ Err n = settled room b d (λ k q. let z : ◌≡◌ {A = ℕ} 0 1 = cc in omega arith) ∙ e in
        step (b ++ d) ∙ rw f
    more_by (Ok (Whole n)) e t h =
        let f : at_hand room (b ++ d) ≡ Ok (Whole n) = settled room b d (λ k q. let z : ◌≡◌ {A = ℕ} 0 1 = cc in omega arith) ∙ e in
        let i : n ≤ length b = t.inside in
        step (b ++ d)
        ∙ rw (f, take-append-le n b d i, drop-append-le n b d i, h n t.low i)
        (more_read (take n b) d (message_of side (take n b)) (stream_of side room (drop n b)))

  more_in : (f : ℕ) (b d : List ℕ) → length b ≤ f
      → stream_of side room (b ++ d) ≡ onward (stream_of side room) d (stream_of side room b).messages (stream_of side room b).end
  more_in zero b d h =
      rw (step b) (more_by b d (at_hand room b) refl (told room b) (λ n l i. absurd (omega arith)))
  more_in (suc f) b d h =
      rw (step b)
      (more_by b d (at_hand room b) refl (told room b) (λ n l i. more_in f (drop n b) d (simp length-drop (omega arith))))

  -- more bytes at the end: what was read stands, and the reading goes on from the bytes that were not finished
  pub more : (b d : List ℕ) → stream_of side room (b ++ d) ≡ onward (stream_of side room) d (stream_of side room b).messages (stream_of side room b).end
  more b d = more_in (length b) b d (omega arith)
