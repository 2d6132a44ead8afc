-- How the reading of a side's bytes ends: with bytes of a message that still lacks some, or with a refusal 2 to 6 or 32.
use mathlib.Core.Path.{◌≡◌, refl, ap, sym}
use mathlib.Core.List.{List}
use mathlib.Core.Logic.{◌⊎◌, inl, inr, ⊎_elim}
use Prim.Native.Nat.{ℕ, zero, suc, ◌+◌, ◌≤◌}
use native.Mathlib.Omega.{arith}
use lib.ListN.{length, take, drop, get_or, length-drop}
use lib.Seq.{length-take-le}
use borrow.Author.Tests.{le-ltb}
use Rattle.message_intake.proofs.Hands.{Ready, Told, told}
use Rattle.message_laws.proofs.Covers.{part_take}
use Rattle.message_laws.proofs.Words.{Judged, judged_body}
use Rattle.intake_laws.proofs.Streams.{step}
use Rattle.protocol.specs.Numbers.{pick, be}
use Rattle.protocol.specs.Messages.{layout_of, MessageRead, unread, read, body_whole, message_head, message_by, message_of}
use Rattle.protocol.specs.Intake.{at_hand, StreamEnd, unfinished, broken_off, Stream, with_message, stream_by, stream_of}
use Rattle.forms.specs.declared.AtHand.{AtHand}
use Rattle.forms.specs.declared.AtHand.TheVariants.{Lacking, Whole}
use Rattle.std.specs.Prelude.{Result, Ok, Err}

-- ---- a whole message, judged

-- its head says that it is whole
pub head_whole : (room : ℕ) (s : List ℕ) (n : ℕ) → Ready room s n → message_head (take n s) ≡ body_whole n
unfolding message_head pick
head_whole room s n r =
    let l : length (take n s) ≡ n = length-take-le n s r.inside in
    let f : be (take 4 (drop 1 (take n s))) ≡ be (take 4 (drop 1 s)) = ap be (part_take s n 1 4 (omega (arith, r.low))) in
    let m = be (take 4 (drop 1 s)) in
    let z : m + 1 ≡ n = sym r.size in
    let h : 5 ≤ n = r.low in
    let low : 4 ≤ m = omega arith in
    let high : m ≤ 65535 = omega (arith, r.high) in
    rw (l, f, le-ltb n 5 h, le-ltb m 4 low, le-ltb 65535 m high, z, le-ltb n n (omega arith))

pub whole_judged : (side room : ℕ) (s : List ℕ) (n : ℕ) → Ready room s n → Judged (message_of side (take n s))
unfolding message_of message_by
whole_judged side room s n r = rw (head_whole room s n r) (judged_body (layout_of side (get_or (take n s) 0 0)) (take n (take n s)))

-- ---- how a reading ends

-- a refusal that ends an intake (R10.3)
abbrev pub Refusal : ℕ → Type 0
Refusal n = ((2 ≤ n) × (n ≤ 6)) ⊎ (n ≡ 32)

abbrev pub Ends : ℕ → StreamEnd → Type 0
Ends room (unfinished s) = (k : ℕ) × (at_hand room s ≡ Ok (Lacking k))
Ends room (broken_off n p) = Refusal n

pub unfit_refusal : (n : ℕ) → (n ≡ 2) ⊎ (n ≡ 32) → Refusal n
unfit_refusal n (inl e) = inl (omega arith, omega arith)
unfit_refusal n (inr e) = inr e

pub judged_refusal : (n : ℕ) → (3 ≤ n) × (n ≤ 6) → Refusal n
judged_refusal n h = inl (omega arith, h.1)

pub refusal_some : (n : ℕ) → Refusal n → n ≡ 0 → ⊥
refusal_some n r e = ⊎_elim (λ q. omega arith) (λ q. omega arith) r

module _ (side room : ℕ) where
  ends_read : (m : List ℕ) (o : MessageRead) (x : Stream) → Judged o → Ends room x.end → Ends room (with_message m o x).end
  unfolding with_message
  ends_read m (unread n p) x j h = judged_refusal n j
  ends_read m (read u ws) x j h = h

  ends_by : (s : List ℕ) (a : Result AtHand ℕ) → at_hand room s ≡ a → Told room s a → ((n : ℕ) → 5 ≤ n → n ≤ length s → Ends room (stream_of side room (drop n s)).end)
      → Ends room (stream_by side s (stream_of side room) a).end
  unfolding stream_by
  ends_by s (Ok (Lacking k)) e t h = (k, e)
  ends_by s (Err n) e t h = unfit_refusal n t
  ends_by s (Ok (Whole n)) e t h =
      ends_read (take n s) (message_of side (take n s)) (stream_of side room (drop n s)) (whole_judged side room s n t) (h n t.low t.inside)

  ends_in : (f : ℕ) (s : List ℕ) → length s ≤ f → Ends room (stream_of side room s).end
  ends_in zero s h = rw (step side room s) (ends_by s (at_hand room s) refl (told room s) (λ n l i. absurd (omega arith)))
  ends_in (suc f) s h =
      rw (step side room s) (ends_by s (at_hand room s) refl (told room s) (λ n l i. ends_in f (drop n s) (simp length-drop (omega arith))))

  pub ends : (s : List ℕ) → Ends room (stream_of side room s).end
  ends s = ends_in (length s) s (omega arith)
