-- The intake's promises on the contracts of its calls.
use mathlib.Core.Path.{◌≡◌, ap, sym, ◌∙◌}
use mathlib.Core.List.{List}
use Prim.Native.Nat.{ℕ, ◌≤◌}
use native.Mathlib.Omega.{arith}
use lib.ListN.{length, take}
use lib.Seq.{length-take-le, take-append_seam}
use Rattle.message_intake.proofs.Hands.{Missing}
use Rattle.intake_laws.proofs.Conversations.{cuts}
use Rattle.intake_laws.proofs.States.{answered}
use Rattle.intake_laws.proofs.Refusals.{stays, other_room}
use Rattle.intake_laws.proofs.Rooms.{kept}
use Rattle.intake_laws.proofs.Readers.{roomed, given, read_given}
use Rattle.theorems.proofs.Accepted.{message_exact}
use Rattle.theorems.specs.Terms.{KeepsBehind, WholeMessage, IntakeNumber, Lacks, SameEnd}
use Rattle.forms.specs.declared.Intake.{Intake}
use Rattle.forms.specs.declared.Delivery.{Delivery}
use Rattle.protocol.specs.Answers.{over}
use Rattle.protocol.specs.Intake.{stream_of, intake_start, Taken, refused_delivery, taken_delivery, take_of, SettlesTaken, TakesDelivery, hand_all, conversation}
use Rattle.protocol.specs.Intake.{all_bytes, Reached}

-- two cuts come to one reading
pub two_cuts : (side : ℕ) (l l' : List ℕ) (ds ds' : List (List ℕ)) → length l ≡ length l' → all_bytes ds ≡ all_bytes ds'
    → SameEnd (hand_all (conversation side l) ds) (hand_all (conversation side l') ds')
two_cuts side l l' ds ds' e f =
    let x = cuts side l ds in
    let y = cuts side l' ds' in
    let s : stream_of side (length l) (all_bytes ds) ≡ stream_of side (length l') (all_bytes ds') = rw (e, f) in
    record {
      messages_same = x.messages_are ∙ rw s (sym y.messages_are);
      state_same = x.state_is ∙ rw (s, e) (sym y.state_is);
      held_same = x.held_are ∙ rw s (sym y.held_are);
    }

-- the contract gives the definition's own outcome
settled : (t : Taken) (r : Delivery) (l : List ℕ) → SettlesTaken t r l → t ≡ record { answer = r; room = l }
settled t r l c = rw (c.answer, c.room)

pub refusal_stays : (i : Intake) (src : List ℕ) (r : Delivery) (l l' : List ℕ) → TakesDelivery i src r l l' → length l ≡ i.room → (r.number ≡ 0 → ⊥)
    → (src' : List ℕ) (q : Delivery) (l'' : List ℕ) → TakesDelivery r.intake src' q l' l'' → (q ≡ r) × (l'' ≡ l')
refusal_stays i src r l l' c e z src' q l'' d =
    let f = rw (settled (take_of i src l) r l' c) at (stays i src' src l e) in
    let g = f z in
    (d.answer ∙ ap (λ (t : Taken). t.answer) g, d.room ∙ ap (λ (t : Taken). t.room) g)

pub other_room_kept : (i : Intake) (src : List ℕ) (r : Delivery) (l l' : List ℕ) → TakesDelivery i src r l l' → (length l ≡ i.room → ⊥)
    → (r ≡ refused_delivery i 32 0) × (l' ≡ l)
other_room_kept i src r l l' c z =
    let g = other_room i src l z in
    (c.answer ∙ ap (λ (t : Taken). t.answer) g, c.room ∙ ap (λ (t : Taken). t.room) g)

lacks_of : (room : ℕ) (s : List ℕ) (k : ℕ) → Missing room s k → Lacks s k
lacks_of room s k m = record { some = m.more; of_head = m.head; of_message = m.message }

pub intake_answers : (side room : ℕ) (i : Intake) (l : List ℕ) → Reached side room i l → (src : List ℕ) (r : Delivery) (l' : List ℕ) → TakesDelivery i src r l l'
    → (length (take r.intake.held l') ≡ r.intake.held)
    × (r.intake.number ≡ r.number)
    × (r.intake.place ≡ r.place)
    × (r.number ≡ 0 → Lacks (take r.intake.held l') r.lacks)
    × ((r.number ≡ 0 → ⊥) → IntakeNumber r.number)
intake_answers side room i l x src r l' c =
    let a = rw (settled (take_of i src l) r l' c) at (answered side room i l x src) in
    (a.held, a.number, a.place, λ z. lacks_of room (take r.intake.held l') r.lacks (a.lacking z), a.refusal)

pub intake_keeps : (i : Intake) (src : List ℕ) (r : Delivery) (l l' : List ℕ) → TakesDelivery i src r l l' → KeepsBehind r l l'
intake_keeps i src r l l' c =
    let k = rw (settled (take_of i src l) r l' c) at (kept i src l) in
    record { long = k.long; behind = k.behind }

-- ---- with the reader

pub intake_gives : (i : Intake) (src : List ℕ) (r : Delivery) (l l' : List ℕ) → TakesDelivery i src r l l' → (r.size ≡ 0 → ⊥)
    → (ws : List ℕ) × WholeMessage i.side (take r.size l') r.size ws
intake_gives i src r l l' c z =
    let x = (rw (settled (take_of i src l) r l' c) at (given i src l)) z in
    let m = take r.size l' in
    (x.0, ((message_exact i.side m (length x.0) r.size x.0).0 (roomed i.side m r.size x.0 x.1)).0)

pub intake_takes : (side : ℕ) (src : List ℕ) (u : ℕ) (ws : List ℕ) → WholeMessage side src u ws
    → (r : Delivery) (l l' : List ℕ) → TakesDelivery (intake_start side (length l)) src r l l' → u ≤ length l
    → (r ≡ taken_delivery (intake_start side (length l)) u u 5) × (take u l' ≡ take u src)
intake_takes side src u ws w r l l' c h =
    let e = (message_exact side src (length ws) u ws).1 (w, omega arith) in
    let g = read_given side src (length ws) u ws l e h in
    let s : length (take u src) ≡ u = length-take-le u src w.inside in
    let f : take u (over (take u src) l) ≡ take u src =
    ap (λ (k : ℕ). take k (over (take u src) l)) (sym s) ∙ take-append_seam (take u src) _ in (
      c.answer ∙ ap (λ (t : Taken). t.answer) g,
      ap (take u) (c.room ∙ ap (λ (t : Taken). t.room) g) ∙ f,
    )
