-- However the bytes of a side are cut into deliveries, the intake comes to what reading all of them message after message comes to (R10.8).
use mathlib.Core.Path.{◌≡◌, refl, ap, sym, ◌∙◌}
use mathlib.Core.List.{List, [], ◌∷◌, ◌++◌, append-nil, append_assoc}
use Prim.Native.Nat.{ℕ, zero, suc, ◌+◌, ◌-◌, ◌<◌, ◌≤◌}
use native.Mathlib.Omega.{arith}
use native.Mathlib.Decide.{dec_lt}
use lib.ListN.{length, take, drop, length-append, length-drop}
use lib.Seq.{take-append_seam, drop-append-add, length-take-le}
use borrow.Author.Tests.{eq-eqb, ne_eqb}
use Rattle.message_intake.proofs.Hands.{Missing, Ready, Told, told}
use Rattle.intake_laws.proofs.Longer.{whole_before}
use Rattle.intake_laws.proofs.Streams.{after, onward, step, more}
use Rattle.intake_laws.proofs.Ends.{Refusal, refusal_some, Ends, ends}
use Rattle.protocol.specs.Numbers.{pick}
use Rattle.protocol.specs.Answers.{over}
use Rattle.protocol.specs.Messages.{MessageRead, unread, read, message_of}
use Rattle.protocol.specs.Intake.{at_hand, StreamEnd, unfinished, broken_off, Stream, with_message, stream_by, stream_in, stream_of, holding, intake_start, Taken}
use Rattle.protocol.specs.Intake.{judged_delivery, take_by, take_of, Conversation, hand_on, hand_in, hand_all, conversation}
use Rattle.protocol.specs.Intake.{all_bytes, end_state, end_held, ComesTo}
use Rattle.forms.specs.declared.AtHand.{AtHand}
use Rattle.forms.specs.declared.AtHand.TheVariants.{Lacking, Whole}
use Rattle.std.specs.Prelude.{Result, Ok, Err}

-- ---- the room

pub over_length : (x l : List ℕ) → length x ≤ length l → length (over x l) ≡ length l
over_length x l h = simp (length-append, length-drop) (omega arith)

module _ (side room : ℕ) where
  -- a conversation has come to a reading, and its room is as long as at the start
  pub record Stands (c : Conversation) (x : Stream) : Type 0 where
    pub comes : ComesTo side room c x
    pub size : length c.room ≡ room

  -- ---- one delivery, where bytes are held

  -- the bytes h wait in the room, and some are lacking
  pub record Waits (c : Conversation) (h : List ℕ) : Type 0 where
    pub state : c.intake ≡ holding room side (length h)
    pub held : take (length h) c.room ≡ h
    pub size : length c.room ≡ room
    pub lacks : ℕ
    pub waiting : at_hand room h ≡ Ok (Lacking lacks)

  module _ (c : Conversation) (h d : List ℕ) (w : Waits c h) where
    pub call_is : take_of c.intake d c.room ≡ take_by (holding room side (length h)) h d c.room (at_hand room (h ++ d))
    unfolding take_of pick
    call_is = rw (w.state, w.size, eq-eqb room room refl, w.held)

    stays : (x : List ℕ) → length x ≤ room → length (over x c.room) ≡ room
    stays x l = over_length x c.room (omega (arith, w.size)) ∙ w.size

    -- a message ends in the delivery, and not in what was held
    takes_some : (n : ℕ) → at_hand room (h ++ d) ≡ Ok (Whole n) → length h < n
    takes_some n e =
        elim (dec_lt (length h) n) [
          | yes l ↦ l
          | no l ↦
              let q : n ≤ length h = omega arith in
              let f = whole_before room h d n e q in
              let z : ◌≡◌ {A = ℕ} 0 1 = cc w.waiting in
              absurd (omega arith)
        ]

    -- what is left of the delivery
    left : (n : ℕ) → length h ≤ n → drop n (h ++ d) ≡ drop (n - length h) d
    left n l =
        let e : n ≡ length h + (n - length h) = omega arith in
        ap (λ (k : ℕ). drop k (h ++ d)) e ∙ drop-append-add h d (n - length h)

    module _ (again : Conversation → List ℕ → Conversation) where
      came_lacking : (k : ℕ) → Missing room (h ++ d) k
          → Stands (hand_on c again d (take_by (holding room side (length h)) h d c.room (Ok (Lacking k)))) (after c.given (stream_by side (h ++ d) (stream_of side room) (Ok (Lacking k))))
      unfolding hand_on take_by stream_by end_state end_held pick
      came_lacking k t =
          record {
            comes =
                record { messages_are = sym (append-nil c.given); state_is = refl; held_are = take-append_seam (h ++ d) (drop (length (h ++ d)) c.room) };
            size = stays (h ++ d) t.fits;
          }

      came_unfit : (n : ℕ)
          → Stands (hand_on c again d (take_by (holding room side (length h)) h d c.room (Err n))) (after c.given (stream_by side (h ++ d) (stream_of side room) (Err n)))
      unfolding hand_on take_by stream_by end_state end_held pick
      came_unfit n =
          record { comes = record { messages_are = sym (append-nil c.given); state_is = refl; held_are = refl }; size = w.size }

      -- a whole message, by what the reader says of it
      module _ (n : ℕ) (t : Ready room (h ++ d) n) where
        message_size : length (take n (h ++ d)) ≡ n
        message_size = length-take-le n (h ++ d) t.inside

        room_size : length (over (take n (h ++ d)) c.room) ≡ room
        room_size = stays (take n (h ++ d)) (omega (arith, message_size, t.fits))

        -- the call's answer and room
        abbrev called : MessageRead → Taken
        called o = record { answer = judged_delivery (holding room side (length h)) (n - length h) n o; room = over (take n (h ++ d)) c.room }

        came_refused : (m p : ℕ) (x : Stream) → Stands (hand_on c again d (called (unread m p))) (after c.given (with_message (take n (h ++ d)) (unread m p) x))
        unfolding hand_on judged_delivery with_message end_state end_held pick
        came_refused m p x =
            record { comes = record { messages_are = sym (append-nil c.given); state_is = refl; held_are = refl }; size = room_size }

        -- the conversation after a message was given: nothing is held
        abbrev given : Conversation
        given = record { intake = holding room side 0; room = over (take n (h ++ d)) c.room; given = c.given ++ (take n (h ++ d) ∷ []) }

        given_waits : Waits given []
        unfolding at_hand
        given_waits = record { state = refl; held = refl; size = room_size; lacks = 5; waiting = refl }

        came_given : (u : ℕ) (ws : List ℕ) (x : Stream) → Stands (again given (drop (n - length h) d)) (after (c.given ++ (take n (h ++ d) ∷ [])) x)
            → Stands (hand_on c again d (called (read u ws))) (after c.given (with_message (take n (h ++ d)) (read u ws) x))
        unfolding hand_on judged_delivery with_message pick
        came_given u ws x s =
            let z : n ≡ 0 → ⊥ = λ e. omega (arith, t.low) in
            let f : take n (over (take n (h ++ d)) c.room) ≡ take n (h ++ d) =
            ap (λ (k : ℕ). take k (over (take n (h ++ d)) c.room)) (sym message_size) ∙ take-append_seam (take n (h ++ d)) (drop (length (take n (h ++ d))) c.room) in
            rw (ne_eqb n 0 z, f)
            (record {
              comes = record {
                messages_are = s.comes.messages_are ∙ append_assoc c.given (take n (h ++ d) ∷ []) x.messages;
                state_is = s.comes.state_is;
                held_are = s.comes.held_are;
              };
              size = s.size;
            })

        came_read : (o : MessageRead) (x : Stream) → Stands (again given (drop (n - length h) d)) (after (c.given ++ (take n (h ++ d) ∷ [])) x)
            → Stands (hand_on c again d (called o)) (after c.given (with_message (take n (h ++ d)) o x))
        came_read (unread m p) x s = came_refused m p x
        came_read (read u ws) x s = came_given u ws x s

  -- where a call is enough, or the rest of the delivery comes to what the reading of it comes to
  came_by : (c : Conversation) (h d : List ℕ) → Waits c h → (again : Conversation → List ℕ → Conversation)
      → ((b : Conversation) (n : ℕ) → Waits b [] → length h < n → n ≤ length (h ++ d)
      → Stands (again b (drop (n - length h) d)) (after b.given (stream_of side room (drop (n - length h) d))))
      → (a : Result AtHand ℕ) → at_hand room (h ++ d) ≡ a → Told room (h ++ d) a
      → Stands (hand_on c again d (take_by (holding room side (length h)) h d c.room a)) (after c.given (stream_by side (h ++ d) (stream_of side room) a))
  unfolding take_by stream_by
  came_by c h d w again f (Ok (Lacking k)) e t = came_lacking c h d w again k t
  came_by c h d w again f (Err n) e t = came_unfit c h d w again n
  came_by c h d w again f (Ok (Whole n)) e t =
      let some = takes_some c h d w n e in
      let after-it = f (given c h d w again n t) n (given_waits c h d w again n t) some t.inside in
      rw (left c h d w n (omega (arith, some)))
      (came_read c h d w again n t (message_of side (take n (h ++ d))) (stream_of side room (drop (n - length h) d)) after-it)

  hand : (f : ℕ) (c : Conversation) (h d : List ℕ) → Waits c h → length d < f → Stands (hand_in f c d) (after c.given (stream_of side room (h ++ d)))
  unfolding hand_in
  hand zero c h d w l = absurd (omega arith)
  hand (suc f) c h d w l =
      rw (step side room (h ++ d), call_is c h d w)
      (came_by c h d w (hand_in f)
      (λ b n v g i. hand f b [] (drop (n - length h) d) v (simp length-drop (omega (arith, length-append h d))))
      (at_hand room (h ++ d))
      refl
      (told room (h ++ d)))

  -- ---- one delivery, after a refusal

  refused_on : (f n p : ℕ) (c : Conversation) (d : List ℕ) (ms : List (List ℕ)) → Refusal n
      → Stands c (record { messages = ms; end = broken_off n p }) → Stands (hand_in (suc f) c d) (record { messages = ms; end = broken_off n p })
  unfolding hand_in hand_on take_of end_state end_held pick
  refused_on f n p c d ms r s =
      let z : n ≡ 0 → ⊥ = refusal_some n r in
      let i = s.comes.state_is in
      rw (i, s.size, eq-eqb room room refl, ne_eqb n 0 z)
      (record {
        comes = record { messages_are = s.comes.messages_are; state_is = refl; held_are = refl };
        size = s.size;
      })

  -- ---- one delivery, and all of them

  before_same : (c : Conversation) (ms ns : List (List ℕ)) (x : Stream) → ms ≡ ns → Stands c (after ms x) → Stands c (after ns x)
  before_same c ms ns x e s = rw e at s

  one_by : (c : Conversation) (d : List ℕ) (ms : List (List ℕ)) (e : StreamEnd) → Ends room e → Stands c (record { messages = ms; end = e })
      → Stands (hand_in (suc (length d)) c d) (onward (stream_of side room) d ms e)
  unfolding onward end_state end_held
  one_by c d ms (unfinished h) t s =
      let i = s.comes.state_is in
      let w : Waits c h =
      record { state = i; held = rw i at s.comes.held_are; size = s.size; lacks = t.0; waiting = t.1 } in
      before_same (hand_in (suc (length d)) c d) c.given ms (stream_of side room (h ++ d)) s.comes.messages_are
      (hand (suc (length d)) c h d w (omega arith))
  one_by c d ms (broken_off n p) t s = refused_on (length d) n p c d ms t s

  one : (c : Conversation) (b d : List ℕ) → Stands c (stream_of side room b) → Stands (hand_in (suc (length d)) c d) (stream_of side room (b ++ d))
  one c b d s = rw (more side room b d) (one_by c d (stream_of side room b).messages (stream_of side room b).end (ends side room b) s)

  all : (ds : List (List ℕ)) (c : Conversation) (b : List ℕ) → Stands c (stream_of side room b) → Stands (hand_all c ds) (stream_of side room (b ++ all_bytes ds))
  unfolding hand_all all_bytes
  all [] c b s = rw (append-nil b) s
  all (d ∷ ds) c b s = rw (sym (append_assoc b d (all_bytes ds))) (all ds (hand_in (suc (length d)) c d) (b ++ d) (one c b d s))

  started : (l : List ℕ) → length l ≡ room → Stands (record { intake = intake_start side room; room = l; given = [] }) (stream_of side room [])
  unfolding stream_of stream_in end_state end_held
  started l e = record { comes = record { messages_are = refl; state_is = refl; held_are = refl }; size = e }

-- Every list of deliveries from a start, empty ones and single bytes too.
pub cuts : (side : ℕ) (l : List ℕ) (ds : List (List ℕ)) → ComesTo side (length l) (hand_all (conversation side l) ds) (stream_of side (length l) (all_bytes ds))
cuts side l ds = (all side (length l) ds (conversation side l) [] (started side (length l) l refl)).comes
