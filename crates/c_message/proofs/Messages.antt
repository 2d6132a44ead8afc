-- The laws of the two message calls on bytes.
use mathlib.Core.Path.{◌≡◌, refl, ap, ◌∙◌}
use mathlib.Core.Bool.{true, false}
use mathlib.Core.List.{List}
use Prim.Native.Nat.{ℕ, ◌<◌, ◌≤◌}
use native.Mathlib.Omega.{arith}
use lib.ListN.{length, take}
use lib.Seq.{sets}
use borrow.Author.Tests.{lt-ltb, le-ltb}
use Rattle.message_layout.specs.Tables.{known_at, start_of}
use Rattle.message_layout.proofs.Starts.{start_known}
use Rattle.message_read.specs.Answers.{Checks}
use Rattle.message_write.specs.Answers.{wrote_of, Puts}
use Rattle.c_message.specs.Messages.{Listable}
use Rattle.std.specs.Prelude.{Ok, Err, Some, None}
use Rattle.forms.specs.declared.fault.Refusal.{Refusal}
use Rattle.message_read.specs.declared.Message.{Message}
use Rattle.message_read.proofs.Ends.{Found, found, turned_down}
use Rattle.forms.specs.declared.Answer.{Answer}
use Rattle.c_words.proofs.Words.{room_most, words_put, filled_words}
use Rattle.protocol.specs.Numbers.{pick}
use mathlib.Core.Option.{Option, some, none}
use Rattle.protocol.specs.Messages.{Layout, layout_of, message_of, message_roomed, message_call, message_words, message_written}
use Rattle.protocol.specs.Answers.{Put, refused_put, put_out, output_after}
use Rattle.protocol.specs.Crossing.{words_in, bytes_out, crosses, word_room, refusal, success, read_answer, read_list, ReadsMessage, uncrossed_list, written_from, put_answer, WritesMessage}

-- ---- reading

module _ (side : ℕ) (src k k' : List ℕ) where
  pub reads_refused : (r : Refusal) → Checks (message_of side src) (Err r) k k' → (l : List ℕ) → ReadsMessage side src (refusal r.fault r.place) l l
  unfolding message_call message_roomed read_answer read_list
  reads_refused r c l =
      let o = turned_down (message_of side src) r k k' c in
      record { answer = rw o; list = rw o }

  module _ (m : Message) (c : Checks (message_of side src) (Ok m) k k') where
    f : Found (message_of side src) m.used m.words k k'
    f = found (message_of side src) m k k' c

    -- few words are all in the check's own room
    pub few_words : m.words ≤ length k → take m.words k' ≡ message_words (message_of side src)
    unfolding message_words
    few_words h = filled_words k k' f.words m.words f.stored f.count h ∙ rw f.is

    module _ (l : List ℕ) where
      pub reads_full : word_room (length l) < m.words → ReadsMessage side src (refusal 31 0) l l
      unfolding message_call message_roomed read_answer read_list pick
      reads_full h =
          let h' : word_room (length l) < length f.words = omega (arith, f.count) in
          record { answer = rw (f.is, lt-ltb _ _ h'); list = rw (f.is, lt-ltb _ _ h') }

      module _ (h : m.words ≤ word_room (length l)) where
        pub listable : Listable side src m.words l
        unfolding message_words
        listable =
            record {
              accepted = record { used = m.used; words = f.words; is = f.is };
              count = rw f.is f.count;
              most = omega (arith, (room_most (length l)).0);
              room = omega (arith, (room_most (length l)).1);
            }

        pub reads_listed : (l' : List ℕ) → l' ≡ sets l 0 (bytes_out (message_words (message_of side src))) → ReadsMessage side src (success m.used m.words) l l'
        unfolding message_call message_roomed read_answer read_list message_words pick
        reads_listed l' x =
            let h' : length f.words ≤ word_room (length l) = omega (arith, f.count) in
            record {
              answer = rw (f.is, le-ltb _ _ h') (ap (success m.used) f.count);
              list = rw (f.is, le-ltb _ _ h') (rw f.is at x ∙ words_put f.words l (length f.words) refl h');
            }

-- ---- writing

module _ (side t : ℕ) (list src out : List ℕ) where
  pub uncrossed_is : (r : Answer) → crosses (length list) ≡ false → r ≡ put_answer (uncrossed_list (layout_of side t)) → WritesMessage side t list src r out out
  unfolding written_from pick output_after uncrossed_list
  uncrossed_is r e f = record { answer = rw e f; output = rw e (unchanged (layout_of side t)) }
    where
      unchanged : (k : (Option Layout)) → out ≡ output_after (uncrossed_list k) out
      unchanged none = refl
      unchanged (some l) = refl

  module _ (e : crosses (length list) ≡ true) (out' : List ℕ) where
    pub writes_refused : (n : ℕ) → Puts (message_written side t (words_in list) src (length out)) (Err n) out out' → WritesMessage side t list src (refusal n 0) out out'
    unfolding written_from pick wrote_of put_answer
    writes_refused n p =
        record {
          answer = rw e (go (message_written side t (words_in list) src (length out)) p.answer);
          output = rw e p.output;
        }
      where
        go : (x : Put) → Err n ≡ wrote_of x → refusal n 0 ≡ put_answer x
        go (refused_put m) g = let h : n ≡ m = cc in rw h
        go (put_out b) g = let z : ◌≡◌ {A = ℕ} 0 1 = cc in absurd (omega arith)

    pub writes_whole : (n : ℕ) → Puts (message_written side t (words_in list) src (length out)) (Ok n) out out' → WritesMessage side t list src (success n 0) out out'
    unfolding written_from pick wrote_of put_answer
    writes_whole n p =
        record {
          answer = rw e (go (message_written side t (words_in list) src (length out)) p.answer);
          output = rw e p.output;
        }
      where
        go : (x : Put) → Ok n ≡ wrote_of x → success n 0 ≡ put_answer x
        go (refused_put m) g = let z : ◌≡◌ {A = ℕ} 0 1 = cc in absurd (omega arith)
        go (put_out b) g = let h : n ≡ length b = cc in rw h

-- a list that does not cross: whether its type is known
module _ (side t : ℕ) where
  pub uncrossed_unknown : None ≡ start_of side t → refusal 3 0 ≡ put_answer (uncrossed_list (layout_of side t))
  unfolding known_at uncrossed_list put_answer
  uncrossed_unknown e = ap (λ (k : Option Layout). put_answer (uncrossed_list k)) (start_known None side t e)

  pub uncrossed_known : (p : ℕ) → Some p ≡ start_of side t → refusal 6 0 ≡ put_answer (uncrossed_list (layout_of side t))
  unfolding known_at uncrossed_list put_answer
  uncrossed_known p e = ap (λ (k : Option Layout). put_answer (uncrossed_list k)) (start_known (Some p) side t e)
