-- How a reading ends: what a walk's answer says of the outcome, and the laws of the tests before and after the fields.
use mathlib.Core.Path.{◌≡◌, refl, ap, ◌∙◌}
use mathlib.Core.Bool.{false}
use mathlib.Core.List.{List, ◌++◌}
use mathlib.Core.Logic.{◌⊎◌, inl, inr}
use Prim.Native.Nat.{ℕ, ◌+◌, ◌<◌, ◌≤◌}
use native.Mathlib.Omega.{arith}
use native.Mathlib.Nat.{zero-add}
use lib.ListN.{length, take, drop, get_or}
use lib.Seq.{sets, sets-eq}
use borrow.Author.Tests.{lt-ltb, le-ltb}
use Rattle.message_layout.specs.Judged.{judged_all}
use Rattle.message_layout.specs.Tables.{layout_at, known_at, start_of}
use Rattle.message_layout.proofs.Starts.{start_known}
use Rattle.message_read.specs.Answers.{answer_of, Stored, Checks, Gives, Accepted}
use Rattle.message_read.specs.Scan.{stopped, reached, outcome_of, led}
use Rattle.message_read.specs.declared.Reached.{Reached}
use Rattle.message_read.specs.declared.Message.{Message}
use Rattle.forms.specs.declared.fault.Refusal.{Refusal}
use Rattle.std.specs.declared.option.Option.{Option}
use Rattle.std.specs.Prelude.{Result, Ok, Err, Some, None}
use Rattle.std.proofs.lemmas.Option.{none-some}
use Rattle.message_read.proofs.Trusted.{unjudged_reads}
use Rattle.message_read.proofs.Whole.{Whole, whole, known_layout}
use Rattle.protocol.specs.Numbers.{pick, be}
use Rattle.protocol.specs.Messages.{layout_of, MessageRead, unread, read, fields_read, message_end, body_read, message_head, message_by, message_of, message_roomed, message_call}
use Rattle.protocol.specs.Messages.{message_words, message_list}

-- bytes used and number of words, as an answer
abbrev given : ℕ → ℕ → Result Message Refusal
given u w = Ok (record { used = u; words = w })

-- ---- a walk from no words on

stopped_from : (o : MessageRead) (n p : ℕ) (l : List ℕ) → stopped n p ≡ led o 0 l → o ≡ unread n p
unfolding led
stopped_from (unread m q) n p l h = cc
stopped_from (read at ws) n p l h = let z : ◌≡◌ {A = ℕ} 0 1 = cc in absurd (omega arith)

reached_from : (o : MessageRead) (at w : ℕ) (l l' : List ℕ) → reached at w l' ≡ led o 0 l → (ws : List ℕ) × (o ≡ read at ws) × (w ≡ 0 + length ws)
unfolding led
reached_from (unread n p) at w l l' h = let z : ◌≡◌ {A = ℕ} 0 1 = cc in absurd (omega arith)
reached_from (read at' ws) at w l l' h = let e : at ≡ at' = cc in (ws, rw e, cc)

list_at : (s : Result Reached Refusal) (at : ℕ) (ws l l' : List ℕ) → outcome_of s l' ≡ led (read at ws) 0 l → l' ≡ sets l 0 ws
unfolding led outcome_of
list_at (Err e) at ws l l' h = let z : ◌≡◌ {A = ℕ} 0 1 = cc in absurd (omega arith)
list_at (Ok r) at ws l l' h = cc

-- ---- the body's answer

module _ (m : List ℕ) (o : MessageRead) (l l' : List ℕ) where
  pub body_refused : (e : Refusal) → outcome_of (Err e) l' ≡ led o 0 l → Checks (message_end m o) (Err e) l l'
  unfolding outcome_of message_end answer_of Stored
  body_refused e q = rw (stopped_from o e.fault e.place l q) (record { answer = refl; words = tt })

  module _ (r : Reached) (q : outcome_of (Ok r) l' ≡ led o 0 l) where
    from : (ws : List ℕ) × (o ≡ read r.at ws) × (r.words ≡ 0 + length ws)
    unfolding outcome_of
    from = reached_from o r.at r.words l l' q

    pub body_left : r.at < length m → Checks (message_end m o) (Err (record { fault = 5; place = r.at })) l l'
    unfolding message_end answer_of Stored pick
    body_left g = rw (from.1, lt-ltb r.at (length m) g) (record { answer = refl; words = tt })

    pub body_whole : length m ≤ r.at → Checks (message_end m o) (Ok (record { used = r.at; words = r.words })) l l'
    unfolding message_end answer_of Stored pick
    body_whole g =
        rw (from.1, le-ltb r.at (length m) g)
        (record { answer = ap (given r.at) (from.2 ∙ zero-add (length from.0)); words = list_at (Ok r) r.at from.0 l l' (rw from.1 at q) })

-- ---- the tests before the body

-- a refusal says nothing of the scratch room
refuses : (o : MessageRead) (n p : ℕ) (l l' : List ℕ) → o ≡ unread n p → Checks o (Err (record { fault = n; place = p })) l l'
unfolding answer_of Stored
refuses o n p l l' e = rw e (record { answer = refl; words = tt })

module _ (side : ℕ) (s l l' : List ℕ) where
  pub check_short : length s < 5 → Checks (message_of side s) (Err (record { fault = 1; place = 0 })) l l'
  unfolding message_of message_by message_head pick
  check_short h = refuses _ 1 0 l l' (rw (lt-ltb (length s) 5 h))

  module _ (n : ℕ) (e : n ≡ be (take 4 (drop 1 s))) (h : 5 ≤ length s) where
    pub check_length : (n < 4) ⊎ ((4 ≤ n) × (65535 < n)) → Checks (message_of side s) (Err (record { fault = 2; place = 0 })) l l'
    unfolding message_of message_by message_head pick
    check_length (inl g) = refuses _ 2 0 l l' (rw (← e, le-ltb (length s) 5 h, lt-ltb n 4 g))
    check_length (inr (g, k)) = refuses _ 2 0 l l' (rw (← e, le-ltb (length s) 5 h, le-ltb n 4 g, lt-ltb 65535 n k))

    module _ (g : 4 ≤ n) where
      module _ (k : n ≤ 65535) where
        pub check_more : length s < n + 1 → Checks (message_of side s) (Err (record { fault = 1; place = 0 })) l l'
        unfolding message_of message_by message_head pick
        check_more j = refuses _ 1 0 l l' (rw (← e, le-ltb (length s) 5 h, le-ltb n 4 g, le-ltb 65535 n k, lt-ltb (length s) (n + 1) j))

        module _ (j : n + 1 ≤ length s) (r : Option ℕ) (f : r ≡ start_of side (get_or s 0 0)) where
          message_is : message_of side s ≡ body_read (known_at r) (take (n + 1) s)
          unfolding message_of message_by message_head pick
          message_is =
              let d = start_known r side (get_or s 0 0) f in
              rw (← e, le-ltb (length s) 5 h, le-ltb n 4 g, le-ltb 65535 n k, le-ltb (length s) (n + 1) j, ← d)

          pub check_unknown : r ≡ None → Checks (message_of side s) (Err (record { fault = 3; place = 0 })) l l'
          unfolding body_read known_at
          check_unknown q = refuses _ 3 0 l l' (message_is ∙ rw q)

          pub check_known : (a : Result Message Refusal) (p : ℕ) → r ≡ Some p → Checks (message_end (take (n + 1) s) (fields_read (layout_at p) (take (n + 1) s) 5)) a l l' → Checks (message_of side s) a l l'
          unfolding body_read known_at
          check_known a p q v = rw (message_is, q) v

-- ---- an accepted message's words

module _ (side : ℕ) (s : List ℕ) (acc : Accepted (message_of side s)) where
  pub accepted : Whole side s (be (take 4 (drop 1 s))) acc.used acc.words
  accepted = whole side s acc.used acc.words acc.is

  layout_is : (r : Option ℕ) → r ≡ start_of side (get_or s 0 0) → (p : ℕ) × (r ≡ Some p) × (layout_at p ≡ accepted.layout)
  layout_is r f = known_layout r (layout_of side (get_or s 0 0)) accepted.layout (start_known r side (get_or s 0 0) f) accepted.kind

  -- the type is known
  pub accepted_known : None ≡ start_of side (get_or s 0 0) → ⊥
  accepted_known f = let h = layout_is None f in none-some h.0 h.1

  pub filled : (p : ℕ) → Some p ≡ start_of side (get_or s 0 0) → (e : ℕ) (x : Result Reached Refusal) (l l' : List ℕ) → e ≡ be (take 4 (drop 1 s)) + 1
      → outcome_of x l' ≡ led (fields_read (judged_all false (layout_at p)) (take e s) 5) 0 l → l' ≡ sets l 0 (message_words (message_of side s))
  unfolding message_words judged_all
  filled p f e x l l' g q =
      let h = layout_is (Some p) f in
      let n : p ≡ h.0 = cc (h.1) in
      let t = unjudged_reads accepted.layout (take (be (take 4 (drop 1 s)) + 1) s) 5 acc.used acc.words accepted.body.outcome in
      rw acc.is (list_at x acc.used acc.words l l' (rw (g, n, h.2, t) at q))

-- ---- what an answer says of the outcome

read_of : (o : MessageRead) (m : Message) → Ok m ≡ answer_of o → (ws : List ℕ) × (o ≡ read m.used ws) × (m.words ≡ length ws)
unfolding answer_of
read_of (unread n p) m e = let z : ◌≡◌ {A = ℕ} 0 1 = cc in absurd (omega arith)
read_of (read at ws) m e = let a : m ≡ record { used = at; words = length ws } = cc in (ws, rw a, ap (λ (x : Message). x.words) a)

refused_of : (o : MessageRead) (e : Refusal) → Err e ≡ answer_of o → o ≡ unread e.fault e.place
unfolding answer_of
refused_of (unread m q) e h = let a : e ≡ record { fault = m; place = q } = cc in rw a
refused_of (read at ws) e h = let z : ◌≡◌ {A = ℕ} 0 1 = cc in absurd (omega arith)

-- what a check says of an accepted message: its words, and that they are in the scratch room
pub record Found (o : MessageRead) (u w : ℕ) (l l' : List ℕ) : Type 0 where
  pub words : List ℕ
  pub is : o ≡ read u words
  pub count : w ≡ length words
  pub stored : l' ≡ sets l 0 words

pub found : (o : MessageRead) (m : Message) (l l' : List ℕ) → Checks o (Ok m) l l' → Found o m.used m.words l l'
unfolding Stored
found o m l l' c =
    let r = read_of o m c.answer in
    record { words = r.0; is = r.1; count = r.2; stored = rw r.1 at c.words }

pub turned_down : (o : MessageRead) (e : Refusal) (l l' : List ℕ) → Checks o (Err e) l l' → o ≡ unread e.fault e.place
turned_down o e l l' c = refused_of o e c.answer

-- ---- the call

module _ (side : ℕ) (s k k' : List ℕ) where
  pub gives_refused : (e : Refusal) → Checks (message_of side s) (Err e) k k' → (l : List ℕ) → Gives (message_call side s (length l)) (Err e) l l
  unfolding message_call message_roomed answer_of message_list
  gives_refused e c l =
      let o = turned_down (message_of side s) e k k' c in
      record { answer = rw o; list = rw o }

  module _ (m : Message) (c : Checks (message_of side s) (Ok m) k k') where
    f : Found (message_of side s) m.used m.words k k'
    f = found (message_of side s) m k k' c

    pub accepts : Accepted (message_of side s)
    accepts = record { used = m.used; words = f.words; is = f.is }

    pub gives_full : (l : List ℕ) → length l < m.words → Gives (message_call side s (length l)) (Err (record { fault = 31; place = 0 })) l l
    unfolding message_call message_roomed answer_of message_list pick
    gives_full l h =
        let h' : length l < length f.words = omega (arith, f.count) in
        rw (f.is, lt-ltb (length l) (length f.words) h') (record { answer = refl; list = refl })

    pub gives_read : (l l' : List ℕ) → m.words ≤ length l → l' ≡ sets l 0 (message_words (message_of side s)) → Gives (message_call side s (length l)) (Ok m) l l'
    unfolding message_call message_roomed answer_of message_list message_words pick
    gives_read l l' h x =
        let h' : length f.words ≤ length l = omega (arith, f.count) in
        let g : l' ≡ sets l 0 f.words = rw f.is at x in
        rw (f.is, le-ltb (length l) (length f.words) h')
        (record {
          answer = ap (given m.used) f.count;
          list = g ∙ sets-eq f.words l 0 (omega arith) ∙ ap (λ (n : ℕ). f.words ++ drop n l) (zero-add (length f.words));
        })
