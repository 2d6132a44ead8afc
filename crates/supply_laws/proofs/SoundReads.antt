-- What was made of a supply's words reads back: laws of one thing after the other, and of a container's elements whatever their order.
use mathlib.Core.Path.{◌≡◌, refl, ap, sym, ◌∙◌}
use mathlib.Core.Logic.{⊎_elim}
use mathlib.Core.Bool.{Bool, true, false}
use mathlib.Core.List.{List, [], ◌++◌, append_assoc}
use mathlib.Core.Option.{Option, none, some}
use Prim.Native.Nat.{ℕ, zero, suc, ◌+◌, ◌*◌, ◌^◌, ◌<◌, ◌≤◌}
use native.Mathlib.Omega.{arith}
use native.Mathlib.Nat.{add_assoc}
use lib.Dec.{eqb}
use lib.ListN.{length, drop, get_or, length-append}
use lib.Seq.{get_or-drop}
use borrow.Author.Tests.{eqb-true, ne_eqb, eq-eqb}
use Rattle.std.specs.Prelude.{Result, Ok}
use Rattle.wire.proofs.Picks.{pick_split}
use Rattle.forms.specs.declared.Head.{Head}
use Rattle.forms.specs.declared.Head.TheVariants.{Present, Absent}
use Rattle.value_laws.proofs.Forests.{width_append}
use Rattle.value_laws.proofs.Loops.{elements_done}
use Rattle.supply_laws.proofs.SoundHeads.{Tail, tail_length, tail_next, tail_within, tail_take, tail_between, head_zero, head_length}
use Rattle.protocol.specs.Numbers.{pick}
use Rattle.protocol.specs.Constants.{ABSENT}
use Rattle.protocol.specs.Heads.{end_of, index_of}
use Rattle.protocol.specs.Nodes.{Node, ref_at}
use Rattle.protocol.specs.Lists.{Entry, Forest, empty, tree, append, width, entry_of}
use Rattle.protocol.specs.Values.{ValueOutcome, then, under, Rule, absent, present, element_outcome, Form, elements}
use Rattle.protocol.specs.Answers.{accepted}
use Rattle.protocol.specs.Supplies.{Claim, Next, short, next, claim_of, next_of, SameBytes, SamePart, Agree, AgreeNext, Agrees, zero_part, zero_member, zero_elements}
use Rattle.protocol.specs.Building.{Made, wrong, made, made_before, then_made, Builder, head_bytes, Order, may_lack, absent_made, headed, part_made, member_made, state_after, elements_made}

-- ---- what is made, taken apart

pub not_made : {A : Type 0} {b rest : List ℕ} → wrong ≡ made b rest → A
not_made e = let z : ◌≡◌ {A = ℕ} 0 1 = cc in absurd (omega arith)

-- a test that was passed, where anything else is a fault
pub passed : (t : Bool) (m : Made) (b rest : List ℕ) → pick t m wrong ≡ made b rest → (t ≡ true) × (m ≡ made b rest)
passed t m b rest e = ⊎_elim (λ p. p) (λ p. not_made p.1) (pick_split t m wrong (made b rest) e)

-- a fault that was passed by
pub spared : (t : Bool) (m : Made) (b rest : List ℕ) → pick t wrong m ≡ made b rest → (t ≡ false) × (m ≡ made b rest)
spared t m b rest e = ⊎_elim (λ p. not_made p.1) (λ p. p) (pick_split t wrong m (made b rest) e)

pub record After (m : Made) (x b rest : List ℕ) : Type 0 where
  pub last : List ℕ
  pub made_is : m ≡ made last rest
  pub bytes : b ≡ x ++ last

pub before_parts : (x : List ℕ) (m : Made) (b rest : List ℕ) → made_before x m ≡ made b rest → After m x b rest
unfolding made_before
before_parts x wrong b rest e = not_made e
before_parts x (made c ws) b rest e =
    let p : ws ≡ rest = cc in
    record { last = c; made_is = rw p; bytes = cc }

record Both (m : Made) (f : List ℕ → Made) (b rest : List ℕ) : Type 0 where
  first : List ℕ
  mid : List ℕ
  first_is : m ≡ made first mid
  after : After (f mid) first b rest

then_parts : (m : Made) (f : List ℕ → Made) (b rest : List ℕ) → then_made m f ≡ made b rest → Both m f b rest
unfolding then_made
then_parts wrong f b rest e = not_made e
then_parts (made c ws) f b rest e = record { first = c; mid = ws; first_is = refl; after = before_parts c (f ws) b rest e }

-- an element's head and its data
record Data (v : Node) (i : ℕ) (m : Made) (b rest : List ℕ) : Type 0 where
  data_bytes : List ℕ
  made_is : m ≡ made data_bytes rest
  bytes : head_bytes v i (length data_bytes) ++ data_bytes ≡ b

headed_parts : (v : Node) (i : ℕ) (m : Made) (b rest : List ℕ) → headed v i m ≡ made b rest → Data v i m b rest
unfolding headed
headed_parts v i wrong b rest e = not_made e
headed_parts v i (made d ws) b rest e =
    let p : ws ≡ rest = cc in
    record { data_bytes = d; made_is = rw p; bytes = cc }

-- ---- the next entry

abbrev pub Words : List ℕ → Type 0
Words ws = (j : ℕ) → get_or ws j 0 < 2 ^ 32

pub words_drop : (n : ℕ) (ws : List ℕ) → Words ws → Words (drop n ws)
words_drop n ws small j = rw get_or-drop (small (n + j))

pub next_is : (ws : List ℕ) (c : Claim) (rest : List ℕ) → next_of ws ≡ next c rest → (claim_of ws ≡ c) × (drop 5 ws ≡ rest)
unfolding next_of
next_is ws c rest e =
    ⊎_elim
    (λ p. let h = p.1 in let z : ◌≡◌ {A = ℕ} 0 1 = cc in absurd (omega arith))
    (λ p. let h = p.1 in (cc, cc))
    (pick_split _ _ _ _ e)

-- ---- what is read back

module _ (look : ℕ → Node) (t src : List ℕ) where
  agrees_append : (f g : Forest) (ws mid rest : List ℕ) → Agrees look t src f ws mid → Agrees look t src g mid rest → Agrees look t src (append f g) ws rest
  unfolding Agrees append
  agrees_append empty g ws mid rest a b = rw a b
  agrees_append (tree e below sib) g ws mid rest a b = (a.0, (a.1.0, a.1.1, agrees_append sib g a.1.0 mid rest a.1.2 b))

  -- the outcome o lists n trees whose entries agree with the words ws up to `rest`, and z are the bytes b
  pub record Reads (n : ℕ) (o : ValueOutcome) (z b ws rest : List ℕ) : Type 0 where
    pub forest : Forest
    pub is : o ≡ accepted forest
    pub wide : width forest ≡ n
    pub agrees : Agrees look t src forest ws rest
    pub zeros_are : z ≡ b
    pub small : Words rest

  pub reads_then : (n : ℕ) (o o' : ValueOutcome) (z z' b b' ws mid rest : List ℕ) → Reads 1 o z b ws mid → Reads n o' z' b' mid rest
      → Reads (suc n) (then o o') (z ++ z') (b ++ b') ws rest
  unfolding then
  reads_then n o o' z z' b b' ws mid rest x y =
      record {
        forest = append x.forest y.forest;
        is = rw (x.is, y.is);
        wide = omega (arith, width_append x.forest y.forest, x.wide, y.wide);
        agrees = agrees_append x.forest y.forest ws mid rest x.agrees y.agrees;
        zeros_are = rw (x.zeros_are, y.zeros_are);
        small = y.small;
      }

  -- an entry whose claim is c, and what is below it
  pub reads_under : (n : ℕ) (e : Entry) (o : ValueOutcome) (z z' b b' whole ws rest : List ℕ) (c : Claim) (ws' : List ℕ) → next_of ws ≡ next c ws'
      → Agree (look e.node) t src e n c → z' ≡ b' → whole ≡ b' ++ b → Reads n o z b ws' rest → Reads 1 (under e o) (z' ++ z) whole ws rest
  unfolding under Agrees AgreeNext width
  reads_under n e o z z' b b' whole ws rest c ws' entry agree zero_is parts x =
      let d = next_is ws c ws' entry in
      record {
        forest = tree e x.forest empty;
        is = rw x.is;
        wide = omega arith;
        agrees = (rw (entry, x.wide) agree, (rest, rw d.1 x.agrees, refl));
        zeros_are = rw (zero_is, x.zeros_are) (sym parts);
        small = x.small;
      }

  -- an entry with nothing below it
  pub reads_alone : (e : Entry) (z b ws : List ℕ) (c : Claim) (rest : List ℕ) → next_of ws ≡ next c rest → Agree (look e.node) t src e 0 c → z ≡ b → Words rest
      → Reads 1 (accepted (tree e empty empty)) z b ws rest
  unfolding Agrees AgreeNext width
  reads_alone e z b ws c rest entry agree zero_is small =
      let d = next_is ws c rest entry in
      record {
        forest = tree e empty empty;
        is = refl;
        wide = omega arith;
        agrees = (rw entry agree, (rest, d.1, refl));
        zeros_are = zero_is;
        small = small;
      }

  pub agree_present : (v : Node) (k i base n m : ℕ) (c : Claim) → c.node ≡ k → c.index ≡ i → m ≡ c.count → eqb c.size ABSENT ≡ false → n < 2 ^ 31
      → SameBytes t src v base n c.start c.size → Agree v t src (entry_of k i base n) m c
  unfolding SamePart
  agree_present v k i base n m c e d q there few same =
      let f : eqb n ABSENT ≡ false = ne_eqb n ABSENT (λ z. omega arith) in
      record { node = sym e; index = sym d; count = q; absence = f ∙ sym there; part = rw f same }

  agree_absent : (v : Node) (k i base : ℕ) (c : Claim) → c.node ≡ k → c.index ≡ i → 0 ≡ c.count → eqb c.size ABSENT ≡ true
      → Agree v t src (entry_of k i base ABSENT) 0 c
  unfolding SamePart
  agree_absent v k i base c e d q none-there =
      let f : eqb ABSENT ABSENT ≡ true = eq-eqb ABSENT ABSENT refl in
      record { node = sym e; index = sym d; count = q; absence = f ∙ sym none-there; part = tt }

-- ---- elements

-- an order of indexes and a form of reading agree: what was written by the one is read by the other
pub record Laws {S : Type 0} (order : Order S) (form : Form S) (v : Node) (s : List ℕ) : Type 0 where
  pub there : (st : S) (i at n : ℕ) (more : List ℕ) → order.admits st i ≡ true → i < 2 ^ 32 → 12 + n < 2 ^ 31 → n ≤ length more
      → Tail s at (head_bytes v i n ++ more) → form.head st at ≡ Ok (Present i (at + length (head_bytes v i n)) n)
  pub not_there : (st : S) (i at : ℕ) (more : List ℕ) → order.admits st i ≡ true → i < 2 ^ 32 → may_lack v i ≡ true
      → Tail s at (head_bytes v i ABSENT ++ more) → form.head st at ≡ Ok (Absent i (at + length (head_bytes v i ABSENT)))
  pub onward : (st : S) (h : Result Head ℕ) → form.next st h ≡ order.after st (index_of h)
  pub ends : (st : S) → form.lacks st ≡ order.lacks st

-- what a rule for values reads is what was made
abbrev pub Inner : (look : ℕ → Node) (t src : List ℕ) → Builder → Rule → (ℕ → List ℕ → List ℕ) → Type 0
Inner look t src rule rules zrule =
    (k i : ℕ) (ws b rest : List ℕ) → Words ws → rule k i ws ≡ made b rest → length b < 2 ^ 30 → (base : ℕ) (more : List ℕ) → Tail t base (b ++ more)
    → Reads look t src 1 (rules k i base b) (zrule k b) b ws rest

module _ (look : ℕ → Node) (t src : List ℕ) (rule : Builder) (rules : Rule) (zrule : ℕ → List ℕ → List ℕ) (inner : Inner look t src rule rules zrule)
    (v : Node) (base : ℕ) (s more : List ℕ) (stands : Tail t base (s ++ more)) (few : length s < 2 ^ 30) where
  module _ {S : Type 0} (order : Order S) (form : Form S) (laws : Laws order form v s) where
    -- the head at `at`, and the element with the bytes b that it is of
    record Step (st after : S) (at : ℕ) (ws b mid : List ℕ) : Type 0 where
      head : Result Head ℕ
      is : form.head st at ≡ head
      onward : form.next st head ≡ after
      end : end_of head ≡ at + length b
      long : 4 ≤ length b
      read : Reads look t src 1 (element_outcome rules (ref_at v) base s head) (zero_member zrule v s at head) b ws mid

    module _ (st : S) (at : ℕ) (ws : List ℕ) (c : Claim) (rest : List ℕ) (entry : next_of ws ≡ next c rest) (small : Words ws)
        (admitted : order.admits st c.index ≡ true) (r : ℕ) (ref : ref_at v c.index ≡ some r) (y : List ℕ) where
      index_small : c.index < 2 ^ 32
      index_small = let e : get_or ws 1 0 ≡ c.index = ap (λ (x : Claim). x.index) (next_is ws c rest entry).0 in rw e at (small 1)

      absent_step : may_lack v c.index ≡ true → c.node ≡ r → c.count ≡ 0 → eqb c.size ABSENT ≡ true → Tail s at (head_bytes v c.index ABSENT ++ y)
          → Step st (order.after st c.index) at ws (head_bytes v c.index ABSENT) rest
      unfolding element_outcome absent zero_member end_of index_of
      absent_step may node count not-here w =
          let h = head_bytes v c.index ABSENT in
          let start = at + length h in
          record {
            head = Ok (Absent c.index start);
            is = laws.not_there st c.index at y admitted index_small may w;
            onward = laws.onward st (Ok (Absent c.index start));
            end = refl;
            long = head_length v c.index ABSENT r ref;
            read =
                rw ref
                (reads_alone look t src (entry_of r c.index (base + start) ABSENT) _ h ws c rest entry
                (agree_absent look t src (look r) r c.index (base + start) c node refl (sym count) not-here)
                (rw (tail_between h y w) (head_zero v c.index ABSENT))
                (rw (next_is ws c rest entry).1 at (words_drop 5 ws small)));
          }

      present_step : (d mid : List ℕ) → rule r c.index ws ≡ made d mid → Tail s at (head_bytes v c.index (length d) ++ (d ++ y))
          → Step st (order.after st c.index) at ws (head_bytes v c.index (length d) ++ d) mid
      unfolding element_outcome present zero_member zero_part end_of index_of
      present_step d mid e w =
          let h = head_bytes v c.index (length d) in
          let start = at + length h in
          let w1 : Tail s start (d ++ y) = tail_next h (d ++ y) w in
          let l : start + length (d ++ y) ≡ length s = tail_length (d ++ y) w1 in
          let x = inner r c.index ws d mid small e (omega (arith, length-append d y)) (base + start) (y ++ more) (tail_within more d y stands w1) in
          record {
            head = Ok (Present c.index start (length d));
            is = laws.there st c.index at (length d) (d ++ y) admitted index_small (omega (arith, length-append d y)) (omega (arith, length-append d y)) w;
            onward = laws.onward st (Ok (Present c.index start (length d)));
            end = rw length-append (add_assoc at (length h) (length d));
            long = omega (arith, length-append h d, head_length v c.index (length d) r ref);
            read =
                rw (ref, tail_take d y w1, tail_between h (d ++ y) w, head_zero v c.index (length d))
                (record {
                  forest = x.forest;
                  is = x.is;
                  wide = x.wide;
                  agrees = x.agrees;
                  zeros_are = rw x.zeros_are;
                  small = x.small;
                });
          }

    module _ (st : S) (at : ℕ) (ws b mid y : List ℕ) (small : Words ws) (w : Tail s at (b ++ y)) where
      part_step : (c : Claim) (rest : List ℕ) → next_of ws ≡ next c rest → order.admits st c.index ≡ true → (o : Option ℕ) → ref_at v c.index ≡ o
          → part_made rule v o c rest ws ≡ made b mid → Step st (order.after st c.index) at ws b mid
      unfolding part_made absent_made
      part_step c rest entry admitted none ref e = not_made e
      part_step c rest entry admitted (some r) ref e =
          ⊎_elim
          (λ p.
          let may = passed _ _ b mid p.1 in
          let node = passed _ _ b mid may.1 in
          let count = passed _ _ b mid node.1 in
          let m = count.1 in
          let hb : head_bytes v c.index ABSENT ≡ b = cc in
          let hm : rest ≡ mid = cc in
          rw (← hb, ← hm)
          (absent_step st at ws c rest entry small admitted r ref y may.0 (eqb-true _ _ node.0) (eqb-true _ _ count.0) p.0 (rw (← hb) at w)))
          (λ (p : (eqb c.size ABSENT ≡ false) × (headed v c.index (rule r c.index ws) ≡ made b mid)).
          let d = headed_parts v c.index (rule r c.index ws) b mid p.1 in
          rw (← d.bytes)
          (present_step st at ws c rest entry small admitted r ref y d.data_bytes mid d.made_is (rw (← d.bytes, append_assoc) at w)))
          (pick_split _ _ _ _ e)

      member_step : (x : Next) → next_of ws ≡ x → member_made order rule v st ws x ≡ made b mid → Step st (state_after order rule v st x) at ws b mid
      unfolding member_made state_after
      member_step short entry e = not_made e
      member_step (next c rest) entry e =
          let p = passed _ _ b mid e in
          part_step c rest entry p.0 (ref_at v c.index) refl p.1

    -- an element and the rest
    step_back : (n : ℕ) (st after : S) (at : ℕ) (ws b₁ mid b₂ rest b : List ℕ) → b ≡ b₁ ++ b₂ → Step st after at ws b₁ mid
        → Reads look t src n (elements form rules (ref_at v) base s n after (at + length b₁)) (zero_elements form zrule v s n after (at + length b₁)) b₂ mid rest
        → Reads look t src (suc n) (elements form rules (ref_at v) base s (suc n) st at) (zero_elements form zrule v s (suc n) st at) b ws rest
    unfolding elements zero_elements
    step_back n st after at ws b₁ mid b₂ rest b e x y =
        rw (x.is, x.onward, x.end, e) (reads_then look t src n _ _ _ _ b₁ b₂ ws mid rest x.read y)

    pub elements_back : (n : ℕ) (st : S) (ws b rest : List ℕ) (at : ℕ) → Words ws → elements_made order rule v n st ws ≡ made b rest → Tail s at b
        → Reads look t src n (elements form rules (ref_at v) base s n st at) (zero_elements form zrule v s n st at) b ws rest × (4 * n ≤ length b)
    unfolding elements_made zero_elements elements Agrees width
    elements_back zero st ws b rest at small e w =
        let p = spared (order.lacks st) (made [] ws) b rest e in
        let m = p.1 in
        let nil : [] ≡ b = cc in
        let same : ws ≡ rest = cc in
        let l : at ≡ length s = omega (arith, tail_length b w, ap length nil) in (
          record {
            forest = empty;
            is = elements_done form rules (ref_at v) base s 0 st at refl l (laws.ends st ∙ p.0);
            wide = refl;
            agrees = same;
            zeros_are = nil;
            small = rw (← same) small;
          },
          omega arith,
        )
    elements_back (suc n) st ws b rest at small e w =
        let p = then_parts (member_made order rule v st ws (next_of ws)) (elements_made order rule v n (state_after order rule v st (next_of ws))) b rest e in
        let a = p.after in
        let w0 : Tail s at (p.first ++ a.last) = rw a.bytes at w in
        let x = member_step st at ws p.first p.mid a.last small w0 (next_of ws) refl p.first_is in
        let y =
        elements_back n (state_after order rule v st (next_of ws)) p.mid a.last rest (at + length p.first) x.read.small a.made_is
        (tail_next p.first a.last w0)
        in
        (step_back n st _ at ws p.first p.mid a.last rest b a.bytes x y.0, omega (arith, x.long, y.1, ap length a.bytes, length-append p.first a.last))
