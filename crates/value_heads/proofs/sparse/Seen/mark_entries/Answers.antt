-- `value_heads::sparse::Seen::mark_entries` meets its contract: what is left of the entries leads to the same marks.
use native.Mathlib.Nat.{sub-zero}
use mathlib.Core.Path.{◌≡◌}
use native.Mathlib.Omega.{arith}
use Prim.Native.Nat.{◌+◌, ◌-◌}
use lib.ListN.{length}
use Rattle.value_heads.proofs.Marks.{marking_start, marking_next, marking_past, marking_done, apart_none, apart_past, apart_more}
use borrow.Author.Rules.{rules}
use Rattle.value_heads.proofs.sparse.Seen.mark_entries.Goals.{else-i-lt-MOST_ITEMS, then-i-lt-MOST_ITEMS}
use Rattle.value_heads.proofs.sparse.Seen.mark_entries.Goals as goal

pub loop-init : goal.loop-init
loop-init c =
    let e : length c.args.self.marks ≡ 512 = search rules in simp sub-zero (marking_start _ _ e)

pub returns-then-list-word : goal.returns-then-list-word
returns-then-list-word c =
    marking_done _ _ _ _ _ c.loop.invariant
    (apart_past c.args.list.now c.args.step _ (c.args.n - (c.loop.counter + 1)) _ (omega arith) c.if-list-word.true)

pub loop-preserved : goal.loop-preserved
loop-preserved c =
    let e = apart_more c.args.list.now c.args.step _ (c.args.n - (c.loop.counter + 1)) _ (omega arith) c.if-list-word.false in
    elim c.if-i-lt-MOST_ITEMS.branch [
      | then-i-lt-MOST_ITEMS w ↦ rw (w.marks-is, w.twice-is) (marking_next _ _ _ _ _ c.loop.invariant _ _ e)
      | else-i-lt-MOST_ITEMS w ↦ rw (w.marks-is, w.twice-is) (marking_past _ _ _ _ _ c.loop.invariant _ _ e w.if-i-lt-MOST_ITEMS.false)
    ]

pub returns-after-loop : goal.returns-after-loop
returns-after-loop c =
    marking_done _ _ _ _ _ c.loop.invariant (apart_none c.args.list.now c.args.step _ _ (omega arith))
