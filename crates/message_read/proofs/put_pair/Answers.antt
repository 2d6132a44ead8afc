use mathlib.Core.Path.{sym, ◌∙◌}
use lib.ListN.{length-set}
use lib.Seq.{set_out}
use native.Mathlib.Omega.{arith}
use Rattle.message_read.specs.Scan.{put}
use borrow.Author.Rules.{rules}
use Rattle.message_read.proofs.put_pair.Goals as goal

pub returns-then-k-list : goal.returns-then-k-list
unfolding put
returns-then-k-list c = search rules

pub returns-then-k-list-2 : goal.returns-then-k-list-2
unfolding put
returns-then-k-list-2 c = sym (set_out _ _ _ (simp length-set c.if-k-list.false))

pub returns-else-k-list-2 : goal.returns-else-k-list-2
unfolding put
returns-else-k-list-2 c =
    let h = c.if-k-list-2.false in sym (set_out _ _ _ (simp length-set (omega arith)) ∙ set_out _ _ _ h)
