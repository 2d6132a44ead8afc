-- `wire::text::is_within` meets its contract, by its first test.
use borrow.Author.Tests.{lt-leb, le-leb}
use Rattle.protocol.specs.Numbers.{pick}
use Rattle.protocol.specs.Text.{within}
use Rattle.wire.proofs.text.is_within.Goals as goal

pub returns-then-low-b : goal.returns-then-low-b
unfolding within pick
returns-then-low-b c = simp (le-leb _ _ c.if-low-b.true)

pub returns-else-low-b : goal.returns-else-low-b
unfolding within pick
returns-else-low-b c = simp (lt-leb _ _ c.if-low-b.false)
