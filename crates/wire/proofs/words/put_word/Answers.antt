-- `wire::words::put_word` meets its contract: a store past the end does nothing.
use mathlib.Core.Path.{sym}
use lib.Seq.{set_out}
use Rattle.wire.proofs.words.put_word.Goals as goal

pub returns-else-at-list : goal.returns-else-at-list
returns-else-at-list c = sym (set_out _ _ _ c.if-at-list.false)
