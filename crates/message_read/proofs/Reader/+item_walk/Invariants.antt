use mathlib.Core.Path.{◌≡◌}
use Prim.Native.Nat.{◌-◌, ◌*◌, ◌≤◌, ◌<◌}
use lib.ListN.{length}
use Rattle.std.specs.Prelude.{Ok}
use Rattle.message_layout.specs.Tables.{layout_at}
use Rattle.message_layout.specs.Judged.{judged_all}
use Rattle.message_layout.proofs.Codes.{μ_code}
use Rattle.message_read.specs.Scan.{led, Within}
use Rattle.protocol.specs.Messages.{fields_read, times_read}
use Rattle.message_read.proofs.Reader.+item_walk.Given as goal

abbrev pub decreases-item : goal.decreases-item
decreases-item l = μ_code l.code

abbrev pub decreases-walk : goal.decreases-walk
decreases-walk l = 2 * (51 - l.start)

abbrev pub invariant-item-loop-item : goal.invariant-item-loop-item
invariant-item-loop-item l =
    Within (length l.self.message.now) (Ok l.reached) × (length l.list ≡ length l.initial.list)
    × (led (times_read l.count (fields_read (judged_all l.self.judge (layout_at l.items)) l.self.message.now) l.initial.reached.at) l.initial.reached.words l.initial.list
    ≡ led (times_read (l.count - l._item) (fields_read (judged_all l.self.judge (layout_at l.items)) l.self.message.now) l.reached.at) l.reached.words l.list)

abbrev pub invariant-walk-loop-reached : goal.invariant-walk-loop-reached
invariant-walk-loop-reached l =
    Within (length l.self.message.now) (Ok l.reached) × (length l.list ≡ length l.initial.list) × (l.start ≤ l.position) × (l.position < 51)
    × (led (fields_read (judged_all l.self.judge (layout_at l.start)) l.self.message.now l.initial.reached.at) l.initial.reached.words l.initial.list
    ≡ led (fields_read (judged_all l.self.judge (layout_at l.position)) l.self.message.now l.reached.at) l.reached.words l.list)

abbrev pub decreases-walk-loop-reached : goal.decreases-walk-loop-reached
decreases-walk-loop-reached l = 51 - l.position
