use mathlib.Core.Path.{◌≡◌}
use Prim.Native.Nat.{◌-◌, ◌*◌, ◌≤◌, ◌<◌}
use lib.ListN.{length, drop}
use Rattle.std.specs.Prelude.{Some}
use Rattle.message_layout.specs.Tables.{layout_at}
use Rattle.message_layout.specs.Judged.{judged_all}
use Rattle.message_layout.proofs.Codes.{μ_code}
use Rattle.message_write.specs.Emitting.{put_at, Bounded}
use Rattle.protocol.specs.Messages.{times_written, fields_written}
use Rattle.message_write.proofs.Writer.+item_walk.Given as goal

abbrev pub decreases-item : goal.decreases-item
decreases-item l = μ_code l.code

abbrev pub decreases-walk : goal.decreases-walk
decreases-walk l = 2 * (51 - l.start)

abbrev pub invariant-item-loop-item : goal.invariant-item-loop-item
invariant-item-loop-item l =
    Bounded (length l.self.list.now) (Some l.emitted) × (length l.out ≡ length l.initial.out)
    × (put_at (times_written l.count (fields_written (judged_all l.self.judge (layout_at l.items)) l.self.src.now) (drop l.initial.emitted.word l.self.list.now)) l.initial.emitted.at l.initial.out
    ≡ put_at (times_written (l.count - l._item) (fields_written (judged_all l.self.judge (layout_at l.items)) l.self.src.now) (drop l.emitted.word l.self.list.now)) l.emitted.at l.out)
    × (length l.out ≤ 65536)

abbrev pub invariant-walk-loop-emitted : goal.invariant-walk-loop-emitted
invariant-walk-loop-emitted l =
    Bounded (length l.self.list.now) (Some l.emitted) × (length l.out ≡ length l.initial.out) × (l.start ≤ l.position) × (l.position < 51)
    × (put_at (fields_written (judged_all l.self.judge (layout_at l.start)) l.self.src.now (drop l.initial.emitted.word l.self.list.now)) l.initial.emitted.at l.initial.out
    ≡ put_at (fields_written (judged_all l.self.judge (layout_at l.position)) l.self.src.now (drop l.emitted.word l.self.list.now)) l.emitted.at l.out)
    × (length l.out ≤ 65536)

abbrev pub decreases-walk-loop-emitted : goal.decreases-walk-loop-emitted
decreases-walk-loop-emitted l = 51 - l.position
