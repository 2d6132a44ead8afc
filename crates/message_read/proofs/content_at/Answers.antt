use native.Mathlib.Omega.{arith}
use Rattle.message_read.specs.Scan.{Inside}
use Rattle.message_read.proofs.Fields.{head_short_lem, content_short, content_whole}
use Rattle.message_read.proofs.content_at.Goals as goal

pub returns-then-m-start : goal.returns-then-m-start
unfolding Inside
returns-then-m-start c = record { value = head_short_lem _ _ c.if-m-start.true; inside = tt }

pub returns-then-m-start-2 : goal.returns-then-m-start-2
unfolding Inside
returns-then-m-start-2 c =
    record { value = content_short _ _ _ c.u32_at-len.ensures c.if-m-start.false c.if-m-start-2.true; inside = tt }

pub returns : goal.returns
unfolding Inside
returns c =
    record { value = content_whole _ _ _ c.u32_at-len.ensures c.if-m-start.false c.if-m-start-2.false; inside = omega arith }
