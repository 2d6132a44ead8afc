use mathlib.Core.Path.{sym}
use lib.ListN.{get_or-append}
use Rattle.message_intake.proofs.Hands.{byte_after}
use Rattle.message_intake.proofs.byte_at.Goals as goal

pub returns-then-k-held : goal.returns-then-k-held
returns-then-k-held c =
    sym (get_or-append c.args.held.now c.args.src.now 0 _ c.if-k-held.true)

pub returns : goal.returns
returns c =
    byte_after c.args.held.now c.args.src.now _ c.if-k-held.false
