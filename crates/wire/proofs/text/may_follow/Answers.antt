-- `wire::text::may_follow` meets its contract: the tests are those of `second`, in its order.
use native.Mathlib.Omega.{arith}
use borrow.Author.Tests.{ne_eqb}
use Rattle.wire.specs.Scan.{second}
use Rattle.protocol.specs.Numbers.{pick}
use Rattle.wire.proofs.text.may_follow.Goals as goal

pub returns-in-224 : goal.returns-in-224
unfolding second pick
returns-in-224 c = rw c.in-224.is c.is_within.ensures

pub returns-in-237 : goal.returns-in-237
unfolding second pick
returns-in-237 c = rw c.in-237.is c.is_within-in-237.ensures

pub returns-in-240 : goal.returns-in-240
unfolding second pick
returns-in-240 c = rw c.in-240.is c.is_within-in-240.ensures

pub returns-in-244 : goal.returns-in-244
unfolding second pick
returns-in-244 c = rw c.in-244.is c.is_within-in-244.ensures

pub returns-in_default : goal.returns-in_default
unfolding second pick
returns-in_default c =
    rw (ne_eqb c.args.b 224 (λ e. omega arith), ne_eqb c.args.b 237 (λ e. omega arith), ne_eqb c.args.b 240 (λ e. omega arith), ne_eqb c.args.b 244 (λ e. omega arith)) c.is_within-in_default.ensures
