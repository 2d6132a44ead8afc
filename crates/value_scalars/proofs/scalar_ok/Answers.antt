use mathlib.Core.Path.{sym}
use Rattle.value_scalars.proofs.Formats.{scalar_at, no_size}
use Rattle.protocol.specs.Scalars.{of_size, scalar, format_rule, formats, rule_of}
use Rattle.value_scalars.proofs.scalar_ok.Goals as goal

pub returns-then-n-gt0 : goal.returns-then-n-gt0
unfolding of_size
returns-then-n-gt0 c = sym (c.fixed_size-n.ensures.rule c.if-n-gt0.true _)

pub returns-then-format-eq-FORMAT_BOOL : goal.returns-then-format-eq-FORMAT_BOOL
unfolding scalar format_rule formats rule_of
returns-then-format-eq-FORMAT_BOOL c = scalar_at 9 _ _ _ c.if-format-eq-FORMAT_BOOL.true c.bool_ok.ensures

pub returns-then-format-eq-FORMAT_LOCAL_TIME : goal.returns-then-format-eq-FORMAT_LOCAL_TIME
unfolding scalar format_rule formats rule_of
returns-then-format-eq-FORMAT_LOCAL_TIME c = scalar_at 13 _ _ _ c.if-format-eq-FORMAT_LOCAL_TIME.true c.local_time_ok.ensures

pub ruled_ok-requires : goal.ruled_ok-requires
ruled_ok-requires c =
    (no_size _ _ c.fixed_size-n.ensures c.if-n-gt0.false, c.if-format-eq-FORMAT_BOOL.false, c.if-format-eq-FORMAT_LOCAL_TIME.false)
