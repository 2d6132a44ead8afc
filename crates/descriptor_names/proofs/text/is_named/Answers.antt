-- `descriptor_names::text::is_named` meets its contract.
use mathlib.Core.Path.{sym, ap, ap₂, ◌∙◌}
use native.Mathlib.Omega.{arith}
use Rattle.std.proofs.Common.{below_more}
use Rattle.descriptor_fields.specs.Fields.{text_at}
use Rattle.descriptor_fields.specs.Arrays.{element_at}
use Rattle.descriptor_fields.proofs.Known.{named_hit, named_none}
use Rattle.protocol.specs.Numbers.{same_bytes}
use Rattle.descriptor_names.proofs.text.is_named.Goals as goal

pub loop-i-init : goal.loop-i-init
loop-i-init c = λ j h. absurd (omega arith)

pub returns-then-same_name : goal.returns-then-same_name
unfolding element_at
returns-then-same_name c =
    named_hit _ _ _ _ _ _ c.loop-i-test.true c.wide.ensures
    (ap₂ same_bytes (sym c.content.ensures) (sym c.content-name.ensures) ∙ sym c.same_name.ensures ∙ c.if-same_name.true)

pub loop-i-preserved : goal.loop-i-preserved
unfolding element_at
loop-i-preserved c =
    below_more _ _ c.loop-i.invariant
    (ap₂ same_bytes (ap (text_at c.args.d.now) (sym c.wide.ensures) ∙ sym c.content.ensures) (sym c.content-name.ensures) ∙ sym c.same_name.ensures ∙ c.if-same_name.false)

pub returns : goal.returns
unfolding element_at
returns c = named_none _ _ _ _ _ c.loop-i-test.false c.loop-i.invariant
