use mathlib.Core.Path.{refl}
use mathlib.Core.List.{[], ◌∷◌}
use Rattle.value_scalars.specs.Sizes.{fixed_size, size_of}
use Rattle.value_scalars.proofs.Formats.{scalar_at, scalar_none}
use Rattle.protocol.specs.Numbers.{pick}
use Rattle.protocol.specs.Scalars.{scalar, format_rule, formats, rule_of}
use Rattle.value_scalars.proofs.ruled_ok.Goals as goal

pub returns-in-1 : goal.returns-in-1
unfolding scalar format_rule formats rule_of
returns-in-1 c = scalar_at 1 _ _ _ c.in-1.is c.is_utf8.ensures

pub returns-in-2 : goal.returns-in-2
unfolding scalar format_rule formats rule_of
returns-in-2 c = scalar_at 2 _ _ _ c.in-2.is refl

pub returns-in-8 : goal.returns-in-8
unfolding scalar format_rule formats rule_of
returns-in-8 c = scalar_at 8 _ _ _ c.in-8.is c.decimal_ok.ensures

pub returns-in-14 : goal.returns-in-14
unfolding scalar format_rule formats rule_of
returns-in-14 c = scalar_at 14 _ _ _ c.in-14.is c.duration_ok.ensures

pub returns-in-15 : goal.returns-in-15
unfolding scalar format_rule formats rule_of
returns-in-15 c = scalar_at 15 _ _ _ c.in-15.is c.json_ok.ensures

pub returns-in-16 : goal.returns-in-16
unfolding scalar format_rule formats rule_of
returns-in-16 c = scalar_at 16 _ _ _ c.in-16.is c.bigint_ok.ensures

pub returns-in_default : goal.returns-in_default
unfolding fixed_size format_rule formats size_of pick
returns-in_default c =
    scalar_none ((13 ∷ []) ∷ (9 ∷ []) ∷ (16 ∷ []) ∷ (15 ∷ []) ∷ (14 ∷ []) ∷ (8 ∷ []) ∷ (2 ∷ []) ∷ (1 ∷ []) ∷ []) refl _ _ c.requires.0 ((c.in_default.in_default-own.rest, c.requires.1), c.requires.2)
