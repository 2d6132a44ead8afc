use mathlib.Core.Path.{refl}
use mathlib.Core.List.{[], ◌∷◌}
use Rattle.value_scalars.specs.Sizes.{fixed_size, size_of}
use Rattle.value_scalars.proofs.Formats.{size_is, size_none}
use Rattle.protocol.specs.Numbers.{pick}
use Rattle.protocol.specs.Scalars.{format_rule, formats}
use Rattle.value_scalars.proofs.format.fixed_size.Goals as goal

pub returns-in-3 : goal.returns-in-3
unfolding fixed_size format_rule formats size_of pick
returns-in-3 c = size_is 2 (3 ∷ []) refl _ c.in-3.is

pub returns-in-4 : goal.returns-in-4
unfolding fixed_size format_rule formats size_of pick
returns-in-4 c = size_is 4 (4 ∷ 6 ∷ 12 ∷ []) refl _ c.in-4.is

pub returns-in-5 : goal.returns-in-5
unfolding fixed_size format_rule formats size_of pick
returns-in-5 c = size_is 8 (5 ∷ 7 ∷ 10 ∷ 19 ∷ []) refl _ c.in-5.is

pub returns-in-11 : goal.returns-in-11
unfolding fixed_size format_rule formats size_of pick
returns-in-11 c = size_is 8 (11 ∷ []) refl _ c.in-11.is

pub returns-in-0 : goal.returns-in-0
unfolding fixed_size format_rule formats size_of pick
returns-in-0 c = size_is 16 (0 ∷ 17 ∷ []) refl _ c.in-0.is

pub returns-in-18 : goal.returns-in-18
unfolding fixed_size format_rule formats size_of pick
returns-in-18 c = size_is 16 (18 ∷ []) refl _ c.in-18.is

pub returns-in_default : goal.returns-in_default
unfolding fixed_size format_rule formats size_of pick
returns-in_default c =
    size_none ((18 ∷ []) ∷ (0 ∷ 17 ∷ []) ∷ (11 ∷ []) ∷ (5 ∷ 7 ∷ 10 ∷ 19 ∷ []) ∷ (4 ∷ 6 ∷ 12 ∷ []) ∷ (3 ∷ []) ∷ []) refl _ c.in_default.in_default-own.rest
