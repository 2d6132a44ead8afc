-- `find_number::of_format` meets its contract.
use mathlib.Core.Path.{refl, sym, ◌∙◌}
use native.Mathlib.Omega.{arith}
use Rattle.wire.proofs.Numbers.{be_below}
use Rattle.find_number.proofs.Bits.{integer_width, width_few, single_size, double_size, truth_size, truth_low, gives_integer, gives_bits, gives_truth, gives_none}
use Rattle.protocol.specs.Numbers.{pick}
use Rattle.protocol.specs.Finding.{integral, plain_bits}
use Rattle.find_number.proofs.of_format.Goals as goal

pub u32_at-requires : goal.u32_at-requires
u32_at-requires c = omega (arith, single_size _ _ c.requires c.in-6.is)

pub uint_at-requires : goal.uint_at-requires
uint_at-requires c = (omega (arith, double_size _ _ c.requires c.in-7.is), omega arith)

pub bounds-part-0 : goal.bounds-part-0
bounds-part-0 c = omega (arith, truth_size _ _ c.requires c.in-9.is)

pub returns-in-6 : goal.returns-in-6
unfolding integral plain_bits pick
returns-in-6 c = gives_bits _ _ 6 4 _ _ c.single.ensures c.u32_at.ensures (single_size _ _ c.requires c.in-6.is) c.in-6.is refl refl

pub returns-in-7 : goal.returns-in-7
unfolding integral plain_bits pick
returns-in-7 c = gives_bits _ _ 7 8 _ _ c.double.ensures c.uint_at.ensures (double_size _ _ c.requires c.in-7.is) c.in-7.is refl refl

pub returns-in-9 : goal.returns-in-9
returns-in-9 c = gives_truth _ _ c.in-9.is (truth_size _ _ c.requires c.in-9.is) (truth_low _ _ c.requires c.in-9.is)

pub uint_at-requires-in_default : goal.uint_at-requires-in_default
uint_at-requires-in_default c =
    (omega arith, width_few _ (integer_width _ _ c.requires (sym c.is_integer.ensures ∙ c.if-is_integer.true)))

pub extend-bits-requires : goal.extend-bits-requires
extend-bits-requires c = (
  integer_width _ _ c.requires (sym c.is_integer.ensures ∙ c.if-is_integer.true),
  rw c.uint_at-in_default.ensures (be_below _ 0 _ (λ i. omega (arith, c.type_inv.part i)) (omega arith)),
)

pub returns-in_default : goal.returns-in_default
returns-in_default c =
    gives_integer _ _ (sym c.is_integer.ensures ∙ c.if-is_integer.true) _ _ c.uint_at-in_default.ensures c.extend-bits.ensures

pub returns-in_default-2 : goal.returns-in_default-2
returns-in_default-2 c =
    rw c.at.ensures
    (gives_none _ _ (sym c.is_integer.ensures ∙ c.if-is_integer.false) (λ e. omega arith) (λ e. omega arith) (λ e. omega arith))
