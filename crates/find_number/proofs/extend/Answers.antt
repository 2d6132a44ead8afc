-- `find_number::extend` meets its contract.
use mathlib.Core.Path.{◌≡◌, ap, ◌∙◌}
use native.Mathlib.Omega.{arith}
use Prim.Native.Nat.{◌^◌, ◌<◌}
use mir.Syntax.{w16, w32, w64}
use mir.Val.{to_z, of_z}
use Rattle.std.proofs.lemmas.Int.{to_z-of_z, of_z-to_z}
use Rattle.find_number.proofs.Bits.{extend_two, extend_four, extend_whole, last_width}
use Rattle.find_number.proofs.extend.Goals as goal

pub returns-in-2 : goal.returns-in-2
returns-in-2 c =
    let n : c.args.n < 2 ^ 16 = rw c.in-2.is at c.requires.1 in
    let z : c.from.result ≡ to_z w16 c.args.n = c.from.ensures ∙ ap (to_z w16) (ap (of_z w16) c.cast_signed.ensures ∙ of_z-to_z w16 _ n) in
    rw c.in-2.is
    (c.cast_unsigned.ensures ∙ ap (of_z w64) (to_z-of_z w64 _ (record { sfits = c.from.type_inv }) ∙ z) ∙ extend_two _ n)

pub returns-in-4 : goal.returns-in-4
returns-in-4 c =
    let n : c.args.n < 2 ^ 32 = rw c.in-4.is at c.requires.1 in
    let z : c.from-in-4.result ≡ to_z w32 c.args.n = c.from-in-4.ensures ∙ ap (to_z w32) (ap (of_z w32) c.cast_signed-in-4.ensures ∙ of_z-to_z w32 _ n) in
    rw c.in-4.is
    (c.cast_unsigned-in-4.ensures ∙ ap (of_z w64) (to_z-of_z w64 _ (record { sfits = c.from-in-4.type_inv }) ∙ z) ∙ extend_four _ n)

pub returns-in_default : goal.returns-in_default
returns-in_default c =
    rw (last_width _ c.requires.0 (λ e. omega arith) (λ e. omega arith)) (extend_whole _)
