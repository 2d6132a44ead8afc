-- `wire::copy::put_bytes` meets its contract. The invariant: the first `i` bytes of the part are stored.
use mathlib.Core.Path.{◌≡◌, sym, ap, ◌∙◌}
use mathlib.Core.List.{List}
use Prim.Native.Nat.{ℕ, ◌+◌, ◌<◌}
use native.Mathlib.Omega.{arith}
use lib.ListN.{length, get_or, set, length-set}
use Rattle.wire.proofs.Stores.{sets_out, copy_more, copy_end}
use Rattle.wire.proofs.copy.put_bytes.Goals as goal

pub loop-i-preserved : goal.loop-i-preserved
loop-i-preserved c =
    let l = c.loop-i in
    let a = c.args in
    let h : l.i < length a.part.now = omega (arith, c.min-n.ensures, c.loop-i-test.true) in (
      ap (λ (o : List ℕ). set o (a.at + l.i) (get_or a.part.now l.i 0)) l.invariant.0 ∙ copy_more a.out.now a.part.now a.at l.i h,
      simp length-set l.invariant.1,
    )

pub returns-after-loop-i : goal.returns-after-loop-i
returns-after-loop-i c =
    let l = c.loop-i in
    let a = c.args in
    let e : l.i ≡ c.min-n.result = omega (arith, c.loop-i-test.false, l.auto) in
    l.invariant.0 ∙ copy_end a.out.now a.part.now a.at l.i (e ∙ c.min-n.ensures)

pub returns-else-at-out : goal.returns-else-at-out
returns-else-at-out c = sym (sets_out c.args.out.now c.args.at c.args.part.now (omega arith))
