-- `wire::be::uint_at` meets its contract. The invariant: the number so far is that of the bytes passed, and below 256 to their number.
use mathlib.Core.Path.{◌≡◌, sym, ap, ◌∙◌}
use Prim.Native.Nat.{ℕ, ◌+◌}
use native.Mathlib.Omega.{arith}
use lib.Dec.{lit<}
use lib.ListN.{get_or, take, drop}
use Rattle.wire.proofs.Numbers.{be_none, be_next, more_fits, part_at, part_end}
use Rattle.protocol.specs.Numbers.{be}
use Rattle.wire.proofs.be.uint_at.Goals as goal

pub loop-b-init : goal.loop-b-init
loop-b-init c = (sym (be_none c.args.s.now c.args.at), lit< tt)

pub overflow_mul-v : goal.overflow_mul-v
overflow_mul-v c =
    let l = c.loop-b in
    let p = part_at c.args.s.now c.args.at c.args.n l.b-index c.requires.0 c.loop-b-test.true in
    omega (arith, p.below, (more_fits l.v 0 l.b-index (omega (arith, p.below)) l.invariant.1 (lit< tt)).1)

pub loop-b-preserved : goal.loop-b-preserved
loop-b-preserved c =
    let l = c.loop-b in
    let a = c.args in
    let p = part_at a.s.now a.at a.n l.b-index c.requires.0 c.loop-b-test.true in
    let b = c.type_inv.s (a.at + l.b-index) in
    let f : c.from.result ≡ get_or a.s.now (a.at + l.b-index) 0 = c.from.ensures ∙ p.same in
    rw f
    (be_next a.s.now a.at l.b-index l.v (omega (arith, p.below)) l.invariant.0, (more_fits l.v (get_or a.s.now (a.at + l.b-index) 0) l.b-index (omega (arith, p.below)) l.invariant.1 (omega (arith, b))).0)

pub returns : goal.returns
returns c =
    let l = c.loop-b in
    let a = c.args in
    let e : l.b-index ≡ a.n = part_end a.s.now a.at a.n l.b-index c.requires.0 l.auto.b-index-end c.loop-b-test.false in
    l.invariant.0 ∙ ap (λ (k : ℕ). be (take k (drop a.at a.s.now))) e
