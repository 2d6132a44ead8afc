-- `value_leaves::fixed_leaf` meets its contract: its tests are those of `fixed_leaf`, in its order.
use mathlib.Core.Path.{◌≡◌, refl, ◌∙◌}
use mathlib.Core.Bool.{true, false}
use native.Mathlib.Omega.{arith}
use Rattle.value_leaves.specs.Leaves.{told_size, good}
use Rattle.value_leaves.proofs.Single.{told_short, told_other, told_time, told_any}
use Rattle.protocol.specs.Numbers.{pick}
use Rattle.protocol.specs.Heads.{word}
use Rattle.value_leaves.proofs.fixed_leaf.Goals as goal
use Rattle.value_leaves.proofs.fixed_leaf.Goals.{then-part-pos-via-then-part-pos, then-part-pos-via-else-part-pos+then-u32_at-len}

pub overflow_add-len : goal.overflow_add-len
overflow_add-len c = omega (arith, c.requires.1, c.size-len.ensures)

pub overflow_cast-len : goal.overflow_cast-len
overflow_cast-len c = omega (arith, c.requires.1, c.size-len.ensures)

pub returns-then-part-pos : goal.returns-then-part-pos
unfolding word
returns-then-part-pos c =
    elim c.then-part-pos.branch [
      | then-part-pos-via-then-part-pos w ↦ told_short _ _ _ _ c.size-len.ensures w.if-part-pos.true
      | then-part-pos-via-else-part-pos+then-u32_at-len w ↦
          told_other _ _ _ _ c.size-len.ensures w.if-part-pos.false _ w.u32_at.ensures w.if-u32_at-len.true
    ]

pub in_day-requires : goal.in_day-requires
unfolding told_size
in_day-requires c =
    let e : c.size-len.result ≡ 8 = c.size-len.ensures ∙ rw c.in-Time.is refl in
    omega (arith, c.if-part-pos.false, c.requires.0)

pub returns-in-Size : goal.returns-in-Size
unfolding word good
returns-in-Size c =
    told_any _ _ _ _ c.size-len.ensures c.if-part-pos.false _ c.u32_at.ensures c.if-u32_at-len.false c.requires.0 _ c.in-Size.is

pub returns-in-Time : goal.returns-in-Time
unfolding word pick good
returns-in-Time c =
    told_time _ _ _ _ c.size-len.ensures c.if-part-pos.false _ c.u32_at.ensures c.if-u32_at-len.false c.in-Time.is _ true
    c.in_day.ensures c.if-in_day.true

pub returns-in-Time-2 : goal.returns-in-Time-2
unfolding word pick
returns-in-Time-2 c =
    told_time _ _ _ _ c.size-len.ensures c.if-part-pos.false _ c.u32_at.ensures c.if-u32_at-len.false c.in-Time-2.is _ false
    c.in_day.ensures c.if-in_day.false
