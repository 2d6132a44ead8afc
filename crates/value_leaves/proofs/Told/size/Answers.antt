use Rattle.value_leaves.specs.Leaves.{told_size}
use Rattle.value_leaves.proofs.Told.size.Goals as goal

pub returns-in-Size : goal.returns-in-Size
unfolding told_size
returns-in-Size c = rw c.in-Size.is

pub returns-in-Time : goal.returns-in-Time
unfolding told_size
returns-in-Time c = rw c.in-Time.is
