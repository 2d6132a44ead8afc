-- `plan_nodes::words::size_at` meets its contract: a law for each kind.
use mathlib.Core.Path.{◌∙◌}
use native.Mathlib.Omega.{arith}
use Rattle.plan_nodes.proofs.Nodes.{five_six}
use Rattle.plan_nodes.proofs.Sizes.{size_tuple, size_pairs, size_enum, size_other}
use Rattle.plan_nodes.proofs.words.size_at.Goals as goal

pub returns-in-4 : goal.returns-in-4
returns-in-4 c = size_tuple _ _ _ c.in-4.is (c.wide-n.ensures ∙ c.word_at.ensures)

pub returns-in-8 : goal.returns-in-8
returns-in-8 c = size_enum _ _ c.in-8.is

pub returns-in-5 : goal.returns-in-5
returns-in-5 c = size_pairs _ _ _ (five_six _ (omega arith) (omega arith)) (c.wide-n.ensures ∙ c.word_at.ensures)

pub returns-in_default : goal.returns-in_default
returns-in_default c = size_other _ _ (λ e. omega arith) (λ e. omega arith) (λ e. omega arith) (λ e. omega arith)

pub returns-in_default-2 : goal.returns-in_default-2
returns-in_default-2 c = size_other _ _ (λ e. omega arith) (λ e. omega arith) (λ e. omega arith) (λ e. omega arith)
