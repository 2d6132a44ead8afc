-- `descriptor_names::text::same_name` meets its contract: runs that differ in their length or in a byte are not the same.
use mathlib.Core.Path.{sym}
use native.Mathlib.Omega.{arith}
use Rattle.descriptor_names.proofs.Texts.{unlike_lengths, unlike_byte}
use Rattle.descriptor_names.proofs.text.same_name.Goals as goal

pub returns-then-n-b : goal.returns-then-n-b
returns-then-n-b c = sym (unlike_lengths _ _ c.if-n-b.true)

pub returns-then-a-n : goal.returns-then-a-n
returns-then-a-n c = sym (unlike_byte _ _ _ (omega arith) c.if-a-n.true)
