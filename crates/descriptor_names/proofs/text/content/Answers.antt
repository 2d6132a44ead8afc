-- `descriptor_names::text::content` meets its contract.
use Rattle.descriptor_names.proofs.Texts.{text_none, text_cut}
use Rattle.descriptor_names.proofs.text.content.Goals as goal

pub returns-then-d-at : goal.returns-then-d-at
returns-then-d-at c = text_none _ _ c.if-d-at.true

pub returns : goal.returns
returns c = text_cut _ _ _ _ c.u32_at-size.ensures c.min.ensures
