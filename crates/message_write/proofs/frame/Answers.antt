use mathlib.Core.Path.{◌∙◌}
use Rattle.message_write.proofs.Caps.{cap_min}
use Rattle.message_write.proofs.Contents.{framed_number, framed_content}
use Rattle.message_write.proofs.frame.Goals as goal

pub returns-then-code-gt-BYTES : goal.returns-then-code-gt-BYTES
returns-then-code-gt-BYTES c =
    framed_number _ _ _ _ _ _ c.if-code-gt-BYTES.true (c.min.ensures ∙ cap_min _) c.put_bytes.ensures

pub returns : goal.returns
returns c =
    framed_content _ _ _ _ _ _ _ _
    c.requires.0
    c.if-code-gt-BYTES.false
    (c.min-2.ensures ∙ cap_min _) c.put_u32.ensures
    c.put_bytes-2.ensures c.put_bytes-3.ensures
