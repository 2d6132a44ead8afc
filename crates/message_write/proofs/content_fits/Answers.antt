use Rattle.message_write.proofs.Contents.{text_fits, content_any}
use Rattle.message_write.proofs.content_fits.Goals as goal

pub returns-then-code-eq-BYTES : goal.returns-then-code-eq-BYTES
returns-then-code-eq-BYTES c = content_any _ _ _ c.requires.0 c.if-code-gt-BYTES.false c.then-code-eq-BYTES.either

pub returns : goal.returns
returns c =
    text_fits _ _ _ c.requires.0 c.if-code-gt-BYTES.false c.if-code-eq-BYTES.false _ c.if-not-judge.false c.is_utf8.ensures
