use native.Mathlib.Omega.{arith}
use mathlib.Core.Path.{◌∙◌}
use Rattle.std.proofs.lemmas.Result.{err_from_is_err_and}
use Rattle.message_read.specs.Scan.{Inside}
use Rattle.message_read.proofs.Fields.{bytes_are, text_good, text_bad, content_taken, content_refused}
use Rattle.message_read.proofs.Reader.field_at.Goals as goal
use Rattle.message_read.proofs.Reader.field_at.Goals.{then-self+then-code-eq-TEXT+else-not-is_utf8, else-self, else-self-via-then-self+else-code-eq-TEXT, else-self-via-else-self}

pub returns-in_err-content : goal.returns-in_err-content
unfolding Inside
returns-in_err-content c =
    let p = err_from_is_err_and c.from_residual.result c.from_residual.ensures.1 in
    rw (p.1, p.2) (record { value = content_refused _ _ _ _ _ c.requires.0 c.if-code-gt-BYTES.false c.in_err-content.ensures.value; inside = tt })

pub overflow_add-end : goal.overflow_add-end
unfolding Inside
overflow_add-end c = omega (arith, c.in_ok-content.ensures.inside)

pub slice_bounds-is_utf8-end : goal.slice_bounds-is_utf8-end
unfolding Inside
slice_bounds-is_utf8-end c = omega (arith, c.in_ok-content.ensures.inside)

pub returns-then-not-is_utf8 : goal.returns-then-not-is_utf8
unfolding Inside
returns-then-not-is_utf8 c = record {
  value = text_bad _ _ _ _ c.if-code-eq-TEXT.true _ c.in_ok-content.ensures.value c.if-self.true _ c.is_utf8.ensures c.if-not-is_utf8.true;
  inside = tt;
}

pub returns : goal.returns
returns c = record {
  value = elim c.if-self.branch [
    | then-self+then-code-eq-TEXT+else-not-is_utf8 w ↦
        text_good _ _ _ _ w.if-code-eq-TEXT.true _ c.in_ok-content.ensures.value w.if-self.true _ w.is_utf8.ensures w.if-not-is_utf8.false
    | else-self w ↦ c.in_ok-content.ensures.value ∙ elim w.else-self.branch [
      | else-self-via-then-self+else-code-eq-TEXT w' ↦ bytes_are _ _ _ _ (omega (arith, c.requires, c.if-code-gt-BYTES.false, w'.if-code-eq-TEXT.false))
      | else-self-via-else-self w' ↦ content_taken _ _ _ _ c.requires.0 c.if-code-gt-BYTES.false w'.if-self.false
    ]
  ];
  inside = c.in_ok-content.ensures.inside;
}
