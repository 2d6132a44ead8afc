-- `find_path::child::head_at` meets its contract: a sparse object's element by its index, another by its place.
use mathlib.Core.Path.{refl, sym, ◌∙◌}
use Rattle.std.proofs.lemmas.Result.{err_from_is_err_and}
use Rattle.value_parts.proofs.Members.{known_in}
use Rattle.find_path.proofs.Seeks.{head_row, head_sparse_bad, head_sparse}
use Rattle.find_path.proofs.child.head_at.Goals as goal

pub index_at-requires : goal.index_at-requires
index_at-requires c = (c.requires.0, sym c.requires.1.is ∙ c.if-kind-eq-KIND_INPUT_OBJECT.true, c.requires.3)

pub returns-in_err-index : goal.returns-in_err-index
returns-in_err-index c =
    let p = err_from_is_err_and c.from_residual.result c.from_residual.ensures.1 in
    rw (p.1, p.2)
    (head_sparse_bad _ _ c.requires.0 _ c.requires.1 _ _ _ c.if-kind-eq-KIND_INPUT_OBJECT.true _ c.in_err-index.ensures)

pub sparse_head-requires : goal.sparse_head-requires
sparse_head-requires c =
    let six = sym c.requires.1.is ∙ c.if-kind-eq-KIND_INPUT_OBJECT.true in
    let i = known_in _ _ c.requires.0 six _ _ _ _ refl c.in_ok-index.ensures c.requires.3 in
    (c.requires.0, six, i.0, i.2)

pub returns-then-kind-eq-KIND_INPUT_OBJECT : goal.returns-then-kind-eq-KIND_INPUT_OBJECT
returns-then-kind-eq-KIND_INPUT_OBJECT c =
    head_sparse _ _ c.requires.0 _ c.requires.1 _ _ _ c.if-kind-eq-KIND_INPUT_OBJECT.true _ c.in_ok-index.ensures _ c.sparse_head.ensures

pub row_head-requires : goal.row_head-requires
row_head-requires c =
    (c.requires.0, c.requires.1, c.if-kind-eq-KIND_INPUT_OBJECT.false, c.requires.2, c.requires.3)

pub returns : goal.returns
returns c =
    head_row _ _ c.requires.0 _ c.requires.1 _ _ _ c.if-kind-eq-KIND_INPUT_OBJECT.false _ c.row_head.ensures
