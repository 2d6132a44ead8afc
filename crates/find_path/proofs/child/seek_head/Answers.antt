-- `find_path::child::seek_head` meets its contract.
use mathlib.Core.Path.{sym, ◌∙◌}
use native.Mathlib.Omega.{arith}
use Rattle.std.proofs.lemmas.Result.{err_from_is_err_and}
use Rattle.find_path.proofs.Seeks.{seek_refused, seek_found, seek_next, head_end, seek_none}
use Rattle.find_path.proofs.child.seek_head.Goals as goal

pub returns-in_err-head : goal.returns-in_err-head
returns-in_err-head c =
    let p = err_from_is_err_and c.from_residual.result c.from_residual.ensures.1 in
    rw (p.1, p.2) (seek_refused _ _ _ _ _ _ (omega arith) _ c.in_err-head.ensures ∙ c.loop-i.invariant.sought)

pub returns-then-index_of-wanted : goal.returns-then-index_of-wanted
returns-then-index_of-wanted c =
    seek_found _ _ _ _ _ _ (omega arith) _ c.in_ok-head.ensures _ c.index_of.ensures c.if-index_of-wanted.true
    ∙ c.loop-i.invariant.sought

pub end_of-at-requires : goal.end_of-at-requires
end_of-at-requires c =
    omega (arith, head_end _ _ _ _ _ c.in_ok-head.ensures c.loop-i.invariant.inside, c.requires.4)

pub loop-i-preserved : goal.loop-i-preserved
loop-i-preserved c = record {
  inside = omega (arith, head_end _ _ _ _ _ c.in_ok-head.ensures c.loop-i.invariant.inside, c.end_of-at.ensures);
  sought =
      rw c.end_of-at.ensures
      (sym (seek_next _ _ _ _ _ _ (omega arith) _ c.in_ok-head.ensures _ c.index_of.ensures c.if-index_of-wanted.false _ (omega arith))
      ∙ c.loop-i.invariant.sought);
}

pub returns : goal.returns
returns c = seek_none _ _ _ _ _ _ (omega arith) ∙ c.loop-i.invariant.sought
