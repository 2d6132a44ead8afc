use mathlib.Core.Path.{sym, ap, ◌∙◌}
use native.Mathlib.Omega.{arith}
use Rattle.std.proofs.lemmas.Result.{err_from_is_err_and}
use Rattle.descriptor_fields.specs.Fields.{id_at}
use Rattle.descriptor_compile.proofs.Compiles.{blocks_refused, ended, blocks_rootless, blocks_planned}
use Rattle.descriptor_compile.proofs.check_blocks.Goals as goal

pub returns-in_err-scanned : goal.returns-in_err-scanned
returns-in_err-scanned c =
    let p = err_from_is_err_and c.from_residual.result c.from_residual.ensures.1 in rw (p.1, p.2) (blocks_refused _ _ _ _ _ _ c.in_err-scanned.ensures _)

pub invariant_of-earlier : goal.invariant_of-earlier
invariant_of-earlier c = record { told = (ended _ (id_at c.args.root.now 0) _ _ _ _ c.in_ok-scanned.ensures).kept.told }

pub overflow_cast-words : goal.overflow_cast-words
overflow_cast-words c =
    let k = (ended _ (id_at c.args.root.now 0) _ _ _ _ c.in_ok-scanned.ensures).kept in
    omega (arith, k.most, k.told.few)

pub returns-in-Some : goal.returns-in-Some
returns-in-Some c =
    blocks_planned _ (id_at c.args.root.now 0) _ _ _ _ c.in_ok-scanned.ensures _ c.root_node.ensures _ c.in-Some.is _ c.put_two.ensures

pub returns-in-None : goal.returns-in-None
returns-in-None c =
    rw c.at.ensures (blocks_rootless _ (id_at c.args.root.now 0) _ _ _ _ c.in_ok-scanned.ensures _ c.root_node.ensures c.in-None.is)
