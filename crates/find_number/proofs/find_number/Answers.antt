-- `find_number::find_number` meets its contract.
use native.Mathlib.Omega.{arith}
use Rattle.std.proofs.lemmas.Result.{err_from_is_err_and}
use Rattle.find_path.specs.Find.{outcome}
use Rattle.find_path.proofs.Calls.{find_accepts}
use Rattle.find_number.proofs.Numbers.{number_refused, number_node, number_found}
use Rattle.protocol.specs.Finding.{number_of}
use Rattle.find_number.proofs.find_number.Goals as goal

pub returns-in_err-found : goal.returns-in_err-found
unfolding number_of outcome
returns-in_err-found c =
    let p = err_from_is_err_and c.from_residual.result c.from_residual.ensures.1 in
    rw (p.1, p.2) (number_refused _ _ _ c.in_err-found.ensures)

pub of_node-requires : goal.of_node-requires
unfolding outcome
of_node-requires c =
    number_node _ _ _ _ _ c.in_ok-found.ensures (find_accepts _ _ _ (λ j. omega (arith, c.type_inv.plan j)))

pub returns : goal.returns
unfolding number_of outcome
returns c = number_found _ _ _ _ _ c.in_ok-found.ensures _ c.of_node.ensures
