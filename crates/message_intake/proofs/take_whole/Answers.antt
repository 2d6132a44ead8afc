use native.Mathlib.Omega.{arith}
use lib.ListN.{length-take}
use Rattle.message_intake.proofs.Takes.{whole_refused, whole_given}
use Rattle.message_intake.proofs.take_whole.Goals as goal

pub slice_bounds-put_bytes-end : goal.slice_bounds-put_bytes-end
slice_bounds-put_bytes-end c =
    simp length-take (omega (arith, c.min.ensures, c.requires))

pub slice_bounds-check-end-2 : goal.slice_bounds-check-end-2
slice_bounds-check-end-2 c =
    simp length-take (omega
    (arith, c.put_bytes.auto.out, c.requires))

pub returns-in-Err : goal.returns-in-Err
returns-in-Err c =
    let p = c.requires in
    rw (c.refusing.ensures, c.ended.ensures, c.number-number.ensures)
    (whole_refused _ c.args.src.now _ _ _ p.0 p.1 p.2 c.min.ensures _ _ c.put_bytes.ensures _ _ _ c.in-Err.ensures)

pub returns-in-Ok : goal.returns-in-Ok
returns-in-Ok c =
    let p = c.requires in
    rw (c.taking.ensures, c.reset.ensures)
    (whole_given _ c.args.src.now _ _ _ p.0 p.1 p.2 c.min.ensures _ _ c.put_bytes.ensures _ _ _ c.in-Ok.ensures)
