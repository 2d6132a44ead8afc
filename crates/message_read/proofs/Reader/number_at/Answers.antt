use native.Mathlib.Omega.{arith}
use Rattle.message_read.specs.Scan.{Inside}
use Rattle.message_read.proofs.Fields.{number_short, number_good, number_bad, number_any}
use Rattle.message_read.proofs.Reader.number_at.Goals as goal
use Rattle.message_read.proofs.Reader.number_at.Goals.{else-self-via-then-self+else-not-admits, else-self-via-else-self}

pub returns-then-self-at : goal.returns-then-self-at
unfolding Inside
returns-then-self-at c =
    record { value = number_short _ _ _ _ c.requires.0 c.width_of-len.ensures.width _ c.if-self-at.true; inside = tt }

pub returns-then-not-admits : goal.returns-then-not-admits
unfolding Inside
returns-then-not-admits c = record {
  value = number_bad _ _ _ _ c.requires.0 c.width_of-len.ensures.width c.if-self-at.false _ _ c.admits.ensures c.if-self.true c.if-not-admits.true;
  inside = tt;
}

pub returns : goal.returns
unfolding Inside
returns c = record {
  value = elim c.else-self.branch [
    | else-self-via-then-self+else-not-admits w ↦
        number_good _ _ _ _ c.requires.0 c.width_of-len.ensures.width c.if-self-at.false _ _ w.admits.ensures w.if-self.true w.if-not-admits.false
    | else-self-via-else-self w ↦ number_any _ _ _ _ c.requires.0 c.width_of-len.ensures.width c.if-self-at.false _ w.if-self.false
  ];
  inside = (omega (arith, c.width_of-len.ensures.some c.requires.0), c.if-self-at.false);
}
