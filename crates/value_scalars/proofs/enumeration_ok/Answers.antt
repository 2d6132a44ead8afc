use Rattle.protocol.specs.Scalars.{enumeration}
use Rattle.value_scalars.proofs.enumeration_ok.Goals as goal

pub returns : goal.returns
unfolding enumeration
returns c = c.is_utf8.ensures
