use lib.ListN.{length}
use Rattle.find_path.proofs.+down.Given as goal

abbrev pub decreases-down : goal.decreases-down
decreases-down l = length l.path.now
