use Rattle.x_snapshot.proofs.WholeAgain.{parts_again}
use Rattle.x_snapshot.proofs.laws.written_is_read.Goals as goal

pub returns : goal.returns
returns c = parts_again
