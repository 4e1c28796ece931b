use Rattle.std.proofs.Common.{sym}
use Rattle.x_snapshot.proofs.ReadLemmas.{no_text}
use Rattle.x_snapshot.proofs.reader.breaks.item_of.Goals as goal

pub returns-in-Err : goal.returns-in-Err
returns-in-Err c = sym (no_text c.args.word.now c.args.problem.now.names c.in-Err.ensures.cases.0 c.is_sound.ensures.problem.named)
