-- A name is text, so that this arm isn't reached.
use Rattle.std.proofs.Common.{sym, ◌∙◌}
use Rattle.cover_problem.proofs.NameLemmas.{name_is_text}
use Rattle.cover_problem.proofs.name.name_of.Goals as goal

pub returns-in-Err : goal.returns-in-Err
returns-in-Err c = absurd (c.in-Err.ensures.cases.0 (name_is_text c.args.word.now (sym c.is_name.ensures ∙ c.if-not-is_name.false)))
