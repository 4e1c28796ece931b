use Rattle.debug_laws.proofs.AnswerLemmas.{answer_alike, line_alike, load_alike, answer_seated_alike, line_seated_alike, load_seated_alike}
use Rattle.debug_laws.proofs.laws.alike_sessions_answer_the_same.Goals as goal

pub returns-clause-command : goal.returns-clause-command
returns-clause-command c = λ a b d p. answer_alike a b p d

pub returns-clause-line : goal.returns-clause-line
returns-clause-line c = λ a b line p. line_alike a b p line

pub returns-clause-load : goal.returns-clause-load
returns-clause-load c = λ a b bytes p. load_alike a b p bytes

pub returns-clause-seated_command : goal.returns-clause-seated_command
returns-clause-seated_command c = λ a b d p. answer_seated_alike a b p d

pub returns-clause-seated_line : goal.returns-clause-seated_line
returns-clause-seated_line c = λ a b line p. line_seated_alike a b p line

pub returns-clause-seated_load : goal.returns-clause-seated_load
returns-clause-seated_load c = λ a b bytes p. load_seated_alike a b p bytes
