use Rattle.std.proofs.Common.{ℕ, List, Result, Ok, Err, IfOk, subst}
use Rattle.text_lines.specs.declared.refusal.TextRefusal.{TextRefusal}
use Rattle.text_lines.specs.Answers.{GivesAt}
use Rattle.cover_problem.specs.declared.fault.Fault.{Fault}
use Rattle.cover_problem.specs.Problem.{ProblemValue}
use Rattle.cover_problem.specs.Reading.{problem_of}
use Rattle.cover_problem.specs.Grammar.{IsCoverText}
use Rattle.cover_problem.proofs.TextLemmas.{read_is_text}
use Rattle.cover_problem.proofs.GrammarLemmas.{text_again}
use Rattle.cover_problem.proofs.reading.read_cover.Goals as goal

is_text : (text : List ℕ) (r : Result ProblemValue (TextRefusal Fault)) → GivesAt (λ p. p) r (problem_of text) → IfOk r (λ p. IsCoverText text p)
is_text text (Ok p) h = read_is_text text p h
is_text text (Err f) h = tt

pub returns-clause-text : goal.returns-clause-text
returns-clause-text c = is_text c.args.bytes.now c.read_problem.result c.read_problem.ensures

pub returns-clause-every : goal.returns-clause-every
returns-clause-every c = λ p t. subst (λ found. GivesAt {X = ProblemValue} {S = ProblemValue} (λ q. q) c.read_problem.result found) (text_again c.args.bytes.now p t) c.read_problem.ensures
