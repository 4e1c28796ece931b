use Rattle.std.proofs.Common.{◌∙◌, ap, sym, Some}
use Rattle.x_codes.specs.StateCode.{path_of, path_rest}
use Rattle.lab_history.proofs.ReaderLemmas.{cut_none, cut_some}
use Rattle.lab_history.proofs.code.reader.read_cut.Goals as goal

pub returns-then-number-eq0-clause-cut : goal.returns-then-number-eq0-clause-cut
returns-then-number-eq0-clause-cut c = sym (cut_none _ (sym c.number.ensures.number ∙ c.if-number-eq0.true)).0

pub returns-then-number-eq0-clause-rest : goal.returns-then-number-eq0-clause-rest
returns-then-number-eq0-clause-rest c = c.number.ensures.rest ∙ sym (cut_none _ (sym c.number.ensures.number ∙ c.if-number-eq0.true)).1

pub returns-clause-cut : goal.returns-clause-cut
returns-clause-cut c = ap Some (c.from.ensures ∙ c.in_ok-path.ensures.path ∙ ap path_of c.number.ensures.rest) ∙ sym (cut_some _ (λ z. c.if-number-eq0.false (c.number.ensures.number ∙ z))).0

pub returns-clause-rest : goal.returns-clause-rest
returns-clause-rest c = c.in_ok-path.ensures.rest ∙ ap path_rest c.number.ensures.rest ∙ sym (cut_some _ (λ z. c.if-number-eq0.false (c.number.ensures.number ∙ z))).1
