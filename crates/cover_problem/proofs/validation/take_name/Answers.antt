use Rattle.std.proofs.Common.{sym, ◌∙◌}
use Rattle.std.proofs.lemmas.Bool.{not-false, not-true}
use Rattle.std.proofs.lemmas.Result.{err_from_is_err_and}
use Rattle.cover_problem.proofs.NameLemmas.{not_a_name, name_repeated, name_added}
use Rattle.cover_problem.proofs.validation.take_name.Goals as goal

pub returns-in_err-name : goal.returns-in_err-name
returns-in_err-name c =
    let p = err_from_is_err_and c.from_residual.result c.from_residual.ensures.1 in
    rw (p.1, p.2, c.in_err-name.ensures.0) (not_a_name _ _ c.in_err-name.ensures.1)

pub returns-then-not-branch : goal.returns-then-not-branch
returns-then-not-branch c =
    name_repeated (λ n. n.bytes) c.args.names.now.keys c.in_ok-name.name c.args.word.now c.in_ok-name.ensures.0 c.in_ok-name.ensures.1
    (not-false _ (sym c.in_ok-insert.ensures.added ∙ c.if-not-branch.true))

pub returns : goal.returns
returns c =
    let new = not-true _ (sym c.in_ok-insert.ensures.added ∙ c.if-not-branch.false) in
    rw (c.in_ok-insert.ensures.keys, new)
    (name_added (λ n. n.bytes) c.args.names.now.keys c.in_ok-name.name c.args.word.now c.in_ok-name.ensures.0 c.in_ok-name.ensures.1 new)
