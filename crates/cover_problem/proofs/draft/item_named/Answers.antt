use Rattle.std.proofs.Common.{sym, ◌∙◌}
use Rattle.cover_problem.proofs.ReadingLemmas.{item_found, item_not_found}
use Rattle.cover_problem.proofs.draft.item_named.Goals as goal

pub returns-in-Some-clause-item : goal.returns-in-Some-clause-item
returns-in-Some-clause-item c =
    item_found (λ n. n.bytes) c.args.names.now.keys c.args.word.now c.requires.named c.in-Some.place c.in-Some.ensures.index

pub returns-clause-item : goal.returns-clause-item
returns-clause-item c =
    item_not_found (λ n. n.bytes) c.args.names.now.keys c.args.word.now (sym c.is_name.ensures ∙ c.if-not-is_name.false) (sym c.in_default.is ∙ c.get_index_of.ensures.index)
