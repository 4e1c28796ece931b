use Rattle.std.proofs.Common.{◌∙◌, sym, [], ◌∷◌}
use Rattle.std.proofs.lemmas.List.{same_from_push}
use Rattle.cover_problem_tests.proofs.table_tests.back_to_a.Goals as goal

pub uncover-requires : goal.uncover-requires
uncover-requires c = (1 ∷ 4 ∷ [], c.requires)

pub uncover-requires-2 : goal.uncover-requires-2
uncover-requires-2 c = (1 ∷ [], sym (same_from_push (1 ∷ 4 ∷ []) c.uncover.new.self.covered 7 7 (sym c.requires ∙ c.uncover.ensures.covered)).0)

pub returns-clause-covered : goal.returns-clause-covered
returns-clause-covered c =
    let first = sym (same_from_push (1 ∷ 4 ∷ []) c.uncover.new.self.covered 7 7 (sym c.requires ∙ c.uncover.ensures.covered)).0 in
    sym (same_from_push (1 ∷ []) c.uncover-2.new.self.covered 4 4 (sym first ∙ c.uncover-2.ensures.covered)).0
