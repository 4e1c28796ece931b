use Rattle.std.proofs.Common.{◌≡◌, ◌∙◌, sym, length, arith}
use Rattle.std.proofs.lemmas.List.{length-map}
use Rattle.cover_problem.specs.Problem.{is_small, are_within}
use Rattle.cover_problem.specs.Views.{name_bytes, problem_of_parts}
use Rattle.cover_problem.proofs.ReadingLemmas.{within_limits, over_limits}
use Rattle.cover_problem.proofs.draft.within.Goals as goal

pub returns-then-not-is_within : goal.returns-then-not-is_within
returns-then-not-is_within c =
    let p = problem_of_parts c.args.names.keys c.args.primary c.args.options in
    let names : length (name_bytes c.args.names.keys) ≡ c.len.result = simp length-map (omega arith) in
    let size : is_small p ≡ are_within c.len.result c.len-2.result c.args.entries = let counted = c.requires.counted in let count = c.len-2.ensures in cc in
    over_limits p (size ∙ sym c.is_within.ensures ∙ c.if-not-is_within.true)

pub invariant_of-result : goal.invariant_of-result
invariant_of-result c =
    let p = problem_of_parts c.args.names.keys c.args.primary c.args.options in
    let names : length (name_bytes c.args.names.keys) ≡ c.len.result = simp length-map (omega arith) in
    let size : is_small p ≡ are_within c.len.result c.len-2.result c.args.entries = let counted = c.requires.counted in let count = c.len-2.ensures in cc in
    record {
      small = size ∙ sym c.is_within.ensures ∙ c.if-not-is_within.false;
      within = simp length-map c.requires.primary;
      named = c.requires.named;
      counted = c.requires.counted;
      marked = simp length-map c.requires.marked;
      old = c.requires.old;
    }

pub returns : goal.returns
returns c =
    let p = problem_of_parts c.args.names.keys c.args.primary c.args.options in
    let names : length (name_bytes c.args.names.keys) ≡ c.len.result = simp length-map (omega arith) in
    let size : is_small p ≡ are_within c.len.result c.len-2.result c.args.entries = let counted = c.requires.counted in let count = c.len-2.ensures in cc in
    within_limits p (size ∙ sym c.is_within.ensures ∙ c.if-not-is_within.false)
