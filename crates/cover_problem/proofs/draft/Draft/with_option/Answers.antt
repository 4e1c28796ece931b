use Rattle.std.proofs.Common.{◌≡◌, ◌+◌, ◌∙◌, ℕ, List, Ok, [], ◌∷◌, ◌++◌, ap, subst, length, take, drop, length-append, arith, ne_eqb, ltb-true}
use Rattle.std.proofs.lemmas.List.{take-append-le, take_all}
use Rattle.text_lines.specs.Lines.{words_of}
use Rattle.cover_problem.specs.Validation.{within}
use Rattle.cover_problem.specs.Views.{name_bytes, problem_of_parts}
use Rattle.cover_problem.specs.Problem.{problem_with}
use Rattle.cover_problem.proofs.ReadingLemmas.{some_words, option_taken}
use Rattle.cover_problem.proofs.draft.Draft.with_option.Goals as goal

pub within-requires-clause-old : goal.within-requires-clause-old
within-requires-clause-old c =
    let one : length c.push.new.self ≡ length c.self.inside.options + 1 = ap length c.in_ok-push.ensures.added ∙ length-append c.self.inside.options (c.deref.result.now ∷ []) in
    let new = c.take_option.new.marks in
    let old = c.self.inside.marks in
    let long : old.len ≡ length new = omega (arith, old.ok.0, c.deref_mut.ensures.len, c.take_option.auto.marks) in
    let whole : take old.len (new ++ drop (length new) old.items) ≡ new = take-append-le old.len new (drop (length new) old.items) (omega arith) ∙ take_all old.len new (omega arith) in
    rw whole (λ k d l. let m = c.in_ok-take_option.ensures.marks k d l in omega (arith, m, c.len.ensures))

pub returns : goal.returns
returns c =
    let old = c.self.inside in
    let words = words_of c.args.words.now in
    let more : c.push.new.self ≡ old.options ++ c.take_option.new.taken.items ∷ [] = c.in_ok-push.ensures.added ∙ ap (λ (option : List ℕ). old.options ++ option ∷ []) c.deref.ensures.value in
    let line = option_taken (problem_of_parts old.names.keys old.primary old.options) words c.take_option.new.taken.items
    (some_words words c.has_words.result c.has_words.ensures c.in_ok-told.ensures.holds) (ne_eqb _ _ (λ e. let some = ltb-true 0 old.primary c.in_ok-told-2.ensures.holds in omega (arith, e))) c.in_ok-take_option.ensures.option in
    rw (← c.self.view_is, line)
    (subst (λ (options : List (List ℕ)). within (problem_with (name_bytes old.names.keys) old.primary options) ≡ Ok c.in_ok-within.field-0) more c.in_ok-within.ensures)
