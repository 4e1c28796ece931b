use Rattle.std.proofs.Common.{◌≡◌, ◌∙◌, sym, map, nat_lt, false, arith, refl, eqb-true}
use Rattle.std.proofs.lemmas.List.{length-map}
use Rattle.std.proofs.lemmas.Bool.{le-ltb}
use Rattle.text_lines.specs.Lines.{words_of}
use Rattle.cover_problem.specs.Views.{name_bytes, problem_of_parts}
use Rattle.cover_problem.proofs.NameLemmas.{names_named}
use Rattle.cover_problem.proofs.ReadingLemmas.{some_words, items_taken}
use Rattle.cover_problem.proofs.draft.Draft.with_items.Goals as goal

pub of_names-requires-clause-named : goal.of_names-requires-clause-named
of_names-requires-clause-named c =
    names_named (map (λ n. n.bytes) c.new.result.keys) (words_of c.args.words.now) (map (λ n. n.bytes) c.in_ok-names.names.keys) c.in_ok-names.ensures (rw c.new.ensures.empty refl)

pub returns : goal.returns
returns c =
    let old = c.self.inside in
    let words = words_of c.args.words.now in
    let none : old.primary ≡ 0 = eqb-true old.primary 0 c.in_ok-told-2.ensures.holds in
    let first : nat_lt 0 old.primary ≡ false = le-ltb 0 old.primary (omega arith) in
    let line = items_taken (problem_of_parts old.names.keys old.primary old.options) words (name_bytes c.in_ok-names.names.keys) c.len-primary.result
    (some_words words c.has_words.result c.has_words.ensures c.in_ok-told.ensures.holds) first (rw c.new.ensures.empty at c.in_ok-names.ensures) (length-map c.in_ok-names.names.keys (λ n. n.bytes) ∙ sym c.len-primary.ensures.len) in
    rw (← c.self.view_is, line) c.of_names.ensures
