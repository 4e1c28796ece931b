use Rattle.std.proofs.Common.{◌≡◌, ◌∙◌, sym, map, length, nat_lt, false, arith, ne_eqb, eqb-true, ltb-true, leb-true}
use Rattle.std.proofs.lemmas.List.{length-map}
use Rattle.text_lines.specs.Lines.{words_of}
use Rattle.cover_problem.proofs.NameLemmas.{names_named}
use Rattle.std.proofs.lemmas.Bool.{le-ltb}
use Rattle.cover_problem.specs.Views.{name_bytes, problem_of_parts}
use Rattle.cover_problem.proofs.ReadingLemmas.{names_grow, some_words, maybe_taken}
use Rattle.cover_problem.proofs.draft.Draft.with_maybe.Goals as goal

pub of_names-requires-clause-primary : goal.of_names-requires-clause-primary
of_names-requires-clause-primary c =
    let old = c.self.inside.names.keys in
    let new = c.in_ok-with_names.field-0.keys in
    let more = names_grow (map (λ n. n.bytes) old) (words_of c.args.words.now) (map (λ n. n.bytes) new) c.in_ok-with_names.ensures in
    let within = c.self.invariant.within in
    let e = length-map old (λ n. n.bytes) in
    let f = length-map new (λ n. n.bytes) in
    omega arith

pub of_names-requires-clause-named : goal.of_names-requires-clause-named
of_names-requires-clause-named c =
    names_named (map (λ n. n.bytes) c.self.inside.names.keys) (words_of c.args.words.now) (map (λ n. n.bytes) c.in_ok-with_names.field-0.keys) c.in_ok-with_names.ensures c.self.invariant.named

pub returns : goal.returns
returns c =
    let old = c.self.inside in
    let words = words_of c.args.words.now in
    let names = length-map old.names.keys (λ n. n.bytes) in
    let late : nat_lt old.primary (length (name_bytes old.names.keys)) ≡ false = le-ltb old.primary (length (name_bytes old.names.keys)) (let all = leb-true c.len.result old.primary c.in_ok-told-2.ensures.holds in omega (arith, c.len.ensures.len)) in
    let none : length old.options ≡ 0 = eqb-true (length old.options) 0 (sym c.is_empty.ensures ∙ c.in_ok-told-3.ensures.holds) in
    let line = maybe_taken (problem_of_parts old.names.keys old.primary old.options) words (name_bytes c.in_ok-with_names.field-0.keys)
    (some_words words c.has_words.result c.has_words.ensures c.in_ok-told.ensures.holds) late (le-ltb 0 (length old.options) (omega arith)) (ne_eqb _ _ (λ e. let some = ltb-true 0 old.primary c.in_ok-told-4.ensures.holds in omega (arith, e))) c.in_ok-with_names.ensures in
    rw (← c.self.view_is, line) c.of_names.ensures
