use Rattle.std.proofs.Common.{◌≡◌, ◌≤◌, ◌∙◌, List, length, flat_map, sym, ap, subst, arith}
use Rattle.std.specs.List.{list_any}
use Rattle.std.proofs.lemmas.List.{drop_all}
use Rattle.poly_cells.specs.Sets.{IsIn}
use Rattle.poly_cells.proofs.SetLemmas.{in_at}
use Rattle.poly_texts.specs.Kinds.{KindValue, kind_names, kind_pieces}
use Rattle.poly_texts.specs.Puzzle.{PuzzleValue, pieces_of, names_of, has_name}
use Rattle.poly_texts.proofs.FreshLemmas.{in_has}
use Rattle.poly_texts.proofs.KindLemmas.{names_flat, told_any}
use Rattle.poly_texts.proofs.puzzle.Puzzle.kind_of.Goals as goal

pub loop-kind-init : goal.loop-kind-init
loop-kind-init c = told_any kind_names c.as_slice-kinds.result.now c.args.name

pub returns-then-contains-clause-kind : goal.returns-then-contains-clause-kind
returns-then-contains-clause-kind c =
    let all = c.as_slice-kinds.result.now in
    let here = c.as_slice-kinds.ensures.value ∙ ap (λ (p : PuzzleValue). p.kinds) c.self.view_is in
    subst (λ (ks : List KindValue). IsIn c.kind-item.result ks) here
    (subst (λ (k : KindValue). IsIn k all) (sym c.kind-item.is) (in_at all c.loop-kind.kind-index c.kind-item.result c.loop-kind-test.true))

pub returns-then-contains-clause-named : goal.returns-then-contains-clause-named
returns-then-contains-clause-named c =
    in_has (kind_names c.kind-item.result) c.args.name (sym (c.contains.ensures.value ∙ ap (λ ns. has_name ns c.args.name) c.names.ensures) ∙ c.if-contains.true)

pub returns-clause-none : goal.returns-clause-none
unfolding pieces_of
returns-clause-none c =
    let all = c.as_slice-kinds.result.now in
    let here = c.as_slice-kinds.ensures.value ∙ ap (λ (p : PuzzleValue). p.kinds) c.self.view_is in
    let done : length all ≤ c.loop-kind.kind-index = omega arith in
    ap (λ (ks : List KindValue). has_name (names_of (flat_map kind_pieces ks)) c.args.name) (sym here) ∙ ap (λ ns. has_name ns c.args.name) (names_flat all)
    ∙ sym c.loop-kind.invariant ∙ ap (list_any (λ (k : KindValue). has_name (kind_names k) c.args.name)) (drop_all c.loop-kind.kind-index all done)
