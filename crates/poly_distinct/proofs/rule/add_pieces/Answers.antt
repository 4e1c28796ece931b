use Rattle.std.proofs.Common.{◌≡◌, ◌++◌, ◌∷◌, [], ◌∙◌, List, ap, filter, map, sym, append-nil}
use Rattle.std.proofs.lemmas.List.{take_all}
use Rattle.poly_texts.specs.Puzzle.{PuzzleValue}
use Rattle.poly_distinct.specs.declared.anchor.Anchor.{Anchor}
use Rattle.poly_distinct.specs.Moves.{thing_of}
use Rattle.poly_distinct.specs.Rule.{leaves_out, may_reflect, single_pieces, anchor_tally}
use Rattle.poly_distinct.proofs.StepLemmas.{made_more, made_same}
use Rattle.poly_distinct.proofs.RuleLemmas.{moves_case, tally_is}
use Rattle.poly_distinct.proofs.rule.add_pieces.Goals as goal
use Rattle.poly_distinct.proofs.rule.add_pieces.Goals.{then-leaves_out+in_ok-push, else-leaves_out}

pub loop-anchor-init : goal.loop-anchor-init
loop-anchor-init c = sym (append-nil c.args.tallies.now.items)

pub loop-anchor-preserved : goal.loop-anchor-preserved
loop-anchor-preserved c =
    let p = c.args.compiled.now in
    let group = c.args.all.now.group in
    let a = c.anchor-item.result in
    let m = c.moves_at-moves.result.now in
    let moves = moves_case p c.args.exchange.now (λ (q : PuzzleValue). may_reflect q (thing_of a)) m c.args.all.now c.args.turns.now c.requires.exchange c.requires.all c.requires.turns c.moves_at-moves.ensures in
    let tally : c.in_ok-tally.tally ≡ anchor_tally p group a = c.in_ok-tally.ensures ∙ tally_is p group a m moves in
    let left : c.leaves_out.result ≡ leaves_out (anchor_tally p group a) = c.leaves_out.ensures ∙ ap leaves_out tally in
    elim c.if-leaves_out.branch [
      | then-leaves_out+in_ok-push w ↦
          made_more (anchor_tally p group) leaves_out c.as_slice-anchor-items.result.now c.loop-anchor.anchor-index a _ _ _ c.loop-anchor-test.true c.anchor-item.is (sym left ∙ w.if-leaves_out.true)
          (ap (λ ts. ts.items) w.tallies-is ∙ w.in_ok-push.ensures.items ∙ ap (λ t. c.loop-anchor.tallies.items ++ t ∷ []) tally) c.loop-anchor.invariant
      | else-leaves_out w ↦
          ap (λ ts. ts.items) w.tallies-is
          ∙ made_same (anchor_tally p group) leaves_out c.as_slice-anchor-items.result.now c.loop-anchor.anchor-index a _ _ c.loop-anchor-test.true c.anchor-item.is (sym left ∙ w.if-leaves_out.false)
          c.loop-anchor.invariant
    ]

pub returns : goal.returns
returns c =
    let p = c.args.compiled.now in
    let all = c.as_slice-anchor-items.result.now in
    c.loop-anchor.invariant
    ∙ ap (λ (xs : List Anchor). c.args.tallies.now.items ++ filter leaves_out (map (anchor_tally p c.args.all.now.group) xs))
    (take_all c.loop-anchor.anchor-index all c.loop-anchor-test.false ∙ c.as_slice-anchor-items.ensures.value ∙ c.in_ok-pieces.ensures ∙ ap single_pieces c.puzzle.ensures)
