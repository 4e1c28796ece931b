use Rattle.std.proofs.Common.{◌≡◌, ◌-◌, ◌*◌, ◌<◌, suc, refl, sym, ap, ◌∙◌, arith}
use Rattle.cover_links.specs.declared.entry.TableEntry.{TableEntry}
use Rattle.cover_links.specs.Layout.{node_index, spacer_of}
use Rattle.cover_links.proofs.HidingLemmas.{top_at}
use Rattle.cover_links.proofs.TableLemmas.{at_view, seen_at, block_small, start_is, place_from, place_below, spacer_inside, item_small, not_past, is_past, top_here, item_here}
use Rattle.cover_links.proofs.table.LinkTable.node_of.Goals as goal
use Rattle.cover_links.proofs.table.LinkTable.node_of.Goals.{then-is, else-is}

pub at-head-requires : goal.at-head-requires
at-head-requires c = item_small (at_view c.self.view_is c.self.invariant) c.args.item c.args.option c.requires.some c.requires.within c.requires.has_item

pub loop-self-init : goal.loop-self-init
loop-self-init c =
    let t = at_view c.self.view_is c.self.invariant in let w = c.requires.within in
    let start = start_is t (c.args.option - 1) (omega arith) c.index.ensures in
    let from = place_from t c.args.item c.args.option c.requires.some w c.requires.has_item in
    let below = place_below t c.args.item c.args.option c.requires.some w c.requires.has_item in
    (c.index.result.now, refl, omega (arith, start), omega (arith, start, from, below), λ before. absurd (omega (arith, start, from, before)))

pub read_at-requires : goal.read_at-requires
read_at-requires c =
    let t = at_view c.self.view_is c.self.invariant in
    let inside = spacer_inside t c.args.item c.args.option c.requires.some c.requires.within c.requires.has_item in
    let at = c.loop-self.invariant in let high = at.3 in (at.0, at.1, omega arith)

pub read_at-requires-in-loop-self : goal.read_at-requires-in-loop-self
read_at-requires-in-loop-self c =
    let t = at_view c.self.view_is c.self.invariant in
    let inside = spacer_inside t c.args.item c.args.option c.requires.some c.requires.within c.requires.has_item in
    let at = c.loop-self.invariant in let high = at.3 in (at.0, at.1, omega arith)

pub overflow_add-past : goal.overflow_add-past
overflow_add-past c =
    let t = at_view c.self.view_is c.self.invariant in let small = block_small t in
    let inside = spacer_inside t c.args.item c.args.option c.requires.some c.requires.within c.requires.has_item in
    let at = c.loop-self.invariant in let place = at.1 in let high = at.3 in omega arith

-- an entry that is no spacer stands before the option's
is_before : (c : goal.Joined-is) → c.loop-self.invariant.0 < spacer_of c.args.self.now.problem c.args.option
is_before c =
    let t = at_view c.self.view_is c.self.invariant in let at = c.loop-self.invariant in
    not_past t c.args.item c.args.option c.requires.some c.requires.within c.requires.has_item at.0 at.3
    (seen_at c.self.inside.block at.0 c.is_spacer.ensures c.loop-self-test.true (c.read_at.ensures at.0 at.1))

pub loop-self-smaller : goal.loop-self-smaller
loop-self-smaller c = let before = is_before c in let place = c.loop-self.invariant.1 in omega arith

-- behind the item's node that one is kept
keeps : (c : goal.Joined-is) → node_index c.args.self.now.problem c.args.item c.args.option < suc c.loop-self.invariant.0
    → c.if-is.here ≡ node_index c.args.self.now.problem c.args.item c.args.option * 16
keeps c behind =
    let t = at_view c.self.view_is c.self.invariant in let at = c.loop-self.invariant in
    let item = item_here t c.args.item c.args.option c.requires.some c.requires.within c.requires.has_item at.0 at.2 (is_before c) in
    let here = top_here t c.args.item c.args.option c.requires.some c.requires.within c.requires.has_item in
    let read = ap (λ (e : TableEntry). e.top) (c.read_at-in-loop-self.ensures at.0 at.1) in
    elim c.if-is.branch [
      | then-is w ↦
          let top : top_at c.self.inside.block at.0 ≡ c.args.item = sym read ∙ c.is.ensures.same w.if-is.true ∙ c.at-head.ensures in
          w.here-is ∙ at.1 ∙ ap (λ n. n * 16) (sym item ∙ ap (λ j. node_index c.args.self.now.problem j c.args.option) top)
      | else-is w ↦
          let apart : at.0 ≡ node_index c.args.self.now.problem c.args.item c.args.option → ⊥ =
          λ q. c.is.ensures.apart w.if-is.false (read ∙ ap (top_at c.self.inside.block) q ∙ here ∙ sym c.at-head.ensures) in
          w.here-is ∙ at.4 (omega (arith, behind, apart))
    ]

pub loop-self-preserved : goal.loop-self-preserved
loop-self-preserved c =
    let at = c.loop-self.invariant in let place = at.1 in let low = at.2 in
    (suc at.0, omega arith, omega arith, is_before c, keeps c)

pub returns : goal.returns
returns c =
    let t = at_view c.self.view_is c.self.invariant in let at = c.loop-self.invariant in
    let below = place_below t c.args.item c.args.option c.requires.some c.requires.within c.requires.has_item in
    let end = is_past t c.args.item c.args.option c.requires.some c.requires.within c.requires.has_item at.0 at.2 at.3
    (seen_at c.self.inside.block at.0 c.is_spacer.ensures c.loop-self-test.false (c.read_at.ensures at.0 at.1)) in
    at.4 (omega (arith, below, end))
