use Rattle.std.proofs.Common.{◌≡◌, ◌+◌, ◌∙◌, ◌++◌, ◌∷◌, [], ap, length, arith}
use Rattle.lab_book.specs.Index.{KeepsTiles}
use Rattle.lab_book.proofs.IndexLemmas.{keeps_split}
use Rattle.lab_book.proofs.tiles.Tiles.split.Goals.{After-min-self-inside}
use Rattle.lab_book.proofs.tiles.Tiles.split.Goals as goal

-- what is kept once both are changed
kept : (c : After-min-self-inside) → KeepsTiles c.insert.new.self.items c.push_reserved.new.self.items c.min-self-inside.result
    (c.self.inside.waiting + 1) c.self.inside.leased c.self.inside.totals
kept c =
    let within = rw (← c.keep_place.ensures, ← c.self.view_is) at c.requires.within in
    let read = rw c.reserve.ensures.items at c.index_mut.ensures.value in
    let count : c.len-id.result ≡ length c.self.inside.list.items =
    omega (arith, c.len-id.ensures, c.reserve.ensures.len, c.self.inside.list.ok.0) in
    let put = rw c.reserve.ensures.items at c.in-Ok.ensures.items in
    let places = c.push_reserved.ensures.items ∙ ap (λ ps. ps ++ (c.args.i + 1) ∷ []) c.reserve-2.ensures.items in
    keeps_split _ _ _ _ _ _ _ _ c.args.i _ c.index_mut.result.now _ _ c.args.cut _ c.self.invariant within read c.part-tail.ensures.head count
    c.part-tail.ensures.tail put places (omega (arith, c.min-self-inside.ensures)) (omega (arith, c.min-self-inside.ensures))

pub invariant_of-self-2 : goal.invariant_of-self-2
invariant_of-self-2 c = kept (goal.at.invariant_of-self-2 c).After-min-self-inside

pub returns-clause-numbered : goal.returns-clause-numbered
returns-clause-numbered c = (kept (goal.at.returns-clause-numbered c).After-min-self-inside).numbered
