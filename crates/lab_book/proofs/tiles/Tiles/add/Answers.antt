use Rattle.std.proofs.Common.{◌∙◌, ap, length, arith}
use Rattle.x_branches.specs.Stretch.{StretchValue, levels_of_stretch, visits_of_stretch}
use Rattle.lab_book.proofs.IndexLemmas.{keeps_reached, keeps_posted_totals, last_is}
use Rattle.lab_book.proofs.TotalsLemmas.{totals_bound}
use Rattle.lab_book.proofs.tiles.Tiles.add.Goals as goal

pub invariant_of-self-in_err-add : goal.invariant_of-self-in_err-add
invariant_of-self-in_err-add c =
    let within = rw (← c.keep_place.ensures, ← c.self.view_is) at c.requires.within in
    keeps_reached _ _ _ _ _ _ c.index_mut.result.now _ _ _ c.self.invariant within c.index_mut.ensures.value c.in_err-add.ensures.unchanged
    c.reach.ensures.same c.reach.ensures.longer

pub add-requires-2-clause-visited : goal.add-requires-2-clause-visited
add-requires-2-clause-visited c =
    let within = rw (← c.keep_place.ensures, ← c.self.view_is) at c.requires.within in
    let last = last_is _ _ _ c.index_mut.result.now _ c.index.result.now _ _ _ within c.in_ok-add.ensures.added c.index.ensures
    c.stretches-stretches.ensures c.len.ensures c.stretch.ensures in
    let more = ap (λ (x : StretchValue). length (visits_of_stretch x)) last in
    let told = ap length c.visits.ensures in omega (arith, c.len-visited.ensures)

pub add-requires-2-clause-long : goal.add-requires-2-clause-long
add-requires-2-clause-long c =
    let within = rw (← c.keep_place.ensures, ← c.self.view_is) at c.requires.within in
    let last = last_is _ _ _ c.index_mut.result.now _ c.index.result.now _ _ _ within c.in_ok-add.ensures.added c.index.ensures
    c.stretches-stretches.ensures c.len.ensures c.stretch.ensures in
    let long = ap (λ (x : StretchValue). length (levels_of_stretch x)) last in
    let told = ap length c.levels.ensures in omega (arith, c.in-Ok.ensures.long)

pub add-requires-2-clause-room : goal.add-requires-2-clause-room
add-requires-2-clause-room c =
    let room = rw (← c.keep_place.ensures, ← c.self.view_is) at c.requires.room in
    λ m. let same = c.reach.ensures.same m in let bound = totals_bound _ _ c.self.invariant.totals_are m in omega arith

pub invariant_of-self-2 : goal.invariant_of-self-2
invariant_of-self-2 c =
    let within = rw (← c.keep_place.ensures, ← c.self.view_is) at c.requires.within in
    let last = last_is _ _ _ c.index_mut.result.now _ c.index.result.now _ _ _ within c.in_ok-add.ensures.added c.index.ensures
    c.stretches-stretches.ensures c.len.ensures c.stretch.ensures in
    let long = ap (λ (x : StretchValue). length (levels_of_stretch x)) last in
    let told = ap length c.levels.ensures in
    keeps_posted_totals _ _ _ _ _ _ c.index_mut.result.now _ _ _ _ _ _ c.self.invariant within c.index_mut.ensures.value
    c.in_ok-add.ensures.added last c.reach.ensures.same c.reach.ensures.longer c.add-2.ensures.added c.add-2.ensures.levels
    c.add-2.ensures.small (omega (arith, c.in-Ok.ensures.long))
