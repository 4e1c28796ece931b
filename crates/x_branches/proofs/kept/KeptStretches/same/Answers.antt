use Rattle.std.proofs.Common.{[], ◌∷◌, ◌++◌, ◌∙◌, refl, sym}
use Rattle.std.proofs.lemmas.List.{take_more}
use Rattle.std.proofs.lemmas.Option.{slice_get_within, get_or_from_slice_get}
use Rattle.x_branches.proofs.kept.KeptStretches.same.Goals as goal

pub comparing-preserved : goal.comparing-preserved
comparing-preserved c =
    let xs = c.args.self.now in let ys = c.args.other.now in let i = c.comparing.place in
    let x = c.stretch.result in let y = c.stretch-in-comparing.result in
    let here = get_or_from_slice_get xs i x x c.stretch.ensures in
    let there = get_or_from_slice_get ys i y y c.stretch-in-comparing.ensures in
    let same = here ∙ c.if-not-same.ensures refl ∙ sym there in
    take_more xs i x (slice_get_within xs i x c.stretch.ensures) ∙ (λ j. c.comparing.invariant j ++ same j ∷ [])
    ∙ sym (take_more ys i y (slice_get_within ys i y c.stretch-in-comparing.ensures))
