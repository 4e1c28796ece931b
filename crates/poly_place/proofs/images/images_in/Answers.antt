use Rattle.std.proofs.Common.{IfOk, ◌≡◌, sym, ap, subst, ◌∙◌}
use Rattle.poly_cells.specs.Shapes.{corner}
use Rattle.poly_place.proofs.LoopLemmas.{images_are, images_in_grid}
use Rattle.poly_place.proofs.images.images_in.Goals as goal

pub all_led-requires : goal.all_led-requires
all_led-requires c =
    images_in_grid _ _ _ _ _ c.requires.shape c.requires.symmetry (c.as_slice-2.ensures.value ∙ c.in_ok-turned.ensures)
    (c.corner_of-lowest.ensures.value ∙ ap corner c.as_slice.ensures.value ∙ ap corner (sym c.as_slice-2.ensures.value)) c.corner_of-corner.ensures.value

pub returns : goal.returns
returns c =
    subst (λ us. IfOk c.all_led.result (λ images. images.items ≡ us))
    (images_are _ _ _ _ _ (c.as_slice-2.ensures.value ∙ c.in_ok-turned.ensures)
    (c.corner_of-lowest.ensures.value ∙ ap corner c.as_slice.ensures.value ∙ ap corner (sym c.as_slice-2.ensures.value)) c.corner_of-corner.ensures.value)
    c.all_led.ensures
