use Rattle.poly_cells.proofs.ImageLemmas.{turned_is, normal_is}
use Rattle.poly_cells.proofs.laws.forms_are_images.Goals as goal

pub returns : goal.returns
returns c = record { turns = turned_is; settles = normal_is }
