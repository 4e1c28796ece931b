use Rattle.std.proofs.Common.{◌∙◌, List, ap, flat_map}
use Rattle.poly_texts.specs.Kinds.{KindValue, kind_copies}
use Rattle.poly_texts.specs.Puzzle.{copy_symbols}
use Rattle.poly_place.specs.Chosen.{PackingValue}
use Rattle.poly_place.proofs.packing.Packing.kinds.Goals as goal

pub returns : goal.returns
unfolding copy_symbols
returns c = ap (λ (ks : List KindValue). flat_map kind_copies ks) c.kinds.ensures ∙ ap (λ (q : PackingValue). q.symbols) c.self.view_is
