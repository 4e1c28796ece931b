use Rattle.std.proofs.Common.{◌∙◌, ap}
use Rattle.text_lines.specs.Numbers.{number_within}
use Rattle.text_lines.proofs.NumberLemmas.{printed_again, reads_printed}
use Rattle.text_lines.proofs.laws.number_is_as_printed.Goals as goal

pub returns : goal.returns
returns c most n word small = (printed_again most n word small, λ (same, within). ap (number_within most) same ∙ reads_printed most n small within)
