use Rattle.std.proofs.Common.{◌≡◌, length, []}
use Rattle.std.specs.Prelude.{is_ok}
use Rattle.text_lines.specs.Lines.{words_of}
use Rattle.text_lines.specs.Each.{each}
use Rattle.x_snapshot.specs.Reader.{add_choice}
use Rattle.x_snapshot.proofs.reader.position.are_choices.Given as goal

-- the words left are choices exactly where all words are
abbrev pub invariant-loop-word : goal.invariant-loop-word
invariant-loop-word l = is_ok (each add_choice [] (words_of l.rest)) ≡ is_ok (each add_choice [] (words_of l.words))

abbrev pub decreases-loop-word : goal.decreases-loop-word
decreases-loop-word l = length l.rest
