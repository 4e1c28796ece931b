use Rattle.std.proofs.Common.{◌≡◌, length, []}
use Rattle.text_lines.specs.Lines.{words_of}
use Rattle.text_lines.specs.Each.{each}
use Rattle.x_snapshot.specs.Reader.{add_choice}
use Rattle.x_snapshot.proofs.reader.position.choices.Given as goal

-- what the words left add to the path so far is what all words say
abbrev pub invariant-loop-word : goal.invariant-loop-word
invariant-loop-word l = each add_choice l.path.items (words_of l.rest) ≡ each add_choice [] (words_of l.words)

abbrev pub decreases-loop-word : goal.decreases-loop-word
decreases-loop-word l = length l.rest
