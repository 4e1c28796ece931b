use Rattle.std.proofs.Common.{◌≡◌, map, length}
use Rattle.text_lines.specs.Lines.{words_of}
use Rattle.text_lines.specs.Each.{each}
use Rattle.cover_problem.specs.Validation.{add_name}
use Rattle.cover_problem.proofs.draft.with_names.Given as goal

-- what the words left add to the names so far is what all words add
abbrev pub invariant-loop-word : goal.invariant-loop-word
invariant-loop-word l = each add_name (map (λ n. n.bytes) l.names.keys) (words_of l.rest) ≡ each add_name (map (λ n. n.bytes) l.fn.names.keys) (words_of l.words)

abbrev pub decreases-loop-word : goal.decreases-loop-word
decreases-loop-word l = length l.rest
