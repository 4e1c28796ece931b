use Rattle.std.proofs.Common.{◌≡◌, map, length}
use Rattle.text_lines.specs.Lines.{words_of}
use Rattle.text_lines.specs.Each.{each}
use Rattle.cover_problem.specs.Stamps.{AreStamps}
use Rattle.cover_problem.specs.Reading.{add_item}
use Rattle.cover_problem.proofs.draft.take_items.Given as goal

-- what the words left add to the option so far is what all words say
abbrev pub invariant-loop-word : goal.invariant-loop-word
invariant-loop-word l = record {
  so_far : each (add_item (map (λ n. n.bytes) l.names.keys)) l.option.items (words_of l.rest) ≡ each (add_item (map (λ n. n.bytes) l.names.keys)) l.initial.option.items (words_of l.words);
  marked : AreStamps l.stamp l.option.items l.marks;
}

abbrev pub decreases-loop-word : goal.decreases-loop-word
decreases-loop-word l = length l.rest
