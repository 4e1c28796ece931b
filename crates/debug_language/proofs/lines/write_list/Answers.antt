use Rattle.std.proofs.Common.{length, map, decimal}
use Rattle.cover_problem.specs.Problem.{name_at}
use Rattle.x_texts.proofs.WordLemmas.{state_written}
use Rattle.debug_language.specs.Replies.{listed_word}
use Rattle.debug_language.proofs.lines.write_list.Goals as goal

pub returns : goal.returns
returns c =
    state_written c.args.text.now.items (listed_word c.args.listed) (name_at c.args.problem.now.names c.args.item) (decimal (length c.args.options.now)) _ _ _ _ _ (map decimal c.args.options.now)
    (rw (c.as_bytes.ensures.value, c.word.ensures) at c.in_ok-extend_from_slice.ensures.items) (rw c.name.ensures at c.in_ok-write_word.ensures) c.in_ok-write_number.ensures c.in_ok-write_numbers.ensures c.in_ok-push.ensures.items
