use Rattle.std.proofs.Common.{map, decimal}
use Rattle.x_texts.specs.Words.{label_word, cursor_word}
use Rattle.x_texts.proofs.WordLemmas.{state_written}
use Rattle.x_texts.proofs.line.write_state.Goals as goal

pub returns : goal.returns
returns c =
    let s = c.args.state.now in
    state_written c.args.text.now.items c.args.key.now (label_word s.label) (cursor_word s.cursor) _ _ _ _ _ (map decimal s.path.items)
    (rw c.as_bytes.ensures.value at c.in_ok-extend_from_slice.ensures.items) (rw c.label_word.ensures at c.in_ok-write_word.ensures) c.in_ok-write_cursor.ensures (rw c.deref.ensures.value at c.in_ok-write_numbers.ensures) c.in_ok-push.ensures.items
