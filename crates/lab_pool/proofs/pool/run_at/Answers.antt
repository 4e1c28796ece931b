use Rattle.std.proofs.Common.{◌∙◌, ap, length, sym}
use Rattle.lab_history.specs.declared.entry.Entry.{Entry}
use Rattle.lab_pool.proofs.DoneLemmas.{ok_searched, held_searched, some_was_held}
use Rattle.lab_pool.proofs.pool.run_at.Goals as goal

pub returns-clause-searched : goal.returns-clause-searched
returns-clause-searched g c =
    ok_searched c.args.book c.in-Ok-finish.book _ c.requires.opening c.len-from.result (c.len-from.ensures ∙ ap (length {A = Entry}) c.history.ensures.history) (c.in-Ok-finish.ensures.problem ∙ sym c.requires.whole)
    (c.in-Ok-finish.ensures.branch ∙ sym c.requires.part) (c.in-Ok-finish.ensures.first ∙ sym c.requires.begin) c.in-Ok-finish.ensures.begins
    c.history.ensures.replay c.is_sound.ensures.replay c.requires.free c.answer.result c.answer.ensures.book c.answer.ensures.done

pub returns-clause-held : goal.returns-clause-held
returns-clause-held g c =
    held_searched c.args.book c.in-Ok-finish.book _ c.requires.opening c.len-from.result (c.len-from.ensures ∙ ap (length {A = Entry}) c.history.ensures.history) (c.in-Ok-finish.ensures.problem ∙ sym c.requires.whole)
    (c.in-Ok-finish.ensures.branch ∙ sym c.requires.part) (c.in-Ok-finish.ensures.first ∙ sym c.requires.begin) c.in-Ok-finish.ensures.begins
    c.history.ensures.replay c.is_sound.ensures.replay c.requires.free c.answer.result c.answer.ensures.book_back c.answer.ensures.held

pub returns-clause-some_held : goal.returns-clause-some_held
returns-clause-some_held g c =
    some_was_held c.args.book c.in-Ok-finish.book _ c.requires.opening c.len-from.result (c.len-from.ensures ∙ ap (length {A = Entry}) c.history.ensures.history) (c.in-Ok-finish.ensures.problem ∙ sym c.requires.whole)
    (c.in-Ok-finish.ensures.branch ∙ sym c.requires.part) (c.in-Ok-finish.ensures.first ∙ sym c.requires.begin) c.in-Ok-finish.ensures.begins
    c.history.ensures.replay c.is_sound.ensures.replay c.requires.free c.answer.result c.answer.ensures.held c.answer.ensures.open
