use Rattle.polylab_engine.proofs.answer.text_for.Goals as goal

pub returns-in_ok-problem-in-Cover-clause-why : goal.returns-in_ok-problem-in-Cover-clause-why
returns-in_ok-problem-in-Cover-clause-why g c = rw c.in-Cover.is (c.cover_text.ensures.why c.args.input.items)

pub returns-in_ok-puzzle-in-Puzzle-clause-why : goal.returns-in_ok-puzzle-in-Puzzle-clause-why
returns-in_ok-puzzle-in-Puzzle-clause-why g c = rw c.in-Puzzle.is (c.puzzle_text.ensures.why c.args.input.items)
