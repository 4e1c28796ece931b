use Rattle.std.proofs.Common.{◌∙◌, ◌++◌, ◌/◌, take, map, sym, ap}
use Rattle.x_codes.specs.StateCode.{choice_of}
use Rattle.x_codes.proofs.StateLemmas.{odd_path, odd_rest, even_path, even_rest}
use Rattle.x_codes.proofs.reading.read_next.Goals as goal

pub returns-then-n-eq1-clause-list : goal.returns-then-n-eq1-clause-list
returns-then-n-eq1-clause-list c = c.raise.ensures ∙ sym (odd_path _ _ _ c.if-n-eq1.true)

pub returns-then-n-eq1-clause-rest : goal.returns-then-n-eq1-clause-rest
returns-then-n-eq1-clause-rest c = sym (odd_rest _ _ c.if-n-eq1.true)

pub returns-clause-list : goal.returns-clause-list
returns-clause-list c =
    c.in_ok-read_choices.ensures.choices ∙ ap (λ l. l ++ map choice_of (take (c.args.n / 2) c.args.reader.now)) c.clear.ensures.items
    ∙ sym (even_path _ _ _ c.if-n-eq1.false)

pub returns-clause-rest : goal.returns-clause-rest
returns-clause-rest c = c.in_ok-read_choices.ensures.rest ∙ sym (even_rest _ _ c.if-n-eq1.false)
