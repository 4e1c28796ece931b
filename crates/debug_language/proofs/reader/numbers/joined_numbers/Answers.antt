use Rattle.std.proofs.Common.{◌≡◌, ◌∷◌, [], refl, sym}
use Rattle.std.specs.Prelude.{option_copied}
use Rattle.std.specs.List.{slice_split}
use Rattle.debug_language.specs.Reader.{numbers_from, is_comma, comma_parts}
use Rattle.debug_language.proofs.ReadLemmas.{numbers_go, numbers_stop, numbers_end}
use Rattle.debug_language.proofs.reader.numbers.joined_numbers.Goals as goal

pub returns-in_default-number_in-clause-said : goal.returns-in_default-number_in-clause-said
returns-in_default-number_in-clause-said c =
    let parts : comma_parts (option_copied c.loop-rest.rest) ≡ c.split_part.result.0.now ∷ comma_parts (option_copied c.split_part.result.1) = rw c.in-Some.is c.split_part.ensures in
    sym (numbers_stop c.loop-rest.numbers.items (comma_parts (option_copied c.loop-rest.rest)) (numbers_from (slice_split is_comma c.args.word.now)) c.loop-rest.invariant
    c.split_part.result.0.now (comma_parts (option_copied c.split_part.result.1)) parts (sym c.in_default-number_in.ensures))

pub loop-rest-preserved : goal.loop-rest-preserved
loop-rest-preserved c =
    let parts : comma_parts (option_copied c.loop-rest.rest) ≡ c.split_part.result.0.now ∷ comma_parts (option_copied c.split_part.result.1) = rw c.in-Some.is c.split_part.ensures in
    rw c.in_ok-push.ensures.items
    (numbers_go c.loop-rest.numbers.items (comma_parts (option_copied c.loop-rest.rest)) (numbers_from (slice_split is_comma c.args.word.now)) c.loop-rest.invariant
    c.split_part.result.0.now (comma_parts (option_copied c.split_part.result.1)) c.in-Some-number_in.number parts (sym c.in-Some-number_in.ensures))

pub returns-clause-said : goal.returns-clause-said
returns-clause-said c =
    let parts : comma_parts (option_copied c.loop-rest.rest) ≡ [] = rw c.in_default.is refl in
    sym (numbers_end c.loop-rest.numbers.items (comma_parts (option_copied c.loop-rest.rest)) (numbers_from (slice_split is_comma c.args.word.now)) c.loop-rest.invariant parts)
