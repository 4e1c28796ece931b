use Rattle.std.proofs.Common.{◌≡◌, ◌∷◌, [], refl, sym}
use Rattle.std.specs.Prelude.{is_some, option_copied}
use Rattle.std.specs.List.{slice_split}
use Rattle.debug_language.specs.Reader.{numbers_from, is_comma, comma_parts}
use Rattle.debug_language.proofs.ReadLemmas.{number_goes, number_stops, number_ends}
use Rattle.debug_language.proofs.reader.numbers.are_joined.Goals as goal

pub returns-in_default-number_in : goal.returns-in_default-number_in
returns-in_default-number_in c =
    let parts : comma_parts (option_copied c.loop-rest.rest) ≡ c.split_part.result.0.now ∷ comma_parts (option_copied c.split_part.result.1) = rw c.in-Some.is c.split_part.ensures in
    sym (number_stops (comma_parts (option_copied c.loop-rest.rest)) (is_some (numbers_from (slice_split is_comma c.args.word.now))) c.loop-rest.invariant
    c.split_part.result.0.now (comma_parts (option_copied c.split_part.result.1)) parts (sym c.in_default-number_in.ensures))

pub loop-rest-preserved : goal.loop-rest-preserved
loop-rest-preserved c =
    let parts : comma_parts (option_copied c.loop-rest.rest) ≡ c.split_part.result.0.now ∷ comma_parts (option_copied c.split_part.result.1) = rw c.in-Some.is c.split_part.ensures in
    number_goes (comma_parts (option_copied c.loop-rest.rest)) (is_some (numbers_from (slice_split is_comma c.args.word.now))) c.loop-rest.invariant
    c.split_part.result.0.now (comma_parts (option_copied c.split_part.result.1)) c.in-Some-number_in.field-0 parts (sym c.in-Some-number_in.ensures)

pub returns : goal.returns
returns c =
    let parts : comma_parts (option_copied c.loop-rest.rest) ≡ [] = rw c.in_default.is refl in
    sym (number_ends (comma_parts (option_copied c.loop-rest.rest)) (is_some (numbers_from (slice_split is_comma c.args.word.now))) c.loop-rest.invariant parts)
