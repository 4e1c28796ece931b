-- The examples of specs/Reading.antt, computed.
use Rattle.std.proofs.Common.{◌≡◌, [], ◌∷◌, ◌++◌, Ok, Err, codes, refl}
use Rattle.text_lines.specs.Each.{each}
use Rattle.text_lines.specs.Reading.{numbered_line, plain_line, text_read, IsFirstFault}
use Rattle.text_lines.specs.Lines.{lines_of}
use Rattle.cover_problem.specs.declared.fault.Fault.TheVariants.{BadName, RepeatedItem, UnknownItem, ItemTwiceInOption, NoItemLine, BadLine}
use Rattle.cover_problem.specs.Validation.{add_name}
use Rattle.cover_problem.specs.Reading.{problem_of, nothing, line, words_line, items_line, maybe_line, option_line, add_item, item_of}

twice : problem_of (codes "items a" ++ 10 ∷ codes "option a a") ≡ Err (ItemTwiceInOption, 2)
unfolding problem_of each text_read numbered_line line plain_line words_line items_line maybe_line option_line add_item item_of add_name
twice = refl

first_of_two : problem_of (codes "items a" ++ 10 ∷ codes "option a a" ++ 10 ∷ codes "option z") ≡ Err (ItemTwiceInOption, 2)
unfolding problem_of each text_read numbered_line line plain_line words_line items_line maybe_line option_line add_item item_of add_name
first_of_two = refl

-- so the second line is the first with a fault
second_is_first : IsFirstFault line nothing (lines_of (codes "items a" ++ 10 ∷ codes "option a a" ++ 10 ∷ codes "option z")) ItemTwiceInOption 2
unfolding each numbered_line line plain_line words_line items_line option_line add_item item_of add_name
second_is_first = (codes "items a" ∷ [], codes "option a a", codes "option z" ∷ [], record { names = codes "a" ∷ []; primary = 1; options = [] }, refl, record { number = refl; read = refl; fault = refl })

unknown : problem_of (codes "items a" ++ 10 ∷ codes "option z") ≡ Err (UnknownItem, 2)
unfolding problem_of each text_read numbered_line line plain_line words_line items_line maybe_line option_line add_item item_of add_name
unknown = refl

no_lines : problem_of [] ≡ Err (NoItemLine, 0)
unfolding problem_of text_read each
no_lines = refl

-- a key without a name comes before the want of items, and that before the words
lone_option : problem_of (codes "option") ≡ Err (BadLine, 1)
unfolding problem_of each text_read numbered_line line plain_line words_line option_line
lone_option = refl

early_option : problem_of (codes "option -") ≡ Err (NoItemLine, 1)
unfolding problem_of each text_read numbered_line line plain_line words_line option_line
early_option = refl

-- words are judged from the left
name_first : problem_of (codes "items a ! a") ≡ Err (BadName, 1)
unfolding problem_of each text_read numbered_line line plain_line words_line items_line add_name
name_first = refl

repeated_first : problem_of (codes "items a a !") ≡ Err (RepeatedItem, 1)
unfolding problem_of each text_read numbered_line line plain_line words_line items_line add_name
repeated_first = refl

-- a byte that isn't plain may stand in a comment
odd_byte : problem_of (codes "items a" ++ 10 ∷ 255 ∷ []) ≡ Err (BadLine, 2)
unfolding problem_of each text_read numbered_line line plain_line words_line items_line add_name
odd_byte = refl

in_comment : problem_of (codes "items a #" ++ 255 ∷ []) ≡ Ok (record { names = codes "a" ∷ []; primary = 1; options = [] })
unfolding problem_of each text_read numbered_line line plain_line words_line items_line add_name
in_comment = refl
