-- The examples of specs/Reader.antt and specs/Question.antt.
use Rattle.std.proofs.Common.{◌≡◌, [], ◌∷◌, codes, Some, None, refl}
use Rattle.cover_problem.specs.Problem.{ProblemValue}
use Rattle.debug_language.specs.Command.{Split}
use Rattle.debug_language.specs.declared.question.Question.TheVariants.{Levels}
use Rattle.debug_language.specs.Question.{question_of}
use Rattle.debug_language.specs.Reader.{pair_from, plain_command, long_command, command_from, command_of}

-- one item, and an option of it
abbrev one : ProblemValue
one = record { names = codes "a" ∷ []; primary = 1; options = (1 ∷ []) ∷ [] }

split : command_of one (codes "split 0 4") ≡ Some (Split 0 4)
unfolding command_from long_command plain_command pair_from
split = refl

split_lacks : command_of one (codes "split 0") ≡ None
unfolding command_from long_command plain_command pair_from
split_lacks = refl

split_zero : command_of one (codes "split 0 04") ≡ None
unfolding command_from long_command plain_command pair_from
split_zero = refl

no_comment : command_of one (codes "# split") ≡ None
unfolding command_from long_command plain_command
no_comment = refl

levels : question_of (codes "levels") ≡ Some Levels
levels = refl

no_level : question_of (codes "level") ≡ None
no_level = refl
