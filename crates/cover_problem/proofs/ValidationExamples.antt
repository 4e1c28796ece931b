-- The examples of what makes a problem, and of what a table that scans keeps, computed.
use Rattle.std.proofs.Common.{◌≡◌, [], ◌∷◌, Ok, Err, refl, codes, Some, None}
use Rattle.cover_problem.specs.declared.fault.Fault.TheVariants.{BadName, RepeatedItem, UnknownItem, ItemTwiceInOption, NoItemLine, BadLine}
use Rattle.cover_problem.specs.Problem.{item_named}
use Rattle.text_lines.specs.Each.{each}
use Rattle.cover_problem.specs.Validation.{problem_from, add_name, add_option, option_from}
use Rattle.cover_problem.specs.Plain.{holding, time_of}
use Rattle.cover_problem.proofs.CoverExamples.{small}

-- two names, and an option of both
a_b : problem_from (codes "a" ∷ codes "b" ∷ []) 2 ((1 ∷ 2 ∷ []) ∷ []) ≡ Ok (record { names = codes "a" ∷ codes "b" ∷ []; primary = 2; options = (1 ∷ 2 ∷ []) ∷ [] })
unfolding problem_from each add_name add_option
a_b = refl

-- the second option has b twice
twice : problem_from (codes "a" ∷ codes "b" ∷ []) 2 ((1 ∷ 2 ∷ []) ∷ (2 ∷ 2 ∷ []) ∷ []) ≡ Err ItemTwiceInOption
unfolding problem_from each add_name add_option
twice = refl

-- the numbers are taken from the left
unknown : problem_from (codes "a" ∷ codes "b" ∷ []) 2 ((1 ∷ 2 ∷ []) ∷ (3 ∷ 2 ∷ 2 ∷ []) ∷ []) ≡ Err UnknownItem
unfolding problem_from each add_name add_option
unknown = refl

-- there is no item 0
zeroth : option_from 2 (0 ∷ []) ≡ Err UnknownItem
unfolding each
zeroth = refl

-- a name has no blank, and names come before options
blank : problem_from (codes "a" ∷ codes "a b" ∷ codes "a" ∷ []) 2 ([] ∷ []) ≡ Err BadName
unfolding problem_from each add_name add_option
blank = refl

-- the third name is the first again
repeated : problem_from (codes "a" ∷ codes "b" ∷ codes "a" ∷ []) 2 ([] ∷ []) ≡ Err RepeatedItem
unfolding problem_from each add_name add_option
repeated = refl

-- the second option has no item
empty : problem_from (codes "a" ∷ []) 1 ((1 ∷ []) ∷ [] ∷ (2 ∷ []) ∷ []) ≡ Err BadLine
unfolding problem_from each add_name add_option
empty = refl

-- of two items three can't be primary, whatever the names
primary : problem_from (codes "a" ∷ codes "a" ∷ []) 3 [] ≡ Err NoItemLine
unfolding problem_from each add_name add_option
primary = refl

d_is_4 : item_named small.names (codes "d") ≡ Some 4
d_is_4 = refl

h_is_none : item_named small.names (codes "h") ≡ None
h_is_none = refl

options_of_d : holding small.options 4 ≡ 2 ∷ 4 ∷ 6 ∷ []
options_of_d = refl

time_of_d : time_of 4294967295 (1 ∷ 4 ∷ 7 ∷ []) 4 ≡ 1
time_of_d = refl
