-- The faults of a problem: a number and a name for each; and what a call answers that may have one, and takes no memory.
use Rattle.std.specs.Prelude.{◌≡◌, ℕ, List, codes, Result, Ok, Err}
use Rattle.cover_problem.specs.declared.fault.Fault.{Fault}
use Rattle.cover_problem.specs.declared.fault.Fault.TheVariants.{BadName, RepeatedItem, UnknownItem, ItemTwiceInOption, TooLarge}
use Rattle.cover_problem.specs.declared.fault.Fault.TheVariants.{NoItemLine, BadLine}

-- the number of a fault
abbrev pub number_of : Fault → ℕ
number_of BadName = 1
number_of RepeatedItem = 2
number_of UnknownItem = 3
number_of ItemTwiceInOption = 4
number_of TooLarge = 5
number_of NoItemLine = 6
number_of BadLine = 7

-- the name of a fault
abbrev pub name_of : Fault → List ℕ
name_of BadName = codes "BadName"
name_of RepeatedItem = codes "RepeatedItem"
name_of UnknownItem = codes "UnknownItem"
name_of ItemTwiceInOption = codes "ItemTwiceInOption"
name_of TooLarge = codes "TooLarge"
name_of NoItemLine = codes "NoItemLine"
name_of BadLine = codes "BadLine"

-- what a call returned that takes no memory, as view shows it, is what was found, be it a fault or not
abbrev pub Tells : {X S : Type 0} → (X → S) → Result X Fault → Result S Fault → Type 0
Tells view (Ok x) found = found ≡ Ok (view x)
Tells view (Err fault) found = found ≡ Err fault
