-- The number and the name of a refusal.
use Rattle.std.specs.Prelude.{ℕ, Option, Some, None, List, codes}
use Rattle.poly_place.specs.declared.fault.PlaceFault.{PlaceFault}
use Rattle.poly_place.specs.declared.fault.PlaceFault.TheVariants.{TooManyOptions, OutOfMemory}

-- the number of a refusal; out of memory has none
abbrev pub number_of : PlaceFault → Option ℕ
number_of TooManyOptions = Some 1
number_of OutOfMemory = None

-- its name
abbrev pub name_of : PlaceFault → List ℕ
name_of TooManyOptions = codes "TooManyOptions"
name_of OutOfMemory = codes "OutOfMemory"
