-- What a call returns, or adds, of lists and of strings, where memory didn't run out.
use Rattle.std.specs.Prelude.{◌≡◌, ℕ, ◌++◌, Result, IfOk, OnOk, List, String, map}
use Rattle.std.specs.String.{string_bytes}
use Rattle.std.specs.declared.alloc.Global.{Global}
use Rattle.std.specs.Global.{Vec}
use Rattle.poly_place.specs.Lists.{lists_of}

-- the call returns a vector of vectors of these items, unless it has an error
abbrev pub ReturnsLists : {X E : Type 0} → Result (Vec (Vec X)) E → List (List X) → Type 0
ReturnsLists result lists = IfOk result (λ v. lists_of v.items ≡ lists)

-- the call adds vectors of these items, unless it has an error
abbrev pub AddsLists : {A X E : Type 0} → Result X E → Vec (Vec A) → Vec (Vec A) → List (List A) → Type 0
AddsLists result old new lists = OnOk result (lists_of new.items ≡ lists_of old.items ++ lists)

-- the call returns a vector of strings of these bytes, unless it has an error
abbrev pub ReturnsTexts : {E : Type 0} → Result (Vec (String Global)) E → List (List ℕ) → Type 0
ReturnsTexts result texts = IfOk result (λ v. map string_bytes v.items ≡ texts)

-- the call adds strings of these bytes, unless it has an error
abbrev pub AddsTexts : {X E : Type 0} → Result X E → Vec (String Global) → Vec (String Global) → List (List ℕ) → Type 0
AddsTexts result old new texts = OnOk result (map string_bytes new.items ≡ map string_bytes old.items ++ texts)

-- the call adds these bytes to the text, unless it has an error
abbrev pub AddsText : {X E : Type 0} → Result X E → String Global → String Global → List ℕ → Type 0
AddsText result old new bytes = OnOk result (string_bytes new ≡ string_bytes old ++ bytes)
