-- What a call returns where it has no error, what it adds to a vector, and what it leaves where it is refused.
use Rattle.std.specs.Prelude.{ℕ, ◌≡◌, ◌++◌, Result, IfOk, IfErr, OnOk, List}
use Rattle.std.specs.Global.{Vec}

-- the call returns this value, unless it has an error
abbrev pub Returns : {X E : Type 0} → Result X E → X → Type 0
Returns result value = IfOk result (λ x. x ≡ value)

-- the call returns a vector of these items, unless it has an error
abbrev pub ReturnsItems : {X E : Type 0} → Result (Vec X) E → List X → Type 0
ReturnsItems result items = IfOk result (λ v. v.items ≡ items)

-- the call adds these items to the vector, unless it has an error
abbrev pub Adds : {A X E : Type 0} → Result X E → Vec A → Vec A → List A → Type 0
Adds result old new items = OnOk result (new.items ≡ old.items ++ items)

-- the call is refused with this fault alone, and then changes nothing
abbrev pub RefusedUnchanged : {X F A : Type 0} → Result X F → F → A → A → Type 0
RefusedUnchanged result fault old new = IfErr result (λ f. (f ≡ fault) × (new ≡ old))
