-- What a call answers that may have a fault, and may run out of memory.
use Rattle.std.specs.Prelude.{ℕ, ◌≡◌, Result, Ok, Err}
use Rattle.text_lines.specs.declared.refusal.Refusal.{Refusal}
use Rattle.text_lines.specs.declared.refusal.Refusal.TheVariants as refusals
use Rattle.text_lines.specs.declared.refusal.TextRefusal.{TextRefusal}
use Rattle.text_lines.specs.declared.refusal.TextRefusal.TheVariants as text_refusals

-- a refusal of the line numbered n
abbrev pub in_line : {F : Type 0} → ℕ → Refusal F → TextRefusal F
in_line n (refusals.Fault f) = text_refusals.Fault f n
in_line n refusals.OutOfMemory = text_refusals.OutOfMemory

-- a refusal tells the fault that was found, unless memory ran out
abbrev pub IsFaultOf : {S F : Type 0} → Refusal F → Result S F → Type 0
IsFaultOf (refusals.Fault f) found = found ≡ Err f
IsFaultOf refusals.OutOfMemory found = Unit {0}

-- what a call returned, as view shows it, is what was found, unless memory ran out
abbrev pub Gives : {X S F : Type 0} → (X → S) → Result X (Refusal F) → Result S F → Type 0
Gives view (Ok x) found = found ≡ Ok (view x)
Gives view (Err f) found = IsFaultOf f found

-- a refusal tells the fault that was found, and its line, unless memory ran out
abbrev pub IsFaultAt : {S F : Type 0} → TextRefusal F → Result S (F × ℕ) → Type 0
IsFaultAt (text_refusals.Fault f n) found = found ≡ Err (f, n)
IsFaultAt text_refusals.OutOfMemory found = Unit {0}

-- what a call returned, as view shows it, is what was found, unless memory ran out
abbrev pub GivesAt : {X S F : Type 0} → (X → S) → Result X (TextRefusal F) → Result S (F × ℕ) → Type 0
GivesAt view (Ok x) found = found ≡ Ok (view x)
GivesAt view (Err f) found = IsFaultAt f found
