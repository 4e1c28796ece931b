-- What a call leaves that takes a line, or words of one.
use Rattle.std.specs.Prelude.{Result}
use Rattle.text_lines.specs.declared.refusal.Refusal.{Refusal}
use Rattle.text_lines.specs.Answers.{Gives}

-- what the call changes is then what was found, or the call tells the fault that was found, unless memory ran out
abbrev pub Becomes : {X S F : Type 0} → Result X (Refusal F) → S → Result S F → Type 0
Becomes result new found = Gives (λ _. new) result found
