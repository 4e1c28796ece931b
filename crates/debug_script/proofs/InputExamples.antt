-- The examples of specs/Input.antt, computed.
use Rattle.std.proofs.Common.{◌≡◌, [], ◌∷◌, ◌++◌, codes, refl, true, false}
use Rattle.debug_script.specs.Input.{raw_lines, is_mark, problem_text, command_lines}

-- `items a`, `%%`, `step`, `%%`
problem : problem_text (codes "items a" ++ 10 ∷ codes "%%" ++ 10 ∷ codes "step" ++ 10 ∷ codes "%%") ≡ codes "items a" ++ 10 ∷ []
unfolding problem_text is_mark
problem = refl

commands : command_lines (codes "items a" ++ 10 ∷ codes "%%" ++ 10 ∷ codes "step" ++ 10 ∷ codes "%%") ≡ (codes "step" ++ 10 ∷ []) ∷ codes "%%" ∷ []
unfolding command_lines is_mark
commands = refl

-- the last line may have no end, and a newline begins none
ends : raw_lines (codes "a" ++ 10 ∷ 10 ∷ codes "b") ≡ (codes "a" ++ 10 ∷ []) ∷ (10 ∷ []) ∷ codes "b" ∷ []
ends = refl

-- a carriage return may stand before the newline, and nothing else
returned : is_mark (codes "%%" ++ 13 ∷ 10 ∷ []) ≡ true
unfolding is_mark
returned = refl

spaced : is_mark (codes "%% " ++ 10 ∷ []) ≡ false
unfolding is_mark
spaced = refl
