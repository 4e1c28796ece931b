-- The examples of specs/Lines.antt, computed.
use Rattle.std.proofs.Common.{◌≡◌, [], ◌∷◌, ◌++◌, codes, refl, false, map}
use Rattle.text_lines.specs.Lines.{lines_of, without_return, outside_comment, is_plain, words_of}

lines : lines_of (codes "ab c#d" ++ 10 ∷ 9 ∷ codes "e") ≡ codes "ab c#d" ∷ (9 ∷ codes "e") ∷ []
lines = refl

said : map (λ line. words_of (outside_comment line)) (lines_of (codes "ab c#d" ++ 10 ∷ 9 ∷ codes "e")) ≡ (codes "ab" ∷ codes "c" ∷ []) ∷ (codes "e" ∷ []) ∷ []
said = refl

-- no line stands after the last newline, and one between two
empty_lines : lines_of (codes "a" ++ 10 ∷ 10 ∷ []) ≡ codes "a" ∷ [] ∷ []
empty_lines = refl

-- only one carriage return is dropped
two_returns : without_return (codes "a" ++ 13 ∷ 13 ∷ []) ≡ codes "a" ++ 13 ∷ []
two_returns = refl

-- one before a comment stays, and isn't plain
return_inside : outside_comment (97 ∷ 13 ∷ codes "#b") ≡ 97 ∷ 13 ∷ []
return_inside = refl

return_is_not_plain : is_plain 13 ≡ false
return_is_not_plain = refl

blanks_alone : words_of (32 ∷ 9 ∷ 32 ∷ []) ≡ []
blanks_alone = refl

parted : words_of (32 ∷ codes "ab" ++ 9 ∷ 32 ∷ codes "c") ≡ codes "ab" ∷ codes "c" ∷ []
parted = refl
