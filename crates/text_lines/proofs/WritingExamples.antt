-- The examples of specs/Writing.antt and specs/Writes.antt, computed.
use Rattle.std.proofs.Common.{◌≡◌, ℕ, List, [], ◌∷◌, ◌++◌, codes, refl, ap, ◌∙◌, false}
use Rattle.std.specs.Global.{Vec}
use Rattle.text_lines.specs.Writing.{is_word, line_text, spaced, text_of, words_of_line}
use Rattle.text_lines.specs.Writes.{WritesLine}

two_lines : text_of ((codes "a" ∷ codes "b" ∷ []) ∷ (codes "c" ∷ []) ∷ []) ≡ 97 ∷ 32 ∷ 98 ∷ 10 ∷ 99 ∷ 10 ∷ []
two_lines = refl

spaces : spaced (codes "option" ∷ codes "c" ∷ codes "e" ∷ []) ≡ codes "option c e"
spaces = refl

comment_sign : is_word (codes "a#") ≡ false
comment_sign = refl

glued_comment : words_of_line (codes "piece A 000#x") ≡ codes "piece" ∷ codes "A" ∷ codes "000" ∷ []
glued_comment = refl

abbrev visit_line : List (List ℕ)
visit_line = codes "visit" ∷ codes "4" ∷ codes "5" ∷ []

-- whatever stood before
line_gained : (old new : Vec ℕ) → new.items ≡ old.items ++ (codes "visit 4 5" ++ 10 ∷ []) → WritesLine old new visit_line
line_gained old new e = e ∙ ap (λ (bs : List ℕ). old.items ++ bs) (let same : codes "visit 4 5" ++ 10 ∷ [] ≡ line_text visit_line = refl in same)
