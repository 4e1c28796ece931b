-- How the writers' steps make lines.
use Rattle.std.proofs.Common.{◌≡◌, ℕ, ◌<◌, List, [], ◌∷◌, ◌++◌, length, map, decimal, codes, refl, ◌∙◌, arith, append_assoc}
use Rattle.text_lines.specs.Writing.{words_after, line_text}
use Rattle.text_lines.proofs.WritingLemmas.{line_ends}
use Rattle.x_texts.specs.Words.{levels_words}

-- a key and a state
pub state_written : (old key label cursor one two three four new : List ℕ) (words : List (List ℕ)) → one ≡ old ++ key → two ≡ one ++ 32 ∷ label → three ≡ two ++ 32 ∷ cursor → four ≡ three ++ words_after words → new ≡ four ++ 10 ∷ [] → new ≡ old ++ line_text (key ∷ label ∷ cursor ∷ words)
state_written old key label cursor one two three four new words a b c d e =
    let all : four ≡ (old ++ key) ++ words_after (label ∷ cursor ∷ words) = rw (d, c, b, a) (simp append_assoc) in
    e ∙ line_ends four old key (label ∷ cursor ∷ words) all

pub levels_some : (counts : List ℕ) → 0 < length counts → levels_words counts ≡ codes "levels" ∷ map decimal counts
levels_some [] h = absurd (omega arith)
levels_some (count ∷ counts) h = refl
