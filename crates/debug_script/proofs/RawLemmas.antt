-- The first raw line of a text.
use Rattle.std.proofs.Common.{◌≡◌, ℕ, ◌+◌, ◌<◌, List, [], ◌∷◌, ◌++◌, length, take, drop, true, false, not, refl, ap, add-one, arith}
use Rattle.std.proofs.lemmas.Bool.{and_parts, not-true}
use Rattle.std.proofs.Math.Seq.{take-length, drop-length}
use Rattle.std.specs.List.{onto_first}
use Rattle.text_lines.specs.Lines.{is_newline, is_one_line}
use Rattle.debug_script.specs.Input.{raw_lines}

-- a line that is ended is the first
ended_first : (line rest : List ℕ) → is_one_line line ≡ true → raw_lines (line ++ 10 ∷ rest) ≡ (line ++ 10 ∷ []) ∷ raw_lines rest
ended_first [] rest one = refl
ended_first (b ∷ bs) rest one =
    let p : (not (is_newline b) ≡ true) × (is_one_line bs ≡ true) = and_parts _ _ one in
    let e : is_newline b ≡ false = not-true (is_newline b) p.0 in
    rw e (ap (onto_first b) (ended_first bs rest p.1))

-- a line that isn't ended is the only one
last_first : (b : ℕ) (bs : List ℕ) → is_one_line (b ∷ bs) ≡ true → raw_lines (b ∷ bs) ≡ (b ∷ bs) ∷ []
last_first b [] one =
    let p : (not (is_newline b) ≡ true) × (is_one_line [] ≡ true) = and_parts _ _ one in
    let e : is_newline b ≡ false = not-true (is_newline b) p.0 in
    rw e refl
last_first b (c ∷ cs) one =
    let p : (not (is_newline b) ≡ true) × (is_one_line (c ∷ cs) ≡ true) = and_parts _ _ one in
    let e : is_newline b ≡ false = not-true (is_newline b) p.0 in
    rw e (ap (onto_first b) (last_first c cs p.1))

-- what stands up to a line's newline, and after it
take_ended : (line rest : List ℕ) → take (length line + 1) (line ++ 10 ∷ rest) ≡ line ++ 10 ∷ []
take_ended [] rest = refl
take_ended (b ∷ bs) rest = rw add-one (ap (λ l. b ∷ l) (rw add-one at (take_ended bs rest)))

drop_ended : (line rest : List ℕ) → drop (length line + 1) (line ++ 10 ∷ rest) ≡ rest
drop_ended [] rest = refl
drop_ended (b ∷ bs) rest = rw add-one (rw add-one at (drop_ended bs rest))

-- a text that is cut after its first newline
pub cut_ended : (text line rest front back : List ℕ) → text ≡ line ++ 10 ∷ rest → is_one_line line ≡ true →
    front ≡ take (length line + 1) text → back ≡ drop (length line + 1) text → raw_lines text ≡ front ∷ raw_lines back
cut_ended text line rest front back parts one before after = rw (before, after, parts, take_ended line rest, drop_ended line rest) (ended_first line rest one)

-- a text without a newline is one line
cut_plain : (text : List ℕ) → 0 < length text → is_one_line text ≡ true → raw_lines text ≡ text ∷ []
cut_plain [] some one = absurd (omega arith)
cut_plain (b ∷ bs) some one = last_first b bs one

pub cut_last : (text front back : List ℕ) → 0 < length text → is_one_line text ≡ true →
    front ≡ take (length text) text → back ≡ drop (length text) text → raw_lines text ≡ front ∷ raw_lines back
cut_last text front back some one before after = rw (before, after, take-length text, drop-length text) (cut_plain text some one)
