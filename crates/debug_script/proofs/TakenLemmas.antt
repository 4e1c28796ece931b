-- Some lines of a text are taken, one after the other.
use Rattle.std.proofs.Common.{◌≡◌, ℕ, zero, suc, ◌-◌, ◌<◌, List, [], ◌∷◌, ◌++◌, length, take, drop, refl, ◌∙◌, ap, append_assoc, length-append, sub-one, arith}
use Rattle.std.proofs.Math.Seq.{take-append_seam}
use Rattle.std.specs.List.{concat}
use Rattle.debug_script.specs.Input.{raw_lines}

-- so many lines are left to take of what stands after those that were taken
pub record IsTaking (text : List ℕ) (most : ℕ) (rest : List ℕ) (left : ℕ) : Type 0 where
  pub front : List ℕ
  pub parts : text ≡ front ++ rest
  pub taken : concat (take most (raw_lines text)) ≡ front ++ concat (take left (raw_lines rest))
  pub after : drop most (raw_lines text) ≡ drop left (raw_lines rest)

-- one line more
pub taking_goes : (text : List ℕ) (most : ℕ) (rest : List ℕ) (left : ℕ) (line after : List ℕ) → IsTaking text most rest left → 0 < left →
    raw_lines rest ≡ line ∷ raw_lines after → rest ≡ line ++ after → IsTaking text most after (left - 1)
taking_goes text most rest zero line after t some lines parts = absurd (omega arith)
taking_goes text most rest (suc left) line after t some lines parts = record {
  front = t.front ++ line;
  parts = t.parts ∙ rw (parts, append_assoc) refl;
  taken = t.taken ∙ rw (lines, sub-one, append_assoc) refl;
  after = t.after ∙ rw (lines, sub-one) refl;
}

-- what was taken is as long as what isn't left
pub front_is : (text front rest : List ℕ) → text ≡ front ++ rest → take (length text - length rest) text ≡ front
front_is text front rest parts =
    let e : length text - length rest ≡ length front = omega (arith, ap length parts ∙ length-append front rest) in
    rw (e, parts) (take-append_seam front rest)

-- bytes of which there are none
pub is_nothing : (rest : List ℕ) → length rest ≡ 0 → rest ≡ []
is_nothing [] e = refl
is_nothing (b ∷ bs) e = absurd (omega arith)
