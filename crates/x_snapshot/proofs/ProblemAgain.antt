-- A problem that is written in a snapshot is read again.
use Rattle.std.proofs.Common.{◌≡◌, ◌⊎◌, inl, inr, ℕ, ◌+◌, ◌-◌, ◌^◌, ◌<◌, ◌≤◌, ◌==◌, nat_lt, true, false, ◌&&◌, List, [], ◌∷◌, ◌++◌, length, take, drop, decimal, codes, Ok, refl, sym, ◌∙◌, ap, subst, arith, length-append, length-drop}
use Rattle.std.specs.List.{list_all}
use Rattle.std.specs.Cmp.Lexicographic.{bytes_decides}
use Rattle.std.proofs.lemmas.Bool.{ltb-false}
use Rattle.std.proofs.Math.Seq.{take-append_seam}
use Rattle.text_lines.specs.Writing.{is_word, line_text}
use Rattle.text_lines.specs.Each.{◌>>=◌}
use Rattle.cover_problem.specs.Limits.{most_options}
use Rattle.cover_problem.specs.Problem.{ProblemValue, IsProblem}
use Rattle.cover_problem.specs.Reading.{problem_of}
use Rattle.cover_problem.specs.Grammar.{maybe_words, word_lines, written}
use Rattle.cover_problem.proofs.WrittenLemmas.{written_again}
use Rattle.cover_problem.proofs.BoundLemmas.{few}
use Rattle.x_snapshot.specs.declared.fault.SnapshotFault.TheVariants.{BadProblem}
use Rattle.x_snapshot.specs.Reader.{after_lines, spelled, in_version, problem_before, lines_from, problem_in}
use Rattle.x_snapshot.proofs.WriterLemmas.{zero_maybe, lines_counted}
use Rattle.x_snapshot.proofs.ProblemBack.{problem_words}
use Rattle.x_snapshot.proofs.LineAgain.{keyed_line_again, lines_again, lines_from_again, number_word}

one_at_most : (names : List (List ℕ)) → length (maybe_words names) ≤ 1
one_at_most [] = omega arith
one_at_most (name ∷ names) = omega arith

module _ (p : ProblemValue) (g : IsProblem p) where
  -- a problem has no more lines than its version may have
  pub lines_few : (version : ℕ) → (version ≡ 1) ⊎ (version ≡ 2) → ((version == 1) && nat_lt p.primary (length p.names)) ≡ false → length (word_lines p) ≤ most_options + version
  lines_few version (inl e) plain =
      let plain' : nat_lt p.primary (length p.names) ≡ false = subst (λ n. ((n == 1) && nat_lt p.primary (length p.names)) ≡ false) e plain in
      let below = ltb-false p.primary (length p.names) plain' in
      let left : length (drop p.primary p.names) ≡ 0 = omega (arith, length-drop p.primary p.names) in
      let count = lines_counted p 0 (length p.options) (zero_maybe (drop p.primary p.names) left) refl in
      let f = few p g in
      omega (arith, f.1)
  lines_few version (inr e) plain =
      let count = lines_counted p (length (maybe_words (drop p.primary p.names))) (length p.options) refl refl in
      let one = one_at_most (drop p.primary p.names) in
      let f = few p g in
      omega (arith, f.1)

  spelled_again : spelled (written p) (problem_of (written p)) ≡ Ok p
  unfolding spelled
  spelled_again = rw (written_again p g, (bytes_decides (written p) (written p)).1 refl) refl

  version_again : (version : ℕ) → ((version == 1) && nat_lt p.primary (length p.names)) ≡ false → in_version version p ≡ Ok p
  unfolding in_version
  version_again version plain = rw plain refl

  before_again : (version : ℕ) (rest : List ℕ) → ((version == 1) && nat_lt p.primary (length p.names)) ≡ false → problem_before version (written p ++ rest) rest ≡ Ok p
  unfolding problem_before
  before_again version rest plain =
      let size : length (written p ++ rest) - length rest ≡ length (written p) = omega (arith, length-append (written p) rest) in
      let part : take (length (written p ++ rest) - length rest) (written p ++ rest) ≡ written p = ap (λ n. take n (written p ++ rest)) size ∙ take-append_seam (written p) rest in
      let same : (spelled (written p) (problem_of (written p)) >>= in_version version) ≡ Ok p = rw spelled_again (version_again version plain) in
      subst (λ t. (spelled t (problem_of t) >>= in_version version) ≡ Ok p) (sym part) same

  after_again : (rest : List ℕ) → after_lines (length (word_lines p)) (written p ++ rest) ≡ Ok rest
  unfolding written
  after_again rest = lines_again (word_lines p) rest (problem_words p g)

  pub problem_again : (version : ℕ) (rest : List ℕ) → (version ≡ 1) ⊎ (version ≡ 2) → version ≤ 2 → ((version == 1) && nat_lt p.primary (length p.names)) ≡ false → problem_in version (line_text (codes "problem" ∷ decimal (length (word_lines p)) ∷ []) ++ (written p ++ rest)) ≡ Ok (p, rest)
  unfolding problem_in
  problem_again version rest one_of small plain =
      let count = length (word_lines p) in
      let within = lines_few version one_of plain in
      let some : 0 < count = omega arith in
      let fits : count < 2 ^ 64 = omega arith in
      let words : list_all is_word (codes "problem" ∷ decimal count ∷ []) ≡ true = number_word count fits in
      rw (keyed_line_again BadProblem (codes "problem") (lines_from version) (decimal count ∷ []) (written p ++ rest) count words (lines_from_again version count small some within), after_again rest, before_again version rest plain) refl
