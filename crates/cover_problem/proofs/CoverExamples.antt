-- The examples of the definitions, computed on the small problem.
use Rattle.std.proofs.Common.{◌≡◌, true, false, [], ◌∷◌, refl, codes, lit<, lit≤}
use Rattle.shared_words.specs.Lists.{has}
use Rattle.cover_problem.specs.Table.{IsCoveredList}
use Rattle.cover_problem.specs.ExactCover.{IsExactCover}
use Rattle.cover_problem.specs.CoverTest.{occurrences, is_cover}
use Rattle.cover_problem.proofs.CoverTestLemmas.{passes_is}
use Rattle.cover_problem.specs.Problem.{ProblemValue, IsProblem, is_small, size_of}
use Rattle.cover_problem.specs.Covering.{active, remaining, list_of, choice}
use Rattle.cover_problem.specs.Path.{covered_by, taken, others}

-- c e, a d g, b c f, a d f, b g, d e g
abbrev pub small : ProblemValue
small = record {
  names = codes "a" ∷ codes "b" ∷ codes "c" ∷ codes "d" ∷ codes "e" ∷ codes "f" ∷ codes "g" ∷ [];
  primary = 7;
  options = (3 ∷ 5 ∷ []) ∷ (1 ∷ 4 ∷ 7 ∷ []) ∷ (2 ∷ 3 ∷ 6 ∷ []) ∷ (1 ∷ 4 ∷ 6 ∷ []) ∷ (2 ∷ 7 ∷ []) ∷ (4 ∷ 5 ∷ 7 ∷ []) ∷ [];
}

size : size_of small ≡ 31
size = refl

limits : is_small small ≡ true
limits = refl

active_after_a_d_g : active small (1 ∷ 4 ∷ 7 ∷ []) ≡ 2 ∷ 3 ∷ 5 ∷ 6 ∷ []
unfolding active
active_after_a_d_g = refl

remaining_of_c : remaining small (1 ∷ 4 ∷ 7 ∷ []) 3 ≡ 1 ∷ 3 ∷ []
unfolding remaining
remaining_of_c = refl

-- d was covered after a, when the options 2 and 4 were out already
list_of_d : list_of small (1 ∷ 4 ∷ 7 ∷ []) 4 ≡ 6 ∷ []
unfolding list_of remaining
list_of_d = refl

first_choice : choice small [] ≡ 1
unfolding choice active remaining
first_choice = refl

choice_after_a_d_g : choice small (1 ∷ 4 ∷ 7 ∷ []) ≡ 2
unfolding choice active remaining
choice_after_a_d_g = refl

-- from the item after d, round
others_of_d : others 4 (1 ∷ 4 ∷ 7 ∷ []) ≡ 7 ∷ 1 ∷ []
others_of_d = refl

covered_after_2_3 : covered_by small (2 ∷ 3 ∷ []) ≡ 1 ∷ 4 ∷ 7 ∷ 2 ∷ 3 ∷ 6 ∷ []
unfolding covered_by taken choice active remaining
covered_after_2_3 = refl

a_d_g_covered : IsCoveredList small (1 ∷ 4 ∷ 7 ∷ [])
a_d_g_covered = record { distinct = refl; items = refl }

-- *the exact cover c e, a d f, b g*

small_is_problem : IsProblem small
small_is_problem = record { some = lit< tt; within = lit≤ tt; named = refl; new = refl; options_are = refl; small = refl }

-- one of them has the item a
once : occurrences small (1 ∷ 4 ∷ 5 ∷ []) 1 ≡ 1
once = refl

passes : is_cover small (1 ∷ 4 ∷ 5 ∷ []) ≡ true
passes = refl

is_exact_cover : IsExactCover small (has (1 ∷ 4 ∷ 5 ∷ []))
is_exact_cover = (passes_is small small_is_problem (1 ∷ 4 ∷ 5 ∷ []) refl).1

-- without the option b g the item b is in none
fails : is_cover small (1 ∷ 4 ∷ []) ≡ false
fails = refl
