-- Each step raises the rank of a fitting state.
use Rattle.std.proofs.Common.{◌≡◌, ℕ, zero, suc, ◌+◌, ◌*◌, ◌^◌, ◌<◌, ◌⊎◌, true, false, Option, Some, List, [], ◌∷◌, ◌++◌, map, length, refl, ap, ◌∙◌, inl, inr, arith, append_assoc}
use Rattle.std.proofs.Math.Nat.{pow-suc, pow-zero, mul-le-mul_right, suc-mul, mul_comm}
use Rattle.std.proofs.lemmas.List.{map-append, length-map}
use Rattle.std.specs.Prelude as prelude
use Rattle.shared_words.specs.Lists.{above}
use Rattle.cover_problem.specs.Problem.{ProblemValue}
use Rattle.cover_problem.specs.Covering.{active}
use Rattle.cover_problem.specs.Path.{IsValid, covered_by}
use Rattle.cover_problem.proofs.RisingLemmas.{above_is}
use Rattle.cover_problem.proofs.PathLemmas.{choice_has, depth, valid_pop}
use Rattle.x_steps.specs.declared.state.Label.{Label}
use Rattle.x_steps.specs.declared.state.Label.TheVariants.{X1, X2, X3, X4, X5, X6, X7, X8, Done}
use Rattle.x_steps.specs.declared.state.Cursor.{Cursor}
use Rattle.x_steps.specs.declared.state.Cursor.TheVariants as cursor
use Rattle.x_steps.specs.declared.state.Cursor.TheVariants.{At, Past}
use Rattle.x_steps.specs.StateValue.{StateValue, at}
use Rattle.x_steps.specs.Steps.{is_open, IsOpen, remaining_after, split_last, next_cursor, FitsAt, Fits, taken_back, next_at, next}
use Rattle.x_steps.specs.Rank.{number, rank}
use Rattle.x_steps.proofs.Neighbours.{split_last_push, split_last_cases, open_cases, left_rises}

-- ---- numbers by digits

abbrev pub AllBelow : ℕ → List ℕ → Type 0
AllBelow base [] = Unit {0}
AllBelow base (d ∷ ds) = (d < base) × AllBelow base ds

-- a digit, a power and a rest below the power
pub digit_room : (d e b r : ℕ) → d < e → r < b → d * b + r < e * b
digit_room d e b r l m = let h = mul-le-mul_right b l in let f : suc d * b ≡ d * b + b = suc-mul d b in omega arith

power_some : (base n : ℕ) → 0 < base → 0 < base ^ n
power_some base zero h = rw pow-zero (omega arith)
power_some base (suc n) h = let r = digit_room 0 base (base ^ n) 0 h (power_some base n h) in let e = pow-suc base n in let f = mul_comm base (base ^ n) in omega arith

pub number_bound : (base n : ℕ) (ds : List ℕ) → 0 < base → AllBelow base ds → number base n ds < base ^ n
number_bound base zero ds h a = power_some base zero h
number_bound base (suc n) [] h a = power_some base (suc n) h
number_bound base (suc n) (d ∷ ds) h a =
    let r = digit_room d base (base ^ n) (number base n ds) a.0 (number_bound base n ds h a.1) in
    let e = pow-suc base n in let f = mul_comm base (base ^ n) in omega arith

-- the first digit that differs decides, whatever follows
pub number_less : (base n : ℕ) (front : List ℕ) (a b : ℕ) (us vs : List ℕ) → length front < n → a < b → 0 < base → AllBelow base us → number base n (front ++ a ∷ us) < number base n (front ++ b ∷ vs)
number_less base zero front a b us vs l m h k = absurd (omega arith)
number_less base (suc n) [] a b us vs l m h k =
    let r = digit_room a b (base ^ n) (number base n us) m (number_bound base n us h k) in omega arith
number_less base (suc n) (x ∷ front) a b us vs l m h k =
    let r = number_less base n front a b us vs (omega arith) m h k in omega arith

-- ---- ranks

-- a valid path leaves room for one more digit
pub short : (p : ProblemValue) (path : List ℕ) → IsValid p path → length (map (λ o. 4 * o + 2) path) < suc p.primary
short p path v = let d = depth p path v in let e = length-map path (λ o. 4 * o + 2) in omega arith

-- two states with one path, and the choice's digit where one goes on
same_path : (p : ProblemValue) (path : List ℕ) (a b : ℕ) → IsValid p path → a < b → number (4 * length p.options + 9) (suc p.primary) (map (λ o. 4 * o + 2) path ++ a ∷ []) < number (4 * length p.options + 9) (suc p.primary) (map (λ o. 4 * o + 2) path ++ b ∷ [])
same_path p path a b v l = number_less (4 * length p.options + 9) (suc p.primary) (map (λ o. 4 * o + 2) path) a b [] [] (short p path v) l (omega arith) tt

deeper : (path : List ℕ) (o d : ℕ) → map (λ o. 4 * o + 2) (path ++ o ∷ []) ++ d ∷ [] ≡ map (λ o. 4 * o + 2) path ++ (4 * o + 2) ∷ d ∷ []
deeper path o d = ap (λ ds. ds ++ d ∷ []) (map-append (λ o. 4 * o + 2) path (o ∷ [])) ∙ append_assoc (map (λ o. 4 * o + 2) path) ((4 * o + 2) ∷ []) (d ∷ [])

pub rank_next_at : (p : ProblemValue) (l : Label) (path : List ℕ) (k : Cursor) → FitsAt p l path k → (l ≡ Done → ⊥) → rank p (at l path k) < rank p (next_at p l path k)
unfolding rank
rank_next_at p X1 path cursor.None f g = rw f (number_less (4 * length p.options + 9) (suc p.primary) [] 0 1 [] [] (omega arith) (omega arith) (omega arith) tt)
rank_next_at p X2 path cursor.None f g = step (open_cases p path)
  where
    step : ((is_open p path ≡ true) × IsOpen p path) ⊎ ((is_open p path ≡ false) × (length (active p (covered_by p path)) ≡ 0)) → rank p (at X2 path cursor.None) < rank p (next_at p X2 path cursor.None)
    step (inl e) = rw e.0 (same_path p path 1 2 f (omega arith))
    step (inr e) = rw e.0 (same_path p path 1 (4 * length p.options + 7) f (omega arith))
rank_next_at p X3 path cursor.None f g = same_path p path 2 3 f.0 (omega arith)
rank_next_at p X4 path cursor.None f g = look (above 0 (remaining_after p path)) refl
  where
    look : (a : Option ℕ) → above 0 (remaining_after p path) ≡ a → rank p (at X4 path cursor.None) < rank p (at X5 path (next_cursor a))
    look prelude.None e = same_path p path 3 (4 * length p.options + 5) f.0 (omega arith)
    look (Some k) e = let a = above_is 0 1 (remaining_after p path) k (left_rises p path) e in same_path p path 3 (4 * k + 1) f.0 (omega (arith, a.more))
rank_next_at p X5 path (At o) f g = rw (deeper path o 1) (number_less (4 * length p.options + 9) (suc p.primary) (map (λ o. 4 * o + 2) path) (4 * o + 1) (4 * o + 2) [] (1 ∷ []) (short p path f.0) (omega arith) (omega arith) tt)
rank_next_at p X5 path Past f g = same_path p path (4 * length p.options + 5) (4 * length p.options + 6) f.0 (omega arith)
rank_next_at p X6 path (At o) f g = look (above o (remaining_after p path)) refl
  where
    look : (a : Option ℕ) → above o (remaining_after p path) ≡ a → rank p (at X6 path (At o)) < rank p (at X5 path (next_cursor a))
    look prelude.None e = let t = choice_has p (covered_by p path) o f.1 in same_path p path (4 * o + 3) (4 * length p.options + 5) f.0 (omega (arith, t.within))
    look (Some k) e = let a = above_is o 1 (remaining_after p path) k (left_rises p path) e in same_path p path (4 * o + 3) (4 * k + 1) f.0 (omega (arith, a.more))
rank_next_at p X7 path cursor.None f g = same_path p path (4 * length p.options + 6) (4 * length p.options + 7) f.0 (omega arith)
rank_next_at p X8 path cursor.None f g = step (split_last_cases path)
  where
    step : (path ≡ []) ⊎ ((q : List ℕ) × (o : ℕ) × (path ≡ q ++ o ∷ [])) → rank p (at X8 path cursor.None) < rank p (taken_back (split_last path))
    step (inl e) = rw e (number_less (4 * length p.options + 9) (suc p.primary) [] (4 * length p.options + 7) (4 * length p.options + 8) [] [] (omega arith) (omega arith) (omega arith) tt)
    step (inr s) = let v = valid_pop p s.0 s.1 (rw s.2 at f) in
        rw (s.2, split_last_push s.0 s.1, deeper s.0 s.1 (4 * length p.options + 7)) (number_less (4 * length p.options + 9) (suc p.primary) (map (λ o. 4 * o + 2) s.0) (4 * s.1 + 2) (4 * s.1 + 3) ((4 * length p.options + 7) ∷ []) [] (short p s.0 v.0) (omega arith) (omega arith) (let b : 4 * length p.options + 7 < 4 * length p.options + 9 = omega arith in (b, tt)))
rank_next_at p Done path cursor.None f g = absurd (g refl)
rank_next_at p _ path _ f g = absurd f

pub rank_next : (p : ProblemValue) (s : StateValue) → Fits p s → (s.label ≡ Done → ⊥) → rank p s < rank p (next p s)
unfolding next
rank_next p s f g = rank_next_at p s.label s.path s.cursor f g
