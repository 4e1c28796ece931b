-- Path order is the order of the run: of visits, of cuts, and of what lies below an option.
use Rattle.std.proofs.Common.{◌≡◌, ℕ, zero, suc, ◌+◌, ◌*◌, ◌<◌, ◌⊎◌, List, [], ◌∷◌, ◌++◌, map, length, refl, sym, ap, ap₂, ◌∙◌, inl, inr, arith, append_assoc, length-append}
use Rattle.std.proofs.lemmas.Bool.{cases_order}
use Rattle.std.proofs.lemmas.List.{map-append, length-map}
use Rattle.cover_problem.specs.Problem.{ProblemValue}
use Rattle.cover_problem.specs.Path.{taken, covered_from, IsValidFrom, IsValid, covered_by}
use Rattle.cover_problem.proofs.PathLemmas.{choice_has, depth}
use Rattle.cover_problem.proofs.CoverLemmas.{valid_split}
use Rattle.x_steps.specs.declared.state.Label.{Label}
use Rattle.x_steps.specs.declared.state.Label.TheVariants.{X1, X2, X3, X4, X5, X6, X7, X8, Done}
use Rattle.x_steps.specs.declared.state.Cursor.{Cursor}
use Rattle.x_steps.specs.declared.state.Cursor.TheVariants as cursor
use Rattle.x_steps.specs.declared.state.Cursor.TheVariants.{At, Past}
use Rattle.x_steps.specs.StateValue.{at}
use Rattle.x_steps.specs.Steps.{FitsAt}
use Rattle.x_steps.specs.Order.{PathLess}
use Rattle.x_steps.specs.Rank.{digit_at, digits, number, rank}
use Rattle.x_steps.proofs.RankLemmas.{AllBelow, number_less, short}

-- ---- path order

-- of two paths one comes first, or they are one
pub path_cases : (q r : List ℕ) → PathLess q r ⊎ ((q ≡ r) ⊎ PathLess r q)
path_cases [] [] = inr (inl refl)
path_cases [] (y ∷ r) = inl tt
path_cases (x ∷ q) [] = inr (inr tt)
path_cases (x ∷ q) (y ∷ r) = step (path_cases q r) (cases_order x y)
  where
    tails : x ≡ y → PathLess q r ⊎ ((q ≡ r) ⊎ PathLess r q) → PathLess (x ∷ q) (y ∷ r) ⊎ ((x ∷ q ≡ y ∷ r) ⊎ PathLess (y ∷ r) (x ∷ q))
    tails e (inl l) = inl (inr (e, l))
    tails e (inr (inl f)) = inr (inl (ap₂ (λ (z : ℕ) (zs : List ℕ). z ∷ zs) e f))
    tails e (inr (inr l)) = inr (inr (inr (sym e, l)))

    step : PathLess q r ⊎ ((q ≡ r) ⊎ PathLess r q) → (x ≡ y) ⊎ ((x < y) ⊎ (y < x)) → PathLess (x ∷ q) (y ∷ r) ⊎ ((x ∷ q ≡ y ∷ r) ⊎ PathLess (y ∷ r) (x ∷ q))
    step ih (inl e) = tails e ih
    step ih (inr (inl l)) = inl (inl l)
    step ih (inr (inr l)) = inr (inr (inl l))

-- ---- digits

pub below_digits : (p : ProblemValue) (c path : List ℕ) (d : ℕ) → IsValidFrom p c path → d < 4 * length p.options + 9 → AllBelow (4 * length p.options + 9) (map (λ o. 4 * o + 2) path ++ d ∷ [])
below_digits p c [] d v l = (l, tt)
below_digits p c (o ∷ path) d v l = let t = choice_has p c o v.0 in let b : 4 * o + 2 < 4 * length p.options + 9 = omega (arith, t.within) in (b, below_digits p (taken p c o) path d v.1 l)

-- the numbers of two paths that end in digits below those of any option
path_number : (p : ProblemValue) (c q r : List ℕ) (n d e : ℕ) → length q < n → IsValidFrom p c q → d < 2 → e < 4 * length p.options + 9 → PathLess q r → number (4 * length p.options + 9) n (map (λ o. 4 * o + 2) q ++ d ∷ []) < number (4 * length p.options + 9) n (map (λ o. 4 * o + 2) r ++ e ∷ [])
path_number p c [] [] n d e l v a b h = absurd h
path_number p c (x ∷ q) [] n d e l v a b h = absurd h
path_number p c [] (y ∷ r) n d e l v a b h = number_less (4 * length p.options + 9) n [] d (4 * y + 2) [] (map (λ o. 4 * o + 2) r ++ e ∷ []) l (omega arith) (omega arith) tt
path_number p c (x ∷ q) (y ∷ r) zero d e l v a b h = absurd (omega arith)
path_number p c (x ∷ q) (y ∷ r) (suc n) d e l v a b h = step (path_number p (taken p c x) q r n d e (omega arith) v.1 a b) h
  where
    step : (PathLess q r → number (4 * length p.options + 9) n (map (λ o. 4 * o + 2) q ++ d ∷ []) < number (4 * length p.options + 9) n (map (λ o. 4 * o + 2) r ++ e ∷ [])) → (x < y) ⊎ ((x ≡ y) × PathLess q r) → number (4 * length p.options + 9) (suc n) (map (λ o. 4 * o + 2) (x ∷ q) ++ d ∷ []) < number (4 * length p.options + 9) (suc n) (map (λ o. 4 * o + 2) (y ∷ r) ++ e ∷ [])
    step ih (inl k) = number_less (4 * length p.options + 9) (suc n) [] (4 * x + 2) (4 * y + 2) (map (λ o. 4 * o + 2) q ++ d ∷ []) (map (λ o. 4 * o + 2) r ++ e ∷ []) (omega arith) (omega arith) (omega arith) (below_digits p (taken p c x) q d v.1 (omega arith))
    step ih (inr k) = let i = ih k.1 in rw k.0 (omega arith)

-- ---- the visits' order

pub path_rank : (p : ProblemValue) (q r : List ℕ) → IsValid p q → PathLess q r → rank p (at X2 q cursor.None) < rank p (at X2 r cursor.None)
unfolding rank IsValid
path_rank p q r v h = path_number p [] q r (suc p.primary) 1 1 (room (short p q v)) v (omega arith) (omega arith) h
  where
    room : length (map (λ o. 4 * o + 2) q) < suc p.primary → length q < suc p.primary
    room s = let e = length-map q (λ o. 4 * o + 2) in omega arith

pub rank_path : (p : ProblemValue) (q r : List ℕ) → IsValid p q → IsValid p r → rank p (at X2 q cursor.None) < rank p (at X2 r cursor.None) → PathLess q r
rank_path p q r v w l = step (path_cases q r)
  where
    step : PathLess q r ⊎ ((q ≡ r) ⊎ PathLess r q) → PathLess q r
    step (inl h) = h
    step (inr (inl e)) = let f = ap (λ s. rank p (at X2 s cursor.None)) e in absurd (omega arith)
    step (inr (inr h)) = let k = path_rank p r q w h in absurd (omega arith)

-- ---- the cuts' order

inside : (p : ProblemValue) (c q : List ℕ) (o : ℕ) → IsValidFrom p c (q ++ o ∷ []) → AllBelow (4 * length p.options + 9) (map (λ o. 4 * o + 2) q ++ (4 * o + 1) ∷ [])
inside p c q o v = let s = valid_split p c q (o ∷ []) v in let t = choice_has p (covered_from p c q) o s.1.0 in below_digits p c q (4 * o + 1) s.0 (omega (arith, t.within))

cut_number : (p : ProblemValue) (c q r : List ℕ) (o t n : ℕ) → length q < n → IsValidFrom p c (q ++ o ∷ []) → PathLess (q ++ o ∷ []) (r ++ t ∷ []) → number (4 * length p.options + 9) n (map (λ o. 4 * o + 2) q ++ (4 * o + 1) ∷ []) < number (4 * length p.options + 9) n (map (λ o. 4 * o + 2) r ++ (4 * t + 1) ∷ [])
cut_number p c [] [] o t n l v h = step h
  where
    step : (o < t) ⊎ ((o ≡ t) × PathLess [] []) → number (4 * length p.options + 9) n ((4 * o + 1) ∷ []) < number (4 * length p.options + 9) n ((4 * t + 1) ∷ [])
    step (inl k) = number_less (4 * length p.options + 9) n [] (4 * o + 1) (4 * t + 1) [] [] l (omega arith) (omega arith) tt
    step (inr k) = absurd k.1
cut_number p c [] (y ∷ r) o t n l v h = step h
  where
    step : (o < y) ⊎ ((o ≡ y) × PathLess [] (r ++ t ∷ [])) → number (4 * length p.options + 9) n ((4 * o + 1) ∷ []) < number (4 * length p.options + 9) n ((4 * y + 2) ∷ (map (λ o. 4 * o + 2) r ++ (4 * t + 1) ∷ []))
    step (inl k) = number_less (4 * length p.options + 9) n [] (4 * o + 1) (4 * y + 2) [] (map (λ o. 4 * o + 2) r ++ (4 * t + 1) ∷ []) l (omega arith) (omega arith) tt
    step (inr k) = let e = k.0 in number_less (4 * length p.options + 9) n [] (4 * o + 1) (4 * y + 2) [] (map (λ o. 4 * o + 2) r ++ (4 * t + 1) ∷ []) l (omega arith) (omega arith) tt
cut_number p c (x ∷ q) r o t zero l v h = absurd (omega arith)
cut_number p c (x ∷ q) [] o t (suc n) l v h = step h
  where
    last : (q : List ℕ) → PathLess (q ++ o ∷ []) [] → ⊥
    last [] k = k
    last (z ∷ q) k = k

    step : (x < t) ⊎ ((x ≡ t) × PathLess (q ++ o ∷ []) []) → number (4 * length p.options + 9) (suc n) ((4 * x + 2) ∷ (map (λ o. 4 * o + 2) q ++ (4 * o + 1) ∷ [])) < number (4 * length p.options + 9) (suc n) ((4 * t + 1) ∷ [])
    step (inl k) = number_less (4 * length p.options + 9) (suc n) [] (4 * x + 2) (4 * t + 1) (map (λ o. 4 * o + 2) q ++ (4 * o + 1) ∷ []) [] (omega arith) (omega arith) (omega arith) (inside p (taken p c x) q o v.1)
    step (inr k) = absurd (last q k.1)
cut_number p c (x ∷ q) (y ∷ r) o t (suc n) l v h = step (cut_number p (taken p c x) q r o t n (omega arith) v.1) h
  where
    step : (PathLess (q ++ o ∷ []) (r ++ t ∷ []) → number (4 * length p.options + 9) n (map (λ o. 4 * o + 2) q ++ (4 * o + 1) ∷ []) < number (4 * length p.options + 9) n (map (λ o. 4 * o + 2) r ++ (4 * t + 1) ∷ [])) → (x < y) ⊎ ((x ≡ y) × PathLess (q ++ o ∷ []) (r ++ t ∷ [])) → number (4 * length p.options + 9) (suc n) ((4 * x + 2) ∷ (map (λ o. 4 * o + 2) q ++ (4 * o + 1) ∷ [])) < number (4 * length p.options + 9) (suc n) ((4 * y + 2) ∷ (map (λ o. 4 * o + 2) r ++ (4 * t + 1) ∷ []))
    step ih (inl k) = number_less (4 * length p.options + 9) (suc n) [] (4 * x + 2) (4 * y + 2) (map (λ o. 4 * o + 2) q ++ (4 * o + 1) ∷ []) (map (λ o. 4 * o + 2) r ++ (4 * t + 1) ∷ []) (omega arith) (omega arith) (omega arith) (inside p (taken p c x) q o v.1)
    step ih (inr k) = let i = ih k.1 in rw k.0 (omega arith)

-- cuts come on the run in the order of their paths
pub cut_rank : (p : ProblemValue) (q r : List ℕ) (o t : ℕ) → IsValid p (q ++ o ∷ []) → PathLess (q ++ o ∷ []) (r ++ t ∷ []) → rank p (at X5 q (At o)) < rank p (at X5 r (At t))
unfolding rank IsValid
cut_rank p q r o t v h = cut_number p [] q r o t (suc p.primary) (room (short p (q ++ o ∷ []) v)) v h
  where
    room : length (map (λ o. 4 * o + 2) (q ++ o ∷ [])) < suc p.primary → length q < suc p.primary
    room s = let e = length-map (q ++ o ∷ []) (λ o. 4 * o + 2) in let f = length-append q (o ∷ []) in omega arith

push_same : (q r : List ℕ) (o t : ℕ) → q ++ o ∷ [] ≡ r ++ t ∷ [] → (q ≡ r) × (o ≡ t)
push_same [] [] o t e = (refl, (let f : o ≡ t = cc in f))
push_same [] (y ∷ r) o t e = let f : 1 ≡ suc (length (r ++ t ∷ [])) = ap length e in let g = length-append r (t ∷ []) in absurd (omega arith)
push_same (x ∷ q) [] o t e = let f : suc (length (q ++ o ∷ [])) ≡ 1 = ap length e in let g = length-append q (o ∷ []) in absurd (omega arith)
push_same (x ∷ q) (y ∷ r) o t e =
    let f : x ≡ y = cc in let g : q ++ o ∷ [] ≡ r ++ t ∷ [] = cc in
    let s = push_same q r o t g in (ap₂ (λ (z : ℕ) (zs : List ℕ). z ∷ zs) f s.0, s.1)

pub rank_cut : (p : ProblemValue) (q r : List ℕ) (o t : ℕ) → IsValid p (q ++ o ∷ []) → IsValid p (r ++ t ∷ []) → rank p (at X5 q (At o)) < rank p (at X5 r (At t)) → PathLess (q ++ o ∷ []) (r ++ t ∷ [])
rank_cut p q r o t v w l = step (path_cases (q ++ o ∷ []) (r ++ t ∷ []))
  where
    step : PathLess (q ++ o ∷ []) (r ++ t ∷ []) ⊎ ((q ++ o ∷ [] ≡ r ++ t ∷ []) ⊎ PathLess (r ++ t ∷ []) (q ++ o ∷ [])) → PathLess (q ++ o ∷ []) (r ++ t ∷ [])
    step (inl h) = h
    step (inr (inl e)) = let s = push_same q r o t e in let f : rank p (at X5 q (At o)) ≡ rank p (at X5 r (At t)) = ap₂ (λ (z : List ℕ) (k : ℕ). rank p (at X5 z (At k))) s.0 s.1 in absurd (omega arith)
    step (inr (inr h)) = let k = cut_rank p r q t o w h in absurd (omega arith)

-- ---- below an option

pub digit_small : (p : ProblemValue) (l : Label) (path : List ℕ) (k : Cursor) → FitsAt p l path k → digit_at (length p.options) l k < 4 * length p.options + 9
digit_small p X1 path cursor.None f = omega arith
digit_small p X2 path cursor.None f = omega arith
digit_small p X3 path cursor.None f = omega arith
digit_small p X4 path cursor.None f = omega arith
digit_small p X5 path (At o) f = let t = choice_has p (covered_by p path) o f.1 in omega (arith, t.within)
digit_small p X5 path Past f = omega arith
digit_small p X6 path (At o) f = let t = choice_has p (covered_by p path) o f.1 in omega (arith, t.within)
digit_small p X7 path cursor.None f = omega arith
digit_small p X8 path cursor.None f = omega arith
digit_small p Done path cursor.None f = omega arith
digit_small p _ path _ f = absurd f

pub fits_valid : (p : ProblemValue) (l : Label) (path : List ℕ) (k : Cursor) → FitsAt p l path k → IsValid p path
unfolding IsValid
fits_valid p X1 path cursor.None f = rw f tt
fits_valid p X2 path cursor.None f = f
fits_valid p X3 path cursor.None f = f.0
fits_valid p X4 path cursor.None f = f.0
fits_valid p X5 path (At o) f = f.0
fits_valid p X5 path Past f = f.0
fits_valid p X6 path (At o) f = f.0
fits_valid p X7 path cursor.None f = f.0
fits_valid p X8 path cursor.None f = f
fits_valid p Done path cursor.None f = rw f tt
fits_valid p _ path _ f = absurd f

inside_digits : (q rest : List ℕ) (o d : ℕ) → map (λ o. 4 * o + 2) (q ++ o ∷ rest) ++ d ∷ [] ≡ map (λ o. 4 * o + 2) q ++ (4 * o + 2) ∷ (map (λ o. 4 * o + 2) rest ++ d ∷ [])
inside_digits q rest o d = ap (λ ds. ds ++ d ∷ []) (map-append (λ o. 4 * o + 2) q (o ∷ rest)) ∙ append_assoc (map (λ o. 4 * o + 2) q) ((4 * o + 2) ∷ map (λ o. 4 * o + 2) rest) (d ∷ [])

front_short : (p : ProblemValue) (q rest : List ℕ) (o : ℕ) → IsValid p (q ++ o ∷ rest) → length (map (λ o. 4 * o + 2) q) < suc p.primary
front_short p q rest o v = let d = depth p (q ++ o ∷ rest) v in let e = length-append q (o ∷ rest) in let f = length-map q (λ o. 4 * o + 2) in omega arith

-- what lies below an option comes after the option's cut,
pub cut_before : (p : ProblemValue) (q rest : List ℕ) (o : ℕ) (l : Label) (k : Cursor) → FitsAt p l (q ++ o ∷ rest) k → rank p (at X5 q (At o)) < rank p (at l (q ++ o ∷ rest) k)
unfolding rank
cut_before p q rest o l k f = rw (inside_digits q rest o (digit_at (length p.options) l k))
    (number_less (4 * length p.options + 9) (suc p.primary) (map (λ o. 4 * o + 2) q) (4 * o + 1) (4 * o + 2) [] (map (λ o. 4 * o + 2) rest ++ digit_at (length p.options) l k ∷ []) (front_short p q rest o (fits_valid p l (q ++ o ∷ rest) k f)) (omega arith) (omega arith) tt)

inside_below : (p : ProblemValue) (q rest : List ℕ) (o e : ℕ) (l : Label) (k : Cursor) → FitsAt p l (q ++ o ∷ rest) k → 4 * o + 2 < e → number (4 * length p.options + 9) (suc p.primary) (digits (length p.options) l (q ++ o ∷ rest) k) < number (4 * length p.options + 9) (suc p.primary) (map (λ o. 4 * o + 2) q ++ e ∷ [])
unfolding IsValid
inside_below p q rest o e l k f m =
    let v = fits_valid p l (q ++ o ∷ rest) k f in
    let s = valid_split p [] q (o ∷ rest) v in
    rw (inside_digits q rest o (digit_at (length p.options) l k))
    (number_less (4 * length p.options + 9) (suc p.primary) (map (λ o. 4 * o + 2) q) (4 * o + 2) e (map (λ o. 4 * o + 2) rest ++ digit_at (length p.options) l k ∷ []) [] (front_short p q rest o v) m (omega arith)
    (below_digits p (taken p (covered_from p [] q) o) rest (digit_at (length p.options) l k) s.1.1 (digit_small p l (q ++ o ∷ rest) k f)))

-- and before the cut at any later option of that level
pub inside_before : (p : ProblemValue) (q rest : List ℕ) (o t : ℕ) (l : Label) (k : Cursor) → FitsAt p l (q ++ o ∷ rest) k → o < t → rank p (at l (q ++ o ∷ rest) k) < rank p (at X5 q (At t))
unfolding rank
inside_before p q rest o t l k f m = inside_below p q rest o (4 * t + 1) l k f (omega arith)

-- an option is left before the cut at a later one
pub left_before : (p : ProblemValue) (q : List ℕ) (o t : ℕ) → IsValid p q → o < t → rank p (at X6 q (At o)) < rank p (at X5 q (At t))
unfolding rank
left_before p q o t v m = number_less (4 * length p.options + 9) (suc p.primary) (map (λ o. 4 * o + 2) q) (4 * o + 3) (4 * t + 1) [] [] (short p q v) (omega arith) (omega arith) tt

-- cuts at one level come in the order of their options
pub level_rank : (p : ProblemValue) (q : List ℕ) (o t : ℕ) → IsValid p q → o < t → rank p (at X5 q (At o)) < rank p (at X5 q (At t))
unfolding rank
level_rank p q o t v m = number_less (4 * length p.options + 9) (suc p.primary) (map (λ o. 4 * o + 2) q) (4 * o + 1) (4 * t + 1) [] [] (short p q v) (omega arith) (omega arith) tt

-- and an option is left after its cut
pub left_after : (p : ProblemValue) (q : List ℕ) (o : ℕ) → IsValid p q → rank p (at X5 q (At o)) < rank p (at X6 q (At o))
unfolding rank
left_after p q o v = number_less (4 * length p.options + 9) (suc p.primary) (map (λ o. 4 * o + 2) q) (4 * o + 1) (4 * o + 3) [] [] (short p q v) (omega arith) (omega arith) tt
