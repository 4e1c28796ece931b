-- Which of two states comes first is told by their digits where they part.
use Rattle.std.proofs.Common.{◌≡◌, ℕ, zero, suc, ◌+◌, ◌*◌, ◌<◌, ◌≤◌, ◌⊎◌, List, [], ◌∷◌, ◌++◌, map, length, take, drop, get_or, refl, sym, ap, ap₂, ◌∙◌, subst, inl, inr, arith, length-append, Ordering, Less, Equal, Greater}
use Rattle.std.specs.Prelude.{◌↔◌}
use Rattle.std.specs.Ordering.{MatchOrdering, nat_cmp}
use Rattle.std.proofs.lemmas.Cmp.{ranked}
use Rattle.std.proofs.lemmas.Bool.{cases_lt}
use Rattle.std.proofs.lemmas.List.{length-map, get_or_append_left, get_or-map, get_or_at, take-append-le, take-map, length-take-le, take_all}
use Rattle.cover_problem.specs.Problem.{ProblemValue}
use Rattle.cover_problem.specs.Path.{IsValid, covered_by, covered_from}
use Rattle.cover_problem.proofs.PathLemmas.{choice_has}
use Rattle.cover_problem.proofs.CoverLemmas.{valid_split}
use Rattle.x_steps.specs.declared.state.Label.{Label}
use Rattle.x_steps.specs.declared.state.Label.TheVariants.{X1, X2, X3, X4, X5, X6, X7, X8, Done}
use Rattle.x_steps.specs.declared.state.Cursor.{Cursor}
use Rattle.x_steps.specs.declared.state.Cursor.TheVariants as cursor
use Rattle.x_steps.specs.declared.state.Cursor.TheVariants.{At, Past}
use Rattle.x_steps.specs.StateValue.{StateValue, at}
use Rattle.x_steps.specs.Steps.{FitsAt, Fits}
use Rattle.x_steps.specs.Run.{steps_between}
use Rattle.x_steps.specs.Rank.{digit_at, digits, number, rank}
use Rattle.x_steps.proofs.Neighbours.{parted}
use Rattle.x_steps.proofs.RankLemmas.{AllBelow, number_less, short}
use Rattle.x_steps.proofs.OrderLemmas.{below_digits, fits_valid, digit_small}
use Rattle.x_steps.proofs.RunLemmas.{rises_between, leads_to, rank_once}
use Rattle.x_steps.proofs.BetweenLemmas.{steps_between_some}
use Rattle.x_branches.specs.RunOrder.{ComesBefore}
use Rattle.x_steps.specs.Order.{IsShared}
use Rattle.x_branches.specs.Stage.{many, IsWithin, Shifts}

-- ---- the run's order is that of the ranks

pub comes_rank : (p : ProblemValue) (s t : StateValue) → Fits p s → ComesBefore p s t → rank p s < rank p t
comes_rank p s t f b =
    let r = rises_between p b.0 s f b.2.goes_on 0 b.0 b.1 (omega arith) in
    let h = ap (rank p) b.2.ends in omega arith

pub rank_comes : (p : ProblemValue) (s t : StateValue) → Fits p s → Fits p t → rank p s < rank p t → ComesBefore p s t
rank_comes p s t f g l = (steps_between p s t, steps_between_some p s t f g l, leads_to p s t f g (omega arith))

-- ---- the answers of a comparison

pub order_less : (p : ProblemValue) (s t : StateValue) → Fits p s → Fits p t → (r : Ordering) → MatchOrdering r (rank p s < rank p t) (s ≡ t) (rank p t < rank p s) → (r ≡ Less) ↔ ComesBefore p s t
order_less p s t f g Less m = (λ e. rank_comes p s t f g m, λ b. refl)
order_less p s t f g Equal m = (λ e. absurd (cc), λ b. let l = comes_rank p s t f b in let h = ap (rank p) m in absurd (omega arith))
order_less p s t f g Greater m = (λ e. absurd (cc), λ b. let l = comes_rank p s t f b in absurd (omega arith))

pub order_equal : (p : ProblemValue) (s t : StateValue) → Fits p s → Fits p t → (r : Ordering) → MatchOrdering r (rank p s < rank p t) (s ≡ t) (rank p t < rank p s) → (r ≡ Equal) ↔ (s ≡ t)
order_equal p s t f g Equal m = (λ e. m, λ b. refl)
order_equal p s t f g _ m = (λ e. absurd (cc), λ b. let h = ap (rank p) b in absurd (omega arith))

pub order_greater : (p : ProblemValue) (s t : StateValue) → Fits p s → Fits p t → (r : Ordering) → MatchOrdering r (rank p s < rank p t) (s ≡ t) (rank p t < rank p s) → (r ≡ Greater) ↔ ComesBefore p t s
order_greater p s t f g Less m = (λ e. absurd (cc), λ b. let l = comes_rank p t s g b in absurd (omega arith))
order_greater p s t f g Equal m = (λ e. absurd (cc), λ b. let l = comes_rank p t s g b in let h = ap (rank p) m in absurd (omega arith))
order_greater p s t f g Greater m = (λ e. rank_comes p t s g f m, λ b. refl)

-- ---- digits

below_all : (p : ProblemValue) (l : Label) (path : List ℕ) (k : Cursor) → FitsAt p l path k → AllBelow (4 * length p.options + 9) (digits (length p.options) l path k)
unfolding IsValid
below_all p l path k f = below_digits p [] path (digit_at (length p.options) l k) (fits_valid p l path k f) (digit_small p l path k f)

below_drop : (base n : ℕ) (ds : List ℕ) → AllBelow base ds → AllBelow base (drop n ds)
below_drop base zero ds a = a
below_drop base (suc n) [] a = tt
below_drop base (suc n) (d ∷ ds) a = below_drop base n ds a.1

-- a state's digits, parted at a level
digits_parts : (m : ℕ) (l : Label) (path : List ℕ) (k : Cursor) (n : ℕ) → n ≤ length path → digits m l path k ≡ map (λ o. 4 * o + 2) (take n path) ++ get_or (digits m l path k) n 0 ∷ drop (suc n) (digits m l path k)
digits_parts m l path k n h =
    let e = length-append (map (λ o. 4 * o + 2) path) (digit_at m l k ∷ []) in
    let f = length-map path (λ o. 4 * o + 2) in
    let a : take n (digits m l path k) ≡ map (λ o. 4 * o + 2) (take n path) = take-append-le n (map (λ o. 4 * o + 2) path) (digit_at m l k ∷ []) (omega arith) ∙ take-map (λ o. 4 * o + 2) n path in
    parted (digits m l path k) n (omega arith) ∙ ap (λ ds. ds ++ get_or (digits m l path k) n 0 ∷ drop (suc n) (digits m l path k)) a

-- the first digit that differs decides
digit_decides : (p : ProblemValue) (l j : Label) (path other : List ℕ) (k i : Cursor) (n : ℕ) → FitsAt p l path k → n ≤ length path → n ≤ length other → take n path ≡ take n other → get_or (digits (length p.options) l path k) n 0 < get_or (digits (length p.options) j other i) n 0 → rank p (at l path k) < rank p (at j other i)
unfolding rank
digit_decides p l j path other k i n f a b e h =
    let m = length p.options in
    let s = short p path (fits_valid p l path k f) in
    let x = length-map path (λ o. 4 * o + 2) in
    let y = length-map (take n path) (λ o. 4 * o + 2) in
    let z = length-take-le n path a in
    let r = number_less (4 * length p.options + 9) (suc p.primary) (map (λ o. 4 * o + 2) (take n path)) (get_or (digits (length p.options) l path k) n 0) (get_or (digits (length p.options) j other i) n 0) (drop (suc n) (digits (length p.options) l path k)) (drop (suc n) (digits (length p.options) j other i)) (omega arith) h (omega arith) (below_drop (4 * length p.options + 9) (suc n) (digits (length p.options) l path k) (below_all p l path k f)) in
    let u = ap (number (4 * length p.options + 9) (suc p.primary)) (digits_parts (length p.options) l path k n a) in
    let v = ap (number (4 * length p.options + 9) (suc p.primary)) (digits_parts (length p.options) j other i n b ∙ ap (λ q. map (λ o. 4 * o + 2) q ++ get_or (digits (length p.options) j other i) n 0 ∷ drop (suc n) (digits (length p.options) j other i)) (sym e)) in
    omega arith

-- the digit at a choice, and at the end
pub digit_in : (m : ℕ) (l : Label) (path : List ℕ) (k : Cursor) (n : ℕ) → n < length path → get_or (digits m l path k) n 0 ≡ 4 * get_or path n 0 + 2
digit_in m l path k n h =
    let f = length-map path (λ o. 4 * o + 2) in
    get_or_append_left (map (λ o. 4 * o + 2) path) (digit_at m l k ∷ []) 0 n (omega arith) ∙ get_or-map (λ o. 4 * o + 2) path n 0 0 h

pub digit_last : (m : ℕ) (l : Label) (path : List ℕ) (k : Cursor) (n : ℕ) → n ≡ length path → get_or (digits m l path k) n 0 ≡ digit_at m l k
digit_last m l path k n h =
    let f = length-map path (λ o. 4 * o + 2) in
    get_or_at (map (λ o. 4 * o + 2) path) (digit_at m l k) [] 0 n (omega arith)

-- a choice of a valid path is an option
pub record IsNumber (m o : ℕ) : Type 0 where
  pub some : 0 < o
  pub within : o ≤ m

pub choice_in : (p : ProblemValue) (path : List ℕ) (n : ℕ) → IsValid p path → n < length path → IsNumber (length p.options) (get_or path n 0)
unfolding IsValid
choice_in p path n v h =
    let w = subst (λ q. IsValid p q) (parted path n h) v in
    let s = valid_split p [] (take n path) (get_or path n 0 ∷ drop (suc n) path) w in
    let t = choice_has p (covered_from p [] (take n path)) (get_or path n 0) s.1.0 in
    record { some = t.some; within = t.within }

-- ---- room for all numbers

pub choice_shifts : (p : ProblemValue) (s : StateValue) (n o d : ℕ) → Fits p s → n < length s.path → get_or s.path n 0 ≡ o → d ≡ 4 * o + 2 → o < many → Shifts (length p.options) d (get_or (digits (length p.options) s.label s.path s.cursor) n 0)
choice_shifts p s n o d f h e g l =
    let x = digit_in (length p.options) s.label s.path s.cursor n h in
    let t = choice_in p s.path n (fits_valid p s.label s.path s.cursor f) h in
    inl (omega arith, omega arith, omega (arith, t.within))

own_shifts : (p : ProblemValue) (l : Label) (path : List ℕ) (k : Cursor) → FitsAt p l path k → IsWithin k → Shifts (length p.options) (digit_at many l k) (digit_at (length p.options) l k)
own_shifts p X1 path cursor.None f w = inl (refl, omega arith, omega arith)
own_shifts p X2 path cursor.None f w = inl (refl, omega arith, omega arith)
own_shifts p X3 path cursor.None f w = inl (refl, omega arith, omega arith)
own_shifts p X4 path cursor.None f w = inl (refl, omega arith, omega arith)
own_shifts p X5 path (At o) f w = let t = choice_has p (covered_by p path) o f.1 in inl (refl, omega arith, omega (arith, t.within))
own_shifts p X5 path Past f w = inr (omega arith, omega arith)
own_shifts p X6 path (At o) f w = let t = choice_has p (covered_by p path) o f.1 in inl (refl, omega arith, omega (arith, t.within))
own_shifts p X7 path cursor.None f w = inr (omega arith, omega arith)
own_shifts p X8 path cursor.None f w = inr (omega arith, omega arith)
own_shifts p Done path cursor.None f w = inr (omega arith, omega arith)
own_shifts p _ path _ f w = absurd f

pub end_shifts : (p : ProblemValue) (s : StateValue) (n d : ℕ) → Fits p s → n ≤ length s.path → length s.path ≤ n → d ≡ digit_at many s.label s.cursor → IsWithin s.cursor → Shifts (length p.options) d (get_or (digits (length p.options) s.label s.path s.cursor) n 0)
end_shifts p s n d f a b e w =
    let x = digit_last (length p.options) s.label s.path s.cursor n (omega arith) in
    rw (e, x) (own_shifts p s.label s.path s.cursor f w)

shifted_less : (m c d x y : ℕ) → Shifts m c x → Shifts m d y → c < d → x < y
shifted_less m c d x y (inl a) (inl b) l = let e = a.0 in let f = b.0 in omega arith
shifted_less m c d x y (inl a) (inr b) l = let e = a.2 in let f = b.1 in omega arith
shifted_less m c d x y (inr a) (inl b) l = let e = a.0 in let g = a.1 in let f = b.1 in absurd (omega arith)
shifted_less m c d x y (inr a) (inr b) l = let e = a.0 in let f = b.0 in omega arith

shifted_same : (m c d x y : ℕ) → Shifts m c x → Shifts m d y → c ≡ d → x ≡ y
shifted_same m c d x y (inl a) (inl b) l = let e = a.0 in let f = b.0 in omega arith
shifted_same m c d x y (inl a) (inr b) l = let e = a.1 in let f = b.0 in let g = b.1 in absurd (omega arith)
shifted_same m c d x y (inr a) (inl b) l = let e = a.0 in let g = a.1 in let f = b.1 in absurd (omega arith)
shifted_same m c d x y (inr a) (inr b) l = let e = a.0 in let f = b.0 in omega arith

-- no step of its own stands where what lies below an option does
own_not_below : (p : ProblemValue) (l : Label) (path : List ℕ) (k : Cursor) (o : ℕ) → FitsAt p l path k → 0 < o → o ≤ length p.options → digit_at (length p.options) l k ≡ 4 * o + 2 → ⊥
own_not_below p X1 path cursor.None o f a b e = omega arith
own_not_below p X2 path cursor.None o f a b e = omega arith
own_not_below p X3 path cursor.None o f a b e = omega arith
own_not_below p X4 path cursor.None o f a b e = omega arith
own_not_below p X5 path (At t) o f a b e = omega arith
own_not_below p X5 path Past o f a b e = omega arith
own_not_below p X6 path (At t) o f a b e = omega arith
own_not_below p X7 path cursor.None o f a b e = omega arith
own_not_below p X8 path cursor.None o f a b e = omega arith
own_not_below p Done path cursor.None o f a b e = omega arith
own_not_below p _ path _ o f a b e = f

same_rank : (p : ProblemValue) (s t : StateValue) (n : ℕ) → IsShared s.path t.path n → n ≡ length s.path → n ≡ length t.path → get_or (digits (length p.options) s.label s.path s.cursor) n 0 ≡ get_or (digits (length p.options) t.label t.path t.cursor) n 0 → rank p s ≡ rank p t
unfolding rank
same_rank p s t n h a b e =
    let q : s.path ≡ t.path = sym (take_all n s.path (omega arith)) ∙ h.same ∙ take_all n t.path (omega arith) in
    let d : digit_at (length p.options) s.label s.cursor ≡ digit_at (length p.options) t.label t.cursor = sym (digit_last (length p.options) s.label s.path s.cursor n a) ∙ e ∙ digit_last (length p.options) t.label t.path t.cursor n b in
    ap₂ (λ (q : List ℕ) (d : ℕ). number (4 * length p.options + 9) (suc p.primary) (map (λ o. 4 * o + 2) q ++ d ∷ [])) q d

-- the same digit where they part: they are one state
digit_same : (p : ProblemValue) (s t : StateValue) (n : ℕ) → Fits p s → Fits p t → IsShared s.path t.path n → get_or (digits (length p.options) s.label s.path s.cursor) n 0 ≡ get_or (digits (length p.options) t.label t.path t.cursor) n 0 → s ≡ t
digit_same p s t n f g h e = step (cases_lt n (length s.path)) (cases_lt n (length t.path))
  where
    step : (n < length s.path) ⊎ (length s.path ≤ n) → (n < length t.path) ⊎ (length t.path ≤ n) → s ≡ t
    step (inl a) (inl b) =
        let x = digit_in (length p.options) s.label s.path s.cursor n a in
        let y = digit_in (length p.options) t.label t.path t.cursor n b in
        absurd (h.differs a b (omega arith))
    step (inl a) (inr b) =
        let x = digit_in (length p.options) s.label s.path s.cursor n a in
        let y = digit_last (length p.options) t.label t.path t.cursor n (omega (arith, h.within_other)) in
        let c = choice_in p s.path n (fits_valid p s.label s.path s.cursor f) a in
        absurd (own_not_below p t.label t.path t.cursor (get_or s.path n 0) g c.some c.within (omega arith))
    step (inr a) (inl b) =
        let x = digit_last (length p.options) s.label s.path s.cursor n (omega (arith, h.within)) in
        let y = digit_in (length p.options) t.label t.path t.cursor n b in
        let c = choice_in p t.path n (fits_valid p t.label t.path t.cursor g) b in
        absurd (own_not_below p s.label s.path s.cursor (get_or t.path n 0) f c.some c.within (omega arith))
    step (inr a) (inr b) = rank_once p s t f g (same_rank p s t n h (omega (arith, h.within)) (omega (arith, h.within_other)) e)

-- ---- the comparison

pub stages_order : (p : ProblemValue) (s t : StateValue) (n c d : ℕ) (r : Ordering) → Fits p s → Fits p t → IsShared s.path t.path n → Shifts (length p.options) c (get_or (digits (length p.options) s.label s.path s.cursor) n 0) → Shifts (length p.options) d (get_or (digits (length p.options) t.label t.path t.cursor) n 0) → r ≡ nat_cmp c d → MatchOrdering r (rank p s < rank p t) (s ≡ t) (rank p t < rank p s)
stages_order p s t n c d r f g h a b e = step r (ranked c d r e)
  where
    step : (r : Ordering) → MatchOrdering r (c < d) (c ≡ d) (d < c) → MatchOrdering r (rank p s < rank p t) (s ≡ t) (rank p t < rank p s)
    step Less m = digit_decides p s.label t.label s.path t.path s.cursor t.cursor n f h.within h.within_other h.same (shifted_less (length p.options) c d _ _ a b m)
    step Equal m = digit_same p s t n f g h (shifted_same (length p.options) c d _ _ a b m)
    step Greater m = digit_decides p t.label s.label t.path s.path t.cursor s.cursor n g h.within_other h.within (sym h.same) (shifted_less (length p.options) d c _ _ b a m)

-- the comparison of two states, as its three answers
pub record Orders (p : ProblemValue) (s t : StateValue) (r : Ordering) : Type 0 where
  pub less : (r ≡ Less) ↔ ComesBefore p s t
  pub equal : (r ≡ Equal) ↔ (s ≡ t)
  pub greater : (r ≡ Greater) ↔ ComesBefore p t s

pub orders : (p : ProblemValue) (s t : StateValue) (n c d : ℕ) (r : Ordering) → Fits p s → Fits p t → IsShared s.path t.path n → Shifts (length p.options) c (get_or (digits (length p.options) s.label s.path s.cursor) n 0) → Shifts (length p.options) d (get_or (digits (length p.options) t.label t.path t.cursor) n 0) → r ≡ nat_cmp c d → Orders p s t r
orders p s t n c d r f g h a b e =
    let m = stages_order p s t n c d r f g h a b e in
    record { less = order_less p s t f g r m; equal = order_equal p s t f g r m; greater = order_greater p s t f g r m }
