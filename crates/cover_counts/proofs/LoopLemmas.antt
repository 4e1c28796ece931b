-- Sets that were taken up one below the other, and a measure of the work that is left.
use Rattle.std.proofs.Common.{◌≡◌, ℕ, zero, suc, ◌+◌, ◌*◌, ◌^◌, ◌<◌, ◌≤◌, ◌++◌, ◌⊎◌, List, [], ◌∷◌, Option, Some, None, length, refl, sym, ap, subst, inl, inr, arith}
use Rattle.std.proofs.Math.Nat.{pow-zero, pow-succ'}
use Rattle.std.proofs.lemmas.Bool.{cases_lt}
use Rattle.cover_problem.specs.Problem.{ProblemValue}
use Rattle.cover_problem.specs.Covering.{active}
use Rattle.cover_problem.specs.Path.{taken}
use Rattle.cover_counts.specs.declared.search.Open.{Open}
use Rattle.cover_counts.specs.Below.{CountsBelow}
use Rattle.cover_counts.specs.Search.{IsTaken, LeadsDown, IsCounted, left_of}
use Rattle.cover_counts.proofs.SearchLemmas.{entered_falls, taken_choice, taken_all}

-- the last of these sets
pub record LastOf (p : ProblemValue) (start : List ℕ) (front : List Open) (top : Open) (d : List ℕ) : Type 0 where
  pub covered : List ℕ
  pub leads : LeadsDown p start front covered
  pub upper : IsTaken p covered top
  pub option : ℕ
  pub next : top.next ≡ Some option
  pub last : d ≡ taken p covered option

pub lead_push : (p : ProblemValue) (start d : List ℕ) (front : List Open) (top : Open) (o : ℕ) → LeadsDown p start front d → IsTaken p d top → top.next ≡ Some o → LeadsDown p start (front ++ top ∷ []) (taken p d o)
lead_push p start d [] top o l t e = (subst (λ c. IsTaken p c top) (sym l) t, (o, e, ap (λ c. taken p c o) l))
lead_push p start d (x ∷ xs) top o l t e = (l.0, (l.1.0, l.1.1, lead_push p (taken p start l.1.0) d xs top o l.1.2 t e))

pub lead_pop : (p : ProblemValue) (start d : List ℕ) (front : List Open) (top : Open) → LeadsDown p start (front ++ top ∷ []) d → LastOf p start front top d
lead_pop p start d [] top l = record { covered = start; leads = refl; upper = l.0; option = l.1.0; next = l.1.1; last = sym l.1.2 }
lead_pop p start d (x ∷ xs) top l =
    let r = lead_pop p (taken p start l.1.0) d xs top l.1.2 in
    record { covered = r.covered; leads = (l.0, (l.1.0, l.1.1, r.leads)); upper = r.upper; option = r.option; next = r.next; last = r.last }

-- the next option, or 0
abbrev pub next_or : Option ℕ → ℕ
next_or None = 0
next_or (Some o) = o

-- a number above the number of options of any set
abbrev pub base : ProblemValue → ℕ
base p = length p.options + 3

-- the weight of one option of a set, by the items that it leaves
abbrev pub share : ProblemValue → List ℕ → ℕ
share p c = base p ^ length (active p c)

-- the measure: each option that is left weighs a share of its set, and the last set weighs one share more
abbrev pub weight : ProblemValue → List ℕ → List Open → Open → ℕ
weight p c [] top = suc (left_of p top.next) * share p c
weight p c (x ∷ xs) top = left_of p x.next * share p c + weight p (taken p c (next_or x.next)) xs top

some_share : (b n : ℕ) → 0 < b → 0 < b ^ n
some_share b zero l = rw (pow-zero b) (omega arith)
some_share b (suc n) l = let ih = some_share b n l in rw (pow-succ' b n) (grows b (b ^ n) l ih)
  where
    grows : (x y : ℕ) → 0 < x → 0 < y → 0 < x * y
    grows (suc x) (suc y) l m = omega arith
    grows zero y l m = absurd (omega (arith, l))
    grows (suc x) zero l m = absurd (omega (arith, m))

times_less : (a b s : ℕ) → 0 < s → a < b → a * s < b * s
times_less zero (suc b) (suc s) l m = omega arith
times_less (suc a) (suc b) s l m = let ih = times_less a b s l (omega (arith, m)) in omega (arith, ih)
times_less a zero s l m = absurd (omega (arith, m))
times_less zero (suc b) zero l m = absurd (omega (arith, l))

times_most : (a b s : ℕ) → a ≤ b → a * s ≤ b * s
times_most zero b s l = omega arith
times_most (suc a) (suc b) s l = let ih = times_most a b s (omega (arith, l)) in omega (arith, ih)
times_most (suc a) zero s l = absurd (omega (arith, l))

-- one share of a set with more items outweighs all shares of a set with fewer
share_less : (b m n k : ℕ) → 0 < b → m < n → k < b → k * b ^ m < b ^ n
share_less b m zero k l f h = absurd (omega (arith, f))
share_less b m (suc n) k l f h = step (cases_lt m n) (λ f. share_less b m n k l f h)
  where
    step : (m < n) ⊎ (n ≤ m) → (m < n → k * b ^ m < b ^ n) → k * b ^ m < b ^ suc n
    step (inr e) ih = let same : n ≡ m = omega (arith, e, f) in subst (λ j. k * b ^ j < b ^ suc n) same (rw (pow-succ' b n) (times_less k b (b ^ n) (some_share b n l) h))
    step (inl f) ih =
        let less = ih f in
        let one : 1 * b ^ n ≤ b * b ^ n = times_most 1 b (b ^ n) (omega (arith, l)) in
        let more : b ^ suc n ≡ b * b ^ n = pow-succ' b n in
        omega (arith, less, one, more)

pub left_most : (p : ProblemValue) (next : Option ℕ) → left_of p next ≤ suc (length p.options)
left_most p None = omega arith
left_most p (Some o) = omega arith

-- an option of the last set is gone
pub weight_gone : (p : ProblemValue) (c : List ℕ) (front : List Open) (old new : Open) → left_of p new.next < left_of p old.next → weight p c front new < weight p c front old
weight_gone p c [] old new l = times_less (suc (left_of p new.next)) (suc (left_of p old.next)) (share p c) (some_share (base p) (length (active p c)) (omega arith)) (omega (arith, l))
weight_gone p c (x ∷ xs) old new l = let ih = weight_gone p (taken p c (next_or x.next)) xs old new l in omega (arith, ih)

-- a set is taken up below the last set
pub weight_push : (p : ProblemValue) (c d : List ℕ) (front : List Open) (old top new : Open) (o : ℕ) → LeadsDown p c front d → old.next ≡ Some o → top.next ≡ Some o → length (active p (taken p d o)) < length (active p d)
    → weight p c (front ++ top ∷ []) new < weight p c front old
weight_push p c d [] old top new o l e f falls = rw (e, f) last
  where
    same : c ≡ d
    same = l

    fewer : length (active p (taken p c o)) < length (active p c)
    fewer = subst (λ x. length (active p (taken p x o)) < length (active p x)) (sym same) falls

    last : left_of p (Some o) * share p c + suc (left_of p new.next) * share p (taken p c o) < suc (left_of p (Some o)) * share p c
    last =
        let m = left_most p new.next in
        let s = share_less (base p) (length (active p (taken p c o))) (length (active p c)) (suc (left_of p new.next)) (omega arith) fewer (omega (arith, m)) in
        omega (arith, s)
weight_push p c d (x ∷ xs) old top new o l e f falls =
    let n : next_or x.next ≡ l.1.0 = ap next_or l.1.1 in
    let ih = weight_push p (taken p c (next_or x.next)) d xs old top new o (subst (λ j. LeadsDown p (taken p c j) xs d) (sym n) l.1.2) e f falls in
    omega (arith, ih)

-- the last set is counted, and the set before it goes on
pub weight_pop : (p : ProblemValue) (c d : List ℕ) (front : List Open) (parent top new : Open) → LeadsDown p c (front ++ parent ∷ []) d → left_of p new.next < left_of p parent.next
    → weight p c front new < weight p c (front ++ parent ∷ []) top
weight_pop p c d [] parent top new l h =
    let m = times_most (suc (left_of p new.next)) (left_of p parent.next) (share p c) (omega (arith, h)) in
    let s = some_share (base p) (length (active p (taken p c (next_or parent.next)))) (omega arith) in
    let t = times_most 1 (suc (left_of p top.next)) (share p (taken p c (next_or parent.next))) (omega arith) in
    omega (arith, m, s, t)
weight_pop p c d (x ∷ xs) parent top new l h =
    let n : next_or x.next ≡ l.1.0 = ap next_or l.1.1 in
    let ih = weight_pop p (taken p c (next_or x.next)) d xs parent top new (subst (λ j. LeadsDown p (taken p c j) (xs ++ parent ∷ []) d) (sym n) l.1.2) h in
    omega (arith, ih)

-- the last set was counted below the set before it
pub counted_last : (p : ProblemValue) (start d : List ℕ) (front : List Open) (parent top : Open) → LeadsDown p start (front ++ parent ∷ []) d → IsTaken p d top → top.next ≡ None → (c : List ℕ) × IsCounted p c d parent top
counted_last p start d front parent top l t e =
    let r = lead_pop p start d front parent l in
    (r.covered, record { parent = r.upper; option = r.option; next = r.next; covered = r.last; top = t; none = e })

-- the earlier sets lead to that one
pub last_counted : (p : ProblemValue) (start d : List ℕ) (front : List Open) (parent top : Open) → (l : LeadsDown p start (front ++ parent ∷ []) d) → (t : IsTaken p d top) → (e : top.next ≡ None)
    → LeadsDown p start front (counted_last p start d front parent top l t e).0
unfolding counted_last lead_pop
last_counted p start d front parent top l t e = (lead_pop p start d front parent l).leads

-- a turn of the loop that takes up a set
pub into_leads : (p : ProblemValue) (s d e : List ℕ) (front items : List Open) (top : Open) (o : ℕ) → LeadsDown p s front d → IsTaken p d top × (top.next ≡ Some o) → e ≡ taken p d o → items ≡ front ++ top ∷ [] → LeadsDown p s items e
into_leads p s d e front items top o l t f i = rw (i, f) (lead_push p s d front top o l t.0 t.1)

pub into_less : (p : ProblemValue) (s d : List ℕ) (front items : List Open) (old top new : Open) (o : ℕ) → LeadsDown p s front d → IsTaken p d old → old.next ≡ Some o → IsTaken p d top × (top.next ≡ Some o)
    → items ≡ front ++ top ∷ [] → weight p s items new < weight p s front old
into_less p s d front items old top new o l t e x i = rw i (weight_push p s d front old top new o l e x.1 (entered_falls p d (taken p d o) o refl (taken_choice p d old o t e)))

-- a turn that closes one
pub out_less : (p : ProblemValue) (s d : List ℕ) (front items : List Open) (parent top new : Open) → LeadsDown p s items d → items ≡ front ++ parent ∷ [] → left_of p new.next < left_of p parent.next
    → weight p s front new < weight p s items top
out_less p s d front items parent top new l i f = rw i (weight_pop p s d front parent top new (subst (λ xs. LeadsDown p s xs d) i l) f)

-- the only set is counted
pub whole_counted : (p : ProblemValue) (s d : List ℕ) (items : List Open) (top : Open) (len : ℕ) → LeadsDown p s items d → IsTaken p d top → top.next ≡ None → len ≡ length items → len ≡ 0 → CountsBelow p s top.below
whole_counted p s d [] top len l t e n z = taken_all p s top (subst (λ x. IsTaken p x top) (sym l) t) e
whole_counted p s d (x ∷ xs) top len l t e n z = absurd (omega (arith, n, z))

pub whole_back : (p : ProblemValue) (s d : List ℕ) (items : List Open) (len : ℕ) → LeadsDown p s items d → len ≡ length items → len ≡ 0 → d ≡ s
whole_back p s d [] len l n z = sym l
whole_back p s d (x ∷ xs) len l n z = absurd (omega (arith, n, z))
