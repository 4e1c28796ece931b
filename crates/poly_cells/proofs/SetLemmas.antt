-- Sets in order: a list put in order rises and has the same members, and two rising lists with the same members are equal.
use Rattle.std.proofs.Common.{◌≡◌, ℕ, zero, suc, ◌<◌, List, [], ◌∷◌, ◌++◌, map, length, get_or, ◌⊎◌, inl, inr, refl, sym, ap, subst, ◌∙◌, Ordering, Less, Equal, Greater, arith, Contains, take, ◌+◌}
use Rattle.std.specs.Cmp.{IsTotalOrder}
use Rattle.std.specs.Ordering.{ordering_reverse}
use Rattle.std.specs.List.{AllByRecursion}
use Rattle.std.specs.List.Sorted.{IsStrictlySortedBy}
use Rattle.std.proofs.lemmas.Cmp.{tied_itself}
use Rattle.poly_cells.specs.Sets.{IsIn, by_order, insert_in, in_order, IsExact}
use Rattle.std.proofs.lemmas.List.Elements.{All-contains, All-from_recursion, recursion_from_All}
use Rattle.std.proofs.lemmas.List.{take_more}

-- ---- members

pub in_append_left : {K : Type 0} (x : K) (xs ys : List K) → IsIn x xs → IsIn x (xs ++ ys)
in_append_left x [] ys h = absurd h
in_append_left x (z ∷ zs) ys h = elim h [ inl e ↦ inl e | inr i ↦ inr (in_append_left x zs ys i) ]

pub in_append_right : {K : Type 0} (x : K) (xs ys : List K) → IsIn x ys → IsIn x (xs ++ ys)
in_append_right x [] ys h = h
in_append_right x (z ∷ zs) ys h = inr (in_append_right x zs ys h)

pub in_append_cases : {K : Type 0} (x : K) (xs ys : List K) → IsIn x (xs ++ ys) → IsIn x xs ⊎ IsIn x ys
in_append_cases x [] ys h = inr h
in_append_cases x (z ∷ zs) ys h =
    elim h [ inl e ↦ inl (inl e) | inr i ↦ elim (in_append_cases x zs ys i) [ inl l ↦ inl (inr l) | inr r ↦ inr r ] ]

pub in_map : {K J : Type 0} (f : K → J) (a : K) (xs : List K) → IsIn a xs → IsIn (f a) (map f xs)
in_map f a [] h = absurd h
in_map f a (y ∷ ys) h = elim h [ inl e ↦ inl (ap f e) | inr i ↦ inr (in_map f a ys i) ]

pub in_from_map : {K J : Type 0} (f : K → J) (x : J) (xs : List K) → IsIn x (map f xs) → (a : K) × IsIn a xs × (x ≡ f a)
in_from_map f x [] h = absurd h
in_from_map f x (y ∷ ys) h =
    elim h [ inl e ↦ (y, inl refl, e) | inr i ↦ let rest = in_from_map f x ys i in (rest.0, inr rest.1, rest.2) ]

pub in_at : {K : Type 0} (xs : List K) (k : ℕ) (d : K) → k < length xs → IsIn (get_or xs k d) xs
in_at [] k d h = absurd (omega arith)
in_at (y ∷ ys) zero d h = inl refl
in_at (y ∷ ys) (suc k) d h = inr (in_at ys k d (omega arith))

-- the items so far of a loop, with one more
pub take_next : {K : Type 0} (xs : List K) (k : ℕ) (x : K) → k < length xs → x ≡ get_or xs k x → take (k + 1) xs ≡ take k xs ++ x ∷ []
take_next xs k x lt is = take_more xs k x lt ∙ ap (λ y. take k xs ++ y ∷ []) (sym is)

pub in_from_contains : {K : Type 0} (xs : List K) (x : K) → Contains xs x → IsIn x xs
in_from_contains xs x h = subst (λ y. IsIn y xs) h.2 (in_at xs h.0 x h.1)

pub contains_from_in : {K : Type 0} (xs : List K) (x : K) → IsIn x xs → Contains xs x
contains_from_in [] x h = absurd h
contains_from_in (y ∷ ys) x h =
    elim h [
      | inl e ↦ (0, omega arith, sym e)
      | inr i ↦ let rest = contains_from_in ys x i in (suc rest.0, omega arith, rest.2)
    ]

pub all_in : {K : Type 0} (P : K → Type 0) (xs : List K) → AllByRecursion P xs → (x : K) → IsIn x xs → P x
all_in P xs h x i = All-contains P xs x (All-from_recursion P xs h) (contains_from_in xs x i)

pub all_from_in : {K : Type 0} (P : K → Type 0) (xs : List K) → ((x : K) → IsIn x xs → P x) → AllByRecursion P xs
all_from_in P xs h = recursion_from_All P xs (λ k d lt. h (get_or xs k d) (in_at xs k d lt))

-- ---- the order

pub cases_order : (o : Ordering) → (o ≡ Less) ⊎ ((o ≡ Equal) ⊎ (o ≡ Greater))
cases_order Less = inl refl
cases_order Equal = inr (inl refl)
cases_order Greater = inr (inr refl)

pub turned_back : {K : Type 0} {R : K → K → Ordering} → IsTotalOrder R → (x y : K) → R x y ≡ Greater → R y x ≡ Less
turned_back o x y h = o.antisymm y x ∙ ap ordering_reverse h

pub not_both : {K : Type 0} {R : K → K → Ordering} → IsTotalOrder R → (x y : K) → R x y ≡ Less → R y x ≡ Less → ⊥
not_both o x y h g = let e = sym g ∙ o.antisymm y x ∙ ap ordering_reverse h in cc

pub not_itself : {K : Type 0} {R : K → K → Ordering} → IsTotalOrder R → (x : K) → R x x ≡ Less → ⊥
not_itself o x h = let e = tied_itself o x in cc

pub rising_tail : {K : Type 0} (R : K → K → Ordering) (x : K) (xs : List K) → IsStrictlySortedBy R (x ∷ xs) → IsStrictlySortedBy R xs
unfolding IsStrictlySortedBy
rising_tail R x xs h = h.1

pub rising_head : {K : Type 0} (R : K → K → Ordering) (x : K) (xs : List K) → IsStrictlySortedBy R (x ∷ xs) → (y : K) → IsIn y xs → R x y ≡ Less
unfolding IsStrictlySortedBy
rising_head R x xs h y i = all_in (λ z. R x z ≡ Less) xs h.0 y i

pub rising_cons : {K : Type 0} (R : K → K → Ordering) (x : K) (xs : List K) → ((y : K) → IsIn y xs → R x y ≡ Less) → IsStrictlySortedBy R xs → IsStrictlySortedBy R (x ∷ xs)
unfolding IsStrictlySortedBy
rising_cons R x xs below rest = (all_from_in (λ z. R x z ≡ Less) xs below, rest)

pub rising_none : {K : Type 0} (R : K → K → Ordering) → IsStrictlySortedBy R []
unfolding IsStrictlySortedBy
rising_none R = tt

-- a map that keeps the order keeps a rising list rising
pub rising_map : {K J : Type 0} (f : K → J) (R : K → K → Ordering) (S : J → J → Ordering) (xs : List K)
    → ((x y : K) → IsIn x xs → IsIn y xs → R x y ≡ Less → S (f x) (f y) ≡ Less) → IsStrictlySortedBy R xs → IsStrictlySortedBy S (map f xs)
rising_map f R S [] keeps h = rising_none S
rising_map {K} {J} f R S (x ∷ xs) keeps h =
    rising_cons S (f x) (map f xs)
    (λ y i. let from = in_from_map f y xs i in
    subst (λ (z : J). S (f x) z ≡ Less) (sym from.2) (keeps x from.0 (inl refl) (inr from.1) (rising_head R x xs h from.0 from.1)))
    (rising_map f R S xs (λ a b p q. keeps a b (inr p) (inr q)) (rising_tail R x xs h))

-- ---- an insertion in order

insert_by : {K : Type 0} (R : K → K → Ordering) (x y : K) (ys : List K) (o : Ordering) → R x y ≡ o → insert_in R x (y ∷ ys) ≡ by_order o (x ∷ y ∷ ys) (y ∷ ys) (y ∷ insert_in R x ys)
insert_by R x y ys o e = ap (λ p. by_order p (x ∷ y ∷ ys) (y ∷ ys) (y ∷ insert_in R x ys)) e

in_from_insert : {K : Type 0} (R : K → K → Ordering) (x a : K) (xs : List K) → IsIn x (insert_in R a xs) → (x ≡ a) ⊎ IsIn x xs
in_from_insert R x a [] h = h
in_from_insert R x a (y ∷ ys) h =
    elim (cases_order (R a y)) [
      | inl e ↦ subst (IsIn x) (insert_by R a y ys Less e) h
      | inr other ↦ elim other [
        | inl e ↦ inr (subst (IsIn x) (insert_by R a y ys Equal e) h)
        | inr e ↦ let moved : (x ≡ y) ⊎ IsIn x (insert_in R a ys) = subst (IsIn x) (insert_by R a y ys Greater e) h in
            elim moved [ inl p ↦ inr (inl p) | inr q ↦ elim (in_from_insert R x a ys q) [ inl p ↦ inl p | inr r ↦ inr (inr r) ] ]
      ]
    ]

in_to_insert : {K : Type 0} {R : K → K → Ordering} → IsExact R → (x a : K) (xs : List K) → (x ≡ a) ⊎ IsIn x xs → IsIn x (insert_in R a xs)
in_to_insert exact x a [] h = h
in_to_insert {K} {R} exact x a (y ∷ ys) h =
    elim (cases_order (R a y)) [
      | inl e ↦ subst (IsIn x) (sym (insert_by R a y ys Less e)) h
      | inr other ↦ elim other [
        | inl e ↦ subst (IsIn x) (sym (insert_by R a y ys Equal e)) (elim h [ inl p ↦ inl (p ∙ exact a y e) | inr q ↦ q ])
        | inr e ↦ subst (IsIn x) (sym (insert_by R a y ys Greater e))
            (elim h [ inl p ↦ inr (in_to_insert exact x a ys (inl p)) | inr q ↦ elim q [ inl p ↦ inl p | inr r ↦ inr (in_to_insert exact x a ys (inr r)) ] ])
      ]
    ]

insert_rises : {K : Type 0} {R : K → K → Ordering} → IsTotalOrder R → (a : K) (xs : List K) → IsStrictlySortedBy R xs → IsStrictlySortedBy R (insert_in R a xs)
insert_rises {K} {R} o a [] h = rising_cons R a [] (λ y i. absurd i) h
insert_rises {K} {R} o a (y ∷ ys) h =
    elim (cases_order (R a y)) [
      | inl e ↦ subst (IsStrictlySortedBy R) (sym (insert_by R a y ys Less e))
          (rising_cons R a (y ∷ ys) (λ z i. elim i [ inl p ↦ subst (λ (w : K). R a w ≡ Less) (sym p) e | inr q ↦ o.trans a y z e (rising_head R y ys h z q) ]) h)
      | inr other ↦ elim other [
        | inl e ↦ subst (IsStrictlySortedBy R) (sym (insert_by R a y ys Equal e)) h
        | inr e ↦ subst (IsStrictlySortedBy R) (sym (insert_by R a y ys Greater e))
            (rising_cons R y (insert_in R a ys)
            (λ z i. elim (in_from_insert R z a ys i) [ inl p ↦ subst (λ (w : K). R y w ≡ Less) (sym p) (turned_back o a y e) | inr q ↦ rising_head R y ys h z q ])
            (insert_rises o a ys (rising_tail R y ys h)))
      ]
    ]

-- ---- a list in order

pub in_order_rises : {K : Type 0} {R : K → K → Ordering} → IsTotalOrder R → (xs : List K) → IsStrictlySortedBy R (in_order R xs)
unfolding in_order
in_order_rises {K} {R} o [] = rising_none R
in_order_rises {K} {R} o (x ∷ xs) = insert_rises o x (in_order R xs) (in_order_rises o xs)

pub in_from_order : {K : Type 0} (R : K → K → Ordering) (x : K) (xs : List K) → IsIn x (in_order R xs) → IsIn x xs
unfolding in_order
in_from_order R x [] h = h
in_from_order R x (y ∷ ys) h = elim (in_from_insert R x y (in_order R ys) h) [ inl e ↦ inl e | inr i ↦ inr (in_from_order R x ys i) ]

pub in_to_order : {K : Type 0} {R : K → K → Ordering} → IsExact R → (x : K) (xs : List K) → IsIn x xs → IsIn x (in_order R xs)
unfolding in_order
in_to_order exact x [] h = h
in_to_order {K} {R} exact x (y ∷ ys) h =
    in_to_insert exact x y (in_order R ys) (elim h [ inl e ↦ inl e | inr i ↦ inr (in_to_order exact x ys i) ])

-- ---- rising lists with the same members are equal

first_same : {K : Type 0} {R : K → K → Ordering} → IsTotalOrder R → (x y : K) (xs ys : List K) → IsStrictlySortedBy R (x ∷ xs) → IsStrictlySortedBy R (y ∷ ys)
    → IsIn x (y ∷ ys) → IsIn y (x ∷ xs) → x ≡ y
first_same {K} {R} o x y xs ys h g i j =
    elim i [
      | inl e ↦ e
      | inr p ↦ elim j [ inl e ↦ sym e | inr q ↦ absurd (not_both o x y (rising_head R x xs h y q) (rising_head R y ys g x p)) ]
    ]

later_in : {K : Type 0} {R : K → K → Ordering} → IsTotalOrder R → (x y : K) (xs ys : List K) → x ≡ y → IsStrictlySortedBy R (x ∷ xs) → (z : K) → IsIn z xs → IsIn z (y ∷ ys) → IsIn z ys
later_in {K} {R} o x y xs ys e h z i j =
    elim j [
      | inl p ↦ absurd (not_itself o x (subst (λ (w : K). R x w ≡ Less) (p ∙ sym e) (rising_head R x xs h z i)))
      | inr q ↦ q
    ]

pub same_members : {K : Type 0} {R : K → K → Ordering} → IsTotalOrder R → (xs ys : List K) → IsStrictlySortedBy R xs → IsStrictlySortedBy R ys
    → ((x : K) → IsIn x xs → IsIn x ys) → ((x : K) → IsIn x ys → IsIn x xs) → xs ≡ ys
same_members o [] [] h g to from = refl
same_members o [] (y ∷ ys) h g to from = absurd (from y (inl refl))
same_members o (x ∷ xs) [] h g to from = absurd (to x (inl refl))
same_members {K} {R} o (x ∷ xs) (y ∷ ys) h g to from =
    let e = first_same o x y xs ys h g (to x (inl refl)) (from y (inl refl)) in
    let rest = same_members o xs ys (rising_tail R x xs h) (rising_tail R y ys g)
    (λ z i. later_in o x y xs ys e h z i (to z (inr i)))
    (λ z i. later_in o y x ys xs (sym e) g z i (from z (inr i))) in
    cc
