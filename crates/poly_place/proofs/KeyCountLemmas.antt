-- How many of a list are like none before them is how many different keys they have.
use Rattle.std.proofs.Common.{◌≡◌, ℕ, suc, ◌+◌, List, [], ◌∷◌, ◌++◌, ◌⊎◌, map, length, inl, inr, refl, sym, ap, subst, ◌∙◌, Ordering, Equal, arith}
use Rattle.std.specs.Cmp.{IsTotalOrder}
use Rattle.std.proofs.lemmas.Cmp.{tied_itself}
use Rattle.std.proofs.lemmas.List.{map-append, append-nil, append_assoc}
use Rattle.poly_cells.specs.Sets.{IsIn, by_order, insert_in, in_order, IsExact}
use Rattle.poly_cells.proofs.SetLemmas.{in_append_left, in_append_right, in_append_cases, in_map, in_from_map, cases_order, in_order_rises, in_from_order, in_to_order, same_members}
use Rattle.poly_place.specs.Classes.{AreNew}

-- ---- one more in a list put in order

-- whether it is a member is decided by the order
in_or_not : {C : Type 0} {R : C → C → Ordering} → IsTotalOrder R → IsExact R → (c : C) (cs : List C) → IsIn c cs ⊎ (IsIn c cs → ⊥)
in_or_not o exact c [] = inr (λ i. i)
in_or_not {C} {R} o exact c (d ∷ ds) =
    let rest = in_or_not o exact c ds in
    elim (cases_order (R c d)) [
      | inl l ↦ later rest (λ e. let t = subst (λ (x : C). R c x ≡ Equal) e (tied_itself o c) in cc)
      | inr other ↦ elim other [
        | inl e ↦ inl (inl (exact c d e))
        | inr g ↦ later rest (λ e. let t = subst (λ (x : C). R c x ≡ Equal) e (tied_itself o c) in cc)
      ]
    ]
  where
    later : IsIn c ds ⊎ (IsIn c ds → ⊥) → (c ≡ d → ⊥) → IsIn c (d ∷ ds) ⊎ (IsIn c (d ∷ ds) → ⊥)
    later rest differ = elim rest [ inl i ↦ inl (inr i) | inr n ↦ inr (λ i. elim i [ inl e ↦ differ e | inr r ↦ n r ]) ]

last_more : (n : ℕ) → suc n ≡ n + 1
last_more n = omega arith

insert_longer : {C : Type 0} {R : C → C → Ordering} → IsExact R → (c : C) (cs : List C) → (IsIn c cs → ⊥) → length (insert_in R c cs) ≡ suc (length cs)
insert_longer exact c [] n = refl
insert_longer {C} {R} exact c (d ∷ ds) n =
    elim (cases_order (R c d)) [
      | inl e ↦ ap (λ o. length (by_order o (c ∷ d ∷ ds) (d ∷ ds) (d ∷ insert_in R c ds))) e
      | inr other ↦ elim other [
        | inl e ↦ absurd (n (inl (exact c d e)))
        | inr e ↦ ap (λ o. length (by_order o (c ∷ d ∷ ds) (d ∷ ds) (d ∷ insert_in R c ds))) e
            ∙ ap suc (insert_longer exact c ds (λ i. n (inr i)))
      ]
    ]

-- a list with the same members, put in order
same_order : {C : Type 0} {R : C → C → Ordering} → IsTotalOrder R → IsExact R → (xs ys : List C) → ((x : C) → IsIn x xs → IsIn x ys) → ((x : C) → IsIn x ys → IsIn x xs) → in_order R xs ≡ in_order R ys
same_order {C} {R} o exact xs ys to from =
    same_members o (in_order R xs) (in_order R ys) (in_order_rises o xs) (in_order_rises o ys)
    (λ x i. in_to_order exact x ys (to x (in_from_order R x xs i)))
    (λ x i. in_to_order exact x xs (from x (in_from_order R x ys i)))

same_with : {C : Type 0} {R : C → C → Ordering} → IsTotalOrder R → IsExact R → (c : C) (cs : List C) → IsIn c cs → length (in_order R (cs ++ c ∷ [])) ≡ length (in_order R cs)
same_with o exact c cs i =
    ap length (same_order o exact (cs ++ c ∷ []) cs
    (λ x j. elim (in_append_cases x cs (c ∷ []) j) [ inl l ↦ l | inr r ↦ elim r [ inl e ↦ subst (λ y. IsIn y cs) (sym e) i | inr none ↦ absurd none ] ])
    (λ x j. in_append_left x cs (c ∷ []) j))

more_with : {C : Type 0} {R : C → C → Ordering} → IsTotalOrder R → IsExact R → (c : C) (cs : List C) → (IsIn c cs → ⊥) → length (in_order R (cs ++ c ∷ [])) ≡ length (in_order R cs) + 1
unfolding in_order
more_with {C} {R} o exact c cs n =
    ap length (same_order o exact (cs ++ c ∷ []) (c ∷ cs)
    (λ x j. elim (in_append_cases x cs (c ∷ []) j) [ inl l ↦ inr l | inr r ↦ elim r [ inl e ↦ inl e | inr none ↦ absurd none ] ])
    (λ x j. elim j [ inl e ↦ in_append_right x cs (c ∷ []) (inl e) | inr r ↦ in_append_left x cs (c ∷ []) r ]))
    ∙ insert_longer exact c (in_order R cs) (λ i. n (in_from_order R c cs i)) ∙ last_more (length (in_order R cs))

-- ---- classes

-- among the members of the list, those are alike whose keys are equal
pub record AreKeys {P C : Type 0} (Like : P → P → Type 0) (key : P → C) (all : List P) : Type 0 where
  pub same : (p q : P) → IsIn p all → IsIn q all → Like p q → key p ≡ key q
  pub like : (p q : P) → IsIn p all → IsIn q all → key p ≡ key q → Like p q

sum_same : (a b c n : ℕ) → b ≡ a → b + n ≡ c → a + n ≡ c
sum_same a b c n e h = omega arith

sum_more : (a b c n : ℕ) → b ≡ a + 1 → b + n ≡ c → a + (n + 1) ≡ c
sum_more a b c n e h = omega arith

new_keys : {P C : Type 0} {R : C → C → Ordering} → IsTotalOrder R → IsExact R → (Like : P → P → Type 0) (key : P → C) (before ps : List P) → AreKeys Like key (before ++ ps)
    → (n : ℕ) × AreNew Like before ps n × (length (in_order R (map key before)) + n ≡ length (in_order R (map key (before ++ ps))))
new_keys {P} {C} {R} o exact Like key before [] k =
    (0, refl, sum_same _ _ _ _ refl (let e = ap (λ (qs : List P). length (in_order R (map key qs))) (append-nil before) in omega arith))
new_keys {P} {C} {R} o exact Like key before (p ∷ ps) k =
    let step = map-append key before (p ∷ []) in
    let rest = new_keys o exact Like key (before ++ p ∷ []) ps (subst (λ (qs : List P). AreKeys Like key qs) (sym (append_assoc before (p ∷ []) ps)) k) in
    elim (in_or_not o exact (key p) (map key before)) [
      | inl i ↦
          let q = in_from_map key (key p) before i in
          let like = k.like q.0 p (in_append_left q.0 before (p ∷ ps) q.1) (in_append_right p before (p ∷ ps) (inl refl)) (sym q.2) in (
            rest.0,
            inl ((q.0, q.1, like), rest.1),
            sum_same _ _ _ _ (ap (λ (cs : List C). length (in_order R cs)) step ∙ same_with o exact (key p) (map key before) i) (rest.2 ∙ together),
          )
      | inr n ↦ (
        rest.0 + 1,
        inr ((λ like. n (subst (λ (c : C). IsIn c (map key before)) (k.same like.0 p (in_append_left like.0 before (p ∷ ps) like.1) (in_append_right p before (p ∷ ps) (inl refl)) like.2) (in_map key like.0 before like.1))), (rest.0, refl, rest.1)),
        sum_more _ _ _ _ (ap (λ (cs : List C). length (in_order R cs)) step ∙ more_with o exact (key p) (map key before) n) (rest.2 ∙ together),
      )
    ]
  where
    together : length (in_order R (map key ((before ++ p ∷ []) ++ ps))) ≡ length (in_order R (map key (before ++ p ∷ ps)))
    together = ap (λ (qs : List P). length (in_order R (map key qs))) (append_assoc before (p ∷ []) ps)

none_before : (m n : ℕ) → 0 + m ≡ n → m ≡ n
none_before m n h = omega arith

pub classes_are_keys : {P C : Type 0} {R : C → C → Ordering} → IsTotalOrder R → IsExact R → (Like : P → P → Type 0) (key : P → C) (ps : List P) → AreKeys Like key ps
    → AreNew Like [] ps (length (in_order R (map key ps)))
unfolding in_order
classes_are_keys {P} {C} {R} o exact Like key ps k =
    let found = new_keys o exact Like key [] ps k in
    subst (λ (n : ℕ). AreNew Like [] ps n) (none_before _ _ found.2) found.1
