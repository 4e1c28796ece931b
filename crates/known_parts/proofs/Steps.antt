-- Each step keeps the rule.
use Rattle.std.proofs.Common.{◌≡◌, ◌≢◌, ◌⊎◌, ℕ, zero, suc, ◌+◌, ◌==◌, ◌<◌, List, [], ◌∷◌, ◌++◌, length, set, Bool, true, false, true≢false, refl, sym, ap, ◌∙◌, subst, inl, inr, ⊎_elim, cond, eqb, eq-eqb, ne_eqb, arith}
use mathlib.Core.Option.{some, some-ne-none, some-injective}
use lib.ListN.{get_elem?}
use Rattle.atomic_table.specs.Table.{State, Step, Splits, Joins, Allows, Act, Me, keeps}
use Rattle.atomic_table.proofs.Lists.{at_set}
use Rattle.known_parts.specs.declared.PassView.{PassView}
use Rattle.known_parts.specs.Parts.{knower, holder, nobody, taken_in, alone, given_back, one_more, new_holder, Fits, KeptBy, KeptIn, Kept, Learned, Changed, changed_to}

off : {b : Bool} → b ≡ false → b ≡ true → ⊥
off f t = true≢false (sym t ∙ f)

-- a place in a list that has one more
at_end : {A : Type 0} (l : List A) (a b : A) (j : ℕ) → get_elem? (l ++ a ∷ []) j ≡ some b → ((get_elem? l j ≡ some b) × (j < length l)) ⊎ ((j ≡ length l) × (a ≡ b))
at_end [] a b zero e = inr (refl, some-injective a b e)
at_end [] a b (suc j) e = absurd (some-ne-none b (sym e))
at_end (x ∷ xs) a b zero e = inl (e, omega arith)
at_end (x ∷ xs) a b (suc j) e = ⊎_elim (λ t. let n = t.1 in inl (t.0, omega arith)) (λ t. let n = t.0 in inr (omega arith, t.1)) (at_end xs a b j e)

-- the owner of one number becomes another pass
abbrev moved : (ℕ → ℕ) → ℕ → ℕ → ℕ → ℕ
moved owner n by k = cond (k == n) by (owner k)

moved_here : (owner : ℕ → ℕ) (n by : ℕ) → moved owner n by n ≡ by
moved_here owner n by = subst (λ b. cond b by (owner n) ≡ by) (sym (eq-eqb n n refl)) refl

moved_else : (owner : ℕ → ℕ) (n by k : ℕ) → k ≢ n → moved owner n by k ≡ owner k
moved_else owner n by k ne = subst (λ b. cond b by (owner k) ≡ owner k) (sym (ne_eqb k n ne)) refl

module _ {X Y : Type 0} (part : ℕ → X → Y) where
  -- one pass changes, and what the rule says of the others goes on
  kept_set : (seat : ℕ) (all : X) (made : ℕ) (owner : ℕ → ℕ) (views : List (PassView X Y)) (by : ℕ) (w : PassView X Y)
      → ((j : ℕ) (u : PassView X Y) → j ≢ by → get_elem? views j ≡ some u → Fits part seat all made owner j u) → Fits part seat all made owner by w
      → KeptBy part seat all made owner (set views by w)
  kept_set seat all made owner views by w others mine j u e =
      ⊎_elim
      (λ (x : (j ≡ by) × (w ≡ u)). subst (λ (y : ℕ × PassView X Y). Fits part seat all made owner y.0 y.1) (λ i. (sym x.0 i, x.1 i)) mine)
      (λ (x : (j ≢ by) × (get_elem? views j ≡ some u)). others j u x.0 x.1)
      (at_set views by j w u e)

  -- a new pass comes
  kept_end : (seat : ℕ) (all : X) (made : ℕ) (owner : ℕ → ℕ) (views : List (PassView X Y)) (w : PassView X Y)
      → ((j : ℕ) (u : PassView X Y) → get_elem? views j ≡ some u → Fits part seat all made owner j u) → Fits part seat all made owner (length views) w
      → KeptBy part seat all made owner (views ++ w ∷ [])
  kept_end seat all made owner views w others mine j u e =
      ⊎_elim
      (λ (x : (get_elem? views j ≡ some u) × (j < length views)). others j u x.0)
      (λ (x : (j ≡ length views) × (w ≡ u)). subst (λ (y : ℕ × PassView X Y). Fits part seat all made owner y.0 y.1) (λ i. (sym x.0 i, x.1 i)) mine)
      (at_end views w u j e)

  pub begins : (all : X) (y : Y) → KeptIn part (knower all 0 y ∷ [])
  begins all y = (0, all, 0, (λ k. 0), one)
    where
      one : KeptBy part 0 all 0 (λ k. 0) (knower all 0 y ∷ [])
      one zero v e = subst (Fits part 0 all 0 (λ k. 0) 0) (some-injective _ _ e) ((λ _. (refl, refl, refl)), (λ c. absurd (off refl c)))
      one (suc by) v e = absurd (some-ne-none v (sym e))

  -- the keeper makes a holder
  pub makes : {S : Type 0} (id : ℕ) (v : PassView X Y) → v.knows ≡ true → v.holds ≡ false → Splits {S = S} (Kept part) id v (one_more v) (new_holder part v)
  makes id v knows free s h at =
      let seat = h.0 in let all = h.1 in let made = h.2 in let owner = h.3 in let kept = h.4 in
      let mine = (kept id v at).0 knows in
      let views = set s.views id (one_more v) in
      let owner' = moved owner v.made (length views) in
      let is : v.made ≡ made = mine.2 in (
        seat,
        all,
        made + 1,
        owner',
        kept_end seat all (made + 1) owner' views (new_holder part v)
            (kept_set seat all (made + 1) owner' s.views id (one_more v)
            (λ j u apart e.
            let f = kept j u e in (
              (λ k. absurd (apart ((f.0 k).0 ∙ sym mine.0))),
              (λ c. let g = f.1 c in let b : u.number < made = g.1 in (moved_else owner v.made (length views) u.number (λ same. omega arith) ∙ g.0, omega arith, g.2)),
            ))
            ((λ _. (mine.0, mine.1, ap (λ n. n + 1) mine.2)), (λ c. absurd (off free c))))
            ((λ k. absurd (off refl k)), (λ _. (moved_here owner v.made (length views), omega arith, ap (part v.made) mine.1))),
      )

  -- one who knows nothing comes
  pub empties : {S : Type 0} (id : ℕ) (v : PassView X Y) (x : X) (y : Y) → Splits {S = S} (Kept part) id v v (nobody x y)
  empties id v x y s h at = (
    h.0,
    h.1,
    h.2,
    h.3,
    kept_end h.0 h.1 h.2 h.3 (set s.views id v) (nobody x y) (kept_set h.0 h.1 h.2 h.3 s.views id v (λ j u _ e. h.4 j u e) (h.4 id v at))
        ((λ k. absurd (off refl k)), (λ c. absurd (off refl c))),
  )

  -- the keeper gives a part back
  pub gives : {S : Type 0} (id : ℕ) (v : PassView X Y) → v.knows ≡ true → v.holds ≡ true → Splits {S = S} (Kept part) id v (alone v) (given_back v)
  gives id v knows holds s h at =
      let seat = h.0 in let all = h.1 in let made = h.2 in let owner = h.3 in let kept = h.4 in
      let mine = (kept id v at).0 knows in
      let held = (kept id v at).1 holds in
      let views = set s.views id (alone v) in
      let owner' = moved owner v.number (length views) in (
        seat,
        all,
        made,
        owner',
        kept_end seat all made owner' views (given_back v)
            (kept_set seat all made owner' s.views id (alone v)
            (λ j u apart e.
            let f = kept j u e in (
              f.0,
              (λ c. let g = f.1 c in (moved_else owner v.number (length views) u.number (λ same. apart (sym g.0 ∙ ap owner same ∙ held.0)) ∙ g.0, g.1, g.2)),
            ))
            ((λ _. mine), (λ c. absurd (off refl c))))
            ((λ k. absurd (off refl k)), (λ _. (moved_here owner v.number (length views), held.1, held.2))),
      )

  -- the keeper takes a part in
  pub takes : {S : Type 0} (id : ℕ) (v : PassView X Y) (other : ℕ) (w : PassView X Y) (x : X) (y : Y) → v.knows ≡ true → w.holds ≡ true
      → Joins {S = S} (Kept part) id v other w (taken_in v w) (nobody x y)
  takes id v other w x y knows holds s h at apart there =
      let seat = h.0 in let all = h.1 in let made = h.2 in let owner = h.3 in let kept = h.4 in
      let both = taken_in v w in
      let mine = (kept id v at).0 knows in
      let theirs = ⊎_elim (λ (t : (other ≡ id) × (both ≡ w)). absurd (apart t.0)) (λ (t : (other ≢ id) × (get_elem? s.views other ≡ some w)). kept other w t.1) (at_set s.views id other both w there) in
      let held = theirs.1 holds in
      let owner' = moved owner w.number id in (
        seat,
        all,
        made,
        owner',
        kept_set seat all made owner' (set s.views id both) other (nobody x y)
            (λ j u away e. ⊎_elim
            (λ (t : (j ≡ id) × (both ≡ u)). subst (λ (z : ℕ × PassView X Y). Fits part seat all made owner' z.0 z.1) (λ i. (sym t.0 i, t.1 i))
            ((λ _. mine), (λ _. (moved_here owner w.number id, held.1, held.2))))
            (λ (t : (j ≢ id) × (get_elem? s.views j ≡ some u)).
            let f = kept j u t.1 in (
              f.0,
              (λ c. let g = f.1 c in (moved_else owner w.number id u.number (λ same. away (sym g.0 ∙ ap owner same ∙ held.0)) ∙ g.0, g.1, g.2)),
            ))
            (at_set s.views id j both u e))
            ((λ k. absurd (off refl k)), (λ c. absurd (off refl c))),
      )

  -- the keeper learns
  pub learns : {S : Type 0} (slots id : ℕ) (m : Me S (PassView X Y)) (word : ℕ) (st : Step S) → m.0.knows ≡ true → m.0.holds ≡ true
      → Allows (Kept part) slots id m word (λ n. n) (Learned part st m)
  learns slots id m word st knows holds s h len at lt =
      let v = m.0 in
      let mine = (h.4 id v at).0 knows in
      let held = (h.4 id v at).1 holds in
      let made : v.made ≡ h.2 = mine.2 in
      let below : v.number < h.2 = held.1 in (
        v,
        keeps,
        tt,
        (h.0, h.1, h.2, h.3, kept_set h.0 h.1 h.2 h.3 s.views id v (λ j u _ e. h.4 j u e) (h.4 id v at)),
        (refl, omega arith, held.2 ∙ ap (part v.number) (sym mine.1)),
      )

  -- and changes all
  pub changes : {S : Type 0} (next : X) (slots id : ℕ) (m : Me S (PassView X Y)) (word : ℕ) (st : Step S) → m.0.knows ≡ true → m.0.holds ≡ true
      → ((j : ℕ) → j ≢ m.0.number → part j next ≡ part j m.0.all)
      → Allows (Kept part) slots id m word (λ n. n) (Changed part next st m)
  changes next slots id m word st knows holds others s h len at lt =
      let v = m.0 in
      let owner = h.3 in
      let mine = (h.4 id v at).0 knows in
      let held = (h.4 id v at).1 holds in
      let made : v.made ≡ h.2 = mine.2 in
      let below : v.number < h.2 = held.1 in (
        changed_to part next v,
        keeps,
        tt,
        (
          h.0,
          next,
          h.2,
          owner,
          kept_set h.0 next h.2 owner s.views id (changed_to part next v)
              (λ j u apart e.
              let f = h.4 j u e in (
                (λ k. absurd (apart ((f.0 k).0 ∙ sym mine.0))),
                (λ c. let g = f.1 c in (g.0, g.1, g.2 ∙ ap (part u.number) (sym mine.1) ∙ sym (others u.number (λ same. apart (sym g.0 ∙ ap owner same ∙ held.0))))),
              ))
              ((λ _. (mine.0, refl, mine.2)), (λ _. (held.0, held.1, refl))),
        ),
        (refl, refl, omega arith, held.2 ∙ ap (part v.number) (sym mine.1)),
      )
