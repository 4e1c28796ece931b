-- The walk that chooses an item, from head to head round the row of active items.
use Rattle.std.proofs.Common.{◌≡◌, ℕ, zero, suc, ◌-◌, ◌<◌, ◌≤◌, ◌==◌, cond, ◌⊎◌, inl, inr, true, false, Some, None, List, length, refl, sym, ap, ◌∙◌, subst, arith}
use Rattle.std.proofs.lemmas.Bool.{cases_lt, ne_eqb}
use Rattle.shared_words.specs.Lists.{has, above}
use Rattle.cover_problem.specs.Problem.{ProblemValue, size_of}
use Rattle.cover_problem.specs.Covering.{active, remaining, choice}
use Rattle.cover_problem.proofs.RisingLemmas.{above_is, above_none}
use Rattle.cover_problem.proofs.ActiveLemmas.{active_rises, active_in}
use Rattle.cover_problem.proofs.RemainingLemmas.{choice_active, choice_unique, list_uncovered}
use Rattle.cover_links.specs.declared.entry.TableEntry.{TableEntry}
use Rattle.cover_links.specs.StandsFor.{block_of}
use Rattle.cover_links.specs.Table.{IsTable, nonzero}
use Rattle.cover_links.proofs.HidingLemmas.{right_at, top_at}
use Rattle.cover_links.proofs.TableLemmas.{stands, item_low, row_next, is_active, length_is}

-- the walk comes to the head of k before it comes to the one at i: the header, at 0, comes last
abbrev pub IsBefore : ℕ → ℕ → Type 0
IsBefore k i = (i ≡ 0) ⊎ (k < i)

-- The walk has come to the head at i. Of the active items before it the first shortest is `best`, with `least` options left, or there
-- are none; and each of them has an option left.
pub record ComesTo (p : ProblemValue) (c : List ℕ) (i best least : ℕ) : Type 0 where
  pub here : (i ≡ 0) ⊎ (has (active p c) i ≡ true)
  pub among : has (active p c) best ≡ true
  pub len : least ≡ length (remaining p c best)
  pub shortest : (k : ℕ) → has (active p c) k ≡ true → IsBefore k i → least ≤ length (remaining p c k)
  pub first : (k : ℕ) → has (active p c) k ≡ true → k < best → least < length (remaining p c k)
  pub some : (k : ℕ) → has (active p c) k ≡ true → IsBefore k i → 0 < length (remaining p c k)

-- how many heads the walk may still come to
abbrev pub turns : ProblemValue → ℕ → ℕ
turns p i = cond (i == 0) 0 (suc p.primary - i)

leads_to : (j : ℕ) → ((j ≡ 0) × (nonzero j ≡ None)) ⊎ (nonzero j ≡ Some j)
leads_to zero = inl (refl, refl)
leads_to (suc j) = let f : suc j == 0 ≡ false = ne_eqb (suc j) 0 (λ e. absurd (omega arith)) in inr (rw f refl)

-- the walk's next head is at j
record GoesTo (p : ProblemValue) (c : List ℕ) (i j : ℕ) : Type 0 where
  pub here : (j ≡ 0) ⊎ (has (active p c) j ≡ true)
  pub more : (j ≡ 0) ⊎ (i < j)
  pub before : (k : ℕ) → has (active p c) k ≡ true → IsBefore k j → k ≤ i

module _ (p : ProblemValue) (c : List ℕ) where
  goes_to : (i j : ℕ) → nonzero j ≡ above i (active p c) → GoesTo p c i j
  goes_to i j e = elim (leads_to j) [
    | inl end ↦ record { here = inl end.0; more = inl end.0; before = λ k h b. above_none i (active p c) (sym e ∙ end.1) k h }
    | inr on ↦
        let a = above_is i 1 (active p c) j (active_rises p c) (sym e ∙ on) in
        record {
          here = inr a.member;
          more = inr a.more;
          before = λ k h b. let s = (active_in p c j a.member).1 in elim (cases_lt i k) [
            | inl less ↦ let m = a.least k h less in elim b [ inl none ↦ absurd (omega arith) | inr before ↦ absurd (omega arith) ]
            | inr most ↦ most
          ];
        }
  ]

  turns_at : (i : ℕ) → (i ≡ 0 → ⊥) → turns p i ≡ suc p.primary - i
  turns_at zero ne = absurd (ne refl)
  turns_at (suc i) ne = let f : suc i == 0 ≡ false = ne_eqb (suc i) 0 (λ e. absurd (omega arith)) in rw f refl

  -- some item is active, so the walk begins at one
  comes_first : (i : ℕ) → nonzero i ≡ above 0 (active p c) → 0 < length (active p c) → has (active p c) i ≡ true
  comes_first i e more = elim (leads_to i) [
    | inl end ↦ let k = choice_active p c more in
        let m = above_none 0 (active p c) (sym e ∙ end.1) (choice p c) k in let s = (active_in p c (choice p c) k).1 in absurd (omega arith)
    | inr on ↦ (above_is 0 1 (active p c) i (active_rises p c) (sym e ∙ on)).member
  ]

  pub walk_begins : (i : ℕ) → nonzero i ≡ above 0 (active p c) → 0 < length (active p c) → ComesTo p c i i (length (remaining p c i))
  walk_begins i e more =
      let here = comes_first i e more in let some = (active_in p c i here).1 in let first = (goes_to 0 i e).before in record {
        here = inr here;
        among = here;
        len = refl;
        shortest = λ k h b. let l = first k h b in let s = (active_in p c k h).1 in absurd (omega arith);
        first = λ k h b. let l = first k h (inr b) in let s = (active_in p c k h).1 in absurd (omega arith);
        some = λ k h b. let l = first k h b in let s = (active_in p c k h).1 in absurd (omega arith);
      }

  -- the walk goes on from the head of an active item with an option left
  module _ (i j best least : ℕ) (w : ComesTo p c i best least) (here : has (active p c) i ≡ true) (some : 0 < length (remaining p c i)) (e : nonzero j ≡ above i (active p c)) where
    past : (k : ℕ) → has (active p c) k ≡ true → IsBefore k j → (k < i) ⊎ (k ≡ i)
    past k h b = let l = (goes_to i j e).before k h b in elim (cases_lt k i) [ inl less ↦ inl less | inr most ↦ inr (omega arith) ]

    still_some : (k : ℕ) → has (active p c) k ≡ true → IsBefore k j → 0 < length (remaining p c k)
    still_some k h b = elim (past k h b) [ inl less ↦ w.some k h (inr less) | inr same ↦ subst (λ n. 0 < length (remaining p c n)) (sym same) some ]

    -- it has fewer options left than all before
    pub walk_takes : length (remaining p c i) < least → ComesTo p c j i (length (remaining p c i))
    walk_takes less = record {
      here = (goes_to i j e).here;
      among = here;
      len = refl;
      shortest = λ k h b. elim (past k h b) [
        | inl old ↦ let m = w.shortest k h (inr old) in omega arith
        | inr same ↦ subst (λ n. length (remaining p c i) ≤ length (remaining p c n)) (sym same) (omega arith)
      ];
      first = λ k h b. let m = w.shortest k h (inr b) in omega arith;
      some = still_some;
    }

    -- it has not
    pub walk_keeps : least ≤ length (remaining p c i) → ComesTo p c j best least
    walk_keeps more = record {
      here = (goes_to i j e).here;
      among = w.among;
      len = w.len;
      shortest = λ k h b. elim (past k h b) [
        | inl old ↦ w.shortest k h (inr old)
        | inr same ↦ subst (λ n. least ≤ length (remaining p c n)) (sym same) more
      ];
      first = w.first;
      some = still_some;
    }

    -- how many turns are left falls
    pub walk_falls : turns p j < turns p i
    walk_falls =
        let a = active_in p c i here in let s = a.1 in let m = a.2 in
        let ti : turns p i ≡ suc p.primary - i = turns_at i (λ q. absurd (omega arith)) in
        elim (goes_to i j e).more [
          | inl end ↦ let tj : turns p j ≡ 0 = ap (turns p) end in omega arith
          | inr on ↦ let tj : turns p j ≡ suc p.primary - j = turns_at j (λ q. absurd (omega arith)) in omega arith
        ]

  -- back at the header the best is the choice
  pub walk_ends : (best least : ℕ) → ComesTo p c 0 best least → best ≡ choice p c
  walk_ends best least w =
      choice_unique p c best w.among (λ k h. let m = w.shortest k h (inl refl) in let l = w.len in omega arith) (λ k h b. let m = w.first k h b in let l = w.len in omega arith)

  -- and an item with no option left is, since those before it have some
  pub none_ends : (i best least : ℕ) → ComesTo p c i best least → has (active p c) i ≡ true → length (remaining p c i) ≡ 0 → i ≡ choice p c
  none_ends i best least w here none =
      choice_unique p c i here (λ k h. omega arith) (λ k h b. let m = w.some k h (inr b) in omega arith)

-- ---- the same of the block's heads

module _ {p : ProblemValue} {c : List ℕ} {items : ℕ} {block : List TableEntry} {starts : List ℕ} {room : ℕ} (t : IsTable p c items block starts room) where
  abbrev es : List TableEntry
  es = block_of p c

  -- the header, or the head of an active item, stands in the block
  pub head_low : (i : ℕ) → (i ≡ 0) ⊎ (has (active p c) i ≡ true) → i < size_of p
  head_low i (inl e) = let l = item_low t i (omega arith) in let s = (stands t).size in omega arith
  head_low i (inr h) = let a = active_in p c i h in let w = (t.problem).within in let l = item_low t i (omega (arith, a.2)) in let s = (stands t).size in omega arith

  len_is : (i : ℕ) → has (active p c) i ≡ true → top_at (block_of p c) i ≡ length (remaining p c i)
  len_is i h =
      let a = active_in p c i h in let w = (t.problem).within in
      ap (λ es. top_at es i) (sym t.block_is) ∙ length_is t i a.1 (omega (arith, a.2)) ∙ ap (length {A = ℕ}) (list_uncovered p c i a.0)

  header_none : top_at (block_of p c) 0 ≡ 0
  header_none = ap (λ es. top_at es 0) (sym t.block_is) ∙ (stands t).header

  leads : (i : ℕ) → (i ≡ 0) ⊎ (has (active p c) i ≡ true) → nonzero (right_at (block_of p c) i) ≡ above i (active p c)
  leads i (inl e) = ap (λ es. nonzero (right_at es i)) (sym t.block_is) ∙ row_next t i (inl e)
  leads i (inr h) = ap (λ es. nonzero (right_at es i)) (sym t.block_is) ∙ row_next t i (inr (is_active t i h))

  pub begins : {i : ℕ} → i ≡ right_at (block_of p c) 0 → 0 < length (active p c) → ComesTo p c i i (top_at (block_of p c) i)
  begins {i} e more =
      let w = walk_begins p c i (ap nonzero e ∙ leads 0 (inl refl)) more in
      subst (ComesTo p c i i) (sym (len_is i w.among)) w

  module _ {i best least : ℕ} (w : ComesTo p c i best least) (some : top_at (block_of p c) i ≡ 0 → ⊥) where
    pub at_active : has (active p c) i ≡ true
    at_active = elim w.here [ inl e ↦ absurd (some (ap (top_at (block_of p c)) e ∙ header_none)) | inr h ↦ h ]

    more_left : 0 < length (remaining p c i)
    more_left = let l = len_is i at_active in omega (arith, some)

    module _ {j : ℕ} (e : j ≡ right_at (block_of p c) i) where
      on : nonzero j ≡ above i (active p c)
      on = ap nonzero e ∙ leads i (inr at_active)

      pub next_low : j < size_of p
      next_low = head_low j (goes_to p c i j on).here

      pub takes : top_at (block_of p c) i < least → ComesTo p c j i (top_at (block_of p c) i)
      takes less =
          let l = len_is i at_active in
          subst (ComesTo p c j i) (sym l) (walk_takes p c i j best least w at_active more_left on (omega arith))

      pub keeps : least ≤ top_at (block_of p c) i → ComesTo p c j best least
      keeps most = let l = len_is i at_active in walk_keeps p c i j best least w at_active more_left on (omega arith)

      pub falls : turns p j < turns p i
      falls = walk_falls p c i j best least w at_active more_left on

  -- the walk ends
  pub ends : {i best least : ℕ} → ComesTo p c i best least → i ≡ 0 → best ≡ choice p c
  ends {i} {best} {least} w e = walk_ends p c best least (subst (λ n. ComesTo p c n best least) e w)

  pub ends_early : {i best least : ℕ} → ComesTo p c i best least → top_at (block_of p c) i ≡ 0 → (i ≡ 0 → ⊥) → i ≡ choice p c
  ends_early {i} {best} {least} w none ne = elim w.here [
    | inl e ↦ absurd (ne e)
    | inr h ↦ none_ends p c i best least w h (sym (len_is i h) ∙ none)
  ]
