-- A walk along a rising list, which lists its members.
use Rattle.std.proofs.Common.{◌≡◌, ℕ, suc, ◌<◌, ◌≤◌, true, Option, Some, None, List, [], ◌∷◌, ◌++◌, map, arith, refl, sym, ap, ◌∙◌, subst, append_assoc, append-nil}
use Rattle.std.proofs.lemmas.Bool.{le-ltb, lt-ltb}
use Rattle.std.proofs.lemmas.List.{map-append}
use Rattle.shared_words.specs.Lists.{has, above, RisesFrom}
use Rattle.cover_problem.specs.Problem.{ProblemValue}
use Rattle.cover_problem.specs.Covering.{active, remaining, list_of}
use Rattle.cover_problem.proofs.ActiveLemmas.{active_rises, active_in}
use Rattle.cover_problem.proofs.RemainingLemmas.{list_uncovered}
use Rattle.cover_problem.proofs.MemberLemmas.{has_here, has_append_right}
use Rattle.cover_problem.proofs.NumberLemmas.{rises_weaker, rises_member}

-- of the list, `done` were listed, and `next` is the first of the others
pub record Lists (all done : List ℕ) (next : Option ℕ) : Type 0 where
  pub rest : List ℕ
  pub whole : all ≡ done ++ rest
  pub first : next ≡ above 0 rest

rises_back : (n : ℕ) (xs ys : List ℕ) → RisesFrom n (xs ++ ys) → RisesFrom n ys
rises_back n [] ys r = r
rises_back n (x ∷ xs) ys r = rises_weaker n (suc x) ys (omega (arith, r.0)) (rises_back (suc x) xs ys r.1)

-- the first member of a list of positive numbers
first_of : (x : ℕ) (xs : List ℕ) → 0 < x → above 0 (x ∷ xs) ≡ Some x
first_of x xs h = rw (lt-ltb 0 x h) refl

above_past : (o x : ℕ) (xs : List ℕ) → x ≤ o → above o (x ∷ xs) ≡ above o xs
above_past o x xs h = rw (le-ltb o x h) refl

-- above what is below all members is the first of them
above_all : (o : ℕ) (xs : List ℕ) → RisesFrom (suc o) xs → above o xs ≡ above 0 xs
above_all o [] r = refl
above_all o (x ∷ xs) r = let m : o < x = omega (arith, r.0) in rw (lt-ltb o x m, first_of x xs (omega arith)) refl

-- the member after one of a rising list
above_split : (n : ℕ) (front : List ℕ) (o : ℕ) (rest : List ℕ) → RisesFrom n (front ++ o ∷ rest) → above o (front ++ o ∷ rest) ≡ above 0 rest
above_split n [] o rest r = above_past o o rest (omega arith) ∙ above_all o rest r.1
above_split n (x ∷ front) o rest r =
    let m = rises_member (suc x) o (front ++ o ∷ rest) r.1 (has_append_right front (o ∷ rest) o (has_here o rest)) in
    above_past o x (front ++ o ∷ rest) (omega arith) ∙ above_split (suc x) front o rest r.1

module _ (all : List ℕ) (rises : RisesFrom 1 all) where
  pub lists_none : (next : Option ℕ) → next ≡ above 0 all → Lists all [] next
  lists_none next e = record { rest = all; whole = refl; first = e }

  module _ (done : List ℕ) (next : Option ℕ) (l : Lists all done next) where
    -- the next member stands behind those listed
    split_is : (o : ℕ) → next ≡ Some o → (rest : List ℕ) × (all ≡ done ++ o ∷ rest) × (RisesFrom 1 (done ++ o ∷ rest))
    split_is o e = found l.rest l.whole (sym l.first ∙ e)
      where
        found : (rest : List ℕ) → all ≡ done ++ rest → above 0 rest ≡ Some o → (rest : List ℕ) × (all ≡ done ++ o ∷ rest) × (RisesFrom 1 (done ++ o ∷ rest))
        found [] w h = absurd (cc)
        found (x ∷ rest) w h =
            let r : RisesFrom 1 (done ++ x ∷ rest) = subst (RisesFrom 1) w rises in
            let s = rises_back 1 done (x ∷ rest) r in
            let f : Some x ≡ Some o = sym (first_of x rest (omega (arith, s.0))) ∙ h in
            let same : x ≡ o = cc in
            (rest, rw (← same) w, rw (← same) r)

    pub lists_member : (o : ℕ) → next ≡ Some o → has all o ≡ true
    lists_member o e = let s = split_is o e in rw s.1 (has_append_right done (o ∷ s.0) o (has_here o s.0))

    pub lists_more : (o : ℕ) (after : Option ℕ) → next ≡ Some o → after ≡ above o all → Lists all (done ++ o ∷ []) after
    lists_more o after e a =
        let s = split_is o e in
        record {
          rest = s.0;
          whole = s.1 ∙ sym (append_assoc done (o ∷ []) s.0);
          first = a ∙ ap (above o) s.1 ∙ above_split 1 done o s.0 s.2;
        }

    pub lists_all : next ≡ None → done ≡ all
    lists_all e = ended l.rest l.whole (sym l.first ∙ e)
      where
        ended : (rest : List ℕ) → all ≡ done ++ rest → above 0 rest ≡ None → done ≡ all
        ended [] w h = sym (w ∙ append-nil done)
        ended (x ∷ rest) w h =
            let s = rises_back 1 done (x ∷ rest) (subst (RisesFrom 1) w rises) in
            let f : Some x ≡ None = sym (first_of x rest (omega (arith, s.0))) ∙ h in absurd (cc)

-- of the members of the list, those listed have a row each
pub record ListsRows (all : List ℕ) (options : ℕ → List ℕ) (rows : List (ℕ × List ℕ)) (next : Option ℕ) : Type 0 where
  pub done : List ℕ
  pub lists : Lists all done next
  pub rows_are : rows ≡ map (λ i. (i, options i)) done

module _ (all : List ℕ) (options : ℕ → List ℕ) (rises : RisesFrom 1 all) where
  module _ (rows : List (ℕ × List ℕ)) (next : Option ℕ) (l : ListsRows all options rows next) where
    pub rows_member : (o : ℕ) → next ≡ Some o → has all o ≡ true
    rows_member o e = lists_member all rises l.done next l.lists o e

    pub rows_more : (o : ℕ) (after : Option ℕ) (found : List ℕ) → next ≡ Some o → after ≡ above o all → found ≡ options o → ListsRows all options (rows ++ (o, found) ∷ []) after
    rows_more o after found e a f = record {
      done = l.done ++ o ∷ [];
      lists = lists_more all rises l.done next l.lists o after e a;
      rows_are = rw (l.rows_are, f) (sym (map-append (λ (i : ℕ). (i, options i)) l.done (o ∷ [])));
    }

    pub rows_all : next ≡ None → rows ≡ map (λ i. (i, options i)) all
    rows_all e = l.rows_are ∙ ap (map (λ i. (i, options i))) (lists_all all rises l.done next l.lists e)

-- an active item, with the options of its list
pub active_more : (p : ProblemValue) (c : List ℕ) (rows : List (ℕ × List ℕ)) (next : Option ℕ) → ListsRows (active p c) (remaining p c) rows next
    → (item : ℕ) (after : Option ℕ) (found : List ℕ) → next ≡ Some item → after ≡ above item (active p c) → found ≡ list_of p c item
    → ListsRows (active p c) (remaining p c) (rows ++ (item, found) ∷ []) after
active_more p c rows next l item after found e a f =
    let member = rows_member (active p c) (remaining p c) (active_rises p c) rows next l item e in
    rows_more (active p c) (remaining p c) (active_rises p c) rows next l item after found e a (f ∙ list_uncovered p c item (active_in p c item member).0)
