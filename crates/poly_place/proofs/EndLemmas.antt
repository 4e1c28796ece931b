-- The ways to leave out spare copies are listed, each once.
use Rattle.std.proofs.Common.{◌≡◌, ℕ, List, [], ◌∷◌, ◌++◌, map, flat_map, Bool, true, false, cond, inl, inr, refl, sym, ap, subst, ◌∙◌}
use Rattle.std.specs.List.{list_all}
use Rattle.std.specs.Cmp.{both_ways as same_tests}
use Rattle.std.proofs.lemmas.Bool.{cases_Bool, cond-true, cond-false, both_ways, not-true, not_from_false, false_from_ne_true, true_from_ne_false}
use Rattle.poly_cells.specs.Sets.{IsIn}
use Rattle.poly_cells.proofs.SetLemmas.{in_append_left, in_append_right, in_append_cases, in_map, in_from_map}
use Rattle.poly_cells.proofs.MemberLemmas.{in_flat_map, in_from_flat_map, all_pass, passes}
use Rattle.poly_texts.specs.Puzzle.{PuzzleValue, IsPuzzle, has_name, is_spare, equal_names, spare_names}
use Rattle.poly_texts.proofs.EqualLemmas.{equal_new, spare_equal}
use Rattle.poly_place.specs.Packings.{neighbours}
use Rattle.poly_place.specs.Compiled.{left_from}
use Rattle.poly_place.specs.Ranges.{AreSpareEnds, is_kept}
use Rattle.poly_place.specs.Counts.{NoTwoAre, HaveSameNames, ends_of, ends_of_all, spare_ends, AreAllEnds}
use Rattle.poly_place.proofs.DistinctLemmas.{IsDistinct, distinct_names, in_from_name, name_from_in}
use Rattle.poly_place.proofs.PairLemmas.{all_of, in_group, distinct_left, distinct_right, distinct_apart}
use Rattle.poly_place.proofs.LeavingsLemmas.{split_by}
use Rattle.poly_place.proofs.UnlikeLemmas.{unlike_map, unlike_flat_map}

-- ---- the ends of one group

-- an end of the list, each of which passes the test
record IsEnd (test : ℕ → Bool) (ns end : List ℕ) : Type 0 where
  pub start : List ℕ
  pub whole : ns ≡ start ++ end
  pub pass : (n : ℕ) → IsIn n end → test n ≡ true

later_end : (test : ℕ → Bool) (n : ℕ) (ns end : List ℕ) → IsEnd test ns end → IsEnd test (n ∷ ns) end
later_end test n ns end e = record { start = n ∷ e.start; whole = ap (λ (ms : List ℕ). n ∷ ms) e.whole; pass = e.pass }

-- the list is not empty
abbrev HasFirst : List ℕ → Type 0
HasFirst ns = (n : ℕ) × IsIn n ns

first_end : (test : ℕ → Bool) (ns end : List ℕ) → IsIn end (cond (list_all test ns) (ns ∷ []) []) → (end ≡ ns) × (list_all test ns ≡ true)
first_end test ns end i =
    elim (cases_Bool (list_all test ns)) [
      | inl t ↦ elim (subst (λ (es : List (List ℕ)). IsIn end es) (cond-true (list_all test ns) (ns ∷ []) [] t) i) [ inl e ↦ (e, t) | inr none ↦ absurd none ]
      | inr f ↦ absurd (subst (λ (es : List (List ℕ)). IsIn end es) (cond-false (list_all test ns) (ns ∷ []) [] f) i)
    ]

from_left : (test : ℕ → Bool) (ns end : List ℕ) → IsIn end (left_from test ns) → IsEnd test ns end × HasFirst end
from_left test [] end i = absurd i
from_left test (n ∷ ns) end i =
    elim (in_append_cases end (cond (list_all test (n ∷ ns)) ((n ∷ ns) ∷ []) []) (left_from test ns) i) [
      | inl l ↦
          let is = first_end test (n ∷ ns) end l in (
            record { start = []; whole = sym is.0; pass = λ m j. passes test (n ∷ ns) is.1 m (subst (λ (ms : List ℕ). IsIn m ms) is.0 j) },
            (n, subst (λ (ms : List ℕ). IsIn n ms) (sym is.0) (inl refl)),
          )
      | inr r ↦ let rest = from_left test ns end r in (later_end test n ns end rest.0, rest.1)
    ]

to_left : (test : ℕ → Bool) (start : List ℕ) (n : ℕ) (ns : List ℕ) → list_all test (n ∷ ns) ≡ true → IsIn (n ∷ ns) (left_from test (start ++ n ∷ ns))
to_left test [] n ns t =
    in_append_left (n ∷ ns) (cond (list_all test (n ∷ ns)) ((n ∷ ns) ∷ []) []) (left_from test ns)
    (subst (λ (es : List (List ℕ)). IsIn (n ∷ ns) es) (sym (cond-true (list_all test (n ∷ ns)) ((n ∷ ns) ∷ []) [] t)) (inl refl))
to_left test (m ∷ ms) n ns t =
    in_append_right (n ∷ ns) (cond (list_all test (m ∷ ms ++ n ∷ ns)) ((m ∷ ms ++ n ∷ ns) ∷ []) []) (left_from test (ms ++ n ∷ ns)) (to_left test ms n ns t)

from_ends : (p : PuzzleValue) (group end : List ℕ) → IsIn end (ends_of p group) → IsEnd (is_spare p) group end
from_ends p group end i =
    elim i [
      | inl e ↦ subst (λ (ms : List ℕ). IsEnd (is_spare p) group ms) (sym e) (none group)
      | inr r ↦ (from_left (is_spare p) group end r).0
    ]
  where
    none : (ns : List ℕ) → IsEnd (is_spare p) ns []
    none [] = record { start = []; whole = refl; pass = λ n j. absurd j }
    none (n ∷ ns) = later_end (is_spare p) n ns [] (none ns)

to_ends : (p : PuzzleValue) (start end : List ℕ) → ((n : ℕ) → IsIn n end → is_spare p n ≡ true) → IsIn end (ends_of p (start ++ end))
to_ends p start [] h = inl refl
to_ends p start (n ∷ ns) h = inr (to_left (is_spare p) start n ns (all_pass (is_spare p) (n ∷ ns) h))

-- its names are those of the group
end_within : (test : ℕ → Bool) (ns end : List ℕ) → IsEnd test ns end → (n : ℕ) → IsIn n end → IsIn n ns
end_within test ns end e n i = subst (λ (ms : List ℕ). IsIn n ms) (sym e.whole) (in_append_right n e.start end i)

-- with one of an end it has the next one
next_too : (start end : List ℕ) (m n : ℕ) → IsDistinct (start ++ end) → IsIn (m, n) (neighbours (start ++ end)) → IsIn m end → IsIn n end
next_too [] end m n d i j = (in_group m n end i).1
next_too (a ∷ []) [] m n d i j = absurd i
next_too (a ∷ []) (b ∷ bs) m n d i j =
    elim i [
      | inl e ↦ inl (ap (λ (q : ℕ × ℕ). q.1) e)
      | inr r ↦ (in_group m n (b ∷ bs) r).1
    ]
next_too (a ∷ b ∷ bs) end m n d i j =
    elim i [
      | inl e ↦ absurd (d.0 (subst (λ (k : ℕ). IsIn k (b ∷ bs ++ end)) (ap (λ (q : ℕ × ℕ). q.0) e) (in_append_right m (b ∷ bs) end j)))
      | inr r ↦ next_too (b ∷ bs) end m n d.1 r j
    ]

end_next : (test : ℕ → Bool) (ns end : List ℕ) → IsDistinct ns → IsEnd test ns end → (m n : ℕ) → IsIn (m, n) (neighbours ns) → IsIn m end → IsIn n end
end_next test ns end d e m n i j =
    next_too e.start end m n (subst IsDistinct e.whole d) (subst (λ (ms : List ℕ). IsIn (m, n) (neighbours ms)) e.whole i) j

-- lists with the same names have the same members
same_in : (ms ns : List ℕ) → HaveSameNames ms ns → (n : ℕ) → IsIn n ms → IsIn n ns
same_in ms ns h n i = in_from_name ns n (sym (h n) ∙ name_from_in ms n i)

names_same : (ms ns : List ℕ) → ((n : ℕ) → IsIn n ms → IsIn n ns) → ((n : ℕ) → IsIn n ns → IsIn n ms) → HaveSameNames ms ns
names_same ms ns to from n =
    same_tests (has_name ms n) (has_name ns n)
    (λ t. name_from_in ns n (to n (in_from_name ms n t)))
    (λ t. name_from_in ms n (from n (in_from_name ns n t)))

left_unlike : (test : ℕ → Bool) (ns : List ℕ) → IsDistinct ns → NoTwoAre HaveSameNames (left_from test ns)
left_unlike test [] d = tt
left_unlike test (n ∷ ns) d = by_test (list_all test (n ∷ ns)) (left_unlike test ns d.1)
  where
    by_test : (b : Bool) → NoTwoAre HaveSameNames (left_from test ns) → NoTwoAre HaveSameNames (cond b ((n ∷ ns) ∷ []) [] ++ left_from test ns)
    by_test true rest = ((λ end i s. d.0 (end_within test ns end (from_left test ns end i).0 n (same_in (n ∷ ns) end s n (inl refl)))), rest)
    by_test false rest = rest

ends_unlike : (p : PuzzleValue) (group : List ℕ) → IsDistinct group → NoTwoAre HaveSameNames (ends_of p group)
ends_unlike p group d = (
  (λ end i s. let first = (from_left (is_spare p) group end i).1 in absurd (in_from_name [] first.0 (s first.0 ∙ name_from_in end first.0 first.1))),
  left_unlike (is_spare p) group d,
)

-- ---- such an end of each group, together

-- how a list is made of an end of the first group and of one of the others
record IsJoined (p : PuzzleValue) (group : List ℕ) (groups : List (List ℕ)) (gone : List ℕ) : Type 0 where
  pub end : List ℕ
  pub more : List ℕ
  pub first : IsIn end (ends_of p group)
  pub others : IsIn more (ends_of_all p groups)
  pub whole : gone ≡ end ++ more

joined : (p : PuzzleValue) (group : List ℕ) (groups : List (List ℕ)) (gone : List ℕ) → IsIn gone (ends_of_all p (group ∷ groups)) → IsJoined p group groups gone
joined p group groups gone i =
    let end = in_from_flat_map (λ end. map (λ more. end ++ more) (ends_of_all p groups)) gone (ends_of p group) i in
    let more = in_from_map (λ more. end.0 ++ more) gone (ends_of_all p groups) end.2 in
    record { end = end.0; more = more.0; first = end.1; others = more.1; whole = more.2 }

join : (p : PuzzleValue) (group : List ℕ) (groups : List (List ℕ)) (end more : List ℕ) → IsIn end (ends_of p group) → IsIn more (ends_of_all p groups)
    → IsIn (end ++ more) (ends_of_all p (group ∷ groups))
join p group groups end more i j =
    in_flat_map (λ e. map (λ m. e ++ m) (ends_of_all p groups)) (end ++ more) end (ends_of p group) i (in_map (λ m. end ++ m) more (ends_of_all p groups) j)

-- what each such list is
record AreEnds (p : PuzzleValue) (groups : List (List ℕ)) (gone : List ℕ) : Type 0 where
  pub within : (n : ℕ) → IsIn n gone → IsIn n (all_of groups)
  pub spare : (n : ℕ) → IsIn n gone → is_spare p n ≡ true
  pub next : (m n : ℕ) → IsIn (m, n) (flat_map neighbours groups) → IsIn m gone → IsIn n gone

pair_within : (m n : ℕ) (groups : List (List ℕ)) → IsIn (m, n) (flat_map neighbours groups) → IsIn m (all_of groups)
pair_within m n groups i =
    let g = in_from_flat_map neighbours (m, n) groups i in
    in_flat_map (λ (group : List ℕ). group) m g.0 groups g.1 (in_group m n g.0 g.2).0

are_ends : (p : PuzzleValue) (groups : List (List ℕ)) (gone : List ℕ) → IsDistinct (all_of groups) → IsIn gone (ends_of_all p groups) → AreEnds p groups gone
are_ends p [] gone d i =
    let none : (n : ℕ) → IsIn n gone → ⊥ = λ n j. elim i [ inl e ↦ subst (λ (ms : List ℕ). IsIn n ms) e j | inr impossible ↦ impossible ] in
    record { within = λ n j. none n j; spare = λ n j. absurd (none n j); next = λ m n k j. absurd (none m j) }
are_ends p (group ∷ groups) gone d i =
    let parts = joined p group groups gone i in
    let end = from_ends p group parts.end parts.first in
    let rest = are_ends p groups parts.more (distinct_right group (all_of groups) d) parts.others in
    let cases : (n : ℕ) → IsIn n gone → IsIn n (parts.end ++ parts.more) = λ n j. subst (λ (ms : List ℕ). IsIn n ms) parts.whole j in
    let inside = end_within (is_spare p) group parts.end end in
    record {
      within = λ n j. elim (in_append_cases n parts.end parts.more (cases n j)) [
        | inl l ↦ in_append_left n group (all_of groups) (inside n l)
        | inr r ↦ in_append_right n group (all_of groups) (rest.within n r)
      ];
      spare = λ n j. elim (in_append_cases n parts.end parts.more (cases n j)) [ inl l ↦ end.pass n l | inr r ↦ rest.spare n r ];
      next = λ m n k j.
          let there : IsIn n (parts.end ++ parts.more) =
          elim (in_append_cases m parts.end parts.more (cases m j)) [
            | inl l ↦ elim (in_append_cases (m, n) (neighbours group) (flat_map neighbours groups) k) [
              | inl here ↦ in_append_left n parts.end parts.more (end_next (is_spare p) group parts.end (distinct_left group (all_of groups) d) end m n here l)
              | inr later ↦ absurd (distinct_apart m group (all_of groups) d (inside m l) (pair_within m n groups later))
            ]
            | inr r ↦ elim (in_append_cases (m, n) (neighbours group) (flat_map neighbours groups) k) [
              | inl here ↦ absurd (distinct_apart m group (all_of groups) d (in_group m n group here).0 (rest.within m r))
              | inr later ↦ in_append_right n parts.end parts.more (rest.next m n later r)
            ]
          ] in
          subst (λ (ms : List ℕ). IsIn n ms) (sym parts.whole) there;
    }

-- ---- each way is among them

module _ (p : PuzzleValue) (gone : List ℕ) (e : AreSpareEnds p gone) where
  -- what it leaves out of some groups is among the ends of these
  record IsFound (groups : List (List ℕ)) (found : List ℕ) : Type 0 where
    pub there : IsIn found (ends_of_all p groups)
    pub forth : (n : ℕ) → IsIn n found → has_name gone n ≡ true
    pub back : (n : ℕ) → has_name gone n ≡ true → IsIn n (all_of groups) → IsIn n found

  find : (groups : List (List ℕ)) → ((g : List ℕ) → IsIn g groups → IsIn g (equal_names p)) → (found : List ℕ) × IsFound groups found
  find [] h = ([], record { there = inl refl; forth = λ n i. absurd i; back = λ n t i. absurd i })
  find (group ∷ groups) h =
      let kept_before : (m n : ℕ) → IsIn (m, n) (neighbours group) → is_kept gone n ≡ true → is_kept gone m ≡ true =
      λ m n i t.
      not_from_false _ (false_from_ne_true _ (λ g. both_ways (has_name gone n) (not-true _ t) (e.ends m n (in_flat_map neighbours (m, n) group (equal_names p) (h group (inl refl)) i) g))) in
      let split = split_by (is_kept gone) group kept_before in
      let left : (n : ℕ) → IsIn n split.no → has_name gone n ≡ true = λ n i. true_from_ne_false _ (λ f. both_ways (is_kept gone n) (split.fail n i) (not_from_false _ f)) in
      let rest = find groups (λ g i. h g (inr i)) in
      let first = subst (λ (g : List ℕ). IsIn split.no (ends_of p g)) (sym split.whole) (to_ends p split.yes split.no (λ n i. e.spare n (left n i))) in (
        split.no ++ rest.0,
        record {
          there = join p group groups split.no rest.0 first rest.1.there;
          forth = λ n i. elim (in_append_cases n split.no rest.0 i) [ inl l ↦ left n l | inr r ↦ rest.1.forth n r ];
          back = λ n t i. elim (in_append_cases n group (all_of groups) i) [
            | inl l ↦ elim (in_append_cases n split.yes split.no (subst (λ (ms : List ℕ). IsIn n ms) split.whole l)) [
              | inl l ↦ absurd (both_ways (has_name gone n) (not-true _ (split.pass n l)) t)
              | inr r ↦ in_append_left n split.no rest.0 r
            ]
            | inr r ↦ in_append_right n split.no rest.0 (rest.1.back n t r)
          ];
        },
      )

-- ---- each once

module _ (p : PuzzleValue) where
  all_unlike : (groups : List (List ℕ)) → IsDistinct (all_of groups) → NoTwoAre HaveSameNames (ends_of_all p groups)
  all_unlike [] d = ((λ q i s. i), tt)
  all_unlike (group ∷ groups) d =
      unlike_flat_map HaveSameNames HaveSameNames (λ end. map (λ more. end ++ more) (ends_of_all p groups)) (ends_of p group)
      (λ end i. unlike_map HaveSameNames HaveSameNames (λ more. end ++ more) (ends_of_all p groups)
      (λ x y j k s. names_same x y (to_later end end x y i i j k s) (to_later end end y x i i k j (λ n. sym (s n))))
      (all_unlike groups (distinct_right group (all_of groups) d)))
      (λ x y a b i j k l s.
      let v = in_from_map (λ more. x ++ more) a (ends_of_all p groups) k in
      let w = in_from_map (λ more. y ++ more) b (ends_of_all p groups) l in
      let t : HaveSameNames (x ++ v.0) (y ++ w.0) = λ n. ap (λ (ms : List ℕ). has_name ms n) (sym v.2) ∙ s n ∙ ap (λ (ms : List ℕ). has_name ms n) w.2 in
      names_same x y (to_first x y v.0 w.0 i j v.1 w.1 t) (to_first y x w.0 v.0 j i w.1 v.1 (λ n. sym (t n))))
      (ends_unlike p group (distinct_left group (all_of groups) d))
    where
      among_later : (more : List ℕ) → IsIn more (ends_of_all p groups) → (n : ℕ) → IsIn n more → IsIn n (all_of groups)
      among_later more i n j = (are_ends p groups more (distinct_right group (all_of groups) d) i).within n j

      among_first : (end : List ℕ) → IsIn end (ends_of p group) → (n : ℕ) → IsIn n end → IsIn n group
      among_first end i n j = end_within (is_spare p) group end (from_ends p group end i) n j

      to_later : (a b x y : List ℕ) → IsIn a (ends_of p group) → IsIn b (ends_of p group) → IsIn x (ends_of_all p groups) → IsIn y (ends_of_all p groups)
          → HaveSameNames (a ++ x) (b ++ y) → (n : ℕ) → IsIn n x → IsIn n y
      to_later a b x y i j k l s n m =
          elim (in_append_cases n b y (same_in (a ++ x) (b ++ y) s n (in_append_right n a x m))) [
            | inl here ↦ absurd (distinct_apart n group (all_of groups) d (among_first b j n here) (among_later x k n m))
            | inr there ↦ there
          ]

      to_first : (a b x y : List ℕ) → IsIn a (ends_of p group) → IsIn b (ends_of p group) → IsIn x (ends_of_all p groups) → IsIn y (ends_of_all p groups)
          → HaveSameNames (a ++ x) (b ++ y) → (n : ℕ) → IsIn n a → IsIn n b
      to_first a b x y i j k l s n m =
          elim (in_append_cases n b y (same_in (a ++ x) (b ++ y) s n (in_append_left n a x m))) [
            | inl here ↦ here
            | inr there ↦ absurd (distinct_apart n group (all_of groups) d (among_first a i n m) (among_later y l n there))
          ]

-- ---- all of a puzzle

pub all_ends : (p : PuzzleValue) → IsPuzzle p → AreAllEnds p (spare_ends p)
all_ends p z =
    let d = distinct_names (all_of (equal_names p)) (equal_new p z) in
    record {
      sound = λ gone i.
          let ends = are_ends p (equal_names p) gone d i in
          record {
            spare = λ n t. ends.spare n (in_from_name gone n t);
            ends = λ m n j t. name_from_in gone n (ends.next m n j (in_from_name gone m t));
          };
      complete = λ gone e.
          let found = find p gone e (equal_names p) (λ g i. i) in
          let among : (n : ℕ) → has_name gone n ≡ true → IsIn n (all_of (equal_names p)) =
          λ n t. in_from_name (all_of (equal_names p)) n (passes (has_name (all_of (equal_names p))) (spare_names p) (spare_equal p z) n (in_from_name (spare_names p) n (e.spare n t))) in (
            found.0,
            found.1.there,
            names_same found.0 gone (λ n i. in_from_name gone n (found.1.forth n i)) (λ n i. let t = name_from_in gone n i in found.1.back n t (among n t)),
          );
      once = all_unlike p (equal_names p) d;
    }
