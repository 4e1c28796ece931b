-- Hiding nodes of an option, and all but one of them: it stays in the block, gives a block that stands for what is left, and is undone
-- by the way back. The nodes stand in lists of their own, so that the first one that was hidden may come back first.
use Rattle.std.proofs.Common.{◌≡◌, ℕ, zero, suc, ◌+◌, ◌-◌, ◌*◌, ◌/◌, ◌<◌, ◌≤◌, ◌⊎◌, inl, inr, ◌==◌, Bool, true, false, not, List, [], ◌∷◌, ◌++◌, length, refl, sym, ap, ◌∙◌, subst, arith, length-append}
use Rattle.std.specs.List.{before_first, after_first}
use Rattle.std.proofs.lemmas.Bool.{and_parts, and_from, cases_eq, eq-eqb, ne_eqb, not-true, not_from_false, both_ways, false≢true}
use Rattle.shared_words.specs.Lists.{has, are_distinct}
use Rattle.cover_problem.specs.Problem.{ProblemValue, IsProblem, option_at}
use Rattle.cover_problem.proofs.MemberLemmas.{has_cases, has_here, has_later, has_append_left, has_append_right, has_append_cases, has_append_not_from}
use Rattle.cover_problem.proofs.PartLemmas.{parts_are, distinct_parts, distinct_from}
use Rattle.cover_problem.proofs.ActiveLemmas.{option_is, IsOptionOf}
use Rattle.cover_links.specs.declared.entry.TableEntry.{TableEntry}
use Rattle.cover_links.specs.Entries.{entry_at, next_node, HasNext}
use Rattle.cover_links.specs.Hiding.{node_hidden, node_unhidden, nodes_hidden, nodes_unhidden, until, other_nodes, hidden, unhidden}
use Rattle.cover_links.specs.Safety.{CanUnhideNode, CanHideNodes, CanUnhideNodes, LeadsTo, GoesRound, CanHide, CanUnhide}
use Rattle.cover_links.specs.Layout.{node_index, start_of, place_after}
use Rattle.cover_links.specs.StandsFor.{IsListWalk}
use Rattle.cover_links.proofs.RingLemmas.{without_stays}
use Rattle.cover_links.proofs.LayoutLemmas.{IsNode, IsRun, option_run, run_parts, place_low, place_apart, spacer_low}
use Rattle.cover_links.proofs.EntryLemmas.{times_div}
use Rattle.cover_links.proofs.SwapLemmas.{hide_swap}
use Rattle.cover_links.proofs.TurnLemmas.{until_here, until_on}
use Rattle.cover_links.proofs.HidingLemmas.{Stands, minus, minus_here, minus_other, minus_was, bytes_at, nodes_apart, node_stands, node_can, node_back, back_can}

-- ---- nodes of an option

-- shown, but for these items in the option k
abbrev pub run_gone : (ℕ → ℕ → Bool) → ℕ → List ℕ → ℕ → ℕ → Bool
run_gone shown k [] = shown
run_gone shown k (j ∷ js) = run_gone (minus shown j k) k js

pub run_other : (shown : ℕ → ℕ → Bool) (k : ℕ) (js : List ℕ) (i : ℕ) → has js i ≡ false → run_gone shown k js i ≡ shown i
run_other shown k [] i h = refl
run_other shown k (j ∷ js) i h = step (run_other (minus shown j k) k js i) (cases_eq i j)
  where
    step : (has js i ≡ false → run_gone (minus shown j k) k js i ≡ minus shown j k i) → (i ≡ j) ⊎ (i ≡ j → ⊥) → run_gone (minus shown j k) k js i ≡ shown i
    step ih (inl e) = absurd (both_ways (has (j ∷ js) i) h (subst (λ n. has (n ∷ js) i ≡ true) e (has_here i js)))
    step ih (inr ne) = ih (pick (has js i) refl) ∙ minus_other shown j k i ne
      where
        pick : (b : Bool) → has js i ≡ b → has js i ≡ false
        pick true e = absurd (both_ways (has (j ∷ js) i) h (has_later j js i e))
        pick false e = e

-- what is left was shown, and is none of these nodes
pub run_was : (shown : ℕ → ℕ → Bool) (k : ℕ) (js : List ℕ) (i m : ℕ) → run_gone shown k js i m ≡ true → (shown i m ≡ true) × (has js i ≡ true → m ≡ k → ⊥)
run_was shown k [] i m h = (h, λ g. absurd (false≢true g))
run_was shown k (j ∷ js) i m h =
    let r = run_was (minus shown j k) k js i m h in let w = minus_was shown j k i m r.0 in
    (w.0, λ g. pick r.1 w.1 (has_cases j js i g))
  where
    pick : (has js i ≡ true → m ≡ k → ⊥) → (i ≡ j → m ≡ k → ⊥) → (j ≡ i) ⊎ (has js i ≡ true) → m ≡ k → ⊥
    pick a b (inl e) = b (sym e)
    pick a b (inr g) = a g

minus_stays : (shown : ℕ → ℕ → Bool) (j k i m : ℕ) → (m ≡ k → ⊥) → minus shown j k i m ≡ shown i m
minus_stays shown j k i m ne = step (cases_eq i j)
  where
    step : (i ≡ j) ⊎ (i ≡ j → ⊥) → minus shown j k i m ≡ shown i m
    step (inl e) = ap (λ (f : ℕ → Bool). f m) (minus_here shown j k i e) ∙ without_stays (shown i) k m ne
    step (inr d) = ap (λ (f : ℕ → Bool). f m) (minus_other shown j k i d)

-- in the other options nothing changes
pub run_stays : (shown : ℕ → ℕ → Bool) (k : ℕ) (js : List ℕ) (i m : ℕ) → (m ≡ k → ⊥) → run_gone shown k js i m ≡ shown i m
run_stays shown k [] i m ne = refl
run_stays shown k (j ∷ js) i m ne = run_stays (minus shown j k) k js i m ne ∙ minus_stays shown j k i m ne

-- the places of these items' nodes in the option k
abbrev pub places : ProblemValue → ℕ → List ℕ → List ℕ
places p k [] = []
places p k (j ∷ js) = node_index p j k ∷ places p k js

-- each of them is in its list
abbrev pub AreShown : ProblemValue → (ℕ → ℕ → Bool) → ℕ → List ℕ → Type 0
AreShown p shown k js = (j : ℕ) → has js j ≡ true → (shown j k ≡ true) × (0 < j) × (j ≤ length p.names)

-- they still are once the node of another item is hidden
still_shown : (p : ProblemValue) (shown : ℕ → ℕ → Bool) (k i : ℕ) (js : List ℕ) → has js i ≡ false → AreShown p shown k js → AreShown p (minus shown i k) k js
still_shown p shown k i js none all j h =
    let a = all j h in
    (ap (λ (f : ℕ → Bool). f k) (minus_other shown i k j (λ e. both_ways (has js i) none (subst (λ n. has js n ≡ true) e h))) ∙ a.0, a.1, a.2)

-- a node that is hidden before others may be hidden after them
first_last : (p : ProblemValue) (active : ℕ → Bool) (k : ℕ) → IsProblem p → (js : List ℕ) (shown : ℕ → ℕ → Bool) (es : List TableEntry) → Stands p shown active es → (j : ℕ) → AreShown p shown k (j ∷ js) → are_distinct (j ∷ js) ≡ true
    → nodes_hidden (node_hidden es (node_index p j k)) (places p k js) ≡ node_hidden (nodes_hidden es (places p k js)) (node_index p j k)
first_last p active k problem [] shown es s j all d = refl
first_last p active k problem (i ∷ js) shown es s j all d = step (first_last p active k problem js (minus shown i k) (node_hidden es (node_index p i k)))
  where
    parts : (not (has (i ∷ js) j) ≡ true) × (are_distinct (i ∷ js) ≡ true)
    parts = and_parts (not (has (i ∷ js) j)) (are_distinct (i ∷ js)) d

    inner : (not (has js i) ≡ true) × (are_distinct js ≡ true)
    inner = and_parts (not (has js i)) (are_distinct js) parts.1

    apart : j ≡ i → ⊥
    apart e = both_ways (has (i ∷ js) j) (not-true (has (i ∷ js) j) parts.0) (subst (λ n. has (i ∷ js) n ≡ true) (sym e) (has_here i js))

    here : (shown i k ≡ true) × (0 < i) × (i ≤ length p.names)
    here = all i (has_later j (i ∷ js) i (has_here i js))

    step : (Stands p (minus shown i k) active (node_hidden es (node_index p i k)) → (m : ℕ) → AreShown p (minus shown i k) k (m ∷ js) → are_distinct (m ∷ js) ≡ true
        → nodes_hidden (node_hidden (node_hidden es (node_index p i k)) (node_index p m k)) (places p k js) ≡ node_hidden (nodes_hidden (node_hidden es (node_index p i k)) (places p k js)) (node_index p m k))
        → nodes_hidden (node_hidden es (node_index p j k)) (places p k (i ∷ js)) ≡ node_hidden (nodes_hidden es (places p k (i ∷ js))) (node_index p j k)
    step ih =
        ap (λ fs. nodes_hidden fs (places p k js)) (hide_swap es (node_index p j k) (node_index p i k) (nodes_apart p shown active es problem s j i k apart (all j (has_here j (i ∷ js))) here))
        ∙ ih (node_stands p shown active es problem s i k here.1 here.2 here.0) j (still_shown p shown k i (j ∷ js) without keep) distinct
      where
        absent : has js j ≡ false
        absent = pick (has js j) refl
          where
            pick : (b : Bool) → has js j ≡ b → has js j ≡ false
            pick true e = absurd (both_ways (has (i ∷ js) j) (not-true (has (i ∷ js) j) parts.0) (has_later i js j e))
            pick false e = e

        without : has (j ∷ js) i ≡ false
        without = pick (has (j ∷ js) i) refl
          where
            rest : (j ≡ i) ⊎ (has js i ≡ true) → ⊥
            rest (inl e) = apart e
            rest (inr e) = both_ways (has js i) (not-true (has js i) inner.0) e

            pick : (b : Bool) → has (j ∷ js) i ≡ b → has (j ∷ js) i ≡ false
            pick true e = absurd (rest (has_cases j js i e))
            pick false e = e

        keep : AreShown p shown k (j ∷ js)
        keep m h = pick (has_cases j js m h)
          where
            pick : (j ≡ m) ⊎ (has js m ≡ true) → (shown m k ≡ true) × (0 < m) × (m ≤ length p.names)
            pick (inl e) = all m (subst (λ n. has (j ∷ i ∷ js) n ≡ true) e (has_here j (i ∷ js)))
            pick (inr g) = all m (has_later j (i ∷ js) m (has_later i js m g))

        distinct : are_distinct (j ∷ js) ≡ true
        distinct = and_from (not (has js j)) (are_distinct js) (not_from_false (has js j) absent) inner.1

pub record RunDone (p : ProblemValue) (shown : ℕ → ℕ → Bool) (active : ℕ → Bool) (es : List TableEntry) (k : ℕ) (js : List ℕ) : Type 0 where
  pub stands : Stands p (run_gone shown k js) active (nodes_hidden es (places p k js))
  pub can : CanHideNodes es (places p k js)
  pub back : nodes_unhidden (nodes_hidden es (places p k js)) (places p k js) ≡ es
  pub back_can : CanUnhideNodes (nodes_hidden es (places p k js)) (places p k js)

pub run_done : (p : ProblemValue) (active : ℕ → Bool) (k : ℕ) → IsProblem p → (js : List ℕ) (shown : ℕ → ℕ → Bool) (es : List TableEntry) → Stands p shown active es → are_distinct js ≡ true → AreShown p shown k js → RunDone p shown active es k js
run_done p active k problem [] shown es s d all = record { stands = s; can = tt; back = refl; back_can = tt }
run_done p active k problem (j ∷ js) shown es s d all =
    step (run_done p active k problem js (minus shown j k) (node_hidden es (node_index p j k))) (run_done p active k problem js shown es)
  where
    parts : (not (has js j) ≡ true) × (are_distinct js ≡ true)
    parts = and_parts (not (has js j)) (are_distinct js) d

    absent : has js j ≡ false
    absent = not-true (has js j) parts.0

    here : (shown j k ≡ true) × (0 < j) × (j ≤ length p.names)
    here = all j (has_here j js)

    rest : AreShown p shown k js
    rest i h = all i (has_later j js i h)

    A : ℕ
    A = node_index p j k

    step : (Stands p (minus shown j k) active (node_hidden es A) → are_distinct js ≡ true → AreShown p (minus shown j k) k js → RunDone p (minus shown j k) active (node_hidden es A) k js)
        → (Stands p shown active es → are_distinct js ≡ true → AreShown p shown k js → RunDone p shown active es k js) → RunDone p shown active es k (j ∷ js)
    step on at =
        let more = on (node_stands p shown active es problem s j k here.1 here.2 here.0) parts.1 (still_shown p shown k j js absent rest) in
        let same = at s parts.1 rest in
        let e = first_last p active k problem js shown es s j all d in
        let mine : run_gone shown k js j k ≡ true = ap (λ (f : ℕ → Bool). f k) (run_other shown k js j absent) ∙ here.0 in
        let first : node_unhidden (nodes_hidden (node_hidden es A) (places p k js)) A ≡ nodes_hidden es (places p k js) =
        ap (λ fs. node_unhidden fs A) e ∙ node_back p (run_gone shown k js) active (nodes_hidden es (places p k js)) problem same.stands j k here.1 here.2 mine in
        record {
          stands = more.stands;
          can = (node_can p shown active es problem s j k here.1 here.2 here.0, more.can);
          back = ap (λ fs. nodes_unhidden fs (places p k js)) first ∙ same.back;
          back_can = (
            subst (λ fs. CanUnhideNode fs A) (sym e) (back_can p (run_gone shown k js) active (nodes_hidden es (places p k js)) problem same.stands j k here.1 here.2 mine),
            subst (λ fs. CanUnhideNodes fs (places p k js)) (sym first) same.back_can,
          );
        }

-- ---- the others of an option

-- the other items of the option k, from the one after i on, round it
abbrev pub other_items : ProblemValue → ℕ → ℕ → List ℕ
other_items p i k = after_first (λ x. x == i) (option_at p k) ++ before_first (λ x. x == i) (option_at p k)

-- shown, but for the option k's other items than i
abbrev pub option_gone : ProblemValue → ℕ → (ℕ → ℕ → Bool) → ℕ → ℕ → ℕ → Bool
option_gone p i shown k = run_gone shown k (other_items p i k)

pub option_stays : (p : ProblemValue) (i : ℕ) (shown : ℕ → ℕ → Bool) (k j m : ℕ) → (m ≡ k → ⊥) → option_gone p i shown k j m ≡ shown j m
option_stays p i shown k j m ne = run_stays shown k (other_items p i k) j m ne

-- each item of an option is i or another one
other_item : (p : ProblemValue) (i k j : ℕ) → has (option_at p k) i ≡ true → has (option_at p k) j ≡ true → (j ≡ i → ⊥) → has (other_items p i k) j ≡ true
other_item p i k j hi hj ne = pick (has_append_cases xs (i ∷ ys) j (subst (λ l. has l j ≡ true) (parts_are i (option_at p k) hi) hj))
  where
    xs : List ℕ
    xs = before_first (λ x. x == i) (option_at p k)

    ys : List ℕ
    ys = after_first (λ x. x == i) (option_at p k)

    rest : (i ≡ j) ⊎ (has ys j ≡ true) → has (ys ++ xs) j ≡ true
    rest (inl e) = absurd (ne (sym e))
    rest (inr g) = has_append_left ys xs j g

    pick : (has xs j ≡ true) ⊎ (has (i ∷ ys) j ≡ true) → has (ys ++ xs) j ≡ true
    pick (inl g) = has_append_right ys xs j g
    pick (inr g) = rest (has_cases i ys j g)

-- what is left was shown, and is no other node of the option
pub option_was : (p : ProblemValue) (i : ℕ) (shown : ℕ → ℕ → Bool) (k j m : ℕ) → has (option_at p k) i ≡ true → has (option_at p m) j ≡ true → option_gone p i shown k j m ≡ true → (shown j m ≡ true) × ((j ≡ i → ⊥) → m ≡ k → ⊥)
option_was p i shown k j m hi hj h =
    let w = run_was shown k (other_items p i k) j m h in
    (w.0, λ ne e. w.1 (other_item p i k j hi (subst (λ n. has (option_at p n) j ≡ true) e hj) ne) e)

pub record HideDone (p : ProblemValue) (shown : ℕ → ℕ → Bool) (active : ℕ → Bool) (es : List TableEntry) (x : ℕ) : Type 0 where
  pub stands : Stands p shown active (hidden es x)
  pub can : CanHide es x
  pub back : unhidden (hidden es x) x ≡ es
  pub back_can : CanUnhide (hidden es x) x

module _ (p : ProblemValue) (active : ℕ → Bool) (problem : IsProblem p) (i k : ℕ) (within : k < length p.options) (h : has (option_at p (suc k)) i ≡ true) where
  abbrev o : List ℕ
  o = option_at p (suc k)

  abbrev xs : List ℕ
  xs = before_first (λ x. x == i) o

  abbrev ys : List ℕ
  ys = after_first (λ x. x == i) o

  parts : o ≡ xs ++ i ∷ ys
  parts = parts_are i o h

  option : IsOptionOf p o
  option = option_is p (suc k) problem (omega arith) (omega arith)

  distinct : (are_distinct xs ≡ true) × (are_distinct (i ∷ ys) ≡ true) × ((x : ℕ) → has xs x ≡ true → has (i ∷ ys) x ≡ false)
  distinct = distinct_parts xs (i ∷ ys) (subst (λ l. are_distinct l ≡ true) parts option.distinct)

  later_distinct : (not (has ys i) ≡ true) × (are_distinct ys ≡ true)
  later_distinct = and_parts (not (has ys i)) (are_distinct ys) distinct.1

  runs : IsRun p (suc k) (start_of p k) xs × IsRun p (suc k) (start_of p k + length xs) (i ∷ ys)
  runs = run_parts p (suc k) (start_of p k) xs (i ∷ ys) (subst (λ l. IsRun p (suc k) (start_of p k) l) parts (option_run p k problem within))

  -- where the item's node stands
  q_place : node_index p i (suc k) ≡ start_of p k + length xs
  q_place = runs.1.0

  -- inside the option the next place is one further, and after the last comes the first
  inside : (a : ℕ) → suc a < start_of p k + length o → place_after (start_of p k) (start_of p k + length o) a ≡ suc a
  inside a lt = let f : a + 1 == start_of p k + length o ≡ false = ne_eqb (a + 1) (start_of p k + length o) (λ e. absurd (omega arith)) in rw f (let e : a + 1 ≡ suc a = omega arith in e)

  at_end : (a : ℕ) → suc a ≡ start_of p k + length o → place_after (start_of p k) (start_of p k + length o) a ≡ start_of p k
  at_end a e = let f : a + 1 == start_of p k + length o ≡ true = eq-eqb (a + 1) (start_of p k + length o) (omega arith) in rw f refl

  node_here : IsNode p i (suc k)
  node_here = record { some = omega arith; within = omega arith; has_item = h }

  pub not_before : has xs i ≡ false
  not_before = pick (has xs i) refl
    where
      pick : (b : Bool) → has xs i ≡ b → has xs i ≡ false
      pick true e = absurd (both_ways (has (i ∷ ys) i) (distinct.2 i e) (has_here i ys))
      pick false e = e

  pub not_after : has ys i ≡ false
  not_after = not-true (has ys i) later_distinct.0

  abbrev others_of : List ℕ
  others_of = other_items p i (suc k)

  not_other : has others_of i ≡ false
  not_other = has_append_not_from ys xs i not_after not_before

  -- the list of the item i itself is kept
  pub column_kept : (shown : ℕ → ℕ → Bool) → option_gone p i shown (suc k) i ≡ shown i
  column_kept shown = run_other shown (suc k) others_of i not_other

  -- the others are items of the option, each once
  other_in : (j : ℕ) → has others_of j ≡ true → has o j ≡ true
  other_in j h = subst (λ l. has l j ≡ true) (sym parts) (pick (has_append_cases ys xs j h))
    where
      pick : (has ys j ≡ true) ⊎ (has xs j ≡ true) → has (xs ++ i ∷ ys) j ≡ true
      pick (inl g) = has_append_right xs (i ∷ ys) j (has_later i ys j g)
      pick (inr g) = has_append_left xs (i ∷ ys) j g

  others_distinct : are_distinct others_of ≡ true
  others_distinct = distinct_from ys xs later_distinct.1 distinct.0 (λ j h. pick j (has xs j) refl h)
    where
      pick : (j : ℕ) (b : Bool) → has xs j ≡ b → has ys j ≡ true → has xs j ≡ false
      pick j true e h = absurd (both_ways (has (i ∷ ys) j) (distinct.2 j e) (has_later i ys j h))
      pick j false e h = e

  abbrev q : ℕ
  q = node_index p i (suc k)

  abbrev start : ℕ
  start = start_of p k

  abbrev end : ℕ
  end = start_of p k + length o

  long : length o ≡ length xs + suc (length ys)
  long = ap length parts ∙ length-append xs (i ∷ ys)

  other_apart : (j : ℕ) → has others_of j ≡ true → node_index p j (suc k) ≡ q → ⊥
  other_apart j h e =
      let n : IsNode p j (suc k) = record { some = omega arith; within = omega arith; has_item = other_in j h } in
      both_ways (has others_of i) not_other (subst (λ m. has others_of m ≡ true) (place_apart p j (suc k) i (suc k) n node_here e).0 h)

  module _ (shown : ℕ → ℕ → Bool) (es : List TableEntry) (s : Stands p shown active es) where
    link : (j : ℕ) → has o j ≡ true → bytes_at es (node_index p j (suc k)) ≡ place_after start end (node_index p j (suc k)) * 16
    link j h =
        let e : suc k - 1 ≡ k = omega arith in
        s.nexts j (suc k) (record { some = omega arith; within = omega arith; has_item = h }) ∙ ap (λ n. place_after (start_of p n) end (node_index p j (suc k)) * 16) e

    next_is : (j : ℕ) → has o j ≡ true → next_node es (node_index p j (suc k)) ≡ place_after start end (node_index p j (suc k))
    next_is j h = ap (λ n. n / 16) (link j h) ∙ times_div (place_after start end (node_index p j (suc k)))

    has_next : (j : ℕ) → has o j ≡ true → HasNext (entry_at es (node_index p j (suc k)))
    has_next j h = subst (λ n. n / 16 * 16 ≡ n) (sym (link j h)) (ap (λ n. n * 16) (times_div (place_after start end (node_index p j (suc k)))))

    -- the nodes before q are met after the option's first place, and then q itself
    walk_before : (js : List ℕ) (a b : ℕ) → ((j : ℕ) → has js j ≡ true → has o j ≡ true) → next_node es a ≡ b → IsRun p (suc k) b js → b + length js ≡ q → IsListWalk (next_node es) a (places p (suc k) js) q
    walk_before [] a b all at r e = at ∙ (let f : b ≡ q = omega arith in f)
    walk_before (j ∷ js) a b all at r e =
        let h = all j (has_here j js) in
        let on : next_node es (node_index p j (suc k)) ≡ suc b = next_is j h ∙ ap (place_after start end) r.0 ∙ inside b (let l = long in let z = q_place in omega arith) in
        (at ∙ sym r.0, walk_before js (node_index p j (suc k)) (suc b) (λ i g. all i (has_later j js i g)) on r.1 (omega arith))

    -- the nodes after q, and then those
    walk_after : (js : List ℕ) (a : ℕ) → ((j : ℕ) → has js j ≡ true → has o j ≡ true) → next_node es a ≡ place_after start end a → IsRun p (suc k) (suc a) js → suc a + length js ≡ end → IsListWalk (next_node es) a (places p (suc k) (js ++ xs)) q
    walk_after [] a all at r e =
        walk_before xs a start (λ j h. subst (λ l. has l j ≡ true) (sym parts) (has_append_left xs (i ∷ ys) j h)) (at ∙ at_end a (omega arith)) runs.0 (sym q_place)
    walk_after (j ∷ js) a all at r e =
        let h = all j (has_here j js) in
        (at ∙ inside a (omega arith) ∙ sym r.0, walk_after js (node_index p j (suc k)) (λ i g. all i (has_later j js i g)) (next_is j h) (subst (λ b. IsRun p (suc k) (suc b) js) (sym r.0) r.1) (let f = r.0 in omega arith))

    round : IsListWalk (next_node es) q (places p (suc k) others_of) q
    round = walk_after ys q (λ j g. subst (λ l. has l j ≡ true) (sym parts) (has_append_right xs (i ∷ ys) j (has_later i ys j g))) (next_is i h) (subst (λ b. IsRun p (suc k) (suc b) ys) (sym q_place) runs.1.1) (let l = long in let z = q_place in omega arith)

    -- the way round is walked
    walked : (js : List ℕ) (a n : ℕ) → ((j : ℕ) → has js j ≡ true → (has o j ≡ true) × (node_index p j (suc k) ≡ q → ⊥)) → IsListWalk (next_node es) a (places p (suc k) js) q → length js ≤ n
        → (until (next_node es) q (next_node es a) n ≡ places p (suc k) js) × LeadsTo es q (next_node es a) n
    walked [] a zero all w le = (refl, w)
    walked [] a (suc n) all w le = (until_here (next_node es) q (next_node es a) (suc n) w, inl w)
    walked (j ∷ js) a zero all w le = absurd (omega arith)
    walked (j ∷ js) a (suc n) all w le =
        let x = node_index p j (suc k) in let h = all j (has_here j js) in
        let r = walked js x n (λ i g. all i (has_later j js i g)) w.1 (omega arith) in
        subst (λ y. (until (next_node es) q y (suc n) ≡ places p (suc k) (j ∷ js)) × LeadsTo es q y (suc n)) (sym w.0)
        (until_on (next_node es) q x n h.1 ∙ ap (λ l. x ∷ l) r.0, inr (has_next j h.0, r.1))

    whole : (until (next_node es) q (next_node es q) (length es) ≡ places p (suc k) others_of) × LeadsTo es q (next_node es q) (length es)
    whole = walked others_of q (length es) (λ j g. (other_in j g, other_apart j g)) round (let b = (spacer_low p (suc k) (omega arith) (omega arith)).1 in let z = s.size in let l = long in let c = length-append ys xs in omega arith)

    pub others_are : other_nodes es q ≡ places p (suc k) others_of
    others_are = whole.0

    pub is_round : GoesRound es q
    is_round = record { here = (let z = s.size in let l = place_low p i (suc k) node_here in omega arith); link = has_next i h; leads = whole.1 }

  module _ (shown : ℕ → ℕ → Bool) (es : List TableEntry) (s : Stands p shown active es) (all : (j : ℕ) → has o j ≡ true → shown j (suc k) ≡ true) where
    one : RunDone p shown active es (suc k) others_of
    one = run_done p active (suc k) problem others_of shown es s others_distinct (λ j m. let r = option.items j (other_in j m) in (all j (other_in j m), r.0, r.1))

    abbrev all_hidden : List TableEntry
    all_hidden = nodes_hidden es (places p (suc k) others_of)

    hidden_is : hidden es q ≡ all_hidden
    unfolding hidden
    hidden_is = ap (nodes_hidden es) (others_are shown es s)

    back_is : unhidden all_hidden q ≡ es
    unfolding unhidden
    back_is = ap (nodes_unhidden all_hidden) (others_are (option_gone p i shown (suc k)) all_hidden one.stands) ∙ one.back

    can_hide : CanHide es q
    can_hide = record { round = is_round shown es s; nodes = subst (CanHideNodes es) (sym (others_are shown es s)) one.can }

    can_back : CanUnhide all_hidden q
    can_back = record {
      round = is_round (option_gone p i shown (suc k)) all_hidden one.stands;
      nodes = subst (CanUnhideNodes all_hidden) (sym (others_are (option_gone p i shown (suc k)) all_hidden one.stands)) one.back_can;
    }

    pub hide_done : HideDone p (option_gone p i shown (suc k)) active es q
    hide_done = record {
      stands = subst (λ fs. Stands p (option_gone p i shown (suc k)) active fs) (sym hidden_is) one.stands;
      can = can_hide;
      back = ap (λ fs. unhidden fs q) hidden_is ∙ back_is;
      back_can = subst (λ fs. CanUnhide fs q) (sym hidden_is) can_back;
    }
