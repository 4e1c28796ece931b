-- The block that is built, option by option, stands for the problem with nothing covered.
use Rattle.std.proofs.Common.{◌≡◌, ℕ, zero, suc, ◌+◌, ◌-◌, ◌<◌, ◌≤◌, ◌⊎◌, inl, inr, ◌==◌, nat_lt, true, false, List, [], length, length-set, filter, replicate, refl, sym, ap, ◌∙◌, subst, arith}
use Rattle.std.specs.Cmp.{both_ways as same_test}
use Rattle.std.proofs.lemmas.Bool.{cases_eq, false≢true, eq-eqb, lt-ltb, le-ltb, ne_eqb}
use Rattle.shared_words.specs.Lists.{has, numbers}
use Rattle.cover_problem.specs.Problem.{ProblemValue, IsProblem, option_at, size_of}
use Rattle.cover_links.specs.declared.entry.TableEntry.{TableEntry}
use Rattle.cover_links.specs.Entries.{blank, entry_at}
use Rattle.cover_links.specs.Fresh.{empty_head, heads_written, built, fresh}
use Rattle.cover_links.specs.Safety.{CanAppendOption}
use Rattle.cover_links.specs.Ring.{IsNext, IsRing}
use Rattle.cover_links.specs.Layout.{node_index, start_of}
use Rattle.cover_links.proofs.LayoutLemmas.{IsNode}
use Rattle.cover_links.proofs.HidingLemmas.{Stands, down_at, up_at, left_at, right_at}
use Rattle.cover_links.proofs.Covered.{shown_of, active_of, IsShown, shown_is, shown_from, active_is, active_when, false_from}
use Rattle.cover_links.proofs.AppendLemmas.{at_set, set_other}
use Rattle.std.proofs.lemmas.List.{length-replicate}
use Rattle.cover_links.proofs.OptionLemmas.{upto, upto_is, upto_old, BuiltDone, option_done, option_can}

-- ---- the heads

heads_length : (es : List TableEntry) (primary n : ℕ) → length (heads_written es primary n) ≡ length es
heads_length es primary zero = length-set es 0 (record { top = 0; up = 0; down = 0; left = primary; right = 1 })
heads_length es primary (suc n) = length-set (heads_written es primary n) (suc n) (empty_head primary (suc n)) ∙ heads_length es primary n

header_is : (es : List TableEntry) (primary n : ℕ) → 0 < length es → entry_at (heads_written es primary n) 0 ≡ record { top = 0; up = 0; down = 0; left = primary; right = 1 }
header_is es primary zero lt = at_set es 0 (record { top = 0; up = 0; down = 0; left = primary; right = 1 }) lt
header_is es primary (suc n) lt = set_other (heads_written es primary n) (suc n) 0 (empty_head primary (suc n)) (λ e. absurd (omega arith)) ∙ header_is es primary n lt

head_is : (es : List TableEntry) (primary n i : ℕ) → 0 < i → i ≤ n → n < length es → entry_at (heads_written es primary n) i ≡ empty_head primary i
head_is es primary zero i a b lt = absurd (omega arith)
head_is es primary (suc n) i a b lt = step (head_is es primary n i a) (cases_eq i (suc n))
  where
    step : (i ≤ n → n < length es → entry_at (heads_written es primary n) i ≡ empty_head primary i) → (i ≡ suc n) ⊎ (i ≡ suc n → ⊥) → entry_at (heads_written es primary (suc n)) i ≡ empty_head primary i
    step ih (inl e) = (λ v. entry_at (heads_written es primary (suc n)) (e v)) ∙ at_set (heads_written es primary n) (suc n) (empty_head primary (suc n)) (subst (λ z. suc n < z) (sym (heads_length es primary n)) lt) ∙ ap (empty_head primary) (sym e)
    step ih (inr ne) = set_other (heads_written es primary n) (suc n) i (empty_head primary (suc n)) ne ∙ ih (omega (arith, ne)) (omega arith)

module _ (p : ProblemValue) (problem : IsProblem p) where
  abbrev heads : List TableEntry
  heads = heads_written (replicate (size_of p) blank) p.primary (length p.names)

  room : length (replicate (size_of p) blank) ≡ size_of p
  room = length-replicate (size_of p) blank

  head : (i : ℕ) → 0 < i → i ≤ length p.names → entry_at heads i ≡ empty_head p.primary i
  head i a b = head_is (replicate (size_of p) blank) p.primary (length p.names) i a b (let r = room in omega arith)

  header : entry_at heads 0 ≡ record { top = 0; up = 0; down = 0; left = p.primary; right = 1 }
  header = header_is (replicate (size_of p) blank) p.primary (length p.names) (let r = room in omega arith)

  none : (j k : ℕ) → upto p 0 [] j k ≡ true → ⊥
  none j k h = pick (upto_is p 0 [] j k h)
    where
      pick : ((0 < k) × (k ≤ 0) × (has (option_at p k) j ≡ true)) ⊎ ((k ≡ 1) × (has [] j ≡ true)) → ⊥
      pick (inl a) = let b = a.0 in let c = a.1 in absurd (omega arith)
      pick (inr a) = false≢true a.1

  no_members : (j n k : ℕ) → filter (upto p 0 [] j) (numbers n k) ≡ []
  no_members j zero k = refl
  no_members j (suc n) k = let f : upto p 0 [] j k ≡ false = false_from (upto p 0 [] j k) (none j k) in rw f (no_members j n (suc k))

  empty_ring : (j : ℕ) → 0 < j → j ≤ length p.names → IsRing (upto p 0 [] j) (node_index p j) (down_at heads) (up_at heads)
  empty_ring j a b x y f = step f.from f.to
    where
      step : (x ≡ 0) ⊎ (upto p 0 [] j x ≡ true) → IsNext (upto p 0 [] j) x y → (down_at heads (node_index p j x) ≡ node_index p j y) × (up_at heads (node_index p j y) ≡ node_index p j x)
      step (inr h) n = absurd (none j x h)
      step (inl e) (inl n) = absurd (none j y n.0)
      step (inl e) (inr n) = (
        (λ v. down_at heads (node_index p j (e v))) ∙ ap (λ (w : TableEntry). w.down) (head j a b) ∙ (λ v. node_index p j (sym n.0 v)),
        (λ v. up_at heads (node_index p j (n.0 v))) ∙ ap (λ (w : TableEntry). w.up) (head j a b) ∙ (λ v. node_index p j (sym e v)),
      )

  primary_right : (i : ℕ) → 0 < i → i < p.primary → right_at heads i ≡ i + 1
  primary_right i a b =
      let w = problem.within in let f : nat_lt p.primary i ≡ false = le-ltb p.primary i (omega arith) in let g : i == p.primary ≡ false = ne_eqb i p.primary (λ e. absurd (omega arith)) in
      ap (λ (e : TableEntry). e.right) (head i a (omega arith)) ∙ rw (f, g) refl

  last_right : right_at heads p.primary ≡ 0
  last_right =
      let w = problem.within in let f : nat_lt p.primary p.primary ≡ false = le-ltb p.primary p.primary (omega arith) in let g : p.primary == p.primary ≡ true = eq-eqb p.primary p.primary refl in
      ap (λ (e : TableEntry). e.right) (head p.primary problem.some w) ∙ rw (f, g) refl

  primary_left : (i : ℕ) → 0 < i → i ≤ p.primary → left_at heads i ≡ i - 1
  primary_left i a b =
      let w = problem.within in let f : nat_lt p.primary i ≡ false = le-ltb p.primary i b in
      ap (λ (e : TableEntry). e.left) (head i a (omega arith)) ∙ rw f refl

  full_row : IsRing (active_of p []) (λ i. i) (right_at heads) (left_at heads)
  full_row x y f = step f.to
    where
      at_most : (x ≡ 0) ⊎ (active_of p [] x ≡ true) → x ≤ p.primary
      at_most (inl e) = omega arith
      at_most (inr h) = (active_is p [] x h).1

      go_right : (x ≡ 0) ⊎ (active_of p [] x ≡ true) → x < p.primary → right_at heads x ≡ x + 1
      go_right (inl e) lt = (λ v. right_at heads (e v)) ∙ ap (λ (w : TableEntry). w.right) header ∙ (let z : 1 ≡ x + 1 = omega arith in z)
      go_right (inr h) lt = let q = active_is p [] x h in primary_right x q.0 lt

      close_right : x ≡ p.primary → right_at heads x ≡ 0
      close_right e = (λ v. right_at heads (e v)) ∙ last_right

      step : IsNext (active_of p []) x y → (right_at heads x ≡ y) × (left_at heads y ≡ x)
      step (inl n) =
          let q = active_is p [] y n.0 in let lt = n.1 in let q0 = q.0 in let q1 = q.1 in
          let next = n.2 (x + 1) (active_when p [] (x + 1) (omega arith) (omega arith) refl) (omega arith) in
          let e : x + 1 ≡ y = omega arith in
          (go_right f.from (omega arith) ∙ e, primary_left y q0 q1 ∙ (let z : y - 1 ≡ x = omega arith in z))
      step (inr n) =
          let most = n.1 p.primary (active_when p [] p.primary problem.some (omega arith) refl) in
          let a = at_most f.from in
          let e : x ≡ p.primary = omega arith in
          (close_right e ∙ sym n.0, (λ v. left_at heads (n.0 v)) ∙ ap (λ (w : TableEntry). w.left) header ∙ sym e)

  heads_done : BuiltDone p (active_of p []) 0 heads
  heads_done = record {
    grows = record {
      size = heads_length (replicate (size_of p) blank) p.primary (length p.names) ∙ room;
      header = ap (λ (w : TableEntry). w.top) header;
      shown_are = λ j k h. absurd (none j k h);
      rings = empty_ring;
      counts = λ j a b. ap (λ (w : TableEntry). w.top) (head j a b) ∙ sym (ap length (no_members j (length p.options) 1));
      tops = λ j k h. absurd (none j k h);
      nexts = λ j k h. absurd (none j k h);
      row = full_row;
      aside = λ i a b.
          let f : nat_lt p.primary i ≡ true = lt-ltb p.primary i a in
          (ap (λ (w : TableEntry). w.right) (head i (omega arith) b) ∙ rw f refl, ap (λ (w : TableEntry). w.left) (head i (omega arith) b) ∙ rw f refl);
      actives = λ i h. let q = active_is p [] i h in (q.0, q.1);
    };
    spacers = λ k a b. absurd (omega arith);
  }

  pub built_done : (n : ℕ) → n ≤ length p.options → BuiltDone p (active_of p []) n (built p n)
  built_done zero le = heads_done
  built_done (suc n) le = option_done p (active_of p []) n problem (omega arith) (built p n) (built_done n (omega arith))

  pub built_can : (n : ℕ) → n < length p.options → CanAppendOption (built p n) (start_of p n) (option_at p (suc n))
  built_can n lt = option_can p (active_of p []) n problem lt (built p n) (built_done n (omega arith))

  all_shown : upto p (length p.options) [] ≡ shown_of p []
  all_shown = λ v j k. (same_test (upto p (length p.options) [] j k) (shown_of p [] j k) (λ h. to j k (upto_is p (length p.options) [] j k h)) (λ h. from j k (shown_is p [] j k h))) v
    where
      to : (j k : ℕ) → ((0 < k) × (k ≤ length p.options) × (has (option_at p k) j ≡ true)) ⊎ ((k ≡ suc (length p.options)) × (has [] j ≡ true)) → shown_of p [] j k ≡ true
      to j k (inl a) = shown_from p [] j k (record { node = record { some = a.0; within = a.1; has_item = a.2 }; free = λ y g o. false≢true g })
      to j k (inr a) = absurd (false≢true a.1)

      from : (j k : ℕ) → IsShown p [] j k → upto p (length p.options) [] j k ≡ true
      from j k s = upto_old p (length p.options) [] j k (s.node).some (s.node).within (s.node).has_item

  every_node : (j k : ℕ) → IsNode p j k → upto p (length p.options) [] j k ≡ true
  every_node j k n = upto_old p (length p.options) [] j k n.some n.within n.has_item

  pub fresh_stands : Stands p (shown_of p []) (active_of p []) (fresh p)
  unfolding fresh
  fresh_stands =
      let d = built_done (length p.options) (omega arith) in let g = d.grows in
      subst (λ f. Stands p f (active_of p []) (built p (length p.options))) all_shown (record {
        size = g.size;
        header = g.header;
        shown_are = g.shown_are;
        rings = g.rings;
        counts = g.counts;
        tops = λ j k n. g.tops j k (every_node j k n);
        nexts = λ j k n. g.nexts j k (every_node j k n);
        spacers = λ k a b. (d.spacers k a b).0;
        blanks = λ k a b. (d.spacers k a b).1;
        row = g.row;
        aside = g.aside;
        actives = g.actives;
      })
