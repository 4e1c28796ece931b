-- An option that is appended: its nodes come into their lists, and the spacer past it. The block stands for one option more.
use Rattle.std.proofs.Common.{◌≡◌, ℕ, zero, suc, ◌+◌, ◌-◌, ◌<◌, ◌≤◌, ◌⊎◌, inl, inr, ◌==◌, nat_lt, nat_le, Bool, true, false, ◌&&◌, ◌||◌, List, [], ◌∷◌, ◌++◌, length, length-set, set, refl, sym, ap, ◌∙◌, subst, arith, append_assoc, append-nil}
use Rattle.std.proofs.lemmas.Bool.{and_parts, and_from, or_cases, or_left, or_right, cases_eq, cases_lt, both_ways, false≢true, eqb-true, eq-eqb, ltb-true, leb-true, lt-ltb, le-leb}
use Rattle.shared_words.specs.Lists.{has, are_distinct}
use Rattle.cover_problem.specs.Problem.{ProblemValue, IsProblem, option_at, size_of}
use Rattle.cover_problem.proofs.MemberLemmas.{has_here, has_append_cases, has_append_left, has_append_right, has_cases}
use Rattle.cover_problem.proofs.PartLemmas.{distinct_parts}
use Rattle.cover_problem.proofs.ActiveLemmas.{option_is, IsOptionOf}
use Rattle.cover_links.specs.declared.entry.TableEntry.{TableEntry}
use Rattle.cover_links.specs.Entries.{entry_at, next_bytes, changed, to_down}
use Rattle.cover_links.specs.Fresh.{node_appended, nodes_appended, option_appended, fresh}
use Rattle.cover_links.specs.Safety.{CanAppendNode, CanAppendNodes, CanAppendOption}
use Rattle.cover_links.specs.Layout.{node_index, spacer_of, start_of, index_of, place_after}
use Rattle.cover_links.proofs.EntryLemmas.{length-changed, kept, at_other}
use Rattle.cover_links.proofs.LayoutLemmas.{IsNode, next_place, IsRun, option_run, place_high, spacer_low, start_step, start_zero, start_low, start_below, index_below}
use Rattle.cover_links.proofs.HidingLemmas.{top_at, bytes_at}
use Rattle.std.specs.Cmp.{both_ways as same_test}
use Rattle.cover_links.proofs.AppendLemmas.{Grows, Adds, at_set, set_other, append_grows, append_keeps, append_blank, append_can}
use Rattle.cover_links.proofs.RingLemmas.{next_member}

-- the nodes of the first n options, and of the items xs in the one after them
unfoldable pub upto : ProblemValue → ℕ → List ℕ → ℕ → ℕ → Bool
upto p n xs j k = ((nat_lt 0 k && nat_le k n) && has (option_at p k) j) || ((k == suc n) && has xs j)

pub upto_is : (p : ProblemValue) (n : ℕ) (xs : List ℕ) (j k : ℕ) → upto p n xs j k ≡ true → ((0 < k) × (k ≤ n) × (has (option_at p k) j ≡ true)) ⊎ ((k ≡ suc n) × (has xs j ≡ true))
unfolding upto
upto_is p n xs j k h = pick (or_cases ((nat_lt 0 k && nat_le k n) && has (option_at p k) j) ((k == suc n) && has xs j) h)
  where
    pick : (((nat_lt 0 k && nat_le k n) && has (option_at p k) j) ≡ true) ⊎ (((k == suc n) && has xs j) ≡ true) → ((0 < k) × (k ≤ n) × (has (option_at p k) j ≡ true)) ⊎ ((k ≡ suc n) × (has xs j ≡ true))
    pick (inl g) = let a = and_parts (nat_lt 0 k && nat_le k n) (has (option_at p k) j) g in let b = and_parts (nat_lt 0 k) (nat_le k n) a.0 in inl (ltb-true 0 k b.0, leb-true k n b.1, a.1)
    pick (inr g) = let a = and_parts (k == suc n) (has xs j) g in inr (eqb-true k (suc n) a.0, a.1)

pub upto_old : (p : ProblemValue) (n : ℕ) (xs : List ℕ) (j k : ℕ) → 0 < k → k ≤ n → has (option_at p k) j ≡ true → upto p n xs j k ≡ true
unfolding upto
upto_old p n xs j k a b h =
    or_left ((nat_lt 0 k && nat_le k n) && has (option_at p k) j) ((k == suc n) && has xs j)
    (and_from (nat_lt 0 k && nat_le k n) (has (option_at p k) j) (and_from (nat_lt 0 k) (nat_le k n) (lt-ltb 0 k a) (le-leb k n b)) h)

upto_new : (p : ProblemValue) (n : ℕ) (xs : List ℕ) (j : ℕ) → has xs j ≡ true → upto p n xs j (suc n) ≡ true
unfolding upto
upto_new p n xs j h =
    or_right ((nat_lt 0 (suc n) && nat_le (suc n) n) && has (option_at p (suc n)) j) ((suc n == suc n) && has xs j) (and_from (suc n == suc n) (has xs j) (eq-eqb (suc n) (suc n) refl) h)

adds : (p : ProblemValue) (n : ℕ) (xs : List ℕ) (j : ℕ) → has xs j ≡ false → Adds (upto p n xs) (upto p n (xs ++ j ∷ [])) j (suc n)
adds p n xs j fresh = record {
  is_new = λ h. new (upto_is p n xs j (suc n) h);
  comes = upto_new p n (xs ++ j ∷ []) j (has_append_right xs (j ∷ []) j (has_here j []));
  stays = λ i m h. stay i m (upto_is p n xs i m h);
  only = λ i m h. one i m (upto_is p n (xs ++ j ∷ []) i m h);
  last = λ m h. below m (upto_is p n xs j m h);
}
  where
    new : ((0 < suc n) × (suc n ≤ n) × (has (option_at p (suc n)) j ≡ true)) ⊎ ((suc n ≡ suc n) × (has xs j ≡ true)) → ⊥
    new (inl a) = let b = a.1 in absurd (omega arith)
    new (inr a) = both_ways (has xs j) fresh a.1

    stay : (i m : ℕ) → ((0 < m) × (m ≤ n) × (has (option_at p m) i ≡ true)) ⊎ ((m ≡ suc n) × (has xs i ≡ true)) → upto p n (xs ++ j ∷ []) i m ≡ true
    stay i m (inl a) = upto_old p n (xs ++ j ∷ []) i m a.0 a.1 a.2
    stay i m (inr a) = subst (λ z. upto p n (xs ++ j ∷ []) i z ≡ true) (sym a.0) (upto_new p n (xs ++ j ∷ []) i (has_append_left xs (j ∷ []) i a.1))

    one : (i m : ℕ) → ((0 < m) × (m ≤ n) × (has (option_at p m) i ≡ true)) ⊎ ((m ≡ suc n) × (has (xs ++ j ∷ []) i ≡ true)) → ((i ≡ j) × (m ≡ suc n)) ⊎ (upto p n xs i m ≡ true)
    one i m (inl a) = inr (upto_old p n xs i m a.0 a.1 a.2)
    one i m (inr a) = pick (has_append_cases xs (j ∷ []) i a.1)
      where
        last : (j ≡ i) ⊎ (has [] i ≡ true) → ((i ≡ j) × (m ≡ suc n)) ⊎ (upto p n xs i m ≡ true)
        last (inl e) = inl (sym e, a.0)
        last (inr e) = absurd (false≢true e)

        pick : (has xs i ≡ true) ⊎ (has (j ∷ []) i ≡ true) → ((i ≡ j) × (m ≡ suc n)) ⊎ (upto p n xs i m ≡ true)
        pick (inl h) = inr (subst (λ z. upto p n xs i z ≡ true) (sym a.0) (upto_new p n xs i h))
        pick (inr h) = last (has_cases j [] i h)

    below : (m : ℕ) → ((0 < m) × (m ≤ n) × (has (option_at p m) j ≡ true)) ⊎ ((m ≡ suc n) × (has xs j ≡ true)) → m < suc n
    below m (inl a) = let b = a.1 in omega arith
    below m (inr a) = absurd (both_ways (has xs j) fresh a.1)

-- ---- the nodes of an option

-- neither what the entry at y is nor where it leads to is changed
abbrev IsSame : List TableEntry → List TableEntry → ℕ → Type 0
IsSame es fs y = (top_at fs y ≡ top_at es y) × (bytes_at fs y ≡ bytes_at es y)

pub record NodesDone (p : ProblemValue) (shown : ℕ → ℕ → Bool) (active : ℕ → Bool) (es fs : List TableEntry) (x start end : ℕ) (js : List ℕ) : Type 0 where
  pub grows : Grows p shown active fs
  pub can : CanAppendNodes es x start end js
  pub keeps : (y : ℕ) → length p.names < y → (y < x) ⊎ (x + length js ≤ y) → IsSame es fs y

nodes_done : (p : ProblemValue) (active : ℕ → Bool) (n : ℕ) → IsProblem p → n < length p.options → (js xs : List ℕ) (es : List TableEntry) (x : ℕ) → option_at p (suc n) ≡ xs ++ js → Grows p (upto p n xs) active es → IsRun p (suc n) x js
    → NodesDone p (upto p n (xs ++ js)) active es (nodes_appended es x (start_of p n) (spacer_of p (suc n)) js) x (start_of p n) (spacer_of p (suc n)) js
nodes_done p active n problem lt [] xs es x e g r = record { grows = subst (λ l. Grows p (upto p n l) active es) (sym (append-nil xs)) g; can = tt; keeps = λ y a b. (refl, refl) }
nodes_done p active n problem lt (j ∷ js) xs es x e g r =
    step (nodes_done p active n problem lt js (xs ++ j ∷ []) (node_appended es x j (place_after (start_of p n) (spacer_of p (suc n)) x)) (suc x))
  where
    option : IsOptionOf p (option_at p (suc n))
    option = option_is p (suc n) problem (omega arith) (omega arith)

    member : has (option_at p (suc n)) j ≡ true
    member = subst (λ l. has l j ≡ true) (sym e) (has_append_right xs (j ∷ js) j (has_here j js))

    fresh : has xs j ≡ false
    fresh = pick (has xs j) refl
      where
        pick : (b : Bool) → has xs j ≡ b → has xs j ≡ false
        pick true h = absurd (both_ways (has (j ∷ js) j) ((distinct_parts xs (j ∷ js) (subst (λ l. are_distinct l ≡ true) e option.distinct)).2 j h) (has_here j js))
        pick false h = h

    node : IsNode p j (suc n)
    node = record { some = omega arith; within = omega arith; has_item = member }

    a : Adds (upto p n xs) (upto p n (xs ++ j ∷ [])) j (suc n)
    a = adds p n xs j fresh

    item : (0 < j) × (j ≤ length p.names)
    item = option.items j member

    left_same : start_of p (suc n - 1) ≡ start_of p n
    left_same = let z : suc n - 1 ≡ n = omega arith in ap (start_of p) z

    moved : (P : ℕ → ℕ → Type 0) → P (node_index p j (suc n)) (next_place p j (suc n)) → P x (place_after (start_of p n) (spacer_of p (suc n)) x)
    moved P h = subst (λ (w : ℕ × ℕ). P w.0 w.1) (λ v. (r.0 v, place_after (left_same v) (spacer_of p (suc n)) (r.0 v))) h

    grown : Grows p (upto p n (xs ++ j ∷ [])) active (node_appended es x j (place_after (start_of p n) (spacer_of p (suc n)) x))
    grown = moved (λ y l. Grows p (upto p n (xs ++ j ∷ [])) active (node_appended es y j l)) (append_grows p active problem (upto p n xs) (upto p n (xs ++ j ∷ [])) es g j (suc n) item.0 item.1 node a)

    can : CanAppendNode es x j (place_after (start_of p n) (spacer_of p (suc n)) x)
    can = moved (λ y l. CanAppendNode es y j l) (append_can p active problem (upto p n xs) (upto p n (xs ++ j ∷ [])) es g j (suc n) item.0 item.1 node a)

    keeps : (y : ℕ) → length p.names < y → (y ≡ x → ⊥) → IsSame es (node_appended es x j (place_after (start_of p n) (spacer_of p (suc n)) x)) y
    keeps y h ne = moved (λ z l. (y ≡ z → ⊥) → IsSame es (node_appended es z j l) y) (λ d. (
      append_keeps p active problem (upto p n xs) (upto p n (xs ++ j ∷ [])) es g j (suc n) item.0 item.1 node a y h d,
      append_blank p active problem (upto p n xs) (upto p n (xs ++ j ∷ [])) es g j (suc n) item.0 item.1 node a y d,
    )) ne

    step : (option_at p (suc n) ≡ (xs ++ j ∷ []) ++ js → Grows p (upto p n (xs ++ j ∷ [])) active (node_appended es x j (place_after (start_of p n) (spacer_of p (suc n)) x)) → IsRun p (suc n) (suc x) js
        → NodesDone p (upto p n ((xs ++ j ∷ []) ++ js)) active (node_appended es x j (place_after (start_of p n) (spacer_of p (suc n)) x)) (nodes_appended (node_appended es x j (place_after (start_of p n) (spacer_of p (suc n)) x)) (suc x) (start_of p n) (spacer_of p (suc n)) js) (suc x) (start_of p n) (spacer_of p (suc n)) js)
        → NodesDone p (upto p n (xs ++ j ∷ js)) active es (nodes_appended es x (start_of p n) (spacer_of p (suc n)) (j ∷ js)) x (start_of p n) (spacer_of p (suc n)) (j ∷ js)
    step ih =
        let rest = ih (e ∙ sym (append_assoc xs (j ∷ []) js)) grown r.1 in
        record {
          grows = subst (λ l. Grows p (upto p n l) active (nodes_appended es x (start_of p n) (spacer_of p (suc n)) (j ∷ js))) (append_assoc xs (j ∷ []) js) rest.grows;
          can = (can, rest.can);
          keeps = λ y h b. let k = rest.keeps y h (later y b) in let l = keeps y h (apart y b) in (k.0 ∙ l.0, k.1 ∙ l.1);
        }
      where
        later : (y : ℕ) → (y < x) ⊎ (x + length (j ∷ js) ≤ y) → (y < suc x) ⊎ (suc x + length js ≤ y)
        later y (inl l) = inl (omega arith)
        later y (inr l) = inr (omega arith)

        apart : (y : ℕ) → (y < x) ⊎ (x + length (j ∷ js) ≤ y) → y ≡ x → ⊥
        apart y (inl l) e = absurd (omega arith)
        apart y (inr l) e = absurd (omega arith)

-- ---- the spacers

spacer_apart : (p : ProblemValue) (n i m : ℕ) → n ≤ length p.options → IsNode p i m → node_index p i m ≡ spacer_of p n → ⊥
spacer_apart p n i zero le node e = absurd (omega (arith, node.some))
spacer_apart p zero i (suc m) le node e = let h = place_high p i (suc m) node in absurd (omega arith)
spacer_apart p (suc n) i (suc m) le node e = pick (index_below (option_at p (suc m)) i node.has_item) (cases_lt n m) (cases_lt m n)
  where
    pick : index_of i (option_at p (suc m)) < length (option_at p (suc m)) → (n < m) ⊎ (m ≤ n) → (m < n) ⊎ (n ≤ m) → ⊥
    pick b (inl l) d = let r = start_below p n m l (omega (arith, node.within)) in absurd (omega arith)
    pick b (inr l) (inl d) = let r = start_below p m n d (omega arith) in absurd (omega arith)
    pick b (inr l) (inr d) = let s : n ≡ m = omega arith in let f = ap (λ z. start_of p z + length (option_at p (suc z))) s in absurd (omega arith)

spacer_before : (p : ProblemValue) (n : ℕ) → n < length p.options → start_of p n - 1 ≡ spacer_of p n
spacer_before p zero lt = let s = start_zero p in omega arith
spacer_before p (suc n) lt = let s = start_step p n (omega arith) in omega arith

spacer_rises : (p : ProblemValue) (k n : ℕ) → k ≤ n → n < length p.options → spacer_of p k < spacer_of p (suc n)
spacer_rises p zero n le lt = let s = start_low p n in omega arith
spacer_rises p (suc k) n le lt = let s = start_below p k n (omega arith) (omega arith) in omega arith

-- a change of an entry that is no head and no node
grows_aside : (p : ProblemValue) (shown : ℕ → ℕ → Bool) (active : ℕ → Bool) (es fs : List TableEntry) (z : ℕ) → IsProblem p → Grows p shown active es → length fs ≡ length es → length p.names < z → ((j k : ℕ) → shown j k ≡ true → node_index p j k ≡ z → ⊥)
    → ((y : ℕ) → (y ≡ z → ⊥) → entry_at fs y ≡ entry_at es y) → Grows p shown active fs
grows_aside p shown active es fs z problem g long high apart same =
    let head : (j : ℕ) → j ≤ length p.names → entry_at fs j ≡ entry_at es j = λ j le. same j (λ e. absurd (omega arith)) in
    let node : (j k : ℕ) → shown j k ≡ true → entry_at fs (node_index p j k) ≡ entry_at es (node_index p j k) = λ j k h. same (node_index p j k) (apart j k h) in
    record {
      size = long ∙ g.size;
      header = ap (λ (e : TableEntry). e.top) (head 0 (omega arith)) ∙ g.header;
      shown_are = g.shown_are;
      rings = λ j a b x y f. let q = g.rings j a b x y f in (ap (λ (e : TableEntry). e.down) (member j b x f.from) ∙ q.0, ap (λ (e : TableEntry). e.up) (member j b y (next_member (shown j) x y f.to)) ∙ q.1);
      counts = λ j a b. ap (λ (e : TableEntry). e.top) (head j b) ∙ g.counts j a b;
      tops = λ j k h. ap (λ (e : TableEntry). e.top) (node j k h) ∙ g.tops j k h;
      nexts = λ j k h. ap next_bytes (node j k h) ∙ g.nexts j k h;
      row = λ x y f. let q = g.row x y f in (ap (λ (e : TableEntry). e.right) (head x (low x f.from)) ∙ q.0, ap (λ (e : TableEntry). e.left) (head y (low y (next_member active x y f.to))) ∙ q.1);
      aside = λ i a b. let q = g.aside i a b in (ap (λ (e : TableEntry). e.right) (head i b) ∙ q.0, ap (λ (e : TableEntry). e.left) (head i b) ∙ q.1);
      actives = g.actives;
    }
  where
    low : (i : ℕ) → (i ≡ 0) ⊎ (active i ≡ true) → i ≤ length p.names
    low i (inl e) = omega arith
    low i (inr h) = let q = g.actives i h in let w = problem.within in omega arith

    member : (j : ℕ) → j ≤ length p.names → (x : ℕ) → (x ≡ 0) ⊎ (shown j x ≡ true) → entry_at fs (node_index p j x) ≡ entry_at es (node_index p j x)
    member j le x (inl e) = subst (λ n. entry_at fs (node_index p j n) ≡ entry_at es (node_index p j n)) (sym e) (same j (λ f. absurd (omega arith)))
    member j le x (inr h) = same (node_index p j x) (apart j x h)

-- ---- the options

-- the spacer past the option numbered k: it has that number, and leads to no next node
abbrev pub IsSpacer : List TableEntry → ℕ → ℕ → Type 0
IsSpacer es x k = (top_at es x ≡ k) × (bytes_at es x ≡ 0)

pub record BuiltDone (p : ProblemValue) (active : ℕ → Bool) (n : ℕ) (es : List TableEntry) : Type 0 where
  pub grows : Grows p (upto p n []) active es
  pub spacers : (k : ℕ) → 0 < k → k ≤ n → IsSpacer es (spacer_of p k) k

module _ (p : ProblemValue) (active : ℕ → Bool) (n : ℕ) (problem : IsProblem p) (lt : n < length p.options) (es : List TableEntry) (d : BuiltDone p active n es) where
  abbrev o : List ℕ
  o = option_at p (suc n)

  abbrev start : ℕ
  start = start_of p n

  abbrev end : ℕ
  end = start_of p n + length o

  abbrev fs : List TableEntry
  fs = nodes_appended es start start end o

  nodes : NodesDone p (upto p n o) active es fs start start end o
  nodes = nodes_done p active n problem lt o [] es start refl d.grows (option_run p n problem lt)

  abbrev gs : List TableEntry
  gs = changed (to_down (end - 1)) fs (start - 1)

  abbrev hs : List TableEntry
  hs = set gs end (record { top = suc n; up = start; down = 0; left = 0; right = 0 })

  appended_is : option_appended es start o (suc n) ≡ hs
  unfolding option_appended
  appended_is = refl

  shown_node : (j k : ℕ) → upto p n o j k ≡ true → IsNode p j k
  shown_node = (nodes.grows).shown_are

  gs_grows : Grows p (upto p n o) active gs
  gs_grows =
      let z = start_low p n in
      grows_aside p (upto p n o) active fs gs (start - 1) problem nodes.grows (length-changed (to_down (end - 1)) fs (start - 1)) (omega arith)
      (λ j k h e. spacer_apart p n j k (omega arith) (shown_node j k h) (e ∙ spacer_before p n lt)) (λ y ne. at_other (to_down (end - 1)) fs (start - 1) y ne)

  end_low : end < length gs
  end_low = let a = (gs_grows).size in let b = spacer_low p (suc n) (omega arith) (omega arith) in let c = b.1 in omega arith

  hs_grows : Grows p (upto p n o) active hs
  hs_grows =
      let z = start_low p n in
      grows_aside p (upto p n o) active gs hs end problem gs_grows (length-set gs end (record { top = suc n; up = start; down = 0; left = 0; right = 0 })) (omega arith)
      (λ j k h e. spacer_apart p (suc n) j k (omega arith) (shown_node j k h) e) (λ y ne. set_other gs end y (record { top = suc n; up = start; down = 0; left = 0; right = 0 }) ne)

  whole : upto p n o ≡ upto p (suc n) []
  whole = λ v j k. (same_test (upto p n o j k) (upto p (suc n) [] j k) (λ h. to j k (upto_is p n o j k h)) (λ h. from j k (upto_is p (suc n) [] j k h))) v
    where
      to : (j k : ℕ) → ((0 < k) × (k ≤ n) × (has (option_at p k) j ≡ true)) ⊎ ((k ≡ suc n) × (has o j ≡ true)) → upto p (suc n) [] j k ≡ true
      to j k (inl a) = upto_old p (suc n) [] j k a.0 (let b = a.1 in omega arith) a.2
      to j k (inr a) = upto_old p (suc n) [] j k (let b = a.0 in omega arith) (let b = a.0 in omega arith) (subst (λ z. has (option_at p z) j ≡ true) (sym a.0) a.1)

      from : (j k : ℕ) → ((0 < k) × (k ≤ suc n) × (has (option_at p k) j ≡ true)) ⊎ ((k ≡ suc (suc n)) × (has [] j ≡ true)) → upto p n o j k ≡ true
      from j k (inr a) = absurd (false≢true a.1)
      from j k (inl a) = pick (cases_eq k (suc n))
        where
          pick : (k ≡ suc n) ⊎ (k ≡ suc n → ⊥) → upto p n o j k ≡ true
          pick (inl e) = subst (λ z. upto p n o j z ≡ true) (sym e) (upto_new p n o j (subst (λ z. has (option_at p z) j ≡ true) e a.2))
          pick (inr ne) = upto_old p n o j k a.0 (let b = a.1 in omega (arith, ne)) a.2

  spacer_is : (k : ℕ) → 0 < k → k ≤ suc n → (k ≡ suc n) ⊎ (k ≡ suc n → ⊥) → IsSpacer hs (spacer_of p k) k
  spacer_is k a b (inl e) =
      let here = at_set gs end (record { top = suc n; up = start; down = 0; left = 0; right = 0 }) end_low in
      subst (λ m. IsSpacer hs (spacer_of p m) m) (sym e) (ap (λ (w : TableEntry). w.top) here, ap next_bytes here)
  spacer_is k a b (inr ne) =
      let le : k ≤ n = omega (arith, ne) in
      let up = spacer_rises p k n le lt in let low = spacer_low p k a (omega arith) in let l = low.0 in
      let other = set_other gs end (spacer_of p k) (record { top = suc n; up = start; down = 0; left = 0; right = 0 }) (λ e. absurd (omega arith)) in
      let same = nodes.keeps (spacer_of p k) (omega arith) (inl (sooner k a le)) in let was = d.spacers k a le in (
        ap (λ (w : TableEntry). w.top) other ∙ kept (λ w. w.top) (to_down (end - 1)) (λ w. refl) fs (start - 1) (spacer_of p k) ∙ same.0 ∙ was.0,
        ap next_bytes other ∙ kept next_bytes (to_down (end - 1)) (λ w. refl) fs (start - 1) (spacer_of p k) ∙ same.1 ∙ was.1,
      )
    where
      sooner : (k : ℕ) → 0 < k → k ≤ n → spacer_of p k < start
      sooner zero a le = absurd (omega arith)
      sooner (suc k) a le = start_below p k n (omega arith) (omega arith)

  pub option_done : BuiltDone p active (suc n) (option_appended es start o (suc n))
  option_done = subst (λ ks. BuiltDone p active (suc n) ks) (sym appended_is) (record {
    grows = subst (λ f. Grows p f active hs) whole hs_grows;
    spacers = λ k a b. spacer_is k a b (cases_eq k (suc n));
  })

  pub option_can : CanAppendOption es start o
  option_can =
      let z = start_low p n in let s = (d.grows).size in let b = (spacer_low p (suc n) (omega arith) (omega arith)).1 in
      let small = and_parts (nat_le (length p.names) 65535 && nat_le (length p.options) 262143) (nat_le (size_of p) 8388608) problem.small in
      let m = leb-true (size_of p) 8388608 small.1 in
      record { some = omega arith; end = omega arith; word = omega arith; nodes = nodes.can }
