-- What is read off the links of a table.
use Rattle.std.proofs.Common.{◌≡◌, ℕ, zero, suc, ◌+◌, ◌-◌, ◌*◌, ◌^◌, ◌<◌, ◌≤◌, ◌⊎◌, inl, inr, ◌==◌, Bool, true, false, Option, Some, None, unwrap_or, List, [], ◌∷◌, ◌++◌, length, length-append, filter, get_or, take, refl, sym, ap, ◌∙◌, subst, arith}
use Rattle.std.proofs.lemmas.Bool.{eq-eqb, ne_eqb, cases_lt, false≢true, true≢false}
use Rattle.std.proofs.Math.Seq.{take-append_seam}
use Rattle.shared_words.specs.Lists.{has, numbers, above, below, last_of}
use Rattle.cover_problem.specs.Problem.{ProblemValue, option_at, size_of}
use Rattle.cover_problem.specs.Covering.{active, list_of}
use Rattle.cover_problem.specs.Coverable.{IsUncovered}
use Rattle.cover_problem.specs.Table.{TableValue, IsCoveredList}
use Rattle.cover_problem.proofs.CoveredLemmas.{covered_push, covered_pop, covered_last}
use Rattle.cover_problem.proofs.MemberLemmas.{has_filter_in, has_at}
use Rattle.cover_problem.proofs.RisingLemmas.{above_is, below_is, last_is}
use Rattle.cover_problem.proofs.NumberLemmas.{rises_member}
use Rattle.cover_problem.proofs.ActiveLemmas.{active_rises, active_in, option_is}
use Rattle.cover_problem.proofs.RemainingLemmas.{list_rises, list_in}
use Rattle.cover_links.specs.declared.entry.TableEntry.{TableEntry}
use Rattle.cover_links.specs.Entries.{entry_at}
use Rattle.cover_links.specs.Hiding.{item_covered, item_uncovered}
use Rattle.cover_links.specs.Safety.{CanCoverItem, CanUncoverItem}
use Rattle.cover_links.specs.StandsFor.{block_of}
use Rattle.cover_links.specs.Layout.{node_index, spacer_of, start_of, index_of}
use Rattle.cover_links.specs.Ring.{Follows}
use Rattle.cover_links.specs.Table.{IsTable, nonzero, IsHeadOrNode, is_spacer}
use Rattle.cover_links.proofs.LayoutLemmas.{IsNode, IsRun, next_place, option_run, place_high, place_low, spacer_low, start_low, start_last, index_below}
use Rattle.cover_links.proofs.BuildLemmas.{size_small, place_between, after_between}
use Rattle.cover_links.proofs.RingLemmas.{next_is, prev_is, last_to_head, next_member}
use Rattle.cover_links.proofs.HidingLemmas.{Stands, down_at, up_at, right_at, top_at, bytes_at}
use Rattle.cover_links.proofs.Covered.{shown_of, active_of, active_is, active_when}
use Rattle.cover_links.proofs.BlockLemmas.{links_stand, shown_list, active_list, step_done, block_push}
use Rattle.cover_links.proofs.CoverStep.{CoverDone}

-- an option that holds no 0 is what the link to its number leads to
pub linked_option : (o : Option ℕ) → ((k : ℕ) → o ≡ Some k → 0 < k) → nonzero (unwrap_or o 0) ≡ o
linked_option None h = refl
linked_option (Some k) h = let f : k == 0 ≡ false = ne_eqb k 0 (λ e. let a = h k refl in absurd (omega arith)) in rw f refl

-- a link to the node of the option that is found, or to the item's head where there is none
abbrev pub IsLinkTo : List TableEntry → ℕ → ℕ → Option ℕ → Type 0
IsLinkTo es j node found = (k : ℕ) × IsHeadOrNode es j node k × (nonzero k ≡ found)

-- the head goes by another name
pub by_head : {es : List TableEntry} {i j node : ℕ} {found : Option ℕ} → i ≡ j → IsLinkTo es j node found → IsLinkTo es i node found
by_head {es} {i} {j} {node} {found} e to = subst (λ k. IsLinkTo es k node found) (sym e) to

-- the parts of a table, of the value that contracts see
pub at_view : {p : ProblemValue} {c : List ℕ} {items : ℕ} {block : List TableEntry} {starts : List ℕ} {room : ℕ} {v : TableValue} → record { problem = p; covered = c } ≡ v → IsTable p c items block starts room
    → IsTable v.problem v.covered items block starts room
at_view {p} {c} {items} {block} {starts} {room} e t = subst (λ (v : TableValue). IsTable v.problem v.covered items block starts room) e t

pub uncovered_in : {p : ProblemValue} {c : List ℕ} {v : TableValue} {j : ℕ} → record { problem = p; covered = c } ≡ v → IsUncovered v.problem v.covered j → IsUncovered p c j
uncovered_in {p} {c} {v} {j} e u = subst (λ (v : TableValue). IsUncovered v.problem v.covered j) (sym e) u

-- whether a spacer stands at y, as it was read and told
pub seen_at : (es : List TableEntry) (y : ℕ) {e : TableEntry} {b v : Bool} → b ≡ is_spacer e → b ≡ v → e ≡ entry_at es y → is_spacer (entry_at es y) ≡ v
seen_at es y told seen read = ap is_spacer (sym read) ∙ sym told ∙ seen

-- inside a list the default is not read
any_default : (xs : List ℕ) (i d f : ℕ) → i < length xs → get_or xs i d ≡ get_or xs i f
any_default [] i d f lt = absurd (omega arith)
any_default (x ∷ xs) zero d f lt = refl
any_default (x ∷ xs) (suc i) d f lt = any_default xs i d f (omega arith)

module _ {p : ProblemValue} {c : List ℕ} {items : ℕ} {block : List TableEntry} {starts : List ℕ} {room : ℕ} (t : IsTable p c items block starts room) where
  pub stands : Stands p (shown_of p c) (active_of p c) block
  stands = subst (λ es. Stands p (shown_of p c) (active_of p c) es) (sym t.block_is) (links_stand p c t.problem t.covered)

  pub item_low : (j : ℕ) → j ≤ length p.names → j < length block
  item_low j le = let s = (stands).size in omega arith

  -- so many entries can be counted by an offset, and their bytes by an address
  pub block_small : length block ≤ 8388608
  block_small = let s = (stands).size in let z = size_small p t.problem in omega arith

  pub entry_low : (x : ℕ) → x < size_of p → x < length block
  entry_low x lt = let s = (stands).size in omega arith

  -- the last of the starts is how many entries there are
  pub last_start : {n x : ℕ} → n ≡ length starts → x ≡ get_or starts (n - 1) x → x ≡ size_of p
  last_start {n} {x} all read =
      let m = t.count in let last : n - 1 ≡ length p.options = omega arith in
      read ∙ any_default starts (n - 1) x 0 (omega arith) ∙ ap (λ k. get_or starts k 0) last ∙ t.each (length p.options) (omega arith) ∙ start_last p

  -- ---- the row

  actives : (z : ℕ) → active_of p c z ≡ true → (0 < z) × (z ≤ p.primary)
  actives z h = let q = active_is p c z h in (q.0, q.1)

  pub row_next : (x : ℕ) → (x ≡ 0) ⊎ (active_of p c x ≡ true) → nonzero (right_at block x) ≡ above x (active p c)
  row_next x from =
      let f = (stands).row x (unwrap_or (above x (filter (active_of p c) (numbers p.primary 1))) 0) (next_is (active_of p c) p.primary actives x from) in
      ap nonzero (f.0 ∙ ap (λ l. unwrap_or (above x l) 0) (active_list p c)) ∙ linked_option (above x (active p c)) (λ k h. let a = above_is x 1 (active p c) k (active_rises p c) h in omega (arith, a.more))

  pub is_active : (x : ℕ) → has (active p c) x ≡ true → active_of p c x ≡ true
  is_active x h = let q = active_in p c x h in active_when p c x q.1 q.2 q.0

  pub active_low : (x : ℕ) → has (active p c) x ≡ true → x < length block
  active_low x h = let q = active_in p c x h in item_low x (omega (arith, t.problem.within, q.2))

  -- ---- the nodes of an option

  run_at : (k A : ℕ) (js : List ℕ) (n : ℕ) → IsRun p k A js → n < length js → node_index p (get_or js n 0) k ≡ A + n
  run_at k A [] n r lt = absurd (omega arith)
  run_at k A (j ∷ js) zero r lt = r.0 ∙ (let e : A ≡ A + 0 = omega arith in e)
  run_at k A (j ∷ js) (suc n) r lt = run_at k (suc A) js n r.1 (omega arith) ∙ (let e : suc A + n ≡ A + suc n = omega arith in e)

  -- the entry that stands n past an option's first node tells the item of that node
  pub item_at : (k n : ℕ) → k < length p.options → n < length (option_at p (suc k)) → node_index p (top_at block (start_of p k + n)) (suc k) ≡ start_of p k + n
  item_at k n lt b =
      let o = option_at p (suc k) in
      let r = run_at (suc k) (start_of p k) o n (option_run p k t.problem lt) b in
      let node : IsNode p (get_or o n 0) (suc k) = record { some = omega arith; within = omega arith; has_item = has_at o n 0 b } in
      let top = (stands).tops (get_or o n 0) (suc k) node in
      ap (λ i. node_index p i (suc k)) (ap (top_at block) (sym r) ∙ top) ∙ r

  -- an entry between an option's first place and its spacer leads to another one of them
  between_node : (k x : ℕ) → 0 < k → k ≤ length p.options → start_of p (k - 1) ≤ x → x < spacer_of p k → (n : ℕ) × (start_of p (k - 1) ≤ n) × (bytes_at block x ≡ n * 16)
  between_node zero x some le low high = absurd (omega arith)
  between_node (suc k) x some le low high =
      let e : suc k - 1 ≡ k = omega arith in let f = ap (start_of p) e in
      let o = option_at p (suc k) in let m = x - start_of p k in let lt : m < length o = omega arith in
      let j = get_or o m 0 in
      let at : node_index p j (suc k) ≡ x = run_at (suc k) (start_of p k) o m (option_run p k t.problem (omega arith)) lt ∙ (let g : start_of p k + m ≡ x = omega arith in g) in
      let node : IsNode p j (suc k) = record { some = some; within = le; has_item = has_at o m 0 lt } in
      let b = place_between p j (suc k) node in
      (next_place p j (suc k), (after_between (start_of p (suc k - 1)) (spacer_of p (suc k)) (node_index p j (suc k)) b.0 b.1).0, ap (bytes_at block) (sym at) ∙ (stands).nexts j (suc k) node)

  -- ---- the lists

  module _ (j : ℕ) (pos : 0 < j) (le : j ≤ length p.names) where
    abbrev L : List ℕ
    L = list_of p c j

    within : (z : ℕ) → shown_of p c j z ≡ true → (0 < z) × (z ≤ length p.options)
    within z h = let q = (stands).shown_are j z h in (q.some, q.within)

    pub is_shown : (k : ℕ) → has L k ≡ true → shown_of p c j k ≡ true
    is_shown k h = (has_filter_in (shown_of p c j) (numbers (length p.options) 1) k (subst (λ l. has l k ≡ true) (sym (shown_list p c j)) h)).0

    pub length_is : top_at block j ≡ length L
    length_is = (stands).counts j pos le ∙ ap length (shown_list p c j)

    spot : (k : ℕ) → (k ≡ 0) ⊎ (shown_of p c j k ≡ true) → IsHeadOrNode block j (node_index p j k) k
    spot k (inl e) = inl (ap (node_index p j) e, e)
    spot k (inr h) =
        let s = stands in let n = s.shown_are j k h in let high = place_high p j k n in let z = s.size in
        let b = spacer_low p k n.some n.within in let c = place_between p j k n in
        inr (
          spacer_of p k,
          record {
            apart = λ e. absurd (omega arith);
            past = c.1;
            within = (let d = b.1 in omega arith);
            word = (let d = b.1 in let w = size_small p t.problem in omega arith);
            nodes = λ x low high. let m = between_node k x n.some n.within (let l = c.0 in omega arith) high in
                ne_eqb (bytes_at block x) 0 (λ e. let l = start_low p (k - 1) in let a = m.0 in let f = m.1 in absurd (omega arith));
            end = eq-eqb (bytes_at block (spacer_of p k)) 0 (s.blanks k n.some n.within);
            number = s.spacers k n.some n.within;
            some = n.some;
          },
        )

    next_leads : (x : ℕ) → (x ≡ 0) ⊎ (shown_of p c j x ≡ true) → IsLinkTo block j (down_at block (node_index p j x)) (above x L)
    next_leads x from =
        let f = subst (λ l. Follows (shown_of p c j) x (unwrap_or (above x l) 0)) (shown_list p c j) (next_is (shown_of p c j) (length p.options) within x from) in
        let to = spot (unwrap_or (above x L) 0) (next_member (shown_of p c j) x (unwrap_or (above x L) 0) f.to) in (
          unwrap_or (above x L) 0,
          subst (λ n. IsHeadOrNode block j n (unwrap_or (above x L) 0)) (sym ((stands).rings j pos le x (unwrap_or (above x L) 0) f).0) to,
          linked_option (above x L) (λ k h. let a = above_is x 1 L k (list_rises p c j) h in omega (arith, a.more)),
        )

    -- backwards, from the node found and from what follows it
    prev_leads : (y : ℕ) (found : Option ℕ) → Follows (shown_of p c j) (unwrap_or found 0) y → ((k : ℕ) → found ≡ Some k → has L k ≡ true) → IsLinkTo block j (up_at block (node_index p j y)) found
    prev_leads y found f inside = (
      unwrap_or found 0,
      subst (λ n. IsHeadOrNode block j n (unwrap_or found 0)) (sym ((stands).rings j pos le (unwrap_or found 0) y f).1) (spot (unwrap_or found 0) f.from),
      linked_option found (λ k h. rises_member 1 k L (list_rises p c j) (inside k h)),
    )

    pub first_leads : {e : TableEntry} {n : ℕ} → e ≡ entry_at block j → n ≡ e.down → IsLinkTo block j n (above 0 L)
    first_leads is link = subst (λ n. IsLinkTo block j n (above 0 L)) (sym (link ∙ ap (λ (e : TableEntry). e.down) is)) (next_leads 0 (inl refl))

    pub last_leads : {e : TableEntry} {n : ℕ} → e ≡ entry_at block j → n ≡ e.up → IsLinkTo block j n (last_of L)
    last_leads is link =
        let f = subst (λ l. Follows (shown_of p c j) (unwrap_or (last_of l) 0) 0) (shown_list p c j) (last_to_head (shown_of p c j) (length p.options) within) in
        subst (λ n. IsLinkTo block j n (last_of L)) (sym (link ∙ ap (λ (e : TableEntry). e.up) is)) (prev_leads 0 (last_of L) f (λ k h. (last_is 1 L k (list_rises p c j) h).0))

  -- from an option of the item's list
  module _ (j o : ℕ) (m : has (list_of p c j) o ≡ true) where
    member : (has (option_at p o) j ≡ true) × (0 < o) × (o ≤ length p.options)
    member = list_in p c j o m

    item : (0 < j) × (j ≤ length p.names)
    item = (option_is p o t.problem member.1 member.2).items j member.0

    pub node_low : {x : ℕ} → x ≡ node_index p j o → x < length block
    node_low at = let low = place_low p j o (record { some = member.1; within = member.2; has_item = member.0 }) in let s = (stands).size in omega arith

    pub next_from : {x : ℕ} {e : TableEntry} {n : ℕ} → x ≡ node_index p j o → e ≡ entry_at block x → n ≡ e.down → IsLinkTo block j n (above o (list_of p c j))
    next_from at is link =
        subst (λ n. IsLinkTo block j n (above o (list_of p c j))) (sym (link ∙ ap (λ (e : TableEntry). e.down) (is ∙ ap (entry_at block) at))) (next_leads j item.0 item.1 o (inr (is_shown j item.0 item.1 o m)))

    pub prev_from : {x : ℕ} {e : TableEntry} {n : ℕ} → x ≡ node_index p j o → e ≡ entry_at block x → n ≡ e.up → IsLinkTo block j n (below o (list_of p c j))
    prev_from at is link =
        let f = subst (λ l. Follows (shown_of p c j) (unwrap_or (below o l) 0) o) (shown_list p c j) (prev_is (shown_of p c j) (length p.options) (within j item.0 item.1) o (is_shown j item.0 item.1 o m)) in
        subst (λ n. IsLinkTo block j n (below o (list_of p c j))) (sym (link ∙ ap (λ (e : TableEntry). e.up) (is ∙ ap (entry_at block) at)))
        (prev_leads j item.0 item.1 o (below o (list_of p c j)) f (λ k h. (below_is o 1 (list_of p c j) k (list_rises p c j) h).member))

  -- where the option after the first k begins, as it is read
  pub start_is : (k : ℕ) {b : ℕ} → k ≤ length p.options → b ≡ get_or starts k b → b ≡ start_of p k
  start_is k {b} le read = read ∙ any_default starts k b 0 (let n = t.count in omega arith) ∙ t.each k le

  -- the places of an option, up to its spacer, and of an item that it has
  module _ (j o : ℕ) (some : 0 < o) (le : o ≤ length p.options) (h : has (option_at p o) j ≡ true) where
    back : suc (o - 1) ≡ o
    back = omega arith

    node : IsNode p j o
    node = record { some = some; within = le; has_item = h }

    place_is : node_index p j o ≡ start_of p (o - 1) + index_of j (option_at p o)
    place_is = ap (node_index p j) (sym back) ∙ ap (λ k. start_of p (o - 1) + index_of j (option_at p k)) back

    pub place_from : start_of p (o - 1) ≤ node_index p j o
    place_from = let q = place_is in omega arith

    spacer_is : spacer_of p o ≡ start_of p (o - 1) + length (option_at p o)
    spacer_is = ap (spacer_of p) (sym back) ∙ ap (λ k. start_of p (o - 1) + length (option_at p k)) back

    pub place_below : node_index p j o < spacer_of p o
    place_below = let q = place_is in let r = spacer_is in let i = index_below (option_at p o) j h in omega arith

    pub spacer_inside : spacer_of p o < length block
    spacer_inside = let b = (spacer_low p o some le).1 in let s = (stands).size in omega arith

    pub item_small : j < 2 ^ 28
    item_small = let i = (option_is p o t.problem some le).items j h in let l = item_low j i.1 in let z = block_small in omega arith

    -- past the option stands the first entry that leads to no next node
    pub not_past : (x : ℕ) → x ≤ spacer_of p o → is_spacer (entry_at block x) ≡ false → x < spacer_of p o
    not_past x high f =
        let apart : x ≡ spacer_of p o → ⊥ = λ e. false≢true (sym f ∙ ap (λ y. is_spacer (entry_at block y)) e ∙ eq-eqb (bytes_at block (spacer_of p o)) 0 ((stands).blanks o some le)) in
        omega (arith, high, apart)

    pub is_past : (x : ℕ) → start_of p (o - 1) ≤ x → x ≤ spacer_of p o → is_spacer (entry_at block x) ≡ true → x ≡ spacer_of p o
    is_past x low high f = elim (cases_lt x (spacer_of p o)) [
      | inl less ↦ let m = between_node o x some le low less in let l = start_low p (o - 1) in let a = m.1 in let b = m.2 in
          absurd (true≢false (sym f ∙ ne_eqb (bytes_at block x) 0 (λ e. absurd (omega arith))))
      | inr most ↦ omega arith
    ]

    -- of the option's nodes one alone tells the item
    pub top_here : top_at block (node_index p j o) ≡ j
    top_here = (stands).tops j o node

    pub item_here : (x : ℕ) → start_of p (o - 1) ≤ x → x < spacer_of p o → node_index p (top_at block x) o ≡ x
    item_here x low high =
        let r = spacer_is in let size = ap (λ k. length (option_at p k)) back in
        let n : start_of p (o - 1) + (x - start_of p (o - 1)) ≡ x = omega arith in
        let r = item_at (o - 1) (x - start_of p (o - 1)) (omega arith) (omega arith) in
        (λ i. node_index p (top_at block (sym n i)) (sym back i)) ∙ r ∙ n

  -- ---- covering and uncovering

  pub covers_can : {j : ℕ} → IsUncovered p c j → CanCoverItem block j
  covers_can {j} u = subst (λ b. CanCoverItem b j) (sym t.block_is) (step_done p c j t.problem t.covered u).can

  pub covers : {j new_room : ℕ} {new_block : List TableEntry} {new_covered : List ℕ} → IsUncovered p c j → new_block ≡ item_covered block j → new_covered ≡ c ++ j ∷ [] → new_room ≡ room → IsTable p new_covered items new_block starts new_room
  covers {j} u now list same = record {
    problem = t.problem;
    covered = subst (IsCoveredList p) (sym list) (covered_push p c j t.covered u);
    items_are = t.items_are;
    block_is = now ∙ ap (λ b. item_covered b j) t.block_is ∙ sym (block_push p c j) ∙ ap (block_of p) (sym list);
    count = t.count;
    each = t.each;
    capacity = subst (λ n. length p.names ≤ n) (sym same) t.capacity;
  }

  module _ {j : ℕ} (front : (f : List ℕ) × (c ≡ f ++ j ∷ [])) where
    all : IsCoveredList p (front.0 ++ j ∷ [])
    all = subst (IsCoveredList p) front.1 t.covered

    done : CoverDone p front.0 j (block_of p front.0)
    done = step_done p front.0 j t.problem (covered_pop p front.0 j all) (covered_last p front.0 j all)

    now_is : block ≡ item_covered (block_of p front.0) j
    now_is = t.block_is ∙ ap (block_of p) front.1 ∙ block_push p front.0 j

    pub uncovers_can : CanUncoverItem block j
    uncovers_can = subst (λ b. CanUncoverItem b j) (sym now_is) done.back_can

    pub uncovers : {n new_room : ℕ} {new_block : List TableEntry} {new_covered : List ℕ} → new_block ≡ item_uncovered block j → new_covered ≡ take (n - 1) c → n ≡ length c → new_room ≡ room → IsTable p new_covered items new_block starts new_room
    uncovers {n} {new_room} {new_block} {new_covered} now rest size same =
        let long = ap length front.1 ∙ length-append front.0 (j ∷ []) in
        let less : n - 1 ≡ length front.0 = omega arith in
        let list : new_covered ≡ front.0 = rest ∙ (λ i. take (less i) (front.1 i)) ∙ take-append_seam front.0 (j ∷ []) in
        record {
          problem = t.problem;
          covered = subst (IsCoveredList p) (sym list) (covered_pop p front.0 j all);
          items_are = t.items_are;
          block_is = now ∙ ap (λ b. item_uncovered b j) now_is ∙ done.back ∙ ap (block_of p) (sym list);
          count = t.count;
          each = t.each;
          capacity = subst (λ n. length p.names ≤ n) (sym same) t.capacity;
        }
