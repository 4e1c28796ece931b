-- A node that is appended to its list: the block stands for one node more.
use Rattle.std.proofs.Common.{◌≡◌, ℕ, zero, suc, ◌+◌, ◌*◌, ◌<◌, ◌≤◌, ◌^◌, ◌⊎◌, inl, inr, Bool, true, unwrap_or, List, [], ◌∷◌, length, length-set, filter, set, refl, sym, ap, ◌∙◌, subst, arith}
use Rattle.std.proofs.lemmas.Bool.{cases_eq, cases_lt}
use Rattle.shared_words.specs.Lists.{numbers, last_of}
use Rattle.cover_problem.specs.Problem.{ProblemValue, IsProblem, size_of}
use Rattle.cover_links.specs.declared.entry.TableEntry.{TableEntry}
use Rattle.cover_links.specs.Entries.{entry_at, low_half, high_half, next_bytes, changed, one_more, to_up, to_down, relinked}
use Rattle.cover_links.specs.Hiding.{node_unhidden}
use Rattle.cover_links.specs.Fresh.{node_written, node_appended}
use Rattle.cover_links.specs.Safety.{CanAppendNode, IsInside}
use Rattle.cover_links.specs.Ring.{Follows, IsNext, IsRing, but_for}
use Rattle.cover_links.specs.Layout.{node_index}
use Rattle.cover_links.proofs.EntryLemmas.{halves_join, length-changed, kept, at_changed, at_other}
use Rattle.cover_links.proofs.RestoreLemmas.{vertical, length-joined, joined_next, joined_next_other, joined_prev, joined_prev_other, joined_kept}
use Rattle.cover_links.proofs.RingLemmas.{without_ne, without_from, last_to_head, count_without}
use Rattle.cover_links.proofs.LayoutLemmas.{IsNode, next_place, place_high, place_low, place_apart}
use Rattle.cover_links.proofs.BuildLemmas.{size_small, next_low}
use Rattle.cover_links.proofs.HidingLemmas.{down_at, up_at, left_at, right_at, top_at, bytes_at, few}
use Rattle.std.specs.Cmp.{both_ways as same_test}

-- a block with the nodes that are shown, while it is built
pub record Grows (p : ProblemValue) (shown : ℕ → ℕ → Bool) (active : ℕ → Bool) (es : List TableEntry) : Type 0 where
  pub size : length es ≡ size_of p
  pub header : top_at es 0 ≡ 0
  pub shown_are : (j k : ℕ) → shown j k ≡ true → IsNode p j k
  pub rings : (j : ℕ) → 0 < j → j ≤ length p.names → IsRing (shown j) (node_index p j) (down_at es) (up_at es)
  pub counts : (j : ℕ) → 0 < j → j ≤ length p.names → top_at es j ≡ length (filter (shown j) (numbers (length p.options) 1))
  pub tops : (j k : ℕ) → shown j k ≡ true → top_at es (node_index p j k) ≡ j
  pub nexts : (j k : ℕ) → shown j k ≡ true → bytes_at es (node_index p j k) ≡ next_place p j k * 16
  pub row : IsRing active (λ i. i) (right_at es) (left_at es)
  pub aside : (i : ℕ) → p.primary < i → i ≤ length p.names → (right_at es i ≡ i) × (left_at es i ≡ i)
  pub actives : (i : ℕ) → active i ≡ true → (0 < i) × (i ≤ p.primary)

-- one node more, in the last option so far
pub record Adds (t t' : ℕ → ℕ → Bool) (j k : ℕ) : Type 0 where
  pub is_new : t j k ≡ true → ⊥
  pub comes : t' j k ≡ true
  pub stays : (i m : ℕ) → t i m ≡ true → t' i m ≡ true
  pub only : (i m : ℕ) → t' i m ≡ true → ((i ≡ j) × (m ≡ k)) ⊎ (t i m ≡ true)
  pub last : (m : ℕ) → t j m ≡ true → m < k

module _ (t t' : ℕ → ℕ → Bool) (j k : ℕ) (a : Adds t t' j k) where
  pub added_other : (i : ℕ) → (i ≡ j → ⊥) → t' i ≡ t i
  added_other i ne = λ z m. (same_test (t' i m) (t i m) (λ h. pick m (a.only i m h)) (a.stays i m)) z
    where
      pick : (m : ℕ) → ((i ≡ j) × (m ≡ k)) ⊎ (t i m ≡ true) → t i m ≡ true
      pick m (inl e) = absurd (ne e.0)
      pick m (inr h) = h

  pub added_without : but_for (t' j) k ≡ t j
  added_without = λ z m. (same_test (but_for (t' j) k m) (t j m) (λ h. let w = without_ne (t' j) k m h in pick m w.1 (a.only j m w.0)) (λ h. without_from (t' j) k m (a.stays j m h) (λ e. a.is_new (subst (λ n. t j n ≡ true) e h)))) z
    where
      pick : (m : ℕ) → (m ≡ k → ⊥) → ((j ≡ j) × (m ≡ k)) ⊎ (t j m ≡ true) → t j m ≡ true
      pick m ne (inl e) = absurd (ne e.1)
      pick m ne (inr h) = h

-- what is written at one entry
pub at_set : (es : List TableEntry) (x : ℕ) (e : TableEntry) → x < length es → entry_at (set es x e) x ≡ e
at_set [] x e lt = absurd (omega arith)
at_set (y ∷ es) zero e lt = refl
at_set (y ∷ es) (suc x) e lt = at_set es x e (omega arith)

pub set_other : (es : List TableEntry) (x y : ℕ) (e : TableEntry) → (y ≡ x → ⊥) → entry_at (set es x e) y ≡ entry_at es y
set_other [] x y e ne = refl
set_other (z ∷ es) zero zero e ne = absurd (ne refl)
set_other (z ∷ es) zero (suc y) e ne = refl
set_other (z ∷ es) (suc x) zero e ne = refl
set_other (z ∷ es) (suc x) (suc y) e ne = set_other es x y e (λ h. ne (ap suc h))

module _ (p : ProblemValue) (active : ℕ → Bool) (problem : IsProblem p) (t t' : ℕ → ℕ → Bool) (es : List TableEntry) (g : Grows p t active es) (j k : ℕ) (pos : 0 < j) (le : j ≤ length p.names) (node : IsNode p j k) (a : Adds t t' j k) where
  abbrev x : ℕ
  x = node_index p j k

  abbrev next : ℕ
  next = next_place p j k

  within : (z : ℕ) → t j z ≡ true → (0 < z) × (z ≤ length p.options)
  within z h = let n = g.shown_are j z h in (n.some, n.within)

  -- the last node of the list so far, or its head
  abbrev z : ℕ
  z = unwrap_or (last_of (filter (t j) (numbers (length p.options) 1))) 0

  last_one : Follows (t j) z 0
  last_one = last_to_head (t j) (length p.options) within

  u_is : up_at es j ≡ node_index p j z
  u_is = (g.rings j pos le z 0 last_one).1

  u_down : down_at es (node_index p j z) ≡ j
  u_down = (g.rings j pos le z 0 last_one).0

  x_low : x < length es
  x_low = let s = g.size in let w = place_low p j k node in omega arith

  j_low : j < length es
  j_low = let s = g.size in let w = place_low p j k node in let h = place_high p j k node in omega arith

  x_high : suc (length p.names) < x
  x_high = place_high p j k node

  -- no entry that is in a ring is x
  ring_apart : (i : ℕ) → i ≤ length p.names → (m : ℕ) → (m ≡ 0) ⊎ (t i m ≡ true) → node_index p i m ≡ x → ⊥
  ring_apart i b m (inl e) h = let f : i ≡ x = (λ q. node_index p i (sym e q)) ∙ h in let w = x_high in absurd (omega arith)
  ring_apart i b m (inr s) h = let q = place_apart p i m j k (g.shown_are i m s) node h in a.is_new (subst (λ (w : ℕ × ℕ). t w.0 w.1 ≡ true) (λ v. (q.0 v, q.1 v)) s)

  u_inside : up_at es j < length es
  u_inside = subst (λ n. n < length es) (sym u_is) (pick z last_one.from)
    where
      pick : (m : ℕ) → (m ≡ 0) ⊎ (t j m ≡ true) → node_index p j m < length es
      pick m (inl e) = subst (λ n. node_index p j n < length es) (sym e) j_low
      pick m (inr h) = let s = g.size in let w = place_low p j m (g.shown_are j m h) in omega arith

  u_apart : up_at es j ≡ x → ⊥
  u_apart h = ring_apart j le z last_one.from (sym u_is ∙ h)

  -- the block with the new node written
  abbrev fs : List TableEntry
  fs = node_written es x j next

  fs_length : length fs ≡ length es
  fs_length = length-set es x (record { top = j; up = (entry_at es j).up; down = j; left = low_half next; right = high_half next })

  fs_here : entry_at fs x ≡ record { top = j; up = (entry_at es j).up; down = j; left = low_half next; right = high_half next }
  fs_here = at_set es x (record { top = j; up = (entry_at es j).up; down = j; left = low_half next; right = high_half next }) x_low

  fs_other : (y : ℕ) → (y ≡ x → ⊥) → entry_at fs y ≡ entry_at es y
  fs_other y ne = set_other es x y (record { top = j; up = (entry_at es j).up; down = j; left = low_half next; right = high_half next }) ne

  j_apart : j ≡ x → ⊥
  j_apart h = let w = x_high in absurd (omega arith)

  -- the head's list is one longer
  abbrev hs : List TableEntry
  hs = changed one_more fs j

  hs_up : up_at hs x ≡ up_at es j
  hs_up = kept (λ e. e.up) one_more (λ e. refl) fs j x ∙ ap (λ (e : TableEntry). e.up) fs_here

  hs_down : down_at hs x ≡ j
  hs_down = kept (λ e. e.down) one_more (λ e. refl) fs j x ∙ ap (λ (e : TableEntry). e.down) fs_here

  hs_length : length hs ≡ length es
  hs_length = length-changed one_more fs j ∙ fs_length

  -- and its neighbours name the node
  abbrev ks : List TableEntry
  ks = changed (to_up x) (changed (to_down x) hs (up_at es j)) j

  unhidden_is : node_unhidden fs x ≡ ks
  unfolding node_unhidden relinked
  unhidden_is =
      ap (λ (e : TableEntry). relinked (changed one_more fs e.top) x) fs_here ∙ (λ v. changed (to_up x) (changed (to_down x) hs (hs_up v)) (hs_down v))

  appended_is : node_appended es x j next ≡ ks
  unfolding node_appended
  appended_is = unhidden_is

  ks_down_u : down_at ks (up_at es j) ≡ x
  ks_down_u = joined_next vertical hs (up_at es j) x j x (subst (λ n. up_at es j < n) (sym hs_length) u_inside)

  ks_down : (y : ℕ) → (y ≡ up_at es j → ⊥) → down_at ks y ≡ down_at fs y
  ks_down y ne = joined_next_other vertical hs (up_at es j) x j x y ne ∙ kept (λ e. e.down) one_more (λ e. refl) fs j y

  ks_up_j : up_at ks j ≡ x
  ks_up_j = joined_prev vertical hs (up_at es j) x j x (subst (λ n. j < n) (sym hs_length) j_low)

  ks_up : (y : ℕ) → (y ≡ j → ⊥) → up_at ks y ≡ up_at fs y
  ks_up y ne = joined_prev_other vertical hs (up_at es j) x j x y ne ∙ kept (λ e. e.up) one_more (λ e. refl) fs j y

  ks_left : (y : ℕ) → left_at ks y ≡ left_at fs y
  ks_left y = joined_kept vertical hs (up_at es j) x j x (λ e. e.left) (λ n e. refl) (λ n e. refl) y ∙ kept (λ e. e.left) one_more (λ e. refl) fs j y

  ks_right : (y : ℕ) → right_at ks y ≡ right_at fs y
  ks_right y = joined_kept vertical hs (up_at es j) x j x (λ e. e.right) (λ n e. refl) (λ n e. refl) y ∙ kept (λ e. e.right) one_more (λ e. refl) fs j y

  ks_bytes : (y : ℕ) → bytes_at ks y ≡ bytes_at fs y
  ks_bytes y = λ v. ks_left y v + ks_right y v * 65536

  ks_top : (y : ℕ) → (y ≡ j → ⊥) → top_at ks y ≡ top_at fs y
  ks_top y ne = joined_kept vertical hs (up_at es j) x j x (λ e. e.top) (λ n e. refl) (λ n e. refl) y ∙ ap (λ (e : TableEntry). e.top) (at_other one_more fs j y ne)

  ks_head : top_at ks j ≡ top_at es j + 1
  ks_head = joined_kept vertical hs (up_at es j) x j x (λ e. e.top) (λ n e. refl) (λ n e. refl) j ∙ ap (λ (e : TableEntry). e.top) (at_changed one_more fs j (subst (λ n. j < n) (sym fs_length) j_low)) ∙ ap (λ (e : TableEntry). e.top + 1) (fs_other j j_apart)

  -- links side by side that are neither before nor after the new node
  side : (b d : ℕ) → (b ≡ x → ⊥) → (d ≡ x → ⊥) → (b ≡ up_at es j → ⊥) → (d ≡ j → ⊥) → down_at es b ≡ d → up_at es d ≡ b → (down_at ks b ≡ d) × (up_at ks d ≡ b)
  side b d nb nd nu nj f h = (ks_down b nu ∙ ap (λ (e : TableEntry). e.down) (fs_other b nb) ∙ f, ks_up d nj ∙ ap (λ (e : TableEntry). e.up) (fs_other d nd) ∙ h)

  target : (i m : ℕ) (y : ℕ) → IsNext (t i) m y → (y ≡ 0) ⊎ (t i y ≡ true)
  target i m y (inl n) = inr n.0
  target i m y (inr n) = inl n.0

  other_ring : (i : ℕ) → 0 < i → i ≤ length p.names → (i ≡ j → ⊥) → IsRing (t i) (node_index p i) (down_at ks) (up_at ks)
  other_ring i b d ne m y f =
      let q = g.rings i b d m y f in
      side (node_index p i m) (node_index p i y) (ring_apart i d m f.from) (ring_apart i d y (target i m y f.to)) (λ h. not_u f.from last_one.from (h ∙ u_is)) (λ h. not_j (target i m y f.to) h) q.0 q.1
    where
      not_u : (m ≡ 0) ⊎ (t i m ≡ true) → (z ≡ 0) ⊎ (t j z ≡ true) → node_index p i m ≡ node_index p j z → ⊥
      not_u (inl e) (inl e') h = ne ((λ v. node_index p i (sym e v)) ∙ h ∙ (λ v. node_index p j (e' v)))
      not_u (inl e) (inr s) h = let w = place_high p j z (g.shown_are j z s) in let f : i ≡ node_index p j z = (λ v. node_index p i (sym e v)) ∙ h in absurd (omega arith)
      not_u (inr s) (inl e') h = let w = place_high p i m (g.shown_are i m s) in let f : node_index p i m ≡ j = h ∙ (λ v. node_index p j (e' v)) in absurd (omega arith)
      not_u (inr s) (inr s') h = ne (place_apart p i m j z (g.shown_are i m s) (g.shown_are j z s') h).0

      not_j : (y ≡ 0) ⊎ (t i y ≡ true) → node_index p i y ≡ j → ⊥
      not_j (inl e) h = ne ((λ v. node_index p i (sym e v)) ∙ h)
      not_j (inr s) h = let w = place_high p i y (g.shown_are i y s) in absurd (omega arith)

  own_ring : IsRing (t' j) (node_index p j) (down_at ks) (up_at ks)
  own_ring m y f = step f.to (cases_eq m k)
    where
      was : (n : ℕ) → t' j n ≡ true → (n ≡ k) ⊎ (t j n ≡ true)
      was n h = pick (a.only j n h)
        where
          pick : ((j ≡ j) × (n ≡ k)) ⊎ (t j n ≡ true) → (n ≡ k) ⊎ (t j n ≡ true)
          pick (inl e) = inl e.1
          pick (inr s) = inr s

      from : (m ≡ k → ⊥) → (m ≡ 0) ⊎ (t' j m ≡ true) → (m ≡ 0) ⊎ (t j m ≡ true)
      from ne (inl e) = inl e
      from ne (inr h) = pick (was m h)
        where
          pick : (m ≡ k) ⊎ (t j m ≡ true) → (m ≡ 0) ⊎ (t j m ≡ true)
          pick (inl e) = absurd (ne e)
          pick (inr s) = inr s

      k_pos : 0 < k
      k_pos = node.some

      -- m is below k where it isn't k
      m_below : (m ≡ 0) ⊎ (t j m ≡ true) → m < k
      m_below (inl e) = let w = k_pos in omega arith
      m_below (inr h) = a.last m h

      -- after the new node the ring closes
      at_end : m ≡ k → (y ≡ 0) → (down_at ks (node_index p j m) ≡ node_index p j y) × (up_at ks (node_index p j y) ≡ node_index p j m)
      at_end e e' = (
        (λ v. down_at ks (node_index p j (e v))) ∙ ks_down x (λ h. u_apart (sym h)) ∙ ap (λ (w : TableEntry). w.down) fs_here ∙ (λ v. node_index p j (sym e' v)),
        (λ v. up_at ks (node_index p j (e' v))) ∙ ks_up_j ∙ (λ v. node_index p j (sym e v)),
      )

      -- the new node comes after the one that was last
      at_new : (m ≡ 0) ⊎ (t j m ≡ true) → ((n : ℕ) → t j n ≡ true → n ≤ m) → y ≡ k → (down_at ks (node_index p j m) ≡ node_index p j y) × (up_at ks (node_index p j y) ≡ node_index p j m)
      at_new fr most e =
          let q = g.rings j pos le m 0 (record { from = fr; to = inr (refl, most) }) in (
            ap (down_at ks) (sym q.1) ∙ ks_down_u ∙ (λ v. node_index p j (sym e v)),
            (λ v. up_at ks (node_index p j (e v))) ∙ ks_up x (λ h. j_apart (sym h)) ∙ ap (λ (w : TableEntry). w.up) fs_here ∙ q.1,
          )

      inner : (m ≡ 0) ⊎ (t j m ≡ true) → t j y ≡ true → m < y → ((n : ℕ) → t j n ≡ true → m < n → y ≤ n) → (down_at ks (node_index p j m) ≡ node_index p j y) × (up_at ks (node_index p j y) ≡ node_index p j m)
      inner fr ty lt least =
          let q = g.rings j pos le m y (record { from = fr; to = inl (ty, lt, least) }) in
          let high = place_high p j y (g.shown_are j y ty) in
          side (node_index p j m) (node_index p j y) (ring_apart j le m fr) (ring_apart j le y (inr ty))
          (λ h. let e : node_index p j y ≡ j = sym q.0 ∙ ap (down_at es) (h ∙ u_is) ∙ u_down in absurd (omega arith)) (λ h. absurd (omega arith)) q.0 q.1

      step : IsNext (t' j) m y → (m ≡ k) ⊎ (m ≡ k → ⊥) → (down_at ks (node_index p j m) ≡ node_index p j y) × (up_at ks (node_index p j y) ≡ node_index p j m)
      step (inl n) (inl e) = absurd (beyond (was y n.0))
        where
          beyond : (y ≡ k) ⊎ (t j y ≡ true) → ⊥
          beyond (inl h) = let w = n.1 in absurd (omega arith)
          beyond (inr h) = let w = n.1 in let b = a.last y h in absurd (omega arith)
      step (inr n) (inl e) = at_end e n.0
      step (inr n) (inr ne) = let b = n.1 k a.comes in let c = m_below (from ne f.from) in absurd (omega arith)
      step (inl n) (inr ne) = pick (was y n.0)
        where
          pick : (y ≡ k) ⊎ (t j y ≡ true) → (down_at ks (node_index p j m) ≡ node_index p j y) × (up_at ks (node_index p j y) ≡ node_index p j m)
          pick (inl e) = at_new (from ne f.from) (λ w h. most w h (cases_lt m w)) e
            where
              most : (w : ℕ) → t j w ≡ true → (m < w) ⊎ (w ≤ m) → w ≤ m
              most w h (inl q) = let b = n.2 w (a.stays j w h) q in let c = a.last w h in absurd (omega arith)
              most w h (inr q) = q
          pick (inr h) = inner (from ne f.from) h n.1 (λ w s q. n.2 w (a.stays j w s) q)

  count_more : length (filter (t' j) (numbers (length p.options) 1)) ≡ suc (length (filter (t j) (numbers (length p.options) 1)))
  count_more =
      sym (count_without (t' j) k (length p.options) 1 a.comes node.some (let w = node.within in omega arith))
      ∙ ap (λ (f : ℕ → Bool). suc (length (filter f (numbers (length p.options) 1)))) (added_without t t' j k a)

  old_plain : (π : TableEntry → ℕ) → ((y : ℕ) → (y ≡ j → ⊥) → π (entry_at ks y) ≡ π (entry_at fs y)) → (i m : ℕ) → t i m ≡ true → π (entry_at ks (node_index p i m)) ≡ π (entry_at es (node_index p i m))
  old_plain π h i m s =
      let w = place_high p i m (g.shown_are i m s) in
      h (node_index p i m) (λ e. absurd (omega arith)) ∙ ap π (fs_other (node_index p i m) (λ e. new_one e))
    where
      new_one : node_index p i m ≡ x → ⊥
      new_one e = let q = place_apart p i m j k (g.shown_are i m s) node e in a.is_new (subst (λ (w : ℕ × ℕ). t w.0 w.1 ≡ true) (λ v. (q.0 v, q.1 v)) s)

  each : (P : ℕ → ℕ → Type 0) → P j k → ((i m : ℕ) → t i m ≡ true → P i m) → (i m : ℕ) → t' i m ≡ true → P i m
  each P here old i m h = pick (a.only i m h)
    where
      pick : ((i ≡ j) × (m ≡ k)) ⊎ (t i m ≡ true) → P i m
      pick (inl e) = subst (λ (w : ℕ × ℕ). P w.0 w.1) (λ v. (sym e.0 v, sym e.1 v)) here
      pick (inr s) = old i m s

  ks_grows : Grows p t' active ks
  ks_grows = record {
    size = length-joined vertical hs (up_at es j) x j x ∙ hs_length ∙ g.size;
    header = ks_top 0 (λ e. absurd (omega arith)) ∙ ap (λ (e : TableEntry). e.top) (fs_other 0 (λ e. let w = x_high in absurd (omega arith))) ∙ g.header;
    shown_are = each (λ i m. IsNode p i m) node g.shown_are;
    rings = λ i b d. ring_of i b d (cases_eq i j);
    counts = λ i b d. count_of i b d (cases_eq i j);
    tops = each (λ i m. top_at ks (node_index p i m) ≡ i) (ks_top x (λ e. j_apart (sym e)) ∙ ap (λ (e : TableEntry). e.top) fs_here) (λ i m s. old_plain (λ e. e.top) ks_top i m s ∙ g.tops i m s);
    nexts = each (λ i m. bytes_at ks (node_index p i m) ≡ next_place p i m * 16)
        (ks_bytes x ∙ ap next_bytes fs_here ∙ halves_join next)
        (λ i m s. old_plain next_bytes (λ y ne. ks_bytes y) i m s ∙ g.nexts i m s);
    row = λ m y f. let q = g.row m y f in (row_right m (row_low f.from) ∙ q.0, row_left y (row_low (row_target m y f.to)) ∙ q.1);
    aside = λ i b d. let q = g.aside i b d in (row_right i d ∙ q.0, row_left i d ∙ q.1);
    actives = g.actives;
  }
    where
      ring_of : (i : ℕ) → 0 < i → i ≤ length p.names → (i ≡ j) ⊎ (i ≡ j → ⊥) → IsRing (t' i) (node_index p i) (down_at ks) (up_at ks)
      ring_of i b d (inl e) = subst (λ n. IsRing (t' n) (node_index p n) (down_at ks) (up_at ks)) (sym e) own_ring
      ring_of i b d (inr ne) = subst (λ f. IsRing f (node_index p i) (down_at ks) (up_at ks)) (sym (added_other t t' j k a i ne)) (other_ring i b d ne)

      count_of : (i : ℕ) → 0 < i → i ≤ length p.names → (i ≡ j) ⊎ (i ≡ j → ⊥) → top_at ks i ≡ length (filter (t' i) (numbers (length p.options) 1))
      count_of i b d (inl e) =
          let c = g.counts j pos le in let h = ks_head in let w = count_more in
          let own : top_at ks j ≡ length (filter (t' j) (numbers (length p.options) 1)) = omega arith in
          subst (λ n. top_at ks n ≡ length (filter (t' n) (numbers (length p.options) 1))) (sym e) own
      count_of i b d (inr ne) =
          ks_top i ne ∙ ap (λ (e : TableEntry). e.top) (fs_other i (λ e. let w = x_high in absurd (omega arith))) ∙ g.counts i b d
          ∙ ap (λ (f : ℕ → Bool). length (filter f (numbers (length p.options) 1))) (sym (added_other t t' j k a i ne))

      row_right : (m : ℕ) → m ≤ length p.names → right_at ks m ≡ right_at es m
      row_right m b = ks_right m ∙ ap (λ (e : TableEntry). e.right) (fs_other m (λ e. let w = x_high in absurd (omega arith)))

      row_left : (m : ℕ) → m ≤ length p.names → left_at ks m ≡ left_at es m
      row_left m b = ks_left m ∙ ap (λ (e : TableEntry). e.left) (fs_other m (λ e. let w = x_high in absurd (omega arith)))

      row_low : {m : ℕ} → (m ≡ 0) ⊎ (active m ≡ true) → m ≤ length p.names
      row_low (inl e) = omega arith
      row_low {m = m} (inr h) = let q = g.actives m h in let w = problem.within in omega arith

      row_target : (m y : ℕ) → IsNext active m y → (y ≡ 0) ⊎ (active y ≡ true)
      row_target m y (inl n) = inr n.0
      row_target m y (inr n) = inl n.0

  pub append_grows : Grows p t' active (node_appended es x j next)
  append_grows = subst (λ n. Grows p t' active n) (sym appended_is) ks_grows

  -- what stood elsewhere stays, but for the neighbours and the head
  pub append_keeps : (y : ℕ) → length p.names < y → (y ≡ x → ⊥) → top_at (node_appended es x j next) y ≡ top_at es y
  append_keeps y h ne = ap (λ n. top_at n y) appended_is ∙ ks_top y (λ e. absurd (omega arith)) ∙ ap (λ (e : TableEntry). e.top) (fs_other y ne)

  pub append_blank : (y : ℕ) → (y ≡ x → ⊥) → bytes_at (node_appended es x j next) y ≡ bytes_at es y
  append_blank y ne = ap (λ n. bytes_at n y) appended_is ∙ ks_bytes y ∙ ap next_bytes (fs_other y ne)

  pub append_can : CanAppendNode es x j next
  append_can =
      let top : (entry_at fs x).top ≡ j = ap (λ (e : TableEntry). e.top) fs_here in
      let here : x < length fs = subst (λ n. x < n) (sym fs_length) x_low in
      let head : j < length fs = subst (λ n. j < n) (sym fs_length) j_low in
      record {
        word = (let z = g.size in let m = size_small p problem in omega arith);
        here = x_low;
        item = j_low;
        small = next_low p j k problem node;
        into = record {
          here = here;
          item = subst (λ n. n < length fs) (sym top) head;
          small = subst (λ n. top_at fs n + 1 < 2 ^ 28) (sym top) (let e = ap (λ (w : TableEntry). w.top) (fs_other j j_apart) in let c = g.counts j pos le in let f = few p (t j) problem in omega arith);
          inside = subst (λ n. IsInside (changed one_more fs n) x) (sym top) (record {
            here = subst (λ n. x < n) (sym (length-changed one_more fs j)) here;
            above = subst (λ n. n < length hs) (sym hs_up) (subst (λ n. up_at es j < n) (sym hs_length) u_inside);
            below = subst (λ n. n < length hs) (sym hs_down) (subst (λ n. j < n) (sym hs_length) j_low);
          });
        };
      }
