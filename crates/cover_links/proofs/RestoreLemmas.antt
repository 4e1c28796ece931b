-- Two entries that are made to name others, as where an entry leaves its list or comes back to it: what each entry names then. The
-- vertical lists and the row of active items are alike. An entry that left its list and comes back at once finds the block as it was.
use Rattle.std.proofs.Common.{◌≡◌, ℕ, zero, suc, ◌<◌, ◌⊎◌, inl, inr, List, [], ◌∷◌, length, refl, sym, ap, ◌∙◌, subst, arith}
use Rattle.std.proofs.lemmas.Bool.{cases_eq}
use Rattle.cover_links.specs.declared.entry.TableEntry.{TableEntry}
use Rattle.cover_links.specs.Entries.{entry_at, changed, to_up, to_down, to_left, to_right, unlinked, relinked, item_unlinked, item_relinked, IsLinked, IsItemLinked, RelinkRestores, ItemRelinkRestores}
use Rattle.cover_links.proofs.EntryLemmas.{length-changed, kept, at_changed, at_other}
use Rattle.cover_links.proofs.RingLemmas.{Leaves, leaves_next, leaves_prev}

entry_is : (a b : TableEntry) → a.top ≡ b.top → a.up ≡ b.up → a.down ≡ b.down → a.left ≡ b.left → a.right ≡ b.right → a ≡ b
entry_is a b t u d l r = λ i. record { top = t i; up = u i; down = d i; left = l i; right = r i }

same_entries : (es fs : List TableEntry) → length es ≡ length fs → ((x : ℕ) → entry_at es x ≡ entry_at fs x) → es ≡ fs
same_entries [] [] e h = refl
same_entries [] (f ∷ fs) e h = absurd (omega arith)
same_entries (e ∷ es) [] l h = absurd (omega arith)
same_entries (e ∷ es) (f ∷ fs) l h = λ i. h 0 i ∷ same_entries es fs (omega arith) (λ x. h (suc x)) i

-- two changes of one entry that cancel
pub cancel : (f g : TableEntry → TableEntry) (es : List TableEntry) (z : ℕ) → f (g (entry_at es z)) ≡ entry_at es z → changed f (changed g es z) z ≡ es
unfolding changed
cancel f g [] z h = refl
cancel f g (e ∷ es) zero h = ap (λ x. x ∷ es) h
cancel f g (e ∷ es) (suc z) h = ap (λ l. e ∷ l) (cancel f g es z h)

-- ---- two links and how they are changed

-- a field that neither change touches
abbrev pub IsKept : (ℕ → TableEntry → TableEntry) → (TableEntry → ℕ) → Type 0
IsKept change π = (n : ℕ) (e : TableEntry) → π (change n e) ≡ π e

-- the links of a list to the next entry and to the one before: each is changed apart from the other, and they and all that is kept
-- are an entry
pub record Links (next prev : TableEntry → ℕ) (to_next to_prev : ℕ → TableEntry → TableEntry) : Type 0 where
  pub next_is : (n : ℕ) (e : TableEntry) → next (to_next n e) ≡ n
  pub prev_is : (n : ℕ) (e : TableEntry) → prev (to_prev n e) ≡ n
  pub next_kept : IsKept to_prev next
  pub prev_kept : IsKept to_next prev
  pub same : (a b : TableEntry) → next a ≡ next b → prev a ≡ prev b → ((π : TableEntry → ℕ) → IsKept to_next π → IsKept to_prev π → π a ≡ π b) → a ≡ b

pub vertical : Links (λ e. e.down) (λ e. e.up) to_down to_up
vertical = record {
  next_is = λ n e. refl;
  prev_is = λ n e. refl;
  next_kept = λ n e. refl;
  prev_kept = λ n e. refl;
  same = λ a b d u rest. entry_is a b (rest (λ e. e.top) (λ n e. refl) (λ n e. refl)) u d (rest (λ e. e.left) (λ n e. refl) (λ n e. refl)) (rest (λ e. e.right) (λ n e. refl) (λ n e. refl));
}

pub row : Links (λ e. e.right) (λ e. e.left) to_right to_left
row = record {
  next_is = λ n e. refl;
  prev_is = λ n e. refl;
  next_kept = λ n e. refl;
  prev_kept = λ n e. refl;
  same = λ a b r l rest. entry_is a b (rest (λ e. e.top) (λ n e. refl) (λ n e. refl)) (rest (λ e. e.up) (λ n e. refl) (λ n e. refl)) (rest (λ e. e.down) (λ n e. refl) (λ n e. refl)) l r;
}

module _ {next prev : TableEntry → ℕ} {to_next to_prev : ℕ → TableEntry → TableEntry} (links : Links next prev to_next to_prev) where
  -- the entry at a names d after it, and the entry at b names u before it
  module _ (es : List TableEntry) (a d b u : ℕ) where
    abbrev pub joined : List TableEntry
    joined = changed (to_prev u) (changed (to_next d) es a) b

    pub length-joined : length joined ≡ length es
    length-joined = length-changed (to_prev u) (changed (to_next d) es a) b ∙ length-changed (to_next d) es a

    pub joined_next : a < length es → next (entry_at joined a) ≡ d
    joined_next lt = kept next (to_prev u) (links.next_kept u) (changed (to_next d) es a) b a ∙ ap next (at_changed (to_next d) es a lt) ∙ links.next_is d (entry_at es a)

    pub joined_next_other : (y : ℕ) → (y ≡ a → ⊥) → next (entry_at joined y) ≡ next (entry_at es y)
    joined_next_other y ne = kept next (to_prev u) (links.next_kept u) (changed (to_next d) es a) b y ∙ ap next (at_other (to_next d) es a y ne)

    pub joined_prev : b < length es → prev (entry_at joined b) ≡ u
    joined_prev lt = ap prev (at_changed (to_prev u) (changed (to_next d) es a) b (subst (λ n. b < n) (sym (length-changed (to_next d) es a)) lt)) ∙ links.prev_is u (entry_at (changed (to_next d) es a) b)

    pub joined_prev_other : (y : ℕ) → (y ≡ b → ⊥) → prev (entry_at joined y) ≡ prev (entry_at es y)
    joined_prev_other y ne = ap prev (at_other (to_prev u) (changed (to_next d) es a) b y ne) ∙ kept prev (to_next d) (links.prev_kept d) es a y

    pub joined_kept : (π : TableEntry → ℕ) → IsKept to_next π → IsKept to_prev π → (y : ℕ) → π (entry_at joined y) ≡ π (entry_at es y)
    joined_kept π h k y = kept π (to_prev u) (k u) (changed (to_next d) es a) b y ∙ kept π (to_next d) (h d) es a y

  -- the entry at x leaves its list, where its neighbours name it
  module _ (es : List TableEntry) (x : ℕ) where
    abbrev d : ℕ
    d = next (entry_at es x)

    abbrev u : ℕ
    u = prev (entry_at es x)

    abbrev gone : List TableEntry
    gone = joined es u d d u

    module _ (before : u < length es) (after : d < length es) (from_before : next (entry_at es u) ≡ x) (from_after : prev (entry_at es d) ≡ x) where
      pub leaves : Leaves (λ y. next (entry_at es y)) (λ y. prev (entry_at es y)) (λ y. next (entry_at gone y)) (λ y. prev (entry_at gone y)) x
      leaves = record {
        to_next = from_before;
        to_prev = from_after;
        past = joined_next es u d d u before;
        back = joined_prev es u d d u after;
        next_kept = joined_next_other es u d d u;
        prev_kept = joined_prev_other es u d d u;
      }

      -- the block once x came back
      abbrev back : List TableEntry
      back = joined gone u x d x

      back_next : (y : ℕ) → (y ≡ u) ⊎ (y ≡ u → ⊥) → next (entry_at back y) ≡ next (entry_at es y)
      back_next y (inl e) =
          ap (λ z. next (entry_at back z)) e ∙ joined_next gone u x d x (subst (λ n. u < n) (sym (length-joined es u d d u)) before)
          ∙ sym from_before ∙ ap (λ z. next (entry_at es z)) (sym e)
      back_next y (inr ne) = joined_next_other gone u x d x y ne ∙ joined_next_other es u d d u y ne

      back_prev : (y : ℕ) → (y ≡ d) ⊎ (y ≡ d → ⊥) → prev (entry_at back y) ≡ prev (entry_at es y)
      back_prev y (inl e) =
          ap (λ z. prev (entry_at back z)) e ∙ joined_prev gone u x d x (subst (λ n. d < n) (sym (length-joined es u d d u)) after)
          ∙ sym from_after ∙ ap (λ z. prev (entry_at es z)) (sym e)
      back_prev y (inr ne) = joined_prev_other gone u x d x y ne ∙ joined_prev_other es u d d u y ne

      pub comes_back : joined gone (prev (entry_at gone x)) x (next (entry_at gone x)) x ≡ es
      comes_back =
          (λ i. joined gone (leaves_prev leaves i) x (leaves_next leaves i) x)
          ∙ same_entries back es (length-joined gone u x d x ∙ length-joined es u d d u)
          (λ y. links.same (entry_at back y) (entry_at es y) (back_next y (cases_eq y u)) (back_prev y (cases_eq y d)) (λ π h k. joined_kept gone u x d x π h k y ∙ joined_kept es u d d u π h k y))

-- ---- the vertical lists

pub unlinked_leaves : (es : List TableEntry) (x : ℕ) → IsLinked es x → Leaves (λ y. (entry_at es y).down) (λ y. (entry_at es y).up) (λ y. (entry_at (unlinked es x) y).down) (λ y. (entry_at (unlinked es x) y).up) x
unfolding unlinked
unlinked_leaves es x l = leaves vertical es x l.above l.below l.from_above l.from_below

pub unlinked_kept : (es : List TableEntry) (x : ℕ) (π : TableEntry → ℕ) → IsKept to_down π → IsKept to_up π → (y : ℕ) → π (entry_at (unlinked es x) y) ≡ π (entry_at es y)
unfolding unlinked
unlinked_kept es x = joined_kept vertical es _ _ _ _

pub relink_restores : RelinkRestores
unfolding unlinked relinked
relink_restores es x l = comes_back vertical es x l.above l.below l.from_above l.from_below

-- ---- the row of active items

pub item_unlinked_leaves : (es : List TableEntry) (x : ℕ) → IsItemLinked es x → Leaves (λ y. (entry_at es y).right) (λ y. (entry_at es y).left) (λ y. (entry_at (item_unlinked es x) y).right) (λ y. (entry_at (item_unlinked es x) y).left) x
unfolding item_unlinked
item_unlinked_leaves es x l = leaves row es x l.before l.after l.from_before l.from_after

pub item_unlinked_kept : (es : List TableEntry) (x : ℕ) (π : TableEntry → ℕ) → IsKept to_right π → IsKept to_left π → (y : ℕ) → π (entry_at (item_unlinked es x) y) ≡ π (entry_at es y)
unfolding item_unlinked
item_unlinked_kept es x = joined_kept row es _ _ _ _

pub row_back : ItemRelinkRestores
unfolding item_unlinked item_relinked
row_back es x l = comes_back row es x l.before l.after l.from_before l.from_after
