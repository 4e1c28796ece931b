-- One more item is covered, and one less, and the set of the options left is written.
use Rattle.std.proofs.Common.{◌≡◌, ℕ, ◌+◌, ◌-◌, ◌*◌, ◌<◌, ◌≤◌, ◌⊎◌, ◌==◌, nat_lt, Bool, true, false, not, ◌&&◌, ◌||◌, List, [], ◌∷◌, ◌++◌, length, get_or, take, drop, set, refl, sym, ap, ap₂, subst, ◌∙◌, inl, inr, arith, le_refl, length-append, length-set, take_all}
use Rattle.std.specs.List.{list_all, All}
use Rattle.std.proofs.lemmas.Bool.{cases_lt, cases_eq, lt-ltb, le-ltb, eq-eqb, ne_eqb, and_left, and_parts, false_from_ne_true}
use Rattle.std.proofs.lemmas.List.{take-append-le, take-append-drop, get_or-set_same, get_or-set_other}
use Rattle.std.proofs.lemmas.List.Folds.{list_all-append}
use Rattle.std.proofs.lemmas.List.Sums.{AllPass-from_list_all}
use Rattle.shared_words.specs.Lists.{has}
use Rattle.cover_problem.specs.Problem.{ProblemValue, is_item}
use Rattle.cover_problem.specs.Coverable.{IsUncovered}
use Rattle.cover_problem.specs.Table.{IsCoveredList}
use Rattle.cover_problem.proofs.BoundLemmas.{item_bounds}
use Rattle.cover_problem.proofs.CoveredLemmas.{covered_push, covered_last, covered_front, covered_most, covered_room}
use Rattle.cover_problem.proofs.MemberLemmas.{has-append}
use Rattle.cover_problem.proofs.PartLemmas.{distinct_parts}
use Rattle.cover_bits.specs.declared.sets.Part.{Part}
use Rattle.cover_bits.specs.Parts.{in_row, in_parts, ArePlaced}
use Rattle.cover_bits.specs.Bits.{set_at, is_left, AreLeft, AreActive, IsBits, IsNextSet}
use Rattle.cover_bits.proofs.LeftLemmas.{left_more}
use Rattle.cover_bits.proofs.PartLemmas.{placed_in}
use Rattle.cover_bits.proofs.WriteLemmas.{same_set}
use Rattle.cover_bits.proofs.TableLemmas.{few_words, in_columns_are, any_default}

-- *one more covered, one less, and a set written*

module _ {p : ProblemValue} {options primary words : ℕ} {columns : List ℕ} {parts : List Part} {counts bases active c : List ℕ} {room : ℕ} (h : IsBits p options primary words columns parts counts bases active c room) where
  -- one more item is covered, and its base is the one before
  pub bits_put : (i : ℕ) → IsUncovered p c i → (active2 bases2 c2 : List ℕ) (room2 : ℕ) → bases2 ≡ set bases (length c + 1) (get_or bases (length c) 0)
      → length active2 ≡ length active → AreActive p (c ++ i ∷ []) active2 → c2 ≡ c ++ i ∷ [] → room ≤ room2
      → IsBits p options primary words columns parts counts bases2 active2 c2 room2
  bits_put i free active2 bases2 c2 room2 b long act e r =
      subst (λ (x : List ℕ). IsBits p options primary words columns parts counts bases2 active2 x room2) (sym e)
      (subst (λ (x : List ℕ). IsBits p options primary words columns parts counts x active2 (c ++ i ∷ []) room2) (sym b)
      (record {
        sound = h.sound;
        options_are = h.options_are;
        primary_is = h.primary_is;
        words_are = h.words_are;
        columns_long = h.columns_long;
        columns_are = h.columns_are;
        parts_long = h.parts_long;
        counts_long = h.counts_long;
        bases_long = length-set bases (length c + 1) (get_or bases (length c) 0) ∙ h.bases_long;
        few = h.few;
        below = λ d l. below_at d (within_more d l) (cases_lt (length c) d);
        rise = λ d e le l. rise_at d e le (within_more e l) (cases_lt (length c) d) (cases_lt (length c) e);
        sets_are = λ d l. sets_at d (within_more d l) (cases_lt (length c) d);
        active_long = long ∙ h.active_long;
        active_are = act;
        distinct = covered_push p c i h.distinct free;
        fits = let f = h.fits in omega arith;
      }))
    where
      within_more : (d : ℕ) → d ≤ length (c ++ i ∷ []) → d ≤ length c + 1
      within_more d l = let n = length-append c (i ∷ []) in omega arith

      space : length c + 1 < length bases
      space = let m = covered_room p c i h.distinct free in let l = h.bases_long in omega arith

      old : (d : ℕ) → d ≤ length c → get_or (set bases (length c + 1) (get_or bases (length c) 0)) d 0 ≡ get_or bases d 0
      old d l = get_or-set_other bases (length c + 1) d (get_or bases (length c) 0) 0 (λ q. omega arith)

      new : (d : ℕ) → d ≤ length c + 1 → length c < d → get_or (set bases (length c + 1) (get_or bases (length c) 0)) d 0 ≡ get_or bases (length c) 0
      new d m l =
          let q : d ≡ length c + 1 = omega arith in
          rw q (get_or-set_same bases (length c + 1) (get_or bases (length c) 0) 0 space)

      last : get_or bases (length c) 0 ≤ length c
      last = h.below (length c) (le_refl (length c))

      below_at : (d : ℕ) → d ≤ length c + 1 → (length c < d) ⊎ (d ≤ length c) → get_or (set bases (length c + 1) (get_or bases (length c) 0)) d 0 ≤ d
      below_at d m (inl l) = let e = new d m l in let b = last in omega arith
      below_at d m (inr l) = let e = old d l in let b = h.below d l in omega arith

      rise_at : (d e : ℕ) → d ≤ e → e ≤ length c + 1 → (length c < d) ⊎ (d ≤ length c) → (length c < e) ⊎ (e ≤ length c)
          → get_or (set bases (length c + 1) (get_or bases (length c) 0)) d 0 ≤ get_or (set bases (length c + 1) (get_or bases (length c) 0)) e 0
      rise_at d e le m (inl k) (inl l) = let x = new d (omega arith) k in let y = new e m l in omega arith
      rise_at d e le m (inl k) (inr l) = absurd (omega arith)
      rise_at d e le m (inr k) (inl l) = let x = old d k in let y = new e m l in let z = h.rise d (length c) k (le_refl (length c)) in omega arith
      rise_at d e le m (inr k) (inr l) = let x = old d k in let y = old e l in let z = h.rise d e le l in omega arith

      set_is : (b d : ℕ) → b ≤ length c → d ≡ b → AreLeft p (take b c) words (set_at words parts counts b) → AreLeft p (take d (c ++ i ∷ [])) words (set_at words parts counts d)
      set_is b d l q left =
          subst (λ x. AreLeft p (take x (c ++ i ∷ [])) words (set_at words parts counts x)) (sym q)
          (subst (λ x. AreLeft p x words (set_at words parts counts b)) (sym (take-append-le b c (i ∷ []) l)) left)

      sets_at : (d : ℕ) → d ≤ length c + 1 → (length c < d) ⊎ (d ≤ length c)
          → AreLeft p (take (get_or (set bases (length c + 1) (get_or bases (length c) 0)) d 0) (c ++ i ∷ [])) words (set_at words parts counts (get_or (set bases (length c + 1) (get_or bases (length c) 0)) d 0))
      sets_at d m (inl l) = set_is (get_or bases (length c) 0) (get_or (set bases (length c + 1) (get_or bases (length c) 0)) d 0) last (new d m l) (h.sets_are (length c) (le_refl (length c)))
      sets_at d m (inr l) = let b = h.below d l in set_is (get_or bases d 0) (get_or (set bases (length c + 1) (get_or bases (length c) 0)) d 0) (omega arith) (old d l) (h.sets_are d l)

  -- the items that were covered last are given back
  pub bits_uncovered : (back active2 c2 : List ℕ) (room2 : ℕ) → c ≡ c2 ++ back
      → length active2 ≡ length active → AreActive p c2 active2 → room ≤ room2
      → IsBits p options primary words columns parts counts bases active2 c2 room2
  bits_uncovered back active2 c2 room2 e long act r =
      record {
        sound = h.sound;
        options_are = h.options_are;
        primary_is = h.primary_is;
        words_are = h.words_are;
        columns_long = h.columns_long;
        columns_are = h.columns_are;
        parts_long = h.parts_long;
        counts_long = h.counts_long;
        bases_long = h.bases_long;
        few = h.few;
        below = λ d l. h.below d (longer d l);
        rise = λ d e le l. h.rise d e le (longer e l);
        sets_are = λ d l. subst (λ x. AreLeft p x words (set_at words parts counts (get_or bases d 0)))
            (ap (take (get_or bases d 0)) e ∙ take-append-le (get_or bases d 0) c2 back (let b = h.below d (longer d l) in omega arith))
            (h.sets_are d (longer d l));
        active_long = long ∙ h.active_long;
        active_are = act;
        distinct = covered_front p c2 back (subst (λ x. IsCoveredList p x) e h.distinct);
        fits = let f = h.fits in omega arith;
      }
    where
      longer : (d : ℕ) → d ≤ length c2 → d ≤ length c
      longer d l = let n = ap (λ x. length x) e in let m = length-append c2 back in omega arith

  -- the set of the options left now is written
  pub bits_settled : (base : ℕ) → base ≡ get_or bases (length c) 0 → (parts2 : List Part) (counts2 bases2 : List ℕ) → bases2 ≡ set bases (length c) (length c)
      → IsNextSet words base (length c) columns (drop base c) parts parts2 counts counts2
      → IsBits p options primary words columns parts2 counts2 bases2 active c room
  bits_settled base at parts2 counts2 bases2 b w =
      subst (λ (x : List ℕ). IsBits p options primary words columns parts2 counts2 x active c room) (sym b)
      (record {
        sound = h.sound;
        options_are = h.options_are;
        primary_is = h.primary_is;
        words_are = h.words_are;
        columns_long = h.columns_long;
        columns_are = h.columns_are;
        parts_long = w.parts_long ∙ h.parts_long;
        counts_long = w.counts_long ∙ h.counts_long;
        bases_long = length-set bases (length c) (length c) ∙ h.bases_long;
        few = w.few;
        below = λ d l. below_at d l (cases_eq d (length c));
        rise = λ d e le l. rise_at d e le l (cases_eq d (length c)) (cases_eq e (length c));
        sets_are = λ d l. sets_at d l (cases_eq d (length c));
        active_long = h.active_long;
        active_are = h.active_are;
        distinct = h.distinct;
        fits = h.fits;
      })
    where
      space : length c < length bases
      space = let m = covered_most p c h.distinct in let l = h.bases_long in omega arith

      new : (d : ℕ) → d ≡ length c → get_or (set bases (length c) (length c)) d 0 ≡ length c
      new d q = rw q (get_or-set_same bases (length c) (length c) 0 space)

      old : (d : ℕ) → (d ≡ length c → ⊥) → get_or (set bases (length c) (length c)) d 0 ≡ get_or bases d 0
      old d q = get_or-set_other bases (length c) d (length c) 0 q

      below_at : (d : ℕ) → d ≤ length c → (d ≡ length c) ⊎ (d ≡ length c → ⊥) → get_or (set bases (length c) (length c)) d 0 ≤ d
      below_at d l (inl q) = let e = new d q in omega arith
      below_at d l (inr q) = let e = old d q in let b = h.below d l in omega arith

      rise_at : (d e : ℕ) → d ≤ e → e ≤ length c → (d ≡ length c) ⊎ (d ≡ length c → ⊥) → (e ≡ length c) ⊎ (e ≡ length c → ⊥)
          → get_or (set bases (length c) (length c)) d 0 ≤ get_or (set bases (length c) (length c)) e 0
      rise_at d e le l (inl q) (inl r) = let x = new d q in let y = new e r in omega arith
      rise_at d e le l (inl q) (inr r) = absurd (r (omega arith))
      rise_at d e le l (inr q) (inl r) = let x = old d q in let y = new e r in let z = h.below d (omega arith) in omega arith
      rise_at d e le l (inr q) (inr r) = let x = old d q in let y = old e r in let z = h.rise d e le l in omega arith

      before : AreLeft p (take base c) words (set_at words parts counts base)
      before = subst (λ x. AreLeft p (take x c) words (set_at words parts counts x)) (sym at) (h.sets_are (length c) (le_refl (length c)))

      items : list_all (is_item (length p.names)) (drop base c) ≡ true
      items = (and_parts (list_all (is_item (length p.names)) (take base c)) (list_all (is_item (length p.names)) (drop base c))
          (sym (list_all-append (is_item (length p.names)) (take base c) (drop base c)) ∙ ap (list_all (is_item (length p.names))) (take-append-drop base c) ∙ h.distinct.items)).1

      now : AreLeft p c words (set_at words parts2 counts2 (length c))
      now = record {
        placed = w.set.placed;
        are = λ k. by k (cases_lt k (64 * words));
      }
        where
          by : (k : ℕ) → (k < 64 * words) ⊎ (64 * words ≤ k) → in_parts (set_at words parts2 counts2 (length c)) k ≡ is_left p c k
          by k (inl l) =
              w.set.are k l
              ∙ ap₂ (λ x y. x && not y) (before.are k) (in_columns_are h (drop base c) items k l)
              ∙ left_more p (take base c) (drop base c) k ∙ ap (λ x. is_left p x k) (take-append-drop base c)
          by k (inr l) =
              let m = (few_words h).0 in
              false_from_ne_true _ (λ t. let r = placed_in 0 words (set_at words parts2 counts2 (length c)) w.set.placed k t in let q = r.1 in omega arith)
              ∙ sym (and_left _ _ (le-ltb k (length p.options) (omega arith)))

      sets_at : (d : ℕ) → d ≤ length c → (d ≡ length c) ⊎ (d ≡ length c → ⊥)
          → AreLeft p (take (get_or (set bases (length c) (length c)) d 0) c) words (set_at words parts2 counts2 (get_or (set bases (length c) (length c)) d 0))
      sets_at d l (inl q) =
          subst (λ x. AreLeft p (take x c) words (set_at words parts2 counts2 x)) (sym (new d q))
          (subst (λ x. AreLeft p x words (set_at words parts2 counts2 (length c))) (sym (take_all (length c) c (le_refl (length c)))) now)
      sets_at d l (inr q) =
          let z : get_or bases d 0 ≤ base = let r = h.rise d (length c) l (le_refl (length c)) in let e = at in omega arith in
          let stays = same_set words base (get_or bases d 0) parts parts2 counts counts2 w.before z (w.counts_same (get_or bases d 0) z) (h.few (get_or bases d 0)) in
          subst (λ x. AreLeft p (take x c) words (set_at words parts2 counts2 x)) (sym (old d q))
          (subst (λ x. AreLeft p (take (get_or bases d 0) c) words x) (sym stays) (h.sets_are d l))

-- *which items are active*

has_pushed : (c : List ℕ) (i k : ℕ) → has (c ++ i ∷ []) (k + 1) ≡ (has c (k + 1) || (i == k + 1))
has_pushed c i k = has-append c (i ∷ []) (k + 1) ∙ ap (λ b. has c (k + 1) || b) (or-none (i == k + 1))
  where
    or-none : (b : Bool) → (b || false) ≡ b
    or-none true = refl
    or-none false = refl

same_number : (i k : ℕ) → 0 < i → (k == i - 1) ≡ (i == k + 1)
same_number i k some = by (cases_eq k (i - 1))
  where
    by : (k ≡ i - 1) ⊎ (k ≡ i - 1 → ⊥) → (k == i - 1) ≡ (i == k + 1)
    by (inl e) = eq-eqb k (i - 1) e ∙ sym (eq-eqb i (k + 1) (omega arith))
    by (inr d) = ne_eqb k (i - 1) d ∙ sym (ne_eqb i (k + 1) (λ e. d (omega arith)))

module _ (p : ProblemValue) (c : List ℕ) (active active2 : List ℕ) (i : ℕ) (some : 0 < i) where
  pub active_removed : AreActive p c active → ((k : ℕ) → in_row active2 k ≡ (in_row active k && not (k == i - 1))) → AreActive p (c ++ i ∷ []) active2
  active_removed act each k =
      each k ∙ ap₂ (λ a b. a && not b) (act k) (same_number i k some) ∙ by (nat_lt k p.primary) (has c (k + 1)) (i == k + 1)
      ∙ sym (ap (λ b. nat_lt k p.primary && not b) (has_pushed c i k))
    where
      by : (a b d : Bool) → ((a && not b) && not d) ≡ (a && not (b || d))
      by true true d = refl
      by true false d = refl
      by false b d = refl

  pub active_added : AreActive p (c ++ i ∷ []) active → has c i ≡ false → i ≤ p.primary → ((k : ℕ) → in_row active2 k ≡ (in_row active k || (k == i - 1))) → AreActive p c active2
  active_added act free l each k =
      each k ∙ ap₂ (λ a b. a || b) (act k ∙ ap (λ b. nat_lt k p.primary && not b) (has_pushed c i k)) (same_number i k some) ∙ by (cases_eq i (k + 1))
    where
      by : (i ≡ k + 1) ⊎ (i ≡ k + 1 → ⊥) → ((nat_lt k p.primary && not (has c (k + 1) || (i == k + 1))) || (i == k + 1)) ≡ (nat_lt k p.primary && not (has c (k + 1)))
      by (inl e) =
          let f : has c (k + 1) ≡ false = ap (has c) (sym e) ∙ free in
          rw (eq-eqb i (k + 1) e, f, lt-ltb k p.primary (omega arith)) refl
      by (inr d) = rw (ne_eqb i (k + 1) d) (go (nat_lt k p.primary) (has c (k + 1)))
        where
          go : (a b : Bool) → ((a && not (b || false)) || false) ≡ (a && not b)
          go true true = refl
          go true false = refl
          go false b = refl

  pub active_stays : AreActive p (c ++ i ∷ []) active → p.primary < i → AreActive p c active
  active_stays act l k = act k ∙ by (cases_lt k p.primary)
    where
      by : (k < p.primary) ⊎ (p.primary ≤ k) → (nat_lt k p.primary && not (has (c ++ i ∷ []) (k + 1))) ≡ (nat_lt k p.primary && not (has c (k + 1)))
      by (inl m) = ap (λ b. nat_lt k p.primary && not b) (has_pushed c i k ∙ ap (λ b. has c (k + 1) || b) (ne_eqb i (k + 1) (λ e. omega arith)) ∙ or-none (has c (k + 1)))
        where
          or-none : (b : Bool) → (b || false) ≡ b
          or-none true = refl
          or-none false = refl
      by (inr m) = and_left _ _ (le-ltb k p.primary m) ∙ sym (and_left _ _ (le-ltb k p.primary m))

-- the items that are given back are active again, but for those that need not be covered
pub active_back : (p : ProblemValue) (c back active active2 : List ℕ) → IsCoveredList p (c ++ back) → AreActive p (c ++ back) active
    → ((k : ℕ) → in_row active2 k ≡ (in_row active k || (nat_lt k p.primary && has back (k + 1)))) → AreActive p c active2
active_back p c back active active2 cov act each k =
    each k ∙ ap (λ b. b || (nat_lt k p.primary && has back (k + 1))) (act k ∙ ap (λ b. nat_lt k p.primary && not b) (has-append c back (k + 1)))
    ∙ by (nat_lt k p.primary) (has c (k + 1)) (has back (k + 1)) ((distinct_parts c back cov.distinct).2 (k + 1))
  where
    by : (l h b : Bool) → (h ≡ true → b ≡ false) → ((l && not (h || b)) || (l && b)) ≡ (l && not h)
    by true true b apart = apart refl
    by true false true apart = refl
    by true false false apart = refl
    by false h b apart = refl

-- items that are covered have numbers from 1 on
pub covered_some : (p : ProblemValue) (c : List ℕ) (depth : ℕ) → IsCoveredList p c → All (λ i. 0 < i) (drop depth c)
covered_some p c depth cov k d l =
    let all : list_all (is_item (length p.names)) (drop depth c) ≡ true =
    (and_parts (list_all (is_item (length p.names)) (take depth c)) (list_all (is_item (length p.names)) (drop depth c))
    (sym (list_all-append (is_item (length p.names)) (take depth c) (drop depth c)) ∙ ap (list_all (is_item (length p.names))) (take-append-drop depth c) ∙ cov.items)).1 in
    (item_bounds (length p.names) (get_or (drop depth c) k d) (AllPass-from_list_all (is_item (length p.names)) (drop depth c) all k d l)).0

-- what a vector has once it was lent as a slice of the same length
pub lent : {X : Type 0} (len : ℕ) (new old : List X) → length new ≡ length old → len ≡ length old → take len (new ++ drop (length new) old) ≡ new
lent len new old a b = take-append-le len new (drop (length new) old) (omega arith) ∙ take_all len new (omega arith)

module _ {p : ProblemValue} {options primary words : ℕ} {columns : List ℕ} {parts : List Part} {counts bases active c : List ℕ} {room : ℕ} (h : IsBits p options primary words columns parts counts bases active c room) where
  -- the fields after an item is covered, as the calls leave them
  pub put_fields : (i : ℕ) → IsUncovered p c i → (depth : ℕ) → depth ≡ length c → (bs : List ℕ) → bs ≡ set bases (depth + 1) (get_or bases depth 0)
      → (acts active2 : List ℕ) → acts ≡ active → length active2 ≡ length acts
      → ((k : ℕ) → in_row active2 k ≡ (in_row acts k && not (k == i - 1)))
      → (alen : ℕ) → alen ≡ length active → (c2 : List ℕ) (room2 : ℕ) → c2 ≡ c ++ i ∷ [] → room ≤ room2
      → IsBits p options primary words columns parts counts bs (take alen (active2 ++ drop (length active2) active)) c2 room2
  put_fields i free depth d bs b acts active2 e long removed alen z c2 room2 f g =
      let la : length active2 ≡ length active = long ∙ ap (λ xs. length xs) e in
      rw (lent alen active2 active la z)
      (bits_put h i free active2 bs c2 room2 (b ∙ ap (λ n. set bases (n + 1) (get_or bases n 0)) d) la
      (active_removed p c active active2 i free.some h.active_are (λ k. removed k ∙ ap (λ xs. in_row xs k && not (k == i - 1)) e)) f g)

  pub uncovered_fields : (i : ℕ) → (acts active2 : List ℕ) → acts ≡ active → length active2 ≡ length acts
      → (i ≤ primary → (k : ℕ) → in_row active2 k ≡ (in_row acts k || (k == i - 1))) → (primary < i → active2 ≡ acts)
      → (alen : ℕ) → alen ≡ length active → (c2 : List ℕ) (room2 : ℕ) → c ≡ c2 ++ i ∷ [] → room ≤ room2
      → IsBits p options primary words columns parts counts bases (take alen (active2 ++ drop (length active2) active)) c2 room2
  uncovered_fields i acts active2 e long added kept alen z c2 room2 f g =
      let la : length active2 ≡ length active = long ∙ ap (λ xs. length xs) e in
      let both : IsCoveredList p (c2 ++ i ∷ []) = subst (λ x. IsCoveredList p x) f h.distinct in
      let act : AreActive p (c2 ++ i ∷ []) active = subst (λ x. AreActive p x active) f h.active_are in
      rw (lent alen active2 active la z)
      (bits_uncovered h (i ∷ []) active2 c2 room2 f la (now act (covered_last p c2 i both).some (covered_last p c2 i both).uncovered (cases_lt primary i)) g)
    where
      now : AreActive p (c2 ++ i ∷ []) active → 0 < i → has c2 i ≡ false → (primary < i) ⊎ (i ≤ primary) → AreActive p c2 active2
      now act some free (inl l) = subst (λ xs. AreActive p c2 xs) (sym (kept l ∙ e)) (active_stays p c2 active active i some act (let q = h.primary_is in omega arith))
      now act some free (inr l) = active_added p c2 active active2 i some act free (let q = h.primary_is in omega arith) (λ k. added l k ∙ ap (λ xs. in_row xs k || (k == i - 1)) e)

  -- the same where several are given back at once
  pub given_back_fields : (back acts active2 : List ℕ) → acts ≡ active → length active2 ≡ length acts
      → ((k : ℕ) → in_row active2 k ≡ (in_row acts k || (nat_lt k primary && has back (k + 1))))
      → (alen : ℕ) → alen ≡ length active → (c2 : List ℕ) (room2 : ℕ) → c ≡ c2 ++ back → room ≤ room2
      → IsBits p options primary words columns parts counts bases (take alen (active2 ++ drop (length active2) active)) c2 room2
  given_back_fields back acts active2 e long each alen z c2 room2 f g =
      let la : length active2 ≡ length active = long ∙ ap (λ xs. length xs) e in
      rw (lent alen active2 active la z)
      (bits_uncovered h back active2 c2 room2 f la
      (active_back p c2 back active active2 (subst (λ x. IsCoveredList p x) f h.distinct) (subst (λ x. AreActive p x active) f h.active_are)
      (λ k. each k ∙ ap₂ (λ xs n. in_row xs k || (nat_lt k n && has back (k + 1))) e h.primary_is)) g)

  -- the set that is written then rests on one that is there
  pub settle_base : (depth base : ℕ) → depth ≡ length c → base ≡ get_or bases depth base → (base ≡ get_or bases (length c) 0) × (base ≤ length c)
  settle_base depth base d at =
      let m = covered_most p c h.distinct in let l = h.bases_long in
      let same : base ≡ get_or bases (length c) 0 = at ∙ ap (λ k. get_or bases k base) d ∙ any_default bases (length c) base 0 (omega arith) in
      let b = h.below (length c) (le_refl (length c)) in
      (same, omega arith)

  pub settle_placed : (base : ℕ) → base ≡ get_or bases (length c) 0 → ArePlaced 0 words (set_at words parts counts base)
  settle_placed base e = subst (λ k. ArePlaced 0 words (set_at words parts counts k)) (sym e) (h.sets_are (length c) (le_refl (length c))).placed

  -- the fields after the set of the options left is written
  pub settled_fields : (depth base : ℕ) → depth ≡ length c → base ≡ get_or bases (length c) 0
      → (ps parts2 : List Part) (ns counts2 cols cs : List ℕ) → ps ≡ parts → ns ≡ counts → cols ≡ columns → cs ≡ c
      → IsNextSet words base (length cs) cols (drop base cs) ps parts2 ns counts2
      → (plen nlen : ℕ) → plen ≡ length parts → nlen ≡ length counts
      → IsBits p options primary words columns (take plen (parts2 ++ drop (length parts2) parts)) (take nlen (counts2 ++ drop (length counts2) counts)) (set bases depth depth) active c room
  settled_fields depth base d b ps parts2 ns counts2 cols cs x y z q w plen nlen m n =
      let w2 : IsNextSet words base (length c) columns (drop base c) parts parts2 counts counts2 = rw (x, y, z, q) at w in
      rw (lent plen parts2 parts w2.parts_long m, lent nlen counts2 counts w2.counts_long n)
      (bits_settled h base b parts2 counts2 (set bases depth depth) (ap (λ k. set bases k k) d) w2)
