-- What a table of bit sets keeps, and the list of an item that it tells.
use Rattle.std.proofs.Common.{◌≡◌, nat_lt, ℕ, zero, suc, ◌+◌, ◌-◌, ◌*◌, ◌/◌, ◌%◌, ◌<◌, ◌≤◌, ◌⊎◌, ◌==◌, Bool, true, false, not, ◌&&◌, ◌||◌, List, [], ◌∷◌, ◌++◌, length, get_or, take, drop, set, refl, sym, ap, ap₂, subst, ◌∙◌, inl, inr, arith, length-take-le, length-drop, All}
use Rattle.std.specs.List.{before_first, position_or_len, list_any, list_all}
use Rattle.std.proofs.lemmas.Bool.{cases_lt, cases_eq, eq-eqb, ne_eqb, lt-ltb, le-ltb, and_left, and_right, and_parts, both_ways, false_from_ne_true}
use Rattle.std.proofs.lemmas.List.{get_or-take, get_or-drop, get_or_past}
use Rattle.std.proofs.lemmas.List.Sums.{prefix_len-le-length}
use Rattle.std.specs.Prelude.{Option, None, option_map, IfSome}
use Rattle.shared_words.specs.Lists.{has, are_distinct, above, below, last_of}
use Rattle.cover_problem.specs.Problem.{ProblemValue, option_at, is_item}
use Rattle.cover_problem.specs.Covering.{is_remaining, remaining, list_of, active}
use Rattle.cover_problem.specs.Table.{TableValue}
use Rattle.cover_problem.proofs.BoundLemmas.{few, item_bounds}
use Rattle.cover_problem.proofs.CoveredLemmas.{covered_most}
use Rattle.cover_problem.proofs.MemberLemmas.{all_member, has_at, has_here}
use Rattle.cover_problem.proofs.PartLemmas.{distinct_parts, before_here}
use Rattle.cover_problem.proofs.RemainingLemmas.{list_rises}
use Rattle.cover_bits.specs.declared.lists.ItemList.{ItemList}
use Rattle.cover_bits.specs.declared.sets.Part.{Part}
use Rattle.cover_bits.specs.Parts.{in_word, in_row, in_parts, in_both, ArePlaced, ones_of_both, IsFirstFrom, NoneFrom, words_for}
use Rattle.cover_bits.specs.Bits.{row_at, set_at, is_left, AreLeftBut, IsBits, HasColumn, in_columns, IsListOf}
use Rattle.cover_bits.proofs.BitLemmas.{and-yes}
use Rattle.cover_bits.proofs.LeftLemmas.{left_but}
use Rattle.cover_bits.proofs.PartLemmas.{has_no_bit}
use Rattle.cover_bits.proofs.CountLemmas.{count_of, count_split, count_none, count_moved, count_is}
use Rattle.cover_bits.proofs.ListLemmas.{has_filter_numbers, has_remaining, has_active, first_above}
use Rattle.cover_problem.proofs.RisingLemmas.{last_below}
use Rattle.cover_problem.proofs.TableLemmas.{in_list}
use Rattle.cover_problem.proofs.ActiveLemmas.{active_rises}

-- *rows*

module _ (rows : List ℕ) (words i : ℕ) (within : i * words + words ≤ length rows) where
  pub row_long : length (row_at words i rows) ≡ words
  row_long = length-take-le words (drop (i * words) rows) (let e = length-drop (i * words) rows in omega arith)

  pub in_row_at : (k : ℕ) → k < 64 * words → in_row (row_at words i rows) k ≡ in_row rows (i * (64 * words) + k)
  in_row_at k l =
      let e : i * (64 * words) ≡ 64 * (i * words) = grind arith in
      let q : (i * (64 * words) + k) / 64 ≡ i * words + k / 64 = omega arith in
      let r : (i * (64 * words) + k) % 64 ≡ k % 64 = omega arith in
      rw (q, r) (ap (λ x. in_word x (k % 64)) (get_or-take words (drop (i * words) rows) (k / 64) 0 (omega arith) ∙ get_or-drop (i * words) rows (k / 64) 0))

  pub past_row : (k : ℕ) → 64 * words ≤ k → in_row (row_at words i rows) k ≡ false
  past_row k l = ap (λ x. in_word x (k % 64)) (get_or_past (row_at words i rows) (k / 64) 0 (let e = row_long in omega arith)) ∙ has_no_bit (k % 64)

placed_short : (n w : ℕ) (parts : List Part) → ArePlaced n w parts → n ≤ w → length parts + n ≤ w
placed_short n w [] placed le = omega arith
placed_short n w (part ∷ parts) placed le = let a = placed.0 in let b = placed.1 in let ih = placed_short (suc part.place) w parts placed.3 (omega arith) in omega arith

pub row_fits : (n words i len : ℕ) → len ≡ n * words → i < n → i * words + words ≤ len
row_fits n words i len e l = grind arith

-- *the list of an item*

module _ {p : ProblemValue} {options primary words : ℕ} {columns : List ℕ} {parts : List Part} {counts bases active c : List ℕ} {room : ℕ} (h : IsBits p options primary words columns parts counts bases active c room) where
  pub few_words : (length p.options ≤ 64 * words) × (words ≤ 4096)
  few_words = let w = h.words_are in let f = (few p h.sound).1 in (omega arith, omega arith)

  pub short_of : length c ≤ length p.names
  short_of = covered_most p c h.distinct

  pub column_fits : (i : ℕ) → i < length p.names → i * words + words ≤ length columns
  column_fits i l = row_fits (length p.names) words i (length columns) h.columns_long l

  pub has_column : (i : ℕ) → is_item (length p.names) i ≡ true → HasColumn words columns i
  has_column i e = let r = item_bounds (length p.names) i e in let a = r.0 in let b = r.1 in (a, column_fits (i - 1) (omega arith))

  pub have_columns : (items : List ℕ) → list_all (is_item (length p.names)) items ≡ true → All (HasColumn words columns) items
  have_columns items e i d l = has_column (get_or items i d) (all_member (is_item (length p.names)) items (get_or items i d) e (has_at items i d l))

  -- the columns of items tell which options have one of them
  pub in_columns_are : (items : List ℕ) → list_all (is_item (length p.names)) items ≡ true → (k : ℕ) → k < 64 * words → in_columns words columns items k ≡ list_any (has (option_at p (k + 1))) items
  in_columns_are [] e k l = refl
  in_columns_are (i ∷ items) e k l =
      let r = and_parts (is_item (length p.names) i) (list_all (is_item (length p.names)) items) e in
      let b = item_bounds (length p.names) i r.0 in let b0 = b.0 in let b1 = b.1 in
      let same : i - 1 + 1 ≡ i = omega arith in
      ap₂ (λ x y. x || y) (h.columns_are (i - 1) k (omega arith) l ∙ ap (has (option_at p (k + 1))) same) (in_columns_are items r.1 k l)

  -- an active item isn't covered
  pub active_free : (i : ℕ) → 0 < i → i ≤ p.primary → in_row active (i - 1) ≡ true → has c i ≡ false
  active_free i a b t =
      let e : i - 1 + 1 ≡ i = omega arith in
      let r = and_parts (nat_lt (i - 1) p.primary) (not (has c (i - 1 + 1))) (sym (h.active_are (i - 1)) ∙ t) in
      ap (has c) (sym e) ∙ false_from_ne_true (has c (i - 1 + 1)) (λ u. both_ways (not (has c (i - 1 + 1))) (ap not u) r.1)

  -- of so many covered items the last set, and those covered since
  pub left_then : (d : ℕ) → d ≤ length c → AreLeftBut p (take d c) words (set_at words parts counts (get_or bases d 0)) (drop (get_or bases d 0) (take d c))
  left_then d l = left_but p c words (get_or bases d 0) d (set_at words parts counts (get_or bases d 0)) (h.below d l) h.distinct.items (h.sets_are d l)

  -- the parts without the items that are gone are those left before the item was covered
  module _ (j : ℕ) (a : 0 < j) (b : j ≤ length p.names) (set : List Part) (gone : List ℕ) (left : AreLeftBut p (before_first (λ x. x == j) c) words set gone) where
    fits : (j - 1) * words + words ≤ length columns
    fits = column_fits (j - 1) (omega arith)

    long : length (row_at words (j - 1) columns) ≡ words
    long = row_long columns words (j - 1) fits

    past : (k : ℕ) → length p.options ≤ k → is_left p (before_first (λ x. x == j) c) k ≡ false
    past k l = and_left _ _ (le-ltb k (length p.options) l)

    list_are : (k : ℕ) → (in_both set (row_at words (j - 1) columns) k && not (in_columns words columns gone k)) ≡ has (list_of p c j) (k + 1)
    unfolding list_of
    list_are k = by (cases_lt k (64 * words))
      where
        turned : (a h g : Bool) → ((a && h) && not g) ≡ ((a && not g) && h)
        turned true true g = and-back (not g)
          where
            and-back : (x : Bool) → x ≡ (x && true)
            and-back true = refl
            and-back false = refl
        turned true false g = sym (and_right (not g) false refl)
        turned false h g = refl

        by : (k < 64 * words) ⊎ (64 * words ≤ k) → (in_both set (row_at words (j - 1) columns) k && not (in_columns words columns gone k)) ≡ has (remaining p (before_first (λ x. x == j) c) j) (k + 1)
        by (inl l) =
            let e : j - 1 + 1 ≡ j = omega arith in
            ap₂ (λ x y. (in_parts set k && x) && not y)
            (in_row_at columns words (j - 1) fits k l ∙ h.columns_are (j - 1) k (omega arith) l ∙ ap (has (option_at p (k + 1))) e)
            (in_columns_are gone left.items k l)
            ∙ turned (in_parts set k) (has (option_at p (k + 1)) j) (list_any (has (option_at p (k + 1))) gone)
            ∙ ap (λ x. x && has (option_at p (k + 1)) j) (left.are k)
            ∙ sym (has_remaining p (before_first (λ x. x == j) c) j k)
        by (inr l) =
            let m = few_words.0 in
            and_left _ _ (and_right (in_parts set k) (in_row (row_at words (j - 1) columns) k) (past_row columns words (j - 1) fits k l))
            ∙ sym (has_remaining p (before_first (λ x. x == j) c) j k ∙ and_left _ _ (past k (omega arith)))

    placed : ArePlaced 0 (length (row_at words (j - 1) columns)) set
    placed = subst (λ w. ArePlaced 0 w set) (sym long) left.placed

    -- with no item gone the parts and the column are the list
    both_are : gone ≡ [] → (k : ℕ) → in_both set (row_at words (j - 1) columns) k ≡ has (list_of p c j) (k + 1)
    both_are none k =
        sym (and-yes (in_both set (row_at words (j - 1) columns) k))
        ∙ ap (λ g. in_both set (row_at words (j - 1) columns) k && not (in_columns words columns g k)) (sym none) ∙ list_are k

    count : gone ≡ [] → ones_of_both set (row_at words (j - 1) columns) ≡ length (list_of p c j)
    unfolding list_of remaining
    count none =
        let d : List ℕ = before_first (λ x. x == j) c in
        let m : ℕ = length p.options in
        let most = few_words.0 in
        let test : ℕ → Bool = λ k. is_remaining d j (get_or p.options (k - 1) []) in
        let all = count_is 0 words set (row_at words (j - 1) columns) left.placed (omega arith) in
        let n : 64 * (words - 0) ≡ m + (64 * words - m) = omega arith in
        let parted = count_split (in_both set (row_at words (j - 1) columns)) (64 * (words - 0)) m (64 * words - m) (64 * 0) n in
        let rest : count_of (in_both set (row_at words (j - 1) columns)) (64 * words - m) (64 * 0 + m) ≡ 0 =
        count_none (in_both set (row_at words (j - 1) columns)) (64 * words - m) (64 * 0 + m)
        (λ x l u. both_are none x ∙ has_remaining p d j x ∙ and_left _ _ (past x (omega arith))) in
        let here : count_of (in_both set (row_at words (j - 1) columns)) m (64 * 0) ≡ count_of test m 1 =
        count_moved (in_both set (row_at words (j - 1) columns)) test m (64 * 0) 1
        (λ i l. let z : 64 * 0 + i ≡ i = omega arith in let q : 1 + i ≡ i + 1 = omega arith in
        rw (z, q) (both_are none i ∙ has_filter_numbers test m i ∙ ap (λ u. u && test (i + 1)) (lt-ltb i m l))) in
        omega arith

    pub list_is : (list : ItemList) → list.parts.now ≡ set → list.column.now ≡ row_at words (j - 1) columns → list.columns.now ≡ columns → list.gone.now ≡ gone → IsListOf (list_of p c j) list
    list_is list q r s t = record {
      sound = record {
        placed = rw (q, r) placed;
        few = rw (q, r) (let m = placed_short 0 words set left.placed (omega arith) in let e = long in omega arith);
        small = rw r (let w = few_words.1 in let e = long in omega arith);
        gone = rw (r, s, t, long) (have_columns gone left.items);
      };
      rises = list_rises p c j;
      are = λ k. rw (q, r, s, t, long) (list_are k);
      count = λ none. rw (q, r) (count (sym t ∙ none));
    }

-- what the fields keep is kept of the value that a contract sees
pub bits_at : {o pr w : ℕ} {cols : List ℕ} {ps : List Part} {ns bs act : List ℕ} {room : ℕ} {s t : TableValue} → s ≡ t → IsBits s.problem o pr w cols ps ns bs act s.covered room → IsBits t.problem o pr w cols ps ns bs act t.covered room
bits_at {o} {pr} {w} {cols} {ps} {ns} {bs} {act} {room} e h = subst (λ u. IsBits u.problem o pr w cols ps ns bs act u.covered room) e h

-- an option of an item's list
pub member_in : {o pr w : ℕ} {cols : List ℕ} {ps : List Part} {ns bs act : List ℕ} {room : ℕ} {s t : TableValue} → s ≡ t → IsBits s.problem o pr w cols ps ns bs act s.covered room
    → (j k : ℕ) → has (list_of t.problem t.covered j) k ≡ true → (0 < j) × (j ≤ length t.problem.names) × (0 < k)
member_in {o} {pr} {w} {cols} {ps} {ns} {bs} {act} {room} {s} {t} e h j k m =
    let q = in_list t.problem t.covered j k (bits_at e h).sound m in (q.0, q.1, q.2)

-- the last option of an item's list is the one below a number that is too large
pub last_member : {o pr w : ℕ} {cols : List ℕ} {ps : List Part} {ns bs act : List ℕ} {room : ℕ} {s t : TableValue} → s ≡ t → IsBits s.problem o pr w cols ps ns bs act s.covered room
    → (j : ℕ) → below (o + 1) (list_of t.problem t.covered j) ≡ last_of (list_of t.problem t.covered j)
last_member {o} {pr} {w} {cols} {ps} {ns} {bs} {act} {room} {s} {t} e h j =
    let b = bits_at e h in
    last_below (o + 1) 1 (list_of t.problem t.covered j) (list_rises t.problem t.covered j)
    (λ k m. let q = (in_list t.problem t.covered j k b.sound m).3 in let n = b.options_are in omega arith)

pub active_above : {o pr w : ℕ} {cols : List ℕ} {ps : List Part} {ns bs act : List ℕ} {room : ℕ} {s t : TableValue} → s ≡ t → IsBits s.problem o pr w cols ps ns bs act s.covered room
    → (start : ℕ) (row : List ℕ) → row ≡ act → (found : Option ℕ) → IfSome found (λ k. IsFirstFrom (in_row row) start k) → (found ≡ None → NoneFrom (in_row row) start)
    → option_map (λ k. k + 1) found ≡ above start (active t.problem t.covered)
active_above {o} {pr} {w} {cols} {ps} {ns} {bs} {act} {room} {s} {t} e h start row r found some none =
    first_above (active t.problem t.covered) (active_rises t.problem t.covered) (in_row row)
    (λ k. ap (λ x. in_row x k) r ∙ (bits_at e h).active_are k ∙ sym (has_active t.problem t.covered k)) start found some none

-- *what the fields tell*

pub any_default : (xs : List ℕ) (i d e : ℕ) → i < length xs → get_or xs i d ≡ get_or xs i e
any_default [] i d e l = absurd (omega arith)
any_default (x ∷ xs) zero d e l = refl
any_default (x ∷ xs) (suc i) d e l = any_default xs i d e (omega arith)

-- where the last set stands that was written with so many items covered
pub record HasSet (bases counts : List ℕ) (parts : List Part) (words depth base : ℕ) : Type 0 where
  pub listed : depth < length bases
  pub below : base ≤ depth
  pub counted : base < length counts
  pub room : base * words + words ≤ length parts

pub has_set : {o pr w : ℕ} {cols : List ℕ} {ps : List Part} {ns bs act : List ℕ} {room : ℕ} {s t : TableValue} → s ≡ t → IsBits s.problem o pr w cols ps ns bs act s.covered room
    → (depth base : ℕ) → depth ≤ length t.covered → (depth < length bs → base ≡ get_or bs depth base) → HasSet bs ns ps w depth base
has_set {o} {pr} {w} {cols} {ps} {ns} {bs} {act} {room} {s} {t} e h depth base l at =
    let k = bits_at e h in
    let m = short_of k in let n = k.bases_long in let q = k.counts_long in
    let here : depth < length bs = omega arith in
    let same : base ≡ get_or bs depth 0 = at here ∙ any_default bs depth base 0 here in
    let b = k.below depth l in
    record {
      listed = here;
      below = omega arith;
      counted = omega arith;
      room = row_fits (length t.problem.names + 1) w base (length ps) k.parts_long (omega arith);
    }

pub left_told : {o pr w : ℕ} {cols : List ℕ} {ps : List Part} {ns bs act : List ℕ} {room : ℕ} {s t : TableValue} → s ≡ t → IsBits s.problem o pr w cols ps ns bs act s.covered room
    → (depth base : ℕ) → depth ≤ length t.covered → base ≡ get_or bs depth base → (set : List Part) (gone front c : List ℕ) → set ≡ set_at w ps ns base → c ≡ s.covered → front ≡ take depth c → gone ≡ drop base front
    → AreLeftBut t.problem (take depth t.covered) (words_for (length t.problem.options)) set gone
left_told {o} {pr} {w} {cols} {ps} {ns} {bs} {act} {room} {s} {t} e h depth base l at set gone front c x y z g =
    let k = bits_at e h in
    let stands = has_set e h depth base l (λ u. at) in
    let same : base ≡ get_or bs depth 0 = at ∙ any_default bs depth base 0 stands.listed in
    let left : AreLeftBut t.problem (take depth t.covered) w (set_at w ps ns base) (drop base (take depth t.covered)) =
    subst (λ b. AreLeftBut t.problem (take depth t.covered) w (set_at w ps ns b) (drop b (take depth t.covered))) (sym same) (left_then k depth l) in
    let front_is : gone ≡ drop base (take depth t.covered) = g ∙ ap (drop base) (z ∙ ap (take depth) (y ∙ ap (λ u. u.covered) e)) in
    subst (λ v. AreLeftBut t.problem (take depth t.covered) v set gone) k.words_are
    (subst (λ ys. AreLeftBut t.problem (take depth t.covered) w set ys) (sym front_is) (subst (λ xs. AreLeftBut t.problem (take depth t.covered) w xs (drop base (take depth t.covered))) (sym x) left))

pub list_told : {o pr w : ℕ} {cols : List ℕ} {ps : List Part} {ns bs act : List ℕ} {room : ℕ} {s t : TableValue} → s ≡ t → IsBits s.problem o pr w cols ps ns bs act s.covered room
    → (j : ℕ) → 0 < j → j ≤ length t.problem.names → (set : List Part) (gone : List ℕ) → AreLeftBut t.problem (before_first (λ x. x == j) t.covered) (words_for (length t.problem.options)) set gone
    → (list : ItemList) → list.parts.now ≡ set → list.column.now ≡ row_at w (j - 1) cols → list.columns.now ≡ cols → list.gone.now ≡ gone → IsListOf (list_of t.problem t.covered j) list
list_told {o} {pr} {w} {cols} {ps} {ns} {bs} {act} {room} {s} {t} e h j a b set gone left list =
    let k = bits_at e h in
    list_is k j a b set gone (subst (λ v. AreLeftBut t.problem (before_first (λ x. x == j) t.covered) v set gone) (sym k.words_are) left) list

-- the item that was covered last has as many before it as there are others
pub last_place : (xs before : List ℕ) (x : ℕ) → xs ≡ before ++ x ∷ [] → are_distinct xs ≡ true → length before ≡ position_or_len (λ y. y == x) xs
last_place xs before x e d =
    let t = distinct_parts before (x ∷ []) (ap are_distinct (sym e) ∙ d) in
    let out : has before x ≡ false = false_from_ne_true (has before x) (λ h. both_ways (has (x ∷ []) x) (t.2 x h) (has_here x [])) in
    let front : before_first (λ y. y == x) xs ≡ before = ap (before_first (λ y. y == x)) e ∙ before_here before x [] out in
    let long : length (before_first (λ y. y == x) xs) ≡ length before = ap (λ ys. length ys) front in
    let within : position_or_len (λ y. y == x) xs ≤ length xs = prefix_len-le-length (λ y. not (y == x)) xs in
    let taken : length (take (position_or_len (λ y. y == x) xs) xs) ≡ position_or_len (λ y. y == x) xs = length-take-le (position_or_len (λ y. y == x) xs) xs within in
    sym long ∙ taken

one_more : (a b : ℕ) → a ≡ b → suc a ≡ 1 + b
one_more a b e = omega arith

-- one that isn't covered has all of them before it
pub time_past : (xs : List ℕ) (x : ℕ) → has xs x ≡ false → length xs ≡ position_or_len (λ y. y == x) xs
time_past [] x e = refl
time_past (y ∷ ys) x e = by (time_past ys x) (cases_eq y x)
  where
    by : (has ys x ≡ false → length ys ≡ position_or_len (λ z. z == x) ys) → (y ≡ x) ⊎ (y ≡ x → ⊥) → length (y ∷ ys) ≡ position_or_len (λ z. z == x) (y ∷ ys)
    by ih (inl q) = absurd (both_ways (has (y ∷ ys) x) e (ap (λ b. b || has ys x) (eq-eqb y x q)))
    by ih (inr d) = rw (ne_eqb y x d) (one_more (length ys) (position_or_len (λ z. z == x) ys) (ih (sym (ap (λ b. b || has ys x) (ne_eqb y x d)) ∙ e)))

pub time_within : (xs : List ℕ) (x : ℕ) → position_or_len (λ y. y == x) xs ≤ length xs
time_within xs x = prefix_len-le-length (λ y. not (y == x)) xs
