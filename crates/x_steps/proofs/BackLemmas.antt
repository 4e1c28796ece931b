-- What each step back keeps: the table stands for the items covered at the state before.
use Rattle.std.proofs.Common.{◌≡◌, ℕ, ◌-◌, ◌<◌, ◌≤◌, List, [], ◌∷◌, ◌++◌, length, true, false, nat_lt, Bool, Option, Some, arith, refl, sym, ap, ◌∙◌, subst, append-nil}
use Rattle.std.specs.Prelude as prelude
use Rattle.std.proofs.lemmas.List.{same_from_push, nil_from_length}
use Rattle.std.proofs.lemmas.Bool.{ltb-true}
use Rattle.shared_words.specs.Lists.{has, below, last_of}
use Rattle.cover_problem.specs.Problem.{ProblemValue, IsProblem, option_at}
use Rattle.cover_problem.specs.Covering.{active, choice, list_of}
use Rattle.cover_problem.specs.Path.{IsChoice, IsValid, taken, covered_by, others}
use Rattle.cover_problem.specs.Coverable.{IsUncovered, CanCover}
use Rattle.cover_problem.proofs.ActiveLemmas.{active_item}
use Rattle.cover_problem.proofs.RemainingLemmas.{choice_active, list_covered}
use Rattle.cover_problem.proofs.PathLemmas.{choice_has, can_take, taken_is, covered_by_push, depth, valid_pop}
use Rattle.x_steps.specs.declared.state.Label.{Label}
use Rattle.x_steps.specs.declared.state.Label.TheVariants.{X1, X2, X3, X4, X5, X6, X7, X8, Done}
use Rattle.x_steps.specs.declared.state.Cursor.{Cursor}
use Rattle.x_steps.specs.declared.state.Cursor.TheVariants as cursor
use Rattle.x_steps.specs.declared.state.Cursor.TheVariants.{At, Past}
use Rattle.x_steps.specs.StateValue.{StateValue, at, start}
use Rattle.x_steps.specs.Steps.{Fits, FitsAt, IsOpen, is_open, item_after, remaining_after, split_last, covered_in, IsBefore}
use Rattle.x_steps.specs.Before.{prev, prev_at, came_from}
use Rattle.x_steps.specs.Machine.{Keeps, MachineValue, GoesBack}
use Rattle.x_steps.proofs.Neighbours.{fits_prev, split_last_push}
use Rattle.x_steps.proofs.RunLemmas.{prev_before}
use Rattle.x_steps.proofs.MachineLemmas.{keeps_on, mid_is, chosen_last, item_is, retry_at, label_of}

-- a step back came to t, and the machine keeps what it has to
pub record WentBack (p : ProblemValue) (s t : StateValue) (table_problem : ProblemValue) (covered : List ℕ) (room : ℕ) : Type 0 where
  pub keeps : Keeps p t table_problem covered room
  pub steps : t ≡ prev p s
  pub fit : Fits p s

module _ (p : ProblemValue) (s t : StateValue) (table_problem : ProblemValue) (covered : List ℕ) (room : ℕ) (new_problem : ProblemValue) (new_covered : List ℕ) (new_room : ℕ) where
  went_back : Keeps p s table_problem covered room → new_problem ≡ table_problem → room ≤ new_room → t ≡ prev p s → new_covered ≡ covered_in p t → WentBack p s t new_problem new_covered new_room
  went_back k e r n c = record {
    keeps = keeps_on p s t table_problem covered room new_problem new_covered new_room k e r (subst (Fits p) (sym n) (fits_prev p s k.fit)) c;
    steps = n;
    fit = k.fit;
  }

-- ---- what fits at a label, whatever is known of the cursor

pub valid_at_X2 : (p : ProblemValue) (path : List ℕ) (k : Cursor) → FitsAt p X2 path k → IsValid p path
valid_at_X2 p path cursor.None f = f
valid_at_X2 p path _ f = absurd f

pub open_at_X5 : (p : ProblemValue) (path : List ℕ) (k : Cursor) → FitsAt p X5 path k → IsOpen p path
open_at_X5 p path cursor.None f = absurd f
open_at_X5 p path (At o) f = f.1.active
open_at_X5 p path Past f = f.1

none_at_Done : (p : ProblemValue) (path : List ℕ) (k : Cursor) → FitsAt p Done path k → path ≡ []
none_at_Done p path cursor.None f = f
none_at_Done p path _ f = absurd f

module _ (p : ProblemValue) (path : List ℕ) (at_cursor : Cursor) (table_problem : ProblemValue) (covered : List ℕ) (room : ℕ) where
  -- what the machine keeps at a label, whatever the cursor
  abbrev Here : Label → Type 0
  Here l = Keeps p (at l path at_cursor) table_problem covered room

  abbrev Back : Label → StateValue → Type 0
  Back l t = WentBack p (at l path at_cursor) t table_problem covered room

  -- the same with another table
  abbrev BackWith : Label → StateValue → ProblemValue → List ℕ → Type 0
  BackWith l t new_problem new_covered = WentBack p (at l path at_cursor) t new_problem new_covered room

  -- X2 with no choice
  pub to_start : (new_path : List ℕ) (new_room : ℕ) → path ≡ new_path ++ [] → length path ≡ 0 → new_room ≡ room → Here X2
      → WentBack p (at X2 path at_cursor) (at X1 new_path cursor.None) table_problem covered new_room
  unfolding prev covered_in
  to_start new_path new_room e zero same k =
      let none = nil_from_length path zero in
      let bare : new_path ≡ [] = sym (append-nil new_path) ∙ sym e ∙ none in
      went_back p _ _ table_problem covered room _ _ _ k refl (omega arith) (rw (none, bare) refl) (k.stands ∙ ap (covered_by p) (none ∙ sym bare))

  -- X2 with a last choice has covered what X6 has at it
  pub as_taken : (new_path : List ℕ) (o : ℕ) → path ≡ new_path ++ o ∷ [] → Here X2 → Keeps p (at X6 new_path (At o)) table_problem covered room
  unfolding covered_in
  as_taken new_path o e k = record {
    sound = k.sound;
    fit = valid_pop p new_path o (rw e at (valid_at_X2 p path at_cursor k.fit));
    same = k.same;
    stands = k.stands ∙ ap (covered_by p) e ∙ covered_by_push p new_path o;
    path_fits = k.path_fits;
  }

  pub to_option : (new_path : List ℕ) (o : ℕ) (new_room : ℕ) (new_problem : ProblemValue) {option : List ℕ} (mid : List ℕ) → path ≡ new_path ++ o ∷ [] → new_room ≡ room → new_problem ≡ table_problem
      → option ≡ option_at p o → (back : List ℕ) × (covered ≡ mid ++ back) × (length back ≡ length option - 1) → Here X2
      → WentBack p (at X2 path at_cursor) (at X5 new_path (At o)) new_problem mid new_room
  unfolding prev covered_in
  to_option new_path o new_room new_problem mid e wide same read gone k =
      let last : split_last path ≡ Some (new_path, o) = ap split_last e ∙ split_last_push new_path o in
      let list = mid_is p new_path (At o) table_problem covered room o refl mid read gone (as_taken new_path o e k) in
      went_back p _ _ table_problem covered room _ _ _ k same (omega arith) (rw last refl) list

  -- X3 and X4
  pub to_enter : Here X3 → Back X3 (at X2 path cursor.None)
  unfolding prev covered_in
  to_enter k = went_back p _ _ table_problem covered room _ _ _ k refl (omega arith) refl k.stands

  pub to_plan : Here X4 → Back X4 (at X3 path cursor.None)
  unfolding prev covered_in
  to_plan k = went_back p _ _ table_problem covered room _ _ _ k refl (omega arith) refl k.stands

  -- X5
  pub uncovered_item : Here X5 → IsUncovered p (covered_by p path) (item_after p path)
  uncovered_item k = active_item p (covered_by p path) (item_after p path) k.sound (choice_active p (covered_by p path) (open_at_X5 p path at_cursor k.fit))

  module _ (item : ℕ) (last : (front : List ℕ) × (covered ≡ front ++ item ∷ [])) where
    pub item_within : Here X5 → (0 < item) × (item ≤ length table_problem.names)
    item_within k =
        let u = uncovered_item k in
        rw (item_is p path at_cursor table_problem covered room item last k, k.same) (u.some, u.within)

    -- its list has the options left after the path
    pub list_is : Here X5 → list_of table_problem covered item ≡ remaining_after p path
    list_is k =
        ap (λ q. list_of q covered item) k.same ∙ ap (λ c. list_of p c item) (chosen_last p path at_cursor table_problem covered room k) ∙ ap (λ i. list_of p (covered_by p path ++ item_after p path ∷ []) i) (item_is p path at_cursor table_problem covered room item last k)
        ∙ list_covered p (covered_by p path) (item_after p path) [] (uncovered_item k).uncovered

    pub below_is : (o : ℕ) (found : Option ℕ) → found ≡ below o (list_of table_problem covered item) → Here X5 → found ≡ below o (remaining_after p path)
    below_is o found e k = e ∙ ap (below o) (list_is k)

    pub last_is : (found : Option ℕ) → found ≡ last_of (list_of table_problem covered item) → Here X5 → found ≡ last_of (remaining_after p path)
    last_is found e k = e ∙ ap last_of (list_is k)

    pub list_has : (o : ℕ) → at_cursor ≡ At o → Here X5 → has (list_of table_problem covered item) o ≡ true
    list_has o e k =
        let f = subst (λ c. FitsAt p X5 path c) e k.fit in
        subst (λ l. has l o ≡ true) (sym (list_is k)) f.1.left

    -- before X5 nothing was left: X4
    pub to_open : (new_problem : ProblemValue) (new_covered : List ℕ) → prev p (at X5 path at_cursor) ≡ came_from path prelude.None → new_problem ≡ table_problem → covered ≡ new_covered ++ item ∷ []
        → Here X5 → BackWith X5 (at X4 path cursor.None) new_problem new_covered
    unfolding covered_in
    to_open new_problem new_covered came same e k =
        went_back p _ _ table_problem covered room _ _ _ k same (omega arith) (sym came) (same_from_push _ _ _ _ (sym e ∙ chosen_last p path at_cursor table_problem covered room k)).0

    -- before X5 an option was left: X6
    module _ (o : ℕ) (came : prev p (at X5 path at_cursor) ≡ came_from path (Some o)) where
      choice_before : Here X5 → IsValid p path × IsChoice p (covered_by p path) o
      choice_before k = subst (Fits p) came (fits_prev p _ k.fit)

      pub option_within : Here X5 → (0 < o) × (o ≤ length p.options)
      option_within k = let t = choice_has p (covered_by p path) o (choice_before k).1 in (t.some, t.within)

      pub option_has : Here X5 → has (option_at p o) item ≡ true
      option_has k = let t = choice_has p (covered_by p path) o (choice_before k).1 in subst (λ i. has (option_at p o) i ≡ true) (sym (item_is p path at_cursor table_problem covered room item last k)) t.item

      pub can_retake : Here X5 → CanCover table_problem covered (others item (option_at p o))
      can_retake k =
          let t = (can_take p (covered_by p path) o k.sound (choice_before k).1).1 in
          subst (λ q. CanCover q covered (others item (option_at p o))) (sym k.same) (subst (λ i. CanCover p covered (others i (option_at p o))) (sym (item_is p path at_cursor table_problem covered room item last k))
          (subst (λ c. CanCover p c (others (item_after p path) (option_at p o))) (sym (chosen_last p path at_cursor table_problem covered room k)) t))

      pub to_retry : (new_problem : ProblemValue) (new_covered : List ℕ) → new_problem ≡ table_problem → new_covered ≡ covered ++ others item (option_at p o)
          → Here X5 → BackWith X5 (at X6 path (At o)) new_problem new_covered
      unfolding covered_in
      to_retry new_problem new_covered same list k =
          let whole : new_covered ≡ taken p (covered_by p path) o =
          list ∙ ap (λ i. covered ++ others i (option_at p o)) (item_is p path at_cursor table_problem covered room item last k) ∙ ap (λ c. c ++ others (item_after p path) (option_at p o)) (chosen_last p path at_cursor table_problem covered room k)
          ∙ sym (taken_is p (covered_by p path) o) in
          went_back p _ _ table_problem covered room _ _ _ k same (omega arith) (sym came) whole

  -- X6
  module _ (o : ℕ) (is_at : at_cursor ≡ At o) where
    pub room_for : Here X6 → length path < room
    room_for k =
        let f = retry_at p path at_cursor table_problem covered room o is_at k in
        let d = depth p path f.0 in
        let a = f.1.active in
        let r = k.path_fits in
        let w = k.sound.within in omega arith

    pub to_leave : (new_room : ℕ) → room ≤ new_room → Here X6 → WentBack p (at X6 path at_cursor) (at X8 (path ++ o ∷ []) cursor.None) table_problem covered new_room
    unfolding prev covered_in
    to_leave new_room more k = went_back p _ _ table_problem covered room _ _ _ k refl more (rw is_at refl) (k.stands ∙ rw is_at (sym (covered_by_push p path o)))

  -- X7
  pub to_past : Here X7 → Back X7 (at X5 path Past)
  unfolding prev covered_in
  to_past k = went_back p _ _ table_problem covered room _ _ _ k refl (omega arith) refl k.stands

  -- X8
  same_open : Here X8 → nat_lt 0 (length (active table_problem covered)) ≡ is_open p path
  unfolding covered_in
  same_open k = ap (λ q. nat_lt 0 (length (active q covered))) k.same ∙ ap (λ c. nat_lt 0 (length (active p c))) k.stands

  pub to_visit : (b : Bool) → b ≡ nat_lt 0 (length (active table_problem covered)) → b ≡ false → Here X8 → Back X8 (at X2 path cursor.None)
  unfolding prev covered_in
  to_visit b found none k =
      let closed : is_open p path ≡ false = sym (found ∙ same_open k) ∙ none in
      went_back p _ _ table_problem covered room _ _ _ k refl (omega arith) (rw closed refl) k.stands

  stands_X8 : Here X8 → covered ≡ covered_by p path
  unfolding covered_in
  stands_X8 k = k.stands

  module _ (b : Bool) (found : b ≡ nat_lt 0 (length (active table_problem covered))) (some : b ≡ true) where
    pub ready : 0 < length (active table_problem covered)
    ready = ltb-true 0 (length (active table_problem covered)) (sym found ∙ some)

    pub covers_again : (item : ℕ) → item ≡ choice table_problem covered → Here X8 → IsUncovered table_problem covered item
    covers_again item e k =
        let sound : IsProblem table_problem = subst IsProblem (sym k.same) k.sound in
        subst (IsUncovered table_problem covered) (sym e) (active_item table_problem covered (choice table_problem covered) sound (choice_active table_problem covered ready))

    pub to_close : (item : ℕ) (new_problem : ProblemValue) (new_covered : List ℕ) → item ≡ choice table_problem covered → new_problem ≡ table_problem → new_covered ≡ covered ++ item ∷ [] → Here X8
        → BackWith X8 (at X7 path cursor.None) new_problem new_covered
    unfolding prev covered_in
    to_close item new_problem new_covered e same list k =
        let opened : is_open p path ≡ true = sym (found ∙ same_open k) ∙ some in
        let chosen : item ≡ item_after p path = e ∙ ap (λ q. choice q covered) k.same ∙ ap (λ c. choice p c) (stands_X8 k) in
        let whole : new_covered ≡ covered_by p path ++ item_after p path ∷ [] = list ∙ ap (λ c. c ++ item ∷ []) (stands_X8 k) ∙ ap (λ i. covered_by p path ++ i ∷ []) chosen in
        went_back p _ _ table_problem covered room _ _ _ k same (omega arith) (rw opened refl) whole

  -- Done
  pub to_end : Here Done → Back Done (at X8 path cursor.None)
  unfolding prev covered_in
  to_end k = went_back p _ _ table_problem covered room _ _ _ k refl (omega arith) (rw (none_at_Done p path at_cursor k.fit) refl) k.stands

-- ---- the same at a state whose label is known

-- X1 alone has no state before it
abbrev IsLater : Label → Type 0
IsLater X1 = ⊥
IsLater _ = Unit {0}

-- what a step back says, from the state inside the machine
pub goes_back : {p : ProblemValue} {s t : StateValue} {old : MachineValue} {l : Label} {table_problem : ProblemValue} {covered : List ℕ} {room : ℕ} → record { problem = p; state = s } ≡ old → old.state.label ≡ l → IsLater l
    → WentBack p (at l s.path s.cursor) t table_problem covered room → GoesBack old (record { problem = p; state = t })
goes_back {p} {s} {t} {old} {l} e m later w =
    let same : at l s.path s.cursor ≡ s = ap (λ l. at l s.path s.cursor) (sym (label_of e m)) in
    let apart : at l s.path s.cursor ≡ start → ⊥ = λ f. subst IsLater (ap (λ (s : StateValue). s.label) f) later in
    subst (λ v. GoesBack v (record { problem = p; state = t })) (ap (λ s. record { problem = p; state = s }) same ∙ e)
    (record { problem = refl; state = w.steps; before = subst (λ t. IsBefore p t (at l s.path s.cursor)) (sym w.steps) (prev_before p (at l s.path s.cursor) w.fit apart) })

-- ---- which state came before X5

pub came_before : (m : MachineValue) (o : ℕ) (found : Option ℕ) → m.state.label ≡ X5 → m.state.cursor ≡ At o → found ≡ below o (remaining_after m.problem m.state.path)
    → prev m.problem m.state ≡ came_from m.state.path found
unfolding prev
came_before m o found at_label at_cursor e = rw (at_label, at_cursor, e) refl

past_before : (p : ProblemValue) (path : List ℕ) (k : Cursor) → ((o : ℕ) → k ≡ At o → ⊥) → prev_at p X5 path k ≡ came_from path (last_of (remaining_after p path))
past_before p path (At o) never = absurd (never o refl)
past_before p path _ never = refl

pub came_last : (m : MachineValue) (found : Option ℕ) → m.state.label ≡ X5 → ((o : ℕ) → m.state.cursor ≡ At o → ⊥) → found ≡ last_of (remaining_after m.problem m.state.path)
    → prev m.problem m.state ≡ came_from m.state.path found
unfolding prev
came_last m found at_label never e = rw (at_label, e) (past_before m.problem m.state.path m.state.cursor never)

-- the same, of the state inside the machine
pub came_in : {p : ProblemValue} {s : StateValue} {old : MachineValue} {before found : Option ℕ} → record { problem = p; state = s } ≡ old → old.state.label ≡ X5 → prev old.problem old.state ≡ came_from old.state.path before
    → before ≡ found → prev p (at X5 s.path s.cursor) ≡ came_from s.path found
came_in {p} {s} {old} {before} {found} e m came same =
    let inner : prev p s ≡ came_from s.path before = subst (λ v. prev v.problem v.state ≡ came_from v.state.path before) (sym e) came in
    ap (λ l. prev p (at l s.path s.cursor)) (sym (label_of e m)) ∙ inner ∙ ap (came_from s.path) same
