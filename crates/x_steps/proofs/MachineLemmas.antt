-- What each step keeps: the table stands for the items covered at the state.
use Rattle.std.proofs.Common.{◌≡◌, ℕ, suc, ◌-◌, ◌<◌, ◌≤◌, List, [], ◌∷◌, ◌++◌, length, take, true, false, nat_lt, Bool, Option, Some, arith, refl, sym, ap, ◌∙◌, subst, append-nil, length-append, if◌then◌else◌}
use Rattle.std.proofs.lemmas.List.{same_from_push, nil_from_length}
use Rattle.std.proofs.Math.Seq.{take-append_seam}
use Rattle.shared_words.specs.Lists.{has, above}
use Rattle.cover_problem.specs.Problem.{ProblemValue, IsProblem, option_at}
use Rattle.cover_problem.specs.Covering.{active, choice, list_of}
use Rattle.cover_problem.specs.Path.{IsChoice, IsValid, covered_by, others}
use Rattle.cover_problem.specs.Coverable.{IsUncovered, CanCover}
use Rattle.cover_problem.proofs.ActiveLemmas.{active_in, active_item}
use Rattle.cover_problem.proofs.RemainingLemmas.{choice_active, list_covered}
use Rattle.cover_problem.proofs.PathLemmas.{choice_has, can_take, taken_is, covered_by_push, covered_by_none, length-others, depth}
use Rattle.x_steps.specs.declared.state.Label.{Label}
use Rattle.x_steps.specs.declared.state.Label.TheVariants.{X1, X2, X3, X4, X5, X6, X7, X8, Done}
use Rattle.x_steps.specs.declared.state.Cursor.{Cursor}
use Rattle.x_steps.specs.declared.state.Cursor.TheVariants as cursor
use Rattle.x_steps.specs.declared.state.Cursor.TheVariants.{At, Past}
use Rattle.x_steps.specs.declared.event.Event.{Event}
use Rattle.x_steps.specs.declared.event.Event.TheVariants.{Moved, Visited, Finished}
use Rattle.x_steps.specs.StateValue.{StateValue, at}
use Rattle.x_steps.specs.Steps.{Fits, FitsAt, IsOpen, is_open, item_after, remaining_after, next_cursor, split_last, covered_in, next, event_of}
use Rattle.x_steps.specs.Machine.{Keeps, MachineValue, Goes}
use Rattle.x_steps.proofs.Neighbours.{fits_next, split_last_push}

-- at another state that fits the machine keeps what it has to, if its table stands for what is covered there
pub keeps_on : (p : ProblemValue) (s t : StateValue) (table_problem : ProblemValue) (covered : List ℕ) (room : ℕ) (new_problem : ProblemValue) (new_covered : List ℕ) (new_room : ℕ)
    → Keeps p s table_problem covered room → new_problem ≡ table_problem → room ≤ new_room → Fits p t → new_covered ≡ covered_in p t → Keeps p t new_problem new_covered new_room
keeps_on p s t table_problem covered room new_problem new_covered new_room k e r f c = record {
  sound = k.sound;
  fit = f;
  same = e ∙ k.same;
  stands = c;
  path_fits = let fits = k.path_fits in omega arith;
}

-- a step came to t, and the machine keeps what it has to
pub record Went (p : ProblemValue) (s t : StateValue) (event : Event) (table_problem : ProblemValue) (covered : List ℕ) (room : ℕ) : Type 0 where
  pub keeps : Keeps p t table_problem covered room
  pub steps : t ≡ next p s
  pub tells : event ≡ event_of p s

module _ (p : ProblemValue) (s t : StateValue) (event : Event) (table_problem : ProblemValue) (covered : List ℕ) (room : ℕ) (new_problem : ProblemValue) (new_covered : List ℕ) (new_room : ℕ) where
  went : Keeps p s table_problem covered room → new_problem ≡ table_problem → room ≤ new_room → t ≡ next p s → event ≡ event_of p s → new_covered ≡ covered_in p t → Went p s t event new_problem new_covered new_room
  went k e r n v c = record {
    keeps = keeps_on p s t table_problem covered room new_problem new_covered new_room k e r (subst (Fits p) (sym n) (fits_next p s k.fit)) c;
    steps = n;
    tells = v;
  }

-- ---- what fits at a label, whatever is known of the cursor

pub open_at_X4 : (p : ProblemValue) (path : List ℕ) (k : Cursor) → FitsAt p X4 path k → IsOpen p path
open_at_X4 p path cursor.None f = f.1
open_at_X4 p path _ f = absurd f

pub past_at_X5 : (p : ProblemValue) (path : List ℕ) (k : Cursor) → ((o : ℕ) → k ≡ At o → ⊥) → FitsAt p X5 path k → k ≡ Past
past_at_X5 p path cursor.None never f = absurd f
past_at_X5 p path (At o) never f = absurd (never o refl)
past_at_X5 p path Past never f = refl

-- a list from which nothing could be taken
-- of two equal lists whose ends are as long as each other, the fronts are equal
pub same_fronts : {X : Type 0} (xs ys us vs : List X) → xs ++ us ≡ ys ++ vs → length us ≡ length vs → xs ≡ ys
same_fronts {X} xs ys us vs e h =
    let n = ap (length {A = X}) e in let a = length-append xs us in let b = length-append ys vs in
    let same : length xs ≡ length ys = omega arith in
    sym (take-append_seam xs us) ∙ (λ i. take (same i) (e i)) ∙ take-append_seam ys vs

-- X8 with a choice moves
abbrev event_at_X8 : List ℕ → Event
event_at_X8 [] = Finished
event_at_X8 (x ∷ xs) = Moved

moved : (path new_path : List ℕ) (o : ℕ) → path ≡ new_path ++ o ∷ [] → Moved ≡ event_at_X8 path
moved [] [] o e = absurd (cc)
moved [] (x ∷ xs) o e = absurd (cc)
moved (y ∷ ys) new_path o e = refl

module _ (p : ProblemValue) (path : List ℕ) (at_cursor : Cursor) (table_problem : ProblemValue) (covered : List ℕ) (room : ℕ) where
  -- what the machine keeps at a label, whatever the cursor
  abbrev Here : Label → Type 0
  Here l = Keeps p (at l path at_cursor) table_problem covered room

  abbrev There : Label → StateValue → Event → Type 0
  There l t event = Went p (at l path at_cursor) t event table_problem covered room

  -- the same with another table
  abbrev Moves : Label → StateValue → Event → ProblemValue → List ℕ → Type 0
  Moves l t event new_problem new_covered = Went p (at l path at_cursor) t event new_problem new_covered room

  pub begins : Here X1 → There X1 (at X2 path cursor.None) Moved
  unfolding next event_of covered_in
  begins k = went p _ _ _ table_problem covered room _ _ _ k refl (omega arith) refl refl k.stands

  pub plans : Here X3 → There X3 (at X4 path cursor.None) Moved
  unfolding next event_of covered_in
  plans k = went p _ _ _ table_problem covered room _ _ _ k refl (omega arith) refl refl k.stands

  -- an item is active for the table where one is after the path
  same_open : Here X2 → nat_lt 0 (length (active table_problem covered)) ≡ is_open p path
  unfolding covered_in
  same_open k = ap (λ q. nat_lt 0 (length (active q covered))) k.same ∙ ap (λ c. nat_lt 0 (length (active p c))) k.stands

  enters_by : (b : Bool) → is_open p path ≡ b → Here X2 → There X2 (at (if b then X3 else X8) path cursor.None) (if b then Moved else Visited)
  unfolding next event_of covered_in
  enters_by true e k = went p _ _ _ table_problem covered room _ _ _ k refl (omega arith) (rw e refl) (rw e refl) k.stands
  enters_by false e k = went p _ _ _ table_problem covered room _ _ _ k refl (omega arith) (rw e refl) (rw e refl) k.stands

  pub enters : (b : Bool) → b ≡ nat_lt 0 (length (active table_problem covered)) → Here X2
      → There X2 (at (if b then X3 else X8) path cursor.None) (if b then Moved else Visited)
  enters b e k = enters_by b (sym (e ∙ same_open k)) k

  -- X4
  pub chosen_is : Here X4 → choice table_problem covered ≡ item_after p path
  unfolding covered_in
  chosen_is k = ap (λ q. choice q covered) k.same ∙ ap (λ c. choice p c) k.stands

  pub opens_ready : Here X4 → 0 < length (active table_problem covered)
  unfolding covered_in
  opens_ready k = subst (λ q. 0 < length (active q covered)) (sym k.same) (subst (λ c. 0 < length (active p c)) (sym k.stands) (open_at_X4 p path at_cursor k.fit))

  pub opens_covers : (item : ℕ) → item ≡ choice table_problem covered → Here X4 → IsUncovered table_problem covered item
  opens_covers item e k =
      let sound : IsProblem table_problem = subst IsProblem (sym k.same) k.sound in
      subst (IsUncovered table_problem covered) (sym e) (active_item table_problem covered (choice table_problem covered) sound (choice_active table_problem covered (opens_ready k)))

  pub opens : (item : ℕ) (new_problem : ProblemValue) (new_covered : List ℕ) (first : Option ℕ) (new_cursor : Cursor) → item ≡ choice table_problem covered → new_problem ≡ table_problem
      → new_covered ≡ covered ++ item ∷ [] → first ≡ above 0 (list_of new_problem new_covered item) → new_cursor ≡ next_cursor first → Here X4
      → Moves X4 (at X5 path new_cursor) Moved new_problem new_covered
  unfolding next event_of covered_in
  opens item new_problem new_covered first new_cursor e same list found to k =
      let now : item ≡ item_after p path = e ∙ chosen_is k in
      let whole : new_covered ≡ covered_by p path ++ item_after p path ∷ [] = list ∙ ap (λ c. c ++ item ∷ []) k.stands ∙ ap (λ i. covered_by p path ++ i ∷ []) now in
      let free = (active_in p (covered_by p path) (item_after p path) (choice_active p (covered_by p path) (open_at_X4 p path at_cursor k.fit))).0 in
      let options : list_of new_problem new_covered item ≡ remaining_after p path =
      ap (λ q. list_of q new_covered item) (same ∙ k.same) ∙ ap (λ c. list_of p c item) whole ∙ ap (λ i. list_of p (covered_by p path ++ item_after p path ∷ []) i) now
      ∙ list_covered p (covered_by p path) (item_after p path) [] free in
      let reached : new_cursor ≡ next_cursor (above 0 (remaining_after p path)) = to ∙ ap next_cursor (found ∙ ap (above 0) options) in
      went p _ _ _ table_problem covered room _ _ _ k same (omega arith) (ap (λ c. at X5 path c) reached) refl whole

  -- X5: the chosen item is covered last
  pub chosen_last : Here X5 → covered ≡ covered_by p path ++ item_after p path ∷ []
  unfolding covered_in
  chosen_last k = k.stands

  pub some_chosen : Here X5 → 0 < length covered
  some_chosen k = let e = ap (length {A = ℕ}) (chosen_last k) in let n = length-append (covered_by p path) (item_after p path ∷ []) in omega arith

  pub item_is : (item : ℕ) → (front : List ℕ) × (covered ≡ front ++ item ∷ []) → Here X5 → item ≡ item_after p path
  item_is item w k = (same_from_push _ _ _ _ (sym w.1 ∙ chosen_last k)).1

  -- X5 at an option
  module _ (o : ℕ) (is_at : at_cursor ≡ At o) where
    choice_at : Here X5 → IsValid p path × IsChoice p (covered_by p path) o
    choice_at k = subst (λ c. FitsAt p X5 path c) is_at k.fit

    pub option_in : Here X5 → (0 < o) × (o ≤ length p.options)
    option_in k = let t = choice_has p (covered_by p path) o (choice_at k).1 in (t.some, t.within)

    pub has_item : (item : ℕ) → (front : List ℕ) × (covered ≡ front ++ item ∷ []) → Here X5 → has (option_at p o) item ≡ true
    has_item item w k = let t = choice_has p (covered_by p path) o (choice_at k).1 in subst (λ i. has (option_at p o) i ≡ true) (sym (item_is item w k)) t.item

    pub can_cover : (item : ℕ) → (front : List ℕ) × (covered ≡ front ++ item ∷ []) → Here X5 → CanCover table_problem covered (others item (option_at p o))
    can_cover item w k =
        let t = (can_take p (covered_by p path) o k.sound (choice_at k).1).1 in
        subst (λ q. CanCover q covered (others item (option_at p o))) (sym k.same) (subst (λ i. CanCover p covered (others i (option_at p o))) (sym (item_is item w k))
        (subst (λ c. CanCover p c (others (item_after p path) (option_at p o))) (sym (chosen_last k)) t))

    pub room_left : Here X5 → length path < room
    room_left k =
        let f = choice_at k in
        let d = depth p path f.0 in
        let a = f.1.active in
        let r = k.path_fits in
        let w = k.sound.within in omega arith

    pub takes : (item : ℕ) (new_problem : ProblemValue) (new_covered : List ℕ) (new_room : ℕ) → (front : List ℕ) × (covered ≡ front ++ item ∷ []) → new_problem ≡ table_problem
        → new_covered ≡ covered ++ others item (option_at p o) → room ≤ new_room → Here X5
        → Went p (at X5 path at_cursor) (at X2 (path ++ o ∷ []) cursor.None) Moved new_problem new_covered new_room
    unfolding next event_of covered_in
    takes item new_problem new_covered new_room w same list more k =
        let whole : new_covered ≡ covered_by p (path ++ o ∷ []) =
        list ∙ ap (λ i. covered ++ others i (option_at p o)) (item_is item w k) ∙ ap (λ c. c ++ others (item_after p path) (option_at p o)) (chosen_last k)
        ∙ sym (taken_is p (covered_by p path) o) ∙ sym (covered_by_push p path o) in
        went p _ _ _ table_problem covered room _ _ _ k same more (rw is_at refl) refl whole

  -- X5 past the last option
  pub gives_up : ((o : ℕ) → at_cursor ≡ At o → ⊥) → Here X5 → There X5 (at X7 path cursor.None) Moved
  unfolding next event_of covered_in
  gives_up never k = went p _ _ _ table_problem covered room _ _ _ k refl (omega arith) (rw (past_at_X5 p path at_cursor never k.fit) refl) refl k.stands

  -- X6
  module _ (o : ℕ) (is_at : at_cursor ≡ At o) where
    pub retry_at : Here X6 → IsValid p path × IsChoice p (covered_by p path) o
    retry_at k = subst (λ c. FitsAt p X6 path c) is_at k.fit

    pub taken_at : Here X6 → covered ≡ (covered_by p path ++ item_after p path ∷ []) ++ others (item_after p path) (option_at p o)
    unfolding covered_in
    taken_at k = k.stands ∙ (rw is_at (taken_is p (covered_by p path) o))

    pub retry_option_in : Here X6 → (0 < o) × (o ≤ length p.options)
    retry_option_in k = let t = choice_has p (covered_by p path) o (retry_at k).1 in (t.some, t.within)

    pub others_count : Here X6 → suc (length (others (item_after p path) (option_at p o))) ≡ length (option_at p o)
    others_count k = let t = choice_has p (covered_by p path) o (retry_at k).1 in length-others (item_after p path) (option_at p o) t.item

    pub can_uncover : {option : List ℕ} → option ≡ option_at p o → Here X6 → (front back : List ℕ) × (covered ≡ front ++ back) × (length back ≡ length option - 1)
    can_uncover e k =
        let n = others_count k in let size = ap (length {A = ℕ}) e in (covered_by p path ++ item_after p path ∷ [], others (item_after p path) (option_at p o), taken_at k, omega arith)

    -- once the option's other items are uncovered
    module _ {option : List ℕ} (mid : List ℕ) (read : option ≡ option_at p o) (gone : (back : List ℕ) × (covered ≡ mid ++ back) × (length back ≡ length option - 1)) where
      pub mid_is : Here X6 → mid ≡ covered_by p path ++ item_after p path ∷ []
      mid_is k =
          let n = others_count k in let size = ap (length {A = ℕ}) read in let m = gone.2 in
          same_fronts mid (covered_by p path ++ item_after p path ∷ []) gone.0 (others (item_after p path) (option_at p o)) (sym gone.1 ∙ taken_at k) (omega arith)

      pub mid_some : Here X6 → 0 < length mid
      mid_some k = let e = ap (length {A = ℕ}) (mid_is k) in let n = length-append (covered_by p path) (item_after p path ∷ []) in omega arith

      mid_item : (item : ℕ) → (front : List ℕ) × (mid ≡ front ++ item ∷ []) → Here X6 → item ≡ item_after p path
      mid_item item w k = (same_from_push _ _ _ _ (sym w.1 ∙ mid_is k)).1

      mid_list : (item : ℕ) (new_problem : ProblemValue) → (front : List ℕ) × (mid ≡ front ++ item ∷ []) → new_problem ≡ table_problem → Here X6 → list_of new_problem mid item ≡ remaining_after p path
      mid_list item new_problem w same k =
          let t = choice_has p (covered_by p path) o (retry_at k).1 in
          let free = (active_in p (covered_by p path) (item_after p path) t.chosen).0 in
          ap (λ q. list_of q mid item) (same ∙ k.same) ∙ ap (λ c. list_of p c item) (mid_is k) ∙ ap (λ i. list_of p (covered_by p path ++ item_after p path ∷ []) i) (mid_item item w k)
          ∙ list_covered p (covered_by p path) (item_after p path) [] free

      pub mid_has : (item : ℕ) (new_problem : ProblemValue) → (front : List ℕ) × (mid ≡ front ++ item ∷ []) → new_problem ≡ table_problem → Here X6 → has (list_of new_problem mid item) o ≡ true
      mid_has item new_problem w same k = subst (λ l. has l o ≡ true) (sym (mid_list item new_problem w same k)) (retry_at k).1.left

      pub retries : (item : ℕ) (new_problem : ProblemValue) (found : Option ℕ) (new_cursor : Cursor) → (front : List ℕ) × (mid ≡ front ++ item ∷ []) → new_problem ≡ table_problem
          → found ≡ above o (list_of new_problem mid item) → new_cursor ≡ next_cursor found → Here X6 → Moves X6 (at X5 path new_cursor) Moved new_problem mid
      unfolding next event_of covered_in
      retries item new_problem found new_cursor w same e to k =
          let reached : new_cursor ≡ next_cursor (above o (remaining_after p path)) = to ∙ ap next_cursor (e ∙ ap (above o) (mid_list item new_problem w same k)) in
          went p _ _ _ table_problem covered room _ _ _ k same (omega arith) (rw is_at (ap (λ c. at X5 path c) reached)) refl (mid_is k)

  -- X7
  pub last_at_X7 : Here X7 → covered ≡ covered_by p path ++ item_after p path ∷ []
  unfolding covered_in
  last_at_X7 k = k.stands

  pub some_at_X7 : Here X7 → 0 < length covered
  some_at_X7 k = let e = ap (length {A = ℕ}) (last_at_X7 k) in let n = length-append (covered_by p path) (item_after p path ∷ []) in omega arith

  pub closes : (item : ℕ) (new_problem : ProblemValue) (new_covered : List ℕ) → new_problem ≡ table_problem → covered ≡ new_covered ++ item ∷ [] → Here X7
      → Moves X7 (at X8 path cursor.None) Moved new_problem new_covered
  unfolding next event_of covered_in
  closes item new_problem new_covered same e k =
      went p _ _ _ table_problem covered room _ _ _ k same (omega arith) refl refl (same_from_push _ _ _ _ (sym e ∙ last_at_X7 k)).0

  -- X8
  pub ends : (new_path : List ℕ) (new_room : ℕ) → path ≡ new_path ++ [] → length path ≡ 0 → new_room ≡ room → Here X8
      → Went p (at X8 path at_cursor) (at Done new_path cursor.None) Finished table_problem covered new_room
  unfolding next event_of covered_in
  ends new_path new_room e zero same k =
      let none = nil_from_length path zero in
      let bare : new_path ≡ [] = sym (append-nil new_path) ∙ sym e ∙ none in
      went p _ _ _ table_problem covered room _ _ _ k refl (omega arith) (rw (none, bare) refl) (rw none refl) (k.stands ∙ ap (covered_by p) (none ∙ sym bare))

  pub leaves : (new_path : List ℕ) (o : ℕ) (new_room : ℕ) → path ≡ new_path ++ o ∷ [] → new_room ≡ room → Here X8
      → Went p (at X8 path at_cursor) (at X6 new_path (At o)) Moved table_problem covered new_room
  unfolding next event_of covered_in
  leaves new_path o new_room e same k =
      let last : split_last path ≡ Some (new_path, o) = ap split_last e ∙ split_last_push new_path o in
      went p _ _ _ table_problem covered room _ _ _ k refl (omega arith) (rw last refl) (moved path new_path o e) (k.stands ∙ ap (covered_by p) e ∙ covered_by_push p new_path o)

-- ---- the same at a state whose label is known

module _ (p : ProblemValue) (s : StateValue) (table_problem : ProblemValue) (covered : List ℕ) (room : ℕ) (k : Keeps p s table_problem covered room) where
  pub from_label : (l : Label) → s.label ≡ l → Keeps p (at l s.path s.cursor) table_problem covered room
  from_label l e = subst (λ l. Keeps p (at l s.path s.cursor) table_problem covered room) e k

-- the label and the cursor that a contract tells are those of the state inside
pub label_of : {p : ProblemValue} {s : StateValue} {old : MachineValue} {l : Label} → record { problem = p; state = s } ≡ old → old.state.label ≡ l → s.label ≡ l
label_of e h = ap (λ v. v.state.label) e ∙ h

pub cursor_in : {p : ProblemValue} {s : StateValue} {old : MachineValue} {k : Cursor} → record { problem = p; state = s } ≡ old → old.state.cursor ≡ k → s.cursor ≡ k
cursor_in e h = ap (λ v. v.state.cursor) e ∙ h

pub kept_at : {p : ProblemValue} {s : StateValue} {old : MachineValue} {l : Label} {table_problem : ProblemValue} {covered : List ℕ} {room : ℕ} → record { problem = p; state = s } ≡ old → old.state.label ≡ l
    → Keeps p s table_problem covered room → Keeps p (at l s.path s.cursor) table_problem covered room
kept_at {p} {s} {old} {l} {table_problem} {covered} {room} e m k = from_label p s table_problem covered room k l (label_of e m)

-- the item that is chosen at X4, for the table and after the path
pub chosen_for : {p : ProblemValue} {s : StateValue} {old : MachineValue} {table_problem : ProblemValue} {covered : List ℕ} {room : ℕ} → record { problem = p; state = s } ≡ old → old.state.label ≡ X4
    → Keeps p s table_problem covered room → choice table_problem covered ≡ item_after old.problem old.state.path
chosen_for e m k = chosen_is _ _ _ _ _ _ (kept_at e m k) ∙ ap (λ v. item_after v.problem v.state.path) e

-- what a machine's step says, from the state inside it
pub goes : {p : ProblemValue} {s t : StateValue} {event : Event} {old : MachineValue} {l : Label} {table_problem : ProblemValue} {covered : List ℕ} {room : ℕ} → record { problem = p; state = s } ≡ old → old.state.label ≡ l
    → Went p (at l s.path s.cursor) t event table_problem covered room → Goes old (record { problem = p; state = t }) event
goes {p} {s} {t} {event} {old} {l} e m w =
    let same : at l s.path s.cursor ≡ s = ap (λ l. at l s.path s.cursor) (sym (label_of e m)) in
    subst (λ v. Goes v (record { problem = p; state = t }) event) (ap (λ s. record { problem = p; state = s }) same ∙ e) (record { problem = refl; state = w.steps; tells = w.tells })

-- a machine that was just made
pub starts : (p table_problem : ProblemValue) (covered path : List ℕ) (room : ℕ) → IsProblem p → table_problem ≡ p → covered ≡ [] → path ≡ [] → length p.names ≤ room → Keeps p (at X1 path cursor.None) table_problem covered room
unfolding covered_in
starts p table_problem covered path room sound same none empty fits = record {
  sound = sound;
  fit = empty;
  same = same;
  stands = none ∙ sym (ap (covered_by p) empty ∙ covered_by_none p);
  path_fits = fits;
}
