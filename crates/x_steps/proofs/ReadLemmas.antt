-- What a machine tells of its state.
use Rattle.std.proofs.Common.{◌≡◌, ℕ, suc, ◌+◌, ◌-◌, ◌<◌, ◌≤◌, List, [], ◌∷◌, ◌++◌, length, get_or, true, false, Bool, not, nat_lt, Option, Some, None, arith, refl, sym, ap, ◌∙◌, append_assoc, length-append}
use Rattle.std.proofs.lemmas.List.{same_from_push, get_or_at}
use Rattle.cover_problem.specs.Problem.{ProblemValue, option_at}
use Rattle.cover_problem.specs.Covering.{active, choice, list_of}
use Rattle.cover_problem.specs.Path.{covered_by, others}
use Rattle.cover_problem.proofs.ActiveLemmas.{active_item}
use Rattle.cover_problem.proofs.RemainingLemmas.{choice_active}
use Rattle.x_steps.specs.declared.state.Label.{Label}
use Rattle.x_steps.specs.declared.state.Label.TheVariants.{X2, X4, X5, X6, X7}
use Rattle.x_steps.specs.declared.state.Cursor.{Cursor}
use Rattle.x_steps.specs.declared.state.Cursor.TheVariants as cursor
use Rattle.x_steps.specs.declared.state.Cursor.TheVariants.{At}
use Rattle.x_steps.specs.StateValue.{StateValue}
use Rattle.x_steps.specs.Steps.{FitsAt, IsOpen, item_after, covered_at, covered_in, is_level, is_visit}
use Rattle.x_steps.specs.Machine.{Keeps, MachineValue, is_chosen, chosen_item, chosen_in}
use Rattle.x_steps.proofs.MachineLemmas.{from_label, chosen_is, last_at_X7, taken_at, others_count, retry_option_in, opens_ready, some_at_X7, open_at_X4, some_chosen, item_is}
use Rattle.x_steps.proofs.BackLemmas.{open_at_X5}

chosen_some : (p : ProblemValue) (s : StateValue) (l : Label) → s.label ≡ l → is_chosen l ≡ true → chosen_item p s ≡ Some (item_after p s.path)
unfolding chosen_item
chosen_some p s l e h = let f : is_chosen s.label ≡ true = ap is_chosen e ∙ h in rw f refl

not_chosen : (l : Label) → (l ≡ X4 → ⊥) → (l ≡ X5 → ⊥) → (l ≡ X6 → ⊥) → (l ≡ X7 → ⊥) → is_chosen l ≡ false
not_chosen X4 a b c d = absurd (a refl)
not_chosen X5 a b c d = absurd (b refl)
not_chosen X6 a b c d = absurd (c refl)
not_chosen X7 a b c d = absurd (d refl)
not_chosen _ a b c d = refl

-- where an item is chosen, an item is active after the path
open_chosen : (p : ProblemValue) (l : Label) (path : List ℕ) (k : Cursor) → FitsAt p l path k → is_chosen l ≡ true → IsOpen p path
open_chosen p X4 path k f e = open_at_X4 p path k f
open_chosen p X5 path k f e = open_at_X5 p path k f
open_chosen p X6 path (At o) f e = f.1.active
open_chosen p X7 path cursor.None f e = f.1
open_chosen p X6 path _ f e = absurd f
open_chosen p X7 path _ f e = absurd f
open_chosen p _ path _ f e = absurd (cc)

is_chosen_some : (p : ProblemValue) (s : StateValue) (item : ℕ) → Some item ≡ chosen_item p s → (is_chosen s.label ≡ true) × (item ≡ item_after p s.path)
unfolding chosen_item
is_chosen_some p s item e = step (is_chosen s.label) refl
  where
    step : (b : Bool) → is_chosen s.label ≡ b → (is_chosen s.label ≡ true) × (item ≡ item_after p s.path)
    step true h = let f : Some item ≡ Some (item_after p s.path) = rw h at e in (h, cc)
    step false h = let f : Some item ≡ None = rw h at e in absurd (cc)

pub row_chosen : (p : ProblemValue) (s : StateValue) (item : ℕ) (options : List ℕ) → Some item ≡ chosen_item p s → options ≡ list_of p (covered_in p s) item → Some (item, options) ≡ chosen_in p s
unfolding chosen_in
row_chosen p s item options e f = rw (← e, f) refl

module _ (p : ProblemValue) (s : StateValue) (table_problem : ProblemValue) (covered : List ℕ) (room : ℕ) (k : Keeps p s table_problem covered room) where
  pub none_chosen : (s.label ≡ X4 → ⊥) → (s.label ≡ X5 → ⊥) → (s.label ≡ X6 → ⊥) → (s.label ≡ X7 → ⊥) → None ≡ chosen_item p s
  unfolding chosen_item
  none_chosen a b c d = let f = not_chosen s.label a b c d in rw f refl

  pub ready_at_X4 : s.label ≡ X4 → 0 < length (active table_problem covered)
  ready_at_X4 e = opens_ready _ _ _ _ _ _ (from_label _ _ _ _ _ k _ e)

  pub chosen_at_X4 : s.label ≡ X4 → (item : ℕ) → item ≡ choice table_problem covered → Some item ≡ chosen_item p s
  chosen_at_X4 e item c = ap {B = Option ℕ} Some (c ∙ chosen_is _ _ _ _ _ _ (from_label _ _ _ _ _ k _ e)) ∙ sym (chosen_some p s X4 e refl)

  pub some_at_X5 : s.label ≡ X5 → 0 < length covered
  some_at_X5 e = some_chosen _ _ _ _ _ _ (from_label _ _ _ _ _ k _ e)

  pub chosen_at_X5 : s.label ≡ X5 → (item : ℕ) → (front : List ℕ) × (covered ≡ front ++ item ∷ []) → Some item ≡ chosen_item p s
  chosen_at_X5 e item last = ap {B = Option ℕ} Some (item_is _ _ _ _ _ _ item last (from_label _ _ _ _ _ k _ e)) ∙ sym (chosen_some p s X5 e refl)

  pub some_last : s.label ≡ X7 → 0 < length covered
  some_last e = some_at_X7 _ _ _ _ _ _ (from_label _ _ _ _ _ k _ e)

  pub chosen_at_X7 : s.label ≡ X7 → (item : ℕ) → (front : List ℕ) × (covered ≡ front ++ item ∷ []) → Some item ≡ chosen_item p s
  chosen_at_X7 e item last =
      let same = same_from_push _ _ _ _ (sym last.1 ∙ last_at_X7 _ _ _ _ _ _ (from_label _ _ _ _ _ k _ e)) in
      ap {B = Option ℕ} Some same.1 ∙ sym (chosen_some p s X7 e refl)

  -- at X6 the chosen item stands as far from the end of the covered list as the option is long
  module _ (o : ℕ) (e : s.label ≡ X6) (is_at : s.cursor ≡ At o) where
    pub option_at_X6 : (0 < o) × (o ≤ length p.options)
    option_at_X6 = retry_option_in _ _ _ _ _ _ o is_at (from_label _ _ _ _ _ k _ e)

    parts_at_X6 : (covered ≡ covered_by p s.path ++ item_after p s.path ∷ others (item_after p s.path) (option_at p o)) × (suc (length (others (item_after p s.path) (option_at p o))) ≡ length (option_at p o))
    parts_at_X6 = (
      taken_at _ _ _ _ _ _ o is_at (from_label _ _ _ _ _ k _ e) ∙ append_assoc (covered_by p s.path) (item_after p s.path ∷ []) (others (item_after p s.path) (option_at p o)),
      others_count _ _ _ _ _ _ o is_at (from_label _ _ _ _ _ k _ e),
    )

    module _ (option list : List ℕ) (option_is : option ≡ option_at p o) (list_is : list ≡ covered) where
      behind : length list ≡ length (covered_by p s.path) + length option
      behind =
          let r = parts_at_X6 in
          let n = ap (length {A = ℕ}) (list_is ∙ r.0) ∙ length-append (covered_by p s.path) (item_after p s.path ∷ others (item_after p s.path) (option_at p o)) in
          let m = ap (length {A = ℕ}) option_is in
          let q = r.1 in omega arith

      pub within_X6 : (length option ≤ length list) × (length list - length option < length list)
      within_X6 = let b = behind in let r = parts_at_X6 in let q = r.1 in let m = ap (length {A = ℕ}) option_is in (omega arith, omega arith)

      pub chosen_at_X6 : Some (get_or list (length list - length option) 0) ≡ chosen_item p s
      chosen_at_X6 =
          let r = parts_at_X6 in
          let b = behind in
          let place : get_or (covered_by p s.path ++ item_after p s.path ∷ others (item_after p s.path) (option_at p o)) (length list - length option) 0 ≡ item_after p s.path =
          get_or_at (covered_by p s.path) (item_after p s.path) (others (item_after p s.path) (option_at p o)) 0 (length list - length option) (omega arith) in
          ap {B = Option ℕ} Some (ap (λ c. get_or c (length list - length option) 0) (list_is ∙ r.0) ∙ place) ∙ sym (chosen_some p s X6 e refl)

  pub visit_at_X2 : s.label ≡ X2 → (b : Bool) → b ≡ nat_lt 0 (length (active table_problem covered)) → not b ≡ is_visit p s
  unfolding covered_in
  visit_at_X2 e b f =
      let behind : covered_at p s.label s.path s.cursor ≡ covered_by p s.path = rw e refl in
      let here : covered ≡ covered_by p s.path = k.stands ∙ behind in
      rw (e, f, k.same, here) refl

  -- the chosen item is an item of the problem
  pub chosen_within : (item : ℕ) → Some item ≡ chosen_item p s → (0 < item) × (item ≤ length table_problem.names)
  chosen_within item e =
      let c = is_chosen_some p s item e in
      let u = active_item p (covered_by p s.path) (item_after p s.path) k.sound (choice_active p (covered_by p s.path) (open_chosen p s.label s.path s.cursor k.fit c.0)) in
      rw (c.1, k.same) (u.some, u.within)

  pub chosen_options : (item : ℕ) (options : List ℕ) → Some item ≡ chosen_item p s → options ≡ list_of table_problem covered item → Some (item, options) ≡ chosen_in p s
  chosen_options item options e f = row_chosen p s item options e (f ∙ ap (λ q. list_of q covered item) k.same ∙ ap (λ c. list_of p c item) k.stands)

-- X2 alone is a level's
pub not_level : (l : Label) → (l ≡ X2 → ⊥) → is_level l ≡ false
not_level X2 h = absurd (h refl)
not_level _ h = refl

pub no_visit : (p : ProblemValue) (s : StateValue) → (s.label ≡ X2 → ⊥) → false ≡ is_visit p s
no_visit p s h = let e = not_level s.label h in rw e refl

pub row_none : (p : ProblemValue) (s : StateValue) → None ≡ chosen_item p s → None ≡ chosen_in p s
unfolding chosen_in
row_none p s e = rw (← e) refl

-- the chosen item of the state inside the machine
pub chosen_inside : (p : ProblemValue) (s : StateValue) (now : MachineValue) (found : Option ℕ) → record { problem = p; state = s } ≡ now → found ≡ chosen_item now.problem now.state → found ≡ chosen_item p s
chosen_inside p s now found e f = f ∙ ap (λ v. chosen_item v.problem v.state) (sym e)
