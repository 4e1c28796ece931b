-- A machine on its way down a path to a state.
use Rattle.std.proofs.Common.{◌≡◌, ℕ, suc, ◌+◌, ◌<◌, ◌≤◌, ◌&&◌, IsTrue, All, Bool, true, false, not, nat_lt, List, [], ◌∷◌, ◌++◌, length, get_or, take, drop, refl, sym, ap, ◌∙◌, subst, add-one, arith}
use Rattle.std.proofs.Math.Seq.{take-suc}
use Rattle.std.proofs.lemmas.List.{take_all}
use Rattle.std.specs.List.{list_any}
use Rattle.std.proofs.lemmas.Bool.{ltb-true, lt-ltb, false≢true}
use Rattle.shared_words.specs.Lists.{has, above}
use Rattle.cover_problem.specs.Problem.{ProblemValue, option_at}
use Rattle.cover_problem.specs.Covering.{active, remaining, choice}
use Rattle.cover_problem.specs.Path.{IsChoice, IsValid, covered_by}
use Rattle.cover_problem.proofs.ActiveLemmas.{option_items_in}
use Rattle.cover_problem.proofs.BoundLemmas.{few}
use Rattle.cover_problem.proofs.MemberLemmas.{none_member}
use Rattle.cover_problem.proofs.PathLemmas.{covered_by_push, covered_by_none, valid_push, choice_has}
use Rattle.cover_problem.proofs.CoverLemmas.{valid_split}
use Rattle.x_steps.specs.declared.state.Label.{Label}
use Rattle.x_steps.specs.declared.state.Label.TheVariants.{X1, X2, X3, X4, X5, X6, X7, X8}
use Rattle.x_steps.specs.declared.state.Cursor.{Cursor}
use Rattle.x_steps.specs.declared.state.Cursor.TheVariants as cursor
use Rattle.x_steps.specs.declared.state.Cursor.TheVariants.{At, Past}
use Rattle.x_steps.specs.declared.event.Event.{Event}
use Rattle.x_steps.specs.StateValue.{StateValue, at, start}
use Rattle.x_steps.specs.Steps.{Fits, IsOpen, item_after, remaining_after, next_cursor, covered_in, covered_at, next}
use Rattle.x_steps.specs.Machine.{Keeps, MachineValue, Goes}
use Rattle.x_steps.specs.Flags.{AreFlagsOf}
use Rattle.x_steps.specs.Resume.{position, HasStep, IsDown}
use Rattle.x_steps.proofs.Neighbours.{open_is, parted, split_last_push}
use Rattle.x_steps.proofs.FlagLemmas.{left_by_flags, option_within, flags_taken}
use Rattle.x_steps.proofs.MachineLemmas.{from_label}
use Rattle.x_steps.proofs.BackLemmas.{valid_at_X2}

-- ---- steps of machines whose position is known

pub whole : (m : MachineValue) (p : ProblemValue) (s : StateValue) → m.problem ≡ p → m.state ≡ s → m ≡ position p s
whole m p s a b = rw (← a, ← b) refl

pub goes_on : (p : ProblemValue) (s t : StateValue) (old new : MachineValue) (event : Event) → next p s ≡ t → old ≡ position p s → Goes old new event → new ≡ position p t
goes_on p s t old new event n e g = whole new p t (g.problem ∙ ap (λ m. m.problem) e) (g.state ∙ ap (λ m. next m.problem m.state) e ∙ n)

pub label_at : (m : MachineValue) (p : ProblemValue) (s : StateValue) → m ≡ position p s → m.state.label ≡ s.label
label_at m p s e = ap (λ m. m.state.label) e

-- X2 where an item is active
pub entered : (old new : MachineValue) (event : Event) → old.state.label ≡ X2 → IsOpen old.problem old.state.path → Goes old new event → new ≡ position old.problem (at X3 old.state.path cursor.None)
unfolding next
entered old new event l h g =
    let o = open_is old.problem old.state.path h in
    let n : next old.problem old.state ≡ at X3 old.state.path cursor.None = rw (l, o) refl in
    whole new old.problem (at X3 old.state.path cursor.None) g.problem (g.state ∙ n)

pub planned : (p : ProblemValue) (path : List ℕ) (old new : MachineValue) (event : Event) → old ≡ position p (at X3 path cursor.None) → Goes old new event → new ≡ position p (at X4 path cursor.None)
unfolding next
planned p path old new event e g = goes_on p (at X3 path cursor.None) (at X4 path cursor.None) old new event refl e g

pub opened : (p : ProblemValue) (path : List ℕ) (old new : MachineValue) (event : Event) → old ≡ position p (at X4 path cursor.None) → Goes old new event → new ≡ position p (at X5 path (next_cursor (above 0 (remaining_after p path))))
unfolding next
opened p path old new event e g = goes_on p (at X4 path cursor.None) (at X5 path (next_cursor (above 0 (remaining_after p path)))) old new event refl e g

pub took : (p : ProblemValue) (path : List ℕ) (o : ℕ) (old new : MachineValue) (event : Event) → old ≡ position p (at X5 path (At o)) → Goes old new event → new ≡ position p (at X2 (path ++ o ∷ []) cursor.None)
unfolding next
took p path o old new event e g = goes_on p (at X5 path (At o)) (at X2 (path ++ o ∷ []) cursor.None) old new event refl e g

pub passed : (p : ProblemValue) (path : List ℕ) (old new : MachineValue) (event : Event) → old ≡ position p (at X5 path Past) → Goes old new event → new ≡ position p (at X7 path cursor.None)
unfolding next
passed p path old new event e g = goes_on p (at X5 path Past) (at X7 path cursor.None) old new event refl e g

pub left_from : (p : ProblemValue) (path : List ℕ) (o : ℕ) (old new : MachineValue) (event : Event) → old ≡ position p (at X8 (path ++ o ∷ []) cursor.None) → Goes old new event → new ≡ position p (at X6 path (At o))
unfolding next
left_from p path o old new event e g = goes_on p (at X8 (path ++ o ∷ []) cursor.None) (at X6 path (At o)) old new event (rw (split_last_push path o) refl) e g

pub began : (p : ProblemValue) (old new : MachineValue) (event : Event) → old ≡ position p (at X1 [] cursor.None) → Goes old new event → new ≡ position p (at X2 [] cursor.None)
unfolding next
began p old new event e g = goes_on p (at X1 [] cursor.None) (at X2 [] cursor.None) old new event refl e g

-- ---- where the same items are covered

-- at another cursor of X5
pub same_at_X5 : (m : MachineValue) (p : ProblemValue) (path : List ℕ) (k j : Cursor) → m ≡ position p (at X5 path k) → covered_in m.problem (at X5 m.state.path j) ≡ covered_in m.problem m.state
unfolding covered_in
same_at_X5 m p path k j e = rw e refl

pub same_at_X8 : (m : MachineValue) (p : ProblemValue) (path : List ℕ) (k j : Cursor) → m ≡ position p (at X2 path k) → covered_in m.problem (at X8 m.state.path j) ≡ covered_in m.problem m.state
unfolding covered_in
same_at_X8 m p path k j e = rw e refl

pub plain : (p : ProblemValue) (l : Label) (path : List ℕ) (k : Cursor) → (l ≡ X5 → ⊥) → (l ≡ X6 → ⊥) → (l ≡ X7 → ⊥) → covered_at p l path k ≡ covered_by p path
plain p X5 path k a b c = absurd (a refl)
plain p X6 path k a b c = absurd (b refl)
plain p X7 path k a b c = absurd (c refl)
plain p _ path k a b c = refl

pub same_at : (m : MachineValue) (l : Label) (k : Cursor) → m.state.label ≡ X2 → (l ≡ X5 → ⊥) → (l ≡ X6 → ⊥) → (l ≡ X7 → ⊥) → covered_in m.problem (at l m.state.path k) ≡ covered_in m.problem m.state
unfolding covered_in
same_at m l k e a b c = rw e (plain m.problem l m.state.path k a b c)

-- an option that was taken can be left from X8
pub fits_taken : (m : MachineValue) (p : ProblemValue) (path : List ℕ) (o : ℕ) → m ≡ position p (at X2 (path ++ o ∷ []) cursor.None) → Fits p (at X6 path (At o)) → Fits m.problem (at X8 m.state.path cursor.None)
fits_taken m p path o e f = rw e (valid_push p path o f.0 f.1)

pub turned : (p : ProblemValue) (s : StateValue) (l : Label) (k : Cursor) (old new : MachineValue) → old ≡ position p s → new ≡ position old.problem (at l old.state.path k) → new ≡ position p (at l s.path k)
turned p s l k old new e f = rw e at f

-- ---- down the path

pub down_here : (p : ProblemValue) (path : List ℕ) (m : MachineValue) (flags : List Bool) → IsDown p path m flags → IsDown m.problem m.state.path m flags
down_here p path m flags d =
    let e = d.here in
    subst (λ v. IsDown v.problem v.state.path m flags) (sym e) d

-- the search has begun
pub down_first : (p : ProblemValue) (old m : MachineValue) (event : Event) (flags list : List Bool) (n : ℕ) → old ≡ position p start → Goes old m event → AreFlagsOf flags n [] → n ≡ length p.names → list ≡ flags → IsDown m.problem [] m list
down_first p old m event flags list n e g a size same =
    let here : m ≡ position p (at X2 [] cursor.None) = began p old m event e g in
    let first : IsDown p [] m list = record { here = here; flagged = rw (covered_by_none p, same, ← size) a } in
    subst (λ q. IsDown q [] m list) (sym (ap (λ m. m.problem) here)) first

pub down_more : (p : ProblemValue) (path : List ℕ) (o : ℕ) (m : MachineValue) (flags : List Bool) → IsChoice p (covered_by p path) o → m ≡ position p (at X2 (path ++ o ∷ []) cursor.None)
    → AreFlagsOf flags (length p.names) (covered_by p path ++ option_at p o) → IsDown p (path ++ o ∷ []) m flags
down_more p path o m flags h e a = record { here = e; flagged = rw (covered_by_push p path o) (flags_taken p (covered_by p path) o flags (length p.names) h a) }

-- ---- whether the path can go on

module _ (p : ProblemValue) (s : StateValue) (table_problem : ProblemValue) (covered : List ℕ) (room : ℕ) (k : Keeps p s table_problem covered room) (at_label : s.label ≡ X2) where
  stands_X2 : covered ≡ covered_by p s.path
  unfolding covered_in
  stands_X2 = let h = from_label _ _ _ _ _ k _ at_label in h.stands

  pub valid_X2 : IsValid p s.path
  valid_X2 = let h = from_label _ _ _ _ _ k _ at_label in valid_at_X2 p s.path s.cursor h.fit

  pub active_X2 : (b : Bool) → b ≡ nat_lt 0 (length (active table_problem covered)) → (IsTrue b → IsOpen p s.path) × (IsOpen p s.path → IsTrue b)
  active_X2 b e =
      let same : length (active table_problem covered) ≡ length (active p (covered_by p s.path)) = ap (λ q. length (active q covered)) k.same ∙ ap (λ c. length (active p c)) stands_X2 in
      let f : b ≡ nat_lt 0 (length (active p (covered_by p s.path))) = rw (← same) e in
      (λ t. ltb-true 0 (length (active p (covered_by p s.path))) (sym f ∙ t), λ h. f ∙ lt-ltb 0 (length (active p (covered_by p s.path))) h)

  -- no option of this number
  pub option_none : (o : ℕ) (b : Bool) → b ≡ false → ((0 < o) × (o ≤ length p.options) → IsTrue b) → (IsTrue false → Fits p (at X5 s.path (At o))) × (Fits p (at X5 s.path (At o)) → IsTrue false)
  option_none o b e h = (λ f. absurd (false≢true f), λ f. let t = choice_has p (covered_by p s.path) o f.1 in sym e ∙ h (t.some, t.within))

  -- no active item
  pub active_none : (o : ℕ) (b : Bool) → b ≡ false → b ≡ nat_lt 0 (length (active table_problem covered)) → (IsTrue false → Fits p (at X5 s.path (At o))) × (Fits p (at X5 s.path (At o)) → IsTrue false)
  active_none o b e h = (λ f. absurd (false≢true f), λ f. sym e ∙ (active_X2 b h).1 f.1.active)

  -- the item that is chosen
  pub chosen_X2 : (item : ℕ) → item ≡ choice table_problem covered → item ≡ item_after p s.path
  chosen_X2 item chosen = chosen ∙ ap (λ q. choice q covered) k.same ∙ ap (λ c. choice p c) stands_X2

  -- what an option with which the path can go on tells of its items
  module _ (o : ℕ) (fits : Fits p (at X5 s.path (At o))) where
    pub known_option : (0 < o) × (o ≤ length p.options)
    known_option = let t = choice_has p (covered_by p s.path) o fits.1 in (t.some, t.within)

    pub known_items : (i : ℕ) → has (option_at p o) i ≡ true → (0 < i) × (i ≤ length table_problem.names) × (has covered i ≡ false)
    known_items i m =
        let t = choice_has p (covered_by p s.path) o fits.1 in
        let r = option_items_in p o i k.sound t.some t.within m in
        rw (k.same, stands_X2) (r.0, r.1, none_member (has (covered_by p s.path)) (option_at p o) i t.free m)

    pub known_few : length table_problem.options < 4294967295
    known_few = rw k.same (let f = (few p k.sound).1 in omega arith)

    pub known_open : 0 < length (active table_problem covered)
    known_open = rw (k.same, stands_X2) fits.1.active

    pub known_choice : has (option_at p o) (choice table_problem covered) ≡ true
    known_choice = rw (k.same, stands_X2) (choice_has p (covered_by p s.path) o fits.1).item

  module _ (o : ℕ) (some : 0 < o) (within : o ≤ length p.options) (flags : List Bool) (option : List ℕ) (is : option ≡ option_at p o) (flagged : AreFlagsOf flags (length p.names) (covered_by p s.path)) where
    pub all_within : All (λ i. i < length flags) option
    all_within = option_within p k.sound o some within flags (covered_by p s.path) option flagged is

    pub choice_X2 : (a : Bool) → a ≡ true → a ≡ nat_lt 0 (length (active table_problem covered)) → (item : ℕ) → item ≡ choice table_problem covered → (b : Bool) → b ≡ (has option item && not (list_any (λ i. get_or flags i false) option))
        → (IsTrue b → Fits p (at X5 s.path (At o))) × (Fits p (at X5 s.path (At o)) → IsTrue b)
    choice_X2 a e h item chosen b f =
        let now : item ≡ item_after p s.path = chosen_X2 item chosen in
        let left_is : b ≡ has (remaining p (covered_by p s.path) (item_after p s.path)) o =
        f ∙ left_by_flags p k.sound o some within flags (covered_by p s.path) option item flagged is ∙ ap (λ i. has (remaining p (covered_by p s.path) i) o) now in
        let active = (active_X2 a h).0 e in
        (λ t. (valid_X2, record { active = active; left = sym left_is ∙ t }), λ g. left_is ∙ g.1.left)

-- a step of the search, from the state inside the machine
pub step_inside : {p : ProblemValue} {s : StateValue} {now : MachineValue} (l : Label) (k : Cursor) → position p s ≡ now → HasStep now l k → Fits p (at l s.path k)
step_inside l k e h = subst (λ m. HasStep m l k) (sym e) h

-- where the test fails there is no choice
pub no_choice : {X : Type 0} (b : Bool) → b ≡ false → (IsTrue b → X) × (X → IsTrue b) → X → ⊥
no_choice b e h x = false≢true (sym e ∙ h.1 x)

-- ---- the same, of the state inside the machine

pub flagged_in : (p : ProblemValue) (s : StateValue) (now : MachineValue) (flags : List Bool) → position p s ≡ now → IsDown now.problem now.state.path now flags → AreFlagsOf flags (length p.names) (covered_by p s.path)
flagged_in p s now flags e d = subst (λ v. AreFlagsOf flags (length v.problem.names) (covered_by v.problem v.state.path)) (sym e) d.flagged

pub down_label : (p : ProblemValue) (s : StateValue) (q : ProblemValue) (path : List ℕ) (now : MachineValue) (flags : List Bool) → position p s ≡ now → IsDown q path now flags → s.label ≡ X2
down_label p s q path now flags e d = ap (λ m. m.state.label) (e ∙ d.here)

pub active_open : (p : ProblemValue) (s : StateValue) (table_problem : ProblemValue) (covered : List ℕ) (room : ℕ) → Keeps p s table_problem covered room → (b : Bool) → b ≡ true → b ≡ nat_lt 0 (length (active table_problem covered))
    → 0 < length (active table_problem covered)
active_open p s table_problem covered room k b e f = ltb-true 0 (length (active table_problem covered)) (sym f ∙ e)

-- a chosen option is one of the problem's
pub option_in : (p q : ProblemValue) (s t : StateValue) (now : MachineValue) (path : List ℕ) (o : ℕ) → position p s ≡ now → now ≡ position q t → Fits q (at X5 path (At o)) → (0 < o) × (o ≤ length p.options)
option_in p q s t now path o e f h =
    let same : p ≡ q = ap (λ m. m.problem) (e ∙ f) in
    let c = choice_has q (covered_by q path) o h.1 in rw same (c.some, c.within)

pub flags_now : (p q : ProblemValue) (s t : StateValue) (flags : List Bool) (n : ℕ) (now : MachineValue) (c option : List ℕ) (o : ℕ) → position p s ≡ now → now ≡ position q t → option ≡ option_at p o → AreFlagsOf flags n (c ++ option)
    → AreFlagsOf flags n (c ++ option_at q o)
flags_now p q s t flags n now c option o e f is a =
    let same : p ≡ q = ap (λ m. m.problem) (e ∙ f) in
    let whole : option ≡ option_at q o = is ∙ ap (λ r. option_at r o) same in rw (← whole) a

-- ---- one choice after another

pub not_down : (p : ProblemValue) (path : List ℕ) (k : ℕ) (m : MachineValue) (flags : List Bool) → IsDown p (take k path) m flags → k < length path → (Fits m.problem (at X5 m.state.path (At (get_or path k 0))) → ⊥)
    → IsValid p path → ⊥
unfolding IsValid covered_by
not_down p path k m flags d l never v =
    let parts = valid_split p [] (take k path) (get_or path k 0 ∷ drop (suc k) path) (rw (parted path k l) at v) in
    let e = d.here in
    never (subst (λ v. Fits v.problem (at X5 v.state.path (At (get_or path k 0)))) (sym e) (parts.0, parts.1.0))

pub down_next : (p : ProblemValue) (path : List ℕ) (k : ℕ) (old new : MachineValue) (flags new_flags : List Bool) → IsDown p (take k path) old flags → k < length path
    → IsDown old.problem (old.state.path ++ get_or path k 0 ∷ []) new new_flags → IsDown p (take (k + 1) path) new new_flags
down_next p path k old new flags new_flags d l n =
    let e = d.here in
    let f : IsDown p (take k path ++ get_or path k 0 ∷ []) new new_flags = subst (λ v. IsDown v.problem (v.state.path ++ get_or path k 0 ∷ []) new new_flags) e n in
    rw (add-one, take-suc path k 0 l) f

pub down_all : (p : ProblemValue) (path : List ℕ) (k : ℕ) (m : MachineValue) (flags : List Bool) → IsDown p (take k path) m flags → length path ≤ k → IsDown p path m flags
down_all p path k m flags d l = subst (λ q. IsDown p q m flags) (take_all k path l) d
