-- A machine on its way from one state of its search to another.
use Rattle.std.proofs.Common.{◌≡◌, ◌⊎◌, inl, inr, ℕ, suc, ◌+◌, ◌-◌, ◌<◌, ◌≤◌, List, [], ◌∷◌, ◌++◌, length, get_or, take, drop, refl, sym, ap, ◌∙◌, subst, arith, append_assoc, length-append, add-one}
use Rattle.std.proofs.lemmas.List.{take_all, take-take, take_at, length-take-le}
use Rattle.std.proofs.Math.Seq.{take-suc}
use Rattle.cover_problem.specs.Problem.{ProblemValue}
use Rattle.cover_problem.specs.Path.{IsValid, covered_by}
use Rattle.cover_problem.proofs.PathLemmas.{valid_push, valid_pop}
use Rattle.cover_problem.proofs.CoverLemmas.{valid_split}
use Rattle.x_steps.specs.declared.state.Label.{Label}
use Rattle.x_steps.specs.declared.state.Label.TheVariants.{X2, X5, X6, X7, X8}
use Rattle.x_steps.specs.declared.state.Cursor.{Cursor}
use Rattle.x_steps.specs.declared.state.Cursor.TheVariants as cursor
use Rattle.x_steps.specs.declared.state.Cursor.TheVariants.{At, Past}
use Rattle.x_steps.specs.declared.event.Event.{Event}
use Rattle.x_steps.specs.StateValue.{StateValue, at}
use Rattle.x_steps.specs.Steps.{Fits, covered_in, next}
use Rattle.x_steps.specs.Before.{prev}
use Rattle.x_steps.specs.Machine.{MachineValue, Goes, GoesBack}
use Rattle.x_steps.specs.Resume.{position, IsOnPath, IsOnItsPath}
use Rattle.x_steps.proofs.Neighbours.{parted, split_last_push, split_last_cases}
use Rattle.x_steps.proofs.OrderLemmas.{fits_valid}
use Rattle.x_steps.proofs.ResumeLemmas.{whole, plain, goes_on}

-- ---- steps of machines whose position is known

pub closed : (p : ProblemValue) (path : List ℕ) (old new : MachineValue) (event : Event) → old ≡ position p (at X7 path cursor.None) → Goes old new event → new ≡ position p (at X8 path cursor.None)
unfolding next
closed p path old new event e g = goes_on p (at X7 path cursor.None) (at X8 path cursor.None) old new event refl e g

goes_back_on : (p : ProblemValue) (s t : StateValue) (old new : MachineValue) → prev p s ≡ t → old ≡ position p s → GoesBack old new → new ≡ position p t
goes_back_on p s t old new n e g = whole new p t (g.problem ∙ ap (λ m. m.problem) e) (g.state ∙ ap (λ m. prev m.problem m.state) e ∙ n)

pub unentered : (p : ProblemValue) (path : List ℕ) (o : ℕ) (old new : MachineValue) → old ≡ position p (at X2 (path ++ o ∷ []) cursor.None) → GoesBack old new → new ≡ position p (at X5 path (At o))
unfolding prev
unentered p path o old new e g = goes_back_on p (at X2 (path ++ o ∷ []) cursor.None) (at X5 path (At o)) old new (rw (split_last_push path o) refl) e g

pub retaken : (p : ProblemValue) (path : List ℕ) (o : ℕ) (old new : MachineValue) → old ≡ position p (at X6 path (At o)) → GoesBack old new → new ≡ position p (at X8 (path ++ o ∷ []) cursor.None)
unfolding prev
retaken p path o old new e g = goes_back_on p (at X6 path (At o)) (at X8 (path ++ o ∷ []) cursor.None) old new refl e g

-- a machine whose label and cursor are known
pub known : (m : MachineValue) (l : Label) (k : Cursor) → m.state.label ≡ l → m.state.cursor ≡ k → m ≡ position m.problem (at l m.state.path k)
known m l k e f = rw (← e, ← f) refl

-- ---- where the same items are covered

-- between X2 and X8
pub same_uncovered : (m : MachineValue) (p : ProblemValue) (path : List ℕ) (k : Cursor) → m ≡ position p (at X8 path k) → covered_in m.problem (at X2 m.state.path cursor.None) ≡ covered_in m.problem m.state
unfolding covered_in
same_uncovered m p path k e = rw e refl

-- from any step at which the chosen item isn't covered, to X2
pub same_before : (m : MachineValue) → (m.state.label ≡ X5 → ⊥) → (m.state.label ≡ X6 → ⊥) → (m.state.label ≡ X7 → ⊥) → covered_in m.problem (at X2 m.state.path cursor.None) ≡ covered_in m.problem m.state
unfolding covered_in
same_before m a b c = sym (plain m.problem m.state.label m.state.path m.state.cursor a b c)

-- from X5 and from X7
pub same_from_X5 : (m : MachineValue) (k : Cursor) → m.state.label ≡ X5 → covered_in m.problem (at X5 m.state.path k) ≡ covered_in m.problem m.state
unfolding covered_in
same_from_X5 m k e = rw e refl

pub same_from_X7 : (m : MachineValue) (k : Cursor) → m.state.label ≡ X7 → covered_in m.problem (at X5 m.state.path k) ≡ covered_in m.problem m.state
unfolding covered_in
same_from_X7 m k e = rw e refl

-- ---- what fits

-- what is valid for the state inside a machine
pub valid_in : (p : ProblemValue) (s : StateValue) (m : MachineValue) → position p s ≡ m → Fits p s → IsValid m.problem m.state.path
valid_in p s m e f = subst (λ m. IsValid m.problem m.state.path) e (fits_valid p s.label s.path s.cursor f)

pub valid_taken : (p : ProblemValue) (s : StateValue) (m : MachineValue) (o : ℕ) → position p s ≡ m → s.label ≡ X6 → s.cursor ≡ At o → Fits p s → IsValid m.problem (m.state.path ++ o ∷ [])
valid_taken p s m o e l k f =
    let here : Fits p (at X6 s.path (At o)) = subst (λ j. Fits p (at X6 s.path j)) k (subst (λ i. Fits p (at i s.path s.cursor)) l f) in
    subst (λ m. IsValid m.problem (m.state.path ++ o ∷ [])) e (valid_push p s.path o here.0 here.1)

pub label_in : (p : ProblemValue) (s : StateValue) (m : MachineValue) (l : Label) → position p s ≡ m → s.label ≡ l → m.state.label ≡ l
label_in p s m l e h = sym (ap (λ m. m.state.label) e) ∙ h

pub not_label : (p : ProblemValue) (s : StateValue) (m : MachineValue) (l : Label) → position p s ≡ m → (s.label ≡ l → ⊥) → m.state.label ≡ l → ⊥
not_label p s m l e h k = h (ap (λ m. m.state.label) e ∙ k)

-- ---- on a path

module _ (p : ProblemValue) (path : List ℕ) (m : MachineValue) (on : IsOnPath p path m) where
  pub on_problem : m.problem ≡ p
  on_problem = look on.here
    where
      look : (m ≡ position p (at X2 path cursor.None)) ⊎ (m ≡ position p (at X5 path Past)) → m.problem ≡ p
      look (inl e) = ap (λ m. m.problem) e
      look (inr e) = ap (λ m. m.problem) e

  pub on_the_path : m.state.path ≡ path
  on_the_path = look on.here
    where
      look : (m ≡ position p (at X2 path cursor.None)) ⊎ (m ≡ position p (at X5 path Past)) → m.state.path ≡ path
      look (inl e) = ap (λ m. m.state.path) e
      look (inr e) = ap (λ m. m.state.path) e

  pub on_its_own : IsOnItsPath m
  on_its_own = rw (← on_problem, ← on_the_path) at on

  pub on_valid : IsValid p path
  on_valid = subst (IsValid p) on_the_path (fits_valid p m.state.label m.state.path m.state.cursor on.fits)

-- at X2, and past the options
pub on_at_X2 : (p : ProblemValue) (path : List ℕ) (m : MachineValue) → m ≡ position p (at X2 path cursor.None) → IsValid p path → IsOnPath p path m
on_at_X2 p path m e v = record { here = inl e; fits = rw e v }

pub on_past : (p : ProblemValue) (path : List ℕ) (m : MachineValue) → m ≡ position p (at X5 path Past) → Fits p (at X5 path Past) → IsOnPath p path m
on_past p path m e f = record { here = inr e; fits = rw e f }

-- at X2 on its own path
pub turned_on : (old new : MachineValue) → new ≡ position old.problem (at X2 old.state.path cursor.None) → IsValid old.problem old.state.path → IsOnItsPath new
turned_on old new e v = on_its_own old.problem old.state.path new (on_at_X2 old.problem old.state.path new e v)

pub taken_on : (old new : MachineValue) (o : ℕ) → new ≡ position old.problem (at X2 (old.state.path ++ o ∷ []) cursor.None) → IsValid old.problem (old.state.path ++ o ∷ []) → IsOnItsPath new
taken_on old new o e v = on_its_own old.problem (old.state.path ++ o ∷ []) new (on_at_X2 old.problem (old.state.path ++ o ∷ []) new e v)

-- ---- up

-- a path that isn't empty has a last choice, and is valid without it
pub record Parts (p : ProblemValue) (path : List ℕ) : Type 0 where
  pub front : List ℕ
  pub last : ℕ
  pub parts : path ≡ front ++ last ∷ []
  pub is_front : take (length path - 1) path ≡ front
  pub past : Fits p (at X5 front Past)

pub parts_of : (p : ProblemValue) (path : List ℕ) → 0 < length path → IsValid p path → Parts p path
parts_of p path l v = look (split_last_cases path)
  where
    look : (path ≡ []) ⊎ ((q : List ℕ) × (o : ℕ) × (path ≡ q ++ o ∷ [])) → Parts p path
    look (inl e) = let n = ap (length {A = ℕ}) e in absurd (omega arith)
    look (inr s) =
        let n : length path ≡ length s.0 + 1 = ap (length {A = ℕ}) s.2 ∙ length-append s.0 (s.1 ∷ []) in
        let w = valid_pop p s.0 s.1 (rw s.2 at v) in
        let size : length s.0 ≡ length path - 1 = omega arith in
        record {
          front = s.0;
          last = s.1;
          parts = s.2;
          is_front = ap (take (length path - 1)) s.2 ∙ take_at s.0 (s.1 ∷ []) (length path - 1) size;
          past = (w.0, w.1.active);
        }

-- a step back from the end of the path
pub up_to_last : (p : ProblemValue) (path : List ℕ) (parts : Parts p path) (old new : MachineValue) → old ≡ position p (at X2 path cursor.None) → GoesBack old new → new ≡ position p (at X5 parts.front (At parts.last))
up_to_last p path parts old new e g = unentered p parts.front parts.last old new (e ∙ ap (λ q. position p (at X2 q cursor.None)) parts.parts) g

-- one choice less
pub rose : (p q : ProblemValue) (path other : List ℕ) (len level k : ℕ) (m : MachineValue) → q ≡ p → other ≡ take (length path - k) path → length path ≡ len → k < len - level → IsOnPath q (take (length other - 1) other) m
    → IsOnPath p (take (length path - (k + 1)) path) m
rose p q path other len level k m same e is h on =
    let size : length other ≡ length path - k = ap (length {A = ℕ}) e ∙ length-take-le (length path - k) path (omega arith) in
    let less : length other - 1 ≡ length path - (k + 1) = omega arith in
    let front : take (length other - 1) other ≡ take (length path - (k + 1)) path =
    ap (λ i. take i other) less ∙ ap (take (length path - (k + 1))) e ∙ take-take (length path - (k + 1)) (length path - k) path (omega arith) in
    rw (same, front) at on

-- a choice is left to take back
pub some_left : (path other : List ℕ) (len level k : ℕ) → other ≡ take (length path - k) path → length path ≡ len → k < len - level → 0 < length other
some_left path other len level k e is l = let m = ap (length {A = ℕ}) e ∙ length-take-le (length path - k) path (omega arith) in omega arith

-- none is taken back yet, and all are
pub rise_from : (p : ProblemValue) (path : List ℕ) (m : MachineValue) → IsOnPath p path m → IsOnPath p (take (length path - 0) path) m
rise_from p path m on = rw (take_all (length path - 0) path (omega arith)) on

pub rise_ended : (p : ProblemValue) (path : List ℕ) (len level k : ℕ) (m : MachineValue) → level ≤ length path → length path ≡ len → k ≤ len - level → len - level ≤ k → IsOnPath p (take (length path - k) path) m → IsOnPath p (take level path) m
rise_ended p path len level k m w is a b on = let same : length path - k ≡ level = omega arith in rw same at on

-- ---- down

-- the next choice of a valid path
pub next_fits : (p q : ProblemValue) (front path other : List ℕ) (k : ℕ) → q ≡ p → other ≡ front ++ take k path → k < length path → IsValid p (front ++ path) → Fits q (at X5 other (At (get_or path k 0)))
unfolding IsValid covered_by
next_fits p q front path other k same e l v =
    let whole_path : front ++ path ≡ (front ++ take k path) ++ get_or path k 0 ∷ drop (suc k) path = ap (λ xs. front ++ xs) (parted path k l) ∙ sym (append_assoc front (take k path) (get_or path k 0 ∷ drop (suc k) path)) in
    let parts = valid_split p [] (front ++ take k path) (get_or path k 0 ∷ drop (suc k) path) (rw whole_path at v) in
    rw (same, e) (parts.0, parts.1.0)

pub went_down : (p q : ProblemValue) (front path other : List ℕ) (k : ℕ) (m : MachineValue) → q ≡ p → other ≡ front ++ take k path → k < length path → Fits q (at X5 other (At (get_or path k 0))) → m ≡ position q (at X2 (other ++ get_or path k 0 ∷ []) cursor.None)
    → IsOnPath p (front ++ take (k + 1) path) m
went_down p q front path other k m same e l f here =
    let longer : other ++ get_or path k 0 ∷ [] ≡ front ++ take (k + 1) path =
    rw (add-one, take-suc path k 0 l, e) (append_assoc front (take k path) (get_or path k 0 ∷ [])) in
    let on : IsOnPath q (other ++ get_or path k 0 ∷ []) m = on_at_X2 q (other ++ get_or path k 0 ∷ []) m here (valid_push q other (get_or path k 0) f.0 f.1) in
    rw (same, longer) at on

-- after the last of them
pub down_to : (p : ProblemValue) (front path : List ℕ) (k : ℕ) (m : MachineValue) → IsOnPath p (front ++ take k path) m → length path ≤ k → IsOnPath p (front ++ path) m
down_to p front path k m on l = subst (λ q. IsOnPath p (front ++ q) m) (take_all k path l) on
