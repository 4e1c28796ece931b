-- Whether a text says a snapshot, as tests: each decides what it stands for.
use Rattle.std.proofs.Common.{◌≡◌, ◌↔◌, ◌<◌, ◌&&◌, ℕ, Bool, not, true, false, nat_lt, inl, inr, List, [], ◌∷◌, length, Option, Some, option_map, Result, Ok, Err, OnOk, refl, sym, subst, true≢false}
use Rattle.std.proofs.Common as common
use Rattle.std.specs.Prelude.{IfErr}
use Rattle.cover_problem.specs.Problem.{ProblemValue}
use Rattle.cover_problem.specs.Path.{IsChoice, IsValidFrom, IsValid, taken}
use Rattle.x_steps.specs.declared.state.Label.{Label}
use Rattle.x_steps.specs.declared.state.Label.TheVariants.{X1, X2, X3, X4, X5, X6, X7, X8, Done}
use Rattle.x_steps.specs.declared.state.Cursor.{Cursor}
use Rattle.x_steps.specs.declared.state.Cursor.TheVariants as cursor
use Rattle.x_steps.specs.declared.state.Cursor.TheVariants.{At, Past}
use Rattle.x_steps.specs.StateValue.{StateValue}
use Rattle.x_steps.specs.Steps.{Fits, FitsAt, IsOpen, is_open}
use Rattle.x_steps.proofs.RunLemmas.{start_fits, done_fits}
use Rattle.x_branches.specs.Branch.{first_of, end_of}
use Rattle.x_branches.specs.Runner.{IsOf}
use Rattle.x_branches.proofs.CutLemmas.{cut_fits, test_is_order}
use Rattle.x_snapshot.specs.declared.fault.SnapshotFault.{SnapshotFault}
use Rattle.x_snapshot.specs.declared.fault.SnapshotFault.TheVariants.{BadHeader, BadVersion, BadProblem, BadState, NotOnRun, OutsideBranch, Truncated, TrailingBytes, Spelling, BadBreak, OutOfMemory}
use Rattle.x_snapshot.specs.Snapshot.{SnapshotValue, IsSnapshot, IsCutIfAny, IsOnRun, IsOnBranch, path_in}
use Rattle.x_snapshot.specs.Refusals.{IsPositionRefused}
use Rattle.x_snapshot.specs.Reader.{parts_of}
use Rattle.x_snapshot.specs.ReadRefusals.{IsReadRefused, IsFaultOfText}
use Rattle.x_snapshot.specs.Judged.{is_choice, is_valid_from, is_valid, is_none, is_fit, is_fit_at, is_cut_if_any, is_on_run, is_inside, judged_parts, judged, snapshot_of}

-- a test is true where two hold, and only there
both : {A B : Type 0} {a b : Bool} → (a ≡ true ↔ A) → (b ≡ true ↔ B) → ((a && b) ≡ true) ↔ (A × B)
both {A} {B} {a} {b} f g = (split a b f g, λ h. rw (f.1 h.0, g.1 h.1) refl)
  where
    split : (a b : Bool) → (a ≡ true ↔ A) → (b ≡ true ↔ B) → (a && b) ≡ true → A × B
    split true b f g e = (f.0 refl, g.0 e)
    split false b f g e = absurd (cc)

-- where it isn't true, they don't both hold
neither : {A : Type 0} (a : Bool) → (a ≡ true ↔ A) → (A → ⊥) → a ≡ false
neither true f n = absurd (n (f.0 refl))
neither false f n = refl

-- the negation of a test
opposite : {A : Type 0} {a : Bool} → (a ≡ true ↔ A) → (not a ≡ true) ↔ (A → ⊥)
opposite {A} {a} f = (by a f, λ n. rw (neither a f n) refl)
  where
    by : (a : Bool) → (a ≡ true ↔ A) → not a ≡ true → A → ⊥
    by true f e h = true≢false (sym e)
    by false f e h = true≢false (sym (f.1 h))

some : (n : ℕ) → (nat_lt 0 n ≡ true) ↔ (0 < n)
some n = (λ e. common.ltb-true 0 n e, λ l. common.lt-ltb 0 n l)

same : {A : Type 0} → A ↔ A
same = (λ h. h, λ h. h)

choice_decides : (p : ProblemValue) (c : List ℕ) (o : ℕ) → (is_choice p c o ≡ true) ↔ IsChoice p c o
choice_decides p c o =
    let d = both (some _) same in
    (λ e. let h = d.0 e in record { active = h.0; left = h.1 }, λ h. d.1 (h.active, h.left))

valid_from_decides : (p : ProblemValue) (c path : List ℕ) → (is_valid_from p c path ≡ true) ↔ IsValidFrom p c path
valid_from_decides p c [] = (λ e. tt, λ h. refl)
valid_from_decides p c (o ∷ path) = both (choice_decides p c o) (valid_from_decides p (taken p c o) path)

pub valid_decides : (p : ProblemValue) (path : List ℕ) → (is_valid p path ≡ true) ↔ IsValid p path
unfolding IsValid
valid_decides p path = valid_from_decides p [] path

none_decides : (path : List ℕ) → (is_none path ≡ true) ↔ (path ≡ [])
none_decides [] = (λ e. refl, λ e. refl)
none_decides (o ∷ path) = (λ e. absurd (cc), λ e. absurd (cc))

never : {A : Type 0} → (A → ⊥) → (false ≡ true) ↔ A
never n = (λ e. absurd (true≢false (sym e)), λ h. absurd (n h))

open_decides : (p : ProblemValue) (path : List ℕ) → (is_open p path ≡ true) ↔ IsOpen p path
open_decides p path = some _

pub fit_decides : (p : ProblemValue) (s : StateValue) → (is_fit p s ≡ true) ↔ Fits p s
fit_decides p s = by s.label s.cursor
  where
    path : List ℕ
    path = s.path

    by : (label : Label) (c : Cursor) → (is_fit_at p label path c ≡ true) ↔ FitsAt p label path c
    by X1 cursor.None = none_decides path
    by X1 (At o) = never (λ h. h)
    by X1 Past = never (λ h. h)
    by X2 cursor.None = valid_decides p path
    by X2 (At o) = never (λ h. h)
    by X2 Past = never (λ h. h)
    by X3 cursor.None = both (valid_decides p path) (open_decides p path)
    by X3 (At o) = never (λ h. h)
    by X3 Past = never (λ h. h)
    by X4 cursor.None = both (valid_decides p path) (open_decides p path)
    by X4 (At o) = never (λ h. h)
    by X4 Past = never (λ h. h)
    by X5 cursor.None = never (λ h. h)
    by X5 (At o) = both (valid_decides p path) (choice_decides p _ o)
    by X5 Past = both (valid_decides p path) (open_decides p path)
    by X6 cursor.None = never (λ h. h)
    by X6 (At o) = both (valid_decides p path) (choice_decides p _ o)
    by X6 Past = never (λ h. h)
    by X7 cursor.None = both (valid_decides p path) (open_decides p path)
    by X7 (At o) = never (λ h. h)
    by X7 Past = never (λ h. h)
    by X8 cursor.None = valid_decides p path
    by X8 (At o) = never (λ h. h)
    by X8 Past = never (λ h. h)
    by Done cursor.None = none_decides path
    by Done (At o) = never (λ h. h)
    by Done Past = never (λ h. h)

cut_decides : (p : ProblemValue) (path : Option (List ℕ)) → (is_cut_if_any p path ≡ true) ↔ IsCutIfAny p path
cut_decides p common.None = (λ e. tt, λ h. refl)
cut_decides p (Some path) =
    let d = both (some (length path)) (valid_decides p path) in
    (λ e. let h = d.0 e in record { some = h.0; valid = h.1 }, λ h. d.1 (h.some, h.valid))

-- the cuts and the state are on the run
pub on_run_decides : (v : SnapshotValue) → (is_on_run v ≡ true) ↔ IsOnRun v.problem v.lo v.hi v.state
unfolding is_on_run
on_run_decides v =
    let d = both (cut_decides v.problem v.lo) (both (cut_decides v.problem v.hi) (fit_decides v.problem v.state)) in
    (λ e. let h = d.0 e in record { low = h.0; high = h.1.0; fits = h.1.1 }, λ h. d.1 (h.low, (h.high, h.fits)))

low_fits : (p : ProblemValue) (path : Option (List ℕ)) → IsCutIfAny p path → Fits p (first_of (option_map (path_in p) path))
low_fits p common.None c = start_fits p
low_fits p (Some path) c = cut_fits p path c

high_fits : (p : ProblemValue) (path : Option (List ℕ)) → IsCutIfAny p path → Fits p (end_of (option_map (path_in p) path))
high_fits p common.None c = done_fits p
high_fits p (Some path) c = cut_fits p path c

is_own : (p : ProblemValue) (path : Option (List ℕ)) → IsOf p (option_map (path_in p) path)
is_own p common.None = tt
is_own p (Some path) = refl

-- and these are within the branch
pub inside_decides : (v : SnapshotValue) → IsOnRun v.problem v.lo v.hi v.state → (is_inside v ≡ true) ↔ IsOnBranch v.problem v.lo v.hi v.state
unfolding is_inside
inside_decides v on =
    let p = v.problem in
    let low = low_fits p v.lo on.low in
    let high = high_fits p v.hi on.high in
    let d = both (test_is_order p _ _ low high) (both (opposite (test_is_order p _ _ on.fits low)) (opposite (test_is_order p _ _ high on.fits))) in (
      λ e. let h = d.0 e in record {
        branch = record { low = is_own p v.lo; high = is_own p v.hi; order = h.0 };
        within = record { begun = h.1.0; not_past = h.1.1 };
      },
      λ h. d.1 (h.branch.order, (h.within.begun, h.within.not_past)),
    )

-- ---- a text

-- a snapshot's parts are judged to be one
pub read_judged : (text : List ℕ) (v : SnapshotValue) → parts_of text ≡ Ok v → IsSnapshot v → snapshot_of text ≡ Ok v
read_judged text v e s = rw (e, (on_run_decides v).1 s.on_run, (inside_decides v s.on_run).1 s.inside) refl

-- what is said may be on no run, or outside the branch
pub position_refused : (v : SnapshotValue) (f : SnapshotFault) → IsPositionRefused v.problem v.lo v.hi v.state f → (f ≡ OutOfMemory → ⊥) → judged (Ok v) ≡ Err f
position_refused v NotOnRun r n = rw (neither (is_on_run v) (on_run_decides v) r) refl
position_refused v OutsideBranch r n = rw ((on_run_decides v).1 r.0, neither (is_inside v) (inside_decides v r.0) r.1) refl
position_refused v OutOfMemory r n = absurd (n refl)
position_refused v _ r n = absurd r

-- the same of a call that judges on a problem which is the same
module _ {X : Type 0} (r : Result X SnapshotFault) (p : ProblemValue) (v : SnapshotValue) (same : p ≡ v.problem) where
  pub judged_sound : OnOk r (IsOnRun p v.lo v.hi v.state) → OnOk r (IsOnBranch p v.lo v.hi v.state) → OnOk r (judged_parts v ≡ Ok v)
  judged_sound = by r
    where
      by : (r : Result X SnapshotFault) → OnOk r (IsOnRun p v.lo v.hi v.state) → OnOk r (IsOnBranch p v.lo v.hi v.state) → OnOk r (judged_parts v ≡ Ok v)
      by (Ok x) on within =
          let there : IsOnRun v.problem v.lo v.hi v.state = subst (λ (q : ProblemValue). IsOnRun q v.lo v.hi v.state) same on in
          let inside : IsOnBranch v.problem v.lo v.hi v.state = subst (λ (q : ProblemValue). IsOnBranch q v.lo v.hi v.state) same within in
          rw ((on_run_decides v).1 there, (inside_decides v there).1 inside) refl
      by (Err e) on within = tt

  pub judged_fault : IfErr r (λ f. IsPositionRefused p v.lo v.hi v.state f) → IfErr r (λ f. (f ≡ OutOfMemory → ⊥) → judged_parts v ≡ Err f)
  judged_fault = by r
    where
      by : (r : Result X SnapshotFault) → IfErr r (λ f. IsPositionRefused p v.lo v.hi v.state f) → IfErr r (λ f. (f ≡ OutOfMemory → ⊥) → judged_parts v ≡ Err f)
      by (Ok x) h = tt
      by (Err f) h = position_refused v f (subst (λ (q : ProblemValue). IsPositionRefused q v.lo v.hi v.state f) same h)

of_text : (text : List ℕ) (f : SnapshotFault) → IsFaultOfText text f → (f ≡ OutOfMemory → ⊥) → snapshot_of text ≡ Err f
of_text text f (inl e) n = rw e refl
of_text text f (inr r) n = rw r.1 (position_refused r.0 f r.2 n)

-- a fault, unless memory ran out, is the text's
pub refused_judged : (text : List ℕ) (f : SnapshotFault) → IsReadRefused text f → (f ≡ OutOfMemory → ⊥) → snapshot_of text ≡ Err f
refused_judged text NotOnRun r n = of_text text NotOnRun r n
refused_judged text OutsideBranch r n = of_text text OutsideBranch r n
refused_judged text OutOfMemory r n = absurd (n refl)
refused_judged text BadHeader r n = of_text text BadHeader r n
refused_judged text BadVersion r n = of_text text BadVersion r n
refused_judged text BadProblem r n = of_text text BadProblem r n
refused_judged text BadState r n = of_text text BadState r n
refused_judged text Truncated r n = of_text text Truncated r n
refused_judged text TrailingBytes r n = of_text text TrailingBytes r n
refused_judged text Spelling r n = of_text text Spelling r n
refused_judged text BadBreak r n = of_text text BadBreak r n
