-- Reports of stretches that join add up to the report of the whole.
use Rattle.std.proofs.Common.{◌≡◌, ◌≢◌, ◌∙◌, ℕ, suc, ◌+◌, ◌≤◌, ◌⊎◌, inl, inr, ◌==◌, Bool, true, false, Option, List, [], ◌∷◌, ◌++◌, length, map, Ok, refl, sym, ap, ap₂, subst, arith, length-append}
use Rattle.std.proofs.Common as common
use Rattle.std.proofs.lemmas.Bool.Decides.{eqb_tells}
use Rattle.shared_words.specs.Lists.{numbers}
use Rattle.cover_problem.specs.Problem.{ProblemValue}
use Rattle.x_steps.specs.StateValue.{StateValue}
use Rattle.x_steps.specs.Steps.{Fits}
use Rattle.x_steps.specs.Run.{visits, level_count, states_between}
use Rattle.x_steps.specs.Levels.{before_counts, without_last_zeros}
use Rattle.x_steps.specs.Rank.{rank}
use Rattle.x_steps.proofs.BetweenLemmas.{states_between_self, states_between_join, visits_join, level_count_join}
use Rattle.x_snapshot.specs.Snapshot.{SnapshotValue, IsSnapshot}
use Rattle.x_snapshot.specs.Writer.{snapshot_text}
use Rattle.x_snapshot.specs.Judged.{snapshot_of}
use Rattle.x_snapshot.proofs.WholeAgain.{parts_again}
use Rattle.x_snapshot.proofs.JudgedLemmas.{read_judged}
use Rattle.polylab_engine.specs.Account.{account_of, report_of, kept}
use Rattle.polylab_engine.specs.Stretch.{stretch_report}
use Rattle.polylab_engine.specs.Resumed.{branch_end, stop_of}
use Rattle.polylab_engine.specs.Joined.{levels_added, report_sum, nothing_told, sum_of, after_slice, sliced, slice_reports, AreJoined, part_reports}
use Rattle.polylab_engine.proofs.AccountLemmas.{same_reports, none_kept}
use Rattle.polylab_engine.proofs.ResumeLemmas.{end_fits, up, stop_fits, stop_up, stop_is_snapshot}

-- ---- levels

abbrev IsTold : ℕ → Type 0
IsTold x = ((x == 0) ≡ true) × (x ≡ 0) ⊎ ((x == 0) ≡ false) × (x ≢ 0)

-- a level before others, in both and in their sum
before_added : (x y : ℕ) (xs ys : List ℕ) → levels_added (before_counts x xs) (before_counts y ys) ≡ before_counts (x + y) (levels_added xs ys)
before_added x y (a ∷ xs) (b ∷ ys) = refl
before_added x y (a ∷ xs) [] = by (eqb_tells y 0)
  where
    by : IsTold y → levels_added (x ∷ a ∷ xs) (before_counts y []) ≡ (x + y) ∷ a ∷ xs
    by (inl z) = let e : x ≡ x + y = (let n = z.1 in omega arith) in rw z.0 (ap (λ k. k ∷ a ∷ xs) e)
    by (inr s) = rw s.0 refl
before_added x y [] (b ∷ ys) = by (eqb_tells x 0)
  where
    by : IsTold x → levels_added (before_counts x []) (y ∷ b ∷ ys) ≡ (x + y) ∷ b ∷ ys
    by (inl z) = let e : y ≡ x + y = (let n = z.1 in omega arith) in rw z.0 (ap (λ k. k ∷ b ∷ ys) e)
    by (inr s) = rw s.0 refl
before_added x y [] [] = by (eqb_tells x 0) (eqb_tells y 0) (eqb_tells (x + y) 0)
  where
    by : IsTold x → IsTold y → IsTold (x + y) → levels_added (before_counts x []) (before_counts y []) ≡ before_counts (x + y) []
    by (inl z) (inl w) (inl v) = rw (z.0, w.0, v.0) refl
    by (inl z) (inl w) (inr v) = absurd (v.1 (let n = z.1 in let m = w.1 in omega arith))
    by (inl z) (inr w) (inl v) = absurd (w.1 (let n = v.1 in omega arith))
    by (inl z) (inr w) (inr v) = let e : y ≡ x + y = (let n = z.1 in omega arith) in rw (z.0, w.0, v.0) (ap (λ k. k ∷ []) e)
    by (inr z) w (inl v) = absurd (z.1 (let n = v.1 in omega arith))
    by (inr z) (inl w) (inr v) = let e : x ≡ x + y = (let n = w.1 in omega arith) in rw (z.0, w.0, v.0) (ap (λ k. k ∷ []) e)
    by (inr z) (inr w) (inr v) = rw (z.0, w.0, v.0) refl

levels_join : (f g h : ℕ → ℕ) → ((n : ℕ) → h n ≡ f n + g n) → (ns : List ℕ) → levels_added (without_last_zeros (map f ns)) (without_last_zeros (map g ns)) ≡ without_last_zeros (map h ns)
unfolding without_last_zeros
levels_join f g h e [] = refl
levels_join f g h e (n ∷ ns) =
    before_added (f n) (g n) (without_last_zeros (map f ns)) (without_last_zeros (map g ns))
    ∙ ap₂ (λ (x : ℕ) (xs : List ℕ). before_counts x xs) (sym (e n)) (levels_join f g h e ns)

no_levels : (ns : List ℕ) → without_last_zeros (map (level_count []) ns) ≡ []
unfolding without_last_zeros
no_levels [] = refl
no_levels (n ∷ ns) = ap (before_counts 0) (no_levels ns)

-- ---- reports

kept_join : (keeps : Bool) (xs ys : List (List ℕ)) → kept keeps xs ++ kept keeps ys ≡ kept keeps (xs ++ ys)
kept_join true xs ys = refl
kept_join false xs ys = refl

account_join : (keeps : Bool) (p : ProblemValue) (ss ts : List StateValue) → report_sum (report_of (account_of keeps p ss)) (report_of (account_of keeps p ts)) ≡ report_of (account_of keeps p (ss ++ ts))
unfolding account_of
account_join keeps p ss ts =
    same_reports _ _
    (kept_join keeps (visits p ss) (visits p ts) ∙ ap (kept keeps) (sym (visits_join p ss ts)))
    (sym (ap length (visits_join p ss ts) ∙ length-append (visits p ss) (visits p ts)))
    (sym (length-append ss ts))
    (levels_join (level_count ss) (level_count ts) (level_count (ss ++ ts)) (level_count_join ss ts) (numbers (suc (length p.names)) 0))

none_told : (keeps : Bool) (p : ProblemValue) → nothing_told ≡ report_of (account_of keeps p [])
unfolding account_of
none_told keeps p = same_reports _ _ (sym (none_kept keeps)) refl refl (sym (no_levels (numbers (suc (length p.names)) 0)))

report_self : (keeps : Bool) (p : ProblemValue) (s : StateValue) → Fits p s → nothing_told ≡ stretch_report keeps p s s
report_self keeps p s f = none_told keeps p ∙ ap (λ ss. report_of (account_of keeps p ss)) (sym (states_between_self p s f))

report_join : (keeps : Bool) (p : ProblemValue) (s t u : StateValue) → Fits p s → Fits p t → Fits p u → rank p s ≤ rank p t → rank p t ≤ rank p u
    → report_sum (stretch_report keeps p s t) (stretch_report keeps p t u) ≡ stretch_report keeps p s u
report_join keeps p s t u f g h a b =
    account_join keeps p (states_between p s t) (states_between p t u)
    ∙ ap (λ ss. report_of (account_of keeps p ss)) (sym (states_between_join p s t u f g h a b))

-- ---- slices

-- what is true of where slices lead
record IsLater (v w : SnapshotValue) : Type 0 where
  snapshot : IsSnapshot w
  problem : w.problem ≡ v.problem
  fits : Fits v.problem w.state
  later : rank v.problem v.state ≤ rank v.problem w.state

later : (v : SnapshotValue) → IsSnapshot v → (mosts : List (Option ℕ)) → IsLater v (sliced v mosts)
later v s [] = record { snapshot = s; problem = refl; fits = s.on_run.fits; later = omega arith }
later v s (most ∷ rest) =
    let i = later (after_slice most v) (stop_is_snapshot most v s) rest in
    let u = stop_up most v s in
    let l = i.later in
    record { snapshot = i.snapshot; problem = i.problem; fits = i.fits; later = omega arith }

pub slices_join : (keeps : Bool) (v : SnapshotValue) → IsSnapshot v → (mosts : List (Option ℕ)) → sum_of (slice_reports keeps v mosts) ≡ stretch_report keeps v.problem v.state (sliced v mosts).state
slices_join keeps v s [] = report_self keeps v.problem v.state s.on_run.fits
slices_join keeps v s (most ∷ rest) =
    let next = stop_is_snapshot most v s in
    let i = later (after_slice most v) next rest in
    ap (report_sum (stretch_report keeps v.problem v.state (stop_of most v))) (slices_join keeps (after_slice most v) next rest)
    ∙ report_join keeps v.problem v.state (stop_of most v) (sliced v (most ∷ rest)).state s.on_run.fits (stop_fits most v s) i.fits (stop_up most v s) i.later

-- what a slice writes last is read as where it stopped
pub slice_goes_on : (most : Option ℕ) (v : SnapshotValue) → IsSnapshot v → IsSnapshot (after_slice most v) × (snapshot_of (snapshot_text (after_slice most v)) ≡ Ok (after_slice most v))
slice_goes_on most v s =
    let next = stop_is_snapshot most v s in
    (next, read_judged (snapshot_text (after_slice most v)) (after_slice most v) (parts_again (after_slice most v) next) next)

-- ---- parts

-- of branches that join the end is no earlier than the beginning
joined_up : (p : ProblemValue) (s t : StateValue) (vs : List SnapshotValue) → Fits p s → AreJoined p s vs t → Fits p t × (rank p s ≤ rank p t)
joined_up p s t [] f e = (subst (Fits p) e f, (let r = ap (rank p) e in omega arith))
joined_up p s t (v ∷ vs) f j =
    let there : Fits p (branch_end v) = subst (λ (q : ProblemValue). Fits q (branch_end v)) j.1 (end_fits v j.0) in
    let on = joined_up p (branch_end v) t vs there j.3 in
    let low : rank p v.state ≤ rank p (branch_end v) = subst (λ (q : ProblemValue). rank q v.state ≤ rank q (branch_end v)) j.1 (up common.None v j.0) in
    let same : rank p v.state ≡ rank p s = ap (rank p) j.2 in
    let high = on.1 in
    (on.0, omega arith)

pub parts_join : (keeps : Bool) (p : ProblemValue) (s t : StateValue) (vs : List SnapshotValue) → Fits p s → AreJoined p s vs t → sum_of (part_reports keeps vs) ≡ stretch_report keeps p s t
parts_join keeps p s t [] f e = report_self keeps p s f ∙ ap (stretch_report keeps p s) e
parts_join keeps p s t (v ∷ vs) f j =
    let there : Fits p (branch_end v) = subst (λ (q : ProblemValue). Fits q (branch_end v)) j.1 (end_fits v j.0) in
    let on = joined_up p (branch_end v) t vs there j.3 in
    let low : rank p v.state ≤ rank p (branch_end v) = subst (λ (q : ProblemValue). rank q v.state ≤ rank q (branch_end v)) j.1 (up common.None v j.0) in
    let same : rank p v.state ≡ rank p s = ap (rank p) j.2 in
    let first : stretch_report keeps v.problem v.state (branch_end v) ≡ stretch_report keeps p s (branch_end v) =
    ap₂ (λ (q : ProblemValue) (u : StateValue). stretch_report keeps q u (branch_end v)) j.1 j.2 in
    ap₂ report_sum first (parts_join keeps p (branch_end v) t vs there j.3)
    ∙ report_join keeps p s (branch_end v) t f there on.0 (omega arith) on.1
