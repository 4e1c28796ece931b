-- A session that goes on from a snapshot.
use Rattle.std.proofs.Common.{◌≡◌, ℕ, true, false, cond, List, ◌++◌, Option, Some, Result, Ok, Err, OnOk, unwrap_or, refl, sym, ap, ap₂, ◌∙◌, subst}
use Rattle.std.specs.List.{list_all}
use Rattle.std.proofs.lemmas.Bool.{and_parts}
use Rattle.text_lines.specs.Writing.{line_text}
use Rattle.cover_problem.specs.Problem.{ProblemValue, is_same}
use Rattle.x_steps.specs.StateValue.{StateValue}
use Rattle.x_steps.proofs.StretchLemmas.{reached_fits}
use Rattle.x_branches.specs.declared.branch.Branch.{Branch}
use Rattle.x_branches.specs.Runner.{RunnerValue, IsRunner, runner_at}
use Rattle.x_branches.specs.Refusals.{CanStart}
use Rattle.x_texts.specs.declared.breakpoint.Break.{Break}
use Rattle.x_snapshot.specs.declared.fault.SnapshotFault.{SnapshotFault}
use Rattle.x_snapshot.specs.declared.fault.SnapshotFault.TheVariants as snapshot
use Rattle.x_snapshot.specs.Faults.{number_of, name_of}
use Rattle.x_texts.specs.Breaks.{is_break, are_new, are_breaks}
use Rattle.x_snapshot.specs.Snapshot.{SnapshotValue, branch_between}
use Rattle.x_snapshot.specs.Judged.{judged_parts, judged, snapshot_of}
use Rattle.x_snapshot.specs.Reader.{parts_of}
use Rattle.lab_history.specs.declared.fault.BookFault.TheVariants.{ForeignProblem}
use Rattle.lab_history.specs.declared.entry.Call.TheVariants as call
use Rattle.lab_book.specs.Tiling.{IsTiling}
use Rattle.lab_book.specs.Book.{BookValue, new_book, outcome, book_step}
use Rattle.lab_world.specs.Worker.{WorkerValue, StandsAtFirst, lent_worker}
use Rattle.lab_world.specs.World.{WorldValue, IsSeat}
use Rattle.lab_world.specs.Alone.{alone}
use Rattle.lab_world.proofs.TurnLemmas.{lease_any_seat}
use Rattle.debug_language.specs.declared.words.Layer.TheVariants as layer
use Rattle.debug_language.specs.Replies.{refused_words}
use Rattle.debug_acts.specs.Lines.{state_line, book_refusal, snapshot_refusal}
use Rattle.x_debug.specs.Session.{SessionValue, entered}
use Rattle.x_debug.specs.LoadedTexts.{resumed, with_some, seated, loaded}
use Rattle.x_debug.specs.Commands.{Answer}
use Rattle.x_debug.specs.LoadedTexts.{answers, load_by, load_answer}

-- ---- the session that goes on

-- where a runner stands a search can start
pub can_start : (r : RunnerValue) → IsRunner r → CanStart r.problem r.branch r.position
can_start r g = record {
  fits = reached_fits r.problem r.mark r.position _ g.stretch.fits g.stretch.reaches;
  branch = g.branch;
  within = g.position_in;
}

-- the book of a runner that has just been started, whose one tile it can search
module _ (p : ProblemValue) (b : Branch) (s : StateValue) (book : BookValue) (r : RunnerValue) (at : r ≡ runner_at p b s) (made : book ≡ new_book p r.branch r.position) where
  pub fresh_at : book ≡ new_book p b s
  fresh_at = made ∙ ap (λ (q : RunnerValue). new_book p q.branch q.position) at

  pub stands_first : StandsAtFirst book r
  stands_first = subst (λ (c : BookValue). StandsAtFirst c r) (sym fresh_at) (record { place = 0; first = refl; runner = at })

-- a book of a snapshot of this problem, and the worker that leases its tile
module _ (p : ProblemValue) (v : SnapshotValue) (same : v.problem ≡ p) (b new : BookValue) (x : Option WorkerValue) (fresh : b ≡ new_book p (branch_between p v.lo v.hi) v.state)
    (lease : new ≡ book_step b 0 call.LeaseAny) (worker : x ≡ lent_worker b.problem (outcome b 0 call.LeaseAny).reply) where
  pub world_is : alone new x ≡ resumed v
  world_is = ap₂ alone lease worker ∙ ap entered (fresh ∙ ap (λ (q : ProblemValue). new_book q (branch_between q v.lo v.hi) v.state) (sym same))

  pub desk_seat : IsTiling b.problem b.branch b.first b.tiles → IsSeat new 0 x
  desk_seat tiling = subst (λ (c : BookValue). IsSeat c 0 x) (sym lease) (subst (IsSeat (book_step b 0 call.LeaseAny) 0) (sym worker) (lease_any_seat b 0 tiling))

-- with these, and the snapshot's breakpoints, a session goes on
module _ (v : SnapshotValue) (b : BookValue) (x : Option WorkerValue) (made : alone b x ≡ resumed v) where
  pub world_problem : (p : ProblemValue) → v.problem ≡ p → b.problem ≡ p
  world_problem p same = ap (λ (d : WorldValue). d.book.problem) made ∙ same

  pub met_by_seated : (t s : SessionValue) → t ≡ seated s (alone b x) → (breaks : List Break) → breaks ≡ v.breaks → are_breaks v.problem v.breaks ≡ true → list_all (is_break t.book.problem) breaks ≡ true
  met_by_seated t s e breaks h g =
      let problem : t.book.problem ≡ v.problem = ap (λ (u : SessionValue). u.book.problem) e ∙ ap (λ (d : WorldValue). d.book.problem) made in
      rw (problem, h) (and_parts (list_all (is_break v.problem) v.breaks) (are_new v.breaks) g).0

  pub loaded_is : (s t u : SessionValue) → t ≡ seated s (alone b x) → (breaks : List Break) → breaks ≡ v.breaks → u ≡ with_some t breaks → u ≡ loaded s v
  loaded_is s t u e breaks h f = f ∙ ap₂ with_some e h ∙ ap (λ (d : WorldValue). with_some (seated s d) v.breaks) made

-- ---- what is answered

-- the answers to a snapshot
pub foreign_answer : (s : SessionValue) (v : SnapshotValue) → is_same v.problem s.book.problem ≡ false → load_by s (Ok v) ≡ answers (book_refusal ForeignProblem) s
foreign_answer s v other = ap (λ b. cond b (answers (state_line v.state) (loaded s v)) (answers (book_refusal ForeignProblem) s)) other

pub resumed_answer : (s : SessionValue) (v : SnapshotValue) → is_same v.problem s.book.problem ≡ true → load_by s (Ok v) ≡ answers (state_line v.state) (loaded s v)
resumed_answer s v same = ap (λ b. cond b (answers (state_line v.state) (loaded s v)) (answers (book_refusal ForeignProblem) s)) same

-- what a write or a call gave is answered
pub said : {X E : Type 0} (r : Result X E) (old new : List ℕ) (a c : Answer) → a ≡ c → OnOk r (new ≡ old ++ c.text) → OnOk r (new ≡ old ++ a.text)
said (Ok x) old new a c e h = h ∙ ap (λ (d : Answer). old ++ d.text) (sym e)
said (Err x) old new a c e h = tt

pub left : {X E : Type 0} (r : Result X E) (new : SessionValue) (a c : Answer) → a ≡ c → OnOk r (new ≡ c.session) → OnOk r (new ≡ a.session)
left (Ok x) new a c e h = h ∙ ap (λ (d : Answer). d.session) (sym e)
left (Err x) new a c e h = tt

-- a text is answered by what it says, which is judged
module _ (s : SessionValue) (bytes : List ℕ) where
  pub load_is : load_answer s bytes ≡ load_by s (snapshot_of bytes)
  unfolding load_answer
  load_is = refl

  pub read_answer : (v : SnapshotValue) → parts_of bytes ≡ Ok v → load_answer s bytes ≡ load_by s (judged_parts v)
  unfolding load_answer
  read_answer v e = ap (λ (r : Result SnapshotValue SnapshotFault). load_by s (judged r)) e

-- a text that says what is judged so, and is none
module _ (s : SessionValue) (found : Result SnapshotValue SnapshotFault) where
  none_answer : (f : SnapshotFault) → found ≡ Err f → load_by s found ≡ answers (snapshot_refusal f) s
  none_answer f e = ap (load_by s) e

  abbrev Told : SnapshotFault → List ℕ → List ℕ → Type 0
  Told f old new = (n : ℕ) × (number_of f ≡ Some n) × (new ≡ old ++ line_text (refused_words layer.Snapshot n (name_of f)))

  told_answer : (f : SnapshotFault) (old new : List ℕ) → ((f ≡ snapshot.OutOfMemory → ⊥) → found ≡ Err f) → Told f old new → load_by s found ≡ answers (snapshot_refusal f) s
  told_answer f old new r w = none_answer f (r (λ m. let h = sym w.1 ∙ ap number_of m in absurd (cc)))

  pub none_said : {X E : Type 0} (r : Result X E) (f : SnapshotFault) (old new : List ℕ) → ((f ≡ snapshot.OutOfMemory → ⊥) → found ≡ Err f) → OnOk r (Told f old new) → OnOk r (new ≡ old ++ (load_by s found).text)
  none_said (Ok x) f old new r w =
      let number : w.0 ≡ unwrap_or (number_of f) 0 = ap (λ (o : Option ℕ). unwrap_or o 0) (sym w.1) in
      w.2 ∙ ap (λ n. old ++ line_text (refused_words layer.Snapshot n (name_of f))) number ∙ ap (λ (d : Answer). old ++ d.text) (sym (told_answer f old new r w))
  none_said (Err x) f old new r w = tt

  pub none_left : {X E : Type 0} (r : Result X E) (f : SnapshotFault) (old new : List ℕ) → ((f ≡ snapshot.OutOfMemory → ⊥) → found ≡ Err f) → OnOk r (Told f old new) → OnOk r (s ≡ (load_by s found).session)
  none_left (Ok x) f old new r w = ap (λ (d : Answer). d.session) (sym (told_answer f old new r w))
  none_left (Err x) f old new r w = tt
