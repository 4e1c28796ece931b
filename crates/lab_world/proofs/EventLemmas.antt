-- What an act answers and leaves is its turn's.
use Rattle.std.proofs.Common.{◌≡◌, ℕ, ◌<◌, ◌==◌, Bool, true, false, Option, Some, None, Result, Ok, Err, List, length, take, filter, refl}
use Rattle.std.proofs.Common.{sym, ap, ◌∙◌, subst, inl, inr, arith, eq-eqb, is_some}
use Rattle.std.specs.Prelude.{if◌then◌else◌, IfOk}
use Rattle.std.proofs.lemmas.Bool.{false≢true, false_from_ne_true, ne_eqb}
use Rattle.shared_words.specs.Lists.{has}
use Rattle.cover_problem.proofs.MemberLemmas.{has_filter_in}
use Rattle.x_steps.specs.declared.state.State.{State}
use Rattle.x_steps.specs.StateView.{state_value}
use Rattle.x_steps.specs.declared.event.Event.{Event}
use Rattle.x_steps.specs.declared.event.Event.TheVariants as event
use Rattle.x_steps.specs.StateValue.{StateValue}
use Rattle.x_steps.specs.Steps.{next, event_of}
use Rattle.x_steps.specs.Before.{prev}
use Rattle.x_branches.specs.declared.fault.RunnerFault.{RunnerFault}
use Rattle.x_branches.specs.declared.fault.RunnerFault.TheVariants as runner
use Rattle.x_branches.specs.Branch.{end_of}
use Rattle.x_branches.specs.Cut.{CutPath, choices}
use Rattle.x_branches.specs.Runner.{RunnerValue, unposted_steps}
use Rattle.x_branches.specs.Untried.{left_above, is_before_end, with_choice}
use Rattle.x_branches.specs.Refusals.{untried_in, CanAdvance, AdvanceRefused, CutRefused, cut_at}
use Rattle.x_branches.proofs.UntriedLemmas.{untried_left}
use Rattle.lab_history.specs.declared.fault.BookFault.{BookFault}
use Rattle.lab_history.specs.declared.fault.BookFault.TheVariants.{OutOfMemory}
use Rattle.lab_history.specs.declared.entry.Call.{Call}
use Rattle.lab_history.specs.declared.entry.Call.TheVariants as call
use Rattle.lab_history.specs.declared.entry.Reply.{Reply}
use Rattle.lab_history.specs.declared.entry.Reply.TheVariants as reply
use Rattle.lab_book.specs.States.{same_state}
use Rattle.lab_book.specs.Book.{BookValue, outcome, book_step}
use Rattle.lab_book.specs.Calls.{Made, Refuses, post_of}
use Rattle.lab_book.proofs.TileLemmas.{same_state_is, is_same_state}
use Rattle.lab_world.specs.declared.event.Act.TheVariants.{Step, Back, Lease, LeaseAny, TakeHeld, Post, Split, Retract, Park, Abandon}
use Rattle.lab_world.specs.declared.event.Act.TheVariants.{Close, PutBack, RequestStop}
use Rattle.lab_world.specs.declared.event.WorldReply.{WorldReply}
use Rattle.lab_world.specs.declared.event.WorldReply.TheVariants as reply_of
use Rattle.lab_history.specs.declared.ending.Ending.{Ending}
use Rattle.lab_history.specs.declared.ending.Ending.TheVariants as ending
use Rattle.lab_world.specs.declared.worker.leases.Wanted.{Wanted}
use Rattle.lab_world.specs.declared.worker.leases.Wanted.TheVariants as wanted
use Rattle.lab_history.specs.Ending.{call_of_end}
use Rattle.lab_world.specs.Worker.{WorkerValue, moved_to, unposted, shortened, split_call, lease_call}
use Rattle.lab_world.specs.Worker.{lent_worker, after_post, after_split, after_retract, after_end, RetractRefused, WorkerSplitRefused}
use Rattle.lab_world.specs.declared.event.Act.{Act}
use Rattle.lab_world.specs.declared.fault.WorkerFault.TheVariants as worker_fault
use Rattle.lab_world.specs.World.{Turn, Turned, turn_of, called, stays, cut_refusal, lease_act, end_act}

-- ---- calls of the book

module _ (b new : BookValue) (w n : ℕ) (c : Call) (becomes : Reply → Option WorkerValue) (x : Option WorkerValue)
    (index : n ≡ length b.history) where
  -- the book made a call
  made_turned : (r : Reply) → Made b new w c r → becomes r ≡ x → Turned (called b w c becomes) (reply_of.Book n) new x
  made_turned r m e = record { reply = ap reply_of.Book index; book = m.book; worker = sym e ∙ ap becomes m.reply }

  -- or refused it, and noted that
  refused_turned : (f : BookFault) → Refuses b new w c f → (f ≡ OutOfMemory → ⊥) → ((f : BookFault) → becomes (reply.Refused f) ≡ x)
      → Turned (called b w c becomes) (reply_of.Book n) new x
  refused_turned f (inl m) o e = absurd (o m.0)
  refused_turned f (inr m) o e = made_turned (reply.Refused f) m.1 (e f)

-- a reply that there is where memory doesn't run out
pub told : {E : Type 0} (r : Result WorldReply E) (v : WorldReply) (N : Type 0) (P : WorldReply → Type 0) → IfOk r (λ u. u ≡ v)
    → IfOk r (λ u. N) → (N → P v) → IfOk r P
told (Ok u) v N P e h f = subst P (sym e) (f h)
told (Err x) v N P e h f = tt

-- ---- steps

-- nothing changes
pub stays_turned : (b : BookValue) (x : Option WorkerValue) (r : WorldReply) → Turned (stays b x r) r b x
stays_turned b x r = record { reply = refl; book = refl; worker = refl }

first_of_two : (c : Bool) (t u : Turn) (r : WorldReply) (b : BookValue) (x : Option WorkerValue) → c ≡ true → Turned t r b x
    → Turned (if c then t else u) r b x
first_of_two c t u r b x e h = rw e h

second_of_two : (c : Bool) (t u : Turn) (r : WorldReply) (b : BookValue) (x : Option WorkerValue) → c ≡ false → Turned u r b x
    → Turned (if c then t else u) r b x
second_of_two c t u r b x e h = rw e h

differ : (s t : StateValue) → (s ≡ t → ⊥) → same_state s t ≡ false
differ s t h = false_from_ne_true (same_state s t) (λ e. h (same_state_is s t e))

module _ (b : BookValue) (w : ℕ) (x y : WorkerValue) where
  pub step_turned : (e : Event) → CanAdvance x.runner → e ≡ event_of x.runner.problem x.runner.position
      → y ≡ moved_to x (next x.runner.problem x.runner.position) → Turned (turn_of b (Some x) w Step) (reply_of.Event e) b (Some y)
  unfolding turn_of
  step_turned e can t m =
      second_of_two _ _ _ _ _ _ (differ _ _ can.goes_on)
      (second_of_two _ _ _ _ _ _ (ne_eqb _ _ can.has_room) (record { reply = ap reply_of.Event t; book = refl; worker = ap Some m }))

  pub step_refused : (f : RunnerFault) → AdvanceRefused x.runner f → (f ≡ runner.OutOfMemory → ⊥) → y ≡ x
      → Turned (turn_of b (Some x) w Step) (reply_of.Runner f) b (Some y)
  unfolding turn_of
  step_refused runner.AtBranchEnd r o m = first_of_two _ _ _ _ _ _ (is_same_state _ _ r)
      (record { reply = refl; book = refl; worker = ap Some m })
  step_refused runner.StretchFull r o m =
      second_of_two _ _ _ _ _ _ (differ _ _ r.0)
      (first_of_two _ _ _ _ _ _ (eq-eqb _ _ r.1) (record { reply = refl; book = refl; worker = ap Some m }))
  step_refused runner.OutOfMemory r o m = absurd (o refl)
  step_refused _ r o m = absurd r

  pub back_turned : (x.runner.position ≡ x.runner.mark → ⊥) → y ≡ moved_to x (prev x.runner.problem x.runner.position)
      → Turned (turn_of b (Some x) w Back) (reply_of.Event event.Moved) b (Some y)
  unfolding turn_of
  back_turned n m = second_of_two _ _ _ _ _ _ (differ _ _ n) (record { reply = refl; book = refl; worker = ap Some m })

  pub back_refused : (f : RunnerFault) → f ≡ runner.AtMark → x.runner.position ≡ x.runner.mark → y ≡ x
      → Turned (turn_of b (Some x) w Back) (reply_of.Runner f) b (Some y)
  unfolding turn_of
  back_refused f e n m = first_of_two _ _ _ _ _ _ (is_same_state _ _ n)
      (record { reply = ap reply_of.Runner e; book = refl; worker = ap Some m })

-- ---- cuts

-- what isn't left above a level's choice isn't untried there
not_untried : (r : RunnerValue) (level o : ℕ) → has (left_above r.problem level r.position) o ≡ false → has (untried_in r level) o ≡ false
not_untried r level o h = by (has (untried_in r level) o) refl
  where
    by : (c : Bool) → has (untried_in r level) o ≡ c → c ≡ false
    by true e =
        let test = is_before_end r.problem (end_of r.branch.hi) (take level (choices r.position)) in
        let kept : has (filter test (left_above r.problem level r.position)) o
        ≡ true = ap (λ (xs : List ℕ). has xs o) (untried_left r.problem (end_of r.branch.hi) r.position level) ∙ e in
        absurd (false≢true (sym h ∙ (has_filter_in test (left_above r.problem level r.position) o kept).1))
    by false e = refl

-- why a runner refuses a cut is the definition's reason
cut_refused_is : (r : RunnerValue) (level o : ℕ) (f : RunnerFault) → CutRefused r level o f → (f ≡ runner.OutOfMemory → ⊥)
    → (has (untried_in r level) o ≡ false) × (f ≡ cut_refusal r level o)
cut_refused_is r level o runner.OutsideBranch m n = (m.1, rw m.0 refl)
cut_refused_is r level o runner.NothingUntried m n = (ap (λ (xs : List ℕ). has xs o) m.1, rw (m.0, m.1) refl)
cut_refused_is r level o runner.NotUntried m n =
    let some : (length (untried_in r level) == 0) ≡ false = ne_eqb (length (untried_in r level)) 0 (λ e. let l = m.1 in omega arith) in
    (not_untried r level o m.0, rw (m.0, some) refl)
cut_refused_is r level o runner.OutOfMemory m n = absurd (n refl)
cut_refused_is r level o _ m n = absurd m

-- ---- acts that change nothing

-- whether an act needs a runner
abbrev pub needs_runner : Act → Bool
needs_runner Step = true
needs_runner Back = true
needs_runner Post = true
needs_runner (Split level o) = true
needs_runner Retract = true
needs_runner Park = true
needs_runner Abandon = true
needs_runner Close = true
needs_runner _ = false

pub end_needs : (e : Ending) → needs_runner (end_act e) ≡ true
end_needs ending.Park = refl
end_needs _ = refl

-- whether one makes a runner
abbrev pub leases : Act → Bool
leases (Lease id) = true
leases LeaseAny = true
leases (TakeHeld id) = true
leases _ = false

pub lease_leases : (want : Wanted) (id : ℕ) → leases (lease_act want id) ≡ true
lease_leases wanted.Waiting id = refl
lease_leases wanted.Held id = refl

module _ (b : BookValue) (w : ℕ) where
  idle : (a : Act) → needs_runner a ≡ true → turn_of b None w a ≡ stays b None reply_of.Idle
  unfolding turn_of
  idle (Lease id) e = absurd (false≢true e)
  idle LeaseAny e = absurd (false≢true e)
  idle (TakeHeld id) e = absurd (false≢true e)
  idle (PutBack id t) e = absurd (false≢true e)
  idle (RequestStop id) e = absurd (false≢true e)
  idle _ e = refl

  pub idle_turned : (x : Option WorkerValue) (a : Act) → needs_runner a ≡ true → x ≡ None → Turned (turn_of b x w a) reply_of.Idle b x
  idle_turned x a n e = subst (λ (y : Option WorkerValue). Turned (turn_of b y w a) reply_of.Idle b y) (sym e)
      (subst (λ (u : Turn). Turned u reply_of.Idle b None) (sym (idle a n)) (stays_turned b None reply_of.Idle))

  -- an act that takes the worker out of its seat leaves none
  pub taken_idle : (x y : Option WorkerValue) (a : Act) → needs_runner a ≡ true → x ≡ None → y ≡ None
      → Turned (turn_of b x w a) reply_of.Idle b y
  taken_idle x y a n e f = subst (Turned (turn_of b x w a) reply_of.Idle b) (e ∙ sym f) (idle_turned x a n e)

  pub busy_turned : (x : Option WorkerValue) (a : Act) → leases a ≡ true → is_some x ≡ true → Turned (turn_of b x w a) reply_of.Busy b x
  unfolding turn_of
  busy_turned None a n e = absurd (false≢true e)
  busy_turned (Some y) (Lease id) n e = stays_turned b (Some y) reply_of.Busy
  busy_turned (Some y) LeaseAny n e = stays_turned b (Some y) reply_of.Busy
  busy_turned (Some y) (TakeHeld id) n e = stays_turned b (Some y) reply_of.Busy
  busy_turned (Some y) Step n e = absurd (false≢true n)
  busy_turned (Some y) Back n e = absurd (false≢true n)
  busy_turned (Some y) Post n e = absurd (false≢true n)
  busy_turned (Some y) (Split level o) n e = absurd (false≢true n)
  busy_turned (Some y) Retract n e = absurd (false≢true n)
  busy_turned (Some y) Park n e = absurd (false≢true n)
  busy_turned (Some y) Abandon n e = absurd (false≢true n)
  busy_turned (Some y) Close n e = absurd (false≢true n)
  busy_turned (Some y) (PutBack id t) n e = absurd (false≢true n)
  busy_turned (Some y) (RequestStop id) n e = absurd (false≢true n)

-- ---- acts that call the book

pub none_there : (x : Option WorkerValue) → is_some x ≡ false → x ≡ None
none_there None e = refl
none_there (Some y) e = absurd (false≢true (sym e))

-- which call each is, and what becomes of the worker
module _ (b : BookValue) (w : ℕ) where
  pub lease_is : (x : Option WorkerValue) (want : Wanted) (id : ℕ) → is_some x ≡ false
      → turn_of b x w (lease_act want id) ≡ called b w (lease_call want id) (lent_worker b.problem)
  unfolding turn_of
  lease_is None wanted.Waiting id e = refl
  lease_is None wanted.Held id e = refl
  lease_is (Some y) want id e = absurd (false≢true (sym e))

  pub lease_any_is : (x : Option WorkerValue) → is_some x ≡ false → turn_of b x w LeaseAny ≡ called b w call.LeaseAny (lent_worker b.problem)
  unfolding turn_of
  lease_any_is None e = refl
  lease_any_is (Some y) e = absurd (false≢true (sym e))

  pub put_back_is : (x : Option WorkerValue) (id : ℕ) (s : StateValue) (t : State) → state_value t ≡ s
      → turn_of b x w (PutBack id s) ≡ called b w (call.PutBack id (state_value t)) (λ r. x)
  unfolding turn_of
  put_back_is x id s t e = ap (λ (v : StateValue). called b w (call.PutBack id v) (λ r. x)) (sym e)

  pub stop_is : (x : Option WorkerValue) (id : ℕ) → turn_of b x w (RequestStop id) ≡ called b w (call.RequestStop id) (λ r. x)
  unfolding turn_of
  stop_is x id = refl

  module _ (x : Option WorkerValue) (y : WorkerValue) (here : x ≡ Some y) where
    at_some : (a : Act) → turn_of b x w a ≡ turn_of b (Some y) w a
    at_some a = ap (λ (v : Option WorkerValue). turn_of b v w a) here

    pub post_is : turn_of b x w Post ≡ called b y.grant.worker (post_of b.problem y.grant (unposted y)) (after_post y)
    unfolding turn_of
    post_is = at_some Post

    pub end_is : (e : Ending) → turn_of b x w (end_act e) ≡ called b y.grant.worker (call_of_end e y.grant) (after_end y)
    unfolding turn_of
    end_is ending.Park = at_some Park
    end_is ending.Abandon = at_some Abandon
    end_is ending.Close = at_some Close

    retract_by : (c : Bool) → (unposted_steps y.runner == 0) ≡ c → turn_of b x w Retract
        ≡ (if c then called b y.grant.worker (call.Retract y.grant) (after_retract y) else stays b (Some y)
        (reply_of.Runner runner.NotAtMark))
    unfolding turn_of
    retract_by c e =
        at_some Retract
        ∙ ap (λ (c : Bool). if c then called b y.grant.worker (call.Retract y.grant) (after_retract y) else stays b (Some y)
        (reply_of.Runner runner.NotAtMark)) e

    pub retract_is : unposted_steps y.runner ≡ 0 → turn_of b x w Retract ≡ called b y.grant.worker (call.Retract y.grant) (after_retract y)
    retract_is n = retract_by true (eq-eqb _ 0 n)

    retract_stays : 0 < unposted_steps y.runner → turn_of b x w Retract ≡ stays b (Some y) (reply_of.Runner runner.NotAtMark)
    retract_stays l = retract_by false (ne_eqb _ 0 (λ e. omega arith))

    module _ (level o : ℕ) where
      split_by : (c : Bool) → has (untried_in y.runner level) o ≡ c
          → turn_of b x w (Split level o) ≡ (if c then called b y.grant.worker (split_call y (with_choice y.runner.position level o))
          (after_split y (cut_at y.runner level o)) else stays b (Some y) (reply_of.Runner (cut_refusal y.runner level o)))
      unfolding turn_of
      split_by c e =
          at_some (Split level o)
          ∙ ap (λ (c : Bool). if c then called b y.grant.worker (split_call y (with_choice y.runner.position level o))
          (after_split y (cut_at y.runner level o)) else stays b (Some y) (reply_of.Runner (cut_refusal y.runner level o))) e

      pub split_is : has (untried_in y.runner level) o ≡ true
          → turn_of b x w (Split level o) ≡ called b y.grant.worker (split_call y (with_choice y.runner.position level o))
          (after_split y (cut_at y.runner level o))
      split_is e = split_by true e

      split_stays : has (untried_in y.runner level) o ≡ false
          → turn_of b x w (Split level o) ≡ stays b (Some y) (reply_of.Runner (cut_refusal y.runner level o))
      split_stays e = split_by false e

    -- where the runner refuses, and the book isn't called
    module _ (new : BookValue) (z : WorkerValue) (same : z ≡ y) where
      stays_here : (a : Act) (f g : RunnerFault) → turn_of b x w a ≡ stays b (Some y) (reply_of.Runner g) → f ≡ g → new ≡ b
          → Turned (turn_of b x w a) (reply_of.Runner f) new (Some z)
      stays_here a f g t e m =
          subst (λ (u : Turn). Turned u (reply_of.Runner f) new (Some z)) (sym t)
          (record { reply = ap reply_of.Runner e; book = m; worker = ap (λ (v : WorkerValue). Some v) same })

      pub retract_not_called : (f : RunnerFault) → RetractRefused b new y (worker_fault.Runner f)
          → Turned (turn_of b x w Retract) (reply_of.Runner f) new (Some z)
      retract_not_called runner.NotAtMark m = stays_here Retract runner.NotAtMark runner.NotAtMark (retract_stays m.0) refl m.1
      retract_not_called _ m = absurd m

      pub split_not_called : (level o : ℕ) (f : RunnerFault) → WorkerSplitRefused b new y level o (worker_fault.Runner f)
          → (f ≡ runner.OutOfMemory → ⊥) → Turned (turn_of b x w (Split level o)) (reply_of.Runner f) new (Some z)
      split_not_called level o f m n =
          let r = cut_refused_is y.runner level o f m.0 n in
          stays_here (Split level o) f (cut_refusal y.runner level o) (split_stays level o r.0) r.1 m.1

-- a worker whose tile was split
pub split_worker : (x y : WorkerValue) (cut : CutPath) (r : Reply) (id : ℕ) → r ≡ reply.Split id → y ≡ shortened x cut
    → Some y ≡ after_split x cut r
split_worker x y cut r id e m = ap (λ (v : WorkerValue). Some v) m ∙ sym (ap (after_split x cut) e)

-- what such an act leaves
module _ (b new : BookValue) (w u n : ℕ) (a : Act) (c : Call) (becomes : Reply → Option WorkerValue) (x z : Option WorkerValue)
    (is : turn_of b x w a ≡ called b u c becomes) (index : n ≡ length b.history) where
  by_call : Turned (called b u c becomes) (reply_of.Book n) new z → Turned (turn_of b x w a) (reply_of.Book n) new z
  by_call t = subst (λ (v : Turn). Turned v (reply_of.Book n) new z) (sym is) t

  pub act_made : (r : Reply) → Made b new u c r → becomes r ≡ z → Turned (turn_of b x w a) (reply_of.Book n) new z
  act_made r m e = by_call (made_turned b new u n c becomes z index r m e)

  pub act_stepped : new ≡ book_step b u c → z ≡ becomes (outcome b u c).reply → Turned (turn_of b x w a) (reply_of.Book n) new z
  act_stepped s e = by_call (record { reply = ap reply_of.Book index; book = s; worker = e })

  pub act_refused : (f : BookFault) → Refuses b new u c f → (f ≡ OutOfMemory → ⊥) → ((f : BookFault) → becomes (reply.Refused f) ≡ z)
      → Turned (turn_of b x w a) (reply_of.Book n) new z
  act_refused f m o e = by_call (refused_turned b new u n c becomes z index f m o e)

-- ---- steps by a worker with a tile

module _ (b : BookValue) (w : ℕ) (x : Option WorkerValue) (y z : WorkerValue) (here : x ≡ Some y) where
  by_some : (a : Act) (r : WorldReply) → Turned (turn_of b (Some y) w a) r b (Some z) → Turned (turn_of b x w a) r b (Some z)
  by_some a r t = subst (λ (v : Option WorkerValue). Turned (turn_of b v w a) r b (Some z)) (sym here) t

  pub step_taken : (e : Event) → CanAdvance y.runner → e ≡ event_of y.runner.problem y.runner.position
      → z ≡ moved_to y (next y.runner.problem y.runner.position) → Turned (turn_of b x w Step) (reply_of.Event e) b (Some z)
  step_taken e c t m = by_some Step (reply_of.Event e) (step_turned b w y z e c t m)

  pub step_not_taken : (f : RunnerFault) → AdvanceRefused y.runner f → (f ≡ runner.OutOfMemory → ⊥) → z ≡ y
      → Turned (turn_of b x w Step) (reply_of.Runner f) b (Some z)
  step_not_taken f r o m = by_some Step (reply_of.Runner f) (step_refused b w y z f r o m)

  pub back_taken : (y.runner.position ≡ y.runner.mark → ⊥) → z ≡ moved_to y (prev y.runner.problem y.runner.position)
      → Turned (turn_of b x w Back) (reply_of.Event event.Moved) b (Some z)
  back_taken n m = by_some Back (reply_of.Event event.Moved) (back_turned b w y z n m)

  pub back_not_taken : (f : RunnerFault) → f ≡ runner.AtMark → y.runner.position ≡ y.runner.mark → z ≡ y
      → Turned (turn_of b x w Back) (reply_of.Runner f) b (Some z)
  back_not_taken f e n m = by_some Back (reply_of.Runner f) (back_refused b w y z f e n m)
