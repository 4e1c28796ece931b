-- Acts of one worker, one after another, in a world of that worker alone.
use Rattle.std.proofs.Common.{◌≡◌, ℕ, zero, suc, ◌+◌, ◌<◌, Option, Some, None, Result, Ok, Err, List, [], ◌∷◌, ◌++◌, ◌==◌, length, replicate, refl, sym, ap, ap₂, ◌∙◌, subst, arith}
use Rattle.std.specs.Prelude.{IfOk, OnErr}
use Rattle.std.proofs.lemmas.List.{map-append, replicate_more, length-append}
use Rattle.x_steps.specs.Steps.{event_of}
use Rattle.x_steps.specs.declared.machine.walk.Walk.{Walk}
use Rattle.shared_words.specs.Lists.{has}
use Rattle.x_branches.specs.Branch.{end_of}
use Rattle.x_branches.specs.Refusals.{most_steps, untried_in, cut_at}
use Rattle.x_branches.specs.Runner.{RunnerValue, unposted_steps}
use Rattle.x_branches.specs.Untried.{with_choice}
use Rattle.x_branches.specs.Walk.{advanced_by, CanAdvanceBy}
use Rattle.lab_history.specs.declared.entry.Call.{Call}
use Rattle.lab_history.specs.declared.entry.Call.TheVariants as call
use Rattle.lab_history.specs.declared.entry.Reply.{Reply}
use Rattle.lab_book.specs.States.{same_state}
use Rattle.lab_book.specs.Calls.{post_of}
use Rattle.lab_book.specs.Tiling.{IsTiling}
use Rattle.lab_book.specs.Book.{BookValue, outcome}
use Rattle.lab_world.specs.declared.event.Act.{Act}
use Rattle.lab_world.specs.declared.event.Act.TheVariants.{Step, Back, Lease, LeaseAny, TakeHeld, Post, Split, Retract, Park, Abandon}
use Rattle.lab_world.specs.declared.event.Act.TheVariants.{Close, PutBack, RequestStop}
use Rattle.lab_world.specs.declared.event.WorldEvent.{WorldEvent}
use Rattle.lab_world.specs.declared.event.WorldReply.{WorldReply}
use Rattle.lab_world.specs.Worker.{WorkerValue, moved_forward_by, unposted, split_call, lent_worker, after_post, after_split, after_retract, after_end}
use Rattle.lab_world.specs.World.{WorldValue, Turn, Turned, Acts, IsSeat, IsInHistory, turn_of, called, stepped, stepped_back, splitting, retracting, world_step, played}
use Rattle.lab_world.specs.Alone.{alone, own_event, own_events, Leads, StepsLead}
use Rattle.lab_world.proofs.EventLemmas.{step_turned}
use Rattle.lab_world.proofs.TurnLemmas.{either, turn_keeps}

-- the fold of two lists of events
played_append : (v : WorldValue) (xs ys : List WorldEvent) → played v (xs ++ ys) ≡ played (played v xs) ys
played_append v [] ys = refl
played_append v (x ∷ xs) ys = played_append (world_step v x).world xs ys

-- an act leads to what its turn leaves
pub one_act : (b c : BookValue) (x y : Option WorkerValue) (a : Act) → (turn_of b x 0 a).book ≡ c → (turn_of b x 0 a).worker ≡ y
    → Leads b x (a ∷ []) c y
one_act b c x y a e d = ap₂ alone e d

-- what is done first, and what is done then
pub then_acts : (b c d : BookValue) (x y z : Option WorkerValue) (xs ys : List Act) → Leads b x xs c y → Leads c y ys d z
    → Leads b x (xs ++ ys) d z
then_acts b c d x y z xs ys p q =
    ap (played (alone b x)) (map-append own_event xs ys) ∙ played_append (alone b x) (own_events xs) (own_events ys)
    ∙ ap (λ (v : WorldValue). played v (own_events ys)) p ∙ q

-- a call that takes a turn
pub turned_leads : (b c : BookValue) (x y : Option WorkerValue) (a : Act) (r : WorldReply) → Turned (turn_of b x 0 a) r c y
    → Leads b x (a ∷ []) c y
turned_leads b c x y a r t = one_act b c x y a (sym t.book) (sym t.worker)

-- ---- what a turn leaves

module _ (b : BookValue) where
  -- the book's problem stays
  abbrev Same : Turn → Type 0
  Same t = t.book.problem ≡ b.problem

  step_same : (x : WorkerValue) → Same (stepped b x)
  step_same x = either Same (same_state x.runner.position (end_of x.runner.branch.hi)) _ _ refl
      (either Same (unposted_steps x.runner == most_steps) _ _ refl refl)

  back_same : (x : WorkerValue) → Same (stepped_back b x)
  back_same x = either Same (same_state x.runner.position x.runner.mark) _ _ refl refl

  split_same : (x : WorkerValue) (level o : ℕ) → Same (splitting b level o x)
  split_same x level o = either Same (has (untried_in x.runner level) o) _ _ refl refl

  retract_same : (x : WorkerValue) → Same (retracting b x)
  retract_same x = either Same (unposted_steps x.runner == 0) _ _ refl refl

  pub turn_problem : (x : Option WorkerValue) (w : ℕ) (a : Act) → Same (turn_of b x w a)
  unfolding turn_of
  turn_problem None w (Lease id) = refl
  turn_problem None w LeaseAny = refl
  turn_problem None w (TakeHeld id) = refl
  turn_problem None w (PutBack id s) = refl
  turn_problem None w (RequestStop id) = refl
  turn_problem None w _ = refl
  turn_problem (Some x) w Step = step_same x
  turn_problem (Some x) w Back = back_same x
  turn_problem (Some x) w (Lease id) = refl
  turn_problem (Some x) w LeaseAny = refl
  turn_problem (Some x) w (TakeHeld id) = refl
  turn_problem (Some x) w (Split level o) = split_same x level o
  turn_problem (Some x) w Retract = retract_same x
  turn_problem (Some x) w _ = refl

  -- an entry that a turn's reply names is the book's last one
  abbrev Noted : Turn → Type 0
  Noted t = IsInHistory t.book t.reply

  called_noted : (w : ℕ) (c : Call) (becomes : Reply → Option WorkerValue) → Noted (called b w c becomes)
  called_noted w c becomes =
      let n = length-append b.history (record { worker = w; call = c; reply = (outcome b w c).reply } ∷ []) in omega arith

  step_noted : (x : WorkerValue) → Noted (stepped b x)
  step_noted x = either Noted (same_state x.runner.position (end_of x.runner.branch.hi)) _ _ tt
      (either Noted (unposted_steps x.runner == most_steps) _ _ tt tt)

  back_noted : (x : WorkerValue) → Noted (stepped_back b x)
  back_noted x = either Noted (same_state x.runner.position x.runner.mark) _ _ tt tt

  split_noted : (x : WorkerValue) (level o : ℕ) → Noted (splitting b level o x)
  split_noted x level o =
      either Noted (has (untried_in x.runner level) o) _ _
      (called_noted x.grant.worker (split_call x (with_choice x.runner.position level o)) (after_split x (cut_at x.runner level o))) tt

  retract_noted : (x : WorkerValue) → Noted (retracting b x)
  retract_noted x =
      either Noted (unposted_steps x.runner == 0) _ _ (called_noted x.grant.worker (call.Retract x.grant) (after_retract x)) tt

  pub turn_noted : (x : Option WorkerValue) (w : ℕ) (a : Act) → Noted (turn_of b x w a)
  unfolding turn_of
  turn_noted None w (Lease id) = called_noted w (call.Lease id) (lent_worker b.problem)
  turn_noted None w LeaseAny = called_noted w call.LeaseAny (lent_worker b.problem)
  turn_noted None w (TakeHeld id) = called_noted w (call.TakeHeld id) (lent_worker b.problem)
  turn_noted None w (PutBack id s) = called_noted w (call.PutBack id s) (λ r. None)
  turn_noted None w (RequestStop id) = called_noted w (call.RequestStop id) (λ r. None)
  turn_noted None w _ = tt
  turn_noted (Some x) w Step = step_noted x
  turn_noted (Some x) w Back = back_noted x
  turn_noted (Some x) w (Lease id) = tt
  turn_noted (Some x) w LeaseAny = tt
  turn_noted (Some x) w (TakeHeld id) = tt
  turn_noted (Some x) w Post = called_noted x.grant.worker (post_of b.problem x.grant (unposted x)) (after_post x)
  turn_noted (Some x) w (Split level o) = split_noted x level o
  turn_noted (Some x) w Retract = retract_noted x
  turn_noted (Some x) w Park = called_noted x.grant.worker (call.Park x.grant) (after_end x)
  turn_noted (Some x) w Abandon = called_noted x.grant.worker (call.Abandon x.grant) (after_end x)
  turn_noted (Some x) w Close = called_noted x.grant.worker (call.Close x.grant) (after_end x)
  turn_noted (Some x) w (PutBack id s) = called_noted w (call.PutBack id s) (λ r. Some x)
  turn_noted (Some x) w (RequestStop id) = called_noted w (call.RequestStop id) (λ r. Some x)

-- where a call takes a turn, or memory runs out, a seat stays one, and so does the book's problem
module _ {E : Type 0} (b new : BookValue) (w : ℕ) (x y : Option WorkerValue) (a : Act) where
  pub taken_seat : (r : Result WorldReply E) → IsTiling b.problem b.branch b.first b.tiles → IsSeat b w x → Acts r w a b new x y
      → OnErr r (new ≡ b) → OnErr r (y ≡ x) → IsSeat new w y
  taken_seat (Ok v) tiling h t e g =
      subst (λ (c : BookValue × Option WorkerValue). IsSeat c.0 w c.1) (λ j. (sym t.book j, sym t.worker j)) (turn_keeps b w tiling x a h)
  taken_seat (Err v) tiling h t e g = subst (λ (c : BookValue × Option WorkerValue). IsSeat c.0 w c.1) (λ j. (sym e j, sym g j)) h

  pub taken_noted : (r : Result WorldReply E) → Acts r w a b new x y → IfOk r (IsInHistory new)
  taken_noted (Ok v) t =
      subst (λ (c : BookValue × WorldReply). IsInHistory c.0 c.1) (λ j. (sym t.book j, sym t.reply j)) (turn_noted b x w a)
  taken_noted (Err v) t = tt

  pub taken_problem : (r : Result WorldReply E) → Acts r w a b new x y → OnErr r (new ≡ b) → new.problem ≡ b.problem
  taken_problem (Ok v) t e = ap (λ (c : BookValue). c.problem) t.book ∙ turn_problem b x w a
  taken_problem (Err v) t e = ap (λ (c : BookValue). c.problem) e

-- ---- many steps

pub steps_lead : (x : WorkerValue) (n : ℕ) → CanAdvanceBy x.runner n → StepsLead x n (moved_forward_by x n)
steps_lead x zero can b = refl
steps_lead x (suc n) can b =
    let here = moved_forward_by x n in
    let there = moved_forward_by x (suc n) in
    let one : Leads b (Some here) (Step ∷ []) b (Some there) =
    turned_leads b b (Some here) (Some there) Step _
    (step_turned b 0 here there (event_of here.runner.problem here.runner.position) (can n (omega arith)) refl refl) in
    let e : n + 1 ≡ suc n = omega arith in
    subst (λ (acts : List Act). Leads b (Some x) acts b (Some there))
    (replicate_more n Step ∙ ap (λ (k : ℕ). replicate k Step) e)
    (then_acts b b b (Some x) (Some here) (Some there) (replicate n Step) (Step ∷ [])
    (steps_lead x n (λ i l. can i (omega arith)) b) one)

-- what a walk says of itself
pub walk_leads : {E : Type 0} (r : Result Walk E) (x : WorkerValue) (q : RunnerValue) → IfOk r (λ w. q ≡ advanced_by x.runner w.steps)
    → IfOk r (λ w. CanAdvanceBy x.runner w.steps) → IfOk r (λ w. StepsLead x w.steps (record { grant = x.grant; runner = q }))
walk_leads (Ok w) x q e can =
    subst (λ (s : RunnerValue). StepsLead x w.steps (record { grant = x.grant; runner = s })) (sym e) (steps_lead x w.steps can)
walk_leads (Err f) x q e can = tt
