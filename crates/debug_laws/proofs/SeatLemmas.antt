-- Many acts of worker 0 leave two alike books with alike seats alike, and a walk is the same acts in both.
use Rattle.std.proofs.Common.{◌≡◌, ℕ, zero, suc, ◌==◌, nat_lt, Bool, true, false, cond, Option, Some, None, List, [], ◌∷◌, ◌++◌, replicate, refl, ◌∙◌}
use Rattle.x_branches.specs.Refusals.{most_steps}
use Rattle.x_branches.specs.Runner.{unposted_steps}
use Rattle.lab_book.specs.Book.{BookValue}
use Rattle.lab_world.specs.declared.event.Act.{Act}
use Rattle.lab_world.specs.declared.event.Act.TheVariants.{Step, Post}
use Rattle.lab_world.specs.Worker.{WorkerValue}
use Rattle.lab_world.specs.World.{WorldValue, turn_of, worker_at, played}
use Rattle.lab_world.specs.Alone.{alone, own_events}
use Rattle.debug_acts.specs.Acts.{has_rest, is_ended, step_acts, walk_acts}
use Rattle.debug_acts.specs.Walk.{steps_ahead}
use Rattle.x_debug.specs.Questions.{runner_of}
use Rattle.debug_laws.proofs.TurnLemmas.{IsSoundSeat, turn_sound}
use Rattle.debug_laws.proofs.ToldLemmas.{seen_alike}
use Rattle.debug_laws.proofs.AlikeLemmas.{AreAlikeSeats, is_own, turn_alike}

-- each is the worker's own
abbrev pub AreOwn : List Act → Type 0
AreOwn [] = Unit {0}
AreOwn (a ∷ acts) = (is_own a ≡ true) × AreOwn acts

pub acts_alike : (acts : List Act) (b c : BookValue) (x y : Option WorkerValue) → AreOwn acts → IsSoundSeat b x → IsSoundSeat c y
    → AreAlikeSeats b x c y
    → let v = played (alone b x) (own_events acts) in
    let w = played (alone c y) (own_events acts) in
    AreAlikeSeats v.book (worker_at v.workers 0) w.book (worker_at w.workers 0)
acts_alike [] b c x y own h i k = k
acts_alike (a ∷ acts) b c x y own h i k =
    acts_alike acts (turn_of b x 0 a).book (turn_of c y 0 a).book (turn_of b x 0 a).worker (turn_of c y 0 a).worker own.1 (turn_sound b x a h)
    (turn_sound c y a i) (turn_alike b c x y a own.0 h i k)

pub own_both : (xs ys : List Act) → AreOwn xs → AreOwn ys → AreOwn (xs ++ ys)
own_both [] ys p q = q
own_both (x ∷ xs) ys p q = (p.0, own_both xs ys p.1 q)

pub own_times : (n : ℕ) (a : Act) → is_own a ≡ true → AreOwn (replicate n a)
own_times zero a e = tt
own_times (suc n) a e = (e, own_times n a e)

-- ---- a walk

pub rest_seen : (x y : Option WorkerValue) → runner_of x ≡ runner_of y → has_rest x ≡ has_rest y
rest_seen = seen_alike has_rest false (λ r. nat_lt 0 (unposted_steps r)) refl (λ w. refl)

pub end_is_seen : (x y : Option WorkerValue) → runner_of x ≡ runner_of y → is_ended x ≡ is_ended y
end_is_seen = seen_alike is_ended false (λ r. steps_ahead r == 0) refl (λ w. refl)

step_seen : (x y : Option WorkerValue) → runner_of x ≡ runner_of y → step_acts x ≡ step_acts y
step_seen = seen_alike step_acts [] (λ r. cond (unposted_steps r == most_steps) (Post ∷ Step ∷ []) (Step ∷ [])) refl (λ w. refl)

step_own : (x : Option WorkerValue) → AreOwn (step_acts x)
step_own None = tt
step_own (Some w) = by (unposted_steps w.runner == most_steps)
  where
    by : (v : Bool) → AreOwn (cond v (Post ∷ Step ∷ []) (Step ∷ []))
    by true = (refl, (refl, tt))
    by false = (refl, tt)

-- a walk is the same acts in both
pub walk_own : (n : ℕ) (v : WorldValue) → AreOwn (walk_acts n v)
walk_own zero v = tt
walk_own (suc n) v = own_both (walk_acts n v) (step_acts (worker_at (played v (own_events (walk_acts n v))).workers 0)) (walk_own n v)
    (step_own (worker_at (played v (own_events (walk_acts n v))).workers 0))

pub walk_alike : (n : ℕ) (b c : BookValue) (x y : Option WorkerValue) → IsSoundSeat b x → IsSoundSeat c y → AreAlikeSeats b x c y
    → walk_acts n (alone b x) ≡ walk_acts n (alone c y)
walk_alike zero b c x y h i k = refl
walk_alike (suc n) b c x y h i k =
    let same = walk_alike n b c x y h i k in
    let there = acts_alike (walk_acts n (alone b x)) b c x y (walk_own n (alone b x)) h i k in
    let after = step_seen (worker_at (played (alone b x) (own_events (walk_acts n (alone b x)))).workers 0)
    (worker_at (played (alone c y) (own_events (walk_acts n (alone b x)))).workers 0) there.runner in
    (λ j. walk_acts n (alone b x) ++ after j)
    ∙ (λ j. same j ++ step_acts (worker_at (played (alone c y) (own_events (same j))).workers 0))
