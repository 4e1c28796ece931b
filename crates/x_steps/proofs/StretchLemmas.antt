-- Stretches of the run as a reader means them: what lies between two states, one of which is reached from the other.
use Rattle.std.proofs.Common.{◌≡◌, ℕ, zero, suc, ◌+◌, ◌-◌, ◌<◌, ◌≤◌, ◌⊎◌, [], ◌∷◌, ◌++◌, map, refl, sym, ap, ◌∙◌, subst, inl, inr, arith, append_assoc, le_refl}
use Rattle.std.proofs.lemmas.Bool.{cases_lt, le-ltb}
use Rattle.std.proofs.lemmas.List.{map-append}
use Rattle.shared_words.specs.Lists.{numbers}
use Rattle.cover_problem.specs.Problem.{ProblemValue}
use Rattle.x_steps.specs.declared.state.Label.TheVariants.{Done}
use Rattle.x_steps.specs.StateValue.{StateValue, start, done}
use Rattle.x_steps.specs.Steps.{Fits, next}
use Rattle.x_steps.specs.Run.{after, states, distance, steps_between, states_between, visits_between, ReachesIn}
use Rattle.x_steps.specs.Rank.{rank}
use Rattle.x_steps.proofs.RunLemmas.{start_fits, done_fits, end_is, after_fits, after_add, rises_between, leads_to, start_first, done_last}
use Rattle.cover_problem.proofs.NumberLemmas.{numbers_push}
use Rattle.x_steps.proofs.BetweenLemmas.{states_between_join, visits_between_join}

-- ---- which comes first

pub reached_fits : (p : ProblemValue) (s t : StateValue) (n : ℕ) → Fits p s → ReachesIn p s t n → Fits p t
reached_fits p s t n f r = subst (Fits p) r.ends (after_fits p n s f)

pub reached_rank : (p : ProblemValue) (s t : StateValue) (n : ℕ) → Fits p s → ReachesIn p s t n → rank p s ≤ rank p t
reached_rank p s t zero f r = let e = ap (rank p) r.ends in omega arith
reached_rank p s t (suc n) f r =
    let l = rises_between p (suc n) s f r.goes_on 0 (suc n) (omega arith) (le_refl (suc n)) in
    let e = ap (rank p) r.ends in omega arith

pub steps_between_none : (p : ProblemValue) (s t : StateValue) → rank p t ≤ rank p s → steps_between p s t ≡ 0
unfolding steps_between
steps_between_none p s t l = step (rank p t)
  where
    step : (most : ℕ) → distance p most s t ≡ 0
    step zero = refl
    step (suc most) = let e = le-ltb (rank p s) (rank p t) l in rw e refl

pub none_back : (p : ProblemValue) (s t : StateValue) (n : ℕ) → Fits p s → ReachesIn p s t n → steps_between p t s ≡ 0
none_back p s t n f r = steps_between_none p t s (reached_rank p s t n f r)

pub one_way : (p : ProblemValue) (s t : StateValue) → Fits p s → Fits p t → ReachesIn p s t (steps_between p s t) ⊎ ReachesIn p t s (steps_between p t s)
one_way p s t f g = step (cases_lt (rank p t) (rank p s))
  where
    step : (rank p t < rank p s) ⊎ (rank p s ≤ rank p t) → ReachesIn p s t (steps_between p s t) ⊎ ReachesIn p t s (steps_between p t s)
    step (inl l) = inr (leads_to p t s g f (omega arith))
    step (inr l) = inl (leads_to p s t f g l)

-- ---- where the run ends

stays_done : (p : ProblemValue) (n : ℕ) → after p n done ≡ done
unfolding next
stays_done p zero = refl
stays_done p (suc n) = ap (next p) (stays_done p n)

-- a run that comes to Done from another step comes there for the first time
pub ends_first : (p : ProblemValue) (n : ℕ) → after p (suc n) start ≡ done → ((after p n start).label ≡ Done → ⊥) → ReachesIn p start done (suc n)
ends_first p n e g = record { ends = e; goes_on = λ i l d. g (ap (λ (s : StateValue). s.label) (later i (omega arith) d)) }
  where
    later : (i : ℕ) → i ≤ n → (after p i start).label ≡ Done → after p n start ≡ done
    later i l d =
        let here = end_is p (after p i start) (after_fits p i start (start_fits p)) d in
        let m : (n - i) + i ≡ n = omega arith in
        ap (λ k. after p k start) (sym m) ∙ sym (after_add p (n - i) i start) ∙ ap (after p (n - i)) here ∙ stays_done p (n - i)

-- ---- the states between

pub states_each : (p : ProblemValue) (n : ℕ) (s : StateValue) → states p n s ≡ map (λ i. after p i s) (numbers n 0)
states_each p zero s = refl
states_each p (suc n) s =
    ap (λ l. l ++ after p n s ∷ []) (states_each p n s) ∙ sym (map-append (λ i. after p i s) (numbers n 0) (n ∷ []))
    ∙ ap (map (λ i. after p i s)) (ap (λ i. numbers n 0 ++ i ∷ []) (let e : n ≡ 0 + n = omega arith in e) ∙ sym (numbers_push n 0))

pub states_between_each : (p : ProblemValue) (s t : StateValue) → states_between p s t ≡ map (λ i. after p i s) (numbers (steps_between p s t) 0)
states_between_each p s t = states_each p (steps_between p s t) s

-- the run is what comes before, between and after
pub states_of_run : (p : ProblemValue) (s t : StateValue) (n : ℕ) → Fits p s → ReachesIn p s t n → states_between p start done ≡ states_between p start s ++ states_between p s t ++ states_between p t done
states_of_run p s t n f r =
    let g = reached_fits p s t n f r in
    let l = reached_rank p s t n f r in
    states_between_join p start s done (start_fits p) f (done_fits p) (start_first p s f) (done_last p s f)
    ∙ ap (λ ss. states_between p start s ++ ss) (states_between_join p s t done f g (done_fits p) l (done_last p t g)) ∙ sym (append_assoc (states_between p start s) (states_between p s t) (states_between p t done))

pub visits_of_run : (p : ProblemValue) (s t : StateValue) (n : ℕ) → Fits p s → ReachesIn p s t n → visits_between p start done ≡ visits_between p start s ++ visits_between p s t ++ visits_between p t done
visits_of_run p s t n f r =
    let g = reached_fits p s t n f r in
    let l = reached_rank p s t n f r in
    visits_between_join p start s done (start_fits p) f (done_fits p) (start_first p s f) (done_last p s f)
    ∙ ap (λ vs. visits_between p start s ++ vs) (visits_between_join p s t done f g (done_fits p) l (done_last p t g)) ∙ sym (append_assoc (visits_between p start s) (visits_between p s t) (visits_between p t done))
