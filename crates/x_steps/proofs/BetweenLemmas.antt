-- Stretches of the run: their states, visits and levels, and how stretches join.
use Rattle.std.proofs.Common.{◌≡◌, ℕ, zero, suc, ◌+◌, ◌<◌, ◌≤◌, ◌⊎◌, ◌==◌, Bool, true, false, ◌&&◌, cond, List, [], ◌∷◌, ◌++◌, map, length, filter, get_or, refl, sym, ap, ap₂, ◌∙◌, inl, inr, arith, append_assoc, append-nil, length-append, suc-add, zero-add}
use Rattle.std.proofs.lemmas.Bool.{cases_order}
use Rattle.std.proofs.lemmas.List.{map-append, length-map, get_or-map}
use Rattle.std.proofs.lemmas.List.Elements.{filter-append}
use Rattle.std.proofs.lemmas.List.Sums.{sum_by-append}
use Rattle.cover_problem.specs.Problem.{ProblemValue}
use Rattle.shared_words.specs.Lists.{numbers}
use Rattle.cover_problem.proofs.NumberLemmas.{length-numbers}
use Rattle.x_steps.specs.declared.state.Label.TheVariants.{Done}
use Rattle.x_steps.specs.StateValue.{StateValue}
use Rattle.x_steps.specs.Steps.{Fits, next, is_level, is_visit, is_entry}
use Rattle.x_steps.specs.Run.{after, states, visits, entries, level_count, steps_between, states_between, visits_between, levels}
use Rattle.x_steps.specs.Rank.{rank}
use Rattle.x_steps.proofs.RunLemmas.{after_add, leads_none, leads_push, leads_join, leads_to, steps_between_is}

-- ---- states

pub length-states : (p : ProblemValue) (n : ℕ) (s : StateValue) → length (states p n s) ≡ n
length-states p zero s = refl
length-states p (suc n) s = let e = length-append (states p n s) (after p n s ∷ []) in let h = length-states p n s in omega arith

-- two stretches that join
pub states_join : (p : ProblemValue) (m n : ℕ) (s : StateValue) → states p (n + m) s ≡ states p m s ++ states p n (after p m s)
states_join p m zero s = rw (zero-add, append-nil) refl
states_join p m (suc n) s = rw suc-add (ap₂ (λ (xs : List StateValue) (x : StateValue). xs ++ x ∷ []) (states_join p m n s) (sym (after_add p n m s)) ∙ append_assoc (states p m s) (states p n (after p m s)) (after p n (after p m s) ∷ []))

pub visits_join : (p : ProblemValue) (ss ts : List StateValue) → visits p (ss ++ ts) ≡ visits p ss ++ visits p ts
visits_join p ss ts = ap (map (λ (s : StateValue). s.path)) (filter-append (is_visit p) ss ts) ∙ map-append (λ (s : StateValue). s.path) (filter (is_visit p) ss) (filter (is_visit p) ts)

-- the visit of a state
abbrev pub visit_of : ProblemValue → StateValue → List (List ℕ)
visit_of p s = cond (is_visit p s) (s.path ∷ []) []

visit_one : (p : ProblemValue) (s : StateValue) (b : Bool) → map (λ (s : StateValue). s.path) (cond b (s ∷ []) []) ≡ cond b (s.path ∷ []) []
visit_one p s true = refl
visit_one p s false = refl

pub visits_one : (p : ProblemValue) (s : StateValue) → visits p (s ∷ []) ≡ visit_of p s
visits_one p s = visit_one p s (is_visit p s)

pub visits_push : (p : ProblemValue) (ss : List StateValue) (s : StateValue) → visits p (ss ++ s ∷ []) ≡ visits p ss ++ visit_of p s
visits_push p ss s = visits_join p ss (s ∷ []) ∙ ap (λ vs. visits p ss ++ vs) (visits_one p s)

pub entries_join : (p : ProblemValue) (ss ts : List StateValue) → entries p (ss ++ ts) ≡ entries p ss + entries p ts
entries_join p ss ts = sum_by-append (λ s. cond (is_entry p s) 1 0) ss ts

pub entries_push : (p : ProblemValue) (ss : List StateValue) (s : StateValue) → entries p (ss ++ s ∷ []) ≡ entries p ss + cond (is_entry p s) 1 0
entries_push p ss s = entries_join p ss (s ∷ []) ∙ ap (λ n. entries p ss + n) (let e : entries p (s ∷ []) ≡ cond (is_entry p s) 1 0 = omega arith in e)

pub level_count_join : (ss ts : List StateValue) (level : ℕ) → level_count (ss ++ ts) level ≡ level_count ss level + level_count ts level
level_count_join ss ts level = sum_by-append (λ s. cond (is_level s.label && (length s.path == level)) 1 0) ss ts

pub level_count_push : (ss : List StateValue) (s : StateValue) (level : ℕ) → level_count (ss ++ s ∷ []) level ≡ level_count ss level + cond (is_level s.label && (length s.path == level)) 1 0
level_count_push ss s level = level_count_join ss (s ∷ []) level ∙ ap (λ n. level_count ss level + n) (let e : level_count (s ∷ []) level ≡ cond (is_level s.label && (length s.path == level)) 1 0 = omega arith in e)

-- ---- between fitting states

pub steps_between_self : (p : ProblemValue) (s : StateValue) → Fits p s → steps_between p s s ≡ 0
steps_between_self p s f = steps_between_is p s s 0 f (leads_none p s)

-- the end of a stretch goes one step further
pub steps_between_next : (p : ProblemValue) (s t : StateValue) → Fits p s → Fits p t → rank p s ≤ rank p t → (t.label ≡ Done → ⊥) → steps_between p s (next p t) ≡ suc (steps_between p s t)
steps_between_next p s t f g l h = steps_between_is p s (next p t) (suc (steps_between p s t)) f (leads_push p s t (steps_between p s t) (leads_to p s t f g l) h)

pub steps_between_join : (p : ProblemValue) (s t u : StateValue) → Fits p s → Fits p t → Fits p u → rank p s ≤ rank p t → rank p t ≤ rank p u → steps_between p s u ≡ steps_between p t u + steps_between p s t
steps_between_join p s t u f g h a b = steps_between_is p s u (steps_between p t u + steps_between p s t) f (leads_join p s t u (steps_between p s t) (steps_between p t u) (leads_to p s t f g a) (leads_to p t u g h b))

-- a later state is at least a step away
pub steps_between_some : (p : ProblemValue) (s t : StateValue) → Fits p s → Fits p t → rank p s < rank p t → 0 < steps_between p s t
steps_between_some p s t f g l = step (cases_order (steps_between p s t) 0)
  where
    step : (steps_between p s t ≡ 0) ⊎ ((steps_between p s t < 0) ⊎ (0 < steps_between p s t)) → 0 < steps_between p s t
    step (inl z) = let e : s ≡ t = ap (λ n. after p n s) (sym z) ∙ (leads_to p s t f g (omega arith)).ends in let h = ap (rank p) e in absurd (omega arith)
    step (inr (inl z)) = absurd (omega arith)
    step (inr (inr z)) = z

pub states_between_self : (p : ProblemValue) (s : StateValue) → Fits p s → states_between p s s ≡ []
states_between_self p s f = ap (λ n. states p n s) (steps_between_self p s f)

pub states_between_next : (p : ProblemValue) (s t : StateValue) → Fits p s → Fits p t → rank p s ≤ rank p t → (t.label ≡ Done → ⊥) → states_between p s (next p t) ≡ states_between p s t ++ t ∷ []
states_between_next p s t f g l h = ap (λ n. states p n s) (steps_between_next p s t f g l h) ∙ ap (λ u. states_between p s t ++ u ∷ []) (leads_to p s t f g l).ends

pub states_between_join : (p : ProblemValue) (s t u : StateValue) → Fits p s → Fits p t → Fits p u → rank p s ≤ rank p t → rank p t ≤ rank p u → states_between p s u ≡ states_between p s t ++ states_between p t u
states_between_join p s t u f g h a b = ap (λ n. states p n s) (steps_between_join p s t u f g h a b) ∙ states_join p (steps_between p s t) (steps_between p t u) s ∙ ap (λ v. states_between p s t ++ states p (steps_between p t u) v) (leads_to p s t f g a).ends

pub visits_between_self : (p : ProblemValue) (s : StateValue) → Fits p s → visits_between p s s ≡ []
unfolding visits_between
visits_between_self p s f = ap (visits p) (states_between_self p s f)

pub visits_between_next : (p : ProblemValue) (s t : StateValue) → Fits p s → Fits p t → rank p s ≤ rank p t → (t.label ≡ Done → ⊥) → visits_between p s (next p t) ≡ visits_between p s t ++ visit_of p t
unfolding visits_between
visits_between_next p s t f g l h = ap (visits p) (states_between_next p s t f g l h) ∙ visits_push p (states_between p s t) t

pub visits_between_join : (p : ProblemValue) (s t u : StateValue) → Fits p s → Fits p t → Fits p u → rank p s ≤ rank p t → rank p t ≤ rank p u → visits_between p s u ≡ visits_between p s t ++ visits_between p t u
unfolding visits_between
visits_between_join p s t u f g h a b = ap (visits p) (states_between_join p s t u f g h a b) ∙ visits_join p (states_between p s t) (states_between p t u)

pub length-levels : (p : ProblemValue) (s t : StateValue) → length (levels p s t) ≡ length p.names + 1
unfolding levels
length-levels p s t = length-map (numbers (length p.names + 1) 0) (level_count (states_between p s t)) ∙ length-numbers (length p.names + 1) 0

get_or-numbers : (n k i d : ℕ) → i < n → get_or (numbers n k) i d ≡ k + i
get_or-numbers zero k i d l = absurd (omega arith)
get_or-numbers (suc n) k zero d l = omega arith
get_or-numbers (suc n) k (suc i) d l = let e = get_or-numbers n (suc k) i d (omega arith) in omega arith

-- of what is told of each level, the one at a level
pub counts_at : (count : ℕ → ℕ) (n level d : ℕ) → level < n → get_or (map count (numbers n 0)) level d ≡ count level
counts_at count n level d l =
    let e = length-numbers n 0 in
    let f = get_or-numbers n 0 level 0 l in
    get_or-map count (numbers n 0) level 0 d (omega arith) ∙ ap count (let g : get_or (numbers n 0) level 0 ≡ level = omega arith in g)

-- the count at each level
pub levels_at : (p : ProblemValue) (s t : StateValue) (level d : ℕ) → level ≤ length p.names → get_or (levels p s t) level d ≡ level_count (states_between p s t) level
unfolding levels
levels_at p s t level d l = counts_at (level_count (states_between p s t)) (length p.names + 1) level d (omega arith)

pub level_count_next : (p : ProblemValue) (s t : StateValue) (level : ℕ) → Fits p s → Fits p t → rank p s ≤ rank p t → (t.label ≡ Done → ⊥) → level_count (states_between p s (next p t)) level ≡ level_count (states_between p s t) level + cond (is_level t.label && (length t.path == level)) 1 0
level_count_next p s t level f g l h = ap (λ ss. level_count ss level) (states_between_next p s t f g l h) ∙ level_count_push (states_between p s t) t level

pub level_count_between : (p : ProblemValue) (s t u : StateValue) (level : ℕ) → Fits p s → Fits p t → Fits p u → rank p s ≤ rank p t → rank p t ≤ rank p u → level_count (states_between p s u) level ≡ level_count (states_between p s t) level + level_count (states_between p t u) level
level_count_between p s t u level f g h a b = ap (λ ss. level_count ss level) (states_between_join p s t u f g h a b) ∙ level_count_join (states_between p s t) (states_between p t u) level
