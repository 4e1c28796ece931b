-- A stretch is counted step by step, and at once what lies below a path.
use Rattle.std.proofs.Common.{IsTrue, Result, Ok, Err, IfOk, OnOk, take-suc, ◌≡◌, ℕ, zero, suc, ◌+◌, ◌-◌, ◌<◌, ◌≤◌, ◌⊎◌, ◌==◌, nat_lt, Bool, true, false, cond, List, [], ◌∷◌, ◌++◌, take, get_or, length, refl, sym, ap, ◌∙◌, subst, inl, inr, arith, length-append, le_refl, sum_by}
use Rattle.std.proofs.lemmas.Bool.{cases_lt, cases_order, eq-eqb, ne_eqb}
use Rattle.shared_words.specs.Lists.{above}
use Rattle.cover_problem.specs.Problem.{ProblemValue}
use Rattle.cover_problem.specs.Covering.{active, remaining, choice}
use Rattle.cover_problem.specs.Path.{taken, covered_by, IsChoice, IsValid}
use Rattle.cover_problem.proofs.PathLemmas.{covered_by_push, valid_pop, covered_path}
use Rattle.x_steps.specs.declared.state.Label.{Label}
use Rattle.x_steps.specs.declared.state.Label.TheVariants.{X1, X2, X3, X4, X5, X6, X7, X8, Done}
use Rattle.x_steps.specs.declared.state.Cursor.{Cursor}
use Rattle.x_steps.specs.declared.state.Cursor.TheVariants as cursor
use Rattle.x_steps.specs.declared.state.Cursor.TheVariants.{At, Past}
use Rattle.x_steps.specs.StateValue.{StateValue, at}
use Rattle.x_steps.specs.Steps.{is_open, is_level, is_visit, IsOpen, Fits, FitsAt, next, next_cursor, remaining_after}
use Rattle.x_steps.specs.Run.{visits, level_count, states_between, visits_between}
use Rattle.x_steps.specs.Rank.{rank}
use Rattle.x_steps.proofs.Neighbours.{split_last_push, open_cases, fits_next}
use Rattle.x_steps.proofs.MovingLemmas.{next_fits}
use Rattle.x_steps.proofs.RankLemmas.{rank_next}
use Rattle.x_steps.proofs.StretchLemmas.{reached_rank}
use Rattle.x_steps.proofs.BetweenLemmas.{states_between_self, states_between_next, visits_between_self, visits_between_join, level_count_between}
use Rattle.x_branches.specs.RunOrder.{ComesBefore}
use Rattle.x_branches.proofs.StageLemmas.{comes_rank, rank_comes}
use Rattle.x_branches.proofs.RunnerLemmas.{not_before, before_not, other_before, next_before, before_goes_on}
use Rattle.kept_counts.specs.Below.{states_below}
use Rattle.kept_counts.proofs.RunLemmas.{path_visits, path_levels, path_above}
use Rattle.kept_counts.proofs.GatherLemmas.{path_adds}
use Rattle.kept_counts.proofs.BelowLemmas.{visits_none, choices_none}
use Rattle.cover_counts.specs.declared.below.Below.{Below}
use Rattle.cover_counts.specs.Levels.{lower}
use Rattle.cover_counts.specs.Below.{states_at, GainsAt, CountsBelow}
use Rattle.cover_counts.specs.Search.{IsTableOf, IsEntered}
use Rattle.cover_counts.specs.Stretch.{Counts, IsTableAt}

-- ---- single steps

module _ (p : ProblemValue) (s : StateValue) where
  pub next_X1 : s.label ≡ X1 → at X2 s.path cursor.None ≡ next p s
  unfolding next
  next_X1 e = rw e refl

  pub next_open : s.label ≡ X2 → is_open p s.path ≡ true → at X3 s.path cursor.None ≡ next p s
  unfolding next
  next_open e o = rw (e, o) refl

  pub next_closed : s.label ≡ X2 → is_open p s.path ≡ false → at X8 s.path cursor.None ≡ next p s
  unfolding next
  next_closed e o = rw (e, o) refl

  pub next_X3 : s.label ≡ X3 → at X4 s.path cursor.None ≡ next p s
  unfolding next
  next_X3 e = rw e refl

  pub next_X4 : (k : Cursor) → s.label ≡ X4 → k ≡ next_cursor (above 0 (remaining_after p s.path)) → at X5 s.path k ≡ next p s
  unfolding next
  next_X4 k e f = rw (e, f) refl

  pub next_at_option : (o : ℕ) → s.label ≡ X5 → s.cursor ≡ At o → at X2 (s.path ++ o ∷ []) cursor.None ≡ next p s
  unfolding next
  next_at_option o e f = rw (e, f) refl

  pub next_past : s.label ≡ X5 → s.cursor ≡ Past → at X7 s.path cursor.None ≡ next p s
  unfolding next
  next_past e f = rw (e, f) refl

  pub next_X6 : (o : ℕ) (k : Cursor) → s.label ≡ X6 → s.cursor ≡ At o → k ≡ next_cursor (above o (remaining_after p s.path)) → at X5 s.path k ≡ next p s
  unfolding next
  next_X6 o k e f g = rw (e, f, g) refl

  pub next_X7 : s.label ≡ X7 → at X8 s.path cursor.None ≡ next p s
  unfolding next
  next_X7 e = rw e refl

  pub next_back : (q : List ℕ) (o : ℕ) → s.label ≡ X8 → s.path ≡ q ++ o ∷ [] → at X6 q (At o) ≡ next p s
  unfolding next
  next_back q o e f = rw (e, f, split_last_push q o) refl

  pub next_end : s.label ≡ X8 → s.path ≡ [] → at Done s.path cursor.None ≡ next p s
  unfolding next
  next_end e f = rw (e, f) refl

-- the table stays where the path does
pub stays : (p q : ProblemValue) (c : List ℕ) (s t : StateValue) → IsTableAt p q c s → t ≡ next p s → t.path ≡ s.path → IsTableAt p q c t
stays p q c s t a e f = record { table = a.table; fits = subst (Fits p) (sym e) (fits_next p s a.fits); covered = a.covered ∙ ap (covered_by p) (sym f) }

pub stays_by : (p q : ProblemValue) (c : List ℕ) (s t : StateValue) → IsTableAt p q c s → t ≡ next p s → (next p s).path ≡ s.path → IsTableAt p q c t
stays_by p q c s t a e f = stays p q c s t a e (ap (λ (x : StateValue). x.path) e ∙ f)

pub path_X2 : (p : ProblemValue) (s : StateValue) → s.label ≡ X2 → (next p s).path ≡ s.path
path_X2 p s l = step (open_cases p s.path)
  where
    step : ((is_open p s.path ≡ true) × IsOpen p s.path) ⊎ ((is_open p s.path ≡ false) × (length (active p (covered_by p s.path)) ≡ 0)) → (next p s).path ≡ s.path
    step (inl o) = ap (λ (x : StateValue). x.path) (sym (next_open p s l o.0))
    step (inr o) = ap (λ (x : StateValue). x.path) (sym (next_closed p s l o.0))

pub path_X4 : (p : ProblemValue) (s : StateValue) → s.label ≡ X4 → (next p s).path ≡ s.path
path_X4 p s l = ap (λ (x : StateValue). x.path) (sym (next_X4 p s _ l refl))

pub path_X6 : (p : ProblemValue) (s : StateValue) (o : ℕ) → s.label ≡ X6 → s.cursor ≡ At o → (next p s).path ≡ s.path
path_X6 p s o l k = ap (λ (x : StateValue). x.path) (sym (next_X6 p s o _ l k refl))

-- the run ends where there is no choice left to take back
pub ends : (p : ProblemValue) (s t : StateValue) (rest : List ℕ) (len : ℕ) → s.label ≡ X8 → s.path ≡ rest ++ [] → len ≡ length s.path → len ≡ 0 → t ≡ at Done rest cursor.None → t ≡ next p s
ends p s t [] len l e n z g = g ∙ ap (λ q. at Done q cursor.None) (sym e) ∙ next_end p s l e
ends p s t (x ∷ rest) len l e n z g = let h = ap (length {A = ℕ}) e in let m = length-append rest [] in absurd (omega (arith, n, z, h))

-- whether an item is active
pub open_told : (p q : ProblemValue) (c : List ℕ) (s : StateValue) (b : Bool) → IsTableAt p q c s → b ≡ nat_lt 0 (length (active q c)) → b ≡ true → is_open p s.path ≡ true
open_told p q c s b a e t = sym (ap (λ r. nat_lt 0 (length (active r c))) a.table.same ∙ ap (λ d. nat_lt 0 (length (active p d))) a.covered) ∙ sym e ∙ t

pub closed_told : (p q : ProblemValue) (c : List ℕ) (s : StateValue) (b : Bool) → IsTableAt p q c s → b ≡ nat_lt 0 (length (active q c)) → b ≡ false → is_open p s.path ≡ false
closed_told p q c s b a e t = sym (ap (λ r. nat_lt 0 (length (active r c))) a.table.same ∙ ap (λ d. nat_lt 0 (length (active p d))) a.covered) ∙ sym e ∙ t

-- the options that a table has left at a state
pub options_at : (p q : ProblemValue) (c : List ℕ) (s : StateValue) → IsTableAt p q c s → (o : ℕ) → next_cursor (above o (remaining p c (choice p c))) ≡ next_cursor (above o (remaining_after p s.path))
options_at p q c s a o = ap (λ d. next_cursor (above o (remaining p d (choice p d)))) a.covered

-- the next option of a path that is covered
pub down_more : (p : ProblemValue) (c d path : List ℕ) (k : ℕ) → c ≡ covered_by p (take k path) → k < length path → IsValid p path → IsChoice p c (get_or path k 0) × (d ≡ taken p c (get_or path k 0) → d ≡ covered_by p (take (k + 1) path))
down_more p c d path k e l v =
    let f = next_fits p p [] path (take k path) k refl refl l v in (
      subst (λ x. IsChoice p x (get_or path k 0)) (sym e) f.1,
      λ g. g ∙ ap (λ x. taken p x (get_or path k 0)) e ∙ sym (covered_by_push p (take k path) (get_or path k 0)) ∙ ap (covered_by p) (sym more),
    )
  where
    more : take (k + 1) path ≡ take k path ++ get_or path k 0 ∷ []
    more = (let z : k + 1 ≡ suc k = omega arith in ap (λ n. take n path) z) ∙ take-suc path k 0 l

-- whether a step is X2
pub not_level : (l : Label) → (l ≡ X2 → ⊥) → is_level l ≡ false
not_level X2 h = absurd (h refl)
not_level _ h = refl

-- an option is taken
pub takes : (p q r : ProblemValue) (c d : List ℕ) (s t : StateValue) (o : ℕ) → IsTableAt p q c s → s.label ≡ X5 → s.cursor ≡ At o → IsTableOf p r d → d ≡ taken p c o → t ≡ at X2 (s.path ++ o ∷ []) cursor.None → IsTableAt p r d t
takes p q r c d s t o a l e table f g = record {
  table = table;
  fits = subst (Fits p) (sym (g ∙ next_at_option p s o l e)) (fits_next p s a.fits);
  covered = f ∙ ap (λ x. taken p x o) a.covered ∙ sym (covered_by_push p s.path o) ∙ ap (λ (x : StateValue). covered_by p x.path) (sym g);
}

-- the last option is taken back
module _ (p q : ProblemValue) (c : List ℕ) (s : StateValue) (front : List ℕ) (o : ℕ) (a : IsTableAt p q c s) (l : s.label ≡ X8) (e : s.path ≡ front ++ o ∷ []) where
  parts : IsValid p front × IsChoice p (covered_by p front) o
  parts = valid_pop p front o (subst (IsValid p) e (valid_at s.label s.path s.cursor a.fits l))
    where
      valid_at : (l : Label) (path : List ℕ) (k : Cursor) → FitsAt p l path k → l ≡ X8 → IsValid p path
      valid_at X8 path cursor.None f h = f
      valid_at X8 path Past f h = absurd f
      valid_at X8 path (At o) f h = absurd f
      valid_at X1 path k f h = absurd (cc)
      valid_at X2 path k f h = absurd (cc)
      valid_at X3 path k f h = absurd (cc)
      valid_at X4 path k f h = absurd (cc)
      valid_at X5 path k f h = absurd (cc)
      valid_at X6 path k f h = absurd (cc)
      valid_at X7 path k f h = absurd (cc)
      valid_at Done path k f h = absurd (cc)

  pub entered_back : IsEntered p (covered_by p front) c (choice p (covered_by p front)) o
  entered_back = record { listed = covered_path p front a.table.problem parts.0; chosen = refl; choice = parts.1; covered = a.covered ∙ ap (covered_by p) e ∙ covered_by_push p front o }

  pub left_again : (r : ProblemValue) (d : List ℕ) (t : StateValue) → IsTableOf p r d → d ≡ covered_by p front → t ≡ at X6 front (At o) → IsTableAt p r d t
  left_again r d t table f g = record {
    table = table;
    fits = subst (Fits p) (sym (g ∙ next_back p s front o l e)) (fits_next p s a.fits);
    covered = f ∙ ap (λ (x : StateValue). covered_by p x.path) (sym g);
  }

pub path_at_X2 : (p : ProblemValue) (l : Label) (path : List ℕ) (k : Cursor) → FitsAt p l path k → l ≡ X2 → IsValid p path × (at l path k ≡ at X2 path cursor.None)
path_at_X2 p X2 path cursor.None f e = (f, refl)
path_at_X2 p X2 path Past f e = absurd f
path_at_X2 p X2 path (At o) f e = absurd f
path_at_X2 p X1 path k f e = absurd (cc)
path_at_X2 p X3 path k f e = absurd (cc)
path_at_X2 p X4 path k f e = absurd (cc)
path_at_X2 p X5 path k f e = absurd (cc)
path_at_X2 p X6 path k f e = absurd (cc)
path_at_X2 p X7 path k f e = absurd (cc)
path_at_X2 p X8 path k f e = absurd (cc)
path_at_X2 p Done path k f e = absurd (cc)

-- ---- what is counted

pub lower_at : (n : ℕ) (f : ℕ → ℕ) (k : ℕ) → lower n f (n + k) ≡ f k
lower_at zero f k = let z : 0 + k ≡ k = omega arith in ap f z
lower_at (suc n) f k = let z : suc n + k ≡ suc (n + k) = omega arith in ap (lower (suc n) f) z ∙ lower_at n f k

pub lower_above : (n : ℕ) (f : ℕ → ℕ) (k : ℕ) → k < n → lower n f k ≡ 0
lower_above zero f k l = absurd (omega (arith, l))
lower_above (suc n) f zero l = refl
lower_above (suc n) f (suc k) l = lower_above n f k (omega (arith, l))

-- one X2 at a level
lower_one : (n : ℕ) (f : ℕ → ℕ) (k : ℕ) → f 0 ≡ 1 → ((j : ℕ) → f (suc j) ≡ 0) → lower n f k ≡ cond (n == k) 1 0
lower_one n f k one none = step (cases_order k n)
  where
    step : (k ≡ n) ⊎ ((k < n) ⊎ (n < k)) → lower n f k ≡ cond (n == k) 1 0
    step (inl e) = let z : k ≡ n + 0 = omega (arith, e) in ap (lower n f) z ∙ lower_at n f 0 ∙ one ∙ (rw (eq-eqb n k (sym e)) refl)
    step (inr (inl l)) = lower_above n f k l ∙ (rw (ne_eqb n k (λ e. omega (arith, e, l))) refl)
    step (inr (inr l)) = let z : k ≡ n + suc (k - n - 1) = omega (arith, l) in ap (lower n f) z ∙ lower_at n f (suc (k - n - 1)) ∙ none (k - n - 1) ∙ (rw (ne_eqb n k (λ e. omega (arith, e, l))) refl)

module _ (p : ProblemValue) where
  pub counts_none : (s : StateValue) (b : Below) → Fits p s → Counts p s s b b
  counts_none s b f = record {
    visited = let e = ap (length {A = List ℕ}) (visits_between_self p s f) in omega (arith, e);
    at = λ k. let e = ap (λ ss. level_count ss k) (states_between_self p s f) in omega (arith, e);
  }

  pub counts_join : (s t u : StateValue) (a b c : Below) → Fits p s → Fits p t → Fits p u → rank p s ≤ rank p t → rank p t ≤ rank p u → Counts p s t a b → Counts p t u b c → Counts p s u a c
  counts_join s t u a b c f g h l m x y = record {
    visited =
        let e = ap (length {A = List ℕ}) (visits_between_join p s t u f g h l m) in
        let d = length-append (visits_between p s t) (visits_between p t u) in
        let v = x.visited in
        let w = y.visited in
        omega (arith, e, d, v, w);
    at = λ k.
        let e = level_count_between p s t u k f g h l m in
        let v = x.at k in
        let w = y.at k in
        omega (arith, e, v, w);
  }

  states_one : (s : StateValue) → Fits p s → (s.label ≡ Done → ⊥) → states_between p s (next p s) ≡ s ∷ []
  states_one s f g = states_between_next p s s f f (le_refl (rank p s)) g ∙ ap (λ ss. ss ++ s ∷ []) (states_between_self p s f)

  visits_one : (s : StateValue) (b : Bool) → Fits p s → (s.label ≡ Done → ⊥) → is_visit p s ≡ b → length (visits_between p s (next p s)) ≡ cond b 1 0
  unfolding visits_between
  visits_one s b f g e = ap (λ ss. length (visits p ss)) (states_one s f g) ∙ one b e
    where
      one : (b : Bool) → is_visit p s ≡ b → length (visits p (s ∷ [])) ≡ cond b 1 0
      one true e = rw e refl
      one false e = rw e refl

  -- a step that isn't X2
  pub counts_quiet : (s t : StateValue) (b : Below) → Fits p s → (s.label ≡ Done → ⊥) → is_level s.label ≡ false → t ≡ next p s → Counts p s t b b
  counts_quiet s t b f g q e = subst (λ u. Counts p s u b b) (sym e) (record {
    visited = let v = visits_one s false f g (rw q refl) in omega (arith, v);
    at = λ k. let v : level_count (states_between p s (next p s)) k ≡ 0 = ap (λ ss. level_count ss k) (states_one s f g) ∙ (rw q refl) in omega (arith, v);
  })

  -- an X2 that finds an active item
  pub counts_open : (s t : StateValue) (old new one : Below) → Fits p s → s.label ≡ X2 → is_open p s.path ≡ true → one.visits ≡ 0 → one.low.items ≡ 1 ∷ [] → one.high.items ≡ [] → GainsAt (length s.path) old new one.visits (states_at one) → t ≡ next p s → Counts p s t old new
  counts_open s t old new one f l o v low high g e = subst (λ u. Counts p s u old new) (sym e) (record {
    visited = let w = visits_one s false f not_done (rw (l, o) refl) in let x = g.visited in omega (arith, v, w, x);
    at = λ k.
        let here : level_count (states_between p s (next p s)) k ≡ cond (length s.path == k) 1 0 = ap (λ ss. level_count ss k) (states_one s f not_done) ∙ count k (length s.path == k) refl in
        let x = g.at k in
        let y = lower_one (length s.path) (states_at one) k (rw (low, high) refl) (λ j. rw (low, high) refl) in
        omega (arith, here, x, y);
  })
    where
      not_done : s.label ≡ Done → ⊥
      not_done h = let z : X2 ≡ Done = sym l ∙ h in cc

      count : (k : ℕ) (b : Bool) → (length s.path == k) ≡ b → level_count (s ∷ []) k ≡ cond b 1 0
      count k true h = rw (l, h) refl
      count k false h = rw (l, h) refl

  -- all that lies below a path
  pub counts_path : (q : List ℕ) (old new b : Below) → IsValid p q → CountsBelow p (covered_by p q) b → GainsAt (length q) old new b.visits (states_at b) → Counts p (at X2 q cursor.None) (at X8 q cursor.None) old new
  counts_path q old new b v k g = record {
    visited = let a = path_visits p q v in let x = g.visited in let y = k.visited in omega (arith, a, x, y);
    at = λ j. let x = g.at j in let y = level_of j (cases_lt j (length q)) in omega (arith, x, y);
  }
    where
      level_of : (j : ℕ) → (j < length q) ⊎ (length q ≤ j) → lower (length q) (states_at b) j ≡ level_count (states_between p (at X2 q cursor.None) (at X8 q cursor.None)) j
      level_of j (inl l) = lower_above (length q) (states_at b) j l ∙ sym (path_above p q v j l)
      level_of j (inr l) =
          let z : j ≡ length q + (j - length q) = omega (arith, l) in
          ap (lower (length q) (states_at b)) z ∙ lower_at (length q) (states_at b) (j - length q) ∙ k.at (j - length q)
          ∙ sym (path_levels p q v (j - length q)) ∙ ap (level_count (states_between p (at X2 q cursor.None) (at X8 q cursor.None))) (sym z)

-- a visit alone
pub below_visit : (p : ProblemValue) (c : List ℕ) (b : Below) → length (active p c) ≡ 0 → b.visits ≡ 1 → b.low.items ≡ 1 ∷ [] → b.high.items ≡ [] → CountsBelow p c b
below_visit p c b e v low high = record { visited = v ∙ sym (visits_none p c e); at = at }
  where
    at : (k : ℕ) → states_at b k ≡ states_below p k c
    at zero = rw (low, high) refl
    at (suc k) = (let z : states_at b (suc k) ≡ 0 = rw (low, high) refl in z) ∙ sym (ap (sum_by (λ o. states_below p k (taken p c o))) (choices_none p c e))

pub below_visit_ok : {E : Type 0} (p : ProblemValue) (c : List ℕ) (r : Result Below E) → length (active p c) ≡ 0 → IfOk r (λ b. b.visits ≡ 1) → IfOk r (λ b. b.low.items ≡ 1 ∷ []) → IfOk r (λ b. b.high.items ≡ []) → IfOk r (CountsBelow p c)
below_visit_ok p c (Ok b) e v low high = below_visit p c b e v low high
below_visit_ok p c (Err x) e v low high = tt

pub counts_leap : (p q : ProblemValue) (c : List ℕ) (s t : StateValue) (old new b : Below) → IsTableAt p q c s → s.label ≡ X2 → CountsBelow p c b → GainsAt (length s.path) old new b.visits (states_at b) → t ≡ at X8 s.path cursor.None → Counts p s t old new
counts_leap p q c s t old new b a l k g e =
    let v = path_at_X2 p s.label s.path s.cursor a.fits l in
    let x = counts_path p s.path old new b v.0 (subst (λ d. CountsBelow p d b) a.covered k) g in
    subst (λ u. Counts p s u old new) (sym e) (subst (λ u. Counts p u (at X8 s.path cursor.None) old new) (sym v.1) x)

-- ---- the order on the run

module _ (p : ProblemValue) (s e : StateValue) (f : Fits p s) (g : Fits p e) (before : ComesBefore p s e) where
  pub on_before : s.label ≡ Done → ⊥
  on_before = before_goes_on p s e f g (comes_rank p s e f before)

  pub on_step : (t : StateValue) → t ≡ next p s → ComesBefore p s t
  on_step t h = subst (ComesBefore p s) (sym h) (rank_comes p s (next p s) f (fits_next p s f) (rank_next p s f on_before))

  pub step_not_past : (t : StateValue) → t ≡ next p s → ComesBefore p e t → ⊥
  step_not_past t h = subst (λ u. ComesBefore p e u → ⊥) (sym h) (before_not p e (next p s) g (next_before p s e f g (comes_rank p s e f before)))

  -- if the end lies below a path, an item is active there
  pub open_below : s.label ≡ X2 → ComesBefore p e (at X8 s.path cursor.None) → is_open p s.path ≡ true
  open_below l b = step (open_cases p s.path)
    where
      step : ((is_open p s.path ≡ true) × IsOpen p s.path) ⊎ ((is_open p s.path ≡ false) × (length (active p (covered_by p s.path)) ≡ 0)) → is_open p s.path ≡ true
      step (inl o) = o.0
      step (inr o) = absurd (step_not_past (at X8 s.path cursor.None) (next_closed p s l o.0) b)

-- X8 of a path comes after its X2
pub leaps : (p : ProblemValue) (q : List ℕ) → IsValid p q → ComesBefore p (at X2 q cursor.None) (at X8 q cursor.None)
leaps p q v =
    let s = at X2 q cursor.None in
    let t = at X8 q cursor.None in
    let a = path_adds p (λ x. 0) (length (active p (covered_by p q))) q v (le_refl (length (active p (covered_by p q)))) in
    rank_comes p s t v v (other_before p s t v v (reached_rank p s t a.steps v a.reaches) (λ e. let l : X2 ≡ X8 = ap (λ (x : StateValue). x.label) e in cc))

-- in a call that may be refused
pub ok_on : {X E : Type 0} (p : ProblemValue) (s e t : StateValue) (r : Result X E) → Fits p s → Fits p e → ComesBefore p s e → OnOk r (t ≡ next p s) → OnOk r (ComesBefore p s t)
ok_on p s e t (Ok x) f g b h = on_step p s e f g b t h
ok_on p s e t (Err x) f g b h = tt

pub ok_not_past : {X E : Type 0} (p : ProblemValue) (s e t : StateValue) (r : Result X E) → Fits p s → Fits p e → ComesBefore p s e → OnOk r (t ≡ next p s) → OnOk r (ComesBefore p e t → ⊥)
ok_not_past p s e t (Ok x) f g b h = step_not_past p s e f g b t h
ok_not_past p s e t (Err x) f g b h = tt

pub ok_quiet : {X E : Type 0} (p : ProblemValue) (s e t : StateValue) (b : Below) (r : Result X E) → Fits p s → Fits p e → ComesBefore p s e → (s.label ≡ X2 → ⊥) → OnOk r (t ≡ next p s) → OnOk r (Counts p s t b b)
ok_quiet p s e t b (Ok x) f g h n i = counts_quiet p s t b f (on_before p s e f g h) (not_level s.label n) i
ok_quiet p s e t b (Err x) f g h n i = tt

pub ok_open : {X E : Type 0} (p : ProblemValue) (s t : StateValue) (old new one : Below) (r : Result X E) → Fits p s → s.label ≡ X2 → is_open p s.path ≡ true → one.visits ≡ 0 → one.low.items ≡ 1 ∷ [] → one.high.items ≡ [] → GainsAt (length s.path) old new one.visits (states_at one) → OnOk r (t ≡ next p s) → OnOk r (Counts p s t old new)
ok_open p s t old new one (Ok x) f l o v low high g i = counts_open p s t old new one f l o v low high g i
ok_open p s t old new one (Err x) f l o v low high g i = tt

pub ok_leaps : {X E : Type 0} (p : ProblemValue) (s t : StateValue) (r : Result X E) → Fits p s → s.label ≡ X2 → OnOk r (t ≡ at X8 s.path cursor.None) → OnOk r (ComesBefore p s t)
ok_leaps p s t (Ok x) f l e = let v = path_at_X2 p s.label s.path s.cursor f l in subst (ComesBefore p s) (sym e) (subst (λ u. ComesBefore p u (at X8 s.path cursor.None)) (sym v.1) (leaps p s.path v.0))
ok_leaps p s t (Err x) f l e = tt

pub ok_holds : {X E : Type 0} (A : Type 0) (r : Result X E) → A → OnOk r A
ok_holds A (Ok x) a = a
ok_holds A (Err x) a = tt

-- X2 of a path, as it stands after a look at what lies below it
module _ (p : ProblemValue) (s m : StateValue) (f : Fits p s) (l : s.label ≡ X2) (same : m ≡ at X2 s.path cursor.None) where
  pub still : m ≡ s
  still = same ∙ sym (path_at_X2 p s.label s.path s.cursor f l).1

  pub still_path : m.path ≡ s.path
  still_path = ap (λ (x : StateValue). x.path) same

-- the order of the states before an end
module _ (p : ProblemValue) (s e : StateValue) (f : Fits p s) (g : Fits p e) where
  pub before_end : (ComesBefore p e s → ⊥) → (s ≡ e → ⊥) → ComesBefore p s e
  before_end h n = rank_comes p s e f g (other_before p s e f g (not_before p e s g f h) n)

  pub nearer : (t : StateValue) → Fits p t → ComesBefore p s t → (ComesBefore p e t → ⊥) → rank p e - rank p t < rank p e - rank p s
  nearer t h b n = let l = comes_rank p s t f b in let m = not_before p e t g h n in omega (arith, l, m)

  pub not_same : (b : Bool) → ((IsTrue b → s ≡ e) × (s ≡ e → IsTrue b)) → b ≡ false → s ≡ e → ⊥
  not_same b w z h = let t : b ≡ true = w.1 h in let c : false ≡ true = sym z ∙ t in cc

pub counted_on : (p : ProblemValue) (first s t : StateValue) (a b c : Below) → Fits p first → Fits p s → Fits p t → rank p first ≤ rank p s → ComesBefore p s t → Counts p first s a b → Counts p s t b c → Counts p first t a c
counted_on p first s t a b c f g h l w x y = counts_join p first s t a b c f g h l (let r = comes_rank p s t g w in omega (arith, r)) x y

pub rank_up : (p : ProblemValue) (first s t : StateValue) → Fits p s → rank p first ≤ rank p s → ComesBefore p s t → rank p first ≤ rank p t
rank_up p first s t f l w = let r = comes_rank p s t f w in omega (arith, r, l)
