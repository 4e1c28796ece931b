-- What a search adds, one option after another.
use Rattle.std.proofs.Common.{◌≡◌, ℕ, zero, suc, ◌+◌, ◌-◌, ◌<◌, ◌≤◌, ◌⊎◌, true, false, List, [], ◌∷◌, ◌++◌, Option, Some, None, is_some, not, unwrap_or, Bool, nat_lt, length, sum_by, refl, sym, ap, ◌∙◌, subst, inl, inr, arith, append_assoc, length-append}
use Rattle.std.proofs.lemmas.Bool.{cases_lt, lt-ltb, false≢true}
use Rattle.std.proofs.lemmas.List.Sums.{sum_by_push}
use Rattle.shared_words.specs.Lists.{has, above, LosesLast}
use Rattle.cover_problem.specs.Problem.{ProblemValue, IsProblem, option_at}
use Rattle.cover_problem.specs.Covering.{active, remaining, list_of, choice}
use Rattle.cover_problem.specs.Path.{others, taken, IsChoice}
use Rattle.cover_problem.specs.Coverable.{IsUncovered, CanCover}
use Rattle.cover_problem.specs.Table.{IsCoveredList}
use Rattle.cover_problem.proofs.PathLemmas.{choice_has, choice_falls, can_take, taken_is, covered_taken, length-others}
use Rattle.cover_problem.proofs.RisingLemmas.{above_is}
use Rattle.cover_problem.proofs.ActiveLemmas.{active_in}
use Rattle.cover_problem.proofs.RemainingLemmas.{remaining_rises, list_uncovered, choice_active}
use Rattle.x_steps.proofs.ListingLemmas.{Lists, lists_none, lists_member, lists_more, lists_all}
use Rattle.kept_counts.specs.Below.{tried_options, states_below, visits_below}
use Rattle.kept_counts.proofs.BelowLemmas.{choices_some, visits_some}
use Rattle.cover_counts.specs.declared.below.Below.{Below}
use Rattle.cover_counts.specs.declared.search.Open.{Open}
use Rattle.cover_counts.specs.Levels.{at_first}
use Rattle.cover_counts.specs.Below.{states_at, Gains, CountsBelow}
use Rattle.cover_counts.specs.Search.{IsTableOf, IsTaken, IsEntered, IsCounted, left_of}
use Rattle.cover_counts.proofs.BelowLemmas.{visit_gains, end_gains, known_gains}

-- if two joined lists are equal and their backs have one length, their fronts are equal
same_fronts : (e c back rest : List ℕ) → length back ≡ length rest → e ++ back ≡ c ++ rest → e ≡ c
same_fronts [] [] back rest l h = refl
same_fronts [] (x ∷ c) back rest l h = let n = ap (length {A = ℕ}) h in let m = length-append c rest in absurd (omega (arith, n, m, l))
same_fronts (x ∷ e) [] back rest l h = let n = ap (length {A = ℕ}) h in let m = length-append e back in absurd (omega (arith, n, m, l))
same_fronts (x ∷ e) (y ∷ c) back rest l h =
    let head : x ≡ y = cc in
    let tail : e ++ back ≡ c ++ rest = cc in
    rw (head, same_fronts e c back rest l tail) refl

chosen_list : (p : ProblemValue) (c : List ℕ) → 0 < length (active p c) → list_of p c (choice p c) ≡ remaining p c (choice p c)
chosen_list p c l = list_uncovered p c (choice p c) (active_in p c (choice p c) (choice_active p c l)).0

lists_of : (p : ProblemValue) (c : List ℕ) (top : Open) → (t : IsTaken p c top) → Lists (remaining p c (choice p c)) t.gone top.next
lists_of p c top t = record { rest = t.rest; whole = t.whole; first = t.first }

pub taken_choice : (p : ProblemValue) (c : List ℕ) (top : Open) (o : ℕ) → IsTaken p c top → top.next ≡ Some o → IsChoice p c o
taken_choice p c top o t e = record { active = t.active; left = lists_member (remaining p c (choice p c)) (remaining_rises p c (choice p c)) t.gone top.next (lists_of p c top t) o e }

-- the counts of the next option were added, and the option after it is the next one
pub taken_on : (p : ProblemValue) (c : List ℕ) (old new : Open) (o : ℕ) → IsTaken p c old → old.next ≡ Some o → new.item ≡ old.item → new.key ≡ old.key → new.next ≡ above o (remaining p c (choice p c))
    → Gains old.below new.below (visits_below p (taken p c o)) (λ k. states_below p k (taken p c o)) → IsTaken p c new
taken_on p c old new o t e i k n a =
    let l = lists_more (remaining p c (choice p c)) (remaining_rises p c (choice p c)) t.gone old.next (lists_of p c old t) o new.next e n in
    record {
      listed = t.listed;
      active = t.active;
      item = i ∙ t.item;
      key = rw k t.key;
      gone = t.gone ++ o ∷ [];
      rest = l.rest;
      whole = l.whole;
      first = l.first;
      visited = a.visited ∙ ap (λ n. n + visits_below p (taken p c o)) t.visited ∙ sym (sum_by_push (λ o. visits_below p (taken p c o)) t.gone o);
      here = a.at 0 ∙ (let f = t.here in omega (arith, f));
      at = λ k. a.at (suc k) ∙ ap (λ n. n + states_below p k (taken p c o)) (t.at k) ∙ sym (sum_by_push (λ o. states_below p k (taken p c o)) t.gone o);
    }

-- if all options are gone, all that lies below the set is counted
pub taken_all : (p : ProblemValue) (c : List ℕ) (top : Open) → IsTaken p c top → top.next ≡ None → CountsBelow p c top.below
taken_all p c top t e =
    let all : t.gone ≡ tried_options p c = lists_all (remaining p c (choice p c)) (remaining_rises p c (choice p c)) t.gone top.next (lists_of p c top t) e ∙ sym (choices_some p c t.active) in
    record { visited = t.visited ∙ ap (sum_by (λ o. visits_below p (taken p c o))) all ∙ sym (visits_some p c t.active); at = at all }
  where
    at : t.gone ≡ tried_options p c → (k : ℕ) → states_at top.below k ≡ states_below p k c
    at all zero = t.here
    at all (suc k) = t.at k ∙ ap (sum_by (λ o. states_below p k (taken p c o))) all

-- fewer options are left behind the next one
pub left_falls : (p : ProblemValue) (c : List ℕ) (next after : Option ℕ) (o : ℕ) → IsChoice p c o → next ≡ Some o → after ≡ above o (remaining p c (choice p c)) → left_of p after < left_of p next
left_falls p c next after o is e f = rw e (step after f)
  where
    within : o ≤ length p.options
    within = (choice_has p c o is).within

    step : (after : Option ℕ) → after ≡ above o (remaining p c (choice p c)) → left_of p after < suc (length p.options) - o
    step None f = let w = within in omega (arith, w)
    step (Some k) f = let more = (above_is o 1 (remaining p c (choice p c)) k (remaining_rises p c (choice p c)) (sym f)).more in let w = within in omega (arith, more, w)

-- an option is entered
module _ (p q : ProblemValue) (c : List ℕ) (item o : ℕ) (at : IsTableOf p q c) (chosen : item ≡ choice p c) (is : IsChoice p c o) where
  pub enters : IsUncovered q c item × (has (option_at p o) item ≡ true) × (0 < o) × (o ≤ length p.options)
  enters = let t = choice_has p c o is in rw (chosen, at.same) ((can_take p c o at.problem is).0, t.item, t.some, t.within)

  pub entered_others : (q2 : ProblemValue) (d : List ℕ) → q2 ≡ q → d ≡ c ++ item ∷ [] → CanCover q2 d (others item (option_at p o))
  entered_others q2 d e f = rw (e, f, chosen, at.same) (can_take p c o at.problem is).1

  pub entered : (d e : List ℕ) → d ≡ c ++ item ∷ [] → e ≡ d ++ others item (option_at p o) → e ≡ taken p c o
  entered d e f g = g ∙ (rw (f, chosen) refl) ∙ sym (taken_is p c o)

  pub entered_at : (q2 : ProblemValue) (d : List ℕ) → q2 ≡ q → d ≡ taken p c o → IsTableOf p q2 d
  entered_at q2 d e f = record { same = e ∙ at.same; problem = at.problem; covered = rw f (covered_taken p c o at.problem at.covered is) }

-- an option is left again
pub left_is : (p : ProblemValue) (c d e : List ℕ) (o : ℕ) → d ≡ taken p c o → IsChoice p c o → LosesLast d e (length (option_at p o)) → e ≡ c
left_is p c d e o f is l =
    let t = choice_has p c o is in
    let whole : e ++ l.0 ≡ c ++ choice p c ∷ others (choice p c) (option_at p o) = sym l.1 ∙ f ∙ taken_is p c o ∙ append_assoc c (choice p c ∷ []) (others (choice p c) (option_at p o)) in
    same_fronts e c l.0 (choice p c ∷ others (choice p c) (option_at p o)) (l.2 ∙ sym (length-others (choice p c) (option_at p o) t.item)) whole

pub left_at : (p q1 q2 : ProblemValue) (c d e : List ℕ) (o : ℕ) → IsProblem p → IsCoveredList p c → d ≡ taken p c o → IsChoice p c o → q1 ≡ p → q2 ≡ q1 → LosesLast d e (length (option_at p o)) → IsTableOf p q2 e
left_at p q1 q2 c d e o s k f is h g l = record { same = g ∙ h; problem = s; covered = rw (left_is p c d e o f is l) k }

pub leaves : (p : ProblemValue) (c d e option : List ℕ) (o : ℕ) → IsChoice p c o → d ≡ taken p c o → e ≡ d → option ≡ option_at p o → (front : List ℕ) × (back : List ℕ) × (e ≡ front ++ back) × (length back ≡ length option)
leaves p c d e option o is f g h =
    let t = choice_has p c o is in (
      c,
      choice p c ∷ others (choice p c) (option_at p o),
      g ∙ f ∙ taken_is p c o ∙ append_assoc c (choice p c ∷ []) (others (choice p c) (option_at p o)),
      length-others (choice p c) (option_at p o) t.item ∙ ap (length {A = ℕ}) (sym h),
    )

pub entered_falls : (p : ProblemValue) (c d : List ℕ) (o : ℕ) → d ≡ taken p c o → IsChoice p c o → length (active p d) < length (active p c)
entered_falls p c d o f is = rw f (choice_falls p c o is)

-- the same over a table whose problem is known by an equation
pub chosen_bounds : (p q : ProblemValue) (c : List ℕ) (item : ℕ) → IsTableOf p q c → 0 < length (active p c) → item ≡ choice q c → (item ≡ choice p c) × (0 < item) × (item ≤ length q.names)
chosen_bounds p q c item at l e =
    let is : item ≡ choice p c = e ∙ ap (λ r. choice r c) at.same in
    let a = active_in p c (choice p c) (choice_active p c l) in
    let w = at.problem.within in
    (is, omega (arith, is, a.1), rw at.same (omega (arith, is, a.2, w)))

-- the first option of its list
pub chosen_first : (p q : ProblemValue) (c : List ℕ) (item : ℕ) (next : Option ℕ) → IsTableOf p q c → 0 < length (active p c) → item ≡ choice p c → next ≡ above 0 (list_of q c item) → next ≡ above 0 (remaining p c (choice p c))
chosen_first p q c item next at l i e = e ∙ (rw (at.same, i) (ap (above 0) (chosen_list p c l)))

-- the option after another one
pub next_in : (p q : ProblemValue) (c d : List ℕ) (item o : ℕ) → IsTableOf p q d → d ≡ c → item ≡ choice p c → IsChoice p c o → has (list_of q d item) o ≡ true
next_in p q c d item o at e i is = rw (at.same, e, i, chosen_list p c is.active) is.left

pub next_is : (p q : ProblemValue) (c d : List ℕ) (item o : ℕ) (after : Option ℕ) → IsTableOf p q d → d ≡ c → item ≡ choice p c → IsChoice p c o → after ≡ above o (list_of q d item) → after ≡ above o (remaining p c (choice p c))
next_is p q c d item o after at e i is f = f ∙ (rw (at.same, e, i) (ap (above o) (chosen_list p c is.active)))

-- whether an item is active
pub none_active : (p q : ProblemValue) (c : List ℕ) (b : Bool) → IsTableOf p q c → b ≡ nat_lt 0 (length (active q c)) → b ≡ false → length (active p c) ≡ 0
none_active p q c b at e f =
    let g : nat_lt 0 (length (active p c)) ≡ false = ap (λ r. nat_lt 0 (length (active r c))) (sym at.same) ∙ sym e ∙ f in
    step (cases_lt 0 (length (active p c))) g
  where
    step : (0 < length (active p c)) ⊎ (length (active p c) ≤ 0) → nat_lt 0 (length (active p c)) ≡ false → length (active p c) ≡ 0
    step (inl l) g = absurd (false≢true (sym g ∙ lt-ltb 0 (length (active p c)) l))
    step (inr l) g = omega (arith, l)

-- a dead end has no option
pub dead_end : (p : ProblemValue) (c : List ℕ) (next : Option ℕ) → next ≡ above 0 (remaining p c (choice p c)) → next ≡ None → remaining p c (choice p c) ≡ []
dead_end p c next e n = let rises = remaining_rises p c (choice p c) in sym (lists_all (remaining p c (choice p c)) rises [] next (lists_none (remaining p c (choice p c)) rises next e) n)

-- an option of the set was entered
pub is_in : (p q : ProblemValue) (c d : List ℕ) (top : Open) (o : ℕ) → IsTableOf p q c → IsTaken p c top → top.next ≡ Some o → d ≡ taken p c o → IsEntered p c d top.item o
is_in p q c d top o at t e f = record { listed = t.listed; chosen = t.item; choice = taken_choice p c top o t e; covered = f }

pub is_in_parent : (p : ProblemValue) (c d : List ℕ) (upper lower : Open) (o : ℕ) → (k : IsCounted p c d upper lower) → upper.next ≡ Some o → IsEntered p c d upper.item o
is_in_parent p c d upper lower o k e = record {
  listed = k.parent.listed;
  chosen = k.parent.item;
  choice = taken_choice p c upper o k.parent e;
  covered = k.covered ∙ ap (λ (r : Option ℕ). taken p c (unwrap_or r 0)) (sym k.next ∙ e);
}

-- what is added at a visit, and at a dead end
pub arrives_visit : (p q : ProblemValue) (c : List ℕ) (b : Bool) (old new : Below) → IsTableOf p q c → b ≡ nat_lt 0 (length (active q c)) → b ≡ false → Gains old new 1 at_first → Gains old new (visits_below p c) (λ k. states_below p k c)
arrives_visit p q c b old new at e f a = visit_gains p c old new (none_active p q c b at e f) a

pub arrives_end : (p q : ProblemValue) (c : List ℕ) (item : ℕ) (next : Option ℕ) (b : Bool) (old new : Below) → IsTableOf p q c → 0 < length (active p c) → item ≡ choice q c → next ≡ above 0 (list_of q c item) → is_some next ≡ not b → b ≡ true
    → Gains old new 0 at_first → Gains old new (visits_below p c) (λ k. states_below p k c)
arrives_end p q c item next b old new at l i e f g a =
    let n = chosen_first p q c item next at l (chosen_bounds p q c item at l i).0 e in
    end_gains p c old new l (dead_end p c next n (none next (f ∙ ap not g))) a
  where
    none : (r : Option ℕ) → is_some r ≡ false → r ≡ None
    none None h = refl
    none (Some o) h = absurd (cc)

-- what lies below an option was added to its set
pub tried_on : (p : ProblemValue) (c d : List ℕ) (old new : Open) (o : ℕ) (sum : Below) → IsTaken p c old → old.next ≡ Some o → d ≡ taken p c o → Gains old.below sum (visits_below p d) (λ k. states_below p k d)
    → new.item ≡ old.item → new.key ≡ old.key → new.below ≡ sum → new.next ≡ above o (remaining p c (choice p c)) → IsTaken p c new
tried_on p c d old new o sum t e f a i k b n = taken_on p c old new o t e i k n (rw b (subst (λ x. Gains old.below sum (visits_below p x) (λ j. states_below p j x)) f a))

-- all of a set is counted, and its parent goes on
pub counted_on : (p : ProblemValue) (c d : List ℕ) (upper lower new : Open) (o : ℕ) (sum : Below) → IsCounted p c d upper lower → upper.next ≡ Some o → Gains upper.below sum lower.below.visits (states_at lower.below)
    → new.item ≡ upper.item → new.key ≡ upper.key → new.below ≡ sum → new.next ≡ above o (remaining p c (choice p c)) → IsTaken p c new
counted_on p c d upper lower new o sum k e a i key b n =
    tried_on p c d upper new o sum k.parent e (is_in_parent p c d upper lower o k e).covered (known_gains p d upper.below sum lower.below (taken_all p d lower k.top k.none) a) i key b n

-- a set that goes on has a next option
pub has_next : {A : Type 0} (p : ProblemValue) (c d : List ℕ) (upper lower : Open) → IsCounted p c d upper lower → upper.next ≡ None → A
has_next p c d upper lower k e = let f : Some k.option ≡ None = sym k.next ∙ e in absurd (cc)
