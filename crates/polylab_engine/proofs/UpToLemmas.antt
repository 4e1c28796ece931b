-- What is written up to symmetry shows one packing of each class, in path order, and counts packings and classes.
use Rattle.std.proofs.Common.{◌≡◌, ℕ, zero, suc, ◌-◌, ◌*◌, ◌<◌, ◌≤◌, Bool, true, false, Option, Some, None, List, [], ◌∷◌, map, length, get_or, inl, inr, refl, sym, ap, subst, ◌∙◌, arith}
use Rattle.std.proofs.lemmas.List.{length-map}
use Rattle.text_lines.specs.Writing.{text_of}
use Rattle.poly_cells.specs.Sets as sets
use Rattle.shared_words.specs.Lists.{has, RisesFrom}
use Rattle.cover_problem.specs.Problem.{ProblemValue, IsProblem, option_at, is_small}
use Rattle.cover_problem.specs.ExactCover.{IsExactCover}
use Rattle.cover_problem.proofs.MemberLemmas.{has_here, has_later, has_at}
use Rattle.cover_problem.proofs.NumberLemmas.{rises_member}
use Rattle.poly_texts.specs.Puzzle.{PuzzleValue, IsPuzzle}
use Rattle.poly_place.specs.declared.alike.Group.{Group}
use Rattle.poly_place.specs.Packings.{Thing, packing_problem}
use Rattle.poly_place.specs.Listing.{AreExactCovers}
use Rattle.poly_place.proofs.CompiledLemmas.{is_problem}
use Rattle.poly_distinct.specs.Rule.{anchor_of, symmetries_at}
use Rattle.poly_distinct.specs.Distinct.{AreTheCovers, AreDifferent, AreOneOfEach, IsPartOf, numbers_left}
use Rattle.poly_distinct.specs.UpTo.{smaller_at, smaller, whole_paths_at, whole_paths, new_paths, stood_for, each_stands}
use Rattle.poly_distinct.specs.Free.{acts_freely}
use Rattle.poly_distinct.proofs.NewLemmas.{distinct_part}
use Rattle.poly_distinct.proofs.SmallerLemmas.{smaller_is, numbers_rise}
use Rattle.poly_distinct.proofs.FreeVisitLemmas.{visits_distinct, visits_new}
use Rattle.poly_distinct.proofs.UpToLemmas.{smaller_is_problem, smaller_meets, new_are_one_of_each, new_are_classes, packings_are_stood_for, each_stands_for}
use Rattle.x_steps.specs.Order.{IsIn, PathLess, AllAfter, PathsRise}
use Rattle.x_steps.specs.Covers.{AreCovers}
use Rattle.x_steps.specs.StateValue.{start, done}
use Rattle.x_steps.specs.Run.{visits_between}
use Rattle.x_steps.proofs.VisitLemmas.{visits_rise, visits_are_covers}
use Rattle.polylab_engine.specs.Account.{ReportValue, account_of}
use Rattle.polylab_engine.specs.Output.{whole_report}
use Rattle.polylab_engine.specs.UpTo.{up_to_lines, solve_up_to_output, count_up_to_output, options_up_to_output}
use Rattle.polylab_engine.specs.Listed.{AreAllPackings, packing_of, ListsDistinct, CountsDistinct, GivesSmaller}
use Rattle.polylab_engine.proofs.PathLemmas.{in_from, in_to, not_before_itself, after_member}
use Rattle.std.proofs.lemmas.Simd.{map-map}
use Rattle.poly_place.specs.Chosen.{PackingValue, chosen_by}
use Rattle.poly_place.specs.Classes.{AreAlike, IsClassCount}

-- ---- paths in order

-- the covers of a problem, as a set of lists that differ
the_covers : (q : ProblemValue) (paths : List (List ℕ)) → AreCovers q paths → AreTheCovers q paths
the_covers q paths covers = record {
  sound = λ path i. covers.sound path (in_to path paths i);
  complete = λ set e. let r = covers.complete set e in (r.0, in_from r.0 paths r.1, r.2);
}

different : (paths : List (List ℕ)) → PathsRise paths → ((q r : List ℕ) → IsIn q paths → IsIn r paths → ((o : ℕ) → has q o ≡ has r o) → q ≡ r) → AreDifferent paths
different [] rise once = tt
different (q ∷ qs) rise once = (
  (λ r i same. not_before_itself q (subst (λ (t : List ℕ). PathLess q t) (sym (once q r (inl refl) (inr (in_to r qs i)) same)) (after_member q r qs rise.0 i))),
  different qs rise.1 (λ t u i j. once t u (inr i) (inr j)),
)

-- some of rising paths rise
all_after_part : (q : List ℕ) (xs ys : List (List ℕ)) → IsPartOf xs ys → AllAfter q ys → AllAfter q xs
all_after_part q [] ys part all = tt
all_after_part q (x ∷ xs) [] part all = absurd part
all_after_part q (x ∷ xs) (y ∷ ys) part all =
    elim part [
      | inl here ↦ (subst (λ (t : List ℕ). PathLess q t) (sym here.0) all.0, all_after_part q xs ys here.1 all.1)
      | inr later ↦ all_after_part q (x ∷ xs) ys later all.1
    ]

part_rises : (xs ys : List (List ℕ)) → IsPartOf xs ys → PathsRise ys → PathsRise xs
part_rises [] ys part rise = tt
part_rises (x ∷ xs) [] part rise = absurd part
part_rises (x ∷ xs) (y ∷ ys) part rise =
    elim part [
      | inl here ↦ (subst (λ (t : List ℕ). AllAfter t xs) (sym here.0) (all_after_part y xs ys here.1 rise.0), part_rises xs ys here.1 rise.1)
      | inr later ↦ part_rises (x ∷ xs) ys later rise.1
    ]

-- ---- renumbered

rising_apart : (n : ℕ) (xs : List ℕ) (j k : ℕ) → RisesFrom n xs → j < k → k < length xs → get_or xs j 0 < get_or xs k 0
rising_apart n [] j k r l m = absurd (omega (arith, m))
rising_apart n (x ∷ xs) j zero r l m = absurd (omega (arith, l))
rising_apart n (x ∷ xs) zero (suc k) r l m = rises_member (suc x) (get_or xs k 0) xs r.1 (has_at xs k 0 (omega (arith, m)))
rising_apart n (x ∷ xs) (suc j) (suc k) r l m = rising_apart (suc x) xs j k r.1 (omega (arith, l)) (omega (arith, m))

module _ (kept : List ℕ) (r : RisesFrom 1 kept) where
  abbrev number : ℕ → ℕ
  number k = get_or kept (k - 1) 0

  -- each number of the path is one of those
  abbrev IsWithin : List ℕ → Type 0
  IsWithin q = (k : ℕ) → has q k ≡ true → (0 < k) × (k ≤ length kept)

  less_stays : (q t : List ℕ) → IsWithin q → IsWithin t → PathLess q t → PathLess (map number q) (map number t)
  less_stays q [] a b l = absurd l
  less_stays [] (y ∷ t) a b l = tt
  less_stays (x ∷ q) (y ∷ t) a b l =
      let low = a x (has_here x q) in
      let high = b y (has_here y t) in
      elim l [
        | inl less ↦ inl (let p = low.0 in let s = high.1 in rising_apart 1 kept (x - 1) (y - 1) r (omega (arith, less, p)) (omega (arith, less, p, s)))
        | inr same ↦ inr (ap number same.0, less_stays q t (λ k h. a k (has_later x q k h)) (λ k h. b k (has_later y t k h)) same.1)
      ]

  after_stays : (q : List ℕ) (ts : List (List ℕ)) → IsWithin q → ((t : List ℕ) → sets.IsIn t ts → IsWithin t) → AllAfter q ts → AllAfter (map number q) (map (map number) ts)
  after_stays q [] a b l = tt
  after_stays q (t ∷ ts) a b l = (less_stays q t a (b t (inl refl)) l.0, after_stays q ts a (λ u i. b u (inr i)) l.1)

  rise_stays : (ts : List (List ℕ)) → ((t : List ℕ) → sets.IsIn t ts → IsWithin t) → PathsRise ts → PathsRise (map (map number) ts)
  rise_stays [] b l = tt
  rise_stays (t ∷ ts) b l = (after_stays t ts (b t (inl refl)) (λ u i. b u (inr i)) l.0, rise_stays ts (λ u i. b u (inr i)) l.1)

-- ---- the search of the smaller problem

module _ (p : PuzzleValue) (z : IsPuzzle p) (fits : is_small (packing_problem p) ≡ true) (group : Group) where
  abbrev small : List (List ℕ)
  small = visits_between (smaller p group) start done

  abbrev all : List (List ℕ)
  all = visits_between (packing_problem p) start done

  are_small : AreCovers (smaller p group) small
  are_small = visits_are_covers (smaller p group) (smaller_is_problem p z group fits)

  are_all : AreCovers (packing_problem p) all
  are_all = visits_are_covers (packing_problem p) (is_problem p z fits)

  rise_at : (a : Option Thing) (paths : List (List ℕ)) → AreTheCovers (smaller_at p group a) paths → PathsRise paths → PathsRise (whole_paths_at p group a paths)
  rise_at None paths covers rise = rise
  rise_at (Some t) paths covers rise =
      let ns = symmetries_at p group t in
      let left = numbers_left p t ns in
      rise_stays left (numbers_rise p t ns) paths
      (λ q i k h.
      let o = (subst (λ (s : ProblemValue). IsExactCover s (has q)) (smaller_is p z t ns) (covers.sound q i)).options k h in
      let long = length-map left (option_at (packing_problem p)) in
      let x = o.0 in
      let y = o.1 in
      (x, omega (arith, y, long))) rise

  whole_rise : (paths : List (List ℕ)) → AreTheCovers (smaller p group) paths → PathsRise paths → PathsRise (whole_paths p group paths)
  unfolding smaller whole_paths
  whole_rise = rise_at (anchor_of p group)

  new_rise : PathsRise (new_paths p group small)
  new_rise =
      part_rises (new_paths p group small) (whole_paths p group small) (distinct_part p group (whole_paths p group small))
      (whole_rise small (the_covers (smaller p group) small are_small) (visits_rise (smaller p group)))

  pub shows_distinct : ListsDistinct group p (solve_up_to_output group p)
  unfolding solve_up_to_output account_of visits_between
  shows_distinct = record {
    paths = new_paths p group small;
    lines = refl;
    rise = new_rise;
    one_of_each = new_are_one_of_each p z group small (the_covers (smaller p group) small are_small);
  }

  pub counts_distinct : AreAllPackings p (map (chosen_by p) all) → CountsDistinct group p (count_up_to_output group p)
  unfolding count_up_to_output account_of visits_between
  counts_distinct packings =
      let whole = the_covers (packing_problem p) all are_all in
      let covers = the_covers (smaller p group) small are_small in
      let long = packings_are_stood_for p z group all small whole (different all (visits_rise (packing_problem p)) are_all.once) covers (different small (visits_rise (smaller p group)) are_small.once) in
      record {
        packings = map (chosen_by p) all;
        number = length (new_paths p group small);
        all = packings;
        lines = rw (length-map all (chosen_by p), long) refl;
        by_group = subst (λ (qs : List PackingValue). IsClassCount (AreAlike group) qs (length (new_paths p group small))) (sym (map-map (packing_of p) (chosen_by p) all)) (new_are_classes p z group all small whole covers);
      }

  pub gives_smaller : GivesSmaller group p (options_up_to_output group p)
  unfolding options_up_to_output
  gives_smaller = record {
    lines = refl;
    meets = λ covers are. smaller_meets p z group covers (the_covers (smaller p group) covers are);
    counts = λ n covers paths each are rise whole up.
        packings_are_stood_for p z group paths covers (the_covers (packing_problem p) paths whole) (different paths up whole.once) (the_covers (smaller p group) covers are) (different covers rise are.once)
        ∙ each_stands_for p z group n covers each (the_covers (smaller p group) covers are);
    alone = λ covers free are rise.
        subst (λ (qs : List (List ℕ)). AreOneOfEach p group qs)
        (visits_distinct p z group free covers (the_covers (smaller p group) covers are).sound (different covers rise are.once))
        (new_are_one_of_each p z group covers (the_covers (smaller p group) covers are));
  }

-- at a free anchor the number of visits tells that of the packings and that of the classes
pub free_numbers
    : (p : PuzzleValue) → IsPuzzle p → (group : Group) → IsProblem (smaller p group) → acts_freely p group ≡ true
    → (n : ℕ) → each_stands p group ≡ Some n
    → let small = visits_between (smaller p group) start done in
    (stood_for p group small ≡ length small * n) × (length (new_paths p group small) ≡ length small)
free_numbers p z group sound free n each =
    let small = visits_between (smaller p group) start done in
    let are = visits_are_covers (smaller p group) sound in
    let covers = the_covers (smaller p group) small are in (
      each_stands_for p z group n small each covers,
      visits_new p z group free small covers.sound (different small (visits_rise (smaller p group)) are.once),
    )

-- and so the text that is made of the number of visits alone is what is written
pub free_text
    : (p q : PuzzleValue) (group : Group) (s : ProblemValue) (r : ReportValue) (free : Bool) (told : Option ℕ) (each visits packings : ℕ)
    → q ≡ p → IsPuzzle p → s ≡ smaller q group → IsProblem s → free ≡ acts_freely q group → free ≡ true → told ≡ each_stands q group → told ≡ Some each
    → r ≡ whole_report false s → visits ≡ r.visited → packings ≡ visits * each
    → text_of (up_to_lines group (smaller q group) packings visits r.steps r.levels) ≡ count_up_to_output group p
unfolding count_up_to_output account_of visits_between
free_text p q group s r free told each visits packings same z e sound f holds t some report many product =
    let small = visits_between (smaller p group) start done in
    let s_is : s ≡ smaller p group = e ∙ ap (λ (x : PuzzleValue). smaller x group) same in
    let r_is : r ≡ whole_report false (smaller p group) = report ∙ ap (whole_report false) s_is in
    let is_free : acts_freely p group ≡ true = sym (ap (λ (x : PuzzleValue). acts_freely x group) same) ∙ sym f ∙ holds in
    let each_is : each_stands p group ≡ Some each = sym (ap (λ (x : PuzzleValue). each_stands x group) same) ∙ sym t ∙ some in
    let numbers = free_numbers p z group (subst IsProblem s_is sound) is_free each each_is in
    let visits_are : visits ≡ length small = many ∙ ap (λ (b : ReportValue). b.visited) r_is in
    let stood : packings ≡ stood_for p group small = product ∙ ap (λ (n : ℕ). n * each) visits_are ∙ sym numbers.0 in
    let classes : visits ≡ length (new_paths p group small) = visits_are ∙ sym numbers.1 in
    ap (λ (x : PuzzleValue). text_of (up_to_lines group (smaller x group) packings visits r.steps r.levels)) same
    ∙ ap (λ (n : ℕ). text_of (up_to_lines group (smaller p group) n visits r.steps r.levels)) stood
    ∙ ap (λ (n : ℕ). text_of (up_to_lines group (smaller p group) (stood_for p group small) n r.steps r.levels)) classes
    ∙ ap (λ (b : ReportValue). text_of (up_to_lines group (smaller p group) (stood_for p group small) (length (new_paths p group small)) b.steps b.levels)) r_is

-- ---- what the code has

path_in : (paths : List (List ℕ)) (i : ℕ) → i < length paths → IsIn (get_or paths i []) paths
path_in [] i h = absurd (omega (arith, h))
path_in (x ∷ xs) zero h = inl refl
path_in (x ∷ xs) (suc i) h = inr (path_in xs i (omega (arith, h)))

-- the visits that a report of a problem keeps are its exact covers
pub reported_covers : (q s : ProblemValue) (r : ReportValue) (visits : List (List ℕ)) → s ≡ q → IsProblem s → r ≡ whole_report true s → visits ≡ r.visits → AreExactCovers q visits
unfolding account_of visits_between
reported_covers q s r visits e sound report kept =
    subst (λ (vs : List (List ℕ)). AreExactCovers q vs) (sym (kept ∙ ap (λ (b : ReportValue). b.visits) (report ∙ ap (whole_report true) e)))
    (λ k lt. (visits_are_covers q (subst IsProblem e sound)).sound (get_or (visits_between q start done) k []) (path_in (visits_between q start done) k lt))
