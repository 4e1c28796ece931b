-- What is written lists the exact covers, or the packings.
use Rattle.std.proofs.Common.{◌≡◌, ℕ, suc, ◌<◌, ◌≤◌, arith, Bool, true, false, List, [], ◌∷◌, ◌++◌, length, map, take, cond, Result, Ok, Err, refl, sym, ap, ap₂, ◌∙◌, subst, inl, inr, codes}
use Rattle.std.proofs.lemmas.Bool.{lt-ltb, le-ltb}
use Rattle.std.proofs.lemmas.List.{take_all, take-map, length-map, append-nil}
use Rattle.std.proofs.lemmas.Grind.{flat_map-append}
use Rattle.std.proofs.lemmas.Simd.{map-map}
use Rattle.text_lines.specs.Writing.{line_text, text_of}
use Rattle.cover_counts.specs.Digits.{numeral}
use Rattle.shared_words.specs.Lists.{has}
use Rattle.cover_problem.specs.Problem.{is_small}
use Rattle.poly_texts.specs.declared.fault.Fault as puzzle
use Rattle.poly_texts.specs.Puzzle.{PuzzleValue, IsPuzzle}
use Rattle.poly_texts.specs.Grammar.{IsPuzzleText}
use Rattle.poly_texts.specs.Reading.{puzzle_of}
use Rattle.poly_texts.proofs.TextLemmas as texts
use Rattle.poly_texts.proofs.PuzzleLemmas.{puzzle_is}
use Rattle.cover_problem.specs.Grammar.{written}
use Rattle.poly_place.specs.Packings.{ChoiceValue, ArePackings, SetStandsFor, choice_at, packing_problem}
use Rattle.poly_place.specs.Chosen.{PackingValue, chosen_by, is_among}
use Rattle.poly_place.specs.Classes.{AreAlike, IsClassCount}
use Rattle.poly_place.specs.declared.alike.Group.TheVariants.{Rotations, Symmetries}
use Rattle.poly_place.proofs.PackingLemmas.{are_packings}
use Rattle.poly_place.proofs.ClassCountLemmas.{puzzle_classes}
use Rattle.poly_place.proofs.CompiledLemmas.{is_problem}
use Rattle.poly_place.proofs.ChosenLemmas.{cover_stands, cover_packs}
use Rattle.x_steps.specs.Order.{IsIn}
use Rattle.x_steps.specs.Covers.{AreCovers}
use Rattle.x_steps.specs.StateValue.{start, done}
use Rattle.x_steps.specs.Run.{visits_between}
use Rattle.x_steps.proofs.VisitLemmas.{visits_rise, visits_are_covers}
use Rattle.polylab_engine.specs.declared.job.Job.{Job}
use Rattle.polylab_engine.specs.declared.job.Job.TheVariants as jobs
use Rattle.polylab_engine.specs.declared.job.CoverJob.TheVariants as cover_jobs
use Rattle.polylab_engine.specs.declared.job.PuzzleJob.TheVariants as puzzle_jobs
use Rattle.polylab_engine.specs.Account.{account_of}
use Rattle.polylab_engine.specs.Output.{cover_output, cover_count_output, whole_report}
use Rattle.polylab_engine.proofs.ToldLemmas.{resumed}
use Rattle.polylab_engine.proofs.AddedLemmas.{joined_adds}
use Rattle.polylab_engine.specs.First.{stopped_line, first_cover_output, first_packings_output}
use Rattle.polylab_engine.specs.Packed.{number_line, options_line, count_lines, count_text, solve_output, count_output, options_output}
use Rattle.polylab_engine.specs.Classified.{packings_of, classes_of, class_lines, lines_of_classes, classes_output}
use Rattle.polylab_engine.specs.UpTo.{solve_up_to_output, count_up_to_output, options_up_to_output}
use Rattle.polylab_engine.proofs.UpToLemmas.{shows_distinct, counts_distinct, gives_smaller}
use Rattle.debug_script.specs.Input.{problem_text, command_lines}
use Rattle.polylab_engine.specs.Debugged.{debug_output}
use Rattle.polylab_engine.specs.Outcome.{job_outcome, packed_of, place_refusal, puzzle_replies}
use Rattle.polylab_engine.specs.Listed.{ListsCovers, CountsCovers, ListsFirstCovers, AreAllPackings, packing_of, shown_from, packing_totals, ListsPackings, ListsFirstPackings, CountsPackings, CountsClasses, ListsDistinct, CountsDistinct, GivesSmaller, IsListed}
use Rattle.polylab_engine.specs.Further.{ArePackingPaths, ShowsInOrder, ShowsFirstInOrder, CountsOptions, TellsFurther}
use Rattle.poly_place.specs.Listing.{packings_from}
use Rattle.polylab_engine.specs.Packing.{Packs}
use Rattle.poly_cells.specs.Sets as sets
use Rattle.poly_cells.proofs.SetLemmas.{contains_from_in, in_from_contains}
use Rattle.polylab_engine.proofs.PackingLemmas.{packs_from, packing_from}
use Rattle.polylab_engine.proofs.ShownLemmas.{all_packings, shown_is}
use Rattle.polylab_engine.proofs.CoverListLemmas.{some_of, levels_are, lists, counts_covers, lists_first, listed}

-- ---- packings

-- the exact covers of a puzzle's problem stand for its packings
packing_paths : (p : PuzzleValue) → IsPuzzle p → is_small (packing_problem p) ≡ true → ArePackingPaths p (visits_between (packing_problem p) start done)
packing_paths p z small = record {
  sound = λ q i. cover_packs p z q (a.sound q i);
  complete = λ chosen packing.
      let set = all.some_cover chosen packing in
      let q = a.complete set.0 (all.covers set.0 chosen set.1 packing) in
      let cover = a.sound q.0 q.1 in
      (q.0, q.1, all.one_packing (has q.0) (is_among (chosen_by p q.0)) chosen (cover_stands p z q.0 cover) (along set.0 (has q.0) chosen (λ o. sym (q.2 o)) set.1));
  once = λ q r i j same.
      a.once q r i j
      (all.one_cover (has q) (has r) (is_among (chosen_by p r)) (alike (has q) (is_among (chosen_by p q)) (is_among (chosen_by p r)) same (cover_stands p z q (a.sound q i)))
      (cover_stands p z r (a.sound r j)));
}
  where
    all : ArePackings p
    all = are_packings p z

    a : AreCovers (packing_problem p) (visits_between (packing_problem p) start done)
    a = visits_are_covers (packing_problem p) (is_problem p z small)

    along : (set other : ℕ → Bool) (chosen : ChoiceValue → Bool) → ((o : ℕ) → set o ≡ other o) → SetStandsFor p set chosen → SetStandsFor p other chosen
    along set other chosen e s = record {
      within = λ o h. s.within o (e o ∙ h);
      forth = λ o h le. s.forth o (e o ∙ h) le;
      back = λ c h. let o = s.back c h in (o.0, sym (e o.0) ∙ o.1, o.2, o.3);
      left = λ o past within. ((λ h. (s.left o past within).0 (e o ∙ h)), (λ a. sym (e o) ∙ (s.left o past within).1 a));
    }

    alike : (set : ℕ → Bool) (chosen other : ChoiceValue → Bool) → ((c : ChoiceValue) → chosen c ≡ other c) → SetStandsFor p set chosen → SetStandsFor p set other
    alike set chosen other e s = record {
      within = s.within;
      forth = λ o h le. sym (e (choice_at p o)) ∙ s.forth o h le;
      back = λ c h. s.back c (e c ∙ h);
      left = λ o past within. (
        (λ h.
            let a = (s.left o past within).0 h in record {
              used = λ n i. let c = a.used n i in (c.0, sym (e c.0) ∙ c.1, c.2);
              left = λ n i u. a.left n i (u.0, e u.0 ∙ u.1, u.2);
            }),
        (λ a. (s.left o past within).1 (record {
          used = λ n i. let c = a.used n i in (c.0, e c.0 ∙ c.1, c.2);
          left = λ n i u. a.left n i (u.0, sym (e u.0) ∙ u.1, u.2);
        })),
      );
    }

-- its visits, by the choices for which they stand, are its packings
visits_packings : (p : PuzzleValue) → IsPuzzle p → is_small (packing_problem p) ≡ true → AreAllPackings p (map (chosen_by p) (visits_between (packing_problem p) start done))
visits_packings p z small =
    let paths = visits_between (packing_problem p) start done in
    all_packings p z paths (visits_rise (packing_problem p)) (visits_are_covers (packing_problem p) (is_problem p z small)) (packing_paths p z small)

-- and lists of choices that are the packings have paths that stand for them, as many
module _ (p : PuzzleValue) (z : IsPuzzle p) (small : is_small (packing_problem p) ≡ true) where
  run_paths : ArePackingPaths p (visits_between (packing_problem p) start done)
  run_paths = packing_paths p z small

  path_for : (cs : List ChoiceValue) → Packs p (is_among cs) → List ℕ
  path_for cs h = (run_paths.complete (is_among cs) (packing_from p (is_among cs) h)).0

  abbrev AllPack : List (List ChoiceValue) → Type 0
  AllPack packings = (cs : List ChoiceValue) → sets.IsIn cs packings → Packs p (is_among cs)

  paths_for : (packings : List (List ChoiceValue)) → AllPack packings → List (List ℕ)
  paths_for [] h = []
  paths_for (cs ∷ packings) h = path_for cs (h cs (inl refl)) ∷ paths_for packings (λ ds i. h ds (inr i))

  as_many : (packings : List (List ChoiceValue)) (h : AllPack packings) → length (paths_for packings h) ≡ length packings
  unfolding paths_for
  as_many [] h = refl
  as_many (cs ∷ packings) h = ap suc (as_many packings (λ ds i. h ds (inr i)))

  -- each of them is a path of the run
  each_of_run : (packings : List (List ChoiceValue)) (h : AllPack packings) (q : List ℕ) → IsIn q (paths_for packings h) → IsIn q (visits_between (packing_problem p) start done)
  unfolding paths_for path_for
  each_of_run [] h q i = absurd i
  each_of_run (cs ∷ packings) h q (inl e) =
      subst (λ (t : List ℕ). IsIn t (visits_between (packing_problem p) start done)) (sym e) (run_paths.complete (is_among cs) (packing_from p (is_among cs) (h cs (inl refl)))).1
  each_of_run (cs ∷ packings) h q (inr i) = each_of_run packings (λ ds j. h ds (inr j)) q i

  -- and each packing has one
  one_for : (packings : List (List ChoiceValue)) (h : AllPack packings) (cs : List ChoiceValue) → sets.IsIn cs packings
      → (q : List ℕ) × IsIn q (paths_for packings h) × ((c : ChoiceValue) → is_among (chosen_by p q) c ≡ is_among cs c)
  unfolding paths_for path_for
  one_for [] h cs i = absurd i
  one_for (ds ∷ packings) h cs (inl e) =
      let q = run_paths.complete (is_among ds) (packing_from p (is_among ds) (h ds (inl refl))) in
      (q.0, inl refl, (λ c. q.2 c ∙ ap (λ (es : List ChoiceValue). is_among es c) (sym e)))
  one_for (ds ∷ packings) h cs (inr i) = let q = one_for packings (λ es j. h es (inr j)) cs i in (q.0, inr q.1, q.2)

  pub paths_back : (packings : List (List ChoiceValue)) → AreAllPackings p packings → (paths : List (List ℕ)) × ArePackingPaths p paths × (length paths ≡ length packings)
  paths_back packings all =
      let h : AllPack packings = λ cs i. all.sound cs (contains_from_in packings cs i) in (
        paths_for packings h,
        record {
          sound = λ q i. run_paths.sound q (each_of_run packings h q i);
          complete = λ chosen packing.
              let cs = all.complete chosen (packs_from p chosen packing) in
              let q = one_for packings h cs.0 (in_from_contains packings cs.0 cs.1) in
              (q.0, q.1, (λ c. q.2 c ∙ cs.2 c));
          once = λ q r i j same. run_paths.once q r (each_of_run packings h q i) (each_of_run packings h r j) same;
        },
        as_many packings h,
      )

-- how many they are
chosen_long : (p : PuzzleValue) (paths : List (List ℕ)) → length (map (chosen_by p) paths) ≡ length paths
chosen_long p paths = length-map paths (chosen_by p)

-- the packings of paths and their number
shown_text
    : (p : PuzzleValue) (paths : List (List ℕ))
    → packings_from p 1 paths ++ line_text (number_line (length paths))
    ≡ shown_from p 1 (map (chosen_by p) paths) ++ line_text (codes "packings" ∷ numeral (length (map (chosen_by p) paths)) ∷ [])
shown_text p paths =
    ap₂ (λ (xs : List ℕ) (n : ℕ). xs ++ line_text (codes "packings" ∷ numeral n ∷ [])) (shown_is p 1 paths) (sym (chosen_long p paths))

shows : (p : PuzzleValue) → IsPuzzle p → is_small (packing_problem p) ≡ true → ListsPackings p (solve_output p)
unfolding solve_output account_of visits_between
shows p z small = record {
  packings = map (chosen_by p) (visits_between (packing_problem p) start done);
  all = visits_packings p z small;
  lines = shown_text p (visits_between (packing_problem p) start done);
}

shows_whole : (n : ℕ) (p : PuzzleValue) → length (visits_between (packing_problem p) start done) < n → solve_output p ≡ first_packings_output n p
unfolding solve_output first_packings_output account_of visits_between
shows_whole n p l =
    let b = lt-ltb (length (visits_between (packing_problem p) start done)) n l in
    rw (b, take_all n (visits_between (packing_problem p) start done) (omega (arith, l))) refl

shows_stopped
    : (n : ℕ) (p : PuzzleValue) → n ≤ length (visits_between (packing_problem p) start done)
    → first_packings_output n p ≡ shown_from p 1 (take n (map (chosen_by p) (visits_between (packing_problem p) start done))) ++ line_text (stopped_line n)
unfolding first_packings_output account_of visits_between
shows_stopped n p l =
    let paths = visits_between (packing_problem p) start done in
    let b = le-ltb (length paths) n l in
    rw b (ap (λ (xs : List ℕ). xs ++ line_text (stopped_line n)) (shown_is p 1 (take n paths) ∙ ap (shown_from p 1) (sym (take-map (chosen_by p) n paths))))

shows_first : (n : ℕ) (p : PuzzleValue) → IsPuzzle p → is_small (packing_problem p) ≡ true → ListsFirstPackings n p (first_packings_output n p)
shows_first n p z small =
    let paths = visits_between (packing_problem p) start done in
    let long = chosen_long p paths in
    record {
      packings = map (chosen_by p) paths;
      all = visits_packings p z small;
      few = λ l. subst (ListsPackings p) (shows_whole n p (omega (arith, l, long))) (shows p z small);
      first = λ l. shows_stopped n p (omega (arith, l, long));
    }

-- the lines of the counts of a search
counts_text
    : (p : PuzzleValue) (packings : List (List ChoiceValue)) (visited steps : ℕ) (levels : List ℕ) → visited ≡ length packings
    → count_lines p visited steps levels ≡ packing_totals packings (length (packing_problem p).options) steps (some_of levels)
counts_text p packings visited steps levels e =
    ap₂ (λ (n : ℕ) (ws : List (List ℕ)). number_line n ∷ options_line p ∷ (codes "steps" ∷ numeral steps ∷ []) ∷ ws ∷ []) e (levels_are levels)

counts : (p : PuzzleValue) → IsPuzzle p → is_small (packing_problem p) ≡ true → CountsPackings p (count_output p)
unfolding count_output account_of visits_between
counts p z small =
    let paths = visits_between (packing_problem p) start done in
    let r = whole_report false (packing_problem p) in
    record {
      packings = map (chosen_by p) paths;
      options = length (packing_problem p).options;
      steps = r.steps;
      levels = some_of r.levels;
      all = visits_packings p z small;
      lines = ap text_of (counts_text p (map (chosen_by p) paths) (length paths) r.steps r.levels (sym (chosen_long p paths)));
    }

-- the packings of paths, as they are shown
chosen_packings : (p : PuzzleValue) (paths : List (List ℕ)) → packings_of p paths ≡ map (packing_of p) (map (chosen_by p) paths)
chosen_packings p paths = sym (map-map (packing_of p) (chosen_by p) paths)

classes_text
    : (p : PuzzleValue) (packings : List (List ChoiceValue)) (visited steps : ℕ) (levels : List ℕ) (classes : List (List (List ℕ))) → visited ≡ length packings
    → text_of (count_lines p visited steps levels) ++ text_of classes ≡ text_of (packing_totals packings (length (packing_problem p).options) steps (some_of levels) ++ classes)
classes_text p packings visited steps levels classes e =
    sym (flat_map-append line_text (count_lines p visited steps levels) classes)
    ∙ ap (λ (lines : List (List (List ℕ))). text_of (lines ++ classes)) (counts_text p packings visited steps levels e)

classified : (p : PuzzleValue) → IsPuzzle p → is_small (packing_problem p) ≡ true → CountsClasses p (classes_output p)
unfolding classes_output count_output account_of visits_between
classified p z small =
    let paths = visits_between (packing_problem p) start done in
    let r = whole_report false (packing_problem p) in
    let rotations = classes_of Rotations (packings_of p paths) in
    let symmetries = classes_of Symmetries (packings_of p paths) in
    record {
      packings = map (chosen_by p) paths;
      options = length (packing_problem p).options;
      steps = r.steps;
      levels = some_of r.levels;
      rotations = rotations;
      symmetries = symmetries;
      all = visits_packings p z small;
      lines = classes_text p (map (chosen_by p) paths) (length paths) r.steps r.levels (class_lines rotations symmetries) (sym (chosen_long p paths));
      by_rotations = subst (λ (qs : List PackingValue). IsClassCount (AreAlike Rotations) qs rotations) (chosen_packings p paths) (puzzle_classes p z Rotations paths);
      by_symmetries = subst (λ (qs : List PackingValue). IsClassCount (AreAlike Symmetries) qs symmetries) (chosen_packings p paths) (puzzle_classes p z Symmetries paths);
    }

-- ---- what is told further

shows_in_order : (p : PuzzleValue) → IsPuzzle p → is_small (packing_problem p) ≡ true → ShowsInOrder p (solve_output p)
unfolding solve_output account_of visits_between
shows_in_order p z small = record {
  paths = visits_between (packing_problem p) start done;
  lines = refl;
  rise = visits_rise (packing_problem p);
  packings = packing_paths p z small;
}

first_in_order : (n : ℕ) (p : PuzzleValue) → IsPuzzle p → is_small (packing_problem p) ≡ true → ShowsFirstInOrder n p (first_packings_output n p)
unfolding first_packings_output account_of visits_between
first_in_order n p z small = record {
  paths = visits_between (packing_problem p) start done;
  rise = visits_rise (packing_problem p);
  packings = packing_paths p z small;
  few = λ l. let b = lt-ltb (length (visits_between (packing_problem p) start done)) n l in rw (b, take_all n (visits_between (packing_problem p) start done) (omega (arith, l))) refl;
  first = λ l. let b = le-ltb (length (visits_between (packing_problem p) start done)) n l in rw b refl;
}

counts_options : (p : PuzzleValue) → CountsOptions p (count_output p)
unfolding count_output account_of
counts_options p =
    let r = whole_report false (packing_problem p) in
    record { packings = r.visited; steps = r.steps; levels = r.levels; rest = []; lines = sym (append-nil (count_text p r)) }

classes_options : (p : PuzzleValue) → CountsOptions p (classes_output p)
unfolding classes_output count_output account_of
classes_options p =
    let r = whole_report false (packing_problem p) in
    record { packings = r.visited; steps = r.steps; levels = r.levels; rest = text_of (lines_of_classes p (whole_report true (packing_problem p)).visits); lines = refl }

-- what is written of a puzzle that was read
packed : (input : List ℕ) (Listed : PuzzleValue → List ℕ → Type 0) (output : PuzzleValue → List ℕ) → ((p : PuzzleValue) → IsPuzzle p → is_small (packing_problem p) ≡ true → Listed p (output p)) → (text : List ℕ)
    → packed_of output (puzzle_of input) ≡ Ok text → (p : PuzzleValue) × IsPuzzleText input p × Listed p text
packed input Listed output tells text e = by (puzzle_of input) refl e
  where
    by_test : (p : PuzzleValue) → IsPuzzle p → (b : Bool) → is_small (packing_problem p) ≡ b → cond b (Ok (output p)) (Err place_refusal) ≡ Ok text → Listed p text
    by_test p z true t h = let same : output p ≡ text = cc in subst (Listed p) same (tells p z t)
    by_test p z false t h = absurd (cc)

    by : (read : Result PuzzleValue (puzzle.Fault × ℕ)) → puzzle_of input ≡ read → packed_of output read ≡ Ok text → (p : PuzzleValue) × IsPuzzleText input p × Listed p text
    by (Ok p) r h = let is = texts.read_is_text input p r in (p, is, by_test p (puzzle_is input p is) (is_small (packing_problem p)) refl h)
    by (Err f) r h = absurd (cc)

options_are : (p : PuzzleValue) → options_output p ≡ written (packing_problem p)
unfolding options_output
options_are p = refl

-- ---- jobs

pub outcome_lists : (job : Job) (input text : List ℕ) → job_outcome job input ≡ Ok text → IsListed job input text
unfolding job_outcome
outcome_lists (jobs.Cover cover_jobs.List) input text e = listed input ListsCovers cover_output lists text e
outcome_lists (jobs.Cover cover_jobs.Count) input text e = listed input CountsCovers cover_count_output counts_covers text e
outcome_lists (jobs.Puzzle puzzle_jobs.Solve) input text e = packed input ListsPackings solve_output shows text e
outcome_lists (jobs.Cover (cover_jobs.First n)) input text e = listed input (ListsFirstCovers n) (first_cover_output n) (lists_first n) text e
outcome_lists (jobs.Puzzle (puzzle_jobs.First n)) input text e = packed input (ListsFirstPackings n) (first_packings_output n) (shows_first n) text e
outcome_lists (jobs.Puzzle puzzle_jobs.Count) input text e = packed input CountsPackings count_output counts text e
outcome_lists (jobs.Puzzle puzzle_jobs.Classes) input text e = packed input CountsClasses classes_output classified text e
outcome_lists (jobs.Puzzle puzzle_jobs.Options) input text e = packed input (λ p t. t ≡ written (packing_problem p)) options_output (λ p z s. options_are p) text e
outcome_lists (jobs.Puzzle (puzzle_jobs.SolveUpTo group)) input text e = packed input (ListsDistinct group) (solve_up_to_output group) (λ p z s. shows_distinct p z s group) text e
outcome_lists (jobs.Puzzle (puzzle_jobs.CountUpTo group)) input text e = packed input (CountsDistinct group) (count_up_to_output group) (λ p z s. counts_distinct p z s group (visits_packings p z s)) text e
outcome_lists (jobs.Puzzle (puzzle_jobs.OptionsUpTo group)) input text e = packed input (GivesSmaller group) (options_up_to_output group) (λ p z s. gives_smaller p z s group) text e
outcome_lists (jobs.Puzzle puzzle_jobs.Debug) input text e =
    let lines = command_lines input in
    packed (problem_text input) (λ p t. t ≡ debug_output lines (packing_problem p)) (puzzle_replies lines) (λ p z s. refl) text e
outcome_lists (jobs.Cover cover_jobs.Debug) input text e =
    let lines = command_lines input in
    listed (problem_text input) (λ p t. t ≡ debug_output lines p) (debug_output lines) (λ p s. refl) text e
outcome_lists (jobs.Resume steps list) input text e = resumed steps list input text e
outcome_lists (jobs.Join counted) input text e = joined_adds counted input text e

pub outcome_further : (job : Job) (input text : List ℕ) → job_outcome job input ≡ Ok text → TellsFurther job input text
unfolding job_outcome
outcome_further (jobs.Puzzle puzzle_jobs.Solve) input text e = packed input ShowsInOrder solve_output shows_in_order text e
outcome_further (jobs.Puzzle (puzzle_jobs.First n)) input text e = packed input (ShowsFirstInOrder n) (first_packings_output n) (first_in_order n) text e
outcome_further (jobs.Puzzle puzzle_jobs.Count) input text e = packed input CountsOptions count_output (λ p z s. counts_options p) text e
outcome_further (jobs.Puzzle puzzle_jobs.Classes) input text e = packed input CountsOptions classes_output (λ p z s. classes_options p) text e
outcome_further job input text e = tt
