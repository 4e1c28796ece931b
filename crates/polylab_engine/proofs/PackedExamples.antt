-- The examples of specs/Packed.antt and specs/Classified.antt, computed.
use Rattle.std.proofs.Common.{◌≡◌, [], ◌∷◌, ◌++◌, true, false, length, List, ℕ, Bool, codes, decimal, refl, sym, ap, ◌∙◌}
use Rattle.std.specs.Fmt.{digits}
use Rattle.text_lines.specs.Writing.{line_text, text_of}
use Rattle.cover_problem.specs.Covering.{active, remaining, choice}
use Rattle.cover_problem.specs.Path.{taken, covered_by}
use Rattle.cover_problem.specs.Problem.{ProblemValue}
use Rattle.x_steps.specs.declared.state.Label.TheVariants.{X8, Done}
use Rattle.x_steps.specs.declared.state.Cursor.TheVariants as cursor
use Rattle.x_steps.specs.StateValue.{StateValue, at, start, done}
use Rattle.x_steps.specs.Steps.{next}
use Rattle.x_steps.specs.Run.{states, steps_between, after}
use Rattle.x_steps.specs.Levels.{without_last_zeros}
use Rattle.x_steps.proofs.RunLemmas.{start_fits, steps_between_is}
use Rattle.x_steps.proofs.StretchLemmas.{ends_first}
use Rattle.poly_place.specs.declared.alike.Group.TheVariants.{Rotations, Symmetries}
use Rattle.poly_place.specs.Packings.{packing_problem}
use Rattle.poly_place.specs.Chosen.{packing_value}
use Rattle.poly_place.specs.Layers.{layers}
use Rattle.poly_place.proofs.DominoExamples.{dominoes, boxed, boxed_dominoes, paths, on_the_left, above, below, on_the_right}
use Rattle.poly_place.proofs.DominoExamples.{one_by_rotations, one_by_symmetries}
use Rattle.polylab_engine.specs.Account.{Account, kept, account_of, report_of}
use Rattle.polylab_engine.specs.Output.{whole_account, tally_lines}
use Rattle.poly_place.specs.Listing.{packing_text, packings_from}
use Rattle.polylab_engine.specs.Packed.{number_line, count_text, count_output, solve_output}
use Rattle.polylab_engine.specs.Classified.{packings_of, classes_of, class_lines, classes_output}

-- the search takes 55 steps: the one before the end is X8 with no choice to take back
whole_run : after boxed 55 start ≡ done
unfolding next covered_by taken choice active remaining
whole_run = refl

before_done : after boxed 54 start ≡ at X8 [] cursor.None
unfolding next covered_by taken choice active remaining
before_done = refl

goes_on : (after boxed 54 start).label ≡ Done → ⊥
goes_on e = let f : X8 ≡ Done = sym (ap (λ (s : StateValue). s.label) before_done) ∙ e in cc

fifty_five_steps : steps_between boxed start done ≡ 55
fifty_five_steps = steps_between_is boxed start done 55 (start_fits boxed) (ends_first boxed 54 whole_run goes_on)

-- what is counted on the way
abbrev counted : Bool → Account
counted keeps = record { visits = kept keeps paths; visited = 4; steps = 55; entered = 1 ∷ 4 ∷ 4 ∷ 0 ∷ 0 ∷ 0 ∷ 0 ∷ [] }

account_of_states : (keeps : Bool) → account_of keeps boxed (states boxed 55 start) ≡ counted keeps
unfolding account_of next covered_by taken choice active remaining
account_of_states keeps = refl

its_account : (keeps : Bool) → whole_account keeps (packing_problem dominoes) ≡ counted keeps
its_account keeps =
    ap (whole_account keeps) boxed_dominoes ∙ ap (λ n. account_of keeps boxed (states boxed n start)) fifty_five_steps
    ∙ account_of_states keeps

-- *`solve`*

-- a packing before others, by what its layers are
before_others
    : (k : ℕ) (path drawn more others : List ℕ) → layers (packing_value dominoes path) ≡ drawn → more ≡ others
    → packing_text dominoes k path ++ more ≡ (line_text (codes "packing" ∷ decimal k ∷ []) ++ drawn) ++ others
before_others k path drawn more others e f =
    ap (λ (bs : List ℕ). (line_text (codes "packing" ∷ decimal k ∷ []) ++ bs) ++ more) e
    ∙ ap (λ (bs : List ℕ). (line_text (codes "packing" ∷ decimal k ∷ []) ++ drawn) ++ bs) f

-- the text of the packings
abbrev packings_text : List ℕ
packings_text =
    codes "packing 1" ++ 10 ∷ codes "AB" ++ 10 ∷ codes "AB" ++ 10
    ∷ codes "packing 2" ++ 10 ∷ codes "AA" ++ 10 ∷ codes "BB" ++ 10
    ∷ codes "packing 3" ++ 10 ∷ codes "BB" ++ 10 ∷ codes "AA" ++ 10
    ∷ codes "packing 4" ++ 10 ∷ codes "BA" ++ 10 ∷ codes "BA" ++ 10 ∷ []

its_packings : packings_from dominoes 1 paths ≡ packings_text
unfolding digits
its_packings =
    before_others 1 (1 ∷ 8 ∷ []) _ _ _ on_the_left (before_others 2 (2 ∷ 7 ∷ []) _ _ _ above
    (before_others 3 (3 ∷ 6 ∷ []) _ _ _ below (before_others 4 (4 ∷ 5 ∷ []) _ [] [] on_the_right refl)))

its_solution : solve_output dominoes ≡ packings_text ++ codes "packings 4" ++ 10 ∷ []
unfolding solve_output digits
its_solution =
    ap (λ (a : Account). packings_from dominoes 1 a.visits ++ line_text (number_line a.visited)) (its_account true)
    ∙ ap (λ (bs : List ℕ). bs ++ line_text (number_line 4)) its_packings

-- *`count`*

-- the text of the counts
abbrev counts_text : List ℕ
counts_text = codes "packings 4" ++ 10 ∷ codes "options 8" ++ 10 ∷ codes "steps 55" ++ 10 ∷ codes "levels 1 4 4" ++ 10 ∷ []

-- where a problem has so many options
abbrev with_options : ProblemValue → List ℕ
with_options q =
    text_of (number_line 4 ∷ (codes "options" ∷ decimal (length q.options) ∷ []) ∷ tally_lines 55 (1 ∷ 4 ∷ 4 ∷ []))

its_counts : count_text dominoes (report_of (counted false)) ≡ counts_text
unfolding digits without_last_zeros
its_counts = ap with_options boxed_dominoes

its_count : count_output dominoes ≡ counts_text
unfolding count_output
its_count = ap (λ (a : Account). count_text dominoes (report_of a)) (its_account false) ∙ its_counts

-- *`count --classes`*

-- the lines of the classes of the packings of these paths
abbrev class_text : List (List ℕ) → List ℕ
class_text qs =
    let ps = packings_of dominoes qs in
    text_of (class_lines (classes_of Rotations ps) (classes_of Symmetries ps))

its_class_text : class_text paths ≡ codes "rotations 1" ++ 10 ∷ codes "symmetries 1" ++ 10 ∷ []
unfolding digits
its_class_text =
    ap (λ n. text_of (class_lines n (classes_of Symmetries (packings_of dominoes paths)))) one_by_rotations
    ∙ ap (λ n. text_of (class_lines 1 n)) one_by_symmetries

its_classes : classes_output dominoes ≡ counts_text ++ codes "rotations 1" ++ 10 ∷ codes "symmetries 1" ++ 10 ∷ []
unfolding classes_output
its_classes =
    ap (λ (a : Account). count_output dominoes ++ class_text a.visits) (its_account true)
    ∙ ap (λ (bs : List ℕ). bs ++ class_text paths) its_count ∙ ap (λ (bs : List ℕ). counts_text ++ bs) its_class_text
