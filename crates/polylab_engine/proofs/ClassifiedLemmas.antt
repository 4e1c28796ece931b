-- The lines of the classes, after those of `count`.
use Rattle.std.proofs.Common.{◌≡◌, ◌∙◌, ℕ, List, [], ◌∷◌, ◌++◌, decimal, codes, true, false, refl, sym, ap, ap₂, append_assoc, append-nil}
use Rattle.text_lines.specs.Writing.{line_text, text_of}
use Rattle.cover_problem.specs.Problem.{ProblemValue}
use Rattle.poly_texts.specs.Puzzle.{PuzzleValue}
use Rattle.poly_place.specs.declared.alike.Group.TheVariants.{Rotations, Symmetries}
use Rattle.poly_place.specs.Packings.{packing_problem}
use Rattle.polylab_engine.specs.Account.{ReportValue, account_of}
use Rattle.polylab_engine.specs.Output.{whole_report}
use Rattle.polylab_engine.specs.Packed.{count_text, count_output}
use Rattle.polylab_engine.specs.Classified.{packings_of, classes_of, class_lines, classes_output}

-- the two lines, one after the other
pub class_lines_added : (start mid : List ℕ) (r s n m : ℕ) → mid ≡ start ++ line_text (codes "rotations" ∷ decimal r ∷ []) → r ≡ n → s ≡ m → mid ++ line_text (codes "symmetries" ∷ decimal s ∷ []) ≡ start ++ text_of (class_lines n m)
class_lines_added start mid r s n m first e f =
    ap (λ (ks : List ℕ). ks ++ line_text (codes "symmetries" ∷ decimal s ∷ [])) first
    ∙ append_assoc start (line_text (codes "rotations" ∷ decimal r ∷ [])) (line_text (codes "symmetries" ∷ decimal s ∷ []))
    ∙ ap (λ (ks : List ℕ). start ++ (line_text (codes "rotations" ∷ decimal r ∷ []) ++ ks)) (sym (append-nil (line_text (codes "symmetries" ∷ decimal s ∷ []))))
    ∙ ap₂ (λ (a b : ℕ). start ++ text_of (class_lines a b)) e f

-- a search that keeps its visits counts as one that doesn't
same_counts : (p : PuzzleValue) (q : ProblemValue) → count_text p (whole_report true q) ≡ count_text p (whole_report false q)
unfolding account_of
same_counts p q = refl

pub classes_text : (p : PuzzleValue) (q : ProblemValue) (r : ReportValue) (visits : List (List ℕ)) (before after : List ℕ) → r ≡ whole_report true q → q ≡ packing_problem p → visits ≡ r.visits
    → before ≡ count_text p r → after ≡ before ++ text_of (class_lines (classes_of Rotations (packings_of p visits)) (classes_of Symmetries (packings_of p visits))) → after ≡ classes_output p
unfolding classes_output count_output
classes_text p q r visits before after report problem kept count push =
    let whole : r ≡ whole_report true (packing_problem p) = report ∙ ap (whole_report true) problem in
    push
    ∙ ap₂ (λ (ks : List ℕ) (vs : List (List ℕ)). ks ++ text_of (class_lines (classes_of Rotations (packings_of p vs)) (classes_of Symmetries (packings_of p vs))))
    (count ∙ ap (count_text p) whole ∙ same_counts p (packing_problem p))
    (kept ∙ ap (λ (b : ReportValue). b.visits) whole)
