-- How lines are written one after the other.
use Rattle.std.proofs.Common.{◌≡◌, ℕ, suc, ◌+◌, ◌<◌, Result, Ok, Err, OnOk, OnErr, List, [], ◌∷◌, ◌++◌, length, map, get_or, refl, sym, ◌∙◌, ap, arith}
use Rattle.std.proofs.Common.{append_assoc, append-nil}
use Rattle.std.specs.List.{flat_map}
use Rattle.std.proofs.lemmas.List.{length-map}
use Rattle.std.proofs.lemmas.Grind.{flat_map-append}
use Rattle.text_lines.specs.Writing.{line_text, text_of}
use Rattle.shared_words.specs.Lists.{numbers}
use Rattle.cover_problem.proofs.NumberLemmas.{length-numbers, number_at, numbers_push}
use Rattle.x_branches.specs.Runner.{RunnerValue}
use Rattle.x_branches.specs.Refusals.{untried_in}
use Rattle.debug_language.specs.Replies.{untried_words}
use Rattle.debug_acts.specs.Lines.{state_line}
use Rattle.debug_acts.specs.Overview.{runner_branch, runner_covered, runner_chosen, runner_active, runner_second, show_lines, level_lines, untried_at}

pub one_line : (line : List (List ℕ)) → line_text line ≡ text_of (line ∷ [])
one_line line = sym (append-nil (line_text line))

pub more_lines : (lines more : List (List (List ℕ))) → text_of (lines ++ more) ≡ text_of lines ++ text_of more
more_lines lines more = flat_map-append line_text lines more

-- ---- a call that wrote lines

-- what holds whatever it gave
pub on_ok : {X E P : Type 0} (r : Result X E) → P → OnOk r P
on_ok (Ok x) p = p
on_ok (Err e) p = tt

pub on_err : {X E P : Type 0} (r : Result X E) → P → OnErr r P
on_err (Ok x) p = tt
on_err (Err e) p = p

-- where one line is answered, it is what was written
pub answered : {X E : Type 0} (r : Result X E) (old new : List ℕ) (line : List (List ℕ)) (lines : List (List (List ℕ))) → lines ≡ line ∷ [] → OnOk r (new ≡ old ++ line_text line) → OnOk r (new ≡ old ++ text_of lines)
answered (Ok x) old new line lines e h = h ∙ ap (λ t. old ++ t) (one_line line ∙ ap text_of (sym e))
answered (Err e) old new line lines _ h = tt

-- three lines, and then more
three_lines : (a b c : List (List ℕ)) (d e : List (List (List ℕ))) (old one two three four new : List ℕ) → one ≡ old ++ line_text a → two ≡ one ++ line_text b → three ≡ two ++ line_text c
    → four ≡ three ++ text_of d → new ≡ four ++ text_of e → new ≡ old ++ text_of (a ∷ b ∷ c ∷ d ++ e)
three_lines a b c d e old one two three four new h i j k l =
    let whole : text_of ((a ∷ b ∷ c ∷ d) ++ e) ≡ (line_text a ++ (line_text b ++ (line_text c ++ text_of d))) ++ text_of e = more_lines (a ∷ b ∷ c ∷ d) e in
    let all : new ≡ old ++ ((line_text a ++ (line_text b ++ (line_text c ++ text_of d))) ++ text_of e) = rw (l, k, j, i, h) (simp append_assoc) in
    all ∙ ap (λ t. old ++ t) (sym whole)

-- whatever the last of them gave
pub shown_lines : {X E : Type 0} (z : Result X E) (r : RunnerValue) (old one two three four new : List ℕ) → one ≡ old ++ line_text (state_line r.position) → two ≡ one ++ line_text (runner_branch r) → three ≡ two ++ line_text (runner_covered r)
    → four ≡ three ++ text_of (runner_chosen r) → OnOk z (new ≡ four ++ text_of (runner_active r ++ runner_second r)) → OnOk z (new ≡ old ++ text_of (show_lines r))
unfolding show_lines
shown_lines (Ok x) r old one two three four new h i j k l =
    three_lines (state_line r.position) (runner_branch r) (runner_covered r) (runner_chosen r) (runner_active r ++ runner_second r) old one two three four new h i j k l
    ∙ ap (λ ls. old ++ text_of ls) (sym (append_assoc (state_line r.position ∷ runner_branch r ∷ runner_covered r ∷ runner_chosen r) (runner_active r) (runner_second r)))
shown_lines (Err x) r old one two three four new h i j k l = tt

-- ---- the levels so far

abbrev pub levels_to : RunnerValue → ℕ → List (List (List ℕ))
levels_to r level = flat_map (untried_at r) (numbers level 0)

-- the lines of one level more
pub levels_more : (r : RunnerValue) (level : ℕ) → text_of (levels_to r (level + 1)) ≡ text_of (levels_to r level) ++ text_of (untried_at r level)
levels_more r level =
    let e : level + 1 ≡ suc level = omega arith in
    let z : 0 + level ≡ level = omega arith in
    let n : numbers (level + 1) 0 ≡ numbers level 0 ++ level ∷ [] = ap (λ m. numbers m 0) e ∙ numbers_push level 0 ∙ ap (λ m. numbers level 0 ++ m ∷ []) z in
    let l : levels_to r (level + 1) ≡ levels_to r level ++ untried_at r level =
    ap (flat_map (untried_at r)) n ∙ flat_map-append (untried_at r) (numbers level 0) (level ∷ []) ∙ ap (λ ls. levels_to r level ++ ls) (append-nil (untried_at r level)) in
    ap text_of l ∙ more_lines (levels_to r level) (untried_at r level)

-- the line of what is listed for a level
pub level_listed : (r : RunnerValue) (levels : List (List ℕ)) (options : List ℕ) (level : ℕ)
    → levels ≡ map (untried_in r) (numbers (length r.position.path + 1) 0) → level < length levels → options ≡ get_or levels level []
    → level_lines level options ≡ untried_at r level
level_listed r levels options level e l o =
    let n : length levels ≡ length r.position.path + 1 =
    ap (length {A = List ℕ}) e ∙ length-map (numbers (length r.position.path + 1) 0) (untried_in r) ∙ length-numbers (length r.position.path + 1) 0 in
    let z : 0 + level ≡ level = omega arith in
    ap (level_lines level) (o ∙ ap (λ ls. get_or ls level []) e ∙ number_at (untried_in r) (length r.position.path + 1) 0 level [] (omega arith)
    ∙ ap (untried_in r) z)

-- nothing, or the one line of a level
pub level_none : (level : ℕ) (options : List ℕ) → length options ≡ 0 → text_of (level_lines level options) ≡ []
level_none level [] l = refl
level_none level (o ∷ os) l = absurd (omega arith)

pub level_some : (level : ℕ) (options : List ℕ) → 0 < length options → text_of (level_lines level options) ≡ line_text (untried_words level options)
level_some level [] l = absurd (omega arith)
level_some level (o ∷ os) l = sym (one_line (untried_words level (o ∷ os)))
