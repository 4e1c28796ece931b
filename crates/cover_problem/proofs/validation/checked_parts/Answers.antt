use Rattle.std.proofs.Common.{◌≡◌, true, [], map, ◌∙◌, ap, refl, length, sum_by, string_bytes}
use Rattle.std.proofs.lemmas.List.{length-map}
use Rattle.std.proofs.lemmas.Result.{err_from_is_err_and}
use Rattle.text_lines.specs.Each.{each}
use Rattle.cover_problem.specs.Problem.{is_item, is_small, are_within, problem_with}
use Rattle.cover_problem.specs.Validation.{add_name, add_option, problem_from}
use Rattle.text_lines.proofs.ResultLemmas.{passes_on}
use Rattle.cover_problem.proofs.ProblemLemmas.{names_stop, options_refused, too_large, all_made}
use Rattle.cover_problem.proofs.NameLemmas.{names_are}
use Rattle.cover_problem.proofs.validation.checked_parts.Goals as goal

pub returns-in_err-these : goal.returns-in_err-these
returns-in_err-these c =
    let p = err_from_is_err_and c.from_residual.result c.from_residual.ensures.1 in
    let names = map string_bytes c.args.names.now in
    let options = map (λ o. o.items) c.args.options.now in
    let some : is_item (length names) c.args.primary ≡ true = rw length-map c.requires in
    rw (p.1, p.2)
    (passes_on c.in_err-these.field-0.0 (each add_name [] names) (problem_from names c.args.primary options) (names_stop names c.args.primary options some) c.in_err-these.ensures)

pub returns-in_err-check_options : goal.returns-in_err-check_options
returns-in_err-check_options c =
    let p = err_from_is_err_and c.from_residual-in_err-check_options.result c.from_residual-in_err-check_options.ensures.1 in
    let names = map string_bytes c.args.names.now in
    let options = map (λ o. o.items) c.args.options.now in
    let these = map (λ n. n.bytes) c.in_ok-these.these.keys in
    let some : is_item (length names) c.args.primary ≡ true = rw length-map c.requires in
    rw (p.1, p.2)
    (passes_on c.in_err-check_options.field-0.0 (each (add_option (length names)) [] options) (problem_from names c.args.primary options) (options_refused names c.args.primary options some these c.in_ok-these.ensures) (rw length-map c.in_err-check_options.ensures))

pub returns-in_err-check_size : goal.returns-in_err-check_size
returns-in_err-check_size c =
    let p = err_from_is_err_and c.from_residual-in_err-check_size.result c.from_residual-in_err-check_size.ensures.1 in
    let names = map string_bytes c.args.names.now in
    let options = map (λ o. o.items) c.args.options.now in
    let these = map (λ n. n.bytes) c.in_ok-these.these.keys in
    let some : is_item (length names) c.args.primary ≡ true = rw length-map c.requires in
    let same : length these ≡ length c.args.names.now = ap length (names_are [] names these c.in_ok-these.ensures refl refl).0 ∙ length-map c.args.names.now string_bytes in
    let size : is_small (problem_with these c.args.primary options) ≡ are_within (length c.args.names.now) (length c.args.options.now) (sum_by length options) = rw (same, length-map) refl in
    rw (p.1, p.2, c.in_err-check_size.ensures.over.0)
    (too_large names c.args.primary options some these c.in_ok-these.ensures options (rw length-map c.in_ok-check_options.ensures) (size ∙ c.in_err-check_size.ensures.over.1))

pub returns : goal.returns
returns c =
    let names = map string_bytes c.args.names.now in
    let options = map (λ o. o.items) c.args.options.now in
    let these = map (λ n. n.bytes) c.in_ok-these.these.keys in
    let some : is_item (length names) c.args.primary ≡ true = rw length-map c.requires in
    let same : length these ≡ length c.args.names.now = ap length (names_are [] names these c.in_ok-these.ensures refl refl).0 ∙ length-map c.args.names.now string_bytes in
    let size : is_small (problem_with these c.args.primary options) ≡ are_within (length c.args.names.now) (length c.args.options.now) (sum_by length options) = rw (same, length-map) refl in
    all_made names c.args.primary options some these c.in_ok-these.ensures options (rw length-map c.in_ok-check_options.ensures) (size ∙ c.in_ok-check_size.ensures.within)
