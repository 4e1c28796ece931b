use Rattle.std.proofs.Common.{◌≡◌, map, inl, inr, false, length, refl, string_bytes}
use Rattle.std.proofs.lemmas.List.{length-map}
use Rattle.cover_problem.specs.Problem.{is_item}
use Rattle.cover_problem.proofs.ProblemLemmas.{no_items}
use Rattle.cover_problem.proofs.OptionLemmas.{is_item_yes, is_item_no}
use Rattle.cover_problem.proofs.NoItemLemmas.{never_no_item}
use Rattle.cover_problem.proofs.validation.checked_names.Goals as goal
use Rattle.cover_problem.proofs.validation.checked_names.Goals.{then-primary-eq0-via-then-primary-eq0, then-primary-eq0-via-else-primary-eq0+then-primary-names}

pub returns-then-primary-eq0-clause-names : goal.returns-then-primary-eq0-clause-names
returns-then-primary-eq0-clause-names c =
    no_items (map string_bytes c.args.names.now) c.args.primary (map (λ o. o.items) c.args.options.now)
    (is_item_no (length (map string_bytes c.args.names.now)) c.args.primary
    (elim c.then-primary-eq0.branch [ then-primary-eq0-via-then-primary-eq0 w ↦ inl w.if-primary-eq0.true | then-primary-eq0-via-else-primary-eq0+then-primary-names w ↦ inr (rw length-map w.if-primary-names.true) ]))

pub returns-then-primary-eq0-clause-primary : goal.returns-then-primary-eq0-clause-primary
returns-then-primary-eq0-clause-primary c =
    let none : is_item (length c.args.names.now) c.args.primary ≡ false =
    is_item_no (length c.args.names.now) c.args.primary
    (elim c.then-primary-eq0.branch [ then-primary-eq0-via-then-primary-eq0 w ↦ inl w.if-primary-eq0.true | then-primary-eq0-via-else-primary-eq0+then-primary-names w ↦ inr w.if-primary-names.true ]) in
    (λ e. none, λ e. refl)

pub checked_parts-requires : goal.checked_parts-requires
checked_parts-requires c = is_item_yes (length c.args.names.now) c.args.primary c.if-primary-eq0.false c.if-primary-names.false

pub returns-clause-primary : goal.returns-clause-primary
returns-clause-primary c =
    never_no_item _ c.checked_parts.result (map string_bytes c.args.names.now) c.args.primary (map (λ o. o.items) c.args.options.now)
    (length c.args.names.now) (length-map c.args.names.now string_bytes) (is_item_yes (length c.args.names.now) c.args.primary c.if-primary-eq0.false c.if-primary-names.false) c.checked_parts.ensures
