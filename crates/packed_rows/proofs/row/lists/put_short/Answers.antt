use Rattle.std.proofs.Common.{◌∙◌, ap, sym, ◌++◌, ◌*◌, length, append_assoc, append-nil, arith}
use Rattle.std.specs.List.{flat_map}
use Rattle.packed_rows.specs.Neighbours.{told_by}
use Rattle.packed_rows.specs.Numbers.{bytes_of}
use Rattle.cover_problem.proofs.FlatListLemmas.{same_default}
use Rattle.packed_rows.proofs.NumberLemmas.{put_small}
use Rattle.packed_rows.proofs.NeighbourLemmas.{step_raises}
use Rattle.packed_rows.proofs.row.lists.put_short.Goals as goal

pub overflow_mul-step : goal.overflow_mul-step
overflow_mul-step c = omega (arith, (step_raises _ _ _ (sym c.in-Some.ensures)).small)

pub overflow_add-step : goal.overflow_add-step
overflow_add-step c = omega (arith, (step_raises _ _ _ (sym c.in-Some.ensures)).small)

pub returns-in-Some-clause-added : goal.returns-in-Some-clause-added
returns-in-Some-clause-added c =
    put_small _ _ _ (omega (arith, (step_raises _ _ _ (sym c.in-Some.ensures)).small)) c.push_reserved.ensures.items
    ∙ ap (λ bs. c.args.bytes.now.items ++ bs) (sym (append-nil _))
    ∙ ap (λ o. c.args.bytes.now.items ++ flat_map bytes_of (told_by o c.args.list.now)) c.in-Some.ensures

pub returns-in-Some-clause-words : goal.returns-in-Some-clause-words
returns-in-Some-clause-words c = λ k d l. omega (arith, (c.type_inv.list k).fits, same_default c.args.list.now k d 0 l)

pub returns-clause-added : goal.returns-clause-added
returns-clause-added c =
    c.put_words.ensures.added
    ∙ ap (λ bs. bs ++ flat_map bytes_of c.args.list.now) (put_small (2 * length c.args.list.now) _ _ (omega (arith, c.requires.short)) c.push_reserved-2.ensures.items)
    ∙ append_assoc c.args.bytes.now.items (bytes_of (2 * length c.args.list.now)) (flat_map bytes_of c.args.list.now)
    ∙ ap (λ o. c.args.bytes.now.items ++ flat_map bytes_of (told_by o c.args.list.now)) c.in_default.ensures

pub returns-clause-words : goal.returns-clause-words
returns-clause-words c = λ k d l. omega (arith, (c.type_inv.list k).fits, same_default c.args.list.now k d 0 l)
