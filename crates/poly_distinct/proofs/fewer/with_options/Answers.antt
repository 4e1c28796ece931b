use Rattle.std.proofs.Common.{map, vec_items}
use Rattle.std.specs.String.{string_bytes}
use Rattle.poly_place.proofs.MadeLemmas.{not_faulty}
use Rattle.poly_distinct.proofs.FewerLemmas.{fewer_made}
use Rattle.poly_distinct.proofs.fewer.with_options.Goals as goal

pub unreachable-requires : goal.unreachable-requires
unreachable-requires c =
    let made =
    fewer_made c.args.problem.now c.args.kept.now c.is_sound.ensures.problem c.requires.numbers c.requires.rise (map string_bytes c.in_ok-names.names.items) c.primary.result (map vec_items c.in_ok-options.options.items)
    c.in_ok-names.ensures c.primary.ensures c.in_ok-options.ensures in
    not_faulty _ c.in-Fault.field-0 _ _ made c.in-Fault.is c.in-Err.ensures.refused
