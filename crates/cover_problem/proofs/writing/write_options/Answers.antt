use Rattle.std.proofs.Common.{◌<◌, length, arith}
use Rattle.cover_problem.proofs.WriterLemmas.{option_items}
use Rattle.cover_problem.proofs.writing.write_options.Goals as goal

pub write_option-requires : goal.write_option-requires
write_option-requires c =
    let within : c.loop-place.place < length c.args.options.now = omega arith in
    rw c.list.ensures (option_items (length c.args.names.now) c.args.options.now c.loop-place.place c.requires within)
