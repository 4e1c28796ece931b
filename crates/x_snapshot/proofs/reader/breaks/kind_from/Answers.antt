-- A word of these six bytes is `option`.
use Rattle.std.proofs.Common.{◌≡◌, codes, refl, arith}
use Rattle.std.proofs.lemmas.Slice.Eq.{text_from_reads}
use Rattle.x_snapshot.proofs.reader.breaks.kind_from.Goals as goal

pub returns-in-option : goal.returns-in-option
returns-in-option c =
    let e : c.args.word.now ≡ codes "option" = text_from_reads c.args.word.now (codes "option") (omega arith) (omega arith, (omega arith, (omega arith, (omega arith, (omega arith, (omega arith, tt)))))) in
    rw e refl
