use Rattle.std.proofs.Common.{◌∙◌, sym}
use Rattle.packed_rows.proofs.NumberLemmas.{small_first, pair_first}
use Rattle.packed_rows.proofs.reader.near.Goals as goal

pub returns-in-Some-clause-number : goal.returns-in-Some-clause-number
returns-in-Some-clause-number c = let e = c.in-Some.ensures in small_first _ _ _ e.0 e.1

pub returns-clause-number : goal.returns-clause-number
returns-clause-number c =
    let e = c.in_ok-first.ensures in let s = c.in_default.ensures in
    pair_first _ _ _ _ e.0 e.1 e.2 (sym s ∙ e.3)
