use Rattle.std.proofs.Common.{◌-◌, arith, refl}
use Rattle.cover_bits.proofs.TableLemmas.{bits_at, column_fits, list_told}
use Rattle.cover_bits.proofs.table.BitTable.list_in.Goals as goal

pub row-requires : goal.row-requires
row-requires c =
    let f = column_fits (bits_at c.self.view_is c.self.invariant) (c.args.item - 1) (let a = c.requires.some in let b = c.requires.within in omega arith) in
    rw c.deref.ensures.value f

pub returns : goal.returns
returns c =
    list_told c.self.view_is c.self.invariant c.args.item c.requires.some c.requires.within c.args.parts.now c.args.gone.now c.requires.left _
    refl (rw c.deref.ensures.value at c.row.ensures) c.deref-2.ensures.value refl
