use Rattle.std.proofs.Common.{◌≡◌, ◌∙◌, ap, arith, length}
use Rattle.cover_problem.specs.Covering.{list_of}
use Rattle.cover_bits.specs.Bits.{in_list}
use Rattle.cover_bits.proofs.ListLemmas.{first_above}
use Rattle.cover_bits.proofs.TableLemmas.{time_within}
use Rattle.cover_bits.proofs.table.BitTable.option_past.Goals as goal

pub left_at-requires : goal.left_at-requires
left_at-requires c =
    let same : c.deref.result.now ≡ c.args.self.now.covered = c.deref.ensures.value ∙ ap (λ s. s.covered) c.self.view_is in
    let long : length c.deref.result.now ≡ length c.args.self.now.covered = ap (λ xs. length xs) same in
    let within = time_within c.deref.result.now c.args.item in
    let time = c.in-Some.ensures in
    omega arith

pub returns : goal.returns
returns c =
    c.after.ensures ∙ first_above (list_of c.args.self.now.problem c.args.self.now.covered c.args.item) c.list_in.ensures.rises (in_list c.list_in.result) c.list_in.ensures.are
    c.args.option c.first.result c.first.ensures.some c.first.ensures.none
