use Rattle.std.proofs.Common.{◌<◌, ◌-◌, [], ◌∙◌, sym, ap, length, arith}
use Rattle.std.proofs.lemmas.List.{length-map, get_or-map}
use Rattle.cover_problem.proofs.TableLemmas.{plain_at, holders_long, times_long, row_is, time_is}
use Rattle.cover_problem.proofs.plain.PlainTable.row.Goals as goal

pub index-requires : goal.index-requires
index-requires c =
    let l = holders_long (plain_at c.self.view_is c.self.invariant) in
    let m = length-map c.self.inside.holders.items (λ o. o.items) in
    let o = c.self.inside.holders.ok.0 in
    let r = c.requires.some in let w = c.requires.within in
    omega arith

pub index-requires-2 : goal.index-requires-2
index-requires-2 c =
    let l = times_long (plain_at c.self.view_is c.self.invariant) in
    let o = c.self.inside.times.ok.0 in
    let r = c.requires.some in let w = c.requires.within in
    omega arith

pub returns-clause-options : goal.returns-clause-options
returns-clause-options c =
    let l = holders_long (plain_at c.self.view_is c.self.invariant) in
    let m = length-map c.self.inside.holders.items (λ o. o.items) in
    let r = c.requires.some in let w = c.requires.within in
    let room : c.args.item - 1 < length c.self.inside.holders.items = omega arith in
    c.deref.ensures.value ∙ ap (λ o. o.items) c.index.ensures ∙ sym (get_or-map (λ o. o.items) c.self.inside.holders.items (c.args.item - 1) c.index.result.now [] room)
    ∙ row_is (plain_at c.self.view_is c.self.invariant) c.args.item c.requires.some c.requires.within

pub returns-clause-time : goal.returns-clause-time
returns-clause-time c = c.index-2.ensures ∙ time_is (plain_at c.self.view_is c.self.invariant) c.args.item c.index-2.result.now c.requires.some c.requires.within
