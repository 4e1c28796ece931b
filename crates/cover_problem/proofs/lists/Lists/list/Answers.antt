use Rattle.std.proofs.Common.{◌≡◌, ◌-◌, [], length, take, drop, get_or, ◌∙◌, sym, ap, arith}
use Rattle.cover_problem.specs.FlatLists.{start_at}
use Rattle.cover_problem.proofs.FlatListLemmas.{list_here, same_default}
use Rattle.cover_problem.proofs.lists.Lists.list.Goals as goal

pub start_of-start-requires : goal.start_of-start-requires
start_of-start-requires c =
    let p = c.self.inside in
    let r = list_here p.flat.items p.ends.items c.args.self.now c.args.place c.self.invariant c.self.view_is c.requires in
    let d = ap length c.deref.ensures.value in omega (arith, r.0, d)

pub index-requires : goal.index-requires
index-requires c =
    let p = c.self.inside in
    let r = list_here p.flat.items p.ends.items c.args.self.now c.args.place c.self.invariant c.self.view_is c.requires in
    omega (arith, r.0, p.ends.ok.0)

pub part-requires : goal.part-requires
part-requires c =
    let p = c.self.inside in
    let r = list_here p.flat.items p.ends.items c.args.self.now c.args.place c.self.invariant c.self.view_is c.requires in
    let s : c.start_of-start.result ≡ start_at 0 p.ends.items c.args.place = c.start_of-start.ensures ∙ ap (λ l. start_at 0 l c.args.place) c.deref.ensures.value in
    let e = c.index.ensures ∙ same_default p.ends.items c.args.place c.index.result.now 0 r.0 in
    let d = ap length c.deref-2.ensures.value in
    record { order = omega (arith, r.1.order, s, e); within = omega (arith, r.1.within, e, d) }

pub returns : goal.returns
returns c =
    let p = c.self.inside in
    let r = list_here p.flat.items p.ends.items c.args.self.now c.args.place c.self.invariant c.self.view_is c.requires in
    let s : c.start_of-start.result ≡ start_at 0 p.ends.items c.args.place = c.start_of-start.ensures ∙ ap (λ l. start_at 0 l c.args.place) c.deref.ensures.value in
    let e = c.index.ensures ∙ same_default p.ends.items c.args.place c.index.result.now 0 r.0 in
    c.part.ensures ∙ (λ j. take (e j - s j) (drop (s j) (c.deref-2.ensures.value j))) ∙ sym r.1.list ∙ ap (λ l. get_or l c.args.place []) c.self.view_is
