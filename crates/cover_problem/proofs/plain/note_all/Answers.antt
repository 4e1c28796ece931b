use Rattle.std.proofs.Common.{◌≡◌, ◌<◌, ◌+◌, ◌∙◌, [], sym, ap, map, take, get_or, length, length-take-le, add-one, take-suc, arith}
use Rattle.std.proofs.lemmas.List.Sums.{AllPass-from_list_all}
use Rattle.cover_problem.specs.Problem.{is_option}
use Rattle.cover_problem.proofs.HolderLemmas.{holders_none, holders_push}
use Rattle.cover_problem.proofs.plain.note_all.Goals as goal

pub loop-place-init : goal.loop-place-init
loop-place-init c = c.requires.empty ∙ holders_none (length c.args.holders.now)

pub note-requires : goal.note-requires
note-requires c =
    let within : c.loop-place.place < length c.args.options.now = omega arith in
    rw (c.loop-place.auto.holders, c.list.ensures)
    (AllPass-from_list_all (is_option (length c.args.holders.now)) c.args.options.now c.requires.options c.loop-place.place [] within)

pub loop-place-preserved : goal.loop-place-preserved
loop-place-preserved c =
    let within : c.loop-place.place < length c.args.options.now = omega arith in
    let option = get_or c.args.options.now c.loop-place.place [] in
    let done : length (take c.loop-place.place c.args.options.now) ≡ c.loop-place.place = length-take-le c.loop-place.place c.args.options.now (omega arith) in
    rw (add-one c.loop-place.place, take-suc c.args.options.now c.loop-place.place [] within)
    (holders_push (length c.args.holders.now) (take c.loop-place.place c.args.options.now) option (c.loop-place.place + 1) (map (λ o. o.items) c.loop-place.holders) (map (λ o. o.items) c.note.new.holders)
    (ap (λ n. n + 1) (sym done)) c.loop-place.invariant (rw c.list.ensures at c.in_ok-note.ensures))
