use Rattle.std.proofs.Common.{sym, ap, ◌∙◌}
use Rattle.lab_book.specs.Tile.{TileValue}
use Rattle.lab_world.specs.Worker.{is_wanted}
use Rattle.lab_world.proofs.LeaseLemmas.{place_some, place_other, place_none, place_within}
use Rattle.lab_world.proofs.worker.leases.wanted_place.Goals as goal

pub returns-in_default : goal.returns-in_default
returns-in_default c = sym (place_none c.args.book.now.tiles c.args.id (λ (t : TileValue). is_wanted c.args.wanted t.status)
    (sym c.place.ensures ∙ c.in_default.is))

pub returns-then-is_wanted : goal.returns-then-is_wanted
returns-then-is_wanted c =
    sym (place_some c.args.book.now.tiles c.args.id (λ (t : TileValue). is_wanted c.args.wanted t.status) c.in-Some.place
    (sym c.place.ensures ∙ c.in-Some.is) (sym (ap (is_wanted c.args.wanted) c.status_at.ensures) ∙ sym c.is_wanted.ensures
    ∙ c.if-is_wanted.true))

pub returns-else-is_wanted : goal.returns-else-is_wanted
returns-else-is_wanted c =
    sym (place_other c.args.book.now.tiles c.args.id (λ (t : TileValue). is_wanted c.args.wanted t.status) c.in-Some.place
    (sym c.place.ensures ∙ c.in-Some.is) (sym (ap (is_wanted c.args.wanted) c.status_at.ensures) ∙ sym c.is_wanted.ensures
    ∙ c.if-is_wanted.false))

pub status_at-requires : goal.status_at-requires
status_at-requires c = place_within c.args.book.now.tiles c.args.id c.in-Some.place (sym c.in-Some.is ∙ c.place.ensures)
