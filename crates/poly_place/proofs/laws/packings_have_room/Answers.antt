use Rattle.poly_place.proofs.FollowLemmas.{packings_have_room}
use Rattle.poly_place.proofs.laws.packings_have_room.Goals as goal

pub returns : goal.returns
returns c = packings_have_room
