use Rattle.debug_laws.proofs.WholeLemmas.{session_plays, fresh_plays, whole_plays, load_plays, seat_world}
use Rattle.debug_laws.proofs.laws.sessions_are_played.Goals as goal

pub returns-clause-session : goal.returns-clause-session
returns-clause-session c = session_plays

pub returns-clause-fresh : goal.returns-clause-fresh
returns-clause-fresh c = fresh_plays

pub returns-clause-whole : goal.returns-clause-whole
returns-clause-whole c = whole_plays

pub returns-clause-load : goal.returns-clause-load
returns-clause-load c = load_plays

pub returns-clause-world : goal.returns-clause-world
returns-clause-world c = seat_world
