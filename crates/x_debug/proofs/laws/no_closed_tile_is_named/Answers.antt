use Rattle.x_debug.proofs.OpenLemmas.{begun_is_open, hold_keeps, put_back_keeps}
use Rattle.x_debug.proofs.laws.no_closed_tile_is_named.Goals as goal

pub returns-clause-found : goal.returns-clause-found
returns-clause-found c = λ b lo i e. begun_is_open b.tiles lo i e

pub returns-clause-held : goal.returns-clause-held
returns-clause-held c = λ b id i h. hold_keeps b id i h

pub returns-clause-put_back : goal.returns-clause-put_back
returns-clause-put_back c = λ b id i s h. put_back_keeps b id s i h
