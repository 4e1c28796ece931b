use Rattle.lab_book_laws.proofs.PlaceLemmas.{corresponds, one_place, cut_corresponds}
use Rattle.lab_book_laws.proofs.laws.open_tiles_correspond.Goals as goal

pub returns-clause-each : goal.returns-clause-each
returns-clause-each c = λ a b i k l o. corresponds a.tiles b.tiles i k.tiles l o

pub returns-clause-one : goal.returns-clause-one
returns-clause-one c = λ a b i j k s r. one_place a.tiles b.tiles i j k s r

pub returns-clause-cut : goal.returns-clause-cut
returns-clause-cut c = λ a b i j t k l o m e. cut_corresponds a.tiles b.tiles i j b.problem b.branch b.first k.tiles t l m o e
