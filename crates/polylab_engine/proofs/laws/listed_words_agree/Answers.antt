use Rattle.polylab_engine.proofs.ListedLemmas.{paths_back}
use Rattle.polylab_engine.proofs.PackingLemmas.{packs_from, packing_from}
use Rattle.polylab_engine.proofs.PathLemmas.{all_covers, all_covers_back}
use Rattle.polylab_engine.proofs.laws.listed_words_agree.Goals as goal

pub returns : goal.returns
returns c = record {
  packings = λ p chosen. (packs_from p chosen, packing_from p chosen);
  covers = λ p paths. ((λ h. all_covers p paths h.0 h.1), all_covers_back p paths);
  paths = λ p packings z small all. paths_back p z small packings all;
}
