use Rattle.cover_links.proofs.BlockLemmas as lemmas
use Rattle.cover_links.proofs.laws.uncover_restores.Goals as goal

pub returns : goal.returns
returns c = lemmas.uncover_restores
