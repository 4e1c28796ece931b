use Rattle.cover_links.proofs.BlockLemmas as lemmas
use Rattle.cover_links.proofs.laws.block_stands.Goals as goal

pub returns : goal.returns
returns c = lemmas.block_stands
