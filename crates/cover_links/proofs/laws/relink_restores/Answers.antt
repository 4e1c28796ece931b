use Rattle.cover_links.proofs.RestoreLemmas as lemmas
use Rattle.cover_links.proofs.laws.relink_restores.Goals as goal

pub returns : goal.returns
returns c = record { in_list = lemmas.relink_restores; in_row = lemmas.row_back }
