use Rattle.poly_texts.proofs.PlainLemmas.{plain_texts_stay}
use Rattle.poly_texts.proofs.laws.plain_texts_stay.Goals as goal

pub returns : goal.returns
returns c = plain_texts_stay
