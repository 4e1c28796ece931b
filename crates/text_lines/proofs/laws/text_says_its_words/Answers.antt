use Rattle.text_lines.proofs.TextWordLemmas.{words_read, read_words}
use Rattle.text_lines.proofs.laws.text_says_its_words.Goals as goal

pub returns : goal.returns
returns g c bad words_line blank lines s t =
    (λ (n, h). words_read bad words_line blank lines s t 1 n h, λ (plain, h). read_words bad words_line blank lines s t 1 plain h)
