use Rattle.std.proofs.Common.{◌≡◌, ◌∙◌, ap, subst, ◌&&◌, not, ◌==◌, ◌+◌, ◌*◌, w64, arith}
use Rattle.std.specs.Int.{trailing_zeros}
use Rattle.cover_bits.specs.Parts.{to_come, IsFirstFrom}
use Rattle.cover_bits.proofs.WalkLemmas.{lowest, without_lowest, first_of_same}
use Rattle.cover_bits.proofs.walk.take_next.Goals as goal

pub returns-clause-first : goal.returns-clause-first
returns-clause-first c =
    let f = c.find_word.ensures in
    let s = f.starts in
    let same : c.find_word.new.rest.place * 64 + trailing_zeros w64 c.find_word.new.rest.word ≡ c.find_word.new.rest.first + trailing_zeros w64 c.find_word.new.rest.word = omega arith in
    subst (λ n. IsFirstFrom (to_come c.args.row.now c.args.rest.now) 0 n) same
    (first_of_same (to_come c.args.row.now c.find_word.new.rest) (to_come c.args.row.now c.args.rest.now) f.same _ (lowest c.args.row.now c.find_word.new.rest (f.found c.if-not-find_word.false) f.fits))

pub returns-clause-left : goal.returns-clause-left
returns-clause-left c j =
    let f = c.find_word.ensures in
    let s = f.starts in
    let same : c.find_word.new.rest.place * 64 + trailing_zeros w64 c.find_word.new.rest.word ≡ c.find_word.new.rest.first + trailing_zeros w64 c.find_word.new.rest.word = omega arith in
    without_lowest c.args.row.now c.find_word.new.rest (f.found c.if-not-find_word.false) f.fits j
    ∙ ap (λ b. b && not (j == c.find_word.new.rest.place * 64 + trailing_zeros w64 c.find_word.new.rest.word)) (f.same j)
    ∙ ap (λ n. to_come c.args.row.now c.args.rest.now j && not (j == n)) same
