use Rattle.std.proofs.Common.{[], length, get_or, sym, ap, ◌∙◌, eqb-true}
use Rattle.std.proofs.lemmas.Bool.Decides.{Decides-at}
use Rattle.std.specs.Cmp.Lexicographic.{bytes_decides}
use Rattle.drawn_books.proofs.CoverLemmas.{one_list}
use Rattle.drawn_books.proofs.visits_the_cover.Goals.{then-len-eq1, else-len-eq1}
use Rattle.drawn_books.proofs.visits_the_cover.Goals as goal

pub returns : goal.returns
returns c =
    let posted = c.in_ok-visits.ensures.visits in
    elim c.if-len-eq1.branch [
      | then-len-eq1 w ↦
          let same = Decides-at _ _ w.eq.ensures (bytes_decides w.list.result.now w.as_slice.result.now) in (
            (λ yes. sym posted ∙ one_list _ _ (sym c.len.ensures ∙ w.if-len-eq1.true) (sym w.list.ensures ∙ same.0 (sym w.result-is ∙ yes) ∙ w.as_slice.ensures)),
            (λ e. w.result-is ∙ same.1 (w.list.ensures ∙ ap (λ xs. get_or xs 0 []) (posted ∙ e) ∙ sym w.as_slice.ensures)),
          )
      | else-len-eq1 w ↦ (
        (λ yes. absurd (w.if-len-eq1.false (eqb-true _ 1 (sym w.result-is ∙ yes)))),
        (λ e. absurd (w.if-len-eq1.false (c.len.ensures ∙ ap length (posted ∙ e)))),
      )
    ]
