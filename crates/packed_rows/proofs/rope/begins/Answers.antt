use Rattle.std.proofs.Common.{◌≡◌, ◌∙◌, ◌++◌, sym, ap, length, take}
use Rattle.packed_rows.proofs.RopeLemmas.{is_zero, is_some, same_bytes, other_bytes, ends_short, part_is, part_left, part_back}
use Rattle.packed_rows.proofs.rope.begins.Goals as goal

pub returns-then-is_empty-clause-no : goal.returns-then-is_empty-clause-no
returns-then-is_empty-clause-no c = λ e rest h.
    ends_short _ c.comparing.left.now rest (c.part-part.ensures.end (is_zero _ c.if-is_empty.ensures)) (is_some _ c.comparing-test.ensures)
    (c.comparing.invariant.no rest h)

pub returns-then-ne-clause-no : goal.returns-then-ne-clause-no
returns-then-ne-clause-no c = λ e rest h.
    let p = c.part-part.ensures in
    other_bytes _ _ c.if-ne.ensures
    (part_is _ c.comparing.left.now rest c.part-part.result.now _ p.parts p.most (c.comparing.invariant.no rest h) ∙ sym c.split_at.ensures.front)

pub comparing-preserved : goal.comparing-preserved
comparing-preserved c =
    let i = c.comparing.invariant in let p = c.part-part.ensures in let left = c.comparing.left.now in
    let n = length c.part-part.result.now in
    let here : c.part-part.result.now ≡ take n left = same_bytes _ _ c.if-ne.ensures ∙ c.split_at.ensures.front in
    record {
      yes = λ rest h. i.yes rest (part_back _ left _ _ n rest p.parts here (h ∙ ap (λ xs. xs ++ rest) c.split_at.ensures.back));
      no = λ rest h. part_left _ left _ _ n rest p.parts here (i.no rest h) ∙ ap (λ xs. xs ++ rest) (sym c.split_at.ensures.back);
    }
