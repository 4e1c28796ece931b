use Rattle.std.proofs.Common.{◌≡◌, ℕ, suc, ◌<◌, ◌≤◌, ◌==◌, inl, inr, true, false, Some, List, refl, sym, ap, ◌∙◌, arith}
use Rattle.std.proofs.lemmas.Bool.{ne_eqb, cases_lt, false≢true, true≢false}
use Rattle.cover_links.specs.declared.entry.TableEntry.{TableEntry}
use Rattle.cover_links.specs.Entries.{entry_at}
use Rattle.cover_links.specs.Table.{IsNodeOf, IsHeadOrNode, nonzero, is_spacer}
use Rattle.cover_links.proofs.TableLemmas.{seen_at}
use Rattle.cover_links.proofs.table.option_at.Goals as goal

-- the first spacer past a node tells the number
first_tells : (es : List TableEntry) (item node y k : ℕ) → node < y → is_spacer (entry_at es y) ≡ true → ((x j : ℕ) → IsNodeOf es item node x j → y ≤ x)
    → (node ≡ item → ⊥) → IsHeadOrNode es item node k → Some (entry_at es y).top ≡ nonzero k
first_tells es item node y k past end first ne (inl head) = absurd (ne head.0)
first_tells es item node y k past end first ne (inr (x, n)) = elim (cases_lt y x) [
  | inl less ↦ absurd (true≢false (sym end ∙ n.nodes y (omega arith) less))
  | inr most ↦ let le = first x k n in let same : y ≡ x = omega arith in let some = n.some in
      let f : k == 0 ≡ false = ne_eqb k 0 (λ e. absurd (omega arith)) in
      ap (λ z. Some (entry_at es z).top) same ∙ ap Some n.number ∙ rw f refl
]

pub loop-past-preserved : goal.loop-past-preserved
loop-past-preserved c =
    let here = c.loop-past.invariant in let at = here.1 in let low = here.2 in let es = c.args.block.now in
    let other = seen_at es here.0 c.is_spacer.ensures c.loop-past-test.true (c.read_at.ensures here.0 here.1) in (
      suc here.0,
      omega arith,
      omega arith,
      λ x k n. let le = here.3 x k n in
          let apart : here.0 ≡ x → ⊥ = λ q. false≢true (sym other ∙ ap (λ z. is_spacer (entry_at es z)) q ∙ n.end) in
          omega (arith, apart),
    )

pub returns : goal.returns
returns c k n =
    let here = c.loop-past.invariant in let es = c.args.block.now in
    let end = seen_at es here.0 c.is_spacer.ensures c.loop-past-test.false (c.read_at.ensures here.0 here.1) in
    ap Some (c.index.ensures ∙ ap (λ (e : TableEntry). e.top) (c.read_at-2.ensures here.0 here.1))
    ∙ first_tells es c.args.item c.args.node here.0 k here.2 end here.3 (c.if-is.ensures.apart refl) n
