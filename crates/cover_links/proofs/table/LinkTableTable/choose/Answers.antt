use Rattle.std.proofs.Common.{◌≡◌, ℕ, ◌*◌, ◌/◌, ◌<◌, inr, refl, sym, ap, ◌∙◌, subst, arith}
use Rattle.cover_links.specs.declared.entry.TableEntry.{TableEntry}
use Rattle.cover_links.specs.StandsFor.{block_of}
use Rattle.cover_problem.specs.Problem.{size_of}
use Rattle.cover_problem.specs.Covering.{choice}
use Rattle.cover_links.proofs.EntryLemmas.{times_div}
use Rattle.cover_links.proofs.HidingLemmas.{right_at, top_at}
use Rattle.cover_links.proofs.TableLemmas.{at_view, entry_low, block_small, stands}
use Rattle.cover_links.proofs.RowWalk.{ComesTo, turns, head_low, begins, next_low, takes, keeps, falls, ends, ends_early}
use Rattle.cover_links.proofs.table.LinkTableTable.choose.Goals.{then-is_below, else-is_below, then-here-eq0, else-here-eq0}
use Rattle.cover_links.proofs.table.LinkTableTable.choose.Goals as goal

pub read_at-len-requires : goal.read_at-len-requires
read_at-len-requires c =
    let t = at_view c.self.view_is c.self.invariant in
    let first = right_at (block_of c.args.self.now.problem c.args.self.now.covered) 0 in
    (first, c.head_after-here.ensures 0 refl, entry_low t first (head_low t first (begins t refl c.requires.«open»).here))

pub loop-self-init : goal.loop-self-init
loop-self-init c =
    let t = at_view c.self.view_is c.self.invariant in
    let first = right_at (block_of c.args.self.now.problem c.args.self.now.covered) 0 in
    let at : c.head_after-here.result ≡ first * 16 = c.head_after-here.ensures 0 refl in
    let len : c.read_at-len.result.top ≡ top_at (block_of c.args.self.now.problem c.args.self.now.covered) first =
    ap (λ (e : TableEntry). e.top) (c.read_at-len.ensures first at) ∙ ap (λ es. top_at es first) t.block_is in
    (first, first, at, at, len, subst (ComesTo c.args.self.now.problem c.args.self.now.covered first first) (sym len) (begins t refl c.requires.«open»))

pub head_after-here-requires-in-loop-self : goal.head_after-here-requires-in-loop-self
head_after-here-requires-in-loop-self c =
    let t = at_view c.self.view_is c.self.invariant in let inv = c.loop-self.invariant in (inv.0, inv.2, head_low t inv.0 (inv.5).here)

pub read_at-len-requires-in-loop-self : goal.read_at-len-requires-in-loop-self
read_at-len-requires-in-loop-self c =
    let t = at_view c.self.view_is c.self.invariant in let inv = c.loop-self.invariant in
    let some : top_at (block_of c.args.self.now.problem c.args.self.now.covered) inv.0 ≡ 0 → ⊥ =
    λ z. c.is.ensures.apart c.loop-self-test.true (inv.4 ∙ z ∙ sym c.at-none.ensures) in
    let next = right_at (block_of c.args.self.now.problem c.args.self.now.covered) inv.0 in
    (next, c.head_after-here-in-loop-self.ensures inv.0 inv.2, entry_low t next (next_low t inv.5 some refl))

pub loop-self-smaller : goal.loop-self-smaller
loop-self-smaller c =
    let t = at_view c.self.view_is c.self.invariant in let inv = c.loop-self.invariant in
    let some : top_at (block_of c.args.self.now.problem c.args.self.now.covered) inv.0 ≡ 0 → ⊥ =
    λ z. c.is.ensures.apart c.loop-self-test.true (inv.4 ∙ z ∙ sym c.at-none.ensures) in
    let next = right_at (block_of c.args.self.now.problem c.args.self.now.covered) inv.0 in
    let was = ap (λ n. turns c.args.self.now.problem (n / 16)) inv.2 ∙ ap (turns c.args.self.now.problem) (times_div inv.0) in
    let now = ap (λ n. turns c.args.self.now.problem (n / 16)) (c.head_after-here-in-loop-self.ensures inv.0 inv.2) ∙ ap (turns c.args.self.now.problem) (times_div next) in
    let less = falls t inv.5 some refl in omega arith

pub loop-self-preserved : goal.loop-self-preserved
loop-self-preserved c =
    let t = at_view c.self.view_is c.self.invariant in let inv = c.loop-self.invariant in
    let p = c.args.self.now.problem in let d = c.args.self.now.covered in
    let some : top_at (block_of p d) inv.0 ≡ 0 → ⊥ = λ z. c.is.ensures.apart c.loop-self-test.true (inv.4 ∙ z ∙ sym c.at-none.ensures) in
    let next = right_at (block_of p d) inv.0 in
    let at : c.head_after-here-in-loop-self.result ≡ next * 16 = c.head_after-here-in-loop-self.ensures inv.0 inv.2 in
    let len : c.read_at-len-in-loop-self.result.top ≡ top_at (block_of p d) next =
    ap (λ (e : TableEntry). e.top) (c.read_at-len-in-loop-self.ensures next at) ∙ ap (λ es. top_at es next) t.block_is in
    let here = inv.4 in
    elim c.if-is_below.branch [
      | then-is_below w ↦
          let less = c.is_below.ensures.less w.if-is_below.true in
          (next, inv.0, at, w.best-is ∙ inv.2, len, subst (ComesTo p d next inv.0) (sym (w.least-is ∙ here)) (takes t inv.5 some refl (omega arith)))
      | else-is_below w ↦
          let most = c.is_below.ensures.not_less w.if-is_below.false in
          (next, inv.1, at, w.best-is ∙ inv.3, len, subst (ComesTo p d next inv.1) (sym w.least-is) (keeps t inv.5 some refl (omega arith)))
    ]

-- the head that the walk ends with
found : (c : goal.After-row_known-1) → (n : ℕ) × (c.if-here-eq0.head ≡ n * 16) × (n < size_of c.args.self.now.problem) × (n ≡ choice c.args.self.now.problem c.args.self.now.covered)
found c =
    let t = at_view c.self.view_is c.self.invariant in let inv = c.loop-self.invariant in
    let none = sym inv.4 ∙ c.is.ensures.same c.loop-self-test.false ∙ c.at-none.ensures in let at = inv.2 in
    elim c.if-here-eq0.branch [
      | then-here-eq0 w ↦ let e = w.if-here-eq0.true in
          (inv.1, w.head-is ∙ inv.3, head_low t inv.1 (inr (inv.5).among), ends t inv.5 (omega arith))
      | else-here-eq0 w ↦ let ne = w.if-here-eq0.false in
          (inv.0, w.head-is ∙ at, head_low t inv.0 (inv.5).here, ends_early t inv.5 none (λ e. ne (omega arith)))
    ]

pub overflow_cast-result : goal.overflow_cast-result
overflow_cast-result c =
    let t = at_view c.self.view_is c.self.invariant in let f = found c in let at = f.1 in let low = f.2 in
    let s = block_small t in let l = (stands t).size in omega arith

pub returns : goal.returns
returns c = let f = found c in ap (λ n. n / 16) f.1 ∙ times_div f.0 ∙ f.3
