use Rattle.std.proofs.Common.{◌≡◌, ℕ, suc, ◌+◌, ◌<◌, length, get_or, replicate, sym, ap, ◌∙◌, subst, arith, List}
use Rattle.cover_problem.specs.Problem.{option_at, size_of}
use Rattle.cover_links.specs.declared.entry.TableEntry.{TableEntry}
use Rattle.cover_links.specs.Fresh.{heads_written, option_appended, built, fresh}
use Rattle.cover_links.specs.Safety.{CanAppendOption}
use Rattle.cover_links.proofs.LayoutLemmas.{start_last, start_low}
use Rattle.cover_problem.proofs.HolderLemmas.{few_options}
use Rattle.cover_links.proofs.BuiltLemmas.{built_can}
use Rattle.cover_links.proofs.build.fresh.Goals as goal
use Rattle.std.proofs.lemmas.List.{length-replicate}

pub write_heads-requires-clause-within : goal.write_heads-requires-clause-within
write_heads-requires-clause-within c =
    let p = c.args.problem.now in
    let m = c.options-options.ensures in
    let size : get_or c.args.starts.now c.options-options.result 0 ≡ size_of p = ap (λ k. get_or c.args.starts.now k 0) m ∙ c.requires.each (length p.options) (omega arith) ∙ start_last p in
    let long = ap length c.in_ok-block.ensures ∙ length-replicate (get_or c.args.starts.now c.options-options.result 0) c.blank.result in
    let low = start_low p (length p.options) in let last = start_last p in let n = c.items-items.ensures.count in
    omega arith

pub loop-k-init : goal.loop-k-init
loop-k-init c =
    let p = c.args.problem.now in
    let m = c.options-options.ensures in
    let size : get_or c.args.starts.now c.options-options.result 0 ≡ size_of p = ap (λ k. get_or c.args.starts.now k 0) m ∙ c.requires.each (length p.options) (omega arith) ∙ start_last p in
    let room = c.in_ok-block.ensures ∙ (λ v. replicate (size v) (c.blank.ensures v)) in
    c.write_heads.ensures ∙ (λ j. heads_written (room j) (c.primary.ensures j) (c.items-items.ensures.count j))

pub append_option-requires : goal.append_option-requires
append_option-requires c =
    let p = c.args.problem.now in let k = c.loop-k.k in
    let lt : k < length p.options = omega (arith, c.loop-k-test.true, c.options-options.ensures) in
    let start = c.requires.each k (omega arith) in let next : suc k ≡ k + 1 = omega arith in
    let option : c.option.result.now ≡ option_at p (suc k) = c.option.ensures ∙ ap (λ n. option_at p n) (sym next) in
    record {
      can = subst (λ (w : List TableEntry × ℕ × List ℕ). CanAppendOption w.0 w.1 w.2) (λ j. (sym c.loop-k.invariant j, sym start j, sym option j)) (built_can p c.items-items.ensures.problem k lt);
      small = (let m = few_options p c.items-items.ensures.problem in omega arith);
    }

pub loop-k-preserved : goal.loop-k-preserved
loop-k-preserved c =
    let p = c.args.problem.now in let k = c.loop-k.k in
    let lt : k < length p.options = omega (arith, c.loop-k-test.true, c.options-options.ensures) in
    let start = c.requires.each k (omega arith) in let next : suc k ≡ k + 1 = omega arith in
    let option : c.option.result.now ≡ option_at p (suc k) = c.option.ensures ∙ ap (λ n. option_at p n) (sym next) in
    c.append_option.ensures ∙ (λ j. option_appended (c.loop-k.invariant j) (start j) (option j) (sym next j)) ∙ ap (λ n. built p n) next

pub returns : goal.returns
unfolding fresh
returns c =
    let p = c.args.problem.now in
    let all : c.loop-k.k ≡ length p.options = omega (arith, c.loop-k-test.false, c.loop-k.auto.k-end, c.options-options.ensures) in
    c.loop-k.invariant ∙ ap (λ n. built p n) all
