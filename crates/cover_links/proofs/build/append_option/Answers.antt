use Rattle.std.proofs.Common.{◌≡◌, ℕ, suc, ◌+◌, ◌-◌, [], ◌∷◌, length, get_or, set, drop, sym, ap, ◌∙◌, subst, arith, List}
use Rattle.cover_links.specs.declared.entry.TableEntry.{TableEntry}
use Rattle.cover_links.specs.Entries.{changed, to_down}
use Rattle.cover_links.specs.Fresh.{node_appended, nodes_appended, option_appended}
use Rattle.cover_links.specs.Layout.{place_after}
use Rattle.cover_links.specs.Safety.{CanAppendNodes}
use Rattle.cover_links.proofs.EntryLemmas.{written}
use Rattle.std.proofs.lemmas.List.{drop_all}
use Rattle.std.proofs.Math.Seq.{drop-cons}
use Rattle.cover_links.proofs.SafetyLemmas.{length-node_appended}
use Rattle.cover_links.proofs.build.append_option.Goals as goal

pub loop-item-preserved : goal.loop-item-preserved
loop-item-preserved c =
    let es = c.loop-item.block in let x = c.loop-item.index in let i = c.loop-item.item-index in let o = c.args.option.now in let s = c.loop-item.invariant in
    let l = c.args.start in let r = c.args.start + length o in
    let second : suc i ≡ i + 1 = omega arith in
    let cut : drop i o ≡ get_or o i 0 ∷ drop (i + 1) o = drop-cons o i 0 c.loop-item-test.true ∙ ap (λ k. get_or o i 0 ∷ drop k o) second in
    let next : suc x ≡ x + 1 = omega arith in
    let new = c.append_node.ensures ∙ ap (node_appended es x (get_or o i 0)) c.place_after.ensures in
    let can : CanAppendNodes es x l r (get_or o i 0 ∷ drop (i + 1) o) = subst (λ js. CanAppendNodes es x l r js) cut s.can in
    record {
      rest = (λ j. nodes_appended (new j) (sym next j) l r (drop (i + 1) o)) ∙ sym (ap (λ js. nodes_appended es x l r js) cut) ∙ s.rest;
      can = subst (λ (w : List TableEntry × ℕ). CanAppendNodes w.0 w.1 l r (drop (i + 1) o)) (λ j. (sym new j, next j)) can.1;
      place = (let p = s.place in omega arith);
      size = ap length new ∙ length-node_appended es x (get_or o i 0) (place_after l r x) ∙ s.size;
    }

pub returns : goal.returns
unfolding option_appended
returns c =
    let es = c.args.block.now in let o = c.args.option.now in let s = c.loop-item.invariant in let l = c.args.start in let r = c.args.start + length o in
    let none : drop c.loop-item.item-index o ≡ [] = drop_all c.loop-item.item-index o c.loop-item-test.false in
    let all : c.loop-item.block ≡ nodes_appended es l l r o = sym (ap (λ js. nodes_appended c.loop-item.block c.loop-item.index l r js) none) ∙ s.rest in
    let wrote = c.write.ensures ∙ ap (λ (n : ℕ). set c.loop-item.block (l - 1) (to_down n c.read-before.result)) c.at.ensures in
    let down = written (to_down (r - 1)) c.loop-item.block c.write.new.self (l - 1) c.read-before.result wrote c.read-before.ensures in
    let end : TableEntry = record { top = c.at-2.result; up = c.at-3.result; down = (c.blank.result).down; left = (c.blank.result).left; right = (c.blank.result).right } in
    let spacer : end ≡ record { top = c.args.number; up = l; down = 0; left = 0; right = 0 } =
    (λ v. record { top = c.at-2.ensures v; up = c.at-3.ensures v; down = (c.blank.ensures v).down; left = (c.blank.ensures v).left; right = (c.blank.ensures v).right }) in
    c.write-2.ensures ∙ ap (set c.write.new.self r) spacer ∙ ap (λ fs. set fs r (record { top = c.args.number; up = l; down = 0; left = 0; right = 0 })) (down ∙ ap (λ fs. changed (to_down (r - 1)) fs (l - 1)) all)
