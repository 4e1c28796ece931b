use Rattle.std.proofs.Common.{ℕ, ◌≤◌, List, take, length, sym, ap, ◌∙◌, subst, arith}
use Rattle.x_texts.specs.Ends.{IsVisitLine, LineHasRoom, HoldsLine}
use Rattle.x_texts.proofs.EndLemmas.{longer, alike, written_back}
use Rattle.x_texts.proofs.visit_line.VisitLine.turn.Goals.{then-len-path+in_ok-widen+in_ok-widen-2+in_ok-widen-3, else-len-path, After-deref_mut-3}
use Rattle.x_texts.proofs.visit_line.VisitLine.turn.Goals as goal

pub invariant_of-self-in_err-widen-3 : goal.invariant_of-self-in_err-widen-3
invariant_of-self-in_err-widen-3 c =
    let line = c.self.inside in let path = ap length c.in_err-widen-3.ensures.unchanged in
    longer line.bytes.items line.ends.items line.path.items c.widen.new.list.items c.widen-then-len-path.new.list.items c.widen-then-len-path-2.new.list.items line.count c.self.invariant
    c.in_ok-widen.ensures.same c.in_ok-widen-2.ensures.same c.in_err-widen-3.ensures.same
    (record {
      for_bytes = omega (arith, path, c.self.invariant.room.for_bytes, c.in_ok-widen.ensures.widened);
      for_ends = omega (arith, path, c.self.invariant.room.for_ends, c.in_ok-widen-2.ensures.widened);
    })

-- the lists have room for the visit
holds : (c : After-deref_mut-3) → HoldsLine c.if-len-path.self-inside.bytes.items c.if-len-path.self-inside.ends.items c.if-len-path.self-inside.path.items c.if-len-path.self-inside.count
holds c =
    let line = c.self.inside in
    elim c.if-len-path.branch [
      | then-len-path+in_ok-widen+in_ok-widen-2+in_ok-widen-3 w ↦
          subst (λ s. HoldsLine s.bytes.items s.ends.items s.path.items s.count) (sym w.self-inside-is)
          (longer line.bytes.items line.ends.items line.path.items w.widen.new.list.items w.widen-then-len-path.new.list.items w.widen-then-len-path-2.new.list.items line.count c.self.invariant
          w.in_ok-widen.ensures.same w.in_ok-widen-2.ensures.same w.in_ok-widen-3.ensures.same
          (record {
            for_bytes = omega (arith, w.saturating_mul.ensures, w.saturating_add-most.ensures, w.in_ok-widen.ensures.widened, w.in_ok-widen-3.ensures.widened, w.widen.new.list.ok.0, w.widen.new.list.ok.1, c.self.invariant.room.for_bytes);
            for_ends = omega (arith, w.in_ok-widen-2.ensures.widened, w.in_ok-widen-3.ensures.widened, c.self.invariant.room.for_ends);
          }))
      | else-len-path w ↦ subst (λ s. HoldsLine s.bytes.items s.ends.items s.path.items s.count) (sym w.self-inside-is) c.self.invariant
    ]

pub put_rest-requires-clause-first_ones : goal.put_rest-requires-clause-first_ones
put_rest-requires-clause-first_ones c =
    let line = c.if-len-path.self-inside in let same = c.deref.ensures.value in
    subst (λ (w : List ℕ × List ℕ). IsVisitLine w.0 w.1 (take c.shared-count.result c.args.path.now)) (λ j. (sym c.deref_mut.ensures.value j, sym c.deref_mut-2.ensures.value j))
    (alike line.bytes.items line.ends.items line.path.items c.args.path.now line.count c.shared-count.result (holds c)
    (subst (λ (path : List ℕ). c.shared-count.result ≤ length (take line.count path)) same c.shared-count.ensures.in_first)
    (ap (λ path. take c.shared-count.result (take line.count path)) (sym same) ∙ c.shared-count.ensures.alike))

pub put_rest-requires-clause-room : goal.put_rest-requires-clause-room
put_rest-requires-clause-room c =
    subst (λ (w : List ℕ × (List ℕ × List ℕ)). LineHasRoom w.0 w.1.0 w.1.1) (λ j. (sym c.deref_mut.ensures.value j, (sym c.deref_mut-2.ensures.value j, sym c.deref_mut-3.ensures.value j)))
    (holds c).room

pub invariant_of-self-2 : goal.invariant_of-self-2
invariant_of-self-2 c =
    let line = c.if-len-path.self-inside in let new = c.put_rest.new in
    let bytes = written_back new.bytes line.bytes.items line.bytes.len line.bytes.ok.0 (c.put_rest.ensures.bytes_size ∙ ap length c.deref_mut.ensures.value) in
    let ends = written_back new.ends line.ends.items line.ends.len line.ends.ok.0 (c.put_rest.ensures.ends_size ∙ ap length c.deref_mut-2.ensures.value) in
    let path = written_back new.kept line.path.items line.path.len line.path.ok.0 (c.put_rest.ensures.path_size ∙ ap length c.deref_mut-3.ensures.value) in
    subst (λ (w : List ℕ × (List ℕ × List ℕ)). HoldsLine w.0 w.1.0 w.1.1 (length c.args.path.now)) (λ j. (sym bytes j, (sym ends j, sym path j))) c.put_rest.ensures.line
