use Rattle.std.proofs.Common.{◌≡◌, ◌<◌, ◌≤◌, ◌+◌, ◌-◌, Some, length, sym, ap, ◌∙◌, subst, arith}
use Rattle.std.specs.Prelude.{IsSomeAnd}
use Rattle.cover_problem.specs.Problem.{ProblemValue}
use Rattle.x_steps.specs.StateValue.{StateValue, done}
use Rattle.x_steps.specs.Rank.{rank}
use Rattle.x_steps.specs.Machine.{MachineValue}
use Rattle.x_steps.specs.Run.{steps_between}
use Rattle.x_steps.specs.Walk.{IsWalk, OnlyMoves}
use Rattle.x_steps.proofs.BetweenLemmas.{length-states}
use Rattle.x_steps.proofs.WalkLemmas.{lent_whole}
use Rattle.polylab_engine.specs.Account.{Account, AreSums, empty_account}
use Rattle.polylab_engine.specs.Searcher.{stands}
use Rattle.polylab_engine.proofs.StopLemmas.{pace_left, why_none, either, full_is, not_full, visits_within}
use Rattle.polylab_engine.proofs.SearchLemmas.{Searches, searches_begin, searches_on, searches_nearer, searches_anew, searches_end, searches_stop, steps_on, new_fits}
use Rattle.polylab_engine.proofs.SoonLemmas.{FewerBefore, fewer_begin, fewer_on}
use Rattle.polylab_engine.proofs.stretch.walk_to_stop.Goals as goal

pub loop-alloc-init : goal.loop-alloc-init
loop-alloc-init g c =
    let size = c.items-items.ensures.count ∙ ap (λ (q : ProblemValue). length q.names) c.problem.ensures in (
      searches_begin _ _ _ _ _ _ _ _ c.stands_in_run.ensures.problem c.stands_in_run.ensures.fits c.requires.end c.requires.not_past
          size (c.requires.empty ∙ ap empty_account (sym size)) c.in_ok-counts.ensures (omega arith),
      omega arith,
      λ n e. let none = ap (λ (t : Account). t.visited) c.requires.empty in omega arith,
      fewer_begin _ _ c.args.bounds.first c.stands_in_run.ensures.fits,
      omega arith,
    )

pub returns-then-walk-eq0-clause-stop : goal.returns-then-walk-eq0-clause-stop
returns-then-walk-eq0-clause-stop g c =
    let t = c.if-walk-eq0.true in
    let none : c.walk_on-walk.result.steps ≡ 0 = omega arith in
    let walk = subst (λ l. IsWalk (stands c.loop-alloc.searcher).problem (stands c.loop-alloc.searcher).state (stands c.walk_on-walk.new.searcher).state l c.walk_on-walk.new.counts c.walk_on-walk.result.steps c.walk_on-walk.result.event) c.deref_mut.ensures.value c.walk_on-walk.ensures.walk in
    let told = ap (λ (t : Account). t.visited) c.in_ok-add_counts.ensures.others in
    let why = why_none c.pace_of.ensures.none (c.walk_on-walk.ensures.none none) in
    either why (λ full. full_is c.args.bounds.first c.loop-alloc.tally.visited (c.is_full.ensures.0 full) c.loop-alloc.invariant.2 ∙ ap Some (sym told))
    (λ stops. searches_stop _ _ _ _ _ _ (stands c.walk_on-walk.new.searcher) _ _ _ _ _ _ _ c.loop-alloc.invariant.0 walk none c.loop-alloc.invariant.1 stops)

pub returns-then-walk-eq0-clause-first : goal.returns-then-walk-eq0-clause-first
returns-then-walk-eq0-clause-first g c =
    let told = ap (λ (t : Account). t.visited) c.in_ok-add_counts.ensures.others in
    λ n e. let most = c.loop-alloc.invariant.2 n e in omega arith

pub returns-then-walk-eq0-clause-soon : goal.returns-then-walk-eq0-clause-soon
returns-then-walk-eq0-clause-soon g c =
    let search = c.loop-alloc.invariant.0 in
    let p = (stands c.args.searcher.now).problem in
    let from = (stands c.args.searcher.now).state in
    let taken : c.add_counts.new.self.steps ≡ steps_between p from (stands c.loop-alloc.searcher).state =
    ap (λ (t : Account). t.steps) c.in_ok-add_counts.ensures.others ∙ search.tells.steps_are ∙ length-states p (steps_between p from (stands c.loop-alloc.searcher).state) from in
    subst (FewerBefore p from c.args.bounds.first) (sym taken) c.loop-alloc.invariant.3

pub returns-then-walk-eq0-clause-fits : goal.returns-then-walk-eq0-clause-fits
returns-then-walk-eq0-clause-fits g c =
    new_fits _ _ _ _ _ _ (stands c.walk_on-walk.new.searcher) _ _ _ _ _ _ _ c.loop-alloc.invariant.0
    (subst (λ l. IsWalk (stands c.loop-alloc.searcher).problem (stands c.loop-alloc.searcher).state (stands c.walk_on-walk.new.searcher).state l c.walk_on-walk.new.counts c.walk_on-walk.result.steps c.walk_on-walk.result.event) c.deref_mut.ensures.value c.walk_on-walk.ensures.walk)

pub returns-then-walk-eq0-clause-account : goal.returns-then-walk-eq0-clause-account
returns-then-walk-eq0-clause-account g c =
    let t = c.if-walk-eq0.true in
    let none : c.walk_on-walk.result.steps ≡ 0 = omega arith in
    let walk = subst (λ l. IsWalk (stands c.loop-alloc.searcher).problem (stands c.loop-alloc.searcher).state (stands c.walk_on-walk.new.searcher).state l c.walk_on-walk.new.counts c.walk_on-walk.result.steps c.walk_on-walk.result.event) c.deref_mut.ensures.value c.walk_on-walk.ensures.walk in
    let size : c.loop-alloc.counts.len ≡ length c.loop-alloc.counts.items = sym c.deref_mut.ensures.len ∙ ap length c.deref_mut.ensures.value in
    let row = c.deref.ensures.value ∙ lent_whole _ _ _ walk.counted.levels size in
    let sums = subst (λ l. AreSums c.loop-alloc.tally.entered l c.add_counts.new.self.entered) row c.in_ok-add_counts.ensures.sums in
    searches_end _ _ _ _ _ _ (stands c.walk_on-walk.new.searcher) _ _ _ _ _ _ _ c.loop-alloc.invariant.0 walk none c.add_counts.new.self c.in_ok-add_counts.ensures.others sums

pub loop-alloc-smaller : goal.loop-alloc-smaller
loop-alloc-smaller g c =
    let f = c.if-walk-eq0.false in
    let walk = subst (λ l. IsWalk (stands c.loop-alloc.searcher).problem (stands c.loop-alloc.searcher).state (stands c.walk_on-walk.new.searcher).state l c.walk_on-walk.new.counts c.walk_on-walk.result.steps c.walk_on-walk.result.event) c.deref_mut.ensures.value c.walk_on-walk.ensures.walk in
    searches_nearer _ _ _ _ _ _ (stands c.walk_on-walk.new.searcher) _ _ _ _ _ _ _ c.loop-alloc.invariant.0 walk (omega arith)

pub loop-alloc-smaller-then-room-eq0 : goal.loop-alloc-smaller-then-room-eq0
loop-alloc-smaller-then-room-eq0 g c =
    let f = c.if-walk-eq0.false in
    let walk = subst (λ l. IsWalk (stands c.loop-alloc.searcher).problem (stands c.loop-alloc.searcher).state (stands c.walk_on-walk.new.searcher).state l c.walk_on-walk.new.counts c.walk_on-walk.result.steps c.walk_on-walk.result.event) c.deref_mut.ensures.value c.walk_on-walk.ensures.walk in
    subst (λ (m : MachineValue). rank (stands c.args.searcher.now).problem done - rank (stands c.args.searcher.now).problem m.state < rank (stands c.args.searcher.now).problem done - rank (stands c.args.searcher.now).problem (stands c.loop-alloc.searcher).state) (sym c.ask_again.ensures.position)
    (searches_nearer _ _ _ _ _ _ (stands c.walk_on-walk.new.searcher) _ _ _ _ _ _ _ c.loop-alloc.invariant.0 walk (omega arith))

pub loop-alloc-preserved : goal.loop-alloc-preserved
loop-alloc-preserved g c =
    let walk = subst (λ l. IsWalk (stands c.loop-alloc.searcher).problem (stands c.loop-alloc.searcher).state (stands c.walk_on-walk.new.searcher).state l c.walk_on-walk.new.counts c.walk_on-walk.result.steps c.walk_on-walk.result.event) c.deref_mut.ensures.value c.walk_on-walk.ensures.walk in
    let size : c.loop-alloc.counts.len ≡ length c.loop-alloc.counts.items = sym c.deref_mut.ensures.len ∙ ap length c.deref_mut.ensures.value in
    let pace = c.pace_of.ensures.room in
    let within = c.walk_on-walk.ensures.within in
    let some = c.if-walk-eq0.false in
    let less : IsSomeAnd c.args.bounds.first (λ n. n ≤ c.loop-alloc.tally.visited) → ⊥ = λ h. let full = c.pace_of.ensures.full (c.is_full.ensures.1 h) in omega arith in
    let noted = ap (λ (t : Account). t.visited) c.in_ok-note.ensures in
    let more = visits_within c.loop-alloc.tally.visited c.walk_on-walk.result.event in
    let one : c.note.new.self.visited ≤ c.loop-alloc.tally.visited + 1 = omega arith in
    let search = c.loop-alloc.invariant.0 in
    let fewer = subst (FewerBefore (stands c.args.searcher.now).problem (stands c.args.searcher.now).state c.args.bounds.first)
    (sym (steps_on _ _ _ _ _ _ (stands c.walk_on-walk.new.searcher) _ _ _ _ _ _ _ search walk))
    (fewer_on (stands c.args.searcher.now).problem (stands c.args.searcher.now).state (stands c.loop-alloc.searcher).state c.args.bounds.first c.loop-alloc.tally.visited c.walk_on-walk.result.steps
    search.from_fits search.fits search.begun search.tells.visited_is less
    (subst (λ (q : ProblemValue). OnlyMoves q c.walk_on-walk.result.steps (stands c.loop-alloc.searcher).state) search.same walk.moves) c.loop-alloc.invariant.3) in
    let path = c.deref-in-loop-alloc.ensures.value ∙ ap (λ (s : StateValue). s.path) c.state.ensures.state in
    let on = searches_on _ _ _ _ _ _ (stands c.walk_on-walk.new.searcher) _ _ _ _ _ _ _ c.loop-alloc.invariant.0 walk _ _ _ c.walk_on-walk.ensures.problem (omega arith)
    (pace_left c.loop-alloc.left c.pace_of.result _ c.pace_of.ensures.left within) c.walk_on-walk.ensures.before path c.in_ok-note.ensures c.left_after-left.ensures in (
      subst (λ l. Searches c.args.bounds.keeps (stands c.args.searcher.now).problem (stands c.args.searcher.now).state c.args.bounds.end.now c.args.bounds.most (stands c.walk_on-walk.new.searcher) c.note.new.self l (c.loop-alloc.room - c.walk_on-walk.result.steps) c.left_after-left.result) (sym (lent_whole _ _ _ walk.counted.levels size)) on,
      omega arith,
      not_full c.args.bounds.first c.loop-alloc.tally.visited c.note.new.self.visited less one,
      fewer,
      c.loop-alloc.invariant.4,
    )

pub loop-alloc-preserved-then-room-eq0 : goal.loop-alloc-preserved-then-room-eq0
loop-alloc-preserved-then-room-eq0 g c =
    let walk = subst (λ l. IsWalk (stands c.loop-alloc.searcher).problem (stands c.loop-alloc.searcher).state (stands c.walk_on-walk.new.searcher).state l c.walk_on-walk.new.counts c.walk_on-walk.result.steps c.walk_on-walk.result.event) c.deref_mut.ensures.value c.walk_on-walk.ensures.walk in
    let size : c.loop-alloc.counts.len ≡ length c.loop-alloc.counts.items = sym c.deref_mut.ensures.len ∙ ap length c.deref_mut.ensures.value in
    let pace = c.pace_of.ensures.room in
    let within = c.walk_on-walk.ensures.within in
    let some = c.if-walk-eq0.false in
    let less : IsSomeAnd c.args.bounds.first (λ n. n ≤ c.loop-alloc.tally.visited) → ⊥ = λ h. let full = c.pace_of.ensures.full (c.is_full.ensures.1 h) in omega arith in
    let noted = ap (λ (t : Account). t.visited) c.in_ok-note.ensures in
    let others = ap (λ (t : Account). t.visited) c.in_ok-add_counts-2.ensures.others in
    let more = visits_within c.loop-alloc.tally.visited c.walk_on-walk.result.event in
    let one : c.add_counts-then-room-eq0.new.self.visited ≤ c.loop-alloc.tally.visited + 1 = omega arith in
    let search = c.loop-alloc.invariant.0 in
    let fewer = subst (FewerBefore (stands c.args.searcher.now).problem (stands c.args.searcher.now).state c.args.bounds.first)
    (sym (steps_on _ _ _ _ _ _ (stands c.walk_on-walk.new.searcher) _ _ _ _ _ _ _ search walk))
    (fewer_on (stands c.args.searcher.now).problem (stands c.args.searcher.now).state (stands c.loop-alloc.searcher).state c.args.bounds.first c.loop-alloc.tally.visited c.walk_on-walk.result.steps
    search.from_fits search.fits search.begun search.tells.visited_is less
    (subst (λ (q : ProblemValue). OnlyMoves q c.walk_on-walk.result.steps (stands c.loop-alloc.searcher).state) search.same walk.moves) c.loop-alloc.invariant.3) in
    let path = c.deref-in-loop-alloc.ensures.value ∙ ap (λ (s : StateValue). s.path) c.state.ensures.state in
    let on = searches_on _ _ _ _ _ _ (stands c.walk_on-walk.new.searcher) _ _ _ _ _ _ _ c.loop-alloc.invariant.0 walk _ _ _ c.walk_on-walk.ensures.problem (omega arith)
    (pace_left c.loop-alloc.left c.pace_of.result _ c.pace_of.ensures.left within) c.walk_on-walk.ensures.before path c.in_ok-note.ensures c.left_after-left.ensures in
    let row = c.deref-then-room-eq0.ensures.value ∙ lent_whole _ _ _ walk.counted.levels size in
    let sums = subst (λ l. AreSums c.note.new.self.entered l c.add_counts-then-room-eq0.new.self.entered) row c.in_ok-add_counts-2.ensures.sums in (
      subst (λ (m : MachineValue). Searches c.args.bounds.keeps (stands c.args.searcher.now).problem (stands c.args.searcher.now).state c.args.bounds.end.now c.args.bounds.most m c.add_counts-then-room-eq0.new.self c.in_ok-counts-2.counts.items c.before_next-paced.result c.left_after-left.result)
          (sym c.ask_again.ensures.position)
          (searches_anew _ _ _ _ _ (stands c.walk_on-walk.new.searcher) _ _ _ _ _ _ c.before_next-paced.result _ on c.in_ok-add_counts-2.ensures.others sums
          (c.items-items.ensures.count ∙ ap (λ (q : ProblemValue). length q.names) c.problem.ensures) c.in_ok-counts-2.ensures (omega arith)),
      omega arith,
      not_full c.args.bounds.first c.loop-alloc.tally.visited c.add_counts-then-room-eq0.new.self.visited less one,
      subst (λ (m : MachineValue). FewerBefore (stands c.args.searcher.now).problem (stands c.args.searcher.now).state c.args.bounds.first
          (steps_between (stands c.args.searcher.now).problem (stands c.args.searcher.now).state m.state)) (sym c.ask_again.ensures.position) fewer,
      c.before_next-paced.ensures,
    )
