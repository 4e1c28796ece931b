-- The loop of a search: the tally and the counts are those of the states from where it began up to where the machine stands.
use Rattle.std.proofs.Common.{◌≡◌, ℕ, suc, ◌+◌, ◌-◌, ◌<◌, ◌≤◌, ◌^◌, ◌⊎◌, Bool, ◌&&◌, cond, List, [], ◌∷◌, ◌++◌, length, map, replicate, slice_index, refl, sym, ap, ◌∙◌, arith, subst, inl, inr, le_refl, length-append, if◌then◌else◌, Option, Some, option_map}
use Rattle.std.specs.Option.{ForSome}
use Rattle.std.proofs.lemmas.List.{length-map, get_or-replicate, length-replicate}
use Rattle.std.proofs.lemmas.Grind.{same_number_lists}
use Rattle.shared_words.specs.Lists.{numbers}
use Rattle.cover_problem.specs.Problem.{ProblemValue, IsProblem}
use Rattle.cover_problem.proofs.NumberLemmas.{length-numbers}
use Rattle.x_steps.specs.declared.state.Label.TheVariants.{Done}
use Rattle.x_steps.specs.declared.event.Event.{Event}
use Rattle.x_steps.specs.StateValue.{StateValue, done}
use Rattle.x_steps.specs.Steps.{Fits}
use Rattle.x_steps.specs.Run.{after, states, visits, level_count, steps_between, states_between, ReachesIn}
use Rattle.x_steps.specs.Rank.{rank}
use Rattle.x_steps.specs.Machine.{MachineValue}
use Rattle.x_steps.specs.Walk.{last_event, is_visited, OnlyMoves, IsAtCut, AreCounted, CountsHaveRoom, IsWalk}
use Rattle.x_steps.proofs.BetweenLemmas.{states_between_self, states_between_join, steps_between_self, steps_between_join, length-states, counts_at, visits_join, level_count_join}
use Rattle.x_steps.proofs.StretchLemmas.{reached_fits, reached_rank}
use Rattle.x_steps.proofs.RunLemmas.{end_is, done_last, leads_to, rank_once, rises_between, steps_between_is}
use Rattle.x_steps.proofs.WalkLemmas.{zeros_room, room_left}
use Rattle.x_steps.proofs.VisitedLemmas.{walk_shows}
use Rattle.x_branches.specs.RunOrder.{ComesBefore}
use Rattle.x_branches.proofs.RunnerLemmas.{not_before}
use Rattle.polylab_engine.specs.Account.{Account, account_of, with_walk, empty_account, AreSums, kept}
use Rattle.polylab_engine.specs.Stretch.{end_at, steps_taken}
use Rattle.polylab_engine.proofs.AccountLemmas.{none_kept, kept_more, visited_more, same_accounts}
use Rattle.polylab_engine.proofs.StopLemmas.{IsLeft, all_left, left_more, taken_whole, taken_all, cut_ends, walk_not_past}

-- the tally with the counts beside it is the account of these states
pub record Tells (keeps : Bool) (p : ProblemValue) (ss : List StateValue) (a : Account) (counts : List ℕ) : Type 0 where
  pub visits_are : a.visits ≡ kept keeps (visits p ss)
  pub visited_is : a.visited ≡ length (visits p ss)
  pub steps_are : a.steps ≡ length ss
  pub totals : length a.entered ≡ length p.names + 1
  pub levels : length counts ≡ length p.names + 1
  pub entered_is : (level : ℕ) → level < length counts → slice_index a.entered level + slice_index counts level ≡ level_count ss level

-- ---- an account of these states with counts of nothing, more states, and the counts added

tells_all : (keeps : Bool) (p : ProblemValue) (ss : List StateValue) (a : Account) (zeros : List ℕ) → a ≡ account_of keeps p ss → zeros ≡ replicate (length p.names + 1) 0 → Tells keeps p ss a zeros
unfolding account_of
tells_all keeps p ss a zeros e z =
    let size = ap length z ∙ length-replicate (length p.names + 1) 0 in
    let totals = ap (λ b. length b.entered) e ∙ length-map (numbers (suc (length p.names)) 0) (level_count ss) ∙ length-numbers (suc (length p.names)) 0 in
    record {
      visits_are = ap (λ b. b.visits) e;
      visited_is = ap (λ b. b.visited) e;
      steps_are = ap (λ b. b.steps) e;
      totals = omega arith;
      levels = size;
      entered_is = λ level h.
          let l : level < length p.names + 1 = subst (λ n. level < n) size h in
          let x : slice_index a.entered level ≡ level_count ss level = ap (λ b. slice_index b.entered level) e ∙ counts_at (level_count ss) (suc (length p.names)) level 0 (omega arith) in
          let y : slice_index zeros level ≡ 0 = ap (λ c. slice_index c level) z ∙ get_or-replicate (length p.names + 1) level 0 0 l in omega arith;
    }

-- the account of no state
none_told : (keeps : Bool) (p : ProblemValue) → empty_account (length p.names) ≡ account_of keeps p []
unfolding account_of
none_told keeps p =
    let zeros = length-replicate {A = ℕ} (length p.names + 1) 0 in
    let counted = length-map (numbers (suc (length p.names)) 0) (level_count []) ∙ length-numbers (suc (length p.names)) 0 in
    let entered : replicate {A = ℕ} (length p.names + 1) 0 ≡ map (level_count []) (numbers (suc (length p.names)) 0) =
    same_number_lists _ _ (omega arith) (λ level h. get_or-replicate (length p.names + 1) level 0 0 (omega arith) ∙ sym (counts_at (level_count []) (suc (length p.names)) level 0 (omega arith))) in
    same_accounts _ _ (sym (none_kept keeps)) refl refl entered

module _ (keeps : Bool) (p : ProblemValue) (ss : List StateValue) (a : Account) (counts : List ℕ) (t : Tells keeps p ss a counts) where
  tells_more : (n : ℕ) (s : StateValue) (event : Event) (path : List ℕ) (more : Account) (new : List ℕ) → OnlyMoves p n s → event ≡ last_event p n s → path ≡ (after p n s).path
      → AreCounted counts new (states p n s) → more ≡ with_walk keeps a n event path → Tells keeps p (ss ++ states p n s) more new
  tells_more n s event path more new moves e q counted w =
      let shown : visits p (ss ++ states p n s) ≡ visits p ss ++ cond (is_visited event) (path ∷ []) [] = visits_join p ss (states p n s) ∙ ap (λ vs. visits p ss ++ vs) (walk_shows p n s moves ∙ (rw (e, q) refl)) in
      let levels = counted.levels in
      let held = t.levels in
      let length_more = length-append ss (states p n s) in
      let length_walk = length-states p n s in
      let steps = t.steps_are in
      let entered = ap (λ b. b.entered) w in
      let stepped = ap (λ b. b.steps) w in
      record {
        visits_are = ap (λ b. b.visits) w ∙ ap (λ vs. (if keeps && is_visited event then vs ++ path ∷ [] else vs)) t.visits_are ∙ sym (kept_more keeps (is_visited event) (visits p ss) path) ∙ sym (ap (kept keeps) shown);
        visited_is = ap (λ b. b.visited) w ∙ ap (λ v. (if is_visited event then v + 1 else v)) t.visited_is ∙ sym (visited_more (is_visited event) (visits p ss) path) ∙ sym (ap length shown);
        steps_are = omega arith;
        totals = ap length entered ∙ t.totals;
        levels = levels ∙ held;
        entered_is = λ level h.
            let x = t.entered_is level (omega arith) in
            let y = counted.each level (omega arith) in
            let z = level_count_join ss (states p n s) level in
            let same : slice_index more.entered level ≡ slice_index a.entered level = ap (λ l. slice_index l level) entered in omega arith;
      }

  module _ (b : Account) (others : b ≡ record a { entered = b.entered }) (sums : AreSums a.entered counts b.entered) where
    -- the counts are in the totals
    all_in : (level : ℕ) → level < length b.entered → slice_index b.entered level ≡ level_count ss level
    all_in level h =
        let l = sums.levels in
        let k = t.totals in
        let c = t.levels in
        let x = sums.each level (omega arith) in
        let y = t.entered_is level (omega arith) in omega arith

    tells_whole : b ≡ account_of keeps p ss
    unfolding account_of
    tells_whole =
        let size = length-map (numbers (suc (length p.names)) 0) (level_count ss) ∙ length-numbers (suc (length p.names)) 0 in
        let all = sums.levels in
        let k = t.totals in
        let entered : b.entered ≡ map (level_count ss) (numbers (suc (length p.names)) 0) = same_number_lists b.entered _ (omega arith) (λ level h. all_in level h ∙ sym (counts_at (level_count ss) (suc (length p.names)) level 0 (omega arith))) in
        let visits_are = ap (λ v. v.visits) others ∙ t.visits_are in
        let visited_is = ap (λ v. v.visited) others ∙ t.visited_is in
        let steps_are = ap (λ v. v.steps) others ∙ t.steps_are in
        same_accounts b _ visits_are visited_is steps_are entered

-- ---- the loop

-- the machine searches p, between where it began and the branch's end, and the tally tells of the states since then
pub record Searches (keeps : Bool) (p : ProblemValue) (from : StateValue) (end : List ℕ) (most : Option ℕ) (m : MachineValue) (a : Account) (counts : List ℕ) (room : ℕ) (left : Option ℕ) : Type 0 where
  pub sound : IsProblem p
  pub same : m.problem ≡ p
  pub from_fits : Fits p from
  pub end_fits : Fits p (end_at end)
  pub fits : Fits p m.state
  pub begun : rank p from ≤ rank p m.state
  pub not_past : rank p m.state ≤ rank p (end_at end)
  pub tells : Tells keeps p (states_between p from m.state) a counts
  pub fitting : CountsHaveRoom room counts
  pub left_is : IsLeft most left (steps_between p from m.state)

pub searches_begin : (keeps : Bool) (end : List ℕ) (most : Option ℕ) (m : MachineValue) (a : Account) (counts : List ℕ) (n room : ℕ) → IsProblem m.problem → Fits m.problem m.state → Fits m.problem (end_at end)
    → (ComesBefore m.problem (end_at end) m.state → ⊥) → n ≡ length m.problem.names → a ≡ empty_account n → counts ≡ replicate (n + 1) 0 → room < 2 ^ 32 → Searches keeps m.problem m.state end most m a counts room most
searches_begin keeps end most m a counts n room sound fits end_fits not_past size e z l =
    let p = m.problem in
    let zeros : counts ≡ replicate (length p.names + 1) 0 = z ∙ ap (λ k. replicate (k + 1) 0) size in
    let none : states_between p m.state m.state ≡ [] = states_between_self p m.state fits in
    record {
      sound = sound;
      same = refl;
      from_fits = fits;
      end_fits = end_fits;
      fits = fits;
      begun = le_refl (rank p m.state);
      not_past = not_before p (end_at end) m.state end_fits fits not_past;
      tells = tells_all keeps p (states_between p m.state m.state) a counts (e ∙ ap empty_account size ∙ none_told keeps p ∙ ap (account_of keeps p) (sym none)) zeros;
      fitting = subst (CountsHaveRoom room) (sym zeros) (zeros_room (length p.names + 1) room l);
      left_is = subst (IsLeft most most) (sym (steps_between_self p m.state fits)) (all_left most);
    }

module _ (keeps : Bool) (p : ProblemValue) (from : StateValue) (end : List ℕ) (most : Option ℕ) (m new : MachineValue) (a : Account) (counts later : List ℕ) (room n : ℕ) (left : Option ℕ) (event : Event)
    (s : Searches keeps p from end most m a counts room left) (walk : IsWalk m.problem m.state new.state counts later n event) where
  here : ReachesIn p m.state new.state n
  here = subst (λ q. ReachesIn q m.state new.state n) s.same walk.reaches

  pub new_fits : Fits p new.state
  new_fits = reached_fits p m.state new.state n s.fits here

  up : rank p m.state ≤ rank p new.state
  up = reached_rank p m.state new.state n s.fits here

  taken : steps_between p m.state new.state ≡ n
  taken = steps_between_is p m.state new.state n s.fits here

  passed : states_between p from new.state ≡ states_between p from m.state ++ states p n m.state
  passed = states_between_join p from m.state new.state s.from_fits s.fits new_fits s.begun up ∙ ap (λ k. states_between p from m.state ++ states p k m.state) taken

  pub steps_on : steps_between p from new.state ≡ n + steps_between p from m.state
  steps_on = steps_between_join p from m.state new.state s.from_fits s.fits new_fits s.begun up ∙ ap (λ k. k + steps_between p from m.state) taken

  pub searches_on : (path : List ℕ) (more : Account) (rest : Option ℕ) → new.problem ≡ m.problem → n ≤ room → ForSome left (λ l. n ≤ l) → ((i : ℕ) → i < n → IsAtCut (after m.problem i m.state) end → ⊥)
      → path ≡ new.state.path → more ≡ with_walk keeps a n event path → rest ≡ option_map (λ l. l - n) left → Searches keeps p from end most new more later (room - n) rest
  searches_on path more rest same within fitting before q w less =
      let counted : AreCounted counts later (states p n m.state) = subst (λ r. AreCounted counts later (states r n m.state)) s.same walk.counted in
      let not_cut : (i : ℕ) → i < n → IsAtCut (after p i m.state) end → ⊥ = subst (λ r. (i : ℕ) → i < n → IsAtCut (after r i m.state) end → ⊥) s.same before in
      record {
        sound = s.sound;
        same = same ∙ s.same;
        from_fits = s.from_fits;
        end_fits = s.end_fits;
        fits = new_fits;
        begun = (let b = s.begun in let u = up in omega arith);
        not_past = walk_not_past p m.state new.state end n s.fits s.end_fits s.not_past here not_cut;
        tells = subst (λ ss. Tells keeps p ss more later) (sym passed) (tells_more keeps p (states_between p from m.state) a counts s.tells n m.state event path more later
            (subst (λ r. OnlyMoves r n m.state) s.same walk.moves) (walk.tells ∙ ap (λ r. last_event r n m.state) s.same) (q ∙ ap (λ t. t.path) (sym here.ends)) counted w);
        fitting = room_left p m.state counts later room n counted within s.fitting;
        left_is = subst (IsLeft most rest) (sym steps_on) (subst (λ o. IsLeft most o (n + steps_between p from m.state)) (sym less) (left_more most left (steps_between p from m.state) n s.left_is fitting));
      }

  pub searches_nearer : 0 < n → rank p done - rank p new.state < rank p done - rank p m.state
  searches_nearer some =
      let rises = rises_between p n m.state s.fits here.goes_on 0 n some (le_refl n) in
      let top = done_last p new.state new_fits in
      let same_rank = ap (rank p) here.ends in omega arith

  -- *the last walk, which took no step*

  module _ (none : n ≡ 0) where
    stays : new.state ≡ m.state
    stays = sym (subst (λ k. ReachesIn p m.state new.state k) none here).ends

    uncounted : later ≡ counts
    uncounted =
        let counted : AreCounted counts later [] = subst (λ k. AreCounted counts later (states m.problem k m.state)) none walk.counted in
        same_number_lists later counts counted.levels (λ level h. let size = counted.levels in let each = counted.each level (omega arith) in let zero : level_count [] level ≡ 0 = refl in omega arith)

    -- the tally with the last counts is that of the stretch
    pub searches_end : (b : Account) → b ≡ record a { entered = b.entered } → AreSums a.entered later b.entered → b ≡ account_of keeps p (states_between p from new.state)
    searches_end b others sums =
        tells_whole keeps p (states_between p from m.state) a counts s.tells b others (subst (λ l. AreSums a.entered l b.entered) uncounted sums)
        ∙ ap (λ t. account_of keeps p (states_between p from t)) (sym stays)

    -- and the machine stands where the stretch stops
    pub searches_stop : 0 < room → ((room ≡ 0) ⊎ (left ≡ Some 0)) ⊎ (IsAtCut new.state end ⊎ (new.state.label ≡ Done))
        → new.state ≡ after p (steps_taken most (steps_between p from (end_at end))) from
    searches_stop some stops =
        stays ∙ sym (leads_to p from m.state s.from_fits s.fits s.begun).ends ∙ ap (λ k. after p k from) (as_many stops)
      where
        at_end : new.state ≡ end_at end → steps_between p from m.state ≡ steps_taken most (steps_between p from (end_at end))
        at_end e = taken_whole most left (steps_between p from m.state) s.left_is ∙ ap (λ t. steps_taken most (steps_between p from t)) (sym stays ∙ e)

        ahead : steps_between p from (end_at end) ≡ steps_between p m.state (end_at end) + steps_between p from m.state
        ahead = steps_between_join p from m.state (end_at end) s.from_fits s.fits s.end_fits s.begun s.not_past

        used_up : (room ≡ 0) ⊎ (left ≡ Some 0) → steps_between p from m.state ≡ steps_taken most (steps_between p from (end_at end))
        used_up (inl z) = absurd (omega arith)
        used_up (inr z) = taken_all most left (steps_between p from m.state) (steps_between p from (end_at end)) s.left_is z (let j = ahead in omega arith)

        over : new.state.label ≡ Done → new.state ≡ end_at end
        over d =
            let last : new.state ≡ done = end_is p new.state new_fits d in
            let top = done_last p (end_at end) s.end_fits in
            let low = s.not_past in
            let same : rank p new.state ≡ rank p m.state = ap (rank p) stays in
            let high : rank p new.state ≡ rank p done = ap (rank p) last in
            rank_once p new.state (end_at end) new_fits s.end_fits (omega arith)

        as_many : ((room ≡ 0) ⊎ (left ≡ Some 0)) ⊎ (IsAtCut new.state end ⊎ (new.state.label ≡ Done)) → steps_between p from m.state ≡ steps_taken most (steps_between p from (end_at end))
        as_many (inl z) = used_up z
        as_many (inr (inl c)) = at_end (cut_ends p end new.state c)
        as_many (inr (inr d)) = at_end (over d)

-- the counts go into the tally, and others begin
pub searches_anew : (keeps : Bool) (p : ProblemValue) (from : StateValue) (end : List ℕ) (most : Option ℕ) (m : MachineValue) (a b : Account) (counts zeros : List ℕ) (n room more : ℕ) (left : Option ℕ) → Searches keeps p from end most m a counts room left
    → b ≡ record a { entered = b.entered } → AreSums a.entered counts b.entered → n ≡ length p.names → zeros ≡ replicate (n + 1) 0 → more < 2 ^ 32 → Searches keeps p from end most m b zeros more left
searches_anew keeps p from end most m a b counts zeros n room more left s others sums size z l =
    let whole = tells_whole keeps p (states_between p from m.state) a counts s.tells b others sums in
    let zeros_are : zeros ≡ replicate (length p.names + 1) 0 = z ∙ ap (λ k. replicate (k + 1) 0) size in
    record {
      sound = s.sound;
      same = s.same;
      from_fits = s.from_fits;
      end_fits = s.end_fits;
      fits = s.fits;
      begun = s.begun;
      not_past = s.not_past;
      tells = tells_all keeps p (states_between p from m.state) b zeros whole zeros_are;
      fitting = subst (CountsHaveRoom more) (sym zeros_are) (zeros_room (length p.names + 1) more l);
      left_is = s.left_is;
    }
