-- `put`: a walk that takes one place out of the row, writes the entry into it and puts it back.
use Rattle.std.proofs.Common.{◌≡◌, ℕ, ◌+◌, ◌*◌, ◌^◌, ◌<◌, List, [], ◌∷◌, length, length-set, set, get_or, refl, sym, ap, subst, ◌∙◌, w64}
use Rattle.std.specs.Prelude.{Some, None}
use Rattle.std.proofs.raw_atomic.Walks.{proved}
use base.Fml.{ftrue, fat, froom, flft}
use base.Logic.{never, id⊢}
use base.Fraction.{full_share}
use contract.Monad.{fact}
use contract.Running.{tables}
use mir.Syntax.{named}
use mir.Val.{Val, vunit}
use types.Kit.{‵, raw, ◌⊛◌, at_ret, ◌$◌, ◌∵◌, !, qed, move, keep, use1, use2, split, join, frame, rewrite, fsplit, fsplit3, fjoin, fjoin3, feq_i, feq_l, flt_l, flt_i, suffices, done}
use types.Part.{whole, sub}
use types.Run.{init, stop, fld, unit_lit, of_opd, bin, assigns_last, first, blocks, exec, returns, enter}
use types.ByLocal.{alloc_all, pass_all, free_all, look_at, get, get_in, through, sets, take_at, give_at, env}
use denote.Builtin.{usize}
use denote.Exit.{yes}
use denote.Plain.{uint_vals, uint_Tells}
use denote.RawPtr.{Ptr, in_a_block}
use denote.RattleType.{owns}
use denote.Ref.{MutRef, mut_vals, mut_Tells}
use denote.Signature.{plain}
use denote.Steps.{nothing, heard, opens, closes}
use denote.Struct.Laws as laws
use denote.Triple.Walked.{Stays, walk_of, says, stay_dropped, stay_ref, Goes-dropped, Goes-ref, ends_at}
use borrow.Table.OneValue.{part_in}
use Rattle.std.proofs.VecSteps.Shapes.{after}
use Rattle.std_alloc.proofs.RcSteps.{word-Good}
use Rattle.cover_links.specs.declared.raw.Slots.{Slots}
use Rattle.cover_links.specs.contracts.entry.TableEntry as row
use Rattle.cover_links.proofs.entry.TableEntry.TheLaws as entry
use Rattle.cover_links.specs.contracts.raw.Slots.{the_row as BlockRow}
use Rattle.cover_links.specs.contracts.raw.Base.{the_row as Start}
use Rattle.cover_links.proofs.raw.Base.TheLaws as start
use Rattle.cover_links.specs.Ownership.{entry_type, entry_size, slot_own, slots_own, row_own}
use Rattle.cover_links.proofs.SlotRows.{besides, place_out, place_in, to_room, same_place}
use Rattle.cover_links.specs.contracts.raw.Slots.put as f
use Rattle.cover_links.proofs.raw.Slots.put.Statement.{statement}
use Rattle.cover_links.proofs.raw.Slots.put.Code as code

abbrev stayed : Stays f.ended.signature.params f.ended.kept
stayed = (stay_ref (0 ∷ []) tt (plain (λ _. BlockRow)), (stay_dropped (plain (λ _. Start)) yes, (stay_dropped (plain (λ _. usize)) yes, (stay_dropped (plain (λ _. row.the_row)) yes, tt))))

pub put_spec : {M : Type 1} → statement M
put_spec 𝓤 𝓛 𝓜 𝓡 wired =
    let c = f.clauses 𝓛 𝓜.mem 𝓡.returns in let W = walk_of 𝓛 f.ended stayed c in let 𝓣 = tables 𝓤 𝓛.H 𝓜 𝓡 𝓡.env in
    proved 𝓛 f.ended stayed c 𝓜 𝓡
    (Goes-ref 𝓛 1 0 tt (plain (λ _. BlockRow)), (Goes-dropped 𝓛 1 (plain (λ _. Start)) yes (λ κs x w. refl), (Goes-dropped 𝓛 1 (plain (λ _. usize)) yes (λ κs x w. refl), (Goes-dropped 𝓛 1 (plain (λ _. row.the_row)) yes (λ κs x w. refl), tt))))
    f.Key.name code.function (code.unfolded 𝓤 𝓛.H 𝓜 𝓡 wired)
    (λ κs. (mut_vals, ((λ s. start.lowered s ∷ []), (uint_vals w64, ((λ e. entry.lowered e ∷ []), tt))))) (λ κs. (mut_Tells (named 0) κs.0 BlockRow, ((start.lowers).val_is, (uint_Tells w64, ((entry.lowers).val_is, tt))))) (λ κs qs bounds a _ are.
    let κ = κs.0 in let q = qs.0 in let d = a.0.now in let base = a.1.0 in let n = a.1.1.0 in let e = a.1.1.1.0 in let rb = a.0.ref_ptr.0 in let ro = a.0.ref_ptr.1 in
    let v = entry.lowered e in let vss : List Val × (List Val × (List Val × (List Val × Unit {0}))) = (mut_vals a.0, (start.lowered base ∷ [], (uint_vals w64 n, (v ∷ [], tt)))) in
    let y : W.Ghost = ((κs, qs, bounds, a, vss), tt) in
    let good = ((laws.lawful row.the_type entry.the_laws 𝓛).typed e (v ∷ []) are.1.1.1.0).0 in
    qed 𝓛 (((‵ (flft κ q) ⊛ ‵ ftrue) ⊛ ‵ (owns (MutRef (named 0) κ BlockRow ∷ Start ∷ usize ∷ row.the_row ∷ []) a vss)) ∷ raw (fact 𝓤 ((base.ptr ≡ d.at) × ((i : ℕ) × (n ≡ i * entry_size) × (i < length d.slots)))) ∷ []) ∵
    split ! $ split ! $ move ! (3 ∷ []) $ heard ! _ (λ asked.
    let i = asked.1.0 in let far = asked.1.1 in let within = asked.1.2 in
    let new : Slots = record d { slots = set d.slots i (Some e) } in
    move ! (2 ∷ []) $ fsplit ! $ fsplit3 ! $ feq_l ! (λ same. move ! (2 ∷ []) $ fsplit ! $ move ! (1 ∷ []) $ fsplit ! $ move ! (1 ∷ []) $ fsplit ! $
    keep ! (4 ∷ 5 ∷ 6 ∷ 0 ∷ []) $
    -- [what the borrow is seen at; the borrow; the token; what the entry owns]
    enter ! _ _ _ _ _ $ alloc_all ! (λ l. pass_all ! refl ((tt, tt), (word-Good [] base.ptr, ((tt, record { fits = are.1.1.0.1 }), (good, tt)))) $
    opens ! tt BlockRow {h = d} rb ro (λ us. move ! (1 ∷ []) $ fsplit ! $ move ! (1 ∷ []) $
    in_a_block ! d.at (λ p. row_own p d.slots) (id⊢ 𝓤 (never 𝓤)) (λ b o at. fsplit ! $ flt_l ! (λ small.
    take_at ! 2 $ rewrite ! 0 (λ (p : Ptr). ‵ (fat full_share start.mir (l 2) 0 (start.lowered (record { ptr = p })))) (asked.0 ∙ at) refl $ give_at ! 2 $ first ! $ blocks ! $
    sets ! (of_opd ! (get_in ! (fld ! refl (stop !)) (sub ! 0 refl (whole !)))) refl (tt, tt) $
    sets ! (bin ! (get ! refl) (get ! refl) tt) refl (tt, tt) $
    sets ! (of_opd ! (get ! refl)) refl (tt, tt) $
    use1 𝓛 (‵ (slot_own b (i * entry_size + o) (get_or d.slots i None)) ⊛ ‵ (besides b o d.slots i)) (place_out 𝓛 b o d.slots i within) $ split ! $
    use1 𝓛 (‵ (froom entry_type b (i * entry_size + o))) (to_room 𝓛 b (i * entry_size + o) (get_or d.slots i None)) $
    rewrite ! 0 (λ (k : ℕ). ‵ (froom entry_type b (k + o))) (sym far) refl $
    -- [the room; the other places; ..; the open borrow; ..; what the entry owns]
    assigns_last ! (of_opd ! (get ! refl)) (through ! refl (stop !)) (init ! 0 refl good) $
    exec ! 𝓣.C 𝓣.Λ (env (code.function).locals l) (after 1 (code.function).body) (at_ret _ (W.post y)) $ sets ! (of_opd ! (unit_lit !)) refl (tt, tt) $
    move ! (0 ∷ 7 ∷ []) $ use2 𝓛 (‵ (slot_own b (n + o) (Some e))) (part_in 𝓛 row.the_row refl full_share e b (n + o) v) $
    rewrite ! 0 (λ (k : ℕ). ‵ (slot_own b (k + o) (Some e))) far refl $
    use2 𝓛 (‵ (slots_own b o new.slots)) (place_in 𝓛 b o d.slots i (Some e) within) $
    flt_i ! (length new.slots * entry_size) (2 ^ 63) (subst (λ k. k * entry_size < 2 ^ 63) (sym (length-set d.slots i (Some e))) small) $ fjoin ! $
    rewrite ! 0 (λ (p : Ptr). ‵ (row_own p new.slots)) (sym at) refl $ move ! (1 ∷ 0 ∷ []) $ fjoin ! $ move ! (1 ∷ 0 ∷ []) $ closes ! tt BlockRow new us rb ro $
    returns ! (look_at ! 0 refl) $ free_all ! refl $ keep ! (0 ∷ 1 ∷ 2 ∷ []) $ feq_i ! (List Val) (vunit ∷ []) (vunit ∷ []) refl $ move ! (1 ∷ 2 ∷ 3 ∷ 0 ∷ []) $
    suffices ! _ (ends_at 𝓛 f.ended stayed c y vunit tt (new, (tt, (tt, (tt, tt)))) (tt, (tt, (tt, (tt, tt))))) $ says ! (refl, λ j there. ap (λ k. set d.slots k (Some e)) (same_place i j (sym far ∙ there))) $
    nothing ! $ move ! (3 ∷ 0 ∷ []) $ join ! $ frame ! $ feq_i ! (List Val) (mut_vals a.0) (mut_vals a.0) refl $ fjoin3 ! $ nothing ! $ nothing ! $ fjoin ! $ nothing ! $ fjoin ! $ nothing ! $ fjoin ! $ move ! (1 ∷ 0 ∷ []) $ fjoin ! $ done !)))))))
