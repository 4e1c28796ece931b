-- `get`: a walk that shows one of the entries that the row lends.
use Rattle.std.proofs.Common.{◌≡◌, ℕ, ◌+◌, ◌*◌, List, [], ◌∷◌, get_or, refl, sym, ap, ◌∙◌, w64}
use Rattle.std.specs.Prelude.{Option, Some, None}
use Rattle.std.proofs.raw_atomic.Walks.{proved}
use base.Fml.{ftrue, fat, flft}
use base.Logic.{never, id⊢}
use base.Fraction.{full_share}
use contract.Monad.{fact}
use contract.Running.{tables}
use mir.Syntax.{named}
use mir.Val.{Val, vptr}
use types.Kit.{‵, raw, ◌⊛◌, at_ret, ◌$◌, ◌∵◌, !, qed, move, keep, drop, use1, split, join, frame, rewrite, fsplit, fjoin, feq_i, feq_l, flt_l, suffices, done}
use types.Part.{whole, sub}
use types.Run.{stop, fld, of_opd, addr, bin, first, blocks, exec, returns, enter}
use types.ByLocal.{alloc_all, pass_all, free_all, look_at, get, get_in, through, sets, sets_last, take_at, give_at, env}
use denote.Builtin.{RefOf, usize}
use denote.Exit.{yes}
use denote.Opens.{hide, unhide}
use denote.Plain.{uint_vals, uint_Tells}
use denote.RawPtr.{Ptr, in_a_block}
use denote.RattleType.{owns}
use denote.Ref.{ShrRef, shr_vals, shr_Tells}
use denote.Signature.{plain}
use denote.Steps.{nothing, heard}
use denote.Triple.Walked.{Stays, walk_of, says, stay_dropped, Goes-dropped, ends_at}
use Rattle.std.proofs.VecSteps.Shapes.{after}
use Rattle.std_alloc.proofs.RcSteps.{word-Good}
use Rattle.cover_links.specs.declared.entry.TableEntry.{TableEntry}
use Rattle.cover_links.specs.contracts.raw.Slots.{the_row as BlockRow}
use Rattle.cover_links.specs.contracts.raw.Base.{the_row as Start}
use Rattle.cover_links.proofs.raw.Base.TheLaws as start
use Rattle.cover_links.specs.Ownership.{entry_size, slot_lent, row_lent}
use Rattle.cover_links.proofs.SlotRows.{filled_within, place_seen, same_place}
use Rattle.cover_links.specs.contracts.raw.Slots.get as f
use Rattle.cover_links.proofs.raw.Slots.get.Statement.{statement}
use Rattle.cover_links.proofs.raw.Slots.get.Code as code

abbrev stayed : Stays f.ended.signature.params f.ended.kept
stayed = (stay_dropped (RefOf (0 ∷ []) tt (plain (λ _. BlockRow)) (λ _. tt)) yes, (stay_dropped (plain (λ _. Start)) yes, (stay_dropped (plain (λ _. usize)) yes, tt)))

pub get_spec : {M : Type 1} → statement M
get_spec 𝓤 𝓛 𝓜 𝓡 wired =
    let c = f.clauses 𝓛 𝓜.mem 𝓡.returns in let W = walk_of 𝓛 f.ended stayed c in let 𝓣 = tables 𝓤 𝓛.H 𝓜 𝓡 𝓡.env in
    proved 𝓛 f.ended stayed c 𝓜 𝓡
    (Goes-dropped 𝓛 1 (RefOf (0 ∷ []) tt (plain (λ _. BlockRow)) (λ _. tt)) yes (λ κs x w. refl), (Goes-dropped 𝓛 1 (plain (λ _. Start)) yes (λ κs x w. refl), (Goes-dropped 𝓛 1 (plain (λ _. usize)) yes (λ κs x w. refl), tt)))
    f.Key.name code.function (code.unfolded 𝓤 𝓛.H 𝓜 𝓡 wired)
    (λ κs. (shr_vals, ((λ s. start.lowered s ∷ []), (uint_vals w64, tt)))) (λ κs. (shr_Tells (named 0) κs.0 BlockRow, ((start.lowers).val_is, (uint_Tells w64, tt)))) (λ κs qs bounds a _ are.
    let κ = κs.0 in let q = qs.0 in let d = a.0.now in let base = a.1.0 in let n = a.1.1.0 in
    let y : W.Ghost = ((κs, qs, bounds, a, (shr_vals a.0, (start.lowered base ∷ [], (uint_vals w64 n, tt)))), tt) in
    qed 𝓛 (((‵ (flft κ q) ⊛ ‵ ftrue) ⊛ ‵ (owns (ShrRef (named 0) κ BlockRow ∷ Start ∷ usize ∷ []) a (shr_vals a.0, (start.lowered base ∷ [], (uint_vals w64 n, tt))))) ∷ raw (fact 𝓤 ((base.ptr ≡ d.at) × ((i : ℕ) × (n ≡ i * entry_size) × ((e : TableEntry) × (get_or d.slots i None ≡ Some e))))) ∷ []) ∵
    split ! $ split ! $ move ! (3 ∷ []) $ heard ! _ (λ asked. move ! (2 ∷ []) $ fsplit ! $ fsplit ! $ feq_l ! (λ same. keep ! (0 ∷ 2 ∷ []) $
    let i = asked.1.0 in let far = asked.1.1 in let e = asked.1.2.0 in let here = asked.1.2.1 in let within = filled_within d.slots i e here in
    enter ! _ _ _ _ _ $ alloc_all ! (λ l. pass_all ! refl ((tt, tt), (word-Good [] base.ptr, ((tt, record { fits = are.1.1.0.1 }), tt))) $
    unhide ! $ fsplit ! $ drop ! $ in_a_block ! d.at (λ p. row_lent p d.slots κ) (id⊢ 𝓤 (never 𝓤)) (λ b o at. fsplit ! $ flt_l ! (λ small.
    -- [the places; the token; ..]
    take_at ! 2 $ rewrite ! 0 (λ (p : Ptr). ‵ (fat full_share start.mir (l 2) 0 (start.lowered (record { ptr = p })))) (asked.0 ∙ at) refl $ give_at ! 2 $ first ! $ blocks ! $
    sets ! (of_opd ! (get_in ! (fld ! refl (stop !)) (sub ! 0 refl (whole !)))) refl (tt, tt) $
    sets ! (bin ! (get ! refl) (get ! refl) tt) refl (tt, tt) $
    sets ! (of_opd ! (get ! refl)) refl (tt, tt) $
    use1 𝓛 (‵ (slot_lent b (i * entry_size + o) (get_or d.slots i None) κ)) (place_seen 𝓛 b κ o d.slots i within) $
    rewrite ! 0 (λ (k : ℕ × Option TableEntry). ‵ (slot_lent b (k.0 + o) k.1 κ)) (λ v. (sym far v, here v)) refl $ hide ! $
    sets_last ! (addr ! (through ! refl (stop !))) refl (tt, tt) $ exec ! 𝓣.C 𝓣.Λ (env (code.function).locals l) (after 1 (code.function).body) (at_ret _ (W.post y)) $
    sets ! (of_opd ! (get ! refl)) refl (tt, tt) $
    feq_i ! (List Val) (vptr b (n + o) ∷ []) (vptr b (n + o) ∷ []) refl $ fjoin ! $
    returns ! (look_at ! 0 refl) $ free_all ! refl $ keep ! (1 ∷ 0 ∷ []) $
    -- [the token; the reference]
    suffices ! _ (ends_at 𝓛 f.ended stayed c y (vptr b (n + o)) (record { ref_ptr = (b, n + o); now = e }) (tt, (tt, (tt, tt))) (tt, (tt, (tt, tt)))) $ says ! (λ j there. ap (λ k. get_or d.slots k None) (same_place j i (sym there ∙ far)) ∙ here) $
    nothing ! $ move ! (1 ∷ 0 ∷ []) $ join ! $ frame ! $ nothing ! $ nothing ! $ fjoin ! $ nothing ! $ fjoin ! $ nothing ! $ fjoin ! $ done !))))))
