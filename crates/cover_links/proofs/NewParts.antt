-- What is owned of the parts of a new row: its start, its two marks, which take no bytes, and the three together.
use mathlib.Core.Path.{refl}
use mathlib.Core.List.{List, [], ◌∷◌}
use seplogic.Ra.Ura.{Ura}
use mir.Val.{Val, vstruct, vcons, vnil}
use base.Logic.{ent, emp, sep}
use types.Logic.{Logic, sem}
use types.Kit.{‵, ◌$◌, ◌∵◌, !, qed, move, fjoin, fpack, feq_i, done}
use denote.RattleType.{RattleType, Valss}
use denote.RawPtr.{Ptr, RawPtr, ptr_val}
use denote.Shadow.{makes_shadow}
use denote.Steps.{nothing}
use denote.Struct.Declared as Declared
use denote.Struct.Owning.{shape}
use denote.Struct.Struct.{Struct, within}
use denote.Struct.Tuple.{Tuple, tuple_type}
use Rattle.cover_links.specs.contracts.raw.Base as beginning
use Rattle.cover_links.specs.contracts.raw.Slots as slots
use Rattle.cover_links.proofs.raw.Base.TheLaws as start

-- a mark's machine value
abbrev pub mark : Val
mark = vstruct (vcons (vstruct vnil) vnil)

-- the one field of the row's owner
abbrev pub Mark : RattleType
Mark = Struct (shape slots.the_type)

abbrev pub three_val : Val → Val → Val → Val
three_val u v w = vstruct (vcons u (vcons v (vcons w vnil)))

module _ {M : Type 1} {𝓤 : Ura M} (𝓛 : Logic 𝓤) where
  pub mark_made : ent 𝓤 (emp 𝓤) (sem 𝓛 ((Mark).own_val (tt, tt) (mark ∷ [])))
  mark_made = makes_shadow 𝓛 ((Mark).own_val (tt, tt) (mark ∷ [])) (λ vss. (tt, ((λ uss. (tt, tt)), tt))) ((vstruct vnil ∷ [], tt), (refl, ((tt, (refl, tt)), tt)))

  pub start_made : (p : Ptr) → ent 𝓤 (emp 𝓤) (sem 𝓛 ((beginning.the_row).own_val (record { ptr = p }) (start.lowered (record { ptr = p }) ∷ [])))
  start_made p =
      qed 𝓛 [] ∵ nothing ! $ feq_i ! (List Val) (ptr_val p ∷ []) (ptr_val p ∷ []) refl $ fjoin ! $
      feq_i ! (List Val) (start.lowered (record { ptr = p }) ∷ []) (start.lowered (record { ptr = p }) ∷ []) refl $ fjoin ! $
      fpack ! (Valss (RawPtr ∷ [])) (within (Declared.shape beginning.the_type) (p, tt) (start.lowered (record { ptr = p }) ∷ [])) (ptr_val p ∷ [], tt) $ done !

  module _ (R S T : RattleType) (x : R.Denot) (y : S.Denot) (z : T.Denot) (u v w : Val) where
    pub three_made : ent 𝓤 (sep 𝓤 (sem 𝓛 (R.own_val x (u ∷ []))) (sep 𝓤 (sem 𝓛 (S.own_val y (v ∷ []))) (sem 𝓛 (T.own_val z (w ∷ [])))))
        (sem 𝓛 ((Tuple (R ∷ S ∷ T ∷ [])).own_val (x, y, z) (three_val u v w ∷ [])))
    three_made =
        qed 𝓛 (‵ (R.own_val x (u ∷ [])) ∷ ‵ (S.own_val y (v ∷ [])) ∷ ‵ (T.own_val z (w ∷ [])) ∷ []) ∵
        nothing ! $ move ! (3 ∷ 0 ∷ []) $ fjoin ! $ move ! (2 ∷ 0 ∷ []) $ fjoin ! $ move ! (1 ∷ 0 ∷ []) $ fjoin ! $
        feq_i ! (List Val) (three_val u v w ∷ []) (three_val u v w ∷ []) refl $ fjoin ! $
        fpack ! (Valss (R ∷ S ∷ T ∷ [])) (within (Declared.shape (tuple_type (R ∷ S ∷ T ∷ []))) (x, (y, (z, tt))) (three_val u v w ∷ [])) (u ∷ [], (v ∷ [], (w ∷ [], tt))) $ done !
