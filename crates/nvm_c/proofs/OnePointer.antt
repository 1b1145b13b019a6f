-- A struct of one pointer, beside what it owns: its field tells the pointer's machine value, and owns nothing.
use mathlib.Core.Path.{◌≡◌, refl, subst}
use mathlib.Core.List.{List, [], ◌∷◌, ◌++◌}
use seplogic.Ra.Ura.{Ura}
use lib.Dec.{T, lit<}
use mir.Syntax.{tcons, tnil, ty_ptr}
use mir.Val.{Val, vstruct, vcons, vnil, of_list, has_tys, WT}
use base.Fml.{Fml, feq, fex, fsep}
use types.Logic.{Logic}
use types.Kit.{Goal, Seq, Step, step, Item, ‵, ◌$◌, drop, fsplit, fjoin, fpick, fpack, feq_l, feq_i}
use denote.RattleType.{Valss, flat, owns}
use denote.RawPtr.{Ptr, RawPtr, block_ptr, null_ptr, ptr_val}
use denote.Steps.{nothing}

abbrev pub word : Ptr → Val
word p = vstruct (vcons (ptr_val p) vnil)

pub word_typed : (p : Ptr) → T (has_tys (tcons ty_ptr tnil) (vcons (ptr_val p) vnil)) × WT (word p)
word_typed (block_ptr b o) = (tt, (tt, tt))
word_typed null_ptr = (tt, (record { fits = lit< tt }, tt))

abbrev field_within : Ptr → List Val → Valss (RawPtr ∷ []) → Fml
field_within p vs vss = fsep (feq (List Val) vs (vstruct (of_list (flat (RawPtr ∷ []) vss)) ∷ [])) (owns (RawPtr ∷ []) (p, tt) vss)

-- what the field owns at a machine value, and beside it the struct
abbrev pub pointer_owns : Ptr → List Val → Fml → Fml
pointer_owns p vs F = fsep (fex (Valss (RawPtr ∷ [])) (field_within p vs)) F

module _ {M : Type 1} {𝓤 : Ura M} {𝓛 : Logic 𝓤} {K : Type 0} {Γ : List (Item 𝓤)} {G : Goal 𝓤 𝓛.H} where
  pub wraps : K → (p : Ptr) (F : Fml) → Step K 𝓛 (‵ (pointer_owns p (word p ∷ []) F) ∷ Γ) G (‵ F ∷ Γ) G
  wraps t p F = step (λ s.
      nothing t $ feq_i t (List Val) (ptr_val p ∷ []) (ptr_val p ∷ []) refl $ fjoin t $ feq_i t (List Val) (word p ∷ []) (word p ∷ []) refl $ fjoin t $
      fpack t (Valss (RawPtr ∷ [])) (field_within p (word p ∷ [])) (ptr_val p ∷ [], tt) $ fjoin t $ s)

  pub unwraps : K → (p : Ptr) (vs : List Val) (F : Fml) → Step K 𝓛 (‵ F ∷ Γ) G (‵ (pointer_owns p vs F) ∷ Γ) G
  unwraps t p vs F = step (λ s. fsplit t $ drop t $ s)

  -- and tells the pointer's machine value
  pub tells : K → (p : Ptr) (vs : List Val) (F : Fml) → (vs ≡ word p ∷ [] → Seq K 𝓛 (‵ F ∷ Γ) G) → Seq K 𝓛 (‵ (pointer_owns p vs F) ∷ Γ) G
  tells t p vs F k = fsplit t $ fpick t (λ vss. fsplit t $ feq_l t (λ ev. fsplit t $ feq_l t (λ ep. drop t $ k (subst (λ (ps : List Val). vs ≡ vstruct (of_list (ps ++ [])) ∷ []) ep ev))))
