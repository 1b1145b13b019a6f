-- Bytes in memory: what a call passes for one, places that are all full, and a struct of a pointer and a length.
use mathlib.Core.Path.{◌≡◌, refl, sym, ◌∙◌}
use mathlib.Core.List.{List, [], ◌∷◌}
use base.Fml.{Fml, feq, fex, fsep}
use denote.Builtin.{u8, usize}
use denote.Exit.{no}
use denote.Param.{arg}
use denote.Param.Laws.{Laws, arg_laws, of_field}
use denote.Param.Shared.{copy_shared}
use denote.RattleType.{RattleType, Valss, flat, owns}
use denote.RawPtr.{Ptr, RawPtr, block_ptr, null_ptr, ptr_val}
use denote.Steps.{nothing}
use denote.Struct.Field.{u8-field}
use denote.Struct.Laws.{u8-laws, u8-copy}
use lib.Dec.{T, lit<}
use mir.Syntax.{w8, w64, ty_int, ty_ptr, tcons, tnil}
use mir.Val.{Val, vint, vstruct, vcons, vnil, of_list, has_tys, WT}
use seplogic.Ra.Ura.{Ura}
use types.Kit.{Goal, Step, step, Item, ‵, ◌$◌, drop, fsplit, fjoin, fpack, feq_i, flt_i}
use types.Logic.{Logic}
use Rattle.core.proofs.slice.Writes.{same_lists}
use Rattle.std.proofs.Common.{ℕ, ◌<◌, ◌^◌, Bool, true, false, arith}
use Rattle.std.proofs.lemmas.List.{get_or-replicate, get_or_default, length-replicate}
use Rattle.std.specs.Mem.Slots.Ownership.{Filled}
use Rattle.std.specs.Prelude.{length, replicate}

abbrev pub u8_laws : Laws u8
u8_laws = of_field u8-field u8-laws refl (copy_shared u8-field u8-copy)

abbrev pub byte : RattleType
byte = arg (ty_int w8) no u8

abbrev pub byte_laws : Laws byte
byte_laws = arg_laws (ty_int w8) no u8 u8_laws refl

-- PLACES
pub all_full : (fs : List Bool) (n : ℕ) → n ≡ length fs → Filled fs 0 n → fs ≡ replicate n true
all_full fs n long full =
    same_lists fs (replicate n true) (sym long ∙ sym (length-replicate n true))
    (λ k d lt. get_or_default fs k d false lt ∙ full k (omega arith) (omega (arith, long, lt)) ∙ sym (get_or-replicate n k true d (omega (arith, long, lt))))

pub full_all : (n : ℕ) → Filled (replicate n true) 0 n
full_all n = λ k low lt. get_or-replicate n k true false lt

-- A POINTER AND A LENGTH
abbrev pub word : Ptr → ℕ → Val
word p n = vstruct (vcons (ptr_val p) (vcons (vint w64 n) vnil))

pub word_typed : (p : Ptr) (n : ℕ) → n < 2 ^ 64 → T (has_tys (tcons ty_ptr (tcons (ty_int w64) tnil)) (vcons (ptr_val p) (vcons (vint w64 n) vnil))) × WT (word p n)
word_typed (block_ptr b o) n fits = (tt, (tt, (record { fits = fits }, tt)))
word_typed null_ptr n fits = (tt, (record { fits = lit< tt }, (record { fits = fits }, tt)))

abbrev fields_within : Ptr → ℕ → List Val → Valss (RawPtr ∷ usize ∷ []) → Fml
fields_within p n vs vss = fsep (feq (List Val) vs (vstruct (of_list (flat (RawPtr ∷ usize ∷ []) vss)) ∷ [])) (owns (RawPtr ∷ usize ∷ []) (p, (n, tt)) vss)

-- what the fields own at a machine value, and beside it the struct
abbrev pub words_own : Ptr → ℕ → List Val → Fml → Fml
words_own p n vs F = fsep (fex (Valss (RawPtr ∷ usize ∷ [])) (fields_within p n vs)) F

module _ {M : Type 1} {𝓤 : Ura M} {𝓛 : Logic 𝓤} {K : Type 0} {Γ : List (Item 𝓤)} {G : Goal 𝓤 𝓛.H} where
  pub wraps : K → (p : Ptr) (n : ℕ) (F : Fml) → n < 2 ^ 64 → Step K 𝓛 (‵ (words_own p n (word p n ∷ []) F) ∷ Γ) G (‵ F ∷ Γ) G
  wraps t p n F fits = step (λ s.
      nothing t $ flt_i t n (2 ^ 64) fits $ feq_i t (List Val) (vint w64 n ∷ []) (vint w64 n ∷ []) refl $ fjoin t $ fjoin t $
      feq_i t (List Val) (ptr_val p ∷ []) (ptr_val p ∷ []) refl $ fjoin t $ feq_i t (List Val) (word p n ∷ []) (word p n ∷ []) refl $ fjoin t $
      fpack t (Valss (RawPtr ∷ usize ∷ [])) (fields_within p n (word p n ∷ [])) (ptr_val p ∷ [], (vint w64 n ∷ [], tt)) $ fjoin t $ s)

  pub unwraps : K → (p : Ptr) (n : ℕ) (vs : List Val) (F : Fml) → Step K 𝓛 (‵ F ∷ Γ) G (‵ (words_own p n vs F) ∷ Γ) G
  unwraps t p n vs F = step (λ s. fsplit t $ drop t $ s)
