-- Each copy was shown.
use Rattle.nvm_callers.proofs.Common.{Contains, ◌≡◌, ℕ, Bool, true, List, [], ◌∷◌, ◌++◌, Some, refl, sym, ap, ◌∙◌, subst, append_assoc, take-append_seam, TookContent, TookStale, Entry, Pick, Found, Configuration, next_of, after, Step, Look, CanBeStored, CopyIsShown, CopiesAreShown, copies_next, store_content, TookShown, AllTookShown, look_behind, CopiesHaveLooks}
use Rattle.std.specs.Prelude.{take}

module _ (c : Configuration) (steps : List Step) (looks : List Look) (IsStore : (block number : ℕ) → List ℕ → Type 0) (stores : (block number : ℕ) (x : List ℕ) → IsStore block number x → store_content c steps block number ≡ Some x) where
  -- a look in the Pick behind these entries showed what can have been stored by then
  abbrev Made : List Entry → Type 0
  Made before = (block shown : ℕ) → Contains looks (look_behind before block shown) → CanBeStored c steps block shown before

  one : (before : List Entry) (e : Entry) (copies : Bool) → Made before → TookShown looks IsStore before e copies → CopyIsShown c steps looks before e copies
  one before (Pick block kind (TookStale asked got count) ops) copies made took = absurd took
  one before (Pick block kind (TookContent bytes number) ops) true made took = (record { seen = took.0; made = made block number took.0 }, stores block number bytes took.1)
  one before e copies made took = tt

  all : (h before more : List Entry) → h ≡ before ++ more → ((l : Look) → Contains looks l → CanBeStored c steps l.block l.shown (take l.entry h))
      → AllTookShown looks IsStore c before more → CopiesAreShown c steps looks before more
  all h before [] is made took = tt
  all h before (e ∷ es) is made took = (
    one before e (copies_next c (next_of c (after c before)))
        (λ block shown has. subst (λ (l : List Entry). CanBeStored c steps block shown l) (ap (take _) is ∙ take-append_seam before (e ∷ es)) (made (look_behind before block shown) has)) took.0,
    all h (before ++ e ∷ []) es (is ∙ sym (append_assoc before (e ∷ []) es)) made took.1,
  )

pub copies_have_looks : CopiesHaveLooks
copies_have_looks c steps looks IsStore marks ops more stores made took = (tt, all c steps looks IsStore stores (Found marks ops ∷ more) (Found marks ops ∷ []) more refl made took)
