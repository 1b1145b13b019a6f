-- What others add.
use Rattle.std.proofs.Common.{◌≡◌, ◌+◌, List, [], ◌∷◌, ◌++◌, length, refl, sym, ap, ◌∙◌, arith, append_assoc, length-append}
use mathlib.Core.Option.{some}
use lib.ListN.{get_elem?}
use Rattle.atomic_table.proofs.Lists.{at_last, at_longer}
use Rattle.nvm_core.specs.block_machine.Words.{Entry}
use Rattle.nvm_shared.specs.Behind.{OpenAreAsks}

pub open_are_asks : OpenAreAsks
open_are_asks h [] open_now = tt
open_are_asks h (e ∷ es) open_now =
    let split : (h ++ e ∷ []) ++ es ≡ h ++ e ∷ es = append_assoc h (e ∷ []) es in
    let longer : length (h ++ e ∷ []) ≡ length h + 1 = length-append h (e ∷ []) in
    let at : get_elem? (h ++ e ∷ es) (length h) ≡ some e =
    ap (λ (l : List Entry). get_elem? l (length h)) (sym split) ∙ at_longer (h ++ e ∷ []) es (length h) e (at_last h e (length h) refl) in (
      open_now (length h) e (omega arith) at,
      open_are_asks (h ++ e ∷ []) es (λ j x low is. open_now j x (omega (arith, low, longer)) (ap (λ (l : List Entry). get_elem? l j) (sym split) ∙ is)),
    )
