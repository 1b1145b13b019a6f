-- What of the operations of a flash failed, by the bank that they changed.
use Rattle.std.specs.Prelude.{◌==◌, ◌/◌, ◌&&◌, ◌||◌, ℕ, if◌then◌else◌, Bool, true, false, List, [], ◌∷◌}
use Rattle.std.specs.List.{list_any}
use Rattle.nv_base.specs.declared.geometry.Geometry.{Geometry}
use Rattle.nv_base.specs.Geometry.{pages_of_bank, sectors_of_bank}
use Rattle.fls_model.specs.Op.{Op, Program, Erase}
use Rattle.fls_model.specs.declared.flash.FlashAnswer.{FlashAnswer}
use Rattle.fls_model.specs.declared.flash.FlashAnswer.TheVariants.{Failed}
use Rattle.fls_model.specs.Told.{Change}

abbrev pub is_program : Op → Bool
is_program (Program address page) = true
is_program (Erase address n) = false

abbrev pub is_failed : FlashAnswer → Bool
is_failed Failed = true
is_failed answer = false

-- one of these operations failed
abbrev pub has_failed : List Change → Bool
has_failed operations = list_any (λ x. is_failed x.answer) operations

-- a program failed since the last erase, with which a switch begins: it may have closed the active bank
abbrev pub failed_from : Bool → List Change → Bool
failed_from before [] = before
failed_from before (x ∷ xs) = failed_from (is_program x.op && (before || is_failed x.answer)) xs

abbrev pub may_be_closed : List Change → Bool
may_be_closed operations = failed_from false operations

-- OF ONE BANK

-- the bank that an operation changes
abbrev pub bank_of_op : Geometry → (banks : ℕ) → Op → ℕ
bank_of_op g banks (Program address page) = address / g.page / pages_of_bank g banks
bank_of_op g banks (Erase address n) = address / g.sector / sectors_of_bank g banks

-- a program of bank k failed, and none of its sectors was erased since
abbrev pub failed_in : Geometry → (banks k : ℕ) → Bool → List Change → Bool
failed_in g banks k failed [] = failed
failed_in g banks k failed (x ∷ xs) = failed_in g banks k (if bank_of_op g banks x.op == k then is_program x.op && (failed || is_failed x.answer) else failed) xs
