-- How often each sector of a flash is erased in a run that keeps its wear.
use Rattle.std.specs.Prelude.{◌<◌, ◌≤◌, ◌==◌, ◌&&◌, ℕ, Bool, false, IsTrue, List, [], count_by}
use Rattle.block_machine.specs.nv_base.Geometry.{sectors_of_bank}
use Rattle.fls_model.specs.Op.{Op, Erase}
use Rattle.fls_model.specs.Told.{Change}
use Rattle.fee_image.specs.Laws.{place_of_sector}
use Rattle.promise_device.specs.Making.{Making}
use Rattle.promise_device.specs.Traits.{is_done}
use Rattle.promise_device.specs.Wear.{are_due}

-- the erases of the sector at an address that were done
abbrev pub erases_at : (address : ℕ) → Op → Bool
erases_at address (Erase a n) = a == address
erases_at address op = false

abbrev pub is_erase_done : (address : ℕ) → Change → Bool
is_erase_done address x = is_done x.answer && erases_at address x.op

abbrev pub erases_done : (address : ℕ) → List Change → ℕ
erases_done address operations = count_by (is_erase_done address) operations

-- where each operation is due, no sector of a bank was erased more often than the first one
abbrev pub FirstSectorsLead : Type 0
FirstSectorsLead =
    (m : Making) (operations : List Change) (k n : ℕ) → 0 < m.geometry.sector → n < sectors_of_bank m.geometry m.banks → IsTrue (are_due m [] operations)
    → erases_done (place_of_sector m.geometry m.banks k n) operations ≤ erases_done (place_of_sector m.geometry m.banks k 0) operations
