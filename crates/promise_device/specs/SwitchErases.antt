-- How often switches erase the first sector of a bank.
use Rattle.std.specs.Prelude.{◌≡◌, ◌⊎◌, ◌<◌, ◌≤◌, ◌+◌, ◌*◌, ◌==◌, ◌&&◌, ◌||◌, not, if◌then◌else◌, ℕ, zero, suc, Bool, false, IsTrue, List, [], ◌∷◌, count_by}
use Rattle.nv_base.specs.Count.{last_count}
use Rattle.nv_base.specs.Geometry.{IsLegal, HasBanks, size_of_bank}
use Rattle.memif.specs.Told.{DeviceTold}
use Rattle.fls_model.specs.declared.flash.FlashAnswer.{FlashAnswer}
use Rattle.fls_model.specs.Op.{Op, Program, Erase}
use Rattle.fls_model.specs.Told.{Change}
use Rattle.promise_device.specs.Making.{Making}
use Rattle.promise_device.specs.FlashRun.{IsChain}
use Rattle.promise_device.specs.Traits.{page_in_bank, is_done}
use Rattle.promise_device.specs.Wear.{is_failed, bank_of_op, are_due}
use Rattle.promise_device.specs.Generations.{bank_of_generation, generation_of, IsUnused}

-- THE GENERATIONS OF A BANK

abbrev pub one_if : Bool → ℕ
one_if b = if b then 1 else 0

-- how many generations up to g are bank k's
abbrev pub seals : (banks k g : ℕ) → ℕ
seals banks k zero = 0
seals banks k (suc g) = one_if (k == bank_of_generation banks (suc g)) + seals banks k g

-- two banks differ by one at most
abbrev pub SealsAreEven : Type 0
SealsAreEven = (banks j k g : ℕ) → j < banks → k < banks → seals banks j g ≤ seals banks k g + 1

-- THE ERASES

-- the first sector of bank k is erased
abbrev pub erases_first : Making → (k : ℕ) → Op → Bool
erases_first m k (Program address page) = false
erases_first m k (Erase address n) = address == k * size_of_bank m.geometry m.banks

-- a switch begins, with the first sector of its bank
abbrev pub begins_switch : Making → Op → Bool
begins_switch m op = erases_first m (bank_of_op m.geometry m.banks op) op

-- and ends with the gate, which is the second page of its bank
abbrev pub ends_switch : Making → Op → FlashAnswer → Bool
ends_switch m (Program address page) answer = (page_in_bank m.geometry m.banks address == 1) && is_done answer
ends_switch m (Erase address n) answer = false

-- a switch has begun, since when none ended and nothing failed
abbrev pub has_begun : Making → Bool → List Change → Bool
has_begun m before [] = before
has_begun m before (x ∷ xs) = has_begun m (not (is_failed x.answer) && (begins_switch m x.op || (not (ends_switch m x.op x.answer) && before))) xs

-- how often one that has begun begins once more
abbrev pub begun_again : Making → Bool → List Change → ℕ
begun_again m before [] = 0
begun_again m before (x ∷ xs) = one_if (before && begins_switch m x.op) + begun_again m (has_begun m before (x ∷ [])) xs

-- These are fewer than the start-ups of a device and the faults that it counted, with the operations that failed: each has a start-up
-- before it, or a failure.
abbrev pub RestartsAreFew : Making → List Change → DeviceTold → Type 0
RestartsAreFew m operations now =
    (begun_again m false operations + count_by (λ x. is_failed x.answer) operations + 1 ≤ now.starts + now.first.faults)
    ⊎ ((last_count ≤ now.first.faults) ⊎ (operations ≡ []))

-- So often the first sector of a bank is erased: once for each of its generations and for one that is on its way, once more for each
-- operation that failed, and where a switch that had begun begins again.
abbrev pub FirstErasesAreFew : Type 0
FirstErasesAreFew =
    (m : Making) (operations : List Change) (first last : List ℕ) (k : ℕ)
    → IsLegal m.geometry → HasBanks m.geometry m.banks → IsUnused m first → IsChain first operations last → IsTrue (are_due m [] operations) → k < m.banks
    → count_by (λ x. erases_first m k x.op) operations
    ≤ seals m.banks k (generation_of m last) + 1 + count_by (λ x. is_failed x.answer) operations + begun_again m false operations
