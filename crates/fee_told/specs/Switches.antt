-- What a switch's turns make of what a device tells.
use Rattle.std.specs.Prelude.{◌≡◌, ◌<◌, ◌≤◌, ◌+◌, ◌*◌, ◌^◌, ℕ, List, length}
use Rattle.nv_base.specs.declared.geometry.Geometry.{Geometry}
use Rattle.nv_base.specs.declared.instance.DeviceNumber.{DeviceNumber}
use Rattle.nv_base.specs.Held.{never_written}
use Rattle.nv_base.specs.Geometry.{IsLegal, HasBanks, sectors_of_bank, pages_of_sector}
use Rattle.nv_base.specs.Lengths.{AreLengths}
use Rattle.memif.specs.Told.{Stand}
use Rattle.fls_model.specs.Op.{MayLeave, after_op}
use Rattle.fee_format.specs.BankHead.{bank_head_page}
use Rattle.fee_format.specs.Pages.{gate_page}
use Rattle.fee_image.specs.Image.{Layout, IsLegalLayout, layout_of, image_page}
use Rattle.fee_image.specs.Sound.{IsSoundImage}
use Rattle.fee_image.specs.LogLaws.{erased_log}
use Rattle.fee_image.specs.Log.{Open, Log}
use Rattle.fee_image.specs.May.{May, IsAmong}
use Rattle.fee_image.specs.Step.{IsDue, page_due, bytes_due, log_done, may_done}
use Rattle.fee_image.specs.Banks.{OldBank, Idle, Erasing, Copying, Sealing, generation_of, next_head}
use Rattle.fee_image.specs.BankLaws.{IsOther, program_of, erase_of}
use Rattle.fee_told.specs.Slots.{Memory, HasJob, AreCopied}
use Rattle.fee_told.specs.SlotLaws.{IsHeld, GoesOn}
use Rattle.fee_told.specs.Kept.{IsKept}

-- a device whose bytes hold what it has in memory
pub record Stands (l : Layout) (numbers : List (DeviceNumber × ℕ)) (bytes : List ℕ) (m : Memory) (copied : May) : Type 0 where
  pub lengths : AreLengths 0 numbers
  pub legal : IsLegalLayout l
  pub held : IsHeld l numbers bytes m copied

-- IN MEMORY ALONE
abbrev pub SwitchesBegin : Type 0
SwitchesBegin =
    (l : Layout) (numbers : List (DeviceNumber × ℕ)) (bytes : List ℕ) (m : Memory) (before copied : May) (target : ℕ)
    → Stands l numbers bytes m before → m.phase ≡ Idle → target < l.banks → IsOther m.old target
    → IsKept l numbers bytes bytes m (record m { target = target; phase = Erasing 0 }) copied

-- its sectors are erased
abbrev pub CopiesBegin : Type 0
CopiesBegin =
    (l : Layout) (numbers : List (DeviceNumber × ℕ)) (bytes : List ℕ) (m : Memory) (copied : May) (n : ℕ)
    → Stands l numbers bytes m copied → m.phase ≡ Erasing n → l.pages ≤ n → ((number length : ℕ) → IsAmong (copied number length) never_written)
    → IsKept l numbers bytes bytes m (record m { phase = Copying (erased_log numbers) }) copied

-- AN ERASE
-- of the target's next sector, in a sound image, and whatever is left of it
pub record IsErasing (g : Geometry) (banks : ℕ) (numbers : List (DeviceNumber × ℕ)) (old new : List ℕ) (m : Memory)
    (copied : May) (sector : ℕ) : Type 0 where
  pub shape : IsLegal g
  pub shared : HasBanks g banks
  pub sound : IsSoundImage (layout_of g banks) old
  pub stands : Stands (layout_of g banks) numbers old m copied
  pub phase : m.phase ≡ Erasing (sector * pages_of_sector g)
  pub inside : sector < sectors_of_bank g banks
  pub leaves : MayLeave (erase_of g banks m.target sector) old new

-- it failed, or the power went off; the waiting job ends, or goes on
abbrev pub ErasesFail : Type 0
ErasesFail =
    (g : Geometry) (banks : ℕ) (numbers : List (DeviceNumber × ℕ)) (old new : List ℕ) (m : Memory) (copied : May) (sector : ℕ) (stand : Stand)
    → IsErasing g banks numbers old new m copied sector → GoesOn m.stand stand → HasJob numbers stand m.old
    → IsKept (layout_of g banks) numbers old new m (record m { stand = stand }) copied

abbrev pub ErasesGoOn : Type 0
ErasesGoOn =
    (g : Geometry) (banks : ℕ) (numbers : List (DeviceNumber × ℕ)) (old new : List ℕ) (m : Memory) (copied : May) (sector : ℕ)
    → IsErasing g banks numbers old new m copied sector → new ≡ after_op (erase_of g banks m.target sector) old
    → IsKept (layout_of g banks) numbers old new m (record m { phase = Erasing ((sector + 1) * pages_of_sector g) }) copied

-- A PAGE OF A COPY, AND THE HEAD
-- the target begins again with an erase behind whatever is left of any of its pages but the gate
abbrev pub CopiesFail : Type 0
CopiesFail =
    (l : Layout) (numbers : List (DeviceNumber × ℕ)) (old new page : List ℕ) (m : Memory) (before copied : May) (q : ℕ) (log : Log) (stand : Stand)
    → Stands l numbers old m before → m.phase ≡ Copying log → length page ≡ l.page → q < l.pages → (q ≡ 1 → ⊥)
    → MayLeave (program_of l m.target q page) old new → GoesOn m.stand stand → HasJob numbers stand m.old
    → IsKept l numbers old new m (record m { phase = Erasing 0; stand = stand }) copied

abbrev pub CopiesGoOn : Type 0
CopiesGoOn =
    (l : Layout) (numbers : List (DeviceNumber × ℕ)) (old new : List ℕ) (m : Memory) (copied : May) (log : Log)
    → Stands l numbers old m copied → m.phase ≡ Copying log → IsDue log.tail → length (bytes_due l.page log) ≡ l.page
    → MayLeave (program_of l m.target (page_due log) (bytes_due l.page log)) old new → image_page l new m.target (page_due log) ≡ bytes_due l.page log
    → IsKept l numbers old new m (record m { phase = Copying (log_done l.page numbers log) }) (may_done l.page copied log)

-- the head is done, where each number is copied
abbrev pub HeadsGoOn : Type 0
HeadsGoOn =
    (l : Layout) (numbers : List (DeviceNumber × ℕ)) (old new : List ℕ) (m : Memory) (copied : May) (log : Log)
    → Stands l numbers old m copied → m.phase ≡ Copying log → generation_of m.old + 1 < 2 ^ 32 → AreCopied l numbers old m.old copied
    → let head = bank_head_page l.page (next_head m.old) in
    MayLeave (program_of l m.target 0 head) old new → image_page l new m.target 0 ≡ head
    → IsKept l numbers old new m (record m { phase = Sealing log }) copied

-- THE GATE
-- it failed, or the power went off: it may stand open or not, and is tried again
abbrev pub GatesFail : Type 0
GatesFail =
    (l : Layout) (numbers : List (DeviceNumber × ℕ)) (old new : List ℕ) (m : Memory) (copied : May) (log : Log) (stand : Stand)
    → Stands l numbers old m copied → m.phase ≡ Sealing log → MayLeave (program_of l m.target 1 (gate_page l.page)) old new
    → GoesOn m.stand stand → HasJob numbers stand m.old
    → IsKept l numbers old new m (record m { stand = stand }) copied

-- it is done: the target is the bank that is active, and the next target any other one
abbrev pub GatesEnd : Type 0
GatesEnd =
    (l : Layout) (numbers : List (DeviceNumber × ℕ)) (old new : List ℕ) (m : Memory) (copied : May) (log : Log) (next : ℕ)
    → Stands l numbers old m copied → m.phase ≡ Sealing log → log.tail ≡ Open
    → MayLeave (program_of l m.target 1 (gate_page l.page)) old new → image_page l new m.target 1 ≡ gate_page l.page
    → next < l.banks → (next ≡ m.target → ⊥)
    → IsKept l numbers old new m (record { old = OldBank m.target (next_head m.old) log; target = next; phase = Idle; stand = m.stand }) copied
