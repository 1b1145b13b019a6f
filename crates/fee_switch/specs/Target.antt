-- The steps of a switch's target that aren't copies, and what they make of the banks.
use Rattle.std.specs.Prelude.{◌≡◌, ◌<◌, ◌+◌, ◌*◌, ◌^◌, ℕ, List}
use Rattle.nv_base.specs.declared.instance.DeviceNumber.{DeviceNumber}
use Rattle.nv_base.specs.Geometry.{IsLegal, HasBanks, sectors_of_bank, pages_of_sector, address_of_page}
use Rattle.fls_model.specs.declared.flash.FlashAnswer.{FlashAnswer}
use Rattle.fls_model.specs.declared.flash.FlashAnswer.TheVariants.{Done, Failed}
use Rattle.fls_model.specs.Op.{Op, MayLeave}
use Rattle.fls_model.specs.Step.{Leaves, programs}
use Rattle.fee_format.specs.Formats.{new_format}
use Rattle.fee_format.specs.declared.bank_head.BankHead.{BankHead}
use Rattle.fee_format.specs.BankHead.{bank_head_page}
use Rattle.fee_format.specs.Pages.{gate_page}
use Rattle.fee_image.specs.Image.{Layout, layout_of}
use Rattle.fee_image.specs.Sound.{IsSoundImage}
use Rattle.fee_image.specs.Log.{Log}
use Rattle.fee_image.specs.May.{IsWider}
use Rattle.fee_image.specs.Banks.{OldBank, Phase, Idle, Erasing, Copying, Sealing, Banks, Holds, ImageShows, next_head}
use Rattle.fee_image.specs.BankLaws.{erase_of}
use Rattle.fee_switch.specs.declared.target.Stage.{Stage}
use Rattle.fee_switch.specs.declared.target.Stage.TheVariants.{Erase, Head, Gate}
use Rattle.fee_switch.specs.declared.target.Target.{Target}

-- WHAT A STEP MAKES
-- a sector is left to erase
abbrev pub IsWorking : ℕ → Stage → Type 0
IsWorking sectors (Erase done) = done < sectors
IsWorking sectors _ = Unit {0}

-- one of the banks that share a flash, with a step left
pub record IsTarget (t : Target) : Type 0 where
  pub legal : IsLegal t.geometry
  pub shared : HasBanks t.geometry t.banks
  pub bank : t.bank < t.banks
  pub working : IsWorking (sectors_of_bank t.geometry t.banks) t.stage

-- the head that the target gets
abbrev pub head_of : Target → BankHead
head_of t = record { format = new_format; generation = t.generation }

abbrev pub op_at : Target → Stage → Op
op_at t (Erase done) = erase_of t.geometry t.banks t.bank done
op_at t Head = programs (address_of_page t.geometry t.banks t.bank 0) (bank_head_page t.geometry.page (head_of t))
op_at t Gate = programs (address_of_page t.geometry t.banks t.bank 1) (gate_page t.geometry.page)

-- the operation of the next step
abbrev pub op_of : Target → Op
op_of t = op_at t t.stage

-- the stage after it, by the flash's answer
abbrev pub stage_after : Stage → FlashAnswer → Stage
stage_after (Erase done) Done = Erase (done + 1)
stage_after Head Done = Gate
stage_after Head Failed = Erase 0
stage_after stage _ = stage

-- WHAT IT MAKES OF THE BANKS
-- the phase that a stage is, with the target's log
abbrev pub phase_of : Target → Stage → Log → Phase
phase_of t (Erase done) log = Erasing (done * pages_of_sector t.geometry)
phase_of t Head log = Copying log
phase_of t Gate log = Sealing log

-- before the head each number is copied, and the generation is the next one
abbrev pub IsReady : Target → Stage → Banks → Type 0
IsReady t Head s = (head_of t ≡ next_head s.old) × (t.generation < 2 ^ 32) × IsWider s.copied s.may
IsReady t _ s = Unit {0}

-- an erase may make another bank stand, but in a sound image
abbrev pub IsSafe : Stage → Layout → List ℕ → Type 0
IsSafe (Erase done) l bytes = IsSoundImage l bytes
IsSafe _ l bytes = Unit {0}

-- the flash's bytes hold banks of which this is the target
pub record HoldsTarget (t : Target) (numbers : List (DeviceNumber × ℕ)) (bytes : List ℕ) (s : Banks) (log : Log) : Type 0 where
  pub banks : Holds (layout_of t.geometry t.banks) numbers bytes s
  pub target : s.target ≡ t.bank
  pub phase : s.phase ≡ phase_of t t.stage log
  pub ready : IsReady t t.stage s
  pub safe : IsSafe t.stage (layout_of t.geometry t.banks) bytes

-- the banks after a step, by the flash's answer; where the target stands, the next switch may have any other one
abbrev pub banks_at : Target → Stage → Banks → Log → ℕ → FlashAnswer → Banks
banks_at t (Erase done) s log next Done = record s { phase = Erasing ((done + 1) * pages_of_sector t.geometry) }
banks_at t Head s log next Done = record s { phase = Sealing log }
banks_at t Head s log next _ = record s { phase = Erasing 0 }
banks_at t Gate s log next Done = record { old = OldBank s.target (next_head s.old) log; target = next; phase = Idle; may = s.copied; copied = s.copied }
banks_at t stage s log next _ = s

abbrev pub banks_after : Target → Banks → Log → ℕ → FlashAnswer → Banks
banks_after t s log next answer = banks_at t t.stage s log next answer

-- whatever a step leaves, done, failed or cut, holds the banks after it
abbrev pub TargetsHold : Type 0
TargetsHold =
    (t : Target) (numbers : List (DeviceNumber × ℕ)) (old new : List ℕ) (s : Banks) (log : Log) (next : ℕ) (answer : FlashAnswer)
    → IsTarget t → HoldsTarget t numbers old s log → next < t.banks → (next ≡ t.bank → ⊥)
    → MayLeave (op_of t) old new → Leaves (op_of t) answer old new
    → Holds (layout_of t.geometry t.banks) numbers new (banks_after t s log next answer)

-- so a start-up on whatever a cut before or within a step leaves finds what may be found, in sound bytes where they were sound
abbrev pub CutsShow : Type 0
CutsShow =
    (t : Target) (numbers : List (DeviceNumber × ℕ)) (old image : List ℕ) (s : Banks) (log : Log)
    → IsTarget t → HoldsTarget t numbers old s log → MayLeave (op_of t) old image
    → let l = layout_of t.geometry t.banks in ImageShows l image s.may × (IsSoundImage l old → IsSoundImage l image)
