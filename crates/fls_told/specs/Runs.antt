-- What ties a device to its flash, from its making on.
use Rattle.std.specs.Prelude.{◌≡◌, ◌⊎◌, ◌<◌, ◌≤◌, ◌+◌, ℕ, min, false, IsTrue, List, [], length, drop, count_by, Some, None, IfSome}
use Rattle.std.specs.List.{list_all}
use Rattle.nv_base.specs.Count.{last_count, next_count, Rose, WereCounted}
use Rattle.nv_base.specs.Plan.{Planning, listed_anew}
use Rattle.memif.specs.Told.{PartTold}
use Rattle.fls_model.specs.declared.flash.FlashAnswer.{FlashAnswer}
use Rattle.fls_model.specs.declared.flash.FlashAnswer.TheVariants.{Failed}
use Rattle.fls_model.specs.Attach.{IsAttached}
use Rattle.fls_model.specs.Op.{Op, MayLeave}
use Rattle.fls_model.specs.Step.{CountsUnplanned}
use Rattle.fls_model.specs.Told.{Told, TellsFor, bytes_now, changes_in}
use Rattle.promise_device.specs.Bridge.{Bridges, has_failed}
use Rattle.promise_device.specs.FlashRun.{TellsBytes, IsChain, IsCutImage, CountsAll, is_none_done}
use Rattle.promise_device.specs.Image.{attached}
use Rattle.promise_device.specs.Reading.{AttachesSound}
use Rattle.fls_told.specs.Device.{FlashDevice, flash_run, tells_held, flash_told}
use Rattle.fls_told.specs.Clock.{flash_clock, MakesNone, Makes, ToldAlike}

-- a flash counts each cut that no plan asked for
abbrev pub CountsCuts : Told → Told → Type 0
CountsCuts s t = (n : ℕ) → WereCounted n s.planning.unplanned t.planning.unplanned → WereCounted n s.cuts t.cuts

-- so it did from its making on, and counted no fewer before
pub record CountsEachCut (entry flash : Told) : Type 0 where
  pub before : entry.planning.unplanned ≤ entry.cuts
  pub since : CountsUnplanned entry flash

-- of the planned cuts that came those that let nothing be done are counted
abbrev pub CountsWithheld : Planning → Type 0
CountsWithheld p = p.withheld ≡ min (count_by is_none_done p.came) last_count

-- since a moment it is worn out for a number: the image says so now, and only such operations came that may follow
pub record IsWornSince (d : FlashDevice) (n since : ℕ) : Type 0 where
  pub last : IfSome (bytes_now d.flash) (λ image. IsTrue (d.reading.is_last n image))
  pub follow : since < last_count → IsTrue (list_all (λ x. d.reading.may_follow n x.op) (drop since d.operations))

pub record HasRun (d : FlashDevice) : Type 0 where
  pub alike : ToldAlike d
  -- its operations are those of the flash, one after another from the first bytes to the last
  pub chain : (t : TellsBytes (flash_run d)) → IsChain (attached d.reading.geometry t.first) d.operations t.last
  pub changes : IfSome (changes_in d.flash.bytes) (λ changes. changes ≡ d.operations)
  -- what it had room to tell at the entry, but for these
  pub room : (n : ℕ) → IfSome d.entry.bytes (TellsFor (length d.operations + n)) → IfSome d.flash.bytes (TellsFor n)
  -- a sound image stays sound, also in whatever a cut leaves
  pub sound : IsTrue (tells_held d) → IfSome (bytes_now d.flash) (λ image. IsTrue (d.reading.is_sound image))
  pub sound_cut : IsTrue (tells_held d) → (k : ℕ) (image : List ℕ) → IsCutImage (flash_run d) k image → IsTrue (d.reading.is_sound image)
  -- the flash counted each fault that it counts, and each cut without a plan
  pub faults : WereCounted d.faults d.entry.faults d.flash.faults
  pub failed : IsTrue (has_failed d.operations) → Rose d.entry.faults d.flash.faults
  pub more : d.entry.faults ≤ d.flash.faults
  pub cuts : CountsCuts d.entry d.flash
  pub worn : (n since : ℕ) → d.worn n ≡ Some since → IsWornSince d n since
  -- the flash counted each operation, and each planned cut that let nothing be done
  pub counted : CountsAll (flash_run d) []
  pub withheld : d.entry.planning.withheld ≡ 0 → CountsWithheld d.flash.planning
  -- where it asked for no operation the flash counted none, and no cut
  pub none : d.operations ≡ [] → (d.flash.ops ≡ d.entry.ops) × (d.flash.cuts ≡ d.entry.cuts)

-- its part when it was made
abbrev pub part_before : FlashDevice → PartTold
part_before d = record { faults = 0; flash_faults = d.entry.faults; off = d.entry.off; planning = listed_anew d.entry.planning }

-- what it tells of its flash is so, with no cutter between them
abbrev pub RunsBridge : Type 0
RunsBridge = (d : FlashDevice) → HasRun d → Bridges d.reading false (flash_run d) (part_before d) (flash_told d) (flash_clock d)

-- WHAT KEEPS IT
-- a device that was made: its flash is attached, and it asked for no operation
pub record IsMade (d : FlashDevice) : Type 0 where
  pub attaches : IsAttached d.reading.geometry d.entry d.flash
  pub operations : d.operations ≡ []
  pub faults : d.faults ≡ 0
  pub worn : (n : ℕ) → d.worn n ≡ None

abbrev pub RunsBegin : Type 0
RunsBegin = (d : FlashDevice) → IsMade d → AttachesSound d.reading → CountsCuts d.entry d.flash → HasRun d

-- without an operation: the bytes and the counts stay, but for those of faults, which rise alike
pub record KeepsRun (d t : FlashDevice) : Type 0 where
  pub none : MakesNone d t
  pub bytes : t.flash.bytes ≡ d.flash.bytes
  pub counts : (t.flash.ops ≡ d.flash.ops) × (t.flash.cuts ≡ d.flash.cuts)
  pub came : (t.flash.planning.came ≡ d.flash.planning.came) × (t.flash.planning.withheld ≡ d.flash.planning.withheld)
  pub flash_faults : d.flash.faults ≤ t.flash.faults
  pub faults : WereCounted t.faults t.entry.faults t.flash.faults
  pub cuts : CountsCuts t.entry t.flash
  pub worn : (n since : ℕ) → t.worn n ≡ Some since → (d.worn n ≡ Some since) ⊎ IsWornSince t n since

abbrev pub RunsStay : Type 0
RunsStay = (d t : FlashDevice) → HasRun d → KeepsRun d t → HasRun t

-- by an operation that leaves sound bytes, also cut; one that failed is counted
abbrev pub counts_fault : FlashAnswer → ℕ → ℕ
counts_fault Failed faults = next_count faults
counts_fault answer faults = faults

abbrev pub LeavesSound : Op → FlashDevice → Type 0
LeavesSound op d =
    IsTrue (tells_held d) → IfSome (bytes_now d.flash) (λ bytes. (image : List ℕ) → MayLeave op bytes image → IsTrue (d.reading.is_sound image))

-- a device that is worn out for a number asks for such operations alone that may follow, and its image still says so
abbrev pub KeepsWorn : Op → FlashDevice → FlashDevice → Type 0
KeepsWorn op d t = (n since : ℕ) → d.worn n ≡ Some since → IsTrue (d.reading.may_follow n op) × IfSome (bytes_now t.flash) (λ image. IsTrue (d.reading.is_last n image))

abbrev pub RunsGoOn : Type 0
RunsGoOn =
    (op : Op) (answer : FlashAnswer) (d t : FlashDevice) → HasRun d → Makes op answer d t → t.faults ≡ counts_fault answer d.faults
    → CountsCuts t.entry t.flash → LeavesSound op d → KeepsWorn op d t → HasRun t
