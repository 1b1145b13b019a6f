-- A stack over a flash and an EEPROM, from its making on.
use Rattle.std.specs.Prelude.{◌≡◌, ◌≢◌, ◌==◌, ℕ, List, None, IfSome, if◌then◌else◌}
use Rattle.nvm_core.specs.block_config.Config.{Configuration}
use Rattle.nvm_core.specs.block_config.Lengths.{lengths_of}
use Rattle.memif_fee_ea.specs.fee_core.fls_model.declared.flash.AttachFault.{AttachFault}
use Rattle.memif_fee_ea.specs.fee_core.fls_model.Told.{Told, Change}
use Rattle.fls_devices.specs.Cutter.{cutting, told_cutting}
use Rattle.memif_fee_ea.specs.fee_core.memif.Told.{DeviceTold, faults_of}
use Rattle.memif_fee_ea.specs.fee_core.promise_device.Making as flash
use Rattle.memif_fee_ea.specs.fee_core.fee_told.Device as fee
use Rattle.memif_fee_ea.specs.fee_core.fee_laws.Made.{part_at}
use Rattle.memif_fee_ea.specs.ea_slots.ea_told.Making as eeprom
use Rattle.memif_fee_ea.specs.ea_slots.ea_told.Reading.{reading_of}
use Rattle.memif_fee_ea.specs.ea_slots.Whole as ea
use Rattle.memif_fee_ea.specs.memif_pair.Both.{BothState, IsBoth, told_as}
use Rattle.memif_fee_ea.specs.Made.{AreParts, IsMadeOf}
use Rattle.memif_fee_ea.specs.declared.making.PairAttachFault.{PairAttachFault}
use Rattle.memif_fee_ea.specs.declared.making.PairPart.{PairPart}
use Rattle.memif_fee_ea.specs.declared.making.PairPart.TheVariants as part
use Rattle.nvm_core.specs.Stack.{StackState}
use Rattle.nvm_flash.specs.declared.device.MakeFault.TheVariants.{WrongSize, Flash}
use Rattle.nvm_flash.specs.declared.pair.PairCuts.{PairCuts}
use Rattle.nvm_flash.specs.declared.pair.PairFault.{PairFault}
use Rattle.nvm_flash.specs.declared.pair.PairFault.TheVariants.{OfFlash, OfEeprom, OneDevice, Memory}
use Rattle.nvm_flash.specs.Made.{IsBackFrom, IsFlashCause, IsPartBack, IsUnstarted, LeavesOne, fault_of}
use Rattle.promise_run.specs.Promise.{making_first}
use Rattle.promise_run.specs.Run.{LeavesAlone}
use Rattle.nvm_flash.specs.PairMaking.{making_second, fixed_of_first}

-- What both devices are made of: this configuration, over a flash and an EEPROM that tell this, with so many power cuts of each that can be
-- planned.
pub record AreOrigins (c : Configuration) (inner other : Told) (cuts : PairCuts) (m : flash.Making) (entry : Told) (n : eeprom.Making) (entry_other : Told) : Type 0 where
  pub made_for : m ≡ making_first c
  pub over : entry ≡ told_cutting (cutting inner cuts.flash)
  pub made_for_other : IfSome c.eeprom (λ g. n ≡ making_second g c)
  pub over_other : entry_other ≡ told_cutting (cutting other cuts.eeprom)

-- WITHOUT A START-UP
-- why it isn't made or started: one of both isn't attached or failed, the configuration has no second device, or want of memory
abbrev pub IsPairCause : Configuration → PairFault → (s t u v : Told) → Type 0
IsPairCause c (OfFlash fault) s t u v = IsFlashCause c.geometry fault s t
IsPairCause c (OfEeprom fault) s t u v = IfSome c.eeprom (λ g. IsFlashCause g fault u v)
IsPairCause c OneDevice s t u v = (t ≡ s) × (v ≡ u)
IsPairCause c Memory s t u v = Unit {0}

-- the configuration is said to have no second device where it names none, and no other reason is given then
abbrev pub NamesOne : Configuration → PairFault → Type 0
NamesOne c OneDevice = c.eeprom ≡ None
NamesOne c _ = c.eeprom ≢ None

-- where one of both has a wrong size the other one is left alone: both sizes were looked at before either was attached
abbrev pub LeavesOther : PairFault → (s t u v : Told) → Type 0
LeavesOther (OfFlash (WrongSize found)) s t u v = LeavesAlone u v
LeavesOther (OfEeprom (WrongSize found)) s t u v = IfSome u.bytes (λ b. LeavesAlone s t)
LeavesOther fault s t u v = Unit {0}

-- both come back as they were, or attached
pub record ComeBack (c : Configuration) (fault : PairFault) (s t u v : Told) : Type 0 where
  pub cause : IsPairCause c fault s t u v
  pub other : LeavesOther fault s t u v
  pub second : NamesOne c fault
  pub flash : LeavesOne c.geometry s t
  pub eeprom : IfSome c.eeprom (λ g. LeavesOne g u v)

-- THE DEVICE IS TAKEN APART
-- What each part told of its flash is so; and which operations were whose says the course.
pub record AreBack (c : Configuration) (inner exit other exit_other : Told) (entry entry_other : Told) (s : BothState fee.Device ea.Device) : Type 0 where
  pub both : IsBoth (fee.told_of s.first) (ea.told_in s.second) s.last s.course
  pub flash : IsBackFrom (making_first c) inner exit (part_at entry) (fee.told_of s.first) (fee.clock_of s.first)
  pub operations : List Change
  pub eeprom : IfSome c.eeprom (λ g. IsPartBack (reading_of (making_second g c)) other exit_other operations (ea.part_at entry_other) (ea.told_in s.second) (ea.clock_in s.second))

-- THE STACK
-- it is made for a history of at most so many entries, with these copies of the application's RAM, and has made no start-up
pub record IsPairStack {C : Type 0} (c : Configuration) (most : ℕ) (m : flash.Making) (entry : Told) (n : eeprom.Making) (entry_other : Told) (copies : C)
    (s : StackState (BothState fee.Device ea.Device) C) : Type 0 where
  pub device : IsMadeOf m entry n s.device
  pub parts : AreParts entry entry_other (told_as fee.told_of ea.told_in s.device)
  pub numbers : (told_as fee.told_of ea.told_in s.device).fixed.numbers ≡ lengths_of c
  pub figures : (fee.told_of s.device.first).fixed ≡ fixed_of_first c
  pub unstarted : IsUnstarted s
  pub config : s.desk.config ≡ c
  pub most_is : s.desk.cap ≡ most
  pub copies_are : s.copies ≡ copies
  pub named : c.eeprom ≢ None

-- why one of both isn't attached
abbrev pub pair_fault_by : PairPart → AttachFault → PairFault
pair_fault_by part.Flash fault = OfFlash (fault_of fault)
pair_fault_by part.Eeprom fault = OfEeprom (fault_of fault)

abbrev pub pair_fault : PairAttachFault → PairFault
pair_fault f = pair_fault_by f.part f.fault

-- the part of which a first start-up failed, by what its first device tells
abbrev pub failed_part : DeviceTold → PairFault
failed_part first = if faults_of first == 0 then OfEeprom Flash else OfFlash Flash
