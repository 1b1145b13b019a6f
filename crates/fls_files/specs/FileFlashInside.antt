-- The file of a flash, and its fields.
use Rattle.std.specs.Prelude.{◌≡◌, ◌⊎◌, ◌<◌, ◌+◌, ◌≤◌, ℕ, Bool, true, false, List, [], ◌∷◌, length, map, Option, Some, None}
use Rattle.nv_base.specs.Count.{Rose}
use Rattle.nv_base.specs.declared.geometry.Geometry.{Geometry}
use Rattle.fls_model.specs.Attach.{AreBytesOf, enlarged}
use Rattle.fls_model.specs.Bytes.{spliced}
use Rattle.fls_model.specs.Call.{op_of}
use Rattle.fls_model.specs.Op.{Op, after_op, MayLeave}
use Rattle.fls_model.specs.Told.{Change}
use Rattle.fls_model.specs.declared.call.Call.{Call}
use Rattle.fls_model.specs.declared.flash.FlashAnswer.{FlashAnswer}
use Rattle.fls_model.specs.declared.flash.FlashAnswer.TheVariants.{Done, Failed}
use Rattle.fls_files.specs.ByteFile.{FileBytes, Mixed}
use Rattle.fls_files.specs.FileFlash.{bytes_of}
use Rattle.fls_files.specs.declared.byte_file.OpenFault.{OpenFault}
use Rattle.fls_files.specs.declared.byte_file.OpenFault.TheVariants as fault
use Rattle.fls_model.specs.declared.flash.AttachFault.{AttachFault}
use Rattle.fls_model.specs.declared.flash.AttachFault.TheVariants as attach

-- an operation that was asked for, the bytes before it, and its answer
pub record AskedOf : Type 0 where
  pub call : Call
  pub before : List ℕ
  pub answer : FlashAnswer

-- the bytes of the first of these files
abbrev pub first_now : List (Option FileBytes) → List ℕ
first_now (Some f ∷ fs) = f.now
first_now (None ∷ fs) = []
first_now [] = []

abbrev pub changes_of : Geometry → List AskedOf → List Change
changes_of g asked = map (λ a. record { op = op_of g a.call; before = a.before; answer = a.answer }) asked

-- what reads give is what the disk has, and a file that isn't to be settled isn't lost
abbrev pub IsReady : Bool → FileBytes → Type 0
IsReady lost f = (f.disk ≡ f.now) × (lost ≡ false → f.lost ≡ false)

-- a file is settled, or is to be settled yet; its bytes are the same
pub record Finds (lost lost_new : Bool) (old new : FileBytes) : Type 0 where
  pub known : (lost ≡ false → old.lost ≡ false) → lost_new ≡ false → new.lost ≡ false
  pub same : old.disk ≡ old.now → (new.disk ≡ new.now) × (new.now ≡ old.now)

-- bytes within a file that isn't lost are written and synced, where that was done; else any part of them may be there, and on the
-- disk any part
pub record IsWritten (address : ℕ) (bytes : List ℕ) (ok : Bool) (old new : FileBytes) : Type 0 where
  pub done : ok ≡ true → old.lost ≡ false → address + length bytes ≤ length old.now → (new.now ≡ spliced old.now address bytes) × (new.disk ≡ new.now) × (new.lost ≡ false)
  pub some : old.lost ≡ false → old.disk ≡ old.now → address + length bytes ≤ length old.now
      → Mixed old.now (spliced old.now address bytes) new.now × Mixed old.now (spliced old.now address bytes) new.disk

-- bytes within the file are on the disk, where that was done; else any part of them is, and reads give what is there
pub record HasStored (address : ℕ) (bytes : List ℕ) (ok lost_new : Bool) (old new : FileBytes) : Type 0 where
  pub now : Mixed old.now (spliced old.now address bytes) new.now
  pub done : ok ≡ true → new.now ≡ spliced old.now address bytes
  pub ready : IsReady lost_new new

abbrev pub Stores : ℕ → List ℕ → Bool → (lost lost_new : Bool) → FileBytes → FileBytes → Type 0
Stores address bytes ok lost lost_new old new = IsReady lost old → address + length bytes ≤ length old.now → HasStored address bytes ok lost_new old new

-- an operation within the file
pub record HasOperated (op : Op) (ok lost_new : Bool) (old new : FileBytes) : Type 0 where
  pub within : MayLeave op old.now new.now
  pub done : ok ≡ true → new.now ≡ after_op op old.now
  pub ready : IsReady lost_new new

abbrev pub Operates : Op → Bool → (lost lost_new : Bool) → FileBytes → FileBytes → Type 0
Operates op ok lost lost_new old new = IsReady lost old → HasOperated op ok lost_new old new

-- the answer to an operation, with a fault counted where it wasn't done
pub record Answers (ok : Bool) (faults faults_new : ℕ) (answer : FlashAnswer) : Type 0 where
  pub done : ok ≡ true → (answer ≡ Done) × (faults_new ≡ faults)
  pub failed : ok ≡ false → (answer ≡ Failed) × Rose faults faults_new

-- it has as many bytes as a flash of so many, and they are on the disk; where that failed it had none, and the flash has none yet
pub record Fills (size : ℕ) (torn torn_new ok lost lost_new : Bool) (old new : FileBytes) : Type 0 where
  pub failed : ok ≡ false → (bytes_of torn old ≡ []) × (torn_new ≡ true)
  pub whole : ok ≡ true → torn_new ≡ false
  pub done : ok ≡ true → IsReady lost old → (new.now ≡ enlarged size (bytes_of torn old)) × (new.disk ≡ new.now)
  pub known : (lost ≡ false → old.lost ≡ false) → lost_new ≡ false → new.lost ≡ false

-- no geometry until it is attached; then the bytes fill it
abbrev pub IsShaped : Geometry → Bool → FileBytes → Type 0
IsShaped g torn f = ((g.page ≡ 0) × (g.sectors ≡ 0)) ⊎ ((torn ≡ false) × (0 < length f.now) × AreBytesOf g f.now)

-- what reads give is what the disk has, but of an enlargement that was broken off
pub record IsHeld (g : Geometry) (torn lost : Bool) (f : FileBytes) : Type 0 where
  pub shape : IsShaped g torn f
  pub still : (torn ≡ true) ⊎ (f.disk ≡ f.now)
  pub known : lost ≡ false → f.lost ≡ false

-- why a flash isn't attached whose file isn't opened
abbrev pub fault_of : OpenFault → AttachFault
fault_of fault.InUse = attach.InUse
fault_of fault.Failed = attach.Failed
