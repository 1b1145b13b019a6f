-- Laws of slots, for the layers above.
use Rattle.std.specs.Prelude.{◌≡◌, ◌⊎◌, ◌↔◌, ◌<◌, ◌≤◌, ◌*◌, ℕ, IsTrue, List, length, take, replicate, Some}
use Rattle.std.specs.List.{All}
use Rattle.nv_base.specs.declared.geometry.Geometry.{Geometry}
use Rattle.nv_base.specs.Geometry.{IsLegal, size_of}
use Rattle.fls_model.specs.Bytes.{Grown}
use Rattle.fls_model.specs.Op.{MayLeave, after_op}
use Rattle.fee_format.specs.Pages.{body_pages_of}
use Rattle.ea_image.specs.declared.slot_head.SlotHead.{SlotHead}
use Rattle.ea_image.specs.declared.which.Which.{Which}
use Rattle.ea_image.specs.declared.step.SlotStep.{SlotStep}
use Rattle.ea_image.specs.declared.step.SlotStep.TheVariants.{Gate}
use Rattle.ea_image.specs.SlotHead.{IsLegalSlotHead, IsSlotHead, slot_head_of, slot_head_page, IsSoundSlotHead, is_sound_slot_head}
use Rattle.ea_image.specs.Slots.{SlotBytes, slot_bytes, other, standing, fits_length, found_of, IsSoundSlot, IsSoundImage, is_sound_image}
use Rattle.ea_image.specs.Steps.{step_op, step_next, IsStepOf, StepLeaves, HasCome}
use Rattle.ea_image.specs.declared.memory.SlotMemory.{SlotMemory}
use Rattle.ea_image.specs.Memory.{HoldsSlots, sequence_next, settled_of, doubt_of, memory_loaded, memory_done, memory_failed}

-- WHAT A PAGE IS, COMPUTED
abbrev pub SlotHeadsCompute : Type 0
SlotHeadsCompute = (p : ℕ) (page : List ℕ) (h : SlotHead) → IsSlotHead p page h ↔ (slot_head_of p page ≡ Some h)

abbrev pub SoundSlotHeadsCompute : Type 0
SoundSlotHeadsCompute = (page : List ℕ) → IsTrue (is_sound_slot_head page) ↔ IsSoundSlotHead page

abbrev pub SoundSlotImagesCompute : Type 0
SoundSlotImagesCompute = (g : Geometry) (n : ℕ) (image : List ℕ) → IsTrue (is_sound_image g n image) ↔ IsSoundImage g n image

-- WHAT A TORN ERASE LEAVES
-- of a head the same page, or none
abbrev pub TornSlotHeadsAreSame : Type 0
TornSlotHeadsAreSame = (p : ℕ) (page torn : List ℕ) (h i : SlotHead) → IsSlotHead p page h → Grown page torn → IsSlotHead p torn i → (torn ≡ page) × (i ≡ h)

-- of a page that may stand before an open gate another one
abbrev pub TornSlotHeadsStaySound : Type 0
TornSlotHeadsStaySound = (page torn : List ℕ) → IsSoundSlotHead page → Grown page torn → IsSoundSlotHead torn

-- no slot stands that didn't stand with this head
abbrev pub TornErasesMakeNoSlot : Type 0
TornErasesMakeNoSlot =
    (p size : ℕ) (old new : SlotBytes) (h : SlotHead) → length old.head ≡ p → IsSoundSlot p old → Grown old.head new.head → Grown old.gate new.gate
    → standing p size new ≡ Some h → standing p size old ≡ Some h

-- WHERE A WRITE REACHES
-- the slots of n instances lie in the flash, and a sector has room for the content
pub record IsSlotOf (g : Geometry) (n j : ℕ) (h : SlotHead) (content : List ℕ) : Type 0 where
  pub legal : IsLegal g
  pub room : 4 * n ≤ g.sectors
  pub inside : j < n
  pub head : IsLegalSlotHead h
  pub few : h.length ≤ g.sector
  pub size : length content ≡ h.length

-- a step touches its own slot alone, done, failed or cut
abbrev pub StepsTouchOneSlot : Type 0
StepsTouchOneSlot =
    (g : Geometry) (n j : ℕ) (s : Which) (h : SlotHead) (content : List ℕ) (step : SlotStep) (old new : List ℕ)
    → IsSlotOf g n j h content → IsStepOf (body_pages_of h.length g.page) step → MayLeave (step_op g j s h content step) old new
    → (i : ℕ) (t : Which) → ((i ≡ j) × (t ≡ s) → ⊥) → slot_bytes g new i t ≡ slot_bytes g old i t

-- and of it what it may
abbrev pub StepsLeave : Type 0
StepsLeave =
    (g : Geometry) (n j : ℕ) (s : Which) (h : SlotHead) (content : List ℕ) (step : SlotStep) (old new : List ℕ)
    → IsSlotOf g n j h content → IsStepOf (body_pages_of h.length g.page) step → MayLeave (step_op g j s h content step) old new
    → StepLeaves step (slot_bytes g old j s) (slot_bytes g new j s)

-- done behind those before it, the next one comes
abbrev pub StepsGoOn : Type 0
StepsGoOn =
    (g : Geometry) (n j : ℕ) (s : Which) (h : SlotHead) (content : List ℕ) (step : SlotStep) (old new : List ℕ)
    → IsSlotOf g n j h content → All (λ x. x < 256) content → length old ≡ size_of g
    → let pages = body_pages_of h.length g.page in
    HasCome g.page pages h content step (slot_bytes g old j s) → MayLeave (step_op g j s h content step) old new → new ≡ after_op (step_op g j s h content step) old
    → HasCome g.page pages h content (step_next pages step) (slot_bytes g new j s)

-- and behind the gate the slot stands and has the content
abbrev pub GatesOpen : Type 0
GatesOpen =
    (g : Geometry) (n j size : ℕ) (s : Which) (h : SlotHead) (content : List ℕ) (old new : List ℕ)
    → IsSlotOf g n j h content → IsTrue (fits_length h.kind h.length size) → length old ≡ size_of g
    → HasCome g.page (body_pages_of h.length g.page) h content Gate (slot_bytes g old j s)
    → MayLeave (step_op g j s h content Gate) old new → new ≡ after_op (step_op g j s h content Gate) old
    → (standing g.page size (slot_bytes g new j s) ≡ Some h) × (take h.length (slot_bytes g new j s).body ≡ content)

-- a step that has come touches the pages of its body
abbrev pub StepsAreSteps : Type 0
StepsAreSteps = (p pages : ℕ) (h : SlotHead) (content : List ℕ) (step : SlotStep) (b : SlotBytes) → HasCome p pages h content step b → IsStepOf pages step

-- SOUND IMAGES
-- whatever a step leaves of a sound image is sound
abbrev pub StepsKeepSound : Type 0
StepsKeepSound =
    (g : Geometry) (n j : ℕ) (s : Which) (h : SlotHead) (content : List ℕ) (step : SlotStep) (old new : List ℕ)
    → IsSlotOf g n j h content → HasCome g.page (body_pages_of h.length g.page) h content step (slot_bytes g old j s)
    → MayLeave (step_op g j s h content step) old new → length old ≡ size_of g → IsSoundImage g n old → IsSoundImage g n new

abbrev pub BlankIsSound : Type 0
BlankIsSound = (g : Geometry) (n size : ℕ) → 16 ≤ g.page → IsSoundImage g n (replicate size 255)

-- IN MEMORY
-- what is found is what is settled, or what is in doubt
abbrev pub FoundIsHeld : Type 0
FoundIsHeld =
    (p size : ℕ) (m : SlotMemory) (slots : Which → SlotBytes) → HoldsSlots p size m slots
    → (found_of p size slots ≡ settled_of m slots) ⊎ ((h : SlotHead) × (m.doubt ≡ Some h) × (found_of p size slots ≡ doubt_of m slots))

-- a start-up settles what it finds
abbrev pub LoadedHolds : Type 0
LoadedHolds = (p size : ℕ) (slots : Which → SlotBytes) → let m = memory_loaded p size slots in HoldsSlots p size m slots × (settled_of m slots ≡ found_of p size slots)

-- a write of this head and content has come to a step in its target, of which this is left
pub record IsAtStep (p pages size : ℕ) (h : SlotHead) (content : List ℕ) (step : SlotStep) (m : SlotMemory) (old new : Which → SlotBytes) : Type 0 where
  pub holds : HoldsSlots p size m old
  pub page : 16 ≤ p
  pub head : IsSlotHead p (slot_head_page p h) h
  pub next : h.sequence ≡ sequence_next m.settled
  pub sound : IsSoundSlot p (old m.target)
  pub whole : length (old m.target).head ≡ p
  pub come : HasCome p pages h content step (old m.target)
  pub leaves : StepLeaves step (old m.target) (new m.target)
  pub beside : new (other m.target) ≡ old (other m.target)

-- failed or cut, the slots hold what is in memory behind it
abbrev pub FailedStepsHold : Type 0
FailedStepsHold =
    (p pages size : ℕ) (h : SlotHead) (content : List ℕ) (step : SlotStep) (m : SlotMemory) (old new : Which → SlotBytes)
    → IsAtStep p pages size h content step m old new → HoldsSlots p size (memory_failed step h m) new

-- and done
abbrev pub DoneStepsHold : Type 0
DoneStepsHold =
    (p pages size : ℕ) (h : SlotHead) (content : List ℕ) (step : SlotStep) (m : SlotMemory) (old new : Which → SlotBytes)
    → IsAtStep p pages size h content step m old new → HasCome p pages h content (step_next pages step) (new m.target)
    → (step ≡ Gate → standing p size (new m.target) ≡ Some h) → HoldsSlots p size (memory_done step h m) new
