-- The steps of a write in one slot, and what each leaves of it.
use Rattle.std.specs.Prelude.{◌≡◌, ◌<◌, ◌≤◌, ◌+◌, ◌-◌, ◌*◌, nat_lt, if◌then◌else◌, ℕ, List}
use Rattle.nv_base.specs.declared.geometry.Geometry.{Geometry}
use Rattle.fls_model.specs.Bytes.{Grown}
use Rattle.fls_model.specs.Op.{Op, Program, Erase}
use Rattle.fee_format.specs.Pages.{page_at, blank_page, gate_page}
use Rattle.fee_format.specs.RecordPages.{body_page}
use Rattle.ea_image.specs.declared.slot_head.SlotHead.{SlotHead}
use Rattle.ea_image.specs.declared.which.Which.{Which}
use Rattle.ea_image.specs.declared.step.SlotStep.{SlotStep}
use Rattle.ea_image.specs.declared.step.SlotStep.TheVariants.{EraseHead, EraseBody, Body, Head, Gate}
use Rattle.ea_image.specs.SlotHead.{slot_head_page}
use Rattle.ea_image.specs.Slots.{SlotBytes, head_sector, body_sector, place_of_page}

-- THEIR ORDER
-- page i of a body of so many pages comes next, or the head behind the last one
abbrev pub body_or_head : (pages i : ℕ) → SlotStep
body_or_head pages i = if nat_lt i pages then Body i else Head

abbrev pub step_next : (pages : ℕ) → SlotStep → SlotStep
step_next pages EraseHead = EraseBody
step_next pages EraseBody = body_or_head pages 0
step_next pages (Body i) = body_or_head pages (i + 1)
step_next pages Head = Gate
step_next pages Gate = EraseHead

-- the steps from one on to the end
abbrev pub steps_left : (pages : ℕ) → SlotStep → ℕ
steps_left pages EraseHead = pages + 4
steps_left pages EraseBody = pages + 3
steps_left pages (Body i) = pages - i + 2
steps_left pages Head = 2
steps_left pages Gate = 1

-- a page of the body is one of its pages
abbrev pub IsStepOf : (pages : ℕ) → SlotStep → Type 0
IsStepOf pages (Body i) = i < pages
IsStepOf pages step = Unit {0}

-- THEIR OPERATIONS
abbrev pub erase_of : Geometry → (sector : ℕ) → Op
erase_of g k = Erase (k * g.sector) g.sector

abbrev pub program_of : Geometry → (sector q : ℕ) → (page : List ℕ) → Op
program_of g k q page = Program (place_of_page g k q) page

-- of a write of this content behind this head, to a slot of the j-th instance
abbrev pub step_op : Geometry → (j : ℕ) → Which → SlotHead → (content : List ℕ) → SlotStep → Op
step_op g j s h content EraseHead = erase_of g (head_sector j s)
step_op g j s h content EraseBody = erase_of g (body_sector j s)
step_op g j s h content (Body i) = program_of g (body_sector j s) i (body_page g.page content i)
step_op g j s h content Head = program_of g (head_sector j s) 0 (slot_head_page g.page h)
step_op g j s h content Gate = program_of g (head_sector j s) 1 (gate_page g.page)

-- WHAT THEY LEAVE OF THE SLOT
-- done, failed or cut
abbrev pub StepLeaves : SlotStep → SlotBytes → SlotBytes → Type 0
StepLeaves EraseHead old new = Grown old.head new.head × Grown old.gate new.gate × (new.body ≡ old.body)
StepLeaves EraseBody old new = (new.head ≡ old.head) × (new.gate ≡ old.gate)
StepLeaves (Body i) old new = (new.head ≡ old.head) × (new.gate ≡ old.gate)
StepLeaves Head old new = (new.gate ≡ old.gate) × (new.body ≡ old.body)
StepLeaves Gate old new = (new.head ≡ old.head) × (new.body ≡ old.body)

-- the first i pages of a body hold this content, and those behind them are blank
pub record BodyHolds (p : ℕ) (content : List ℕ) (pages i : ℕ) (body : List ℕ) : Type 0 where
  pub written : (k : ℕ) → k < i → page_at p body k ≡ body_page p content k
  pub blank : (k : ℕ) → i ≤ k → k < pages → page_at p body k ≡ blank_page p

-- once the steps before one are done
abbrev pub HasCome : (page pages : ℕ) → SlotHead → (content : List ℕ) → SlotStep → SlotBytes → Type 0
HasCome p pages h content EraseHead b = Unit {0}
HasCome p pages h content EraseBody b = (b.head ≡ blank_page p) × (b.gate ≡ blank_page p)
HasCome p pages h content (Body i) b = (b.head ≡ blank_page p) × (b.gate ≡ blank_page p) × BodyHolds p content pages i b.body × (i < pages)
HasCome p pages h content Head b = (b.head ≡ blank_page p) × (b.gate ≡ blank_page p) × BodyHolds p content pages pages b.body
HasCome p pages h content Gate b = (b.head ≡ slot_head_page p h) × (b.gate ≡ blank_page p) × BodyHolds p content pages pages b.body
