-- A run of a flash: what it tells, and the changing operations that it was asked for.
use Rattle.std.specs.Prelude.{◌≡◌, ◌⊎◌, ◌≤◌, ◌+◌, ℕ, zero, suc, Bool, true, false, List, [], ◌∷◌, length, slice_get, count_by, Option, Some, IfSome}
use Rattle.std.specs.Option.{option_map_or}
use Rattle.nv_base.specs.declared.geometry.Geometry.{Geometry}
use Rattle.nv_base.specs.Count.{last_count}
use Rattle.fls_model.specs.declared.flash.FlashAnswer.{FlashAnswer}
use Rattle.fls_model.specs.declared.flash.FlashAnswer.TheVariants.{Failed, Off}
use Rattle.fls_model.specs.Op.{MayLeave, part_of}
use Rattle.fls_model.specs.Step.{Leaves}
use Rattle.fls_model.specs.Told.{Told, Change, TellsFor, IfBothTold, bytes_now, changes_in}
use Rattle.promise_device.specs.Making.{Making}
use Rattle.promise_device.specs.Image.{attached, IsSoundFlash}

pub record FlashRun : Type 0 where
  -- what it tells at the entry and at the exit
  pub entry : Told
  pub exit : Told
  -- the changing operations that a device asked for, in order, each with the bytes before it and its answer
  pub operations : List Change

-- the bytes once n operations were made, until the next one begins
abbrev pub bytes_after : FlashRun → ℕ → Option (List ℕ)
bytes_after f n = option_map_or (λ x. Some x.before) (slice_get f.operations n) (bytes_now f.exit)

-- an image that a power cut before or within operation k may leave, numbered from 0
abbrev pub IsCutImage : FlashRun → ℕ → List ℕ → Type 0
IsCutImage f k image = (x : Change) × (slice_get f.operations k ≡ Some x) × MayLeave x.op x.before image

-- operation k failed
abbrev pub HasFailed : FlashRun → ℕ → Type 0
HasFailed f k = (x : Change) × (slice_get f.operations k ≡ Some x) × (x.answer ≡ Failed)

-- the power went off in operation k
abbrev pub WentOff : FlashRun → ℕ → Type 0
WentOff f k = (x : Change) × (slice_get f.operations k ≡ Some x) × (x.answer ≡ Off)

-- PREMISES

pub record TellsBytes (f : FlashRun) : Type 0 where
  pub first : List ℕ
  pub entry : bytes_now f.entry ≡ Some first
  pub last : List ℕ
  pub exit : bytes_now f.exit ≡ Some last

pub record TellsOperations (f : FlashRun) : Type 0 where
  pub bytes : TellsBytes f
  pub changes : List Change
  pub told : changes_in f.exit.bytes ≡ Some changes

-- at the entry it told its operations, with room for all of these
pub record HasRoom (f : FlashRun) : Type 0 where
  pub bytes : TellsBytes f
  pub room : IfSome f.entry.bytes (TellsFor (length f.operations))

-- the image at the entry is sound
abbrev pub StartsSound : Making → FlashRun → Type 0
StartsSound m f = IfSome (bytes_now f.entry) (IsSoundFlash m)

-- OPERATIONS AND BYTES

-- each operation finds the bytes that the one before it left, from the first bytes on to the last
abbrev pub IsChain : List ℕ → List Change → List ℕ → Type 0
IsChain first [] last = last ≡ first
IsChain first (x ∷ xs) last = (x.before ≡ first) × ((next : List ℕ) × Leaves x.op x.answer x.before next × IsChain next xs last)

abbrev pub next_bytes : List Change → List ℕ → List ℕ
next_bytes [] last = last
next_bytes (x ∷ xs) last = x.before

-- of an operation of which a planned cut let so many bytes be done the flash saw nothing where they are none, and its bytes stay,
-- else that part; these are the operations that it saw from then on, and those that are left of them behind it
abbrev pub IsSeenOf : ℕ → List ℕ → Change → List Change → List Change → List Change → Type 0
IsSeenOf zero last x xs seen rest = (rest ≡ seen) × (next_bytes xs last ≡ x.before)
IsSeenOf (suc keep) last x xs seen rest = (answer : FlashAnswer) × (seen ≡ record { op = part_of (suc keep) x.op; before = x.before; answer = answer } ∷ rest)

-- a planned cut let the power go off in the operation
pub record IsCutOff (cut : Type 0) (last : List ℕ) (x : Change) (xs : List Change) (cuts cuts' : List ℕ) (seen seen' : List Change) : Type 0 where
  pub off : cut × (x.answer ≡ Off)
  pub keep : ℕ
  pub first : cuts ≡ keep ∷ cuts'
  pub part : IsSeenOf keep last x xs seen seen'

-- The operations from number k on are those that the flash saw, with all that is told of them, but for those that the planned
-- cuts broke off, each of which let so many bytes be done.
abbrev pub AreSeen : (ℕ → Type 0) → ℕ → List ℕ → List Change → (cuts : List ℕ) → (seen : List Change) → Type 0
AreSeen kept k last [] cuts seen = (cuts ≡ []) × (seen ≡ [])
AreSeen kept k last (x ∷ xs) cuts seen =
    ((rest : List Change) × (seen ≡ x ∷ rest) × AreSeen kept (k + 1) last xs cuts rest)
    ⊎ ((cuts' : List ℕ) × (rest : List Change) × IsCutOff (kept k) last x xs cuts cuts' seen rest × AreSeen kept (k + 1) last xs cuts' rest)

abbrev pub is_none_done : ℕ → Bool
is_none_done zero = true
is_none_done (suc keep) = false

-- The flash counted each of the operations, but for those of which a planned cut let nothing be done; a count at its end tells none.
abbrev pub CountsAll : FlashRun → (cuts : List ℕ) → Type 0
CountsAll f cuts = (f.exit.ops + count_by is_none_done cuts ≡ f.entry.ops + length f.operations) ⊎ (last_count ≤ f.entry.ops + length f.operations)

-- The operations are the run's own. `kept` says in which of them a planned cut may have come, `cuts` of each such cut how many
-- bytes it let be done.
pub record AreOperations (g : Geometry) (f : FlashRun) (kept : ℕ → Type 0) (cuts : List ℕ) : Type 0 where
  pub told_alike : IfBothTold f.entry.bytes f.exit.bytes (λ first last. Unit {0})
  pub chain : (t : TellsBytes f) → IsChain (attached g t.first) f.operations t.last
  pub seen : (t : TellsOperations f) → AreSeen kept 0 t.bytes.last f.operations cuts t.changes
  pub counted : CountsAll f cuts
  pub told : HasRoom f → TellsOperations f
