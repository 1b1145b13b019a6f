-- What a device over banks tells of its numbers, computed from its memory and the bytes of its flash.
use Rattle.std.specs.Prelude.{◌≡◌, ◌==◌, ◌&&◌, if◌then◌else◌, nat_eq, ℕ, Bool, true, false, List, [], ◌∷◌, map, Option, Some, None}
use Rattle.std.specs.Cmp.Lexicographic.{pointwise}
use Rattle.nv_base.specs.declared.instance.DeviceNumber.{DeviceNumber}
use Rattle.nv_base.specs.declared.mark.Mark.{Mark}
use Rattle.nv_base.specs.declared.mark.Mark.TheVariants.{Content, Invalid, Erased}
use Rattle.memif.specs.Told.{Held, more_writes, held_next, never_written, Slot, Stand, Open, Ended, at_number, slot_at, length_of}
use Rattle.fee_image.specs.Bank.{Bank}
use Rattle.fee_image.specs.Image.{Layout, bank_in, found_held}
use Rattle.fee_image.specs.declared.place.Place.{Place}
use Rattle.fee_image.specs.declared.place.Place.TheVariants.{Unwritten}
use Rattle.fee_image.specs.Log.{Tail, Writes}
use Rattle.fee_image.specs.May.{May, IsAmong, held_written}
use Rattle.fee_image.specs.Places.{count_at, held_at}
use Rattle.fee_image.specs.Banks.{Old, NoBank, OldBank, Phase, Sealing, Banks}
use Rattle.fee_image.specs.Doubts.{shown_of}
use Rattle.promise_device.specs.Image.{held_as}

-- IN MEMORY
-- the banks without what may be found of them, and where the jobs stand
pub record Memory : Type 0 where
  pub old : Old
  pub target : ℕ
  pub phase : Phase
  pub stand : Stand

abbrev pub banks_with : Memory → May → May → Banks
banks_with m may copied = record { old = m.old; target = m.target; phase = m.phase; may = may; copied = copied }

-- how often a number was written, by its place
abbrev pub writes_of : List (DeviceNumber × ℕ) → List Place → ℕ → ℕ
writes_of numbers places n = count_at (at_number Unwritten numbers places n)

abbrev pub writes_in : List (DeviceNumber × ℕ) → Old → ℕ → ℕ
writes_in numbers NoBank n = 0
writes_in numbers (OldBank k h log) n = writes_of numbers log.places n

-- a record in work is that of the open job, and counts one more than its number has
abbrev pub IsWorkOf : List (DeviceNumber × ℕ) → List Place → Stand → Tail → Type 0
IsWorkOf numbers places (Open j) (Writes h body done) =
    (j.number ≡ h.number.0) × (j.mark ≡ Some (held_written h body).mark) × (h.count ≡ more_writes 1 (writes_of numbers places h.number.0))
IsWorkOf numbers places (Ended result given) (Writes h body done) = ⊥
IsWorkOf numbers places stand tail = Unit {0}

abbrev pub HasJob : List (DeviceNumber × ℕ) → Stand → Old → Type 0
HasJob numbers stand NoBank = Unit {0}
HasJob numbers stand (OldBank k h log) = IsWorkOf numbers log.places stand log.tail

-- ONE NUMBER
abbrev pub same_mark : Mark → Mark → Bool
same_mark (Content a) (Content b) = pointwise nat_eq a b
same_mark Invalid Invalid = true
same_mark Erased Erased = true
same_mark _ _ = false

abbrev pub same_held : Held → Held → Bool
same_held a b = same_mark a.mark b.mark && (a.count == b.count)

-- what its bank shows now is a doubt where it isn't what is settled, and so is what a job may leave
abbrev pub slot_of : Held → Held → List Held → Slot
slot_of settled shown more = record { settled = settled; doubts = if same_held settled shown then more else shown ∷ more }

-- the mark that a job may leave
abbrev pub left_by : Option Mark → List Mark
left_by None = []
left_by (Some m) = m ∷ []

-- these marks, each counted one more than what is settled
abbrev pub left_on : Held → List Mark → List Held
left_on settled marks = map (λ m. held_next m settled) marks

-- the open one, for its number
abbrev pub job_leaves : Stand → ℕ → List Mark
job_leaves (Open j) n = if j.number == n then left_by j.mark else []
job_leaves (Ended result given) n = []

-- ALL NUMBERS
-- with these settled marks, with what the bank shows of each, and with what a job may leave
abbrev pub slots_with : (ℕ → ℕ → Held) → (ℕ → List Mark) → List (DeviceNumber × ℕ) → List Held → List Slot
slots_with shown more (n ∷ ns) (m ∷ ms) = slot_of m (shown n.0.0 n.1) (left_on m (more n.0.0)) ∷ slots_with shown more ns ms
slots_with shown more _ _ = []

-- what the places show
abbrev pub held_all : Bank → List ℕ → List (DeviceNumber × ℕ) → List Place → List Held
held_all b bytes (n ∷ ns) (place ∷ places) = held_at b bytes n.1 place ∷ held_all b bytes ns places
held_all b bytes _ _ = []

-- what is settled: what the old bank's places show, nothing without one
abbrev pub settled_in : Layout → List (DeviceNumber × ℕ) → List ℕ → Old → List Held
settled_in l numbers bytes NoBank = map (λ n. never_written) numbers
settled_in l numbers bytes (OldBank k h log) = held_all (bank_in l h.format k) bytes numbers log.places

abbrev pub settled_at : Layout → List (DeviceNumber × ℕ) → List ℕ → Old → ℕ → Held
settled_at l numbers bytes old n = at_number never_written numbers (settled_in l numbers bytes old) n

-- while a device is started
abbrev pub slots_held : Layout → List (DeviceNumber × ℕ) → List ℕ → Memory → List Slot
slots_held l numbers bytes m = slots_with (shown_of l bytes m.old) (job_leaves m.stand) numbers (settled_in l numbers bytes m.old)

-- before, and once it was started: what a start-up finds, and no doubt
abbrev pub slots_found : Layout → List (DeviceNumber × ℕ) → List ℕ → List Slot
slots_found l numbers bytes = slots_with (found_held l bytes) (λ n. []) numbers (map (λ n. found_held l bytes n.0.0 n.1) numbers)

-- what a start-up finds in an image
abbrev pub held_of : Layout → List (DeviceNumber × ℕ) → List ℕ → ℕ → Held
held_of l numbers image n = held_as l image n (length_of numbers n)

-- WHAT MAY BE FOUND
abbrev pub allowed : Option ℕ → ℕ → Slot → Option (List Held)
allowed None length s = None
allowed (Some n) length s = if n == length then Some (s.settled ∷ s.doubts) else None

-- of each number with its length, the marks that are told
abbrev pub may_of : List (DeviceNumber × ℕ) → List Slot → May
may_of numbers slots number length = allowed (length_of numbers number) length (slot_at numbers slots number)

abbrev pub may_told : Layout → List (DeviceNumber × ℕ) → List ℕ → Memory → May
may_told l numbers bytes m = may_of numbers (slots_held l numbers bytes m)

-- of a target that is sealed nothing but the settled marks is shown
abbrev pub AreCopied : Layout → List (DeviceNumber × ℕ) → List ℕ → Old → May → Type 0
AreCopied l numbers bytes old copied =
    (n length : ℕ) (m : Held) → length_of numbers n ≡ Some length → IsAmong (copied n length) m → m ≡ settled_at l numbers bytes old n

abbrev pub IsCopied : Layout → List (DeviceNumber × ℕ) → List ℕ → Phase → Old → May → Type 0
IsCopied l numbers bytes (Sealing log) old copied = AreCopied l numbers bytes old copied
IsCopied l numbers bytes _ old copied = Unit {0}
