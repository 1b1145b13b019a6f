-- What a device over banks tells of the turns that are left while a switch is open, by the bytes of its flash.
use Rattle.std.specs.Prelude.{◌≡◌, ◌⊎◌, ◌<◌, ◌≤◌, ◌+◌, ◌*◌, ℕ, if◌then◌else◌, Bool, true, false, IsTrue, List, [], ◌∷◌, slice_get, Option, Some, IfSome}
use Rattle.std.specs.Option.{option_map_or}
use Rattle.nv_base.specs.Geometry.{pages_of_sector, sectors_of_bank}
use Rattle.nv_base.specs.declared.instance.DeviceNumber.{DeviceNumber}
use Rattle.memif.specs.Told.{Stand, Open, Ended, DeviceTold}
use Rattle.memif.specs.Calls.{is_read}
use Rattle.fls_model.specs.Told.{Told, Change, bytes_now}
use Rattle.fee_format.specs.BankHead.{bank_head_page}
use Rattle.fee_format.specs.Formats.{new_format}
use Rattle.fee_format.specs.declared.bank_head.BankHead.{BankHead}
use Rattle.fee_image.specs.Banks.{AreBlank}
use Rattle.fee_image.specs.Found.{last_held}
use Rattle.fee_image.specs.Image.{bank_in, image_page, active_of}
use Rattle.fee_image.specs.Places.{places_of}
use Rattle.fee_image.specs.RecordList.{Rec, records_of}
use Rattle.fee_switch_laws.specs.fee_log.Index.{clear_flags}
use Rattle.fee_course.specs.declared.course.Course.{Course}
use Rattle.fee_course.specs.declared.course.Course.TheVariants.{Erase, Gate}
use Rattle.fee_course.specs.Course.{IsUnderWay, turns_left}
use Rattle.promise_device.specs.Making.{Making, banks_of}
use Rattle.promise_device.specs.Bridge.{failed_in, reading_of}
use Rattle.promise_device.specs.Room.{job_pages}
use Rattle.fee_told.specs.fls_told.Device.{is_told_sound}

-- THE ACTIVE BANK
-- its records, and whether a program of it failed since it was erased; none without one
abbrev pub active_records : Making → List ℕ → List Rec
active_records m image = option_map_or (λ x. records_of (bank_in (banks_of m) x.1.format x.0) image) (active_of (banks_of m) image) []

abbrev pub active_failed : Making → List Change → List ℕ → Bool
active_failed m operations image = option_map_or (λ x. failed_in m.geometry m.banks x.0 false operations) (active_of (banks_of m) image) false

-- HOW FAR THE SWITCH HAS COME
-- the target holds what the active bank holds of each number that is copied
abbrev pub AreCopied : (active target : List Rec) → List (DeviceNumber × ℕ) → List Bool → Type 0
AreCopied active target (n ∷ ns) (true ∷ copied) = (last_held n.0.0 n.1 target ≡ last_held n.0.0 n.1 active) × AreCopied active target ns copied
AreCopied active target (n ∷ ns) (false ∷ copied) = AreCopied active target ns copied
AreCopied active target _ _ = Unit {0}

-- So it is, and the switch is under way: of a copy in work a page is left, and head and gate come where no number that has a record in
-- the active bank is left to copy. Or a program of that bank failed.
abbrev pub HasCopied : Making → Bool → ℕ → Course → List Bool → List ℕ → Type 0
HasCopied m failed target course copied image =
    let active = active_records m image in
    IsTrue failed
    ⊎ (AreCopied active (records_of (bank_in (banks_of m) new_format target) image) m.numbers copied
    × IsUnderWay m.geometry.page (sectors_of_bank m.geometry m.banks) m.numbers (places_of m.numbers active) copied course)

-- the head of the next generation behind a bank, or of the first one
abbrev pub head_behind : Option (ℕ × BankHead) → BankHead
head_behind active = record { format = new_format; generation = option_map_or (λ x. x.1.generation) active 0 + 1 }

-- So many sectors of the target are blank, and no number is copied; while it is copied its head and its gate are; then its head stands,
-- or its gate failed and it is the active bank.
abbrev pub HasCome : Making → Bool → ℕ → Course → List Bool → List ℕ → Type 0
HasCome m failed target (Erase done) copied image = AreBlank (banks_of m) image target (done * pages_of_sector m.geometry) × (copied ≡ clear_flags m.numbers)
HasCome m failed target (Gate again) copied image =
    ((image_page (banks_of m) image target 0 ≡ bank_head_page m.geometry.page (head_behind (active_of (banks_of m) image))) × HasCopied m failed target (Gate again) copied image)
    ⊎ ((again ≡ true) × ((head : BankHead) × (active_of (banks_of m) image ≡ Some (target, head))))
HasCome m failed target course copied image = AreBlank (banks_of m) image target 2 × HasCopied m failed target course copied image

-- THE TURNS
-- those of the open job: so many pages of its record, and a gate that may be owed; a read takes one
abbrev pub job_turns : Stand → (pages owed : ℕ) → ℕ
job_turns (Ended result given) pages owed = 0
job_turns (Open j) pages owed = if is_read (Open j) then 1 else pages + owed

-- the number of an urgent job counts as a content without a copy
abbrev pub IsUrgentAt : List (DeviceNumber × ℕ) → Stand → ℕ → Type 0
IsUrgentAt numbers (Open j) i = (j.urgent ≡ true) × ((n : DeviceNumber × ℕ) × (slice_get numbers i ≡ Some n) × (n.0.0 ≡ j.number))
IsUrgentAt numbers (Ended result given) i = ⊥

-- The turns that are left are those of the job and of the switch, which counts each number that has a record in the active bank and
-- isn't copied, unless a program of that bank failed.
pub record TellsSwitch (m : Making) (operations : List Change) (image : List ℕ) (now : DeviceTold) : Type 0 where
  pub target : ℕ
  pub course : Course
  pub copied : List Bool
  pub appended : Option ℕ
  pub pages : ℕ
  pub owed : ℕ
  pub inside : target < m.banks
  pub come : HasCome m (active_failed m operations image) target course copied image
  pub urgent : IfSome appended (IsUrgentAt m.numbers now.stand)
  pub few : pages ≤ job_pages m now.stand
  pub once : owed ≤ 1
  pub left : IsTrue (active_failed m operations image)
      ⊎ (now.left ≡ job_turns now.stand pages owed
      + turns_left m.geometry.page (sectors_of_bank m.geometry m.banks) m.numbers (places_of m.numbers (active_records m image)) copied appended course)

-- so it is while a switch is open and the power is on, from a sound image on, where the flash tells its bytes
abbrev pub TellsSwitchOver : Making → (entry : Told) → List Change → (exit : Told) → DeviceTold → Type 0
TellsSwitchOver m entry operations exit now =
    now.started ≡ true → now.first.off ≡ false → now.switching ≡ true → IsTrue (is_told_sound (reading_of m) (bytes_now entry))
    → IfSome exit.bytes (λ b. TellsSwitch m operations b.now now)
