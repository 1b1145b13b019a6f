-- The operations of a switch.
use Rattle.std.specs.Prelude.{◌≡◌, ◌<◌, ◌≤◌, ◌+◌, ℕ, [], length, take, slice_index_or, Some, None, IsSome}
use Rattle.std.specs.Option.{ForSome}
use Rattle.nv_base.specs.declared.instance.DeviceNumber.{DeviceNumber}
use Rattle.nv_base.specs.Geometry.{address_of_page}
use Rattle.nv_base.specs.Pages.{record_pages_of}
use Rattle.fls_model.specs.declared.flash.FlashAnswer.{FlashAnswer}
use Rattle.fls_model.specs.declared.flash.FlashAnswer.TheVariants.{Done}
use Rattle.fls_model.specs.Told.{Told}
use Rattle.fls_model.specs.Read.{IsRead}
use Rattle.fls_model.specs.Step.{IsStep}
use Rattle.fee_format.specs.declared.rec_head.RecHead.{RecHead}
use Rattle.fee_format.specs.declared.rec_head.RecordKind.TheVariants as kind
use Rattle.fee_image.specs.declared.place.Place.{Place}
use Rattle.fee_image.specs.declared.place.Place.TheVariants.{Content, Invalid, Erased, Unwritten}
use Rattle.fee_image.specs.Places.{IsWithin}
use Rattle.fee_log.specs.Log.{LogState, IsFor, work_in, free_in, begun}
use Rattle.fee_log.specs.Step.{op_of, after_step}
use Rattle.fee_course.specs.declared.copies.Source.{Source}
use Rattle.fee_course.specs.declared.course.Course.{Course}
use Rattle.fee_course.specs.declared.course.Course.TheVariants.{Erase, Copy, Head, Gate}
use Rattle.fee_course.specs.Copies.{next_copy}
use Rattle.fee_switch.specs.declared.target.Stage.TheVariants as stage
use Rattle.fee_switch.specs.Target.{op_at}
use Rattle.fee_switch.specs.Banks.{BanksState, target_at, after_answer}

-- A COPY BEGINS
-- a record begins where a read was done
abbrev pub begun_where : FlashAnswer → LogState → RecHead → LogState
begun_where Done log head = begun log head
begun_where _ log head = log

-- the record that copies what stands at a place, as often written
abbrev pub head_at : Place → DeviceNumber → ℕ → RecHead
head_at (Content at count) number length = record { number = number; kind = kind.Content; length = length; count = count }
head_at (Invalid count) number length = record { number = number; kind = kind.Invalid; length = 0; count = count }
head_at (Erased count) number length = record { number = number; kind = kind.Erased; length = 0; count = count }
head_at Unwritten number length = record { number = number; kind = kind.Erased; length = 0; count = 0 }

-- the copy of a number has its content, and has room
pub record CanBegin (s : BanksState) (number : DeviceNumber) (source : Source) : Type 0 where
  pub within : IsWithin s.geometry.page s.log.end source.length source.place
  pub fits : source.length ≤ length s.buffer
  pub idle : work_in s.copies.tail ≡ None
  pub configured : IsFor s.copies.numbers (head_at source.place number source.length)
  pub room : record_pages_of (head_at source.place number source.length).length s.geometry.page ≤ free_in s.copies

-- a content is read to the front of the buffer, and of a mark the first page is programmed
abbrev pub BeginsAt : Place → BanksState → DeviceNumber → ℕ → Told → FlashAnswer → BanksState → Told → Type 0
BeginsAt (Content at count) s number length told answer t told' =
    IsRead (address_of_page s.geometry s.banks s.log.bank (at + 2)) told (take length s.buffer) answer (take length t.buffer) told'
    × (t ≡ record s { copies = begun_where answer s.copies (head_at (Content at count) number length); buffer = t.buffer })
BeginsAt place s number length told answer t told' =
    let log = begun s.copies (head_at place number length) in
    IsStep (op_of log []) told answer told' × (t ≡ record s { copies = after_step log answer })

-- the number that is copied next, with its number
pub record IsNext (s : BanksState) (source : Source) (number : DeviceNumber) : Type 0 where
  pub first : next_copy s.log.numbers s.log.places s.log.flags ≡ Some source
  pub inside : source.index < length s.log.numbers
  pub named : (d : DeviceNumber × ℕ) → slice_index_or s.log.numbers source.index d ≡ (number, source.length)

pub record CanCopy (s : BanksState) : Type 0 where
  pub source : Source
  pub number : DeviceNumber
  pub next : IsNext s source number
  pub can : CanBegin s number source

pub record BeginsNext (s : BanksState) (told : Told) (answer : FlashAnswer) (t : BanksState) (told' : Told) : Type 0 where
  pub source : Source
  pub number : DeviceNumber
  pub next : IsNext s source number
  pub begins : BeginsAt source.place s number source.length told answer t told'

-- A STEP
-- the copy in work has its content in the buffer
pub record CanCopyOn (s : BanksState) : Type 0 where
  pub work : IsSome (work_in s.copies.tail)
  pub fits : ForSome (work_in s.copies.tail) (λ h. h.length ≤ length s.buffer)

-- the next operation may be made
abbrev pub CanGoOn : BanksState → Course → Type 0
CanGoOn s (Copy None) = CanCopy s
CanGoOn s (Copy (Some w)) = CanCopyOn s
CanGoOn s _ = Unit {0}

-- it is an operation of the target itself, the first one of the next copy, or a page of the copy in work
abbrev pub MakesNext : BanksState → Course → Told → FlashAnswer → BanksState → Told → Type 0
MakesNext s (Erase done) told answer t told' = IsStep (op_at (target_at s (stage.Erase done)) (stage.Erase done)) told answer told' × (t ≡ s)
MakesNext s (Copy None) told answer t told' = BeginsNext s told answer t told'
MakesNext s (Copy (Some w)) told answer t told' =
    ForSome (work_in s.copies.tail) (λ h. IsStep (op_of s.copies (take h.length s.buffer)) told answer told') × (t ≡ record s { copies = after_step s.copies answer })
MakesNext s Head told answer t told' = IsStep (op_at (target_at s stage.Head) stage.Head) told answer told' × (t ≡ s)
MakesNext s (Gate failed) told answer t told' = IsStep (op_at (target_at s stage.Gate) stage.Gate) told answer told' × (t ≡ s)

-- the next operation is made, and then what its answer leaves
pub record IsBankStep (s : BanksState) (course : Course) (told : Told) (answer : FlashAnswer) (t : BanksState) (told' : Told) : Type 0 where
  pub made : BanksState
  pub makes : MakesNext s course told answer made told'
  pub after : t ≡ after_answer made course answer
