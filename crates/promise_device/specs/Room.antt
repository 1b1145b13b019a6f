-- What a device over banks tells of its room and of the turns that are left, by the bytes of its flash.
use Rattle.std.specs.Prelude.{◌≡◌, ◌⊎◌, ◌≤◌, ◌+◌, ◌-◌, ℕ, min, if◌then◌else◌, Bool, true, false, IsTrue, List, [], ◌∷◌, unwrap_or, Option, Some, None, IfSome}
use Rattle.std.specs.Option.{option_map_or}
use Rattle.nv_base.specs.Geometry.{sectors_of_bank}
use Rattle.nv_base.specs.Pages.{record_pages_of}
use Rattle.nv_base.specs.declared.instance.DeviceNumber.{DeviceNumber}
use Rattle.nv_base.specs.declared.mark.Mark.{Mark}
use Rattle.nv_base.specs.declared.mark.Mark.TheVariants.{Content}
use Rattle.memif.specs.Told.{Stand, Open, Ended, DeviceTold, is_open, is_urgent, length_of}
use Rattle.memif.specs.Calls.{is_read}
use Rattle.fls_model.specs.Told.{Told, Change}
use Rattle.fee_format.specs.declared.bank_head.BankHead.{BankHead}
use Rattle.fee_format.specs.declared.rec_head.RecordKind.{RecordKind}
use Rattle.fee_format.specs.declared.rec_head.RecordKind.TheVariants as kind
use Rattle.fee_image.specs.Bank.{Bank}
use Rattle.fee_image.specs.Found.{last_record}
use Rattle.fee_image.specs.Image.{bank_in, active_of}
use Rattle.fee_image.specs.RecordList.{Rec, records_of, end_of}
use Rattle.promise_device.specs.Making.{Making, banks_of}
use Rattle.promise_device.specs.Image.{free_in_bank, is_closed_bank}
use Rattle.promise_device.specs.Bridge.{may_be_closed}

-- THE OPEN JOB
-- the pages of the record of a mark of a number
abbrev pub mark_pages : Making → ℕ → Mark → ℕ
mark_pages m n (Content bytes) = record_pages_of (unwrap_or (length_of m.numbers n) 0) m.geometry.page
mark_pages m n mark = record_pages_of 0 m.geometry.page

-- those of the open job's record, none of a read
abbrev pub job_pages : Making → Stand → ℕ
job_pages m (Open j) = option_map_or (mark_pages m j.number) j.mark 0
job_pages m (Ended result given) = 0

-- the free pages that it needs: an urgent one may take those that are kept
abbrev pub pages_needed : Making → Stand → ℕ
pages_needed m stand = job_pages m stand + (if is_urgent stand then 0 else m.reserve)

-- its turns where it has them: a read takes one
abbrev pub turns_with_room : Making → Stand → ℕ
turns_with_room m (Open j) = option_map_or (mark_pages m j.number) j.mark 1
turns_with_room m (Ended result given) = 0

-- A SWITCH THAT IS DUE
-- the turns of a copy of a record: a content is read before, and each page of a record takes one
abbrev pub copy_turns : ℕ → ℕ → RecordKind → ℕ
copy_turns p length kind.Content = record_pages_of length p + 1
copy_turns p length kind.Invalid = 3
copy_turns p length kind.Erased = 3

-- those of every number that has a record among these: its last one is copied
abbrev pub copies_due : ℕ → List (DeviceNumber × ℕ) → List Rec → ℕ
copies_due p [] records = 0
copies_due p (n ∷ ns) records = option_map_or (λ r. copy_turns p n.1 r.head.kind) (last_record n.0.0 n.1 records) 0 + copies_due p ns records

-- and of the switch: an erase of each sector of its target, the copies, its head and its gate
abbrev pub switch_due : Making → List Rec → ℕ
switch_due m records = sectors_of_bank m.geometry m.banks + copies_due m.geometry.page m.numbers records + 2

-- a header may stand in a closed bank whose gate is owed
abbrev pub gate_due : Bank → List ℕ → ℕ
gate_due b image = if is_closed_bank b image (end_of b image) then 1 else 0

-- THE ACTIVE BANK
-- No more is ready for urgent writes than lies behind the log's end, and no less than is free beside the open job's record;
-- a job that has the free pages that it needs takes no further turns, and one that hasn't those of a switch; unless a program failed
-- that may have closed the bank.
pub record TellsRoom (m : Making) (failed : Bool) (b : Bank) (image : List ℕ) (now : DeviceTold) : Type 0 where
  pub ready_high : now.ready ≤ b.pages - end_of b image
  pub ready_low : IsTrue failed ⊎ (min m.reserve (free_in_bank b image - job_pages m now.stand) ≤ now.ready)
  pub left : pages_needed m now.stand ≤ free_in_bank b image → IsTrue failed ⊎ (now.left ≤ turns_with_room m now.stand)
  pub most : IsTrue failed ⊎ (now.left ≤ turns_with_room m now.stand + gate_due b image + switch_due m (records_of b image))

-- without one nothing is ready, and nothing is copied
abbrev pub TellsRoomOf : Making → Bool → Option (ℕ × BankHead) → List ℕ → DeviceTold → Type 0
TellsRoomOf m failed None image now = (now.ready ≡ 0) × (now.left ≤ turns_with_room m now.stand + switch_due m [])
TellsRoomOf m failed (Some x) image now = TellsRoom m failed (bank_in (banks_of m) x.1.format x.0) image now

-- THE DEVICE
-- With no switch open no turn is left where no job is, and one of a read.
pub record TellsWork (m : Making) (failed : Bool) (image : List ℕ) (now : DeviceTold) : Type 0 where
  pub idle : is_open now.stand ≡ false → now.left ≡ 0
  pub read : is_read now.stand ≡ true → now.left ≡ 1
  pub room : TellsRoomOf m failed (active_of (banks_of m) image) image now

-- so it is while a device is started, its power is on and no switch is open, where its flash tells its bytes
abbrev pub TellsWorkOver : Making → List Change → Told → DeviceTold → Type 0
TellsWorkOver m operations t now =
    now.started ≡ true → now.first.off ≡ false → now.switching ≡ false → IfSome t.bytes (λ b. TellsWork m (may_be_closed operations) b.now now)
