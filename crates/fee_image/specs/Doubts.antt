-- What may be found, computed from the bytes, the places and the open job: nothing of it is kept.
use Rattle.std.specs.Prelude.{ℕ, List}
use Rattle.nv_base.specs.declared.instance.DeviceNumber.{DeviceNumber}
use Rattle.fee_image.specs.Found.{shown_in}
use Rattle.nv_base.specs.Held.{Held, never_written}
use Rattle.fee_image.specs.Image.{Layout, bank_in}
use Rattle.fee_image.specs.LogLaws.{HasWork}
use Rattle.fee_image.specs.May.{May, IsAmong, IsWider, beside}
use Rattle.fee_image.specs.Places.{ArePlaced}
use Rattle.fee_image.specs.Banks.{Old, NoBank, OldBank, Phase, Sealing, Banks, Holds}

-- what the old bank shows now, whether or not another bank stands before it
abbrev pub shown_of : Layout → List ℕ → Old → ℕ → ℕ → Held
shown_of l bytes NoBank number length = never_written
shown_of l bytes (OldBank k h log) number length = shown_in (bank_in l h.format k) bytes number length

-- that, or what may be found anyway: a settled mark, the open job's
abbrev pub doubting_banks : Layout → List ℕ → Old → May → May
doubting_banks l bytes old more number length = beside (shown_of l bytes old number length) (more number length)

-- those have what each place shows, and the mark of the record in work
abbrev pub HasMarks : Layout → List (DeviceNumber × ℕ) → List ℕ → Old → May → Type 0
HasMarks l numbers bytes NoBank more = Unit {0}
HasMarks l numbers bytes (OldBank k h log) more = ArePlaced (bank_in l h.format k) bytes more log.end numbers log.places × HasWork more log.tail

-- and the copies of a target that is sealed
abbrev pub HasCopies : Phase → May → May → Type 0
HasCopies (Sealing log) copied more = IsWider copied more
HasCopies _ copied more = Unit {0}

-- whatever was known of what may be found, this is enough
abbrev pub BanksTighten : Type 0
BanksTighten =
    (l : Layout) (numbers : List (DeviceNumber × ℕ)) (bytes : List ℕ) (s : Banks) (more : May)
    → Holds l numbers bytes s → HasMarks l numbers bytes s.old more → HasCopies s.phase s.copied more
    → Holds l numbers bytes (record s { may = doubting_banks l bytes s.old more })

-- what the old bank shows could be found before: after a step it is the settled mark, or a doubt that was
abbrev pub OldBanksShow : Type 0
OldBanksShow =
    (l : Layout) (numbers : List (DeviceNumber × ℕ)) (bytes : List ℕ) (s : Banks)
    → Holds l numbers bytes s → (number length : ℕ) → IsAmong (s.may number length) (shown_of l bytes s.old number length)
