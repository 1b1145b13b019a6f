-- Logs of the bank of the worked images.
use Rattle.std.specs.Prelude.{ℕ, List, [], ◌∷◌}
use Rattle.nv_base.specs.declared.instance.DeviceNumber.{DeviceNumber}
use Rattle.fee_format.specs.declared.rec_head.RecHead.{RecHead}
use Rattle.fee_format.specs.declared.rec_head.RecordKind.TheVariants as kind
use Rattle.fee_image.specs.Cases.{content_2}
use Rattle.fee_image.specs.declared.place.Place.TheVariants.{Content, Unwritten}
use Rattle.fee_image.specs.Log.{Tail, Open, Writes, Log}

-- the number 128 with 4 bytes, and the number 129 with 7
abbrev pub numbers : List (DeviceNumber × ℕ)
numbers = (record { 0 = 128 }, 4) ∷ (record { 0 = 129 }, 7) ∷ []

-- a content of 4 bytes with number 128
abbrev pub head_128 : RecHead
head_128 = record { number = record { 0 = 128 }; kind = kind.Content; length = 4; count = 2 }

-- after the first write
abbrev pub first_log : Tail → Log
first_log tail = record { end = 6; tail = tail; places = Content 2 1 ∷ Unwritten ∷ [] }

-- with so many pages of a second one
abbrev pub second : ℕ → Log
second done = first_log (Writes head_128 content_2 done)

-- behind that one, committed or not
abbrev pub second_log : Log
second_log = record { end = 10; tail = Open; places = Content 6 2 ∷ Unwritten ∷ [] }

abbrev pub behind_second : Log
behind_second = record { end = 10; tail = Open; places = Content 2 1 ∷ Unwritten ∷ [] }

-- the first one with the place of its record for the other number
abbrev pub wrong_log : Log
wrong_log = record { end = 6; tail = Open; places = Content 2 1 ∷ Content 2 1 ∷ [] }
