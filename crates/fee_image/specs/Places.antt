-- Where the last records of the numbers stand, and what is read there.
use Rattle.std.specs.Prelude.{◌≤◌, ◌+◌, ℕ, if◌then◌else◌, Bool, true, false, List, [], ◌∷◌, map, Option, Some, None}
use Rattle.nv_base.specs.declared.instance.DeviceNumber.{DeviceNumber}
use Rattle.nv_base.specs.declared.mark.Mark.TheVariants.{Content as ContentMark, Invalid as InvalidMark, Erased as ErasedMark}
use Rattle.nv_base.specs.Pages.{record_pages_of}
use Rattle.fls_model.specs.Bytes.{piece}
use Rattle.fee_format.specs.declared.rec_head.RecHead.{RecHead}
use Rattle.fee_format.specs.declared.rec_head.RecordKind.{RecordKind}
use Rattle.fee_format.specs.declared.rec_head.RecordKind.TheVariants as kind
use Rattle.fee_image.specs.Bank.{Bank, place_of_page}
use Rattle.fee_image.specs.Found.{fits, last_record}
use Rattle.nv_base.specs.Held.{Held, never_written}
use Rattle.fee_image.specs.RecordList.{Rec}
use Rattle.fee_image.specs.declared.place.Place.{Place}
use Rattle.fee_image.specs.declared.place.Place.TheVariants.{Content, Invalid, Erased, Unwritten}
use Rattle.fee_image.specs.May.{May, IsAmong}

-- where a record of a kind and a count is found whose header stands at a page
abbrev pub place_of_kind : RecordKind → ℕ → ℕ → Place
place_of_kind kind.Content at count = Content at count
place_of_kind kind.Invalid at count = Invalid count
place_of_kind kind.Erased at count = Erased count

abbrev pub place_at : ℕ → RecHead → Place
place_at at h = place_of_kind h.kind at h.count

-- there is a record
abbrev pub is_written : Place → Bool
is_written Unwritten = false
is_written place = true

-- how often a number was written, by its place
abbrev pub count_at : Place → ℕ
count_at (Content at count) = count
count_at (Invalid count) = count
count_at (Erased count) = count
count_at Unwritten = 0

-- the place of a record, Unwritten where there is none
abbrev pub place_shown : Option Rec → Place
place_shown None = Unwritten
place_shown (Some r) = place_at r.at r.head

-- the places that these records give to the numbers: those of the last records
abbrev pub places_of : List (DeviceNumber × ℕ) → List Rec → List Place
places_of numbers records = map (λ n. place_shown (last_record n.0.0 n.1 records)) numbers

-- nothing is found of any number
abbrev pub erased_places : List (DeviceNumber × ℕ) → List Place
erased_places numbers = map (λ n. Unwritten) numbers

-- the places after a committed record whose header stands at a page: its number has it, where it fits
abbrev pub noted : List (DeviceNumber × ℕ) → List Place → ℕ → RecHead → List Place
noted (n ∷ ns) (place ∷ places) at h = (if fits n.0.0 n.1 h then place_at at h else place) ∷ noted ns places at h
noted _ places at h = places

-- what a bank shows at a place, for a number of a length: a content is one range of bytes
abbrev pub held_at : Bank → List ℕ → ℕ → Place → Held
held_at b bytes length (Content at count) = record { mark = ContentMark (piece (place_of_page b (at + 2)) length bytes); count = count }
held_at b bytes length (Invalid count) = record { mark = InvalidMark; count = count }
held_at b bytes length (Erased count) = record { mark = ErasedMark; count = count }
held_at b bytes length Unwritten = never_written

-- a content of a length lies before a log's end
abbrev pub IsWithin : ℕ → ℕ → ℕ → Place → Type 0
IsWithin p end length (Content at count) = (2 ≤ at) × (at + record_pages_of length p ≤ end)
IsWithin p end length (Invalid count) = Unit {0}
IsWithin p end length (Erased count) = Unit {0}
IsWithin p end length Unwritten = Unit {0}

-- each number has one place, which lies before the log's end and shows a mark that may be found
abbrev pub ArePlaced : Bank → List ℕ → May → ℕ → List (DeviceNumber × ℕ) → List Place → Type 0
ArePlaced b bytes may end [] [] = Unit {0}
ArePlaced b bytes may end (n ∷ ns) (place ∷ places) =
    IsWithin b.page end n.1 place × IsAmong (may n.0.0 n.1) (held_at b bytes n.1 place) × ArePlaced b bytes may end ns places
ArePlaced b bytes may end _ _ = ⊥
