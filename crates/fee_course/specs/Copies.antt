-- What a switch has to copy, and in how many turns.
use Rattle.std.specs.Prelude.{◌≡◌, ◌+◌, ℕ, suc, Bool, true, false, if◌then◌else◌, List, [], ◌∷◌, set, max, Option, Some, None, option_map}
use Rattle.nv_base.specs.declared.instance.DeviceNumber.{DeviceNumber}
use Rattle.nv_base.specs.Pages.{record_pages_of}
use Rattle.fee_image.specs.declared.place.Place.{Place}
use Rattle.fee_image.specs.declared.place.Place.TheVariants.{Content, Unwritten}
use Rattle.fee_course.specs.declared.copies.Source.{Source}

-- THE CHOICE
-- a copy is to be made: there is a record, and it has no copy
abbrev pub is_left : Place → Bool → Bool
is_left place true = false
is_left Unwritten false = false
is_left place false = true

-- a number that comes so many places later
abbrev pub later : ℕ → Source → Source
later n s = record s { index = s.index + n }

-- the first number of which a copy is to be made
abbrev pub next_copy : List (DeviceNumber × ℕ) → List Place → List Bool → Option Source
next_copy (n ∷ ns) (place ∷ places) (done ∷ copied) =
    if is_left place done then Some (record { index = 0; length = n.1; place = place }) else option_map (later 1) (next_copy ns places copied)
next_copy _ _ _ = None

-- of the first numbers, so many, no copy is to be made
abbrev pub NoneLeft : ℕ → List Place → List Bool → Type 0
NoneLeft (suc n) (place ∷ places) (done ∷ copied) = (is_left place done ≡ false) × NoneLeft n places copied
NoneLeft _ _ _ = Unit {0}

-- TURNS
-- those of one number's copy: each page of its record takes one, three of a mark without content, and a content is read before
abbrev pub turns_of : ℕ → ℕ → Place → Bool → ℕ
turns_of p length place true = 0
turns_of p length (Content at count) false = record_pages_of length p + 1
turns_of p length Unwritten false = 0
turns_of p length place false = 3

-- those of all copies that are to be made
abbrev pub copies_left : ℕ → List (DeviceNumber × ℕ) → List Place → List Bool → ℕ
copies_left p (n ∷ ns) (place ∷ places) (done ∷ copied) = turns_of p n.1 place done + copies_left p ns places copied
copies_left p _ _ _ = 0

-- as if the number at this place of the list were copied
abbrev pub as_copied : Option ℕ → List Bool → List Bool
as_copied None copied = copied
as_copied (Some i) copied = set copied i true

-- as if it had no copy
abbrev pub as_cleared : Option ℕ → List Bool → List Bool
as_cleared None copied = copied
as_cleared (Some i) copied = set copied i false

-- as if the number at this place of the list had a content
abbrev pub as_appended : Option ℕ → List Place → List Place
as_appended None places = places
as_appended (Some i) places = set places i (Content 0 0)

-- THE GREATEST FIGURES
-- the turns of a copy of each number
abbrev pub copies_most : ℕ → List (DeviceNumber × ℕ) → ℕ
copies_most p [] = 0
copies_most p (n ∷ ns) = record_pages_of n.1 p + 1 + copies_most p ns

-- the pages of the greatest record
abbrev pub greatest : ℕ → List (DeviceNumber × ℕ) → ℕ
greatest p [] = 0
greatest p (n ∷ ns) = max (record_pages_of n.1 p) (greatest p ns)
