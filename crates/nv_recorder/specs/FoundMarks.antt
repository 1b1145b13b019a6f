-- The marks that a start-up finds.
use Rattle.std.specs.Prelude.{◌≡◌, ◌≤◌, ◌<◌, ℕ, List, [], ◌∷◌, length, map, replicate, slice_set, Some}
use Rattle.nv_base.specs.Lengths.{AreLengths}
use Rattle.nv_base.specs.Marks.{MarksAndRoom, instance_of, listed}
use Rattle.nv_base.specs.declared.instance.Instance.{Instance}
use Rattle.nv_base.specs.declared.instance.DeviceNumber.{DeviceNumber}
use Rattle.nv_base.specs.declared.mark.Mark.{Mark}
use Rattle.nv_recorder.specs.declared.found_marks.FoundPlace.{FoundPlace}
use Rattle.nv_recorder.specs.declared.event.MarkKind.{MarkKind}
use Rattle.nv_recorder.specs.declared.event.MarkKind.TheVariants as kind
use Rattle.nv_recorder.specs.Event.{mark_of}

-- the number of a place with its length
abbrev pub number_at : FoundPlace → DeviceNumber × ℕ
number_at p = (p.number, p.length)

-- its content, which stands for proofs alone
abbrev pub content_at : FoundPlace → List ℕ
content_at p = p.content.items

-- the content is of that length
abbrev pub IsWhole : FoundPlace → Type 0
IsWhole p = length (content_at p) ≡ p.length

abbrev pub AreWhole : List FoundPlace → Type 0
AreWhole [] = Unit {0}
AreWhole (p ∷ ps) = IsWhole p × AreWhole ps

-- the mark that was found
abbrev pub mark_at : FoundPlace → Mark
mark_at p = mark_of p.kind (Some (content_at p))

-- it holds this mark, with this content where it is one
abbrev pub with_mark : MarkKind → List ℕ → FoundPlace → FoundPlace
with_mark kind.Content bytes p = record p { kind = kind.Content; content = record { items = bytes } }
with_mark kind.Invalid bytes p = record p { kind = kind.Invalid }
with_mark kind.Erased bytes p = record p { kind = kind.Erased }

-- as many zeros as the content of a number has bytes, and a place of it, which holds nothing
abbrev pub zeros_for : DeviceNumber × ℕ → List ℕ
zeros_for n = replicate n.1 0

abbrev pub place_for : DeviceNumber × ℕ → FoundPlace
place_for n = record { number = n.0; length = n.1; kind = kind.Erased; content = record { items = zeros_for n } }

-- contents behind a mark at an index, with this content where it is one
abbrev pub with_content : MarkKind → List ℕ → ℕ → List (List ℕ) → List (List ℕ)
with_content kind.Content bytes i contents = slice_set contents i bytes
with_content kind.Invalid bytes i contents = contents
with_content kind.Erased bytes i contents = contents

-- the mark of a place before others, and the marks of places, as a list
abbrev pub listed_at : FoundPlace → List (Instance × Mark) → List (Instance × Mark)
listed_at p marks = listed (instance_of p.number) (mark_at p) marks

abbrev pub marks_at : List FoundPlace → List (Instance × Mark)
marks_at [] = []
marks_at (p ∷ ps) = listed_at p (marks_at ps)

-- the places, and for how many marks memory of a list stands beside them, with that of their contents
pub record FoundState : Type 0 where
  pub places : List FoundPlace
  pub room : ℕ

-- their numbers with the lengths of the contents
abbrev pub numbers_of : FoundState → List (DeviceNumber × ℕ)
numbers_of f = map number_at f.places

-- the marks that they hold
abbrev pub found_in : FoundState → List (Instance × Mark)
found_in f = marks_at f.places

-- there is memory for a list of these marks
abbrev pub CanList : FoundState → Type 0
CanList f = length f.places ≤ f.room

-- The contents of places are of their lengths, and numbers ascend. Contents have memory exactly where there is some for a list of
-- all marks. Nothing is listed yet.
pub record IsFound (places : List FoundPlace) (contents : List (List ℕ)) (list : MarksAndRoom) (room : ℕ) : Type 0 where
  pub numbers : AreLengths 0 (map number_at places)
  pub whole : AreWhole places
  pub empty : list.marks ≡ []
  pub listed : room ≤ list.room
  pub kept : length places ≤ room → contents ≡ map content_at places
  pub counted : 0 < length contents → length places ≤ room
