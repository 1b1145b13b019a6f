-- What a device over banks finds in an image.
use Rattle.std.specs.Prelude.{◌≡◌, ◌⊎◌, ◌==◌, ◌<◌, ◌+◌, ◌-◌, ◌&&◌, ◌||◌, not, nat_lt, ℕ, zero, suc, Bool, true, false, List, Option, Some, None}
use Rattle.std.specs.Option.{option_map_or}
use Rattle.nv_base.specs.declared.geometry.Geometry.{Geometry}
use Rattle.nv_base.specs.declared.mark.Mark.{Mark}
use Rattle.nv_base.specs.Geometry.{size_of}
use Rattle.memif.specs.Told.{Held, never_written, length_of}
use Rattle.fls_model.specs.Attach.{enlarged}
use Rattle.fee_format.specs.declared.bank_head.BankHead.{BankHead}
use Rattle.fee_format.specs.BankHead.{last_generation}
use Rattle.fee_format.specs.Formats.{new_format}
use Rattle.fee_format.specs.Pages.{blank_page, same_bytes}
use Rattle.fee_image.specs.Bank.{Bank, page_of}
use Rattle.fee_image.specs.RecordList.{IsClosed, end_of, free_pages_of}
use Rattle.fee_image.specs.Image.{Layout, bank_in, active_of, found_held}
use Rattle.fee_image.specs.Sound.{IsSoundImage}
use Rattle.promise_device.specs.Making.{Making, banks_of}

-- the bytes with which a flash is attached: one of no bytes is blank
abbrev pub attached : Geometry → List ℕ → List ℕ
attached g image = enlarged (size_of g) image

-- what a number of this length holds; one that isn't configured was never written, whatever records it has
abbrev pub held_as : Layout → List ℕ → ℕ → Option ℕ → Held
held_as l bytes n None = never_written
held_as l bytes n (Some length) = found_held l bytes n length

-- what each number holds, with the lengths that are configured
abbrev pub held_in : Making → List ℕ → ℕ → Held
held_in m bytes n = held_as (banks_of m) (attached m.geometry bytes) n (length_of m.numbers n)

-- and its mark
abbrev pub found_in : Making → List ℕ → ℕ → Mark
found_in m bytes n = (held_in m bytes n).mark

-- a start-up may go on with it
abbrev pub IsSoundFlash : Making → List ℕ → Type 0
IsSoundFlash m image = IsSoundImage (banks_of m) (attached m.geometry image)

-- a bank is active, and has the last generation, so that no switch can follow
abbrev pub IsOfLastGeneration : Making → List ℕ → Type 0
IsOfLastGeneration m image = (k : ℕ) × (h : BankHead) × (active_of (banks_of m) image ≡ Some (k, h)) × (h.generation ≡ last_generation)

-- a bank is active, and has no room for so many pages more
abbrev pub HasNoRoomFor : ℕ → Making → List ℕ → Type 0
HasNoRoomFor pages m image =
    (k : ℕ) × (h : BankHead) × (active_of (banks_of m) image ≡ Some (k, h))
    × (let b = bank_in (banks_of m) h.format k in IsClosed b image (end_of b image) ⊎ (b.pages < end_of b image + pages))

-- THE SAME, COMPUTED

abbrev pub is_of_last_generation : Making → List ℕ → Bool
is_of_last_generation m image = option_map_or (λ x. x.1.generation == last_generation) (active_of (banks_of m) image) false

-- of n pages from page q on each is blank
abbrev pub are_blank : Bank → List ℕ → ℕ → ℕ → Bool
are_blank b bytes q zero = true
are_blank b bytes q (suc n) = same_bytes (page_of b bytes q) (blank_page b.page) && are_blank b bytes (q + 1) n

abbrev pub is_closed_bank : Bank → List ℕ → ℕ → Bool
is_closed_bank b bytes end = not (b.format == new_format) || not (are_blank b bytes end (b.pages - end))

-- a bank has no room for so many pages more
abbrev pub lacks_pages : ℕ → Bank → List ℕ → Bool
lacks_pages pages b image = is_closed_bank b image (end_of b image) || nat_lt b.pages (end_of b image + pages)

abbrev pub has_no_room_for : ℕ → Making → List ℕ → Bool
has_no_room_for pages m image = option_map_or (λ x. lacks_pages pages (bank_in (banks_of m) x.1.format x.0) image) (active_of (banks_of m) image) false

-- the free pages of a bank: those behind its log's end, none where it is closed
abbrev pub free_in_bank : Bank → List ℕ → ℕ
free_in_bank b image = free_pages_of b.pages (end_of b image) (is_closed_bank b image (end_of b image))
