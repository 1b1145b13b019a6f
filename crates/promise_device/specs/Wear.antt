-- When a device over banks erases and programs, by the bytes of its flash: how the flash wears.
use Rattle.std.specs.Prelude.{ℕ, zero, suc, ◌==◌, ◌+◌, ◌-◌, ◌/◌, ◌%◌, ◌*◌, ◌&&◌, ◌||◌, ◌++◌, not, nat_lt, length, max, if◌then◌else◌, Bool, true, false, IsTrue, List, [], ◌∷◌, Option, Some, None}
use Rattle.std.specs.Option.{option_map_or}
use Rattle.nv_base.specs.declared.geometry.Geometry.{Geometry}
use Rattle.nv_base.specs.declared.instance.DeviceNumber.{DeviceNumber}
use Rattle.nv_base.specs.Geometry.{pages_of_bank, sectors_of_bank, size_of_bank}
use Rattle.nv_base.specs.Pages.{record_pages_of}
use Rattle.fls_model.specs.Op.{Op, Program, Erase}
use Rattle.fls_model.specs.Told.{Change}
use Rattle.fee_format.specs.declared.bank_head.BankHead.{BankHead}
use Rattle.fee_format.specs.BankHead.{last_generation, bank_head_page}
use Rattle.fee_format.specs.Formats.{new_format}
use Rattle.fee_format.specs.Pages.{page_at, blank_page, gate_page, same_bytes}
use Rattle.fee_image.specs.Image.{bank_in, image_page, active_of}
use Rattle.promise_device.specs.Making.{Making, banks_of}
use Rattle.promise_device.specs.Image.{lacks_pages}
use Rattle.promise_device.specs.FlashRun.{FlashRun, TellsBytes, StartsSound}
use Rattle.promise_device.specs.Traits.{page_in_bank, is_done}
pub use Rattle.promise_device.specs.Failures.{is_program, is_failed, bank_of_op, failed_in}

-- the pages of the longest record of these numbers
abbrev pub longest_record : ℕ → List (DeviceNumber × ℕ) → ℕ
longest_record p [] = 0
longest_record p (n ∷ ns) = max (record_pages_of n.1 p) (longest_record p ns)

-- the most free pages that a record asks for: its own, and those that are kept for urgent writes
abbrev pub most_wanted : Making → ℕ
most_wanted m = longest_record m.geometry.page m.numbers + m.reserve

-- the pages of a record of each number
abbrev pub all_records : ℕ → List (DeviceNumber × ℕ) → ℕ
all_records p [] = 0
all_records p (n ∷ ns) = record_pages_of n.1 p + all_records p ns

-- the most pages that a switch may write to its bank: the head and the gate, a record of each number, and fewer of those that are
-- written while it copies than a record may ask for
abbrev pub most_copied : Making → ℕ
most_copied m = 1 + all_records m.geometry.page m.numbers + most_wanted m

-- THE OPERATIONS BEFORE

-- the last of these operations that changed bank k, where none did the one that is given
abbrev pub last_in : Geometry → (banks k : ℕ) → Option Change → List Change → Option Change
last_in g banks k last [] = last
last_in g banks k last (x ∷ xs) = last_in g banks k (if bank_of_op g banks x.op == k then Some x else last) xs

abbrev pub same_op : Op → Op → Bool
same_op (Program a page) (Program b other) = (a == b) && same_bytes page other
same_op (Erase a n) (Erase b k) = (a == b) && (n == k)
same_op x y = false

-- an operation is made once more: the last one in its bank was the same, and failed
abbrev pub repeats : Op → Change → Bool
repeats op x = is_failed x.answer && same_op op x.op

abbrev pub is_repeated : Geometry → (banks : ℕ) → (earlier : List Change) → Op → Bool
is_repeated g banks earlier op = option_map_or (repeats op) (last_in g banks (bank_of_op g banks op) None earlier) false

-- THE NEXT BANK

-- behind an active bank, and behind the last one of so many the first; where none is active the first too
abbrev pub bank_behind : (banks : ℕ) → Option (ℕ × BankHead) → ℕ
bank_behind banks None = 0
bank_behind banks (Some x) = if x.0 + 1 == banks then 0 else x.0 + 1

-- AN ERASE

-- an active bank may be left: it hasn't the last generation, behind which none comes, and lacks the pages of a record, unless a
-- program of it failed, which may have closed it
abbrev pub may_leave : Making → (earlier : List Change) → List ℕ → ℕ × BankHead → Bool
may_leave m earlier image x =
    not (x.1.generation == last_generation)
    && (failed_in m.geometry m.banks x.0 false earlier || lacks_pages (most_wanted m) (bank_in (banks_of m) x.1.format x.0) image)

-- bank k may be erased: it is the next one, and the active one may be left, if there is one
abbrev pub may_erase : Making → (earlier : List Change) → (k : ℕ) → List ℕ → Bool
may_erase m earlier k image =
    (k == bank_behind m.banks (active_of (banks_of m) image)) && option_map_or (may_leave m earlier image) (active_of (banks_of m) image) true

-- an erase ends where this address begins
abbrev pub erases_before : (address : ℕ) → Op → Bool
erases_before address (Erase a n) = a + n == address
erases_before address op = false

abbrev pub leads_to : (address : ℕ) → Change → Bool
leads_to address x = is_done x.answer && erases_before address x.op

-- The first sector of a bank is erased, or the one behind that which was erased last in it, or the same one again, which failed.
abbrev pub is_in_order : Geometry → (banks : ℕ) → (earlier : List Change) → (address length : ℕ) → Bool
is_in_order g banks earlier address length =
    let k = address / g.sector / sectors_of_bank g banks in
    (address == k * size_of_bank g banks)
    || (option_map_or (leads_to address) (last_in g banks k None earlier) false || is_repeated g banks earlier (Erase address length))

-- A PROGRAM

-- its page is blank
abbrev pub finds_blank : (page address : ℕ) → List ℕ → Bool
finds_blank page address image = same_bytes (page_at page image (address / page)) (blank_page page)

-- a bank has all pages free but for the most that a switch may write
abbrev pub has_room_behind : Making → (k : ℕ) → List ℕ → Bool
has_room_behind m k image = not (lacks_pages (pages_of_bank m.geometry m.banks - most_copied m) (bank_in (banks_of m) new_format k) image)

-- the gate, which ends a switch, comes where its bank has
abbrev pub leaves_room : Making → (address : ℕ) → List ℕ → Bool
leaves_room m address image =
    let k = address / m.geometry.page / pages_of_bank m.geometry m.banks in
    not (address / m.geometry.page == k * pages_of_bank m.geometry m.banks + 1) || has_room_behind m k image

-- THE HEAD AND THE GATE

-- the generation of an active bank, and 0 where none is
abbrev pub generation_in : Option (ℕ × BankHead) → ℕ
generation_in active = option_map_or (λ x. x.1.generation) active 0

-- the head that comes behind it
abbrev pub head_behind : Option (ℕ × BankHead) → BankHead
head_behind active = record { format = new_format; generation = generation_in active + 1 }

-- both pages at the front of a bank are blank
abbrev pub has_blank_front : Making → (k : ℕ) → List ℕ → Bool
has_blank_front m k image =
    same_bytes (image_page (banks_of m) image k 0) (blank_page m.geometry.page) && same_bytes (image_page (banks_of m) image k 1) (blank_page m.geometry.page)

-- the first page of a bank takes this head: the bank is the next one, and behind the active one a generation is left
abbrev pub is_next_head : Making → (k : ℕ) → (page : List ℕ) → Option (ℕ × BankHead) → Bool
is_next_head m k page active =
    (k == bank_behind m.banks active) && (not (generation_in active == last_generation) && same_bytes page (bank_head_page m.geometry.page (head_behind active)))

abbrev pub is_head_due : Making → (k : ℕ) → (page image : List ℕ) → Bool
is_head_due m k page image = is_next_head m k page (active_of (banks_of m) image) && has_blank_front m k image

-- the last of these operations, where there is none the one that is given
abbrev pub latest : Option Change → List Change → Option Change
latest last [] = last
latest last (x ∷ xs) = latest (Some x) xs

abbrev pub programs_at : (address : ℕ) → Op → Bool
programs_at address (Program a page) = a == address
programs_at address op = false

-- a gate comes right behind the page before it, which was done, or behind itself, which failed
abbrev pub leads_to_gate : Geometry → Op → Change → Bool
leads_to_gate g (Program address page) x = (is_done x.answer && programs_at (address - g.page) x.op) || repeats (Program address page) x
leads_to_gate g op x = false

abbrev pub comes_behind : Geometry → Op → (earlier : List Change) → Bool
comes_behind g op earlier = option_map_or (leads_to_gate g op) (latest None earlier) false

-- page q of bank k: its first page is the head, and its second one the gate
abbrev pub is_page_due : Making → (earlier : List Change) → (k q address : ℕ) → (page image : List ℕ) → Bool
is_page_due m earlier k zero address page image = is_head_due m k page image
is_page_due m earlier k (suc zero) address page image = same_bytes page (gate_page m.geometry.page) && comes_behind m.geometry (Program address page) earlier
is_page_due m earlier k (suc (suc q)) address page image = true

abbrev pub is_front_due : Making → (earlier : List Change) → (address : ℕ) → (page image : List ℕ) → Bool
is_front_due m earlier address page image =
    is_page_due m earlier (address / m.geometry.page / pages_of_bank m.geometry m.banks) (page_in_bank m.geometry m.banks address) address page image

-- ALL OPERATIONS

-- a program is of one page, an erase of one sector, and both of a bank
abbrev pub is_whole : Geometry → Op → Bool
is_whole g (Program address page) = (address % g.page == 0) && (length page == g.page)
is_whole g (Erase address n) = (address % g.sector == 0) && (n == g.sector)

abbrev pub has_place : Making → Op → Bool
has_place m op = nat_lt (bank_of_op m.geometry m.banks op) m.banks && is_whole m.geometry op

-- A program comes where its page is blank, or makes the one before it again; a head and a gate in their turn, and a gate where its
-- bank has room. An erase comes where one may, in the order of the sectors.
abbrev pub is_due_there : Making → (earlier : List Change) → List ℕ → Op → Bool
is_due_there m earlier image (Program address page) =
    (finds_blank m.geometry.page address image || is_repeated m.geometry m.banks earlier (Program address page))
    && (leaves_room m address image && is_front_due m earlier address page image)
is_due_there m earlier image (Erase address n) =
    may_erase m earlier (bank_of_op m.geometry m.banks (Erase address n)) image && is_in_order m.geometry m.banks earlier address n

abbrev pub is_due_by : Making → (earlier : List Change) → List ℕ → Op → Bool
is_due_by m earlier image op = has_place m op && is_due_there m earlier image op

abbrev pub is_due : Making → (earlier : List Change) → Change → Bool
is_due m earlier x = is_due_by m earlier x.before x.op

-- each of these is due, by the bytes before it and by those that were made earlier
abbrev pub are_due : Making → (earlier : List Change) → List Change → Bool
are_due m earlier [] = true
are_due m earlier (x ∷ xs) = is_due m earlier x && are_due m (earlier ++ x ∷ []) xs

-- so it is of a run from a sound image on, where the bytes are told
abbrev pub OperationsAreDue : Making → FlashRun → Type 0
OperationsAreDue m f = TellsBytes f → StartsSound m f → IsTrue (are_due m [] f.operations)
