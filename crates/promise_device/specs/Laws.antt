-- What the reading of a device over banks computes is what is said of an image.
use Rattle.std.specs.Prelude.{◌≡◌, ◌⊎◌, ◌↔◌, ◌<◌, ◌≤◌, ◌+◌, ◌++◌, ◌&&◌, ◌||◌, ◌==◌, if◌then◌else◌, ℕ, Bool, false, IsTrue, List, [], ◌∷◌, Option, Some, None}
use Rattle.nv_base.specs.declared.geometry.Geometry.{Geometry}
use Rattle.fls_model.specs.declared.flash.FlashAnswer.TheVariants.{Failed}
use Rattle.fls_model.specs.Op.{Op}
use Rattle.fls_model.specs.Told.{Change}
use Rattle.fee_format.specs.declared.bank_head.BankHead.{BankHead}
use Rattle.fee_format.specs.BankHead.{last_generation}
use Rattle.fee_format.specs.Formats.{new_format}
use Rattle.fee_image.specs.Bank.{Bank}
use Rattle.fee_image.specs.Image.{bank_in, active_of}
use Rattle.fee_image.specs.RecordList.{IsClosed, end_of}
use Rattle.promise_device.specs.Making.{Making, banks_of}
use Rattle.promise_device.specs.Image.{IsSoundFlash, IsOfLastGeneration, is_of_last_generation, is_closed_bank, HasNoRoomFor, has_no_room_for}
use Rattle.promise_device.specs.FlashRun.{FlashRun, StartsSound}
use Rattle.promise_device.specs.Reading.{BeginsSound, AttachesSound}
use Rattle.promise_device.specs.Bridge.{is_program, is_failed, has_failed, may_be_closed, IsWornOut, IsWornBy, reading_of}
use Rattle.promise_device.specs.Wear.{most_wanted, most_copied, bank_of_op, bank_behind, latest, last_in, failed_in, is_repeated, may_erase, has_room_behind, is_due, are_due}

abbrev pub SoundFlashesCompute : Type 0
SoundFlashesCompute = (m : Making) (image : List ℕ) → IsTrue ((reading_of m).is_sound image) ↔ IsSoundFlash m image

abbrev pub SoundStartsCompute : Type 0
SoundStartsCompute = (m : Making) (f : FlashRun) → StartsSound m f → BeginsSound (reading_of m) f

abbrev pub LastGenerationsCompute : Type 0
LastGenerationsCompute = (m : Making) (image : List ℕ) → IsTrue (is_of_last_generation m image) ↔ IsOfLastGeneration m image

abbrev pub ClosedBanksCompute : Type 0
ClosedBanksCompute = (b : Bank) (image : List ℕ) (end : ℕ) → IsTrue (is_closed_bank b image end) ↔ IsClosed b image end

abbrev pub FullBanksCompute : Type 0
FullBanksCompute = (pages : ℕ) (m : Making) (image : List ℕ) → IsTrue (has_no_room_for pages m image) ↔ HasNoRoomFor pages m image

-- so it is worn out by its reading where it is by these
abbrev pub WornBanksCompute : Type 0
WornBanksCompute = (m : Making) (f : FlashRun) (k n : ℕ) (urgent : Bool) → IsWornBy (reading_of m) f k n urgent → IsWornOut m f k n urgent

-- where a program failed since the last erase an operation did
abbrev pub ClosingsFailed : Type 0
ClosingsFailed = (operations : List Change) → IsTrue (may_be_closed operations) → IsTrue (has_failed operations)

-- a flash of no bytes is attached as a blank one
abbrev pub BanksAttachSound : Type 0
BanksAttachSound = (m : Making) → AttachesSound (reading_of m)

-- WEAR
-- one operation more: it is the last one in its bank, and leaves the other banks' as they were
abbrev pub LastsGoOn : Type 0
LastsGoOn =
    (g : Geometry) (banks k : ℕ) (last : Option Change) (operations : List Change) (x : Change)
    → last_in g banks k last (operations ++ x ∷ []) ≡ (if bank_of_op g banks x.op == k then Some x else last_in g banks k last operations)

-- a program keeps what failed in its bank, and an erase clears it
abbrev pub FailuresGoOn : Type 0
FailuresGoOn =
    (g : Geometry) (banks k : ℕ) (failed : Bool) (operations : List Change) (x : Change)
    → failed_in g banks k failed (operations ++ x ∷ [])
    ≡ (if bank_of_op g banks x.op == k then is_program x.op && (failed_in g banks k failed operations || is_failed x.answer) else failed_in g banks k failed operations)

-- an operation that failed is repeated by the same one
abbrev pub FailedAreRepeated : Type 0
FailedAreRepeated =
    (g : Geometry) (banks : ℕ) (operations : List Change) (x : Change) (op : Op)
    → x.op ≡ op → x.answer ≡ Failed → IsTrue (is_repeated g banks (operations ++ x ∷ []) op)

-- one operation more is the last one
abbrev pub LatestIs : Type 0
LatestIs = (last : Option Change) (operations : List Change) (x : Change) → latest last (operations ++ x ∷ []) ≡ Some x

-- one may erase the next bank where none is active, and where the active one isn't worn out and lacks the pages, is closed, or may be
abbrev pub MayErases : Type 0
MayErases =
    (m : Making) (earlier : List Change) (t : ℕ) (image : List ℕ) → t ≡ bank_behind m.banks (active_of (banks_of m) image)
    → (active_of (banks_of m) image ≡ None)
    ⊎ ((k : ℕ) × (h : BankHead) × (active_of (banks_of m) image ≡ Some (k, h)) × (h.generation ≡ last_generation → ⊥)
    × (IsTrue (failed_in m.geometry m.banks k false earlier) ⊎ (let b = bank_in (banks_of m) h.format k in IsClosed b image (end_of b image) ⊎ (b.pages < end_of b image + most_wanted m))))
    → IsTrue (may_erase m earlier t image)

-- a bank has the room that a switch leaves where it isn't closed and its log ends within the most that a switch writes
abbrev pub RoomsCompute : Type 0
RoomsCompute =
    (m : Making) (k : ℕ) (image : List ℕ)
    → let b = bank_in (banks_of m) new_format k in (IsClosed b image (end_of b image) → ⊥) → end_of b image ≤ b.pages → end_of b image ≤ most_copied m → IsTrue (has_room_behind m k image)

-- an operation that is due goes on behind others that were
abbrev pub DueGoOn : Type 0
DueGoOn =
    (m : Making) (earlier operations : List Change) (x : Change)
    → IsTrue (are_due m earlier operations) → IsTrue (is_due m (earlier ++ operations) x) → IsTrue (are_due m earlier (operations ++ x ∷ []))
