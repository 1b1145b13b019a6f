-- Laws of images, for the layers above.
use Rattle.std.specs.Prelude.{◌≡◌, ◌⊎◌, ◌↔◌, ◌<◌, ◌≤◌, ◌+◌, ◌*◌, ℕ, IsTrue, List, [], ◌∷◌, ◌++◌, length, replicate, Some, None}
use Rattle.nv_base.specs.declared.geometry.Geometry.{Geometry}
use Rattle.nv_base.specs.declared.instance.DeviceNumber.{DeviceNumber}
use Rattle.nv_base.specs.declared.mark.Mark.{Mark}
use Rattle.nv_base.specs.declared.instance.Instance.{Instance}
use Rattle.nv_base.specs.Lengths.{AreLengths}
use Rattle.nv_base.specs.Marks.{AreMarks}
use Rattle.nv_base.specs.Geometry.{IsLegal, HasBanks, sectors_of_bank, pages_of_sector}
use Rattle.fls_model.specs.Bytes.{Grown, SameOutside, piece}
use Rattle.fls_model.specs.Op.{MayLeave, Program, Erase, after_op}
use Rattle.fee_format.specs.declared.bank_head.BankHead.{BankHead}
use Rattle.fee_format.specs.Gate.{IsGate}
use Rattle.fee_format.specs.Pages.{blank_page, body_pages_of, gate_page}
use Rattle.fee_format.specs.SoundHead.{IsSoundHead}
use Rattle.std.specs.List.{All}
use Rattle.fee_image.specs.Append.{Touches}
use Rattle.fee_image.specs.Bank.{Bank, page_of, place_of_page, pages_from, moved}
use Rattle.fee_image.specs.RecordList.{Rec, Stands, Stops, Walks, IsLog, pages_of_head, records_left, records_of, end_of}
use Rattle.fee_image.specs.Found.{IsFound, shown_in}
use Rattle.nv_base.specs.Held.{Held, never_written}
use Rattle.fee_image.specs.Image.{Layout, IsLegalLayout, layout_of, bank_in, image_page, BankStands, IsActive, HasNoActive, IsFoundIn, AreFound, head_of_bank, active_of, found_held, found_list}
use Rattle.fee_image.specs.Sound.{IsSoundImage, is_sound_image}

-- WHAT THE RELATIONS ARE, COMPUTED
abbrev pub LogsCompute : Type 0
LogsCompute = (b : Bank) (bytes : List ℕ) (records : List Rec) (end : ℕ) → IsLog b bytes records end ↔ ((records ≡ records_of b bytes) × (end ≡ end_of b bytes))

-- records that stand one after another, and one more behind them
abbrev pub WalksGoOn : Type 0
WalksGoOn =
    (b : Bank) (bytes : List ℕ) (q e : ℕ) (records : List Rec) (r : Rec)
    → Walks b bytes q records e → Stands b bytes e r → Walks b bytes q (records ++ r ∷ []) (e + pages_of_head b.page r.head)

-- from a page on there are none where the list stops, and else the record there and those behind it
pub record RecordsUnfold (b : Bank) (bytes : List ℕ) (q : ℕ) : Type 0 where
  pub none : Stops b bytes q → records_left b bytes q ≡ []
  pub first : (r : Rec) → Stands b bytes q r → records_left b bytes q ≡ r ∷ records_left b bytes (q + pages_of_head b.page r.head)

abbrev pub ListsUnfold : Type 0
ListsUnfold = (b : Bank) (bytes : List ℕ) (q : ℕ) → RecordsUnfold b bytes q

abbrev pub MarksCompute : Type 0
MarksCompute = (b : Bank) (bytes : List ℕ) (number length : ℕ) (held : Held) → IsFound b bytes number length held ↔ (held ≡ shown_in b bytes number length)

abbrev pub HeadsCompute : Type 0
HeadsCompute = (l : Layout) (bytes : List ℕ) (k : ℕ) (h : BankHead) → BankStands l bytes k h ↔ (head_of_bank l bytes k ≡ Some h)

abbrev pub ActiveComputes : Type 0
ActiveComputes = (l : Layout) (bytes : List ℕ) (k : ℕ) (h : BankHead) → IsActive l bytes k h ↔ (active_of l bytes ≡ Some (k, h))

abbrev pub NoActiveComputes : Type 0
NoActiveComputes = (l : Layout) (bytes : List ℕ) → HasNoActive l bytes ↔ (active_of l bytes ≡ None)

abbrev pub FoundComputes : Type 0
FoundComputes = (l : Layout) (bytes : List ℕ) (number length : ℕ) (held : Held) → IsFoundIn l bytes number length held ↔ (held ≡ found_held l bytes number length)

abbrev pub FoundListsCompute : Type 0
FoundListsCompute = (l : Layout) (numbers : List (DeviceNumber × ℕ)) (bytes : List ℕ) (marks : List (Instance × Mark)) → AreFound l numbers bytes marks ↔ (marks ≡ found_list l numbers bytes)

-- they ascend, as marks do
abbrev pub FoundListsAreMarks : Type 0
FoundListsAreMarks = (l : Layout) (numbers : List (DeviceNumber × ℕ)) (bytes : List ℕ) → AreLengths 0 numbers → AreMarks 0 (found_list l numbers bytes)

abbrev pub SoundImagesCompute : Type 0
SoundImagesCompute = (l : Layout) (bytes : List ℕ) → IsTrue (is_sound_image l bytes) ↔ IsSoundImage l bytes

-- WHAT A BANK'S RECORDS READ
-- they read the pages of their own bank behind its head and its gate alone, wherever it begins
abbrev pub RecordsStay : Type 0
RecordsStay =
    (b : Bank) (old new : List ℕ) (at : ℕ)
    → ((q : ℕ) → 2 ≤ q → q < b.pages → page_of (moved b at) new q ≡ page_of b old q) → records_of (moved b at) new ≡ records_of b old

-- a bank's pages are those of its own bytes
abbrev pub bank_bytes : Bank → List ℕ → List ℕ
bank_bytes b bytes = piece (b.at * b.page) (b.pages * b.page) bytes

abbrev pub SlicesAgree : Type 0
SlicesAgree = (b : Bank) (bytes : List ℕ) (q : ℕ) → q < b.pages → page_of (moved b 0) (bank_bytes b bytes) q ≡ page_of b bytes q

-- pages that follow each other are one range of bytes
abbrev pub PagesAreOneRange : Type 0
PagesAreOneRange = (b : Bank) (bytes : List ℕ) (q n : ℕ) → pages_from b bytes q n ≡ piece (place_of_page b q) (n * b.page) bytes

-- the pages of a body have room for its content
abbrev pub BodiesHaveRoom : Type 0
BodiesHaveRoom = (length p : ℕ) → 1 ≤ p → length ≤ body_pages_of length p * p

-- WHAT THE ACTIVE BANK AND THE FOUND MAP READ
-- the active bank depends on the heads and gates alone
abbrev pub ActiveStays : Type 0
ActiveStays =
    (l : Layout) (old new : List ℕ)
    → ((k : ℕ) → k < l.banks → (image_page l new k 0 ≡ image_page l old k 0) × (image_page l new k 1 ≡ image_page l old k 1)) → active_of l new ≡ active_of l old

-- the found map depends on the pages of the active bank alone, as long as no other bank comes to stand
abbrev pub FoundMapStays : Type 0
FoundMapStays =
    (l : Layout) (old new : List ℕ) (k : ℕ) (h : BankHead)
    → 2 ≤ l.pages → IsActive l old k h → ((q : ℕ) → q < l.pages → image_page l new k q ≡ image_page l old k q)
    → ((j : ℕ) (other : BankHead) → j < l.banks → (j ≡ k → ⊥) → BankStands l new j other → BankStands l old j other)
    → (number length : ℕ) → found_held l new number length ≡ found_held l old number length

-- a bank that comes to stand with a greater generation than the active one is active, and shows what it holds
abbrev pub SealedIsActive : Type 0
SealedIsActive =
    (l : Layout) (old new : List ℕ) (k t : ℕ) (h i : BankHead)
    → IsActive l old k h → t < l.banks → BankStands l new t i → h.generation < i.generation
    → ((j : ℕ) (other : BankHead) → j < l.banks → (j ≡ t → ⊥) → BankStands l new j other → BankStands l old j other)
    → IsActive l new t i

-- a bank that comes to stand where none did is active
abbrev pub FirstIsActive : Type 0
FirstIsActive =
    (l : Layout) (old new : List ℕ) (t : ℕ) (i : BankHead)
    → HasNoActive l old → t < l.banks → BankStands l new t i
    → ((j : ℕ) (other : BankHead) → j < l.banks → (j ≡ t → ⊥) → BankStands l new j other → BankStands l old j other)
    → IsActive l new t i

-- a start-up finds what the active bank holds
abbrev pub FoundOfActive : Type 0
FoundOfActive =
    (l : Layout) (bytes : List ℕ) (k : ℕ) (h : BankHead) → IsActive l bytes k h
    → (number length : ℕ) → found_held l bytes number length ≡ shown_in (bank_in l h.format k) bytes number length

-- WHAT A TORN ERASE LEAVES
-- all bytes of the flash have the bits that they had, and maybe more
abbrev pub TornErasesSetBits : Type 0
TornErasesSetBits = (address n : ℕ) (old new : List ℕ) → MayLeave (Erase address n) old new → Grown old new

-- of a sound image a sound one
abbrev pub TornErasesKeepSound : Type 0
TornErasesKeepSound = (l : Layout) (old new : List ℕ) → IsSoundImage l old → Grown old new → IsSoundImage l new

-- and no bank stands in it that didn't stand with this head
abbrev pub TornErasesMakeNoBank : Type 0
TornErasesMakeNoBank =
    (l : Layout) (old new : List ℕ) (k : ℕ) (h : BankHead)
    → 16 ≤ l.page → IsSoundImage l old → Grown old new → k < l.banks → BankStands l new k h → BankStands l old k h

-- so that the active bank stays active while it stands
abbrev pub TornErasesKeepActive : Type 0
TornErasesKeepActive =
    (l : Layout) (old new : List ℕ) (k : ℕ) (h : BankHead)
    → 16 ≤ l.page → IsSoundImage l old → Grown old new → IsActive l old k h → BankStands l new k h → IsActive l new k h

-- WHAT AN ERASE LEAVES OF THE BANKS
-- a range of bytes lies in bank k
pub record IsInBank (l : Layout) (k address n : ℕ) : Type 0 where
  pub low : k * (l.pages * l.page) ≤ address
  pub high : address + n ≤ k * (l.pages * l.page) + l.pages * l.page

-- whatever is left of a range of bytes, a page before it or behind it is as it was
abbrev pub PagesOutsideStay : Type 0
PagesOutsideStay =
    (b : Bank) (old new : List ℕ) (address n q : ℕ)
    → SameOutside address n old new → (place_of_page b q + b.page ≤ address) ⊎ (address + n ≤ place_of_page b q) → page_of b new q ≡ page_of b old q

-- whatever is left of what lies in one bank, all other banks' pages are as they were
abbrev pub OtherBanksStay : Type 0
OtherBanksStay =
    (l : Layout) (old new : List ℕ) (k address n j q : ℕ)
    → SameOutside address n old new → IsInBank l k address n → (j ≡ k → ⊥) → q < l.pages → image_page l new j q ≡ image_page l old j q

-- done, the pages in what was erased are blank
abbrev pub ErasedIsBlank : Type 0
ErasedIsBlank =
    (b : Bank) (bytes : List ℕ) (address n q : ℕ)
    → address + n ≤ length bytes → address ≤ place_of_page b q → place_of_page b q + b.page ≤ address + n
    → page_of b (after_op (Erase address n) bytes) q ≡ blank_page b.page

-- of a flash that so many banks share
abbrev pub LayoutsAreLegal : Type 0
LayoutsAreLegal = (g : Geometry) (banks : ℕ) → IsLegal g → HasBanks g banks → IsLegalLayout (layout_of g banks)

-- where sector s of bank k begins, in bytes
abbrev pub place_of_sector : Geometry → ℕ → ℕ → ℕ → ℕ
place_of_sector g banks k s = (k * (sectors_of_bank g banks) + s) * g.sector

-- it lies in bank k
abbrev pub SectorsLieInBanks : Type 0
SectorsLieInBanks =
    (g : Geometry) (banks k s : ℕ) → IsLegal g → HasBanks g banks → s < sectors_of_bank g banks → IsInBank (layout_of g banks) k (place_of_sector g banks k s) g.sector

-- and has these pages of it
abbrev pub SectorsHavePages : Type 0
SectorsHavePages =
    (g : Geometry) (banks format k s q : ℕ) → IsLegal g → HasBanks g banks → s * pages_of_sector g ≤ q → q < s * pages_of_sector g + pages_of_sector g
    → let b = bank_in (layout_of g banks) format k in
    (place_of_sector g banks k s ≤ place_of_page b q) × (place_of_page b q + b.page ≤ place_of_sector g banks k s + g.sector)

-- all pages of a bank are pages of its sectors
abbrev pub SectorsFillBanks : Type 0
SectorsFillBanks = (g : Geometry) (banks : ℕ) → IsLegal g → HasBanks g banks → (layout_of g banks).pages ≡ sectors_of_bank g banks * pages_of_sector g

-- WHAT A PROGRAM LEAVES
-- page q of a bank may be programmed: page 0 only while the gate isn't open, page 1 only over a page 0 that may stand
-- before an open gate
abbrev pub KeepsSound : Layout → List ℕ → ℕ → ℕ → Type 0
KeepsSound l bytes k q =
    ((q ≡ 0) × (IsGate l.page (image_page l bytes k 1) → ⊥)) ⊎ (((q ≡ 1) × IsSoundHead (image_page l bytes k 0)) ⊎ (2 ≤ q))

-- where page q of bank k begins, in bytes
abbrev pub place_in_image : Layout → ℕ → ℕ → ℕ
place_in_image l k q = place_of_page (bank_in l 1 k) q

-- whatever a program of one page leaves, done, failed or cut, all other pages are as they were
abbrev pub ProgramsTouchOnePage : Type 0
ProgramsTouchOnePage =
    (l : Layout) (old new page : List ℕ) (k q j i : ℕ)
    → length page ≡ l.page → MayLeave (Program (place_in_image l k q) page) old new
    → q < l.pages → i < l.pages → ((j ≡ k) × (i ≡ q) → ⊥) → image_page l new j i ≡ image_page l old j i

abbrev pub ProgramsTouchTheirBank : Type 0
ProgramsTouchTheirBank = (b : Bank) (old new page : List ℕ) (q : ℕ) → length page ≡ b.page → MayLeave (Program (place_of_page b q) page) old new → Touches b q old new

-- done over a blank page, it stands there
abbrev pub ProgramsStand : Type 0
ProgramsStand =
    (b : Bank) (bytes page : List ℕ) (q : ℕ)
    → length page ≡ b.page → All (λ (x : ℕ). x < 256) page → place_of_page b q + b.page ≤ length bytes → page_of b bytes q ≡ blank_page b.page
    → (page_of b (after_op (Program (place_of_page b q) page) bytes) q ≡ page) × MayLeave (Program (place_of_page b q) page) bytes (after_op (Program (place_of_page b q) page) bytes)

-- a gate stands where its program is done, whatever stood there
abbrev pub GatesStand : Type 0
GatesStand =
    (b : Bank) (bytes : List ℕ) (q : ℕ) → place_of_page b q + b.page ≤ length bytes
    → let op = Program (place_of_page b q) (gate_page b.page) in
    (page_of b (after_op op bytes) q ≡ gate_page b.page) × MayLeave op bytes (after_op op bytes)

-- and a sound image is sound
abbrev pub ProgramsKeepSound : Type 0
ProgramsKeepSound =
    (l : Layout) (old new page : List ℕ) (k q : ℕ)
    → 2 ≤ l.pages → length page ≡ l.page → MayLeave (Program (place_in_image l k q) page) old new
    → q < l.pages → KeepsSound l old k q → IsSoundImage l old → IsSoundImage l new

-- A BLANK IMAGE
abbrev pub BlankIsSound : Type 0
BlankIsSound = (l : Layout) (n : ℕ) → IsSoundImage l (replicate n 255)

abbrev pub BlankHasErased : Type 0
BlankHasErased = (l : Layout) (n number length : ℕ) → found_held l (replicate n 255) number length ≡ never_written
