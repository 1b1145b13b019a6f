-- A log that is loaded from the pages of its bank, piece by piece.
use Rattle.std.specs.Prelude.{◌≡◌, ◌↔◌, ◌<◌, ◌≤◌, ◌+◌, ◌*◌, ℕ, Bool, true, false, if◌then◌else◌, IsTrue, List, ◌++◌, length, MatchOption, IfSome}
use Rattle.fee_format.specs.Formats.{IsFormat, new_format}
use Rattle.fee_format.specs.Gate.{IsGate}
use Rattle.fee_format.specs.Pages.{blank_page}
use Rattle.fee_format.specs.declared.rec_head.RecHead.{RecHead}
use Rattle.fee_format.specs.RecHead.{IsLegalRecHead, IsRecHead, IsNoRecHead}
use Rattle.fee_image.specs.Bank.{Bank, page_of}
use Rattle.fee_image.specs.Places.{noted, places_of}
use Rattle.fee_image.specs.RecordList.{Rec, HasHead, Stops, IsTailBlank, IsClosed, pages_of_head, records_left, records_of, end_after, end_of}
use Rattle.fee_view.specs.View.{own_bank}
use Rattle.fee_log.specs.declared.load.Awaited.{Awaited}
use Rattle.fee_log.specs.declared.load.Awaited.TheVariants.{Header, Gate, Commit, Rest}
use Rattle.fee_log.specs.declared.load.Load.{Load}
use Rattle.fee_log.specs.declared.tail.Tail.{Tail}
use Rattle.fee_log.specs.declared.tail.Tail.TheVariants.{Open, Closed}
use Rattle.fee_log.specs.Log.{LogState, erased_state, pages_in}

-- WHERE A LOAD IS
abbrev pub is_rest : Awaited → Bool
is_rest (Rest blank) = true
is_rest _ = false

-- the page that is looked at next: the one where the log ends so far, or a later one of the record there, which lies in the
-- bank; or, behind the last record, the first one that wasn't seen
abbrev pub IsNext : ℕ → ℕ → ℕ → ℕ → Awaited → Type 0
IsNext p pages end next Header = (next ≡ end) × (end + 3 ≤ pages)
IsNext p pages end next (Gate head blank) = (next ≡ end + 1) × (end + 3 ≤ pages) × IfSome head IsLegalRecHead
IsNext p pages end next (Commit head) = (next + 1 ≡ end + pages_of_head p head) × (next + 1 ≤ pages) × IsLegalRecHead head
IsNext p pages end next (Rest blank) = (end ≤ next) × (next ≤ pages)

-- a log that is loaded takes no records
pub record IsLoad (s : LogState) (load : Load) : Type 0 where
  pub tail : s.tail ≡ Closed
  pub format : IsFormat s.format
  pub next : IsNext s.geometry.page (pages_in s) s.end load.next load.awaited

-- the log of a bank of a format, of which no record was seen
abbrev pub load_begun : LogState → ℕ → ℕ → LogState
load_begun s bank format = record (erased_state s.geometry s.banks bank s.numbers) { format = format; tail = Closed }

-- and the log behind one more record, which begins where it ended: its number has it where it is committed
abbrev pub with_record : LogState → RecHead → Bool → LogState
with_record s h committed = record s { places = if committed then noted s.numbers s.places s.end h else s.places; end = s.end + pages_of_head s.geometry.page h }

-- WHAT WAS SEEN
-- the log is one of this bank, wherever that stands
pub record IsOfBank (s : LogState) (b : Bank) : Type 0 where
  pub page : b.page ≡ s.geometry.page
  pub pages : b.pages ≡ pages_in s
  pub format : b.format ≡ s.format

-- the pages of a bank from one on are these
abbrev pub HasPages : Bank → List ℕ → ℕ → List ℕ → Type 0
HasPages b bytes from own = (q : ℕ) → (q + 1) * b.page ≤ length own → page_of b bytes (from + q) ≡ page_of (own_bank b.page 2 1) own q

-- of a bank's bytes: a header or none, and whether that page is blank; a record's header and its header gate; or that no
-- record stands there, and whether all pages from there on that were seen are blank
abbrev pub IsSeen : Bank → List ℕ → ℕ → ℕ → Awaited → Type 0
IsSeen b bytes end next Header = Unit {0}
IsSeen b bytes end next (Gate head blank) =
    MatchOption head (IsNoRecHead b.format b.page (page_of b bytes end)) (λ h. IsRecHead b.format b.page (page_of b bytes end) h)
    × (IsTrue blank ↔ (page_of b bytes end ≡ blank_page b.page))
IsSeen b bytes end next (Commit head) = HasHead b bytes end head × IsGate b.page (page_of b bytes (end + 1))
IsSeen b bytes end next (Rest blank) =
    Stops b bytes end × (IsTrue blank ↔ ((q : ℕ) → end ≤ q → q < next → page_of b bytes q ≡ blank_page b.page))

-- so far the log has the places of a bank's first records and the page behind them
pub record HasTaken (b : Bank) (bytes : List ℕ) (s : LogState) : Type 0 where
  pub taken : List Rec
  pub all : taken ++ records_left b bytes s.end ≡ records_of b bytes
  pub places : s.places ≡ places_of s.numbers taken
  pub ends : end_after b.page s.end (records_left b bytes s.end) ≡ end_of b bytes

-- and this was seen behind them
pub record IsLoading (b : Bank) (bytes : List ℕ) (s : LogState) (load : Load) : Type 0 where
  pub first : HasTaken b bytes s
  pub seen : IsSeen b bytes s.end load.next load.awaited

-- WHAT IS LOADED
-- closed exactly where the bank is: its format isn't the one that is written, or its tail isn't blank
abbrev pub IsTailOf : Bank → List ℕ → Tail → Type 0
IsTailOf b bytes Open = (b.format ≡ new_format) × IsTailBlank b bytes (end_of b bytes)
IsTailOf b bytes Closed = IsClosed b bytes (end_of b bytes)
IsTailOf b bytes _ = ⊥

-- the log of a bank in these bytes
pub record IsLoaded (b : Bank) (bytes : List ℕ) (s : LogState) : Type 0 where
  pub places : s.places ≡ places_of s.numbers (records_of b bytes)
  pub end : s.end ≡ end_of b bytes
  pub tail : IsTailOf b bytes s.tail
