-- Laws of a log and its bank's pages, for the layers above.
use Rattle.std.specs.Prelude.{◌≡◌, ◌⊎◌, ◌<◌, ◌≤◌, ◌+◌, ℕ, List, Some, slice_get}
use Rattle.nv_base.specs.declared.instance.DeviceNumber.{DeviceNumber}
use Rattle.fee_format.specs.declared.rec_head.RecHead.{RecHead}
use Rattle.fee_format.specs.Formats.{new_format}
use Rattle.fee_format.specs.Pages.{blank_page}
use Rattle.fee_image.specs.Append.{Touches}
use Rattle.fee_image.specs.Bank.{Bank, page_of, moved}
use Rattle.fee_image.specs.Found.{last_held, last_record}
use Rattle.nv_base.specs.Held.{never_written}
use Rattle.fee_image.specs.RecordList.{Rec, Walks, IsTailBlank, records_of, end_of, pages_of_head}
use Rattle.fee_image.specs.declared.place.Place.{Place}
use Rattle.fee_image.specs.May.{May, IsAmong, IsWider, MayCommit, exactly, doubting}
use Rattle.fee_image.specs.Log.{Tail, Open, Writes, Closed, Log, free_of, HoldsLog}
use Rattle.fee_image.specs.Places.{held_at, place_shown, places_of, erased_places, IsWithin, ArePlaced}
use Rattle.fee_image.specs.Step.{IsRecord, IsDue, log_begun, page_due, bytes_due, log_done, may_done, log_failed, log_given_up}

-- STEPS
-- whatever stands on the page that was to be programmed, failed or cut: the log after a failure, and as all that a bank
-- with a log shows may be found, the promise of a cut
abbrev pub FailedStepsHold : Type 0
FailedStepsHold =
    (b : Bank) (numbers : List (DeviceNumber × ℕ)) (old new : List ℕ) (may : May) (log : Log)
    → 16 ≤ b.page → HoldsLog b numbers old may log → IsDue log.tail → Touches b (page_due log) old new → HoldsLog b numbers new may (log_failed b.page log)

-- a page that is done
abbrev pub DoneStepsHold : Type 0
DoneStepsHold =
    (b : Bank) (numbers : List (DeviceNumber × ℕ)) (old new : List ℕ) (may : May) (log : Log)
    → 16 ≤ b.page → HoldsLog b numbers old may log → IsDue log.tail
    → Touches b (page_due log) old new → page_of b new (page_due log) ≡ bytes_due b.page log
    → HoldsLog b numbers new (may_done b.page may log) (log_done b.page numbers log)

-- the page that is to be programmed is blank, and lies in the bank behind head and gate
pub record IsFresh (b : Bank) (bytes : List ℕ) (q : ℕ) : Type 0 where
  pub low : 2 ≤ q
  pub high : q < b.pages
  pub blank : page_of b bytes q ≡ blank_page b.page

abbrev pub NextIsFresh : Type 0
NextIsFresh =
    (b : Bank) (numbers : List (DeviceNumber × ℕ)) (bytes : List ℕ) (may : May) (log : Log)
    → HoldsLog b numbers bytes may log → IsDue log.tail → IsFresh b bytes (page_due log)

-- IN MEMORY ALONE
abbrev pub RecordsBegin : Type 0
RecordsBegin =
    (b : Bank) (numbers : List (DeviceNumber × ℕ)) (bytes : List ℕ) (may : May) (log : Log) (h : RecHead) (body : List ℕ)
    → HoldsLog b numbers bytes may log → log.tail ≡ Open → IsRecord b log.end h body → MayCommit may h body
    → HoldsLog b numbers bytes may (log_begun log h body)

-- a record has room where it takes no more than the free pages
abbrev pub FreePagesAreRoom : Type 0
FreePagesAreRoom = (b : Bank) (log : Log) (h : RecHead) → log.tail ≡ Open → pages_of_head b.page h ≤ free_of b log → log.end + pages_of_head b.page h ≤ b.pages

abbrev pub GivenUpHolds : Type 0
GivenUpHolds =
    (b : Bank) (numbers : List (DeviceNumber × ℕ)) (bytes : List ℕ) (may : May) (log : Log)
    → 16 ≤ b.page → HoldsLog b numbers bytes may log → HoldsLog b numbers bytes may (log_given_up b.page log)

-- more may be found
abbrev pub LogsWiden : Type 0
LogsWiden =
    (b : Bank) (numbers : List (DeviceNumber × ℕ)) (bytes : List ℕ) (may wide : May) (log : Log)
    → IsWider may wide → HoldsLog b numbers bytes may log → HoldsLog b numbers bytes wide log

-- the mark of a record in work may be found
abbrev pub HasWork : May → Tail → Type 0
HasWork more (Writes h body done) = MayCommit more h body
HasWork more _ = Unit {0}

-- whatever was known of what may be found: what the bank shows, the marks at the places and the record in work's are
-- enough
abbrev pub LogsTighten : Type 0
LogsTighten =
    (b : Bank) (numbers : List (DeviceNumber × ℕ)) (bytes : List ℕ) (may more : May) (log : Log)
    → HoldsLog b numbers bytes may log → ArePlaced b bytes more log.end numbers log.places → HasWork more log.tail
    → HoldsLog b numbers bytes (doubting b bytes more) log

-- WHAT A LOG READS
-- its own bank's pages behind the head and the gate alone, wherever the bank begins
abbrev pub LogsStay : Type 0
LogsStay =
    (b : Bank) (numbers : List (DeviceNumber × ℕ)) (old new : List ℕ) (at : ℕ) (may : May) (log : Log)
    → 16 ≤ b.page → ((q : ℕ) → 2 ≤ q → q < b.pages → page_of (moved b at) new q ≡ page_of b old q)
    → HoldsLog b numbers old may log → HoldsLog (moved b at) numbers new may log

-- STARTS
-- the log that is loaded from a bank: its records' end, their places, and open where its tail is blank
abbrev pub loaded_log : Bank → List (DeviceNumber × ℕ) → List ℕ → Tail → Log
loaded_log b numbers bytes tail = record { end = end_of b bytes; tail = tail; places = places_of numbers (records_of b bytes) }

abbrev pub IsLoadedTail : Bank → List ℕ → Tail → Type 0
IsLoadedTail b bytes tail = ((tail ≡ Open) × (b.format ≡ new_format) × IsTailBlank b bytes (end_of b bytes)) ⊎ (tail ≡ Closed)

-- nothing but what the bank shows may be found
abbrev pub LoadedLogsHold : Type 0
LoadedLogsHold =
    (b : Bank) (numbers : List (DeviceNumber × ℕ)) (bytes : List ℕ) (tail : Tail)
    → 16 ≤ b.page → 2 ≤ b.pages → IsLoadedTail b bytes tail → HoldsLog b numbers bytes (exactly b bytes) (loaded_log b numbers bytes tail)

-- the log of a bank whose pages behind the gate are blank
abbrev pub erased_log : List (DeviceNumber × ℕ) → Log
erased_log numbers = record { end = 2; tail = Open; places = erased_places numbers }

-- where each number may be erased
abbrev pub ErasedLogsHold : Type 0
ErasedLogsHold =
    (b : Bank) (numbers : List (DeviceNumber × ℕ)) (bytes : List ℕ) (may : May)
    → 16 ≤ b.page → 2 ≤ b.pages → IsTailBlank b bytes 2 → ((number length : ℕ) → IsAmong (may number length) never_written)
    → HoldsLog b numbers bytes may (erased_log numbers)

-- PLACES
-- the place of the last record that counts shows that record's mark
abbrev pub PlacesShowLast : Type 0
PlacesShowLast =
    (b : Bank) (bytes : List ℕ) (number length : ℕ) (records : List Rec) (end : ℕ)
    → 16 ≤ b.page → Walks b bytes 2 records end → held_at b bytes length (place_shown (last_record number length records)) ≡ last_held number length records

-- the place of the number at an index
pub record IsPlaced (b : Bank) (bytes : List ℕ) (may : May) (end : ℕ) (n : DeviceNumber × ℕ) (places : List Place) (i : ℕ) : Type 0 where
  pub place : Place
  pub is : slice_get places i ≡ Some place
  pub within : IsWithin b.page end n.1 place
  pub among : IsAmong (may n.0.0 n.1) (held_at b bytes n.1 place)

abbrev pub EachIsPlaced : Type 0
EachIsPlaced =
    (b : Bank) (bytes : List ℕ) (may : May) (end i : ℕ) (numbers : List (DeviceNumber × ℕ)) (places : List Place) (n : DeviceNumber × ℕ)
    → ArePlaced b bytes may end numbers places → slice_get numbers i ≡ Some n → IsPlaced b bytes may end n places i

-- where the pages before an end are as they were, what is read at a place before it is too
abbrev pub PlacesStay : Type 0
PlacesStay =
    (b : Bank) (old new : List ℕ) (at end length : ℕ) (place : Place)
    → 16 ≤ b.page → ((q : ℕ) → 2 ≤ q → q < end → page_of (moved b at) new q ≡ page_of b old q)
    → IsWithin b.page end length place → held_at (moved b at) new length place ≡ held_at b old length place
