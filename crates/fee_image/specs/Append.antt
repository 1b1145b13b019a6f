-- An append on a bank's pages, and what is left of it. Which record an append begins, with which count, says Log of fee_log (`head_next`).
use Rattle.std.specs.Prelude.{◌≡◌, ◌⊎◌, ◌<◌, ◌≤◌, ◌+◌, ◌++◌, ◌∷◌, [], if◌then◌else◌, ℕ, IsTrue, List, true, length, Some}
use Rattle.fee_format.specs.declared.rec_head.RecHead.{RecHead}
use Rattle.fee_format.specs.Formats.{new_format}
use Rattle.fee_format.specs.Pages.{blank_page}
use Rattle.fee_format.specs.RecHead.{IsLegalRecHead}
use Rattle.fee_format.specs.RecordPages.{record_page}
use Rattle.fee_image.specs.Bank.{Bank, page_of}
use Rattle.fee_image.specs.RecordList.{Rec, Walks, IsLog, pages_of_head}
use Rattle.fee_image.specs.Found.{IsFound, last_held, last_record, counts}
use Rattle.nv_base.specs.Held.{Held}

-- the record of a header and a content at a page once it is committed
abbrev pub whole : ℕ → RecHead → List ℕ → Rec
whole at h body = record { at = at; head = h; committed = true; payload = body }

-- k pages of a record stand behind these records, and all else is blank
pub record Staged (b : Bank) (bytes : List ℕ) (records : List Rec) (end : ℕ) (h : RecHead) (body : List ℕ) (k : ℕ) : Type 0 where
  pub format : b.format ≡ new_format
  pub front : Walks b bytes 2 records end
  pub legal : IsLegalRecHead h
  pub size : length body ≡ h.length
  pub room : end + pages_of_head b.page h ≤ b.pages
  pub written : (j : ℕ) → j < k → page_of b bytes (end + j) ≡ record_page b.page h body j
  pub blank : (q : ℕ) → end + k ≤ q → q < b.pages → page_of b bytes q ≡ blank_page b.page

-- the bank's pages differ in page q alone
abbrev pub Touches : Bank → ℕ → List ℕ → List ℕ → Type 0
Touches b q old new = (j : ℕ) → j < b.pages → (j ≡ q → ⊥) → page_of b new j ≡ page_of b old j

-- WHAT A PAGE OF AN APPEND LEAVES
-- no more than before: the log's end is where the record began. So it may be in its header and its header gate alone
abbrev pub IsNoMore : Bank → List ℕ → List Rec → ℕ → ℕ → Type 0
IsNoMore b bytes records end k = (k < 2) × IsLog b bytes records end

-- or one more record with this header, committed only where its last page was programmed, and then with its content
pub record IsOneMore (b : Bank) (bytes : List ℕ) (records : List Rec) (end : ℕ) (h : RecHead) (body : List ℕ) (k : ℕ) : Type 0 where
  pub last : Rec
  pub at : last.at ≡ end
  pub head : last.head ≡ h
  pub committed : IsTrue last.committed → (k + 1 ≡ pages_of_head b.page h) × (last ≡ whole end h body)
  pub log : IsLog b bytes (records ++ last ∷ []) (end + pages_of_head b.page h)

-- whatever stands on the page that an append programs, done, failed, cut or given up
abbrev pub AppendsLeaveOneMore : Type 0
AppendsLeaveOneMore =
    (b : Bank) (old new : List ℕ) (records : List Rec) (end : ℕ) (h : RecHead) (body : List ℕ) (k : ℕ)
    → 16 ≤ b.page → Staged b old records end h body k → k < pages_of_head b.page h → Touches b (end + k) old new
    → IsNoMore b new records end k ⊎ IsOneMore b new records end h body k

-- a number has what these records show or, at a record's last page, with this record behind them
abbrev pub IsOldOrNew : ℕ → List Rec → ℕ → RecHead → List ℕ → ℕ → ℕ → ℕ → Held → Type 0
IsOldOrNew p records end h body k number length held =
    (held ≡ last_held number length records)
    ⊎ ((k + 1 ≡ pages_of_head p h) × (held ≡ last_held number length (records ++ whole end h body ∷ [])))

-- so each number is found as before or, at the record's last page, as after it
abbrev pub CutsOfAppend : Type 0
CutsOfAppend =
    (b : Bank) (old new : List ℕ) (records : List Rec) (end : ℕ) (h : RecHead) (body : List ℕ) (k : ℕ)
    → 16 ≤ b.page → Staged b old records end h body k → k < pages_of_head b.page h → Touches b (end + k) old new
    → (number length : ℕ) (held : Held) → IsFound b new number length held → IsOldOrNew b.page records end h body k number length held

-- WHAT A DONE PAGE LEAVES
-- one page more of the record stands
abbrev pub AppendsGoOn : Type 0
AppendsGoOn =
    (b : Bank) (old new : List ℕ) (records : List Rec) (end : ℕ) (h : RecHead) (body : List ℕ) (k : ℕ)
    → Staged b old records end h body k → k < pages_of_head b.page h → Touches b (end + k) old new → page_of b new (end + k) ≡ record_page b.page h body k
    → Staged b new records end h body (k + 1)

-- where all pages of a record stand, the record is the last one of the bank's record list
abbrev pub WholeIsLast : Type 0
WholeIsLast =
    (b : Bank) (bytes : List ℕ) (records : List Rec) (end : ℕ) (h : RecHead) (body : List ℕ)
    → 16 ≤ b.page → Staged b bytes records end h body (pages_of_head b.page h)
    → IsLog b bytes (records ++ whole end h body ∷ []) (end + pages_of_head b.page h)

-- one record more is the last one of the numbers that it counts for, and changes no other
abbrev pub LastIsNew : Type 0
LastIsNew =
    (number length : ℕ) (records : List Rec) (r : Rec)
    → last_record number length (records ++ r ∷ []) ≡ (if counts number length r then Some r else last_record number length records)
