-- Records as a reader sees them.
use Rattle.std.specs.Prelude.{◌≡◌, ◌≤◌, ◌+◌, ◌*◌, ◌^◌, ℕ, true, List, [], ◌∷◌, length, take, Option, Some, None}
use Rattle.fee_format.specs.Pages.{body_pages_of}
use Rattle.fee_image.specs.Bank.{Bank, pages_from}
use Rattle.fee_image.specs.RecordList.{Rec, pages_of_head, records_left}
use Rattle.fee_view.specs.declared.record.Record.{Record}
use Rattle.fee_view.specs.declared.record.Seen.{Seen}

-- the record that was seen at a page, with its content
abbrev pub rec_seen : Bank → List ℕ → ℕ → Seen → Rec
rec_seen b bytes at s =
    record { at = at; head = s.head; committed = s.committed; payload = take s.head.length (pages_from b bytes (at + 2) (body_pages_of s.head.length b.page)) }

-- the record that an item is
abbrev pub rec_shown : Record → Rec
rec_shown r = record {
  at = r.at;
  head = record { number = r.number; kind = r.kind; length = length r.payload.now; count = r.count };
  committed = r.committed;
  payload = r.payload.now;
}

-- a walk over a bank's records: its bytes, and the page that comes next
pub record Walk : Type 0 where
  pub bytes : List ℕ
  pub bank : Bank
  pub at : ℕ

-- the records that are left
abbrev pub records_in : Walk → List Rec
records_in w = records_left w.bank w.bytes w.at

-- the same walk behind a record
abbrev pub behind : Walk → Rec → Walk
behind w r = record w { at = w.at + pages_of_head w.bank.page r.head }

-- the next record is given, one of the list, and the walk goes on behind it, or none is left
abbrev pub GivesRecord : Walk → Option Record → Walk → Type 0
GivesRecord old None new = (records_in old ≡ []) × (new ≡ old)
GivesRecord old (Some r) new = (records_in old ≡ rec_shown r ∷ records_in new) × (r.trusted ≡ true) × (new ≡ behind old (rec_shown r))

-- it stays within its bank
pub record IsWalk (w : Walk) : Type 0 where
  pub low : 16 ≤ w.bank.page
  pub high : w.bank.page ≤ 256
  pub whole : w.bank.pages * w.bank.page ≤ length w.bytes
  pub most : length w.bytes ≤ 2 ^ 22
  pub few : w.bank.pages ≤ 2 ^ 22
  pub place : w.at ≤ w.bank.pages
