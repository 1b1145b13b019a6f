-- The text of an image.
use Rattle.std.specs.Prelude.{ℕ, zero, suc, ◌-◌, ◌==◌, ◌&&◌, Bool, true, if◌then◌else◌, List, [], ◌++◌, codes, Option, Some, None}
use Rattle.std.specs.Fmt.{decimal}
use Rattle.std.specs.List.{flat_map}
use Rattle.std.specs.Str.{bytes_eq}
use Rattle.fee_format.specs.declared.bank_head.BankHead.{BankHead}
use Rattle.fee_format.specs.Formats.{new_format}
use Rattle.fee_format.specs.Pages.{blank_page}
use Rattle.fee_format.specs.RecHead.{kind_byte}
use Rattle.fee_image.specs.Bank.{Bank, page_of}
use Rattle.fee_image.specs.Image.{Layout, bank_in, head_of_bank, active_of}
use Rattle.fee_image.specs.RecordList.{Rec, records_of, end_of}

-- A RECORD

abbrev pub commit_text : Bool → List ℕ
commit_text committed = if committed then codes "committed" else codes "abandoned"

abbrev pub numbers_line : ℕ → ℕ → ℕ → ℕ → List ℕ → List ℕ
numbers_line at number kind length commit =
    codes "at " ++ (decimal at ++ (codes " number " ++ (decimal number ++ (codes " kind " ++ (decimal kind ++ (codes " length " ++ (decimal length ++ (codes " " ++ (commit ++ codes "\n")))))))))

-- the count of a record
abbrev pub counted_text : ℕ → List ℕ → List ℕ
counted_text count commit = codes "count " ++ (decimal count ++ (codes " " ++ commit))

-- the page of its bank where its header stands, what the header says in the bank's format, and whether its commit gate is open
abbrev pub record_line : ℕ → Rec → List ℕ
record_line format r = numbers_line r.at r.head.number.0 (kind_byte r.head.kind) r.head.length
    (if format == new_format then counted_text r.head.count (commit_text r.committed) else commit_text r.committed)

-- THE TAIL

-- n pages of a bank from page q on are blank
abbrev pub are_blank : Bank → List ℕ → ℕ → ℕ → Bool
are_blank b bytes q zero = true
are_blank b bytes q (suc n) = bytes_eq (page_of b bytes q) (blank_page b.page) && are_blank b bytes (suc q) n

-- all pages behind the last record are
abbrev pub has_blank_tail : Bank → List ℕ → Bool
has_blank_tail b bytes = are_blank b bytes (end_of b bytes) (b.pages - end_of b bytes)

abbrev pub tail_line : Bool → List ℕ
tail_line blank = if blank then codes "tail blank\n" else codes "tail used\n"

-- A BANK

abbrev pub none_line : ℕ → List ℕ
none_line k = codes "bank " ++ (decimal k ++ codes " none\n")

abbrev pub head_line : ℕ → BankHead → List ℕ
head_line k h = codes "bank " ++ (decimal k ++ (codes " format " ++ (decimal h.format ++ (codes " generation " ++ (decimal h.generation ++ codes "\n")))))

-- what stands behind the head of a bank: its records in order, and its tail
abbrev pub log_text : ℕ → List Rec → Bool → List ℕ
log_text format records blank = flat_map (record_line format) records ++ tail_line blank

-- bank k, by the head with which it stands
abbrev pub bank_text : Layout → List ℕ → ℕ → Option BankHead → List ℕ
bank_text l bytes k None = none_line k
bank_text l bytes k (Some h) = head_line k h ++ log_text h.format (records_of (bank_in l h.format k) bytes) (has_blank_tail (bank_in l h.format k) bytes)

-- AN IMAGE

-- the first n banks, one after another
abbrev pub banks_text : Layout → List ℕ → ℕ → List ℕ
banks_text l bytes zero = []
banks_text l bytes (suc k) = banks_text l bytes k ++ bank_text l bytes k (head_of_bank l bytes k)

-- which bank is active, if one is
abbrev pub active_line : Option (ℕ × BankHead) → List ℕ
active_line None = codes "active none\n"
active_line (Some x) = codes "active " ++ (decimal x.0 ++ codes "\n")

-- each bank, and the active one
abbrev pub dump_text : Layout → List ℕ → List ℕ
dump_text l bytes = banks_text l bytes l.banks ++ active_line (active_of l bytes)
