-- Laws of what a start-up reads, for the layers above.
use Rattle.std.specs.Prelude.{◌≡◌, ◌≤◌, ◌*◌, ℕ, List, Option, length, MatchOption}
use Rattle.fls_model.specs.Bytes.{piece}
use Rattle.fee_format.specs.declared.bank_head.BankHead.{BankHead}
use Rattle.fee_image.specs.Bank.{Bank, place_of_page}
use Rattle.fee_image.specs.RecordList.{StandsAs, StandsNot}
use Rattle.fee_image.specs.Image.{Layout, bank_in, head_of_bank}
use Rattle.fee_log.specs.Load.{HasPages}
use Rattle.fee_view.specs.View.{own_bank}

-- a bank stands by its first pages with the head with which it stands in the flash, or by neither
abbrev pub HeadsAreRead : Type 0
HeadsAreRead =
    (l : Layout) (bytes own : List ℕ) (k : ℕ) (head : Option BankHead)
    → 2 * l.page ≤ length own → HasPages (bank_in l 1 k) bytes 0 own
    → MatchOption head (StandsNot (own_bank l.page 2 1) own) (λ h. StandsAs (own_bank l.page 2 1) own h)
    → head_of_bank l bytes k ≡ head

-- a piece of the flash's bytes from a page of a bank on has its pages
abbrev pub PagesAreRead : Type 0
PagesAreRead = (b : Bank) (bytes own : List ℕ) (from : ℕ) → own ≡ piece (place_of_page b from) (length own) bytes → HasPages b bytes from own
