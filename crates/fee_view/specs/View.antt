-- A bank in bytes of its own.
use Rattle.std.specs.Prelude.{◌≡◌, ◌≤◌, ◌*◌, ℕ, List, length}
use Rattle.nv_base.specs.Geometry.{IsPageSize}
use Rattle.fee_format.specs.declared.bank_head.BankHead.{BankHead}
use Rattle.fee_image.specs.Bank.{Bank}
use Rattle.fee_image.specs.RecordList.{StandsAs}

-- a bank of so many pages of p bytes, in bytes of its own
abbrev pub own_bank : ℕ → ℕ → ℕ → Bank
own_bank p pages format = record { page = p; pages = pages; format = format; at = 0 }

pub record View : Type 0 where
  pub bytes : List ℕ
  pub page : ℕ
  pub pages : ℕ
  pub head : BankHead

abbrev pub bank_of : View → Bank
bank_of v = own_bank v.page v.pages v.head.format

-- what holds of each view: whole pages of a legal size, and the bank stands
pub record IsView (v : View) : Type 0 where
  pub page : IsPageSize v.page
  pub whole : v.pages * v.page ≡ length v.bytes
  pub two : 2 ≤ v.pages
  pub most : length v.bytes ≤ 4194304
  pub stands : StandsAs (bank_of v) v.bytes v.head
