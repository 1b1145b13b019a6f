-- The shapes of flash that the stack takes, and their sums.
use Rattle.std.specs.Prelude.{◌≡◌, ℕ, ◌<◌, ◌+◌, ◌*◌, ◌%◌, ◌/◌, ◌≤◌, [], ◌∷◌, Contains}
use Rattle.nv_base.specs.declared.geometry.Geometry.{Geometry}

-- bytes of the whole flash
abbrev pub size_of : Geometry → ℕ
size_of g = g.sector * g.sectors

-- pages of one sector
abbrev pub pages_of_sector : Geometry → ℕ
pages_of_sector g = g.sector / g.page

-- OF ONE OF SO MANY BANKS

abbrev pub sectors_of_bank : Geometry → ℕ → ℕ
sectors_of_bank g banks = g.sectors / banks

abbrev pub pages_of_bank : Geometry → ℕ → ℕ
pages_of_bank g banks = g.sector * g.sectors / banks / g.page

abbrev pub size_of_bank : Geometry → ℕ → ℕ
size_of_bank g banks = g.sectors / banks * g.sector

-- the address of a page of a bank
abbrev pub address_of_page : Geometry → ℕ → ℕ → ℕ → ℕ
address_of_page g banks bank page = (bank * pages_of_bank g banks + page) * g.page

-- LEGAL SHAPES

pub record IsPageSize (page : ℕ) : Type 0 where
  pub size : Contains (16 ∷ 32 ∷ 64 ∷ 128 ∷ 256 ∷ []) page
  pub low : 16 ≤ page
  pub high : page ≤ 256

-- a legal shape
pub record IsLegal (g : Geometry) : Type 0 where
  pub page : Contains (16 ∷ 32 ∷ 64 ∷ 128 ∷ 256 ∷ []) g.page
  pub page_low : 16 ≤ g.page
  pub page_high : g.page ≤ 256
  pub whole_pages : g.sector % g.page ≡ 0
  pub sector_low : 4 * g.page ≤ g.sector
  pub sector_high : g.sector ≤ 65536
  pub halves : g.sectors % 2 ≡ 0
  pub sectors_low : 2 ≤ g.sectors
  pub sectors_high : g.sectors ≤ 64
  pub size : size_of g ≤ 4194304

-- so many banks share its sectors equally
pub record HasBanks (g : Geometry) (banks : ℕ) : Type 0 where
  pub low : 2 ≤ banks
  pub high : banks ≤ 8
  pub whole : g.sectors % banks ≡ 0

-- LAWS

-- the pages of all banks fill the flash, and each bank has four at least
abbrev pub BanksFill : Type 0
BanksFill = (g : Geometry) (banks : ℕ) → IsLegal g → HasBanks g banks → (pages_of_bank g banks * g.page * banks ≡ size_of g) × (4 ≤ pages_of_bank g banks)

-- n pages of a bank, from a page on, lie in the flash
abbrev pub PagesLieInside : Type 0
PagesLieInside = (g : Geometry) (banks bank page n : ℕ)
    → IsLegal g → HasBanks g banks → bank < banks → page + n ≤ pages_of_bank g banks → address_of_page g banks bank page + n * g.page ≤ size_of g
