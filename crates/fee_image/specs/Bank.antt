-- One bank and its pages.
use Rattle.std.specs.Prelude.{ℕ, zero, suc, ◌+◌, ◌*◌, List, [], ◌++◌}
use Rattle.fee_format.specs.Pages.{page_at}

pub record Bank : Type 0 where
  -- bytes of a page
  pub page : ℕ
  -- how many pages it has
  pub pages : ℕ
  -- how its records are written, as its head says
  pub format : ℕ
  -- the page of the bytes at which it begins: 0 where they are its own, its place where they are a whole image
  pub at : ℕ

-- where page q of a bank begins, in bytes
abbrev pub place_of_page : Bank → ℕ → ℕ
place_of_page b q = (b.at + q) * b.page

-- what stands on page q of a bank
abbrev pub page_of : Bank → List ℕ → ℕ → List ℕ
page_of b bytes q = page_at b.page bytes (b.at + q)

-- n pages from page q on, one after another
abbrev pub pages_from : Bank → List ℕ → ℕ → ℕ → List ℕ
pages_from b bytes q zero = []
pages_from b bytes q (suc n) = page_of b bytes q ++ pages_from b bytes (suc q) n

-- a bank of a page that begins elsewhere
abbrev pub moved : Bank → ℕ → Bank
moved b at = record { page = b.page; pages = b.pages; format = b.format; at = at }
