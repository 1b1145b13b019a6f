-- The banks share the flash.
use Rattle.std.proofs.Common.{◌≡◌, inl, inr, ℕ, suc, ◌≤◌, ◌+◌, ◌*◌, ◌/◌, ◌%◌, sym, ap, ◌∙◌, arith}
use Rattle.std.proofs.lemmas.Nat.{le-div, mul-le}
use Rattle.std.proofs.lemmas.Bool.{cases_lt}
use Rattle.std.proofs.Math.Nat.{div-add-mod, mul_comm, mul-div_cancel, mul-le-mul_right}
use Rattle.nv_base.specs.declared.geometry.Geometry.{Geometry}
use Rattle.nv_base.specs.Geometry.{IsLegal, HasBanks, BanksFill, PagesLieInside, pages_of_sector, sectors_of_bank, pages_of_bank, size_of_bank}

-- a number of whole parts
pub parts : (n d : ℕ) → n % d ≡ 0 → n ≡ n / d * d
parts n d whole = omega (arith, div-add-mod n d, mul_comm d (n / d), whole)

-- the bytes of the flash are those of the pages of its banks' sectors
size_in_pages : (g : Geometry) (banks : ℕ) → IsLegal g → HasBanks g banks → g.sector * g.sectors ≡ pages_of_sector g * sectors_of_bank g banks * g.page * banks
size_in_pages g banks legal has =
    let k = pages_of_sector g in
    let m = sectors_of_bank g banks in
    let sector : g.sector ≡ k * g.page = parts g.sector g.page legal.whole_pages in
    let sectors : g.sectors ≡ m * banks = parts g.sectors banks has.whole in
    ap (λ (x : ℕ). x * g.sectors) sector ∙ ap (λ (x : ℕ). k * g.page * x) sectors ∙ (let e : k * g.page * (m * banks) ≡ k * m * g.page * banks = grind arith in e)

-- pages of a bank: those of its sectors
pub pages_product : (g : Geometry) (banks : ℕ) → IsLegal g → HasBanks g banks → pages_of_bank g banks ≡ pages_of_sector g * sectors_of_bank g banks
pages_product g banks legal has =
    let pages = pages_of_sector g * sectors_of_bank g banks in
    let one : g.sector * g.sectors / banks ≡ pages * g.page = ap (λ (x : ℕ). x / banks) (size_in_pages g banks legal has) ∙ mul-div_cancel (pages * g.page) (omega (arith, has.low)) in
    ap (λ (x : ℕ). x / g.page) one ∙ mul-div_cancel pages (omega (arith, legal.page_low))

-- a bank has four pages at least: those of one sector
pub four_pages : (g : Geometry) (banks : ℕ) → IsLegal g → HasBanks g banks → (4 ≤ pages_of_sector g) × (1 ≤ sectors_of_bank g banks) × (4 ≤ pages_of_bank g banks)
four_pages g banks legal has =
    let sector : 4 ≤ pages_of_sector g = le-div 4 g.sector g.page (omega (arith, legal.page_low)) legal.sector_low in
    let sectors = parts g.sectors banks has.whole in
    let some : 1 ≤ sectors_of_bank g banks = elim (cases_lt (sectors_of_bank g banks) 1) [
      | inl few ↦ absurd (let z = mul-le-mul_right banks (let s : sectors_of_bank g banks ≤ 0 = omega arith in s) in omega (arith, z, sectors, legal.sectors_low))
      | inr some ↦ some
    ] in
    let product = mul-le 4 1 (pages_of_sector g) (sectors_of_bank g banks) sector some in
    (sector, some, omega (arith, product, pages_product g banks legal has))

pub banks_fill : BanksFill
banks_fill g banks legal has =
    (ap (λ (x : ℕ). x * g.page * banks) (pages_product g banks legal has) ∙ sym (size_in_pages g banks legal has), (four_pages g banks legal has).2)

-- the bytes of a bank are those of its pages
pub size_is : (g : Geometry) (banks : ℕ) → IsLegal g → HasBanks g banks → size_of_bank g banks ≡ pages_of_bank g banks * g.page
size_is g banks legal has =
    let k = pages_of_sector g in
    let m = sectors_of_bank g banks in
    let sector : g.sector ≡ k * g.page = parts g.sector g.page legal.whole_pages in
    ap (λ (x : ℕ). m * x) sector ∙ (let e : m * (k * g.page) ≡ k * m * g.page = grind arith in e) ∙ sym (ap (λ (x : ℕ). x * g.page) (pages_product g banks legal has))

pub pages_lie_inside : PagesLieInside
pages_lie_inside g banks bank page n legal has lt le =
    let B = pages_of_bank g banks in
    let one : suc bank * B ≤ banks * B = mul-le-mul_right B (let s : suc bank ≤ banks = omega arith in s) in
    let next : suc bank * B ≡ bank * B + B = omega arith in
    let most : bank * B + page + n ≤ banks * B = omega (arith, one, next, le) in
    let times = mul-le-mul_right g.page most in
    let left : (bank * B + page + n) * g.page ≡ (bank * B + page) * g.page + n * g.page = grind arith in
    let right : banks * B * g.page ≡ B * g.page * banks = grind arith in
    omega (arith, times, left, right, (banks_fill g banks legal has).0)
