-- The sectors and pages of banks that share a flash.
use Rattle.std.proofs.Common.{◌≡◌, inl, inr, ◌≤◌, ℕ, suc, ◌+◌, ◌*◌, ◌/◌, sym, ap, ◌∙◌, arith}
use Rattle.std.proofs.lemmas.Bool.{cases_lt}
use Rattle.std.proofs.Math.Nat.{div-add-mod, mul_comm, mul-div_cancel, mul-le-mul_right}
use Rattle.nv_base.specs.declared.geometry.Geometry.{Geometry}
use Rattle.nv_base.specs.Geometry.{IsLegal, HasBanks}
use Rattle.fee_image.specs.Image.{layout_of}
use Rattle.fee_image.specs.Laws.{LayoutsAreLegal, SectorsLieInBanks, SectorsHavePages, SectorsFillBanks}

-- a sector is whole pages, and a bank whole sectors
record Shape (g : Geometry) (n : ℕ) : Type 0 where
  sector : g.sector ≡ g.sector / g.page * g.page
  sectors : g.sectors ≡ g.sectors / n * n
  pages : (layout_of g n).pages ≡ g.sectors / n * (g.sector / g.page)
  size : (layout_of g n).pages * g.page ≡ g.sectors / n * g.sector

shape : (g : Geometry) (n : ℕ) → IsLegal g → HasBanks g n → Shape g n
shape g n legal shared =
    let k = g.sector / g.page in
    let m = g.sectors / n in
    let turn : g.page * k ≡ k * g.page = mul_comm g.page k in
    let turn2 : n * m ≡ m * n = mul_comm n m in
    let sector : g.sector ≡ k * g.page = omega (arith, div-add-mod g.sector g.page, legal.whole_pages, turn) in
    let sectors : g.sectors ≡ m * n = omega (arith, div-add-mod g.sectors n, shared.whole, turn2) in
    let size : g.sector * g.sectors ≡ k * m * g.page * n = ap (λ (x : ℕ). x * g.sectors) sector ∙ ap (λ (x : ℕ). k * g.page * x) sectors ∙ (let e : k * g.page * (m * n) ≡ k * m * g.page * n = grind arith in e) in
    let one : g.sector * g.sectors / n ≡ k * m * g.page = ap (λ (x : ℕ). x / n) size ∙ mul-div_cancel (k * m * g.page) (omega (arith, shared.low)) in
    let pages : (layout_of g n).pages ≡ k * m = ap (λ (x : ℕ). x / g.page) one ∙ mul-div_cancel (k * m) (omega (arith, legal.page_low)) in
    let e : k * m * g.page ≡ m * (k * g.page) = grind arith in
    record {
      sector = sector;
      sectors = sectors;
      pages = pages ∙ mul_comm k m;
      size = ap (λ (x : ℕ). x * g.page) pages ∙ e ∙ ap (λ (x : ℕ). m * x) (sym sector);
    }

pub sectors_fill_banks : SectorsFillBanks
sectors_fill_banks g n legal shared = (shape g n legal shared).pages

-- a bank has a sector, and a sector four pages
pub layouts_are_legal : LayoutsAreLegal
layouts_are_legal g n legal shared =
    let sh = shape g n legal shared in
    let k = g.sector / g.page in
    let m = g.sectors / n in
    let some : 1 ≤ m = elim (cases_lt m 1) [
      | inl none ↦ let zero_is : m * n ≡ 0 = ap (λ (x : ℕ). x * n) (let z : m ≡ 0 = omega arith in z) ∙ (let z : 0 * n ≡ 0 = omega arith in z) in absurd (omega (arith, sh.sectors, zero_is, legal.sectors_low))
      | inr enough ↦ enough
    ] in
    let two : 2 ≤ k = elim (cases_lt k 2) [
      | inl few ↦ let le = mul-le-mul_right g.page (let s : k ≤ 1 = omega arith in s) in absurd (omega (arith, le, sh.sector, legal.sector_low, legal.page_low))
      | inr enough ↦ enough
    ] in
    let le = mul-le-mul_right k some in
    record {
      page = legal.page_low;
      pages = (let all : 2 ≤ (layout_of g n).pages = omega (arith, sh.pages, le, two) in all);
      banks_low = shared.low;
      banks_high = shared.high;
    }

pub sectors_lie_in_banks : SectorsLieInBanks
sectors_lie_in_banks g n k s legal shared lt =
    let z = g.sector in
    let m = g.sectors / n in
    let sh = shape g n legal shared in
    let at : (k * m + s) * z ≡ k * (m * z) + s * z = grind arith in
    let fill : k * ((layout_of g n).pages * g.page) ≡ k * (m * z) = ap (λ (x : ℕ). k * x) sh.size in
    let inside : s * z + z ≤ m * z = (let le = mul-le-mul_right z (let t : suc s ≤ m = omega arith in t) in let one : suc s * z ≡ s * z + z = omega arith in omega (arith, le, one)) in
    record { low = omega (arith, at, fill); high = omega (arith, at, fill, sh.size, inside) }

pub sectors_have_pages : SectorsHavePages
sectors_have_pages g n format k s q legal shared from to =
    let B = (layout_of g n).pages in
    let p = g.page in
    let z = g.sector in
    let m = g.sectors / n in
    let R = z / p in
    let sh = shape g n legal shared in
    let place : (k * B + q) * p ≡ k * (B * p) + q * p = grind arith in
    let at : (k * m + s) * z ≡ k * (m * z) + s * z = grind arith in
    let fill : k * (B * p) ≡ k * (m * z) = ap (λ (x : ℕ). k * x) sh.size in
    let whole : s * z ≡ s * R * p = ap (λ (x : ℕ). s * x) sh.sector ∙ (let e : s * (R * p) ≡ s * R * p = grind arith in e) in
    let low = mul-le-mul_right p from in
    let high = mul-le-mul_right p (let t : suc q ≤ s * R + R = omega arith in t) in
    let one : suc q * p ≡ q * p + p = omega arith in
    let both : (s * R + R) * p ≡ s * R * p + R * p = grind arith in
    (omega (arith, place, at, fill, whole, low), omega (arith, place, at, fill, whole, high, one, both, sh.sector))
