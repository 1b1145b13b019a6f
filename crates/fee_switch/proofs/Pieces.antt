-- The pieces in which a bank is read.
use Rattle.std.specs.Prelude.{min, IfSome}
use Rattle.std.proofs.Common.{◌≡◌, inl, inr, ◌<◌, ◌≤◌, ◌+◌, ◌-◌, ◌*◌, ◌/◌, ◌%◌, ℕ, suc, List, length, Option, Some, None, sym, ap, ◌∙◌, arith}
use Rattle.std.proofs.lemmas.Bool.{cases_lt}
use Rattle.std.proofs.Math.Nat.{div-add-mod, mul_comm, mul-le-mul_right, div-mul-le_self, min-le_left, min-le_right, le-min}
use Rattle.nv_base.specs.declared.geometry.Geometry.{Geometry}
use Rattle.nv_base.specs.Geometry.{IsLegal, HasBanks, address_of_page, pages_of_bank, pages_of_sector, sectors_of_bank}
use Rattle.fls_model.specs.declared.flash.FlashAnswer.{FlashAnswer}
use Rattle.fls_model.specs.declared.flash.FlashAnswer.TheVariants.{Done, Failed, Off}
use Rattle.fls_model.specs.Bytes.{piece}
use Rattle.fls_model.specs.Read.{IsRead}
use Rattle.fls_model.specs.Told.{Told, ToldBytes}
use Rattle.fee_image.specs.Image.{layout_of, bank_in}
use Rattle.fee_image.proofs.Sectors.{sectors_fill_banks}
use Rattle.fee_log.specs.Load.{HasPages}
use Rattle.fee_switch.specs.Reading.{ArePagesRead, buffer_size}
use Rattle.fee_switch.proofs.Heads.{pages_are_read}

-- the rest of a sector lies in its bank
sector_ends : (done m k : ℕ) → done < m * k → done + (k - done % k) ≤ m * k
sector_ends done m k lt =
    let q = done / k in
    let parts : k * q + done % k ≡ done = div-add-mod done k in
    let turn : k * q ≡ q * k = mul_comm k q in
    elim (cases_lt q m) [
      | inl fewer ↦
          let more = mul-le-mul_right k (let t : suc q ≤ m = omega arith in t) in
          let one : suc q * k ≡ q * k + k = omega arith in
          omega (arith, parts, turn, more, one, lt)
      | inr more ↦ absurd (omega (arith, mul-le-mul_right k more, parts, turn, lt))
    ]

pub next_inside : (g : Geometry) (banks done k n most : ℕ) → IsLegal g → HasBanks g banks → k ≡ pages_of_sector g → done < pages_of_bank g banks → n ≡ min (k - done % k) most
    → done + n ≤ pages_of_bank g banks
next_inside g banks done k n most legal shared is lt next =
    let m = sectors_of_bank g banks in
    let pages : pages_of_bank g banks ≡ m * k = sectors_fill_banks g banks legal shared ∙ ap (λ (x : ℕ). m * x) (sym is) in
    omega (arith, pages, sector_ends done m k (omega (arith, lt, pages)), next, min-le_left (k - done % k) most)

pub next_has_room : (g : Geometry) (banks done k n : ℕ) → IsLegal g → HasBanks g banks → k ≡ pages_of_sector g → k * g.page ≡ g.sector → done < pages_of_bank g banks → n ≡ min (k - done % k) (4096 / g.page)
    → n * g.page ≤ buffer_size g banks
next_has_room g banks done k n legal shared is whole lt next =
    let p = g.page in
    let m = sectors_of_bank g banks in
    let pages : pages_of_bank g banks ≡ m * k = sectors_fill_banks g banks legal shared ∙ ap (λ (x : ℕ). m * x) (sym is) in
    let some : 1 ≤ m = elim (cases_lt 0 m) [
      | inl some ↦ some
      | inr none ↦ absurd (omega (arith, lt, pages, mul-le-mul_right k none))
    ] in
    let left : n ≤ k = omega (arith, next, min-le_left (k - done % k) (4096 / p)) in
    let most : n ≤ 4096 / p = omega (arith, next, min-le_right (k - done % k) (4096 / p)) in
    le-min (omega (arith, mul-le-mul_right p left, whole, mul-le-mul_right g.sector some)) (omega (arith, mul-le-mul_right p most, div-mul-le_self 4096 p))

-- what one read gives
told_pages : (o : Option ToldBytes) (g : Geometry) (banks k from : ℕ) (into : List ℕ) → IfSome o (λ b. into ≡ piece (address_of_page g banks k from) (length into) b.now)
    → IfSome o (λ b. (format : ℕ) → HasPages (bank_in (layout_of g banks) format k) b.now from into)
told_pages None g banks k from into is = tt
told_pages (Some b) g banks k from into is = λ format. pages_are_read (bank_in (layout_of g banks) format k) b.now into from is

pub pages_answered : (g : Geometry) (banks k from : ℕ) (s : Told) (answer : FlashAnswer) (before into : List ℕ) (t : Told)
    → IsRead (address_of_page g banks k from) s before answer into t → ArePagesRead g banks k from s answer into t
pages_answered g banks k from s Done before into t is = (told_pages s.bytes g banks k from into is.0, is.1)
pages_answered g banks k from s Failed before into t is = (is.0, is.1)
pages_answered g banks k from s Off before into t is = (is.2, is.1)
