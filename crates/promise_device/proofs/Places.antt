-- Where the pages and the sectors of a bank lie, and which bank an operation changes.
use Rattle.std.specs.Prelude.{IsTrue, ◌==◌, nat_lt}
use Rattle.std.proofs.Common.{◌≡◌, ◌<◌, ◌+◌, ◌-◌, ◌*◌, ◌/◌, ◌%◌, ℕ, List, [], length, refl, sym, ap, ◌∙◌, subst, arith}
use Rattle.std.proofs.Math.Nat.{mul-mod_left}
use Rattle.std.proofs.lemmas.Nat.{div-mul-add}
use Rattle.nv_base.specs.Geometry.{pages_of_bank, sectors_of_bank, address_of_page}
use Rattle.nv_base.specs.declared.geometry.Geometry.{Geometry}
use Rattle.fls_model.specs.Step.{programs}
use Rattle.fee_format.proofs.Tests.{eq_is, lt_is}
use Rattle.fee_image.specs.BankLaws.{erase_of}
use Rattle.fee_image.specs.Laws.{place_of_sector}
use Rattle.promise_device.specs.Making.{Making}
use Rattle.promise_device.specs.Traits.{page_in_bank}
use Rattle.promise_device.specs.Wear.{bank_of_op, is_whole, has_place}
use Rattle.promise_device.proofs.Wears.{all_two}

pub page_number : (g : Geometry) (banks k q : ℕ) → 0 < g.page → address_of_page g banks k q / g.page ≡ k * pages_of_bank g banks + q
page_number g banks k q some =
    let n = k * pages_of_bank g banks + q in
    let none : n * g.page ≡ n * g.page + 0 = omega arith in
    ap (λ (a : ℕ). a / g.page) none ∙ div-mul-add n g.page 0 some

sector_number : (g : Geometry) (banks k n : ℕ) → 0 < g.sector → place_of_sector g banks k n / g.sector ≡ k * sectors_of_bank g banks + n
sector_number g banks k n some =
    let i = k * sectors_of_bank g banks + n in
    let none : i * g.sector ≡ i * g.sector + 0 = omega arith in
    ap (λ (a : ℕ). a / g.sector) none ∙ div-mul-add i g.sector 0 some

-- a page's program and a sector's erase change the bank that these lie in
pub bank_of_program : (g : Geometry) (banks k q : ℕ) (page : List ℕ) → 0 < g.page → q < pages_of_bank g banks → bank_of_op g banks (programs (address_of_page g banks k q) page) ≡ k
bank_of_program g banks k q page some inside = ap (λ (n : ℕ). n / pages_of_bank g banks) (page_number g banks k q some) ∙ div-mul-add k (pages_of_bank g banks) q inside

pub bank_of_erase : (g : Geometry) (banks k n : ℕ) → 0 < g.sector → n < sectors_of_bank g banks → bank_of_op g banks (erase_of g banks k n) ≡ k
bank_of_erase g banks k n some inside = ap (λ (i : ℕ). i / sectors_of_bank g banks) (sector_number g banks k n some) ∙ div-mul-add k (sectors_of_bank g banks) n inside

-- and a program's page is the page of its bank
pub own_page : (g : Geometry) (banks k q : ℕ) → 0 < g.page → q < pages_of_bank g banks → page_in_bank g banks (address_of_page g banks k q) ≡ q
own_page g banks k q some inside =
    let a = address_of_page g banks k q in
    let number = page_number g banks k q some in
    let at : a / g.page / pages_of_bank g banks ≡ k = bank_of_program g banks k q [] some inside in
    let same : k * pages_of_bank g banks + q - k * pages_of_bank g banks ≡ q = omega arith in
    (λ i. number i - at i * pages_of_bank g banks) ∙ same

-- both have a place where their bank is one of so many
pub programs_have_place : (m : Making) (k q : ℕ) (page : List ℕ) → 0 < m.geometry.page → k < m.banks → q < pages_of_bank m.geometry m.banks → length page ≡ m.geometry.page
    → IsTrue (has_place m (programs (address_of_page m.geometry m.banks k q) page))
programs_have_place m k q page some bank inside size =
    let op = programs (address_of_page m.geometry m.banks k q) page in
    let own = bank_of_program m.geometry m.banks k q page some inside in
    all_two (nat_lt (bank_of_op m.geometry m.banks op) m.banks) (is_whole m.geometry op) ((lt_is _ _).1 (subst (λ (n : ℕ). n < m.banks) (sym own) bank))
    (all_two (address_of_page m.geometry m.banks k q % m.geometry.page == 0) (length page == m.geometry.page) ((eq_is _ _).1 (mul-mod_left (k * pages_of_bank m.geometry m.banks + q) m.geometry.page)) ((eq_is _ _).1 size))

pub erases_have_place : (m : Making) (k n : ℕ) → 0 < m.geometry.sector → k < m.banks → n < sectors_of_bank m.geometry m.banks → IsTrue (has_place m (erase_of m.geometry m.banks k n))
erases_have_place m k n some bank inside =
    let op = erase_of m.geometry m.banks k n in
    let own = bank_of_erase m.geometry m.banks k n some inside in
    all_two (nat_lt (bank_of_op m.geometry m.banks op) m.banks) (is_whole m.geometry op) ((lt_is _ _).1 (subst (λ (j : ℕ). j < m.banks) (sym own) bank))
    (all_two (place_of_sector m.geometry m.banks k n % m.geometry.sector == 0) (m.geometry.sector == m.geometry.sector) ((eq_is _ _).1 (mul-mod_left (k * sectors_of_bank m.geometry m.banks + n) m.geometry.sector)) ((eq_is _ _).1 refl))
