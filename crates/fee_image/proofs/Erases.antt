-- A switch begins, and erases its target.
use Rattle.std.proofs.Common.{◌≡◌, inl, inr, ◌<◌, ◌≤◌, ℕ, suc, ◌+◌, ◌*◌, List, length, sym, ap, ◌∙◌, subst, arith}
use Rattle.std.proofs.lemmas.Bool.{cases_eq, cases_lt}
use Rattle.std.proofs.Math.Nat.{div-add-mod, mul_comm, mul-le-mul_right}
use Rattle.nv_base.specs.declared.geometry.Geometry.{Geometry}
use Rattle.nv_base.specs.declared.instance.DeviceNumber.{DeviceNumber}
use Rattle.nv_base.specs.Geometry.{IsLegal, HasBanks, sectors_of_bank, pages_of_sector}
use Rattle.fls_model.specs.Bytes.{Grown}
use Rattle.fls_model.specs.Op.{MayLeave, after_op}
use Rattle.fee_format.specs.Pages.{blank_page}
use Rattle.fee_format.specs.Formats.{new_format}
use Rattle.fee_image.specs.Bank.{place_of_page}
use Rattle.fee_image.specs.Image.{Layout, layout_of, bank_in, image_page}
use Rattle.fee_image.specs.Laws.{place_of_sector}
use Rattle.fee_image.specs.Sound.{IsSoundImage}
use Rattle.fee_image.specs.Banks.{Old, NoBank, OldBank, Idle, Erasing, Banks, Holds, HoldsOld, HoldsPhase, StandsBehind, AreBlank}
use Rattle.fee_image.specs.BankLaws.{IsOther, SwitchesBegin, erase_of, ErasesFail, ErasesDone, ErasesKeepSound, CopiesBegin}
use Rattle.fee_image.proofs.Frames.{SameOthers, behind_stays, old_stays}
use Rattle.fee_image.proofs.Seals.{in_phase}
use Rattle.fee_image.proofs.Logs.{erased_logs_hold}
use Rattle.fee_image.proofs.Ranges.{erased_is_blank, other_banks_stay, pages_outside_stay}
use Rattle.fee_image.proofs.Sectors.{layouts_are_legal, sectors_fill_banks, sectors_have_pages, sectors_lie_in_banks}
use Rattle.fee_image.proofs.Soundness.{torn_erases_keep_sound, torn_erases_make_no_bank, torn_erases_set_bits}

-- BEGINNING
other_old : (l : Layout) (numbers : List (DeviceNumber × ℕ)) (bytes : List ℕ) (s : Banks) (t : ℕ) (o : Old) → IsOther o t → HoldsOld l numbers bytes s.target o s.may → HoldsOld l numbers bytes t o s.may
other_old l numbers bytes s t NoBank other give = give
other_old l numbers bytes s t (OldBank k h log) other (apart, holds) = (λ e. other (sym e), holds)

pub switches_begin : SwitchesBegin
switches_begin l numbers bytes s t copied holds is inside other =
    let here : StandsBehind l bytes s.old s.target = in_phase l numbers bytes s Idle is holds in
    let all : (j : ℕ) → j < l.banks → StandsBehind l bytes s.old j = λ j within. elim (cases_eq j s.target) [
      | inl same ↦ subst (StandsBehind l bytes s.old) (sym same) here
      | inr differs ↦ holds.behind j within differs
    ] in
    record {
      size = holds.size;
      target = inside;
      old = other_old l numbers bytes s t s.old other holds.old;
      behind = λ j within ne. all j within;
      phase = (all t inside, λ q below within. absurd (omega arith));
    }

-- ERASES
-- a sector begins where its first page does
pub sector_at : (g : Geometry) (banks k s : ℕ) → IsLegal g → HasBanks g banks → place_of_sector g banks k s ≡ place_of_page (bank_in (layout_of g banks) 1 k) (s * pages_of_sector g)
sector_at g banks k s legal shared =
    let p = g.page in
    let R = pages_of_sector g in
    let m = sectors_of_bank g banks in
    let turn : p * R ≡ R * p = mul_comm p R in
    let whole : g.sector ≡ R * p = omega (arith, div-add-mod g.sector p, legal.whole_pages, turn) in
    let pages : (layout_of g banks).pages ≡ m * R = sectors_fill_banks g banks legal shared in
    let one : (k * m + s) * (R * p) ≡ (k * (m * R) + s * R) * p = grind arith in
    ap (λ (x : ℕ). (k * m + s) * x) whole ∙ one ∙ ap (λ (x : ℕ). (k * x + s * R) * p) (sym pages)

-- what is left of an erase of any bank
module _ (g : Geometry) (banks k sector : ℕ) (old new : List ℕ) (legal : IsLegal g) (shared : HasBanks g banks) (lt : sector < sectors_of_bank g banks) (leaves : MayLeave (erase_of g banks k sector) old new) where
  abbrev layout : Layout
  layout = layout_of g banks

  pub erased_others : SameOthers layout old new k
  erased_others j other q inside = other_banks_stay layout old new k (place_of_sector g banks k sector) g.sector j q leaves.0 (sectors_lie_in_banks g banks k sector legal shared lt) other inside

  pub still_blank : AreBlank layout old k (sector * pages_of_sector g) → AreBlank layout new k (sector * pages_of_sector g)
  still_blank was q below inside =
      let p = g.page in
      let at = sector_at g banks k sector legal shared in
      let b = bank_in layout 1 k in
      let le = mul-le-mul_right p (let t : suc (b.at + q) ≤ b.at + sector * pages_of_sector g = omega arith in t) in
      let one : suc (b.at + q) * p ≡ (b.at + q) * p + p = omega arith in
      pages_outside_stay b old new (place_of_sector g banks k sector) g.sector q leaves.0 (inl (omega (arith, at, le, one))) ∙ was q below inside

  -- done: so many are blank, and the pages of its sector
  pub erased_blank : k < banks → layout.pages * layout.page * banks ≤ length old → new ≡ after_op (erase_of g banks k sector) old → AreBlank layout old k (sector * pages_of_sector g) → AreBlank layout new k ((sector + 1) * pages_of_sector g)
  erased_blank target size done was q below all =
      let R = pages_of_sector g in
      let next : (sector + 1) * R ≡ sector * R + R = grind arith in
      let a = place_of_sector g banks k sector in
      let inside = (sectors_lie_in_banks g banks k sector legal shared lt).high in
      let H = layout.pages * layout.page in
      let within : k * H + H ≤ H * banks = (let le = mul-le-mul_right H (let t : suc k ≤ banks = target in t) in let one : suc k * H ≡ k * H + H = omega arith in let turn : H * banks ≡ banks * H = mul_comm H banks in omega (arith, le, one, turn)) in
      elim (cases_lt q (sector * R)) [
        | inl earlier ↦ still_blank was q earlier all
        | inr here ↦
            let pages = sectors_have_pages g banks 1 k sector q legal shared here (omega (arith, next)) in
            subst (λ (x : List ℕ). image_page layout x k q ≡ blank_page layout.page) (sym done)
            (erased_is_blank (bank_in layout 1 k) old a g.sector q (omega (arith, inside, within, size)) pages.0 pages.1)
      ]

-- of the target
module _ (g : Geometry) (banks : ℕ) (numbers : List (DeviceNumber × ℕ)) (old new : List ℕ) (s : Banks) (sector : ℕ) (legal : IsLegal g) (shared : HasBanks g banks) (sound : IsSoundImage (layout_of g banks) old) (holds : Holds (layout_of g banks) numbers old s) (is : s.phase ≡ Erasing (sector * pages_of_sector g)) (lt : sector < sectors_of_bank g banks) (leaves : MayLeave (erase_of g banks s.target sector) old new) where
  abbrev l : Layout
  l = layout_of g banks

  grown : Grown old new
  grown = torn_erases_set_bits (place_of_sector g banks s.target sector) g.sector old new leaves

  others : SameOthers l old new s.target
  others = erased_others g banks s.target sector old new legal shared lt leaves

  was : HoldsPhase l numbers old s (Erasing (sector * pages_of_sector g))
  was = in_phase l numbers old s (Erasing (sector * pages_of_sector g)) is holds

  pub still_behind : StandsBehind l new s.old s.target
  still_behind other stands = was.0 other (torn_erases_make_no_bank l old new s.target other legal.page_low sound grown holds.target stands)

  pub erase_steps : (n : ℕ) → AreBlank l new s.target n → Holds l numbers new (record s { phase = Erasing n })
  erase_steps n blank =
      let all = layouts_are_legal g banks legal shared in
      record {
        size = omega (arith, holds.size, leaves.0.size);
        target = holds.target;
        old = old_stays l numbers old new all s.target s.old s.may others holds.old;
        behind = λ j inside other. behind_stays l numbers old new all s.old j (others j other) (holds.behind j inside other);
        phase = (still_behind, blank);
      }

  pub fails : Holds l numbers new s
  fails =
      let h = erase_steps (sector * pages_of_sector g) (still_blank g banks s.target sector old new legal shared lt leaves was.1) in
      record { size = h.size; target = h.target; old = h.old; behind = h.behind; phase = subst (HoldsPhase l numbers new s) (sym is) h.phase }

pub erases_fail : ErasesFail
erases_fail g banks numbers old new s sector legal shared sound holds is lt leaves = fails g banks numbers old new s sector legal shared sound holds is lt leaves

pub erases_done : ErasesDone
erases_done g banks numbers old new s sector legal shared sound holds is lt leaves done =
    let l = layout_of g banks in
    let R = pages_of_sector g in
    let was : HoldsPhase l numbers old s (Erasing (sector * R)) = in_phase l numbers old s (Erasing (sector * R)) is holds in
    erase_steps g banks numbers old new s sector legal shared sound holds is lt leaves ((sector + 1) * R)
    (erased_blank g banks s.target sector old new legal shared lt leaves holds.target holds.size done was.1)

pub erases_keep_sound : ErasesKeepSound
erases_keep_sound g banks old new k sector leaves sound =
    torn_erases_keep_sound (layout_of g banks) old new sound (torn_erases_set_bits (place_of_sector g banks k sector) g.sector old new leaves)

-- COPIES BEGIN
pub copies_begin : CopiesBegin
copies_begin l numbers bytes s n legal holds is all give =
    let was = in_phase l numbers bytes s (Erasing n) is holds in
    record {
      size = holds.size;
      target = holds.target;
      old = holds.old;
      behind = holds.behind;
      phase = record {
        first = λ q below inside. was.1 q (omega arith) inside;
        holds = erased_logs_hold (bank_in l new_format s.target) numbers bytes s.copied legal.page legal.pages (λ q low inside. was.1 q (omega arith) inside) give;
      };
    }
