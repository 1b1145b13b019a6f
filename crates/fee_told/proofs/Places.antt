-- What the old bank's places show, over a step.
use Rattle.std.specs.Prelude.{◌==◌}
use Rattle.std.proofs.Common.{◌≡◌, inl, inr, ℕ, ◌<◌, ◌≤◌, false, List, [], ◌∷◌, length, refl, sym, ap, ◌∙◌, subst, arith}
use Rattle.std.proofs.lemmas.Bool.{cases_Bool, eqb-true, ne_eqb}
use Rattle.nv_base.specs.declared.instance.DeviceNumber.{DeviceNumber}
use Rattle.memif.specs.Told.{at_number, never_written}
use Rattle.fls_model.specs.Op.{MayLeave}
use Rattle.fee_format.specs.declared.bank_head.BankHead.{BankHead}
use Rattle.fee_format.specs.declared.rec_head.RecHead.{RecHead}
use Rattle.fee_image.specs.Bank.{Bank, page_of}
use Rattle.fee_image.specs.Image.{Layout, IsLegalLayout, layout_of, bank_in, image_page}
use Rattle.fee_image.specs.Laws.{place_of_sector}
use Rattle.fee_image.specs.declared.place.Place.{Place}
use Rattle.fee_image.specs.Log.{Log}
use Rattle.fee_image.specs.May.{May}
use Rattle.fee_image.specs.Places.{noted, ArePlaced}
use Rattle.fee_image.specs.Banks.{Old, NoBank, OldBank, Banks, Holds, HoldsOld}
use Rattle.fee_image.specs.BankLaws.{program_of}
use Rattle.fee_image.proofs.Placed.{places_stay}
use Rattle.fee_image.proofs.Ranges.{other_banks_stay, programs_touch_one_page}
use Rattle.fee_image.proofs.Sectors.{layouts_are_legal, sectors_lie_in_banks}
use Rattle.fee_told.specs.Slots.{held_all, settled_in, settled_at}
use Rattle.fee_told.specs.SlotLaws.{SamePlaces, IsBehindLog, ProgramsKeepSettled, ErasesKeepSettled, CommitsKeepOthers}

-- the pages before a log's end are as they were
abbrev SameBefore : Layout → List ℕ → List ℕ → ℕ → ℕ → Type 0
SameBefore l old new k end = (q : ℕ) → 2 ≤ q → q < end → image_page l new k q ≡ image_page l old k q

module _ (b : Bank) (old new : List ℕ) (may : May) (end : ℕ) (big : 16 ≤ b.page) (same : (q : ℕ) → 2 ≤ q → q < end → page_of b new q ≡ page_of b old q) where
  marks_same : (ns : List (DeviceNumber × ℕ)) (places : List Place) → ArePlaced b old may end ns places → held_all b new ns places ≡ held_all b old ns places
  marks_same [] [] all = refl
  marks_same [] (place ∷ places) all = absurd all
  marks_same (n ∷ ns) [] all = absurd all
  marks_same (n ∷ ns) (place ∷ places) all = λ i. places_stay b old new b.at end n.1 place big same all.0 i ∷ marks_same ns places all.2 i

  -- a record more gives other numbers no place
  others_same : (r : RecHead) (at n : ℕ) → (n ≡ r.number.0 → ⊥) → (ns : List (DeviceNumber × ℕ)) (places : List Place) → ArePlaced b old may end ns places
      → at_number never_written ns (held_all b new ns (noted ns places at r)) n ≡ at_number never_written ns (held_all b old ns places) n
  others_same r at n differs [] [] all = refl
  others_same r at n differs [] (place ∷ places) all = absurd all
  others_same r at n differs (x ∷ xs) [] all = absurd all
  others_same r at n differs (x ∷ xs) (place ∷ places) all = elim (cases_Bool (x.0.0 == n)) [
    | inl e ↦
        let other : (r.number.0 == x.0.0) ≡ false = ne_eqb r.number.0 x.0.0 (λ is. differs (sym (eqb-true x.0.0 n e) ∙ sym is)) in
        rw (e, other) (places_stay b old new b.at end x.1 place big same all.0)
    | inr e ↦ rw e (others_same r at n differs xs places all.2)
  ]

module _ (l : Layout) (numbers : List (DeviceNumber × ℕ)) (old new : List ℕ) (legal : IsLegalLayout l) where
  -- the old bank's
  IsSameOld : Old → Type 0
  IsSameOld NoBank = Unit {0}
  IsSameOld (OldBank k h log) = SameBefore l old new k log.end

  pub settled_same : (t : ℕ) (o next : Old) (may : May) → HoldsOld l numbers old t o may → ((k : ℕ) (h : BankHead) (log : Log) → o ≡ OldBank k h log → SameBefore l old new k log.end) → SamePlaces o next → settled_in l numbers new next ≡ settled_in l numbers old o
  settled_same t NoBank NoBank may holds same places = refl
  settled_same t NoBank (OldBank j i next) may holds same places = absurd places
  settled_same t (OldBank k h log) NoBank may holds same places = absurd places
  settled_same t (OldBank k h log) (OldBank j i next) may holds same (bank, head, places) =
      (λ x. held_all (bank_in l (head x).format (bank x)) new numbers (places x))
      ∙ marks_same (bank_in l h.format k) old new may log.end legal.page (same k h log refl) numbers log.places holds.1.holds.placed

  pub others_settled : (t : ℕ) (k : ℕ) (h : BankHead) (log next : Log) (may : May) (r : RecHead) → HoldsOld l numbers old t (OldBank k h log) may → SameBefore l old new k log.end → next.places ≡ noted numbers log.places log.end r
      → (n : ℕ) → (n ≡ r.number.0 → ⊥) → settled_at l numbers new (OldBank k h next) n ≡ settled_at l numbers old (OldBank k h log) n
  others_settled t k h log next may r holds same is n differs =
      ap (λ (places : List Place). at_number never_written numbers (held_all (bank_in l h.format k) new numbers places) n) is
      ∙ others_same (bank_in l h.format k) old new may log.end legal.page same r log.end n differs numbers log.places holds.1.holds.placed

-- the bank of a log has the pages before its end
high_of : (l : Layout) (numbers : List (DeviceNumber × ℕ)) (bytes : List ℕ) (t : ℕ) (o : Old) (may : May) (k : ℕ) (h : BankHead) (log : Log) → HoldsOld l numbers bytes t o may → o ≡ OldBank k h log → (log.end ≤ l.pages) × (k ≡ t → ⊥)
high_of l numbers bytes t o may k h log holds is =
    let here : HoldsOld l numbers bytes t (OldBank k h log) may = subst (λ (x : Old). HoldsOld l numbers bytes t x may) is holds in
    (here.1.holds.high, here.0)

module _ (l : Layout) (numbers : List (DeviceNumber × ℕ)) (old new page : List ℕ) (s : Banks) (j q : ℕ) (legal : IsLegalLayout l) (holds : Holds l numbers old s) (size : length page ≡ l.page) (lt : q < l.pages) (leaves : MayLeave (program_of l j q page) old new) where
  before_same : (k : ℕ) (h : BankHead) (log : Log) → s.old ≡ OldBank k h log → (j ≡ k → log.end ≤ q) → SameBefore l old new k log.end
  before_same k h log is behind i low below =
      let high = (high_of l numbers old s.target s.old s.may k h log holds.old is).0 in
      programs_touch_one_page l old new page j q k i size leaves lt (omega arith) (λ same. omega (arith, behind (sym same.0), same.1))

  behind_as : (k : ℕ) (h : BankHead) (log : Log) → IsBehindLog s.old j q → s.old ≡ OldBank k h log → j ≡ k → log.end ≤ q
  behind_as k h log behind is = subst (λ (o : Old). IsBehindLog o j q) is behind

  programs_keep : (next : Old) → IsBehindLog s.old j q → SamePlaces s.old next → settled_in l numbers new next ≡ settled_in l numbers old s.old
  programs_keep next behind places = settled_same l numbers old new legal s.target s.old next s.may holds.old (λ k h log is. before_same k h log is (behind_as k h log behind is)) places

pub programs_keep_settled : ProgramsKeepSettled
programs_keep_settled l numbers old new page s j q next legal holds size lt leaves behind places = programs_keep l numbers old new page s j q legal holds size lt leaves next behind places

pub commits_keep_others : CommitsKeepOthers
commits_keep_others l numbers old new page s k q h log next r legal holds is size lt behind leaves noted_is n differs =
    let same = before_same l numbers old new page s k q legal holds size lt leaves k h log is (λ e. behind) in
    let here : HoldsOld l numbers old s.target (OldBank k h log) s.may = subst (λ (x : Old). HoldsOld l numbers old s.target x s.may) is holds.old in
    others_settled l numbers old new legal s.target k h log next s.may r here same noted_is n differs ∙ ap (λ (o : Old). settled_at l numbers old o n) (sym is)

pub erases_keep_settled : ErasesKeepSettled
erases_keep_settled g banks numbers old new s sector next legal shared holds lt leaves places =
    let l = layout_of g banks in
    settled_same l numbers old new (layouts_are_legal g banks legal shared) s.target s.old next s.may holds.old
    (λ k h log is q low below.
    let at = high_of l numbers old s.target s.old s.may k h log holds.old is in
    other_banks_stay l old new s.target (place_of_sector g banks s.target sector) g.sector k q leaves.0 (sectors_lie_in_banks g banks s.target sector legal shared lt) at.1 (omega (arith, at.0)))
    places
