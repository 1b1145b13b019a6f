-- Banks whose pages stay.
use Rattle.std.proofs.Common.{◌≡◌, ◌<◌, ◌≤◌, ℕ, ◌*◌, List, length, sym, ◌∙◌, arith}
use Rattle.nv_base.specs.declared.instance.DeviceNumber.{DeviceNumber}
use Rattle.fls_model.specs.Op.{MayLeave}
use Rattle.fee_format.specs.declared.bank_head.BankHead.{BankHead}
use Rattle.fee_format.specs.Formats.{new_format}
use Rattle.fee_image.specs.Image.{Layout, IsLegalLayout, bank_in, image_page, BankStands}
use Rattle.fee_image.specs.Log.{Log, HoldsLog}
use Rattle.fee_image.specs.May.{May}
use Rattle.fee_image.specs.Banks.{Old, NoBank, OldBank, Phase, Idle, Erasing, Copying, Sealing, Banks, HoldsOld, HoldsPhase, StandsBehind}
use Rattle.fee_image.specs.BankLaws.{program_of}
use Rattle.fee_image.proofs.Logs.{logs_stay}
use Rattle.fee_image.proofs.Ranges.{programs_touch_one_page}

-- all pages of bank j are as they were
abbrev pub SamePages : Layout → List ℕ → List ℕ → ℕ → Type 0
SamePages l old new j = (q : ℕ) → q < l.pages → image_page l new j q ≡ image_page l old j q

-- but for bank t, all banks
abbrev pub SameOthers : Layout → List ℕ → List ℕ → ℕ → Type 0
SameOthers l old new t = (j : ℕ) → (j ≡ t → ⊥) → SamePages l old new j

pub stands_same : (l : Layout) (old new : List ℕ) (j : ℕ) (h : BankHead) → image_page l new j 0 ≡ image_page l old j 0 → image_page l new j 1 ≡ image_page l old j 1 → BankStands l old j h → BankStands l new j h
stands_same l old new j h head gate stands = record { head = record { legal = stands.head.legal; page_is = head ∙ stands.head.page_is }; gate = gate ∙ stands.gate }

pub stands_back : (l : Layout) (old new : List ℕ) (j : ℕ) (h : BankHead) → 2 ≤ l.pages → SamePages l old new j → BankStands l new j h → BankStands l old j h
stands_back l old new j h two same stands = stands_same l new old j h (sym (same 0 (omega arith))) (sym (same 1 (omega arith))) stands

module _ (l : Layout) (numbers : List (DeviceNumber × ℕ)) (old new : List ℕ) (legal : IsLegalLayout l) where
  two : 2 ≤ l.pages
  two = legal.pages

  pub log_stays : (f k : ℕ) (may : May) (log : Log) → ((q : ℕ) → 2 ≤ q → q < l.pages → image_page l new k q ≡ image_page l old k q) → HoldsLog (bank_in l f k) numbers old may log → HoldsLog (bank_in l f k) numbers new may log
  log_stays f k may log same holds = logs_stay (bank_in l f k) numbers old new (k * l.pages) may log legal.page same holds

  pub behind_stays : (o : Old) (j : ℕ) → SamePages l old new j → StandsBehind l old o j → StandsBehind l new o j
  behind_stays o j same behind other stands = behind other (stands_back l old new j other two same stands)

  pub old_stays : (t : ℕ) (o : Old) (may : May) → SameOthers l old new t → HoldsOld l numbers old t o may → HoldsOld l numbers new t o may
  old_stays t NoBank may same give = give
  old_stays t (OldBank k h log) may same (apart, holds) = (
    apart,
    record {
      bank = holds.bank;
      stands = stands_same l old new k h (same k apart 0 (omega (arith, two))) (same k apart 1 (omega (arith, two))) holds.stands;
      holds = log_stays h.format k may log (λ q low lt. same k apart q lt) holds.holds;
    },
  )

  -- the target's pages stay
  pub phase_stays : (s : Banks) (phase : Phase) → SamePages l old new s.target → HoldsPhase l numbers old s phase → HoldsPhase l numbers new s phase
  phase_stays s Idle same behind = behind_stays s.old s.target same behind
  phase_stays s (Erasing n) same (behind, blank) = (behind_stays s.old s.target same behind, λ q below lt. same q lt ∙ blank q below lt)
  phase_stays s (Copying log) same c = record { first = λ q below lt. same q lt ∙ c.first q below lt; holds = log_stays new_format s.target s.copied log (λ q low lt. same q lt) c.holds }
  phase_stays s (Sealing log) same c = record { last = c.last; head = same 0 (omega (arith, two)) ∙ c.head; holds = log_stays new_format s.target s.copied log (λ q low lt. same q lt) c.holds; whole = c.whole }

-- PROGRAMS
module _ (l : Layout) (old new page : List ℕ) (k q : ℕ) (size : length page ≡ l.page) (lt : q < l.pages) (leaves : MayLeave (program_of l k q page) old new) where
  pub others_stay : SameOthers l old new k
  others_stay j other i inside = programs_touch_one_page l old new page k q j i size leaves lt inside (λ e. other e.0)

  pub page_stays : (i : ℕ) → i < l.pages → (i ≡ q → ⊥) → image_page l new k i ≡ image_page l old k i
  page_stays i inside other = programs_touch_one_page l old new page k q k i size leaves lt inside (λ e. other e.1)
