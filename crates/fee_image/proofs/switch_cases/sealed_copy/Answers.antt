use Rattle.std.proofs.Common.{◌≡◌, inl, inr, ◌<◌, ◌≤◌, ℕ, zero, suc, ◌+◌, ◌-◌, refl, subst, arith}
use Rattle.fee_format.specs.declared.bank_head.BankHead.{BankHead}
use Rattle.fee_image.specs.Bank.{page_of}
use Rattle.fee_image.specs.Cases.{small, pages}
use Rattle.fee_image.specs.Image.{bank_in}
use Rattle.fee_format.specs.Pages.{blank_page}
use Rattle.fee_image.specs.LogCases.{numbers}
use Rattle.fee_image.specs.Log.{Open}
use Rattle.fee_image.specs.SwitchCases.{sealing}
use Rattle.fee_image.proofs.Logs.{loaded_logs_hold}
use Rattle.fee_image.proofs.switch_cases.sealed_copy.Goals as goal

-- behind the record each bank is blank
tail_at : (k n : ℕ) → k < 2 → n < 6 → page_of (bank_in small 2 k) (sealing (pages 1 255)) (6 + n) ≡ blank_page 16
tail_at zero zero two lt = refl
tail_at zero (suc zero) two lt = refl
tail_at zero (suc (suc zero)) two lt = refl
tail_at zero (suc (suc (suc zero))) two lt = refl
tail_at zero (suc (suc (suc (suc zero)))) two lt = refl
tail_at zero (suc (suc (suc (suc (suc zero))))) two lt = refl
tail_at (suc zero) zero two lt = refl
tail_at (suc zero) (suc zero) two lt = refl
tail_at (suc zero) (suc (suc zero)) two lt = refl
tail_at (suc zero) (suc (suc (suc zero))) two lt = refl
tail_at (suc zero) (suc (suc (suc (suc zero)))) two lt = refl
tail_at (suc zero) (suc (suc (suc (suc (suc zero))))) two lt = refl
tail_at zero (suc (suc (suc (suc (suc (suc n)))))) two lt = absurd (omega arith)
tail_at (suc zero) (suc (suc (suc (suc (suc (suc n)))))) two lt = absurd (omega arith)
tail_at (suc (suc k)) n two lt = absurd (omega arith)

blank_behind : (k q : ℕ) → k < 2 → 6 ≤ q → q < 12 → page_of (bank_in small 2 k) (sealing (pages 1 255)) q ≡ blank_page 16
blank_behind k q two low lt = subst (λ (n : ℕ). page_of (bank_in small 2 k) (sealing (pages 1 255)) n ≡ blank_page 16) (let e : 6 + (q - 6) ≡ q = omega arith in e) (tail_at k (q - 6) two (omega arith))

first : BankHead
first = record { format = 2; generation = 1 }

-- a bank that stands beside the target is the first one
only_first : (k : ℕ) → k < 2 → (k ≡ 1 → ⊥) → k ≡ 0
only_first k lt ne = omega (arith, ne)

pub returns-clause-held : goal.returns-clause-held
returns-clause-held c =
    let bytes = sealing (pages 1 255) in
    record {
      size = omega arith;
      target = omega arith;
      old = (
        (λ e. omega (arith, e)),
        record {
          bank = omega arith;
          stands = record { head = record { legal = record { format = inr refl; generation = omega arith }; page_is = refl }; gate = refl };
          holds = loaded_logs_hold (bank_in small 2 0) numbers bytes Open (omega arith) (omega arith) (inl (refl, refl, λ q low lt. blank_behind 0 q (omega arith) low lt));
        },
      );
      behind = λ j lt ne other stands here. absurd (here (only_first j lt ne));
      phase = record {
        last = omega arith;
        head = refl;
        holds = loaded_logs_hold (bank_in small 2 1) numbers bytes Open (omega arith) (omega arith) (inl (refl, refl, λ q low lt. blank_behind 1 q (omega arith) low lt));
        whole = λ number length m among. among;
      };
    }
