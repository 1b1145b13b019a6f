use Rattle.std.proofs.Common.{◌≡◌, ◌<◌, ℕ, zero, suc, ◌+◌, ◌-◌, refl, subst, arith}
use Rattle.fee_format.specs.Pages.{blank_page}
use Rattle.fee_image.specs.Bank.{page_of}
use Rattle.fee_image.specs.Cases.{small_bank, pages, after_first}
use Rattle.fee_image.proofs.cases.first_write.Goals as goal

tail_at : (n : ℕ) → n < 6 → page_of small_bank (after_first (pages 4 255)) (6 + n) ≡ blank_page 16
tail_at zero lt = refl
tail_at (suc zero) lt = refl
tail_at (suc (suc zero)) lt = refl
tail_at (suc (suc (suc zero))) lt = refl
tail_at (suc (suc (suc (suc zero)))) lt = refl
tail_at (suc (suc (suc (suc (suc zero))))) lt = refl
tail_at (suc (suc (suc (suc (suc (suc n)))))) lt = absurd (omega arith)

pub returns-clause-tail : goal.returns-clause-tail
returns-clause-tail c = λ q le lt. subst (λ (n : ℕ). page_of small_bank (after_first (pages 4 255)) n ≡ blank_page 16) (let e : 6 + (q - 6) ≡ q = omega arith in e) (tail_at (q - 6) (omega arith))
