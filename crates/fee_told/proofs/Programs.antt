-- What a program leaves of the active bank.
use Rattle.std.proofs.Common.{◌≡◌, ◌<◌, ℕ, ◌∙◌, arith}
use Rattle.fee_image.specs.Image.{active_of}
use Rattle.fee_image.proofs.Banks.{active_stays}
use Rattle.fee_image.proofs.Ranges.{programs_touch_one_page}
use Rattle.promise_device.specs.Making.{banks_of}
use Rattle.fee_told.specs.Programs.{ProgramsKeepLast}

pub programs_keep_last : ProgramsKeepLast
programs_keep_last m old new page k q legal size low high leaves (j, h, active, is_last) =
    let l = banks_of m in
    let page_same = λ (i : ℕ) (r : ℕ) (few : r < 2). programs_touch_one_page l old new page k q i r size leaves high (let lt : r < l.pages = omega (arith, legal.pages) in lt) (λ same. omega (arith, same.1)) in
    let same : active_of l new ≡ active_of l old = active_stays l old new (λ i few. (page_same i 0 (omega arith), page_same i 1 (omega arith))) in
    (j, h, same ∙ active, is_last)
