use Rattle.std.proofs.Common.{◌+◌, ℕ, List, ◌∙◌, subst}
use Rattle.fee_image.specs.Image.{Layout, layout_of, bank_in}
use Rattle.fee_log.specs.Load.{HasPages}
use Rattle.fee_switch.specs.Start.{IsComing, GoesOn, IsFirst, AreTaken}
use Rattle.fee_switch.proofs.Starts.{told_both, layout_same, first_stays}
use Rattle.fee_switch.proofs.loading.take_bank.Goals as goal

pub returns-clause-taken : goal.returns-clause-taken
returns-clause-taken g c done =
    let l = layout_of c.args.geometry c.args.banks in
    let k = c.args.bank in
    let first = c.args.first.now in
    let opened = c.open_bank-coming.ensures in
    let on = c.read_on.ensures in
    let read = rw c.in-Done.is at c.read_pages.ensures.read in
    let is_done = c.in-Done-read_on.is in
    let log = c.read_on.new.log in
    let same = layout_same log c.args.geometry c.args.banks (on.shape.geometry ∙ opened.shape.geometry ∙ c.requires.log_geometry) (on.shape.banks ∙ opened.shape.banks ∙ c.requires.log_banks) in
    let close = λ (bytes : List ℕ). subst (λ (x : Layout). IsComing x bytes k first c.read_on.new.coming log → IsFirst x bytes k first c.read_on.new.coming log → AreTaken x bytes (k + 1) c.close_bank.new.first c.close_bank.new.log) same (c.close_bank.ensures.taken bytes) in
    let goes = rw read.1 at (on.seen is_done) in
    told_both c.args.fls.now.flash.bytes (λ b. (format : ℕ) → HasPages (bank_in l format k) b.now 0 c.read_pages.new.into) (λ b. GoesOn l b.now k c.open_bank-coming.result c.open_bank-coming.new.log c.read_on.new.coming log)
    (λ b. AreTaken l b.now k first c.args.log.now → AreTaken l b.now (k + 1) c.close_bank.new.first c.close_bank.new.log)
    (λ b pages further taken.
    close b.now (further first (opened.seen b.now pages)) (
      taken.0,
      λ none. (
          let behind = on.none is_done none in
          first_stays l b.now first c.args.log.now log (behind.1 ∙ opened.none behind.0) taken.1),
    ))
    read.0 goes
