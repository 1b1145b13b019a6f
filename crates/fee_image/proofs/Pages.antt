-- A page of an append, and of a copy.
use Rattle.fee_format.specs.Formats.{new_format}
use Rattle.fee_image.specs.Image.{bank_in}
use Rattle.fee_image.specs.Step.{page_due, bytes_due, log_done, may_done, log_failed}
use Rattle.fee_image.specs.Banks.{OldBank, Copying}
use Rattle.fee_image.specs.BankLaws.{AppendsFail, AppendsDone, CopiesDone}
use Rattle.fee_image.proofs.Seals.{in_phase, in_old, copies_go_on, old_logs_go_on}
use Rattle.fee_image.proofs.Ranges.{programs_touch_their_bank}
use Rattle.fee_image.proofs.Steps.{done_steps_hold, failed_steps_hold, next_is_fresh}

pub appends_fail : AppendsFail
appends_fail l numbers old new s k h log legal holds is takes due size leaves =
    let b = bank_in l h.format k in
    let o = (in_old l numbers old s (OldBank k h log) is holds).1 in
    let at = next_is_fresh b numbers old s.may log o.holds due in
    let touches = programs_touch_their_bank b old new (bytes_due l.page log) (page_due log) size leaves in
    old_logs_go_on l numbers old new (bytes_due l.page log) s k (page_due log) h log (log_failed l.page log) s.may legal holds is takes size at.low at.high leaves
    (failed_steps_hold b numbers old new s.may log legal.page o.holds due touches)

pub appends_done : AppendsDone
appends_done l numbers old new s k h log legal holds is takes due size leaves stands =
    let b = bank_in l h.format k in
    let o = (in_old l numbers old s (OldBank k h log) is holds).1 in
    let at = next_is_fresh b numbers old s.may log o.holds due in
    let touches = programs_touch_their_bank b old new (bytes_due l.page log) (page_due log) size leaves in
    old_logs_go_on l numbers old new (bytes_due l.page log) s k (page_due log) h log (log_done l.page numbers log) (may_done l.page s.may log) legal holds is takes size at.low at.high leaves
    (done_steps_hold b numbers old new s.may log legal.page o.holds due touches stands)

pub copies_done : CopiesDone
copies_done l numbers old new s log legal holds is due size leaves stands =
    let b = bank_in l new_format s.target in
    let c = in_phase l numbers old s (Copying log) is holds in
    let at = next_is_fresh b numbers old s.copied log c.holds due in
    let touches = programs_touch_their_bank b old new (bytes_due l.page log) (page_due log) size leaves in
    copies_go_on l numbers old new (bytes_due l.page log) s (page_due log) log (log_done l.page numbers log) (may_done l.page s.copied log) legal holds is size at.low at.high leaves
    (done_steps_hold b numbers old new s.copied log legal.page c.holds due touches stands)
