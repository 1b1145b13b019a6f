use Rattle.std.specs.Prelude.{is_some}
use Rattle.fee_format.specs.declared.rec_head.RecHead.{RecHead}
use Rattle.std.proofs.Common.{◌≡◌, Option, true, sym, ap, ◌∙◌}
use Rattle.nv_base.specs.declared.geometry.Geometry.{Geometry}
use Rattle.fee_laws.specs.fee_log.Log.{LogState, left_in, work_in}
use Rattle.fee_laws.specs.Work.{pages_of_op}
use Rattle.fee_core.proofs.Leaving.{record_left}
use Rattle.fee_core.proofs.room.record_turns.Goals as goal

pub returns-in-Some : goal.returns-in-Some
returns-in-Some c =
    let b = c.args.banks.now in
    let log = c.in-Some.ensures.1 in
    let state = c.geometry-page.ensures.state in
    let work : is_some (work_in b.log.tail) ≡ true = sym (ap (λ (o : Option RecHead). is_some o) (c.work.ensures ∙ ap (λ (l : LogState). work_in l.tail) log)) ∙ sym c.is_some.ensures ∙ c.if-is_some.true in
    let left = c.from.ensures ∙ c.pages_left.ensures ∙ ap (λ (l : LogState). left_in l.geometry.page l.tail) log ∙ ap (λ (g : Geometry). left_in g.page b.log.tail) state.log.shape in
    left ∙ record_left b.geometry.page (pages_of_op b.geometry.page c.args.job.op c.args.job.length) b.log.tail b.log c.args.job work c.requires.work c.requires.pages
