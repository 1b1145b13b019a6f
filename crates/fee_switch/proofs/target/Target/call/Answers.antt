use Rattle.std.proofs.Common.{ℕ, List, sym, subst}
use Rattle.nv_base.specs.Geometry.{address_of_page}
use Rattle.fls_model.specs.Step.{IsStep, programs}
use Rattle.fee_switch.specs.declared.target.Stage.{Stage}
use Rattle.fee_switch.specs.Target.{op_at}
use Rattle.fee_switch.proofs.target.Target.call.Goals as goal

pub returns-in-Head-clause-step : goal.returns-in-Head-clause-step
returns-in-Head-clause-step g c =
    let t = c.args.self.now in
    subst (λ (stage : Stage). IsStep (op_at t stage) c.args.fls.now.flash c.program_page.result c.program_page.new.fls.flash) (sym c.in-Head.is)
    (subst (λ (l : List ℕ). IsStep (programs (address_of_page t.geometry t.banks t.bank 0) l) c.args.fls.now.flash c.program_page.result c.program_page.new.fls.flash) c.fill_head.ensures.page c.program_page.ensures.step)
