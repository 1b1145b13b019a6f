use Rattle.std.proofs.Common.{◌≡◌, sym, subst}
use Rattle.nvm_figures.specs.declared.counted.AtWork.{AtWork}
use Rattle.nvm_figures.specs.AtWork.{IsAtWork}
use Rattle.nvm_figures.proofs.TurnsCounted.{turns_counted}
use Rattle.nvm_figures.proofs.counted.turns_left.Goals as goal

pub returns-clause-job : goal.returns-clause-job
returns-clause-job g c = λ p job e is.
    let same : c.in-Some.job ≡ job = cc in
    let mine = subst (λ (j : AtWork). IsAtWork j p) (sym same) is in
    rw (c.saturating_add-4.ensures, c.saturating_add-3.ensures, c.saturating_add-2.ensures, c.turns_of-here.ensures, c.unstarted_at.ensures, c.turns_behind-behind.ensures, c.left-2.ensures)
    (turns_counted p c.in-Some.job (g.D.MemDevice.told c.args.device.now) _ _ mine c.in-Device.is)
