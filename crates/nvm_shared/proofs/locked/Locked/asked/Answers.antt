use Rattle.std.specs.Prelude.{ℕ, Some, option_copied, option_map}
use Rattle.std.proofs.Common.{sym, ap, ◌∙◌}
use Rattle.nvm_core.specs.block_machine.State.{Job}
use Rattle.nvm_core.specs.block_machine.Blocks.{asked_store, job_block}
use Rattle.nvm_core.specs.block_machine.Next.{next_in}
use Rattle.nvm_core.specs.nv_desk.Desk.{state_of}
use Rattle.nvm_shared.specs.Locked.{LockedState}
use Rattle.nvm_shared.proofs.locked.Locked.asked.Goals as goal

pub returns-in-Some : goal.returns-in-Some
returns-in-Some c =
    let view = ap (λ f. record { desk = f.desk; tells = c.self.inside.tells.tells }) c.deref.ensures ∙ c.self.view_is in
    ap (λ (p : ℕ × ℕ). Some p) (λ i. (c.block.ensures i, (c.asked_store.ensures ∙ ap asked_store c.request.ensures) i))
    ∙ ap (option_map (λ (j : Job). (job_block j, asked_store j.request))) (sym (ap (λ o. option_copied o) c.in-Some.is) ∙ c.next_job.ensures.next)
    ∙ ap (λ (l : LockedState). option_map (λ (j : Job). (job_block j, asked_store j.request)) (next_in l.desk.config (state_of l.desk).waiting)) view
