use Rattle.script_player.proofs.Common.{Bool, if◌then◌else◌, sym, ap, ◌∙◌}
use Rattle.script_player.proofs.PlannedCuts.{cuts_tested}
use Rattle.script_player.proofs.cuts.cuts_in.Goals as goal

pub returns-then-is_cut : goal.returns-then-is_cut
returns-then-is_cut c = sym (cuts_tested c.args.step.now.kind ∙ ap (λ (b : Bool). if b then 1 else 0) (sym c.if-is_cut.ensures))

pub returns-else-is_cut : goal.returns-else-is_cut
returns-else-is_cut c = sym (cuts_tested c.args.step.now.kind ∙ ap (λ (b : Bool). if b then 1 else 0) (sym c.if-is_cut.ensures))
