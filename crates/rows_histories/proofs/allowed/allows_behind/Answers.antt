use Rattle.std.proofs.Common.{◌≡◌, ◌∙◌, sym, true, false, take}
use Rattle.rows_histories.proofs.Absent.{absent}
use Rattle.rows_histories.proofs.allowed.allows_behind.Goals as goal

pub returns-else-is_configured : goal.returns-else-is_configured
returns-else-is_configured c = λ cap legal. (
  λ on. let no_ : true ≡ false = sym on ∙ c.if-is_configured.false in cc,
  λ stands. absurd (absent c.args.config.now cap (take c.args.count c.args.history.now.entries) c.args.instance c.args.mark.now c.blocks-blocks.ensures.legal
      (λ one. let no_ : true ≡ false = sym (c.is_configured.ensures.1 one) ∙ c.if-is_configured.false in cc) legal stands),
)
