use Rattle.std.proofs.Common.{length, ap, subst, sym, ◌∙◌}
use Rattle.nvm_script.specs.Played.{ArePlayed}
use Rattle.nvm_rows.proofs.memory.play_in_memory.Goals as goal

pub make_steps-requires-clause-blocks : goal.make_steps-requires-clause-blocks
make_steps-requires-clause-blocks c = c.blocks-blocks.ensures.count ∙ ap (λ x. length x.blocks) (sym c.in_ok-stack.ensures.configuration)

pub make_steps-requires-clause-played : goal.make_steps-requires-clause-played
make_steps-requires-clause-played c = subst (λ x. ArePlayed x c.in_ok-steps.steps) (sym c.in_ok-stack.ensures.configuration) c.in_ok-steps.ensures
