use Rattle.std.proofs.Common.{ap, ◌∙◌}
use Rattle.nvm_script.specs.Line.{without_return}
use Rattle.nvm_script.proofs.ScriptLaws.{split-cut}
use Rattle.nvm_script.proofs.script.first_line.Goals as goal

pub returns : goal.returns
returns c = rw (split-cut 10 c.args.input.now) (c.without_return.ensures ∙ ap without_return c.cut.ensures.before)
