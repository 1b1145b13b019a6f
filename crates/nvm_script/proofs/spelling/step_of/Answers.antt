use Rattle.std.proofs.Common.{◌≡◌, None, Some, sym, ◌∙◌}
use Rattle.nvm_script.specs.Reading.{spelled}
use Rattle.nvm_script.proofs.StepLaws.{IsExact-some, IsExact-none}
use Rattle.nvm_script.proofs.spelling.step_of.Goals as goal

pub returns-in_default : goal.returns-in_default
returns-in_default c =
    let none : spelled c.args.text.now ≡ None = sym c.in_ok-kind.ensures ∙ c.in_default.is in
    IsExact-none c.args.config.now c.args.mode c.args.called c.args.text.now none

pub returns : goal.returns
returns c =
    let some : spelled c.args.text.now ≡ Some c.in-Some.kind = sym c.in_ok-kind.ensures ∙ c.in-Some.is in
    rw c.settled.ensures (IsExact-some c.args.config.now c.args.mode c.args.called c.args.text.now c.in-Some.kind some)
