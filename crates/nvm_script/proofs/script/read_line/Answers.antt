use Rattle.std.proofs.Common.{sym}
use Rattle.nvm_script.proofs.LineLaws.{IsCalled-read, busy, no_caller, no_step}
use Rattle.nvm_script.proofs.script.read_line.Goals as goal

pub returns-in_default : goal.returns-in_default
returns-in_default c = (
  busy c.args.line.now c.if-line-eq35.false (sym c.if-is_empty.ensures),
  no_caller c.args.config.now c.args.mode c.args.line.now (sym c.in_default.ensures),
)

pub returns-in_default-2 : goal.returns-in_default-2
returns-in_default-2 c = (
  busy c.args.line.now c.if-line-eq35.false (sym c.if-is_empty.ensures),
  no_step c.args.config.now c.args.mode c.args.line.now c.in-Some.text.now c.in-Some.caller (sym c.in-Some.ensures) (rw (← c.is_some.ensures) (rw c.in_default-2.is at c.in_ok-kind.ensures)),
)

pub returns : goal.returns
returns c = (
  c.in-Some.caller,
  c.in-Some.text.now,
  IsCalled-read c.args.line.now c.in-Some.text.now c.in-Some.caller (sym c.in-Some.ensures),
  rw (← c.is_some.ensures) (rw c.in-Some-2.is at c.in_ok-kind.ensures),
  c.unwrap_or.ensures,
)
