use Rattle.std.proofs.Common.{inr, sym, ◌∙◌}
use Rattle.nvm_script.proofs.OwnerLaws.{Owns-noted, keeps-same}
use Rattle.nvm_script.proofs.ScriptLaws.{IsWrong-owned, IsWrong-unread}
use Rattle.nvm_script.proofs.script.add_line.Goals as goal

pub returns-then-not-allow-clause-line : goal.returns-then-not-allow-clause-line
returns-then-not-allow-clause-line c =
    let is = rw c.in-Step.is at c.in_ok-read_line.ensures in
    let same = keeps-same c.args.config.now c.args.mode c.args.owners.now c.args.steps.now c.in-Step.caller c.in-Step.kind c.requires.owners in
    IsWrong-owned c.args.config.now c.args.mode c.args.number c.args.line.now c.args.steps.now c.in-Step.caller c.in-Step.kind is (sym same ∙ sym c.if-not-allow.ensures)

pub returns-in-Wrong-clause-line : goal.returns-in-Wrong-clause-line
returns-in-Wrong-clause-line c =
    let is = rw c.in-Wrong.is at c.in_ok-read_line.ensures in
    IsWrong-unread c.args.config.now c.args.mode c.args.number c.args.line.now c.args.steps.now is.0 is.1

pub returns-in_ok-add-in-Step-clause-owners : goal.returns-in_ok-add-in-Step-clause-owners
returns-in_ok-add-in-Step-clause-owners c =
    rw (c.note.ensures, c.in_ok-add-in-Step.ensures.ok) (Owns-noted c.args.config.now c.args.owners.now c.args.steps.now (record { line = c.args.number; caller = c.in-Step.caller; kind = c.in-Step.kind }) c.requires.owners)

pub returns-in_ok-add-in-Step-clause-line : goal.returns-in_ok-add-in-Step-clause-line
returns-in_ok-add-in-Step-clause-line c =
    let is = rw c.in-Step.is at c.in_ok-read_line.ensures in
    let same = keeps-same c.args.config.now c.args.mode c.args.owners.now c.args.steps.now c.in-Step.caller c.in-Step.kind c.requires.owners in
    inr (c.in-Step.caller, c.in-Step.kind, is, sym same ∙ sym c.if-not-allow.ensures, c.in_ok-add-in-Step.ensures.ok)
