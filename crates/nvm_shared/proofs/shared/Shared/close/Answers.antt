use Rattle.std.proofs.Common.{List, sym, ap, subst}
use Rattle.nvm_core.specs.block_machine.Words.{Entry}
use Rattle.nvm_core.specs.nv_desk.Desk.{DeskState}
use Rattle.turn_gate.specs.Entries.{AllAgree, AllHeard}
use Rattle.turn_gate.specs.Pass.{OwnsAll, knows}
use Rattle.nvm_shared.specs.StatusWords.{gives}
use Rattle.nvm_shared.proofs.shared.Shared.close.Goals as goal

pub returns-clause-all : goal.returns-clause-all
returns-clause-all c = subst (λ (l : List Entry). OwnsAll (knows c.args.pass) l) (sym (ap (λ (d : DeskState). d.entries) c.into_front.ensures.desk)) c.close.ensures.all

pub returns-clause-agree : goal.returns-clause-agree
returns-clause-agree c = subst (λ (l : List Entry). AllAgree gives l (knows c.args.pass).notes) (sym (ap (λ (d : DeskState). d.entries) c.into_front.ensures.desk)) c.close.ensures.agree

pub returns-clause-heard : goal.returns-clause-heard
returns-clause-heard c = subst (λ (l : List Entry). AllHeard l (knows c.args.pass).heard) (sym (ap (λ (d : DeskState). d.entries) c.into_front.ensures.desk)) c.close.ensures.heard
