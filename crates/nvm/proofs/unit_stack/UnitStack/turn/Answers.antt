use Rattle.std.proofs.Common.{ap, ◌∙◌, subst}
use Rattle.nvm_flash.specs.fee_core.Tells.{told_clock}
use Rattle.nvm_flash.specs.fee_told.Device.{Device, told_of}
use Rattle.nvm_flash.specs.memif.Calls.{InOrder}
use Rattle.nvm_flash.specs.memif.Trials.{Lasts}
use Rattle.nvm_flash.specs.nvm_laws.DueCalls.{TurnServesDue}
use Rattle.nvm_flash.specs.nvm_laws.Keeps.{StaysKept}
use Rattle.nvm_flash.specs.nvm_laws.Traits.{KeepsSeal, TakesKeptInHand}
use Rattle.nvm_flash.specs.nvm_core.Due.{now_of}
use Rattle.nvm_flash.specs.nvm_core.Paying.{TurnPays}
use Rattle.nvm.specs.Closing.{UnitState}
use Rattle.nvm.specs.Unit.{Stays, UnitTurns}
use Rattle.nvm.proofs.UnitLaws.{kept_unit, turns_stay, turns_take, turns_up}
use Rattle.nvm.specs.Turned.{TurnsMove}
use Rattle.nvm.proofs.UnitTurns.{turned_moves, turned_turned}
use Rattle.nvm.proofs.unit_stack.UnitStack.turn.Goals as goal

pub invariant_of-self : goal.invariant_of-self
invariant_of-self g c =
    let s = c.self.inside.stack in let t = c.turn-turned.new.self in
    let is = c.turn-turned.ensures in
    let ready = ap (λ (x : UnitState). x.ready) c.self.view_is ∙ c.requires in
    kept_unit g.O.Origin.making g.O.Origin.entry c.self.inside.plans c.self.inside.plans s t c.self.invariant ready (turns_up s t c.turn-turned.result is.turns) (turns_stay s t c.turn-turned.result is.turns).config
    (turns_take s t c.turn-turned.result is.turns ∙ c.self.invariant.takes) is.keeps
    (turned_turned s t c.self.invariant.turned ready (turns_up s t c.turn-turned.result is.turns ∙ ready)
    (turned_moves s t c.turn-turned.result is.turns ready is.keeps is.counted is.left is.lasts is.pays is.due is.seals is.kept (c.device-device.ensures.tied ready) c.device-behind.ensures.tied c.device-behind.ensures.power
    (subst (λ (d : Device). InOrder (told_of d) (told_clock d)) c.device-device.ensures.device c.status-before.ensures.order) (subst (λ (d : Device). InOrder (told_of d) (told_clock d)) c.device-behind.ensures.device c.status-status.ensures.order)))

pub returns-clause-turns : goal.returns-clause-turns
returns-clause-turns g c = let t = c.turn-turned.new.self in subst (λ (x : UnitState). UnitTurns c.turn-turned.result x t) c.self.view_is c.turn-turned.ensures.turns

pub returns-clause-moved : goal.returns-clause-moved
returns-clause-moved g c =
    let s = c.self.inside.stack in let t = c.turn-turned.new.self in
    let is = c.turn-turned.ensures in
    let ready = ap (λ (x : UnitState). x.ready) c.self.view_is ∙ c.requires in
    subst (λ (x : UnitState). TurnsMove x t) c.self.view_is
    (turned_moves s t c.turn-turned.result is.turns ready is.keeps is.counted is.left is.lasts is.pays is.due is.seals is.kept (c.device-device.ensures.tied ready) c.device-behind.ensures.tied c.device-behind.ensures.power
    (subst (λ (d : Device). InOrder (told_of d) (told_clock d)) c.device-device.ensures.device c.status-before.ensures.order) (subst (λ (d : Device). InOrder (told_of d) (told_clock d)) c.device-behind.ensures.device c.status-status.ensures.order)).0

pub returns-clause-ready : goal.returns-clause-ready
returns-clause-ready g c =
    let s = c.self.inside.stack in let t = c.turn-turned.new.self in turns_up s t c.turn-turned.result c.turn-turned.ensures.turns ∙ (ap (λ (x : UnitState). x.ready) c.self.view_is ∙ c.requires)

pub returns-clause-stays : goal.returns-clause-stays
returns-clause-stays g c =
    let s = c.self.inside.stack in let t = c.turn-turned.new.self in subst (λ (x : UnitState). Stays x t) c.self.view_is (turns_stay s t c.turn-turned.result c.turn-turned.ensures.turns)

pub returns-clause-keeps : goal.returns-clause-keeps
returns-clause-keeps g c = let t = c.turn-turned.new.self in subst (λ (x : UnitState). StaysKept x.desk x.hand (told_of x.device) (told_clock x.device) t.desk t.hand (told_of t.device) (told_clock t.device)) c.self.view_is c.turn-turned.ensures.keeps

pub returns-clause-lasts : goal.returns-clause-lasts
returns-clause-lasts g c = let t = c.turn-turned.new.self in subst (λ (x : UnitState). Lasts (told_of x.device) (told_clock x.device) (told_of t.device) (told_clock t.device)) c.self.view_is c.turn-turned.ensures.lasts

pub returns-clause-pays : goal.returns-clause-pays
returns-clause-pays g c = let t = c.turn-turned.new.self in subst (λ (x : UnitState). TurnPays told_of told_clock x t) c.self.view_is c.turn-turned.ensures.pays

pub returns-clause-due : goal.returns-clause-due
returns-clause-due g c = let t = c.turn-turned.new.self in subst (λ (x : UnitState). TurnServesDue (now_of told_of x) (now_of told_of t)) c.self.view_is c.turn-turned.ensures.due

pub returns-clause-seals : goal.returns-clause-seals
returns-clause-seals g c = let t = c.turn-turned.new.self in subst (λ (x : UnitState). KeepsSeal (told_of x.device) (told_clock x.device) (told_of t.device) (told_clock t.device)) c.self.view_is c.turn-turned.ensures.seals

pub returns-clause-kept : goal.returns-clause-kept
returns-clause-kept g c = let t = c.turn-turned.new.self in subst (λ (x : UnitState). TakesKeptInHand x.desk (told_of x.device) (told_of t.device) (told_clock t.device)) c.self.view_is c.turn-turned.ensures.kept
