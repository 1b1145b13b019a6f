use Rattle.std.proofs.Common.{refl, ap, subst, sym, ◌∙◌, Option}
use Rattle.nvm_laws.specs.memif.Told.{ops_of}
use Rattle.nvm_laws.specs.block_machine.Words.{Entry}
use Rattle.nvm_laws.specs.declared.turned.Turned.{Turned}
use Rattle.nvm_laws.specs.job_progress.Hand.{HandState}
use Rattle.nvm_laws.specs.Keeps.{StaysKept}
use Rattle.nvm_laws.specs.Turns.{AddsBy}
use Rattle.nvm_laws.proofs.Turning.{device_turns_keep}
use Rattle.nvm_core.specs.BehindDevice.{IsBehindTurn, TurnsDevice, asked_by}
use Rattle.nvm_core.proofs.TurnedBehind.{asked_is, has_turned, turns_device}
use Rattle.nvm_core.proofs.driver.Driver.device_turn.Goals as goal

pub second_half-requires : goal.second_half-requires
second_half-requires g c = (
  g.D.MemDevice.told c.args.self.now.device,
  record {
    tied = c.requires.tied;
    on = c.requires.on;
    turned = has_turned c.turn-turned.result _ _ _ _ c.turn-turned.ensures;
  },
)

pub returns : goal.returns
returns g c =
    let desk = c.args.desk.now in
    let old = g.D.MemDevice.told c.args.self.now.device in
    let new = g.D.MemDevice.told c.turn-turned.new.self in
    let clock = g.D.MemDevice.clock c.args.self.now.device in
    let clock_new = g.D.MemDevice.clock c.turn-turned.new.self in
    let turned = c.turn-turned.result in
    let takes = c.second_half.ensures.takes in
    let behind : IsBehindTurn turned desk c.args.self.now.hand old new = record { tied = c.requires.tied; on = c.requires.on; turned = has_turned turned _ _ _ _ c.turn-turned.ensures } in
    let adds = takes.adds old behind in
    let hand = takes.goes old behind in
    rw c.second_half.ensures.only (record {
      turns = subst (λ (t : Turned). TurnsDevice t old clock new clock_new) (sym takes.answers) (turns_device turned old clock new clock_new c.turn-turned.ensures);
      adds = subst (λ (e : Option Entry). AddsBy e desk c.second_half.new.desk)
          (sym (ap (λ (t : Turned). asked_by t old.stand new.stand (ops_of new)) takes.answers ∙ asked_is turned old.stand new.stand (ops_of new))) adds;
      hand = hand;
      copies = refl;
      tied = c.second_half.ensures.tied;
      keeps = subst (λ (h : Option HandState). StaysKept desk c.args.self.now.hand old clock c.second_half.new.desk h new clock_new) (sym hand)
          (device_turns_keep old clock new clock_new turned c.turn-turned.ensures desk c.second_half.new.desk c.args.self.now.hand c.requires.tied.up c.requires.tied.paired c.requires.started adds);
    })
