use Rattle.std.specs.Prelude.{map}
use Rattle.std.proofs.Common.{◌≡◌, true, ap, ◌∙◌, subst}
use Rattle.nvm.specs.nvm_flash.fee_told.Device.{told_of}
use Rattle.nvm.specs.nvm_flash.nvm_laws.Ties.{IsTied}
use Rattle.nvm.specs.nvm_core.Stack.{PowersOff}
use Rattle.nvm.specs.nvm_core.nv_desk_copies.Front.{AreSynchronized}
use Rattle.nvm.specs.ram_blocks.Plain.{told_of as copy_told}
use Rattle.nvm.proofs.UnitLaws.{turns_take, turns_up}
use Rattle.nvm_c.specs.Unit.{UnitState, IsTurnCall}
use Rattle.nvm_c.proofs.UnitLaws.{still_counted, turns_told}
use Rattle.nvm_c.proofs.unit.LentUnit.turn.Goals as goal

pub invariant_of-self : goal.invariant_of-self
invariant_of-self g c =
    let s = c.self.inside.unit in let t = c.turn-turned.new.self in (
      record {
        is_up = turns_up s t c.turn-turned.result c.turn-turned.ensures.turns ∙ c.self.invariant.0.is_up;
        takes = turns_take s t c.turn-turned.result c.turn-turned.ensures.turns ∙ c.self.invariant.0.takes;
        counted = still_counted s t c.turn-turned.ensures.stays c.self.invariant.0.counted;
      },
      c.self.invariant.1,
    )

-- what its device tells of a stack
record Tells (s : UnitState) : Type 0 where
  tied : s.ready ≡ true → IsTied s.desk s.hand (told_of s.device)
  power : s.ready ≡ true → PowersOff s.desk (told_of s.device)
  synchronized : AreSynchronized s.desk.config (map copy_told s.copies)

pub returns : goal.returns
returns g c =
    let s = c.self.inside.unit in let t = c.turn-turned.new.self in
    let is = c.turn-turned.ensures in
    let ready = ap (λ (x : UnitState). x.ready) c.self.view_is ∙ c.requires in
    let old : Tells s = subst Tells c.stack-before.ensures.stack (record { tied = c.device-device.ensures.tied; power = c.device-device.ensures.power; synchronized = c.device-device.ensures.synchronized }) in
    let new : Tells t = subst Tells c.stack-after.ensures.stack (record { tied = c.device-behind.ensures.tied; power = c.device-behind.ensures.power; synchronized = c.device-behind.ensures.synchronized }) in
    subst (λ (x : UnitState). IsTurnCall c.turn-turned.result x t) c.self.view_is (record {
      moved = is.moved;
      told = turns_told s t c.turn-turned.result is.turns (λ same. record {
        power = new.power (same ∙ ready);
        counted = is.counted;
        lowers = is.lowers;
        tied = old.tied ready;
        tied_behind = new.tied (same ∙ ready);
        synchronized = old.synchronized;
      }) (old.power ready);
    })
