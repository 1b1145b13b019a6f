use Rattle.std.specs.Prelude.{◌-◌, IsSomeAnd, length, slice_get}
use Rattle.std.proofs.Common.{◌≡◌, true, Some, ap, sym, ◌∙◌, subst, arith}
use Rattle.nvm.specs.block_machine.Words.{Found}
use Rattle.nvm.specs.fls_model.Told.{bytes_now}
use Rattle.nvm.specs.nvm_flash.fee_told.Device.{Device, slots_in, tells_now}
use Rattle.nvm.specs.nvm_flash.nvm_laws.Standing.{settled_marks}
use Rattle.nvm_script.specs.Lines.{entry_line}
use Rattle.nvm_c.specs.Unit.{KnowsImage, UnitState, last_line}
use Rattle.nvm_c.proofs.StandingMarks.{line_standing, line_told, told_first, told_sound}
use Rattle.nvm_c.proofs.unit.LentUnit.found_line.Goals as goal
use Rattle.nvm_c.proofs.unit.LentUnit.found_line.Goals.{else-not-self-2-via-then-not-self-2+else-ops-gt0, else-not-self-2-via-else-not-self-2}

pub returns-clause-line : goal.returns-clause-line
returns-clause-line g c =
    let making = g.O.Origin.making in let entry = g.O.Origin.entry in
    let u = c.self.inside.unit in
    let d = c.device-device.result.now in
    let ready : u.ready ≡ true = c.self.invariant.0.is_up ∙ (let on = c.if-not-self.false in cc on) in
    let same : d ≡ u.device = c.device-device.ensures.device ∙ ap (λ (s : UnitState). s.device) c.stack-stack.ensures.stack in
    let made = c.flash-flash.ensures.made in
    let tells : tells_now d ≡ true = elim c.else-not-self-2.branch [
      | else-not-self-2-via-then-not-self-2+else-ops-gt0 w ↦ told_first c.self.inside.sound making entry d made.0 made.1 c.self.invariant.1 (let none = w.if-ops-gt0.false in let is = w.ops.ensures in omega (arith, none, is))
      | else-not-self-2-via-else-not-self-2 w ↦ told_sound making entry d made.0 made.1 (subst (λ on. KnowsImage on making entry) (let on = w.if-not-self-2.false in cc on) c.self.invariant.1)
    ] in
    let last = subst (λ (s : UnitState). slice_get s.desk.entries (length s.desk.entries - 1) ≡ Some (Found c.requires.last.0 c.args.ops)) (sym c.self.view_is) c.requires.last.1 in
    let lists = c.stack-stack.ensures.standing in
    line_told c.standing_line.result c.told.result (last_line c.args.self.now)
    (λ line. IsSomeAnd (bytes_now d.flash) (λ bytes. line ≡ entry_line (Found (settled_marks d.making.numbers (slots_in d bytes)) c.args.ops)))
    c.told.ensures.line c.told.ensures.none c.standing_line.ensures
    (λ line written. subst (λ (s : UnitState). Some line ≡ last_line s) c.self.view_is
    (line_standing u c.requires.last.0 c.args.ops line lists ready last (subst (λ (x : Device). tells_now x ≡ true) same tells)
    (subst (λ (x : Device). IsSomeAnd (bytes_now x.flash) (λ bytes. line ≡ entry_line (Found (settled_marks x.making.numbers (slots_in x bytes)) c.args.ops))) same written)))
