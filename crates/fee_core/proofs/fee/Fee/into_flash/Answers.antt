use Rattle.std.specs.Prelude.{IfSome}
use Rattle.std.proofs.Common.{◌≡◌, ◌≤◌, ℕ, false, [], ap, ◌∙◌, sym, subst}
use Rattle.nv_base.specs.Geometry.{sectors_of_bank}
use Rattle.memif.specs.Told.{First, figures_at}
use Rattle.fee_course.specs.Course.{most_turns}
use Rattle.fls_model.specs.Told.{Told, changes_in}
use Rattle.promise_device.specs.Bridge.{Bridges, reading_of}
use Rattle.promise_device.specs.Room.{TellsWorkOver}
use Rattle.promise_device.specs.Wear.{OperationsAreDue}
use Rattle.fee_laws.specs.fee_log.Log.{IsLogState}
use Rattle.fee_laws.specs.fee_switch.Banks.{IsBanksState}
use Rattle.fee_laws.proofs.Runs.{runs_bridge}
use Rattle.fee_laws.specs.fee_told.Device.{Device, told_of, clock_of, flash_device}
use Rattle.fee_laws.specs.Inside.{device_of}
use Rattle.fee_laws.specs.Made.{part_at}
use Rattle.fee_laws.specs.SwitchTold.{TellsSwitchOver}
use Rattle.fee_core.specs.Whole.{Whole}
use Rattle.fee_core.proofs.RoomTold.{switch_told, work_told}
use Rattle.fee_core.proofs.Telling.{all_first}
use Rattle.promise_device.specs.SwitchErases.{RestartsAreFew}
use Rattle.fee_laws.proofs.Restarts.{restarts_told}
use Rattle.fee_core.proofs.WearTold.{wear_told}
use Rattle.fee_core.proofs.fee.Fee.into_flash.Goals as goal

pub returns-clause-bridge : goal.returns-clause-bridge
returns-clause-bridge g c =
    let m = g.O.Origin.making in
    let entry = g.O.Origin.entry in
    let p = c.self.inside.parts in
    let d = device_of m entry p.parts in
    let told = g.F.Flash.told c.into_flash.result in
    let same = c.into_flash.ensures ∙ ap (λ (w : Whole). w.parts.fls.flash) c.parts.view_is in
    let holds = runs_bridge (flash_device d) c.self.invariant.parts.device.run in
    let out = subst (λ (x : Told). Bridges (reading_of m) false (record { entry = entry; exit = x; operations = p.parts.operations }) (part_at entry) (told_of d) (clock_of d)) (sym same) holds in
    subst (λ (x : Device). Bridges (reading_of m) false (record { entry = entry; exit = told; operations = x.operations }) (part_at entry) (told_of x) (clock_of x)) c.self.view_is out

pub returns-clause-geometry : goal.returns-clause-geometry
returns-clause-geometry g c =
    let p = c.self.inside.parts in
    let made = c.self.invariant.parts.made_for in
    let same = ap (λ (w : Whole). w.parts.fls) c.parts.view_is in
    let told = ap (λ (x : Told). x.geometry) c.into_flash.ensures in
    told ∙ (c.status.ensures.state.attached (ap (λ x. x.attached) same ∙ made.idle.attached)).geometry ∙ ap (λ x. x.geometry) same ∙ made.geometry

pub returns-clause-changes : goal.returns-clause-changes
returns-clause-changes g c =
    let m = g.O.Origin.making in
    let entry = g.O.Origin.entry in
    let p = c.self.inside.parts in
    let same = c.into_flash.ensures ∙ ap (λ (w : Whole). w.parts.fls.flash) c.parts.view_is in
    let run = c.self.invariant.parts.device.run in
    let here = subst (λ (x : Told). IfSome (changes_in x.bytes) (λ changes. changes ≡ p.parts.operations)) (sym same) run.changes in
    subst (λ (x : Device). IfSome (changes_in (g.F.Flash.told c.into_flash.result).bytes) (λ changes. changes ≡ x.operations)) c.self.view_is here

pub returns-clause-none : goal.returns-clause-none
returns-clause-none g c =
    let entry = g.O.Origin.entry in
    let p = c.self.inside.parts in
    let told = g.F.Flash.told c.into_flash.result in
    let same = c.into_flash.ensures ∙ ap (λ (w : Whole). w.parts.fls.flash) c.parts.view_is in
    let run = c.self.invariant.parts.device.run in
    let here = subst (λ (x : Told). p.parts.operations ≡ [] → (x.ops ≡ entry.ops) × (x.cuts ≡ entry.cuts)) (sym same) run.none in
    subst (λ (x : Device). x.operations ≡ [] → (told.ops ≡ entry.ops) × (told.cuts ≡ entry.cuts)) c.self.view_is here

pub returns-clause-more : goal.returns-clause-more
returns-clause-more g c =
    let same = c.into_flash.ensures ∙ ap (λ (w : Whole). w.parts.fls.flash) c.parts.view_is in
    subst (λ (x : Told). g.O.Origin.entry.faults ≤ x.faults) (sym same) c.self.invariant.parts.device.run.more

pub returns-clause-parts : goal.returns-clause-parts
returns-clause-parts g c =
    let m = g.O.Origin.making in
    subst (λ (x : Device). (n : ℕ) → (figures_at (told_of x).fixed n).part ≡ First) c.self.view_is
    (λ n. all_first m.geometry.page (most_turns m.geometry.page (sectors_of_bank m.geometry m.banks) m.numbers) m.numbers n)

pub returns-clause-room : goal.returns-clause-room
returns-clause-room g c =
    let m = g.O.Origin.making in
    let entry = g.O.Origin.entry in
    let p = c.self.inside.parts in
    let same = c.into_flash.ensures ∙ ap (λ (w : Whole). w.parts.fls.flash) c.parts.view_is in
    let banks = subst (λ (w : Whole). IsBanksState w.parts.banks) c.parts.view_is c.active-active.ensures.state in
    let log = subst (λ (w : Whole). IsLogState w.parts.banks.log) c.parts.view_is c.active-active.ensures.log in
    let here = work_told m entry p c.self.invariant banks log in
    let out = subst (λ (x : Told). TellsWorkOver m p.parts.operations x (told_of (device_of m entry p.parts))) (sym same) here in
    subst (λ (x : Device). TellsWorkOver m x.operations (g.F.Flash.told c.into_flash.result) (told_of x)) c.self.view_is out

pub returns-clause-switch : goal.returns-clause-switch
returns-clause-switch g c =
    let m = g.O.Origin.making in
    let entry = g.O.Origin.entry in
    let p = c.self.inside.parts in
    let same = c.into_flash.ensures ∙ ap (λ (w : Whole). w.parts.fls.flash) c.parts.view_is in
    let banks = subst (λ (w : Whole). IsBanksState w.parts.banks) c.parts.view_is c.active-active.ensures.state in
    let log = subst (λ (w : Whole). IsLogState w.parts.banks.log) c.parts.view_is c.active-active.ensures.log in
    let here = switch_told m entry p c.self.invariant banks log in
    let out = subst (λ (x : Told). TellsSwitchOver m entry p.parts.operations x (told_of (device_of m entry p.parts))) (sym same) here in
    subst (λ (x : Device). TellsSwitchOver m entry x.operations (g.F.Flash.told c.into_flash.result) (told_of x)) c.self.view_is out

pub returns-clause-wear : goal.returns-clause-wear
returns-clause-wear g c =
    let m = g.O.Origin.making in
    let entry = g.O.Origin.entry in
    let p = c.self.inside.parts in
    let told = g.F.Flash.told c.into_flash.result in
    let here = wear_told m entry told p.parts.operations c.self.invariant.wears in
    subst (λ (x : Device). OperationsAreDue m (record { entry = entry; exit = told; operations = x.operations })) c.self.view_is here

pub returns-clause-restarts : goal.returns-clause-restarts
returns-clause-restarts g c =
    let m = g.O.Origin.making in
    let entry = g.O.Origin.entry in
    let p = c.self.inside.parts in
    subst (λ (x : Device). RestartsAreFew m x.operations (told_of x)) c.self.view_is (restarts_told m p.parts entry c.self.invariant.restarts)
