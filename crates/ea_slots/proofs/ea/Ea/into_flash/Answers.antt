use Rattle.std.specs.Prelude.{IfSome}
use Rattle.std.proofs.Common.{◌≡◌, ◌≤◌, false, [], ap, ◌∙◌, sym, subst}
use Rattle.fls_model.specs.Told.{Told, changes_in}
use Rattle.promise_device.specs.Bridge.{Bridges}
use Rattle.ea_told.specs.Parts.{Parts}
use Rattle.ea_told.specs.Reading.{reading_of}
use Rattle.ea_told.specs.Device.{told_of, clock_of}
use Rattle.ea_told.proofs.Made.{parts_bridge}
use Rattle.ea_slots.specs.Whole.{Device, told_in, clock_in, part_at}
use Rattle.ea_slots.proofs.ea.Ea.into_flash.Goals as goal

pub returns-clause-told : goal.returns-clause-told
returns-clause-told g c =
    let same = c.into_flash.ensures ∙ ap (λ (x : Parts). x.fls.flash) c.parts.view_is in
    same ∙ ap (λ (x : Device). x.parts.fls.flash) c.self.view_is

pub returns-clause-geometry : goal.returns-clause-geometry
returns-clause-geometry g c =
    let made = c.self.invariant.made_for in
    let same = ap (λ (x : Parts). x.fls) c.parts.view_is in
    let told = ap (λ (x : Told). x.geometry) c.into_flash.ensures in
    told ∙ (c.status.ensures.state.attached (ap (λ x. x.attached) same ∙ made.idle.attached)).geometry ∙ ap (λ x. x.geometry) same ∙ made.driver

pub returns-clause-more : goal.returns-clause-more
returns-clause-more g c =
    let same = c.into_flash.ensures ∙ ap (λ (x : Parts). x.fls.flash) c.parts.view_is in
    subst (λ (x : Told). g.O.Origin.entry.faults ≤ x.faults) (sym same) c.self.invariant.run.more

pub returns-clause-none : goal.returns-clause-none
returns-clause-none g c =
    let entry = g.O.Origin.entry in
    let p = c.self.inside.parts in
    let told = g.F.Flash.told c.into_flash.result in
    let same = c.into_flash.ensures ∙ ap (λ (x : Parts). x.fls.flash) c.parts.view_is in
    let here = subst (λ (x : Told). p.operations ≡ [] → (x.ops ≡ entry.ops) × (x.cuts ≡ entry.cuts)) (sym same) c.self.invariant.run.none in
    subst (λ (x : Device). x.parts.operations ≡ [] → (told.ops ≡ entry.ops) × (told.cuts ≡ entry.cuts)) c.self.view_is here

pub returns-clause-changes : goal.returns-clause-changes
returns-clause-changes g c =
    let p = c.self.inside.parts in
    let same = c.into_flash.ensures ∙ ap (λ (x : Parts). x.fls.flash) c.parts.view_is in
    let here = subst (λ (x : Told). IfSome (changes_in x.bytes) (λ changes. changes ≡ p.operations)) (sym same) c.self.invariant.run.changes in
    subst (λ (x : Device). IfSome (changes_in (g.F.Flash.told c.into_flash.result).bytes) (λ changes. changes ≡ x.parts.operations)) c.self.view_is here

pub returns-clause-bridge : goal.returns-clause-bridge
returns-clause-bridge g c =
    let m = g.O.Origin.making in
    let entry = g.O.Origin.entry in
    let p = c.self.inside.parts in
    let told = g.F.Flash.told c.into_flash.result in
    let same = c.into_flash.ensures ∙ ap (λ (x : Parts). x.fls.flash) c.parts.view_is in
    let out = subst (λ (x : Told). Bridges (reading_of m) false (record { entry = entry; exit = x; operations = p.operations }) (part_at entry) (told_of m entry p) (clock_of m entry p)) (sym same) (parts_bridge m entry p c.self.invariant) in
    subst (λ (x : Device). Bridges (reading_of m) false (record { entry = entry; exit = told; operations = x.parts.operations }) (part_at entry) (told_in x) (clock_in x)) c.self.view_is out
