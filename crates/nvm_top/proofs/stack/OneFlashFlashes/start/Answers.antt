use Rattle.std.proofs.Common.{refl, sym, ap, ◌∙◌, subst}
use Rattle.nvm_flash.specs.block_config.Config.{Configuration}
use Rattle.nvm_flash.specs.fee_laws.Made.{part_at}
use Rattle.nvm_flash.specs.fee_told.Device.{Device, told_of}
use Rattle.nvm_flash.specs.fee_core.Tells.{told_clock}
use Rattle.nvm_flash.specs.memif.Calls.{InOrder}
use Rattle.nvm_flash.specs.Made.{IsOrigin, one_part}
use Rattle.nvm_top.proofs.Driven.{right_size, started, kept_up, stops_by}
use Rattle.nvm_top.proofs.stack.OneFlashFlashes.start.Goals as goal

pub returns-in-Ok-begin-clause-started : goal.returns-in-Ok-begin-clause-started
returns-in-Ok-begin-clause-started g c =
    started c.args.config (g.F.Flash.told c.args.self.flash) c.args.cuts g.O.Origin.making g.O.Origin.entry c.in-Ok.stack c.in-Ok-begin.stack c.geometry-geometry.ensures.legal c.requires c.in-Ok.ensures.made c.in-Ok-begin.ensures.started

pub returns-in-Ok-begin-clause-copies : goal.returns-in-Ok-begin-clause-copies
returns-in-Ok-begin-clause-copies g c = ap (λ s. s.copies) c.in-Ok-begin.ensures.started.only ∙ ap (λ s. s.copies) c.in-Ok.ensures.made.only

pub returns-in-Ok-begin-clause-size : goal.returns-in-Ok-begin-clause-size
returns-in-Ok-begin-clause-size g c = right_size c.args.config (g.F.Flash.told c.args.self.flash) c.args.cuts g.O.Origin.making g.O.Origin.entry c.in-Ok.stack c.requires c.in-Ok.ensures.made

pub returns-in-Ok-begin-clause-kept : goal.returns-in-Ok-begin-clause-kept
returns-in-Ok-begin-clause-kept g c =
    kept_up c.args.config g.O.Origin.making g.O.Origin.entry (one_part (part_at g.O.Origin.entry)) c.in-Ok.stack c.in-Ok-begin.stack c.in-Ok-begin.stack c.geometry-geometry.ensures.legal
    (subst (λ (x : Device). InOrder (told_of x) (told_clock x)) c.device-device.ensures.device c.status-status.ensures.order) refl c.in-Ok-begin.ensures.started c.in-Ok.ensures.made
    (c.in-Ok-begin.ensures.kept c.args.config (g.F.Flash.told c.args.self.flash) c.args.cuts (ap (λ s. s.desk.config) c.in-Ok.ensures.made.only) c.geometry-geometry.ensures.legal c.requires)

pub returns-in-Err-begin-clause-stopped : goal.returns-in-Err-begin-clause-stopped
returns-in-Err-begin-clause-stopped g c =
    stops_by c.args.config c.in-Ok.stack.desk.config c.in-Err-begin.fault (g.F.Flash.told c.args.self.flash) (g.F.Flash.told c.in-Err-begin.flash) c.geometry-geometry.result c.stop_of_make.result (ap (λ s. s.desk.config) c.in-Ok.ensures.made.only) c.geometry-geometry.ensures.value c.stop_of_make.ensures
    (c.in-Err-begin.ensures.stopped (g.F.Flash.told c.args.self.flash) c.args.cuts (subst (λ (x : Configuration). IsOrigin x (g.F.Flash.told c.args.self.flash) c.args.cuts g.O.Origin.making g.O.Origin.entry) (sym (ap (λ s. s.desk.config) c.in-Ok.ensures.made.only)) c.requires))
