use Rattle.std.specs.Prelude.{IfSome}
use Rattle.std.proofs.Common.{Option, ◌∙◌, sym, ap, subst}
use Rattle.fee_image.specs.Image.{layout_of, bank_in}
use Rattle.nv_base.specs.Geometry.{pages_of_bank}
use Rattle.fee_log.specs.Index.{clear_flags}
use Rattle.fee_log.specs.Log.{LogState}
use Rattle.fee_switch.specs.declared.loading.Coming.{Coming}
use Rattle.fee_switch.specs.Start.{IsComing, HasComing}
use Rattle.fee_switch.proofs.Starts.{loaded_as, bank_there}
use Rattle.fee_switch.proofs.loading.close_bank.Goals as goal

pub returns-clause-taken : goal.returns-clause-taken
returns-clause-taken c all comes first =
    let log = c.args.log.now in
    let l = layout_of log.geometry log.banks in
    let come = subst (λ (x : Option Coming). IsComing l all c.args.bank c.args.first.now x log) c.in-Some.is comes in
    let has = subst (λ (x : Option Coming). IfSome x (HasComing c.args.bank (pages_of_bank log.geometry log.banks) log)) c.in-Some.is c.requires.coming in
    let end = c.load_end.ensures in
    let head = c.in-Some.field-0.head in (
      sym (come.0 first.0),
      loaded_as l all c.args.bank head c.load_end.new.self (ap (λ (s : LogState). s.bank) end.same ∙ has.bank) (ap (λ (s : LogState). s.format) end.same ∙ has.format)
          (ap (λ (s : LogState). s.flags) end.same ∙ has.clear ∙ ap clear_flags (sym (ap (λ (s : LogState). s.numbers) end.same)))
          (end.loaded (bank_in l head.format c.args.bank) all (bank_there log c.args.bank head.format has.format) come.1),
    )
