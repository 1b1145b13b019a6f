use Rattle.std.specs.Prelude.{IfSome}
use Rattle.std.proofs.Common.{Option, subst}
use Rattle.fee_image.specs.Image.{layout_of, bank_in}
use Rattle.fee_switch.specs.declared.loading.Coming.{Coming}
use Rattle.fee_switch.specs.Start.{IsComing, HasComing}
use Rattle.fee_switch.proofs.Starts.{bank_there}
use Rattle.fee_switch.proofs.loading.look_on.Goals as goal

pub returns-in-Some-clause-seen : goal.returns-in-Some-clause-seen
returns-in-Some-clause-seen c all pages first comes =
    let log = c.args.log.now in
    let l = layout_of log.geometry log.banks in
    let head = c.in-Some.field-0.head in
    let come = subst (λ (x : Option Coming). IsComing l all c.args.bank first x log) c.in-Some.is comes in
    let has = subst (λ (x : Option Coming). IfSome x (HasComing c.args.bank c.args.from log)) c.in-Some.is c.requires.coming in
    (come.0, c.load_pages-load.ensures.seen (bank_in l head.format c.args.bank) all (bank_there log c.args.bank head.format has.format) (pages head.format) come.1)
