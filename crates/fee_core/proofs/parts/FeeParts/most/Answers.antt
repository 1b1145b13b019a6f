use Rattle.std.proofs.Common.{◌≡◌, ◌+◌, ℕ, false, [], sym, ap, ◌∙◌, subst, arith}
use Rattle.nv_base.specs.Geometry.{IsLegal, sectors_of_bank}
use Rattle.nv_base.specs.declared.geometry.Geometry.{Geometry}
use Rattle.memif.specs.declared.answer.JobResult.TheVariants.{JobOk}
use Rattle.memif.specs.Told.{Ended}
use Rattle.fee_laws.specs.fee_told.Figures.{OpenWork}
use Rattle.fee_laws.proofs.ToldFigures.{left_fits}
use Rattle.fee_laws.specs.Work.{pages_of_op}
use Rattle.fee_core.specs.Whole.{Sound}
use Rattle.fee_core.proofs.Looking.{figure_of, most_is, one_is, own_turns, shape_is, switch_is}
use Rattle.fee_core.proofs.parts.FeeParts.most.Goals as goal

pub returns-in-Read : goal.returns-in-Read
returns-in-Read g c =
    let m = g.O.Origin.making in
    let size = c.length_of-length.result in
    one_is m.geometry.page (own_turns m) size c.args.op c.in-Read.is ∙ figure_of m c.args.number.0 size c.args.op c.length_of-length.ensures

pub overflow_add-result-in_default : goal.overflow_add-result-in_default
overflow_add-result-in_default g c =
    let m = g.O.Origin.making in
    let was = (subst (Sound m g.O.Origin.entry) (sym c.self.view_is) c.requires.sound).parts in
    let switch = switch_is c.self.view_is c.requires.sound c.geometry-geometry.result c.geometry-geometry.ensures.geometry _ c.most_turns-switch.result c.bank_sectors.ensures c.most_turns-switch.ensures in
    let legal = subst IsLegal was.made_for.banks_geometry c.geometry-geometry.ensures.state.legal in
    let w : OpenWork = record { pages = 0; owed = false; switch = own_turns m } in
    let few = left_fits m.geometry.page (sectors_of_bank m.geometry m.banks) m.reserve m.numbers (Ended JobOk []) w legal.page_high (let high = legal.sectors_high in omega arith) was.made_for.space.lengths (record { job = tt; few = omega arith }) in
    omega (arith, switch, few)

pub returns-in_default : goal.returns-in_default
returns-in_default g c =
    let m = g.O.Origin.making in
    let size = c.length_of-length.result in
    let switch = switch_is c.self.view_is c.requires.sound c.geometry-geometry.result c.geometry-geometry.ensures.geometry _ c.most_turns-switch.result c.bank_sectors.ensures c.most_turns-switch.ensures in
    let page = ap (λ (x : Geometry). x.page) (shape_is c.self.view_is c.requires.sound c.geometry-geometry.result c.geometry-geometry.ensures.geometry) in
    let here : c.from.result ≡ pages_of_op m.geometry.page c.args.op size = c.from.ensures ∙ c.pages_of_op.ensures ∙ ap (λ (p : ℕ). pages_of_op p c.args.op size) page in
    (λ k. here k + 1 + switch k) ∙ most_is m.geometry.page (own_turns m) size c.args.op c.in_default.not-Read ∙ figure_of m c.args.number.0 size c.args.op c.length_of-length.ensures
