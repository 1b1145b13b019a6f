use Rattle.nvm_callers.proofs.Common.{ap, subst, ◌∙◌, knows, AreClosed, EndList, EndsGoOn, Pairs, Along, AreEndsOf}
use Rattle.nvm_callers.proofs.Closing.{keeps_order_on, may_drive_on, may_run_all, still_over, was_run_on}
use Rattle.nvm_callers.proofs.Owned.{all_in, back_apart, back_below, back_into, back_places}
use Rattle.nvm_callers.proofs.mirrored.run_mirrored.Goals as goal

pub run_callers-pass-requires-clause-driver : goal.run_callers-pass-requires-clause-driver
run_callers-pass-requires-clause-driver g c κs within =
    may_drive_on g.D.MemDevice.told g.D.MemDevice.clock c.args.shared c.args.pass c.args.driver c.requires.begun c.of.result c.args.mirrors c.args.ends c.of.ensures c.requires.synchronized c.with_copies-driver.result.0 c.with_copies-driver.ensures.driver

pub run_callers-pass-requires-clause-may : goal.run_callers-pass-requires-clause-may
run_callers-pass-requires-clause-may g c κs within =
    may_run_all g.D.MemDevice.told g.D.MemDevice.clock c.args.shared c.args.pass c.args.driver c.requires.begun c.args.programs.now c.requires.programs.0 c.requires.programs.1

pub gather-requires-clause-apart : goal.gather-requires-clause-apart
gather-requires-clause-apart g c =
    back_apart c.args.shared.terms c.args.programs.now c.args.mirrors c.args.ends c.args.sides c.deal.new.sides c.requires.made c.in-Ok.stores.items c.run_callers-pass.result.3.items c.run_callers-pass.result.2 (knows c.run_callers-pass.result.0)
    c.in-Ok.ensures.dealt c.run_callers-pass.ensures.ran

pub gather-requires-clause-places : goal.gather-requires-clause-places
gather-requires-clause-places g c =
    back_places c.args.shared.terms c.args.programs.now c.args.mirrors c.args.ends c.args.sides c.deal.new.sides c.requires.made c.in-Ok.stores.items c.run_callers-pass.result.3.items c.run_callers-pass.result.2 (knows c.run_callers-pass.result.0)
    c.in-Ok.ensures.dealt c.run_callers-pass.ensures.ran

pub gather-requires-clause-below : goal.gather-requires-clause-below
gather-requires-clause-below g c =
    back_below c.args.shared.terms c.args.programs.now c.args.mirrors c.args.ends c.args.sides c.deal.new.sides c.requires.made c.in-Ok.stores.items c.run_callers-pass.result.3.items c.run_callers-pass.result.2 (knows c.run_callers-pass.result.0)
    c.in-Ok.ensures.dealt c.run_callers-pass.ensures.ran c.args.places c.requires.places

pub close-requires-clause-sides : goal.close-requires-clause-sides
close-requires-clause-sides g c =
    c.gather.ensures.own c.args.mirrors c.in-Ok.ensures.own
    (back_into c.args.shared.terms c.args.programs.now c.args.mirrors c.args.ends c.args.sides c.deal.new.sides c.requires.made c.in-Ok.stores.items c.run_callers-pass.result.3.items c.run_callers-pass.result.2 (knows c.run_callers-pass.result.0)
    c.in-Ok.ensures.dealt c.run_callers-pass.ensures.ran c.in-Ok.ensures.mirrors)

pub close-requires-clause-all : goal.close-requires-clause-all
close-requires-clause-all g c =
    all_in c.args.shared.terms c.args.programs.now c.args.mirrors c.args.ends c.args.sides c.deal.new.sides c.requires.made c.in-Ok.stores.items c.run_callers-pass.result.3.items c.run_callers-pass.result.2 (knows c.run_callers-pass.result.0)
    c.in-Ok.ensures.dealt c.run_callers-pass.ensures.ran c.gather.new.sides c.gather.ensures.gathered c.requires.sides.1

pub close-requires-clause-ends : goal.close-requires-clause-ends
close-requires-clause-ends g c =
    let last = c.run_callers-pass.result.1.copies in
    let over = still_over g.D.MemDevice.told g.D.MemDevice.clock c.args.shared.terms (knows c.args.pass).seen (knows c.run_callers-pass.result.0).seen c.with_copies-driver.result.0 c.run_callers-pass.result.1 c.of.result
    (ap (λ x. x.copies) c.with_copies-driver.ensures.driver) c.run_callers-pass.ensures.driven in
    subst (λ (ps : Pairs). AreEndsOf ps c.into_ends-ends.result) (ap (λ x. x.mirrors) c.into_parts-device-2.ensures.copies ∙ over.mirrors ∙ ap (λ x. x.mirrors) c.of.ensures) c.into_ends-ends.ensures.own

pub returns-clause-ran : goal.returns-clause-ran
returns-clause-ran g c =
    was_run_on g.D.MemDevice.told g.D.MemDevice.clock c.args.shared c.args.pass c.args.driver c.requires.begun c.of.result c.args.mirrors c.args.ends c.of.ensures c.requires.synchronized c.with_copies-driver.result.0 c.with_copies-driver.ensures.driver
    (knows c.run_callers-pass.result.0).seen c.run_callers-pass.result.1 c.run_callers-pass.ensures.driven c.run_callers-pass.ensures.ends c.run_callers-pass.result.2 c.close-desk.result.desk c.close-desk.ensures.desk c.into_parts-device-2.result.0 c.into_parts-device-2.ensures.device

pub returns-clause-order : goal.returns-clause-order
returns-clause-order g c = λ steps are.
    let last = c.run_callers-pass.result.1 in
    let over = still_over g.D.MemDevice.told g.D.MemDevice.clock c.args.shared.terms (knows c.args.pass).seen (knows c.run_callers-pass.result.0).seen c.with_copies-driver.result.0 last c.of.result
    (ap (λ x. x.copies) c.with_copies-driver.ensures.driver) c.run_callers-pass.ensures.driven in
    keeps_order_on g.D.MemDevice.told g.D.MemDevice.clock c.args.shared.terms steps c.args.programs.now are c.args.mirrors c.args.ends c.args.sides c.deal.new.sides c.gather.new.sides c.requires.made c.in-Ok.stores.items c.run_callers-pass.result.3.items
    c.in-Ok.ensures.dealt c.gather.ensures.gathered (knows c.args.pass).seen (knows c.run_callers-pass.result.0).seen c.requires.begun.first c.with_copies-driver.result.0 last c.run_callers-pass.ensures.driven
    (subst (λ (es : EndList Along). EndsGoOn es last.copies.ends) (ap (λ x. x.ends) c.of.ensures) over.ends)
    (subst (λ (es : EndList Along). AreClosed es c.gather.new.sides) (c.into_ends-ends.ensures.ends ∙ ap (λ x. x.ends) c.into_parts-device-2.ensures.copies) c.close.ensures)
    c.run_callers-pass.result.2 (knows c.run_callers-pass.result.0) c.close-desk.result.desk c.run_callers-pass.ensures.ran
    (record { all = c.close-desk.ensures.all; agree = c.close-desk.ensures.agree; heard = c.close-desk.ensures.heard }) c.run_callers-pass.ensures.ends c.close-desk.ensures.desk
