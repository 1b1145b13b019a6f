use Rattle.std.proofs.Common.{length, ap, arith}
use Rattle.fee_switch.proofs.Picks.{is_inside, picked}
use Rattle.fee_switch.proofs.banks.Banks.begin_next.Goals as goal

pub unreachable-requires-in_default-get : goal.unreachable-requires-in_default-get
unreachable-requires-in_default-get g c =
    let inside = is_inside c.args.self.now _ c.requires.can c.self.view_is c.in-Some.source _ c.lists.result.1.now c.lists.result.2.now c.in-Some.ensures.next c.lists.ensures.numbers c.lists.ensures.places c.lists.ensures.flags in
    absurd (omega (arith, c.in_default-get.ensures.lookup.3, inside, ap length c.as_slice.ensures.value))

pub begin_copy-requires-clause-can : goal.begin_copy-requires-clause-can
begin_copy-requires-clause-can g c =
    let pick = picked c.args.self.now _ c.requires.can c.self.view_is c.in-Some.source _ c.lists.result.1.now c.lists.result.2.now c.in-Some.ensures.next c.lists.ensures.numbers c.lists.ensures.places c.lists.ensures.flags in
    (pick c.in-Some-get.field-0.now c.in-Some-get.field-0.now (rw c.as_slice.ensures.value at c.in-Some-get.ensures.lookup.1)).1

pub returns-clause-begins : goal.returns-clause-begins
returns-clause-begins g c =
    let x = c.in-Some-get.field-0.now in
    let pick = picked c.args.self.now _ c.requires.can c.self.view_is c.in-Some.source _ c.lists.result.1.now c.lists.result.2.now c.in-Some.ensures.next c.lists.ensures.numbers c.lists.ensures.places c.lists.ensures.flags in
    record { source = c.in-Some.source; number = x.0; next = (pick x x (rw c.as_slice.ensures.value at c.in-Some-get.ensures.lookup.1)).0; begins = c.begin_copy.ensures.begins }
