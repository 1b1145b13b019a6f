use Rattle.std.proofs.Common.{refl}
use Rattle.fee_format.specs.declared.rec_head.RecHead.{RecHead}
use Rattle.fee_log.proofs.Changes.{noted_none, noted_by}
use Rattle.fee_log.proofs.index.note.Goals as goal

pub returns-in_default : goal.returns-in_default
returns-in_default c =
    noted_none c.args.numbers.now c.args.places.now c.args.at
    (record { number = c.args.number; kind = c.args.kind; length = c.args.size; count = c.args.count }) c.in_default.ensures.place

pub returns-then-not-fits : goal.returns-then-not-fits
returns-then-not-fits c =
    let h : RecHead = record { number = c.args.number; kind = c.args.kind; length = c.args.size; count = c.args.count } in
    let place = c.in-Some.ensures.place in
    rw (noted_by c.args.numbers.now _ c.args.places.now c.args.at h c.in-Some.i _ c.as_slice-list.ensures.bounds c.requires place.within place.is c.as_slice-list.ensures.value (c.if-not-fits.ensures c.args.count)) refl

pub returns : goal.returns
returns c =
    let h : RecHead = record { number = c.args.number; kind = c.args.kind; length = c.args.size; count = c.args.count } in
    let place = c.in-Some.ensures.place in
    rw (noted_by c.args.numbers.now _ c.args.places.now c.args.at h c.in-Some.i _ c.as_slice-list.ensures.bounds c.requires place.within place.is c.as_slice-list.ensures.value (c.if-not-fits.ensures c.args.count), c.place_of_kind.ensures) refl
