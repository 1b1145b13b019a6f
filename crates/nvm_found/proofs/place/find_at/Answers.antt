use Rattle.std.proofs.Common.{◌+◌, ◌∙◌, ℕ, List, length, Some, sym, ap, subst}
use Rattle.nv_recorder.specs.declared.found_marks.FoundPlace.{FoundPlace}
use Rattle.nv_recorder.specs.Event.{mark_of}
use Rattle.nv_recorder.specs.FoundMarks.{FoundState, numbers_of}
use Rattle.nvm_found.specs.Places.{FirstHeld, HoldsMark}
use Rattle.nvm_found.proofs.PlaceLists.{first_found, found_numbers, place_configured, place_got}
use Rattle.nvm_found.proofs.place.find_at.Goals as goal

pub find_kind-requires-clause-configured : goal.find_kind-requires-clause-configured
find_kind-requires-clause-configured g c =
    place_configured c.args.found.now.places (g.D.MemDevice.told c.args.device.now).fixed.numbers c.args.i c.in-Some.place.now
    c.requires.numbers c.len-count.ensures.numbers c.requires.below c.in-Some.ensures

pub hold-requires-clause-fits : goal.hold-requires-clause-fits
hold-requires-clause-fits g c = λ d is.
    ap length c.take_data.ensures ∙ c.in_ok-kind.ensures.fits is
    ∙ ap (λ (q : FoundPlace). q.length) (sym (place_got c.args.found.now.places c.args.i c.in-Some.place.now d c.in-Some.ensures))

pub returns-clause-numbers : goal.returns-clause-numbers
returns-clause-numbers g c =
    let p = c.in-Some.place.now in
    ap numbers_of (c.hold.ensures p) ∙ found_numbers c.args.found.now.places c.args.i c.in_ok-kind.kind c.take_data.result.now p c.requires.below

pub returns-clause-room : goal.returns-clause-room
returns-clause-room g c = ap (λ (f : FoundState). f.room) (c.hold.ensures c.in-Some.place.now)

pub returns-clause-held : goal.returns-clause-held
returns-clause-held g c = λ held.
    let p = c.in-Some.place.now in
    let ps = c.args.found.now.places in
    let i = c.args.i in
    let kind = c.in_ok-kind.kind in
    let bytes = c.take_data.result.now in
    let old = g.D.MemDevice.told c.args.device.now in
    let new = g.D.MemDevice.told c.find_kind.new.device in
    let one : HoldsMark new p.number.0 (mark_of kind (Some bytes)) = subst (λ (b : List ℕ). HoldsMark new p.number.0 (mark_of kind (Some b))) (sym c.take_data.ensures) c.in_ok-kind.ensures.held in
    subst (λ (qs : List FoundPlace). FirstHeld new (i + 1) qs) (sym (ap (λ (f : FoundState). f.places) (c.hold.ensures p)))
    (first_found old new ps i kind bytes p c.requires.below c.find_kind.ensures.reads.fixed c.find_kind.ensures.reads.marks c.in-Some.ensures one held)
