use Rattle.std.proofs.Common.{refl, sym, ap, ◌∙◌, None, Some, ◌≡◌}
use Rattle.std.proofs.lemmas.Bool.{ne_eqb, eq-eqb}
use Rattle.memif.specs.declared.answer.DeviceRefusal.TheVariants.{BadNumber, BadLength}
use Rattle.memif.specs.Told.{length_of}
use Rattle.memif.proofs.Plain.{length_none, length_at}
use Rattle.memif.proofs.PlainCalls.{in_order, refused_as}
use Rattle.memif.proofs.plain_store.PlainStore.check.Goals as goal

pub returns-in_default-clause-refusal : goal.returns-in_default-clause-refusal
returns-in_default-clause-refusal c =
    refused_as _ _ _ _ _ _ _ c.self.view_is c.args.number.0 c.args.length (Some BadNumber) (sym c.is_some.ensures ∙ c.if-is_some.false) c.if-not-self.false (rw (length_none _ _ c.in_default.ensures.place) refl)

pub returns-in-Some-length-clause-refusal : goal.returns-in-Some-length-clause-refusal
returns-in-Some-length-clause-refusal c =
    let at = sym c.in-Some.ensures.value in
    let size : length_of c.self.inside.numbers c.args.number.0 ≡ Some c.from.result = length_at c.self.inside.numbers c.args.number.0 _ (record { 0 = 0 }, 0) at ∙ ap Some (sym (rw c.as_slice.ensures.value at c.from.ensures)) in
    refused_as _ _ _ _ _ _ _ c.self.view_is c.args.number.0 c.args.length (Some BadLength) (sym c.is_some.ensures ∙ c.if-is_some.false) c.if-not-self.false (rw (size, c.in-Some-length.is, ne_eqb _ _ c.if-length-from.true) refl)

pub returns-in_default-length-clause-refusal : goal.returns-in_default-length-clause-refusal
returns-in_default-length-clause-refusal c =
    let at = sym c.in-Some.ensures.value in
    let size : length_of c.self.inside.numbers c.args.number.0 ≡ Some c.from.result = length_at c.self.inside.numbers c.args.number.0 _ (record { 0 = 0 }, 0) at ∙ ap Some (sym (rw c.as_slice.ensures.value at c.from.ensures)) in
    refused_as _ _ _ _ _ _ _ c.self.view_is c.args.number.0 c.args.length None (sym c.is_some.ensures ∙ c.if-is_some.false) c.if-not-self.false (rw (size, c.in-Some-length.is, eq-eqb _ _ c.if-length-from.false) refl)

pub returns-in_default-length-2-clause-refusal : goal.returns-in_default-length-2-clause-refusal
returns-in_default-length-2-clause-refusal c =
    let at = sym c.in-Some.ensures.value in
    let size = length_at c.self.inside.numbers c.args.number.0 _ (record { 0 = 0 }, 0) at in
    refused_as _ _ _ _ _ _ _ c.self.view_is c.args.number.0 c.args.length None (sym c.is_some.ensures ∙ c.if-is_some.false) c.if-not-self.false (rw (size, c.in_default-length.is) refl)

pub returns-then-is_some-clause-order : goal.returns-then-is_some-clause-order
returns-then-is_some-clause-order c = in_order _ _ _ _ _ _ _ c.self.view_is c.self.invariant
