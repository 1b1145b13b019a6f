use Rattle.std.proofs.Common.{◌≡◌, ℕ, Some, None, refl, sym, ap, ◌∙◌}
use Rattle.std.proofs.lemmas.Bool.{ne_eqb, eq-eqb}
use Rattle.memif.specs.declared.answer.DeviceRefusal.TheVariants.{BadNumber, BadLength}
use Rattle.memif.specs.Told.{length_of}
use Rattle.fee_core.proofs.Looking.{number_at, number_few, number_none, refused}
use Rattle.fee_core.proofs.parts.FeeParts.check.Goals as goal

pub returns-in_default-clause-refusal : goal.returns-in_default-clause-refusal
returns-in_default-clause-refusal g c =
    let none = number_none c.self.view_is c.requires c.args.number.0 c.in_default.ensures.place in
    refused c.self.view_is c.requires c.args.number.0 c.args.length (Some BadNumber) (sym c.is_some.ensures ∙ c.if-is_some.false) c.if-not-self.false (rw none refl)

pub returns-in-Some-length-clause-refusal : goal.returns-in-Some-length-clause-refusal
returns-in-Some-length-clause-refusal g c =
    let size = number_at c.self.view_is c.requires c.args.number.0 c.in-Some.place (sym c.in-Some.ensures.value) in
    let from : length_of g.O.Origin.making.numbers c.args.number.0 ≡ Some c.from.result = size ∙ ap (λ (k : ℕ). Some k) (sym (rw c.as_slice.ensures.value at c.from.ensures)) in
    refused c.self.view_is c.requires c.args.number.0 c.args.length (Some BadLength) (sym c.is_some.ensures ∙ c.if-is_some.false) c.if-not-self.false (rw (from, c.in-Some-length.is, ne_eqb _ _ c.if-length-from.true) refl)

pub returns-in_default-length-clause-refusal : goal.returns-in_default-length-clause-refusal
returns-in_default-length-clause-refusal g c =
    let size = number_at c.self.view_is c.requires c.args.number.0 c.in-Some.place (sym c.in-Some.ensures.value) in
    let from : length_of g.O.Origin.making.numbers c.args.number.0 ≡ Some c.from.result = size ∙ ap (λ (k : ℕ). Some k) (sym (rw c.as_slice.ensures.value at c.from.ensures)) in
    refused c.self.view_is c.requires c.args.number.0 c.args.length None (sym c.is_some.ensures ∙ c.if-is_some.false) c.if-not-self.false (rw (from, c.in-Some-length.is, eq-eqb _ _ c.if-length-from.false) refl)

pub returns-in_default-length-clause-length : goal.returns-in_default-length-clause-length
returns-in_default-length-clause-length g c = rw c.as_slice.ensures.value (number_at c.self.view_is c.requires c.args.number.0 c.in-Some.place (sym c.in-Some.ensures.value))

pub returns-in_default-length-clause-few : goal.returns-in_default-length-clause-few
returns-in_default-length-clause-few g c = rw c.as_slice.ensures.value (number_few c.self.view_is c.requires c.args.number.0 c.in-Some.place (sym c.in-Some.ensures.value))

pub returns-in_default-length-2-clause-refusal : goal.returns-in_default-length-2-clause-refusal
returns-in_default-length-2-clause-refusal g c =
    let size = number_at c.self.view_is c.requires c.args.number.0 c.in-Some.place (sym c.in-Some.ensures.value) in
    refused c.self.view_is c.requires c.args.number.0 c.args.length None (sym c.is_some.ensures ∙ c.if-is_some.false) c.if-not-self.false (rw (size, c.in_default-length.is) refl)

pub returns-in_default-length-2-clause-length : goal.returns-in_default-length-2-clause-length
returns-in_default-length-2-clause-length g c = rw c.as_slice.ensures.value (number_at c.self.view_is c.requires c.args.number.0 c.in-Some.place (sym c.in-Some.ensures.value))

pub returns-in_default-length-2-clause-few : goal.returns-in_default-length-2-clause-few
returns-in_default-length-2-clause-few g c = rw c.as_slice.ensures.value (number_few c.self.view_is c.requires c.args.number.0 c.in-Some.place (sym c.in-Some.ensures.value))
