use Rattle.std.specs.Prelude.{is_some}
use Rattle.std.proofs.Common.{ℕ, Option, sym, ap}
use Rattle.fee_core.proofs.Looking.{number_at, number_none}
use Rattle.fee_core.proofs.parts.FeeParts.mark_kind.Goals as goal

pub returns-in-Some : goal.returns-in-Some
returns-in-Some g c =
    let at = number_at c.self.view_is c.requires c.args.number.0 _ (sym c.in-Some.ensures.value) in
    record { configured = sym (ap (λ (o : Option ℕ). is_some o) at); kind = c.kind.ensures }

pub returns-in-None : goal.returns-in-None
returns-in-None g c =
    let none = number_none c.self.view_is c.requires c.args.number.0 c.in-None.ensures.place in
    record { configured = sym (ap (λ (o : Option ℕ). is_some o) none); kind = tt }
