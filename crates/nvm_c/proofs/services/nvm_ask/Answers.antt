use Rattle.std.proofs.Common.{refl, subst, inr}
use Rattle.nvm_c.specs.Exports.{IsAsked}
use Rattle.nvm_c.specs.Held.{Ran}
use Rattle.nvm_c.specs.declared.work.Outcome.{Outcome}
use Rattle.nvm_c.specs.declared.work.UnitWork.TheVariants.{Serve}
use Rattle.nvm_c.proofs.CallLaws.{asked, goes_same, stayed_down}
use Rattle.nvm_c.proofs.services.nvm_ask.Goals as goal

pub returns-in_default : goal.returns-in_default
returns-in_default c = record {
  asked = goes_same c.args.handle.now.kept (IsAsked c.args.service c.args.block c.args.number c.args.content.now 6 0) c.requires.open
      (λ s. inr (refl, inr (inr (refl, refl, c.service_of.ensures.none c.in_default.is))));
}

pub returns-in-Asked : goal.returns-in-Asked
returns-in-Asked c =
    let handed = c.ask_unit.ensures in record {
      asked = asked c.args.handle.now.kept c.ask_unit.new.handle.kept c.in-Some.service c.args.service c.args.block c.args.number c.args.content.now handed.0 c.in-Asked.answer
          c.answer_of-code.result.0 c.answer_of-code.result.1 c.requires.open c.in-Some.ensures.some handed.1 c.answer_of-code.ensures.code c.answer_of-code.ensures.value
          (subst (λ (y : Outcome). Ran c.args.handle.now.kept (Serve handed.0) y c.ask_unit.new.handle.kept) c.in-Asked.is handed.2);
    }

pub returns-in_default-ask_unit : goal.returns-in_default-ask_unit
returns-in_default-ask_unit c = record {
  asked = stayed_down c.args.handle.now.kept c.ask_unit.new.handle.kept c.in-Some.service c.args.service c.args.block c.args.number c.args.content.now c.ask_unit.result c.requires.open c.ask_unit.ensures
      c.in_default-ask_unit.not-Asked;
}
