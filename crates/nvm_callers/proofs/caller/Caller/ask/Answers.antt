use Rattle.nvm_callers.proofs.Common.{[], ◌∷◌, ◌++◌, subst, knows, Request, Did}
use Rattle.script_callers.specs.declared.deed.Deed.TheVariants.{Ask}
use Rattle.nvm_callers.proofs.Making.{did_ask, did_see}
use Rattle.nvm_callers.proofs.caller.Caller.ask.Goals as goal

pub returns-in-Ok-answer-clause-done : goal.returns-in-Ok-answer-clause-done
returns-in-Ok-answer-clause-done g c = λ ds bytes began made did.
    let is = c.in-Ok-answer.ensures in
    subst (λ (r : Request). Did c.args.shared.now.terms c.args.self.now.number (ds ++ Ask c.args.line r ∷ []) (knows c.ask-answer.new.pass) bytes began made) c.in-Ok.ensures
    (did_ask c.args.shared.now.terms c.args.self.now.number ds bytes began made (knows c.args.pass.now) (knows c.ask-answer.new.pass) c.in-Ok-answer._number c.args.line c.in-Ok.request c.in-Ok-answer._reply
    is.asked is.same.0 did)

pub returns-in-Err-clause-left : goal.returns-in-Err-clause-left
returns-in-Err-clause-left g c = λ ds bytes began made did.
    let is = c.in-Err.ensures in
    did_see c.args.shared.now.terms c.args.self.now.number ds bytes began made (knows c.args.pass.now) (knows c.ask-answer.new.pass) is.none is.same.0 is.starts did
