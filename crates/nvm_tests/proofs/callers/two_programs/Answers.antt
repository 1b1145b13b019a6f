use Rattle.std.specs.Prelude.{All}
use Rattle.std.proofs.Common.{◌≡◌, ◌∷◌, [], lit≤, subst, sym}
use Rattle.nvm_callers.specs.Callers.{MayRun}
use Rattle.nvm_tests.proofs.TwoCallers.{may_run, both_may_run}
use Rattle.nvm_tests.proofs.callers.two_programs.Goals as goal

pub returns : goal.returns
returns c = λ configuration few.
    let one : MayRun configuration c.in_ok-one.one = subst (MayRun configuration) (sym c.in_ok-one.ensures) (may_run configuration 1 c.in_ok-write_of.field-0 c.status_of.result (lit≤ tt) few (c.in_ok-write_of.ensures configuration) (c.status_of.ensures configuration)) in
    let two : MayRun configuration c.in_ok-two.two = subst (MayRun configuration) (sym c.in_ok-two.ensures) (may_run configuration 2 c.in_ok-write_of-2.field-0 c.status_of-2.result (lit≤ tt) few (c.in_ok-write_of-2.ensures configuration) (c.status_of-2.ensures configuration)) in
    let items : c.push-2.new.self.items ≡ c.in_ok-one.one ∷ c.in_ok-two.two ∷ [] = rw (c.in_ok-push-2.ensures.items, c.in_ok-push.ensures.items, c.new-programs.ensures.items) in
    subst (All (MayRun configuration)) (sym items) (both_may_run configuration c.in_ok-one.one c.in_ok-two.two one two)
