-- A run that follows its callers' programs serves them.
use Rattle.std.specs.Prelude.{◌≢◌, IsTrue, ◌||◌}
use Rattle.std.proofs.Common.{◌≡◌, ℕ, Bool, true, false, List, [], ◌∷◌, Option, None, refl, subst}
use Rattle.block_machine.specs.Words.{Entry, Configuration}
use Rattle.block_machine.specs.StartUp.{at_first}
use Rattle.block_machine.specs.Steps.{after}
use Rattle.script_walks.specs.Words.{Step}
use Rattle.script_walks.specs.Walk.{is_at_rest}
use Rattle.script_walks.specs.Looks.{Look}
use Rattle.script_walks.specs.Runs.{has_ended}
use Rattle.promise_run.specs.Beside.{Beside}
use Rattle.promise_run.specs.Run.{Run, Course, Ran, End, Whole, FlashFault, HistoryFull, Memory, Follows, RunsBy, EndsBefore, EndsAtStart, HasOrder}
use Rattle.promise_run.specs.Completeness.{IsCalm, CallersAreServed}
use Rattle.promise_run.proofs.Power.{is_on}

pub rests_by : (a b : Bool) → (a || b) ≡ true → b ≡ false → a ≡ true
rests_by true b is on = refl
rests_by false true is on = cc
rests_by false false is on = cc

-- THE END
by_end : (c : Configuration) (most : ℕ) (steps : List Step) (looks : List Look) (h : List Entry) (end : End) → end ≢ Memory → RunsBy c most steps looks end h → IsTrue (has_ended c h)
by_end c most steps looks h Whole other is = is.ends
by_end c most steps looks h HistoryFull other is = is.ends
by_end c most steps looks h Memory other is = absurd (other refl)
by_end c most steps looks h FlashFault other is = absurd is

pub ended : (r : Run) (steps : List Step) (looks : List Look) (h : List Entry) → r.course ≡ Ran steps looks → r.end ≢ Memory → HasOrder r h → IsTrue (has_ended r.configuration h)
ended r steps looks [] is other order = refl
ended r steps looks (e ∷ es) is other order = by_end r.configuration r.most steps looks (e ∷ es) r.end other (subst (λ (x : Course). Follows r x (e ∷ es)) is order)

no_fault : (r : Run) (steps : List Step) (looks : List Look) (h : List Entry) → r.course ≡ Ran steps looks → r.beside ≡ None → IsCalm r → HasOrder r h → r.end ≢ FlashFault
no_fault r steps looks [] is one calm order = λ fault. calm.no_fault (subst (λ (x : End). EndsAtStart r.flash x) fault (subst (λ (b : Option Beside). EndsBefore r.flash b r.end) one order.0))
no_fault r steps looks (e ∷ es) is one calm order = λ fault. subst (λ (x : End). RunsBy r.configuration r.most steps looks x (e ∷ es)) fault (subst (λ (x : Course). Follows r x (e ∷ es)) is order)

pub callers_are_served : CallersAreServed
callers_are_served r steps looks is one order calm = record {
  ends = no_fault r steps looks r.history is one calm order;
  rests = λ other. rests_by (is_at_rest (after r.configuration r.history)) (after r.configuration r.history).off (ended r steps looks r.history is other order) (is_on r.configuration at_first r.history calm.entries refl);
}
