use Rattle.std.specs.Prelude.{is_some}
use Rattle.std.proofs.Common.{inr, refl, sym, ap, ◌∙◌, subst}
use Rattle.fee_laws.specs.fee_log.Log.{work_in}
use Rattle.fee_laws.specs.fee_switch.Banks.{BanksState, is_worn_out}
use Rattle.fee_laws.specs.Work.{fits_in}
use Rattle.fee_core.specs.Turning.{IsUp, Waits}
use Rattle.fee_core.specs.Whole.{Whole, TurnedTo}
use Rattle.fee_core.proofs.Begun.{begun_turned, begun_up, switch_begun, waits_behind}
use Rattle.fee_core.proofs.Standing.{stands, with_banks}
use Rattle.fee_core.proofs.parts.FeeParts.turn_new_switch.Goals as goal

pub turn_switch-requires-clause-up : goal.turn_switch-requires-clause-up
turn_switch-requires-clause-up g c =
    let at = stands c.self.view_is c.requires.up c.active-active.ensures.state c.active-active.ensures.log in
    let is = c.in-Begun.ensures.begun refl in
    begun_up at (switch_begun at c.requires.waits c.requires.shut c.requires.full c.requires.fresh is.0 c.begin.new.self is.1)

pub turn_switch-requires-clause-course : goal.turn_switch-requires-clause-course
turn_switch-requires-clause-course g c = ap (λ (x : BanksState). is_some x.course) (c.in-Begun.ensures.begun refl).1

pub turn_switch-requires-clause-idle : goal.turn_switch-requires-clause-idle
turn_switch-requires-clause-idle g c =
    let idle = ap (λ (x : Whole). work_in x.parts.banks.log.tail) c.self.view_is ∙ c.requires.waits.idle in
    ap (λ (x : BanksState). work_in x.log.tail) (c.in-Begun.ensures.begun refl).1 ∙ idle

pub turn_switch-requires-clause-behind : goal.turn_switch-requires-clause-behind
turn_switch-requires-clause-behind g c =
    let at = stands c.self.view_is c.requires.up c.active-active.ensures.state c.active-active.ensures.log in
    waits_behind at c.requires.waits c.requires.shut c.requires.full c.begin.new.self (c.in-Begun.ensures.begun refl).1

pub returns-in-Begun : goal.returns-in-Begun
returns-in-Begun g c =
    let at = stands c.self.view_is c.requires.up c.active-active.ensures.state c.active-active.ensures.log in
    let is = c.in-Begun.ensures.begun refl in
    begun_turned at (switch_begun at c.requires.waits c.requires.shut c.requires.full c.requires.fresh is.0 c.begin.new.self is.1) c.turn_switch.ensures

pub turn_worn-requires-clause-up : goal.turn_worn-requires-clause-up
turn_worn-requires-clause-up g c = subst (IsUp g.O.Origin.making g.O.Origin.entry) (sym (with_banks c.self.view_is (c.in-WornOut.ensures.worn refl).1)) c.requires.up

pub turn_worn-requires-clause-waits : goal.turn_worn-requires-clause-waits
turn_worn-requires-clause-waits g c = subst (λ (x : Whole). Waits x c.args.job) (sym (with_banks c.self.view_is (c.in-WornOut.ensures.worn refl).1)) c.requires.waits

pub turn_worn-requires-clause-shut : goal.turn_worn-requires-clause-shut
turn_worn-requires-clause-shut g c = ap (λ (x : Whole). x.parts.banks.course) (with_banks c.self.view_is (c.in-WornOut.ensures.worn refl).1) ∙ c.requires.shut

pub turn_worn-requires-clause-full : goal.turn_worn-requires-clause-full
turn_worn-requires-clause-full g c = ap (λ (x : Whole). fits_in x.reserve x.parts.banks c.args.job) (with_banks c.self.view_is (c.in-WornOut.ensures.worn refl).1) ∙ c.requires.full

pub turn_worn-requires-clause-worn : goal.turn_worn-requires-clause-worn
turn_worn-requires-clause-worn g c = (let is = c.in-WornOut.ensures.worn refl in inr (ap (λ (x : BanksState). is_worn_out x.active) is.1 ∙ is.0))

pub returns-in-WornOut : goal.returns-in-WornOut
returns-in-WornOut g c = subst (λ (x : Whole). TurnedTo g.O.Origin.making g.O.Origin.entry c.turn_worn.result x c.turn_worn.new.self) (with_banks c.self.view_is (c.in-WornOut.ensures.worn refl).1) c.turn_worn.ensures
