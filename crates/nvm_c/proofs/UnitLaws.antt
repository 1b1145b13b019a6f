-- The stack of a unit: what is told of it behind its calls, and what its flash comes back with.
use Rattle.std.proofs.Common.{rules, ◌≡◌, ◌≢◌, ◌≤◌, ◌++◌, ◌∷◌, [], ℕ, Bool, true, false, IsTrue, List, Option, Some, None, Result, Ok, Err, IsSome, refl, sym, ap, ◌∙◌, subst, inl, inr, arith}
use Rattle.std.specs.Prelude.{IfErr, IfOk, IsErrOf, ◌↔◌}
use Rattle.nvm.specs.block_config.Config.{Configuration}
use Rattle.nvm.specs.block_machine.Reply.{fits}
use Rattle.nvm.specs.block_machine.Words.{Request, Reply, Ask}
use Rattle.nvm.specs.nv_desk.Desk.{state_of}
use Rattle.nvm.specs.nv_desk.Recorder.{keeps}
use Rattle.nvm.specs.nv_desk.declared.ask.AskFault.{AskFault}
use Rattle.nvm.specs.nv_desk.declared.ask.AskFault.TheVariants as ask
use Rattle.nvm.specs.nvm_flash.nvm_laws.Ties.{IsTied}
use Rattle.nvm.specs.fls_devices.Cutter.{cutting, told_cutting}
use Rattle.nvm.specs.fls_model.Told.{Told, bytes_now}
use Rattle.nvm.specs.nvm_flash.promise_device.Making.{Making}
use Rattle.nvm.specs.nvm_flash.fee_told.Device.{told_of, clock_of}
use Rattle.nvm.specs.nvm_flash.fee_core.Tells.{told_clock}
use Rattle.nvm.specs.nvm_flash.fee_laws.Made.{part_at}
use Rattle.nvm.specs.nvm_flash.nvm_core.Stack.{PowersOff}
use Rattle.nvm.specs.nvm_core.StartUps.{Restarts}
use Rattle.nvm.specs.nvm_flash.Made.{IsOrigin, IsBack, ComesBack}
use Rattle.nvm.specs.nvm_flash.declared.device.MakeFault.{MakeFault}
use Rattle.nvm.specs.nvm_flash.declared.device.MakeFault.TheVariants.{Memory}
use Rattle.nvm.specs.nvm_flash.nvm_laws.declared.turned.Turned.{Turned}
use Rattle.nvm.specs.nvm_flash.nvm_laws.declared.turned.FoundAnswer.{FoundAnswer}
use Rattle.nvm.specs.nvm_flash.nvm_laws.declared.turned.FoundAnswer.TheVariants as found
use Rattle.nvm.proofs.Returning.{comes_back as back_so}
use Rattle.nvm.specs.Turned.{unit_seen}
use Rattle.nvm.specs.Unit.{Stays, UnitTurns, takes_of}
use Rattle.nvm.specs.nvm_moves.Seen.{frame_in, frame_of}
use Rattle.script_player.specs.uds_gateway.block_laws.Laws.{HistoriesStep, SumsGrow}
use Rattle.script_player.specs.Calls as calls
use Rattle.script_player.proofs.uds_gateway.HistoryLaws.{histories_step, sums_grow}
use Rattle.script_player.proofs.PlainHalves.{IsBehind, ended}
use Rattle.script_player.proofs.PlainStarts.{restarts_told}
use Rattle.script_player.proofs.PlainBehind.{behind_device}
use Rattle.nvm_c.specs.Unit.{UnitState, CameBack, Closes, IsLent, IsPlanCall, IsSameAt, IsStartCall, Opens, unit_told}
use Rattle.nvm_c.specs.Work.{PlansCut}

-- THE FIRST START-UP
-- where it failed the flash comes back as that of the configuration
pub comes_back : {X : Type 0} (c d : Configuration) (inner : Told) (cuts : ℕ) (making : Making) (entry : Told) (r : Result X (MakeFault × Told)) → d ≡ c → IsOrigin c inner cuts making entry
    → IfErr r (λ e. (i : Told) (n : ℕ) → IsOrigin d i n making entry → ComesBack d e.0 i e.1) → IfErr r (λ e. ComesBack c e.0 inner e.1)
comes_back c d inner cuts making entry (Ok x) is origin told = told
comes_back c d inner cuts making entry (Err e) is origin told =
    subst (λ (x : Configuration). ComesBack x e.0 inner e.1) is (told inner cuts (subst (λ (x : Configuration). IsOrigin x inner cuts making entry) (sym is) origin))

-- THE END
pub came_back : (entry exit : Told) (s : UnitState) (bytes : Option (List ℕ)) → bytes ≡ bytes_now exit → IsSome bytes → ((inner : Told) (cuts : ℕ) → entry ≡ told_cutting (cutting inner cuts) → Closes inner exit s) → CameBack entry s bytes
came_back entry exit s None is some back = cc some
came_back entry exit s (Some image) is some back = λ inner cuts over. (exit, sym is, back inner cuts over)

pub came_some : (entry : Told) (s : UnitState) (bytes : Option (List ℕ)) → CameBack entry s bytes → IsSome bytes
came_some entry s None came = absurd came
came_some entry s (Some image) came = refl

-- of a unit that was just opened it comes back as it was, or attached
pub opens_back : (c : Configuration) (inner : Told) (cuts : ℕ) (making : Making) (entry exit : Told) (s : UnitState) → IsOrigin c inner cuts making entry → Opens c making entry s
    → IsBack c inner exit (part_at entry) (told_of s.device) (clock_of s.device) → ComesBack c Memory inner exit
opens_back c inner cuts making entry exit s origin opens back =
    let made = opens.is_made.device in let restarted = opens.starts.finds.up.restarted in let up = restarted.first in
    let part : (told_of opens.made.device).first ≡ part_at (told_cutting (cutting inner cuts)) = made.part ∙ ap part_at origin.over in
    back_so c inner exit (part_at entry) (told_of s.device) (clock_of s.device) Memory back (restarted.ops ∙ made.ops) (ap (λ p. p.planning.unplanned) up.only ∙ ap (λ p. p.planning.unplanned) part) tt opens.is_made.one_device

-- WHAT STAYS
pub still_counted : (s t : UnitState) → Stays s t → keeps s.desk.cap ≡ false → keeps t.desk.cap ≡ false
still_counted s t stays is = ap keeps stays.most ∙ is

-- WHAT IS TOLD BEHIND A CALL
-- what its device tells of a stack
pub record Tells (s : UnitState) : Type 0 where
  pub tied : s.ready ≡ true → IsTied s.desk s.hand (told_of s.device)
  pub power : s.ready ≡ true → PowersOff s.desk (told_of s.device)

-- a request that was answered had room
had_room : (r : Result Reply AskFault) (reply : Reply) (room : Bool) → r ≡ Ok reply → IsErrOf r ask.NoRoom ↔ room ≡ false → IsTrue room
had_room r reply true is exactly = refl
had_room r reply false is exactly = let none : IsErrOf r ask.NoRoom = exactly.1 refl in absurd (cc (none, is))

asks_by : (s t : UnitState) (request : Request) (reply : Reply) → IsTrue (fits s.desk.config s.desk.cap (state_of s.desk) 1) → t ≡ record s { desk = record s.desk { entries = s.desk.entries ++ Ask 0 request reply ∷ [] } }
    → IsTied s.desk s.hand (told_of s.device) → IsTied t.desk t.hand (told_of t.device) → PowersOff s.desk (told_of s.device) → PowersOff t.desk (told_of t.device) → calls.Asks 0 request (Ok reply) (unit_told s) (unit_told t)
asks_by s t request reply room adds tied tied_new power power_new =
    let steps : HistoriesStep = histories_step in
    let prices : SumsGrow = sums_grow in
    search rules

-- a request
pub asks_told : (s t : UnitState) (request : Request) (r : Result Reply AskFault) (reply : Reply) → r ≡ Ok reply → IsErrOf r ask.NoRoom ↔ fits s.desk.config s.desk.cap (state_of s.desk) 1 ≡ false
    → IfOk r (λ x. t ≡ record s { desk = record s.desk { entries = s.desk.entries ++ Ask 0 request x ∷ [] } }) → s.ready ≡ true → Tells s → Tells t → calls.Asks 0 request (Ok reply) (unit_told s) (unit_told t)
asks_told s t request r reply is exactly ok ready old new =
    let adds = subst (λ (x : Result Reply AskFault). IfOk x (λ y. t ≡ record s { desk = record s.desk { entries = s.desk.entries ++ Ask 0 request y ∷ [] } })) is ok in
    let up : t.ready ≡ true = ap (λ (x : UnitState). x.ready) adds ∙ ready in
    asks_by s t request reply (had_room r reply (fits s.desk.config s.desk.cap (state_of s.desk) 1) is exactly) adds (old.tied ready) (new.tied up) (old.power ready) (new.power up)

-- a turn
pub turns_told : (s t : UnitState) (answer : Turned) → UnitTurns answer s t → (t.ready ≡ s.ready → IsBehind told_of answer s t) → PowersOff s.desk (told_of s.device) → calls.Turns answer (unit_told s) (unit_told t)
turns_told s t answer (inl half) behind power = ended told_of s t answer half (behind half.ready)
turns_told s t answer (inr (between, half, second)) behind power = behind_device told_of told_clock s between t half power answer second (behind (second.ready ∙ half.ready))

-- a start-up: as many turns are left of each job
restarts_frame : (s t : UnitState) (answer : FoundAnswer) → Restarts told_of answer s t → frame_of false (unit_seen t) ≡ frame_of false (unit_seen s)
restarts_frame s t found.Ready starts =
    ap (λ (c : Configuration). frame_in false c (told_of t.device).fixed) (ap (λ (x : UnitState). x.desk.config) starts.only) ∙ ap (frame_in false s.desk.config) starts.finds.up.restarted.fixed
restarts_frame s t found.Failed fails =
    ap (λ (c : Configuration). frame_in false c (told_of t.device).fixed) (ap (λ (x : UnitState). x.desk.config) fails.only) ∙ ap (frame_in false s.desk.config) fails.fails.restarted.fixed
restarts_frame s t found.NoRoom stays = ap (λ (x : UnitState). frame_in false x.desk.config (told_of x.device).fixed) stays.0
restarts_frame s t found.Memory stays = ap (λ (x : UnitState). frame_in false x.desk.config (told_of x.device).fixed) stays

restarts_none : (s t : UnitState) (answer : FoundAnswer) → Restarts told_of answer s t → answer ≢ found.Memory → IsSameAt answer s t
restarts_none s t found.NoRoom stays other = stays.0
restarts_none s t found.Memory stays other = other refl
restarts_none s t answer restarts other = tt

pub start_call : (s t : UnitState) (answer : FoundAnswer) → Restarts told_of answer s t → answer ≢ found.Memory → IsStartCall answer s t
start_call s t answer restarts other = record { told = restarts_told told_of s t answer restarts; frame = restarts_frame s t answer restarts; none = restarts_none s t answer restarts other }

-- and whether it stands
abbrev pub up_behind : FoundAnswer → Bool → Bool
up_behind found.Ready up = true
up_behind found.Failed up = false
up_behind found.NoRoom up = up
up_behind found.Memory up = up

pub restarts_up : (s t : UnitState) (answer : FoundAnswer) (up : Bool) → s.ready ≡ up → Restarts told_of answer s t → t.ready ≡ up_behind answer up
restarts_up s t found.Ready up is starts = ap (λ (x : UnitState). x.ready) starts.only
restarts_up s t found.Failed up is fails = ap (λ (x : UnitState). x.ready) fails.only
restarts_up s t found.NoRoom up is stays = ap (λ (x : UnitState). x.ready) stays.0 ∙ is
restarts_up s t found.Memory up is stays = ap (λ (x : UnitState). x.ready) stays ∙ is

-- it takes no plan
pub restarts_take : (s t : UnitState) (answer : FoundAnswer) → Restarts told_of answer s t → takes_of t ≡ takes_of s
restarts_take s t found.Ready starts = ap (λ p. p.planning.takes) starts.finds.up.restarted.first.only
restarts_take s t found.Failed fails = ap (λ p. p.planning.takes) fails.fails.restarted.first.only
restarts_take s t found.NoRoom stays = ap takes_of stays.0
restarts_take s t found.Memory stays = ap takes_of stays

pub restarted_lent : (s t : UnitState) (answer : FoundAnswer) (up : Bool) (plans : ℕ) → IsLent up plans s → Restarts told_of answer s t → Stays s t → IsLent (up_behind answer up) plans t
restarted_lent s t answer up plans unit restarts stays =
    record { is_up = restarts_up s t answer up unit.is_up restarts; takes = restarts_take s t answer restarts ∙ unit.takes; counted = still_counted s t stays unit.counted }

-- a plan is one that was to be, where one might be
pub planned_cut : (s t : UnitState) (nth keep plans : ℕ) → takes_of s ≡ plans → 1 ≤ nth → 1 ≤ plans → IsPlanCall nth keep s t → PlansCut nth keep s t
planned_cut s t nth keep plans takes some left arms = (some, omega (arith, takes, left), arms)
