-- What each call of a unit adds to its moves.
use Rattle.std.specs.Prelude.{IfOk, OnErr, map, ◌||◌, nat_lt, min, if◌then◌else◌}
use Rattle.std.proofs.Common.{◌≡◌, ◌⊎◌, ◌≤◌, ◌+◌, ℕ, Bool, true, false, List, [], ◌∷◌, ◌++◌, Option, Some, None, Result, Ok, Err, refl, sym, ap, ◌∙◌, subst, inl, inr, arith}
use Rattle.nvm_flash.specs.nv_base.Count.{Rose, last_count}
use Rattle.nvm_flash.specs.memif.Told.{DeviceTold, Fixed, Part, PartTold, Stand, Open, Ended as EndedJob, faults_of, figures_at, is_off, is_open, most_open, ops_of}
use Rattle.nvm_flash.specs.memif.Clock.{Clock}
use Rattle.nvm_flash.specs.memif.Calls.{Arms, FreesReady, InOrder}
use Rattle.nvm_flash.specs.memif.Marks.{ComesFrom}
use Rattle.nvm_flash.specs.memif.Trials.{Lasts}
use Rattle.nvm_flash.proofs.Turning.{lasts_more, told_before}
use Rattle.nvm_flash.specs.block_config.Config.{Configuration}
use Rattle.nvm_flash.specs.block_config.Rules.{IsLegalConfig}
use Rattle.nvm_flash.specs.block_machine.Words.{Instance, Mark, Request, Reply, Ask, Found}
use Rattle.nvm_flash.specs.block_machine.State.{State, Job}
use Rattle.nvm_flash.specs.fls_model.Told.{Told}
use Rattle.nvm_flash.specs.fee_core.Tells.{told_clock}
use Rattle.nvm_flash.specs.fee_told.Device.{told_of}
use Rattle.nvm_flash.specs.fee_laws.Made.{part_at}
use Rattle.nvm_flash.specs.promise_device.Making.{Making}
use Rattle.nvm_flash.specs.promise_blocks.OverDevice.{HasStarted}
use Rattle.nvm_flash.specs.promise_blocks.Work.{has_risen}
use Rattle.nvm_flash.specs.ram_blocks.Plain.{told_of as copy_told}
use Rattle.nvm_flash.specs.ram_blocks.declared.plain_block.PlainBlock.{PlainBlock}
use Rattle.nvm_flash.specs.nv_desk.declared.ask.AskFault.{AskFault}
use Rattle.nvm_flash.specs.nv_desk.Desk.{DeskState, state_of}
use Rattle.nvm_flash.specs.job_progress.Hand.{HandState}
use Rattle.nvm_flash.specs.job_progress.JobInHand.{program_for}
use Rattle.nvm_flash.specs.nvm_figures.Left.{most_turns}
use Rattle.nvm_flash.specs.nvm_device_laws.Turn.{TellsSlots}
use Rattle.nvm_flash.specs.nvm_laws.DueCalls.{KeepsDue, TurnServesDue}
use Rattle.nvm_flash.specs.nvm_laws.Keeps.{StackKeepsAsTold, DownKeepsAsTold, StaysKept}
use Rattle.nvm_flash.specs.nvm_laws.StartUps.{StacksComeDown}
use Rattle.nvm_flash.specs.nvm_laws.Ties.{IsTied}
use Rattle.nvm_flash.specs.nvm_laws.Traits.{KeepsSeal, TakesKeptInHand}
use Rattle.nvm_flash.specs.nvm_laws.declared.turned.Turned.{Turned}
use Rattle.nvm_flash.specs.nvm_laws.declared.turned.FoundAnswer.{FoundAnswer}
use Rattle.nvm_flash.specs.nvm_laws.declared.turned.FoundAnswer.TheVariants as found
use Rattle.nvm_flash.specs.nvm_core.DeviceWork.{IsSimple, costs_in, tries_left, work_in}
use Rattle.nvm_flash.specs.nvm_core.Due.{now_of}
use Rattle.nvm_flash.specs.nvm_core.DueWrites.{AreFirst, pages_in}
use Rattle.nvm_flash.specs.nvm_core.Operations.{left_on}
use Rattle.nvm_flash.specs.nvm_core.Paying.{OwesSince, TurnPays, has_urgent, worn_so_far}
use Rattle.nvm_flash.specs.nvm_core.Stack.{PowersOff}
use Rattle.nvm_flash.specs.nvm_core.StartUps.{Restarts, StartsUp, StartsKeep}
use Rattle.nvm_flash.specs.nvm_core.Work.{TakesTurns}
use Rattle.nvm_flash.specs.promise_run.JobTurns.{job_turns}
use Rattle.nvm_flash.specs.promise_run.Operations.{costs_of}
use Rattle.nvm_flash.specs.promise_run.Promise.{making_of}
use Rattle.nvm_flash.specs.promise_run.Turns.{Moment, Move, AreMoves, IsTurnMade, is_asked, is_found, moment_behind}
use Rattle.nvm_flash.specs.Made.{IsMadeStack, one_part}
use Rattle.nvm_flash.specs.Turns.{fixed_by}
use Rattle.nvm_flash.proofs.Costs.{costs_are_figures, reads_take_one}
use Rattle.nvm_flash.proofs.JobTurns.{job_turns_are_figures, write_pages_are_figures}
use Rattle.nvm_flash.proofs.DeviceWork.{none_some, risen}
use Rattle.nvm_flash.proofs.StartWork.{first_leaves}
use Rattle.nvm_flash.proofs.Trying.{part_rises}
use Rattle.nvm_flash.proofs.TurnWork.{closed_tries}
use Rattle.nvm_moves.specs.Beginning.{BeginsMoves}
use Rattle.nvm_moves.proofs.Beginning.{all_of_first, on_is_uncut, one_part_has_blocks, one_part_is_simple}
use Rattle.nvm_moves.specs.Along.{Along, Cursor}
use Rattle.nvm_moves.specs.Seen.{frame_of, moment_by, moment_seen}
use Rattle.nvm_moves.specs.Worked.{KeepsToWork}
use Rattle.nvm_moves.specs.Moved.{GrowsBy, IsAt, IsLawful, MovesBy}
use Rattle.nvm_moves.proofs.Moved.{moment_then, moves_more, none_moves, start_moves}
use Rattle.nvm_moves.proofs.StackMoves.{stack_arms, stack_asks, stack_starts, stack_turns}
use Rattle.nvm.specs.Closing.{UnitState}
use Rattle.nvm.specs.Steps.{one_each, step_of}
use Rattle.nvm.specs.Turned.{AsksMove, HasFallen, HasStood, HasTurned, TurnsMove, unit_seen}
use Rattle.nvm.specs.Unit.{UnitTurns, is_now}
use Rattle.nvm.proofs.StepMoves.{calls_more, turn_call}

never_both : {t : Bool} → t ≡ true → t ≡ false → ⊥
never_both {t} on off = never (sym on ∙ off)
  where
    never : true ≡ false → ⊥
    never e = cc

-- MOVES BEHIND MOVES
-- where it stands before and behind a call
pub goes_on : (s t : UnitState) (ms : List Move) → HasTurned s → s.ready ≡ true → t.ready ≡ true → MovesBy false ms (unit_seen s) (unit_seen t) → AreMoves (moment_seen (unit_seen s)) (map step_of ms) (one_each ms) → HasTurned t
goes_on s t ms was ready ready_new by calls =
    let moved = was.up ready in
    let then_ : moment_behind (moment_seen (unit_seen was.began)) was.moves ≡ moment_seen (unit_seen s) =
    ap (λ (l : List Move). moment_behind (moment_seen (unit_seen was.began)) l) (sym moved.are) ∙ moment_then false (unit_seen was.began) (unit_seen s) moved.moved in
    record {
      began = was.began;
      begins = was.begins;
      moves = was.moves ++ ms;
      calls = calls_more (moment_seen (unit_seen was.began)) was.moves ms was.calls (subst (λ (m : Moment). AreMoves m (map step_of ms) (one_each ms)) (sym then_) calls);
      up = λ on. moves_more false was.moves ms (unit_seen was.began) (unit_seen s) (unit_seen t) moved by;
      down = λ off. absurd (never_both ready_new off);
    }

-- A REQUEST
module _ (s t : UnitState) (caller : ℕ) (request : Request) (was : HasTurned s) (ready : s.ready ≡ true) (tied : IsTied s.desk s.hand (told_of s.device)) (order : InOrder (told_of s.device) (told_clock s.device)) (frees : FreesReady (told_of s.device) (told_clock s.device))
    (keeps : StaysKept s.desk s.hand (told_of s.device) (told_clock s.device) t.desk t.hand (told_of t.device) (told_clock t.device)) (due : KeepsDue (now_of told_of s) (now_of told_of t)) where
  pub asked_moves : (r : Result Reply AskFault) → IfOk r (λ reply. t ≡ record s { desk = record s.desk { entries = s.desk.entries ++ Ask caller request reply ∷ [] } }) → AsksMove caller request r s t
  asked_moves (Ok reply) ok =
      stack_asks told_of told_clock s t (λ (before : Part → PartTold). StackKeepsAsTold before s.desk s.hand (told_of s.device) (told_clock s.device)) (λ (before : Part → PartTold). StackKeepsAsTold before t.desk t.hand (told_of t.device) (told_clock t.device)) keeps.kept
      caller request reply ok tied order frees due
  asked_moves (Err fault) ok = tt

  pub asked_turned : (r : Result Reply AskFault) → IfOk r (λ reply. t ≡ record s { desk = record s.desk { entries = s.desk.entries ++ Ask caller request reply ∷ [] } }) → OnErr r (t ≡ s) → HasTurned t
  asked_turned (Ok reply) ok err =
      goes_on s t (record { entry = Some (Ask caller request reply); behind = moment_seen (unit_seen s) } ∷ []) was ready (ap (λ (x : UnitState). x.ready) ok ∙ ready) (asked_moves (Ok reply) ok) (refl, tt)
  asked_turned (Err fault) ok err = subst HasTurned (sym err) was

-- A TURN
module _ (s t : UnitState) where
  -- it is one of a turn
  pub made_turn : (m : Move) → is_asked m.entry ≡ false → MovesBy false (m ∷ []) (unit_seen s) (unit_seen t) → IsTurnMade (moment_seen (unit_seen s)) m
  made_turn m asked by = elim (lawful.0.made) [
    | inl asks ↦ absurd (never_both asks.0 asked)
    | inr turn ↦ turn
  ]
    where
      cursor : Cursor
      cursor = record { now = moment_seen (unit_seen s); state = state_of s.desk; since = state_of s.desk ∷ []; found = 0; picked = 0; left = None }

      at : IsAt (unit_seen s) cursor
      at = record { now = refl; state = refl; here = inl refl; begun = tt; left = tt }

      lawful : Along (frame_of false (unit_seen s)) (IsLawful s.desk.config (told_clock t.device)) cursor (m ∷ [])
      lawful = subst (λ (l : List Move). Along (frame_of false (unit_seen s)) (IsLawful s.desk.config (told_clock t.device)) cursor l) by.are (by.moved.lawful cursor at).0

  pub turned_moves : (answer : Turned) → UnitTurns answer s t → s.ready ≡ true → StaysKept s.desk s.hand (told_of s.device) (told_clock s.device) t.desk t.hand (told_of t.device) (told_clock t.device)
      → faults_of (told_of s.device) ≤ faults_of (told_of t.device) → TakesTurns told_of answer s t → Lasts (told_of s.device) (told_clock s.device) (told_of t.device) (told_clock t.device) → TurnPays told_of told_clock s t
      → TurnServesDue (now_of told_of s) (now_of told_of t) → KeepsSeal (told_of s.device) (told_clock s.device) (told_of t.device) (told_clock t.device) → TakesKeptInHand s.desk (told_of s.device) (told_of t.device) (told_clock t.device)
      → IsTied s.desk s.hand (told_of s.device) → (t.ready ≡ true → IsTied t.desk t.hand (told_of t.device)) → (t.ready ≡ true → PowersOff t.desk (told_of t.device)) → InOrder (told_of s.device) (told_clock s.device) → InOrder (told_of t.device) (told_clock t.device)
      → (moves : TurnsMove s t) × (is_asked moves.0 ≡ false) × (is_found moves.0 ≡ false)
  turned_moves answer turns ready keeps counted left lasts pays due seals kept tied tied_new power order order_new =
      let (e, adds, other, by) =
      stack_turns told_of told_clock (λ (copies : List PlainBlock). map copy_told copies) is_now (λ before behind b n. Unit {0}) answer s t turns ready keeps counted left lasts pays due seals kept tied tied_new power order order_new in
      ((e, adds, by), other.0, other.1)

  pub turned_turned : HasTurned s → s.ready ≡ true → t.ready ≡ true → (moves : TurnsMove s t) × (is_asked moves.0 ≡ false) × (is_found moves.0 ≡ false) → HasTurned t
  turned_turned was ready ready_new ((e, adds, by), asked, found) =
      let m : Move = record { entry = e; behind = moment_seen (unit_seen t) } in
      goes_on s t (m ∷ []) was ready ready_new by (turn_call (moment_seen (unit_seen s)) m asked found (made_turn m asked by))

-- A PLAN
pub armed_moves : (which nth keep : ℕ) (s t : UnitState) → t ≡ record s { device = t.device } → Arms which nth keep (told_of s.device) (told_clock s.device) (told_of t.device) (told_clock t.device)
    → StaysKept s.desk s.hand (told_of s.device) (told_clock s.device) t.desk t.hand (told_of t.device) (told_clock t.device) → KeepsDue (now_of told_of s) (now_of told_of t) → MovesBy false [] (unit_seen s) (unit_seen t)
armed_moves which nth keep s t only arms keeps due =
    stack_arms told_of told_clock s t (λ (before : Part → PartTold). StackKeepsAsTold before s.desk s.hand (told_of s.device) (told_clock s.device)) (λ (before : Part → PartTold). StackKeepsAsTold before t.desk t.hand (told_of t.device) (told_clock t.device)) keeps.kept
    which nth keep only arms keeps.told due

pub armed_turned : (s t : UnitState) → HasTurned s → s.ready ≡ true → t ≡ record s { device = t.device } → MovesBy false [] (unit_seen s) (unit_seen t) → HasTurned t
armed_turned s t was ready only by = goes_on s t [] was ready (ap (λ (x : UnitState). x.ready) only ∙ ready) by tt

-- THE APPLICATION'S COPIES
pub copied_turned : (s t : UnitState) (copies : List PlainBlock) → HasTurned s → t ≡ record s { copies = copies } → HasTurned t
copied_turned s t copies was only =
    subst HasTurned (sym only) (record {
      began = was.began;
      begins = was.begins;
      moves = was.moves;
      calls = was.calls;
      up = was.up;
      down = λ off.
          let stood = was.down off in
          let since = stood.since in
          record {
            last = stood.last;
            moved = stood.moved;
            since = record { desk = since.desk; fixed = since.fixed; ops = since.ops; lasts = since.lasts; risen = since.risen; told = since.told; kept = since.kept };
          };
    })

-- A START-UP
none_open : (f : Fixed) (stand : Stand) → is_open stand ≡ false → most_open f stand ≡ 0
none_open f (Open j) closed = let P : true ≡ false = closed in absurd (cc P)
none_open f (EndedJob result given) closed = refl

on_left : (off : Bool) (left : ℕ) → (if off then 0 else left) ≤ left
on_left true left = omega arith
on_left false left = omega arith

-- at most a switch is left
few_left : (d : DeviceTold) (clock : Clock) → InOrder d clock → is_open d.stand ≡ false → left_on d ≤ d.fixed.own
few_left d clock order closed =
    let none : most_open d.fixed d.stand ≡ 0 = none_open d.fixed d.stand closed in
    let most = order.bounded in
    let less : left_on d ≤ d.left = on_left (is_off d) d.left in omega (arith, none, most, less)

first_few : (d : DeviceTold) (b : Bool) → left_on d ≤ d.fixed.own → (d.left ≡ 0) ⊎ (b ≡ true) → left_on d ≤ (if b then d.fixed.own else 0)
first_few d true most leaves = most
first_few d false most (inl none) = let less : left_on d ≤ d.left = on_left (is_off d) d.left in omega (arith, none, less)
first_few d false most (inr never) = absurd (let P : false ≡ true = never in cc P)

more_in : (l x y u v : ℕ) → x ≤ u → y ≤ v → min (x + y) l ≤ min (u + v) l
more_in l x y u v first second = omega (arith, first, second)

counted_on : (old new : DeviceTold) (clock clock_new : Clock) → Lasts old clock new clock_new → faults_of old ≤ faults_of new
counted_on old new clock clock_new lasts = more_in last_count old.first.faults old.second.faults new.first.faults new.second.faults lasts.faults.0 lasts.faults.1

rises_to : (a b c : ℕ) → Rose a b → b ≤ c → Rose a c
rises_to a b c (inl less) more = inl (omega (arith, less, more))
rises_to a b c (inr (full, same)) more = inr (full, omega (arith, same, more))

-- OVER START-UPS THAT FAILED
-- one that stands, from where the unit stood last, with a fault since
pub record StandsAnew (marks : List (Instance × Mark)) (u t : UnitState) : Type 0 where
  pub desk : GrowsBy (Found marks (ops_of (told_of t.device)) ∷ []) u.desk t.desk
  pub hand : t.hand ≡ None
  pub at_rest : is_open (told_of t.device).stand ≡ false
  pub fixed : (told_of t.device).fixed ≡ (told_of u.device).fixed
  pub ops : (told_of t.device).ops ≡ (told_of u.device).ops
  pub lasts : Lasts (told_of u.device) (told_clock u.device) (told_of t.device) (told_clock t.device)
  pub risen : Rose (faults_of (told_of u.device)) (faults_of (told_of t.device))
  pub told : TellsSlots (told_of t.device) → TellsSlots (told_of u.device)
  pub kept : (before : Part → PartTold) → StackKeepsAsTold before u.desk u.hand (told_of u.device) (told_clock u.device) → StackKeepsAsTold before t.desk t.hand (told_of t.device) (told_clock t.device)
  pub power : PowersOff t.desk (told_of t.device)
  pub order : InOrder (told_of t.device) (told_clock t.device)

abbrev pub found_move : List (Instance × Mark) → UnitState → Move
found_move marks t = record { entry = Some (Found marks (ops_of (told_of t.device))); behind = moment_by None (told_of t.device) }

module _ (marks : List (Instance × Mark)) (u t : UnitState) (is : StandsAnew marks u t) where
  or_last : (b : Bool) → (b || true) ≡ true
  or_last true = refl
  or_last false = refl

  by_fault : (faulty : Bool) (own left before behind was : ℕ) → faulty ≡ true → behind ≡ before → left ≤ own → behind + left ≤ before + was + (0 + ((if faulty then own + 1 else 0) + 0))
  by_fault true own left before behind was is same few = omega (arith, few, same)
  by_fault false own left before behind was is same few = absurd (let P : false ≡ true = is in cc P)

  works : KeepsToWork (worn_so_far (told_of t.device) (told_clock t.device)) (told_clock t.device) (unit_seen u) (work_in t.hand (told_of t.device)) (found_move marks t)
  works =
      let closed = closed_tries (told_of t.device).stand is.at_rest in
      let few = subst (λ (f : Fixed). left_on (told_of t.device) ≤ f.own) is.fixed (few_left (told_of t.device) (told_clock t.device) is.order is.at_rest) in (
        None,
        record {
          begins = λ k none. none_some k none;
          adds = λ test has.
              by_fault (has_risen (faults_of (told_of u.device)) (faults_of (told_of t.device))) (told_of u.device).fixed.own (left_on (told_of t.device)) (told_of u.device).ops (told_of t.device).ops (left_on (told_of u.device))
              (risen (faults_of (told_of u.device)) (faults_of (told_of t.device)) is.risen) is.ops few;
          ends = λ k on. inr (closed, inl (or_last (has_risen (faults_of (told_of u.device)) (faults_of (told_of t.device)))));
          none = λ none. closed;
          over = λ posted. cc posted;
          tries = let none : tries_left t.hand (is_open (told_of t.device).stand) ≡ 0 = ap (λ (h : Option HandState). tries_left h (is_open (told_of t.device).stand)) is.hand in omega (arith, none);
        },
      )

  anew : MovesBy false (found_move marks t ∷ []) (unit_seen u) (unit_seen t)
  anew =
      start_moves false (unit_seen u) (unit_seen t) (record {
        entry = Found marks (ops_of (told_of t.device));
        found = refl;
        adds = is.desk;
        told = refl;
        hand = is.hand;
        begun = refl;
        ops = is.ops;
        fixed = is.fixed;
        counted = counted_on (told_of u.device) (told_of t.device) (told_clock u.device) (told_clock t.device) is.lasts;
        lasts = is.lasts;
        stays = record { told = is.told; kept = is.kept };
        uncut = λ on. is.power;
        work = λ on simple. works;
      })

  pub from_down : (s : UnitState) (was : HasTurned s) → MovesBy false was.moves (unit_seen was.began) (unit_seen u) → t.ready ≡ true → HasTurned t
  from_down s was moved up =
      let then_ : moment_behind (moment_seen (unit_seen was.began)) was.moves ≡ moment_seen (unit_seen u) =
      ap (λ (l : List Move). moment_behind (moment_seen (unit_seen was.began)) l) (sym moved.are) ∙ moment_then false (unit_seen was.began) (unit_seen u) moved.moved in
      record {
        began = was.began;
        begins = was.begins;
        moves = was.moves ++ found_move marks t ∷ [];
        calls = calls_more (moment_seen (unit_seen was.began)) was.moves (found_move marks t ∷ []) was.calls
            (subst (λ (m : Moment). AreMoves m (map step_of (found_move marks t ∷ [])) (one_each (found_move marks t ∷ []))) (sym then_)
            ((counted_on (told_of u.device) (told_of t.device) (told_clock u.device) (told_clock t.device) is.lasts, is.ops, refl), tt));
        up = λ on. moves_more false was.moves (found_move marks t ∷ []) (unit_seen was.began) (unit_seen u) (unit_seen t) moved anew;
        down = λ off. absurd (never_both up off);
      }

-- FROM UP
module _ (s t : UnitState) (starts : StartsUp told_of s t) (order : InOrder (told_of t.device) (told_clock t.device)) (lasts : Lasts (told_of s.device) (told_clock s.device) (told_of t.device) (told_clock t.device))
    (power : PowersOff t.desk (told_of t.device)) where
  tells_back : TellsSlots (told_of t.device) → TellsSlots (told_of s.device)
  tells_back = told_before (λ n a b. ComesFrom a b) (told_of s.device) (told_of t.device) starts.finds.up.restarted.marks

  again : (stays : (before : Part → PartTold) → StackKeepsAsTold before s.desk s.hand (told_of s.device) (told_clock s.device) → StackKeepsAsTold before t.desk t.hand (told_of t.device) (told_clock t.device)) → HasTurned s → s.ready ≡ true → HasTurned t
  again stays was ready =
      goes_on s t (found_move starts.marks t ∷ []) was ready (ap (λ (x : UnitState). x.ready) starts.only)
      (stack_starts told_of told_clock s t (λ (before : Part → PartTold). StackKeepsAsTold before s.desk s.hand (told_of s.device) (told_clock s.device)) (λ (before : Part → PartTold). StackKeepsAsTold before t.desk t.hand (told_of t.device) (told_clock t.device)) stays starts order lasts tells_back power)
      ((counted_on (told_of s.device) (told_of t.device) (told_clock s.device) (told_clock t.device) lasts, starts.finds.up.restarted.ops, refl), tt)

  -- and from down, over those that failed
  stands_anew : (u : UnitState) → HasFallen u s → ((before : Part → PartTold) → StackKeepsAsTold before u.desk u.hand (told_of u.device) (told_clock u.device) → StackKeepsAsTold before t.desk t.hand (told_of t.device) (told_clock t.device))
      → StandsAnew starts.marks u t
  stands_anew u since keeps = record {
    desk = ap (λ (x : UnitState). record x.desk { prepared = t.desk.prepared }) starts.only
        ∙ ap (λ (x : DeskState). record x { entries = x.entries ++ Found starts.marks (ops_of (told_of t.device)) ∷ []; prepared = t.desk.prepared }) since.desk;
    hand = ap (λ (x : UnitState). x.hand) starts.only;
    at_rest = starts.finds.at_rest;
    fixed = starts.finds.up.restarted.fixed ∙ since.fixed;
    ops = starts.finds.up.restarted.ops ∙ since.ops;
    lasts = lasts_more _ _ _ _ _ _ since.lasts lasts;
    risen = rises_to (faults_of (told_of u.device)) (faults_of (told_of s.device)) (faults_of (told_of t.device)) since.risen (counted_on (told_of s.device) (told_of t.device) (told_clock s.device) (told_clock t.device) lasts);
    told = λ tells. since.told (tells_back tells);
    kept = keeps;
    power = power;
    order = order;
  }

-- any answer
module _ (s t : UnitState) (was : HasTurned s) (comes : StacksComeDown (told_of s.device) (told_clock s.device)) (order : InOrder (told_of t.device) (told_clock t.device)) (lasts : Lasts (told_of s.device) (told_clock s.device) (told_of t.device) (told_clock t.device))
    (power : t.ready ≡ true → PowersOff t.desk (told_of t.device)) where
  -- where it stands what is kept goes on
  stands_kept : (starts : StartsUp told_of s t) → StartsKeep found.Ready s.desk (told_of s.device) (told_clock s.device) t.desk (told_of t.device) (told_clock t.device)
      → (before : Part → PartTold) → (TellsSlots (told_of s.device) → HasStarted s.desk.entries) → DownKeepsAsTold before s.desk (told_of s.device) (told_clock s.device) → StackKeepsAsTold before t.desk t.hand (told_of t.device) (told_clock t.device)
  stands_kept starts keeps before begun kept =
      subst (λ (h : Option HandState). StackKeepsAsTold before t.desk h (told_of t.device) (told_clock t.device)) (sym (ap (λ (x : UnitState). x.hand) starts.only))
      (keeps before (λ now. inl (begun (told_before (λ n a b. ComesFrom a b) (told_of s.device) (told_of t.device) starts.finds.up.restarted.marks now))) kept)

  pub restarted_turned : (answer : FoundAnswer) → Restarts told_of answer s t → StartsKeep answer s.desk (told_of s.device) (told_clock s.device) t.desk (told_of t.device) (told_clock t.device) → HasTurned t
  restarted_turned found.Ready starts keeps = by s.ready refl
    where
      on : PowersOff t.desk (told_of t.device)
      on = power (ap (λ (x : UnitState). x.ready) starts.only)

      by : (b : Bool) → s.ready ≡ b → HasTurned t
      by true is = again s t starts order lasts on (λ before kept. stands_kept starts keeps before (λ told. (kept.all told).started) (comes before s.desk s.hand kept)) was is
      by false is =
          let stood = was.down is in
          let since = stood.since in
          from_down starts.marks stood.last t
          (stands_anew s t starts order lasts on stood.last since
          (λ before kept. stands_kept starts keeps before (λ told. subst (λ (x : DeskState). HasStarted x.entries) (sym since.desk) (kept.all (since.told told)).started) (since.kept before kept))) s was stood.moved
          (ap (λ (x : UnitState). x.ready) starts.only)
  restarted_turned found.Failed fails keeps =
      let off : t.ready ≡ false = ap (λ (x : UnitState). x.ready) fails.only in
      record {
        began = was.began;
        begins = was.begins;
        moves = was.moves;
        calls = was.calls;
        up = λ on. absurd (never_both on off);
        down = λ none. by s.ready refl;
      }
    where
      restarted_desk : t.desk ≡ record s.desk { prepared = t.desk.prepared }
      restarted_desk = ap (λ (x : UnitState). record x.desk { prepared = t.desk.prepared }) fails.only

      rose : Rose (faults_of (told_of s.device)) (faults_of (told_of t.device))
      rose = part_rises (told_of s.device) (told_of t.device) fails.fails.restarted.first.faults.faults fails.fails.restarted.second.faults.faults fails.fails.faults

      back : TellsSlots (told_of t.device) → TellsSlots (told_of s.device)
      back = told_before (λ n a b. ComesFrom a b) (told_of s.device) (told_of t.device) fails.fails.restarted.marks

      by : (b : Bool) → s.ready ≡ b → HasStood was.moves was.began t
      by true is = record {
        last = s;
        moved = was.up is;
        since = record {
          desk = restarted_desk;
          fixed = fails.fails.restarted.fixed;
          ops = fails.fails.restarted.ops;
          lasts = lasts;
          risen = rose;
          told = back;
          kept = λ before kept. keeps before (comes before s.desk s.hand kept);
        };
      }
      by false is =
          let stood = was.down is in
          let since = stood.since in
          record {
            last = stood.last;
            moved = stood.moved;
            since = record {
              desk = restarted_desk ∙ ap (λ (x : DeskState). record x { prepared = t.desk.prepared }) since.desk;
              fixed = fails.fails.restarted.fixed ∙ since.fixed;
              ops = fails.fails.restarted.ops ∙ since.ops;
              lasts = lasts_more _ _ _ _ _ _ since.lasts lasts;
              risen = rises_to (faults_of (told_of stood.last.device)) (faults_of (told_of s.device)) (faults_of (told_of t.device)) since.risen (counted_on (told_of s.device) (told_of t.device) (told_clock s.device) (told_clock t.device) lasts);
              told = λ tells. since.told (back tells);
              kept = λ before kept. keeps before (since.kept before kept);
            };
          }
  restarted_turned found.NoRoom stays keeps = subst HasTurned (sym stays.0) was
  restarted_turned found.Memory stays keeps = subst HasTurned (sym stays) was

-- THE FIRST START-UP
module _ (making : Making) (entry : Told) (m s : UnitState) (made : IsMadeStack m.desk.config m.desk.cap making entry m) (starts : StartsUp told_of m s) (order : InOrder (told_of s.device) (told_clock s.device)) (legal : IsLegalConfig m.desk.config)
    (keeps : StackKeepsAsTold (one_part (part_at entry)) s.desk None (told_of s.device) (told_clock s.device)) where
  figures : (told_of s.device).fixed ≡ fixed_by m.desk.config
  figures = starts.finds.up.restarted.fixed ∙ made.fixed

  config : s.desk.config ≡ m.desk.config
  config = ap (λ (x : UnitState). x.desk.config) starts.only

  none : s.hand ≡ None
  none = ap (λ (x : UnitState). x.hand) starts.only

  simple_made : IsSimple (told_of m.device).fixed
  simple_made = one_part_is_simple (told_of m.device).fixed made.parts (λ n. subst (λ (f : Fixed). (figures_at f n).read ≤ 1) (sym made.fixed) (reads_take_one m.desk.config n))

  parts : AreFirst (told_of s.device).fixed
  parts = subst AreFirst (sym starts.finds.up.restarted.fixed) made.parts

  begins : BeginsMoves (unit_seen s)
  begins = record {
    between = refl;
    marks = starts.marks;
    entries = ap (λ (x : UnitState). x.desk.entries) starts.only ∙ ap (λ (x : UnitState). x.desk.entries ++ Found starts.marks (told_of s.device).ops ∷ []) made.only;
    first = all_of_first (told_of s.device).fixed parts;
    pages = λ x id all. ap (λ (f : Fixed). pages_in f s.desk.config x id) figures ∙ ap (λ (y : Configuration). pages_in (fixed_by y) s.desk.config x id) (sym config) ∙ write_pages_are_figures s.desk.config x id;
    reserve = ap (λ (f : Fixed). f.reserve) figures ∙ ap (λ (x : Configuration). (making_of x).reserve) (sym config);
    costs = ap costs_in figures ∙ costs_are_figures m.desk.config legal made.one_device ∙ ap costs_of (sym config);
    most =
        ap (λ (f : Fixed). λ (x : State) (j : Job). most_turns f (program_for s.desk.config x j)) figures
        ∙ ap (λ (y : Configuration). λ (x : State) (j : Job). most_turns (fixed_by m.desk.config) (program_for y x j)) config
        ∙ (λ i x j. job_turns_are_figures m.desk.config legal made.one_device x j i)
        ∙ ap job_turns (sym config);
    simple = subst IsSimple (made.fixed ∙ sym figures) simple_made;
    blocks = one_part_has_blocks s.desk.config (told_of s.device).fixed (subst IsLegalConfig (sym config) legal) parts;
    left = left_on (told_of s.device);
    few = first_few (told_of s.device) (nat_lt 0 (faults_of (told_of s.device))) (few_left (told_of s.device) (told_clock s.device) order starts.finds.at_rest) (first_leaves starts.marks (told_of m.device) (told_of s.device) starts.finds simple_made);
    is = ap (λ (o : Option ℕ). record { left = left_on (told_of s.device); trying = o; tries = 0 }) (sym (closed_tries (told_of s.device).stand starts.finds.at_rest)) ∙ ap (λ (h : Option HandState). work_in h (told_of s.device)) (sym none);
    owes = subst (λ (h : Option HandState). OwesSince (has_urgent s.desk) (faults_of (told_of s.device)) h (told_of s.device) (told_clock s.device)) (sym none) (omega arith, tt);
    uncut = on_is_uncut s.desk (told_of s.device) starts.finds.up.first_on starts.finds.up.second_on;
    before = one_part (part_at entry);
    kept = subst (λ (h : Option HandState). StackKeepsAsTold (one_part (part_at entry)) s.desk h (told_of s.device) (told_clock s.device)) (sym none) keeps;
  }

  pub begun_turned : HasTurned s
  begun_turned = record {
    began = s;
    begins = begins;
    moves = [];
    calls = tt;
    up = λ on. none_moves false (unit_seen s);
    down = λ off. absurd (never_both (ap (λ (x : UnitState). x.ready) starts.only) off);
  }
