-- A turn of the driver, and what it sees between turns, as moves.
use Rattle.std.proofs.Common.{◌≡◌, ◌⊎◌, ◌<◌, arith, ap, inl, inr, ℕ, true, false, List, [], ◌∷◌, Some, refl, sym, ◌∙◌, subst}
use Rattle.nvm_moves.specs.nv_base.Count.{Rose}
use Rattle.nvm_moves.specs.memif.Told.{DeviceTold, faults_of, is_off}
use Rattle.nvm_moves.specs.memif.Clock.{Clock}
use Rattle.nvm_moves.specs.block_machine.Words.{Entry, Ask}
use Rattle.nvm_moves.specs.nv_desk.Desk.{DeskState, state_of}
use Rattle.nvm_moves.specs.ram_blocks.Told.{Told}
use Rattle.nvm_moves.specs.nvm_laws.DueLaws.{AreReplied, NextIsPending}
use Rattle.nvm_moves.specs.nvm_laws.Keeps.{StackKeepsAsTold, StaysKept}
use Rattle.nvm_moves.specs.nvm_laws.Ties.{IsTied}
use Rattle.nvm_moves.specs.nvm_laws.declared.turned.Turned.{Turned}
use Rattle.nvm_moves.specs.nvm_laws.declared.turned.Turned.TheVariants as turned
use Rattle.nvm_moves.specs.nvm_laws.declared.turned.Act.TheVariants.{Device, Ended}
use Rattle.nvm_moves.specs.nvm_core.OperationStart.{LeavesDevice}
use Rattle.nvm_moves.specs.nvm_core.Stack.{StackState}
use Rattle.nvm_moves.specs.nvm_core.Turns as core
use Rattle.nvm_moves.specs.nvm_core.Turns.{IsFirstHalf}
use Rattle.nvm_moves.specs.nvm_core.Work.{left_with, TakesTurns}
use Rattle.nvm_moves.specs.memif.Trials.{Lasts}
use Rattle.nvm_shared.specs.StatusWords.{is_ask}
use Rattle.nvm_shared.specs.Behind.{AreAsks, HandIsPending, with_more}
use Rattle.nvm_shared.specs.Driving.{BeginsTurn, DriverState, EndsTurn, SeesRequests, TellsReady, TurnsBehind, stack_of}
use Rattle.nvm_moves.specs.promise_run.Turns.{is_asked}
use Rattle.nvm_moves.specs.Seen.{Begun, Seen}
use Rattle.nvm_moves.specs.Moved.{ArePending, AreAsked, HasMoved}
use Rattle.nvm_moves.proofs.Moved.{asks_moved, half_moved, has_moved_more, none_moves, turn_moved}
use Rattle.nvm_moves.proofs.Halves.{as_turn, ended_adds, device_is_told, ended_is_told, half_is_told, never_late, unfinished}
use Rattle.nvm_moves.proofs.DeviceWorks.{on_by}
use Rattle.nvm_moves.proofs.TurnEntries.{on_behind}
use Rattle.driver_moves.specs.Driving.{IsUncut, seen_of}
use Rattle.driver_moves.proofs.Uncut.{asks_power, asks_uncut, device_uncut, half_uncut, is_on}

-- through nothing
lasts_still : (d : DeviceTold) (c : Clock) → Lasts d c d c
lasts_still d c = record {
  ops = omega arith;
  past = record {
    after = λ k m le finds. finds;
    cut = λ k m lt finds. finds;
    failed = λ k lt. (λ was. was, λ was. was);
    worn = λ k n urgent le is. is;
    of_second = λ k lt. (λ is. is, λ is. is);
    spare = λ k n le free. free;
    was = λ t k lt is. is;
  };
  faults = (omega arith, omega arith);
  failed = λ k since before was. absurd (omega (arith, since, before));
}

-- REQUESTS
one_asked : (e : Entry) → is_ask e ≡ true → is_asked (Some e) ≡ true
one_asked (Ask caller r reply) is = refl
one_asked e is = absurd (cc is)

are_asked : (es : List Entry) → AreAsks es → AreAsked es
are_asked [] are = tt
are_asked (e ∷ es) (one, rest) = (one_asked e one, are_asked es rest)

-- a stack at another desk
abbrev at : Seen → DeskState → Seen
at s desk = record s { desk = desk; kept = λ before. StackKeepsAsTold before desk s.hand s.device s.clock; uncut = IsUncut desk s.device }

-- of others, between turns or while one is under way
asks_told : (asks : List Entry) (s : Seen) → AreAsks asks → AreReplied s.desk.config s.desk.cap (state_of s.desk) asks → StaysKept s.desk s.hand s.device s.clock (with_more s.desk asks) s.hand s.device s.clock → IsTied s.desk s.hand s.device
    → TellsReady s.device s.clock → ArePending true s.begun (at s s.desk) → HasMoved true (at s s.desk) (at s (with_more s.desk asks))
asks_told asks s are replied kept tied ready pending =
    asks_moved true asks (at s s.desk) (at s (with_more s.desk asks)) (record {
      made = record {
        are = are_asked asks are;
        adds = refl;
        hand = refl;
        device = refl;
        begun = refl;
        lasts = lasts_still s.device s.clock;
        stays = record { told = kept.told; kept = kept.kept };
        uncut = asks_uncut s.desk s.device asks are;
        seals = λ since sealed. sealed;
      };
      replied = replied;
      on = is_on s.desk s.device s.clock ready.order;
      tied = tied;
      order = ready.order;
      frees = ready.frees;
      pending = pending;
    })

module _ {D C : Type 0} (told : D → DeviceTold) (clock : D → Clock) where
  abbrev At : DeskState → DriverState D C → Seen
  At desk s = seen_of told clock desk s

  -- nothing
  pub none_moved : (desk : DeskState) (s : DriverState D C) → HasMoved true (At desk s) (At desk s)
  none_moved desk s = (none_moves true (At desk s)).moved

  -- what `count` sees
  pub sees_moved : (desk desk_new : DeskState) (s : DriverState D C) → SeesRequests told clock desk desk_new s → NextIsPending desk.config (state_of desk) → HandIsPending (state_of desk) → IsTied desk s.hand (told s.device)
      → StaysKept desk s.hand (told s.device) (clock s.device) desk_new s.hand (told s.device) (clock s.device) → HasMoved true (At desk s) (At desk_new s)
  sees_moved desk desk_new s sees next held tied kept =
      subst (λ (d : DeskState). HasMoved true (At desk s) (At d s)) (sym sees.grows)
      (asks_told sees.asks (At desk s) sees.are sees.replied (subst (λ (d : DeskState). StaysKept desk s.hand (told s.device) (clock s.device) d s.hand (told s.device) (clock s.device)) sees.grows kept) tied sees.ready (next, held))

  -- A TURN
  module _ (copies : C → List Told) (is_store : C → ℕ → ℕ → List ℕ → Type 0) (looked : C → C → ℕ → ℕ → Type 0) (answer : Turned) (desk desk_new : DeskState) (old new : DriverState D C) (next : NextIsPending desk.config (state_of desk)) (held : HandIsPending (state_of desk))
      (tied : IsTied desk old.hand (told old.device)) (tied_new : IsTied desk_new new.hand (told new.device)) (takes : TakesTurns told answer (stack_of desk old) (stack_of desk_new new)) where
    same_desk : (x y : StackState D C) (a : Turned) → a ≡ turned.Off → IsFirstHalf told copies is_store looked (Ended a) x y → y.desk ≡ x.desk
    same_desk x y a is half = (subst (λ (b : Turned). IsFirstHalf told copies is_store looked (Ended b) x y) is half).half.0.0

    -- the turns that are left don't hang on the desk
    taken : (x y z : StackState D C) (a : Turned) → y.hand ≡ x.hand → y.device ≡ x.device → TakesTurns told a x z → TakesTurns told a y z
    taken x y z turned.Picked hand device takes = takes
    taken x y z turned.Posted hand device takes = rw (hand, device) takes
    taken x y z turned.Worked hand device takes = rw (hand, device) takes
    taken x y z turned.Idle hand device takes = rw (hand, device) takes
    taken x y z turned.Off hand device takes = takes

    faulty : (x z : StackState D C) (a : Turned) (s : DriverState D C) → LeavesDevice (told x.device) (told s.device) → a ≡ turned.Worked → TakesTurns told a x z
        → (left_with z.hand (told z.device) < left_with x.hand (told x.device)) ⊎ Rose (faults_of (told s.device)) (faults_of (told z.device))
    faulty x z a s leaves is takes = elim (subst (λ (b : Turned). TakesTurns told b x z) is takes) [
      | inl less ↦ inl less
      | inr rose ↦ inr (subst (λ (n : ℕ). Rose n (faults_of (told z.device))) (sym (ap faults_of leaves)) rose)
    ]

    -- its first half alone
    ended_moved : BeginsTurn told clock copies is_store looked (Ended answer) desk desk_new old new → HasMoved true (At desk old) (At desk_new new)
    ended_moved begins =
        let asked = with_more desk begins.asks in
        let off : answer ≡ turned.Off → (state_of asked).off ≡ true = λ is. subst (λ (d : DeskState). (state_of d).off ≡ true) (same_desk (stack_of asked old) (stack_of desk_new new) answer is begins.half) (begins.off (ap Ended is)) in
        let (e, adds, none) = ended_adds told clock copies is_store looked (stack_of asked old) (stack_of desk_new new) answer off begins.half in
        let uncut = half_uncut asked desk_new (told old.device) (told new.device) begins.half.device (λ off. on_behind _ asked desk_new e adds none ∙ off) in
        has_moved_more true (At desk old) (At asked old) (At desk_new new) (asks_told begins.asks (At desk old) begins.are begins.replied begins.stands tied begins.ready (next, held))
        (turn_moved (At asked old) (At desk_new new) true
        (ended_is_told told clock copies is_store looked (stack_of asked old) (stack_of desk_new new) (IsUncut asked (told old.device)) (IsUncut desk_new (told new.device)) uncut begins.kept begins.tied begins.clock_stays answer off
        (taken (stack_of desk old) (stack_of asked old) (stack_of desk_new new) answer refl refl takes) begins.order (is_on desk_new (told new.device) (clock new.device) begins.order) begins.served begins.half))

    -- with the device's turn
    device_moved : (desk_between : DeskState) (between : DriverState D C) → BeginsTurn told clock copies is_store looked Device desk desk_between old between → EndsTurn told clock answer desk_between desk_new between new → HasMoved true (At desk old) (At desk_new new)
    device_moved desk_between between begins ends =
        let asked = with_more desk begins.asks in
        let last = with_more desk_between ends.asks in
        let b : Begun = record { state = state_of asked; hand = old.hand; device = told old.device } in
        let third : Seen =
        record {
          begun = Some b;
          desk = desk_between;
          hand = between.hand;
          device = told between.device;
          clock = clock between.device;
          kept = λ before. StackKeepsAsTold before desk_between between.hand (told between.device) (clock between.device);
          uncut = IsUncut desk_between (told between.device);
        } in
        let same : desk_between ≡ asked = begins.half.half.0.0 in
        let on_between : (state_of desk_between).off ≡ false = ap (λ (d : DeskState). (state_of d).off) same ∙ begins.half.half.2 in
        let on : (state_of last).off ≡ false = asks_power desk_between.config desk_between.entries ends.asks ends.are ∙ on_between in
        has_moved_more true (At desk old) (At asked old) (At desk_new new) (asks_told begins.asks (At desk old) begins.are begins.replied begins.stands tied begins.ready (next, held))
        (has_moved_more true (At asked old) third (At desk_new new)
        (half_moved true (At asked old) third
        (half_is_told told clock copies is_store looked (stack_of asked old) (stack_of desk_between between) (IsUncut asked (told old.device)) (IsUncut desk_between (told between.device))
        (half_uncut asked desk_between (told old.device) (told between.device) begins.half.device (λ off. ap (λ (d : DeskState). (state_of d).off) same ∙ off)) begins.kept begins.tied begins.clock_stays begins.half begins.served))
        (has_moved_more true third (at third last) (At desk_new new)
        (asks_told ends.asks third ends.are ends.replied ends.stands begins.half.tied ends.ready (refl, (unfinished old.hand between.hand (told old.device) (told between.device) begins.half.at_device).1))
        (turn_moved (at third last) (At desk_new new) true
        (device_is_told told clock copies is_store looked (stack_of last between) (stack_of desk_new new) (IsUncut last (told between.device)) (IsUncut desk_new (told new.device))
        (device_uncut answer last desk_new (told between.device) (told new.device) (clock between.device) (clock new.device) on ends.adds ends.turns) ends.kept answer b
        (record {
          leaves = begins.half.device;
          goes = begins.half.at_device;
          started = begins.half.started refl;
          paired = ends.tied.paired;
          busy = begins.half.half.1;
          late = never_late asked.config (state_of asked) begins.half.half.3;
          room = ends.ready.room;
          on = λ uncut. sym (ap is_off begins.half.device) ∙ on_by last (told between.device) (is_on last (told between.device) (clock between.device) ends.ready.order uncut) on;
        })
        (λ is. faulty (stack_of desk old) (stack_of desk_new new) answer between begins.half.device is takes) tied_new.paired ends.turns ends.adds ends.hand (is_on desk_new (told new.device) (clock new.device) (as_turn answer (told between.device) (clock between.device) (told new.device) (clock new.device) ends.turns).1.1)
        (λ number turns calm up due. ends.nearer number turns (begins.half.started refl) begins.half.half.1 calm up due)))))

    pub driver_moved : TurnsBehind told clock copies is_store looked answer desk desk_new old new → HasMoved true (At desk old) (At desk_new new)
    driver_moved (inl begins) = ended_moved begins
    driver_moved (inr (desk_between, between, begins, cuts, ends)) = device_moved desk_between between begins ends
