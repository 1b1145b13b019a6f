-- The calls of a stack of one's own, as moves.
use Rattle.nvm_moves.proofs.Common.{◌||◌, ◌≡◌, inl, inr, ℕ, ◌+◌, ◌≤◌, Bool, true, false, List, [], ◌∷◌, ◌++◌, Option, Some, None, refl, sym, ap, ◌∙◌, subst, arith, last_count, DeviceTold, Fixed, Part, PartTold, faults_of, is_off, is_open, Clock, Seals, FreesReady, InOrder, Lasts, same_clock, same_told, Request, Reply, Entry, Ask, Found, State, histories_step, Told, DeskState, state_of, HandState, IsDue, TurnServesDue, StaysKept, IsTied, KeepsSeal, TakesKeptInHand, Turned, Ended, IsSimple, tries_left, work_in, TurnsDevice, now_of, free_turns, IsOfBlock, left_on, TurnPays, worn_so_far, StackState, PowersOff, IsFirstHalf, left_with, TakesTurns, closed_tries, has_risen, Move, entry_list, turns_beside, Seen, all_with, moment_by, moment_seen, MayGoOnAsTold, MovesBy, SameClock, is_asked, is_found, plans, Arms, IsSealing, same_lasts, TellsSlots, KeepsDue, StartsUp, none_some, start_leaves, turns_start_none, seen_as, seen_in, KeepsToWork, asked_stays}
use Rattle.std.specs.Prelude.{min, if◌then◌else◌, ◌==◌}
use Rattle.nvm_core.specs.nv_base.Plan.{Planning, planned}
use Rattle.nvm_core.specs.memif.Told.{ops_of}
use Rattle.nvm_core.specs.nvm_laws.declared.turned.Turned.TheVariants as turned
use Rattle.nvm_core.specs.Turns as core
use Rattle.nvm_moves.proofs.Beginning.{start_work}
use Rattle.nvm_moves.proofs.DueAsked.{one_served}
use Rattle.nvm_moves.proofs.Halves.{as_turn, device_fixed, turn_is_told}
use Rattle.nvm_moves.proofs.Moved.{ask_moves, kept_moves, start_moves, still_moves, turn_moves}
use Rattle.nvm_moves.proofs.Servable.{roomy}

-- A TURN
-- the device counts no start-up in it
pub device_starts : (answer : Turned) (old new : DeviceTold) (clock clock_new : Clock) → TurnsDevice answer old clock new clock_new → new.starts ≡ old.starts
device_starts answer old new clock clock_new turns = let (a, is) = as_turn answer old clock new clock_new turns in turns_start_none a old clock new clock_new is

module _ {D C : Type 0} (told : D → DeviceTold) (clock : D → Clock) (copies : C → List Told) (is_store : C → ℕ → ℕ → List ℕ → Type 0) (looked : C → C → ℕ → ℕ → Type 0) where
  pub turned_ready : (answer : Turned) (old new : StackState D C) → core.Turns told clock copies is_store looked answer old new → new.ready ≡ old.ready
  turned_ready answer old new (inl half) = half.ready
  turned_ready answer old new (inr (between, half, rest)) = rest.ready ∙ half.ready

  turned_fixed : (answer : Turned) (old new : StackState D C) → core.Turns told clock copies is_store looked answer old new → (told new.device).fixed ≡ (told old.device).fixed
  turned_fixed answer old new (inl half) = ap (λ (d : DeviceTold). d.fixed) half.device
  turned_fixed answer old new (inr (between, half, rest)) =
      device_fixed answer (told between.device) (clock between.device) (told new.device) (clock new.device) rest.turns ∙ ap (λ (d : DeviceTold). d.fixed) half.device

  went_off : (answer : Turned) (old new : StackState D C) → answer ≡ turned.Off → IsFirstHalf told copies is_store looked (Ended answer) old new → PowersOff new.desk (told new.device) → (state_of old.desk).off ≡ true
  went_off answer old new is half power =
      let off = (subst (λ (a : Turned). IsFirstHalf told copies is_store looked (Ended a) old new) is half).half in
      ap (λ (d : DeskState). (state_of d).off) (sym off.0.0) ∙ power off.1

  -- it is one move, with the entry that it added, if any, which no request and no start-up adds
  pub stack_turns : (answer : Turned) (old new : StackState D C) → core.Turns told clock copies is_store looked answer old new → old.ready ≡ true → StaysKept old.desk old.hand (told old.device) (clock old.device) new.desk new.hand (told new.device) (clock new.device)
      → faults_of (told old.device) ≤ faults_of (told new.device) → TakesTurns told answer old new → Lasts (told old.device) (clock old.device) (told new.device) (clock new.device) → TurnPays told clock old new
      → TurnServesDue (now_of told old) (now_of told new) → KeepsSeal (told old.device) (clock old.device) (told new.device) (clock new.device) → TakesKeptInHand old.desk (told old.device) (told new.device) (clock new.device)
      → IsTied old.desk old.hand (told old.device) → (new.ready ≡ true → IsTied new.desk new.hand (told new.device)) → (new.ready ≡ true → PowersOff new.desk (told new.device)) → InOrder (told old.device) (clock old.device) → InOrder (told new.device) (clock new.device)
      → (e : Option Entry) × (new.desk.entries ≡ old.desk.entries ++ entry_list e) × ((is_asked e ≡ false) × (is_found e ≡ false)) × MovesBy false (record { entry = e; behind = moment_by None (told new.device) } ∷ []) (seen_in told clock old) (seen_in told clock new)
  stack_turns answer old new turns ready keeps counted left lasts pays due seals kept tied tied_new power order order_new =
      let up : new.ready ≡ true = turned_ready answer old new turns ∙ ready in
      let is =
      turn_is_told told clock copies is_store looked old new (PowersOff old.desk (told old.device)) (PowersOff new.desk (told new.device)) (λ on. power up) keeps answer turns counted lasts pays kept
      (λ half off. went_off answer old new off half (power up)) left tied (tied_new up).paired seals due order order_new (λ on. on) (λ on. on) in
      (is.entry, ap (λ (d : DeskState). d.entries) is.adds, is.turns, turn_moves (seen_in told clock old) (seen_in told clock new) false is)

-- OTHER CALLS
-- a plan changes the planning of a part alone
abbrev with_planning : (p q : Planning) → DeviceTold → DeviceTold
with_planning p q d = record d { first = record d.first { planning = p }; second = record d.second { planning = q } }

plans_alone : (one two : Bool) (nth keep : ℕ) (d : DeviceTold) → (p q : Planning) × ((if one then record d { first = plans nth keep d.first } else (if two then record d { second = plans nth keep d.second } else d)) ≡ with_planning p q d)
plans_alone true two nth keep d = (planned nth keep d.first.planning, d.second.planning, refl)
plans_alone false true nth keep d = (d.first.planning, planned nth keep d.second.planning, refl)
plans_alone false false nth keep d = (d.first.planning, d.second.planning, refl)

left_alone : (p q : Planning) (hand : Option HandState) (d : DeviceTold) → (left_with hand (with_planning p q d) ≡ left_with hand d) × (all_with hand (with_planning p q d) ≡ all_with hand d)
left_alone p q None d = (refl, refl)
left_alone p q (Some h) d = (refl, refl)

plan_keeps_seal : (p q : Planning) (old : DeviceTold) (clock : Clock) (new : DeviceTold) (clock_new : Clock) → new ≡ with_planning p q old → SameClock clock clock_new → KeepsSeal old clock new clock_new
plan_keeps_seal p q old clock new clock_new is same since sealed on k later last few seals =
    let ops : new.ops ≡ old.ops = ap (λ (d : DeviceTold). d.ops) is in
    let kept = sealed (sym (ap is_off is) ∙ on) k later (omega (arith, ops, last)) (omega (arith, ops, few)) ((same.was Seals k).0 seals) in
    subst IsSealing (sym is) (record { switching = kept.switching; ready = kept.ready })

module _ {D C : Type 0} (told : D → DeviceTold) (clock : D → Clock) (old new : StackState D C) (kept kept_new : (Part → PartTold) → Type 0) (stays : (before : Part → PartTold) → kept before → kept_new before) where
  abbrev Old : Seen
  Old = seen_as told clock kept old

  abbrev New : Seen
  New = seen_as told clock kept_new new

  still_lasts : (s : StackState D C) → Lasts (told s.device) (clock s.device) (told s.device) (clock s.device)
  still_lasts s = same_told (told s.device) (clock s.device) (told s.device) (clock s.device) refl (same_clock (clock s.device))

  -- a request
  pub stack_asks : (caller : ℕ) (r : Request) (reply : Reply) → new ≡ record old { desk = record old.desk { entries = old.desk.entries ++ Ask caller r reply ∷ [] } } → IsTied old.desk old.hand (told old.device)
      → InOrder (told old.device) (clock old.device) → FreesReady (told old.device) (clock old.device) → KeepsDue (now_of told old) (now_of told new)
      → MovesBy false (record { entry = Some (Ask caller r reply); behind = moment_by None (told old.device) } ∷ []) Old New
  stack_asks caller r reply is tied order frees due =
      let e = Ask caller r reply in
      let lasts = subst (λ (s : StackState D C). Lasts (told old.device) (clock old.device) (told s.device) (clock s.device)) (sym is) (still_lasts old) in
      ask_moves false e Old New (record {
        are = (refl, tt);
        adds = ap (λ (s : StackState D C). s.desk) is;
        hand = ap (λ (s : StackState D C). s.hand) is;
        device = ap (λ (s : StackState D C). told s.device) is;
        begun = refl;
        lasts = lasts;
        stays = record { told = subst (λ (s : StackState D C). TellsSlots (told s.device)) is; kept = stays };
        uncut = λ on. subst (λ (s : StackState D C). PowersOff s.desk (told s.device)) (sym is)
            (λ off. ap (λ (x : State). x.off) (histories_step old.desk.config old.desk.entries e) ∙ (asked_stays old.desk.config (state_of old.desk) r reply).off ∙ on off);
        seals = subst (λ (s : StackState D C). KeepsSeal (told old.device) (clock old.device) (told s.device) (clock s.device)) (sym is) (λ since sealed. sealed);
      }) tt
      (λ since s. one_served old.hand (told old.device) (turns_beside false) (MayGoOnAsTold New.clock Old.device.fixed.reserve) since (moment_seen Old) old.desk caller r reply s.blocks tied.started
      (roomy since old.desk old.hand (told old.device) (told new.device) (clock old.device) (clock new.device) s.uncut s.sealed order frees tied.paired tied.up lasts) (omega arith)
      (subst (λ (s : StackState D C). KeepsDue (now_of told old) (now_of told s)) is due))

  -- a power cut that is planned
  pub stack_arms : (which nth keep : ℕ) → new ≡ record old { device = new.device } → Arms which nth keep (told old.device) (clock old.device) (told new.device) (clock new.device) → (TellsSlots (told new.device) → TellsSlots (told old.device)) → KeepsDue (now_of told old) (now_of told new)
      → MovesBy false [] Old New
  stack_arms which nth keep only arms tells due =
      let d = told old.device in
      let desk = ap (λ (s : StackState D C). s.desk) only in
      let hand = ap (λ (s : StackState D C). s.hand) only in
      let (p, q, alone) = plans_alone (which == 0) (which == 1) nth keep d in
      let is : told new.device ≡ with_planning p q d = arms.0 ∙ alone in
      let same = left_alone p q old.hand d in
      still_moves false Old New (record {
        desk = desk;
        hand = hand;
        begun = refl;
        moment = ap (moment_by None) is;
        left = ap (λ (h : Option HandState). left_with h (told new.device)) hand ∙ ap (left_with old.hand) is ∙ same.0;
        in_all = ap (λ (h : Option HandState). all_with h (told new.device)) hand ∙ ap (all_with old.hand) is ∙ same.1;
        work = ap (λ (h : Option HandState). work_in h (told new.device)) hand ∙ ap (work_in old.hand) is;
        fixed = ap (λ (x : DeviceTold). x.fixed) is;
        lasts = same_lasts d (clock old.device) (told new.device) (clock new.device) (ap (λ (x : DeviceTold). x.ops) is) (ap (λ (x : DeviceTold). x.first.faults) is) (ap (λ (x : DeviceTold). x.second.faults) is) arms.1.same;
        stays = record { told = tells; kept = stays };
        uncut = λ on off. ap (λ (x : DeskState). (state_of x).off) desk ∙ on (sym (ap is_off is) ∙ off);
        seals = plan_keeps_seal p q d (clock old.device) (told new.device) (clock new.device) is arms.1.same;
        dues = λ one id turns was. record {
          number = was.number;
          due = subst (λ (h : Option HandState). IsDue was.number (turns + free_turns one h) (now_of told new)) (sym hand) (due was.number (turns + free_turns one old.hand) was.due);
          block = subst (λ (x : DeskState). IsOfBlock was.number id (state_of x)) (sym desk) was.block;
          on = ap (λ (x : DeskState). (state_of x).off) desk ∙ was.on;
        };
      })

  -- what changes the copies alone, or nothing
  pub stack_stays : (xs : C) → new ≡ record old { copies = xs } → MovesBy false [] Old New
  stack_stays xs is = subst (λ (s : StackState D C). MovesBy false [] Old (seen_as told clock kept_new s)) (sym is) (kept_moves false Old kept_new stays)

  -- A START-UP
  -- its work is what it leaves, paid by a fault
  module _ (starts : StartsUp told old new) (order : InOrder (told new.device) (clock new.device)) where
    abbrev move : Move
    move = record { entry = Some (Found starts.marks (ops_of (told new.device))); behind = moment_by None (told new.device) }

    leaves_few : IsSimple (told old.device).fixed → left_on (told new.device) ≤ (if has_risen (faults_of (told old.device)) (faults_of (told new.device)) then (told old.device).fixed.own else 0)
    leaves_few simple =
        subst (λ (f : Fixed). left_on (told new.device) ≤ (if has_risen (faults_of (told old.device)) (faults_of (told new.device)) then f.own else 0)) starts.finds.up.restarted.fixed
        (start_work (told new.device) (clock new.device) order starts.finds.at_rest (has_risen (faults_of (told old.device)) (faults_of (told new.device))) (start_leaves starts.marks (told old.device) (told new.device) starts.finds simple)).0

    more_in : (l x y u v : ℕ) → x ≤ u → y ≤ v → min (x + y) l ≤ min (u + v) l
    more_in l x y u v first second = omega (arith, first, second)

    or_last : (b : Bool) → (b || true) ≡ true
    or_last true = refl
    or_last false = refl

    by_fault : (faulty : Bool) (own left before behind was : ℕ) → behind ≡ before → left ≤ (if faulty then own else 0) → behind + left ≤ before + was + (0 + ((if faulty then own + 1 else 0) + 0))
    by_fault true own left before behind was same few = omega (arith, few, same)
    by_fault false own left before behind was same few = omega (arith, few, same)

    start_works : IsSimple (told old.device).fixed → KeepsToWork (worn_so_far (told new.device) (clock new.device)) (clock new.device) Old (work_in new.hand (told new.device)) move
    start_works simple =
        let closed = closed_tries (told new.device).stand starts.finds.at_rest in (
          None,
          record {
            begins = λ k none. none_some k none;
            adds = λ test has.
                by_fault (has_risen (faults_of (told old.device)) (faults_of (told new.device))) (told old.device).fixed.own (left_on (told new.device)) (told old.device).ops (told new.device).ops (left_on (told old.device)) starts.finds.up.restarted.ops
                (leaves_few simple);
            ends = λ k on. inr (closed, inl (or_last (has_risen (faults_of (told old.device)) (faults_of (told new.device)))));
            none = λ none. closed;
            over = λ posted. cc posted;
            tries =
                let none : tries_left new.hand (is_open (told new.device).stand) ≡ 0 = ap (λ (s : StackState D C). tries_left s.hand (is_open (told new.device).stand)) starts.only in omega (arith, none);
          },
        )

    pub stack_starts : Lasts (told old.device) (clock old.device) (told new.device) (clock new.device) → (TellsSlots (told new.device) → TellsSlots (told old.device)) → PowersOff new.desk (told new.device) → MovesBy false (move ∷ []) Old New
    stack_starts lasts tells power =
        start_moves false Old New (record {
          entry = Found starts.marks (ops_of (told new.device));
          found = refl;
          adds = ap (λ (s : StackState D C). record s.desk { prepared = new.desk.prepared }) starts.only;
          told = refl;
          hand = ap (λ (s : StackState D C). s.hand) starts.only;
          begun = refl;
          ops = starts.finds.up.restarted.ops;
          fixed = starts.finds.up.restarted.fixed;
          counted = more_in last_count (told old.device).first.faults (told old.device).second.faults (told new.device).first.faults (told new.device).second.faults lasts.faults.0 lasts.faults.1;
          lasts = lasts;
          stays = record { told = tells; kept = stays };
          uncut = λ on. power;
          work = λ on simple. start_works simple;
        })
