-- Requests of a stack whose application stores in memory.
use Rattle.script_player.proofs.Common.{rules, ◌≡◌, ℕ, false, IsTrue, Some, List, [], ◌∷◌, Result, Ok, Err, refl, sym, ap, ◌∙◌, subst, OnOk, OnErr, DeviceTold, Part, PartTold, Clock, AskFault, Reply, Entry, Ask, Request, fits, HistoriesStep, SumsGrow, histories_step, sums_grow, PlainBlock, StackState, MovesBy, Asks, AskMoves, LastsOn, IsRequested, moment_of, kept_by, seen_by, told_by, has_room, requested_ready, stack_asks}
use Rattle.uds_gateway.specs.nv_desk.declared.ask.AskFault.TheVariants as fault
use Rattle.uds_gateway.specs.nv_desk.Desk.{state_of}
use Rattle.script_player.specs.PlainKept.{starts_found}
use Rattle.script_player.proofs.PlainPaying.{keeps_by, same_entry, same_last}
use Rattle.script_player.proofs.PlainStarts.{starts_stay}

module _ {D : Type 0} (device : D → DeviceTold) (clock : D → Clock) (caller : ℕ) (r : Request) (old new : StackState D (List PlainBlock)) where
  -- what it adds
  pub ask_told : (result : Result Reply AskFault) → IsRequested device clock caller r result old new → Asks caller r result (told_by device old) (told_by device new)
  ask_told (Ok reply) is =
      let steps : HistoriesStep = histories_step in
      let prices : SumsGrow = sums_grow in
      let room : IsTrue (fits old.desk.config old.desk.cap (state_of old.desk) 1) = has_room (Ok reply) reply (fits old.desk.config old.desk.cap (state_of old.desk) 1) refl is.no_room in
      let adds = is.adds in
      search rules
  ask_told (Err fault.NoRoom) is = (ap (told_by device) is.same, rw (is.no_room.0 refl) refl)
  ask_told (Err fault.Memory) is = ap (told_by device) is.same

  module _ (result : Result Reply AskFault) (is : IsRequested device clock caller r result old new) where
    stays_up : new.ready ≡ old.ready
    stays_up = requested_ready device clock caller r result old new is ∙ sym is.ready

    pub ask_keeps : (before : Part → PartTold) → kept_by device clock old before → kept_by device clock new before
    ask_keeps = keeps_by device clock old new is.ready stays_up is.keeps

  pub ask_moved : (result : Result Reply AskFault) → IsRequested device clock caller r result old new → OnOk result (AskMoves (seen_by device clock old) (seen_by device clock new) (told_by device old) (told_by device new))
  ask_moved (Err why) is = tt
  ask_moved (Ok reply) is = λ e grows.
      subst (λ (x : Entry). MovesBy false (record { entry = Some x; behind = moment_of (told_by device old) } ∷ []) (seen_by device clock old) (seen_by device clock new))
      (same_entry old.desk.entries new.desk.entries (Ask caller r reply) e (ap (λ (s : StackState D (List PlainBlock)). s.desk.entries) is.adds) grows)
      (stack_asks device clock old new (kept_by device clock old) (kept_by device clock new) (ask_keeps (Ok reply) is) caller r reply is.adds is.tied is.order is.frees is.due)

  pub ask_lasts : (result : Result Reply AskFault) → IsRequested device clock caller r result old new → OnErr result (LastsOn (seen_by device clock old) (seen_by device clock new))
  ask_lasts (Ok reply) is = tt
  ask_lasts (Err why) is = same_last device clock old new is.same

  pub ask_starts : (result : Result Reply AskFault) → IsRequested device clock caller r result old new → starts_found device old → starts_found device new
  ask_starts (Ok reply) is =
      starts_stay device old new (Ask caller r reply ∷ []) refl (stays_up (Ok reply) is) (ap (λ (s : StackState D (List PlainBlock)). s.desk.entries) is.adds)
      (ap (λ (s : StackState D (List PlainBlock)). (device s.device).starts) is.adds)
  ask_starts (Err why) is = subst (starts_found device) (sym is.same)
