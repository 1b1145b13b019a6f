use Rattle.script_player.proofs.Common.{◌≡◌, Bool, true, false, List, [], ◌∷◌, Option, Some, sym, ap, subst, inl, DeviceTold, Part, PartTold, ops_of, Lasts, Entry, Found, Clock, InOrder, HandState, DeskState, PlainBlock, TellsSlots, FoundAnswer, StackState, PowersOff, Restarts, MovesBy, moment_of, told_by, IsKept, kept_by, seen_by, HasStarted, StackKeepsAsTold, DownKeepsAsTold, StartsKeep, stack_starts, StartMoves}
use Rattle.uds_gateway.specs.nvm_laws.declared.turned.FoundAnswer.TheVariants as found
use Rattle.script_player.proofs.PlainPaying.{fails_last, restart_tells, same_entry, same_last}
use Rattle.script_player.proofs.PlainStarts.{restart_starts, restarts_told}
use Rattle.script_player.proofs.calls.restart.Goals as goal

-- whatever the last start-up came to, a further one has what it needs
module _ {D : Type 0} (told : D → DeviceTold) (clock : D → Clock) (old new : StackState D (List PlainBlock)) (before : Part → PartTold)
    (comes : (x : DeskState) (h : Option HandState) → StackKeepsAsTold before x h (told old.device) (clock old.device) → DownKeepsAsTold before x (told old.device) (clock old.device)) where
  downs : (ready : Bool) → IsKept ready before old.desk old.hand (told old.device) (clock old.device) → DownKeepsAsTold before old.desk (told old.device) (clock old.device)
  downs true kept = comes old.desk old.hand kept
  downs false kept = kept.keeps

  begun : (ready : Bool) → IsKept ready before old.desk old.hand (told old.device) (clock old.device) → TellsSlots (told old.device) → HasStarted old.desk.entries
  begun true kept tells = (kept.all tells).started
  begun false kept tells = kept.started tells

  same : new ≡ old → kept_by told clock old before → kept_by told clock new before
  same is kept = subst (λ (s : StackState D (List PlainBlock)). kept_by told clock s before) (sym is) kept

  restart_keeps : (answer : FoundAnswer) → Restarts told answer old new → StartsKeep answer old.desk (told old.device) (clock old.device) new.desk (told new.device) (clock new.device) → kept_by told clock old before → kept_by told clock new before
  restart_keeps found.Ready restarts keeps kept =
      subst (λ (b : Bool). IsKept b before new.desk new.hand (told new.device) (clock new.device)) (sym (ap (λ (s : StackState D (List PlainBlock)). s.ready) restarts.only))
      (subst (λ (h : Option HandState). StackKeepsAsTold before new.desk h (told new.device) (clock new.device)) (sym (ap (λ (s : StackState D (List PlainBlock)). s.hand) restarts.only))
      (keeps before (λ now. inl (begun old.ready kept (restart_tells told clock old new found.Ready restarts now))) (downs old.ready kept)))
  restart_keeps found.Failed restarts keeps kept =
      subst (λ (b : Bool). IsKept b before new.desk new.hand (told new.device) (clock new.device)) (sym (ap (λ (s : StackState D (List PlainBlock)). s.ready) restarts.only))
      (record {
        started = λ now. subst HasStarted (sym (ap (λ (s : StackState D (List PlainBlock)). s.desk.entries) restarts.only)) (begun old.ready kept (restart_tells told clock old new found.Failed restarts now));
        keeps = keeps before (downs old.ready kept);
      })
  restart_keeps found.NoRoom restarts keeps kept = same restarts.0 kept
  restart_keeps found.Memory restarts keeps kept = same restarts kept

-- as it is seen
module _ {D : Type 0} (told : D → DeviceTold) (clock : D → Clock) (old new : StackState D (List PlainBlock)) where
  restart_moves : ((before : Part → PartTold) → kept_by told clock old before → kept_by told clock new before) → Lasts (told old.device) (clock old.device) (told new.device) (clock new.device)
      → InOrder (told new.device) (clock new.device) → (new.ready ≡ true → PowersOff new.desk (told new.device)) → (answer : FoundAnswer) → Restarts told answer old new
      → StartMoves answer (seen_by told clock old) (seen_by told clock new) (told_by told old) (told_by told new)
  restart_moves keeps lasts order power found.Ready restarts = λ e grows.
      subst (λ (x : Entry). MovesBy false (record { entry = Some x; behind = moment_of (told_by told new) } ∷ []) (seen_by told clock old) (seen_by told clock new))
      (same_entry old.desk.entries new.desk.entries (Found restarts.marks (ops_of (told new.device))) e (ap (λ (s : StackState D (List PlainBlock)). s.desk.entries) restarts.only) grows)
      (stack_starts told clock old new (kept_by told clock old) (kept_by told clock new) keeps restarts order lasts (restart_tells told clock old new found.Ready restarts) (power (ap (λ (s : StackState D (List PlainBlock)). s.ready) restarts.only)))
  restart_moves keeps lasts order power found.Failed restarts = fails_last told clock old new lasts restarts
  restart_moves keeps lasts order power found.NoRoom restarts = same_last told clock old new restarts.0
  restart_moves keeps lasts order power found.Memory restarts = same_last told clock old new restarts

pub returns-clause-keeps : goal.returns-clause-keeps
returns-clause-keeps g c before =
    restart_keeps g.D.MemDevice.told g.D.MemDevice.clock c.args.stack.now c.restart-answer.new.self before (c.restart-answer.ensures.down before) c.restart-answer.result c.restart-answer.ensures.restarts c.restart-answer.ensures.keeps

pub returns-clause-moved : goal.returns-clause-moved
returns-clause-moved g c =
    let told = g.D.MemDevice.told in
    let clock = g.D.MemDevice.clock in
    restart_moves told clock c.args.stack.now c.restart-answer.new.self (returns-clause-keeps g c) c.restart-answer.ensures.lasts
    (subst (λ (x : g.row.D.Denot). InOrder (told x) (clock x)) c.device-behind.ensures.device c.status-status.ensures.order) c.device-behind.ensures.power c.restart-answer.result c.restart-answer.ensures.restarts

pub returns-clause-restarts : goal.returns-clause-restarts
returns-clause-restarts g c = restarts_told g.D.MemDevice.told c.args.stack.now c.restart-answer.new.self c.restart-answer.result c.restart-answer.ensures.restarts

pub returns-clause-starts : goal.returns-clause-starts
returns-clause-starts g c = restart_starts g.D.MemDevice.told c.args.stack.now c.restart-answer.new.self c.restart-answer.result c.restart-answer.ensures.restarts
