-- The calls of a stack whose application stores in memory, as it is seen.
use Rattle.script_player.proofs.Common.{◌≡◌, Bool, true, false, List, [], ◌∷◌, ◌++◌, refl, sym, ap, ◌∙◌, subst, append_cancel_left, DeviceTold, Part, PartTold, Clock, Lasts, Entry, PlainBlock, TellsSlots, FoundAnswer, StackState, Restarts, Move, MovesBy, IsSeen, LastsOn, IsKept, kept_by, seen_by, told_by, ComesFrom, told_before, StaysKept, seen_as, seen_in}
use Rattle.uds_gateway.specs.nvm_laws.declared.turned.FoundAnswer.TheVariants as found
use Rattle.script_player.proofs.Paying.{none_last}

-- one entry more is the one that was added
pub same_entry : (before h : List Entry) (e f : Entry) → h ≡ before ++ e ∷ [] → h ≡ before ++ f ∷ [] → e ≡ f
same_entry before h e f one two = let same = append_cancel_left before (e ∷ []) (f ∷ []) (sym one ∙ two) in cc same

module _ {D : Type 0} (device : D → DeviceTold) (clock : D → Clock) where
  -- it is seen as it is told
  pub is_seen : (s : StackState D (List PlainBlock)) → IsSeen (told_by device s) (seen_by device clock s)
  is_seen s = record {
    between = refl;
    config = refl;
    state = refl;
    moment = refl;
    uncut = λ one on off. absurd (let no_ : true ≡ false = sym off ∙ on in cc no_);
  }

  -- what moves while it is up, with all that is kept
  pub up_moves : (ms : List Move) (old new : StackState D (List PlainBlock)) → old.ready ≡ true → new.ready ≡ true → MovesBy false ms (seen_in device clock old) (seen_in device clock new) → MovesBy false ms (seen_by device clock old) (seen_by device clock new)
  up_moves ms old new ready ready_new by =
      subst (λ (b : Bool). MovesBy false ms (seen_by device clock old) (seen_as device clock (λ before. IsKept b before new.desk new.hand (device new.device) (clock new.device)) new)) (sym ready_new)
      (subst (λ (b : Bool). MovesBy false ms (seen_as device clock (λ before. IsKept b before old.desk old.hand (device old.device) (clock old.device)) old) (seen_in device clock new)) (sym ready) by)

module _ {D : Type 0} (device : D → DeviceTold) (clock : D → Clock) (old new : StackState D (List PlainBlock)) where
  -- where it is ready before and behind a call
  pub keeps_by : old.ready ≡ true → new.ready ≡ old.ready → StaysKept old.desk old.hand (device old.device) (clock old.device) new.desk new.hand (device new.device) (clock new.device)
      → (before : Part → PartTold) → kept_by device clock old before → kept_by device clock new before
  keeps_by ready same stays before kept = rw (same, ready) (stays.kept before (rw ready at kept))

  abbrev TellsBack : Type 0
  TellsBack = TellsSlots (device new.device) → TellsSlots (device old.device)

  pub restart_tells : (answer : FoundAnswer) → Restarts device answer old new → TellsBack
  restart_tells found.Ready restarts = told_before (λ n s t. ComesFrom s t) (device old.device) (device new.device) restarts.finds.up.restarted.marks
  restart_tells found.Failed restarts = told_before (λ n s t. ComesFrom s t) (device old.device) (device new.device) restarts.fails.restarted.marks
  restart_tells found.NoRoom restarts = λ told. subst (λ (s : StackState D (List PlainBlock)). TellsSlots (device s.device)) restarts.0 told
  restart_tells found.Memory restarts = λ told. subst (λ (s : StackState D (List PlainBlock)). TellsSlots (device s.device)) restarts told

  pub same_last : new ≡ old → LastsOn (seen_by device clock old) (seen_by device clock new)
  same_last is = subst (λ (s : StackState D (List PlainBlock)). LastsOn (seen_by device clock old) (seen_by device clock s)) (sym is) (none_last (seen_by device clock old))

  -- a start-up that doesn't stand
  pub fails_last : Lasts (device old.device) (clock old.device) (device new.device) (clock new.device) → Restarts device found.Failed old new → LastsOn (seen_by device clock old) (seen_by device clock new)
  fails_last lasts restarts = record {
    lasts = lasts;
    fixed = restarts.fails.restarted.fixed;
    config = ap (λ (s : StackState D (List PlainBlock)). s.desk.config) restarts.only;
    ops = restarts.fails.restarted.ops;
    told = restart_tells found.Failed restarts;
  }
