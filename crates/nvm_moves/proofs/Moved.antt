-- What a call does as a move, and moves behind moves.
use Rattle.nvm_moves.proofs.Common.{Part, PartTold, IfSome, IsTrue, is_none, option_map, ◌&&◌, ◌||◌, option_map_or, ◌≡◌, inl, inr, ◌≤◌, ◌<◌, ◌+◌, ℕ, Bool, true, false, List, [], ◌∷◌, ◌++◌, Option, Some, None, refl, sym, ap, ◌∙◌, subst, arith, append_assoc, append-nil, Rose, DeviceTold, faults_of, Clock, TakesKept, Lasts, same_clock, same_told, Entry, Ask, Pick, Wrote, Post, Off, Found, Configuration, State, Job, rank_of, at_first, after, after_from, Worn, histories_go_on, DeskState, state_of, is_hand_urgent, with_entries, OwesSince, has_urgent, worn_so_far, half_lasts, HandState, Fixed, Work, AreWorkedTo, IsSimple, costs_in, pages_in, none_worked, worked_more, Moment, Move, entry_list, entries_of, moment_behind, is_asked, is_found, is_picked, found_behind, Among, CountFailed, turns_beside, cases_Bool, has_risen, is_at_rest, Bound, Cursor, Frame, bound_of, left_behind, next_by, cursor_behind, one_less, renewed, Along, Begun, Seen, frame_in, frame_of, moment_seen, AreServed, DueAt, IsServable, HadPages, MayGoOnAsTold, FitsHand, IsBound, IsLawful, IsPaidAt, IsTurnTold, LeavesTurns, IsAt, IsHalfTold, AreAsked, HasMoved, MovesBy, WereCounted, lasts_more, price_in_faults, PaysSince, asked_urgency, since_stays, part_rises, half_goes, one_worked, HasImmediate, IsPaidSince, found_more, or_parts, risen, since_too, all_seen, left_seen, most_seen, work_seen, ServesBy, due_by, KeepToWork, IsStartTold, IsStillTold, GrowsBy, ArePending, AreAsksMade, AreAsksTold, Owes, HasBlocks, OfFirst}
use Rattle.std.specs.Prelude.{if◌then◌else◌}
use Rattle.nvm_moves.proofs.TurnEntries.{asks_urgent, none_more}
use Rattle.nvm_moves.proofs.Along.{along_by, along_more, along_to, cursor_more, cursor_now, cursor_state, entries_more}
use Rattle.nvm_moves.proofs.Consequences.{count_failed}
use Rattle.nvm_moves.proofs.Served.{served_as, served_more, served_on}
use Rattle.nvm_moves.proofs.WorkedMoves.{asks_worked, worked_on, worn_on}
use Rattle.nvm_moves.proofs.DueAsked.{asked_moves, between_served, within_served}
use Rattle.nvm_moves.proofs.Servable.{roomy}

-- ONE BEHIND ANOTHER
-- a law by a clock goes on by a later one
lawful_on : (c : Configuration) (d d_new : DeviceTold) (clock clock_new : Clock) → Lasts d clock d_new clock_new → (k : Cursor) (m : Move) → m.behind.ops ≤ d.ops → IsLawful c clock k m → IsLawful c clock_new k m
lawful_on c d d_new clock clock_new lasts k m within is = record {
  made = is.made;
  failed = record { later = is.failed.later; own = λ o since before was. is.failed.own o since before ((lasts.past.failed o (omega (arith, before, within))).0 was) };
  kept = λ o since before was. is.kept o since before (lasts.past.was TakesKept o (omega (arith, before, within)) was);
  rests = is.rests;
  begins = is.begins;
  fits = is.fits;
  posts = is.posts;
}

paid_on : (c : Configuration) (worn other : Worn) → ((k n : ℕ) (urgent : Bool) → worn k n urgent → other k n urgent) → (k : Cursor) (m : Move) → IsPaidAt c worn k m → IsPaidAt c other k m
paid_on c worn other more k m paid = (since_too c worn other more k.picked k.now k.state (m ∷ []) (paid, tt)).0

-- where nothing is known of what came before
abbrev begun_states : Option Begun → List State
begun_states None = []
begun_states (Some b) = b.state ∷ []

abbrev pub cursor_of : Seen → Cursor
cursor_of s = record { now = moment_seen s; state = state_of s.desk; since = state_of s.desk ∷ begun_states s.begun; found = 0; picked = 0; left = None }

pub is_at : (s : Seen) → IsAt s (cursor_of s)
is_at s = record { now = refl; state = refl; here = inl refl; begun = among s.begun; left = tt }
  where
    among : (o : Option Begun) → IfSome o (λ b. Among b.state (state_of s.desk ∷ begun_states o))
    among None = tt
    among (Some b) = inr (inl refl)

grows : (old new : DeskState) (more : List Entry) → new ≡ with_entries old more → GrowsBy more old new
grows old new more is = ap (λ (d : DeskState). record d { prepared = new.prepared }) is

module _ (within : Bool) (x y : Seen) (is : HasMoved within x y) where
  pub moment_then : moment_behind (moment_seen x) is.moves ≡ moment_seen y
  moment_then = sym (cursor_now (frame_of within x) (cursor_of x) is.moves) ∙ (is.lawful (cursor_of x) (is_at x)).1.now

  pub state_then : after_from x.desk.config (state_of x.desk) (entries_of is.moves) ≡ state_of y.desk
  state_then = sym (cursor_state (frame_of within x) (cursor_of x) is.moves) ∙ (is.lawful (cursor_of x) (is_at x)).1.state

  pub counts_then : CountFailed y.clock.failed (moment_seen x) is.moves
  counts_then = count_failed (frame_of within x) y.clock (cursor_of x) is.moves (is.lawful (cursor_of x) (is_at x)).0

  ops_then : (moment_behind (moment_seen x) is.moves).ops ≤ y.device.ops
  ops_then = let ops = ap (λ (m : Moment). m.ops) moment_then in omega (arith, ops)

-- the same blocks
blocks_on : (old new : Seen) → new.device.fixed ≡ old.device.fixed → new.desk.config ≡ old.desk.config → HasBlocks old.desk.config old.device.fixed → HasBlocks new.desk.config new.device.fixed
blocks_on old new fixed config blocks = rw (fixed, config) blocks

module _ (within : Bool) (x y z : Seen) (one : HasMoved within x y) (two : HasMoved within y z) where
  config : y.desk.config ≡ x.desk.config
  config = ap (λ (d : DeskState). d.config) one.tell

  abbrev Served_by : ℕ → Configuration → Fixed → Moment → State → Type 0
  Served_by since c f now s = AreServed (OfFirst f) (turns_beside within) c (pages_in f c) (MayGoOnAsTold z.clock f.reserve) (DueAt y) (DueAt z) since now s two.moves

  serves : (since : ℕ) → ServesBy within y.clock (DueAt x) (DueAt y) since x one.moves → ServesBy within z.clock (DueAt y) (DueAt z) (found_behind since one.moves) y two.moves → ServesBy within z.clock (DueAt x) (DueAt z) since x (one.moves ++ two.moves)
  serves since first second =
      let c = x.desk.config in
      let d = x.device.fixed in
      let from = found_behind since one.moves in
      served_more (OfFirst d) (turns_beside within) c (pages_in d c) (MayGoOnAsTold z.clock d.reserve) (DueAt x) (DueAt y) (DueAt z) since (moment_seen x) (state_of x.desk) one.moves two.moves
      (served_on (OfFirst d) (turns_beside within) c (pages_in d c) y.device z.device y.clock z.clock two.lasts d.reserve y.clock.failed (DueAt x) (DueAt y) since (moment_seen x) (state_of x.desk) one.moves (ops_then within x y one) (counts_then within x y one) first)
      (subst (λ (now : Moment). Served_by from c d now (after_from c (state_of x.desk) (entries_of one.moves))) (sym (moment_then within x y one))
      (subst (λ (s : State). Served_by from c d (moment_seen y) s) (sym (state_then within x y one))
      (subst (λ (f : Fixed). Served_by from c f (moment_seen y) (state_of y.desk)) one.fixed (subst (λ (g : Configuration). Served_by from g y.device.fixed (moment_seen y) (state_of y.desk)) config second))))

  abbrev Worked_by : Configuration → Fixed → Moment → State → Type 0
  Worked_by c f now s = AreWorkedTo (costs_in f) (HadPages z.clock) (worn_so_far z.device z.clock) c now s (work_seen y) (work_seen z) two.moves

  works : KeepToWork (worn_so_far y.device y.clock) y.clock x (work_seen y) one.moves → KeepToWork (worn_so_far z.device z.clock) z.clock y (work_seen z) two.moves → KeepToWork (worn_so_far z.device z.clock) z.clock x (work_seen z) (one.moves ++ two.moves)
  works first second =
      let c = x.desk.config in
      let d = x.device.fixed in
      worked_more (costs_in d) (HadPages z.clock) (worn_so_far z.device z.clock) c (moment_seen x) (state_of x.desk) (work_seen x) (work_seen y) (work_seen z) one.moves two.moves
      (worked_on y.device z.device y.clock z.clock two.lasts (costs_in d) y.clock.failed c (moment_seen x) (state_of x.desk) (work_seen x) (work_seen y) one.moves (ops_then within x y one) (counts_then within x y one) first)
      (subst (λ (now : Moment). Worked_by c d now (after_from c (state_of x.desk) (entries_of one.moves))) (sym (moment_then within x y one))
      (subst (λ (s : State). Worked_by c d (moment_seen y) s) (sym (state_then within x y one))
      (subst (λ (f : Fixed). Worked_by c f (moment_seen y) (state_of y.desk)) one.fixed (subst (λ (g : Configuration). Worked_by g y.device.fixed (moment_seen y) (state_of y.desk)) config second))))

pub has_moved_more : (within : Bool) (x y z : Seen) → HasMoved within x y → HasMoved within y z → HasMoved within x z
has_moved_more within x y z one two =
    let c = x.desk.config in
    let f = frame_of within x in
    let same : frame_of within y ≡ f = ap (λ (d : DeskState). frame_in within d.config y.device.fixed) one.tell ∙ ap (frame_in within c) one.fixed in
    record {
      moves = one.moves ++ two.moves;
      tell = two.tell ∙ ap (λ (d : DeskState). record d { entries = d.entries ++ entries_of two.moves; prepared = z.desk.prepared }) one.tell
          ∙ ap (λ (h : List Entry). record x.desk { entries = h; prepared = z.desk.prepared }) (append_assoc x.desk.entries (entries_of one.moves) (entries_of two.moves) ∙ ap (λ (es : List Entry). x.desk.entries ++ es) (sym (entries_more one.moves two.moves)));
      fixed = two.fixed ∙ one.fixed;
      lasts = lasts_more _ _ _ _ _ _ one.lasts two.lasts;
      stays = record { told = λ tells. one.stays.told (two.stays.told tells); kept = λ before kept. two.stays.kept before (one.stays.kept before kept) };
      uncut = λ uncut. two.uncut (one.uncut uncut);
      servable = λ since is. subst (λ (n : ℕ). IsServable n z) (sym (found_more since one.moves two.moves)) (two.servable (found_behind since one.moves) (one.servable since is));
      served = λ since is. serves within x y z one two since (one.served since is) (two.served (found_behind since one.moves) (one.servable since is));
      work = λ uncut simple. works within x y z one two (one.work uncut simple) (two.work (one.uncut uncut) (subst IsSimple (sym one.fixed) simple));
      lawful = λ k at.
          let (first, then_) = one.lawful k at in
          let (second, last) = subst (λ (g : Frame). Along g (IsLawful g.config z.clock) (cursor_behind f k one.moves) two.moves × IsAt z (cursor_behind g (cursor_behind f k one.moves) two.moves)) same (two.lawful (cursor_behind f k one.moves) then_) in
          let ops = ap (λ (m : Moment). m.ops) then_.now in (
            along_more f (IsLawful c z.clock) k one.moves two.moves
                (along_to f (IsLawful c y.clock) (λ j m is. is.failed.later) (IsLawful c z.clock) y.device.ops (lawful_on c y.device z.device y.clock z.clock two.lasts) k one.moves (omega (arith, ops)) first) second,
            subst (IsAt z) (sym (cursor_more f k one.moves two.moves)) last,
          );
      paid = λ tells before kept k at owes.
          let (first, owed) = one.paid (two.stays.told tells) before kept k at owes in
          let worn = worn_so_far z.device z.clock in
          let (second, last) = subst (λ (g : Frame). Along g (IsPaidAt g.config worn) (cursor_behind f k one.moves) two.moves × Owes (cursor_behind g (cursor_behind f k one.moves) two.moves).picked z) same
          (two.paid tells before (one.stays.kept before kept) (cursor_behind f k one.moves) (one.lawful k at).1 owed) in (
            along_more f (IsPaidAt c worn) k one.moves two.moves
                (along_by f (IsPaidAt c (worn_so_far y.device y.clock)) (IsPaidAt c worn) (paid_on c (worn_so_far y.device y.clock) worn (worn_on y.device z.device y.clock z.clock two.lasts)) k one.moves first) second,
            subst (λ (j : Cursor). Owes j.picked z) (sym (cursor_more f k one.moves two.moves)) last,
          );
    }

pub moves_more : (within : Bool) (xs ys : List Move) (x y z : Seen) → MovesBy within xs x y → MovesBy within ys y z → MovesBy within (xs ++ ys) x z
unfolding has_moved_more
moves_more within xs ys x y z one two =
    record { moved = has_moved_more within x y z one.moved two.moved; are = ap (λ (l : List Move). l ++ two.moved.moves) one.are ∙ ap (λ (l : List Move). xs ++ l) two.are }

-- ONE CALL
-- the job in hand, as the promise has it
pub has_immediate : (c : Configuration) (s : State) → is_hand_urgent c s ≡ true → HasImmediate c s
has_immediate c s urgent = by s.hand refl
  where
    by : (o : Option Job) → s.hand ≡ o → HasImmediate c s
    by None none = let off : is_hand_urgent c s ≡ false = ap (λ (o : Option Job). option_map_or (λ j. (rank_of c j).immediate) o false) none in absurd (let no_ : true ≡ false = sym urgent ∙ off in cc no_)
    by (Some j) held = (j, held, sym (ap (λ (o : Option Job). option_map_or (λ x. (rank_of c x).immediate) o false) held) ∙ urgent)

not_found : (t : Bool) (n since : ℕ) → t ≡ false → since ≡ (if t then n else since)
not_found false n since none = refl
not_found true n since none = absurd (cc none)

was_found : (t : Bool) (n since : ℕ) → t ≡ true → n ≡ (if t then n else since)
was_found true n since is = refl
was_found false n since is = absurd (cc is)

nothing_more : (n a b : ℕ) → WereCounted n a b → WereCounted (n + 0) a b
nothing_more n a b (inl more) = inl (omega (arith, more))
nothing_more n a b (inr full) = inr full

some_same : (a b : ℕ) → Some a ≡ Some b → a ≡ b
some_same a b is = cc is

-- what changes neither the turns that are left nor their most
bound_on : (old new : Seen) → left_seen old ≡ left_seen new → most_seen old ≡ most_seen new → all_seen old ≡ all_seen new → (o : Option Bound) → IfSome o (IsBound old) → IfSome o (IsBound new)
bound_on old new left most all None is = tt
bound_on old new left most all (Some b) (few, is, in_all) = (subst (λ (l : ℕ). l ≤ b.left) left few, sym most ∙ is, subst (λ (l : ℕ). l ≤ b.all) all in_all)

module _ (old new : Seen) where
  abbrev of_turn : Option Entry → Move
  of_turn e = record { entry = e; behind = moment_seen new }

  -- what a turn owes and pays, by its entry
  module _ (k : Cursor) (at : IsAt old k) (paid : PaysSince k.picked old.desk new.desk new.hand old.device new.device new.clock) where
    abbrev IsPaidBy : Option Entry → Type 0
    IsPaidBy e = IsPaidAt old.desk.config (worn_so_far new.device new.clock) k (of_turn e)

    faults : k.now.faults ≡ faults_of old.device
    faults = ap (λ (m : Moment). m.faults) at.now

    priced : (e : Entry) → new.desk.entries ≡ old.desk.entries ++ e ∷ [] → IsPaidBy (Some e)
    priced e is = subst (λ (s : State). IsPaidSince old.desk.config (worn_so_far new.device new.clock) k.picked s (of_turn (Some e))) (sym at.state) (elim (paid.pays e is) [
      | inl counted ↦ inl (nothing_more (price_in_faults old.desk.config (state_of old.desk) e) k.picked (faults_of new.device) counted)
      | inr excused ↦ inr excused
    ])

    by_entry : (e : Option Entry) → new.desk.entries ≡ old.desk.entries ++ entry_list e → IsPaidBy e × Owes (if is_picked e then k.now.faults else k.picked) new
    by_entry None is = (inl (inl (let less = paid.owes.0 in omega (arith, less))), paid.owes)
    by_entry (Some (Pick block kind t ops)) is = (priced (Pick block kind t ops) is, subst (λ (n : ℕ). Owes n new) (sym faults) (paid.anew block ops kind t is))
    by_entry (Some (Ask caller r reply)) is = (priced (Ask caller r reply) is, paid.owes)
    by_entry (Some (Wrote i mark ops)) is = (priced (Wrote i mark ops) is, paid.owes)
    by_entry (Some (Post block r given refused ops)) is = (priced (Post block r given refused ops) is, paid.owes)
    by_entry (Some (Off ops)) is = (priced (Off ops) is, paid.owes)
    by_entry (Some (Found marks ops)) is = (priced (Found marks ops) is, paid.owes)

  -- THE TURNS THAT ARE LEFT
  module _ (within : Bool) (is : IsTurnTold old new) (k : Cursor) (at : IsAt old k) where
    abbrev f : Frame
    f = frame_of within old

    abbrev next : State
    next = after_from old.desk.config k.state (entry_list is.entry)

    leaves_by : is_picked is.entry ≡ false → next.off ≡ false → is_none next.hand ≡ false → next ≡ state_of new.desk → LeavesTurns (most_seen old) (left_seen old) (all_seen old) (Rose (faults_of old.device) (faults_of new.device) → ⊥) new
    leaves_by picked on held behind = is.leaves picked (ap (λ (s : State). s.off) (sym behind) ∙ on) (ap (λ (s : State). is_none s.hand) (sym behind) ∙ held)

    calm_by : has_risen k.now.faults (faults_of new.device) ≡ false → Rose (faults_of old.device) (faults_of new.device) → ⊥
    calm_by none rose = let no_ : true ≡ false = sym (risen (faults_of old.device) (faults_of new.device) rose) ∙ ap (λ (m : Moment). has_risen m.faults (faults_of new.device)) (sym at.now) ∙ none in cc no_

    left_on : next ≡ state_of new.desk → IfSome (left_behind f k (of_turn is.entry)) (IsBound new)
    left_on behind = rw (is.turns.0, is.turns.1) (elim (cases_Bool (is_picked is.entry)) [
      | inl picked ↦ rw picked (by_most next.hand refl (is.most picked))
      | inr other ↦ rw other (elim (cases_Bool (next.off || is_none next.hand)) [
        | inl drops ↦ rw drops tt
        | inr goes ↦ rw goes (elim (cases_Bool (has_risen k.now.faults (faults_of new.device))) [
          | inl risen ↦ rw risen (by_fault k.left at.left goes other)
          | inr calm ↦ rw calm (by_left k.left at.left calm goes other)
        ])
      ])
    ])
      where
        by_most : (o : Option Job) → next.hand ≡ o → IfSome (state_of new.desk).hand (λ j. IsBound new (bound_of f (state_of new.desk) j)) → IfSome (option_map (bound_of f next) o) (IsBound new)
        by_most None is_none_ most = tt
        by_most (Some j) here most =
            subst (λ (s : State). IsBound new (bound_of f s j)) (sym behind)
            (subst (λ (o : Option Job). IfSome o (λ x. IsBound new (bound_of f (state_of new.desk) x))) (ap (λ (s : State). s.hand) (sym behind) ∙ here) most)

        -- a job that stays in hand has the most that it had
        held_by : (b : Bound) → IsBound old b → (next.off || is_none next.hand) ≡ false → is_picked is.entry ≡ false → IsBound new (renewed b)
        held_by b low goes other =
            let (on, held) = or_parts next.off (is_none next.hand) goes in
            let leaves = leaves_by other on held behind in
            let same : leaves.most ≡ b.most = some_same leaves.most b.most (sym leaves.was ∙ low.1) in
            let few = leaves.within in
            let fewer = leaves.in_all in
            let all = low.2 in
            (omega (arith, few, same), leaves.is ∙ ap (λ (m : ℕ). Some m) same, omega (arith, fewer, all))

        by_fault : (o : Option Bound) → IfSome o (IsBound old) → (next.off || is_none next.hand) ≡ false → is_picked is.entry ≡ false → IfSome (option_map renewed o) (IsBound new)
        by_fault None low goes other = tt
        by_fault (Some b) low goes other = held_by b low goes other

        by_left : (o : Option Bound) → IfSome o (IsBound old) → has_risen k.now.faults (faults_of new.device) ≡ false → (next.off || is_none next.hand) ≡ false → is_picked is.entry ≡ false → IfSome (option_map one_less o) (IsBound new)
        by_left None low none goes other = tt
        by_left (Some b) low none goes other =
            let (on, held) = or_parts next.off (is_none next.hand) goes in
            let less = (leaves_by other on held behind).fewer (calm_by none) in
            let few = low.0 in let held_then = held_by b low goes other in (omega (arith, less, few), held_then.1, held_then.2)

    posts_by : next ≡ state_of new.desk → (o : Option Bound) → IfSome o (IsBound old) → IfSome o (λ b. is_asked is.entry ≡ false → is_found is.entry ≡ false → is_picked is.entry ≡ false
        → next.off ≡ false → is_none next.hand ≡ false → (1 < b.all) × (has_risen k.now.faults (faults_of new.device) ≡ false → 1 < b.left))
    posts_by behind None low = tt
    posts_by behind (Some b) low = λ asked found picked on held.
        let leaves = leaves_by picked on held behind in
        let some = leaves.some in
        let fell = leaves.in_all in
        let all = low.2 in (omega (arith, some.1, fell, all), λ none. let less = leaves.fewer (calm_by none) in let most = low.0 in omega (arith, some.0, less, most))

  -- it is one move
  pub turn_moved : (within : Bool) → IsTurnTold old new → HasMoved within old new
  turn_moved within is =
      let c = old.desk.config in
      let m = of_turn is.entry in
      record {
        moves = m ∷ [];
        tell = grows old.desk new.desk (entry_list is.entry ++ []) (is.adds ∙ ap (with_entries old.desk) (sym (append-nil (entry_list is.entry))));
        fixed = is.fixed;
        lasts = is.lasts;
        stays = is.stays;
        lawful = λ k at.
            let ops = ap (λ (n : Moment). n.ops) at.now in
            let faults = ap (λ (n : Moment). n.faults) at.now in
            let more = is.lasts.ops in
            let counted = is.counted in
            let one = is.one in
            let behind : after_from c k.state (entry_list is.entry) ≡ state_of new.desk =
            ap (λ (s : State). after_from c s (entry_list is.entry)) at.state ∙ sym (histories_go_on c at_first old.desk.entries (entry_list is.entry)) ∙ ap (λ (d : DeskState). state_of d) (sym is.adds) in (
              (
                record {
                  made = inr (record { faults = omega (arith, counted, faults); ops = omega (arith, more, ops); one = omega (arith, one, ops); told = is.told });
                  failed = record {
                    later = omega (arith, more, ops);
                    own = λ o since before was.
                        subst (λ (n : ℕ). Rose n (faults_of new.device)) (sym faults)
                        (part_rises old.device new.device is.lasts.faults.0 is.lasts.faults.1 (is.lasts.failed o (omega (arith, since, ops)) before was));
                  };
                  kept = λ o since before was. subst (HasImmediate c) (sym at.state) (has_immediate c (state_of old.desk) (is.kept o (omega (arith, since, ops)) before was));
                  rests = λ rest idle asked found.
                      let still = is.rests (subst (λ (s : State). IsTrue (is_at_rest s)) at.state rest) (ap (λ (n : Moment). n.busy) (sym at.now) ∙ idle) in (still.0, still.1 ∙ sym at.now);
                  begins = λ asked found.
                      let (s, from, due) = is.begins in (
                        s,
                        elim from [
                          | inl (b, begun, same) ↦ subst (λ (t : State). Among t k.since) same (subst (λ (o : Option Begun). IfSome o (λ x. Among x.state k.since)) begun at.begun)
                          | inr here ↦ subst (λ (t : State). Among t k.since) here at.here
                        ],
                        due,
                      );
                  fits = subst (λ (t : State). FitsHand t is.entry) (sym at.state) is.fits;
                  posts = posts_by within is k at behind k.left at.left;
                },
                tt,
              ),
              record { now = refl; state = behind; here = inl behind; begun = subst (λ (o : Option Begun). IfSome o (λ b. Among b.state (next_by (frame_of within old) k m).since)) (sym is.ended) tt; left = left_on within is k at behind },
            );
        uncut = is.uncut;
        servable = λ since s. subst (λ (n : ℕ). IsServable n new) (not_found (is_found is.entry) new.device.ops since is.turns.1)
            (record { uncut = is.uncut s.uncut; blocks = blocks_on old new is.fixed (ap (λ (d : DeskState). d.config) is.adds) s.blocks; sealed = is.seals since s.sealed });
        served = λ since s. record { dues = is.dues s.uncut; urgent = (λ such id urgent room. absurd (asks_urgent c (state_of old.desk) is.entry id is.turns.0 urgent), tt) };
        work = λ uncut simple. let (b, worked) = is.work uncut simple in
            one_worked (costs_in old.device.fixed) (HadPages new.clock) (worn_so_far new.device new.clock) c (moment_seen old) (state_of old.desk) (work_seen old) m (record { begins = b; behind = work_seen new }) worked;
        paid = λ tells before kept k at owes.
            let by = by_entry k at (is.pays before k.picked (is.all before kept (is.stays.told tells)) owes) is.entry (ap (λ (d : DeskState). d.entries) is.adds) in ((by.0, tt), by.1);
      }

  pub turn_moves : (within : Bool) (is : IsTurnTold old new) → MovesBy within (of_turn is.entry ∷ []) old new
  unfolding turn_moved
  turn_moves within is = record { moved = turn_moved within is; are = refl }

true_false : {t : Bool} → t ≡ true → t ≡ false → ⊥
true_false {t} on off = let P : true ≡ false = sym on ∙ off in cc P

-- requests, one by one
asks_told : (now : Moment) (es : List Entry) → entries_of (asked_moves now es) ≡ es
asks_told now [] = refl
asks_told now (e ∷ es) = ap (λ (xs : List Entry). e ∷ xs) (asks_told now es)

asks_behind : (now : Moment) (es : List Entry) → moment_behind now (asked_moves now es) ≡ now
asks_behind now [] = refl
asks_behind now (e ∷ es) = asks_behind now es

no_pick : (e : Entry) → is_asked (Some e) ≡ true → is_picked (Some e) ≡ false
no_pick (Pick block kind t ops) is = absurd (let P : false ≡ true = is in cc P)
no_pick e is = refl

asked_price : (c : Configuration) (s : State) (e : Entry) → is_asked (Some e) ≡ true → price_in_faults c s e ≡ 0
asked_price c s (Ask caller r reply) is = refl
asked_price c s e is = absurd (let P : false ≡ true = is in cc P)

ask_fits : (s : State) (e : Entry) → is_asked (Some e) ≡ true → FitsHand s (Some e)
ask_fits s (Pick block kind t ops) is = absurd (let P : false ≡ true = is in cc P)
ask_fits s (Post block r given refused ops) is = absurd (let P : false ≡ true = is in cc P)
ask_fits s e is = tt

asks_found : (now : Moment) (since : ℕ) (es : List Entry) → AreAsked es → since ≡ found_behind since (asked_moves now es)
asks_found now since [] are = refl
asks_found now since (Ask caller r reply ∷ es) are = asks_found now since es are.1
asks_found now since (e ∷ es) are = absurd (let P : false ≡ true = are.0 in cc P)

all_some : {A : Type 0} {P : A → Type 0} (o : Option A) → ((x : A) → P x) → IfSome o P
all_some None all = tt
all_some (Some x) all = all x

module _ (f : Frame) where
  abbrev c : Configuration
  c = f.config

  asks_left : (now : Moment) (k : Cursor) (es : List Entry) → AreAsked es → (cursor_behind f k (asked_moves now es)).left ≡ k.left
  asks_left now k [] are = refl
  asks_left now k (e ∷ es) (one, rest) = asks_left now (next_by f k (record { entry = Some e; behind = now })) es rest ∙ rw one refl

  asks_lawful : (clock : Clock) (now : Moment) (k : Cursor) (es : List Entry) → AreAsked es → k.now ≡ now → Along f (IsLawful c clock) k (asked_moves now es)
  asks_lawful clock now k [] are is = tt
  asks_lawful clock now k (e ∷ es) (one, rest) is =
      let ops : k.now.ops ≡ now.ops = ap (λ (m : Moment). m.ops) is in (
        record {
          made = inl (one, sym is);
          failed = record { later = omega (arith, ops); own = λ o since before was. absurd (omega (arith, ops, since, before)) };
          kept = λ o since before was. absurd (omega (arith, ops, since, before));
          rests = λ at_rest idle asked found. absurd (true_false one asked);
          begins = λ asked found. absurd (true_false one asked);
          fits = ask_fits k.state e one;
          posts = all_some k.left (λ n asked. absurd (true_false one asked));
        },
        asks_lawful clock now (next_by f k (record { entry = Some e; behind = now })) es rest refl,
      )

  -- the states since the last turn are kept, where requests come within one
  asks_since : f.within ≡ true → (now : Moment) (k : Cursor) (es : List Entry) → AreAsked es → (s : State) → Among s k.since → Among s (cursor_behind f k (asked_moves now es)).since
  asks_since within now k [] are s among = among
  asks_since within now k (e ∷ es) (one, rest) s among =
      let both : (is_asked (Some e) && f.within) ≡ true = ap (λ (b : Bool). b && f.within) one ∙ within in
      asks_since within now (next_by f k (record { entry = Some e; behind = now })) es rest s (inr (subst (λ (b : Bool). Among s (if b then k.since else [])) (sym both) among))

  asks_here : (now : Moment) (k : Cursor) (es : List Entry) → AreAsked es → Among k.state k.since → Among (cursor_behind f k (asked_moves now es)).state (cursor_behind f k (asked_moves now es)).since
  asks_here now k [] are here = here
  asks_here now k (e ∷ es) (one, rest) here = asks_here now (next_by f k (record { entry = Some e; behind = now })) es rest (inl refl)

  asks_paid : (worn : Worn) (now : Moment) (k : Cursor) (es : List Entry) → AreAsked es → k.picked ≤ now.faults
      → Along f (IsPaidAt c worn) k (asked_moves now es) × ((cursor_behind f k (asked_moves now es)).picked ≡ k.picked)
  asks_paid worn now k [] are less = (tt, refl)
  asks_paid worn now k (e ∷ es) (one, rest) less =
      let same : (if is_picked (Some e) then k.now.faults else k.picked) ≡ k.picked = rw (no_pick e one) refl in
      let more = asks_paid worn now (next_by f k (record { entry = Some e; behind = now })) es rest (omega (arith, less, same)) in
      let price = asked_price c k.state e one in
      ((inl (inl (omega (arith, less, price))), more.0), more.1 ∙ same)

module _ (c : Configuration) where
  asks_urgency : (h : List Entry) (es : List Entry) → AreAsked es → is_hand_urgent c (after c h) ≡ is_hand_urgent c (after c (h ++ es))
  asks_urgency h [] are = ap (λ (l : List Entry). is_hand_urgent c (after c l)) (sym (append-nil h))
  asks_urgency h (Ask caller r reply ∷ es) (one, rest) =
      asked_urgency c h caller r reply ∙ asks_urgency (h ++ Ask caller r reply ∷ []) es rest ∙ ap (λ (l : List Entry). is_hand_urgent c (after c l)) (append_assoc h (Ask caller r reply ∷ []) es)
  asks_urgency h es (one, rest) = absurd (let P : false ≡ true = one in cc P)

begun_on : (f : Frame) (now : Moment) (k : Cursor) (es : List Entry) → AreAsked es → (o : Option Begun) → IfSome o (λ b. f.within ≡ true) → IfSome o (λ b. Among b.state k.since)
    → IfSome o (λ b. Among b.state (cursor_behind f k (asked_moves now es)).since)
begun_on f now k es are None within among = tt
begun_on f now k es are (Some b) within among = asks_since f within now k es are b.state among

few_beside : (within : Bool) → 4 ≤ turns_beside within
few_beside true = omega arith
few_beside false = omega arith

-- by what they make due
pub asks_moved_by : (within : Bool) (asks : List Entry) (old new : Seen) → AreAsksMade asks old new → IfSome old.begun (λ b. within ≡ true)
    → ((since : ℕ) → IsServable since old
    → AreServed (OfFirst old.device.fixed) (turns_beside within) old.desk.config (pages_in old.device.fixed old.desk.config) (MayGoOnAsTold new.clock old.device.fixed.reserve) (DueAt old) (due_by old.begun old.hand old.device (with_entries old.desk asks)) since (moment_seen old) (state_of old.desk)
    (asked_moves (moment_seen old) asks)) → HasMoved within old new
asks_moved_by within asks old new is in_turn serves =
    let c = old.desk.config in
    let f = frame_of within old in
    let now = moment_seen old in
    let same : now ≡ moment_seen new = rw (is.begun, is.device) refl in
    let same_left : left_seen old ≡ left_seen new = rw (is.begun, is.hand, is.device) refl in
    let same_most : most_seen old ≡ most_seen new = rw (is.begun, is.hand, is.device) refl in
    let same_all : all_seen old ≡ all_seen new = rw (is.begun, is.hand, is.device) refl in
    let same_work : work_seen old ≡ work_seen new = rw (is.begun, is.hand, is.device) refl in
    let as_many : faults_of new.device ≡ faults_of old.device = ap faults_of is.device in
    let fixed : new.device.fixed ≡ old.device.fixed = ap (λ (d : DeviceTold). d.fixed) is.device in
    record {
      moves = asked_moves now asks;
      tell = grows old.desk new.desk (entries_of (asked_moves now asks)) (is.adds ∙ ap (with_entries old.desk) (sym (asks_told now asks)));
      fixed = fixed;
      lasts = is.lasts;
      stays = is.stays;
      uncut = is.uncut;
      servable = λ since s. subst (λ (n : ℕ). IsServable n new) (asks_found now since asks is.are) (record { uncut = is.uncut s.uncut; blocks = blocks_on old new fixed (ap (λ (d : DeskState). d.config) is.adds) s.blocks; sealed = is.seals since s.sealed });
      served = λ since s.
          served_as (OfFirst old.device.fixed) (turns_beside within) c (pages_in old.device.fixed c) (MayGoOnAsTold new.clock old.device.fixed.reserve) (DueAt old) (DueAt old) (due_by old.begun old.hand old.device (with_entries old.desk asks)) (DueAt new) since now (state_of old.desk) (asked_moves now asks)
          (λ one id turns due. due) (λ one id turns due. rw (is.begun, is.hand, is.device, is.adds) due) (serves since s);
      work = λ uncut simple. subst (λ (w : Work). KeepToWork (worn_so_far new.device new.clock) new.clock old w (asked_moves now asks)) same_work
          (asks_worked (costs_in old.device.fixed) (HadPages new.clock) (worn_so_far new.device new.clock) c now (state_of old.desk) (work_seen old) asks is.are);
      lawful = λ k at.
          let state : (cursor_behind f k (asked_moves now asks)).state ≡ state_of new.desk =
          cursor_state f k (asked_moves now asks) ∙ ap (after_from c k.state) (asks_told now asks) ∙ ap (λ (s : State). after_from c s asks) at.state ∙ sym (histories_go_on c at_first old.desk.entries asks) ∙ ap (λ (d : DeskState). state_of d) (sym is.adds) in (
            asks_lawful f new.clock now k asks is.are at.now,
            record {
              now = cursor_now f k (asked_moves now asks) ∙ ap (λ (m : Moment). moment_behind m (asked_moves now asks)) at.now ∙ asks_behind now asks ∙ same;
              state = state;
              here = subst (λ (s : State). Among s (cursor_behind f k (asked_moves now asks)).since) state (asks_here f now k asks is.are (subst (λ (s : State). Among s k.since) (sym at.state) at.here));
              begun = subst (λ (o : Option Begun). IfSome o (λ b. Among b.state (cursor_behind f k (asked_moves now asks)).since)) (sym is.begun) (begun_on f now k asks is.are old.begun in_turn at.begun);
              left = subst (λ (o : Option Bound). IfSome o (IsBound new)) (sym (asks_left f now k asks is.are)) (bound_on old new same_left same_most same_all k.left at.left);
            },
          );
      paid = λ tells before kept k at owes.
          let since = k.picked in
          let paid = asks_paid f (worn_so_far new.device new.clock) now k asks is.are (let less = owes.0 in omega (arith, less)) in
          let urgency : has_urgent old.desk ≡ has_urgent new.desk = asks_urgency c old.desk.entries asks is.are ∙ ap has_urgent (sym is.adds) in
          let on = since_stays c since (has_urgent old.desk) old.device old.clock new.device new.clock is.lasts.ops (omega (arith, as_many)) is.lasts.past.worn old.hand owes in (
            paid.0,
            subst (λ (n : ℕ). Owes n new) (sym paid.1)
                (subst (λ (b : Bool). OwesSince b since new.hand new.device new.clock) urgency (subst (λ (h : Option HandState). OwesSince (has_urgent old.desk) since h new.device new.clock) (sym is.hand) on)),
          );
    }

pub asks_moved : (within : Bool) (asks : List Entry) (old new : Seen) → AreAsksTold within asks old new → HasMoved within old new
asks_moved within asks old new is = asks_moved_by within asks old new is.made (in_turn old.begun is.pending) (λ since s. serves since s old.begun is.pending)
  where
    in_turn : (o : Option Begun) → ArePending within o old → IfSome o (λ b. within ≡ true)
    in_turn None pending = tt
    in_turn (Some b) pending = pending.0

    serves : (since : ℕ) → IsServable since old → (o : Option Begun) → ArePending within o old
        → AreServed (OfFirst old.device.fixed) (turns_beside within) old.desk.config (pages_in old.device.fixed old.desk.config) (MayGoOnAsTold new.clock old.device.fixed.reserve) (due_by o old.hand old.device old.desk) (due_by o old.hand old.device (with_entries old.desk asks)) since (moment_seen old) (state_of old.desk)
        (asked_moves (moment_seen old) asks)
    serves since s None pending =
        between_served old.hand old.device (turns_beside within) (MayGoOnAsTold new.clock old.device.fixed.reserve) since (moment_seen old) old.desk asks s.blocks is.replied is.tied.started
        (roomy since old.desk old.hand old.device new.device old.clock new.clock (is.on s.uncut) s.sealed is.order is.frees is.tied.paired is.tied.up is.made.lasts) (few_beside within) pending.0 pending.1
    serves since s (Some b) pending =
        within_served old.hand old.device (turns_beside within) (MayGoOnAsTold new.clock old.device.fixed.reserve) since (moment_seen old) old.desk asks s.blocks is.replied is.tied.started
        (roomy since old.desk old.hand old.device new.device old.clock new.clock (is.on s.uncut) s.sealed is.order is.frees is.tied.paired is.tied.up is.made.lasts) (subst (λ (b : Bool). 5 ≤ turns_beside b) (sym pending.0) (omega arith)) pending.1

-- one request
pub ask_moves : (within : Bool) (e : Entry) (old new : Seen) → AreAsksMade (e ∷ []) old new → IfSome old.begun (λ b. within ≡ true)
    → ((since : ℕ) → IsServable since old
    → AreServed (OfFirst old.device.fixed) (turns_beside within) old.desk.config (pages_in old.device.fixed old.desk.config) (MayGoOnAsTold new.clock old.device.fixed.reserve) (DueAt old) (due_by old.begun old.hand old.device (with_entries old.desk (e ∷ []))) since (moment_seen old) (state_of old.desk)
    (asked_moves (moment_seen old) (e ∷ []))) → MovesBy within (record { entry = Some e; behind = moment_seen old } ∷ []) old new
unfolding asks_moved_by
ask_moves within e old new is in_turn serves = record { moved = asks_moved_by within (e ∷ []) old new is in_turn serves; are = refl }

-- a half that goes to the device makes no move
pub half_moved : (within : Bool) (old new : Seen) → IsHalfTold old new → HasMoved within old new
half_moved within old new is =
    let faults : faults_of old.device ≡ faults_of new.device = ap faults_of (sym is.leaves) in
    let ops : old.device.ops ≡ new.device.ops = ap (λ (d : DeviceTold). d.ops) (sym is.leaves) in
    let fixed : new.device.fixed ≡ old.device.fixed = ap (λ (d : DeviceTold). d.fixed) is.leaves in
    let same : moment_seen old ≡ moment_seen new = rw (is.between, is.begun, faults, ops) refl in
    let same_left : left_seen old ≡ left_seen new = rw (is.between, is.begun) refl in
    let same_most : most_seen old ≡ most_seen new = rw (is.between, is.begun, fixed) refl in
    let same_all : all_seen old ≡ all_seen new = rw (is.between, is.begun) refl in
    let same_work : work_seen old ≡ work_seen new = rw (is.between, is.begun) refl in
    record {
      moves = [];
      tell = grows old.desk new.desk [] (is.desk ∙ none_more old.desk);
      fixed = fixed;
      lasts = half_lasts old.device new.device old.clock new.clock is.leaves is.clock;
      stays = is.on;
      uncut = is.uncut;
      servable = λ since s. record { uncut = is.uncut s.uncut; blocks = blocks_on old new fixed (ap (λ (d : DeskState). d.config) is.desk) s.blocks; sealed = is.seals since s.sealed };
      served = λ since s. record { dues = is.dues; urgent = tt };
      work = λ uncut simple. subst (λ (w : Work). KeepToWork (worn_so_far new.device new.clock) new.clock old w []) same_work
          (none_worked (costs_in old.device.fixed) (HadPages new.clock) (worn_so_far new.device new.clock) old.desk.config (moment_seen old) (state_of old.desk) (work_seen old));
      lawful = λ k at. (
        tt,
        record {
          now = at.now ∙ same;
          state = at.state ∙ ap (λ (d : DeskState). state_of d) (sym is.desk);
          here = subst (λ (d : DeskState). Among (state_of d) k.since) (sym is.desk) at.here;
          begun = subst (λ (o : Option Begun). IfSome o (λ b. Among b.state k.since)) (sym is.begun) at.here;
          left = bound_on old new same_left same_most same_all k.left at.left;
        },
      );
      paid = λ tells before kept k at owes. (
        tt,
        subst (λ (x : DeskState). OwesSince (has_urgent x) k.picked new.hand new.device new.clock) (sym is.desk)
            (half_goes k.picked old.desk new.desk old.hand new.hand old.device new.device old.clock new.clock is.leaves is.clock is.paired is.stays before (is.all before kept (is.on.told tells)) owes old.hand refl is.goes),
      );
    }

-- A START-UP
no_ask_found : (e : Entry) → is_found (Some e) ≡ true → (is_asked (Some e) ≡ false) × (is_picked (Some e) ≡ false)
no_ask_found (Found marks ops) is = (refl, refl)
no_ask_found e is = absurd (cc is)

found_fits : (s : State) (e : Entry) → is_found (Some e) ≡ true → FitsHand s (Some e)
found_fits s (Found marks ops) is = tt
found_fits s e is = absurd (cc is)

found_price : (c : Configuration) (s : State) (e : Entry) → is_found (Some e) ≡ true → price_in_faults c s e ≡ 0
found_price c s (Found marks ops) is = refl
found_price c s e is = absurd (cc is)

pub start_moved : (within : Bool) (old new : Seen) → IsStartTold old new → HasMoved within old new
start_moved within old new is =
    let c = old.desk.config in
    let f = frame_of within old in
    let m : Move = record { entry = Some is.entry; behind = moment_seen new } in
    let not_ = no_ask_found is.entry is.found in
    let same = is.ops in
    let counted = is.counted in
    record {
      moves = m ∷ [];
      tell = is.adds;
      fixed = is.fixed;
      lasts = is.lasts;
      stays = is.stays;
      uncut = is.uncut;
      servable = λ since s. subst (λ (n : ℕ). IsServable n new) (was_found (is_found (Some is.entry)) new.device.ops since is.found)
          (record { uncut = is.uncut s.uncut; blocks = blocks_on old new is.fixed (ap (λ (d : DeskState). d.config) is.adds) s.blocks; sealed = λ on o late at few was. absurd (omega (arith, late, at)) });
      served = λ since s. record { dues = λ one id turns due. inl is.found; urgent = (λ such id urgent room. absurd (asks_urgent c (state_of old.desk) (Some is.entry) id not_.0 urgent), tt) };
      work = λ uncut simple. let (b, worked) = is.work uncut simple in
          one_worked (costs_in old.device.fixed) (HadPages new.clock) (worn_so_far new.device new.clock) c (moment_seen old) (state_of old.desk) (work_seen old) m (record { begins = b; behind = work_seen new }) worked;
      lawful = λ k at.
          let ops = ap (λ (n : Moment). n.ops) at.now in
          let faults = ap (λ (n : Moment). n.faults) at.now in
          let behind : after_from c k.state (is.entry ∷ []) ≡ state_of new.desk =
          ap (λ (s : State). after_from c s (is.entry ∷ [])) at.state ∙ sym (histories_go_on c at_first old.desk.entries (is.entry ∷ [])) ∙ ap (λ (d : DeskState). state_of d) (sym is.adds) in (
            (
              record {
                made = inr (record { faults = omega (arith, counted, faults); ops = omega (arith, same, ops); one = omega (arith, same, ops); told = is.told });
                failed = record { later = omega (arith, same, ops); own = λ o since before was. absurd (omega (arith, same, ops, since, before)) };
                kept = λ o since before was. absurd (omega (arith, same, ops, since, before));
                rests = λ rest idle asked found. absurd (true_false is.found found);
                begins = λ asked found. absurd (true_false is.found found);
                fits = found_fits k.state is.entry is.found;
                posts = all_some k.left (λ n asked found. absurd (true_false is.found found));
              },
              tt,
            ),
            record {
              now = refl;
              state = behind;
              here = inl behind;
              begun = subst (λ (o : Option Begun). IfSome o (λ b. Among b.state (next_by f k m).since)) (sym is.begun) tt;
              left = rw (not_.0, is.found) tt;
            },
          );
      paid = λ tells before kept k at owes.
          let less = owes.0 in
          let price = found_price c k.state is.entry is.found in (
            (inl (inl (omega (arith, less, counted, price))), tt),
            subst (λ (n : ℕ). Owes n new) (sym (picked_stays k m not_.1))
                (subst (λ (h : Option HandState). OwesSince (has_urgent new.desk) k.picked h new.device new.clock) (sym is.hand) (omega (arith, less, counted), tt)),
          );
    }
  where
    picked_stays : (k : Cursor) (m : Move) → is_picked m.entry ≡ false → (if is_picked m.entry then k.now.faults else k.picked) ≡ k.picked
    picked_stays k m none = rw none refl

pub start_moves : (within : Bool) (old new : Seen) (is : IsStartTold old new) → MovesBy within (record { entry = Some is.entry; behind = moment_seen new } ∷ []) old new
unfolding start_moved
start_moves within old new is = record { moved = start_moved within old new is; are = refl }

-- NOTHING
pub still_moved : (within : Bool) (old new : Seen) → IsStillTold old new → HasMoved within old new
still_moved within old new is =
    let same_most : most_seen old ≡ most_seen new = rw (is.begun, is.hand, is.fixed) refl in
    let urgent : has_urgent old.desk ≡ has_urgent new.desk = ap has_urgent (sym is.desk) in
    let faults : faults_of new.device ≡ faults_of old.device = ap (λ (m : Moment). m.faults) is.moment in
    record {
      moves = [];
      tell = grows old.desk new.desk [] (is.desk ∙ none_more old.desk);
      fixed = is.fixed;
      lasts = is.lasts;
      stays = is.stays;
      uncut = is.uncut;
      servable = λ since s. record { uncut = is.uncut s.uncut; blocks = blocks_on old new is.fixed (ap (λ (d : DeskState). d.config) is.desk) s.blocks; sealed = is.seals since s.sealed };
      served = λ since s. record { dues = is.dues; urgent = tt };
      work = λ uncut simple. subst (λ (w : Work). KeepToWork (worn_so_far new.device new.clock) new.clock old w []) (sym is.work)
          (none_worked (costs_in old.device.fixed) (HadPages new.clock) (worn_so_far new.device new.clock) old.desk.config (moment_seen old) (state_of old.desk) (work_seen old));
      lawful = λ k at. (
        tt,
        record {
          now = at.now ∙ sym is.moment;
          state = at.state ∙ ap (λ (d : DeskState). state_of d) (sym is.desk);
          here = subst (λ (d : DeskState). Among (state_of d) k.since) (sym is.desk) at.here;
          begun = subst (λ (o : Option Begun). IfSome o (λ b. Among b.state k.since)) (sym is.begun) at.begun;
          left = bound_on old new (sym is.left) same_most (sym is.in_all) k.left at.left;
        },
      );
      paid = λ tells before kept k at owes.
          let on = since_stays old.desk.config k.picked (has_urgent old.desk) old.device old.clock new.device new.clock is.lasts.ops (omega (arith, faults)) is.lasts.past.worn old.hand owes in
          (tt, subst (λ (b : Bool). OwesSince b k.picked new.hand new.device new.clock) urgent (subst (λ (h : Option HandState). OwesSince (has_urgent old.desk) k.picked h new.device new.clock) (sym is.hand) on));
    }

pub still_moves : (within : Bool) (old new : Seen) → IsStillTold old new → MovesBy within [] old new
unfolding still_moved
still_moves within old new is = record { moved = still_moved within old new is; are = refl }

-- but what is kept
pub kept_moves : (within : Bool) (s : Seen) (kept : (Part → PartTold) → Type 0) → ((before : Part → PartTold) → s.kept before → kept before) → MovesBy within [] s (record s { kept = kept })
kept_moves within s kept stays =
    still_moves within s (record s { kept = kept }) (record {
      desk = refl;
      hand = refl;
      begun = refl;
      moment = refl;
      left = refl;
      in_all = refl;
      work = refl;
      fixed = refl;
      lasts = same_told s.device s.clock s.device s.clock refl (same_clock s.clock);
      stays = record { told = λ tells. tells; kept = stays };
      uncut = λ uncut. uncut;
      seals = λ since sealed. sealed;
      dues = λ one id turns due. due;
    })

pub none_moves : (within : Bool) (s : Seen) → MovesBy within [] s s
none_moves within s = kept_moves within s s.kept (λ before kept. kept)
