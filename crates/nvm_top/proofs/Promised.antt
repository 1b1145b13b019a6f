-- A run of `play` keeps the promise, by the course of its steps and by what its stack vouches for.
use Rattle.std.specs.Prelude.{OnOk, IfErr, take, true, false}
use Rattle.std.proofs.Common.{◌≡◌, ◌≤◌, ℕ, List, [], ◌∷◌, ◌++◌, Option, Some, None, Result, Ok, Err, refl, sym, ap, ◌∙◌, subst, inl, inr, arith, append-nil}
use Rattle.nvm_lines.specs.nv_streams.Sink.{Written}
use Rattle.nvm_flash.specs.nv_base.Count.{Rose, WereCounted}
use Rattle.nvm_flash.specs.nv_base.Geometry.{size_of}
use Rattle.nvm_flash.specs.block_config.Config.{Configuration}
use Rattle.nvm_flash.specs.block_config.Rules.{IsLegalConfig}
use Rattle.nvm_flash.specs.memif.Told.{DeviceTold, PartTold, faults_of}
use Rattle.nvm_flash.specs.fls_model.Told.{Told, Change}
use Rattle.nvm_flash.specs.promise_device.FlashRun.{FlashRun}
use Rattle.script_player.specs.script_walks.Words.{Step}
use Rattle.script_player.specs.script_walks.Walk.{IsWalkOf}
use Rattle.nvm_flash.specs.block_machine.Words.{Entry, Found}
use Rattle.nvm_flash.specs.block_machine.State.{State}
use Rattle.nvm_flash.specs.block_machine.Steps.{after}
use Rattle.nvm_flash.specs.promise_run.Beside.{Beside}
use Rattle.nvm_flash.specs.promise_run.Run.{Run, Course, Played, End, Whole, FlashFault, cap, FaultWasCounted, HasOrder, LeavesFor, EachPiece, HasNoRoom, HadRoom, CutsAre, CutsExplain, events_of}
use Rattle.nvm_flash.specs.promise_run.Refusals.{RefusesAsAsked}
use Rattle.nvm_flash.specs.promise_run.Run.{Memory}
use Rattle.nvm_flash.specs.promise_run.Promise.{making_of}
use Rattle.nvm_script.specs.declared.script.Mode.TheVariants as mode
use Rattle.nvm_top.specs.Play.{IsRightSize}
use Rattle.nvm_flash.specs.promise_run.Turns.{Moment, FindWorkAtDrains, all_moves, entries_of, CutsCome}
use Rattle.nvm_flash.specs.promise_run.DeviceTurns.{HasMovesTo}
use Rattle.nvm_flash.proofs.DeviceTurns.{keeps_turns}
use Rattle.nvm_flash.specs.promise_run.BankTurns.{BeginsUnused}
use Rattle.nvm_flash.proofs.BankTurns.{starts_sound, erases_have_causes}
use Rattle.nvm_flash.proofs.CalmPosts.{calm_posts}
use Rattle.nvm_flash.proofs.Counted.{all_behind}
use Rattle.nvm_flash.specs.promise_device.Bridge.{IsWornOut}
use Rattle.nvm_callers.specs.nvm_moves.Beginning.{BeginsMoves}
use Rattle.nvm_callers.specs.nvm_moves.Seen.{Seen, moment_seen}
use Rattle.script_player.specs.Told.{StackTold, moment_of}
use Rattle.script_player.specs.Made as steps
use Rattle.script_player.specs.Made.{HasWalked, WereLeft, WasBroken}
use Rattle.script_player.specs.declared.steps.StepFault.{StepFault}
use Rattle.script_player.specs.declared.steps.StepFault.TheVariants as fault
use Rattle.nvm_lines.specs.declared.status.Status.{Status}
use Rattle.nvm_lines.specs.declared.status.Status.TheVariants as status
use Rattle.nvm_top.specs.declared.runs.RunText.{RunText}
use Rattle.nvm_top.specs.declared.runs.RunText.TheVariants.{History, Summary}
use Rattle.nvm_lines.specs.declared.stop.Stop.{Stop}
use Rattle.nvm_top.specs.Stack.{AreToldOf, IsStarted, Vouches, run_of}
use Rattle.nvm_top.specs.Promised.{call_by, HasRun, WritesText, EndsIn, entries_in, lines_in}
use Rattle.nvm_top.specs.Runs as ends
use Rattle.nvm_top.proofs.PlayLemmas.{Rose-after}
use Rattle.nvm_top.proofs.Complete.{walked_complete}
use Rattle.nvm_top.proofs.EndsTold.{status_at, ends_told}

-- a fact on the state behind a whole history, by the configuration and the cap of the first moment
behind_all : (P : Configuration → ℕ → State → Type 0) (c : Configuration) (most : ℕ) (h : List Entry) (old t : StackTold) → old.configuration ≡ c → old.cap ≡ most → t.entries ≡ h → P old.configuration old.cap (after old.configuration t.entries) → P c most (after c h)
behind_all P c most h old t same of entries is =
    subst (λ (es : List Entry). P c most (after c es)) entries
    (subst (λ (n : ℕ). P c n (after c t.entries)) of
    (subst (λ (d : Configuration). P d old.cap (after d t.entries)) same is))

-- a fault of the first flash is one of a flash
counted_first : (f : FlashRun) (b : Option Beside) → Rose f.entry.faults f.exit.faults → FaultWasCounted f b
counted_first f None rose = rose
counted_first f (Some b) rose = inl rose

-- why the steps behind are left
left_for : (why : StepFault) (left : List Step) (r : Run) (before : PartTold) (last : Moment) (old t : StackTold) → old.configuration ≡ r.configuration → old.cap ≡ r.most → t.entries ≡ r.history → before.faults ≤ last.faults
    → (Rose before.faults t.faults → Rose r.flash.entry.faults r.flash.exit.faults) → WereLeft why left last old t → LeavesFor r (after r.configuration r.history) (ends.end_of why) left
left_for fault.Flash (x ∷ xs) r before last old t same most entries less faults is = (
  is.0,
  counted_first r.flash r.beside (faults (Rose-after before.faults last.faults t.faults less is.1)),
  behind_all (λ c n s. ¬ HasNoRoom c n s x.kind) r.configuration r.most r.history old t same most entries is.2,
)
left_for fault.HistoryFull (x ∷ xs) r before last old t same most entries less faults is =
    behind_all (λ c n s. HasNoRoom c n s x.kind) r.configuration r.most r.history old t same most entries is
left_for fault.Memory xs r before last old t same most entries less faults is = tt
left_for fault.Flash [] r before last old t same most entries less faults is = absurd is
left_for fault.HistoryFull [] r before last old t same most entries less faults is = absurd is

-- and where a start-up failed it counted one fault more
risen_by : (why : StepFault) (left : List Step) (last : Moment) (old t : StackTold) → WereLeft why left last old t → ends.end_of why ≡ FlashFault → Rose last.faults t.faults
risen_by fault.Flash (x ∷ xs) last old t is fails = is.1
risen_by fault.Flash [] last old t is fails = absurd is
risen_by fault.HistoryFull left last old t is fails = absurd (cc fails)
risen_by fault.Memory left last old t is fails = absurd (cc fails)

-- the history of steps that were made is one of a run
ordered : {p q : Seen} (made left : List Step) (end : End) (old t : StackTold) (entry exit : Told) (operations : List Change) (fresh : steps.IsFresh old) (walked : HasWalked p q made old t) → t.configuration ≡ old.configuration → old.cap ≡ cap
    → LeavesFor (run_of t.configuration t.entries entry exit operations t.causes.came (Played made walked.pieces left) end) (after t.configuration t.entries) end left
    → HasOrder (run_of t.configuration t.entries entry exit operations t.causes.came (Played made walked.pieces left) end) t.entries
ordered made left end old t entry exit operations fresh walked same most leaves =
    let is : t.entries ≡ Found fresh.marks fresh.ops ∷ walked.more = walked.grows ∙ ap (λ (h : List Entry). h ++ walked.more) fresh.entries in
    let r = run_of t.configuration t.entries entry exit operations t.causes.came (Played made walked.pieces left) end in
    subst (λ (h : List Entry). HasOrder r h) (sym is) (
      subst (λ (h : List Entry). IsWalkOf t.configuration made walked.pieces h) is (subst (λ (c : Configuration). IsWalkOf c made walked.pieces t.entries) (sym same) walked.walk),
      subst (λ (h : List Entry). EachPiece t.configuration (HadRoom t.configuration cap) (after t.configuration (take 1 h)) made walked.pieces) is
          (subst (λ (n : ℕ). EachPiece t.configuration (HadRoom t.configuration n) (after t.configuration (take 1 t.entries)) made walked.pieces) most
          (subst (λ (c : Configuration). EachPiece c (HadRoom c old.cap) (after c (take 1 t.entries)) made walked.pieces) (sym same) walked.room)),
      subst (λ (h : List Entry). LeavesFor r (after t.configuration h) end left) is leaves,
    )

pub counted_from : (n a b d : ℕ) → a ≤ b → WereCounted n b d → WereCounted n a d
counted_from n a b d less (inl is) = inl (omega (arith, less, is))
counted_from n a b d less (inr full) = inr full

-- a run keeps the promise where its flash begins sound
module _ (Kept : Type 0) (p q : Seen) (c : Configuration) (cuts : ℕ) (all made left : List Step) (end : End) (before : PartTold) (old t : StackTold) (entry exit : Told) (Tells : Run → Type 0) (started : IsStarted c cuts before old) (walked : HasWalked p q made old t)
    (same : t.configuration ≡ old.configuration) (keeps : Kept) (begins : BeginsMoves p) (seen : AreToldOf p q old t) (v : Vouches Kept q before t entry exit) (parts : made ++ left ≡ all)
    (leaves : LeavesFor (run_of t.configuration t.entries entry exit v.operations t.causes.came (Played made walked.pieces left) end) (after t.configuration t.entries) end left)
    (own : end ≡ FlashFault → Rose walked.last.faults t.faults)
    (tells : Tells (run_of t.configuration t.entries entry exit v.operations t.causes.came (Played made walked.pieces left) end)) (size : IsRightSize (size_of c.geometry) entry.bytes) where
  of : t.configuration ≡ c
  of = same ∙ started.configuration

  legal : IsLegalConfig t.configuration
  legal = subst IsLegalConfig (sym of) started.legal

  -- its first entry is the start-up
  first : take 1 t.entries ≡ old.entries
  first = ap (take 1) (walked.grows ∙ ap (λ (h : List Entry). h ++ walked.more) started.fresh.entries) ∙ sym started.fresh.entries

  abbrev course : Course
  course = Played made walked.pieces left

  abbrev r : Run
  r = run_of t.configuration t.entries entry exit v.operations t.causes.came course end

  abbrev stood : DeviceTold
  stood = walked.by_law.stood

  -- by the law of a move its history came to these moves
  came_to : HasMovesTo false t.configuration t.entries (moment_of old) (all_moves walked.moves.moves) stood q.clock
  came_to =
      subst (λ (m : Moment). HasMovesTo false t.configuration t.entries m (all_moves walked.moves.moves) stood q.clock) seen.moment
      (subst (λ (h : List Entry). HasMovesTo false t.configuration h (moment_seen p) (all_moves walked.moves.moves) stood q.clock) (ap (λ (h : List Entry). h ++ entries_of (all_moves walked.moves.moves)) seen.entries ∙ sym walked.tell)
      (subst (λ (x : Configuration). HasMovesTo false x (p.desk.entries ++ entries_of (all_moves walked.moves.moves)) (moment_seen p) (all_moves walked.moves.moves) stood q.clock) (seen.configuration ∙ sym same) (walked.by_law.came begins)))

  stood_faults : faults_of stood ≡ walked.last.faults
  stood_faults = sym came_to.faults ∙ ap (λ (m : Moment). m.faults) (all_behind (moment_of old) walked.moves.moves ∙ walked.moves.behind)

  stood_second : stood.second.faults ≡ 0
  stood_second = let less = walked.by_law.lasts.faults.1 in let none = v.second in omega (arith, less, none)

  finds : FindWorkAtDrains t.configuration (moment_of old) (after t.configuration (take 1 t.entries)) made walked.moves.moves
  finds =
      subst (λ (h : List Entry). FindWorkAtDrains t.configuration (moment_of old) (after t.configuration h) made walked.moves.moves) (sym first)
      (subst (λ (x : Configuration). FindWorkAtDrains x (moment_of old) (after x old.entries) made walked.moves.moves) (sym same) walked.finds)

  in_time : CutsCome t.configuration None (moment_of old) (after t.configuration (take 1 t.entries)) made walked.moves.moves
  in_time =
      subst (λ (h : List Entry). CutsCome t.configuration None (moment_of old) (after t.configuration h) made walked.moves.moves) (sym first)
      (subst (λ (x : Configuration). CutsCome x None (moment_of old) (after x old.entries) made walked.moves.moves) (sym same) (walked.cuts started.one))

  order : HasOrder (run_of t.configuration t.entries entry exit v.operations t.causes.came (Played made walked.pieces left) end) t.entries
  order = ordered made left end old t entry exit v.operations started.fresh walked same started.most leaves

  refusals : (id : ℕ) → RefusesAsAsked t.configuration (Played made walked.pieces left) t.entries id
  refusals id = subst (λ (x : Configuration). RefusesAsAsked x (Played made walked.pieces []) t.entries id) (sym same) (walked.refusals id)

  came : t.causes.came ≡ walked.came
  came = walked.more_came ∙ ap (λ (ks : List ℕ). ks ++ walked.came) started.came

  off : CutsExplain (Played made walked.pieces left) t.entries t.causes.came before.planning.unplanned t.causes.unplanned
  off = (
    walked.off.0,
    subst (λ (ks : List ℕ). CutsAre None 0 (events_of made walked.pieces) ks walked.off.0) (sym came) walked.off.1,
    counted_from walked.off.0 before.planning.unplanned old.causes.unplanned t.causes.unplanned started.unplanned walked.off.2,
  )

  pub has_run : HasRun mode.Play c all Tells entry exit
  has_run = record {
    run = run_of t.configuration t.entries entry exit v.operations t.causes.came (Played made walked.pieces left) end;
    configuration = of;
    one_device = started.one_device;
    most = refl;
    course = parts;
    at_entry = refl;
    at_exit = refl;
    beside = refl;
    ends = tells;
    keeps = record {
      order = order;
      size = λ _. subst (λ (x : Configuration). IsRightSize (size_of x.geometry) entry.bytes) (sym of) size;
      refusals = refusals;
      off = (off.0, off.1, v.cuts off.0 off.2);
      counted = v.counts;
      exit = λ has. record { geometry = v.geometry; off = λ is. walked.power (λ off. absurd (let no_ = sym started.on ∙ off in cc no_)) (v.off is); plan = v.plan };
      complete = walked_complete made left walked.pieces end t entry exit v.operations order (λ calm told sound.
          let promise = v.promise keeps told sound made left walked.pieces end order refusals off in
          calm_posts t.configuration cap (IsWornOut (making_of t.configuration) (record { entry = entry; exit = exit; operations = v.operations })) t.entries entry.faults exit.faults v.more calm.no_fault calm.entries promise.block_machine promise.faults);
      turns =
          keeps_turns r true before stood q.device q.clock q.clock walked.by_law.lasts walked.by_law.ops walked.by_law.told v.bridge course (moment_of old) (all_moves walked.moves.moves) started.none stood_second v.second
          (λ fails. subst (λ (n : ℕ). Rose n (faults_of q.device)) (sym stood_faults) (subst (λ (n : ℕ). Rose walked.last.faults n) (sym seen.faults) (own fails))) came_to (record {
            steps = record { moves = walked.moves.moves; are = walked.moves.are; tell = walked.moves.tell; behind = sym (all_behind (moment_of old) walked.moves.moves) };
            all = refl;
            drains = λ calm. walked.closes (record {
              no_fault = λ rose. calm.no_fault (v.faults (Rose-after before.faults old.faults t.faults started.faults rose));
              entries = calm.entries;
            });
            finds = finds;
            cuts = in_time;
          });
      values = v.values;
      early = λ told. v.early keeps told made left walked.pieces end;
      promise = λ told sound. v.promise keeps told sound made left walked.pieces end order refusals off;
      erases = λ told k unused has inside.
          let fresh : BeginsUnused r = record { tells = told; legal = legal.geometry; shared = legal.shared; unused = unused } in
          let (now, tells) = v.restarts keeps made left walked.pieces end in
          erases_have_causes r fresh before now k (inl (v.promise keeps told (starts_sound r fresh) made left walked.pieces end order refusals off)) has tells inside;
    };
  }

-- of the status, the output and the steps
end_runs : (text : RunText) (Kept : Type 0) (p q : Seen) (c : Configuration) (cuts : ℕ) (all made left : List Step) (end : End) (before : PartTold) (old t : StackTold) (entry exit : Told) (x : Status) (w w' : Written) (input : Option (List ℕ))
    → IsStarted c cuts before old → (walked : HasWalked p q made old t) → t.configuration ≡ old.configuration → Kept → BeginsMoves p → AreToldOf p q old t → (v : Vouches Kept q before t entry exit) → made ++ left ≡ all
    → LeavesFor (run_of t.configuration t.entries entry exit v.operations t.causes.came (Played made walked.pieces left) end) (after t.configuration t.entries) end left
    → (end ≡ FlashFault → Rose walked.last.faults t.faults) → IsRightSize (size_of c.geometry) entry.bytes → WritesText (status_at end) (entries_in text t.entries) (lines_in text end t.entries) w w' x
    → HasRun mode.Play c all (EndsIn text (call_by mode.Play input x entry exit w w')) entry exit
end_runs text Kept p q c cuts all made left end before old t entry exit status.Memory w w' input started walked same keeps begins seen v parts leaves own size is =
    has_run Kept p q c cuts all made left Memory before old t entry exit (EndsIn text (call_by mode.Play input status.Memory entry exit w w')) started walked same keeps begins seen v parts tt (λ fails. absurd (cc fails))
    (ends_told mode.Play input entry exit w w' (entries_in text t.entries) (λ e. lines_in text e t.entries) end status.Memory is) size
end_runs text Kept p q c cuts all made left end before old t entry exit x w w' input started walked same keeps begins seen v parts leaves own size is =
    has_run Kept p q c cuts all made left end before old t entry exit (EndsIn text (call_by mode.Play input x entry exit w w')) started walked same keeps begins seen v parts leaves own
    (ends_told mode.Play input entry exit w w' (entries_in text t.entries) (λ e. lines_in text e t.entries) end x is) size

-- the end of steps that were made, or left
abbrev pub end_by : Result (Unit {0}) StepFault → End
end_by (Ok done) = Whole
end_by (Err why) = ends.end_of why

runs_by : (text : RunText) (Kept : Type 0) (p q : Seen) (c : Configuration) (cuts : ℕ) (all : List Step) (before : PartTold) (old t : StackTold) (entry exit : Told) (x : Status) (w w' : Written) (input : Option (List ℕ)) (result : Result (Unit {0}) StepFault)
    → IsStarted c cuts before old → OnOk result (HasWalked p q all old t) → IfErr result (λ why. WasBroken p q why all old t) → t.configuration ≡ old.configuration → Kept → BeginsMoves p → AreToldOf p q old t → Vouches Kept q before t entry exit
    → IsRightSize (size_of c.geometry) entry.bytes → WritesText (status_at (end_by result)) (entries_in text t.entries) (lines_in text (end_by result) t.entries) w w' x → HasRun mode.Play c all (EndsIn text (call_by mode.Play input x entry exit w w')) entry exit
runs_by text Kept p q c cuts all before old t entry exit x w w' input (Ok done) started walked broken same keeps begins seen v size is =
    end_runs text Kept p q c cuts all all [] Whole before old t entry exit x w w' input started walked same keeps begins seen v (append-nil all) refl (λ fails. absurd (cc fails)) size is
runs_by text Kept p q c cuts all before old t entry exit x w w' input (Err why) started walked broken same keeps begins seen v size is =
    end_runs text Kept p q c cuts all broken.made broken.left (ends.end_of why) before old t entry exit x w w' input started broken.walked same keeps begins seen v (sym broken.order)
    (left_for why broken.left (run_of t.configuration t.entries entry exit v.operations t.causes.came (Played broken.made broken.walked.pieces broken.left) (ends.end_of why)) before broken.walked.last old t (sym same) started.most refl none v.faults broken.why)
    (risen_by why broken.left broken.walked.last old t broken.why) size is
  where
    none : before.faults ≤ broken.walked.last.faults
    none = let first = started.none in omega (arith, first)

-- a run that was written in one of these texts
in_text : (text : RunText) (result : Result (Unit {0}) StepFault) (h : List Entry) (w w' : Written) (x : Status) → WritesText (ends.status_of_run (ends.run_of result)) (entries_in text h) (ends.lines_written text (ends.run_of result) h) w w' x
    → WritesText (status_at (end_by result)) (entries_in text h) (lines_in text (end_by result) h) w w' x
in_text History (Ok done) h w w' x is = is
in_text History (Err fault.Flash) h w w' x is = is
in_text History (Err fault.HistoryFull) h w w' x is = is
in_text History (Err fault.Memory) h w w' x is = is
in_text Summary (Ok done) h w w' x is = is
in_text Summary (Err fault.Flash) h w w' x is = is
in_text Summary (Err fault.HistoryFull) h w w' x is = is
in_text Summary (Err fault.Memory) h w w' x is = is

-- with the history and the run as they were written
pub ran_in : (text : RunText) (Kept : Type 0) (p q : Seen) (c : Configuration) (cuts : ℕ) (all : List Step) (before : PartTold) (old t : StackTold) (entry exit : Told) (x : Status) (w w' : Written) (input : Option (List ℕ)) (result : Result (Unit {0}) StepFault) (run : Result (Unit {0}) Stop) (h : List Entry) → IsStarted c cuts before old
    → OnOk result (HasWalked p q all old t) → IfErr result (λ why. WasBroken p q why all old t) → t.configuration ≡ old.configuration → Kept → BeginsMoves p → AreToldOf p q old t → Vouches Kept q before t entry exit → run ≡ ends.run_of result → h ≡ t.entries
    → IsRightSize (size_of c.geometry) entry.bytes → WritesText (ends.status_of_run run) (entries_in text h) (ends.lines_written text run h) w w' x → HasRun mode.Play c all (EndsIn text (call_by mode.Play input x entry exit w w')) entry exit
ran_in text Kept p q c cuts all before old t entry exit x w w' input result run h started walked broken same keeps begins seen v is_run is_history size is =
    runs_by text Kept p q c cuts all before old t entry exit x w w' input result started walked broken same keeps begins seen v size
    (in_text text result t.entries w w' x
    (subst (λ (r : Result (Unit {0}) Stop). WritesText (ends.status_of_run r) (entries_in text t.entries) (ends.lines_written text r t.entries) w w' x) is_run
    (subst (λ (es : List Entry). WritesText (ends.status_of_run run) (entries_in text es) (ends.lines_written text run es) w w' x) is_history is)))
