-- A run without a start-up.
use Rattle.std.specs.Prelude.{slice_get}
use Rattle.std.specs.List.{Contains}
use Rattle.std.proofs.Common.{◌≡◌, ◌≢◌, ◌≤◌, ◌⊎◌, ℕ, zero, suc, false, List, [], ◌∷◌, Option, Some, None, refl, sym, subst, ap, inl, inr, arith}
use Rattle.nvm_lines.specs.nv_streams.Sink.{Written}
use Rattle.nvm_flash.specs.block_config.Config.{Configuration}
use Rattle.nvm_flash.specs.fls_model.Told.{Told, Change}
use Rattle.nvm_flash.specs.promise_device.FlashRun.{FlashRun}
use Rattle.script_player.specs.script_walks.Words.{Step}
use Rattle.nvm_flash.specs.block_machine.Words.{Entry, Found}
use Rattle.nvm_flash.specs.promise_run.Run.{Run, Course, Played, Ran, End, Whole, HasOrder, EndsAtStart, LeavesAlone, MadeNothing, CutsAre, events_in}
use Rattle.nvm_flash.specs.promise_run.Refusals.{RefusesAsAsked}
use Rattle.nvm_flash.specs.promise_run.Run.{FlashFault, HistoryFull, Memory}
use Rattle.nvm_flash.specs.promise_run.Promise.{Promise}
use Rattle.nvm_flash.specs.promise_run.Call.{IsCourseOf}
use Rattle.nvm_script.specs.declared.script.Mode.{Mode}
use Rattle.nvm_script.specs.declared.script.Mode.TheVariants as mode
use Rattle.nvm_flash.specs.promise_run.Completeness.{Completeness}
use Rattle.nvm_flash.specs.promise_run.JobTurns.{job_turns}
use Rattle.nvm_top.specs.Play.{IsFlashStop}
use Rattle.nvm_flash.specs.promise_run.Turns.{AreMadeIn, EndsBy, KeepsTurns}
use Rattle.nvm_flash.proofs.Callers.{callers_are_served}
use Rattle.nvm_lines.specs.declared.status.Status.{Status}
use Rattle.nvm_lines.specs.declared.status.Status.TheVariants as status
use Rattle.nvm_top.specs.declared.runs.RunText.{RunText}
use Rattle.nvm_top.specs.declared.runs.RunText.TheVariants.{History, Summary}
use Rattle.nvm_lines.specs.declared.stop.Stop.{Stop}
use Rattle.nvm_lines.specs.declared.stop.Stop.TheVariants as stop
use Rattle.nvm_top.specs.Stack.{StopsAtStart, run_of}
use Rattle.nvm_lines.specs.Output.{Writes}
use Rattle.nvm_top.specs.Promised.{call_by, HasNoRun, HasRun, WritesText, EndsIn, entries_in, lines_in}
use Rattle.nvm_lines.specs.Stop.{status_of, line_of, IsStop}
use Rattle.nvm_top.proofs.Complete.{early_complete}
use Rattle.nvm_top.proofs.RunLines.{Writes-as, by_stop}
use Rattle.nvm_top.proofs.Texts.{stop_alone}
use Rattle.nvm_top.proofs.EndsTold.{status_at, ends_told}

-- THE RUN

not_there : (h : Entry) → Contains [] h → ⊥
not_there h is = let few = is.1 in omega (arith, few)

-- the course of these steps, of which none was made
abbrev pub nothing : Mode → List Step → Course
nothing mode.Play steps = Played [] [] steps
nothing mode.Run steps = Ran steps []

nothing_is : (m : Mode) (steps : List Step) → IsCourseOf m steps (nothing m steps)
nothing_is mode.Play steps = refl
nothing_is mode.Run steps = refl

nothing_made : (m : Mode) (steps : List Step) → MadeNothing (nothing m steps)
nothing_made mode.Play steps = (refl, refl)
nothing_made mode.Run steps = refl

nothing_refused : (m : Mode) (c : Configuration) (steps : List Step) (id : ℕ) → RefusesAsAsked c (nothing m steps) [] id
nothing_refused mode.Play c steps id = (0, refl)
nothing_refused mode.Run c steps id = refl

nothing_cut : (m : Mode) (steps : List Step) → CutsAre None 0 (events_in (nothing m steps) []) [] 0
nothing_cut mode.Play steps = (refl, refl)
nothing_cut mode.Run steps = (refl, refl)

no_operation : (k : ℕ) (x : Change) → slice_get [] k ≡ Some x → ⊥
no_operation zero x is = cc
no_operation (suc k) x is = cc

early_promise : (m : Mode) (c : Configuration) (steps : List Step) (entry exit : Told) (stop : Stop) (end : End) → StopsAtStart c entry exit stop → EndsAtStart (record { entry = entry; exit = exit; operations = [] }) end
    → Promise (run_of c [] entry exit [] [] (nothing m steps) end)
early_promise m c steps entry exit stop end stops ends = record {
  order = (ends, nothing_made m steps, stops.flash);
  power_cut = λ tells sound k image few is. absurd (let none = is.1 in cc none);
  counts = λ tells sound k ops image few is last. absurd (let none = is.1 in cc none);
  found = λ tells sound marks ops has few. absurd (not_there (Found marks ops) has);
  at_exit = λ tells sound started few. absurd started;
  block_machine = tt;
  faults = record { faults = 0; counted = inl (let more = stops.faults in omega (arith, more)); pay = tt };
  wear = λ tells sound. refl;
  refusals = λ id. nothing_refused m c steps id;
  off = (0, nothing_cut m steps, inl (let more = stops.cuts in omega (arith, more)));
  power = λ k small off. absurd (no_operation k off.0 off.1);
  operations = λ started. absurd started;
  begins = tt;
  counted = λ e ops has is. absurd (not_there e has);
}

-- it failed by a fault of its own
one_fault : (f : FlashRun) (end : End) → EndsAtStart f end → EndsBy (record { faults = 0; ops = 0; busy = false }) f end
one_fault f FlashFault (inl rose) = inl (omega (arith, rose))
one_fault f FlashFault (inr (full, more)) = inr (omega (arith, full, more))
one_fault f Memory ends = tt
one_fault f Whole ends = tt
one_fault f HistoryFull ends = tt

-- as it ends, and has its turns
early_ends : (m : Mode) (c : Configuration) (steps : List Step) (entry exit : Told) (end : End) → HasOrder (run_of c [] entry exit [] [] (nothing m steps) end) [] → Completeness (run_of c [] entry exit [] [] (nothing m steps) end) (nothing m steps)
early_ends mode.Play c steps entry exit end order = early_complete c steps entry exit end order
early_ends mode.Run c steps entry exit end order = callers_are_served (run_of c [] entry exit [] [] (Ran steps []) end) steps [] refl refl order

-- no move was made
early_turns : (c : Configuration) (course : Course) (entry exit : Told) (end : End) → entry.faults ≤ exit.faults → EndsAtStart (record { entry = entry; exit = exit; operations = [] }) end
    → AreMadeIn course (run_of c [] entry exit [] [] course end) (record { faults = 0; ops = 0; busy = false }) (record { faults = 0; ops = 0; busy = false }) []
    → KeepsTurns (job_turns c) (run_of c [] entry exit [] [] course end) course
early_turns c course entry exit end more ends made = record {
  first = record { faults = 0; ops = 0; busy = false };
  last = record { faults = 0; ops = 0; busy = false };
  moves = [];
  made = made;
  begins = tt;
  operations = refl;
  failed = tt;
  counted = inl (omega (arith, more));
  ends = one_fault (record { entry = entry; exit = exit; operations = [] }) end ends;
  serves = tt;
  posts = tt;
  rests = tt;
  work = record { left = 0; few = omega arith; efforts = []; are = tt };
  kept = tt;
  urgent = λ told sound. tt;
  paid = λ told sound. tt;
}

early_moves : (m : Mode) (c : Configuration) (steps : List Step) (entry exit : Told) (end : End) → entry.faults ≤ exit.faults → EndsAtStart (record { entry = entry; exit = exit; operations = [] }) end
    → KeepsTurns (job_turns c) (run_of c [] entry exit [] [] (nothing m steps) end) (nothing m steps)
early_moves mode.Play c steps entry exit end more ends =
    early_turns c (Played [] [] steps) entry exit end more ends (record { steps = record { moves = []; are = tt; tell = refl; behind = refl }; all = refl; drains = λ calm. tt; finds = tt; cuts = tt })
early_moves mode.Run c steps entry exit end more ends = early_turns c (Ran steps []) entry exit end more ends (record { tell = refl; are = tt; behind = refl })

pub early_has : (m : Mode) (c : Configuration) (steps : List Step) (Tells : Run → Type 0) (entry exit : Told) (stop : Stop) (end : End) → StopsAtStart c entry exit stop → c.eeprom ≡ None → EndsAtStart (record { entry = entry; exit = exit; operations = [] }) end
    → Tells (run_of c [] entry exit [] [] (nothing m steps) end) → HasRun m c steps Tells entry exit
early_has m c steps Tells entry exit stop end stops one ends tells = record {
  run = run_of c [] entry exit [] [] (nothing m steps) end;
  configuration = refl;
  one_device = one;
  most = refl;
  course = nothing_is m steps;
  at_entry = refl;
  at_exit = refl;
  beside = refl;
  ends = tells;
  keeps =
      let promise = early_promise m c steps entry exit stop end stops ends in
      record { order = promise.order; size = λ started. absurd started; refusals = promise.refusals; off = promise.off; counted = inl (let same = stops.flash.ops in omega (arith, same)); complete = early_ends m c steps entry exit end promise.order; exit = λ started. absurd started; turns = early_moves m c steps entry exit end stops.faults ends; values = tt; early = λ told. record { found = λ marks has. absurd (omega (arith, has.1)); legal = tt }; promise = λ told sound. promise; erases = λ told k unused has. absurd has };
}

-- AND ITS CALL

early_end : (text : RunText) (m : Mode) (c : Configuration) (steps : List Step) (entry exit : Told) (why : Stop) (end : End) (x : Status) (w w' : Written) (input : Option (List ℕ)) → StopsAtStart c entry exit why → c.eeprom ≡ None → EndsAtStart (record { entry = entry; exit = exit; operations = [] }) end
    → WritesText (status_at end) (entries_in text []) (lines_in text end []) w w' x → HasRun m c steps (EndsIn text (call_by m input x entry exit w w')) entry exit
early_end text m c steps entry exit why end status.Memory w w' input stops one ends is =
    early_has m c steps (EndsIn text (call_by m input status.Memory entry exit w w')) entry exit why Memory stops one tt (ends_told m input entry exit w w' (entries_in text []) (λ e. lines_in text e []) end status.Memory is)
early_end text m c steps entry exit why end x w w' input stops one ends is =
    early_has m c steps (EndsIn text (call_by m input x entry exit w w')) entry exit why end stops one ends (ends_told m input entry exit w w' (entries_in text []) (λ e. lines_in text e []) end x is)

-- its line stands alone
early_line : (why : Stop) (meant : Status) (lines : List (List ℕ)) (text : RunText) (w w' : Written) (x : Status) → meant ≡ status_of why → lines ≡ line_of why ∷ [] → Writes (IsStop why) w w' x → WritesText meant (entries_in text []) lines w w' x
early_line why meant lines History w w' x one two is = stop_alone why meant lines w w' x one two is
early_line why meant lines Summary w w' x one two is = stop_alone why meant lines w w' x one two is

-- the flash isn't attached for its size
pub wrong_size : (c : Configuration) (entry exit : Told) (found needed : ℕ) (x : Status) (w w' : Written) → StopsAtStart c entry exit (stop.WrongSize found needed) → Writes (IsStop (stop.WrongSize found needed)) w w' x → HasNoRun (IsFlashStop c entry.bytes) w w' x entry exit
wrong_size c entry exit found needed x w w' stops is = record {
  line = Writes-as (IsStop (stop.WrongSize found needed)) (IsFlashStop c entry.bytes) w w' x
      (λ y lines at. by_stop (IsFlashStop c entry.bytes) (stop.WrongSize found needed) y lines (λ other. (stops.second, (stops.end.0, (found, stops.why.0, ap (λ n. line_of (stop.WrongSize found n) ∷ []) stops.why.1)))) at) is;
  flash = inl (stops.end.1, sized w w' x is);
}
  where
    sized : (v v' : Written) (y : Status) → Writes (IsStop (stop.WrongSize found needed)) v v' y → y ≢ status.InUse
    sized v v' status.InUse at = absurd (let same = at.1.1 in cc same)
    sized v v' _ at = λ e. cc e

-- nor where another call has it in use
pub found_in_use : (c : Configuration) (entry exit : Told) (x : Status) (w w' : Written) → StopsAtStart c entry exit stop.InUse → Writes (IsStop stop.InUse) w w' x → HasNoRun (IsFlashStop c entry.bytes) w w' x entry exit
found_in_use c entry exit x w w' stops is = record {
  line = Writes-as (IsStop stop.InUse) (IsFlashStop c entry.bytes) w w' x
      (λ y lines at. by_stop (IsFlashStop c entry.bytes) stop.InUse y lines (λ other. (stops.second, refl)) at) is;
  flash = inr (is, stops.end);
}

-- nor where a second device is missing
pub no_second : (c : Configuration) (entry exit : Told) (x : Status) (w w' : Written) → StopsAtStart c entry exit stop.NoSecond → Writes (IsStop stop.NoSecond) w w' x → HasNoRun (IsFlashStop c entry.bytes) w w' x entry exit
no_second c entry exit x w w' stops is = record {
  line = Writes-as (IsStop stop.NoSecond) (IsFlashStop c entry.bytes) w w' x
      (λ y lines at. by_stop (IsFlashStop c entry.bytes) stop.NoSecond y lines (λ other. (stops.second, refl)) at) is;
  flash = inl (subst (LeavesAlone entry) (sym stops.end) (record { geometry = refl; off = λ off. off; bytes = refl; ops = refl; faults = refl; cuts = refl }), beside w w' x is);
}
  where
    beside : (v v' : Written) (y : Status) → Writes (IsStop stop.NoSecond) v v' y → y ≢ status.InUse
    beside v v' status.InUse at = absurd (let same = at.1.1 in cc same)
    beside v v' _ at = λ e. cc e

-- or there is a run without a start-up
pub early_in : (text : RunText) (m : Mode) (c : Configuration) (steps : List Step) (entry exit : Told) (why : Stop) (x : Status) (w w' : Written) (input : Option (List ℕ)) → StopsAtStart c entry exit why → Writes (IsStop why) w w' x
    → HasRun m c steps (EndsIn text (call_by m input x entry exit w w')) entry exit ⊎ HasNoRun (IsFlashStop c entry.bytes) w w' x entry exit
early_in text m c steps entry exit (stop.WrongSize found needed) x w w' input stops is = inr (wrong_size c entry exit found needed x w w' stops is)
early_in text m c steps entry exit stop.InUse x w w' input stops is = inr (found_in_use c entry exit x w w' stops is)
early_in text m c steps entry exit stop.NoSecond x w w' input stops is = inr (no_second c entry exit x w w' stops is)
early_in text m c steps entry exit stop.FlashFault x w w' input stops is =
    inl (early_end text m c steps entry exit stop.FlashFault FlashFault x w w' input stops stops.second stops.end (early_line stop.FlashFault status.FlashFault (lines_in text FlashFault []) text w w' x refl (fault_line text) is))
  where
    fault_line : (t : RunText) → lines_in t FlashFault [] ≡ line_of stop.FlashFault ∷ []
    fault_line History = refl
    fault_line Summary = refl
early_in text m c steps entry exit stop.Memory x w w' input stops is =
    inl (early_end text m c steps entry exit stop.Memory Memory x w w' input stops stops.second tt (early_line stop.Memory status.Memory (lines_in text Memory []) text w w' x refl (no_line text) is))
  where
    no_line : (t : RunText) → lines_in t Memory [] ≡ [] ∷ []
    no_line History = refl
    no_line Summary = refl
early_in text m c steps entry exit _ x w w' input stops is = absurd stops.why
