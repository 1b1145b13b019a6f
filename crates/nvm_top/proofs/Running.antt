-- A run of callers keeps the promise, by what they came to on its stack.
use Rattle.std.specs.Prelude.{not, ◌||◌, IsTrue}
use Rattle.std.specs.List.{list_all}
use Rattle.std.proofs.Common.{◌≡◌, ◌≢◌, ◌≤◌, ◌+◌, ◌*◌, ℕ, Bool, true, false, List, [], ◌∷◌, ◌++◌, Option, Some, None, Result, refl, sym, ap, ◌∙◌, subst, inl, arith}
use Rattle.nvm_lines.specs.nv_streams.Sink.{Written}
use Rattle.nvm_lines.proofs.nv_streams.Puts.{Puts-nil}
use Rattle.nvm_flash.specs.nv_base.Count.{WereCounted}
use Rattle.nvm_flash.specs.nv_base.Geometry.{size_of}
use Rattle.nvm_flash.specs.nv_base.declared.plan.Plan.{Plan}
use Rattle.nvm_flash.specs.block_config.Config.{Configuration}
use Rattle.nvm_flash.specs.block_config.Rules.{IsLegalConfig}
use Rattle.nvm_flash.specs.block_machine.Words.{Entry, Found, Instance, Mark}
use Rattle.nvm_flash.specs.block_machine.Next.{next_of}
use Rattle.nvm_flash.specs.block_machine.StartUp.{at_first}
use Rattle.nvm_flash.specs.block_machine.Steps.{after}
use Rattle.nvm_flash.specs.memif.Told.{Part, First, PartTold, DeviceTold, IfElse}
use Rattle.nvm_flash.specs.memif.Clock.{Clock}
use Rattle.nvm_flash.specs.fls_model.Told.{Told}
use Rattle.nvm_flash.specs.promise_device.Bridge.{Bridges, reading_of}
use Rattle.nvm_flash.specs.promise_device.FlashRun.{CountsAll}
use Rattle.nvm_flash.specs.fee_told.Device.{Device, told_of, clock_of}
use Rattle.nvm_flash.specs.fee_core.Tells.{told_clock}
use Rattle.nvm_flash.specs.fee_laws.Made.{part_at}
use Rattle.nvm_flash.specs.ram_blocks.declared.plain_block.PlainBlock.{PlainBlock}
use Rattle.nvm_flash.specs.nv_desk.Desk.{DeskState}
use Rattle.nvm_flash.specs.promise_blocks.OverDevice.{HasStarted, KeepsOver, KeepsEarly}
use Rattle.nvm_flash.specs.nvm_device_laws.Turn.{TellsSlots}
use Rattle.nvm_flash.specs.nvm_laws.Keeps.{StackKeepsAsTold}
use Rattle.nvm_flash.specs.nvm_core.Stack.{StackState}
use Rattle.nvm_flash.specs.promise_blocks.Operations.{founds}
use Rattle.nvm_flash.specs.promise_run.BankTurns.{BeginsUnused}
use Rattle.nvm_flash.specs.promise_run.Halves.{beyond_end}
use Rattle.nvm_flash.specs.promise_run.Promise.{making_of}
use Rattle.nvm_flash.specs.promise_run.Run.{Run, Course, Ran, Follows, HasOrder, End, Whole, FlashFault, HistoryFull, Memory, RunsBy, cap}
use Rattle.nvm_flash.specs.promise_run.RunHalves.{KeepsCallers, offs_in, tells_no_refusal}
use Rattle.nvm_flash.specs.Made.{IsBack, one_part}
use Rattle.nvm_flash.proofs.Readings.{sound_starts_compute}
use Rattle.nvm_flash.proofs.BankTurns.{starts_sound, erases_have_causes}
use Rattle.nvm_flash.proofs.Composition.{begins_well}
use Rattle.nvm_flash.proofs.RunHalves.{as_asked, unplanned, uncut_bridges, callers_keep_promise}
use Rattle.nvm_script.specs.declared.script.Mode.TheVariants as mode
use Rattle.nvm_callers.specs.Ran.{KeepsOrder, WasRun, end_of}
use Rattle.nvm_callers.specs.Added.{IsUncut}
use Rattle.nvm_callers.specs.declared.ending.Ending.{Ending}
use Rattle.nvm_callers.specs.declared.ending.Ending.TheVariants as ending
use Rattle.script_player.proofs.uds_gateway.Power.{is_on}
use Rattle.script_player.specs.PlainTold.{plan_from, told_by}
use Rattle.script_player.specs.PlainPaying.{seen_by}
use Rattle.script_player.specs.script_walks.Looks.{CopyIsShown, Look}
use Rattle.script_player.specs.script_walks.Runs.{IsRun, has_ended, is_found}
use Rattle.script_player.specs.script_walks.Texts.{AreValues}
use Rattle.script_player.specs.script_walks.Walk.{is_at_rest, copies_next}
use Rattle.script_player.specs.script_walks.Words.{Step}
use Rattle.nvm_top.specs.Play.{IsBeforeAttach, IsRightSize}
use Rattle.nvm_top.specs.Promised.{EndsIn, HasRun, KeepsRun, WritesText, call_by, lines_in}
use Rattle.nvm_top.specs.Running.{stop_of_ending}
use Rattle.nvm_top.specs.Runs.{status_of_run, lines_written}
use Rattle.nvm_top.specs.Stack.{IsStarted, run_of, KeepsPlayed}
use Rattle.nvm_top.specs.declared.runs.RunText.TheVariants.{History}
use Rattle.nvm_lines.specs.declared.status.Status.{Status}
use Rattle.nvm_lines.specs.declared.status.Status.TheVariants as status
use Rattle.nvm_lines.specs.declared.stop.Stop.{Stop}
use Rattle.nvm_flash.proofs.FirstStart.{told_bridge}
use Rattle.nvm_top.proofs.EndsTold.{ends_told, status_at}
use Rattle.nvm_top.proofs.Promised.{counted_from}
use Rattle.nvm_flash.specs.promise_run.DeviceTurns.{HasMovesTo}
use Rattle.nvm_flash.specs.promise_run.Turns.{Moment, Move}
use Rattle.nvm_flash.proofs.DeviceTurns.{keeps_turns}
use Rattle.nvm_flash.proofs.Turning.{same_clock, same_told}
use Rattle.nvm_callers.specs.nvm_moves.Beginning.{BeginsMoves}
use Rattle.nvm_callers.specs.nvm_moves.Seen.{moment_by}
use Rattle.nvm_callers.specs.driver_moves.Driving.{seen_at}
use Rattle.nvm_callers.proofs.nvm_moves.Beginning.{moves_came, none_came as none_moved}
use Rattle.nvm_top.proofs.WholeCalls.{written_late}

-- WHAT CALLERS CAME TO

-- This history and this end, on a device that is told before the first start-up and now.
pub record CameTo (before : Part → PartTold) (c : Configuration) (most : ℕ) (steps : List Step) (end : End) (h : List Entry) (now : DeviceTold) (clock : Clock) : Type 0 where
  pub legal : IsLegalConfig c
  pub started : HasStarted h
  pub no_refusal : IsTrue (list_all tells_no_refusal h)
  pub over : TellsSlots now → KeepsOver c most h before now clock
  pub early : now.tells ≡ true → KeepsEarly c most h clock
  pub came : now.first.planning.came ≡ []
  pub offs : WereCounted (offs_in h) (before First).planning.unplanned now.first.planning.unplanned
  pub power : now.first.off ≡ true → (after c h).off ≡ true
  pub ends : end ≢ Memory → IsTrue (has_ended c h)
  pub no_fault : end ≢ FlashFault
  pub first : Moment
  pub moves : List Move
  pub moved : HasMovesTo true c h first moves now clock
  pub starts : now.starts ≤ founds h + 1
  pub looks : List Look
  pub order : RunsBy c most steps looks end h

-- at any end it is a run
any_run : (c : Configuration) (most : ℕ) (steps : List Step) (looks : List Look) (h : List Entry) (end : End) → RunsBy c most steps looks end h → IsRun c steps looks h
any_run c most steps looks h Whole is = is.order
any_run c most steps looks h HistoryFull is = is.order
any_run c most steps looks h Memory is = is
any_run c most steps looks h FlashFault is = absurd is

-- so it may also end for want of memory
wanting : (before : Part → PartTold) (c : Configuration) (most : ℕ) (steps : List Step) (end : End) (h : List Entry) (now : DeviceTold) (clock : Clock) → CameTo before c most steps end h now clock → CameTo before c most steps Memory h now clock
wanting before c most steps end h now clock w = record {
  legal = w.legal;
  started = w.started;
  no_refusal = w.no_refusal;
  over = w.over;
  early = w.early;
  came = w.came;
  offs = w.offs;
  power = w.power;
  ends = λ other. absurd (other refl);
  no_fault = λ fault. cc fault;
  first = w.first;
  moves = w.moves;
  moved = w.moved;
  starts = w.starts;
  looks = w.looks;
  order = any_run c most steps w.looks h end w.order;
}

-- FROM THE START ON

as_ready : (ready : Bool) (P Q : Type 0) → ready ≡ true → IfElse ready P Q → P
as_ready true P Q is kept = kept
as_ready false P Q is kept = absurd (cc is)

kept_first : (before : Part → PartTold) (s : StackState Device (List PlainBlock)) → s.ready ≡ true → KeepsPlayed s.ready before s.desk s.hand (told_of s.device) (told_clock s.device) → StackKeepsAsTold before s.desk s.hand (told_of s.device) (told_clock s.device)
kept_first before s ready kept = as_ready s.ready _ _ ready kept.0

is_none : (off : Bool) (ops : ℕ) (plan : Option Plan) → off ≡ false → plan_from off ops plan ≡ None → plan ≡ None
is_none true ops plan on none = absurd (cc on)
is_none false ops None on none = refl
is_none false ops (Some p) on none = absurd (cc none)

both_on : (a b : Bool) → (a || b) ≡ false → a ≡ true → ⊥
both_on true b on off = cc on
both_on false b on off = cc off

not_two : (two : Bool) → not two ≡ true → two ≡ false
not_two true one = cc one
not_two false one = refl

-- no power cut is planned
uncut : (c : Configuration) (before : PartTold) (s : StackState Device (List PlainBlock)) → IsStarted c 0 before (told_by told_of s) → IsUncut s.desk (told_of s.device)
uncut c before s started = record {
  one = not_two (told_of s.device).fixed.two started.one;
  unplanned = record {
    came = started.came;
    plan = λ on. is_none ((told_of s.device).first.off || (told_of s.device).second.off) (told_of s.device).ops (told_of s.device).first.planning.plan started.on started.fresh.none_planned;
  };
  power = λ off. absurd (both_on (told_of s.device).first.off (told_of s.device).second.off started.on off);
}

-- the cuts before it are none of the run's
less_unplanned : (c : Configuration) (before : PartTold) (s : StackState Device (List PlainBlock)) → IsStarted c 0 before (told_by told_of s) → before.planning.unplanned ≤ (told_of s.device).first.planning.unplanned
less_unplanned c before s started = let less = started.unplanned in omega (arith, less)

-- RUN

-- nothing is owed for any fault yet, and its figures are the configuration's
abbrev BeginsSo : StackState Device (List PlainBlock) → Type 0
BeginsSo s = BeginsMoves (seen_by told_of told_clock s)

begins_run : (before : Part → PartTold) (c : Configuration) (s : StackState Device (List PlainBlock)) → IsStarted c 0 (before First) (told_by told_of s) → BeginsSo s → StackKeepsAsTold before s.desk s.hand (told_of s.device) (told_clock s.device)
    → BeginsMoves (seen_at s.desk s.hand (told_of s.device) (told_clock s.device))
begins_run before c s started begins kept = record {
  between = refl;
  marks = begins.marks;
  entries = begins.entries;
  first = begins.first;
  pages = begins.pages;
  reserve = begins.reserve;
  costs = begins.costs;
  most = begins.most;
  simple = begins.simple;
  blocks = begins.blocks;
  left = begins.left;
  few = begins.few;
  is = begins.is;
  owes = begins.owes;
  uncut = uncut c (before First) s started;
  before = before;
  kept = kept;
}

never_fault : (e : Ending) → end_of e ≡ FlashFault → ⊥
never_fault ending.All is = cc is
never_fault ending.NoRoom is = cc is
never_fault ending.Memory is = cc is

came_to : (before : Part → PartTold) (c : Configuration) (steps : List Step) (s : StackState Device (List PlainBlock)) (e : Ending) (desk : DeskState) (d : Device) → IsStarted c 0 (before First) (told_by told_of s)
    → BeginsSo s → KeepsPlayed s.ready before s.desk s.hand (told_of s.device) (told_clock s.device) → WasRun told_of told_clock s e desk d → KeepsOrder steps e desk
    → CameTo before desk.config desk.cap steps (end_of e) desk.entries (told_of d) (told_clock d)
came_to before c steps s e desk d started begins kept was keeps = record {
  legal = subst IsLegalConfig (sym (was.config ∙ started.configuration)) started.legal;
  started = subst HasStarted (sym grown) tt;
  no_refusal = subst (λ (h : List Entry). IsTrue (list_all tells_no_refusal h)) (sym grown) was.no_refusal;
  over = λ slots. (behind.all slots).keeps.over;
  early = λ tells. behind.early tells;
  came = cuts.0.unplanned.came;
  offs =
      subst (λ (h : List Entry). WereCounted (offs_in h) (before First).planning.unplanned (told_of d).first.planning.unplanned) (sym grown)
      (counted_from (offs_in was.more) (before First).planning.unplanned (told_of s.device).first.planning.unplanned (told_of d).first.planning.unplanned (less_unplanned c (before First) s started) cuts.1);
  power = cuts.0.power;
  ends = λ other. was.ends (λ is. other (ap end_of is));
  no_fault = never_fault e;
  first = moment_by None (told_of s.device);
  moves = was.moved.moves;
  moved =
      moves_came true (seen_at s.desk s.hand (told_of s.device) (told_clock s.device)) (seen_at desk was.hand (told_of d) (told_clock d))
      (begins_run before c s started begins (kept_first before s started.fresh.ready kept)) was.moved;
  starts =
      let one : (told_of s.device).starts ≡ founds s.desk.entries = as_ready s.ready _ _ started.fresh.ready kept.1 in
      let first : founds s.desk.entries ≡ 1 = ap founds started.fresh.entries in
      let same = was.starts in omega (arith, one, first, same);
  looks = keeps.looks;
  order = keeps.order;
}
  where
    grown : desk.entries ≡ Found started.fresh.marks started.fresh.ops ∷ was.more
    grown = was.grows ∙ ap (λ (h : List Entry). h ++ was.more) started.fresh.entries

    behind : StackKeepsAsTold before desk was.hand (told_of d) (told_clock d)
    behind = was.keeps.kept before (kept_first before s started.fresh.ready kept)

    cuts : IsUncut desk (told_of d) × WereCounted (offs_in was.more) (told_of s.device).first.planning.unplanned (told_of d).first.planning.unplanned
    cuts = was.cuts (uncut c (before First) s started)

-- of the configuration that was handed in, and the most entries of a history
pub callers_came : (before : Part → PartTold) (c : Configuration) (steps : List Step) (s : StackState Device (List PlainBlock)) (e : Ending) (desk : DeskState) (d : Device) → IsStarted c 0 (before First) (told_by told_of s)
    → BeginsSo s → KeepsPlayed s.ready before s.desk s.hand (told_of s.device) (told_clock s.device) → WasRun told_of told_clock s e desk d → KeepsOrder steps e desk
    → CameTo before c cap steps (end_of e) desk.entries (told_of d) (told_clock d)
callers_came before c steps s e desk d started begins kept was keeps =
    subst (λ (n : ℕ). CameTo before c n steps (end_of e) desk.entries (told_of d) (told_clock d)) (was.cap ∙ started.most)
    (subst (λ (x : Configuration). CameTo before x desk.cap steps (end_of e) desk.entries (told_of d) (told_clock d)) (was.config ∙ started.configuration)
    (came_to before c steps s e desk d started begins kept was keeps))

-- WITHOUT MEMORY TO BEGIN WITH

shows_none : (c : Configuration) (steps : List Step) (copies : Bool) (e : Entry) → is_found e ≡ true → CopyIsShown c steps [] [] e copies
shows_none c steps true (Found marks ops) is = tt
shows_none c steps false (Found marks ops) is = tt
shows_none c steps copies e is = absurd (cc is)

begun_run : (c : Configuration) (steps : List Step) (marks : List (Instance × Mark)) (ops : ℕ) → IsRun c steps [] (Found marks ops ∷ [])
begun_run c steps marks ops = record {
  one_start = refl;
  order = λ caller. record {
    requests = refl;
    awaits = λ n block x at await more. absurd (omega (arith, more));
  };
  in_order = λ i j a b before one two. absurd (cc one);
  shown = (shows_none c steps (copies_next c (next_of c (after c []))) (Found marks ops) refl, tt);
}

begun : (before : Part → PartTold) (c : Configuration) (steps : List Step) (s : StackState Device (List PlainBlock)) → IsStarted c 0 (before First) (told_by told_of s)
    → KeepsPlayed s.ready before s.desk s.hand (told_of s.device) (told_clock s.device) → CameTo before s.desk.config s.desk.cap steps Memory s.desk.entries (told_of s.device) (told_clock s.device)
begun before c steps s started kept = record {
  legal = subst IsLegalConfig (sym started.configuration) started.legal;
  started = subst HasStarted (sym one) tt;
  no_refusal = subst (λ (h : List Entry). IsTrue (list_all tells_no_refusal h)) (sym one) refl;
  over = λ slots. (first.all slots).keeps.over;
  early = λ tells. first.early tells;
  came = started.came;
  offs = subst (λ (h : List Entry). WereCounted (offs_in h) (before First).planning.unplanned (told_of s.device).first.planning.unplanned) (sym one) (inl (let less = less_unplanned c (before First) s started in omega (arith, less)));
  power = λ off. absurd (both_on (told_of s.device).first.off (told_of s.device).second.off started.on off);
  ends = λ other. absurd (other refl);
  no_fault = λ fault. cc fault;
  first = moment_by None (told_of s.device);
  moves = [];
  moved = none_moved true started.fresh.marks started.fresh.ops s.desk.config s.desk.entries (told_of s.device) (told_clock s.device) one started.ops;
  starts =
      let made : (told_of s.device).starts ≡ founds s.desk.entries = as_ready s.ready _ _ started.fresh.ready kept.1 in omega (arith, made);
  looks = [];
  order = subst (λ (h : List Entry). IsRun s.desk.config steps [] h) (sym one) (begun_run s.desk.config steps started.fresh.marks started.fresh.ops);
}
  where
    one : s.desk.entries ≡ Found started.fresh.marks started.fresh.ops ∷ []
    one = started.fresh.entries

    first : StackKeepsAsTold before s.desk s.hand (told_of s.device) (told_clock s.device)
    first = kept_first before s started.fresh.ready kept

pub none_came : (before : Part → PartTold) (c : Configuration) (steps : List Step) (s : StackState Device (List PlainBlock)) (d : Device) → d ≡ s.device → IsStarted c 0 (before First) (told_by told_of s)
    → KeepsPlayed s.ready before s.desk s.hand (told_of s.device) (told_clock s.device) → CameTo before c cap steps Memory s.desk.entries (told_of d) (told_clock d)
none_came before c steps s d same started kept =
    subst (λ (x : Device). CameTo before c cap steps Memory s.desk.entries (told_of x) (told_clock x)) (sym same)
    (subst (λ (n : ℕ). CameTo before c n steps Memory s.desk.entries (told_of s.device) (told_clock s.device)) started.most
    (subst (λ (x : Configuration). CameTo before x s.desk.cap steps Memory s.desk.entries (told_of s.device) (told_clock s.device)) started.configuration
    (begun before c steps s started kept)))

-- THE RUN

has_order : (r : Run) (steps : List Step) (looks : List Look) (h : List Entry) → r.course ≡ Ran steps looks → HasStarted h → RunsBy r.configuration r.most steps looks r.end h → HasOrder r h
has_order r steps looks [] is started follows = absurd started
has_order r steps looks (e ∷ es) is started follows = subst (λ (x : Course). Follows r x (e ∷ es)) (sym is) follows

rests_by : (a b : Bool) → (a || b) ≡ true → b ≡ false → a ≡ true
rests_by true b is on = refl
rests_by false true is on = absurd (cc on)
rests_by false false is on = absurd (cc is)

keeps_run : (c : Configuration) (steps : List Step) (end : End) (h : List Entry) (inner exit entry : Told) (d : Device) (back : IsBack c inner exit (part_at entry) (told_of d) (clock_of d)) (w : CameTo (one_part (part_at entry)) c cap steps end h (told_of d) (told_clock d))
    → AreValues h → IsRightSize (size_of c.geometry) inner.bytes → KeepsRun (run_of c h inner exit back.operations [] (Ran steps w.looks) end)
keeps_run c steps end h inner exit entry d back w values size = record {
  order = has_order r steps w.looks h refl w.started w.order;
  size = λ _. size;
  refusals = λ id. as_asked c id at_first h w.no_refusal;
  off = (offs_in h, unplanned 0 h, back.bridges.cuts (offs_in h) w.offs);
  counted = subst (λ (ks : List ℕ). CountsAll r.flash ks) w.came back.bridges.operations.counted;
  complete = λ calm. record { ends = w.no_fault; rests = λ other. rests_by (is_at_rest (after c h)) (after c h).off (w.ends other) (is_on c at_first h calm.entries refl) };
  exit = λ _. record { geometry = back.geometry; off = λ is. w.power (back.bridges.off is); plan = back.no_plan };
  turns =
      keeps_turns r true (part_at entry) (told_of d) (told_of d) (told_clock d) (told_clock d) (same_told (told_of d) (told_clock d) (told_of d) (told_clock d) refl (same_clock (told_clock d))) refl (λ told. told) bridge (Ran steps w.looks) w.first w.moves
      refl refl refl (λ fails. absurd (w.no_fault fails)) w.moved (record { tell = w.moved.tell; are = w.moved.are; behind = refl });
  values = values;
  early = λ told. begins_well (told_clock d) r (part_at entry) (told_of d) (w.early (bridge.tells told)) (uncut_bridges (beyond_end (told_clock d)) (reading_of (making_of c)) r.flash (part_at entry) (told_of d) w.came bridge) told;
  promise = λ told sound. callers_keep_promise (told_clock d) r steps w.looks (one_part (part_at entry)) (told_of d) (callers (bridge.slots told (sound_starts_compute (making_of c) r.flash sound))) w.came bridge back.wear;
  erases = λ told k unused has inside.
      let begins : BeginsUnused r = record { tells = told; legal = w.legal.geometry; shared = w.legal.shared; unused = unused } in
      erases_have_causes r begins (part_at entry) (told_of d) k
      (inl (callers_keep_promise (told_clock d) r steps w.looks (one_part (part_at entry)) (told_of d) (callers (bridge.slots told (sound_starts_compute (making_of c) r.flash (starts_sound r begins)))) w.came bridge back.wear)) has
      (record { none = refl; restarts = back.restarts; starts = w.starts; faults = back.bridges.faults }) inside;
}
  where
    r : Run
    r = run_of c h inner exit back.operations [] (Ran steps w.looks) end

    bridge : Bridges (reading_of (making_of c)) true r.flash (part_at entry) (told_of d) (beyond_end (told_clock d))
    bridge = told_bridge (reading_of (making_of c)) inner exit back.operations (part_at entry) d back.bridges

    callers : TellsSlots (told_of d) → KeepsCallers r steps w.looks (one_part (part_at entry)) (told_of d) (told_clock d)
    callers slots =
        let over = w.over slots in
        record {
          course = refl;
          alone = refl;
          uncut = refl;
          started = w.started;
          order = w.order;
          over = over;
          no_refusal = w.no_refusal;
          offs = w.offs;
          one = λ block. rw (back.parts (block * 64)) refl;
        }

-- it is this call's
ran_has : (c : Configuration) → c.eeprom ≡ None → (steps : List Step) (end : End) (h : List Entry) (Tells : Run → Type 0) (inner exit entry : Told) (d : Device) (back : IsBack c inner exit (part_at entry) (told_of d) (clock_of d))
    (w : CameTo (one_part (part_at entry)) c cap steps end h (told_of d) (told_clock d)) → AreValues h → IsRightSize (size_of c.geometry) inner.bytes → Tells (run_of c h inner exit back.operations [] (Ran steps w.looks) end) → HasRun mode.Run c steps Tells inner exit
ran_has c one steps end h Tells inner exit entry d back w values size tells = record {
  run = run_of c h inner exit back.operations [] (Ran steps w.looks) end;
  configuration = refl;
  one_device = one;
  most = refl;
  course = refl;
  at_entry = refl;
  at_exit = refl;
  beside = refl;
  ends = tells;
  keeps = keeps_run c steps end h inner exit entry d back w values size;
}

told_run : (c : Configuration) → c.eeprom ≡ None → (steps : List Step) (end : End) (h : List Entry) (inner exit entry : Told) (d : Device) (x : Status) (w w' : Written) (input : Option (List ℕ)) → IsBack c inner exit (part_at entry) (told_of d) (clock_of d)
    → CameTo (one_part (part_at entry)) c cap steps end h (told_of d) (told_clock d) → AreValues h → IsRightSize (size_of c.geometry) inner.bytes → WritesText (status_at end) h (lines_in History end h) w w' x
    → HasRun mode.Run c steps (EndsIn History (call_by mode.Run input x inner exit w w')) inner exit
told_run c one steps end h inner exit entry d status.Memory w w' input back came values size is =
    ran_has c one steps Memory h (EndsIn History (call_by mode.Run input status.Memory inner exit w w')) inner exit entry d back (wanting (one_part (part_at entry)) c cap steps end h (told_of d) (told_clock d) came) values size
    (ends_told mode.Run input inner exit w w' h (λ e. lines_in History e h) end status.Memory is)
told_run c one steps end h inner exit entry d x w w' input back came values size is =
    ran_has c one steps end h (EndsIn History (call_by mode.Run input x inner exit w w')) inner exit entry d back came values size (ends_told mode.Run input inner exit w w' h (λ e. lines_in History e h) end x is)

-- as it was written
in_text : (e : Ending) (h : List Entry) (w w' : Written) (x : Status) → WritesText (status_of_run (stop_of_ending e)) h (lines_written History (stop_of_ending e) h) w w' x → WritesText (status_at (end_of e)) h (lines_in History (end_of e) h) w w' x
in_text ending.All h w w' x is = is
in_text ending.NoRoom h w w' x is = is
in_text ending.Memory h w w' x is = is

pub written_run : (c : Configuration) → c.eeprom ≡ None → (steps : List Step) (e : Ending) (run : Result (Unit {0}) Stop) (h g : List Entry) (inner exit entry : Told) (d : Device) (x : Status) (w w' : Written) (input : Option (List ℕ)) → IsBack c inner exit (part_at entry) (told_of d) (clock_of d)
    → CameTo (one_part (part_at entry)) c cap steps (end_of e) h (told_of d) (told_clock d) → AreValues g → IsRightSize (size_of c.geometry) inner.bytes → run ≡ stop_of_ending e → g ≡ h → WritesText (status_of_run run) g (lines_written History run g) w w' x
    → HasRun mode.Run c steps (EndsIn History (call_by mode.Run input x inner exit w w')) inner exit
written_run c one steps e run h g inner exit entry d x w w' input back came values size is_run is_history is =
    told_run c one steps (end_of e) h inner exit entry d x w w' input back came (subst AreValues is_history values) size
    (in_text e h w w' x
    (subst (λ (r : Result (Unit {0}) Stop). WritesText (status_of_run r) h (lines_written History r h) w w' x) is_run
    (subst (λ (es : List Entry). WritesText (status_of_run run) es (lines_written History run es) w w' x) is_history is)))

-- nothing was written
pub unwritten_run : (c : Configuration) → c.eeprom ≡ None → (steps : List Step) (h : List Entry) (inner exit entry : Told) (d : Device) (w : Written) (input : Option (List ℕ)) → IsBack c inner exit (part_at entry) (told_of d) (clock_of d)
    → CameTo (one_part (part_at entry)) c cap steps Memory h (told_of d) (told_clock d) → AreValues h → IsRightSize (size_of c.geometry) inner.bytes
    → HasRun mode.Run c steps (EndsIn History (call_by mode.Run input status.Memory inner exit w w)) inner exit
unwritten_run c one steps h inner exit entry d w input back came values size =
    told_run c one steps Memory h inner exit entry d status.Memory w w input back came values size (0, Puts-nil w)

-- HOW IT ENDS
-- at none of the statuses before the attach

ended_late : (e : Ending) → IsBeforeAttach (status_of_run (stop_of_ending e)) → ⊥
ended_late ending.All is = is
ended_late ending.NoRoom is = is
ended_late ending.Memory is = is

pub callers_late : (e : Ending) (run : Result (Unit {0}) Stop) (x : Status) (entries : List Entry) (lines : List (List ℕ)) (w w' : Written) → run ≡ stop_of_ending e → WritesText (status_of_run run) entries lines w w' x → IsBeforeAttach x → ⊥
callers_late e run x entries lines w w' is_run is =
    written_late (status_of_run run) x entries lines w w' (subst (λ (r : Result (Unit {0}) Stop). IsBeforeAttach (status_of_run r) → ⊥) (sym is_run) (ended_late e)) is
