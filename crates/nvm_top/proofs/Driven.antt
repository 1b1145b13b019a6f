-- The stack over a flash: what it is behind its first start-up, and what its flash comes back with.
use Rattle.std.specs.Prelude.{◌||◌, not, IfSome, IfOk, option_map, min, nat_lt}
use Rattle.std.proofs.Common.{◌≡◌, ◌≢◌, ◌≤◌, ◌+◌, ◌*◌, ◌⊎◌, ◌++◌, ℕ, Bool, true, false, List, [], ◌∷◌, Option, Some, None, Result, Ok, Err, length, refl, sym, ap, ◌∙◌, subst, inl, inr, arith}
use Rattle.std.proofs.Math.Nat.{eq-or-lt_of_le}
use Rattle.nvm_flash.specs.nv_base.Count.{last_count, Rose, WereCounted}
use Rattle.nvm_flash.specs.nv_base.Geometry.{size_of}
use Rattle.nvm_flash.specs.nv_base.declared.geometry.Geometry.{Geometry}
use Rattle.nvm_flash.specs.block_config.Config.{Configuration}
use Rattle.nvm_flash.specs.block_config.Rules.{IsLegalConfig}
use Rattle.nvm_flash.specs.block_machine.State.{State, Job}
use Rattle.nvm_flash.specs.block_machine.Words.{Entry, Found}
use Rattle.nvm_flash.specs.memif.Told.{DeviceTold, Part, PartTold, Fixed, First, faults_of, figures_at}
use Rattle.nvm_flash.specs.memif.Calls.{InOrder}
use Rattle.nvm_flash.specs.fls_model.Told.{Told, ToldBytes, Change, IfBothTold, bytes_now}
use Rattle.nvm_flash.specs.fls_devices.Cutter.{cutting, told_cutting}
use Rattle.nvm_flash.specs.promise_device.Making.{Making}
use Rattle.nvm_flash.specs.promise_device.Bridge.{Bridges, reading_of}
use Rattle.nvm_flash.specs.promise_device.Wear.{OperationsAreDue}
use Rattle.nvm_flash.specs.promise_device.FlashRun.{TellsBytes, StartsSound}
use Rattle.nvm_flash.specs.fee_told.Device.{Device, told_of, clock_of}
use Rattle.nvm_flash.specs.fee_core.Tells.{told_clock}
use Rattle.nvm_flash.specs.fee_laws.Made.{part_at}
use Rattle.nvm_flash.specs.ram_blocks.declared.plain_block.PlainBlock.{PlainBlock}
use Rattle.nvm_flash.specs.ram_blocks.Plain.{plain_blocks_of}
use Rattle.nvm_flash.specs.nv_desk.Desk.{DeskState}
use Rattle.nvm_flash.specs.nv_desk.Recorder.{keeps}
use Rattle.nvm_flash.specs.job_progress.Hand.{HandState}
use Rattle.nvm_flash.specs.promise_blocks.OverDevice.{KeepsOver, KeepsEarly}
use Rattle.nvm_flash.specs.nvm_device_laws.Turn.{TellsSlots, down}
use Rattle.nvm_flash.specs.nvm_core.Stack.{StackState}
use Rattle.nvm_flash.specs.nvm_core.StartUps.{StartsUp}
use Rattle.nvm_flash.specs.nvm_laws.Keeps.{StackKeepsAsTold}
use Rattle.nvm_flash.specs.promise_run.Run.{Played, cap}
use Rattle.nvm_flash.specs.promise_run.Promise.{making_of}
use Rattle.nvm_flash.specs.promise_run.Halves.{HalvesMakeIt}
use Rattle.script_player.specs.script_walks.Texts.{AreValues}
use Rattle.nvm_callers.specs.nvm_moves.Beginning.{BeginsMoves}
use Rattle.nvm_callers.proofs.nvm_moves.Beginning.{all_of_first, on_is_uncut, one_part_has_blocks, one_part_is_simple, start_work}
use Rattle.nvm_flash.specs.nvm_core.Operations.{left_on}
use Rattle.script_player.specs.Made.{IsFresh}
use Rattle.script_player.specs.PlainTold.{told_by}
use Rattle.script_player.specs.PlainKept.{IsKept, AreStartsFound}
use Rattle.nvm_flash.specs.declared.device.MakeFault.{MakeFault}
use Rattle.nvm_flash.specs.declared.device.MakeFault.TheVariants as fault
use Rattle.nvm_flash.specs.job_progress.JobInHand.{program_for}
use Rattle.nvm_flash.specs.promise_run.Operations.{costs_of}
use Rattle.nvm_flash.proofs.Costs.{costs_are_figures, reads_take_one}
use Rattle.nvm_flash.specs.nvm_core.DeviceWork.{IsSimple, costs_in, work_in}
use Rattle.nvm_flash.proofs.StartWork.{first_leaves}
use Rattle.nvm_flash.specs.nvm_figures.Left.{most_turns}
use Rattle.nvm_flash.specs.Turns.{fixed_by}
use Rattle.nvm_flash.proofs.JobTurns.{job_turns_are_figures, write_pages_are_figures}
use Rattle.nvm_flash.specs.promise_run.JobTurns.{job_turns}
use Rattle.nvm_flash.proofs.FirstStart.{told_bridge}
use Rattle.script_player.proofs.Fresh.{is_fresh}
use Rattle.nvm_flash.proofs.DownCalls.{over_with}
use Rattle.nvm_flash.proofs.Readings.{sound_starts_compute}
use Rattle.nvm_flash.proofs.Composition.{begins_well}
use Rattle.nvm_flash.specs.Made.{IsOrigin, IsMadeStack, AreOfFirst, ComesBack, IsBack, one_part}
use Rattle.nvm_flash.specs.promise_device.SwitchErases.{RestartsAreFew}
use Rattle.nvm_flash.specs.promise_blocks.Operations.{founds}
use Rattle.nvm_flash.specs.nvm_core.Paying.{counted_of, TriesSince, has_urgent}
use Rattle.script_player.specs.PlainPaying.{seen_by}
use Rattle.nvm_flash.specs.nvm_core.DueWrites.{AreFirst, pages_in}
use Rattle.nvm_top.specs.Stack.{IsStarted, StopsAtStart, Vouches, run_of, stop_of_make, KeepsPlayed}
use Rattle.nvm_flash.specs.fls_model.Attach.{IsFilled}
use Rattle.nvm_top.specs.Play.{IsRightSize, IsWrongSize}
use Rattle.nvm_lines.specs.declared.stop.Stop.{Stop}

-- THE HISTORY
-- that of a program is kept
pub keeps_history : (most : ℕ) → most ≡ cap → keeps most ≡ true
keeps_history most is = rw is refl

-- WITHOUT A START-UP

same_length : (o : Option ToldBytes) (found need : ℕ) → IfSome o (λ b. (length b.now ≡ found) × (found ≢ 0) × (found ≢ need)) → IfSome o (λ b. length b.now ≡ found)
same_length None found need is = tt
same_length (Some b) found need is = is.0

wrong_length : (o : Option ToldBytes) (found need : ℕ) → IfSome o (λ b. (length b.now ≡ found) × (found ≢ 0) × (found ≢ need)) → IsWrongSize need o
wrong_length None found need is = tt
wrong_length (Some b) found need is = (λ none. is.1 (sym is.0 ∙ none), λ whole. is.2 (sym is.0 ∙ whole))

pub stops : (c : Configuration) (why : MakeFault) (s t : Told) → ComesBack c why s t → StopsAtStart c s t (stop_of_make why (size_of c.geometry))
stops c (fault.WrongSize found) s t back = record {
  why = (same_length s.bytes found (size_of c.geometry) back.cause.0, refl);
  second = back.second;
  end = (wrong_length s.bytes found (size_of c.geometry) back.cause.0, back.cause.1);
  flash = back.flash;
  faults = back.faults;
  cuts = back.cuts;
}
stops c fault.Flash s t back = record { why = tt; second = back.second; end = back.cause; flash = back.flash; faults = back.faults; cuts = back.cuts }
stops c fault.NoSecond s t back = record { why = tt; second = back.second; end = back.cause; flash = back.flash; faults = back.faults; cuts = back.cuts }
stops c fault.InUse s t back = record { why = tt; second = back.second; end = back.cause; flash = back.flash; faults = back.faults; cuts = back.cuts }
stops c fault.Memory s t back = record { why = tt; second = back.second; end = tt; flash = back.flash; faults = back.faults; cuts = back.cuts }

-- THE FIRST START-UP

pub if_ok : {X E : Type 0} {P Q R : X → Type 0} (r : Result X E) → IfOk r P → IfOk r Q → ((x : X) → P x → Q x → R x) → IfOk r R
if_ok (Ok x) p q from = from x p q
if_ok (Err e) p q from = tt

-- WHERE THE FLASH TELLS ITS BYTES

now_told : (o : Option ToldBytes) (f : ToldBytes → Option (List Change)) → option_map (λ (b : ToldBytes). b.now) (option_map {T = ToldBytes} {U = ToldBytes} (λ b. record { now = b.now; changes = f b; room = b.room }) o) ≡ option_map (λ (b : ToldBytes). b.now) o
now_told None f = refl
now_told (Some b) f = refl

-- its flash has the configuration's size, or had no bytes
filled_size : (g : Geometry) (x y : Option ToldBytes) → IfBothTold x y (IsFilled g) → IsRightSize (size_of g) x
filled_size g None y is = tt
filled_size g (Some a) None is = absurd is
filled_size g (Some a) (Some b) is = is.size

some_now : (x y : List ℕ) → Some x ≡ Some y → x ≡ y
some_now x y is = cc

size_now : (need : ℕ) (x y : Option ToldBytes) → option_map (λ (b : ToldBytes). b.now) x ≡ option_map (λ (b : ToldBytes). b.now) y → IsRightSize need x → IsRightSize need y
size_now need x None same is = tt
size_now need None (Some b) same is = cc same
size_now need (Some a) (Some b) same is = subst (λ (l : List ℕ). (l ≡ []) ⊎ (length l ≡ need)) (some_now a.now b.now same) is

pub right_size : (c : Configuration) (inner : Told) (cuts : ℕ) (making : Making) (entry : Told) (m : StackState Device (List PlainBlock)) → IsOrigin c inner cuts making entry → IsMadeStack c cap making entry m → IsRightSize (size_of c.geometry) inner.bytes
right_size c inner cuts making entry m origin made =
    let bytes : bytes_now m.device.entry ≡ bytes_now inner = ap bytes_now (made.device.told_entry ∙ origin.over) ∙ now_told inner.bytes _ in
    let whole : IsRightSize (size_of m.device.making.geometry) m.device.entry.bytes = filled_size m.device.making.geometry m.device.entry.bytes m.device.flash.bytes made.device.made.attaches.bytes in
    size_now (size_of c.geometry) m.device.entry.bytes inner.bytes bytes (subst (λ (x : Making). IsRightSize (size_of x.geometry) m.device.entry.bytes) (made.device.making ∙ origin.made_for) whole)

-- WHAT IS TOLD BEHIND IT

pub started : (c : Configuration) (inner : Told) (cuts : ℕ) (making : Making) (entry : Told) (m s : StackState Device (List PlainBlock)) → IsLegalConfig c → IsOrigin c inner cuts making entry → IsMadeStack c cap making entry m → StartsUp told_of m s → IsStarted c cuts (part_at entry) (told_by told_of s)
started c inner cuts making entry m s legal origin made starts = record {
  configuration = config;
  legal = legal;
  one_device = made.one_device;
  most = ap (λ x. x.desk.cap) starts.only ∙ ap (λ x. x.desk.cap) made.only;
  fresh = fresh.0;
  ops = fresh.1;
  takes = let is = ap (λ p. p.planning.takes) starts.finds.up.restarted.first.only ∙ ap (λ p. p.planning.takes) part in omega (arith, is);
  one = ap (λ (f : Fixed). not f.two) (starts.finds.up.restarted.fixed ∙ made.fixed);
  none = refl;
  faults = omega arith;
  unplanned =
      let is = ap (λ p. p.planning.unplanned) starts.finds.up.restarted.first.only ∙ ap (λ p. p.planning.unplanned) part in
      let over = ap (λ x. x.planning.unplanned) origin.over in omega (arith, is, over);
  came = ap (λ p. p.planning.came) starts.finds.up.restarted.first.only ∙ ap (λ p. p.planning.came) part;
  on = ap (λ t. t || (told_of s.device).second.off) starts.finds.up.first_on;
}
  where
    config : s.desk.config ≡ c
    config = ap (λ x. x.desk.config) starts.only ∙ ap (λ x. x.desk.config) made.only

    fresh : (fresh : IsFresh (told_by told_of s)) × (fresh.ops ≡ (told_by told_of s).ops)
    fresh = is_fresh told_of m s (ap (λ x. x.desk.entries) made.only) (ap (λ x. x.copies) made.only ∙ ap (λ x. plain_blocks_of x.desk.config) (sym made.only)) starts

    part : (told_of m.device).first ≡ part_at (told_cutting (cutting inner cuts))
    part = made.device.part ∙ ap part_at origin.over

is_kept : (before : Part → PartTold) (m s t : StackState Device (List PlainBlock)) → t ≡ s → StartsUp told_of m s → StackKeepsAsTold before s.desk None (told_of s.device) (told_clock s.device)
    → IsKept t.ready before t.desk t.hand (told_of t.device) (told_clock t.device)
is_kept before m s t same starts keeps =
    subst (λ (x : StackState Device (List PlainBlock)). IsKept x.ready before x.desk x.hand (told_of x.device) (told_clock x.device)) (sym same)
    (subst (λ (b : Bool). IsKept b before s.desk s.hand (told_of s.device) (told_clock s.device)) (sym (ap (λ x. x.ready) starts.only))
    (subst (λ (h : Option HandState). StackKeepsAsTold before s.desk h (told_of s.device) (told_clock s.device)) (sym (ap (λ x. x.hand) starts.only)) keeps))

-- no job is in hand
none_owed : (before : Part → PartTold) (m s t : StackState Device (List PlainBlock)) → t ≡ s → StartsUp told_of m s → IfSome t.hand (λ h. TriesSince (told_clock t.device).worn (has_urgent t.desk) (faults_of (told_of t.device)) (counted_of (told_of t.device)) h.program)
none_owed before m s t same starts =
    let none : t.hand ≡ None = ap (λ x. x.hand) same ∙ ap (λ x. x.hand) starts.only in
    subst (λ (h : Option HandState). IfSome h (λ x. TriesSince (told_clock t.device).worn (has_urgent t.desk) (faults_of (told_of t.device)) (counted_of (told_of t.device)) x.program)) (sym none) tt

-- its numbers are all of its one part, and a read takes a turn
simple_up : (c : Configuration) (making : Making) (entry : Told) (m : StackState Device (List PlainBlock)) → IsMadeStack c cap making entry m → IsSimple (told_of m.device).fixed
simple_up c making entry m made = one_part_is_simple (told_of m.device).fixed made.parts (λ n. subst (λ (f : Fixed). (figures_at f n).read ≤ 1) (sym made.fixed) (reads_take_one c n))

-- its start-up is the one that its history tells
starts_up : (c : Configuration) (making : Making) (entry : Told) (m s t : StackState Device (List PlainBlock)) → t ≡ s → StartsUp told_of m s → IsMadeStack c cap making entry m → AreStartsFound t.ready t.desk (told_of t.device)
starts_up c making entry m s t same starts made =
    let none : (told_of m.device).starts ≡ 0 = made.device.starts in
    let more = starts.finds.up.restarted.starts in
    let one : founds s.desk.entries ≡ 1 = ap (λ (x : StackState Device (List PlainBlock)). founds x.desk.entries) starts.only ∙ ap (λ (h : List Entry). founds (h ++ Found starts.marks (told_of s.device).ops ∷ [])) (ap (λ x. x.desk.entries) made.only) in
    subst (λ (x : StackState Device (List PlainBlock)). AreStartsFound x.ready x.desk (told_of x.device)) (sym same)
    (subst (λ (b : Bool). AreStartsFound b s.desk (told_of s.device)) (sym (ap (λ x. x.ready) starts.only)) (omega (arith, none, more, one)))

-- it made one more at most
founds_least : (ready : Bool) (desk : DeskState) (d : DeviceTold) → AreStartsFound ready desk d → d.starts ≤ founds desk.entries + 1
founds_least true desk d are = omega (arith, are)
founds_least false desk d are = omega (arith, are)

-- where its moves begin
first_begins : (c : Configuration) (making : Making) (entry : Told) (before : Part → PartTold) (m s : StackState Device (List PlainBlock)) → IsLegalConfig c → InOrder (told_of s.device) (told_clock s.device) → StartsUp told_of m s → IsMadeStack c cap making entry m
    → StackKeepsAsTold before s.desk None (told_of s.device) (told_clock s.device) → BeginsMoves (seen_by told_of told_clock s)
first_begins c making entry before m s legal order starts made keeps =
    let fixed : (told_of s.device).fixed ≡ fixed_by c = starts.finds.up.restarted.fixed ∙ made.fixed in
    let config : s.desk.config ≡ c = ap (λ x. x.desk.config) starts.only ∙ ap (λ x. x.desk.config) made.only in
    let simple = simple_up c making entry m made in
    let parts : AreFirst (told_of s.device).fixed = subst AreFirst (sym starts.finds.up.restarted.fixed) made.parts in
    let (few, is) = start_work (told_of s.device) (told_clock s.device) order starts.finds.at_rest (nat_lt 0 (faults_of (told_of s.device))) (first_leaves starts.marks (told_of m.device) (told_of s.device) starts.finds simple) in record {
      between = refl;
      marks = starts.marks;
      entries = ap (λ x. x.desk.entries) starts.only ∙ ap (λ x. x.desk.entries ++ Found starts.marks (told_of s.device).ops ∷ []) made.only;
      first = all_of_first (told_of s.device).fixed parts;
      pages = λ x id all. ap (λ (f : Fixed). pages_in f s.desk.config x id) fixed ∙ ap (λ (y : Configuration). pages_in (fixed_by y) s.desk.config x id) (sym config) ∙ write_pages_are_figures s.desk.config x id;
      reserve = ap (λ (f : Fixed). f.reserve) fixed ∙ ap (λ (x : Configuration). (making_of x).reserve) (sym config);
      costs = ap costs_in fixed ∙ costs_are_figures c legal made.one_device ∙ ap costs_of (sym config);
      most =
          ap (λ (f : Fixed). λ (x : State) (j : Job). most_turns f (program_for s.desk.config x j)) fixed
          ∙ ap (λ (y : Configuration). λ (x : State) (j : Job). most_turns (fixed_by c) (program_for y x j)) config
          ∙ (λ i x j. job_turns_are_figures c legal made.one_device x j i)
          ∙ ap job_turns (sym config);
      simple = subst IsSimple (made.fixed ∙ sym fixed) simple;
      blocks = one_part_has_blocks s.desk.config (told_of s.device).fixed (subst IsLegalConfig (sym config) legal) parts;
      left = left_on (told_of s.device);
      few = few;
      is = is ∙ ap (λ (h : Option HandState). work_in h (told_of s.device)) (sym (ap (λ x. x.hand) starts.only));
      owes = (omega arith, none_owed before m s s refl starts);
      uncut = on_is_uncut s.desk (told_of s.device) starts.finds.up.first_on starts.finds.up.second_on;
      before = before;
      kept = is_kept before m s s refl starts keeps;
    }

pub kept_up : (c : Configuration) (making : Making) (entry : Told) (before : Part → PartTold) (m s t : StackState Device (List PlainBlock)) → IsLegalConfig c → InOrder (told_of t.device) (told_clock t.device) → t ≡ s → StartsUp told_of m s → IsMadeStack c cap making entry m → StackKeepsAsTold before s.desk None (told_of s.device) (told_clock s.device)
    → KeepsPlayed t.ready before t.desk t.hand (told_of t.device) (told_clock t.device) × BeginsMoves (seen_by told_of told_clock t)
kept_up c making entry before m s t legal order same starts made keeps = (
  (is_kept before m s t same starts keeps, starts_up c making entry m s t same starts made),
  subst (λ (x : StackState Device (List PlainBlock)). BeginsMoves (seen_by told_of told_clock x)) (sym same)
      (first_begins c making entry before m s legal (subst (λ (x : StackState Device (List PlainBlock)). InOrder (told_of x.device) (told_clock x.device)) same order) starts made keeps),
)

-- ITS END

over_of : (b : Bool) (before : Part → PartTold) (desk : DeskState) (hand : Option HandState) (d : Device) → IsKept b before desk hand (told_of d) (told_clock d) → TellsSlots (told_of d) → KeepsOver desk.config desk.cap desk.entries before (told_of d) (told_clock d)
over_of true before desk hand d keeps told = (keeps.all told).keeps.over
over_of false before desk hand d keeps told = over_with (told_of d).started desk.config desk.cap desk.entries before (down (told_of d)) (told_clock d) (keeps.keeps.all told).keeps.over

-- until the first operation
early_of : (b : Bool) (before : Part → PartTold) (desk : DeskState) (hand : Option HandState) (d : Device) → IsKept b before desk hand (told_of d) (told_clock d) → (told_of d).tells ≡ true → KeepsEarly desk.config desk.cap desk.entries (told_clock d)
early_of true before desk hand d keeps tells = keeps.early tells
early_of false before desk hand d keeps tells = keeps.keeps.early tells

counted_rose : (a b : ℕ) → WereCounted 1 a b → a ≤ b → Rose a b
counted_rose a b (inl more) less = inl (omega (arith, more))
counted_rose a b (inr end) less = elim (eq-or-lt_of_le less) [ inl same ↦ inr (omega (arith, same, end), less) | inr more ↦ inl more ]

once : (f n : ℕ) → n ≡ min (f + 0) last_count → Rose 0 n → WereCounted 1 0 f
once f n is (inl more) = inl (omega (arith, is, more))
once f n is (inr (full, stays)) = absurd (omega (arith, full))

pub vouched : (c : Configuration) (inner : Told) (cuts : ℕ) (making : Making) (entry exit : Told) (s : StackState Device (List PlainBlock)) (e : Device) → e ≡ s.device → HalvesMakeIt (told_clock e) → AreValues s.desk.entries → IsOrigin c inner cuts making entry → s.desk.config ≡ c → s.desk.cap ≡ cap
    → IsBack c inner exit (part_at entry) (told_of e) (clock_of e)
    → Vouches (KeepsPlayed s.ready (one_part (part_at entry)) s.desk s.hand (told_of s.device) (told_clock s.device)) (seen_by told_of told_clock s) (part_at entry) (told_by told_of s) inner exit
vouched c inner cuts making entry exit s e same halves values origin config most back = record {
  operations = back.operations;
  bridge = told_bridge (reading_of (making_of s.desk.config)) inner exit back.operations (part_at entry) s.device bridge;
  second = refl;
  counts = own.operations.counted;
  geometry = back.geometry ∙ ap (λ (x : Configuration). x.geometry) (sym config);
  off = λ is. ap (λ t. t || (told_of s.device).second.off) (own.off is);
  plan = back.no_plan;
  more = back.more;
  faults = λ rose. counted_rose inner.faults exit.faults (own.faults 1 (once (told_of s.device).first.faults (told_by told_of s).faults refl rose)) back.more;
  cuts = λ n counted. own.cuts n (subst (λ (k : ℕ). WereCounted n (part_at entry).planning.unplanned k) one_part_cuts counted);
  values = values;
  restarts = λ kept made left pieces end. (
    told_of s.device,
    record {
      none = refl;
      restarts =
          subst (λ (x : Configuration). RestartsAreFew (making_of x) back.operations (told_of s.device)) (sym config)
          (subst (λ (d : Device). RestartsAreFew (making_of c) back.operations (told_of d)) same back.restarts);
      starts = founds_least s.ready s.desk (told_of s.device) kept.1;
      faults = own.faults;
    },
  );
  early = λ kept told made left pieces end.
      begins_well (told_clock s.device) (run_of s.desk.config s.desk.entries inner exit back.operations (told_of s.device).first.planning.came (Played made pieces left) end) (part_at entry) (told_of s.device)
      (subst (λ (n : ℕ). KeepsEarly s.desk.config n s.desk.entries (told_clock s.device)) most (early_of s.ready (one_part (part_at entry)) s.desk s.hand s.device kept.0 (bridge.tells told)))
      (told_bridge (reading_of (making_of s.desk.config)) inner exit back.operations (part_at entry) s.device bridge) told;
  promise = λ kept told sound made left pieces end order refusals off.
      its (run_of s.desk.config s.desk.entries inner exit back.operations (told_of s.device).first.planning.came (Played made pieces left) end) (one_part (part_at entry)) (told_of s.device)
      (record {
        alone = refl;
        order = order;
        over = subst (λ (n : ℕ). KeepsOver s.desk.config n s.desk.entries (one_part (part_at entry)) (told_of s.device) (told_clock s.device)) most (over_of s.ready (one_part (part_at entry)) s.desk s.hand s.device kept.0 (slots told sound));
        refusals = refusals;
        off = (off.0, off.1, subst (λ (k : ℕ). WereCounted off.0 (part_at entry).planning.unplanned k) one_part_cuts off.2);
        came = refl;
        one = λ block. rw (parts (block * 64)) refl;
      })
      (told_bridge (reading_of (making_of s.desk.config)) inner exit back.operations (part_at entry) s.device bridge)
      (subst (λ (x : Configuration). OperationsAreDue (making_of x) (record { entry = inner; exit = exit; operations = back.operations })) (sym config) back.wear);
}
  where
    own : Bridges (reading_of (making_of c)) true (record { entry = inner; exit = exit; operations = back.operations }) (part_at entry) (told_of s.device) (clock_of s.device)
    own = subst (λ (d : Device). Bridges (reading_of (making_of c)) true (record { entry = inner; exit = exit; operations = back.operations }) (part_at entry) (told_of d) (clock_of d)) same back.bridges

    bridge : Bridges (reading_of (making_of s.desk.config)) true (record { entry = inner; exit = exit; operations = back.operations }) (part_at entry) (told_of s.device) (clock_of s.device)
    bridge = subst (λ (x : Configuration). Bridges (reading_of (making_of x)) true (record { entry = inner; exit = exit; operations = back.operations }) (part_at entry) (told_of s.device) (clock_of s.device)) (sym config) own

    slots : TellsBytes (record { entry = inner; exit = exit; operations = back.operations }) → StartsSound (making_of s.desk.config) (record { entry = inner; exit = exit; operations = back.operations }) → TellsSlots (told_of s.device)
    slots told sound = bridge.slots told (sound_starts_compute (making_of s.desk.config) (record { entry = inner; exit = exit; operations = back.operations }) sound)

    its : HalvesMakeIt (told_clock s.device)
    its = subst (λ (d : Device). HalvesMakeIt (told_clock d)) same halves

    one_part_cuts : (told_of s.device).first.planning.unplanned + 0 ≡ (told_of s.device).first.planning.unplanned
    one_part_cuts = omega arith

    parts : (n : ℕ) → (figures_at (told_of s.device).fixed n).part ≡ First
    parts = subst AreOfFirst same back.parts

-- a stack that wasn't started, by its own configuration
pub stops_by : (c d : Configuration) (why : MakeFault) (s t : Told) (g : Geometry) (x : Stop) → d ≡ c → g ≡ c.geometry → x ≡ stop_of_make why (size_of g) → ComesBack d why s t → StopsAtStart c s t x
stops_by c d why s t g x same shape is back =
    subst (λ (y : Stop). StopsAtStart c s t y) (sym (is ∙ ap (λ (h : Geometry). stop_of_make why (size_of h)) shape)) (stops c why s t (subst (λ (y : Configuration). ComesBack y why s t) same back))
