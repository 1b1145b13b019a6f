-- The device is taken apart.
use Rattle.std.specs.Prelude.{IfSome, min, option_map}
use Rattle.std.proofs.Common.{◌≡◌, ◌≤◌, ◌+◌, ◌⊎◌, ℕ, true, false, List, [], ◌∷◌, Option, Some, None, length, refl, sym, ap, ◌∙◌, subst, inl, inr, arith}
use Rattle.std.proofs.Math.Nat.{eq-or-lt_of_le}
use Rattle.memif_fee_ea.specs.fee_core.nv_base.Count.{last_count, Rose}
use Rattle.memif_fee_ea.specs.fee_core.nv_base.declared.geometry.Geometry.{Geometry}
use Rattle.nvm_core.specs.block_config.Config.{Configuration}
use Rattle.memif_fee_ea.specs.fee_core.memif.Told.{PartTold, DeviceTold}
use Rattle.memif_fee_ea.specs.fee_core.memif.Clock.{Clock}
use Rattle.memif_fee_ea.specs.fee_core.memif.Calls.{PowersUp}
use Rattle.memif_fee_ea.specs.fee_core.fls_told.Device.{FlashDevice, flash_told}
use Rattle.memif_fee_ea.specs.fee_core.fls_told.Clock.{flash_clock}
use Rattle.memif_fee_ea.specs.fee_core.promise_device.Reading.{Reading}
use Rattle.nvm_core.specs.nvm_found.Found.{FailsToFind}
use Rattle.memif_fee_ea.specs.fee_core.fls_model.Told.{Told, ToldBytes, Change, IfBothTold, changes_in}
use Rattle.fls_devices.specs.Cutter.{Cutting, OnlyCuts, cutting, told_cutting}
use Rattle.memif_fee_ea.specs.fee_core.promise_device.Making.{Making}
use Rattle.memif_fee_ea.specs.fee_core.promise_device.Bridge.{Bridges, reading_of}
use Rattle.memif_fee_ea.specs.fee_core.promise_device.Wear.{OperationsAreDue}
use Rattle.memif_fee_ea.specs.fee_core.promise_device.SwitchErases.{RestartsAreFew}
use Rattle.memif_fee_ea.specs.fee_core.promise_device.FlashRun.{IsChain}
use Rattle.memif_fee_ea.specs.fee_core.promise_device.Image.{attached}
use Rattle.memif_fee_ea.specs.fee_core.fee_told.Device.{Device, flash_device, told_of, clock_of}
use Rattle.memif_fee_ea.specs.fee_core.fee_laws.Made.{IsMadeOf, part_at}
use Rattle.nvm_core.specs.Stack.{StackState, first_stack}
use Rattle.nvm_core.specs.StartUps.{Starts, FailsToStart}
use Rattle.nvm_core.specs.nvm_laws.declared.turned.FoundAnswer.{FoundAnswer}
use Rattle.nvm_core.specs.nvm_laws.declared.turned.FoundAnswer.TheVariants as found
use Rattle.promise_run.specs.Promise.{making_of}
use Rattle.nvm_flash.specs.declared.device.MakeFault.{MakeFault}
use Rattle.nvm_flash.specs.declared.device.MakeFault.TheVariants.{Flash, Memory}
use Rattle.nvm_flash.specs.Turns.{fixed_by}
use Rattle.nvm_flash.specs.CutterLaws.{run_of_cutter}
use Rattle.nvm_flash.specs.Made.{IsOrigin, IsCause, MissesSecond, ComesBack, LeavesOne, IsPartBack, IsBack, IsBackFrom, AreOfFirst, IsMadeWith, IsUnstarted}
use Rattle.nvm_flash.proofs.CutterRuns.{devices_bridge, tells_over, starts_over}
use Rattle.nvm_flash.proofs.CutterUnmade.{counts_stay_within, tells_within}

none_made : (n : ℕ) (xs : List Change) → n ≡ length xs → min n last_count ≡ 0 → xs ≡ []
none_made n [] is none = refl
none_made n (x ∷ xs) is none = absurd (omega (arith, is, none))

-- of any device over a flash, whatever it keeps there
pub part_back : (r : Reading) (inner : Told) (cuts : ℕ) (entry exit : Told) (k : Cutting) (d : FlashDevice) → entry ≡ told_cutting (cutting inner cuts) → OnlyCuts k → exit ≡ k.flash.inner
    → told_cutting k ≡ d.flash → IfSome (changes_in (told_cutting k).bytes) (λ changes. changes ≡ d.operations) → (d.operations ≡ [] → ((told_cutting k).ops ≡ entry.ops) × ((told_cutting k).cuts ≡ entry.cuts)) → entry.faults ≤ (told_cutting k).faults
    → (told_cutting k).geometry ≡ r.geometry → Bridges r false (record { entry = entry; exit = told_cutting k; operations = d.operations }) (part_at entry) (flash_told d) (flash_clock d)
    → IsPartBack r inner exit d.operations (part_at entry) (flash_told d) (flash_clock d)
part_back r inner cuts entry exit k d over only is_exit told changes none more shape bridge =
    subst (λ (e : Told). IsPartBack r inner exit d.operations (part_at e) (flash_told d) (flash_clock d)) (sym over)
    (subst (λ (x : Told). IsPartBack r inner x d.operations (part_at (told_cutting (cutting inner cuts))) (flash_told d) (flash_clock d)) (sym is_exit) (record {
      bridges = devices_bridge r inner cuts k d (part_at (told_cutting (cutting inner cuts))) only (record { told = told; changes = changes }) refl refl
          (subst (λ (e : Told). Bridges r false (record { entry = e; exit = told_cutting k; operations = d.operations }) (part_at e) (flash_told d) (flash_clock d)) over bridge);
      geometry = shape;
      no_plan = only.no_plan;
      faults = (tells_within k only).1 ∙ ap (λ t. t.faults) told;
      more = let entry_is = ap (λ t. t.faults) over in let within = (tells_within k only).1 in omega (arith, entry_is, within, more);
      none = λ no_ops unplanned.
          let empty : d.operations ≡ [] = none_made (length d.operations) d.operations refl no_ops in
          let stays = none empty in
          let within = counts_stay_within inner cuts k only (record { ops = stays.0 ∙ ap (λ t. t.ops) over; cuts = stays.1 ∙ ap (λ t. t.cuts) over }) (ap (λ t. t.planning.unplanned) told ∙ unplanned) in
          (empty, within.ops, within.cuts);
    }))

-- over banks
pub back : (m : Making) (inner : Told) (cuts : ℕ) (making : Making) (entry exit : Told) (k : Cutting) (d : Device) → making ≡ m → entry ≡ told_cutting (cutting inner cuts) → OnlyCuts k → exit ≡ k.flash.inner
    → told_cutting k ≡ d.flash → IfSome (changes_in (told_cutting k).bytes) (λ changes. changes ≡ d.operations) → (d.operations ≡ [] → ((told_cutting k).ops ≡ entry.ops) × ((told_cutting k).cuts ≡ entry.cuts)) → entry.faults ≤ (told_cutting k).faults
    → (told_cutting k).geometry ≡ making.geometry → AreOfFirst d → Bridges (reading_of making) false (record { entry = entry; exit = told_cutting k; operations = d.operations }) (part_at entry) (told_of d) (clock_of d)
    → OperationsAreDue making (record { entry = entry; exit = told_cutting k; operations = d.operations }) → RestartsAreFew making d.operations (told_of d)
    → IsBackFrom m inner exit (part_at entry) (told_of d) (clock_of d)
back m inner cuts making entry exit k d made_for over only is_exit told changes none more shape parts bridge wear restarts =
    let by = part_back (reading_of m) inner cuts entry exit k (flash_device d) over only is_exit told changes none more (shape ∙ ap (λ (x : Making). x.geometry) made_for)
    (subst (λ (x : Making). Bridges (reading_of x) false (record { entry = entry; exit = told_cutting k; operations = d.operations }) (part_at entry) (told_of d) (clock_of d)) made_for bridge) in record {
      operations = d.operations;
      bridges = by.bridges;
      wear = subst (λ (x : Told). OperationsAreDue m (record { entry = inner; exit = x; operations = d.operations })) (sym is_exit) (λ tells starts.
          subst (λ (x : Making). OperationsAreDue x (run_of_cutter inner cuts k d.operations)) made_for
          (subst (λ (e : Told). OperationsAreDue making (record { entry = e; exit = told_cutting k; operations = d.operations })) over wear)
          (tells_over inner cuts k d.operations tells) (starts_over m inner cuts k d.operations starts));
      restarts = subst (λ (x : Making). RestartsAreFew x d.operations (told_of d)) made_for restarts;
      parts = parts;
      geometry = by.geometry;
      no_plan = by.no_plan;
      faults = by.faults;
      more = by.more;
      none = by.none;
    }

-- WITHOUT AN OPERATION

chain_left : (first last : List ℕ) (xs : List Change) → xs ≡ [] → IsChain first xs last → last ≡ first
chain_left first last [] none chain = chain
chain_left first last (x ∷ xs) none chain = cc none

both_told : (g : Geometry) (a b : Option ToldBytes) → IfBothTold a b (λ x y. Unit {0}) → ((first last : List ℕ) → option_map (λ y. y.now) a ≡ Some first → option_map (λ y. y.now) b ≡ Some last → last ≡ attached g first)
    → IfBothTold (option_map (λ y. y.now) a) (option_map (λ y. y.now) b) (λ old new. (new ≡ old) ⊎ (new ≡ attached g old))
both_told g (Some x) (Some y) alike chain = inr (chain x.now y.now refl refl)
both_told g None None alike chain = tt
both_told g (Some x) None alike chain = absurd alike
both_told g None (Some y) alike chain = absurd alike

-- the flash was left without an operation
pub left_by : (r : Reading) (inner exit : Told) (operations : List Change) (before : PartTold) (now : DeviceTold) (clock : Clock) → IsPartBack r inner exit operations before now clock → now.ops ≡ 0 → now.first.planning.unplanned ≡ inner.cuts → LeavesOne r.geometry inner exit
left_by r inner exit operations before now clock back no_ops unplanned =
    let (empty, ops, cuts) = back.none no_ops unplanned in record {
      flash = record {
        none = refl;
        ops = ops;
        bytes = both_told r.geometry inner.bytes exit.bytes back.bridges.operations.told_alike
            (λ first last one two. chain_left (attached r.geometry first) last operations empty (back.bridges.operations.chain (record { first = first; entry = one; last = last; exit = two })));
      };
      faults = back.more;
      cuts = omega (arith, cuts);
    }

-- of a device over banks
pub part_of : (m : Making) (inner exit : Told) (before : PartTold) (now : DeviceTold) (clock : Clock) (back : IsBackFrom m inner exit before now clock) → IsPartBack (reading_of m) inner exit back.operations before now clock
part_of m inner exit before now clock back = record { bridges = back.bridges; geometry = back.geometry; no_plan = back.no_plan; faults = back.faults; more = back.more; none = back.none }

pub comes_back : (c : Configuration) (inner exit : Told) (before : PartTold) (now : DeviceTold) (clock : Clock) (fault : MakeFault) → IsBack c inner exit before now clock → now.ops ≡ 0 → now.first.planning.unplanned ≡ inner.cuts
    → IsCause c fault inner exit → MissesSecond c fault → ComesBack c fault inner exit
comes_back c inner exit before now clock fault back no_ops unplanned cause second =
    let left = left_by (reading_of (making_of c)) inner exit back.operations before now clock (part_of (making_of c) inner exit before now clock back) no_ops unplanned in
    record { cause = cause; second = second; flash = left.flash; faults = left.faults; cuts = left.cuts }

-- a device that was made alone
pub made_back : (c : Configuration) (inner : Told) (cuts : ℕ) (making : Making) (entry exit : Told) (d e : Device) → IsOrigin c inner cuts making entry → c.eeprom ≡ None → IsMadeOf making entry d → e ≡ d
    → IsBack c inner exit (part_at entry) (told_of e) (clock_of e) → ComesBack c Memory inner exit
made_back c inner cuts making entry exit d e origin one made same back =
    let part : (told_of e).first ≡ part_at entry = ap (λ (x : Device). (told_of x).first) same ∙ made.part in
    let from : part_at entry ≡ part_at (told_cutting (cutting inner cuts)) = ap part_at origin.over in
    comes_back c inner exit (part_at entry) (told_of e) (clock_of e) Memory back (ap (λ (x : Device). (told_of x).ops) same ∙ made.ops) (ap (λ p. p.planning.unplanned) (part ∙ from)) tt one

-- a device whose first start-up failed by a fault
rose_with : (a b d e : ℕ) → Rose a b → (b + d ≤ a + e) ⊎ (last_count ≤ e) → a ≡ 0 → d ≤ e → Rose d e
rose_with a b d e (inl more) (inl tied) none less = inl (omega (arith, more, tied))
rose_with a b d e (inr (full, stays)) (inl tied) none less = absurd (omega (arith, full, none))
rose_with a b d e rose (inr end) none less = elim (eq-or-lt_of_le less) [ inl same ↦ inr (omega (arith, same, end), less) | inr more ↦ inl more ]

-- a part's faults rose, and so did the flash's
pub flash_rose : (entry exit : Told) (p q : PartTold) → p ≡ part_at entry → PowersUp p q → Rose p.faults q.faults → exit.faults ≡ q.flash_faults → Rose entry.faults exit.faults
flash_rose entry exit p q part up rose at =
    let flash : p.flash_faults ≡ entry.faults = ap (λ (x : PartTold). x.flash_faults) part in
    subst (λ (n : ℕ). Rose entry.faults n) (sym at) (subst (λ (n : ℕ). Rose n q.flash_faults) flash (rose_with p.faults q.faults p.flash_faults q.flash_faults rose up.faults.tied (ap (λ (x : PartTold). x.faults) part) up.faults.flash))

pub failed_back : (c : Configuration) (inner : Told) (cuts : ℕ) (making : Making) (entry exit : Told) (d e : Device) → IsOrigin c inner cuts making entry → c.eeprom ≡ None → IsMadeOf making entry d → FailsToFind (told_of d) (told_of e)
    → IsBack c inner exit (part_at entry) (told_of e) (clock_of e) → ComesBack c Flash inner exit
failed_back c inner cuts making entry exit d e origin one made fails back =
    comes_back c inner exit (part_at entry) (told_of e) (clock_of e) Flash back
    (fails.restarted.ops ∙ made.ops) (ap (λ p. p.planning.unplanned) up.only ∙ ap (λ p. p.planning.unplanned) (made.part ∙ ap part_at origin.over))
    (subst (λ (n : ℕ). Rose n exit.faults) (ap (λ t. t.faults) origin.over ∙ same) (flash_rose entry exit (told_of d).first (told_of e).first made.part up (in_first fails.faults) back.faults)) one
  where
    up : PowersUp (told_of d).first (told_of e).first
    up = fails.restarted.first

    same : (told_cutting (cutting inner cuts)).faults ≡ inner.faults
    same = omega arith

    in_first : Rose (told_of d).first.faults (told_of e).first.faults ⊎ Rose (told_of d).second.faults (told_of e).second.faults → Rose (told_of d).first.faults (told_of e).first.faults
    in_first (inl is) = is
    in_first (inr (inl more)) = absurd (omega (arith, more))
    in_first (inr (inr (full, stays))) = absurd (omega (arith, full))

-- a stack that was made of such a device
pub made_stack : {C : Type 0} (c : Configuration) (most : ℕ) (making : Making) (entry : Told) (s : StackState Device C) (d : Device) (copies : C)
    → s ≡ first_stack c most d copies → IsMadeOf making entry d → AreOfFirst d → (told_of d).fixed ≡ fixed_by c → 2 ≤ most → c.eeprom ≡ None → IsMadeWith c most making entry copies s
made_stack {C} c most making entry s d copies same made parts fixed room one = record {
  device = subst (λ (x : Device). IsMadeOf making entry x) own made;
  parts = subst AreOfFirst own parts;
  fixed = subst (λ (x : Device). (told_of x).fixed ≡ fixed_by c) own fixed;
  only = subst (λ (x : Device). s ≡ first_stack c most x copies) own same;
  room = room;
  one_device = one;
}
  where
    own : d ≡ s.device
    own = sym (ap (λ t. t.device) same)

-- its copies are those that it was made with
pub own_copies : {C : Type 0} (c : Configuration) (most : ℕ) (making : Making) (entry : Told) (copies : C) (s : StackState Device C) → IsMadeWith c most making entry copies s → IsMadeWith c most making entry s.copies s
own_copies {C} c most making entry copies s made = subst (λ (x : C). IsMadeWith c most making entry x s) (sym (ap (λ t. t.copies) made.only)) made

-- it is a stack before its first start-up
pub unstarted : {C : Type 0} (making : Making) (entry : Told) (copies : C) (s : StackState Device C) → IsMadeWith s.desk.config s.desk.cap making entry s.copies s → IsUnstarted s
unstarted {C} making entry copies s made = record { only = made.only; room = made.room }

-- the first start-up has room and memory
pub fails_alone : {D C : Type 0} (told : D → DeviceTold) (old new : StackState D C) (a : FoundAnswer) → IsUnstarted old → (a ≡ found.Failed) ⊎ ((a ≡ found.NoRoom) ⊎ (a ≡ found.Memory))
    → Starts told a old new → FailsToStart told old new
fails_alone told old new found.Failed made is starts = starts
fails_alone told old new found.NoRoom made is starts =
    absurd (let full = starts.1 in let none = ap (λ s. length s.desk.entries) made.only in let room = made.room in omega (arith, full, none, room))
fails_alone told old new found.Memory made is starts = let no_ : true ≡ false = sym (ap (λ s. s.has_room) made.only) ∙ starts.1 in absurd (cc no_)
fails_alone told old new found.Ready made (inl is) starts = absurd (cc is)
fails_alone told old new found.Ready made (inr (inl is)) starts = absurd (cc is)
fails_alone told old new found.Ready made (inr (inr is)) starts = absurd (cc is)
