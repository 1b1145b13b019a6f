-- A flash and an EEPROM that come back.
use Rattle.std.specs.Prelude.{◌≢◌, ◌==◌, length, min, IfSome, option_map}
use Rattle.std.proofs.Common.{◌≡◌, ◌≤◌, ◌+◌, ◌⊎◌, ℕ, zero, suc, Bool, true, false, List, [], ◌∷◌, Option, Some, None, refl, sym, ap, ◌∙◌, subst, inl, inr, arith, Err}
use Rattle.std.proofs.lemmas.Bool.{cases_Bool}
use Rattle.std.proofs.lemmas.Bool.Decides.{nat_tests}
use Rattle.memif_fee_ea.specs.fee_core.nv_base.Count.{Rose, last_count}
use Rattle.memif_fee_ea.specs.fee_core.nv_base.Geometry.{size_of}
use Rattle.memif_fee_ea.specs.fee_core.nv_base.declared.geometry.Geometry.{Geometry}
use Rattle.memif_fee_ea.specs.fee_core.fls_model.Attach.{IsAttach, IsAttached, IsFilled}
use Rattle.memif_fee_ea.specs.fee_core.fls_model.Told.{Told, ToldBytes, IfBothTold, bytes_now}
use Rattle.memif_fee_ea.specs.fee_core.fls_model.declared.flash.AttachFault.{AttachFault}
use Rattle.memif_fee_ea.specs.fee_core.fls_model.declared.flash.AttachFault.TheVariants as attach
use Rattle.memif_fee_ea.specs.fee_core.memif.Calls.{PowersUp}
use Rattle.memif_fee_ea.specs.fee_core.memif.Told.{PartTold, faults_of}
use Rattle.memif_fee_ea.specs.fee_core.fee_laws.Made.{part_at}
use Rattle.memif_fee_ea.specs.fee_core.fee_told.Device as fee
use Rattle.memif_fee_ea.specs.fee_core.promise_device.Bridge as reading
use Rattle.memif_fee_ea.specs.fee_core.promise_device.Image.{attached}
use Rattle.memif_fee_ea.specs.fee_core.promise_device.Making as flash
use Rattle.memif_fee_ea.specs.ea_slots.Whole as ea
use Rattle.memif_fee_ea.specs.ea_slots.ea_told.Making as eeprom
use Rattle.memif_fee_ea.specs.ea_slots.ea_told.Reading.{reading_of}
use Rattle.memif_fee_ea.specs.memif_pair.Both.{BothState, IsBoth, told_as}
use Rattle.memif_fee_ea.specs.memif_pair.PairClock.{all_own}
use Rattle.memif_fee_ea.specs.declared.making.PairAttachFault.{PairAttachFault}
use Rattle.memif_fee_ea.specs.declared.making.PairPart.{PairPart}
use Rattle.memif_fee_ea.specs.declared.making.PairPart.TheVariants as part
use Rattle.memif_fee_ea.specs.Made.{AreParts, IsMadeOf, IsRefused}
use Rattle.fls_devices.specs.Cutter.{Cutting, OnlyCuts, cutting, told_cutting}
use Rattle.nvm_core.specs.block_config.Config.{Configuration}
use Rattle.nvm_core.specs.block_config.Lengths.{lengths_of}
use Rattle.promise_run.specs.Run.{LeavesAlone}
use Rattle.nvm_core.specs.Stack.{StackState, first_stack}
use Rattle.nvm_core.specs.nvm_found.Found.{FailsToFind}
use Rattle.nvm_flash.specs.declared.device.MakeFault.TheVariants.{WrongSize, Flash, InUse, NoSecond}
use Rattle.nvm_flash.specs.declared.device.MakeFault.TheVariants as make
use Rattle.nvm_flash.specs.declared.pair.PairCuts.{PairCuts}
use Rattle.nvm_flash.specs.declared.device.MakeFault.{MakeFault}
use Rattle.nvm_flash.specs.declared.pair.PairFault.{PairFault}
use Rattle.nvm_flash.specs.declared.pair.PairFault.TheVariants.{OfFlash, OfEeprom, OneDevice, Memory}
use Rattle.nvm_flash.specs.Sized.{AreLooked, HasSizeOf}
use Rattle.nvm_flash.specs.CutterUnmade as unmade
use Rattle.nvm_flash.specs.CutterUnmade.{CountsStay}
use Rattle.nvm_flash.specs.Made.{IsBackFrom, IsFlashCause, IsPartBack, LeavesOne, fault_of}
use Rattle.nvm_flash.specs.PairMade.{AreBack, AreOrigins, ComeBack, IsPairStack, LeavesOther, failed_part, pair_fault, pair_fault_by}
use Rattle.promise_run.specs.Promise.{making_first}
use Rattle.nvm_flash.specs.PairMaking.{making_second, fixed_of_first}
use Rattle.nvm_flash.proofs.CutterRuns.{same_entry, same_exit}
use Rattle.nvm_flash.proofs.Returning.{flash_rose, left_by, part_of}
use Rattle.nvm_flash.proofs.CutterUnmade.{counts_stay_within, refused_within, size_within, tells_within}

-- ONE FLASH
-- it has the same bytes
same_told : (g : Geometry) (a b : Option (List ℕ)) → b ≡ a → IfBothTold a b (λ old new. (new ≡ old) ⊎ (new ≡ attached g old))
same_told g (Some x) (Some y) same = inl (let is : Some y ≡ Some x = same in cc is)
same_told g None None same = tt
same_told g (Some x) None same = absurd (cc same)
same_told g None (Some y) same = absurd (cc same)

-- or those with which it was attached
filled_told : (g : Geometry) (a b : Option ToldBytes) → IfBothTold a b (IsFilled g) → IfBothTold (option_map (λ (x : ToldBytes). x.now) a) (option_map (λ (x : ToldBytes). x.now) b) (λ old new. (new ≡ old) ⊎ (new ≡ attached g old))
filled_told g (Some x) (Some y) filled = inr filled.bytes
filled_told g None None filled = tt
filled_told g (Some x) None filled = absurd filled
filled_told g None (Some y) filled = absurd filled

-- it was refused: the cause is its own
less_by : (inner : Told) (fault : AttachFault) (t : Told) → unmade.IsRefusal inner fault t → inner.faults ≤ t.faults
less_by inner attach.Failed t (inl more) = omega (arith, more)
less_by inner attach.Failed t (inr (full, stays)) = stays
less_by inner attach.InUse t (inl more) = omega (arith, more)
less_by inner attach.InUse t (inr (full, stays)) = stays
less_by inner (attach.WrongSize found) t (size, same) = omega (arith, same)
less_by inner attach.Memory t same = omega (arith, same)

alone_by : (inner : Told) (fault : AttachFault) (t : Told) → unmade.IsRefused inner fault t → (faults : ℕ) → t.faults ≡ faults → LeavesAlone (record inner { faults = faults }) t
alone_by inner fault t refused faults is = record { geometry = refused.geometry; off = refused.off; bytes = refused.bytes; ops = refused.counts.ops; faults = is; cuts = refused.counts.cuts }

pub refused_left : (g : Geometry) (inner : Told) (fault : AttachFault) (t : Told) → unmade.IsRefused inner fault t → LeavesOne g inner t
refused_left g inner fault t refused = record {
  flash = record { none = refl; ops = refused.counts.ops; bytes = same_told g (bytes_now inner) (bytes_now t) refused.bytes };
  faults = less_by inner fault t refused.why;
  cuts = let cuts = refused.counts.cuts in omega (arith, cuts);
}

pub refused_cause : (g : Geometry) (inner : Told) (cuts : ℕ) (k : Cutting) (fault : AttachFault) → OnlyCuts k → IsAttach g (told_cutting (cutting inner cuts)) (Err fault) (told_cutting k) → IsFlashCause g (fault_of fault) inner k.flash.inner
refused_cause g inner cuts k attach.Failed only refused = (refused_within g inner cuts k attach.Failed only refused).why
refused_cause g inner cuts k attach.InUse only refused =
    let is = refused_within g inner cuts k attach.InUse only refused in (is.why, alone_by inner attach.InUse k.flash.inner is k.flash.inner.faults refl)
refused_cause g inner cuts k (attach.WrongSize found) only (size, same) =
    let is = refused_within g inner cuts k (attach.WrongSize found) only (size, same) in (
      size_within (cutting inner cuts).flash.journal inner.geometry inner.bytes (λ bytes. (length bytes ≡ found) × (found ≢ 0) × (found ≢ size_of g)) size,
      alone_by inner (attach.WrongSize found) k.flash.inner is inner.faults is.why.1,
    )
refused_cause g inner cuts k attach.Memory only refused = tt

-- it was attached, or left alone
pub attached_left : (g : Geometry) (inner : Told) (cuts : ℕ) (k : Cutting) → OnlyCuts k → IsAttached g (told_cutting (cutting inner cuts)) (told_cutting k) → LeavesOne g inner k.flash.inner
attached_left g inner cuts k only at =
    let counts = counts_stay_within inner cuts k only (record { ops = at.ops; cuts = at.cuts }) (ap (λ p. p.unplanned) at.planning) in
    let within = tells_within k only in record {
      flash = record {
        none = refl;
        ops = counts.ops;
        bytes = subst (λ (o : Option (List ℕ)). IfBothTold o (bytes_now k.flash.inner) (λ old new. (new ≡ old) ⊎ (new ≡ attached g old))) (same_entry inner cuts)
            (subst (λ (o : Option (List ℕ)). IfBothTold (bytes_now (told_cutting (cutting inner cuts))) o (λ old new. (new ≡ old) ⊎ (new ≡ attached g old))) (same_exit k)
            (filled_told g (told_cutting (cutting inner cuts)).bytes (told_cutting k).bytes at.bytes));
      };
      faults = let faults = at.faults in let is = within.1 in omega (arith, faults, is);
      cuts = let cuts = counts.cuts in omega (arith, cuts);
    }

pub alone_left : (g : Geometry) (inner : Told) (cuts : ℕ) (k : Cutting) → OnlyCuts k → told_cutting k ≡ told_cutting (cutting inner cuts) → LeavesOne g inner k.flash.inner
alone_left g inner cuts k only same =
    let counts = counts_stay_within inner cuts k only (record { ops = ap (λ (t : Told). t.ops) same; cuts = ap (λ (t : Told). t.cuts) same }) (ap (λ (t : Told). t.planning.unplanned) same) in
    let within = tells_within k only in record {
      flash = record { none = refl; ops = counts.ops; bytes = same_told g (bytes_now inner) (bytes_now k.flash.inner) (within.0 ∙ ap bytes_now same ∙ same_entry inner cuts) };
      faults = let faults = ap (λ (t : Told). t.faults) same in let is = within.1 in omega (arith, faults, is);
      cuts = let cuts = counts.cuts in omega (arith, cuts);
    }

-- BOTH
some_named : {A : Type 0} (o : Option A) (x : A) → o ≡ Some x → o ≢ None
some_named o x is none = let never : Some x ≡ None = sym is ∙ none in cc never

at_some : {A : Type 0} (o : Option A) (x : A) (P : A → Type 0) → o ≡ Some x → P x → IfSome o P
at_some o x P is has = subst (λ (q : Option _). IfSome q P) (sym is) has

-- the other flash: where one has a wrong size
wrong_other : (shape : Geometry) (b : Option ToldBytes) (found : ℕ) (P : Type 0) → HasSizeOf shape b → IfSome b (λ x. (length x.now ≡ found) × (found ≢ 0) × (found ≢ size_of shape)) → IfSome b (λ x. P)
wrong_other shape None found P sized wrong = tt
wrong_other shape (Some x) found P (inl none) wrong = absurd (wrong.1 (sym wrong.0 ∙ none))
wrong_other shape (Some x) found P (inr size) wrong = absurd (wrong.2 (sym wrong.0 ∙ size))

other_first : (fault : AttachFault) (s t u v : Told) → LeavesAlone u v → LeavesOther (OfFlash (fault_of fault)) s t u v
other_first attach.Failed s t u v alone = tt
other_first attach.InUse s t u v alone = tt
other_first (attach.WrongSize found) s t u v alone = alone
other_first attach.Memory s t u v alone = tt

other_second : (shape : Geometry) (fault : AttachFault) (s t u v : Told) → HasSizeOf shape u.bytes → IsFlashCause shape (fault_of fault) u v → LeavesOther (OfEeprom (fault_of fault)) s t u v
other_second shape attach.Failed s t u v sized cause = tt
other_second shape attach.InUse s t u v sized cause = tt
other_second shape (attach.WrongSize found) s t u v sized cause = wrong_other shape u.bytes found (LeavesAlone s t) sized cause.0
other_second shape attach.Memory s t u v sized cause = tt

-- what no attach changed is left alone
stays_alone : (g : Geometry) (inner : Told) (cuts : ℕ) (k : Cutting) → OnlyCuts k → told_cutting k ≡ told_cutting (cutting inner cuts) → LeavesAlone inner k.flash.inner
stays_alone g inner cuts k only same =
    let refused = refused_within g inner cuts k attach.Memory only same in alone_by inner attach.Memory k.flash.inner refused inner.faults refused.why

refused_by : (c : Configuration) (shape : Geometry) (p : PairPart) (fault : AttachFault) (inner other : Told) (cuts : PairCuts) (k l : Cutting) → c.eeprom ≡ Some shape → HasSizeOf shape other.bytes → OnlyCuts k → OnlyCuts l
    → IsRefused c.geometry shape p fault (told_cutting (cutting inner cuts.flash)) (told_cutting k) (told_cutting (cutting other cuts.eeprom)) (told_cutting l) → ComeBack c (pair_fault_by p fault) inner k.flash.inner other l.flash.inner
refused_by c shape part.Flash fault inner other cuts k l named sized only only_l (refused, same) = record {
  other = other_first fault inner k.flash.inner other l.flash.inner (stays_alone shape other cuts.eeprom l only_l same);
  cause = refused_cause c.geometry inner cuts.flash k fault only refused;
  second = some_named c.eeprom shape named;
  flash = refused_left c.geometry inner fault k.flash.inner (refused_within c.geometry inner cuts.flash k fault only refused);
  eeprom = at_some c.eeprom shape (λ g. LeavesOne g other l.flash.inner) named (alone_left shape other cuts.eeprom l only_l same);
}
refused_by c shape part.Eeprom fault inner other cuts k l named sized only only_l (at, refused) = record {
  other = other_second shape fault inner k.flash.inner other l.flash.inner sized (refused_cause shape other cuts.eeprom l fault only_l refused);
  cause = at_some c.eeprom shape (λ g. IsFlashCause g (fault_of fault) other l.flash.inner) named (refused_cause shape other cuts.eeprom l fault only_l refused);
  second = some_named c.eeprom shape named;
  flash = attached_left c.geometry inner cuts.flash k only at;
  eeprom = at_some c.eeprom shape (λ g. LeavesOne g other l.flash.inner) named (refused_left shape other fault l.flash.inner (refused_within shape other cuts.eeprom l fault only_l refused));
}

-- at a refusal
pub refused_back : (c : Configuration) (g shape : Geometry) (fault : PairAttachFault) (inner other exit exit_other : Told) (cuts : PairCuts) (first second k l : Cutting) → g ≡ c.geometry → c.eeprom ≡ Some shape → HasSizeOf shape other.bytes → first ≡ cutting inner cuts.flash → second ≡ cutting other cuts.eeprom
    → OnlyCuts k → OnlyCuts l → exit ≡ k.flash.inner → exit_other ≡ l.flash.inner → IsRefused g shape fault.part fault.fault (told_cutting first) (told_cutting k) (told_cutting second) (told_cutting l)
    → ComeBack c (pair_fault fault) inner exit other exit_other
refused_back c g shape fault inner other exit exit_other cuts first second k l shape_is named sized made made_l only only_l is is_l refused =
    let of_first : IsRefused c.geometry shape fault.part fault.fault (told_cutting first) (told_cutting k) (told_cutting second) (told_cutting l) =
    subst (λ (x : Geometry). IsRefused x shape fault.part fault.fault (told_cutting first) (told_cutting k) (told_cutting second) (told_cutting l)) shape_is refused in
    let of_cutters = subst (λ (x : Cutting). IsRefused c.geometry shape fault.part fault.fault (told_cutting (cutting inner cuts.flash)) (told_cutting k) (told_cutting x) (told_cutting l)) made_l
    (subst (λ (x : Cutting). IsRefused c.geometry shape fault.part fault.fault (told_cutting x) (told_cutting k) (told_cutting second) (told_cutting l)) made of_first) in
    subst (λ (x : Told). ComeBack c (pair_fault fault) inner exit other x) (sym is_l)
    (subst (λ (x : Told). ComeBack c (pair_fault fault) inner x other l.flash.inner) (sym is) (refused_by c shape fault.part fault.fault inner other cuts k l named sized only only_l of_cutters))

-- THE DEVICE IS TAKEN APART
by_shape : (o : Option Geometry) (Made Back : Geometry → Type 0) → IfSome o Made → ((g : Geometry) → Made g → Back g) → IfSome o Back
by_shape None Made Back made goes = tt
by_shape (Some g) Made Back made goes = goes g made

pub pair_back : (c : Configuration) (inner other : Told) (cuts : PairCuts) (m : flash.Making) (entry : Told) (n : eeprom.Making) (entry_other exit exit_other : Told) (s : BothState fee.Device ea.Device) (a : fee.Device) (b : ea.Device)
    → AreOrigins c inner other cuts m entry n entry_other → a ≡ s.first → b ≡ s.second → IsBoth (fee.told_of a) (ea.told_in b) s.last s.course
    → ((x : flash.Making) (t : Told) (k : ℕ) → m ≡ x → entry ≡ told_cutting (cutting t k) → IsBackFrom x t exit (part_at entry) (fee.told_of a) (fee.clock_of a))
    → ((x : eeprom.Making) (t : Told) (k : ℕ) → n ≡ x → entry_other ≡ told_cutting (cutting t k) → IsPartBack (reading_of x) t exit_other b.parts.operations (ea.part_at entry_other) (ea.told_in b) (ea.clock_in b))
    → AreBack c inner exit other exit_other entry entry_other s
pair_back c inner other cuts m entry n entry_other exit exit_other s a b origins first second both bank slots = record {
  both = subst (λ (x : fee.Device). IsBoth (fee.told_of x) (ea.told_in s.second) s.last s.course) first (subst (λ (y : ea.Device). IsBoth (fee.told_of a) (ea.told_in y) s.last s.course) second both);
  flash = subst (λ (x : fee.Device). IsBackFrom (making_first c) inner exit (part_at entry) (fee.told_of x) (fee.clock_of x)) first (bank (making_first c) inner cuts.flash origins.made_for origins.over);
  operations = b.parts.operations;
  eeprom = subst (λ (y : ea.Device). IfSome c.eeprom (λ g. IsPartBack (reading_of (making_second g c)) other exit_other b.parts.operations (ea.part_at entry_other) (ea.told_in y) (ea.clock_in y))) second
      (by_shape c.eeprom (λ g. n ≡ making_second g c) (λ g. IsPartBack (reading_of (making_second g c)) other exit_other b.parts.operations (ea.part_at entry_other) (ea.told_in b) (ea.clock_in b)) origins.made_for_other
      (λ g is. slots (making_second g c) other cuts.eeprom is origins.over_other));
}

-- WITHOUT AN OPERATION
no_course : (course : List Bool) → min (length course) last_count ≡ 0 → course ≡ []
no_course [] none = refl
no_course (x ∷ xs) none = absurd (omega (arith, none))

own_none : (second : Bool) (course : List Bool) → course ≡ [] → all_own second course ≡ 0
own_none second [] none = refl
own_none second (x ∷ xs) none = cc none

pub left_alone : (c : Configuration) (inner other : Told) (cuts : PairCuts) (m : flash.Making) (entry : Told) (n : eeprom.Making) (entry_other exit exit_other : Told) (s : BothState fee.Device ea.Device) (p q : PartTold) → AreOrigins c inner other cuts m entry n entry_other
    → (told_as fee.told_of ea.told_in s).ops ≡ 0 → p ≡ part_at entry → q ≡ ea.part_at entry_other → (fee.told_of s.first).first.planning.unplanned ≡ p.planning.unplanned → (ea.told_in s.second).first.planning.unplanned ≡ q.planning.unplanned
    → AreBack c inner exit other exit_other entry entry_other s → LeavesOne c.geometry inner exit × IfSome c.eeprom (λ g. LeavesOne g other exit_other)
left_alone c inner other cuts m entry n entry_other exit exit_other s p q origins none first second first_is second_is back =
    let course : s.course ≡ [] = no_course s.course none in
    let counted = back.both.together.counted in
    let ops : (fee.told_of s.first).ops ≡ 0 = sym counted.first ∙ own_none false s.course course in
    let ops_other : (ea.told_in s.second).ops ≡ 0 = sym counted.second ∙ own_none true s.course course in (
      left_by (reading.reading_of (making_first c)) inner exit back.flash.operations (part_at entry) (fee.told_of s.first) (fee.clock_of s.first) (part_of (making_first c) inner exit (part_at entry) (fee.told_of s.first) (fee.clock_of s.first) back.flash) ops
          (first_is ∙ ap (λ (x : PartTold). x.planning.unplanned) first ∙ ap (λ (t : Told). t.planning.unplanned) origins.over),
      by_shape c.eeprom (λ g. IsPartBack (reading_of (making_second g c)) other exit_other back.operations (ea.part_at entry_other) (ea.told_in s.second) (ea.clock_in s.second)) (λ g. LeavesOne g other exit_other) back.eeprom
          (λ g is. left_by (reading_of (making_second g c)) other exit_other back.operations (ea.part_at entry_other) (ea.told_in s.second) (ea.clock_in s.second) is ops_other
          (second_is ∙ ap (λ (x : PartTold). x.planning.unplanned) second ∙ ap (λ (t : Told). t.planning.unplanned) origins.over_other)),
    )

-- a device that was made alone
pub made_pair_back : (c : Configuration) (inner other : Told) (cuts : PairCuts) (m : flash.Making) (entry : Told) (n : eeprom.Making) (entry_other exit exit_other : Told) (s t : BothState fee.Device ea.Device) → AreOrigins c inner other cuts m entry n entry_other → c.eeprom ≢ None
    → IsMadeOf m entry n s → AreParts entry entry_other (told_as fee.told_of ea.told_in s) → t ≡ s → AreBack c inner exit other exit_other entry entry_other t → ComeBack c Memory inner exit other exit_other
made_pair_back c inner other cuts m entry n entry_other exit exit_other s t origins named made parts same back =
    let back_s = subst (AreBack c inner exit other exit_other entry entry_other) same back in
    let left = left_alone c inner other cuts m entry n entry_other exit exit_other s (fee.told_of s.first).first (ea.told_in s.second).first origins (ap (λ (xs : List Bool). min (length xs) last_count) made.course) parts.first parts.second refl refl back_s in
    record { cause = tt; other = tt; second = named; flash = left.0; eeprom = left.1 }

-- a device whose first start-up failed by a fault of one of both
first_rose : (a : ℕ) → a ≢ 0 → Rose 0 a
first_rose zero some = absurd (some refl)
first_rose (suc a) some = inl (omega arith)

second_rose : (x y p q : ℕ) → x ≡ 0 → y ≡ 0 → Rose x y ⊎ Rose p q → Rose p q
second_rose x y p q before none (inl (inl more)) = absurd (omega (arith, more, none))
second_rose x y p q before none (inl (inr (full, stays))) = absurd (omega (arith, full, before))
second_rose x y p q before none (inr rose) = rose

no_faults : (x : ℕ) → min (x + 0) last_count ≡ 0 → x ≡ 0
no_faults zero none = refl
no_faults (suc x) none = absurd (omega (arith, none))

some_faults : (x : ℕ) → (min (x + 0) last_count ≡ 0 → ⊥) → x ≢ 0
some_faults x some none = some (omega (arith, none))

pub failed_pair_back : (c : Configuration) (inner other : Told) (cuts : PairCuts) (m : flash.Making) (entry : Told) (n : eeprom.Making) (entry_other exit exit_other : Told) (s t : BothState fee.Device ea.Device) → AreOrigins c inner other cuts m entry n entry_other → c.eeprom ≢ None
    → IsMadeOf m entry n s → AreParts entry entry_other (told_as fee.told_of ea.told_in s) → FailsToFind (told_as fee.told_of ea.told_in s) (told_as fee.told_of ea.told_in t) → AreBack c inner exit other exit_other entry entry_other t
    → ComeBack c (failed_part (fee.told_of t.first)) inner exit other exit_other
failed_pair_back c inner other cuts m entry n entry_other exit exit_other s t origins named made parts fails back = elim (cases_Bool (faults_of (fee.told_of t.first) == 0)) [
  | inl none ↦ rw none record { cause = by_second (equal_from none); other = tt; second = named; flash = left.0; eeprom = left.1 }
  | inr some ↦ rw some record { cause = by_first (differ_from some); other = tt; second = named; flash = left.0; eeprom = left.1 }
]
  where
    up : PowersUp (fee.told_of s.first).first (fee.told_of t.first).first
    up = fails.restarted.first

    up_other : PowersUp (ea.told_in s.second).first (ea.told_in t.second).first
    up_other = fails.restarted.second

    left : LeavesOne c.geometry inner exit × IfSome c.eeprom (λ g. LeavesOne g other exit_other)
    left =
        left_alone c inner other cuts m entry n entry_other exit exit_other t (fee.told_of s.first).first (ea.told_in s.second).first origins (fails.restarted.ops ∙ ap (λ (xs : List Bool). min (length xs) last_count) made.course) parts.first parts.second
        (ap (λ (p : PartTold). p.planning.unplanned) up.only) (ap (λ (p : PartTold). p.planning.unplanned) up_other.only) back

    before : (fee.told_of s.first).first.faults ≡ 0
    before = ap (λ (p : PartTold). p.faults) parts.first

    same : entry.faults ≡ inner.faults
    same = let is = ap (λ (x : Told). x.faults) origins.over in omega (arith, is)

    same_other : entry_other.faults ≡ other.faults
    same_other = let is = ap (λ (x : Told). x.faults) origins.over_other in omega (arith, is)

    equal_from : (faults_of (fee.told_of t.first) == 0) ≡ true → faults_of (fee.told_of t.first) ≡ 0
    equal_from is = grind (arith, nat_tests, is)

    differ_from : (faults_of (fee.told_of t.first) == 0) ≡ false → faults_of (fee.told_of t.first) ≡ 0 → ⊥
    differ_from is none = let yes : (faults_of (fee.told_of t.first) == 0) ≡ true = grind (arith, nat_tests, none) in let never : false ≡ true = sym is ∙ yes in cc never

    by_first : (faults_of (fee.told_of t.first) ≡ 0 → ⊥) → Rose inner.faults exit.faults
    by_first some =
        subst (λ (k : ℕ). Rose k exit.faults) same (flash_rose entry exit (fee.told_of s.first).first (fee.told_of t.first).first parts.first up
        (subst (λ (k : ℕ). Rose k (fee.told_of t.first).first.faults) (sym before) (first_rose (fee.told_of t.first).first.faults (some_faults (fee.told_of t.first).first.faults some))) back.flash.faults)

    by_second : faults_of (fee.told_of t.first) ≡ 0 → IfSome c.eeprom (λ g. IsFlashCause g Flash other exit_other)
    by_second none =
        by_shape c.eeprom (λ g. IsPartBack (reading_of (making_second g c)) other exit_other back.operations (ea.part_at entry_other) (ea.told_in t.second) (ea.clock_in t.second)) (λ g. Rose other.faults exit_other.faults) back.eeprom
        (λ g is. subst (λ (k : ℕ). Rose k exit_other.faults) same_other (flash_rose entry_other exit_other (ea.told_in s.second).first (ea.told_in t.second).first parts.second up_other
        (second_rose (fee.told_of s.first).first.faults (fee.told_of t.first).first.faults (ea.told_in s.second).first.faults (ea.told_in t.second).first.faults before (no_faults (fee.told_of t.first).first.faults none) fails.faults) is.faults))

-- a stack that was made of such a device
pub made_pair_stack : {C : Type 0} (c : Configuration) (most : ℕ) (m : flash.Making) (entry : Told) (n : eeprom.Making) (entry_other : Told) (copies : C) (s : StackState (BothState fee.Device ea.Device) C) (d : BothState fee.Device ea.Device)
    → s ≡ first_stack c most d copies → IsMadeOf m entry n d → AreParts entry entry_other (told_as fee.told_of ea.told_in d)
    → (told_as fee.told_of ea.told_in d).fixed.numbers ≡ lengths_of c → (fee.told_of d.first).fixed ≡ fixed_of_first c → c.eeprom ≢ None → 2 ≤ most → IsPairStack c most m entry n entry_other copies s
made_pair_stack {C} c most m entry n entry_other copies s d same made parts numbers figures named room = record {
  device = subst (λ (x : BothState fee.Device ea.Device). IsMadeOf m entry n x) own made;
  parts = subst (λ (x : BothState fee.Device ea.Device). AreParts entry entry_other (told_as fee.told_of ea.told_in x)) own parts;
  numbers = subst (λ (x : BothState fee.Device ea.Device). (told_as fee.told_of ea.told_in x).fixed.numbers ≡ lengths_of c) own numbers;
  figures = subst (λ (x : BothState fee.Device ea.Device). (fee.told_of x.first).fixed ≡ fixed_of_first c) own figures;
  unstarted = record {
    only = same ∙ sym (ap (λ (t : StackState (BothState fee.Device ea.Device) C). first_stack t.desk.config t.desk.cap t.device t.copies) same);
    room = let cap = ap (λ (t : StackState (BothState fee.Device ea.Device) C). t.desk.cap) same in omega (arith, cap, room);
  };
  config = ap (λ (t : StackState (BothState fee.Device ea.Device) C). t.desk.config) same;
  most_is = ap (λ (t : StackState (BothState fee.Device ea.Device) C). t.desk.cap) same;
  copies_are = ap (λ (t : StackState (BothState fee.Device ea.Device) C). t.copies) same;
  named = named;
}
  where
    own : d ≡ s.device
    own = sym (ap (λ t. t.device) same)

-- LOOKED AT
-- nothing but the count of faults changed
faults_alone : (s t : Told) → t ≡ record s { faults = t.faults } → s.faults ≤ t.faults → (g : Geometry) → LeavesOne g s t
faults_alone s t is more g = record {
  flash = record { none = refl; ops = ap (λ (x : Told). x.ops) is; bytes = same_told g (bytes_now s) (bytes_now t) (ap bytes_now is) };
  faults = more;
  cuts = let cuts = ap (λ (x : Told). x.cuts) is in omega (arith, cuts);
}

same_alone : (s t : Told) → t ≡ s → LeavesAlone s t
same_alone s t is = record {
  geometry = ap (λ (x : Told). x.geometry) is;
  off = λ off. sym (ap (λ (x : Told). x.off) is) ∙ off;
  bytes = ap bytes_now is;
  ops = ap (λ (x : Told). x.ops) is;
  faults = ap (λ (x : Told). x.faults) is;
  cuts = ap (λ (x : Told). x.cuts) is;
}

same_one : (g : Geometry) (s t : Told) → t ≡ s → LeavesOne g s t
same_one g s t is = faults_alone s t (is ∙ (λ i. record s { faults = sym (ap (λ (x : Told). x.faults) is) i })) (let same = ap (λ (x : Told). x.faults) is in omega (arith, same)) g

any_some : {A : Type 0} (o : Option A) (P : Type 0) → P → IfSome o (λ x. P)
any_some None P has = tt
any_some (Some x) P has = has

looked_first : (fault : MakeFault) (s t u v : Told) → v ≡ u → LeavesOther (OfFlash fault) s t u v
looked_first (WrongSize found) s t u v same = same_alone u v same
looked_first Flash s t u v same = tt
looked_first InUse s t u v same = tt
looked_first NoSecond s t u v same = tt
looked_first make.Memory s t u v same = tt

looked_second : (fault : MakeFault) (s t u v : Told) → t ≡ s → LeavesOther (OfEeprom fault) s t u v
looked_second (WrongSize found) s t u v same = any_some u.bytes (LeavesAlone s t) (same_alone s t same)
looked_second Flash s t u v same = tt
looked_second InUse s t u v same = tt
looked_second NoSecond s t u v same = tt
looked_second make.Memory s t u v same = tt

looked_by : (c : Configuration) (shape : Geometry) (fault : PairFault) (s t u v : Told) → c.eeprom ≡ Some shape → AreLooked c.geometry shape (Some fault) s t u v → ComeBack c fault s t u v
looked_by c shape (OfFlash fault) s t u v named (looked, same) = record {
  cause = looked.0;
  other = looked_first fault s t u v same;
  second = some_named c.eeprom shape named;
  flash = faults_alone s t looked.1 looked.2 c.geometry;
  eeprom = at_some c.eeprom shape (λ g. LeavesOne g u v) named (same_one shape u v same);
}
looked_by c shape (OfEeprom fault) s t u v named (same, looked) = record {
  cause = at_some c.eeprom shape (λ g. IsFlashCause g fault u v) named looked.0;
  other = looked_second fault s t u v same;
  second = some_named c.eeprom shape named;
  flash = same_one c.geometry s t same;
  eeprom = at_some c.eeprom shape (λ g. LeavesOne g u v) named (faults_alone u v looked.1 looked.2 shape);
}
looked_by c shape OneDevice s t u v named looked = absurd looked
looked_by c shape Memory s t u v named looked = absurd looked

pub looked_back : (c : Configuration) (g shape : Geometry) (o : Option PairFault) (fault : PairFault) (s t u v : Told) → g ≡ c.geometry → c.eeprom ≡ Some shape → o ≡ Some fault → AreLooked g shape o s t u v → ComeBack c fault s t u v
looked_back c g shape o fault s t u v same named is looked =
    looked_by c shape fault s t u v named (subst (λ (x : Geometry). AreLooked x shape (Some fault) s t u v) same (subst (λ (q : Option PairFault). AreLooked g shape q s t u v) is looked))
