-- How often a switch of a device began again: less often than it was started up or a fault was counted.
use Rattle.std.specs.Prelude.{◌&&◌, ◌||◌, ◌==◌, not, if◌then◌else◌, IfSome, is_some, count_by, min}
use Rattle.std.proofs.Common.{◌≡◌, ◌⊎◌, inl, inr, ◌<◌, ◌≤◌, ◌+◌, ◌-◌, ◌*◌, ◌++◌, ◌∷◌, ℕ, zero, suc, Bool, true, false, IsTrue, List, [], Option, Some, None, refl, sym, ap, ◌∙◌, subst, arith}
use Rattle.std.proofs.lemmas.Bool.{cases_lt, false≢true}
use Rattle.nv_base.specs.Count.{last_count, next_count}
use Rattle.nv_base.specs.Geometry.{sectors_of_bank, address_of_page}
use Rattle.nv_base.specs.declared.geometry.Geometry.{Geometry}
use Rattle.nv_base.specs.declared.instance.DeviceNumber.{DeviceNumber}
use Rattle.fls_model.specs.declared.flash.FlashAnswer.{FlashAnswer}
use Rattle.fls_model.specs.declared.flash.FlashAnswer.TheVariants.{Done, Failed, Off}
use Rattle.fls_model.specs.Op.{Op}
use Rattle.fls_model.specs.Told.{Told, Change}
use Rattle.fls_jobs.specs.State.{FlsState}
use Rattle.fee_format.proofs.Tests.{eq_is}
use Rattle.fee_format.specs.declared.rec_head.RecHead.{RecHead}
use Rattle.fee_image.specs.BankLaws.{erase_of}
use Rattle.fee_image.specs.declared.place.Place.{Place}
use Rattle.fee_course.specs.declared.copies.Source.{Source}
use Rattle.fee_course.specs.declared.course.Course.{Course}
use Rattle.fee_course.specs.declared.course.Course.TheVariants.{Erase, Copy, Head, Gate}
use Rattle.fee_course.specs.Copies.{next_copy}
use Rattle.fee_course.specs.Course.{IsShort, begun, settled, after_done, flag_due}
use Rattle.fee_switch_laws.specs.fee_log.Log.{work_in}
use Rattle.fee_switch_laws.specs.fee_switch.declared.target.Stage.TheVariants as stage
use Rattle.fee_switch_laws.specs.fee_switch.Banks.{BanksState, flagged_by, advanced, after_answer}
use Rattle.fee_switch_laws.specs.KeepsRoom.{IsOpenCopy, IsRoomy}
use Rattle.promise_device.specs.Making.{Making}
use Rattle.promise_device.specs.Traits.{page_in_bank, is_done}
use Rattle.promise_device.specs.Bridge.{is_failed}
use Rattle.promise_device.specs.SwitchErases.{RestartsAreFew, one_if, erases_first, begins_switch, ends_switch, has_begun, begun_again}
use Rattle.promise_device.proofs.Places.{own_page, bank_of_erase}
use Rattle.promise_device.proofs.SwitchErases.{begun_push, again_push, failures_push}
use Rattle.promise_device.proofs.Wears.{all_two, second_of}
use Rattle.fee_told.specs.fls_told.Clock.{change_of}
use Rattle.fee_told.specs.fls_told.Runs.{counts_fault}
use Rattle.fee_laws.specs.declared.job.FeeJob.{FeeJob}
use Rattle.fee_told.specs.Device.{told_of}
use Rattle.fee_laws.specs.Inside.{Parts, device_of}
use Rattle.fee_laws.specs.Turn.{IsOn, operated}
use Rattle.fee_laws.specs.Appends.{work_op, after_page}
use Rattle.fee_laws.specs.Switches.{IsStepping, op_in, copy_op_of, step_op, failed_with}
use Rattle.fee_laws.specs.Restarts.{is_before, may_come, AreFewRestarts, Restarts}
use Rattle.fee_laws.proofs.Before.{power}
use Rattle.fee_laws.proofs.FollowBanks.{some_page, some_sector, legal}
use Rattle.fee_laws.proofs.FollowTurned.{mark_op}

-- TESTS
one_or_none : (b : Bool) → one_if b ≤ 1
one_or_none true = omega arith
one_or_none false = omega arith

and_less : (b c d : Bool) → (IsTrue d → IsTrue c) → one_if (b && d) ≤ one_if (b && c)
and_less false c d up = omega arith
and_less true true d up = one_or_none d
and_less true false true up = absurd (false≢true (up refl))
and_less true false false up = omega arith

and_none : (b : Bool) → one_if (b && false) ≡ 0
and_none true = refl
and_none false = refl

next_more : (faults last : ℕ) → (faults + 1 ≤ min (faults + 1) last) ⊎ (last ≤ min (faults + 1) last)
next_more faults last = elim (cases_lt faults last) [ inl less ↦ inl (omega arith) | inr more ↦ inr (omega arith) ]

module _ (m : Making) where
  abbrev failures : List Change → ℕ
  failures xs = count_by (λ x. is_failed x.answer) xs

  -- THE SAME OPERATIONS
  pub stay_few : (operations : List Change) (started come come' : Bool) (starts faults faults' : ℕ) → (IsTrue come' → IsTrue come) → faults ≤ faults' → AreFewRestarts m operations started come starts faults → AreFewRestarts m operations started come' starts faults'
  stay_few operations started come come' starts faults faults' up more (inl few) = inl (let less = and_less (has_begun m false operations) come come' up in omega (arith, few, less, more))
  stay_few operations started come come' starts faults faults' up more (inr (inl full)) = inr (inl (omega (arith, full, more)))
  stay_few operations started come come' starts faults faults' up more (inr (inr none)) = inr (inr none)

  -- with a fault that was counted
  pub count_few : (operations : List Change) (started come come' : Bool) (starts faults : ℕ) → AreFewRestarts m operations started come starts faults → AreFewRestarts m operations started come' starts (next_count faults)
  count_few operations started come come' starts faults (inl few) = elim (next_more faults last_count) [
    | inl one ↦ inl (let most = one_or_none (has_begun m false operations && come') in omega (arith, few, most, one))
    | inr full ↦ inr (inl full)
  ]
  count_few operations started come come' starts faults (inr (inl full)) = elim (next_more faults last_count) [ inl one ↦ inr (inl (omega (arith, full, one))) | inr at ↦ inr (inl at) ]
  count_few operations started come come' starts faults (inr (inr none)) = inr (inr none)

  -- with a start-up more
  pub start_few : (operations : List Change) (started come started' come' : Bool) (starts faults faults' : ℕ) → faults ≤ faults' → AreFewRestarts m operations started come starts faults → AreFewRestarts m operations started' come' (starts + 1) faults'
  start_few operations started come started' come' starts faults faults' more (inl few) = inl (let most = one_or_none (has_begun m false operations && come') in omega (arith, few, most, more))
  start_few operations started come started' come' starts faults faults' more (inr (inl full)) = inr (inl (omega (arith, full, more)))
  start_few operations started come started' come' starts faults faults' more (inr (inr none)) =
      inl (subst (λ (xs : List Change). begun_again m false xs + failures xs + one_if (has_begun m false xs && come') + 1 ≤ starts + 1 + faults') (sym none.1) (omega arith))

  -- ONE OPERATION MORE
  -- the first erase of a switch comes where it may; behind an operation that was done it may come where that was no such erase, and it
  -- could before, or a switch ended; and never while the power is off
  pub record Comes (x : Change) (come come' : Bool) : Type 0 where
    pub begins : begins_switch m x.op ≡ true → come ≡ true
    pub off : x.answer ≡ Off → come' ≡ false
    pub done : x.answer ≡ Done → come' ≡ true → (begins_switch m x.op ≡ false) × ((come ≡ true) ⊎ (ends_switch m x.op Done ≡ true))

  done_less : (b begins ends come come' : Bool) → (begins ≡ true → come ≡ true) → (come' ≡ true → (begins ≡ false) × ((come ≡ true) ⊎ (ends ≡ true)))
      → one_if (b && begins) + one_if ((true && (begins || (not ends && b))) && come') ≤ one_if (b && come)
  done_less b begins ends come false up done = let less = and_less b come begins up in let none = and_none (begins || (not ends && b)) in omega (arith, less, none)
  done_less b true ends come true up done = (let e : true ≡ false = (done refl).0 in cc e)
  done_less b false true come true up done = let none = and_none b in omega (arith, none)
  done_less true false false come true up done = elim (done refl).1 [ inl here ↦ (let one : one_if come ≡ 1 = ap one_if here in omega (arith, one)) | inr never ↦ cc never ]
  done_less false false false come true up done = omega arith

  operate_by : (operations : List Change) (op : Op) (before : List ℕ) (answer : FlashAnswer) (come come' : Bool) (starts faults : ℕ)
      → let x : Change = record { op = op; before = before; answer = answer } in Comes x come come'
      → begun_again m false operations + failures operations + one_if (has_begun m false operations && come) + 1 ≤ starts + faults
      → (begun_again m false (operations ++ x ∷ []) + failures (operations ++ x ∷ []) + one_if (has_begun m false (operations ++ x ∷ []) && come') + 1 ≤ starts + counts_fault answer faults) ⊎ (last_count ≤ counts_fault answer faults)
  operate_by operations op before Done come come' starts faults comes few =
      let x : Change = record { op = op; before = before; answer = Done } in
      let b = has_begun m false operations in
      let now : one_if (has_begun m false (operations ++ x ∷ []) && come') ≡ one_if ((true && (begins_switch m op || (not (ends_switch m op Done) && b))) && come') = ap (λ (t : Bool). one_if (t && come')) (begun_push m false operations x) in
      let a = again_push m false operations x in
      let f = failures_push m operations x in
      let less = done_less b (begins_switch m op) (ends_switch m op Done) come come' comes.begins (comes.done refl) in
      inl (omega (arith, now, a, f, less, few))
  operate_by operations op before Failed come come' starts faults comes few =
      let x : Change = record { op = op; before = before; answer = Failed } in
      let b = has_begun m false operations in
      let now : one_if (has_begun m false (operations ++ x ∷ []) && come') ≡ 0 = ap (λ (t : Bool). one_if (t && come')) (begun_push m false operations x) in
      let a = again_push m false operations x in
      let f = failures_push m operations x in
      let less = and_less b come (begins_switch m op) comes.begins in
      elim (next_more faults last_count) [ inl one ↦ inl (omega (arith, now, a, f, less, few, one)) | inr full ↦ inr full ]
  operate_by operations op before Off come come' starts faults comes few =
      let x : Change = record { op = op; before = before; answer = Off } in
      let b = has_begun m false operations in
      let now : one_if (has_begun m false (operations ++ x ∷ []) && come') ≡ 0 = ap (λ (t : Bool). one_if (has_begun m false (operations ++ x ∷ []) && t)) (comes.off refl) ∙ and_none (has_begun m false (operations ++ x ∷ [])) in
      let a = again_push m false operations x in
      let f = failures_push m operations x in
      let less = and_less b come (begins_switch m op) comes.begins in
      inl (omega (arith, now, a, f, less, few))

  full_on : (answer : FlashAnswer) (faults : ℕ) → last_count ≤ faults → last_count ≤ counts_fault answer faults
  full_on Done faults full = full
  full_on Failed faults full = elim (next_more faults last_count) [ inl one ↦ omega (arith, full, one) | inr at ↦ at ]
  full_on Off faults full = full

  pub operate_few : (operations : List Change) (x : Change) (started come come' : Bool) (starts faults : ℕ) → started ≡ true → Comes x come come' → AreFewRestarts m operations started come starts faults
      → AreFewRestarts m (operations ++ x ∷ []) started come' starts (counts_fault x.answer faults)
  operate_few operations x started come come' starts faults on comes (inl few) = elim (operate_by operations x.op x.before x.answer come come' starts faults comes few) [ inl less ↦ inl less | inr full ↦ inr (inl full) ]
  operate_few operations x started come come' starts faults on comes (inr (inl full)) = inr (inl (full_on x.answer faults full))
  operate_few operations x started come come' starts faults on comes (inr (inr none)) = absurd (false≢true (sym none.0 ∙ on))

-- OF A DEVICE
module _ (m : Making) (entry : Told) (s : Parts) (listed : List (DeviceNumber × ℕ)) (kept count : ℕ) (on : IsOn m entry s listed kept count) where
  come_is : may_come s ≡ is_before s.banks.course
  come_is = λ i. (on.started i && not (power m entry s listed kept count on i)) && is_before s.banks.course

  come_by : (off : Bool) (course : Option Course) → IsTrue ((s.started && not off) && is_before course) → IsTrue (is_before course)
  come_by off course is = second_of (s.started && not off) (is_before course) is

  none_off : (off : Bool) (course : Option Course) → off ≡ true → (s.started && not off) && is_before course ≡ false
  none_off off course is = λ i. (on.started i && not (is i)) && is_before course

  -- its operations are the same, and no switch comes nearer
  pub restarts_stay : (off : Bool) (course : Option Course) (faults : ℕ) → s.faults ≤ faults → (IsTrue (is_before course) → IsTrue (is_before s.banks.course)) → Restarts m s → AreFewRestarts m s.operations s.started ((s.started && not off) && is_before course) s.starts faults
  restarts_stay off course faults more before few =
      stay_few m s.operations s.started (may_come s) ((s.started && not off) && is_before course) s.starts s.faults faults (λ is. subst (λ (b : Bool). IsTrue b) (sym come_is) (before (come_by off course is))) more few

  -- it programs one more page of a record
  pub pages_restart : (answer : FlashAnswer) (f : FlsState) → (answer ≡ Off → f.flash.off ≡ true) → Restarts m s → Restarts m (after_page answer f s)
  pages_restart answer f off few =
      operate_few m s.operations (change_of (work_op s) s.fls.flash answer) s.started (may_come s) ((s.started && not f.flash.off) && is_before s.banks.course) s.starts s.faults on.started
      (record {
        begins = λ e. cc e;
        off = λ e. none_off f.flash.off s.banks.course (off e);
        done = λ e come. (refl, inl (come_is ∙ come_by f.flash.off s.banks.course come));
      }) few

-- BEHIND AN OPERATION OF A SWITCH
no_first : (n k : ℕ) → k ≡ n + 1 → is_before (Some (Erase k)) ≡ true → ⊥
no_first n zero is come = omega (arith, is)
no_first n (suc k) is come = cc come

pick : (b : Bool) (c d : Course) → (is_before (Some c) ≡ true → ⊥) → (is_before (Some d) ≡ true → ⊥) → is_before (Some (if b then c else d)) ≡ true → ⊥
pick true c d one two come = one come
pick false c d one two come = two come

none_settled : (ns : List (DeviceNumber × ℕ)) (places : List Place) (copied : List Bool) → is_before (Some (settled ns places copied)) ≡ true → ⊥
none_settled ns places copied = pick (is_some (next_copy ns places copied)) (Copy None) Head (λ e. cc e) (λ e. cc e)

none_begun : (p : ℕ) (o : Option Source) → is_before (Some (begun p o)) ≡ true → ⊥
none_begun p None come = cc come
none_begun p (Some x) come = cc come

-- the first erase doesn't come
none_behind : (p sectors : ℕ) (ns : List (DeviceNumber × ℕ)) (places : List Place) (copied : List Bool) (c : Course) → is_before (Some (after_done p sectors ns places copied c)) ≡ true → ⊥
none_behind p sectors ns places copied (Erase n) come = pick (n + 1 == sectors) (settled ns places copied) (Erase (n + 1)) (none_settled ns places copied) (no_first n (n + 1) refl) come
none_behind p sectors ns places copied (Copy None) come = none_begun p (next_copy ns places copied) come
none_behind p sectors ns places copied (Copy (Some w)) come = pick (w.pages == 1) (settled ns places copied) (Copy (Some (record w { pages = w.pages - 1 }))) (none_settled ns places copied) (λ e. cc e) come
none_behind p sectors ns places copied Head come = cc come
none_behind p sectors ns places copied (Gate failed) come = cc come

-- so nor does it behind an operation before the gate that was done
pub none_advanced : (made : BanksState) (c : Course) → is_before (advanced made c).course ≡ true → ⊥
none_advanced made c =
    let log = flagged_by made.log (flag_due c) in
    none_behind made.geometry.page (sectors_of_bank made.geometry made.banks) log.numbers log.places log.flags c

not_first : (k sectors n sector : ℕ) → 0 < sector → (k * sectors + suc n) * sector ≡ k * (sectors * sector) → ⊥
not_first k sectors n sector some same = omega (arith, some, same)

module _ (m : Making) (entry : Told) (s : Parts) (listed : List (DeviceNumber × ℕ)) (kept count : ℕ) where
  -- it is no first erase but where it is
  begins_by : (c : Course) (made : BanksState) (answer : FlashAnswer) (f : FlsState) → IsStepping m entry s listed kept count c made answer f → begins_switch m (step_op s.banks c) ≡ true → is_before (Some c) ≡ true
  begins_by (Erase zero) made answer f is begins = refl
  begins_by (Erase (suc n)) made answer f is begins =
      let b = s.banks in
      let some = some_sector b.geometry is.on.banks.legal in
      let short = subst (λ (o : Option Course). IfSome o (IsShort (sectors_of_bank b.geometry b.banks))) is.course is.on.banks.course in
      let own : begins_switch (record m { geometry = b.geometry; banks = b.banks }) (erase_of b.geometry b.banks b.target (suc n)) ≡ true =
      subst (λ (x : Making). begins_switch x (erase_of b.geometry b.banks b.target (suc n)) ≡ true) (sym (same_making)) begins in
      let at = bank_of_erase b.geometry b.banks b.target (suc n) some short in
      let first : IsTrue (erases_first (record m { geometry = b.geometry; banks = b.banks }) b.target (erase_of b.geometry b.banks b.target (suc n))) =
      subst (λ (k : ℕ). IsTrue (erases_first (record m { geometry = b.geometry; banks = b.banks }) k (erase_of b.geometry b.banks b.target (suc n)))) at own in
      absurd (not_first b.target (sectors_of_bank b.geometry b.banks) n b.geometry.sector some ((eq_is _ _).0 first))
    where
      same_making : record m { geometry = s.banks.geometry; banks = s.banks.banks } ≡ m
      same_making = λ i. record m { geometry = is.on.sound.made_for.banks_geometry i; banks = is.on.sound.made_for.shared i }
  begins_by (Copy None) made answer f is begins = (let none : false ≡ true = sym (ap (begins_switch m) (mark_op m entry s listed kept count made answer f is)) ∙ begins in cc none)
  begins_by (Copy (Some w)) made answer f is begins =
      let roomy = subst (λ (o : Option Course). IfSome o (IsRoomy m.reserve s.banks)) is.course (is.on.sound.room is.on.started (power m entry s listed kept count is.on)).switch in
      let open_copy : IsOpenCopy s.banks w = roomy.target.work in
      let work : work_in s.banks.copies.tail ≡ Some open_copy.head = ap work_in open_copy.tail in
      (let none : false ≡ true = sym (ap (λ (o : Option RecHead). begins_switch m (copy_op_of s.banks o)) work) ∙ begins in cc none)
  begins_by Head made answer f is begins = cc begins
  begins_by (Gate failed) made answer f is begins = cc begins

  gate_ends : (c : BanksState) → c ≡ s.banks → (failed : Bool) (made : BanksState) (answer : FlashAnswer) (f : FlsState) → IsStepping m entry s listed kept count (Gate failed) made answer f → ends_switch m (op_in s.banks stage.Gate) Done ≡ true
  gate_ends c same failed made answer f is =
      let b = s.banks in
      let two = (legal b is.on.banks [] []).pages in
      let own = own_page b.geometry b.banks b.target 1 (some_page b.geometry is.on.banks.legal) (omega (arith, two)) in
      let here : page_in_bank m.geometry m.banks (address_of_page b.geometry b.banks b.target 1) ≡ 1 =
      subst (λ (g : Geometry). page_in_bank g m.banks (address_of_page b.geometry b.banks b.target 1) ≡ 1) is.on.sound.made_for.banks_geometry
      (subst (λ (n : ℕ). page_in_bank b.geometry n (address_of_page b.geometry b.banks b.target 1) ≡ 1) is.on.sound.made_for.shared own) in
      all_two (page_in_bank m.geometry m.banks (address_of_page b.geometry b.banks b.target 1) == 1) (is_done Done) ((eq_is _ _).1 here) refl

  done_by : (c : Course) (made : BanksState) (answer : FlashAnswer) (f : FlsState) → IsStepping m entry s listed kept count c made answer f → is_before (after_answer made c Done).course ≡ true
      → (begins_switch m (step_op s.banks c) ≡ false) × ((may_come s ≡ true) ⊎ (ends_switch m (step_op s.banks c) Done ≡ true))
  done_by (Erase n) made answer f is come = absurd (none_advanced made (Erase n) come)
  done_by (Copy None) made answer f is come = absurd (none_advanced made (Copy None) come)
  done_by (Copy (Some w)) made answer f is come = absurd (none_advanced made (Copy (Some w)) come)
  done_by Head made answer f is come = absurd (none_advanced made Head come)
  done_by (Gate failed) made answer f is come = (refl, inr (gate_ends s.banks refl failed made answer f is))

  pub steps_restart : (c : Course) (made : BanksState) (answer : FlashAnswer) (f : FlsState) → IsStepping m entry s listed kept count c made answer f → (answer ≡ Off → f.flash.off ≡ true) → Restarts m s
      → Restarts m (operated (step_op s.banks c) answer f (after_answer made c answer) s)
  steps_restart c made answer f is off few =
      let come = come_is m entry s listed kept count is.on in
      let course = (after_answer made c answer).course in
      operate_few m s.operations (change_of (step_op s.banks c) s.fls.flash answer) s.started (may_come s) ((s.started && not f.flash.off) && is_before course) s.starts s.faults is.on.started
      (record {
        begins = λ e. come ∙ ap is_before is.course ∙ begins_by c made answer f is e;
        off = λ e. none_off m entry s listed kept count is.on f.flash.off course (off e);
        done = λ e here. done_by c made answer f is (subst (λ (a : FlashAnswer). is_before (after_answer made c a).course ≡ true) e (come_by m entry s listed kept count is.on f.flash.off course here));
      }) few

-- so it is told
pub restarts_told : (m : Making) (s : Parts) (entry : Told) → Restarts m s → RestartsAreFew m s.operations (told_of (device_of m entry s))
restarts_told m s entry (inl few) = inl (omega (arith, few))
restarts_told m s entry (inr (inl full)) = inr (inl full)
restarts_told m s entry (inr (inr none)) = inr (inr none.1)

-- a job that ends with a failure, or none, changes nothing of it
pub failed_restart : (m : Making) (job : Option FeeJob) (s : Parts) → Restarts m s → Restarts m (failed_with job s)
failed_restart m None s few = few
failed_restart m (Some j) s few = few
