-- The next step of an open switch, from what its call answers.
use Rattle.std.specs.Prelude.{is_some, take, IfSome, IsSome}
use Rattle.std.specs.List.{All}
use Rattle.std.specs.Option.{ForSome}
use Rattle.std.proofs.Common.{◌≡◌, inl, ◌<◌, ◌+◌, ◌++◌, ℕ, Bool, true, false, List, [], ◌∷◌, Option, Some, None, refl, sym, ap, ◌∙◌, subst, arith}
use Rattle.nv_base.specs.Count.{next_count}
use Rattle.nv_base.specs.Geometry.{address_of_page}
use Rattle.nv_base.specs.declared.instance.DeviceNumber.{DeviceNumber}
use Rattle.memif.specs.declared.answer.DeviceTurn.{DeviceTurn}
use Rattle.memif.specs.declared.answer.DeviceTurn.TheVariants as turn
use Rattle.fls_model.specs.declared.flash.FlashAnswer.{FlashAnswer}
use Rattle.fls_model.specs.declared.flash.FlashAnswer.TheVariants.{Done, Failed, Off}
use Rattle.fls_model.specs.Op.{Op}
use Rattle.fls_model.specs.Read.{IsRead}
use Rattle.fls_model.specs.Step.{IsStep, CountsUnplanned}
use Rattle.fls_model.specs.Told.{Told, Change}
use Rattle.fls_jobs.specs.State.{FlsState, IsDriverState}
use Rattle.fee_format.specs.declared.rec_head.RecHead.{RecHead}
use Rattle.fee_image.specs.declared.place.Place.{Place}
use Rattle.fee_image.specs.declared.place.Place.TheVariants as place
use Rattle.fee_laws.specs.fee_log.Log.{IsLogState, work_in, begun}
use Rattle.fee_laws.specs.fee_log.Step.{op_of}
use Rattle.fee_course.specs.declared.course.Course.{Course}
use Rattle.fee_course.specs.declared.course.Course.TheVariants.{Erase, Copy, Head, Gate}
use Rattle.fee_laws.specs.fee_switch.Banks.{BanksState, is_worn_out, reads_next, after_answer}
use Rattle.fee_laws.specs.fee_switch.Copy.{CanGoOn, BeginsAt, head_at, MakesNext, IsBankStep}
use Rattle.fee_laws.proofs.RoomReady.{steps_may_be_made}
use Rattle.promise_device.specs.Making.{Making}
use Rattle.fee_laws.specs.fls_told.Clock.{change_of}
use Rattle.fee_laws.specs.fls_told.Runs.{counts_fault}
use Rattle.fee_laws.specs.Inside.{Parts, HasSwitch}
use Rattle.fee_laws.specs.Turn.{IsOn, Turned, operated}
use Rattle.fee_laws.specs.Switches.{IsBehind, IsStepping, IsWithin, step_op, failed_with}
use Rattle.fee_laws.specs.Follows.{Follows}
use Rattle.fee_laws.specs.Wears.{Wears}
use Rattle.fee_laws.specs.Restarts.{Restarts}
use Rattle.fee_laws.proofs.Restarts.{steps_restart, failed_restart}
use Rattle.fee_laws.proofs.FollowCalled.{failed_follow}
use Rattle.fee_laws.proofs.FollowTurned.{steps_follow}
use Rattle.fee_laws.proofs.SwitchMark.{marks_are_cut, marks_fail, marks_go_on}
use Rattle.fee_laws.proofs.WornSteps.{steps_wear, failed_wears}
use Rattle.fee_laws.proofs.SwitchTurns.{switches_are_cut, switches_fail, switches_go_on}
use Rattle.fee_core.specs.Asked.{switch_op_of}
use Rattle.fee_core.specs.Operations.{ChangesTarget}
use Rattle.fee_core.specs.Whole.{Whole}
use Rattle.fee_core.proofs.Appending.{asked_on}
use Rattle.fee_core.proofs.Standing.{Stands, some_at}

-- WHAT THE STEP ASKS FOR
worn_by : (b : BanksState) (o : Option Course) → is_some o ≡ true → HasSwitch b o → is_worn_out b.active ≡ false
worn_by b None some has = cc some
worn_by b (Some c) some has = has.0

module _ {m : Making} {entry : Told} {s : Parts} {listed : List (DeviceNumber × ℕ)} {kept count : ℕ} (on : IsOn m entry s listed kept count) where
  pub not_worn : is_some s.banks.course ≡ true → is_worn_out s.banks.active ≡ false
  not_worn some = worn_by s.banks s.banks.course some (on.sound.works on.started).switch

  pub may_step : IfSome s.banks.course (CanGoOn s.banks)
  may_step = steps_may_be_made m.reserve s.banks on.banks on.log (on.sound.room on.started (sym (on.sound.off on.started)))

-- CUTS ARE COUNTED
same_counted : (s t : Told) → t.planning.unplanned ≡ s.planning.unplanned → t.cuts ≡ s.cuts → CountsUnplanned s t
same_counted s t planned cuts = inl (omega (arith, planned, cuts))

read_counted : (a : ℕ) (before into : List ℕ) (s t : Told) (answer : FlashAnswer) → IsRead a s before answer into t → CountsUnplanned s t
read_counted a before into s t Done is = (let same = is.1 in same_counted s t (ap (λ (x : Told). x.planning.unplanned) same) (ap (λ (x : Told). x.cuts) same))
read_counted a before into s t Failed is = (let same = is.1 in same_counted s t (ap (λ (x : Told). x.planning.unplanned) same) (ap (λ (x : Told). x.cuts) same))
read_counted a before into s t Off is = (let same = is.1 in same_counted s t (ap (λ (x : Told). x.planning.unplanned) same) (ap (λ (x : Told). x.cuts) same))

abbrev mark_begun : BanksState → Place → DeviceNumber → ℕ → Op
mark_begun b at n size = op_of (begun b.copies (head_at at n size)) []

begun_counted : (at : Place) (b : BanksState) (n : DeviceNumber) (size : ℕ) (s : Told) (answer : FlashAnswer) (t : BanksState) (s' : Told) → s.off ≡ false → BeginsAt at b n size s answer t s' → CountsUnplanned s s'
begun_counted (place.Content q count) b n size s answer t s' on is = read_counted (address_of_page b.geometry b.banks b.log.bank (q + 2)) (take size b.buffer) (take size t.buffer) s s' answer is.0
begun_counted (place.Invalid count) b n size s answer t s' on is = (asked_on s.off (mark_begun b (place.Invalid count) n size) s answer s' on is.0).counted
begun_counted (place.Erased count) b n size s answer t s' on is = (asked_on s.off (mark_begun b (place.Erased count) n size) s answer s' on is.0).counted
begun_counted place.Unwritten b n size s answer t s' on is = (asked_on s.off (mark_begun b place.Unwritten n size) s answer s' on is.0).counted

copy_counted : (b : BanksState) (o : Option RecHead) (s : Told) (answer : FlashAnswer) (s' : Told) → s.off ≡ false → IsSome o → ForSome o (λ h. IsStep (op_of b.copies (take h.length b.buffer)) s answer s') → CountsUnplanned s s'
copy_counted b None s answer s' on some is = cc some
copy_counted b (Some h) s answer s' on some is = (asked_on s.off (op_of b.copies (take h.length b.buffer)) s answer s' on (is h refl)).counted

made_counted : (b : BanksState) (c : Course) (s : Told) (answer : FlashAnswer) (t : BanksState) (s' : Told) → s.off ≡ false → CanGoOn b c → MakesNext b c s answer t s' → CountsUnplanned s s'
made_counted b (Erase n) s answer t s' on can is = (asked_on s.off (step_op b (Erase n)) s answer s' on is.0).counted
made_counted b (Copy None) s answer t s' on can is = begun_counted is.source.place b is.number is.source.length s answer t s' on is.begins
made_counted b (Copy (Some w)) s answer t s' on can is = copy_counted b (work_in b.copies.tail) s answer s' on can.work is.0
made_counted b Head s answer t s' on can is = (asked_on s.off (step_op b Head) s answer s' on is.0).counted
made_counted b (Gate failed) s answer t s' on can is = (asked_on s.off (step_op b (Gate failed)) s answer s' on is.0).counted

-- THE STEP
module _ {m : Making} {entry : Told} {w v : Whole} (at : Stands m entry w v) {c : Course} {f : FlsState} {answer : FlashAnswer} {b : BanksState} (made : IsBankStep w.parts.banks c w.parts.fls.flash answer b f.flash) where
  pub stepping : w.parts.banks.course ≡ Some c → IsLogState w.parts.banks.copies → All (λ x. x < 256) w.parts.banks.buffer → work_in v.parts.banks.log.tail ≡ None → IfSome v.parts.job (IsBehind v.parts.banks)
      → IsDriverState f → f ≡ record w.parts.fls { flash = f.flash; result = f.result } → IsStepping m entry w.parts w.numbers w.reserve w.ops c made.made answer f
  stepping course copies bytes idle behind driver only =
      let can = subst (λ (o : Option Course). IfSome o (CanGoOn w.parts.banks)) course (may_step at.on) in
      let counted = made_counted w.parts.banks c w.parts.fls.flash answer made.made f.flash (sym (at.on.sound.off at.on.started)) can made.makes in
      let idle' = ap (λ (x : Whole). work_in x.parts.banks.log.tail) at.shown ∙ idle in
      let behind' = subst (λ (x : Whole). IfSome x.parts.job (IsBehind x.parts.banks)) (sym at.shown) behind in
      record { on = at.on; course = course; copies = copies; bytes = bytes; idle = idle'; behind = behind'; drives = record { counted = counted; only = only; state = driver }; makes = made.makes }

-- AN OPERATION
-- of a course that is the first step of a copy, or any other
by_course : (P : Course → Type 0) → P (Copy None) → ((c : Course) → IsWithin c → P c) → (c : Course) → P c
by_course P first within (Erase n) = within (Erase n) tt
by_course P first within (Copy None) = first
by_course P first within (Copy (Some w)) = within (Copy (Some w)) tt
by_course P first within Head = within Head tt
by_course P first within (Gate failed) = within (Gate failed) tt

-- the next one of the open switch was made, and came to this
pub record IsTarget (m : Making) (entry : Told) (w : Whole) (answer : FlashAnswer) (f : FlsState) (b : BanksState) (operations : List Change) : Type 0 where
  pub course : Course
  pub made : IsBankStep w.parts.banks course w.parts.fls.flash answer b f.flash
  pub steps : IsStepping m entry w.parts w.numbers w.reserve w.ops course made.made answer f
  pub reads : reads_next w.parts.banks.log (Some course) ≡ false
  pub listed : operations ≡ w.parts.operations ++ change_of (step_op w.parts.banks course) w.parts.fls.flash answer ∷ []

module _ {m : Making} {entry : Told} {w v : Whole} (at : Stands m entry w v) (some : is_some v.parts.banks.course ≡ true) (reads : reads_next v.parts.banks.log v.parts.banks.course ≡ false) {f : FlsState} {answer : FlashAnswer} {b : BanksState} {operations : List Change}
    (is : ChangesTarget w.parts.fls w.parts.banks w.parts.operations answer f b operations) where
  pub target : IsLogState w.parts.banks.copies → All (λ x. x < 256) w.parts.banks.buffer → work_in v.parts.banks.log.tail ≡ None → IfSome v.parts.job (IsBehind v.parts.banks) → IsDriverState f → IsTarget m entry w answer f b operations
  target copies bytes idle behind driver =
      let c = some_at w.parts.banks.course (ap (λ (x : Whole). is_some x.parts.banks.course) at.shown ∙ some) in
      let made = subst (λ (o : Option Course). IfSome o (λ x. IsBankStep w.parts.banks x w.parts.fls.flash answer b f.flash)) c.1 is.step in
      let here = ap (λ (x : Whole). reads_next x.parts.banks.log x.parts.banks.course) at.shown ∙ reads in
      record {
        course = c.0;
        made = made;
        steps = stepping at made c.1 copies bytes idle behind driver is.same;
        reads = subst (λ (o : Option Course). reads_next w.parts.banks.log o ≡ false) c.1 here;
        listed = is.listed ∙ (λ i. w.parts.operations ++ change_of (switch_op_of w.parts.banks (c.1 i)) w.parts.fls.flash answer ∷ []);
      }

module _ {m : Making} {entry : Told} {w : Whole} {answer : FlashAnswer} {f : FlsState} {b : BanksState} {operations : List Change} (is : IsTarget m entry w answer f b operations) where
  abbrev s : Parts
  s = w.parts

  -- the parts behind it, and the turn to them
  abbrev next : FlashAnswer → Parts
  next a = record s { fls = f; banks = b; operations = operations; faults = counts_fault a s.faults }

  abbrev after : FlashAnswer → Course → BanksState → Parts
  after a c made = operated (step_op s.banks c) a f (after_answer made c a) s

  abbrev To : DeviceTurn → Parts → Bool → Type 0
  To answer t off = Turned m entry answer s t w.numbers w.reserve (next_count w.ops) off

  abbrev Steps : FlashAnswer → Course → BanksState → Type 0
  Steps a c made = IsStepping m entry s w.numbers w.reserve w.ops c made a f

  steps : (a : FlashAnswer) → answer ≡ a → Steps a is.course is.made.made
  steps a e = subst (λ (x : FlashAnswer). Steps x is.course is.made.made) e is.steps

  same : (a : FlashAnswer) → answer ≡ a → after a is.course is.made.made ≡ next a
  same a e =
      let listed = is.listed ∙ ap (λ (x : FlashAnswer). s.operations ++ change_of (step_op s.banks is.course) s.fls.flash x ∷ []) e in
      let banks = is.made.after ∙ ap (after_answer is.made.made is.course) e in
      sym (λ i. record s { fls = f; banks = banks i; operations = listed i; faults = counts_fault a s.faults })

  ended_by : (a : FlashAnswer) (Ends : Parts → Type 0) → ((made : BanksState) → Steps a (Copy None) made → reads_next s.banks.log (Some (Copy None)) ≡ false → Ends (after a (Copy None) made))
      → ((c : Course) → IsWithin c → (made : BanksState) → Steps a c made → Ends (after a c made)) → answer ≡ a → Ends (next a)
  ended_by a Ends first within e =
      subst Ends (same a e)
      (by_course (λ c. (made : BanksState) → Steps a c made → reads_next s.banks.log (Some c) ≡ false → Ends (after a c made)) first (λ c is made steps reads. within c is made steps) is.course is.made.made (steps a e) is.reads)

  pub goes_on : answer ≡ Done → To turn.Worked (next Done) false
  goes_on =
      ended_by Done (λ t. To turn.Worked t false) (λ made steps reads. marks_go_on m entry s w.numbers w.reserve w.ops made f steps reads)
      (λ c within made steps. switches_go_on m entry s w.numbers w.reserve w.ops c made f steps within)

  pub fails : answer ≡ Failed → To turn.Worked (failed_with s.job (next Failed)) false
  fails =
      ended_by Failed (λ t. To turn.Worked (failed_with s.job t) false) (λ made steps reads. marks_fail m entry s w.numbers w.reserve w.ops made f steps reads)
      (λ c within made steps. switches_fail m entry s w.numbers w.reserve w.ops c made f steps within)

  pub is_cut : answer ≡ Off → To turn.Off (next Off) true
  is_cut =
      ended_by Off (λ t. To turn.Off t true) (λ made steps reads. marks_are_cut m entry s w.numbers w.reserve w.ops made f steps reads)
      (λ c within made steps. switches_are_cut m entry s w.numbers w.reserve w.ops c made f steps within)

  -- and its banks follow the bytes
  pub follows_on : (a : FlashAnswer) → answer ≡ a → Follows s → Follows (next a)
  follows_on a e was = subst Follows (same a e) (steps_follow m entry s w.numbers w.reserve w.ops is.course is.made.made a f (steps a e) is.reads was)

  pub failed_follows : answer ≡ Failed → Follows s → Follows (failed_with s.job (next Failed))
  failed_follows e was = failed_follow (next Failed) s.job (follows_on Failed e was)

  -- and each of its operations was due
  pub wears_on : Follows s → Wears m entry s.operations → Wears m entry operations
  wears_on follows wears = subst (Wears m entry) (sym is.listed) (steps_wear m entry s w.numbers w.reserve w.ops is.course is.made.made answer f is.steps is.reads follows wears)

  pub failed_wears_on : Follows s → Wears m entry s.operations → Wears m entry (failed_with s.job (next Failed)).operations
  failed_wears_on follows wears = failed_wears m entry s.job (next Failed) (wears_on follows wears)

  -- and few switches began again
  pub restarts_on : (a : FlashAnswer) → answer ≡ a → (a ≡ Off → f.flash.off ≡ true) → Restarts m s → Restarts m (next a)
  restarts_on a e off few = subst (Restarts m) (same a e) (steps_restart m entry s w.numbers w.reserve w.ops is.course is.made.made a f (steps a e) off few)

  pub failed_restarts : answer ≡ Failed → Restarts m s → Restarts m (failed_with s.job (next Failed))
  failed_restarts e few = failed_restart m s.job (next Failed) (restarts_on Failed e (λ off. cc off) few)
