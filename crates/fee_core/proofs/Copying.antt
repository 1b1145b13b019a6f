-- The read of the content that a switch copies next, from what its call answers.
use Rattle.std.specs.Prelude.{IfSome, length}
use Rattle.std.specs.List.{All}
use Rattle.std.proofs.Common.{◌≡◌, ◌<◌, ℕ, true, false, Option, Some, None, refl, sym, ap, ◌∙◌, subst, arith}
use Rattle.nv_base.specs.Count.{next_count}
use Rattle.nv_base.specs.declared.instance.DeviceNumber.{DeviceNumber}
use Rattle.memif.specs.declared.answer.DeviceTurn.TheVariants as turn
use Rattle.fls_model.specs.declared.flash.FlashAnswer.{FlashAnswer}
use Rattle.fls_model.specs.declared.flash.FlashAnswer.TheVariants.{Done, Failed, Off}
use Rattle.fls_model.specs.Told.{Told}
use Rattle.fls_jobs.specs.State.{FlsState, IsDriverState}
use Rattle.fee_image.specs.declared.place.Place.{Place}
use Rattle.fee_image.specs.declared.place.Place.TheVariants as place
use Rattle.fee_laws.specs.fee_log.Log.{IsLogState, work_in}
use Rattle.fee_course.specs.declared.copies.Source.{Source}
use Rattle.fee_course.specs.declared.course.Course.{Course}
use Rattle.fee_course.specs.declared.course.Course.TheVariants.{Erase, Copy, Head, Gate}
use Rattle.fee_laws.specs.fee_switch.Banks.{BanksState, IsBanksState, reads_next, reads_source, reads_place, after_answer}
use Rattle.fee_laws.specs.fee_switch.Reading.{buffer_size}
use Rattle.fee_laws.specs.fee_switch.Copy.{BeginsAt, IsBankStep}
use Rattle.promise_device.specs.Making.{Making}
use Rattle.fee_laws.specs.Inside.{Parts}
use Rattle.fee_laws.specs.Turn.{Turned}
use Rattle.fee_laws.specs.Switches.{IsBehind, IsStepping, failed_with}
use Rattle.fee_laws.specs.Follows.{Follows}
use Rattle.fee_laws.specs.Wears.{Wears}
use Rattle.fee_laws.specs.Restarts.{may_come, Restarts}
use Rattle.fee_laws.proofs.Restarts.{none_advanced, count_few, restarts_stay, failed_restart}
use Rattle.fee_laws.proofs.FollowCalled.{failed_follow}
use Rattle.fee_laws.proofs.FollowTurned.{copies_follow}
use Rattle.fee_laws.proofs.WornSteps.{failed_wears}
use Rattle.fee_laws.proofs.SwitchContent.{copies_are_not_read, copies_are_read}
use Rattle.fee_core.specs.Whole.{Whole}
use Rattle.fee_core.proofs.Standing.{Stands}
use Rattle.fee_core.proofs.Stepping.{stepping}

-- a step that reads is the first one of a copy
pub reads_at : (b : BanksState) (o : Option Course) → reads_next b.log o ≡ true → o ≡ Some (Copy None)
reads_at b None reads = cc reads
reads_at b (Some (Erase n)) reads = cc reads
reads_at b (Some (Copy None)) reads = refl
reads_at b (Some (Copy (Some w))) reads = cc reads
reads_at b (Some Head) reads = cc reads
reads_at b (Some (Gate failed)) reads = cc reads

-- while the power is on it isn't cut, and it leaves the shape of the banks
not_cut : (at : Place) (b : BanksState) (n : DeviceNumber) (size : ℕ) (s : Told) (t : BanksState) (s' : Told) → reads_place at ≡ true → s.off ≡ false → BeginsAt at b n size s Off t s' → ⊥
not_cut (place.Content q count) b n size s t s' reads on is = (let off = is.0.2 in cc (on, off))
not_cut (place.Invalid count) b n size s t s' reads on is = cc reads
not_cut (place.Erased count) b n size s t s' reads on is = cc reads
not_cut place.Unwritten b n size s t s' reads on is = cc reads

shape_same : (at : Place) (b : BanksState) (n : DeviceNumber) (size : ℕ) (s : Told) (answer : FlashAnswer) (t : BanksState) (s' : Told) → BeginsAt at b n size s answer t s' → (t.geometry ≡ b.geometry) × (t.banks ≡ b.banks)
shape_same (place.Content q count) b n size s answer t s' is = (ap (λ (x : BanksState). x.geometry) is.1, ap (λ (x : BanksState). x.banks) is.1)
shape_same (place.Invalid count) b n size s answer t s' is = (ap (λ (x : BanksState). x.geometry) is.1, ap (λ (x : BanksState). x.banks) is.1)
shape_same (place.Erased count) b n size s answer t s' is = (ap (λ (x : BanksState). x.geometry) is.1, ap (λ (x : BanksState). x.banks) is.1)
shape_same place.Unwritten b n size s answer t s' is = (ap (λ (x : BanksState). x.geometry) is.1, ap (λ (x : BanksState). x.banks) is.1)

-- it was made, and came to this
pub record IsCopied (m : Making) (entry : Told) (w : Whole) (answer : FlashAnswer) (f : FlsState) (b : BanksState) : Type 0 where
  pub made : IsBankStep w.parts.banks (Copy None) w.parts.fls.flash answer b f.flash
  pub steps : IsStepping m entry w.parts w.numbers w.reserve w.ops (Copy None) made.made answer f
  pub reads : reads_next w.parts.banks.log (Some (Copy None)) ≡ true
  pub state : IsBanksState b

module _ {m : Making} {entry : Told} {w v : Whole} (at : Stands m entry w v) (reads : reads_next v.parts.banks.log v.parts.banks.course ≡ true) where
  here : reads_next w.parts.banks.log w.parts.banks.course ≡ true
  here = ap (λ (x : Whole). reads_next x.parts.banks.log x.parts.banks.course) at.shown ∙ reads

  pub copies_next : w.parts.banks.course ≡ Some (Copy None)
  copies_next = reads_at w.parts.banks w.parts.banks.course here

  module _ {f : FlsState} {answer : FlashAnswer} {b : BanksState} where
    pub copy : IsLogState w.parts.banks.copies → All (λ x. x < 256) w.parts.banks.buffer → work_in v.parts.banks.log.tail ≡ None → IfSome v.parts.job (IsBehind v.parts.banks) → IsDriverState f → f ≡ record w.parts.fls { flash = f.flash; result = f.result }
        → IfSome w.parts.banks.course (λ c. IsBankStep w.parts.banks c w.parts.fls.flash answer b f.flash) → IsBanksState b → IsCopied m entry w answer f b
    copy copies bytes idle behind driver only is state =
        let made = subst (λ (o : Option Course). IfSome o (λ c. IsBankStep w.parts.banks c w.parts.fls.flash answer b f.flash)) copies_next is in
        record {
          made = made;
          steps = stepping at made copies_next copies bytes idle behind driver only;
          reads = subst (λ (o : Option Course). reads_next w.parts.banks.log o ≡ true) copies_next here;
          state = state;
        }

module _ {m : Making} {entry : Told} {w : Whole} {answer : FlashAnswer} {f : FlsState} {b : BanksState} (is : IsCopied m entry w answer f b) where
  abbrev s : Parts
  s = w.parts

  abbrev made : IsBankStep s.banks (Copy None) s.fls.flash answer b f.flash
  made = is.made

  place_read : reads_place made.makes.source.place ≡ true
  place_read = subst (λ (o : Option Source). reads_source o ≡ true) made.makes.next.first is.reads

  off_not : answer ≡ Off → ⊥
  off_not e =
      not_cut made.makes.source.place s.banks made.makes.number made.makes.source.length s.fls.flash made.made f.flash place_read (sym (is.steps.on.sound.off is.steps.on.started))
      (subst (λ (x : FlashAnswer). BeginsAt made.makes.source.place s.banks made.makes.number made.makes.source.length s.fls.flash x made.made f.flash) e made.makes.begins)

  done_by : (a : FlashAnswer) → (a ≡ Failed → ⊥) → (a ≡ Off → ⊥) → a ≡ Done
  done_by Done failed off = refl
  done_by Failed failed off = absurd (failed refl)
  done_by Off failed off = absurd (off refl)

  pub copy_done : (answer ≡ Failed → ⊥) → answer ≡ Done
  copy_done failed = done_by answer failed off_not

  after : (a : FlashAnswer) → answer ≡ a → after_answer made.made (Copy None) a ≡ b
  after a same = sym (made.after ∙ ap (after_answer made.made (Copy None)) same)

  steps : (a : FlashAnswer) → answer ≡ a → IsStepping m entry s w.numbers w.reserve w.ops (Copy None) made.made a f
  steps a same = subst (λ (x : FlashAnswer). IsStepping m entry s w.numbers w.reserve w.ops (Copy None) made.made x f) same is.steps

  -- its room is the same, as both are of the same flash
  room : answer ≡ Done → length made.made.buffer ≡ length s.banks.buffer
  room done =
      let shape = shape_same made.makes.source.place s.banks made.makes.number made.makes.source.length s.fls.flash answer made.made f.flash made.makes.begins in
      let behind : length made.made.buffer ≡ buffer_size made.made.geometry made.made.banks = (subst IsBanksState (sym (after Done done)) is.state).buffer in
      behind ∙ (λ i. buffer_size (shape.0 i) (shape.1 i)) ∙ sym is.steps.on.banks.buffer

  pub copied : answer ≡ Done → Turned m entry turn.Worked s (record s { fls = f; banks = b }) w.numbers w.reserve w.ops false
  copied done =
      subst (λ (x : BanksState). Turned m entry turn.Worked s (record s { fls = f; banks = x }) w.numbers w.reserve w.ops false) (after Done done)
      (copies_are_read m entry s w.numbers w.reserve w.ops made.made f (steps Done done) is.reads (room done))

  pub not_copied : answer ≡ Failed → Turned m entry turn.Worked s (failed_with s.job (record s { fls = f; banks = b; faults = next_count s.faults })) w.numbers w.reserve w.ops false
  not_copied failed =
      subst (λ (x : BanksState). Turned m entry turn.Worked s (failed_with s.job (record s { fls = f; banks = x; faults = next_count s.faults })) w.numbers w.reserve w.ops false) (after Failed failed)
      (copies_are_not_read m entry s w.numbers w.reserve w.ops made.made f (steps Failed failed) is.reads)

  pub copy_follows : (a : FlashAnswer) → answer ≡ a → Follows s → Follows (record s { fls = f; banks = b })
  copy_follows a same was =
      subst (λ (x : BanksState). Follows (record s { fls = f; banks = x })) (after a same)
      (copies_follow m entry s w.numbers w.reserve w.ops made.made a f (steps a same) is.reads (λ e. room (same ∙ e)) was)

  pub failed_copy_follows : answer ≡ Failed → Follows s → Follows (failed_with s.job (record s { fls = f; banks = b; faults = next_count s.faults }))
  failed_copy_follows failed was = failed_follow (record s { fls = f; banks = b; faults = next_count s.faults }) s.job (copy_follows Failed failed was)

  -- and it made no operation
  pub failed_copy_wears : Wears m entry s.operations → Wears m entry (failed_with s.job (record s { fls = f; banks = b; faults = next_count s.faults })).operations
  failed_copy_wears wears = failed_wears m entry s.job (record s { fls = f; banks = b; faults = next_count s.faults }) wears

  -- nor did a switch come nearer, or a fault was counted
  pub copied_restarts : answer ≡ Done → Restarts m s → Restarts m (record s { fls = f; banks = b })
  copied_restarts done few =
      let off = f.flash.off in
      subst (λ (x : BanksState). Restarts m (record s { fls = f; banks = x })) (after Done done)
      (restarts_stay m entry s w.numbers w.reserve w.ops is.steps.on off (after_answer made.made (Copy None) Done).course s.faults (omega arith) (λ e. absurd (none_advanced made.made (Copy None) e)) few)

  pub failed_copy_restarts : Restarts m s → Restarts m (failed_with s.job (record s { fls = f; banks = b; faults = next_count s.faults }))
  failed_copy_restarts few =
      let t = record s { fls = f; banks = b; faults = next_count s.faults } in
      failed_restart m s.job t (count_few m s.operations s.started (may_come s) (may_come t) s.starts s.faults few)
