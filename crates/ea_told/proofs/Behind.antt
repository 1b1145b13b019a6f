-- A device is sound behind a step of its open job.
use Rattle.std.specs.Prelude.{IfSome, IsTrue}
use Rattle.std.proofs.Common.{◌≡◌, ◌≢◌, ◌≤◌, ℕ, Bool, false, List, Some, sym, ap, ◌∙◌, subst, arith}
use Rattle.std.proofs.lemmas.List.{length-set}
use Rattle.nv_base.specs.Count.{next_count}
use Rattle.memif.specs.declared.answer.JobResult.{JobResult}
use Rattle.memif.specs.declared.answer.JobResult.TheVariants.{JobPending}
use Rattle.fls_model.specs.declared.flash.FlashAnswer.{FlashAnswer}
use Rattle.fls_model.specs.declared.flash.FlashAnswer.TheVariants.{Done, Failed, Off}
use Rattle.fls_model.specs.Step.{IsAsked, HasCause, OffOrAsked}
use Rattle.fls_model.specs.Told.{Told, bytes_now}
use Rattle.fls_model.proofs.Kept.{steps_keep_bytes}
use Rattle.fls_jobs.specs.CallOf.{closed_as}
use Rattle.fls_jobs.specs.State.{FlsState}
use Rattle.fls_told.specs.Device.{tells_held}
use Rattle.fls_told.specs.Clock.{change_of}
use Rattle.ea_image.specs.declared.step.SlotStep.{SlotStep}
use Rattle.ea_image.specs.declared.step.SlotStep.TheVariants.{EraseHead, EraseBody, Body, Head, Gate}
use Rattle.ea_image.specs.Memory.{HoldsSlots}
use Rattle.ea_image.specs.Slots.{slot_bytes, other, standing}
use Rattle.fls_told.proofs.Counted.{few_faults, next_length}
use Rattle.fls_told.proofs.ToldBytes.{before_told, each_told}
use Rattle.ea_told.specs.declared.job.EaJob.{EaJob}
use Rattle.ea_told.specs.Making.{Making}
use Rattle.ea_told.specs.Parts.{Parts}
use Rattle.ea_told.specs.Inside.{IsMadeFor, IsJob, HoldAll, StandAll, HasComeTo, IsSound}
use Rattle.ea_told.specs.Turn.{last_after, given_after, off_after}
use Rattle.ea_told.specs.Laws.{IsStepping}
use Rattle.ea_told.proofs.Stepping.{op, size, started, power}
use Rattle.ea_told.proofs.Stepped.{t, d0, after, cuts, run, worn_same, hold_all, stand_all}

given_few : (a : FlashAnswer) (step : SlotStep) (given most : ℕ) → given ≤ most → given_after a step given ≤ most
given_few Done EraseHead given most le = le
given_few Done EraseBody given most le = le
given_few Done (Body i) given most le = le
given_few Done Head given most le = le
given_few Done Gate given most le = omega arith
given_few Failed step given most le = omega arith
given_few Off step given most le = le

ends_so : (a : FlashAnswer) (step : SlotStep) (last : JobResult) → last ≢ JobPending → last_after a step last ≢ JobPending
ends_so Done EraseHead last ends = ends
ends_so Done EraseBody last ends = ends
ends_so Done (Body i) last ends = ends
ends_so Done Head last ends = ends
ends_so Done Gate last ends = λ e. cc e
ends_so Failed step last ends = λ e. cc e
ends_so Off step last ends = ends

off_so : (a : FlashAnswer) (s t : Told) (off : Bool) → off ≡ false → HasCause a s t → off_after a off ≡ t.off
off_so Done s t off on cause = on ∙ sym cause.2
off_so Failed s t off on cause = on ∙ sym cause.2
off_so Off s t off on cause = sym cause.2

module _ (m : Making) (entry : Told) (s : Parts) (j : EaJob) (at : IsStepping m entry s j) (a : FlashAnswer) (f : FlsState) (asked : IsAsked (op m entry s j at) s.fls.flash a f.flash) (only : f ≡ record s.fls { flash = f.flash; result = closed_as a }) where
  abbrev pub t' : Parts
  t' = t m entry s j at a f asked

  -- what depends on the answer
  pub record Then : Type 0 where
    pub own_holds : (old new : List ℕ) → bytes_now s.fls.flash ≡ Some old → bytes_now f.flash ≡ Some new → IsTrue (tells_held (d0 m entry s j at a f asked))
        → HoldsSlots m.geometry.page (size m entry s j at) (after m entry s j at a f asked).memory (slot_bytes m.geometry new j.place)
    pub own_stands : (old new : List ℕ) → bytes_now s.fls.flash ≡ Some old → bytes_now f.flash ≡ Some new
        → standing m.geometry.page (size m entry s j at) (slot_bytes m.geometry new j.place (other (after m entry s j at a f asked).memory.target)) ≡ (after m entry s j at a f asked).memory.settled
    pub job : IfSome t'.job (IsJob m t')
    pub work : f.flash.off ≡ false → IfSome t'.job (λ x. IfSome (bytes_now f.flash) (HasComeTo m t' x))

  made : IsMadeFor m t'
  made =
      let was = at.sound.made_for in
      record {
        slots = was.slots;
        geometry = was.geometry;
        driver = ap (λ (x : FlsState). x.geometry) only ∙ was.driver;
        numbers = was.numbers;
        idle = record { job = ap (λ (x : FlsState). x.job) only ∙ was.idle.job; attached = ap (λ (x : FlsState). x.attached) only ∙ was.idle.attached };
        bytes = steps_keep_bytes m.geometry (op m entry s j at) s.fls.flash a f.flash (subst (λ (b : Bool). OffOrAsked b (op m entry s j at) s.fls.flash a f.flash) (sym (power m entry s j at)) asked) was.bytes;
        states = length-set s.states j.place (after m entry s j at a f asked) ∙ was.states;
        room = was.room;
        small = was.small;
        given = given_few a j.step s.given m.geometry.sector was.given;
        ended = ends_so a j.step s.last was.ended;
      }

  pub then_sound : Then → IsSound m entry t'
  then_sound then' = record {
    made_for = made;
    run = run m entry s j at a f asked;
    rests = λ unstarted. (let is = started m entry s j at in cc (is, unstarted));
    held = λ is told. each_told f.flash.bytes (HoldAll m t') (λ new now.
        (let before = before_told s.fls.flash.bytes f.flash.bytes (op m entry s j at) a new asked.bytes now in
        hold_all m entry s j at a f asked then'.own_holds before.0 new (told, before.1, now)));
    stands = λ is. each_told f.flash.bytes (StandAll m t') (λ new now.
        (let before = before_told s.fls.flash.bytes f.flash.bytes (op m entry s j at) a new asked.bytes now in
        stand_all m entry s j at a f asked then'.own_stands before.0 new before.1 now));
    job = then'.job;
    work = then'.work;
    cuts = cuts m entry s j at a f asked;
    worn = λ i since is. (let was = at.sound.worn i since (sym (worn_same m entry s j at a f asked i) ∙ is) in let count = at.sound.ops in let goal : since ≤ next_count s.ops = omega (arith, was, count) in goal);
    faults = few_faults a s.faults at.sound.faults;
    ops = next_length s.operations (change_of (op m entry s j at) s.fls.flash a) s.ops at.sound.ops;
    off = λ is. off_so a s.fls.flash f.flash s.off at.on asked.cause;
  }
