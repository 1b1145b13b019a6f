-- The turn of a step that was asked for.
use Rattle.std.specs.Prelude.{not, is_none, ◌&&◌, if◌then◌else◌}
use Rattle.std.proofs.Common.{◌≡◌, inl, inr, ◌≤◌, Bool, true, false, [], ◌∷◌, Option, Some, None, refl, sym, ap, ◌∙◌, subst, arith}
use Rattle.std.proofs.lemmas.Bool.{false≢true}
use Rattle.nv_base.specs.Count.{Rose, next_count}
use Rattle.nv_base.specs.declared.mark.Mark.{Mark}
use Rattle.memif.specs.declared.answer.DeviceTurn.TheVariants as turn
use Rattle.memif.specs.declared.answer.JobResult.TheVariants.{JobFailed}
use Rattle.memif.specs.Told.{DeviceTold, First, Stand, Open, Ended, Job, IfElse, is_open, nothing_open}
use Rattle.memif.specs.Marks.{KeepsAll}
use Rattle.memif.specs.Calls.{Works, IsCut, JobTurns, EndsAs, TurnsReady, Nearer, is_read, urgent_first}
use Rattle.fls_model.specs.declared.flash.FlashAnswer.TheVariants.{Failed, Off}
use Rattle.fls_model.specs.Step.{IsAsked}
use Rattle.fls_model.specs.Told.{Told}
use Rattle.fls_jobs.specs.CallOf.{closed_as}
use Rattle.fls_jobs.specs.State.{FlsState}
use Rattle.fls_told.proofs.Parts.{parts_cut}
use Rattle.ea_image.specs.declared.memory.SlotMemory.{SlotMemory}
use Rattle.ea_image.specs.declared.slot_head.SlotHead.{SlotHead}
use Rattle.ea_image.specs.declared.which.Which.{Which}
use Rattle.ea_image.specs.declared.step.SlotStep.{SlotStep}
use Rattle.ea_image.specs.Memory.{memory_failed}
use Rattle.ea_image.specs.declared.step.SlotStep.TheVariants.{EraseHead, EraseBody, Body, Head, Gate}
use Rattle.ea_image.specs.Slots.{slot_bytes, other, standing}
use Rattle.ea_image.proofs.Holds.{failed_steps_hold}
use Rattle.fls_told.proofs.Counted.{rose_next}
use Rattle.ea_told.specs.declared.job.EaJob.{EaJob}
use Rattle.ea_told.specs.declared.state.SlotState.{SlotState}
use Rattle.ea_told.specs.Making.{Making}
use Rattle.ea_told.specs.Parts.{Parts}
use Rattle.ea_told.specs.Device.{state_at, can_write, mark_of, wait_of, fixed_for, told_of, clock_of}
use Rattle.ea_told.specs.Turn.{memory_after}
use Rattle.ea_told.specs.Laws.{Turned, IsStepping}
use Rattle.ea_told.proofs.Order.{order, is_of_first, urgent_is}
use Rattle.ea_told.proofs.Slot.{same_marks, no_marks, failed_keeps}
use Rattle.ea_told.proofs.Stepping.{h, content, pages, mem, op, size, started, is_job, next, jm, stand_is, job_here, job_elsewhere, come, body, at_step}
use Rattle.ea_told.proofs.Stepped.{t, e, d0, counts, part_works, ticks, Behind, KeepsOwn, keeps_all, state_here, beside_stands}
use Rattle.ea_told.proofs.Behind.{Then, then_sound}

-- what is settled stays, and the slot with it
pub stays_failed : (x : SlotStep) (hd : SlotHead) (w : SlotMemory) (Stands : Which → Option SlotHead → Type 0) → Stands (other w.target) w.settled → Stands (other (memory_failed x hd w).target) (memory_failed x hd w).settled
stays_failed EraseHead hd w Stands is = is
stays_failed EraseBody hd w Stands is = is
stays_failed (Body i) hd w Stands is = is
stays_failed Head hd w Stands is = is
stays_failed Gate hd w Stands is = is

-- while its job is open
module _ (m : Making) (entry : Told) (s : Parts) (j : EaJob) (at : IsStepping m entry s j) where
  abbrev pub old_told : DeviceTold
  old_told = told_of m entry s

  abbrev pub job_told : Job
  job_told = record { number = j.number.0; mark = mark_of j.op (content m entry s j at); urgent = j.urgent }

  pub something : nothing_open old_told ≡ false
  something = ap (λ (x : Stand). not (is_open x) && not false) (stand_is m entry s j at)

  pub no_read : is_read old_told.stand ≡ false
  no_read = ap is_read (stand_is m entry s j at) ∙ ap (λ (o : Option Mark). is_none o) (jm m entry s j at).is

  ready_by : (new : DeviceTold) (b : Bool) → urgent_first (fixed_for m) old_told.stand ≡ b → IfElse b (Nearer old_told new) (0 ≤ new.ready)
  ready_by new false e = omega arith
  ready_by new true e = λ v wait.
      (let urgent : j.urgent ≡ true = sym (urgent_is m job_told) ∙ ap (urgent_first (fixed_for m)) (sym (stand_is m entry s j at)) ∙ e in
      let none : wait_of s.job ≡ None = ap wait_of at.job ∙ ap (λ (b : Bool). if b then None else Some 0) urgent in
      cc (wait, none))

  pub ready : (new : DeviceTold) → TurnsReady old_told new
  ready new calm = ready_by new (urgent_first (fixed_for m) old_told.stand) refl

-- FAILED
module _ (m : Making) (entry : Told) (s : Parts) (j : EaJob) (at : IsStepping m entry s j) (f : FlsState) (asked : IsAsked (op m entry s j at) s.fls.flash Failed f.flash) (only : f ≡ record s.fls { flash = f.flash; result = closed_as Failed }) where
  abbrev failed_behind : Behind m entry s j at Failed f asked
  failed_behind = record { fewer = []; few = no_marks ((jm m entry s j at).mark ∷ []); here = refl; elsewhere = λ k apart. refl }

  failed_keeps_own : KeepsOwn m entry s j at Failed f asked failed_behind
  failed_keeps_own old new now now' held =
      let leaves = (Rattle.ea_told.proofs.Stepped.left m entry s j at Failed f asked old new now now').0 in
      failed_keeps m.geometry.page (pages m entry s j at) (size m entry s j at) (h m entry s j at) (content m entry s j at) (mem m entry s j at) (slot_bytes m.geometry old j.place) (slot_bytes m.geometry new j.place) (jm m entry s j at).mark j.step []
      (at_step m entry s j at old now held new leaves) (no_marks ((jm m entry s j at).mark ∷ [])) (next m entry s j at) (come m entry s j at old now held).doubt (body m entry s j at old now held) (jm m entry s j at).shown

  failed_then : Then m entry s j at Failed f asked only
  failed_then = record {
    own_holds = λ old new now now' held.
        (let leaves = (Rattle.ea_told.proofs.Stepped.left m entry s j at Failed f asked old new now now').0 in
        failed_steps_hold m.geometry.page (pages m entry s j at) (size m entry s j at) (h m entry s j at) (content m entry s j at) j.step (mem m entry s j at) (slot_bytes m.geometry old j.place) (slot_bytes m.geometry new j.place) (at_step m entry s j at old now held new leaves));
    own_stands = λ old new now now'. stays_failed j.step (h m entry s j at) (mem m entry s j at) (λ w o. standing m.geometry.page (size m entry s j at) (slot_bytes m.geometry new j.place w) ≡ o) (beside_stands m entry s j at Failed f asked old new now now');
    job = tt;
    work = λ on. tt;
  }

  abbrev tf : Parts
  tf = t m entry s j at Failed f asked

  marks : KeepsAll (told_of m entry s) (told_of m entry tf)
  marks = keeps_all m entry s j at Failed f asked failed_behind failed_keeps_own

  rose : Rose s.faults (next_count s.faults)
  rose = rose_next s.faults at.sound.faults

  ends : EndsAs (mark_of j.op (content m entry s j at)) j.number.0 JobFailed [] (told_of m entry s) (told_of m entry tf)
  ends = subst (λ (o : Option Mark). EndsAs o j.number.0 JobFailed [] (told_of m entry s) (told_of m entry tf)) (sym (jm m entry s j at).is) (marks, refl)

  works : Works First (told_of m entry s) (told_of m entry tf) (clock_of m entry tf)
  works = record {
    only = refl;
    up = started m entry s j at;
    of = is_of_first m s.content s.job s.last s.given;
    part = part_works m entry s j at Failed f asked (λ e. cc e);
    job = subst (λ (x : Stand). JobTurns First x (Ended JobFailed []) (told_of m entry s) (told_of m entry tf) (clock_of m entry tf)) (sym (stand_is m entry s j at)) (ends, λ is. inl rose);
    read = λ read. (let none = no_read m entry s j at in absurd (false≢true (sym none ∙ read)));
    nearer = inr rose;
    ready = ready m entry s j at (told_of m entry tf);
    seals = λ k ops few was either. absurd (false≢true was.2);
  }

  pub failed_turn : Turned m entry turn.Worked s tf
  failed_turn =
      let sound = then_sound m entry s j at Failed f asked only failed_then in
      record { turns = ((something m entry s j at, (First, works, ticks m entry s j at Failed f asked)), order m entry tf sound); sound = sound }

-- CUT
module _ (m : Making) (entry : Told) (s : Parts) (j : EaJob) (at : IsStepping m entry s j) (f : FlsState) (asked : IsAsked (op m entry s j at) s.fls.flash Off f.flash) (only : f ≡ record s.fls { flash = f.flash; result = closed_as Off }) where
  abbrev to : Parts
  to = t m entry s j at Off f asked

  abbrev cut_behind : Behind m entry s j at Off f asked
  cut_behind = record {
    fewer = (jm m entry s j at).mark ∷ [];
    few = same_marks ((jm m entry s j at).mark ∷ []);
    here = job_here j.number.0 j.number.0 (mark_of j.op (content m entry s j at)) (jm m entry s j at).mark refl (jm m entry s j at).is;
    elsewhere = λ k apart. job_elsewhere j.number.0 k (mark_of j.op (content m entry s j at)) apart;
  }

  cut_keeps_own : KeepsOwn m entry s j at Off f asked cut_behind
  cut_keeps_own old new now now' held =
      let leaves = (Rattle.ea_told.proofs.Stepped.left m entry s j at Off f asked old new now now').0 in
      failed_keeps m.geometry.page (pages m entry s j at) (size m entry s j at) (h m entry s j at) (content m entry s j at) (mem m entry s j at) (slot_bytes m.geometry old j.place) (slot_bytes m.geometry new j.place) (jm m entry s j at).mark j.step ((jm m entry s j at).mark ∷ [])
      (at_step m entry s j at old now held new leaves) (same_marks ((jm m entry s j at).mark ∷ [])) (next m entry s j at) (come m entry s j at old now held).doubt (body m entry s j at old now held) (jm m entry s j at).shown

  went_off : f.flash.off ≡ true
  went_off = asked.cause.2

  settled_same : (step : SlotStep) (x : SlotState) → can_write (record { memory = memory_after Off step (h m entry s j at) x.memory; worn = x.worn }) ≡ can_write x
  settled_same EraseHead x = refl
  settled_same EraseBody x = refl
  settled_same (Body i) x = refl
  settled_same Head x = refl
  settled_same Gate x = refl

  cut_then : Then m entry s j at Off f asked only
  cut_then = record {
    own_holds = λ old new now now' held.
        (let leaves = (Rattle.ea_told.proofs.Stepped.left m entry s j at Off f asked old new now now').0 in
        failed_steps_hold m.geometry.page (pages m entry s j at) (size m entry s j at) (h m entry s j at) (content m entry s j at) j.step (mem m entry s j at) (slot_bytes m.geometry old j.place) (slot_bytes m.geometry new j.place) (at_step m entry s j at old now held new leaves));
    own_stands = λ old new now now'. stays_failed j.step (h m entry s j at) (mem m entry s j at) (λ w o. standing m.geometry.page (size m entry s j at) (slot_bytes m.geometry new j.place w) ≡ o) (beside_stands m entry s j at Off f asked old new now now');
    job =
        (let is = is_job m entry s j at in
        record { size = is.size; entry = is.entry; fits = is.fits; step = is.step; begun = λ behind. ap can_write (state_here m entry s j at Off f asked) ∙ settled_same j.step (state_at s.states j.place) ∙ at.writable });
    work = λ on. (let off = went_off in cc (off, on));
  }

  cut_marks : KeepsAll (told_of m entry s) (told_of m entry to)
  cut_marks = keeps_all m entry s j at Off f asked cut_behind cut_keeps_own

  abbrev stand_then : Stand
  stand_then = Open (job_told m entry s j at)

  cut : IsCut First (told_of m entry s) (record (told_of m entry to) { stand = (told_of m entry s).stand })
  cut = record {
    only = refl;
    of = is_of_first m s.content s.job s.last s.given;
    part = parts_cut (op m entry s j at) (d0 m entry s j at Off f asked) (e m entry s j at Off f asked) (counts m entry s j at Off f asked);
    no_read = no_read m entry s j at;
    marks = cut_marks;
  }

  pub cut_turn : Turned m entry turn.Off s to
  cut_turn =
      let sound = then_sound m entry s j at Off f asked only cut_then in
      let stays : (told_of m entry s).stand ≡ (told_of m entry to).stand = stand_is m entry s j at in
      record {
        turns = (
          (
            something m entry s j at,
            (
              First,
              inr (
                subst (λ (x : Stand). IsCut First (told_of m entry s) (record (told_of m entry to) { stand = x })) stays cut,
                ticks m entry s j at Off f asked,
              ),
            ),
          ),
          order m entry to sound,
        );
        sound = sound;
      }
