-- The turn of a step that was done.
use Rattle.std.specs.Prelude.{IfSome, ◌==◌, nat_lt, if◌then◌else◌}
use Rattle.std.proofs.Common.{◌≡◌, ◌≢◌, ◌⊎◌, inl, inr, ◌<◌, ◌≤◌, ◌+◌, ◌-◌, ℕ, Bool, true, false, List, [], ◌∷◌, length, take, Option, Some, None, refl, sym, ap, ◌∙◌, subst, arith}
use Rattle.std.proofs.lemmas.Bool.{cases_Bool, cases_eq, false≢true}
use Rattle.nv_base.specs.declared.instance.DeviceNumber.{DeviceNumber}
use Rattle.nv_base.specs.declared.job.DeviceOp.{DeviceOp}
use Rattle.nv_base.specs.declared.job.DeviceOp.TheVariants.{Read, Write, Invalidate, Erase}
use Rattle.nv_base.specs.declared.mark.Mark.{Mark}
use Rattle.memif.specs.declared.answer.DeviceTurn.TheVariants as turn
use Rattle.memif.specs.declared.answer.JobResult.{JobResult}
use Rattle.memif.specs.declared.answer.JobResult.TheVariants.{JobOk}
use Rattle.memif.specs.Told.{First, Slot, no_slot, Stand, Open, Ended, IfElse}
use Rattle.memif.specs.Marks.{KeepsAll, Keeps, Settles, SettlesAs}
use Rattle.memif.specs.Calls.{Works, JobTurns, EndsAs}
use Rattle.fls_model.specs.declared.flash.FlashAnswer.TheVariants.{Done}
use Rattle.fls_model.specs.Op.{MayLeave}
use Rattle.fls_model.specs.Step.{IsAsked}
use Rattle.fls_model.specs.Told.{Told, bytes_now}
use Rattle.fls_jobs.specs.CallOf.{closed_as}
use Rattle.fls_jobs.specs.State.{FlsState}
use Rattle.fls_told.specs.Device.{slot_with}
use Rattle.fls_told.specs.Tells.{AreTold, OneSettles}
use Rattle.fls_told.proofs.Tells.{tells_settle}
use Rattle.fee_format.specs.Pages.{body_pages_of}
use Rattle.fee_format.proofs.Tests.{eq_is, lt_is}
use Rattle.ea_image.specs.declared.memory.SlotMemory.{SlotMemory}
use Rattle.ea_image.specs.declared.slot_head.SlotHead.{SlotHead}
use Rattle.ea_image.specs.declared.which.Which.{Which}
use Rattle.ea_image.specs.declared.which.Which.TheVariants.{Slot0, Slot1}
use Rattle.ea_image.specs.declared.step.SlotStep.{SlotStep}
use Rattle.ea_image.specs.declared.step.SlotStep.TheVariants.{EraseHead, EraseBody, Body, Head, Gate}
use Rattle.ea_image.specs.Memory.{sequence_next, memory_done}
use Rattle.ea_image.specs.Slots.{SlotBytes, slot_bytes, other, standing}
use Rattle.ea_image.specs.Steps.{steps_left, step_next, body_or_head, IsStepOf, HasCome}
use Rattle.ea_image.proofs.Done.{steps_go_on, gates_open}
use Rattle.ea_image.proofs.Holds.{done_steps_hold}
use Rattle.fls_told.proofs.ToldBytes.{before_told, each_told}
use Rattle.ea_told.specs.declared.job.EaJob.{EaJob}
use Rattle.ea_told.specs.declared.state.SlotState.{SlotState}
use Rattle.ea_told.specs.Making.{Making, entry_of, at_entry}
use Rattle.ea_told.specs.Parts.{Parts}
use Rattle.ea_told.specs.Device.{state_at, can_write, kind_of, mark_of, stand_of, job_left, left_of, job_leaves, slot_told, told_of, clock_of}
use Rattle.ea_told.specs.Inside.{IsJob, HasComeTo}
use Rattle.ea_told.specs.Turn.{job_done, last_done, given_done}
use Rattle.ea_told.specs.Laws.{Turned, IsStepping}
use Rattle.ea_told.proofs.Lists.{entry_is}
use Rattle.ea_told.proofs.Order.{order, is_of_first}
use Rattle.ea_told.proofs.Slot.{same_marks, keeps_same, done_keeps, gate_settles}
use Rattle.ea_told.proofs.Stepping.{h, content, mem, op, size, started, is_job, slot, small, next, jm, jl, own, not_own, told, told_is, marks_here, marks_elsewhere, stand_is, job_here, job_elsewhere, are, others, come, come_at, at_step}
use Rattle.ea_told.proofs.Stepped.{t, e, d0, left, part_works, ticks, same, told_behind, told_then, told_then_is, Behind, KeepsOwn, keeps_all, state_here, state_else, beside_stands}
use Rattle.ea_told.proofs.Behind.{Then, then_sound}
use Rattle.ea_told.proofs.Turning.{job_told, something, no_read, ready}

-- STEPS
pub step_cases : (x : SlotStep) → (x ≡ Gate) ⊎ (x ≡ Gate → ⊥)
step_cases EraseHead = inr (λ e. cc e)
step_cases EraseBody = inr (λ e. cc e)
step_cases (Body i) = inr (λ e. cc e)
step_cases Head = inr (λ e. cc e)
step_cases Gate = inl refl

goes_on : (p : ℕ) (j : EaJob) (x : SlotStep) → x ≢ Gate → job_done p j x ≡ Some (record j { step = step_next p x })
goes_on p j EraseHead no_gate = refl
goes_on p j EraseBody no_gate = refl
goes_on p j (Body i) no_gate = refl
goes_on p j Head no_gate = refl
goes_on p j Gate no_gate = absurd (no_gate refl)

last_so : (x : SlotStep) (last : JobResult) → x ≢ Gate → last_done x last ≡ last
last_so EraseHead last no_gate = refl
last_so EraseBody last no_gate = refl
last_so (Body i) last no_gate = refl
last_so Head last no_gate = refl
last_so Gate last no_gate = absurd (no_gate refl)

given_so : (x : SlotStep) (given : ℕ) → x ≢ Gate → given_done x given ≡ given
given_so EraseHead given no_gate = refl
given_so EraseBody given no_gate = refl
given_so (Body i) given no_gate = refl
given_so Head given no_gate = refl
given_so Gate given no_gate = absurd (no_gate refl)

-- a page of the body or the head is one of the body's pages
body_step : (p i : ℕ) → IsStepOf p (body_or_head p i)
body_step p i = elim (cases_Bool (nat_lt i p)) [
  | inl t' ↦ subst (λ (b : Bool). IsStepOf p (if b then Body i else Head)) (sym t') ((lt_is i p).0 t')
  | inr f ↦ subst (λ (b : Bool). IsStepOf p (if b then Body i else Head)) (sym f) tt
]

next_step : (p : ℕ) (x : SlotStep) → IsStepOf p (step_next p x)
next_step p EraseHead = tt
next_step p EraseBody = body_step p 0
next_step p (Body i) = body_step p (i + 1)
next_step p Head = tt
next_step p Gate = tt

body_left : (p i : ℕ) → i ≤ p → steps_left p (body_or_head p i) < p + 3 - i
body_left p i le = elim (cases_Bool (nat_lt i p)) [
  | inl t' ↦ let lt = (lt_is i p).0 t' in subst (λ (b : Bool). steps_left p (if b then Body i else Head) < p + 3 - i) (sym t') (omega arith)
  | inr f ↦ subst (λ (b : Bool). steps_left p (if b then Body i else Head) < p + 3 - i) (sym f) (omega arith)
]

falls : (p : ℕ) (x : SlotStep) → x ≢ Gate → IsStepOf p x → steps_left p (step_next p x) < steps_left p x
falls p EraseHead no_gate is = omega arith
falls p EraseBody no_gate is = (let l = body_left p 0 (omega arith) in omega (arith, l))
falls p (Body i) no_gate is = (let l = body_left p (i + 1) (omega arith) in omega (arith, l))
falls p Head no_gate is = omega arith
falls p Gate no_gate is = absurd (no_gate refl)

some_left : (p : ℕ) (x : SlotStep) → 0 < steps_left p x
some_left p EraseHead = omega arith
some_left p EraseBody = omega arith
some_left p (Body i) = omega arith
some_left p Head = omega arith
some_left p Gate = omega arith

writes_left : (p : ℕ) (j : EaJob) (o : DeviceOp) (b : Bool) → o ≢ Read → b ≡ true → job_left p j o b ≡ steps_left (body_pages_of j.length p) j.step
writes_left p j Read b writes is = absurd (writes refl)
writes_left p j Write b writes is = ap (λ (x : Bool). if x then steps_left (body_pages_of j.length p) j.step else 1) is
writes_left p j Invalidate b writes is = ap (λ (x : Bool). if x then steps_left (body_pages_of j.length p) j.step else 1) is
writes_left p j Erase b writes is = ap (λ (x : Bool). if x then steps_left (body_pages_of j.length p) j.step else 1) is

-- what a step but the gate leaves in memory
writable_so : (x : SlotStep) (hd : SlotHead) (s : SlotState) → x ≢ Gate → can_write (record { memory = memory_done x hd s.memory; worn = s.worn }) ≡ can_write s
writable_so EraseHead hd s no_gate = refl
writable_so EraseBody hd s no_gate = refl
writable_so (Body i) hd s no_gate = refl
writable_so Head hd s no_gate = refl
writable_so Gate hd s no_gate = absurd (no_gate refl)

abbrev head_in : EaJob → SlotMemory → SlotHead
head_in j x = record { kind = kind_of j.op; length = j.length; sequence = sequence_next x.settled }

come_so : (p pgs : ℕ) (x y : SlotStep) (hd : SlotHead) (j : EaJob) (c : List ℕ) (w : SlotMemory) (slots : Which → SlotBytes) → x ≢ Gate → HasCome p pgs (head_in j w) c y (slots w.target)
    → HasCome p pgs (head_in j (memory_done x hd w)) c y (slots (memory_done x hd w).target)
come_so p pgs EraseHead y hd j c w slots no_gate was = was
come_so p pgs EraseBody y hd j c w slots no_gate was = was
come_so p pgs (Body i) y hd j c w slots no_gate was = was
come_so p pgs Head y hd j c w slots no_gate was = was
come_so p pgs Gate y hd j c w slots no_gate was = absurd (no_gate refl)

stays_done : (x : SlotStep) (hd : SlotHead) (w : SlotMemory) (Stands : Which → Option SlotHead → Type 0) → x ≢ Gate → Stands (other w.target) w.settled → Stands (other (memory_done x hd w).target) (memory_done x hd w).settled
stays_done EraseHead hd w Stands no_gate is = is
stays_done EraseBody hd w Stands no_gate is = is
stays_done (Body i) hd w Stands no_gate is = is
stays_done Head hd w Stands no_gate is = is
stays_done Gate hd w Stands no_gate is = absurd (no_gate refl)

twice : (t : Which) → other (other t) ≡ t
twice Slot0 = refl
twice Slot1 = refl

doubt_so : (x : SlotStep) (hd : SlotHead) (w : SlotMemory) → x ≢ Gate → (x ≢ EraseHead → w.doubt ≡ None) → (memory_done x hd w).doubt ≡ None
doubt_so EraseHead hd w no_gate none = refl
doubt_so EraseBody hd w no_gate none = none (λ e. cc e)
doubt_so (Body i) hd w no_gate none = none (λ e. cc e)
doubt_so Head hd w no_gate none = none (λ e. cc e)
doubt_so Gate hd w no_gate none = absurd (no_gate refl)

module _ (m : Making) (entry : Told) (s : Parts) (j : EaJob) (at : IsStepping m entry s j) (f : FlsState) (asked : IsAsked (op m entry s j at) s.fls.flash Done f.flash) (only : f ≡ record s.fls { flash = f.flash; result = closed_as Done }) where
  abbrev td : Parts
  td = t m entry s j at Done f asked

  abbrev ps : ℕ
  ps = body_pages_of j.length m.geometry.page

  abbrev hd : SlotHead
  hd = h m entry s j at

  abbrev mark : Mark
  mark = (jm m entry s j at).mark

  -- the next step has come
  came : (old new : List ℕ) (now : bytes_now s.fls.flash ≡ Some old) (now' : bytes_now f.flash ≡ Some new)
      → HasCome m.geometry.page ps hd (content m entry s j at) (step_next ps j.step) (slot_bytes m.geometry new j.place (mem m entry s j at).target)
  came old new now now' =
      let l = left m entry s j at Done f asked old new now now' in
      steps_go_on m.geometry (length m.numbers) j.place (mem m entry s j at).target hd (content m entry s j at) j.step old new (slot m entry s j at) (small m entry s j at) (are m entry s j at old now).size (come_at m entry s j at old now).come l.0 l.1

  -- BUT FOR THE GATE
  module _ (no_gate : j.step ≢ Gate) where
    abbrev j' : EaJob
    j' = record j { step = step_next ps j.step }

    job_is : td.job ≡ Some j'
    job_is = goes_on ps j j.step no_gate

    stand_then : stand_of s.content td.job td.last td.given ≡ Open (job_told m entry s j at)
    stand_then = ap (λ (o : Option EaJob). stand_of s.content o td.last td.given) job_is

    abbrev going : Behind m entry s j at Done f asked
    going = record {
      fewer = mark ∷ [];
      few = same_marks (mark ∷ []);
      here = ap (λ (x : Stand). job_leaves x j.number.0) stand_then ∙ job_here j.number.0 j.number.0 (mark_of j.op (content m entry s j at)) mark refl (jm m entry s j at).is;
      elsewhere = λ k apart. ap (λ (x : Stand). job_leaves x k) stand_then ∙ job_elsewhere j.number.0 k (mark_of j.op (content m entry s j at)) apart;
    }

    going_keeps : KeepsOwn m entry s j at Done f asked going
    going_keeps old new now now' held =
        let l = (left m entry s j at Done f asked old new now now').0 in
        done_keeps m.geometry.page ps (size m entry s j at) hd (content m entry s j at) (mem m entry s j at) (slot_bytes m.geometry old j.place) (slot_bytes m.geometry new j.place) mark j.step (mark ∷ []) no_gate
        (at_step m entry s j at old now held new l) (same_marks (mark ∷ [])) (come m entry s j at old now held).doubt

    going_then : Then m entry s j at Done f asked only
    going_then = record {
      own_holds = λ old new now now' held.
          (let l = (left m entry s j at Done f asked old new now now').0 in
          done_steps_hold m.geometry.page ps (size m entry s j at) hd (content m entry s j at) j.step (mem m entry s j at) (slot_bytes m.geometry old j.place) (slot_bytes m.geometry new j.place) (at_step m entry s j at old now held new l)
          (came old new now now') (λ is. absurd (no_gate is)));
      own_stands = λ old new now now'. stays_done j.step hd (mem m entry s j at) (λ w o. standing m.geometry.page (size m entry s j at) (slot_bytes m.geometry new j.place w) ≡ o) no_gate (beside_stands m entry s j at Done f asked old new now now');
      job = subst (λ (o : Option EaJob). IfSome o (IsJob m td)) (sym job_is)
          (let is = is_job m entry s j at in
          record { size = is.size; entry = is.entry; fits = is.fits; step = next_step ps j.step; begun = λ behind. ap can_write (state_here m entry s j at Done f asked) ∙ writable_so j.step hd (state_at s.states j.place) no_gate ∙ at.writable });
      work = λ on. subst (λ (o : Option EaJob). IfSome o (λ x. IfSome (bytes_now f.flash) (HasComeTo m td x))) (sym job_is)
          (each_told f.flash.bytes (HasComeTo m td j') (λ new now'.
          (let before = before_told s.fls.flash.bytes f.flash.bytes (op m entry s j at) Done new asked.bytes now' in
          let P = λ (c : SlotState). HasCome m.geometry.page ps (head_in j c.memory) (content m entry s j at) (step_next ps j.step) (slot_bytes m.geometry new j.place c.memory.target) in
          record {
            come = subst P (sym (state_here m entry s j at Done f asked)) (come_so m.geometry.page ps j.step (step_next ps j.step) hd j (content m entry s j at) (mem m entry s j at) (slot_bytes m.geometry new j.place) no_gate (came before.0 new before.1 now'));
            doubt = λ behind. ap (λ (c : SlotState). c.memory.doubt) (state_here m entry s j at Done f asked) ∙ doubt_so j.step hd (mem m entry s j at) no_gate (come_at m entry s j at before.0 before.1).doubt;
          })));
    }

    going_marks : KeepsAll (told_of m entry s) (told_of m entry td)
    going_marks = keeps_all m entry s j at Done f asked going going_keeps

    left_falls : (told_of m entry td).left < (told_of m entry s).left
    left_falls =
        let was : (told_of m entry s).left ≡ steps_left ps j.step = ap (left_of m.geometry.page s.states) at.job ∙ writes_left m.geometry.page j j.op (can_write (state_at s.states j.place)) at.writes at.writable in
        let writable' : can_write (state_at td.states j.place) ≡ true = ap can_write (state_here m entry s j at Done f asked) ∙ writable_so j.step hd (state_at s.states j.place) no_gate ∙ at.writable in
        let now : (told_of m entry td).left ≡ steps_left ps (step_next ps j.step) = ap (left_of m.geometry.page td.states) job_is ∙ writes_left m.geometry.page j' j.op (can_write (state_at td.states j.place)) at.writes writable' in
        let less = falls ps j.step no_gate (is_job m entry s j at).step in
        omega (arith, was, now, less)

    going_works : Works First (told_of m entry s) (told_of m entry td) (clock_of m entry td)
    going_works = record {
      only = refl;
      up = started m entry s j at;
      of = is_of_first m s.content s.job s.last s.given;
      part = part_works m entry s j at Done f asked (λ x. cc x);
      job =
          subst (λ (x : Stand). JobTurns First x (told_of m entry td).stand (told_of m entry s) (told_of m entry td) (clock_of m entry td)) (sym (stand_is m entry s j at))
          (subst (λ (x : Stand). JobTurns First (Open (job_told m entry s j at)) x (told_of m entry s) (told_of m entry td) (clock_of m entry td)) (sym stand_then) (refl, going_marks, left_falls));
      read = λ read. (let none = no_read m entry s j at in absurd (false≢true (sym none ∙ read)));
      nearer = inl left_falls;
      ready = ready m entry s j at (told_of m entry td);
      seals = λ k ops few was either. absurd (false≢true was.2);
    }

    pub going_turn : Turned m entry turn.Worked s td
    going_turn =
        let sound = then_sound m entry s j at Done f asked only going_then in
        record { turns = ((something m entry s j at, (First, going_works, ticks m entry s j at Done f asked)), order m entry td sound); sound = sound }

  -- THE GATE
  module _ (gate : j.step ≡ Gate) where
    job_none : td.job ≡ None
    job_none = ap (job_done ps j) gate

    stand_ended : stand_of s.content td.job td.last td.given ≡ Ended JobOk []
    stand_ended = (λ i. stand_of s.content (job_done ps j (gate i)) (last_done (gate i) s.last) (given_done (gate i) s.given))

    after_is : state_at td.states j.place ≡ record { memory = memory_done Gate hd (mem m entry s j at); worn = (state_at s.states j.place).worn }
    after_is = state_here m entry s j at Done f asked ∙ ap (λ (x : SlotStep). record { memory = memory_done x hd (mem m entry s j at); worn = (state_at s.states j.place).worn }) gate

    opened : (old new : List ℕ) (now : bytes_now s.fls.flash ≡ Some old) (now' : bytes_now f.flash ≡ Some new)
        → (standing m.geometry.page (size m entry s j at) (slot_bytes m.geometry new j.place (mem m entry s j at).target) ≡ Some hd) × (take j.length (slot_bytes m.geometry new j.place (mem m entry s j at).target).body ≡ content m entry s j at)
    opened old new now now' =
        let l = left m entry s j at Done f asked old new now now' in
        let P = λ (x : SlotStep). HasCome m.geometry.page ps hd (content m entry s j at) x (slot_bytes m.geometry old j.place (mem m entry s j at).target) in
        gates_open m.geometry (length m.numbers) j.place (size m entry s j at) (mem m entry s j at).target hd (content m entry s j at) old new (slot m entry s j at) (jl m entry s j at).fits (are m entry s j at old now).size
        (subst P gate (come_at m entry s j at old now).come)
        (subst (λ (x : SlotStep). MayLeave (Rattle.ea_image.specs.Steps.step_op m.geometry j.place (mem m entry s j at).target hd (content m entry s j at) x) old new) gate l.0)
        (subst (λ (x : SlotStep). new ≡ Rattle.fls_model.specs.Op.after_op (Rattle.ea_image.specs.Steps.step_op m.geometry j.place (mem m entry s j at).target hd (content m entry s j at) x) old) gate l.1)

    gate_then : Then m entry s j at Done f asked only
    gate_then = record {
      own_holds = λ old new now now' held.
          (let l = (left m entry s j at Done f asked old new now now').0 in
          done_steps_hold m.geometry.page ps (size m entry s j at) hd (content m entry s j at) j.step (mem m entry s j at) (slot_bytes m.geometry old j.place) (slot_bytes m.geometry new j.place) (at_step m entry s j at old now held new l)
          (came old new now now') (λ is. (opened old new now now').0));
      own_stands = λ old new now now'.
          subst (λ (x : SlotStep). standing m.geometry.page (size m entry s j at) (slot_bytes m.geometry new j.place (other (memory_done x hd (mem m entry s j at)).target)) ≡ (memory_done x hd (mem m entry s j at)).settled) (sym gate)
          (ap (λ (w : Which). standing m.geometry.page (size m entry s j at) (slot_bytes m.geometry new j.place w)) (twice (mem m entry s j at).target) ∙ (opened old new now now').0);
      job = subst (λ (o : Option EaJob). IfSome o (IsJob m td)) (sym job_none) tt;
      work = λ on. subst (λ (o : Option EaJob). IfSome o (λ x. IfSome (bytes_now f.flash) (HasComeTo m td x))) (sym job_none) tt;
    }

    leaves_none : (k : ℕ) → job_leaves (stand_of s.content td.job td.last td.given) k ≡ []
    leaves_none k = ap (λ (x : Stand). job_leaves x k) stand_ended

    one_settles : (old new : List ℕ) → AreTold (d0 m entry s j at Done f asked) (e m entry s j at Done f asked) old new → (k i : ℕ) (x : DeviceNumber × ℕ) → entry_of m k ≡ Some (i, x)
        → OneSettles j.number.0 mark k (told m entry s j at old i x) (told_then m entry s j at Done f asked new i x)
    one_settles old new told' k i x is =
        let l = (left m entry s j at Done f asked old new told'.1 told'.2).0 in
        elim (cases_eq i j.place) [
          | inr apart ↦
              let other' = not_own m entry s j at k i x is apart in
              let number : j.number.0 ≡ x.0.0 → ⊥ = λ same'. other' (same' ∙ (entry_is 0 m.numbers k i x is).number) in
              let no : (k == j.number.0) ≡ false = elim (cases_Bool (k == j.number.0)) [ inl t' ↦ absurd (other' (sym ((eq_is k j.number.0).0 t'))) | inr f' ↦ f' ] in
              let kept = keeps_same (state_at s.states i).memory (slot_bytes m.geometry old i) (slot_bytes m.geometry new i) [] [] (λ w. ap (λ (c : Which → SlotBytes). c w) (others m entry s j at old new l i apart)) (same_marks []) in
              subst (λ (b : Bool). IfElse b (SettlesAs mark (told m entry s j at old i x) (told_then m entry s j at Done f asked new i x)) (Keeps (told m entry s j at old i x) (told_then m entry s j at Done f asked new i x))) (sym no)
              (subst (λ (w : List Mark). Keeps (slot_told (state_at s.states i).memory (slot_bytes m.geometry old i) w) (told_then m entry s j at Done f asked new i x)) (sym (marks_elsewhere m entry s j at x.0.0 number))
              (subst (λ (w : List Mark). Keeps (slot_told (state_at s.states i).memory (slot_bytes m.geometry old i) []) (slot_told (state_at td.states i).memory (slot_bytes m.geometry new i) w)) (sym (leaves_none x.0.0))
              (subst (λ (c : SlotState). Keeps (slot_told (state_at s.states i).memory (slot_bytes m.geometry old i) []) (slot_told c.memory (slot_bytes m.geometry new i) [])) (sym (state_else m entry s j at Done f asked i apart)) kept)))
          | inl here ↦
              let mine = own m entry s j at k i x is here in
              let held = told_behind m entry s j at Done f asked told'.0 in
              let yes : (k == j.number.0) ≡ true = (eq_is k j.number.0).1 (sym mine.0) in
              let at' = subst (λ (y : SlotStep). Rattle.ea_image.specs.Laws.IsAtStep m.geometry.page ps (size m entry s j at) hd (content m entry s j at) y (mem m entry s j at) (slot_bytes m.geometry old j.place) (slot_bytes m.geometry new j.place)) gate (at_step m entry s j at old told'.1 held new l) in
              let settled = gate_settles m.geometry.page ps (size m entry s j at) hd (content m entry s j at) (mem m entry s j at) (slot_bytes m.geometry old j.place) (slot_bytes m.geometry new j.place) mark at' (next m entry s j at) (opened old new told'.1 told'.2).1 (jm m entry s j at).shown in
              let P = λ (i' : ℕ) (y : DeviceNumber × ℕ). SettlesAs mark (told m entry s j at old i' y) (told_then m entry s j at Done f asked new i' y) in
              let marked : P j.place (j.number, size m entry s j at) =
              subst (λ (w : List Mark). SettlesAs mark (slot_told (mem m entry s j at) (slot_bytes m.geometry old j.place) w) (told_then m entry s j at Done f asked new j.place (j.number, size m entry s j at))) (sym (marks_here m entry s j at))
              (subst (λ (w : List Mark). SettlesAs mark (slot_told (mem m entry s j at) (slot_bytes m.geometry old j.place) (mark ∷ [])) (slot_told (state_at td.states j.place).memory (slot_bytes m.geometry new j.place) w)) (sym (leaves_none j.number.0))
              (subst (λ (c : SlotState). SettlesAs mark (slot_told (mem m entry s j at) (slot_bytes m.geometry old j.place) (mark ∷ [])) (slot_told c.memory (slot_bytes m.geometry new j.place) [])) (sym after_is) settled)) in
              subst (λ (b : Bool). IfElse b (SettlesAs mark (told m entry s j at old i x) (told_then m entry s j at Done f asked new i x)) (Keeps (told m entry s j at old i x) (told_then m entry s j at Done f asked new i x))) (sym yes)
              (subst (λ (i' : ℕ). P i' x) (sym here) (subst (λ (y : DeviceNumber × ℕ). P j.place y) (sym mine.1) marked))
        ]

    settles_by : (old new : List ℕ) (told' : AreTold (d0 m entry s j at Done f asked) (e m entry s j at Done f asked) old new) (k : ℕ) (o : Option (ℕ × (DeviceNumber × ℕ))) → entry_of m k ≡ o
        → OneSettles j.number.0 mark k (at_entry no_slot (told m entry s j at old) o) (at_entry no_slot (told_then m entry s j at Done f asked new) o)
    settles_by old new told' k None is =
        let other' : k ≡ j.number.0 → ⊥ = λ same'. (let mine = (is_job m entry s j at).entry in let e' = ap (entry_of m) same' ∙ mine in cc (is, e')) in
        let no : (k == j.number.0) ≡ false = elim (cases_Bool (k == j.number.0)) [ inl t' ↦ absurd (other' ((eq_is k j.number.0).0 t')) | inr f' ↦ f' ] in
        subst (λ (b : Bool). IfElse b (SettlesAs mark no_slot no_slot) (Keeps no_slot no_slot)) (sym no) (record { settled = refl; doubts = λ x c. c })
    settles_by old new told' k (Some x) is = one_settles old new told' k x.0 x.1 is

    settles : Settles j.number.0 mark (told_of m entry s) (told_of m entry td)
    settles = tells_settle (d0 m entry s j at Done f asked) (e m entry s j at Done f asked) j.number.0 mark (same m entry s j at Done f asked) (λ old new told' k.
        subst (λ (x : Slot). OneSettles j.number.0 mark k x (slot_with (e m entry s j at Done f asked) new k)) (sym (told_is m entry s j at old k))
        (subst (λ (x : Slot). OneSettles j.number.0 mark k (at_entry no_slot (told m entry s j at old) (entry_of m k)) x) (sym (told_then_is m entry s j at Done f asked new k))
        (settles_by old new told' k (entry_of m k) refl)))

    gate_falls : (told_of m entry td).left < (told_of m entry s).left
    gate_falls =
        let was : (told_of m entry s).left ≡ steps_left ps j.step = ap (left_of m.geometry.page s.states) at.job ∙ writes_left m.geometry.page j j.op (can_write (state_at s.states j.place)) at.writes at.writable in
        let now : (told_of m entry td).left ≡ 0 = ap (left_of m.geometry.page td.states) job_none in
        let some = some_left ps j.step in
        omega (arith, was, now, some)

    gate_ends : EndsAs (mark_of j.op (content m entry s j at)) j.number.0 JobOk [] (told_of m entry s) (told_of m entry td)
    gate_ends = subst (λ (o : Option Mark). EndsAs o j.number.0 JobOk [] (told_of m entry s) (told_of m entry td)) (sym (jm m entry s j at).is) (settles, refl)

    gate_works : Works First (told_of m entry s) (told_of m entry td) (clock_of m entry td)
    gate_works = record {
      only = refl;
      up = started m entry s j at;
      of = is_of_first m s.content s.job s.last s.given;
      part = part_works m entry s j at Done f asked (λ x. cc x);
      job =
          subst (λ (x : Stand). JobTurns First x (told_of m entry td).stand (told_of m entry s) (told_of m entry td) (clock_of m entry td)) (sym (stand_is m entry s j at))
          (subst (λ (x : Stand). JobTurns First (Open (job_told m entry s j at)) x (told_of m entry s) (told_of m entry td) (clock_of m entry td)) (sym stand_ended) (gate_ends, λ is. cc is));
      read = λ read. (let none = no_read m entry s j at in absurd (false≢true (sym none ∙ read)));
      nearer = inl gate_falls;
      ready = ready m entry s j at (told_of m entry td);
      seals = λ k ops few was either. absurd (false≢true was.2);
    }

    pub gate_turn : Turned m entry turn.Worked s td
    gate_turn =
        let sound = then_sound m entry s j at Done f asked only gate_then in
        record { turns = ((something m entry s j at, (First, gate_works, ticks m entry s j at Done f asked)), order m entry td sound); sound = sound }

  pub done_turn : Turned m entry turn.Worked s td
  done_turn = elim (step_cases j.step) [ inl gate ↦ gate_turn gate | inr no_gate ↦ going_turn no_gate ]
