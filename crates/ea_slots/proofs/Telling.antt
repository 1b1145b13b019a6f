-- What the calls of a device say of it as a memory device.
use Rattle.std.specs.Prelude.{◌==◌, if◌then◌else◌, IfSome}
use Rattle.std.proofs.Common.{◌≡◌, ◌≢◌, ◌+◌, ℕ, zero, suc, Bool, true, false, List, take, Option, Some, None, refl, sym, ap, subst, arith}
use Rattle.std.proofs.lemmas.Bool.{ne_eqb}
use Rattle.nv_base.specs.declared.geometry.Geometry.{Geometry}
use Rattle.memif.specs.declared.answer.JobResult.{JobResult}
use Rattle.memif.specs.declared.answer.JobResult.TheVariants.{JobPending}
use Rattle.memif.specs.Told.{IfElse, armed, plans, is_open, result_of}
use Rattle.memif.specs.Calls.{Arms, Cancels, ClockStays, IsCanceled}
use Rattle.memif.specs.Clock.{Clock, SameClock}
use Rattle.fls_model.specs.Told.{Told}
use Rattle.ea_image.specs.declared.slot_head.SlotHead.{SlotHead}
use Rattle.ea_image.specs.Laws.{IsSlotOf}
use Rattle.ea_told.specs.declared.job.EaJob.{EaJob}
use Rattle.ea_told.specs.Making.{Making}
use Rattle.ea_told.specs.Parts.{Parts}
use Rattle.ea_told.specs.Device.{state_at, head_of, stand_of, told_of, clock_of}
use Rattle.ea_told.specs.Inside.{IsSound, IsJob}
use Rattle.ea_told.specs.Calls.{with_plan, canceled}
use Rattle.ea_told.specs.Laws.{IsStepping}
use Rattle.ea_told.proofs.Order.{parts_order}
use Rattle.ea_told.proofs.Called.{parts_plan, parts_cancel}
use Rattle.ea_told.proofs.Stepping.{slot}

same_clock : (c : Clock) → SameClock c c
same_clock c = record { may_find = λ w m. ((λ h. h), (λ h. h)); off_in = λ k. ((λ h. h), (λ h. h)); failed = λ k. ((λ h. h), (λ h. h)); worn = λ k n urgent. ((λ h. h), (λ h. h)); of_second = λ k. ((λ h. h), (λ h. h)); spare = λ k free. ((λ h. h), (λ h. h)); was = λ t k. ((λ h. h), (λ h. h)) }

pub stays : (m : Making) (entry : Told) (s : Parts) → IsSound m entry s → ClockStays (clock_of m entry s) (told_of m entry s) (clock_of m entry s)
stays m entry s sound = record { same = same_clock (clock_of m entry s); order = (parts_order m entry s sound).order }

-- A PLAN
abbrev pub ArmsAs : Making → Told → ℕ → ℕ → ℕ → Parts → Parts → Type 0
ArmsAs m entry which nth keep s t = IsSound m entry t × Arms which nth keep (told_of m entry s) (clock_of m entry s) (told_of m entry t) (clock_of m entry t)

second_planned : (m : Making) (entry : Told) (s : Parts) (nth keep : ℕ) (b : Bool) → told_of m entry s ≡ (if b then record (told_of m entry s) { second = plans nth keep (told_of m entry s).second } else told_of m entry s)
second_planned m entry s nth keep true = refl
second_planned m entry s nth keep false = refl

not_armed : (m : Making) (entry : Told) (s : Parts) (which nth keep : ℕ) → which ≢ 0 → told_of m entry s ≡ armed which nth keep (told_of m entry s)
not_armed m entry s which nth keep ne = subst
    (λ (b : Bool). told_of m entry s ≡ (if b then record (told_of m entry s) { first = plans nth keep (told_of m entry s).first } else (if which == 1 then record (told_of m entry s) { second = plans nth keep (told_of m entry s).second } else told_of m entry s)))
    (sym (ne_eqb which 0 ne)) (second_planned m entry s nth keep (which == 1))

pub arms : (m : Making) (entry : Told) (which nth keep : ℕ) (s t : Parts) → IsSound m entry s → (which ≡ 0 → t ≡ with_plan nth keep s) → (which ≢ 0 → t ≡ s) → ArmsAs m entry which nth keep s t
arms m entry zero nth keep s t sound plan none = subst (ArmsAs m entry 0 nth keep s) (sym (plan refl)) ((parts_plan m entry nth keep s sound).sound, (refl, (parts_plan m entry nth keep s sound).stays))
arms m entry (suc k) nth keep s t sound plan none =
    let ne : suc k ≢ 0 = λ e. cc e in
    subst (ArmsAs m entry (suc k) nth keep s) (sym (none ne)) (sound, (not_armed m entry s (suc k) nth keep ne, stays m entry s sound))

-- A CANCEL
abbrev pub CancelsAs : Making → Told → Parts → Parts → Type 0
CancelsAs m entry s t = IsSound m entry t × Cancels (told_of m entry s) (clock_of m entry s) (told_of m entry t) (clock_of m entry t)

pub is_started : (m : Making) (entry : Told) (s : Parts) (j : EaJob) → IsSound m entry s → s.job ≡ Some j → s.started ≡ true
is_started m entry s j sound job = by_started s.started sound.rests
  where
    by_started : (b : Bool) → (b ≡ false → s.job ≡ None) → b ≡ true
    by_started true rests = refl
    by_started false rests = (let none = rests refl in cc (none, job))

pub cancels : (m : Making) (entry : Told) (s t : Parts) → IsSound m entry s → (s.job ≢ None → t ≡ canceled s) → (s.job ≡ None → t ≡ s) → CancelsAs m entry s t
cancels m entry s t sound ends shut = by_job s.job refl
  where
    opened_as : (o : Option EaJob) → s.job ≡ o → is_open (stand_of s.content o s.last s.given) ≡ is_open (told_of m entry s).stand
    opened_as o e = sym (ap (λ (x : Option EaJob). is_open (stand_of s.content x s.last s.given)) e)

    by_job : (o : Option EaJob) → s.job ≡ o → CancelsAs m entry s t
    by_job None e = subst (CancelsAs m entry s) (sym (shut e)) (
      sound,
      (
        subst (λ (b : Bool). IfElse b (IsCanceled (told_of m entry s) (told_of m entry s)) (told_of m entry s ≡ told_of m entry s)) (opened_as None e) refl,
        stays m entry s sound,
      ),
    )
    by_job (Some j) e =
        let dropped = parts_cancel m entry s sound (is_started m entry s j sound e) in
        subst (CancelsAs m entry s) (sym (ends (λ none. cc (none, e)))) (
          dropped.sound,
          (
            subst (λ (b : Bool). IfElse b (IsCanceled (told_of m entry s) (told_of m entry (canceled s))) (told_of m entry (canceled s) ≡ told_of m entry s)) (opened_as (Some j) e) dropped.cancels,
            dropped.stays,
          ),
        )

-- A STEP
pub job_in : (m : Making) (entry : Told) (s : Parts) (j : EaJob) → IsSound m entry s → s.job ≡ Some j → IsJob m s j
job_in m entry s j sound job = subst (λ (o : Option EaJob). IfSome o (IsJob m s)) job sound.job

pub slot_in : (m : Making) (entry : Told) (s : Parts) (j : EaJob) (h : SlotHead) (content : List ℕ) → IsStepping m entry s j → h ≡ head_of j (state_at s.states j.place) → content ≡ take j.length s.content
    → IsSlotOf s.geometry (j.place + 1) j.place h content
slot_in m entry s j h content at is put =
    let here = slot m entry s j at in
    let own : IsSlotOf m.geometry (j.place + 1) j.place (head_of j (state_at s.states j.place)) (take j.length s.content) = record { legal = here.legal; room = (let room = here.room in let inside = here.inside in omega (arith, room, inside)); inside = omega arith; head = here.head; few = here.few; size = here.size } in
    subst (λ (g : Geometry). IsSlotOf g (j.place + 1) j.place h content) (sym at.sound.made_for.geometry)
    (subst (λ (x : SlotHead). IsSlotOf m.geometry (j.place + 1) j.place x content) (sym is)
    (subst (λ (x : List ℕ). IsSlotOf m.geometry (j.place + 1) j.place (head_of j (state_at s.states j.place)) x) (sym put) own))

-- WHAT IT SHOWS
pub pending : (content : List ℕ) (o : Option EaJob) (last : JobResult) (given : ℕ) → last ≢ JobPending → result_of (stand_of content o last given) ≡ JobPending → is_open (stand_of content o last given) ≡ true
pending content None last given ended is = absurd (ended is)
pending content (Some j) last given ended is = refl
