-- The turns that are left of the stack.
use Rattle.std.specs.List.{list_any}
use Rattle.std.proofs.Common.{◌≡◌, inl, inr, ℕ, ◌+◌, ◌≤◌, suc, Bool, true, false, if◌then◌else◌, List, [], length, drop, refl, ap, ◌∙◌, Option, Some, None, Ok, arith}
use Rattle.std.proofs.lemmas.Bool.{cases_Bool}
use Rattle.memif.specs.declared.answer.DeviceRefusal.{DeviceRefusal}
use Rattle.memif.specs.declared.answer.DeviceRefusal.TheVariants.{Busy}
use Rattle.memif.specs.Told.{DeviceTold, Fixed, Part, Stand, Open, Ended, Job, is_open, figures_at, most_of, most_open, op_of}
use Rattle.memif.specs.Clock.{Clock}
use Rattle.memif.specs.Calls.{Wish, AcceptsAs, Opens, IsCanceled, JobTurns}
use Rattle.block_machine.specs.Words.{JobKind, Outcome}
use Rattle.job_programs.specs.Program.{Program, program_of, settles}
use Rattle.memif.proofs.Turning.{works_fixed}
use Rattle.nvm_figures.specs.Left.{ahead, over_unstarted, most_at, left_of_hand}
use Rattle.nvm_figures.specs.Job.{program_next, hand_next}
use Rattle.nvm_figures.specs.Laws.{TurnsLower, StartsDontRaise, CancelsDontRaise, PostsLower, PicksAreBounded, JobsAreBounded}
use Rattle.nvm_figures.proofs.Tries.{over_ahead, next_ahead, unstarted_fresh, start_takes, after_less}
use Rattle.nvm_device_laws.proofs.DeviceTries.{some_outcome}
use Rattle.nvm_figures.proofs.Programs.{program_same}

-- A TURN
-- no more is to be started behind it than before
pub unstarted_less : (q : Part) (count : ℕ → ℕ) (p : Program) (a b : Stand) (old new : DeviceTold) (clock : Clock) → JobTurns q a b old new clock
    → over_unstarted count (program_next p a b) (is_open b) (ahead (program_next p a b)) ≤ over_unstarted count p (is_open a) (ahead p)
unstarted_less q count p (Open j) (Open k) old new clock turns = omega arith
unstarted_less q count p (Open j) (Ended r given) old new clock turns = after_less count p _ (some_outcome j.mark r)
unstarted_less q count p (Ended r given) b old new clock turns = rw turns.0 (omega arith)

same_most : (f : Fixed) (p : Program) (a b : Stand) → most_at f (program_next p a b).block (program_next p a b).kind ≡ most_at f p.block p.kind
same_most f p a b =
    ap (λ (n : ℕ). most_at f n (program_next p a b).kind) (program_same p a b).block ∙ ap (λ (k : JobKind). most_at f p.block k) (program_same p a b).kind

hand_less : (q : Part) (f : Fixed) (hand : Option Program) (old new : DeviceTold) (clock : Clock) → JobTurns q old.stand new.stand old new clock
    → left_of_hand f (hand_next hand old.stand new.stand) (is_open new.stand) ≤ left_of_hand f hand (is_open old.stand)
hand_less q f None old new clock turns = omega arith
hand_less q f (Some p) old new clock turns =
    let less = unstarted_less q (most_at f p.block p.kind) p old.stand new.stand old new clock turns in
    rw (same_most f p old.stand new.stand) (omega (arith, less))

pub turns_lower : (new : DeviceTold) (clock : Clock) → TurnsLower new clock
turns_lower new clock old q hand works =
    let less = hand_less q old.fixed hand old new clock works.job in
    elim works.nearer [
      | inl near ↦ inl (rw (works_fixed q old new clock works) (omega (arith, near, less)))
      | inr rose ↦ inr rose
    ]

-- A START
closed_by : (busy : Bool) (rest : Option DeviceRefusal) → (if busy then Some Busy else rest) ≡ None → busy ≡ false
closed_by true rest e = cc
closed_by false rest e = refl

pub was_closed : (old new : DeviceTold) (w : Wish) → AcceptsAs w (Ok tt) old new → is_open old.stand ≡ false
was_closed old new w accepts = closed_by (is_open old.stand) _ accepts.0

pub opens_stand : (old new : DeviceTold) (j : Job) → Opens j old new → new.stand ≡ Open j
opens_stand old new j opens = ap (λ (d : DeviceTold). d.stand) opens.only

pub opens_fixed : (old new : DeviceTold) (j : Job) → Opens j old new → new.fixed ≡ old.fixed
opens_fixed old new j opens = ap (λ (d : DeviceTold). d.fixed) opens.only

pub starts_dont_raise : StartsDontRaise
starts_dont_raise old new w p index few is accepts =
    let opens = accepts.1 in
    let next = next_ahead p index is.next in
    let most : most_of (figures_at old.fixed w.job.number) (op_of w.job.mark) ≡ most_at old.fixed p.block p.kind index = rw (is.number, is.operation) refl in
    let takes = start_takes (most_at old.fixed p.block p.kind) p index (drop (suc (length p.done)) p.indices) few in
    rw (opens_fixed old new w.job opens, opens_stand old new w.job opens, was_closed old new w accepts, next.ahead)
    (omega (arith, opens.left_high, most, takes))

-- OTHER CALLS
pub cancels_dont_raise : CancelsDontRaise
cancels_dont_raise old new is = elim (cases_Bool (is_open old.stand)) [
  | inl on ↦ let canceled : IsCanceled old new = rw on at is in (omega (arith, canceled.left), canceled.ready)
  | inr off ↦ let same : new ≡ old = rw off at is in rw same (omega arith, omega arith)
]

pub posts_lower : PostsLower
posts_lower d p over = rw (over_ahead p over) (omega arith)

-- A PICK
most_closed : (f : Fixed) (s : Stand) → is_open s ≡ false → most_open f s ≡ 0
most_closed f (Open j) off = cc
most_closed f (Ended r given) off = refl

pub ahead_fresh : (p : Program) → p.done ≡ [] → ahead p ≡ p.indices
ahead_fresh p none = ap (λ (os : List Outcome). if list_any (settles p.kind) os then [] else drop (length os) p.indices) none

pub picks_are_bounded : (d : DeviceTold) (clock : Clock) → PicksAreBounded d clock
picks_are_bounded d clock p order off none new =
    let few : d.left ≤ d.fixed.own + 0 = rw (most_closed d.fixed d.stand off) at order.bounded in
    let fresh = unstarted_fresh (most_at d.fixed p.block p.kind) p p.indices new in
    rw (off, ahead_fresh p none, fresh) (omega (arith, few))

pub jobs_are_bounded : (d : DeviceTold) (clock : Clock) → JobsAreBounded d clock
jobs_are_bounded d clock desc defaults block index kind order off = picks_are_bounded d clock (program_of desc defaults block index kind) order off refl refl
