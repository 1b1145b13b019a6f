-- What a turn keeps of the traits of its device's operations.
use Rattle.std.specs.Option.{option_map_or}
use Rattle.std.proofs.Common.{◌≡◌, inl, inr, ℕ, ◌≤◌, Bool, true, false, Option, Some, None, refl, sym, ap, ◌∙◌, subst, arith, if◌then◌else◌}
use Rattle.std.proofs.lemmas.Bool.{cases_Bool, cases_lt, or_parts}
use Rattle.memif.specs.Told.{DeviceTold, Fixed, Part, First, Second, Stand, Open, Ended as Closed, figures_at, is_off, is_open, is_urgent, length_of, IfElse}
use Rattle.memif.specs.Clock.{Clock, SameClock, Seals, Ticks}
use Rattle.memif.specs.Calls.{IsPrompt, IsSealing, Opens, Wish, Works, length_refusal, refusal_of, urgent_first}
use Rattle.memif.specs.declared.answer.DeviceTurn.TheVariants as turn
use Rattle.memif.specs.declared.answer.DeviceRefusal.TheVariants as refusal
use Rattle.memif.proofs.Turning.{is_off_at_off, works_rest}
use Rattle.block_machine.specs.Words.{JobKind, Taken, Configuration}
use Rattle.block_machine.specs.State.{State, Job}
use Rattle.block_machine.specs.Blocks.{rank_of}
use Rattle.block_machine.specs.Legal.{MayPick}
use Rattle.block_machine.specs.Next.{next_in, next_of}
use Rattle.nvm_device_laws.specs.Tries.{is_hand_urgent}
use Rattle.nv_desk_copies.specs.nv_desk.Desk.{state_of}
use Rattle.job_progress.specs.Hand.{HandState}
use Rattle.job_progress.specs.JobInHand.{IsAt, IsPaired}
use Rattle.nvm_laws.specs.declared.turned.Turned.TheVariants as turned
use Rattle.nvm_laws.specs.declared.turned.Act.TheVariants.{Ended, Device}
use Rattle.nvm_laws.specs.Traits.{KeepsSeal, FirstHalvesKeepSeal, DeviceTurnsKeepSeal, DeviceTurnsTakeKept}
use Rattle.nvm_laws.proofs.DueTurning.{freed, never_picked}

-- THE JOB IN HAND
closed_standard : (s : Stand) → is_open s ≡ false → is_urgent s ≡ false
closed_standard (Open j) closed = cc
closed_standard (Closed r given) closed = refl

-- none is urgent in the first part then
pub none_first : (f : Fixed) (s : Stand) → is_urgent s ≡ false → urgent_first f s ≡ false
none_first f (Open j) standard = rw standard refl
none_first f (Closed r given) standard = refl

never_urgent : (s : Stand) → is_open s ≡ false → is_urgent s ≡ true → ⊥
never_urgent s closed urgent = let standard = closed_standard s closed in cc

hand_urgency : (c : Configuration) (s : State) (j : Job) → s.hand ≡ Some j → is_hand_urgent c s ≡ (rank_of c j).immediate
hand_urgency c s j held = ap (λ (o : Option Job). option_map_or (λ x. (rank_of c x).immediate) o false) held

-- it is an immediate one where an urgent job is open
pub urgent_in_hand : (c : Configuration) (s : State) (hand : Option HandState) (d : DeviceTold) → IsPaired c s hand d → is_urgent d.stand ≡ true → is_hand_urgent c s ≡ true
urgent_in_hand c s None d paired urgent = absurd (never_urgent d.stand paired.1 urgent)
urgent_in_hand c s (Some h) d is urgent = by h.started is.at
  where
    by : (t : Bool) → IfElse t (IsAt c is.job h.program d.stand) (is_open d.stand ≡ false) → is_hand_urgent c s ≡ true
    by true at = hand_urgency c s is.job is.hand ∙ (sym (ap is_urgent at.stands) ∙ urgent)
    by false closed = absurd (never_urgent d.stand closed urgent)

-- and nothing is picked over it then
never_over : (c : Configuration) (s : State) (block : ℕ) (kind : JobKind) (t : Taken) (o : Option Job) → s.hand ≡ o → is_hand_urgent c s ≡ true → MayPick c s block kind t (next_of c s) → ⊥
never_over c s block kind t None held urgent may =
    let none : is_hand_urgent c s ≡ false = ap (λ (o : Option Job). option_map_or (λ x. (rank_of c x).immediate) o false) held in cc
never_over c s block kind t (Some j) held urgent may =
    never_picked c s j block kind t (next_in c s.waiting) s.hand s.sweep held held (sym (hand_urgency c s j held) ∙ urgent) may

picks_standard : (c : Configuration) (s : State) (hand : Option HandState) (d : DeviceTold) (block : ℕ) (kind : JobKind) (t : Taken) → IsPaired c s hand d → MayPick c s block kind t (next_of c s)
    → is_urgent d.stand ≡ false
picks_standard c s hand d block kind t paired may = elim (cases_Bool (is_urgent d.stand)) [
  | inl urgent ↦ absurd (never_over c s block kind t s.hand refl (urgent_in_hand c s hand d paired urgent) may)
  | inr standard ↦ standard
]

-- THE POWER
on_parts : (d : DeviceTold) → is_off d ≡ false → (d.first.off ≡ false) × (d.second.off ≡ false)
on_parts d on = or_parts d.first.off d.second.off on

both_on : (d : DeviceTold) → d.first.off ≡ false → d.second.off ≡ false → is_off d ≡ false
both_on d first second = rw (first, second) refl

on_before : (p : Part) (old new : DeviceTold) (clock : Clock) → Works p old new clock → is_off new ≡ false → is_off old ≡ false
on_before First old new clock works on =
    both_on old works.part.on (sym (ap (λ x. x.off) (works_rest First old new clock works Second)) ∙ (on_parts new on).1)
on_before Second old new clock works on =
    both_on old (sym (ap (λ x. x.off) (works_rest Second old new clock works First)) ∙ (on_parts new on).0) works.part.on

never : (b : Bool) → b ≡ true → b ≡ false → ⊥
never b on off = cc

-- THE SEAL
module _ (old : DeviceTold) (clock : Clock) (new : DeviceTold) (clock_new : Clock) where
  same_seals : new ≡ old → SameClock clock clock_new → KeepsSeal old clock new clock_new
  same_seals same clocks since sealed on k later last few seals =
      let ops : new.ops ≡ old.ops = ap (λ (d : DeviceTold). d.ops) same in
      subst IsSealing (sym same) (sealed (sym (ap is_off same) ∙ on) k later (omega (arith, ops, last)) (omega (arith, ops, few)) ((clocks.was Seals k).0 seals))

  -- what is open may change, where an urgent job of the first part stays open, or more is ready
  open_seals : new ≡ record old { slots = new.slots; stand = new.stand; left = new.left; ready = new.ready; wait = new.wait } → SameClock clock clock_new
      → (urgent_first new.fixed new.stand ≡ false → (urgent_first old.fixed old.stand ≡ false) × (old.ready ≤ new.ready)) → KeepsSeal old clock new clock_new
  open_seals leaves clocks calm since sealed on k later last few seals =
      let ops : new.ops ≡ old.ops = ap (λ (d : DeviceTold). d.ops) leaves in
      let reserve : new.fixed.reserve ≡ old.fixed.reserve = ap (λ (d : DeviceTold). d.fixed.reserve) leaves in
      let was = sealed (sym (ap is_off leaves) ∙ on) k later (omega (arith, ops, last)) (omega (arith, ops, few)) ((clocks.was Seals k).0 seals) in
      record {
        switching = ap (λ (d : DeviceTold). d.switching) leaves ∙ was.switching;
        ready = λ standard.
            let (before, more) = calm standard in
            let kept = was.ready before in omega (arith, reserve, more, kept);
      }

  -- the start of an operation
  opens_calm : (w : Wish) → refusal_of old w.job.number w.length ≡ None → Opens w.job old new → urgent_first new.fixed new.stand ≡ false → (urgent_first old.fixed old.stand ≡ false) × (old.ready ≤ new.ready)
  opens_calm w free opens standard =
      let own : urgent_first old.fixed (Open w.job) ≡ false = sym (ap (λ (d : DeviceTold). urgent_first d.fixed d.stand) opens.only) ∙ standard in (
        none_first old.fixed old.stand (closed_standard old.stand (closed (is_open old.stand) free)),
        subst (λ (u : Bool). IfElse u (IsPrompt (figures_at old.fixed w.job.number).pages old new) (old.ready ≤ new.ready)) own opens.ready,
      )
    where
      closed : (t : Bool) → (if t then Some refusal.Busy else (if old.started then length_refusal w.length (length_of old.fixed.numbers w.job.number) else Some refusal.Uninit)) ≡ None → t ≡ false
      closed true busy = cc
      closed false free = refl

  works_seal : (p : Part) → Works p old new clock_new → Ticks p turn.Worked old clock new clock_new → KeepsSeal old clock new clock_new
  works_seal p works ticks since sealed on k later last few seals =
      works.seals k last few seals (elim (cases_lt k old.ops) [
        | inl before ↦
            let more = works.part.later in
            inr (sealed (on_before p old new clock_new works on) k later (omega (arith, before, more, last)) (omega (arith, more, few)) (ticks.past.was Seals k before seals))
        | inr now ↦ inl now
      ])

pub first_halves_keep_seal : (old : DeviceTold) (clock : Clock) (new : DeviceTold) (clock_new : Clock) → FirstHalvesKeepSeal old clock new clock_new
first_halves_keep_seal old clock new clock_new (Ended turned.Picked) desk desk_new before after hand hand_new half at paired leaves clocks =
    open_seals old clock new clock_new leaves clocks (λ standard. (
      none_first old.fixed old.stand (picks_standard desk.config (state_of desk) hand old half.0 half.1.kind half.1.taken paired half.1.allowed.1),
      (freed old new (is_open old.stand) refl at.1).1,
    ))
first_halves_keep_seal old clock new clock_new (Ended turned.Posted) desk desk_new before after hand hand_new half at paired leaves clocks =
    same_seals old clock new clock_new at.2 clocks
first_halves_keep_seal old clock new clock_new (Ended turned.Off) desk desk_new before after hand hand_new half at paired leaves clocks =
    same_seals old clock new clock_new at.1 clocks
first_halves_keep_seal old clock new clock_new (Ended turned.Idle) desk desk_new before after hand hand_new half at paired leaves clocks =
    same_seals old clock new clock_new at.1 clocks
first_halves_keep_seal old clock new clock_new (Ended turned.Worked) desk desk_new before after hand hand_new half at paired leaves clocks = absurd half
first_halves_keep_seal old clock new clock_new Device desk desk_new before after None hand_new half at paired leaves clocks =
    same_seals old clock new clock_new at.1 clocks
first_halves_keep_seal old clock new clock_new Device desk desk_new before after (Some h) hand_new half at paired leaves clocks = elim at.2 [
  | inl same ↦ same_seals old clock new clock_new same clocks
  | inr begins ↦ open_seals old clock new clock_new leaves clocks (opens_calm old clock new clock_new begins.wish begins.accepts.0 begins.accepts.1)
]

pub device_turns_keep_seal : (old : DeviceTold) (clock : Clock) (new : DeviceTold) (clock_new : Clock) → DeviceTurnsKeepSeal old clock new clock_new
device_turns_keep_seal old clock new clock_new turn.Idle turns = same_seals old clock new clock_new turns.0.1 turns.0.2
device_turns_keep_seal old clock new clock_new turn.Worked turns = works_seal old clock new clock_new turns.0.1.0 turns.0.1.1 turns.0.1.2
device_turns_keep_seal old clock new clock_new turn.Off turns = λ since sealed on. absurd (never (is_off new) (is_off_at_off old clock new clock_new turns) on)

-- KEPT PAGES
pub device_turns_take_kept : (old : DeviceTold) (clock : Clock) (new : DeviceTold) (clock_new : Clock) → DeviceTurnsTakeKept old clock new clock_new
device_turns_take_kept old clock new clock_new turn.Idle desk hand paired turns k le lt takes =
    absurd (let ops = ap (λ (d : DeviceTold). d.ops) turns.0.1 in omega (arith, ops, le, lt))
device_turns_take_kept old clock new clock_new turn.Worked desk hand paired turns k le lt takes =
    urgent_in_hand desk.config (state_of desk) hand old paired (turns.0.1.2.kept k le lt takes)
device_turns_take_kept old clock new clock_new turn.Off desk hand paired turns k le lt takes = elim turns.0.1.1 [
  | inl still ↦ absurd (let ops = ap (λ (d : DeviceTold). d.ops) still.2 in omega (arith, ops, le, lt))
  | inr cut ↦ urgent_in_hand desk.config (state_of desk) hand old paired (cut.1.kept k le lt takes)
]
