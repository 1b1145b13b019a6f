-- The halves of a turn, as moves.
use Rattle.std.specs.Prelude.{IfSome, if◌then◌else◌}
use Rattle.std.proofs.lemmas.List.{append_cancel_left, append-nil}
use Rattle.std.proofs.Common.{◌≡◌, inl, inr, ℕ, ◌≤◌, Bool, true, false, List, [], ◌∷◌, ◌++◌, Option, Some, None, refl, sym, ap, subst, ◌∙◌, arith}
use Rattle.nvm_laws.specs.memif.Told as memif
use Rattle.nvm_laws.specs.memif.Told.{DeviceTold, Stand, Open, Ended as Closed, IfElse, is_off, is_open}
use Rattle.nvm_laws.specs.memif.Clock.{Clock}
use Rattle.nvm_laws.specs.memif.Calls.{IsCanceled, RoomIsLeft}
use Rattle.nvm_laws.specs.block_machine.Words.{Entry, Pick, Taken, Configuration}
use Rattle.nvm_laws.specs.block_machine.State.{State, Job}
use Rattle.nvm_laws.specs.block_machine.Blocks.{rank_of}
use Rattle.nvm_laws.specs.block_machine.StartUp.{at_first}
use Rattle.nvm_laws.specs.block_machine.Steps.{after_from}
use Rattle.nvm_laws.specs.promise_blocks.Payment.{Worn}
use Rattle.nvm_laws.specs.ram_blocks.Told.{Told}
use Rattle.nvm_laws.specs.nv_desk.Desk.{DeskState, state_of}
use Rattle.nvm_laws.specs.job_progress.Hand.{HandState, is_finished, with_start}
use Rattle.nvm_laws.specs.job_progress.JobInHand.{IsInHand, IsPaired}
use Rattle.nvm_laws.specs.AtDevice.{AtDevice, GoesOn}
use Rattle.nvm_laws.specs.Halves.{IsHalf}
use Rattle.nvm_laws.specs.declared.turned.Turned.{Turned}
use Rattle.nvm_laws.specs.declared.turned.Turned.TheVariants as turned
use Rattle.nvm_laws.specs.declared.turned.Act.TheVariants.{Ended}
use Rattle.nvm_core.specs.BehindDevice.{TurnsDevice}
use Rattle.nvm_core.specs.OperationStart.{LeavesDevice}
use Rattle.nvm_core.specs.Operations.{number_tried}
use Rattle.nvm_laws.proofs.block_laws.HistoryLaws.{histories_go_on}
use Rattle.nvm_laws.proofs.Powering.{finished_are_closed}
use Rattle.nvm_laws.specs.promise_blocks.Moves.{Move, entry_list, is_picked}
use Rattle.nvm_laws.specs.promise_blocks.Work.{IsWorked, is_posted, tries_of}
use Rattle.nvm_core.specs.DeviceWork.{IsSimple, costs_in, moment_in, tries_left, work_in}
use Rattle.nvm_core.proofs.AtOperation.{at_operation, open_same}
use Rattle.nvm_core.proofs.DeviceWork.{HalfBegins, begins_half, entry_is, entry_none, same_begins, works_picked, works_same}
use Rattle.nvm_core.proofs.Paying.{device_lasts}
use Rattle.nvm_core.proofs.TriesLeft.{tries_bounded}

pub closed_tries : (stand : Stand) → is_open stand ≡ false → number_tried stand ≡ None
closed_tries (Open j) closed = cc closed
closed_tries (Closed result given) closed = refl

-- THE JOB IN HAND
-- what is open at the device is of it
pub hand_is_open : (c : Configuration) (s : State) (hand : Option HandState) (d : DeviceTold) → IsPaired c s hand d → IfSome hand (λ h. h.started ≡ true) → (j : memif.Job) → d.stand ≡ Open j → (job : Job) × (s.hand ≡ Some job) × (j.urgent ≡ (rank_of c job).immediate)
hand_is_open c s None d paired started j stands = absurd (let closed : true ≡ false = ap is_open (sym stands) ∙ paired.1 in cc closed)
hand_is_open c s (Some h) d paired started j stands =
    let at = at_operation c s h d started paired in (at.job, at.hand, ap (λ (k : memif.Job). k.urgent) (open_same j _ (sym stands ∙ at.is)))

-- it goes on, and its operation is begun where it wasn't
pub half_begins : (c : Configuration) (s : State) (room : ℕ → Type 0) (hand hand_new : Option HandState) (d b : DeviceTold) → IsSimple d.fixed → is_off d ≡ false → (clock : Clock) → RoomIsLeft b clock
    → ((n : ℕ) → room n → (x : ℕ) × clock.spare b.ops x × (n ≤ x)) → GoesOn hand d hand_new b → IfSome hand_new (λ h. h.started ≡ true) → IsPaired c s hand_new b → HalfBegins c s room hand hand_new d b
half_begins c s room None hand_new d b simple on clock roomy free goes started paired = same_begins c s room d b None hand_new (ap (λ (o : Option HandState). tries_left o (is_open d.stand)) goes.0) goes.1
half_begins c s room (Some h) hand_new d b simple on clock roomy free goes started paired = elim goes.2 [
  | inl same ↦ same_begins c s room d b (Some h) hand_new (ap (λ (o : Option HandState). tries_left o (is_open d.stand)) goes.1) same
  | inr begun ↦
      let started : (with_start h).started ≡ true = subst (λ (o : Option HandState). IfSome o (λ x. x.started ≡ true)) goes.1 started in
      let paired : IsInHand c s (with_start h) b = subst (λ (o : Option HandState). IsPaired c s o b) goes.1 paired in
      subst (λ (o : Option HandState). HalfBegins c s room (Some h) o d b) (sym goes.1)
      (begins_half c s room d b simple on clock roomy free h paired.working.tries begun (at_operation c s (with_start h) b started paired))
]

-- no more free pages are told of the operations before the device's turn
pub spare_before : (answer : Turned) (b : DeviceTold) (clock_b : Clock) (n : DeviceTold) (clock_n : Clock) → TurnsDevice answer b clock_b n clock_n → (k s : ℕ) → k ≤ b.ops → clock_n.spare k s → clock_b.spare k s
spare_before answer b clock_b n clock_n turns k s few spare = (device_lasts answer b clock_b n clock_n turns).past.spare k s few spare

-- THE FIRST HALF ALONE
-- a turn that is it is a move that keeps to what was open
module _ (room : ℕ → ℕ → Type 0) (worn : Worn) (desk desk_new : DeskState) (hand hand_new : Option HandState) (d n : DeviceTold) (m : Move) (behind : m.behind ≡ moment_in n) (leaves : LeavesDevice d n)
    (entry : desk_new.entries ≡ desk.entries ++ entry_list m.entry) (paired : IsPaired desk.config (state_of desk) hand d) (paired_new : IsPaired desk_new.config (state_of desk_new) hand_new n) where
  abbrev Holds_on : Type 0
  Holds_on = IsWorked (costs_in d.fixed) room worn desk.config (moment_in d) (state_of desk) (work_in hand d) m (record { begins = None; behind = work_in hand_new n })

  -- with this entry no more tries may begin than a Pick gives, or than might before it
  abbrev Few : Option Entry → Type 0
  Few o = tries_left hand_new (is_open n.stand) ≤ (if is_picked o then tries_of desk.config (after_from desk.config (state_of desk) (entry_list o)) else tries_left hand (is_open d.stand))

  added : (es : List Entry) → desk_new.entries ≡ desk.entries ++ es → entry_list m.entry ≡ es
  added es is = append_cancel_left desk.entries (entry_list m.entry) es (sym entry ∙ is)

  no_entry : desk_new ≡ desk → m.entry ≡ None
  no_entry same = entry_none m.entry (added [] (ap (λ (x : DeskState). x.entries) same ∙ sym (append-nil desk.entries)))

  none_on : hand_new ≡ hand → n ≡ d → desk_new ≡ desk → Holds_on
  none_on held same unchanged =
      let left : tries_left hand_new (is_open n.stand) ≡ tries_left hand (is_open d.stand) = ap (λ (o : Option HandState). tries_left o (is_open n.stand)) held ∙ ap (λ (x : DeviceTold). tries_left hand (is_open x.stand)) same in
      works_same desk.config (state_of desk) room worn hand hand_new d n m behind leaves (subst Few (sym (no_entry unchanged)) (omega (arith, left))) same (λ posted. let posted_none : is_posted None ≡ true = ap is_posted (sym (no_entry unchanged)) ∙ posted in cc posted_none)

  posted_on : hand_new ≡ None → n ≡ d → IfSome hand (λ h. is_finished h.step ≡ true) → Holds_on
  posted_on out same over =
      let left : tries_left hand_new (is_open n.stand) ≡ 0 = ap (λ (o : Option HandState). tries_left o (is_open n.stand)) out in
      works_same desk.config (state_of desk) room worn hand hand_new d n m behind leaves (omega (arith, left)) same (λ posted. closed_tries d.stand (closed hand paired over))
    where
      closed : (o : Option HandState) → IsPaired desk.config (state_of desk) o d → IfSome o (λ h. is_finished h.step ≡ true) → is_open d.stand ≡ false
      closed None is over = is.1
      closed (Some h) is over = finished_are_closed desk.config (state_of desk) h d is over

  picked_on : (block : ℕ) (kind : _) (taken : Taken) (ops : ℕ) → desk_new ≡ record desk { entries = desk.entries ++ Pick block kind taken ops ∷ [] } → IfElse (is_open d.stand) (IsCanceled d n) (n ≡ d) → Holds_on
  picked_on block kind taken ops adds cancels =
      let is : m.entry ≡ Some (Pick block kind taken ops) = entry_is m.entry (Pick block kind taken ops) (added (Pick block kind taken ops ∷ []) (ap (λ (x : DeskState). x.entries) adds)) in
      let (less, none) = by (is_open d.stand) refl cancels in
      let few = subst (λ (x : DeskState). tries_left hand_new (is_open n.stand) ≤ tries_of x.config (state_of x)) adds (tries_bounded desk_new.config (state_of desk_new) hand_new n (is_open n.stand) paired_new) in
      let gives : Few (Some (Pick block kind taken ops)) =
      subst (λ (t : State). tries_left hand_new (is_open n.stand) ≤ tries_of desk.config t) (histories_go_on desk.config at_first desk.entries (Pick block kind taken ops ∷ [])) few in
      works_picked desk.config (state_of desk) room worn hand hand_new d n m behind leaves (subst Few (sym is) gives) less none (ap is_picked is) (ap is_posted is)
    where
      by : (t : Bool) → is_open d.stand ≡ t → IfElse t (IsCanceled d n) (n ≡ d) → (n.left ≤ d.left) × (number_tried n.stand ≡ None)
      by true open_now canceled = (canceled.left, ap (λ (x : DeviceTold). number_tried x.stand) canceled.only)
      by false closed same = (let left : n.left ≡ d.left = ap (λ (x : DeviceTold). x.left) same in omega (arith, left), closed_tries n.stand (ap (λ (x : DeviceTold). is_open x.stand) same ∙ closed))

  pub half_works : (Holds : ℕ → Taken → Type 0) (Fits : Type 0) (before after : List Told) (answer : Turned) → IsHalf (Ended answer) Holds Fits desk desk_new before after n → AtDevice (Ended answer) hand d desk_new hand_new n → Holds_on
  half_works Holds Fits before after turned.Off half at = none_on at.0 at.1 half.0.0
  half_works Holds Fits before after turned.Idle half at = none_on at.0 at.1 half.0.0
  half_works Holds Fits before after turned.Worked half at = absurd half
  half_works Holds Fits before after turned.Picked half at = picked_on half.0 half.1.kind half.1.taken _ half.1.adds at.1
  half_works Holds Fits before after turned.Posted half at = posted_on at.1 at.2 at.0
