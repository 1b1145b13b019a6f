-- Which operation is of which part, and which start-up is told by which Found.
use Rattle.std.specs.Prelude.{nat_le, IfSome, ◌↔◌}
use Rattle.std.specs.Option.{option_map_or}
use Rattle.std.proofs.Common.{◌≡◌, ◌⊎◌, ◌≤◌, ◌<◌, ℕ, ◌+◌, true, false, IsTrue, List, [], ◌∷◌, ◌++◌, Option, Some, None, refl, sym, ap, ◌∙◌, subst, inl, inr, arith}
use Rattle.std.proofs.lemmas.Bool.{cases_lt, lt-leb}
use Rattle.block_machine.specs.nv_base.Count.{last_count, Rose, WereCounted}
use Rattle.block_machine.specs.nv_base.Entry as entry
use Rattle.block_machine.specs.nv_base.Marks.{instance_of}
use Rattle.memif.specs.Told as device
use Rattle.memif.specs.Told.{DeviceTold, Fixed, Part, First, Second, PartTold, Stand, Open, Ended, is_open, is_part, part_at, part_of, part_of_block, figures_at}
use Rattle.memif.specs.Clock.{Clock}
use Rattle.memif.specs.Calls.{IsOf, Works, IsCut, Turns}
use Rattle.memif.specs.declared.answer.DeviceTurn.{DeviceTurn}
use Rattle.memif.specs.declared.answer.DeviceTurn.TheVariants as turn
use Rattle.memif.specs.declared.answer.JobResult.TheVariants.{JobOk}
use Rattle.block_machine.specs.Words.{Instance, Mark, Entry, Off, Found, Configuration}
use Rattle.block_machine.specs.State.{State, Job}
use Rattle.block_machine.specs.Blocks.{job_block}
use Rattle.block_machine.specs.StartUp.{at_first}
use Rattle.block_machine.specs.Steps.{after}
use Rattle.block_machine.specs.History.{is_driver_until, up_to}
use Rattle.promise_blocks.specs.OverDevice.{TellsAtMost, is_of}
use Rattle.promise_blocks.specs.Operations.{AreOfJobs, AreStartsTold, founds, is_on, start_ups_in}
use Rattle.nvm_device_laws.specs.Turn.{Keeps}
use Rattle.nv_desk_copies.specs.nv_desk.Desk.{DeskState, state_of}
use Rattle.job_progress.specs.Hand.{HandState}
use Rattle.job_progress.specs.JobInHand.{IsAt, IsInHand, IsPaired, job_for}
use Rattle.job_programs.specs.Program.{Program}
use Rattle.block_laws.proofs.HistoryLaws.{late_entries_are_cut_off}
use Rattle.block_laws.proofs.LateEntries.{up_to_same}
use Rattle.nvm_device_laws.proofs.DeviceCalls.{goes_cut, goes_same, goes_worked}
use Rattle.nvm_device_laws.proofs.Moments.{ops_within}
use Rattle.nvm_device_laws.proofs.Pushed.{Goes}
use Rattle.job_progress.proofs.Asking.{asked_hand}
use Rattle.nvm_laws.proofs.Ending.{listed, number_is, small_index}
use Rattle.nvm_laws.proofs.Operations.{is_block}

-- THE JOB IN HAND UP TO AN OPERATION
-- from the operations of the last driver entry on it is the job in hand now
hand_up_to : (c : Configuration) (h : List Entry) (n k : ℕ) → TellsAtMost n h → n ≤ k → (after c (up_to k h)).hand ≡ (after c h).hand
hand_up_to c h n k tells late = up_to_same (λ (s : State). s.hand) (λ c s caller r reply. asked_hand c s r reply) c k at_first h (let few = ops_within c n at_first h (omega arith) tells in omega (arith, few, late))

-- A CALL
module _ (old : DeviceTold) (clock : Clock) (new : DeviceTold) (clock_new : Clock) (fixed : new.fixed ≡ old.fixed)
    (past : (k : ℕ) → k < old.ops → clock_new.of_second k ↔ clock.of_second k) (c : Configuration) (h : List Entry) where
  -- an operation that it made is one of a job of the second part exactly where such a job was in hand
  abbrev pub MadeOfJobs : Type 0
  MadeOfJobs = (k : ℕ) → k < last_count → old.ops ≤ k → k < new.ops → clock_new.of_second k ↔ IsTrue (is_on (is_of Second old.fixed) (after c (up_to k h)).hand)

  pub order_goes : MadeOfJobs → AreOfJobs c h old clock → AreOfJobs c h new clock_new
  order_goes made order = subst (λ (f : Fixed). (k : ℕ) → k < last_count → k < new.ops → clock_new.of_second k ↔ IsTrue (is_on (is_of Second f) (after c (up_to k h)).hand)) (sym fixed)
      (λ k small within. elim (cases_lt k old.ops) [
        | inl before ↦ (λ is. (order k small before).0 ((past k before).0 is), λ is. (past k before).1 ((order k small before).1 is))
        | inr now ↦ made k small now within
      ])

  -- one that makes none
  pub order_stays : new.ops ≡ old.ops → AreOfJobs c h old clock → AreOfJobs c h new clock_new
  order_stays ops order = order_goes (λ k small now within. absurd (omega (arith, now, within, ops))) order

counted_on : (n a b : ℕ) → a ≤ b → WereCounted n 0 a → WereCounted n 0 b
counted_on n a b grow (inl some) = inl (omega (arith, grow, some))
counted_on n a b grow (inr end) = inr (omega (arith, grow, end))

counted_more : (n a b : ℕ) → Rose a b → WereCounted n 0 a → WereCounted (n + 1) 0 b
counted_more n a b (inl less) (inl some) = inl (omega (arith, less, some))
counted_more n a b (inl less) (inr end) = inr (omega (arith, less, end))
counted_more n a b (inr (full, grow)) counted = inr (omega (arith, full, grow))

module _ (old new : DeviceTold) (faults : (p : Part) → (part_at p old).faults ≤ (part_at p new).faults) (h : List Entry) (told : AreStartsTold h old) where
  pub starts_stay : new.starts ≡ old.starts → AreStartsTold h new
  starts_stay same = record { failed = told.failed; counted = λ p. counted_on (told.failed p) (part_at p old).faults (part_at p new).faults (faults p) (told.counted p); all = same ∙ told.all }

  -- a start-up in which this part counted a fault
  abbrev failed_more : Part → Part → ℕ
  failed_more First First = told.failed First + 1
  failed_more First Second = told.failed Second
  failed_more Second First = told.failed First
  failed_more Second Second = told.failed Second + 1

  more_by : (q p : Part) → Rose (part_at q old).faults (part_at q new).faults → WereCounted (failed_more q p) 0 (part_at p new).faults
  more_by First First rose = counted_more (told.failed First) old.first.faults new.first.faults rose (told.counted First)
  more_by First Second rose = counted_on (told.failed Second) old.second.faults new.second.faults (faults Second) (told.counted Second)
  more_by Second First rose = counted_on (told.failed First) old.first.faults new.first.faults (faults First) (told.counted First)
  more_by Second Second rose = counted_more (told.failed Second) old.second.faults new.second.faults rose (told.counted Second)

  all_by : (q : Part) → new.starts ≡ old.starts + 1 → new.starts ≡ founds h + (failed_more q First + failed_more q Second)
  all_by First more = let all = told.all in omega (arith, more, all)
  all_by Second more = let all = told.all in omega (arith, more, all)

  failed_in : (q : Part) → Rose (part_at q old).faults (part_at q new).faults → new.starts ≡ old.starts + 1 → AreStartsTold h new
  failed_in q rose more = record { failed = failed_more q; counted = λ p. more_by q p rose; all = all_by q more }

  pub starts_failed : Rose old.first.faults new.first.faults ⊎ Rose old.second.faults new.second.faults → new.starts ≡ old.starts + 1 → AreStartsTold h new
  starts_failed (inl rose) more = failed_in First rose more
  starts_failed (inr rose) more = failed_in Second rose more

-- AN ENTRY MORE
-- it tells so many operations
late_at : (e : Entry) (n k : ℕ) → entry.ops_of e ≡ Some n → k < n → is_driver_until k e ≡ false
late_at e n k is late = ap (λ (o : Option ℕ). option_map_or (λ ops. nat_le ops k) o false) is ∙ lt-leb n k late

module _ (d : DeviceTold) (clock : Clock) (c : Configuration) (h : List Entry) (e : Entry) where
  order_more : ((k : ℕ) → k < d.ops → is_driver_until k e ≡ false) → AreOfJobs c h d clock → AreOfJobs c (h ++ e ∷ []) d clock
  order_more late order k small within =
      subst (λ (es : List Entry). clock.of_second k ↔ IsTrue (is_on (is_of Second d.fixed) (after c es).hand)) (sym (late_entries_are_cut_off k h e (late k within))) (order k small within)

  pub order_push : entry.ops_of e ≡ Some d.ops → AreOfJobs c h d clock → AreOfJobs c (h ++ e ∷ []) d clock
  order_push timed order = order_more (λ k within. late_at e d.ops k timed within) order

  -- a request is cut off wherever it stands last
  pub order_asked : entry.ops_of e ≡ None → AreOfJobs c h d clock → AreOfJobs c (h ++ e ∷ []) d clock
  order_asked untimed order = order_more (λ k within. ap (λ (o : Option ℕ). option_map_or (λ ops. nat_le ops k) o false) untimed) order

founds_more : (h : List Entry) (e : Entry) → founds (h ++ e ∷ []) ≡ founds h + start_ups_in e
founds_more [] e = omega arith
founds_more (x ∷ h) e = let rest = founds_more h e in omega (arith, rest)

pub starts_push : (d : DeviceTold) (h : List Entry) (e : Entry) → start_ups_in e ≡ 0 → AreStartsTold h d → AreStartsTold (h ++ e ∷ []) d
starts_push d h e none told = record { failed = told.failed; counted = told.counted; all = (let all = told.all in let more = founds_more h e in omega (arith, all, more, none)) }

-- the Found of a start-up
pub starts_found : (old new : DeviceTold) (h : List Entry) (marks : List (Instance × Mark)) (ops : ℕ) → ((p : Part) → (part_at p old).faults ≤ (part_at p new).faults)
    → new.starts ≡ old.starts + 1 → AreStartsTold h old → AreStartsTold (h ++ Found marks ops ∷ []) new
starts_found old new h marks ops faults more told = record {
  failed = told.failed;
  counted = λ p. counted_on (told.failed p) (part_at p old).faults (part_at p new).faults (faults p) (told.counted p);
  all = (let all = told.all in let one = founds_more h (Found marks ops) in omega (arith, more, all, one));
}

-- A TURN
second_is : (q : Part) → (q ≡ Second) ↔ IsTrue (is_part Second q)
second_is First = (λ is. cc, λ is. cc)
second_is Second = (λ is. refl, λ is. refl)

first_alone : (p : Part) (f : Fixed) (s : Stand) → is_open s ≡ false → IsOf p f s → p ≡ First
first_alone p f (Open j) closed of = cc
first_alone p f (Ended r given) closed of = of

module _ (before : Part → PartTold) (desk : DeskState) (old : DeviceTold) (clock : Clock) (keeps : Keeps desk.config desk.cap desk.entries before old clock)
    (p : Part) (of : IsOf p old.fixed old.stand) where
  abbrev OfHand : Option Job → Type 0
  OfHand o = (p ≡ Second) ↔ IsTrue (is_on (is_of Second old.fixed) o)

  none_in_hand : is_open old.stand ≡ false → OfHand None
  none_in_hand closed = let first : p ≡ First = first_alone p old.fixed old.stand closed of in (λ is. cc, λ is. cc)

  module _ (h : HandState) (is : IsInHand desk.config (state_of desk) h old) (at : IsAt desk.config is.job h.program old.stand) where
    abbrev job : device.Job
    job = job_for desk.config is.job h.program at.index

    abbrev ended_at : DeviceTold
    ended_at = record old { stand = Ended JobOk [] }

    -- the part of its number is that of its block
    part_is : p ≡ part_of_block old.fixed (job_block is.job)
    part_is =
        let (x, has, same) = listed desk.config (state_of desk) h old ended_at job JobOk [] is at.stands refl
        (is_block desk.config desk.cap desk.entries is.job keeps.device.rules keeps.over.legal is.hand) in
        let number = number_is desk.config (state_of desk) h old ended_at job JobOk [] is at.stands refl in
        let small = small_index desk.config (state_of desk) h old ended_at job JobOk [] is at.stands refl keeps.device.rules in
        let block : h.program.block ≡ job_block is.job = ap (λ (q : Program). q.block) is.working.is in
        let own : (instance_of x.0).block ≡ h.program.block = omega (arith, number, small, same) in
        (subst (λ (s : Stand). IsOf p old.fixed s) at.stands of).1
        ∙ (ap (λ (n : ℕ). (figures_at old.fixed n).part) (sym same)
        ∙ (keeps.device.parts x has ∙ ap (part_of_block old.fixed) (own ∙ block)))

    one_in_hand : OfHand (Some is.job)
    one_in_hand = (λ second. (second_is (part_of_block old.fixed (job_block is.job))).0 (sym part_is ∙ second), λ on. part_is ∙ (second_is (part_of_block old.fixed (job_block is.job))).1 on)

  started_at : (h : HandState) (is : IsInHand desk.config (state_of desk) h old) → h.started ≡ true → IsAt desk.config is.job h.program old.stand
  started_at h is on = rw on at is.at

  part_in_hand : (hand : Option HandState) → IsPaired desk.config (state_of desk) hand old → IfSome hand (λ h. h.started ≡ true) → OfHand (state_of desk).hand
  part_in_hand None paired on = subst OfHand (sym paired.0) (none_in_hand paired.1)
  part_in_hand (Some h) is on = subst OfHand (sym is.hand) (one_in_hand h is (started_at h is on))

  -- so is each operation of a turn on this part
  made_of : (hand : Option HandState) → IsPaired desk.config (state_of desk) hand old → IfSome hand (λ h. h.started ≡ true) → (Q : ℕ → Type 0) (ops_new : ℕ)
      → ((k : ℕ) → old.ops ≤ k → k < ops_new → Q k ↔ (p ≡ Second))
      → (k : ℕ) → k < last_count → old.ops ≤ k → k < ops_new → Q k ↔ IsTrue (is_on (is_of Second old.fixed) (after desk.config (up_to k desk.entries)).hand)
  made_of hand paired on Q ops_new part k small now within =
      let own = part_in_hand hand paired on in
      let same = hand_up_to desk.config desk.entries old.ops k keeps.over.counted now in
      subst (λ (o : Option Job). Q k ↔ IsTrue (is_on (is_of Second old.fixed) o)) (sym same)
      (λ is. own.0 ((part k now within).0 is), λ is. (part k now within).1 (own.1 is))

module _ (old : DeviceTold) (clock : Clock) (new : DeviceTold) (clock_new : Clock) (before : Part → PartTold) (desk : DeskState) (hand : Option HandState)
    (keeps : Keeps desk.config desk.cap desk.entries before old clock) (paired : IsPaired desk.config (state_of desk) hand old) (on : IfSome hand (λ h. h.started ≡ true))
    (so : AreOfJobs desk.config desk.entries old clock) (told : AreStartsTold desk.entries old) where
  -- what is kept behind a turn, with the entries from before
  pub record Ordered : Type 0 where
    pub order : AreOfJobs desk.config desk.entries new clock_new
    pub starts : AreStartsTold desk.entries new

  starts_worked : (p : Part) → Works p old new clock_new → new.starts ≡ old.starts
  starts_worked First works = ap (λ (d : DeviceTold). d.starts) works.only
  starts_worked Second works = ap (λ (d : DeviceTold). d.starts) works.only

  starts_cut : (p : Part) → IsCut p old new → new.starts ≡ old.starts
  starts_cut First cut = ap (λ (d : DeviceTold). d.starts) cut.only
  starts_cut Second cut = ap (λ (d : DeviceTold). d.starts) cut.only

  moved : (goes : Goes old clock new clock_new) → MadeOfJobs old clock new clock_new goes.fixed goes.past.of_second desk.config desk.entries → new.starts ≡ old.starts → Ordered
  moved goes made same = record {
    order = order_goes old clock new clock_new goes.fixed goes.past.of_second desk.config desk.entries made so;
    starts = starts_stay old new goes.faults desk.entries told same;
  }

  stood : Goes old clock new clock_new → new ≡ old → Ordered
  stood goes same = moved goes (λ k small now within. absurd (let ops = ap (λ (d : DeviceTold). d.ops) same in omega (arith, now, within, ops))) (ap (λ (d : DeviceTold). d.starts) same)

  pub turn_ordered : (answer : DeviceTurn) → Turns answer old clock new clock_new → Ordered
  turn_ordered turn.Idle turns = stood (goes_same old clock new clock_new turns.0.1 turns.0.2 (λ held. turns.1.now held)) turns.0.1
  turn_ordered turn.Worked turns =
      let (p, works, ticks) = turns.0.1 in
      moved (goes_worked old clock new clock_new p works ticks (λ held. turns.1.now held))
      (made_of before desk old clock keeps p works.of hand paired on clock_new.of_second new.ops ticks.part) (starts_worked p works)
  turn_ordered turn.Off turns = elim turns.0.1.1 [
    | inl still ↦ stood (goes_same old clock new clock_new still.2 still.3 (λ held. turns.1.now held)) still.2
    | inr cut ↦
        moved (goes_cut old clock new clock_new turns.0.1.0 cut.0 cut.1 (λ held. turns.1.now held))
        (made_of before desk old clock keeps turns.0.1.0 cut.0.of hand paired on clock_new.of_second new.ops cut.1.part) (starts_cut turns.0.1.0 cut.0)
  ]
