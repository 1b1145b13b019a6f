-- The parts of the stack behind the second half.
use Rattle.std.specs.Prelude.{◌==◌, ◌/◌}
use Rattle.std.specs.List.{Contains}
use Rattle.std.proofs.Common.{◌≡◌, ℕ, suc, ◌≤◌, Bool, true, false, if◌then◌else◌, List, [], ◌∷◌, Option, Some, None, refl, sym, ap, ◌∙◌, subst, eqb-true, arith}
use Rattle.nvm_laws.specs.nv_base.Entry.{ops_of}
use Rattle.nvm_laws.specs.nv_base.declared.mark.Mark.{Mark}
use Rattle.nvm_laws.specs.nv_base.declared.instance.DeviceNumber.{DeviceNumber}
use Rattle.nvm_laws.specs.memif.Told as device
use Rattle.nvm_laws.specs.memif.Told.{DeviceTold, Stand, Open, Ended, is_open, is_off, length_of, IfElse}
use Rattle.nvm_laws.specs.memif.declared.answer.DeviceTurn.{DeviceTurn}
use Rattle.nvm_laws.specs.memif.declared.answer.DeviceTurn.TheVariants as turn
use Rattle.nvm_laws.specs.memif.declared.answer.JobResult.{JobResult}
use Rattle.nvm_laws.specs.memif.declared.answer.JobResult.TheVariants.{JobOk}
use Rattle.nvm_laws.specs.block_config.Lengths.{lengths_of}
use Rattle.nvm_laws.specs.block_config.Rules.{IsLegalConfig}
use Rattle.nvm_laws.specs.block_machine.Words.{Entry, Off, Configuration}
use Rattle.nvm_laws.specs.block_machine.State.{State, Job}
use Rattle.nvm_laws.specs.block_machine.Blocks.{desc_of, job_block}
use Rattle.nvm_laws.specs.block_machine.Steps.{step}
use Rattle.nvm_laws.specs.job_programs.Program.{Program, next_in, operation, step_by, step_of}
use Rattle.nvm_laws.specs.block_machine.Results.{took_none}
use Rattle.nvm_laws.specs.nv_base.declared.job.JobStep.TheVariants as jobstep
use Rattle.nvm_laws.specs.nvm_device_laws.Turn.{settled_by, wrote_by}
use Rattle.nvm_laws.specs.nv_desk.Desk.{DeskState, state_of}
use Rattle.nvm_laws.specs.job_progress.Hand.{HandState}
use Rattle.nvm_laws.specs.job_progress.JobInHand.{IsAt, IsFruitless, IsInHand, IsPaired, job_for}
use Rattle.nvm_laws.specs.job_progress.Asks.{is_of_jobs}
use Rattle.nvm_laws.specs.job_progress.Goes.{ReadsWhole, state_by}
use Rattle.nvm_laws.specs.Ties.{IsTied}
use Rattle.nvm_laws.specs.Turns.{AddsBy, entry_by, hand_by}
use Rattle.nvm_laws.proofs.block_laws.HistoryLaws.{histories_step}
use Rattle.nvm_laws.proofs.JobAsking.{offs_keep_hands, devices_stand_in}
use Rattle.nvm_laws.proofs.Powering.{jobs_keep_power}
use Rattle.nvm_laws.proofs.Going.{steps_name}
use Rattle.nvm_laws.proofs.Writing.{hands_go_on, same_block}
use Rattle.nvm_core.specs.BehindDevice.{GivesBy, IsBehindTurn, StandTurns}
use Rattle.nvm_laws.proofs.block_laws.InstanceNumbers.{own_length}

-- THE LENGTH
some_is : (n m : ℕ) → Some n ≡ Some m → n ≡ m
some_is n m is = cc

-- what stands for a number is in the list
abbrev IsListed : List (DeviceNumber × ℕ) → ℕ → ℕ → Type 0
IsListed numbers n size = (x : DeviceNumber × ℕ) × Contains numbers x × (x.0.0 ≡ n) × (x.1 ≡ size)

listed_by : (x : DeviceNumber × ℕ) (xs : List (DeviceNumber × ℕ)) (n size : ℕ) (t : Bool) → (x.0.0 == n) ≡ t
    → (length_of xs n ≡ Some size → IsListed xs n size) → (if t then Some x.1 else length_of xs n) ≡ Some size → IsListed (x ∷ xs) n size
listed_by x xs n size true on rest has = (x, (0, omega arith, refl), eqb-true x.0.0 n on, some_is x.1 size has)
listed_by x xs n size false off rest has =
    let (y, (k, within, at), number, size_is) = rest has in (y, (suc k, omega (arith, within), at), number, size_is)

listed : (numbers : List (DeviceNumber × ℕ)) (n size : ℕ) → length_of numbers n ≡ Some size → IsListed numbers n size
listed [] n size is = cc
listed (x ∷ xs) n size is = listed_by x xs n size (x.0.0 == n) refl (listed xs n size) is

-- a number's length is that of its block
own : (c : Configuration) (n size : ℕ) → IsLegalConfig c → length_of (lengths_of c) n ≡ Some size → size ≡ (desc_of c (n / 64)).length
own c n size legal is =
    let (x, has, number, size_is) = listed (lengths_of c) n size is in
    sym size_is ∙ own_length c x legal has ∙ ap (λ (k : ℕ). (desc_of c (k / 64)).length) number

-- a read that ends well gives the length of its block
whole_by : (c : Configuration) (n : ℕ) (l : Option ℕ) (mark : Option Mark) (r : JobResult) (given : List ℕ) → IsLegalConfig c → length_of (lengths_of c) n ≡ l
    → GivesBy mark r l given → ReadsWhole (desc_of c (n / 64)).length mark r given
whole_by c n (Some size) None JobOk given legal is gives = gives ∙ own c n size legal is
whole_by c n None None JobOk given legal is gives = absurd gives
whole_by c n l mark r given legal is gives = tt

-- THE OPEN JOB
-- it is the next operation of the job in hand
at_by : (c : Configuration) (j : Job) (p : Program) (t : Bool) (stand : Stand) (job : device.Job) → IfElse t (IsAt c j p stand) (is_open stand ≡ false)
    → stand ≡ Open job → (t ≡ true) × ((index : ℕ) × (next_in p ≡ Some index) × (job ≡ job_for c j p index))
at_by c j p true stand job at open_now = (refl, (at.index, at.next, open_same stand job (job_for c j p at.index) open_now at.stands))
  where
    open_same : (stand : Stand) (a b : device.Job) → stand ≡ Open a → stand ≡ Open b → a ≡ b
    open_same stand a b one other = cc
at_by c j p false stand job closed open_now = let now : is_open stand ≡ true = ap is_open open_now in cc

-- which is what the hand says
step_at : (h : HandState) (u : Bool) (index : ℕ) → IfElse u (IsFruitless h) (h.step ≡ step_of h.program) → h.started ≡ true → next_in h.program ≡ Some index
    → h.step ≡ jobstep.Device (operation h.program.kind) (record { block = h.program.block; index = index })
step_at h true index fruitless on next = let off = fruitless.1 in cc
step_at h false index step on next = step ∙ ap (step_by h.program) next

-- so its number is one of its block
block_of_job : (c : Configuration) (s : State) (h : HandState) (d : DeviceTold) (job : device.Job) → IsLegalConfig c → (is : IsInHand c s h d)
    → d.stand ≡ Open job → job.number / 64 ≡ job_block is.job
block_of_job c s h d job legal is open_now =
    let (on, (index, next, same)) = at_by c is.job h.program h.started d.stand job is.at open_now in
    let step = step_at h (took_none is.job.taken) index is.step on next in
    let named = steps_name c s h d (operation h.program.kind) (record { block = h.program.block; index = index }) legal is step in
    let small : index ≤ 63 = omega (arith, some_is index named.index (sym next ∙ named.next), named.small) in
    ap (λ (x : device.Job). x.number / 64) same ∙ same_block h.program.block index small ∙ ap (λ (q : Program). q.block) is.working.is

-- THE PARTS
-- no job ended
stays : (o n : Stand) (ops : ℕ) (hand : Option HandState) → n ≡ o → (settled_by o n ops ≡ None) × (hand_by o n hand ≡ hand)
stays (Open j) n ops hand same = rw same (refl, refl)
stays (Ended r given) n ops hand same = (refl, refl)

-- the hand is paired behind the entry
pub paired_behind : (c : Configuration) (s : State) (hand : Option HandState) (old new : DeviceTold) (ops : ℕ)
    → IsLegalConfig c → old.fixed.numbers ≡ lengths_of c → IsPaired c s hand old → StandTurns old.fixed.numbers old.stand new.stand
    → IsPaired c (state_by c s (settled_by old.stand new.stand ops)) (hand_by old.stand new.stand hand) new
paired_behind c s hand old new ops legal numbers paired turns = by old.stand new.stand refl refl turns
  where
    same_by : new.stand ≡ old.stand → IsPaired c (state_by c s (settled_by old.stand new.stand ops)) (hand_by old.stand new.stand hand) new
    same_by same =
        let (entry, held) = stays old.stand new.stand ops hand same in
        subst (λ (h : Option HandState). IsPaired c (state_by c s (settled_by old.stand new.stand ops)) h new) (sym held)
        (subst (λ (e : Option Entry). IsPaired c (state_by c s e) hand new) (sym entry) (devices_stand_in c s hand old new same paired))

    held_by : (x : Option HandState) (j : device.Job) (r : JobResult) (given : List ℕ) → IsPaired c s x old → old.stand ≡ Open j → new.stand ≡ Ended r given
        → GivesBy j.mark r (length_of old.fixed.numbers j.number) given
        → IsPaired c (state_by c s (settled_by old.stand new.stand ops)) (hand_by (Open j) (Ended r given) x) new
    held_by None j r given is was now gives = let on : is_open old.stand ≡ true = ap is_open was in let off = is.1 in cc
    held_by (Some h) j r given is was now gives =
        let block = block_of_job c s h old j legal is was in
        let whole = whole_by c j.number (length_of (lengths_of c) j.number) j.mark r given legal refl (subst (λ (xs : List (DeviceNumber × ℕ)). GivesBy j.mark r (length_of xs j.number) given) numbers gives) in
        hands_go_on c s h old new j r given is.job ops legal is is.hand was now
        (subst (λ (b : ℕ). ReadsWhole (desc_of c b).length j.mark r given) block whole)

    by : (o n : Stand) → old.stand ≡ o → new.stand ≡ n → StandTurns old.fixed.numbers o n
        → IsPaired c (state_by c s (settled_by old.stand new.stand ops)) (hand_by old.stand new.stand hand) new
    by (Open j) (Open j') was now same = same_by (now ∙ ap Open same ∙ sym was)
    by (Open j) (Ended r given) was now gives =
        subst (λ (h : Option HandState). IsPaired c (state_by c s (settled_by old.stand new.stand ops)) h new)
        (sym (ap (λ (x : Stand). hand_by x new.stand hand) was ∙ ap (λ (x : Stand). hand_by (Open j) x hand) now))
        (held_by hand j r given paired was now gives)
    by (Ended r given) n was now same = same_by (now ∙ same ∙ sym was)

-- the power behind the entry of an operation that ended
pub record IsPowered (s t : State) (old new : ℕ) : Type 0 where
  pub started : t.started ≡ s.started
  pub off : t.off ≡ s.off
  pub later : s.ops ≤ old → t.ops ≤ new

-- an entry of a job, that tells these operations
abbrev IsJobs : ℕ → Option Entry → Type 0
IsJobs ops None = Unit {0}
IsJobs ops (Some e) = (is_of_jobs e ≡ true) × (ops_of e ≡ Some ops)

powered_by : (c : Configuration) (s : State) (o n : Stand) (old new : ℕ) → old ≤ new → IsPowered s (state_by c s (settled_by o n new)) old new
powered_by c s o n old new later = by (settled_by o n new) (wrote_or_none o n new refl)
  where
    marked : (number : ℕ) (mark : Option Mark) (ops : ℕ) → ops ≡ new → IsJobs new (wrote_by number mark ops)
    marked number None ops same = tt
    marked number (Some m) ops same = (refl, ap Some same)

    wrote_or_none : (o n : Stand) (ops : ℕ) → ops ≡ new → IsJobs new (settled_by o n ops)
    wrote_or_none (Open j) (Ended JobOk given) ops same = marked j.number j.mark ops same
    wrote_or_none (Open j) (Ended r given) ops same = tt
    wrote_or_none (Open j) (Open j') ops same = tt
    wrote_or_none (Ended r given) n ops same = tt

    by : (e : Option Entry) → IsJobs new e → IsPowered s (state_by c s e) old new
    by None is = record { started = refl; off = refl; later = λ less. omega (arith, less, later) }
    by (Some e) is = let keeps = jobs_keep_power c s e is.0 in let ops = keeps.ops new is.1 in
        record { started = keeps.started; off = keeps.off; later = λ less. omega (arith, ops) }

on_and_off : (b : Bool) → b ≡ true → b ≡ false → ⊥
on_and_off b on off = cc

-- where no job is open or ends a stand stays
idle_turns : (numbers : List (DeviceNumber × ℕ)) (o n : Stand) → n ≡ o → StandTurns numbers o n
idle_turns numbers (Open j) n same = rw same refl
idle_turns numbers (Ended r given) n same = same

-- the state behind what was added
state_behind : (desk new : DeskState) (e : Option Entry) → AddsBy e desk new → (state_of new ≡ state_by desk.config (state_of desk) e) × (new.config ≡ desk.config)
state_behind desk new None same = (ap state_of same, ap (λ (x : DeskState). x.config) same)
state_behind desk new (Some e) adds = (ap state_of adds.0 ∙ histories_step desk.config desk.entries e, ap (λ (x : DeskState). x.config) adds.0)

module _ (desk new : DeskState) (hand hand_new : Option HandState) (old d : DeviceTold) (legal : IsLegalConfig desk.config) where
  tied_by : (e : Option Entry) → AddsBy e desk new → IsPaired desk.config (state_by desk.config (state_of desk) e) hand_new d → d.started ≡ true
      → (state_by desk.config (state_of desk) e).started ≡ true → (state_by desk.config (state_of desk) e).ops ≤ device.ops_of d
      → ((state_by desk.config (state_of desk) e).off ≡ true → is_off d ≡ true) → d.fixed.numbers ≡ lengths_of desk.config → IsTied new hand_new d
  tied_by e adds paired up started later off numbers =
      let (state, config) = state_behind desk new e adds in record {
        paired = subst (λ (c : Configuration). IsPaired c (state_of new) hand_new d) (sym config)
            (subst (λ (s : State). IsPaired desk.config s hand_new d) (sym state) paired);
        up = up;
        started = ap (λ (s : State). s.started) state ∙ started;
        later = let ops = ap (λ (s : State). s.ops) state in omega (arith, ops, later);
        off = λ is. off (sym (ap (λ (s : State). s.off) state) ∙ is);
        numbers = numbers ∙ ap lengths_of (sym config);
      }

  by_stand : (answer : DeviceTurn) → IsBehindTurn answer desk hand old d → AddsBy (settled_by old.stand d.stand (device.ops_of d)) desk new
      → hand_new ≡ hand_by old.stand d.stand hand → StandTurns old.fixed.numbers old.stand d.stand → IsTied new hand_new d
  by_stand answer is adds held turns =
      let tied = is.tied in let turned = is.turned in
      let entry = settled_by old.stand d.stand (device.ops_of d) in
      let paired = paired_behind desk.config (state_of desk) hand old d (device.ops_of d) legal tied.numbers tied.paired turns in
      let power = powered_by desk.config (state_of desk) old.stand d.stand (device.ops_of old) (device.ops_of d) turned.later in
      tied_by entry adds (subst (λ (h : Option HandState). IsPaired desk.config (state_by desk.config (state_of desk) entry) h d) (sym held) paired)
      (turned.started ∙ tied.up) (power.started ∙ tied.started) (power.later tied.later)
      (λ off. absurd (on_and_off (state_of desk).off (sym power.off ∙ off) is.on)) (ap (λ (f : device.Fixed). f.numbers) turned.fixed ∙ tied.numbers)

  pub tied_behind : (answer : DeviceTurn) → IsBehindTurn answer desk hand old d
      → AddsBy (entry_by answer old.stand d.stand (device.ops_of d)) desk new → hand_new ≡ hand_by old.stand d.stand hand → IsTied new hand_new d
  tied_behind turn.Off is adds held =
      let tied = is.tied in let turned = is.turned in
      let (entry, same) = stays old.stand d.stand (device.ops_of d) hand turned.stand.0 in
      let paired = devices_stand_in desk.config (state_by desk.config (state_of desk) (Some (Off (device.ops_of d)))) hand old d turned.stand.0 (offs_keep_hands desk.config (state_of desk) hand old (device.ops_of d) tied.paired) in
      tied_by (Some (Off (device.ops_of d))) adds
      (subst (λ (h : Option HandState). IsPaired desk.config (state_by desk.config (state_of desk) (Some (Off (device.ops_of d)))) h d) (sym (held ∙ same)) paired)
      (turned.started ∙ tied.up) tied.started (omega arith) (λ off. turned.stand.1) (ap (λ (f : device.Fixed). f.numbers) turned.fixed ∙ tied.numbers)
  tied_behind turn.Worked is adds held = by_stand turn.Worked is adds held is.turned.stand
  tied_behind turn.Idle is adds held = by_stand turn.Idle is adds held (idle_turns old.fixed.numbers old.stand d.stand is.turned.stand)
