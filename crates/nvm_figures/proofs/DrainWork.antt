-- The work of a drain.
use Rattle.std.specs.List.{list_any}
use Rattle.std.proofs.Common.{◌≡◌, inl, inr, ℕ, suc, ◌+◌, ◌*◌, ◌^◌, ◌≤◌, ◌<◌, Bool, true, false, if◌then◌else◌, List, [], ◌∷◌, length, drop, refl, ap, Option, Some, None, Ok, arith, length-drop}
use Rattle.std.proofs.Math.Nat.{mul-le-mul_right}
use Rattle.memif.specs.Told.{DeviceTold, Part, Stand, Open, Ended, is_open}
use Rattle.memif.specs.Clock.{Clock}
use Rattle.memif.specs.Calls.{Wish, AcceptsAs, InOrder, Works, JobTurns}
use Rattle.block_machine.specs.Words.{BlockDesc, JobKind, ReadJob}
use Rattle.job_programs.specs.Program.{Program, program_of, settles, retries_of}
use Rattle.job_programs.specs.Laws.{Works as WorkOn}
use Rattle.job_programs.proofs.Worked.{programs_work}
use Rattle.nvm_figures.specs.Left.{ahead, over_tries, over_unstarted}
use Rattle.nvm_figures.specs.Job.{IsOperation, program_next}
use Rattle.nvm_figures.specs.Drain.{tries_ahead, hand_work, IsSmall, ProgramsAreSmall, ProgramsStaySmall, EntriesLower, WorkLowers, StartsDontAdd}
use Rattle.nvm_figures.proofs.Tries.{next_ahead, start_takes}
use Rattle.nvm_figures.proofs.Programs.{program_same}
use Rattle.nvm_figures.proofs.Figures.{unstarted_less, was_closed, opens_stand}

-- A TURN OF A JOB
job_less : (q : Part) (p : Program) (a b : Stand) (old new : DeviceTold) (clock : Clock) → old.stand ≡ a → new.stand ≡ b → is_open a ≡ true
    → JobTurns q a b old new clock → hand_work (Some (program_next p a b)) new < hand_work (Some p) old
job_less q p (Open j) (Open k) old new clock was is on turns = rw (was, is) (omega (arith, turns.2))
job_less q p (Open j) (Ended r given) old new clock was is on turns =
    let fewer = unstarted_less q (λ i. 1) p (Open j) (Ended r given) old new clock turns in
    let times = mul-le-mul_right (2 ^ 64) fewer in
    rw (was, is) (omega (arith, times))
job_less q p (Ended r given) b old new clock was is on turns = cc

pub hand_work_less : (q : Part) (p : Program) (old new : DeviceTold) (clock : Clock) → Works q old new clock → is_open old.stand ≡ true
    → hand_work (Some (program_next p old.stand new.stand)) new < hand_work (Some p) old
hand_work_less q p old new clock works on = job_less q p old.stand new.stand old new clock refl refl on works.job

pub work_lowers : (new : DeviceTold) (clock : Clock) → WorkLowers new clock
work_lowers new clock old q room None works kind = elim works.nearer [
  | inl near ↦ inl (omega (arith, near))
  | inr rose ↦ inr (refl, rose)
]
work_lowers new clock old q room (Some p) works (inl none) = cc
work_lowers new clock old q room (Some p) works (inr on) =
    let less = hand_work_less q p old new clock works on in
    inl (omega (arith, less))

-- A START
fits_by : (two : Bool) (n : ℕ) → n < (if two then 2 ^ 64 else 2 ^ 63) → n < 2 ^ 64
fits_by true n few = few
fits_by false n few = omega (arith, few)

pub left_fits : (d : DeviceTold) (clock : Clock) → InOrder d clock → d.left < 2 ^ 64
left_fits d clock order = fits_by d.fixed.two d.left order.fits

pub start_adds_none : (old new : DeviceTold) (w : Wish) (p : Program) (index : ℕ) → new.left < 2 ^ 64 → p.failures ≤ p.retries
    → IsOperation p index w.job → AcceptsAs w (Ok tt) old new → hand_work (Some p) new ≤ hand_work (Some p) old
start_adds_none old new w p index fits few is accepts =
    let takes = start_takes (λ i. 1) p index (drop (suc (length p.done)) p.indices) few in
    rw (opens_stand old new w.job accepts.1, was_closed old new w accepts, (next_ahead p index is.next).ahead) (omega (arith, fits, takes))

pub starts_dont_add : (new : DeviceTold) (clock : Clock) → StartsDontAdd new clock
starts_dont_add new clock old w room p index order few is accepts =
    let none = start_adds_none old new w p index (left_fits new clock order) few is accepts in
    omega (arith, none)

-- AN ENTRY
tries_few : (r : ℕ) (is : List ℕ) → r < 2 ^ 8 → over_tries (λ i. 1) r is ≤ 256 * length is
tries_few r [] few = omega arith
tries_few r (i ∷ is) few = let rest = tries_few r is few in omega (arith, rest, few)

unstarted_few : (p : Program) (busy : Bool) (is : List ℕ) → p.retries < 2 ^ 8 → over_unstarted (λ i. 1) p busy is ≤ 256 * length is
unstarted_few p busy [] few = omega arith
unstarted_few p true (i ∷ is) few = let rest = tries_few p.retries is few in omega (arith, rest, few)
unstarted_few p false (i ∷ is) few = let rest = tries_few p.retries is few in omega (arith, rest, few)

ahead_short : (over : Bool) (indices : List ℕ) (n : ℕ) → length (if over then [] else drop n indices) ≤ length indices
ahead_short true indices n = omega arith
ahead_short false indices n = omega (arith, length-drop n indices)

hand_few : (next : Option Program) (new : DeviceTold) (clock : Clock) → InOrder new clock → IsSmall next → hand_work next new < 2 ^ 80
hand_few None new clock order small = let fits = left_fits new clock order in omega (arith, fits)
hand_few (Some p) new clock order small =
    let fits = left_fits new clock order in
    let tries = unstarted_few p (is_open new.stand) (ahead p) small.1 in
    let short = ahead_short (list_any (settles p.kind) p.done) p.indices (length p.done) in
    by (tries_ahead p (is_open new.stand)) (is_open new.stand) (omega (arith, tries, short, small.0)) fits
  where
    by : (t : ℕ) (busy : Bool) → t ≤ 512 → new.left < 2 ^ 64 → t * 2 ^ 64 + (if busy then new.left + 1 else 0) < 2 ^ 80
    by t true few fits = omega (arith, few, fits)
    by t false few fits = omega (arith, few)

pub entries_lower : (new : DeviceTold) (clock : Clock) → EntriesLower new clock
entries_lower new clock old room less hand next order falls small =
    let few = hand_few next new clock order small in
    by (hand_work next new) (hand_work hand old) few
  where
    by : (a b : ℕ) → a < 2 ^ 80 → less * 2 ^ 80 + a < room * 2 ^ 80 + b
    by a b few = omega (arith, falls, few)

-- PROGRAMS
retries_few : (desc : BlockDesc) (kind : JobKind) → desc.reads < 2 ^ 8 → desc.writes < 2 ^ 8 → retries_of desc kind < 2 ^ 8
retries_few desc ReadJob reads writes = reads
retries_few desc kind reads writes = writes

few_working : (is : List ℕ) → WorkOn is → length is ≤ 2
few_working is (inl none) = omega (arith, ap (λ (xs : List ℕ). length xs) none)
few_working is (inr (inl (x, one))) = omega (arith, ap (λ (xs : List ℕ). length xs) one)
few_working is (inr (inr both)) = omega (arith, ap (λ (xs : List ℕ). length xs) both)

pub programs_are_small : ProgramsAreSmall
programs_are_small desc defaults block index kind reads writes =
    (few_working (program_of desc defaults block index kind).indices (programs_work desc defaults block index kind), retries_few desc kind reads writes)

pub programs_stay_small : ProgramsStaySmall
programs_stay_small None old new small = tt
programs_stay_small (Some p) old new small =
    let same = program_same p old new in
    (omega (arith, ap (λ (is : List ℕ). length is) same.indices, small.0), omega (arith, same.retries, small.1))
