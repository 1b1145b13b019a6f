-- An unfinished job in hand hasn't written all of its instances.
use Rattle.std.specs.Prelude.{nat_lt, nat_le, slice_get, ◌==◌, ◌||◌, if◌then◌else◌}
use Rattle.std.specs.List.{list_any}
use Rattle.std.proofs.Common.{◌≡◌, ◌≢◌, ℕ, suc, ◌≤◌, ◌<◌, Bool, true, false, List, [], ◌∷◌, length, Option, Some, None, refl, sym, ap, ◌∙◌, subst, arith}
use Rattle.std.proofs.lemmas.Bool.{lt-ltb}
use Rattle.std.proofs.lemmas.Option.{slice_get_within}
use Rattle.memif.specs.Told.{DeviceTold, IfElse}
use Rattle.block_machine.specs.block_config.Block.{record_count}
use Rattle.block_machine.specs.Words.{JobKind, ReadJob, WriteJob, RestoreJob, EraseJob, InvalidateJob, ReadAllJob, WriteAllJob, Outcome, BlockKind, Native, Redundant, Dataset, Configuration}
use Rattle.block_machine.specs.State.{State}
use Rattle.block_machine.specs.Blocks.{block_at, desc_of, indices_by, job_block, kind_of, records_by}
use Rattle.block_machine.specs.Legal.{is_unfinished}
use Rattle.block_machine.specs.Results.{took_none}
use Rattle.job_programs.specs.Program.{Program, is_failed, next_in, settles, step_by, step_of, works}
use Rattle.job_programs.specs.Failures.{served_of}
use Rattle.job_progress.specs.Hand.{HandState, is_finished}
use Rattle.job_progress.specs.JobInHand.{IsFruitless, IsInHand, program_for}

-- THE PROGRAM
served_few : (is : List ℕ) (os : List Outcome) → length (served_of is os) ≤ length os
served_few [] os = omega arith
served_few (i ∷ is) [] = omega arith
served_few (i ∷ is) (o ∷ os) = by (is_failed o) (served_few is os)
  where
    by : (t : Bool) → length (served_of is os) ≤ length os → length (if t then served_of is os else i ∷ served_of is os) ≤ suc (length os)
    by true less = omega (arith, less)
    by false less = omega (arith, less)

next_within : (p : Program) (index : ℕ) → next_in p ≡ Some index → length p.done < length p.indices
next_within p index is = by (list_any (settles p.kind) p.done) is
  where
    by : (t : Bool) → (if t then None else slice_get p.indices (length p.done)) ≡ Some index → length p.done < length p.indices
    by true none = cc
    by false some = slice_get_within p.indices (length p.done) index some

few_if : (t : Bool) (index : ℕ) → length (if t then [] else index ∷ []) ≤ 1
few_if true index = omega arith
few_if false index = omega arith

few_by : (kind : BlockKind) (nv index : ℕ) → length (indices_by kind nv index) ≤ record_count kind
few_by Native nv index = omega arith
few_by Redundant nv index = omega arith
few_by Dataset nv index = few_if (nat_le nv index) index

-- an operation is next
unfinished_step : (p : Program) (o : Option ℕ) → is_finished (step_by p o) ≡ false → (index : ℕ) × (o ≡ Some index)
unfinished_step p (Some index) goes_on = (index, refl)
unfinished_step p None goes_on = cc

unfinished_by : (t : Bool) (h : HandState) → is_finished h.step ≡ false → IfElse t (IsFruitless h) (h.step ≡ step_of h.program) → h.step ≡ step_of h.program
unfinished_by true h goes_on fruitless = let ended : is_finished h.step ≡ true = ap is_finished fruitless.0 in cc
unfinished_by false h goes_on is = is

-- BY ITS KIND
writes_on : (kind : JobKind) (block : BlockKind) (nv index written : ℕ) → works kind ≡ true → kind ≢ ReadJob → written < length (if works kind then indices_by block nv index else [])
    → nat_lt written (records_by block kind) ≡ true
writes_on ReadJob block nv index written does writes less = absurd (writes refl)
writes_on WriteJob block nv index written does writes less = lt-ltb written (record_count block) (omega (arith, few_by block nv index, less))
writes_on EraseJob block nv index written does writes less = lt-ltb written (record_count block) (omega (arith, few_by block nv index, less))
writes_on InvalidateJob block nv index written does writes less = lt-ltb written (record_count block) (omega (arith, few_by block nv index, less))
writes_on RestoreJob block nv index written does writes less = cc
writes_on ReadAllJob block nv index written does writes less = cc
writes_on WriteAllJob block nv index written does writes less = cc

or_true : (b : Bool) → (b || true) ≡ true
or_true true = refl
or_true false = refl

left_by : (kind : JobKind) (block : BlockKind) (nv index written : ℕ) → (kind ≢ ReadJob → written < length (if works kind then indices_by block nv index else []))
    → (nat_lt written (records_by block kind) || (records_by block kind == 0)) ≡ true
left_by ReadJob block nv index written less = or_true (nat_lt written 0)
left_by RestoreJob block nv index written less = or_true (nat_lt written 0)
left_by WriteJob block nv index written less = rw (writes_on WriteJob block nv index written refl (λ e. cc) (less (λ e. cc))) refl
left_by EraseJob block nv index written less = rw (writes_on EraseJob block nv index written refl (λ e. cc) (less (λ e. cc))) refl
left_by InvalidateJob block nv index written less = rw (writes_on InvalidateJob block nv index written refl (λ e. cc) (less (λ e. cc))) refl
left_by ReadAllJob block nv index written less = let none : written < 0 = less (λ e. cc) in absurd (omega (arith, none))
left_by WriteAllJob block nv index written less = let none : written < 0 = less (λ e. cc) in absurd (omega (arith, none))

pub unfinished : (c : Configuration) (s : State) (h : HandState) (d : DeviceTold) (is : IsInHand c s h d) → is_finished h.step ≡ false → is_unfinished c is.job ≡ true
unfinished c s h d is goes_on =
    let step = unfinished_by (took_none is.job.taken) h goes_on is.step in
    let (index, next) = unfinished_step h.program (next_in h.program) (ap is_finished (sym step) ∙ goes_on) in
    let indices : h.program.indices ≡ (program_for c s is.job).indices = ap (λ (q : Program). q.indices) is.working.is in
    let some : length h.program.done < length (program_for c s is.job).indices = subst (λ (xs : List ℕ). length h.program.done < length xs) indices (next_within h.program index next) in
    left_by (kind_of is.job) (desc_of c (job_block is.job)).kind (desc_of c (job_block is.job)).nv (block_at s (job_block is.job)).index (length is.job.written)
    (λ writes. let count : length is.job.written ≡ length (served_of h.program.indices h.program.done) = ap length (is.working.written writes) in
    omega (arith, count, served_few h.program.indices h.program.done, some))
