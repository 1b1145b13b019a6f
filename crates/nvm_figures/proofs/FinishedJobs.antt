-- A job on its way to its end, by the turns of the device that it took so far.
use Rattle.std.specs.Prelude.{nat_le}
use Rattle.block_machine.specs.Words.{BlockKind, Native, Redundant, Dataset}
use Rattle.block_machine.specs.Blocks.{indices_by}
use Rattle.job_programs.specs.Program.{works}
use Rattle.std.proofs.Common.{zero, suc, if◌then◌else◌, true, ap, sym, ◌≡◌, inl, inr, ℕ, ◌+◌, ◌≤◌, Bool, false, List, [], ◌∷◌, ◌++◌, length, min, length-append, refl, ◌∙◌, subst, Some, arith}
use Rattle.std.specs.List.{Contains}
use Rattle.block_machine.specs.nv_base.Count.{Rose, last_count}
use Rattle.memif.specs.Told.{DeviceTold, Fixed, Part, First, Second, part_at, Stand, is_open}
use Rattle.memif.specs.Clock.{Clock}
use Rattle.memif.specs.Calls.{InOrder}
use Rattle.memif.specs.Trials.{IsFaultless}
use Rattle.memif.proofs.Turning.{rose_before, rose_since}
use Rattle.job_programs.specs.Program.{Program, next_in}
use Rattle.nvm_figures.specs.Left.{stack_left}
use Rattle.nvm_figures.specs.Job.{IsSameJob, job_at}
use Rattle.nvm_figures.specs.Urgent.{IsOnTime, pages_of}
use Rattle.nvm_figures.specs.Run.{IsUrgentWrite, IsInWork, Comes, IsJobTurned, JobTurn, AreTurned, RunsAreWithin, RunsAreSoon}
use Rattle.nvm_figures.specs.Finish.{ProgramsArePlaced, IsBegun, IsPlaced, NoCountFalls, IsInTime}
use Rattle.memif.specs.Told as device
use Rattle.nvm_figures.proofs.Programs.{same_job}
use Rattle.nvm_figures.proofs.Figures.{picks_are_bounded}
use Rattle.nvm_figures.proofs.OnTime.{picks_are_on_time}

-- COUNTS OF FAULTS
pub calm_before : (begun old new : DeviceTold) → ((part : Part) → (part_at part old).faults ≤ (part_at part new).faults) → IsFaultless begun new → IsFaultless begun old
calm_before begun old new grow calm = record {
  first = λ rose. calm.first (rose_before begun.first.faults old.first.faults new.first.faults rose (grow First));
  second = λ rose. calm.second (rose_before begun.second.faults old.second.faults new.second.faults rose (grow Second));
}

calm_since : (begun old new : DeviceTold) → ((part : Part) → (part_at part begun).faults ≤ (part_at part old).faults) → IsFaultless begun new → IsFaultless old new
calm_since begun old new grew calm = record {
  first = λ rose. calm.first (rose_since begun.first.faults old.first.faults new.first.faults (grew First) rose);
  second = λ rose. calm.second (rose_since begun.second.faults old.second.faults new.second.faults (grew Second) rose);
}

no_rise : (old new : DeviceTold) → IsFaultless old new → (part : Part) → Rose (part_at part old).faults (part_at part new).faults → ⊥
no_rise old new calm First rose = calm.first rose
no_rise old new calm Second rose = calm.second rose

-- PROGRAMS
pub placed_still : (p q : Program) → IsSameJob p q → IsPlaced p → IsPlaced q
placed_still p q same placed = record {
  block = rw same.block placed.block;
  indices = λ i has. placed.indices i (subst (λ (is : List ℕ). Contains is i) same.indices has);
}

one_placed : (x i : ℕ) → x ≤ 63 → Contains (x ∷ []) i → i ≤ 63
one_placed x i few (zero, less, is) = omega (arith, is, few)
one_placed x i few (suc k, less, is) = absurd (omega (arith, less))

two_placed : (i : ℕ) → Contains (0 ∷ 1 ∷ []) i → i ≤ 63
two_placed i (zero, less, is) = omega (arith, is)
two_placed i (suc k, less, is) = one_placed 1 i (omega arith) (k, omega (arith, less), is)

none_placed : (i : ℕ) → Contains [] i → i ≤ 63
none_placed i has = absurd (omega (arith, has.1))

kind_placed : (kind : BlockKind) (nv index : ℕ) → index ≤ 63 → (i : ℕ) → Contains (indices_by kind nv index) i → i ≤ 63
kind_placed Native nv index few i has = one_placed 0 i (omega arith) has
kind_placed Redundant nv index few i has = two_placed i has
kind_placed Dataset nv index few i has = by (nat_le nv index) has
  where
    by : (rom : Bool) → Contains (if rom then [] else index ∷ []) i → i ≤ 63
    by true has = none_placed i has
    by false has = one_placed index i few has

works_placed : (works : Bool) (kind : BlockKind) (nv index : ℕ) → index ≤ 63 → (i : ℕ) → Contains (if works then indices_by kind nv index else []) i → i ≤ 63
works_placed true kind nv index few i has = kind_placed kind nv index few i has
works_placed false kind nv index few i has = none_placed i has

pub programs_are_placed : ProgramsArePlaced
programs_are_placed desc defaults block index kind low few = record { block = low; indices = works_placed (works kind) desc.kind desc.nv index few }

-- A RUN
same_more : (a b c : Program) → IsSameJob a b → IsSameJob b c → IsSameJob a c
same_more a b c one two = record {
  block = two.block ∙ one.block;
  kind = two.kind ∙ one.kind;
  defaults = two.defaults ∙ one.defaults;
  indices = two.indices ∙ one.indices;
  retries = two.retries ∙ one.retries;
}

writes_still : (f g : Fixed) (urgent : Bool) (a b : Program) → g ≡ f → IsSameJob a b → IsUrgentWrite f urgent a.block a.kind → IsUrgentWrite g urgent b.block b.kind
writes_still f g urgent a b fixed same write = rw (fixed, same.block, same.kind) write

faults_stay : (content : List ℕ) (urgent : Bool) (p : Program) (old : DeviceTold) (run : List JobTurn) (q : Program) (new : DeviceTold) → AreTurned content urgent p old run q new → NoCountFalls old new
faults_stay content urgent p old [] q new turned part = rw turned.1 (omega arith)
faults_stay content urgent p old (m ∷ ms) q new turned part = omega (arith, turned.0.faults part, faults_stay content urgent m.program m.device ms q new turned.1 part)

pub runs_are_within : RunsAreWithin
runs_are_within content urgent p old [] q new turned calm = rw (turned.0, turned.1) (omega arith)
runs_are_within content urgent p old (m ∷ ms) q new turned calm =
    let rest = runs_are_within content urgent m.program m.device ms q new turned.1 (calm_since old m.device new turned.0.faults calm) in
    elim turned.0.left [
      | inl less ↦ omega (arith, rest, less)
      | inr rose ↦ absurd (no_rise old m.device (calm_before old m.device new (faults_stay content urgent m.program m.device ms q new turned.1) calm) rose.0 rose.1)
    ]

on_time_at : (pages a b : ℕ) (p : Program) (d : DeviceTold) → a ≡ b → IsOnTime pages a p d → IsOnTime pages b p d
on_time_at pages a b p d same on = subst (λ (n : ℕ). IsOnTime pages n p d) same on

pub runs_are_soon : RunsAreSoon
runs_are_soon content urgent p old [] q new pages turns turned calm write on = rw (turned.0, turned.1) (on_time_at pages turns (turns + 0) p old (omega arith) on)
runs_are_soon content urgent p old (m ∷ ms) q new pages turns turned calm write on =
    let still = calm_before old m.device new (faults_stay content urgent m.program m.device ms q new turned.1) calm in
    let next = turned.0.soon pages turns still.first write on in
    let more = writes_still old.fixed m.device.fixed urgent p m.program turned.0.fixed turned.0.same write in
    let rest = runs_are_soon content urgent m.program m.device ms q new pages (turns + 1) turned.1 (calm_since old m.device new turned.0.faults calm) more next in
    on_time_at pages (turns + 1 + length ms) (turns + length (m ∷ ms)) q new (omega arith) rest

turn_pushed : (content : List ℕ) (urgent : Bool) (p : Program) (old : DeviceTold) (run : List JobTurn) (m : JobTurn) (q : Program) (new : DeviceTold) → AreTurned content urgent p old run q new
    → IsJobTurned content urgent q new m.program m.device → AreTurned content urgent p old (run ++ m ∷ []) m.program m.device
turn_pushed content urgent p old [] m q new turned one = (rw (← turned.0, ← turned.1) one, (refl, refl))
turn_pushed content urgent p old (x ∷ run) m q new turned one = (turned.0, turn_pushed content urgent x.program x.device run m q new turned.1 one)

-- A JOB ON ITS WAY
pub record IsOnWay (content : List ℕ) (urgent : Bool) (first : Program) (begun : DeviceTold) (turns : ℕ) (p : Program) (d : DeviceTold) : Type 0 where
  pub run : (run : List JobTurn) × (turns ≡ min (length run) last_count) × AreTurned content urgent first begun run p d
  pub same : IsSameJob first p
  pub tries : p.failures ≤ p.retries
  pub work : IsInWork content urgent p d.stand

closed_work : (content : List ℕ) (urgent : Bool) (p : Program) (s : Stand) → is_open s ≡ false → IsInWork content urgent p s
closed_work content urgent p (device.Open j) off = cc
closed_work content urgent p (device.Ended r given) off = tt

-- a job that is still open is that of the program's operation
work_by : (content : List ℕ) (urgent : Bool) (p : Program) (index : ℕ) (begun : DeviceTold) (q : Program) (new : DeviceTold) (s : Stand) → next_in p ≡ Some index
    → Comes p (job_at p index content urgent) begun q new s → IsInWork content urgent q s
work_by content urgent p index begun q new (device.Open k) next comes =
    (index, ap next_in comes.1 ∙ next, comes.0 ∙ ap (λ (x : Program). job_at x index content urgent) (sym comes.1))
work_by content urgent p index begun q new (device.Ended r given) next comes = tt

pub begins : (content : List ℕ) (urgent : Bool) (p : Program) (d : DeviceTold) → is_open d.stand ≡ false → IsBegun p → IsOnWay content urgent p d 0 p d
begins content urgent p d off begun = record {
  run = ([], refl, (refl, refl));
  same = same_job p;
  tries = omega (arith, begun.failures);
  work = closed_work content urgent p d.stand off;
}

pub goes_on : (content : List ℕ) (urgent : Bool) (first : Program) (begun : DeviceTold) (turns after : ℕ) (p q : Program) (old new : DeviceTold)
    → IsOnWay content urgent first begun turns p old → IsJobTurned content urgent p old q new → after ≡ min (turns + 1) last_count → IsOnWay content urgent first begun after q new
goes_on content urgent first begun turns after p q old new way turned more =
    let m : JobTurn = record { program = q; device = new } in
    let (run, count, made) = way.run in
    record {
      run = (run ++ m ∷ [], omega (arith, more, count, length-append run (m ∷ [])), turn_pushed content urgent first begun run m p old made turned);
      same = same_more first p q way.same turned.same;
      tries = turned.tries;
      work = work_by content urgent p turned.made.index turned.made.begun q new new.stand turned.made.next turned.made.comes;
    }

-- THE END
module _ (content : List ℕ) (urgent : Bool) (first : Program) (begun : DeviceTold) (turns : ℕ) (p : Program) (d : DeviceTold) (way : IsOnWay content urgent first begun turns p d) where
  pub in_time : (clock : Clock) → InOrder begun clock → is_open begun.stand ≡ false → IsBegun first → IsFaultless begun d → IsInTime urgent turns first begun
  in_time clock order off none calm =
      let within = runs_are_within content urgent first begun way.run.0 p d way.run.2 calm in
      let most = picks_are_bounded begun clock first order off none.done none.failures in
      let left : turns + 1 ≤ stack_left (Some first) begun = omega (arith, within, way.run.1) in
      record {
        within = left;
        bounded = omega (arith, left, most);
        soon = λ write ready.
            let pages = pages_of begun.fixed first.block first.indices in
            let on = picks_are_on_time begun clock first order off none.done ready in
            let soon = runs_are_soon content urgent first begun way.run.0 p d pages 0 way.run.2 calm write on in
            omega (arith, soon.wait.2, way.run.1);
      }
