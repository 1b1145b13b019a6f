use Rattle.std.specs.Prelude.{◌==◌, if◌then◌else◌}
use Rattle.std.proofs.Common.{◌≡◌, inl, inr, ℕ, ◌≤◌, Bool, true, false, refl, arith}
use Rattle.block_machine.specs.nv_base.Marks.{number_of}
use Rattle.memif.specs.Told.{First, figures_at, no_figures}
use Rattle.block_machine.specs.Words.{TookContent}
use Rattle.block_machine.specs.Cases.{bytes_1, bytes_2, mixed_config, urgent_config, write}
use Rattle.block_machine.specs.Steps.{job_at, picked_job}
use Rattle.nvm_figures.specs.Cases.{figures, fixed}
use Rattle.nv_desk_copies.specs.nv_desk.Desk.{state_of}
use Rattle.job_progress.specs.Begins.{hand_for}
use Rattle.nvm_laws.specs.DueCases.{desk_with, in_hand}
use Rattle.nvm_laws.proofs.cases.due_cases.Goals as goal

-- each number of the device is of the first part
first_by : (a b c : Bool) → (if a then figures 4 9 else (if b then figures 4 7 else (if c then figures 4 7 else no_figures))).part ≡ First
first_by true b c = refl
first_by false true c = refl
first_by false false true = refl
first_by false false false = refl

all_first : (block index : ℕ) → index ≤ 63 → (figures_at fixed (number_of (record { block = block; index = index }))).part ≡ First
all_first block index few =
    let n = number_of (record { block = block; index = index }) in first_by (128 == n) (192 == n) (193 == n)

pub returns-clause-accepted : goal.returns-clause-accepted
returns-clause-accepted c = inl (record {
  job = job_at urgent_config 1 (write 2 bytes_1);
  is = record { accepted = refl; urgent = record { is_urgent = refl; is_write = refl; few = omega arith; of_first = all_first 2 } };
  earlier = omega arith;
  next = refl;
  standard = tt;
  ready = omega arith;
  within = omega arith;
})

pub returns-clause-picked : goal.returns-clause-picked
returns-clause-picked c =
    let job = picked_job (TookContent bytes_1 0) 0 (job_at urgent_config 1 (write 2 bytes_1)) in
    inr (record {
      job = job;
      is = record { accepted = refl; urgent = record { is_urgent = refl; is_write = refl; few = omega arith; of_first = all_first 2 } };
      held = refl;
      driver = hand_for urgent_config (state_of (desk_with urgent_config in_hand)) job;
      drives = refl;
      ready = omega arith;
      within = (2, refl, omega arith);
    })

pub returns-clause-over_a_standard_job : goal.returns-clause-over_a_standard_job
returns-clause-over_a_standard_job c = inl (record {
  job = job_at mixed_config 3 (write 3 bytes_2);
  is = record { accepted = refl; urgent = record { is_urgent = refl; is_write = refl; few = omega arith; of_first = all_first 3 } };
  earlier = omega arith;
  next = refl;
  standard = refl;
  ready = omega arith;
  within = omega arith;
})

pub returns-clause-behind_a_post : goal.returns-clause-behind_a_post
returns-clause-behind_a_post c = inl (record {
  job = job_at mixed_config 3 (write 3 bytes_2);
  is = record { accepted = refl; urgent = record { is_urgent = refl; is_write = refl; few = omega arith; of_first = all_first 3 } };
  earlier = omega arith;
  next = refl;
  standard = refl;
  ready = omega arith;
  within = omega arith;
})
