-- What a start-up leaves of the device's work.
use Rattle.std.specs.Prelude.{nat_lt}
use Rattle.std.proofs.lemmas.Bool.{lt-ltb}
use Rattle.std.proofs.Common.{◌≡◌, ◌⊎◌, ◌<◌, ℕ, true, List, inl, inr, arith}
use Rattle.nvm_laws.specs.nv_base.Count.{Rose}
use Rattle.nvm_laws.specs.memif.Told.{DeviceTold, faults_of}
use Rattle.nvm_laws.specs.block_machine.Words.{Instance, Mark}
use Rattle.nvm_laws.specs.promise_blocks.Work.{has_risen}
use Rattle.nvm_found.specs.Found.{Finds}
use Rattle.nvm_core.specs.DeviceWork.{IsSimple}
use Rattle.nvm_core.proofs.DeviceWork.{risen}
use Rattle.nvm_core.proofs.Trying.{part_rises}

some_counted : (before behind : ℕ) → Rose before behind → 0 < behind
some_counted before behind (inl more) = omega (arith, more)
some_counted before behind (inr (full, stays)) = omega (arith, full, stays)

module _ (marks : List (Instance × Mark)) (old new : DeviceTold) (finds : Finds marks old new) (simple : IsSimple old.fixed) where
  left_or_risen : (new.left ≡ 0) ⊎ Rose (faults_of old) (faults_of new)
  left_or_risen = elim (finds.left simple.reads) [
    | inl none ↦ inl none
    | inr fault ↦ inr (part_rises old new finds.up.restarted.first.faults.faults finds.up.restarted.second.faults.faults fault)
  ]

  -- nothing, or it counted a fault
  pub start_leaves : (new.left ≡ 0) ⊎ (has_risen (faults_of old) (faults_of new) ≡ true)
  start_leaves = elim left_or_risen [ inl none ↦ inl none | inr rose ↦ inr (risen (faults_of old) (faults_of new) rose) ]

  -- so that one stands
  pub first_leaves : (new.left ≡ 0) ⊎ (nat_lt 0 (faults_of new) ≡ true)
  first_leaves = elim left_or_risen [ inl none ↦ inl none | inr rose ↦ inr (lt-ltb 0 (faults_of new) (some_counted (faults_of old) (faults_of new) rose)) ]
