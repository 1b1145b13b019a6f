-- An operation that the job in hand names, on one of its instances.
use Rattle.std.specs.Prelude.{slice_get, nat_le, option_to_list, IfSome}
use Rattle.std.specs.List.{Contains}
use Rattle.std.proofs.Common.{◌≡◌, ◌≢◌, ℕ, zero, suc, ◌≤◌, ◌<◌, Bool, true, false, if◌then◌else◌, List, [], ◌∷◌, ◌++◌, length, Option, Some, refl, sym, ◌∙◌, subst, arith}
use Rattle.std.proofs.lemmas.Bool.{leb-false}
use Rattle.memif.specs.Told.{DeviceTold}
use Rattle.block_machine.specs.block_config.Rules.{IsLegalConfig}
use Rattle.block_machine.specs.block_config.Sizes.{instances_of}
use Rattle.block_machine.specs.block_config.Block.{instance_count}
use Rattle.block_machine.specs.Words.{Entry, Configuration, BlockKind, Native, Redundant, Dataset}
use Rattle.block_machine.specs.State.{State, Job, jobs_of}
use Rattle.block_machine.specs.Blocks.{desc_of, job_block, kind_of, indices_by, indices_of}
use Rattle.block_machine.specs.Steps.{after}
use Rattle.block_machine.specs.Legal.{IsLegal}
use Rattle.block_laws.specs.Consistent.{IsJobInHand}
use Rattle.job_programs.specs.Program.{works, next_in}
use Rattle.job_progress.specs.Hand.{HandState}
use Rattle.job_progress.specs.JobInHand.{IsInHand}
use Rattle.block_laws.proofs.ConsistentSteps.{legal_states_are_consistent}
use Rattle.block_laws.proofs.JobPlaces.{jobs_are_configured}
use Rattle.job_progress.proofs.AtOperation.{next_is_own}

-- THE JOB
pub held : (s : State) (j : Job) → s.hand ≡ Some j → Contains (jobs_of s) j
held s j hand = subst (λ (o : Option Job). Contains (option_to_list o ++ s.waiting) j) (sym hand) (0, omega arith, refl)

pub same_job : (a b : Job) (o : Option Job) → o ≡ Some a → o ≡ Some b → a ≡ b
same_job a b o first second = let both : Some a ≡ Some b = sym first ∙ second in cc

-- its block is a configured one
pub is_block : (c : Configuration) (cap : ℕ) (h : List Entry) (j : Job) → IsLegalConfig c → IsLegal c cap h
    → (after c h).hand ≡ Some j → (job_block j ≢ 0) × (job_block j ≤ length c.blocks)
is_block c cap h j rules legal hand = (
  (subst (λ (o : Option Job). IfSome o (IsJobInHand c (after c h))) hand (legal_states_are_consistent c cap h legal).hand).named,
  jobs_are_configured c cap h j rules legal (held (after c h) j hand),
)

-- ITS INSTANCE
stored_if : (t : Bool) (nv at n index : ℕ) → nat_le nv at ≡ t → slice_get (if t then [] else at ∷ []) n ≡ Some index → index < nv
stored_if true nv at n index is has = cc
stored_if false nv at zero index is has = let same : at ≡ index = cc in let less = leb-false nv at is in omega (arith, same, less)
stored_if false nv at (suc n) index is has = cc

-- it is one of the block's
stored_by : (kind : BlockKind) (nv at n index : ℕ) → slice_get (indices_by kind nv at) n ≡ Some index → index < instance_count kind nv
stored_by Native nv at zero index has = let same : 0 ≡ index = cc in omega (arith, same)
stored_by Native nv at (suc n) index has = cc
stored_by Redundant nv at zero index has = let same : 0 ≡ index = cc in omega (arith, same)
stored_by Redundant nv at (suc zero) index has = let same : 1 ≡ index = cc in omega (arith, same)
stored_by Redundant nv at (suc (suc n)) index has = cc
stored_by Dataset nv at n index has = stored_if (nat_le nv at) nv at n index refl has

module _ (c : Configuration) (s : State) (h : HandState) (d : DeviceTold) (is : IsInHand c s h d) (j : Job) (hand : s.hand ≡ Some j)
    (index : ℕ) (next : next_in h.program ≡ Some index) where
  pub own : (works (kind_of j) ≡ true) × (slice_get (indices_of c s (job_block j)) (length h.program.done) ≡ Some index)
  own = subst (λ (k : Job). (works (kind_of k) ≡ true) × (slice_get (indices_of c s (job_block k)) (length h.program.done) ≡ Some index))
      (same_job is.job j s.hand is.hand hand)
      (next_is_own c s h d is index next)

  pub stored : index < instances_of (desc_of c (job_block j))
  stored = stored_by (desc_of c (job_block j)).kind (desc_of c (job_block j)).nv _ (length h.program.done) index own.1
