-- The device numbers of a job in hand.
use Rattle.std.specs.Prelude.{nat_le}
use Rattle.std.specs.List.{Contains}
use Rattle.std.proofs.Common.{◌≡◌, ◌≢◌, ◌≤◌, ◌<◌, ℕ, zero, suc, Bool, true, false, if◌then◌else◌, List, [], ◌∷◌, length, is_some, refl, sym, ap, ◌∙◌, subst, arith}
use Rattle.std.proofs.lemmas.Bool.{leb-false}
use Rattle.block_machine.specs.block_config.Block.{instance_count}
use Rattle.block_machine.specs.block_config.Rules.{IsLegalConfig}
use Rattle.block_machine.specs.block_config.Sizes.{instances_of}
use Rattle.block_machine.specs.Words.{BlockKind, Native, Redundant, Dataset, Configuration}
use Rattle.block_machine.specs.State.{State, Job}
use Rattle.block_machine.specs.Blocks.{desc_of, indices_by, job_block}
use Rattle.job_programs.specs.Program.{Program, works}
use Rattle.job_progress.specs.JobInHand.{program_for}
use Rattle.nvm_laws.specs.Numbered.{HandsAreNumbered, HasNumber}
use Rattle.block_laws.proofs.InstanceNumbers.{few_at}
use Rattle.nvm_laws.proofs.Numbers.{length_is}
use Rattle.nvm_laws.proofs.Operations.{same_job}

-- a block's instances are below their count
own_if : (t : Bool) (nv at i : ℕ) → nat_le nv at ≡ t → Contains (if t then [] else at ∷ []) i → i < nv
own_if true nv at i is (k, within, same) = absurd (omega (arith, within))
own_if false nv at i is (zero, within, same) = let less = leb-false nv at is in omega (arith, same, less)
own_if false nv at i is (suc k, within, same) = absurd (omega (arith, within))

own_by : (kind : BlockKind) (nv at i : ℕ) → Contains (indices_by kind nv at) i → i < instance_count kind nv
own_by Native nv at i (zero, within, same) = let zero_is : 0 ≡ i = same in omega (arith, zero_is)
own_by Native nv at i (suc k, within, same) = absurd (omega (arith, within))
own_by Redundant nv at i (zero, within, same) = let zero_is : 0 ≡ i = same in omega (arith, zero_is)
own_by Redundant nv at i (suc zero, within, same) = let one_is : 1 ≡ i = same in omega (arith, one_is)
own_by Redundant nv at i (suc (suc k), within, same) = absurd (omega (arith, within))
own_by Dataset nv at i has = own_if (nat_le nv at) nv at i refl has

own_at : (t : Bool) (kind : BlockKind) (nv at i : ℕ) → Contains (if t then indices_by kind nv at else []) i → i < instance_count kind nv
own_at true kind nv at i has = own_by kind nv at i has
own_at false kind nv at i (k, within, same) = absurd (omega (arith, within))

own : (c : Configuration) (s : State) (j : Job) (p : Program) (i : ℕ) → p ≡ record (program_for c s j) { done = p.done; failures = p.failures }
    → Contains p.indices i → i < instances_of (desc_of c (job_block j))
own c s j p i is has = own_at (works (program_for c s j).kind) (desc_of c (job_block j)).kind (desc_of c (job_block j)).nv _ i
    (subst (λ (is : List ℕ). Contains is i) (ap (λ (q : Program). q.indices) is) has)

numbered : (c : Configuration) (block index : ℕ) → IsLegalConfig c → block ≢ 0 → block ≤ length c.blocks → index < instances_of (desc_of c block) → HasNumber c block index
numbered c block index legal named known below =
    let few = few_at c block legal in
    let small : index ≤ 63 = omega (arith, few, below) in
    record {
      block_fits = let most = legal.blocks_high in omega (arith, most, known);
      index_fits = small;
      configured = ap is_some (length_is c block index legal named known below small);
    }

pub hands_are_numbered : HandsAreNumbered
hands_are_numbered config s h d j index legal is hand named known has =
    let same = same_job is.job j s.hand is.hand hand in
    let below = subst (λ (k : Job). index < instances_of (desc_of config (job_block k))) same (own config s is.job h.program index is.working.is has) in
    let block : h.program.block ≡ job_block j = ap (λ (q : Program). q.block) is.working.is ∙ ap job_block same in
    subst (λ (b : ℕ). HasNumber config b index) (sym block) (numbered config (job_block j) index legal named known below)
