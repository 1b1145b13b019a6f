-- How the job in hand goes on.
use Rattle.std.specs.Prelude.{slice_get, nat_le, nat_lt, ◌&&◌, unwrap_or, All}
use Rattle.std.proofs.lemmas.List.{append-nil}
use Rattle.std.specs.List.{list_any}
use Rattle.std.proofs.Common.{◌≡◌, ℕ, zero, suc, ◌+◌, ◌≤◌, Bool, true, false, if◌then◌else◌, List, [], ◌∷◌, ◌++◌, length, Option, Some, None, refl, sym, ap, ◌∙◌, arith}
use Rattle.std.proofs.lemmas.Bool.{leb-false}
use Rattle.std.proofs.lemmas.List.Elements.{All-tail}
use Rattle.block_machine.specs.nv_base.declared.job.JobStep.TheVariants as step
use Rattle.block_machine.specs.nv_base.declared.job.DeviceOp.{DeviceOp}
use Rattle.block_machine.specs.nv_base.declared.instance.Instance.{Instance}
use Rattle.memif.specs.Told.{DeviceTold, IfElse}
use Rattle.block_machine.specs.block_config.Block.{plain_block}
use Rattle.block_machine.specs.block_config.Rules.{IsLegalConfig, IsLegalBlock, IsDatasetCount, AreBlocks}
use Rattle.block_machine.specs.Words.{Outcome, Configuration, BlockDesc, BlockKind, Native, Redundant, Dataset}
use Rattle.block_machine.specs.State.{State}
use Rattle.block_machine.specs.Blocks.{desc_of, block_at, job_block, kind_of, indices_by}
use Rattle.block_machine.specs.Results.{took_none}
use Rattle.job_programs.specs.Program.{Program, works, operation, settles, next_in, step_by, step_of, is_failed, is_again, tried}
use Rattle.job_programs.specs.Failures.{served_of}
use Rattle.job_progress.proofs.Beginning.{none_served}
use Rattle.job_progress.specs.Hand.{HandState, with_start}
use Rattle.job_progress.specs.JobInHand.{IsFruitless, IsInHand, program_for}
use Rattle.job_progress.specs.Goes.{Names, StepsName, StartsGoOn}

-- THE NUMBERS
few_by : (kind : BlockKind) (nv : ℕ) → IsDatasetCount kind nv → nv ≤ 64
few_by Native nv is = omega (arith, is)
few_by Redundant nv is = omega (arith, is)
few_by Dataset nv is = is.1

few_at : (bs : List BlockDesc) (i : ℕ) → All IsLegalBlock bs → (unwrap_or (slice_get bs i) (plain_block 0)).nv ≤ 64
few_at [] i all = omega arith
few_at (b ∷ bs) zero all = few_by b.kind b.nv (all 0 b (omega arith)).datasets
few_at (b ∷ bs) (suc i) all = few_at bs i (All-tail IsLegalBlock b bs all)

few_in : (bs : List BlockDesc) (id i : ℕ) → AreBlocks id bs → (unwrap_or (slice_get bs i) (plain_block 0)).nv ≤ 64
few_in [] id i is = absurd is
few_in (b ∷ bs) id zero is = rw is.0 (omega arith)
few_in (b ∷ bs) id (suc i) is = few_at bs i is.1

few_datasets : (c : Configuration) (id : ℕ) → IsLegalConfig c → (desc_of c id).nv ≤ 64
few_datasets c zero rules = omega arith
few_datasets c (suc i) rules = few_in c.blocks c.id i rules.blocks_legal

small_if : (t : Bool) (nv at n index : ℕ) → nat_le nv at ≡ t → nv ≤ 64 → slice_get (if t then [] else at ∷ []) n ≡ Some index → index ≤ 63
small_if true nv at n index is few has = cc
small_if false nv at zero index is few has = let same : at ≡ index = cc in let less = leb-false nv at is in omega (arith, same, less, few)
small_if false nv at (suc n) index is few has = cc

small_by : (kind : BlockKind) (nv at n index : ℕ) → nv ≤ 64 → slice_get (indices_by kind nv at) n ≡ Some index → index ≤ 63
small_by Native nv at zero index few has = let same : 0 ≡ index = cc in omega (arith, same)
small_by Native nv at (suc n) index few has = cc
small_by Redundant nv at zero index few has = let same : 0 ≡ index = cc in omega (arith, same)
small_by Redundant nv at (suc zero) index few has = let same : 1 ≡ index = cc in omega (arith, same)
small_by Redundant nv at (suc (suc n)) index few has = cc
small_by Dataset nv at n index few has = small_if (nat_le nv at) nv at n index refl few has

-- THE STEP
device_is : (p : Program) (op : DeviceOp) (i : Instance) (n : Option ℕ) → step_by p n ≡ step.Device op i
    → (index : ℕ) × (n ≡ Some index) × (op ≡ operation p.kind) × (i ≡ record { block = p.block; index = index })
device_is p op i (Some index) is = (index, refl, cc, cc)
device_is p op i None is = cc

module _ (c : Configuration) (s : State) (h : HandState) (d : DeviceTold) (is : IsInHand c s h d) where
  -- an operation is none of a job without a content
  fruitful_by : (t : Bool) (op : DeviceOp) (i : Instance) → took_none is.job.taken ≡ t → IfElse t (IsFruitless h) (h.step ≡ step_of h.program)
      → h.step ≡ step.Device op i → (took_none is.job.taken ≡ false) × (h.step ≡ step_of h.program)
  fruitful_by true op i none fruitless at = let ended = fruitless.0 in cc
  fruitful_by false op i some step at = (some, step)

  fruitful : (op : DeviceOp) (i : Instance) → h.step ≡ step.Device op i → (took_none is.job.taken ≡ false) × (h.step ≡ step_of h.program)
  fruitful op i at = fruitful_by (took_none is.job.taken) op i refl is.step at

pub next_of_done : (p : Program) (index : ℕ) → next_in p ≡ Some index → (list_any (settles p.kind) p.done ≡ false) × (slice_get p.indices (length p.done) ≡ Some index)
next_of_done p index is = by (list_any (settles p.kind) p.done) refl is
  where
    by : (t : Bool) → list_any (settles p.kind) p.done ≡ t → (if t then None else slice_get p.indices (length p.done)) ≡ Some index
        → (list_any (settles p.kind) p.done ≡ false) × (slice_get p.indices (length p.done) ≡ Some index)
    by true on none = cc
    by false off some = (off, some)

-- an index of a program has six bits
small_at : (t : Bool) (d : BlockDesc) (at n index : ℕ) → d.nv ≤ 64 → slice_get (if t then indices_by d.kind d.nv at else []) n ≡ Some index → index ≤ 63
small_at true d at n index few has = small_by d.kind d.nv at n index few has
small_at false d at n index few has = cc

module _ (c : Configuration) (s : State) (h : HandState) (d : DeviceTold) (rules : IsLegalConfig c) (is : IsInHand c s h d) where
  pub small_next : (index : ℕ) → next_in h.program ≡ Some index → index ≤ 63
  small_next index next =
      let has = (next_of_done h.program index next).1 in
      let same : h.program.indices ≡ (program_for c s is.job).indices = ap (λ (q : Program). q.indices) is.working.is in
      small_at (works (kind_of is.job)) (desc_of c (job_block is.job)) (block_at s (job_block is.job)).index
      (length h.program.done) index (few_datasets c (job_block is.job) rules) (rw same at has)

  pub kind_is : h.program.kind ≡ kind_of is.job
  kind_is = ap (λ (q : Program). q.kind) is.working.is

  pub block_is : h.program.block ≡ job_block is.job
  block_is = ap (λ (q : Program). q.block) is.working.is

  pub names : (op : DeviceOp) (i : Instance) → h.step ≡ step.Device op i → Names c s h op i
  names op i at =
      let (content, step) = fruitful c s h d is op i at in
      let (index, next, op_is, i_is) = device_is h.program op i (next_in h.program) (sym step ∙ at) in record {
        job = is.job;
        hand = is.hand;
        index = index;
        next = next;
        op_is = op_is ∙ ap operation kind_is;
        block = ap (λ (x : Instance). x.block) i_is ∙ block_is;
        index_is = ap (λ (x : Instance). x.index) i_is;
        same_block = block_is;
        content = content;
        small = small_next index next;
      }

pub steps_name : StepsName
steps_name c s h d op i rules is at = names c s h d rules is op i at

-- a step at the device isn't that of a job without content
started_step : (t : Bool) (h : HandState) (op : DeviceOp) (i : Instance) → h.step ≡ step.Device op i
    → IfElse t (IsFruitless h) (h.step ≡ step_of h.program) → IfElse t (IsFruitless (with_start h)) (h.step ≡ step_of h.program)
started_step true h op i at fruitless = let none = fruitless.0 in cc
started_step false h op i at is = is

pub starts_go_on : StartsGoOn
starts_go_on c s h old new op i j index is step_is hand next stands = record {
  job = is.job;
  hand = is.hand;
  working = is.working;
  step = started_step (took_none is.job.taken) h op i step_is is.step;
  at = record { index = index; next = next; stands = let same : Some j ≡ Some is.job = sym hand ∙ is.hand in cc };
  given = rw step_is tt;
}

-- THE OUTCOME
-- an outcome changes only what is done and the failures
pub tried_is : (p : Program) (o : Outcome) → tried p o ≡ record p { done = (tried p o).done; failures = (tried p o).failures }
tried_is p o = by (is_again o p.failures p.retries)
  where
    by : (t : Bool) → (if t then record p { failures = p.failures + 1 } else record p { done = p.done ++ o ∷ []; failures = 0 })
        ≡ record p {
          done = (if t then record p { failures = p.failures + 1 } else record p { done = p.done ++ o ∷ []; failures = 0 }).done;
          failures = (if t then record p { failures = p.failures + 1 } else record p { done = p.done ++ o ∷ []; failures = 0 }).failures;
        }
    by true = refl
    by false = refl

-- the served instances grow by the one that was next, unless it failed
served_more : (is : List ℕ) (os : List Outcome) (index : ℕ) (o : Outcome) → slice_get is (length os) ≡ Some index
    → served_of is (os ++ o ∷ []) ≡ served_of is os ++ (if is_failed o then [] else index ∷ [])
served_more [] os index o has = cc
served_more (i ∷ is) [] index o has = let same : i ≡ index = cc in by (is_failed o) same
  where
    by : (t : Bool) → i ≡ index → (if t then served_of is [] else i ∷ served_of is []) ≡ [] ++ (if t then [] else index ∷ [])
    by true same = sym (none_served is)
    by false same = rw (same, ← none_served is) refl
served_more (i ∷ is) (p ∷ os) index o has = by (is_failed p) (served_more is os index o has)
  where
    by : (t : Bool) → served_of is (os ++ o ∷ []) ≡ served_of is os ++ (if is_failed o then [] else index ∷ [])
        → (if t then served_of is (os ++ o ∷ []) else i ∷ served_of is (os ++ o ∷ []))
        ≡ (if t then served_of is os else i ∷ served_of is os) ++ (if is_failed o then [] else index ∷ [])
    by true e = e
    by false e = ap (λ xs. i ∷ xs) e

first_true : (a b : Bool) → (a && b) ≡ true → a ≡ true
first_true true b is = refl
first_true false b is = cc

pub served_tried : (p : Program) (index : ℕ) (o : Outcome) → slice_get p.indices (length p.done) ≡ Some index
    → served_of (tried p o).indices (tried p o).done ≡ served_of p.indices p.done ++ (if is_failed o then [] else index ∷ [])
served_tried p index o has = by (is_again o p.failures p.retries) refl
  where
    again : is_again o p.failures p.retries ≡ true → is_failed o ≡ true
    again is = first_true (is_failed o) (nat_lt p.failures p.retries) is

    by : (t : Bool) → is_again o p.failures p.retries ≡ t
        → served_of (if t then record p { failures = p.failures + 1 } else record p { done = p.done ++ o ∷ []; failures = 0 }).indices
        (if t then record p { failures = p.failures + 1 } else record p { done = p.done ++ o ∷ []; failures = 0 }).done
        ≡ served_of p.indices p.done ++ (if is_failed o then [] else index ∷ [])
    by true is = rw (again is) (sym (append-nil (served_of p.indices p.done)))
    by false is = served_more p.indices p.done index o has
