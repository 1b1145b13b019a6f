-- The work of the stack.
use Rattle.std.specs.Prelude.{slice_get, unwrap_or, is_some, All}
use Rattle.std.proofs.Common.{◌≡◌, ℕ, zero, suc, ◌-◌, ◌≤◌, ◌<◌, ◌^◌, List, [], ◌∷◌, ◌++◌, length, Some, None, ap, subst, arith, length-append}
use Rattle.std.proofs.lemmas.List.Elements.{All-tail}
use Rattle.memif.specs.Told.{DeviceTold}
use Rattle.memif.specs.Clock.{Clock}
use Rattle.block_machine.specs.block_config.Block.{plain_block}
use Rattle.block_machine.specs.block_config.Rules.{IsLegalConfig, IsLegalBlock, AreBlocks}
use Rattle.block_machine.specs.Words.{Entry, BlockDesc, Configuration}
use Rattle.block_machine.specs.Blocks.{desc_of, job_block, kind_of, block_at}
use Rattle.job_programs.specs.Program.{Program}
use Rattle.nv_desk_copies.specs.nv_desk.Desk.{DeskState}
use Rattle.job_progress.specs.JobInHand.{program_for}
use Rattle.nvm_figures.proofs.DrainWork.{programs_are_small, entries_lower}
use Rattle.nvm_laws.specs.Work.{program_in_hand, HandsAreSmall, EntriesLowerWork}

-- THE TRIES
-- the retries of a block are a byte
pub record HasFewTries (b : BlockDesc) : Type 0 where
  pub reads : b.reads < 2 ^ 8
  pub writes : b.writes < 2 ^ 8

few_at : (bs : List BlockDesc) (i : ℕ) → All IsLegalBlock bs → HasFewTries (unwrap_or (slice_get bs i) (plain_block 0))
few_at [] i all = record { reads = omega arith; writes = omega arith }
few_at (b ∷ bs) zero all =
    let legal = all 0 b (omega arith) in
    record { reads = omega (arith, legal.reads); writes = omega (arith, legal.writes) }
few_at (b ∷ bs) (suc i) all = few_at bs i (All-tail IsLegalBlock b bs all)

few_in : (bs : List BlockDesc) (id i : ℕ) → AreBlocks id bs → HasFewTries (unwrap_or (slice_get bs i) (plain_block 0))
few_in [] id i is = absurd is
few_in (b ∷ bs) id zero is = rw is.0 (record { reads = omega arith; writes = omega arith })
few_in (b ∷ bs) id (suc i) is = few_at bs i is.1

few_tries : (c : Configuration) (id : ℕ) → IsLegalConfig c → HasFewTries (desc_of c id)
few_tries c zero rules = record { reads = omega arith; writes = omega arith }
few_tries c (suc i) rules = few_in c.blocks c.id i rules.blocks_legal

-- THE PROGRAM IN HAND
pub hands_are_small : HandsAreSmall
hands_are_small c s None d rules paired = tt
hands_are_small c s (Some h) d rules paired =
    let j = paired.job in
    let few = few_tries c (job_block j) rules in
    let is = programs_are_small (desc_of c (job_block j)) (is_some (desc_of c (job_block j)).defaults) (job_block j) (block_at s (job_block j)).index (kind_of j) few.reads few.writes in
    let indices : h.program.indices ≡ (program_for c s j).indices = ap (λ (q : Program). q.indices) paired.working.is in
    let retries : h.program.retries ≡ (program_for c s j).retries = ap (λ (q : Program). q.retries) paired.working.is in
    (rw indices is.0, rw retries is.1)

-- AN ENTRY
room_less : (cap : ℕ) (es : List Entry) (e : Entry) → length (es ++ e ∷ []) ≤ cap → cap - length (es ++ e ∷ []) < cap - length es
room_less cap es e fits = let one = length-append es (e ∷ []) in omega (arith, fits, one)

pub entries_lower_work : (new : DeviceTold) (clock : Clock) → EntriesLowerWork new clock
entries_lower_work new clock old desk desk_new e hand next order adds fits small =
    let within : length (desk.entries ++ e ∷ []) ≤ desk.cap = subst (λ (x : DeskState). length x.entries ≤ x.cap) adds fits in
    rw adds (entries_lower new clock old (desk.cap - length desk.entries) (desk.cap - length (desk.entries ++ e ∷ [])) (program_in_hand hand) (program_in_hand next) order
    (room_less desk.cap desk.entries e within) small)
