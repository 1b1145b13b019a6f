-- The data index of a block behind an entry, and the pages of its records.
use Rattle.std.specs.Prelude.{if◌then◌else◌}
use Rattle.std.proofs.Common.{◌≡◌, ℕ, Bool, true, false, List, [], ◌∷◌, ◌++◌, Option, Some, refl, ap}
use Rattle.memif.specs.Told.{Fixed}
use Rattle.block_machine.specs.Words.{ReqResult, Restored, Fine, JobKind, ReadJob, WriteJob, RestoreJob, Taken, Entry, BlockDesc, Configuration}
use Rattle.block_machine.specs.State.{State, BlockState, Job}
use Rattle.block_machine.specs.Blocks.{block_at, desc_of, indices_by, indices_of, job_block, keeps_ram, kind_of, names_ram}
use Rattle.block_machine.specs.Next.{Next, PickJob}
use Rattle.block_machine.specs.Sweeps.{is_done}
use Rattle.block_machine.specs.Steps.{flagged, ended, picked, posted, with_status}
use Rattle.block_laws.proofs.BlockFields.{field_kept}
use Rattle.nvm_figures.specs.Urgent.{pages_of}
use Rattle.nv_desk_copies.specs.nv_desk.Desk.{DeskState}

-- with an entry more
abbrev pub added : Entry → DeskState → DeskState
added e desk = record desk { entries = desk.entries ++ e ∷ [] }

pub status_index : (s : State) (k id : ℕ) (r : ReqResult) → (block_at (with_status k r s) id).index ≡ (block_at s id).index
status_index s k id r = field_kept (λ (b : BlockState). b.index) s.blocks k (record (block_at s k) { status = r }) id refl

-- a Pick leaves the blocks as they were
pub picked_blocks : (c : Configuration) (s : State) (j : Job) (t : Taken) (n : Next) → n ≡ PickJob j → (picked c s t n).blocks ≡ s.blocks
picked_blocks c s j t n is = rw is refl

-- a Post leaves the data indices
flags_by : (t : Bool) (b : BlockState) → (if t then record b { valid = true; changed = false } else b).index ≡ b.index
flags_by true b = refl
flags_by false b = refl

flagged_index : (kind : JobKind) (r : ReqResult) (b : BlockState) → (flagged kind r b).index ≡ b.index
flagged_index ReadJob Restored b = refl
flagged_index ReadJob r b = refl
flagged_index RestoreJob Fine b = refl
flagged_index RestoreJob r b = refl
flagged_index WriteJob r b = flags_by (is_done r) b
flagged_index kind r b = refl

ended_index : (d : BlockDesc) (keeps : Bool) (kind : JobKind) (ram : Bool) (r : ReqResult) (given : Option (List ℕ)) (b : BlockState)
    → (ended d keeps kind ram r given b).index ≡ b.index
ended_index d keeps kind true r given b = flagged_index kind r b
ended_index d keeps kind false r given b = refl

pub posted_index : (c : Configuration) (s : State) (j : Job) (held : Option Job) (r : ReqResult) (given : Option (List ℕ)) (id : ℕ) → held ≡ Some j
    → (block_at (posted c s r given held) id).index ≡ (block_at s id).index
posted_index c s j held r given id is =
    let block = job_block j in
    rw is (field_kept (λ (b : BlockState). b.index) s.blocks block (ended (desc_of c block) (keeps_ram c block) (kind_of j) (names_ram j.request) r given (block_at s block)) id
    (ended_index (desc_of c block) (keeps_ram c block) (kind_of j) (names_ram j.request) r given (block_at s block)))

pub posted_waits : (c : Configuration) (s : State) (j : Job) (held : Option Job) (r : ReqResult) (given : Option (List ℕ)) → held ≡ Some j
    → (posted c s r given held).waiting ≡ s.waiting
posted_waits c s j held r given is = rw is refl

-- THE PAGES
pub same_pages : (c : Configuration) (s t : State) (f : Fixed) (id : ℕ) → (block_at t id).index ≡ (block_at s id).index
    → pages_of f id (indices_of c t id) ≡ pages_of f id (indices_of c s id)
same_pages c s t f id same = ap (λ (n : ℕ). pages_of f id (indices_by (desc_of c id).kind (desc_of c id).nv n)) same
