-- The data index of a block behind an entry.
use Rattle.std.specs.Prelude.{slice_set, get_or}
use Rattle.std.specs.List.{enumerate_from}
use Rattle.std.proofs.Common.{◌≡◌, ◌≢◌, ◌<◌, ◌==◌, ◌+◌, ℕ, zero, suc, Bool, true, false, if◌then◌else◌, List, [], ◌∷◌, map, length, refl, sym, ap, ◌∙◌, inl, inr, arith, Option, Some, None}
use Rattle.std.proofs.lemmas.Bool.{cases_Bool, eq-eqb}
use Rattle.std.proofs.lemmas.Bool.Decides.{nat_tests}
use Rattle.std.proofs.lemmas.List.{get_or-set_same, get_or-set_other}
use Rattle.block_machine.specs.Words.{ReqResult, Fine, Pending, Restored, Instance, Mark, JobKind, ReadJob, WriteJob, RestoreJob, Request, Read, Write, Restore, Erase, Invalidate, SetIndex, GetIndex, SetProtection, SetLock, SetRam, PutRam, Status, ReadAll, WriteAll, CancelWriteAll, Accepted, Refused, StatusIs, IndexIs, Reply, Taken, Entry, Ask, Pick, Wrote, Post, Off, Found, BlockDesc, Configuration}
use Rattle.block_machine.specs.State.{State, BlockState, Job}
use Rattle.block_machine.specs.Blocks.{no_block, block_at, job_block, kind_of, names_ram, desc_of, keeps_ram}
use Rattle.block_machine.specs.Sweeps.{member_kind}
use Rattle.block_machine.specs.Next.{Next, PickMember, PostMember, EndSweep, next_of}
use Rattle.block_machine.specs.StartUp.{started_block}
use Rattle.block_machine.specs.Steps.{step, accepted, asked, picked, wrote, posted, posted_next, ended, flagged}
use Rattle.block_laws.specs.Laws.{is_found}
use Rattle.block_laws.proofs.BlockFields.{field_kept}
use Rattle.rows_histories.specs.Seen.{index_to, index_by}

set_index : (bs : List BlockState) (id n : ℕ) (b : BlockState) → n < length bs
    → (get_or (slice_set bs id b) n no_block).index ≡ (if id == n then b.index else (get_or bs n no_block).index)
set_index bs id n b within = elim (cases_Bool (id == n)) [
  | inl on ↦
      let same : id ≡ n = grind (arith, nat_tests) in
      rw (on, same) (ap (λ (x : BlockState). x.index) (get_or-set_same bs n b no_block within))
  | inr off ↦
      let other : n ≢ id = λ is. let on : (id == n) ≡ true = eq-eqb id n (sym is) in let no_ : true ≡ false = sym on ∙ off in cc in
      rw off (ap (λ (x : BlockState). x.index) (get_or-set_other bs id n b no_block other))
]

-- ASK
accepted_index : (c : Configuration) (s : State) (r : Request) (n : ℕ) → n < length s.blocks
    → (block_at (accepted c s r) n).index ≡ index_to n (block_at s n).index r
accepted_index c s (Read block ram) n within = field_kept (λ (x : BlockState). x.index) s.blocks block (record (block_at s block) { status = Pending }) n refl
accepted_index c s (Write block content store) n within = field_kept (λ (x : BlockState). x.index) s.blocks block (record (block_at s block) { status = Pending }) n refl
accepted_index c s (Restore block ram) n within = field_kept (λ (x : BlockState). x.index) s.blocks block (record (block_at s block) { status = Pending }) n refl
accepted_index c s (Erase block) n within = field_kept (λ (x : BlockState). x.index) s.blocks block (record (block_at s block) { status = Pending }) n refl
accepted_index c s (Invalidate block) n within = field_kept (λ (x : BlockState). x.index) s.blocks block (record (block_at s block) { status = Pending }) n refl
accepted_index c s (SetIndex block to) n within = set_index s.blocks block n (record (block_at s block) { index = to }) within
accepted_index c s (GetIndex block) n within = refl
accepted_index c s (SetProtection block on) n within = field_kept (λ (x : BlockState). x.index) s.blocks block (record (block_at s block) { protected = on }) n refl
accepted_index c s (SetLock block on) n within = field_kept (λ (x : BlockState). x.index) s.blocks block (record (block_at s block) { locked = on }) n refl
accepted_index c s (SetRam block on) n within = field_kept (λ (x : BlockState). x.index) s.blocks block (record (block_at s block) { valid = on; changed = on }) n refl
accepted_index c s (PutRam block content) n within = field_kept (λ (x : BlockState). x.index) s.blocks block (record (block_at s block) { ram = content }) n refl
accepted_index c s (Status block) n within = refl
accepted_index c s ReadAll n within = field_kept (λ (x : BlockState). x.index) s.blocks 0 (record (block_at s 0) { status = Pending }) n refl
accepted_index c s WriteAll n within = field_kept (λ (x : BlockState). x.index) s.blocks 0 (record (block_at s 0) { status = Pending }) n refl
accepted_index c s CancelWriteAll n within = refl

asked_index : (c : Configuration) (s : State) (caller : ℕ) (r : Request) (reply : Reply) (n : ℕ) → n < length s.blocks
    → (block_at (asked c s r reply) n).index ≡ index_by n (block_at s n).index (Ask caller r reply)
asked_index c s caller r Accepted n within = accepted_index c s r n within
asked_index c s caller r (Refused x) n within = refl
asked_index c s caller r (StatusIs x) n within = refl
asked_index c s caller r (IndexIs x) n within = refl

-- PICK AND POST
picked_index : (c : Configuration) (s : State) (t : Taken) (next : Next) (n : ℕ) → (block_at (picked c s t next) n).index ≡ (block_at s n).index
picked_index c s t (PickMember sw id) n = field_kept (λ (x : BlockState). x.index) s.blocks id (record (block_at s id) { status = Pending }) n refl
picked_index c s t next n = refl

flagged_index : (kind : JobKind) (r : ReqResult) (b : BlockState) → (flagged kind r b).index ≡ b.index
flagged_index ReadJob Restored b = refl
flagged_index RestoreJob Fine b = refl
flagged_index WriteJob Fine b = refl
flagged_index kind r b = refl

ended_index : (d : BlockDesc) (keeps : Bool) (kind : JobKind) (ram : Bool) (r : ReqResult) (given : Option (List ℕ)) (b : BlockState)
    → (ended d keeps kind ram r given b).index ≡ b.index
ended_index d keeps kind true r given b = flagged_index kind r b
ended_index d keeps kind false r given b = refl

next_index : (c : Configuration) (s : State) (r : ReqResult) (given : Option (List ℕ)) (next : Next) (n : ℕ)
    → (block_at (posted_next c s r given next) n).index ≡ (block_at s n).index
next_index c s r given (PostMember sw id) n =
    field_kept (λ (x : BlockState). x.index) s.blocks id (ended (desc_of c id) (keeps_ram c id) (member_kind sw.writes) true r given (block_at s id)) n
    (ended_index (desc_of c id) (keeps_ram c id) (member_kind sw.writes) true r given (block_at s id))
next_index c s r given (EndSweep sw) n = field_kept (λ (x : BlockState). x.index) s.blocks 0 (record (block_at s 0) { status = r }) n refl
next_index c s r given next n = refl

posted_index : (c : Configuration) (s : State) (r : ReqResult) (given : Option (List ℕ)) (o : Option Job) (n : ℕ)
    → (block_at (posted c s r given o) n).index ≡ (block_at s n).index
posted_index c s r given (Some j) n =
    field_kept (λ (x : BlockState). x.index) s.blocks (job_block j) (ended (desc_of c (job_block j)) (keeps_ram c (job_block j)) (kind_of j) (names_ram j.request) r given (block_at s (job_block j))) n
    (ended_index (desc_of c (job_block j)) (keeps_ram c (job_block j)) (kind_of j) (names_ram j.request) r given (block_at s (job_block j)))
posted_index c s r given None n = next_index c s r given (next_of c s) n

wrote_index : (s : State) (i : Instance) (mark : Mark) (o : Option Job) (n : ℕ) → (block_at (wrote s i mark o) n).index ≡ (block_at s n).index
wrote_index s i mark None n = refl
wrote_index s i mark (Some j) n = refl

-- FOUND
started_index : (c : Configuration) (marks : List (Instance × Mark)) (id : ℕ) (ds : List BlockDesc) (n : ℕ)
    → (get_or (map (λ (x : ℕ × BlockDesc). started_block c marks x.0 x.1) (enumerate_from id ds)) n no_block).index ≡ 0
started_index c marks id [] n = refl
started_index c marks id (d ∷ ds) zero = refl
started_index c marks id (d ∷ ds) (suc n) = started_index c marks (id + 1) ds n

found_index : (c : Configuration) (s : State) (marks : List (Instance × Mark)) (ops n : ℕ) → (block_at (step c s (Found marks ops)) n).index ≡ 0
found_index c s marks ops zero = refl
found_index c s marks ops (suc n) = started_index c marks 1 c.blocks n

-- THE STEP
pub index_step : (c : Configuration) (s : State) (e : Entry) (n : ℕ) → (is_found e ≡ false → n < length s.blocks)
    → (block_at (step c s e) n).index ≡ index_by n (block_at s n).index e
index_step c s (Ask caller r reply) n within = asked_index c s caller r reply n (within refl)
index_step c s (Pick block kind t ops) n within = picked_index c s t (next_of c s) n
index_step c s (Wrote i mark ops) n within = wrote_index s i mark s.hand n
index_step c s (Post block r given refused ops) n within = posted_index c s r given s.hand n
index_step c s (Off ops) n within = refl
index_step c s (Found marks ops) n within = found_index c s marks ops n
