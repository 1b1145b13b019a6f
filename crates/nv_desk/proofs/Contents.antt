-- What a Pick takes has its block's length.
use Rattle.std.specs.Prelude.{slice_get, unwrap_or, All}
use Rattle.std.specs.List.{enumerate_from}
use Rattle.std.proofs.Common.{◌≡◌, ◌≤◌, ◌<◌, ℕ, zero, suc, ◌+◌, ◌||◌, Bool, true, false, List, [], ◌∷◌, drop, length, map, filter, get_or, refl, sym, ap, ◌∙◌, subst, inl, inr, arith, Option, Some, None, IfSome, IsTrue}
use Rattle.std.proofs.lemmas.Bool.{cases_Bool}
use Rattle.block_machine.specs.block_config.Block.{plain_block}
use Rattle.block_machine.specs.block_config.Config.{block_of}
use Rattle.block_machine.specs.block_config.Rules.{AreBlocks, IsLegalBlock, IsLegalConfig, MayBeMember}
use Rattle.block_machine.specs.Words.{BlockDesc, Configuration, JobKind, WriteJob, Pick, RamKind, NoRamBlock, Permanent, Sync, Taken, TookContent, TookNothing}
use Rattle.block_machine.specs.State.{State, BlockState, Job, Sweep}
use Rattle.block_machine.specs.Blocks.{asked_block, block_at, desc_of, is_synchronized, job_block, keeps_ram, kind_of}
use Rattle.block_machine.specs.Sweeps.{member_job, member_kind, member_request}
use Rattle.block_machine.specs.Reply.{has_no_ram}
use Rattle.block_machine.specs.Next.{PickJob, PickMember, next_in, next_by, next_of}
use Rattle.block_machine.specs.Steps.{content_after}
use Rattle.block_machine.specs.Legal.{IsAllowed, MayPick, TakesBy, TakesForWrite}
use Rattle.block_states.specs.States.{state_at}
use Rattle.block_states.proofs.Started.{rooms_have_lengths}
use Rattle.block_laws.specs.Consistent.{Each}
use Rattle.multi_jobs.specs.Members.{ids_from, is_member}
use Rattle.multi_jobs.specs.Sweep.{members_at}
use Rattle.multi_jobs.specs.declared.sweep.Place.{Place}
use Rattle.multi_jobs.specs.declared.sweep.Place.TheVariants.{First, Behind, Over}
use Rattle.job_pending.specs.declared.take.Take.{Take}
use Rattle.job_pending.specs.declared.take.Take.TheVariants as take
use Rattle.job_pending.specs.Take.{Took, taken_with}
use Rattle.nv_desk_state.specs.declared.kept.Kept.{Kept}
use Rattle.nv_desk_state.specs.declared.sweep.PendingSweep.{PendingSweep}
use Rattle.nv_desk_state.specs.Kept.{Agrees}
use Rattle.nv_desk_state.specs.Pending.{AreSweeps, IsAtMember}
use Rattle.nv_desk.specs.Sound.{HasRam, IsPendingJob, IsSound}
use Rattle.nv_desk.specs.Picks.{copied_in, own_first, took_of}
use Rattle.nv_desk.proofs.Asks.{has_ram}
use Rattle.block_laws.proofs.JobLists.{each_push}

-- THE RAM THAT THE MANAGER KEEPS
abbrev pub RamIsWhole : Configuration → State → Type 0
RamIsWhole c s = (id : ℕ) → keeps_ram c id ≡ true → length (block_at s id).ram ≡ (desc_of c id).length

-- as it fills the rooms that are kept for it
abbrev pub FillsRooms : Kept → Type 0
FillsRooms k = 0 < length k.blocks.states → (id : ℕ) → length (state_at k.blocks.states id).ram ≡ get_or k.blocks.rooms id 0

pub ram_is_whole : (c : Configuration) (k : Kept) (s : State) → Agrees c k s → IsSound c s → IsTrue s.started
    → FillsRooms k → RamIsWhole c s
ram_is_whole c k s agrees sound on fills id keeps =
    let same : length k.blocks.states ≡ length s.blocks = ap length agrees.blocks in
    let places = sound.places on in
    ap (λ (bs : List BlockState). length (state_at bs id).ram) (sym agrees.blocks)
    ∙ fills (omega (arith, same, places)) id
    ∙ ap (λ (ns : List ℕ). get_or ns id 0) agrees.rooms ∙ rooms_have_lengths c id keeps

-- WHAT A JOB TAKES
abbrev IsWhole : ℕ → Option (List ℕ × ℕ) → Type 0
IsWhole n o = IfSome o (λ x. length x.0 ≡ n)

for_write : (d : BlockDesc) (b : BlockState) (j : Job) (o : Option (List ℕ × ℕ)) (sync : Bool) (t : Taken) → TakesForWrite d b j o sync t
    → IsWhole d.length o → (o ≡ None → sync ≡ false → length b.ram ≡ d.length) → IsWhole d.length (content_after o t)
for_write d b j (Some x) sync t takes own ram = rw takes own
for_write d b j None true (TookContent bytes n) takes own ram = takes.0
for_write d b j None true TookNothing takes own ram = absurd takes
for_write d b j None true t takes own ram = tt
for_write d b j None false t takes own ram = rw takes (ram refl refl)

takes_whole : (d : BlockDesc) (b : BlockState) (j : Job) (kind : JobKind) (t : Taken) → TakesBy d b j kind t → IsWhole d.length j.content
    → (kind ≡ WriteJob → j.content ≡ None → is_synchronized d.ram ≡ false → length b.ram ≡ d.length) → IsWhole d.length (content_after j.content t)
takes_whole d b j WriteJob t takes own ram = for_write d b j j.content (is_synchronized d.ram) t takes own (λ none plain. ram refl none plain)
takes_whole d b j kind t takes own ram = rw takes own

kept_by : (keeps sync : Bool) → (keeps || sync) ≡ true → sync ≡ false → keeps ≡ true
kept_by true sync some plain = refl
kept_by false true some plain = cc
kept_by false false some plain = cc

-- of RAM that there is
pub from_ram : (c : Configuration) (s : State) (id : ℕ) → RamIsWhole c s → HasRam c id → is_synchronized (desc_of c id).ram ≡ false
    → length (block_at s id).ram ≡ (desc_of c id).length
from_ram c s id whole some plain = whole id (kept_by (keeps_ram c id) (is_synchronized (desc_of c id).ram) some plain)

-- a copy is what it has then
pub copied_fits : (n m : ℕ) (content : Option (List ℕ × ℕ)) (t : Took) → n ≤ m → IsWhole n (content_after content (taken_with content t))
    → IfSome (copied_in t) (λ x. length x ≤ m)
copied_fits n m content (take.Copied store, Some x) less whole = omega (arith, less, whole)
copied_fits n m content (take.Copied store, None) less whole = tt
copied_fits n m content (take.Nothing, copy) less whole = tt
copied_fits n m content (take.Own, copy) less whole = tt
copied_fits n m content (take.Refused count, copy) less whole = tt
copied_fits n m content (take.Stale asked got count, copy) less whole = tt

-- A JOB
pub job_takes : (c : Configuration) (cap : ℕ) (s : State) (j : Job) (t : Taken) (ops : ℕ) → RamIsWhole c s → next_in c s.waiting ≡ Some j
    → IsPendingJob c s j → IsAllowed c cap s (Pick (job_block j) (kind_of j) t ops) → IsWhole (desc_of c (job_block j)).length (content_after j.content t)
job_takes c cap s j t ops ram next pending allowed =
    let may : MayPick c s (job_block j) (kind_of j) t (PickJob j) =
    subst (MayPick c s (job_block j) (kind_of j) t) (ap (λ (o : Option Job). next_by c s o s.hand s.sweep) next) allowed.1 in
    takes_whole (desc_of c (job_block j)) (block_at s (job_block j)) j (kind_of j) t may.takes pending.content
    (λ writes none plain. from_ram c s (job_block j) ram (pending.ram writes none) plain)

-- one that has a content takes that, as a copy would be the same
own_by : (d : BlockDesc) (b : BlockState) (j : Job) (kind : JobKind) (t : Take) (lent : List ℕ) (o : Option (List ℕ × ℕ)) → j.content ≡ o
    → TakesBy d b j kind (taken_with o (took_of t lent)) → taken_with o (took_of (own_first t o) lent) ≡ taken_with o (took_of t lent)
own_by d b j WriteJob (take.Copied store) lent (Some x) is takes =
    let own : TookContent lent store ≡ TookContent x.0 x.1 = subst (λ (o : Option (List ℕ × ℕ)). TakesForWrite d b j o (is_synchronized d.ram) (TookContent lent store)) is takes in
    sym own
own_by d b j kind (take.Copied store) lent (Some x) is takes = cc
own_by d b j kind (take.Copied store) lent None is takes = refl
own_by d b j kind t lent o is takes = refl

pub own_same : (c : Configuration) (cap : ℕ) (s : State) (j : Job) (t : Take) (lent : List ℕ) (ops : ℕ) → next_in c s.waiting ≡ Some j
    → IsAllowed c cap s (Pick (job_block j) (kind_of j) (taken_with j.content (took_of t lent)) ops)
    → taken_with j.content (took_of (own_first t j.content) lent) ≡ taken_with j.content (took_of t lent)
own_same c cap s j t lent ops next allowed =
    let may : MayPick c s (job_block j) (kind_of j) (taken_with j.content (took_of t lent)) (PickJob j) =
    subst (MayPick c s (job_block j) (kind_of j) (taken_with j.content (took_of t lent))) (ap (λ (o : Option Job). next_by c s o s.hand s.sweep) next) allowed.1 in
    own_by (desc_of c (job_block j)) (block_at s (job_block j)) j (kind_of j) t lent j.content refl may.takes

-- A MEMBER OF A REQUEST ON ALL BLOCKS
member_ram : (ram : RamKind) (w : Bool) → w ≡ true → MayBeMember ram w → has_no_ram ram ≡ false
member_ram NoRamBlock w is may = cc
member_ram Permanent w is may = refl
member_ram Sync w is may = refl

all_at : (bs : List BlockDesc) (i : ℕ) (b : BlockDesc) → All IsLegalBlock bs → slice_get bs i ≡ Some b → IsLegalBlock b
all_at [] i b all is = cc
all_at (x ∷ bs) zero b all is = let e : x ≡ b = cc in subst IsLegalBlock e (all 0 x (omega arith))
all_at (x ∷ bs) (suc i) b all is = all_at bs i b (λ k d within. all (suc k) d (omega (arith, within))) is

legal_at : (id : ℕ) (bs : List BlockDesc) (i : ℕ) (b : BlockDesc) → AreBlocks id bs → slice_get bs (suc i) ≡ Some b → IsLegalBlock b
legal_at id [] i b are is = cc
legal_at id (x ∷ bs) i b are is = all_at bs i b are.1 is

-- one that is written has RAM
written : (c : Configuration) (id : ℕ) (b : BlockDesc) → IsLegalConfig c → block_of c id ≡ Some b → b.writeall ≡ true → HasRam c id
written c zero b legal is on = cc
written c (suc zero) b legal is on = refl
written c (suc (suc i)) b legal is on =
    let own : b ≡ desc_of c (suc (suc i)) = sym (ap (λ (o : Option BlockDesc). unwrap_or o (plain_block 0)) is) in
    has_ram c (suc (suc i)) (subst (λ (d : BlockDesc). has_no_ram d.ram ≡ false) own
    (member_ram b.ram b.writeall on (legal_at c.id c.blocks i b legal.blocks_legal is).writeall))

all_written : (c : Configuration) (n : ℕ) (bs : List BlockDesc) → IsLegalConfig c → ((k : ℕ) → slice_get bs k ≡ block_of c (n + k))
    → Each (HasRam c) (map (λ (x : ℕ × BlockDesc). x.0) (filter (λ (x : ℕ × BlockDesc). is_member true x.1) (enumerate_from n bs)))
all_written c n [] legal at = tt
all_written c n (b ∷ bs) legal at =
    let rest = all_written c (n + 1) bs legal (λ k. at (suc k) ∙ ap (block_of c) (let e : n + suc k ≡ n + 1 + k = omega arith in e)) in
    let one : n + 0 ≡ n = omega arith in
    let own : block_of c n ≡ Some b = ap (block_of c) (sym one) ∙ sym (at 0) in
    elim (cases_Bool b.writeall) [
      | inl on ↦ rw on (written c n b legal own on, rest)
      | inr off ↦ rw off rest
    ]

dropped : (m k : ℕ) (bs : List BlockDesc) → slice_get (drop m bs) k ≡ slice_get bs (m + k)
dropped zero k bs = let e : k ≡ 0 + k = omega arith in ap (slice_get bs) e
dropped (suc m) k [] = refl
dropped (suc m) k (b ∷ bs) = dropped m k bs ∙ (let e : suc (m + k) ≡ suc m + k = omega arith in ap (slice_get (b ∷ bs)) e)

ids_have : (c : Configuration) (passed : ℕ) → IsLegalConfig c → Each (HasRam c) (ids_from c true passed)
ids_have c passed legal = all_written c (passed + 2) (drop (passed + 1) c.blocks) legal
    (λ k. dropped (passed + 1) k c.blocks ∙ ap (block_of c) (let e : suc (passed + 1 + k) ≡ passed + 2 + k = omega arith in e))

members_have : (c : Configuration) (place : Place) → IsLegalConfig c → Each (HasRam c) (members_at c true place)
members_have c (Behind passed) legal = each_push (HasRam c) (ids_from c true passed) 1 (ids_have c passed legal) refl
members_have c First legal = (refl, each_push (HasRam c) (ids_from c true 0) 1 (ids_have c 0 legal) refl)
members_have c Over legal = tt

member_has : (c : Configuration) (o : Option PendingSweep) (sw : Sweep) (id : ℕ) (rest : List ℕ) → IsLegalConfig c → AreSweeps c o (Some sw)
    → sw.left ≡ id ∷ rest → sw.writes ≡ true → HasRam c id
member_has c None sw id rest legal h left on = absurd h
member_has c (Some p) sw id rest legal h left on =
    (subst (Each (HasRam c)) (ap (λ (w : Bool). members_at c w p.members.place) (sym (h.members.writes ∙ on)) ∙ h.members.left ∙ left)
    (members_have c p.members.place legal)).0

pub member_ram_is : (c : Configuration) (k : Kept) (s : State) (sw : Sweep) (id : ℕ) → IsLegalConfig c → Agrees c k s → IsAtMember s sw id
    → sw.writes ≡ true → HasRam c id
member_ram_is c k s sw id legal agrees x on = member_has c k.sweep sw id x.rest legal (subst (AreSweeps c k.sweep) x.sweep agrees.sweep) x.left on

pub block_is : (writes : Bool) (id : ℕ) → asked_block (member_request writes id) ≡ id
block_is true id = refl
block_is false id = refl

pub writes_is : (c : Configuration) (sw : Sweep) (id : ℕ) (t : Bool) → sw.writes ≡ t → kind_of (member_job c sw id) ≡ WriteJob → t ≡ true
writes_is c sw id true is writes = refl
writes_is c sw id false is writes = let kind : kind_of (member_job c sw id) ≡ member_kind false = rw is refl in cc

pub member_takes : (c : Configuration) (cap : ℕ) (s : State) (sw : Sweep) (id : ℕ) (kind : JobKind) (t : Taken) (ops : ℕ) → RamIsWhole c s
    → next_of c s ≡ PickMember sw id → (sw.writes ≡ true → HasRam c id) → IsAllowed c cap s (Pick id kind t ops)
    → IsWhole (desc_of c id).length (content_after None t)
member_takes c cap s sw id kind t ops ram next some allowed =
    let j = member_job c sw id in
    let may : MayPick c s id kind t (PickMember sw id) = subst (MayPick c s id kind t) next allowed.1 in
    let block : job_block j ≡ id = block_is sw.writes id in
    subst (λ (n : ℕ). IsWhole (desc_of c n).length (content_after None t)) block
    (takes_whole (desc_of c (job_block j)) (block_at s (job_block j)) j (kind_of j) t may.takes tt
    (λ writes none plain. from_ram c s (job_block j) ram (subst (HasRam c) (sym block) (some (writes_is c sw id sw.writes refl writes))) plain))
