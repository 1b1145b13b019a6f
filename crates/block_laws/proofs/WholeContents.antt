-- Contents have their block's length: those that jobs write, that cells hold, that RAM keeps and that Posts give.
use Rattle.std.specs.Prelude.{slice_set, get_or, slice_get, find, cond, unwrap_or, option_map, All, IsSome}
use Rattle.std.specs.List.{enumerate_from, list_all}
use Rattle.std.specs.Option.{option_eq, option_and_then}
use Rattle.std.specs.Str.{bytes_eq}
use Rattle.std.proofs.Common.{◌≡◌, ℕ, zero, suc, ◌==◌, ◌+◌, ◌-◌, ◌&&◌, not, Bool, true, false, if◌then◌else◌, List, [], ◌∷◌, drop, length, map, filter, refl, sym, ap, ◌∙◌, subst, inl, inr, arith, Option, Some, None, IfSome, is_some}
use Rattle.std.proofs.lemmas.Bool.{cases_Bool, eq-eqb, or_right}
use Rattle.std.proofs.lemmas.Bool.Decides.{nat_tests}
use Rattle.std.proofs.lemmas.List.{length-replicate}
use Rattle.std.proofs.lemmas.List.Elements.{Contains-append_cases}
use Rattle.std.proofs.lemmas.Slice.Eq.{bytes_eq-Decides}
use Rattle.block_machine.specs.nv_base.Cell.{doubted, MayStand}
use Rattle.block_machine.specs.nv_base.Result.{code_of}
use Rattle.block_machine.specs.block_config.Block.{plain_block}
use Rattle.block_machine.specs.block_config.Config.{block_of}
use Rattle.block_machine.specs.block_config.Rules.{IsLegalBlock, IsLegalConfig, AreBlocks, AreDefaults, AreRomDatasets, MayBeMember}
use Rattle.block_machine.specs.Words.{ReqResult, NotOk, Instance, Mark, Content, Invalid, Erased, JobKind, WriteJob, EraseJob, InvalidateJob, Taken, TookNothing, TookContent, GivenFrom, FromNowhere, FromDevice, FromDefaults, FromRom, BlockDesc, BlockKind, Native, Redundant, Dataset, RamKind, NoRamBlock, Permanent, Sync, Configuration}
use Rattle.block_machine.specs.State.{State, BlockState, InstanceState, Job}
use Rattle.block_machine.specs.Blocks.{no_block, desc_of, keeps_ram, is_synchronized, is_permanent, is_in, indices_of, same_instance, settled_at, job_block, kind_of, mark_by}
use Rattle.block_machine.specs.Sweeps.{members_of, ids_where}
use Rattle.block_machine.specs.Reply.{has_no_ram}
use Rattle.block_machine.specs.Results.{Answer, Own, own_of, content_of, device_content, given_by, with_content, checked_id, outcomes_of, took_none, checks_id, result_of, open_sets, failed_set, same_answer}
use Rattle.block_machine.specs.ResultTable.{table}
use Rattle.block_machine.specs.StartUp.{listed_mark, started_block}
use Rattle.block_machine.specs.Steps.{content_after, with_doubt, settled_in}
use Rattle.block_machine.specs.Legal.{TakesBy, TakesForWrite, has_length}
use Rattle.block_machine.specs.History.{MayStandIn}
use Rattle.block_laws.specs.Consistent.{Each}
use Rattle.block_laws.proofs.JobLists.{each_push}
use Rattle.block_laws.proofs.MarkCells.{at_instance, only_settled, same_parts, some_mark}

abbrev pub HasLength : Configuration → ℕ → List ℕ → Type 0
HasLength c id bytes = length bytes ≡ (desc_of c id).length

abbrev pub MarkLength : Configuration → ℕ → Mark → Type 0
MarkLength c id (Content bytes) = HasLength c id bytes
MarkLength c id mark = Unit {0}

-- a write of RAM takes RAM that there is
abbrev pub MayTakeRam : Configuration → ℕ → Type 0
MayTakeRam c id = is_synchronized (desc_of c id).ram ≡ false → keeps_ram c id ≡ true

abbrev pub NeedsRam : Configuration → ℕ → JobKind → Type 0
NeedsRam c id WriteJob = MayTakeRam c id
NeedsRam c id kind = Unit {0}

abbrev pub FitsContent : Configuration → ℕ → JobKind → Option (List ℕ × ℕ) → Type 0
FitsContent c id kind (Some x) = HasLength c id x.0
FitsContent c id kind None = NeedsRam c id kind

abbrev pub RamFits : Configuration → ℕ → List ℕ → Type 0
RamFits c id ram = keeps_ram c id ≡ true → HasLength c id ram

abbrev pub WholeCell : Configuration → InstanceState → Type 0
WholeCell c x = (m : Mark) → MayStand x.cell m → MarkLength c x.instance.block m

-- MARKS

pub has_from : (c : Configuration) (i : Instance) (m : Mark) → MarkLength c i.block m → has_length c i m ≡ true
has_from c i (Content bytes) is = eq-eqb (length bytes) (desc_of c i.block).length is
has_from c i Invalid is = refl
has_from c i Erased is = refl

from_has : (c : Configuration) (i : Instance) (m : Mark) → has_length c i m ≡ true → MarkLength c i.block m
from_has c i (Content bytes) is = grind (arith, nat_tests)
from_has c i Invalid is = tt
from_has c i Erased is = tt

pub mark_length : (c : Configuration) (id : ℕ) (kind : JobKind) (content : Option (List ℕ × ℕ)) (m : Mark) → FitsContent c id kind content → mark_by kind content ≡ Some m → MarkLength c id m
mark_length c id WriteJob (Some x) m fits is = subst (MarkLength c id) (some_mark (Content x.0) m is) fits
mark_length c id WriteJob None m fits is = cc
mark_length c id InvalidateJob content m fits is = subst (MarkLength c id) (some_mark Invalid m is) tt
mark_length c id EraseJob content m fits is = subst (MarkLength c id) (some_mark Erased m is) tt
mark_length c id kind content m fits is = cc

-- CELLS

block_of_test : (p q : Bool) → (p && q) ≡ true → p ≡ true
block_of_test true q is = refl
block_of_test false q is = cc

doubted_whole : (c : Configuration) (id : ℕ) (mark : Mark) (x : InstanceState) → MarkLength c id mark → x.instance.block ≡ id → WholeCell c x → WholeCell c (record x { cell = doubted mark x.cell })
doubted_whole c id mark x fits same whole m (inl is) = whole m (inl is)
doubted_whole c id mark x fits same whole m (inr has) = elim (Contains-append_cases x.cell.doubts (mark ∷ []) m has) [
  | inl before ↦ whole m (inr before)
  | inr (k, within, is) ↦ let first : k ≡ 0 = omega (arith, within) in let at : mark ≡ m = rw first at is in subst (MarkLength c x.instance.block) at (subst (λ (n : ℕ). MarkLength c n mark) (sym same) fits)
]

pub doubts_whole : (c : Configuration) (id : ℕ) (indices : List ℕ) (o : Option Mark) (xs : List InstanceState) → ((m : Mark) → o ≡ Some m → MarkLength c id m) → Each (WholeCell c) xs → Each (WholeCell c) (with_doubt id indices o xs)
doubts_whole c id indices None xs fits whole = whole
doubts_whole c id indices (Some mark) [] fits whole = tt
doubts_whole c id indices (Some mark) (x ∷ xs) fits whole = elim (cases_Bool ((x.instance.block == id) && is_in indices x.instance.index)) [
  | inl on ↦ let b = block_of_test (x.instance.block == id) (is_in indices x.instance.index) on in let same : x.instance.block ≡ id = grind (arith, nat_tests, b) in rw on (doubted_whole c id mark x (fits mark refl) same whole.0, doubts_whole c id indices (Some mark) xs fits whole.1)
  | inr off ↦ rw off (whole.0, doubts_whole c id indices (Some mark) xs fits whole.1)
]

pub settled_whole : (c : Configuration) (w : Instance) (mark : Mark) (xs : List InstanceState) → MarkLength c w.block mark → Each (WholeCell c) xs → Each (WholeCell c) (settled_in w mark xs)
settled_whole c w mark [] fits whole = tt
settled_whole c w mark (x ∷ xs) fits whole = elim (cases_Bool (same_instance w x.instance)) [
  | inl on ↦ rw on (λ m stands. subst (MarkLength c x.instance.block) (sym (only_settled mark m stands)) (subst (λ (n : ℕ). MarkLength c n mark) (same_parts w x.instance on).0 fits), settled_whole c w mark xs fits whole.1)
  | inr off ↦ rw off (whole.0, settled_whole c w mark xs fits whole.1)
]

stands_at : (c : Configuration) (i : Instance) (s : Bool) (x : InstanceState) (rest : Option InstanceState) (m : Mark) → (s ≡ true → MayStand x.cell m → MarkLength c i.block m) → (MayStandIn rest m → MarkLength c i.block m) → MayStandIn (cond s (Some x) rest) m → MarkLength c i.block m
stands_at c i true x rest m here others h = here refl h
stands_at c i false x rest m here others h = others h

pub stands_whole : (c : Configuration) (i : Instance) (xs : List InstanceState) (m : Mark) → Each (WholeCell c) xs → MayStandIn (at_instance i xs) m → MarkLength c i.block m
stands_whole c i [] m whole h = absurd h
stands_whole c i (x ∷ xs) m whole h = stands_at c i (same_instance i x.instance) x (at_instance i xs) m (λ same stands. subst (λ (n : ℕ). MarkLength c n m) (sym (same_parts i x.instance same).0) (whole.0 m stands)) (stands_whole c i xs m whole.1) h

-- FOUND

listed_at : (c : Configuration) (i : Instance) (s : Bool) (x : Instance × Mark) (rest : Option (Instance × Mark)) → (s ≡ true → MarkLength c i.block x.1) → MarkLength c i.block (unwrap_or (option_map (λ (x : Instance × Mark). x.1) rest) Erased) → MarkLength c i.block (unwrap_or (option_map (λ (x : Instance × Mark). x.1) (cond s (Some x) rest)) Erased)
listed_at c i true x rest here others = here refl
listed_at c i false x rest here others = others

two_tests : (p q : Bool) → (p && q) ≡ true → (p ≡ true) × (q ≡ true)
two_tests true true is = (refl, refl)
two_tests true false is = cc
two_tests false q is = cc

pub listed_whole : (c : Configuration) (marks : List (Instance × Mark)) (i : Instance) → list_all (λ (x : Instance × Mark). has_length c x.0 x.1) marks ≡ true → MarkLength c i.block (listed_mark marks i)
listed_whole c [] i is = tt
listed_whole c (x ∷ marks) i is =
    let (one, rest) = two_tests (has_length c x.0 x.1) (list_all (λ (x : Instance × Mark). has_length c x.0 x.1) marks) is in
    listed_at c i (same_instance i x.0) x (find (λ (x : Instance × Mark). same_instance i x.0) marks) (λ same. subst (λ (n : ℕ). MarkLength c n x.1) (sym (same_parts i x.0 same).0) (from_has c x.0 x.1 one)) (listed_whole c marks i rest)

-- RAM

pub ram_set : (P : ℕ → List ℕ → Type 0) (bs : List BlockState) (id : ℕ) (b : BlockState) → ((k : ℕ) → P k (get_or bs k no_block).ram) → P id b.ram → (k : ℕ) → P k (get_or (slice_set bs id b) k no_block).ram
ram_set P [] id b all new k = all k
ram_set P (x ∷ bs) zero b all new zero = new
ram_set P (x ∷ bs) zero b all new (suc k) = all (suc k)
ram_set P (x ∷ bs) (suc id) b all new zero = all zero
ram_set P (x ∷ bs) (suc id) b all new (suc k) = ram_set (λ n. P (suc n)) bs id b (λ n. all (suc n)) new k

pub started_ram : (c : Configuration) (marks : List (Instance × Mark)) (n : ℕ) (bs : List BlockDesc) (k : ℕ) → keeps_ram c (n + k) ≡ true
    → length (get_or (map (λ (x : ℕ × BlockDesc). started_block c marks x.0 x.1) (enumerate_from n bs)) k no_block).ram ≡ (unwrap_or (slice_get bs k) (plain_block 0)).length
started_ram c marks n [] k keeps = refl
started_ram c marks n (b ∷ bs) zero keeps = let same : n + 0 ≡ n = omega arith in let on : keeps_ram c n ≡ true = rw same at keeps in rw on (length-replicate b.length 0)
started_ram c marks n (b ∷ bs) (suc k) keeps = let same : n + suc k ≡ n + 1 + k = omega arith in started_ram c marks (n + 1) bs k (rw same at keeps)

ram_kind : (ram : RamKind) → has_no_ram ram ≡ false → is_synchronized ram ≡ false → is_permanent ram ≡ true
ram_kind NoRamBlock some plain = cc
ram_kind Permanent some plain = refl
ram_kind Sync some plain = cc

pub takes_ram : (c : Configuration) (id : ℕ) → has_no_ram (desc_of c id).ram ≡ false → MayTakeRam c id
takes_ram c id some plain = or_right (id == 1) (is_permanent (desc_of c id).ram) (ram_kind (desc_of c id).ram some plain)

-- PICK

fits_write : (c : Configuration) (id : ℕ) (b : BlockState) (j : Job) (o : Option (List ℕ × ℕ)) (sync : Bool) (t : Taken) → is_synchronized (desc_of c id).ram ≡ sync → TakesForWrite (desc_of c id) b j o sync t → FitsContent c id WriteJob o → RamFits c id b.ram → FitsContent c id WriteJob (content_after o t)
fits_write c id b j (Some x) sync t is takes fits ram = subst (λ (t : Taken). FitsContent c id WriteJob (content_after (Some x) t)) (sym takes) fits
fits_write c id b j None true (TookContent bytes n) is takes fits ram = takes.0
fits_write c id b j None true TookNothing is takes fits ram = absurd takes
fits_write c id b j None true t is takes fits ram = fits
fits_write c id b j None false t is takes fits ram = subst (λ (t : Taken). FitsContent c id WriteJob (content_after None t)) (sym takes) (ram (fits is))

fits_nothing : (c : Configuration) (id : ℕ) (kind : JobKind) (o : Option (List ℕ × ℕ)) (t : Taken) → t ≡ TookNothing → FitsContent c id kind o → FitsContent c id kind (content_after o t)
fits_nothing c id kind o t takes fits = subst (λ (t : Taken). FitsContent c id kind (content_after o t)) (sym takes) fits

pub fits_after : (c : Configuration) (id : ℕ) (b : BlockState) (j : Job) (kind : JobKind) (t : Taken) → TakesBy (desc_of c id) b j kind t → FitsContent c id kind j.content → RamFits c id b.ram → FitsContent c id kind (content_after j.content t)
fits_after c id b j WriteJob t takes fits ram = fits_write c id b j j.content (is_synchronized (desc_of c id).ram) t refl takes fits ram
fits_after c id b j kind t takes fits ram = fits_nothing c id kind j.content t takes fits

-- POST

abbrev pub GivesLength : ℕ → Option (List ℕ) → Type 0
GivesLength n o = IfSome o (λ bytes. length bytes ≡ n)

pub record FitsDesc (d : BlockDesc) : Type 0 where
  pub defaults : GivesLength d.length d.defaults
  pub rom : (k : ℕ) → GivesLength d.length (slice_get d.rom k)

device_at : (n : ℕ) (s : Bool) (x : ℕ × Mark) (rest : Option (ℕ × Mark)) → GivesLength n (content_of x.1) → GivesLength n (option_and_then (λ (x : ℕ × Mark). content_of x.1) rest) → GivesLength n (option_and_then (λ (x : ℕ × Mark). content_of x.1) (cond s (Some x) rest))
device_at n true x rest here others = here
device_at n false x rest here others = others

device_whole : (n : ℕ) (marks : List (ℕ × Mark)) (failed : List ℕ) → Each (λ (x : ℕ × Mark). GivesLength n (content_of x.1)) marks → GivesLength n (device_content marks failed)
device_whole n [] failed each = tt
device_whole n (x ∷ marks) failed each = device_at n (is_some (content_of x.1) && not (is_in failed x.0)) x (find (λ (x : ℕ × Mark). is_some (content_of x.1) && not (is_in failed x.0)) marks) each.0 (device_whole n marks failed each.1)

given_whole : (o : Own) (failed : List ℕ) (from : GivenFrom) → FitsDesc o.desc → Each (λ (x : ℕ × Mark). GivesLength o.desc.length (content_of x.1)) o.marks → GivesLength o.desc.length (given_by o failed from)
given_whole o failed FromNowhere fits marks = tt
given_whole o failed FromDevice fits marks = device_whole o.desc.length o.marks failed marks
given_whole o failed FromDefaults fits marks = fits.defaults
given_whole o failed FromRom fits marks = fits.rom (o.state.index - o.desc.nv)

answer_whole : (n : ℕ) (took checks : Bool) (a : Answer) (id : Option (List ℕ)) → GivesLength n a.1 → GivesLength n id → let b : Answer = (NotOk, None) in GivesLength n (if took then b else (if checks then checked_id id a else a)).1
answer_whole n true checks a id gives own = tt
answer_whole n false false a id gives own = gives
answer_whole n false true a id gives own = elim (cases_Bool (option_eq bytes_eq a.1 id)) [
  | inl same ↦ rw same gives
  | inr other ↦ rw other own
]

content_whole : (c : Configuration) (id : ℕ) (m : Mark) → MarkLength c id m → GivesLength (desc_of c id).length (content_of m)
content_whole c id (Content bytes) is = is
content_whole c id Invalid is = tt
content_whole c id Erased is = tt

settled_of : (c : Configuration) (id : ℕ) (o : Option InstanceState) → ((m : Mark) → MayStandIn o m → MarkLength c id m) → MarkLength c id (unwrap_or (option_map (λ (x : InstanceState). x.cell.settled) o) Erased)
settled_of c id None whole = tt
settled_of c id (Some x) whole = whole x.cell.settled (inl refl)

own_whole : (c : Configuration) (s : State) (id : ℕ) (ns : List ℕ) → Each (WholeCell c) s.instances → Each (λ (x : ℕ × Mark). GivesLength (desc_of c id).length (content_of x.1)) (map (λ (n : ℕ). (n, settled_at s (record { block = id; index = n }))) ns)
own_whole c s id [] whole = tt
own_whole c s id (n ∷ ns) whole = let i : Instance = record { block = id; index = n } in
    (content_whole c id (settled_at s i) (settled_of c id (at_instance i s.instances) (λ m stands. stands_whole c i s.instances m whole stands)), own_whole c s id ns whole)

pub unpicked_whole : (c : Configuration) (s : State) (id : ℕ) (e : ReqResult × GivenFrom) → FitsDesc (desc_of c id) → Each (WholeCell c) s.instances → GivesLength (desc_of c id).length (with_content (own_of c s id) [] e).1
unpicked_whole c s id e fits whole = given_whole (own_of c s id) [] e.1 fits (own_whole c s id (indices_of c s id) whole)

result_whole : (c : Configuration) (s : State) (id : ℕ) (j : Job) (failed : List ℕ) → FitsDesc (desc_of c id) → Each (WholeCell c) s.instances → GivesLength (desc_of c id).length (result_of (own_of c s id) j failed).1
result_whole c s id j failed fits whole =
    let o = own_of c s id in
    let e = table (is_some o.desc.defaults) (kind_of j) (outcomes_of (kind_of j) o.marks failed) in
    answer_whole (desc_of c id).length (took_none j.taken) (checks_id j (kind_of j)) (with_content o failed e) (desc_of c id).defaults (given_whole o failed e.1 fits (own_whole c s id (indices_of c s id) whole)) fits.defaults

same_length : (n : ℕ) (x y : Option (List ℕ)) → option_eq bytes_eq x y ≡ true → GivesLength n x → GivesLength n y
same_length n None None is gives = tt
same_length n None (Some y) is gives = cc
same_length n (Some x) None is gives = tt
same_length n (Some x) (Some y) is gives = subst (λ (bytes : List ℕ). length bytes ≡ n) ((bytes_eq-Decides x y).0 is) gives

found_one : {X : Type 0} (test : X → Bool) (xs : List X) → IsSome (find test xs) → (x : X) × (test x ≡ true)
found_one test [] some = cc
found_one test (x ∷ xs) some = elim (cases_Bool (test x)) [
  | inl on ↦ (x, on)
  | inr off ↦ found_one test xs (rw off at some)
]

second_test : (p q : Bool) → (p && q) ≡ true → q ≡ true
second_test true q is = is
second_test false q is = cc

pub explained_whole : (c : Configuration) (s : State) (j : Job) (r : ReqResult) (given : Option (List ℕ)) → FitsDesc (desc_of c (job_block j)) → Each (WholeCell c) s.instances → IsSome (failed_set (own_of c s (job_block j)) j (r, given)) → GivesLength (desc_of c (job_block j)).length given
explained_whole c s j r given fits whole some =
    let o = own_of c s (job_block j) in
    let (failed, is) = found_one (λ failed. same_answer (result_of o j failed) (r, given)) (open_sets o j (kind_of j)) some in
    same_length (desc_of c (job_block j)).length (result_of o j failed).1 given (second_test (code_of (result_of o j failed).0 == code_of r) (option_eq bytes_eq (result_of o j failed).1 given) is) (result_whole c s (job_block j) j failed fits whole)

pub ended_ram : (n : ℕ) (takes : Bool) (given : Option (List ℕ)) (old : List ℕ) → GivesLength n given → length old ≡ n → length (if takes then unwrap_or given old else old) ≡ n
ended_ram n false given old gives is = is
ended_ram n true None old gives is = is
ended_ram n true (Some bytes) old gives is = gives

-- THE CONFIGURATION

defaults_fit : (kind : BlockKind) (n : ℕ) (o : Option (List ℕ)) → AreDefaults kind n o → GivesLength n o
defaults_fit kind n None are = tt
defaults_fit Native n (Some bytes) are = are
defaults_fit Redundant n (Some bytes) are = are
defaults_fit Dataset n (Some bytes) are = absurd are

all_at : (n : ℕ) (rom : List (List ℕ)) (k : ℕ) → All (λ (bytes : List ℕ). length bytes ≡ n) rom → GivesLength n (slice_get rom k)
all_at n [] k all = tt
all_at n (x ∷ rom) zero all = all 0 x (omega arith)
all_at n (x ∷ rom) (suc k) all = all_at n rom k (λ i d within. all (suc i) d (omega arith))

rom_fits : (kind : BlockKind) (n : ℕ) (rom : List (List ℕ)) (k : ℕ) → AreRomDatasets kind n rom → GivesLength n (slice_get rom k)
rom_fits Native n rom k are = rw are tt
rom_fits Redundant n rom k are = rw are tt
rom_fits Dataset n rom k are = all_at n rom k are.1

legal_desc : (b : BlockDesc) → IsLegalBlock b → FitsDesc b
legal_desc b legal = record { defaults = defaults_fit b.kind b.length b.defaults legal.defaults; rom = λ k. rom_fits b.kind b.length b.rom k legal.rom }

others_fit : (bs : List BlockDesc) (i : ℕ) → All IsLegalBlock bs → FitsDesc (unwrap_or (slice_get bs i) (plain_block 0))
others_fit [] i all = record { defaults = tt; rom = λ k. tt }
others_fit (b ∷ bs) zero all = legal_desc b (all 0 b (omega arith))
others_fit (b ∷ bs) (suc i) all = others_fit bs i (λ k d within. all (suc k) d (omega arith))

blocks_fit : (id : ℕ) (bs : List BlockDesc) (i : ℕ) → AreBlocks id bs → FitsDesc (unwrap_or (slice_get bs i) (plain_block 0))
blocks_fit id [] i are = absurd are
blocks_fit id (b ∷ bs) zero are = subst FitsDesc (sym are.0) (record { defaults = refl; rom = λ k. tt })
blocks_fit id (b ∷ bs) (suc i) are = others_fit bs i are.1

pub desc_fits : (c : Configuration) (id : ℕ) → IsLegalConfig c → FitsDesc (desc_of c id)
desc_fits c zero legal = record { defaults = tt; rom = λ k. tt }
desc_fits c (suc i) legal = blocks_fit c.id c.blocks i legal.blocks_legal

member_ram : (ram : RamKind) (w : Bool) → w ≡ true → MayBeMember ram w → has_no_ram ram ≡ false
member_ram NoRamBlock w is may = cc
member_ram Permanent w is may = refl
member_ram Sync w is may = refl

members_take : (c : Configuration) (n : ℕ) (bs : List BlockDesc) → ((k : ℕ) → slice_get bs k ≡ block_of c (n + k)) → All IsLegalBlock bs → Each (MayTakeRam c) (map (λ (x : ℕ × BlockDesc). x.0) (filter (λ (x : ℕ × BlockDesc). x.1.writeall) (enumerate_from n bs)))
members_take c n [] at all = tt
members_take c n (b ∷ bs) at all =
    let rest = members_take c (n + 1) bs (λ k. at (suc k) ∙ ap (block_of c) (let e : n + suc k ≡ n + 1 + k = omega arith in e)) (λ k d within. all (suc k) d (omega arith)) in
    let one : n + 0 ≡ n = omega arith in
    let own : b ≡ desc_of c n = ap (λ (o : Option BlockDesc). unwrap_or o (plain_block 0)) (at 0 ∙ ap (block_of c) one) in
    let legal = all 0 b (omega arith) in
    elim (cases_Bool b.writeall) [
      | inl on ↦ rw on (takes_ram c n (subst (λ (d : BlockDesc). has_no_ram d.ram ≡ false) own (member_ram b.ram b.writeall on legal.writeall)), rest)
      | inr off ↦ rw off rest
    ]

dropped : (bs : List BlockDesc) (k : ℕ) → slice_get (drop 1 bs) k ≡ slice_get bs (suc k)
dropped [] k = refl
dropped (b ∷ bs) k = refl

others_legal : (id : ℕ) (bs : List BlockDesc) → AreBlocks id bs → All IsLegalBlock (drop 1 bs)
others_legal id [] are = absurd are
others_legal id (b ∷ bs) are = are.1

pub sweep_takes : (c : Configuration) → IsLegalConfig c → Each (MayTakeRam c) (members_of c true)
sweep_takes c legal = each_push (MayTakeRam c) (ids_where (λ d. d.writeall) c) 1
    (members_take c 2 (drop 1 c.blocks) (λ k. dropped c.blocks k ∙ ap (block_of c) (let e : suc (suc k) ≡ 2 + k = omega arith in e)) (others_legal c.id c.blocks legal.blocks_legal)) (λ plain. refl)
