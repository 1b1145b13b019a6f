-- The most turns of a job, by the measures of the configuration and by the figures of its device.
use Rattle.std.specs.Prelude.{max, fold, sum_by, if◌then◌else◌}
use Rattle.std.specs.List.{All, range_with_len}
use Rattle.std.specs.Option.{option_map_or}
use Rattle.std.proofs.Common.{◌≡◌, ◌≤◌, ◌+◌, ◌*◌, ◌==◌, ℕ, zero, suc, Bool, true, false, List, [], ◌∷◌, map, length, Option, Some, None, refl, sym, ap, ◌∙◌, arith}
use Rattle.std.proofs.Math.Nat.{mul-add, mul-zero}
use Rattle.std.proofs.lemmas.List.Sums.{sum_by-cons}
use Rattle.memif_fee_ea.specs.fee_core.nv_base.declared.instance.DeviceNumber.{DeviceNumber}
use Rattle.memif_fee_ea.specs.fee_core.nv_base.Marks.{number_of}
use Rattle.memif_fee_ea.specs.fee_core.nv_base.Pages.{record_pages_of}
use Rattle.nvm_core.specs.block_config.declared.block.BlockDesc.{BlockDesc}
use Rattle.nvm_core.specs.block_config.declared.block.BlockKind.{BlockKind}
use Rattle.nvm_core.specs.block_config.declared.block.BlockKind.TheVariants.{Native, Redundant, Dataset}
use Rattle.nvm_core.specs.block_config.Block.{instance_count}
use Rattle.nvm_core.specs.block_config.Config.{Configuration}
use Rattle.nvm_core.specs.block_config.Lengths.{length_at, block_lengths, stored_lengths, lengths_by, lengths_of}
use Rattle.nvm_core.specs.block_config.Rules.{IsDatasetCount, IsLegalBlock, AreBlocks, IsLegalConfig}
use Rattle.nvm_core.specs.block_config.Sizes.{instances_of, size_of}
use Rattle.nvm_core.proofs.Devices.{lengths_are_first}
use Rattle.nvm_core.proofs.Numbering.{length-lengths_from}
use Rattle.memif_fee_ea.specs.fee_core.memif.Told.{Figures, at_number, figures_at, length_of, most_of, no_figures}
use Rattle.nvm_core.specs.block_machine.Words.{Instance, JobKind, ReadJob, WriteJob, RestoreJob, EraseJob, InvalidateJob, ReadAllJob, WriteAllJob}
use Rattle.nvm_core.specs.block_machine.Blocks.{desc_of, indices_of, job_block, kind_of}
use Rattle.nvm_core.specs.block_machine.Prices.{device_tries}
use Rattle.memif_fee_ea.specs.fee_core.fee_course.Copies.{copies_most, greatest}
use Rattle.memif_fee_ea.specs.fee_core.fee_switch_laws.Space.{all_pages}
use Rattle.memif_fee_ea.specs.fee_core.fee_told.Figures.{figures_for}
use Rattle.nvm_core.specs.job_programs.Program.{operation, retries_of, works}
use Rattle.nvm_core.specs.nvm_figures.Left.{most_at, over_tries}
use Rattle.nvm_core.specs.nvm_figures.Urgent.{pages_of}
use Rattle.promise_run.specs.JobTurns.{switch_at_most, try_at_most, try_on, pages_on}
use Rattle.nvm_flash.specs.Turns.{fixed_by, JobTurnsAreFigures, WritePagesAreFigures}
use Rattle.nvm_flash.proofs.Space.{all_blocks, greatest_blocks, greatest_more}

-- THE SWITCH
-- a copy is one read more than its record has pages
pub copies_are : (p : ℕ) (ns : List (DeviceNumber × ℕ)) → copies_most p ns ≡ all_pages p ns + length ns
copies_are p [] = refl
copies_are p (n ∷ ns) = let rest = copies_are p ns in omega (arith, rest)

-- each block has an instance
abbrev pub HaveInstances : List BlockDesc → Type 0
HaveInstances [] = Unit {0}
HaveInstances (b ∷ bs) = (1 ≤ instances_of b) × HaveInstances bs

some_instance : (kind : BlockKind) (nv : ℕ) → IsDatasetCount kind nv → 1 ≤ instance_count kind nv
some_instance Native nv legal = omega arith
some_instance Redundant nv legal = omega arith
some_instance Dataset nv legal = legal.0

legal_have : (bs : List BlockDesc) → All IsLegalBlock bs → HaveInstances bs
legal_have [] legal = tt
legal_have (b ∷ bs) legal = (some_instance b.kind b.nv (legal 0 b (omega arith)).datasets, legal_have bs (λ k d few. legal (suc k) d (omega (arith, few))))

pub blocks_have : (id : ℕ) (bs : List BlockDesc) → AreBlocks id bs → HaveInstances bs
blocks_have id [] legal = absurd legal
blocks_have id (b ∷ bs) legal = ((let two : instances_of b ≡ 2 = ap (λ (d : BlockDesc). instances_of d) legal.0 in omega (arith, two)), legal_have bs legal.1)

-- so the greatest record of all blocks is that of an instance
greatest_row : (p id n start count : ℕ) → 1 ≤ count → record_pages_of n p ≤ greatest p (map (length_at id n) (range_with_len start count))
greatest_row p id n start zero some = omega (arith, some)
greatest_row p id n start (suc count) some = omega arith

greatest_stored : (p id : ℕ) (b : BlockDesc) (first : Bool) → 1 ≤ instances_of b → (if first then record_pages_of b.length p else 0) ≤ greatest p (if first then block_lengths id b else [])
greatest_stored p id b true some = greatest_row p id b.length 0 (instances_of b) some
greatest_stored p id b false some = omega arith

pub greatest_within : (p id m : ℕ) (bs : List BlockDesc) → HaveInstances bs → fold (λ n b. max n (size_of p b)) m bs ≤ max m (greatest p (lengths_by (Some 0) id bs))
greatest_within p id m [] have = omega arith
greatest_within p id m (b ∷ bs) have =
    let rest = greatest_within p (id + 1) (max m (size_of p b)) bs have.1 in
    let more = greatest_more p (stored_lengths (Some 0) id b) (lengths_by (Some 0) (id + 1) bs) in
    let here = greatest_stored p id b (b.device == 0) have.0 in omega (arith, rest, more, here)

pub switch_is : (c : Configuration) → IsLegalConfig c → c.eeprom ≡ None → (fixed_by c).own ≡ switch_at_most c
switch_is c legal one =
    let p = c.geometry.page in
    let first = lengths_are_first c legal one in
    let copies = copies_are p (lengths_of c) in
    let pages = ap (all_pages p) (sym first) ∙ all_blocks p 1 c.blocks in
    let same = ap (greatest p) first in
    let count = length-lengths_from 1 c.blocks in
    let most = greatest_blocks p 1 c.blocks in
    let least = greatest_within p 1 0 c.blocks (blocks_have c.id c.blocks legal.blocks_legal) in omega (arith, copies, pages, same, count, most, least)

-- A TRY
chosen : (b : Bool) (f : ℕ → Figures) (length : ℕ) (rest : Figures) (others : Option ℕ) → rest ≡ option_map_or f others no_figures
    → (if b then f length else rest) ≡ option_map_or f (if b then Some length else others) no_figures
chosen true f length rest others same = refl
chosen false f length rest others same = same

pub figures_are : (f : ℕ → Figures) (ns : List (DeviceNumber × ℕ)) (n : ℕ) → at_number no_figures ns (map (λ x. f x.1) ns) n ≡ option_map_or f (length_of ns n) no_figures
figures_are f [] n = refl
figures_are f (x ∷ xs) n = chosen (x.0.0 == n) f x.1 (at_number no_figures xs (map (λ x. f x.1) xs) n) (length_of xs n) (figures_are f xs n)

by_length : (c : Configuration) (kind : JobKind) (length : Option ℕ) → works kind ≡ true
    → most_of (option_map_or (figures_for c.geometry.page (switch_at_most c)) length no_figures) (operation kind) ≡ option_map_or (try_at_most c kind) length 0
by_length c ReadJob None works = refl
by_length c ReadJob (Some n) works = refl
by_length c WriteJob None works = refl
by_length c WriteJob (Some n) works = refl
by_length c EraseJob None works = refl
by_length c EraseJob (Some n) works = refl
by_length c InvalidateJob None works = refl
by_length c InvalidateJob (Some n) works = refl
by_length c RestoreJob length works = cc
by_length c ReadAllJob length works = cc
by_length c WriteAllJob length works = cc

pub try_is : (c : Configuration) → IsLegalConfig c → c.eeprom ≡ None → (block : ℕ) (kind : JobKind) → works kind ≡ true → (i : ℕ)
    → most_at (fixed_by c) block kind i ≡ try_on c kind (record { block = block; index = i })
try_is c legal one block kind works i =
    let n = number_of (record { block = block; index = i }) in
    ap (λ (f : Figures). most_of f (operation kind)) (figures_are (figures_for c.geometry.page (fixed_by c).own) (lengths_of c) n)
    ∙ ap (λ (own : ℕ). most_of (option_map_or (figures_for c.geometry.page own) (length_of (lengths_of c) n) no_figures) (operation kind)) (switch_is c legal one)
    ∙ by_length c kind (length_of (lengths_of c) n) works

-- ALL TRIES
pub tries_are : (count : ℕ → ℕ) (retries : ℕ) (is : List ℕ) → over_tries count retries is ≡ (retries + 1) * sum_by count is
tries_are count retries [] = sym (mul-zero (retries + 1))
tries_are count retries (i ∷ is) =
    ap (λ (n : ℕ). (retries + 1) * count i + n) (tries_are count retries is)
    ∙ sym (mul-add (retries + 1) (count i) (sum_by count is))
    ∙ ap (λ (n : ℕ). (retries + 1) * n) (sym (sum_by-cons count i is))

-- a restore has none
pub none_at : (length : Option ℕ) → ◌≡◌ {A = ℕ} (option_map_or (λ (n : ℕ). 0) length 0) 0
none_at None = refl
none_at (Some n) = refl

pub zeros : (is : List ℕ) → sum_by (λ (i : ℕ). 0) is ≡ 0
zeros [] = refl
zeros (i ∷ is) = let first = sum_by-cons (λ (i : ℕ). 0) i is in let rest = zeros is in omega (arith, first, rest)

no_tries : (c : Configuration) (tries block : ℕ) (is : List ℕ) → 0 ≡ tries * sum_by (λ i. option_map_or (λ (n : ℕ). 0) (length_of (lengths_of c) (number_of (record { block = block; index = i }))) 0) is
no_tries c tries block is =
    sym (mul-zero tries)
    ∙ ap (λ (n : ℕ). tries * n) (sym (zeros is))
    ∙ sym (ap (λ (f : ℕ → ℕ). tries * sum_by f is) (λ k i. none_at (length_of (lengths_of c) (number_of (record { block = block; index = i }))) k))

working : (c : Configuration) → IsLegalConfig c → c.eeprom ≡ None → (block : ℕ) (kind : JobKind) → works kind ≡ true → (retries : ℕ) (is : List ℕ)
    → over_tries (most_at (fixed_by c) block kind) retries is ≡ (retries + 1) * sum_by (λ i. try_on c kind (record { block = block; index = i })) is
working c legal one block kind works retries is =
    tries_are (most_at (fixed_by c) block kind) retries is
    ∙ ap (λ (f : ℕ → ℕ). (retries + 1) * sum_by f is) (λ k i. try_is c legal one block kind works i k)

by_kind : (c : Configuration) → IsLegalConfig c → c.eeprom ≡ None → (d : BlockDesc) (block : ℕ) (kind : JobKind) (is : List ℕ)
    → over_tries (most_at (fixed_by c) block kind) (retries_of d kind) (if works kind then is else [])
    ≡ device_tries d kind * sum_by (λ i. try_on c kind (record { block = block; index = i })) is
by_kind c legal one d block ReadJob is = working c legal one block ReadJob refl d.reads is
by_kind c legal one d block WriteJob is = working c legal one block WriteJob refl d.writes is
by_kind c legal one d block EraseJob is = working c legal one block EraseJob refl d.writes is
by_kind c legal one d block InvalidateJob is = working c legal one block InvalidateJob refl d.writes is
by_kind c legal one d block RestoreJob is = no_tries c (d.writes + 1) block is
by_kind c legal one d block ReadAllJob is = no_tries c (d.writes + 1) block is
by_kind c legal one d block WriteAllJob is = no_tries c (d.writes + 1) block is

pub job_turns_are_figures : JobTurnsAreFigures
job_turns_are_figures c legal one s j =
    let id = job_block j in
    let tries = over_tries (most_at (fixed_by c) id (kind_of j)) (retries_of (desc_of c id) (kind_of j)) (if works (kind_of j) then indices_of c s id else []) in
    ap (λ (n : ℕ). n + tries + 1) (switch_is c legal one)
    ∙ ap (λ (n : ℕ). switch_at_most c + n + 1) (by_kind c legal one (desc_of c id) id (kind_of j) (indices_of c s id))

-- URGENT WRITES
by_pages : (p own : ℕ) (length : Option ℕ) → (option_map_or (figures_for p own) length no_figures).pages ≡ option_map_or (λ n. record_pages_of n p) length 0
by_pages p own None = refl
by_pages p own (Some n) = refl

pub pages_at : (c : Configuration) (i : Instance) → (figures_at (fixed_by c) (number_of i)).pages ≡ pages_on c i
pages_at c i =
    ap (λ (f : Figures). f.pages) (figures_are (figures_for c.geometry.page (fixed_by c).own) (lengths_of c) (number_of i))
    ∙ by_pages c.geometry.page (fixed_by c).own (length_of (lengths_of c) (number_of i))

all_pages_are : (c : Configuration) (block : ℕ) (is : List ℕ) → pages_of (fixed_by c) block is ≡ sum_by (λ index. pages_on c (record { block = block; index = index })) is
all_pages_are c block [] = refl
all_pages_are c block (i ∷ is) =
    let here = pages_at c (record { block = block; index = i }) in
    let rest = all_pages_are c block is in
    let all = sum_by-cons (λ index. pages_on c (record { block = block; index = index })) i is in omega (arith, here, rest, all)

pub write_pages_are_figures : WritePagesAreFigures
write_pages_are_figures c s id = all_pages_are c id (indices_of c s id)
