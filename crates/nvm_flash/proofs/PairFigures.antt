-- The figures of the device of a configuration over a flash and an EEPROM, by its blocks.
use Rattle.std.specs.Prelude.{is_some, sum_by, nat_le, if◌then◌else◌}
use Rattle.std.specs.List.{Contains}
use Rattle.std.specs.Option.{option_map_or}
use Rattle.std.proofs.Common.{◌≡◌, ◌≢◌, ◌⊎◌, ◌≤◌, ◌<◌, ◌+◌, ◌*◌, ◌/◌, ◌%◌, ℕ, zero, suc, Bool, true, false, List, [], ◌∷◌, length, get_or, Option, Some, None, refl, sym, ap, ◌∙◌, subst, inl, inr, arith}
use Rattle.std.proofs.Math.Dec.{eqb}
use Rattle.std.proofs.Math.Nat.{mul-zero}
use Rattle.std.proofs.lemmas.Bool.{leb-false}
use Rattle.std.proofs.lemmas.Bool.Decides.{eqb_tells}
use Rattle.std.proofs.lemmas.List.Sums.{sum_by-cons}
use Rattle.memif_fee_ea.specs.fee_core.nv_base.declared.geometry.Geometry.{Geometry}
use Rattle.memif_fee_ea.specs.fee_core.nv_base.declared.instance.DeviceNumber.{DeviceNumber}
use Rattle.memif_fee_ea.specs.fee_core.nv_base.declared.job.DeviceOp.{DeviceOp}
use Rattle.memif_fee_ea.specs.fee_core.nv_base.declared.job.DeviceOp.TheVariants.{Read, Write, Invalidate, Erase}
use Rattle.memif_fee_ea.specs.fee_core.nv_base.Marks.{number_of, instance_of}
use Rattle.memif_fee_ea.specs.fee_core.nv_base.Pages.{record_pages_of, body_pages_of}
use Rattle.memif_fee_ea.specs.fee_core.memif.Told.{Figures, Fixed, First, Second, figures_at, is_part, length_of, most_of, no_figures, part_of_block}
use Rattle.memif_fee_ea.specs.fee_core.fee_told.Figures as fee
use Rattle.memif_fee_ea.specs.ea_slots.ea_told.Device as ea
use Rattle.memif_fee_ea.specs.memif_pair.Pair.{is_second as in_second}
use Rattle.memif_fee_ea.proofs.memif_pair.Orders.{figures_first}
use Rattle.memif_fee_ea.proofs.memif_pair.Together.{figures_second}
use Rattle.memif_fee_ea.proofs.memif_pair.Numbers.{merged_first}
use Rattle.nvm_core.specs.block_config.declared.block.BlockDesc.{BlockDesc}
use Rattle.nvm_core.specs.block_config.declared.block.BlockKind.{BlockKind}
use Rattle.nvm_core.specs.block_config.declared.block.BlockKind.TheVariants.{Native, Redundant, Dataset}
use Rattle.nvm_core.specs.block_config.Block.{instance_count}
use Rattle.nvm_core.specs.block_config.Config.{Configuration}
use Rattle.nvm_core.specs.block_config.Lengths.{device_lengths, lengths_of}
use Rattle.nvm_core.specs.block_machine.Words.{JobKind, ReadJob, WriteJob, RestoreJob, EraseJob, InvalidateJob, ReadAllJob, WriteAllJob}
use Rattle.nvm_core.specs.block_machine.Blocks.{block_at, desc_of, indices_by, indices_of, job_block, kind_of}
use Rattle.nvm_core.specs.block_machine.Prices.{device_tries}
use Rattle.nvm_core.specs.job_programs.Program.{operation, retries_of, works}
use Rattle.nvm_core.specs.nvm_figures.Left.{most_at, over_tries}
use Rattle.nvm_core.specs.nvm_figures.Urgent.{pages_of}
use Rattle.nvm_core.specs.promise_blocks.OverDevice.{is_of}
use Rattle.nvm_core.proofs.block_laws.InstanceNumbers.{few_at}
use Rattle.promise_run.specs.JobTurns.{is_second, pages_on, pages_of_both, slot_at_most, slot_pages, switch_of_first, try_of_both, try_of_first}
use Rattle.promise_run.specs.Operations.{costs_of_both}
use Rattle.nvm_flash.specs.PairFigures.{IsPairOf, PairBlocksAreWhole, PairCostsAreFigures, PairPagesAreFigures, PairTurnsAreFigures, PairsAreSimple, fixed_of_pair}
use Rattle.nvm_flash.specs.PairMaking.{fixed_of_first, making_second}
use Rattle.nvm_flash.proofs.JobTurns.{blocks_have, copies_are, figures_are, greatest_within, tries_are, zeros}
use Rattle.nvm_flash.proofs.OwnNumbers.{first_count, none_in_block, second_of}
use Rattle.nvm_flash.proofs.PairNumbers.{devices_are_all}
use Rattle.nvm_flash.proofs.Space.{all_blocks, greatest_blocks}

number_is : (n : ℕ) → n ≡ number_of (instance_of (record { 0 = n }))
number_is n = omega arith

-- a part's name is told
second_isnt : First ≡ Second → ⊥
second_isnt is = cc is

no_part_second : {X : Type 0} → true ≡ false → X
no_part_second is = cc is

-- a number that is listed has a length
listed_some : (xs : List (DeviceNumber × ℕ)) (x : DeviceNumber × ℕ) → Contains xs x → length_of xs x.0.0 ≡ None → ⊥
listed_some [] x has none = absurd (omega (arith, has.1))
listed_some (y ∷ ys) x has none = by (eqb_tells y.0.0 x.0.0) (λ here later. listed_some ys x here later)
  where
    rest : y.0.0 ≢ x.0.0 → (k : ℕ) → k < length (y ∷ ys) → get_or (y ∷ ys) k x ≡ x → Contains ys x
    rest other zero within at = absurd (other (ap (λ (z : DeviceNumber × ℕ). z.0.0) at))
    rest other (suc k) within at = (k, omega (arith, within), at)

    by : ((eqb y.0.0 x.0.0 ≡ true) × (y.0.0 ≡ x.0.0)) ⊎ ((eqb y.0.0 x.0.0 ≡ false) × (y.0.0 ≢ x.0.0)) → (Contains ys x → length_of ys x.0.0 ≡ None → ⊥) → ⊥
    by (inl (on, same)) later = let never : Some y.1 ≡ None = subst (λ (b : Bool). (if b then Some y.1 else length_of ys x.0.0) ≡ None) on none in cc never
    by (inr (off, other)) later = later (rest other has.0 has.1 has.2) (subst (λ (b : Bool). (if b then Some y.1 else length_of ys x.0.0) ≡ None) off none)

module _ (g : Geometry) (c : Configuration) (is : IsPairOf g c) where
  abbrev pair : Fixed
  pair = fixed_of_pair g c

  abbrev own : ℕ
  own = (fixed_of_first c).own

  -- THE SWITCH
  own_is : own ≡ switch_of_first c
  own_is =
      let p = c.geometry.page in
      let copies = copies_are p (device_lengths 0 c) in
      let pages = all_blocks p 1 c.blocks in
      let count = first_count 1 c.blocks in
      let most = greatest_blocks p 1 c.blocks in
      let least = greatest_within p 1 0 c.blocks (blocks_have c.id c.blocks is.legal.blocks_legal) in omega (arith, copies, pages, count, most, least)

  -- OF A NUMBER
  -- by the part of its block
  abbrev figure : Bool → ℕ → Figures
  figure second l = if second then record (ea.figures_for g.page l) { part = Second } else fee.figures_for c.geometry.page own l

  first_again : (o : Option ℕ) → record (option_map_or (fee.figures_for c.geometry.page own) o no_figures) { part = First } ≡ option_map_or (fee.figures_for c.geometry.page own) o no_figures
  first_again None = refl
  first_again (Some l) = refl

  of_first : (n : ℕ) → in_second (device_lengths 1 c) n ≡ false → figures_at pair n ≡ option_map_or (fee.figures_for c.geometry.page own) (length_of (lengths_of c) n) no_figures
  of_first n none =
      let length : length_of (device_lengths 0 c) n ≡ length_of (lengths_of c) n = sym (merged_first (device_lengths 0 c) (device_lengths 1 c) n none) ∙ ap (λ ns. length_of ns n) (devices_are_all c is.legal) in
      figures_first (fixed_of_first c) (ea.fixed_for (making_second g c)) n none
      ∙ ap (λ (x : Figures). record x { part = First }) (figures_are (fee.figures_for c.geometry.page own) (device_lengths 0 c) n ∙ ap (λ (o : Option ℕ). option_map_or (fee.figures_for c.geometry.page own) o no_figures) length)
      ∙ first_again (length_of (lengths_of c) n)

  of_second : (n l : ℕ) → length_of (device_lengths 1 c) n ≡ Some l → figures_at pair n ≡ record (ea.figures_for g.page l) { part = Second }
  of_second n l has =
      figures_second (fixed_of_first c) (ea.fixed_for (making_second g c)) n (ap (λ (o : Option ℕ). is_some o) has)
      ∙ ap (λ (x : Figures). record x { part = Second }) (figures_are (ea.figures_for g.page) (device_lengths 1 c) n ∙ ap (λ (o : Option ℕ). option_map_or (ea.figures_for g.page) o no_figures) has)

  -- those of a number are by the part of its block, where it is configured
  pair_figures : (block index n : ℕ) → index ≤ 63 → n ≡ block * 64 + index → figures_at pair n ≡ option_map_or (figure (is_second c block)) (length_of (lengths_of c) n) no_figures
  pair_figures block index n small at = by (is_second c block) refl (length_of (lengths_of c) n) refl
    where
      own_length : length_of (device_lengths 1 c) n ≡ (if is_second c block then length_of (lengths_of c) n else None)
      own_length = second_of c is.legal block index n small at

      by : (t : Bool) → is_second c block ≡ t → (o : Option ℕ) → length_of (lengths_of c) n ≡ o → figures_at pair n ≡ option_map_or (figure t) o no_figures
      by true second (Some l) has = of_second n l (own_length ∙ ap (λ (b : Bool). if b then length_of (lengths_of c) n else None) second ∙ has)
      by true second None has =
          of_first n (ap (λ (o : Option ℕ). is_some o) (own_length ∙ ap (λ (b : Bool). if b then length_of (lengths_of c) n else None) second ∙ has))
          ∙ ap (λ (o : Option ℕ). option_map_or (fee.figures_for c.geometry.page own) o no_figures) has
      by false first o has =
          of_first n (ap (λ (o : Option ℕ). is_some o) (own_length ∙ ap (λ (b : Bool). if b then length_of (lengths_of c) n else None) first))
          ∙ ap (λ (o : Option ℕ). option_map_or (fee.figures_for c.geometry.page own) o no_figures) has

  -- A TRY
  slot_is : (l : ℕ) → body_pages_of l g.page + 4 ≡ slot_pages c l
  slot_is l = sym (ap (λ (o : Option Geometry). option_map_or (λ x. body_pages_of l x.page) o 0 + 4) is.second)

  abbrev most_for : JobKind → Bool → ℕ → ℕ
  most_for kind second l = if second then slot_at_most c kind l else try_of_first c kind l

  by_length : (kind : JobKind) → works kind ≡ true → (second : Bool) (o : Option ℕ) → most_of (option_map_or (figure second) o no_figures) (operation kind) ≡ option_map_or (most_for kind second) o 0
  by_length ReadJob on second None = refl
  by_length ReadJob on true (Some l) = refl
  by_length ReadJob on false (Some l) = refl
  by_length WriteJob on second None = refl
  by_length WriteJob on true (Some l) = slot_is l
  by_length WriteJob on false (Some l) = ap (λ (n : ℕ). record_pages_of l c.geometry.page + 1 + n) own_is
  by_length EraseJob on second None = refl
  by_length EraseJob on true (Some l) = slot_is l
  by_length EraseJob on false (Some l) = ap (λ (n : ℕ). record_pages_of 0 c.geometry.page + 1 + n) own_is
  by_length InvalidateJob on second None = refl
  by_length InvalidateJob on true (Some l) = slot_is l
  by_length InvalidateJob on false (Some l) = ap (λ (n : ℕ). record_pages_of 0 c.geometry.page + 1 + n) own_is
  by_length RestoreJob on second o = cc on
  by_length ReadAllJob on second o = cc on
  by_length WriteAllJob on second o = cc on

  pair_try : (kind : JobKind) → works kind ≡ true → (block index : ℕ) → index ≤ 63 → most_at pair block kind index ≡ try_of_both c kind (record { block = block; index = index })
  pair_try kind on block index small =
      ap (λ (f : Figures). most_of f (operation kind)) (pair_figures block index (number_of (record { block = block; index = index })) small refl)
      ∙ by_length kind on (is_second c block) (length_of (lengths_of c) (number_of (record { block = block; index = index })))

  -- a job without operations has none
  no_try : (second : Bool) (o : Option ℕ) → ◌≡◌ {A = ℕ} 0 (option_map_or (λ (l : ℕ). if second then 0 else 0) o 0)
  no_try second None = refl
  no_try true (Some l) = refl
  no_try false (Some l) = refl

  working : (kind : JobKind) (n : ℕ) → works kind ≡ true → most_of (figures_at pair n) (operation kind) ≡ try_of_both c kind (instance_of (record { 0 = n }))
  working kind n on =
      let i = instance_of (record { 0 = n }) in
      ap (λ (k : ℕ). most_of (figures_at pair k) (operation kind)) (number_is n) ∙ pair_try kind on i.block i.index (omega arith)

  most_is : (kind : JobKind) (n : ℕ) → (if works kind then most_of (figures_at pair n) (operation kind) else 0) ≡ try_of_both c kind (instance_of (record { 0 = n }))
  most_is ReadJob n = working ReadJob n refl
  most_is WriteJob n = working WriteJob n refl
  most_is EraseJob n = working EraseJob n refl
  most_is InvalidateJob n = working InvalidateJob n refl
  most_is RestoreJob n = no_try (is_second c (instance_of (record { 0 = n })).block) (length_of (lengths_of c) (number_of (instance_of (record { 0 = n }))))
  most_is ReadAllJob n = no_try (is_second c (instance_of (record { 0 = n })).block) (length_of (lengths_of c) (number_of (instance_of (record { 0 = n }))))
  most_is WriteAllJob n = no_try (is_second c (instance_of (record { 0 = n })).block) (length_of (lengths_of c) (number_of (instance_of (record { 0 = n }))))

  -- PAGES
  by_pages : (second : Bool) (o : Option ℕ) → (option_map_or (figure second) o no_figures).pages ≡ option_map_or (λ l. if second then slot_pages c l else record_pages_of l c.geometry.page) o 0
  by_pages second None = refl
  by_pages true (Some l) = slot_is l
  by_pages false (Some l) = refl

  pages_is : (n : ℕ) → (figures_at pair n).pages ≡ pages_of_both c (instance_of (record { 0 = n }))
  pages_is n =
      let i = instance_of (record { 0 = n }) in
      ap (λ (k : ℕ). (figures_at pair k).pages) (number_is n) ∙ ap (λ (f : Figures). f.pages) (pair_figures i.block i.index (number_of i) (omega arith) refl) ∙ by_pages (is_second c i.block) (length_of (lengths_of c) (number_of i))

  -- ALL TRIES
  -- the indices of a block are small
  abbrev AreSmall : List ℕ → Type 0
  AreSmall [] = Unit {0}
  AreSmall (i ∷ is) = (i ≤ 63) × AreSmall is

  small_if : (nv at : ℕ) (t : Bool) → nat_le nv at ≡ t → nv ≤ 64 → AreSmall (if t then [] else at ∷ [])
  small_if nv at true more few = tt
  small_if nv at false less few = (let below = leb-false nv at less in omega (arith, below, few), tt)

  small_by : (kind : BlockKind) (nv at : ℕ) → instance_count kind nv ≤ 64 → AreSmall (indices_by kind nv at)
  small_by Native nv at few = (omega arith, tt)
  small_by Redundant nv at few = (omega arith, (omega arith, tt))
  small_by Dataset nv at few = small_if nv at (nat_le nv at) refl few

  sums : (kind : JobKind) → works kind ≡ true → (block : ℕ) (is : List ℕ) → AreSmall is → sum_by (most_at pair block kind) is ≡ sum_by (λ i. try_of_both c kind (record { block = block; index = i })) is
  sums kind on block [] small = refl
  sums kind on block (i ∷ is) small =
      let here = pair_try kind on block i small.0 in
      let rest = sums kind on block is small.1 in
      let own = sum_by-cons (most_at pair block kind) i is in
      let both = sum_by-cons (λ i. try_of_both c kind (record { block = block; index = i })) i is in omega (arith, here, rest, own, both)

  all_tries : (kind : JobKind) → works kind ≡ true → (block retries : ℕ) (is : List ℕ) → AreSmall is
      → over_tries (most_at pair block kind) retries is ≡ (retries + 1) * sum_by (λ i. try_of_both c kind (record { block = block; index = i })) is
  all_tries kind on block retries is small = tries_are (most_at pair block kind) retries is ∙ ap (λ (n : ℕ). (retries + 1) * n) (sums kind on block is small)

  no_tries : (tries block : ℕ) (is : List ℕ) → 0 ≡ tries * sum_by (λ i. option_map_or (λ (l : ℕ). if is_second c block then 0 else 0) (length_of (lengths_of c) (number_of (record { block = block; index = i }))) 0) is
  no_tries tries block is =
      sym (mul-zero tries)
      ∙ ap (λ (n : ℕ). tries * n) (sym (zeros is))
      ∙ ap (λ (f : ℕ → ℕ). tries * sum_by f is) (λ k i. no_try (is_second c block) (length_of (lengths_of c) (number_of (record { block = block; index = i }))) k)

  by_kind : (d : BlockDesc) (block : ℕ) (kind : JobKind) (is : List ℕ) → AreSmall is
      → over_tries (most_at pair block kind) (retries_of d kind) (if works kind then is else []) ≡ device_tries d kind * sum_by (λ i. try_of_both c kind (record { block = block; index = i })) is
  by_kind d block ReadJob is small = all_tries ReadJob refl block d.reads is small
  by_kind d block WriteJob is small = all_tries WriteJob refl block d.writes is small
  by_kind d block EraseJob is small = all_tries EraseJob refl block d.writes is small
  by_kind d block InvalidateJob is small = all_tries InvalidateJob refl block d.writes is small
  by_kind d block RestoreJob is small = no_tries (d.writes + 1) block is
  by_kind d block ReadAllJob is small = no_tries (d.writes + 1) block is
  by_kind d block WriteAllJob is small = no_tries (d.writes + 1) block is

  -- BLOCKS OF THE FIRST PART
  -- none of its numbers is of the second part
  abbrev IsWhole : ℕ → Type 0
  IsWhole n = (figures_at pair n).part ≡ First

  part_by : (o : Option ℕ) → (option_map_or (figure false) o no_figures).part ≡ First
  part_by None = refl
  part_by (Some l) = refl

  -- where its block is of the second device, and its part the first one, none of its numbers is configured
  unconfigured : (block index n : ℕ) → index ≤ 63 → n ≡ block * 64 + index → is_of Second pair block ≡ false → is_second c block ≡ true → length_of (lengths_of c) n ≡ None
  unconfigured block index n small at first second = none_in_block c is.legal block index n small at (by (length_of (lengths_of c) (block * 64)) refl)
    where
      by : (o : Option ℕ) → length_of (lengths_of c) (block * 64) ≡ o → length_of (lengths_of c) (block * 64) ≡ None
      by None none = none
      by (Some l) has = no_part_second (
          sym (ap (λ (f : Figures). is_part Second f.part) (pair_figures block 0 (block * 64) (omega arith) (omega arith) ∙ ap (λ (b : Bool). option_map_or (figure b) (length_of (lengths_of c) (block * 64)) no_figures) second
          ∙ ap (λ (o : Option ℕ). option_map_or (figure true) o no_figures) has)) ∙ first
          )

  whole_by : (block index n : ℕ) → index ≤ 63 → n ≡ block * 64 + index → is_of Second pair block ≡ false → (t : Bool) → is_second c block ≡ t → figures_at pair n ≡ option_map_or (figure false) (length_of (lengths_of c) n) no_figures
  whole_by block index n small at first true second =
      let none = unconfigured block index n small at first second in
      pair_figures block index n small at ∙ ap (λ (o : Option ℕ). option_map_or (figure (is_second c block)) o no_figures) none ∙ sym (ap (λ (o : Option ℕ). option_map_or (figure false) o no_figures) none)
  whole_by block index n small at first false second = pair_figures block index n small at ∙ ap (λ (b : Bool). option_map_or (figure b) (length_of (lengths_of c) n) no_figures) second

  whole : (block index : ℕ) → index ≤ 63 → is_of Second pair block ≡ false
      → figures_at pair (number_of (record { block = block; index = index })) ≡ option_map_or (figure false) (length_of (lengths_of c) (number_of (record { block = block; index = index }))) no_figures
  whole block index small first = whole_by block index (number_of (record { block = block; index = index })) small refl first (is_second c block) refl

  first_pages : (o : Option ℕ) → (option_map_or (figure false) o no_figures).pages ≡ option_map_or (λ l. record_pages_of l c.geometry.page) o 0
  first_pages None = refl
  first_pages (Some l) = refl

  all_pages_are : (block : ℕ) → is_of Second pair block ≡ false → (is : List ℕ) → AreSmall is → pages_of pair block is ≡ sum_by (λ index. pages_on c (record { block = block; index = index })) is
  all_pages_are block first [] small = refl
  all_pages_are block first (i ∷ is) small =
      let here : (figures_at pair (number_of (record { block = block; index = i }))).pages ≡ pages_on c (record { block = block; index = i }) =
      ap (λ (f : Figures). f.pages) (whole block i small.0 first) ∙ first_pages (length_of (lengths_of c) (number_of (record { block = block; index = i }))) in
      let rest = all_pages_are block first is small.1 in
      let all = sum_by-cons (λ index. pages_on c (record { block = block; index = index })) i is in omega (arith, here, rest, all)

  -- TURNS AND PAGES
  within_pages : (second : Bool) (o : Option ℕ) (op : DeviceOp) → (option_map_or (figure second) o no_figures).part ≡ Second → most_of (option_map_or (figure second) o no_figures) op ≤ (option_map_or (figure second) o no_figures).pages
  within_pages second None op of = absurd (second_isnt of)
  within_pages false (Some l) op of = absurd (second_isnt of)
  within_pages true (Some l) Read of = omega arith
  within_pages true (Some l) Write of = omega arith
  within_pages true (Some l) Invalidate of = omega arith
  within_pages true (Some l) Erase of = omega arith

  reads_once : (second : Bool) (o : Option ℕ) → (option_map_or (figure second) o no_figures).read ≤ 1
  reads_once second None = omega arith
  reads_once true (Some l) = omega arith
  reads_once false (Some l) = omega arith

  any_figures : (n : ℕ) → figures_at pair n ≡ option_map_or (figure (is_second c (n / 64))) (length_of (lengths_of c) n) no_figures
  any_figures n = pair_figures (n / 64) (n % 64) n (omega arith) (omega arith)

  -- the configured numbers of a block are of one part
  one_part : (second : Bool) (o q : Option ℕ) → (o ≡ None → ⊥) → (q ≡ None → ⊥) → (option_map_or (figure second) o no_figures).part ≡ (option_map_or (figure second) q no_figures).part
  one_part second None q some others = absurd (some refl)
  one_part second (Some l) None some others = absurd (others refl)
  one_part true (Some l) (Some k) some others = refl
  one_part false (Some l) (Some k) some others = refl

  pub pair_parts : (x : DeviceNumber × ℕ) → Contains (lengths_of c) x → (figures_at pair x.0.0).part ≡ part_of_block pair (instance_of x.0).block
  pair_parts x has =
      let n = x.0.0 in
      ap (λ (f : Figures). f.part) (any_figures n)
      ∙ one_part (is_second c (n / 64)) (length_of (lengths_of c) n) (length_of (lengths_of c) (n / 64 * 64)) (listed_some (lengths_of c) x has)
      (λ none. listed_some (lengths_of c) x has (none_in_block c is.legal (n / 64) (n % 64) n (omega arith) (omega arith) none))
      ∙ sym (ap (λ (f : Figures). f.part) (pair_figures (n / 64) 0 (n / 64 * 64) (omega arith) (omega arith)))

  -- with its own work
  own_all : own + 0 ≡ switch_of_first c
  own_all = let same = own_is in omega (arith, same)

pub pair_costs_are_figures : PairCostsAreFigures
pair_costs_are_figures g c is = λ i. record {
  switch = own_all g c is i;
  pages = λ n. pages_is g c is n i;
  most = λ kind n. most_is g c is kind n i;
  reserve = (costs_of_both c).reserve;
}

indices_are_small : (g : Geometry) (c : Configuration) (is : IsPairOf g c) (id at : ℕ) → AreSmall g c is (indices_by (desc_of c id).kind (desc_of c id).nv at)
indices_are_small g c is id at = small_by g c is (desc_of c id).kind (desc_of c id).nv at (few_at c id is.legal)

pub pair_turns_are_figures : PairTurnsAreFigures
pair_turns_are_figures g c is s j =
    let id = job_block j in
    let tries = over_tries (most_at (fixed_of_pair g c) id (kind_of j)) (retries_of (desc_of c id) (kind_of j)) (if works (kind_of j) then indices_of c s id else []) in
    ap (λ (n : ℕ). n + tries + 1) (own_all g c is)
    ∙ ap (λ (n : ℕ). switch_of_first c + n + 1) (by_kind g c is (desc_of c id) id (kind_of j) (indices_of c s id) (indices_are_small g c is id (block_at s id).index))

pub pair_pages_are_figures : PairPagesAreFigures
pair_pages_are_figures g c is s id first = all_pages_are g c is id first (indices_of c s id) (indices_are_small g c is id (block_at s id).index)

pub pairs_are_simple : PairsAreSimple
pairs_are_simple g c is = record {
  second = λ n op of.
      let same = any_figures g c is n in
      let few = within_pages g c is (is_second c (n / 64)) (length_of (lengths_of c) n) op (sym (ap (λ (f : Figures). f.part) same) ∙ of) in
      subst (λ (f : Figures). most_of f op ≤ f.pages) (sym same) few;
  reads = λ n. subst (λ (f : Figures). f.read ≤ 1) (sym (any_figures g c is n)) (reads_once g c is (is_second c (n / 64)) (length_of (lengths_of c) n));
}

pub pair_blocks_are_whole : PairBlocksAreWhole
pair_blocks_are_whole g c is id first index small = ap (λ (f : Figures). f.part) (whole g c is id index small first) ∙ part_by g c is (length_of (lengths_of c) (number_of (record { block = id; index = index })))
