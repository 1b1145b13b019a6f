-- The device numbers of a configuration's instances, with their lengths.
use Rattle.std.specs.Prelude.{slice_get, unwrap_or}
use Rattle.std.specs.List.{All, Contains}
use Rattle.std.proofs.Common.{◌≡◌, ◌≢◌, ◌<◌, ◌≤◌, ◌+◌, ◌*◌, ◌/◌, ◌%◌, ℕ, zero, suc, List, [], ◌∷◌, length, get_or, refl, sym, ap, ◌∙◌, subst, inl, inr, arith, Option, Some, None}
use Rattle.std.proofs.lemmas.Option.{slice_get_within, slice_get-get_or, unwrap_or-slice_get}
use Rattle.std.proofs.lemmas.List.Elements.{Contains-append_left, Contains-append_right, Contains-append_cases}
use Rattle.std.proofs.lemmas.List.FromFn.{length-map-range_with_len, get_or-map-range_with_len}
use Rattle.block_machine.specs.nv_base.declared.instance.DeviceNumber.{DeviceNumber}
use Rattle.block_machine.specs.block_config.Block.{instance_count, plain_block}
use Rattle.block_machine.specs.block_config.Lengths.{length_at, block_lengths, lengths_from, lengths_of}
use Rattle.block_machine.specs.block_config.Rules.{IsDatasetCount, IsLegalBlock, AreBlocks, IsLegalConfig}
use Rattle.block_machine.specs.block_config.Sizes.{instances_of}
use Rattle.block_machine.specs.Words.{BlockDesc, BlockKind, Native, Redundant, Dataset, Configuration}
use Rattle.block_machine.specs.Blocks.{desc_of}

-- no block has more than 64 instances
few_instances : (kind : BlockKind) (nv : ℕ) → IsDatasetCount kind nv → instance_count kind nv ≤ 64
few_instances Native nv legal = omega arith
few_instances Redundant nv legal = omega arith
few_instances Dataset nv legal = legal.1

abbrev pub AreFew : List BlockDesc → Type 0
AreFew [] = Unit {0}
AreFew (b ∷ bs) = (instances_of b ≤ 64) × AreFew bs

legal_few : (bs : List BlockDesc) → All IsLegalBlock bs → AreFew bs
legal_few [] legal = tt
legal_few (b ∷ bs) legal = (few_instances b.kind b.nv (legal 0 b (omega arith)).datasets, legal_few bs (λ k d few. legal (suc k) d (omega (arith, few))))

pub blocks_few : (id : ℕ) (bs : List BlockDesc) → AreBlocks id bs → AreFew bs
blocks_few id [] legal = absurd legal
blocks_few id (b ∷ bs) legal = (
  (let two : instances_of b ≡ 2 = ap (λ (d : BlockDesc). instances_of d) legal.0 in omega (arith, two)),
  legal_few bs legal.1,
)

pub few_in : (bs : List BlockDesc) (k : ℕ) (b : BlockDesc) → AreFew bs → slice_get bs k ≡ Some b → instances_of b ≤ 64
few_in [] k b few at = absurd (omega (arith, slice_get_within [] k b at))
few_in (x ∷ bs) zero b few at = let same : x ≡ b = cc in subst (λ (y : BlockDesc). instances_of y ≤ 64) same few.0
few_in (x ∷ bs) (suc k) b few at = few_in bs k b few.1 at

pub few_at : (c : Configuration) (block : ℕ) → IsLegalConfig c → instances_of (desc_of c block) ≤ 64
few_at c zero rules = omega arith
few_at c (suc k) rules = by (slice_get c.blocks k) refl
  where
    by : (o : Option BlockDesc) → slice_get c.blocks k ≡ o → instances_of (unwrap_or o (plain_block 0)) ≤ 64
    by (Some b) at = few_in c.blocks k b (blocks_few c.id c.blocks rules.blocks_legal) at
    by None at = omega arith

-- FROM AN INSTANCE TO ITS NUMBER
-- each of a block's instances is listed
pub listed_in : (id : ℕ) (bs : List BlockDesc) (k : ℕ) (b : BlockDesc) (index : ℕ) → slice_get bs k ≡ Some b → index < instances_of b
    → Contains (lengths_from id bs) (length_at (id + k) b.length index)
listed_in id [] k b index at within = absurd (omega (arith, slice_get_within [] k b at))
listed_in id (x ∷ bs) zero b index at within =
    let same : x ≡ b = cc in
    let is : length_at id b.length index ≡ length_at (id + 0) b.length index = ap (λ (n : ℕ). length_at n b.length index) (omega arith) in
    let n : DeviceNumber × ℕ = length_at id b.length index in
    let few : index < length (block_lengths id b) = let count = length-map-range_with_len (length_at id b.length) 0 (instances_of b) in omega (arith, count, within) in
    let own : Contains (block_lengths id b) n = (index, few, get_or-map-range_with_len (length_at id b.length) 0 (instances_of b) index index n within (omega arith)) in
    subst (λ (y : DeviceNumber × ℕ). Contains (lengths_from id (x ∷ bs)) y) is
    (Contains-append_left (block_lengths id x) (lengths_from (id + 1) bs) n (subst (λ (y : BlockDesc). Contains (block_lengths id y) n) (sym same) own))
listed_in id (x ∷ bs) (suc k) b index at within =
    let is : length_at (id + 1 + k) b.length index ≡ length_at (id + suc k) b.length index = ap (λ (n : ℕ). length_at n b.length index) (omega arith) in
    Contains-append_right (block_lengths id x) (lengths_from (id + 1) bs) (length_at (id + suc k) b.length index)
    (subst (λ (y : DeviceNumber × ℕ). Contains (lengths_from (id + 1) bs) y) is (listed_in (id + 1) bs k b index at within))

pub listed_at : (c : Configuration) (block index : ℕ) → block ≢ 0 → block ≤ length c.blocks → index < instances_of (desc_of c block)
    → Contains (lengths_of c) (length_at block (desc_of c block).length index)
listed_at c zero index named known few = absurd (named refl)
listed_at c (suc k) index named known few =
    let at : slice_get c.blocks k ≡ Some (desc_of c (suc k)) = slice_get-get_or c.blocks k (plain_block 0) (omega (arith, known)) ∙ ap Some (sym (unwrap_or-slice_get c.blocks k (plain_block 0))) in
    let is : 1 + k ≡ suc k = omega arith in
    subst (λ (n : ℕ). Contains (lengths_of c) (length_at n (desc_of c (suc k)).length index)) is (listed_in 1 c.blocks k (desc_of c (suc k)) index at few)

-- FROM A NUMBER TO ITS INSTANCE
-- a number is that of an instance of one of these blocks, with its length
pub record IsOf (id : ℕ) (bs : List BlockDesc) (x : DeviceNumber × ℕ) : Type 0 where
  pub place : ℕ
  pub block : BlockDesc
  pub stands : slice_get bs place ≡ Some block
  pub id_is : x.0.0 / 64 ≡ id + place
  pub index : x.0.0 % 64 < instances_of block
  pub size : x.1 ≡ block.length

in_block : (id : ℕ) (b : BlockDesc) (x : DeviceNumber × ℕ) → instances_of b ≤ 64 → Contains (block_lengths id b) x
    → (x.0.0 / 64 ≡ id) × (x.0.0 % 64 < instances_of b) × (x.1 ≡ b.length)
in_block id b x few (k, within, is) =
    let count = length-map-range_with_len (length_at id b.length) 0 (instances_of b) in
    let at : get_or (block_lengths id b) k x ≡ length_at id b.length k =
    get_or-map-range_with_len (length_at id b.length) 0 (instances_of b) k k x (omega (arith, within, count)) (omega arith) in
    let same : x ≡ length_at id b.length k = sym is ∙ at in
    let number : x.0.0 ≡ id * 64 + k = ap (λ (y : DeviceNumber × ℕ). y.0.0) same in
    (omega (arith, number, within, count, few), omega (arith, number, within, count, few), ap (λ (y : DeviceNumber × ℕ). y.1) same)

in_blocks : (id : ℕ) (bs : List BlockDesc) (x : DeviceNumber × ℕ) → AreFew bs → Contains (lengths_from id bs) x → IsOf id bs x
in_blocks id [] x few has = absurd (omega (arith, has.1))
in_blocks id (b ∷ bs) x few has = elim (Contains-append_cases (block_lengths id b) (lengths_from (id + 1) bs) x has) [
  | inl here ↦
      let (block, index, size) = in_block id b x few.0 here in
      record { place = 0; block = b; stands = refl; id_is = omega (arith, block); index = index; size = size }
  | inr later ↦
      let of = in_blocks (id + 1) bs x few.1 later in
      let block = of.id_is in
      record { place = suc of.place; block = of.block; stands = of.stands; id_is = omega (arith, block); index = of.index; size = of.size }
]

pub is_of : (c : Configuration) (x : DeviceNumber × ℕ) → IsLegalConfig c → Contains (lengths_of c) x → IsOf 1 c.blocks x
is_of c x legal has = in_blocks 1 c.blocks x (blocks_few c.id c.blocks legal.blocks_legal) has

pub own_length : (c : Configuration) (x : DeviceNumber × ℕ) → IsLegalConfig c → Contains (lengths_of c) x
    → x.1 ≡ (desc_of c (x.0.0 / 64)).length
own_length c x legal has =
    let of = is_of c x legal has in
    let block : suc of.place ≡ x.0.0 / 64 = let is = of.id_is in omega (arith, is) in
    of.size ∙ subst (λ (n : ℕ). of.block.length ≡ (desc_of c n).length) block
    (ap (λ (o : Option BlockDesc). (unwrap_or o (plain_block 0)).length) (sym of.stands))
