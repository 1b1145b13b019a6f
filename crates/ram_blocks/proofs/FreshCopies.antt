-- The application's copies before the first store: the configuration's synchronized blocks, of which no copy is to be refused.
use Rattle.std.specs.Prelude.{option_map, unwrap_or, slice_get}
use Rattle.std.proofs.Common.{◌≡◌, ◌≤◌, ◌==◌, ℕ, zero, suc, Bool, true, false, List, [], ◌∷◌, map, length, replicate, get_or, Option, Some, None, if◌then◌else◌, refl, sym, ap, ◌∙◌, subst, inl, inr, arith}
use Rattle.std.proofs.lemmas.Bool.{cases_Bool, eqb-true}
use Rattle.std.proofs.lemmas.List.{length-replicate}
use Rattle.std.proofs.lemmas.Option.{get_or_from_slice_get, slice_get_within}
use Rattle.block_machine.specs.block_config.Block.{plain_block}
use Rattle.block_machine.specs.block_config.Rules.{IsLegalConfig, IsLegalBlock, AreBlocks, AreDefaults}
use Rattle.block_machine.specs.Words.{BlockDesc, BlockKind, Native, Redundant, Dataset, Configuration}
use Rattle.block_machine.specs.Blocks.{desc_of, is_synchronized}
use Rattle.ram_blocks.specs.Told.{IsSynchronized, to_refuse_by, to_refuse_of}
use Rattle.ram_blocks.specs.Plain.{told_of, plain_of, plain_blocks_of, fresh_block, no_plain}
use Rattle.ram_blocks.specs.declared.plain_block.PlainBlock.{PlainBlock}

-- EACH HAS ITS LENGTH

content_of : (kind : BlockKind) (n : ℕ) (defaults : Option (List ℕ)) → AreDefaults kind n defaults → length (unwrap_or defaults (replicate n 0)) ≡ n
content_of kind n None are = length-replicate n 0
content_of Native n (Some bytes) are = are
content_of Redundant n (Some bytes) are = are
content_of Dataset n (Some bytes) are = absurd are

-- what is told of a content that isn't empty
told_bytes : (content : List ℕ) (n : ℕ) → length content ≡ n → 1 ≤ n → option_map (λ s. s.bytes) (told_of (fresh_block content)) ≡ Some n
told_bytes content n is some = elim (cases_Bool (length content == 0)) [
  | inl empty ↦ absurd (let none = eqb-true (length content) 0 empty in omega (arith, is, some, none))
  | inr full ↦ rw full (ap Some is)
]

told_synchronized : (b : BlockDesc) → 1 ≤ b.length → AreDefaults b.kind b.length b.defaults → is_synchronized b.ram ≡ true → option_map (λ s. s.bytes) (told_of (plain_of b)) ≡ Some b.length
told_synchronized b some defaults sync =
    ap (λ (p : Bool). option_map (λ s. s.bytes) (told_of (if p then fresh_block (unwrap_or b.defaults (replicate b.length 0)) else no_plain))) sync
    ∙ told_bytes (unwrap_or b.defaults (replicate b.length 0)) b.length (content_of b.kind b.length b.defaults defaults) some

-- of the block at a place
at_place : (bs : List BlockDesc) (i : ℕ) → ((b : BlockDesc) → slice_get bs i ≡ Some b → is_synchronized b.ram ≡ true → option_map (λ s. s.bytes) (told_of (plain_of b)) ≡ Some b.length)
    → is_synchronized (unwrap_or (slice_get bs i) (plain_block 0)).ram ≡ true → option_map (λ s. s.bytes) (get_or (map told_of (map plain_of bs)) i None) ≡ Some (unwrap_or (slice_get bs i) (plain_block 0)).length
at_place [] i each sync = cc sync
at_place (b ∷ bs) zero each sync = each b refl sync
at_place (b ∷ bs) (suc i) each sync = at_place bs i each sync

each_block : (id : ℕ) (bs : List BlockDesc) → AreBlocks id bs → (i : ℕ) (b : BlockDesc) → slice_get bs i ≡ Some b → is_synchronized b.ram ≡ true → option_map (λ s. s.bytes) (told_of (plain_of b)) ≡ Some b.length
each_block id [] are i b at sync = absurd are
each_block id (m ∷ bs) are zero b at sync =
    let same : m ≡ b = cc in
    let no_ : false ≡ true = ap (λ (x : BlockDesc). is_synchronized x.ram) (sym are.0) ∙ ap (λ (x : BlockDesc). is_synchronized x.ram) same ∙ sync in absurd (cc no_)
each_block id (m ∷ bs) are (suc i) b at sync =
    let legal : IsLegalBlock b = subst IsLegalBlock (get_or_from_slice_get bs i b b at) (are.1 i b (slice_get_within bs i b at)) in
    told_synchronized b legal.content.low legal.defaults sync

-- so the synchronized blocks of a configuration are the application's, with their lengths
pub are_synchronized : (c : Configuration) (copies : List PlainBlock) → IsLegalConfig c → copies ≡ plain_blocks_of c
    → (id : ℕ) → is_synchronized (desc_of c id).ram ≡ true → IsSynchronized (map told_of copies) id (desc_of c id).length
are_synchronized c copies legal is id sync = subst (λ (xs : List PlainBlock). IsSynchronized (map told_of xs) id (desc_of c id).length) (sym is) (own id sync)
  where
    own : (id : ℕ) → is_synchronized (desc_of c id).ram ≡ true → IsSynchronized (map told_of (plain_blocks_of c)) id (desc_of c id).length
    own zero sync = cc sync
    own (suc i) sync = at_place c.blocks i (each_block c.id c.blocks legal.blocks_legal i) sync

-- NONE IS TO BE REFUSED

none_by : (b : Bool) (p : PlainBlock) → p.to_refuse ≡ 0
    → unwrap_or (to_refuse_by (if b then None else Some (record { bytes = length p.content; refusals = p.refusals; to_refuse = Some p.to_refuse; handed = p.handed; last = p.last }))) 0 ≡ 0
none_by true p none = refl
none_by false p none = none

none_told : (d : BlockDesc) → unwrap_or (to_refuse_by (told_of (plain_of d))) 0 ≡ 0
none_told d = none_by (length (plain_of d).content == 0) (plain_of d) (by_kind (is_synchronized d.ram))
  where
    by_kind : (b : Bool) → (if b then fresh_block (unwrap_or d.defaults (replicate d.length 0)) else no_plain).to_refuse ≡ 0
    by_kind true = refl
    by_kind false = refl

none_at : (bs : List BlockDesc) (i : ℕ) → unwrap_or (to_refuse_of (map told_of (map plain_of bs)) i) 0 ≡ 0
none_at [] i = refl
none_at (b ∷ bs) zero = none_told b
none_at (b ∷ bs) (suc i) = none_at bs i

pub none_to_refuse : (c : Configuration) (id : ℕ) → unwrap_or (to_refuse_of (map told_of (plain_blocks_of c)) id) 0 ≡ 0
none_to_refuse c zero = refl
none_to_refuse c (suc i) = none_at c.blocks i
