-- Blocks that are made one after the other.
use Rattle.std.proofs.Common.{◌≡◌, ◌<◌, ℕ, zero, suc, ◌+◌, Bool, true, false, if◌then◌else◌, List, [], ◌∷◌, ◌++◌, map, take, length, replicate, slice_get, refl, sym, ap, ◌∙◌, arith, add-one, get_or, Option, unwrap_or}
use Rattle.std.specs.List.{All, enumerate_from}
use Rattle.std.proofs.lemmas.List.{length-replicate}
use Rattle.std.proofs.lemmas.List.Elements.{All-cons, All-map}
use Rattle.block_machine.specs.block_config.declared.block.BlockDesc.{BlockDesc}
use Rattle.block_machine.specs.block_config.Config.{Configuration, block_of}
use Rattle.block_machine.specs.Blocks.{is_synchronized}
use Rattle.ram_blocks.specs.declared.kept.RamBlock.{RamBlock}
use Rattle.ram_blocks.specs.declared.plain_block.PlainBlock.{PlainBlock}
use Rattle.ram_blocks.specs.Plain.{plain_of, plain_by, no_plain, fresh_block, IsWhole}
use Rattle.ram_blocks.specs.Kept.{ram_of, ram_by, no_ram}

plain_next : (xs : List BlockDesc) (i : ℕ) → i < length xs → map plain_of (take (suc i) xs) ≡ map plain_of (take i xs) ++ plain_by (slice_get xs i) ∷ []
plain_next [] i below = absurd (omega arith)
plain_next (x ∷ xs) zero below = refl
plain_next (x ∷ xs) (suc i) below = ap (λ ys. plain_of x ∷ ys) (plain_next xs i (omega arith))

-- one block more was made
pub plain_more : (xs : List BlockDesc) (i : ℕ) → i < length xs → map plain_of (take (i + 1) xs) ≡ map plain_of (take i xs) ++ plain_by (slice_get xs i) ∷ []
plain_more xs i below = rw (add-one i) (plain_next xs i below)

abbrev numbered : ℕ → List BlockDesc → List RamBlock
numbered k xs = map (λ x. ram_of x.0 x.1) (enumerate_from k xs)

ram_next : (xs : List BlockDesc) (k i : ℕ) → i < length xs → numbered k (take (suc i) xs) ≡ numbered k (take i xs) ++ ram_by (k + i) (slice_get xs i) ∷ []
ram_next [] k i below = absurd (omega arith)
ram_next (x ∷ xs) k zero below = let e : k + 0 ≡ k = omega arith in rw e refl
ram_next (x ∷ xs) k (suc i) below = let e : k + suc i ≡ k + 1 + i = omega arith in rw e (ap (λ ys. ram_of k x ∷ ys) (ram_next xs (k + 1) i (omega arith)))

pub ram_more : (xs : List BlockDesc) (i : ℕ) → i < length xs → numbered 1 (take (i + 1) xs) ≡ numbered 1 (take i xs) ++ ram_by (i + 1) (slice_get xs i) ∷ []
ram_more xs i below = let f : 1 + i ≡ suc i = omega arith in let h = ram_next xs 1 i below in rw (add-one i) (rw f at h)

the_block : (c : Configuration) (i : ℕ) → block_of c (i + 1) ≡ slice_get c.blocks i
the_block c i = rw (add-one i) refl

pub plain_made : (c : Configuration) (i : ℕ) (old new : List PlainBlock) (x : PlainBlock) (d : Option BlockDesc) → i < length c.blocks → old ≡ no_plain ∷ map plain_of (take i c.blocks) → d ≡ block_of c (i + 1) → x ≡ plain_by d → new ≡ old ++ x ∷ []
    → new ≡ no_plain ∷ map plain_of (take (i + 1) c.blocks)
plain_made c i old new x d below before read one pushed =
    pushed ∙ (rw before (ap (λ y. no_plain ∷ (map plain_of (take i c.blocks) ++ y ∷ [])) (one ∙ ap plain_by (read ∙ the_block c i)) ∙ ap (λ ys. no_plain ∷ ys) (sym (plain_more c.blocks i below))))

pub ram_made : (c : Configuration) (i : ℕ) (old new : List RamBlock) (x : RamBlock) (d : Option BlockDesc) → i < length c.blocks → old ≡ no_ram ∷ numbered 1 (take i c.blocks) → d ≡ block_of c (i + 1) → x ≡ ram_by (i + 1) d → new ≡ old ++ x ∷ []
    → new ≡ no_ram ∷ numbered 1 (take (i + 1) c.blocks)
ram_made c i old new x d below before read one pushed =
    pushed ∙ (rw before (ap (λ y. no_ram ∷ (numbered 1 (take i c.blocks) ++ y ∷ [])) (one ∙ ap (ram_by (i + 1)) (read ∙ the_block c i)) ∙ ap (λ ys. no_ram ∷ ys) (sym (ram_more c.blocks i below))))

whole_by : (t : Bool) (content : List ℕ) → IsWhole (if t then fresh_block content else no_plain)
whole_by true content = length-replicate (length content) 0
whole_by false content = refl

pub all_whole : (xs : List BlockDesc) → All IsWhole (no_plain ∷ map plain_of xs)
all_whole xs = All-cons IsWhole no_plain (map plain_of xs) refl (All-map IsWhole plain_of xs (λ k d below. whole_by (is_synchronized (get_or xs k d).ram) (unwrap_or (get_or xs k d).defaults (replicate (get_or xs k d).length 0))))
