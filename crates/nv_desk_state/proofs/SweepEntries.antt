-- The entries of a sweep, member by member.
use Rattle.std.proofs.Common.{◌≡◌, ◌<◌, ◌≤◌, ℕ, zero, suc, ◌+◌, Bool, true, false, if◌then◌else◌, List, [], ◌∷◌, map, filter, drop, length, slice_get, sum_by, ap, arith, add-one}
use Rattle.std.specs.List.{enumerate_from}
use Rattle.std.proofs.lemmas.List.{drop_all}
use Rattle.std.proofs.lemmas.List.Sums.{sum_by-append, sum_by-cons}
use Rattle.block_machine.specs.block_config.Config.{block_of}
use Rattle.block_machine.specs.Words.{BlockDesc, Configuration}
use Rattle.block_machine.specs.Sweeps.{member_entries, sweep_entries, sweep_at}
use Rattle.multi_jobs.specs.Members.{is_member, is_member_at}

-- the entries of the members among blocks from an id on
abbrev pub entries_from : Configuration → Bool → ℕ → List BlockDesc → ℕ
entries_from c w k ds = sum_by (member_entries c w) (map (λ x. x.0) (filter (λ x. is_member w x.1) (enumerate_from k ds)))

on_one : (c : Configuration) (w t : Bool) (k : ℕ) (ids : List (ℕ × BlockDesc)) (d : BlockDesc)
    → sum_by (member_entries c w) (map {A = ℕ × BlockDesc} (λ x. x.0) (if t then (k, d) ∷ ids else ids)) ≡
    (if t then member_entries c w k else 0) + sum_by (member_entries c w) (map {A = ℕ × BlockDesc} (λ x. x.0) ids)
on_one c w true k ids d = sum_by-cons (member_entries c w) k (map {A = ℕ × BlockDesc} (λ x. x.0) ids)
on_one c w false k ids d = omega arith

next_from : (c : Configuration) (w : Bool) (ds : List BlockDesc) (k i : ℕ) → i < length ds
    → entries_from c w (k + i) (drop i ds) ≡ (if is_member_at w (slice_get ds i) then member_entries c w (k + i) else 0) + entries_from c w
    (k + suc i) (drop (suc i) ds)
next_from c w [] k i below = absurd (omega arith)
next_from c w (d ∷ ds) k zero below = let e : k + 0 ≡ k = omega arith in let f : k + 1 ≡ k + suc zero = omega arith in
    rw e (on_one c w (is_member w d) k (filter (λ x. is_member w x.1) (enumerate_from (k + 1) ds)) d)
next_from c w (d ∷ ds) k (suc i) below =
    let e : k + suc i ≡ k + 1 + i = omega arith in
    let f : k + suc (suc i) ≡ k + 1 + suc i = omega arith in
    rw (e, f) (next_from c w ds (k + 1) i (omega arith))

-- a loop over the blocks behind block 1
pub share_begins : (c : Configuration) (w : Bool) (first : ℕ) → first ≡ member_entries c w 1
    → 2 + first + entries_from c w 2 (drop 1 c.blocks) ≡ sweep_entries c (sweep_at c 0 w)
share_begins c false first is =
    let e = sum_by-cons (member_entries c false) 1 (map {A = ℕ × BlockDesc} (λ x. x.0) (filter (λ x. x.1.readall) (enumerate_from 2 (drop 1 c.blocks)))) in
    omega (arith, is, e)
share_begins c true first is =
    let e = sum_by-append (member_entries c true) (map {A = ℕ × BlockDesc} (λ x. x.0)
    (filter (λ x. x.1.writeall) (enumerate_from 2 (drop 1 c.blocks)))) (1 ∷ []) in
    omega (arith, is, e)

pub share_goes_on : (c : Configuration) (w : Bool) (i share here total : ℕ) → i < length c.blocks → share + entries_from c w (i + 1) (drop i c.blocks) ≡ total
    → here ≡ (if is_member_at w (block_of c (i + 1)) then member_entries c w (i + 1) else 0)
    → share + here + entries_from c w (i + 1 + 1) (drop (i + 1) c.blocks) ≡ total
share_goes_on c w i share here total below so_far is =
    let k : i + 1 ≡ suc i = add-one i in
    let e : 1 + i ≡ suc i = omega arith in
    let f : 1 + suc i ≡ suc i + 1 = omega arith in
    let n : entries_from c w (suc i) (drop i c.blocks) ≡ (if is_member_at w (block_of c (suc i)) then member_entries c w
    (suc i) else 0) + entries_from c w (suc i + 1) (drop (suc i) c.blocks) = rw (e, f) at (next_from c w c.blocks 1 i below) in
    let one : here ≡ (if is_member_at w (block_of c (suc i)) then member_entries c w (suc i) else 0) = rw k at is in
    let so : share + entries_from c w (suc i) (drop i c.blocks) ≡ total = rw k at so_far in
    rw k (omega (arith, so, n, one))

pub share_ends : (c : Configuration) (w : Bool) (i share total : ℕ) → length c.blocks ≤ i
    → share + entries_from c w (i + 1) (drop i c.blocks) ≡ total → share ≡ total
share_ends c w i share total over so_far = let e = ap (entries_from c w (i + 1)) (drop_all i c.blocks over) in omega arith
