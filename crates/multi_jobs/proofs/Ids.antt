-- The ids of members.
use Rattle.std.proofs.Common.{◌≡◌, ℕ, zero, suc, ◌+◌, ◌-◌, ◌≤◌, ◌<◌, Bool, true, false, if◌then◌else◌, List, [], ◌∷◌, map, filter, drop, length, slice_get, refl, sym, ap, ◌∙◌, subst, arith}
use Rattle.std.specs.List.{enumerate_from}
use Rattle.std.proofs.lemmas.List.{length-drop}
use Rattle.block_machine.specs.block_config.declared.block.BlockDesc.{BlockDesc}
use Rattle.block_machine.specs.block_config.Config.{Configuration, block_of}
use Rattle.multi_jobs.specs.Members.{is_member, is_member_at, ids_from}

abbrev numbered : Bool → ℕ → List BlockDesc → List ℕ
numbered w n xs = map (λ x. x.0) (filter (λ x. is_member w x.1) (enumerate_from n xs))

first_by : (t w : Bool) (n : ℕ) (x : BlockDesc) (xs : List BlockDesc)
    → map {A = ℕ × BlockDesc} (λ x. x.0) (if t then (n, x) ∷ filter (λ x. is_member w x.1) (enumerate_from (n + 1) xs) else filter (λ x. is_member w x.1) (enumerate_from (n + 1) xs)) ≡ (if t then n ∷ numbered w (n + 1) xs else numbered w (n + 1) xs)
first_by true w n x xs = refl
first_by false w n x xs = refl

from_get : (w : Bool) (n j : ℕ) (xs : List BlockDesc) → numbered w n (drop j xs) ≡ (if is_member_at w (slice_get xs j) then n ∷ numbered w (n + 1) (drop (suc j) xs) else numbered w (n + 1) (drop (suc j) xs))
from_get w n zero [] = refl
from_get w n (suc j) [] = refl
from_get w n zero (x ∷ xs) = first_by (is_member w x) w n x xs
from_get w n (suc j) (x ∷ xs) = from_get w n j xs

-- the next block, if it is a member, and those behind it
pub ids_next : (c : Configuration) (w : Bool) (k : ℕ) → ids_from c w k ≡ (if is_member_at w (block_of c (k + 2)) then (k + 2) ∷ ids_from c w (k + 1) else ids_from c w (k + 1))
ids_next c w k =
    let e : suc (k + 1) ≡ k + 2 = omega arith in
    let f : suc (k + 1) ≡ k + 1 + 1 = omega arith in
    let g : k + 2 + 1 ≡ k + 1 + 2 = omega arith in
    subst (λ b. ids_from c w k ≡ (if is_member_at w b then (k + 2) ∷ ids_from c w (k + 1) else ids_from c w (k + 1))) (ap (block_of c) e)
    (subst (λ j. ids_from c w k ≡ (if is_member_at w (slice_get c.blocks (k + 1)) then (k + 2) ∷ numbered w (k + 1 + 2) (drop j c.blocks) else numbered w (k + 1 + 2) (drop j c.blocks))) f
    (subst (λ n. ids_from c w k ≡ (if is_member_at w (slice_get c.blocks (k + 1)) then (k + 2) ∷ numbered w n (drop (suc (k + 1)) c.blocks) else numbered w n (drop (suc (k + 1)) c.blocks))) g (from_get w (k + 2) (k + 1) c.blocks)))

-- where that block is a member
pub ids_here : (c : Configuration) (w : Bool) (p k : ℕ) → ids_from c w p ≡ ids_from c w k → is_member_at w (block_of c (k + 2)) ≡ true → (2 ≤ k + 2) × (ids_from c w p ≡ (k + 2) ∷ ids_from c w (k + 2 - 1))
ids_here c w p k e t =
    let f = ids_next c w k in
    let g : k + 1 ≡ k + 2 - 1 = omega arith in
    (omega arith, e ∙ (rw t at f) ∙ ap (λ j. (k + 2) ∷ ids_from c w j) g)

-- where it isn't
pub ids_past : (c : Configuration) (w : Bool) (p k : ℕ) → ids_from c w p ≡ ids_from c w k → is_member_at w (block_of c (k + 2)) ≡ false → ids_from c w p ≡ ids_from c w (k + 1)
ids_past c w p k e t = let f = ids_next c w k in e ∙ (rw t at f)

none_left : (w : Bool) (n j : ℕ) (xs : List BlockDesc) → length xs ≤ j → numbered w n (drop j xs) ≡ []
none_left w n zero [] le = refl
none_left w n (suc j) [] le = refl
none_left w n zero (x ∷ xs) le = absurd (omega arith)
none_left w n (suc j) (x ∷ xs) le = none_left w n j xs (omega arith)

-- THE FIRST OF THEM

pub record IsFirst (w : Bool) (n : ℕ) (xs : List BlockDesc) (m : ℕ) (rest : List ℕ) : Type 0 where
  pub above : n ≤ m
  pub rest_is : rest ≡ numbered w (m + 1) (drop (m + 1 - n) xs)

first_is_by : (t w : Bool) (n : ℕ) (x : BlockDesc) (xs : List BlockDesc) (m : ℕ) (rest : List ℕ) → (if t then n ∷ numbered w (n + 1) xs else numbered w (n + 1) xs) ≡ m ∷ rest
    → (numbered w (n + 1) xs ≡ m ∷ rest → IsFirst w (n + 1) xs m rest) → IsFirst w n (x ∷ xs) m rest
first_is_by true w n x xs m rest e h =
    let a : n ≡ m = cc in
    let b : numbered w (n + 1) xs ≡ rest = cc in
    let d : m + 1 - n ≡ 1 = omega arith in
    record { above = omega arith; rest_is = rw d (sym b ∙ ap (λ k. numbered w (k + 1) xs) a) }
first_is_by false w n x xs m rest e h =
    let f = h e in
    let le : n + 1 ≤ m = f.above in
    let d : m + 1 - n ≡ suc (m + 1 - (n + 1)) = omega arith in
    record { above = omega arith; rest_is = rw d f.rest_is }

first_is : (w : Bool) (n : ℕ) (xs : List BlockDesc) (m : ℕ) (rest : List ℕ) → numbered w n xs ≡ m ∷ rest → IsFirst w n xs m rest
first_is w n [] m rest e = cc
first_is w n (x ∷ xs) m rest e = first_is_by (is_member w x) w n x xs m rest (sym (first_by (is_member w x) w n x xs) ∙ e) (first_is w (n + 1) xs m rest)

drop_drop : (i j : ℕ) (xs : List BlockDesc) → drop i (drop j xs) ≡ drop (j + i) xs
drop_drop i zero xs = let e : 0 + i ≡ i = omega arith in rw e refl
drop_drop zero (suc j) [] = let e : suc j + 0 ≡ suc j = omega arith in rw e refl
drop_drop (suc i) (suc j) [] = let e : suc j + suc i ≡ suc (j + suc i) = omega arith in rw e refl
drop_drop i (suc j) (x ∷ xs) = let e : suc j + i ≡ suc (j + i) = omega arith in rw e (drop_drop i j xs)

-- it isn't block 1, and those behind it are left
pub ids_first : (c : Configuration) (w : Bool) (k m : ℕ) (rest : List ℕ) → ids_from c w k ≡ m ∷ rest → (2 ≤ m) × (rest ≡ ids_from c w (m - 1))
ids_first c w k m rest e =
    let f = first_is w (k + 2) (drop (k + 1) c.blocks) m rest e in
    let le : k + 2 ≤ m = f.above in
    let a : k + 1 + (m + 1 - (k + 2)) ≡ m - 1 + 1 = omega arith in
    let b : m + 1 ≡ m - 1 + 2 = omega arith in
    (omega arith, f.rest_is ∙ ap (numbered w (m + 1)) (drop_drop (m + 1 - (k + 2)) (k + 1) c.blocks ∙ ap (λ j. drop j c.blocks) a) ∙ ap (λ n. numbered w n (drop (m - 1 + 1) c.blocks)) b)

-- a member is a configured block
below_by : (t w : Bool) (n : ℕ) (x : BlockDesc) (xs : List BlockDesc) (m : ℕ) (rest : List ℕ) → (if t then n ∷ numbered w (n + 1) xs else numbered w (n + 1) xs) ≡ m ∷ rest
    → (numbered w (n + 1) xs ≡ m ∷ rest → m < n + 1 + length xs) → m < n + length (x ∷ xs)
below_by true w n x xs m rest e h = let a : n ≡ m = cc in omega (arith, a)
below_by false w n x xs m rest e h = omega (arith, h e)

first_below : (w : Bool) (n : ℕ) (xs : List BlockDesc) (m : ℕ) (rest : List ℕ) → numbered w n xs ≡ m ∷ rest → m < n + length xs
first_below w n [] m rest e = cc
first_below w n (x ∷ xs) m rest e = below_by (is_member w x) w n x xs m rest (sym (first_by (is_member w x) w n x xs) ∙ e) (first_below w (n + 1) xs m rest)

pub ids_below : (c : Configuration) (w : Bool) (k m : ℕ) (rest : List ℕ) → ids_from c w k ≡ m ∷ rest → m ≤ length c.blocks
ids_below c w k m rest e =
    let f = first_is w (k + 2) (drop (k + 1) c.blocks) m rest e in
    omega (arith, first_below w (k + 2) (drop (k + 1) c.blocks) m rest e, f.above, length-drop (k + 1) c.blocks)
