-- The table of last stores from step to step.
use Rattle.script_player.proofs.Common.{slice_set, slice_get, ◌≡◌, ◌≢◌, ◌<◌, ◌≤◌, ◌+◌, ◌*◌, ◌⊎◌, ℕ, zero, suc, Bool, true, false, List, [], ◌∷◌, ◌++◌, length, get_or, replicate, refl, sym, ap, ◌∙◌, subst, inl, inr, arith, Option, Some, None, get_or-set_other, length-set, cases_Bool, plain_block, block_of, length_where_sync, sync_length_of, desc_of, is_synchronized, Step, Store, stores_of, is_store, HasLastStores, get_or-set_same, length-replicate, eqb-true, eq-eqb, last_store, last_stores_grow, place_of, store_asked, HoldsSynchronized}
use Rattle.std.specs.Option.{option_and_then, unwrap_or}
use Rattle.std.proofs.Common.{◌==◌, ◌&&◌, if◌then◌else◌}
use Rattle.uds_gateway.specs.block_config.Config.{Configuration}
use Rattle.uds_gateway.specs.block_config.declared.block.BlockDesc.{BlockDesc}
use Rattle.uds_gateway.specs.block_config.declared.block.RamKind.TheVariants as ram
use Rattle.uds_gateway.specs.block_config.declared.block.RamKind.{RamKind}

-- SYNCHRONIZED BLOCKS

sync_by : (kind : RamKind) (n m : ℕ) → length_where_sync kind n ≡ Some m → (is_synchronized kind ≡ true) × (n ≡ m)
sync_by ram.Sync n m is = (refl, cc)
sync_by kind n m is = absurd (cc is)

sync_in : (o : Option BlockDesc) (n : ℕ) → option_and_then (λ b. length_where_sync b.ram b.length) o ≡ Some n → (is_synchronized (unwrap_or o (plain_block 0)).ram ≡ true) × ((unwrap_or o (plain_block 0)).length ≡ n)
sync_in None n is = absurd (cc is)
sync_in (Some b) n is = sync_by b.ram b.length n is

-- a block with the length of a synchronized one is synchronized, and has it
pub is_sync : (c : Configuration) (id n : ℕ) → sync_length_of c id ≡ Some n → (is_synchronized (desc_of c id).ram ≡ true) × ((desc_of c id).length ≡ n)
is_sync c id n is = sync_in (block_of c id) n is

within_by : (blocks : List BlockDesc) (i n : ℕ) → option_and_then (λ b. length_where_sync b.ram b.length) (slice_get blocks i) ≡ Some n → i < length blocks
within_by [] i n is = cc
within_by (b ∷ bs) zero n is = omega arith
within_by (b ∷ bs) (suc i) n is = let less = within_by bs i n is in omega (arith, less)

-- and is configured
pub is_within : (c : Configuration) (id n : ℕ) → sync_length_of c id ≡ Some n → id < length c.blocks + 1
is_within c zero n is = cc
is_within c (suc i) n is = let less = within_by c.blocks i n is in omega (arith, less)

-- FROM STEP TO STEP

pub same_table : (c : Configuration) (before : List Step) (x : Step) (table : List ℕ) → is_store x.kind ≡ false → HasLastStores c before table → HasLastStores c (before ++ x ∷ []) table
same_table c before x table none has = record {
  size = has.size;
  numbers = λ caller block few. has.numbers caller block few ∙ ap (λ n. if is_synchronized (desc_of c block).ram then n else 0) (sym ((last_stores_grow caller block before).0 x none));
}

places_apart : (caller block who id : ℕ) → caller ≤ 15 → who ≤ 15 → place_of caller block ≡ place_of who id → (block ≡ id) × (caller ≡ who)
places_apart caller block who id few small same = (omega (arith, same), omega (arith, same))

-- the place of this caller and block, or another one
here_or_not : (caller block who id : ℕ) → caller ≤ 15 → who ≤ 15 → ((block ≡ id) × (who ≡ caller)) ⊎ ((((block == id) && (who == caller)) ≡ false) × (place_of caller id ≢ place_of who block))
here_or_not caller block who id few small = elim (cases_Bool (block == id)) [
  | inl one ↦ elim (cases_Bool (who == caller)) [
    | inl own ↦ inl (eqb-true block id one, eqb-true who caller own)
    | inr other ↦ inr (rw one other, λ same. let back : (who == caller) ≡ true = eq-eqb who caller (sym (places_apart caller id who block few small same).1) in absurd (cc (back, other)))
  ]
  | inr other ↦ inr (rw other refl, λ same. let back : (block == id) ≡ true = eq-eqb block id (sym (places_apart caller id who block few small same).0) in absurd (cc (back, other)))
]

pub noted_table : (c : Configuration) (before : List Step) (line who block number : ℕ) (content table : List ℕ) → who ≤ 15 → is_synchronized (desc_of c block).ram ≡ true → block < length c.blocks + 1
    → number ≡ length (stores_of block before) + 1 → HasLastStores c before table
    → HasLastStores c (before ++ record { line = line; caller = who; kind = Store block content } ∷ []) (slice_set table (place_of who block) number)
noted_table c before line who block number content table small sync within is has = record {
  size = simp length-set has.size;
  numbers = λ caller id few. by_place caller id few (here_or_not caller block who id few small);
}
  where
    after : List Step
    after = before ++ record { line = line; caller = who; kind = Store block content } ∷ []

    inside : place_of who block < length table
    inside = let size = has.size in omega (arith, size, within, small)

    by_place : (caller id : ℕ) → caller ≤ 15 → ((block ≡ id) × (who ≡ caller)) ⊎ ((((block == id) && (who == caller)) ≡ false) × (place_of caller id ≢ place_of who block))
        → get_or (slice_set table (place_of who block) number) (place_of caller id) 0 ≡ store_asked c after caller id
    by_place caller id few (inl same) =
        let last : last_store caller id after ≡ length (stores_of id before) + 1 = (last_stores_grow caller id before).1 line who block content ∙ rw (eq-eqb block id same.0, eq-eqb who caller same.1) refl in
        ap (λ n. get_or (slice_set table (place_of who block) number) n 0) (ap (λ n. place_of n id) (sym same.1) ∙ ap (place_of who) (sym same.0)) ∙ get_or-set_same table (place_of who block) number 0 inside
        ∙ is ∙ ap (λ n. length (stores_of n before) + 1) same.0 ∙ sym last ∙ sym (rw (subst (λ (n : ℕ). is_synchronized (desc_of c n).ram ≡ true) same.0 sync) refl)
    by_place caller id few (inr other) =
        let last : last_store caller id after ≡ last_store caller id before = (last_stores_grow caller id before).1 line who block content ∙ rw other.0 refl in
        get_or-set_other table (place_of who block) (place_of caller id) number 0 other.1 ∙ has.numbers caller id few ∙ ap (λ n. if is_synchronized (desc_of c id).ram then n else 0) (sym last)

-- NOTHING STORED YET

none_by : (b : Bool) (n : ℕ) → n ≡ 0 → n ≡ (if b then n else n)
none_by true n is = refl
none_by false n is = refl

none_asked : (c : Configuration) (caller block : ℕ) → 0 ≡ store_asked c [] caller block
none_asked c caller block = none_by (is_synchronized (desc_of c block).ram) 0 refl

pub first_table : (c : Configuration) → HasLastStores c [] (replicate (16 * (length c.blocks + 1)) 0)
first_table c = record {
  size = length-replicate (16 * (length c.blocks + 1)) 0;
  numbers = λ caller block few. zeros (16 * (length c.blocks + 1)) (place_of caller block) ∙ none_asked c caller block;
}
  where
    zeros : (n i : ℕ) → get_or {A = ℕ} (replicate {A = ℕ} n 0) i 0 ≡ 0
    zeros (suc n) (suc i) = zeros n i
    zeros n i = refl

-- what the table has holds synchronized blocks alone
pub holds_synchronized : (c : Configuration) (before : List Step) (table : List ℕ) → HasLastStores c before table → HoldsSynchronized c table
holds_synchronized c before table has caller block few none = has.numbers caller block few ∙ rw none refl
