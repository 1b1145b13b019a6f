-- The looks of the worked runs, and the stores that they showed.
use Rattle.std.specs.Prelude.{slice_get, take, Contains, IsSome}
use Rattle.std.proofs.Common.{◌≡◌, ◌==◌, ◌<◌, ◌≤◌, ℕ, zero, suc, false, IsTrue, List, [], ◌∷◌, ◌++◌, length, Option, Some, None, refl, ap, subst, arith}
use Rattle.std.proofs.lemmas.Bool.{ne_eqb, false≢true}
use Rattle.block_machine.specs.Words.{Status, TookContent, TookStale, Entry}
use Rattle.block_machine.specs.Cases.{bytes_1, sync_plain}
use Rattle.script_walks.specs.Words.{Step, AskStep, Await}
use Rattle.script_walks.specs.Walk.{store_by}
use Rattle.script_walks.specs.Callers.{program_of, requests_of, asks_of, is_over, WaitedFor, IsInOrder}
use Rattle.script_walks.specs.Looks.{Look, AreInOrder, CanBeMade, CanBeStored}
use Rattle.script_walks.specs.Runs.{IsRun}
use Rattle.script_walks.specs.Cases.{by, saw, stores_and_writes, takes, writes_and_stores, takes_later_store, writes_twice, takes_twice}
use Rattle.script_walks.proofs.Runs.{KeepsAwaits, awaited, no_awaits, none_is, some_is}

-- ORDER

no_less : (i : ℕ) → i < 0 → ⊥
no_less i less = omega arith

pub one_look : (l : Look) → AreInOrder (l ∷ [])
one_look l i zero a b less at there = absurd (no_less i less)
one_look l i (suc j) a b less at there = absurd (none_is b there)

pub two_looks : (l m : Look) → l.entry ≤ m.entry → l.shown ≤ m.shown → AreInOrder (l ∷ m ∷ [])
two_looks l m entries shown i zero a b less at there = absurd (no_less i less)
two_looks l m entries shown zero (suc zero) a b less at there =
    subst (λ (x : Look). (x.entry ≤ b.entry) × (x.block ≡ b.block → x.shown ≤ b.shown)) (some_is l a at)
    (subst (λ (y : Look). (l.entry ≤ y.entry) × (l.block ≡ y.block → l.shown ≤ y.shown)) (some_is m b there) (entries, λ same. shown))
two_looks l m entries shown (suc i) (suc zero) a b less at there = absurd (no_less i (omega arith))
two_looks l m entries shown i (suc (suc j)) a b less at there = absurd (none_is b there)

pub no_way_back : AreInOrder (saw 2 1 ++ saw 6 0) → ⊥
no_way_back order = let less : 1 ≤ 0 = (order 0 1 _ _ (omega arith) refl refl).1 refl in omega (arith, less)

not_1 : (n : ℕ) → (1 == suc (suc n)) ≡ false
not_1 n = ne_eqb 1 (suc (suc n)) (λ e. omega arith)

-- who has no program, and asks nothing, keeps to it
no_order : (caller : ℕ) (steps : List Step) (h : List Entry) → program_of caller steps ≡ [] → asks_of caller h ≡ [] → IsInOrder sync_plain caller (program_of caller steps) h
no_order caller steps h none nothing = rw none (record { requests = rw nothing refl; awaits = no_awaits sync_plain _ _ })

-- A COPY AND ITS LOOK

-- store 0 is there from the first
no_store : (steps : List Step) (h : List Entry) → CanBeStored sync_plain steps 2 0 h
no_store steps h place x at some is = absurd (omega (arith, is))

pub no_stale : IsRun sync_plain stores_and_writes (saw 2 0) (takes (TookStale 1 0 1)) → ⊥
no_stale run = run.shown.1.1.0

nothing_seen : (l : Look) → Contains [] l → ⊥
nothing_seen l (k, few, is) = omega (arith, few)

pub no_content_look : IsRun sync_plain stores_and_writes [] (takes (TookContent bytes_1 1)) → ⊥
no_content_look run = nothing_seen _ run.shown.1.1.0.0.seen

one_seen : (l m : Look) → Contains (l ∷ []) m → l ≡ m
one_seen l m (zero, few, is) = is
one_seen l m (suc k, few, is) = absurd (omega (arith, few))

pub no_other_entry : IsRun sync_plain stores_and_writes (saw 1 1) (takes (TookContent bytes_1 1)) → ⊥
no_other_entry run = let same : 1 ≡ 2 = ap (λ (l : Look). l.entry) (one_seen _ _ run.shown.1.1.0.0.seen) in omega (arith, same)

pub no_other_store : IsRun sync_plain stores_and_writes (saw 2 0) (takes (TookContent bytes_1 1)) → ⊥
no_other_store run = let same : 0 ≡ 1 = ap (λ (l : Look). l.shown) (one_seen _ _ run.shown.1.1.0.0.seen) in omega (arith, same)

-- STORES IN TIME

-- a step that stores nothing is no store
not_a_store : (x y : Step) → Some x ≡ Some y → (IsSome (store_by 2 x.caller x.kind) → ⊥) → IsSome (store_by 2 y.caller y.kind) → ⊥
not_a_store x y at not = subst (λ (z : Step). IsSome (store_by 2 z.caller z.kind) → ⊥) (some_is x y at) not

none_some : (o : Option (ℕ × List ℕ)) → o ≡ None → IsSome o → ⊥
none_some None none is = cc
none_some (Some x) none is = cc

late_order : (caller : ℕ) → IsInOrder sync_plain caller (program_of caller (writes_and_stores [])) takes_later_store
late_order zero = record { requests = refl; awaits = no_awaits sync_plain _ _ }
late_order (suc zero) = record { requests = refl; awaits = awaits }
  where
    awaits : KeepsAwaits sync_plain 1 (program_of 1 (writes_and_stores [])) takes_later_store
    awaits zero block x at kind more = let same = some_is _ x at in cc
    awaits (suc zero) block x at kind more = let same = some_is _ x at in cc
    awaits (suc (suc n)) block x at kind more = absurd (none_is x at)
late_order (suc (suc n)) = no_order (suc (suc n)) (writes_and_stores []) takes_later_store (simp (not_1 n) refl) (simp (not_1 n) refl)

-- what stands at a place has what the step there has
at_place : (steps : List Step) (h : List Entry) (place : ℕ) (x y : Step) → Some x ≡ Some y → CanBeMade sync_plain x.caller (program_of x.caller (take place steps)) h → CanBeMade sync_plain y.caller (program_of y.caller (take place steps)) h
at_place steps h place x y at made = subst (λ (z : Step). CanBeMade sync_plain z.caller (program_of z.caller (take place steps)) h) (some_is x y at) made

late_made : CanBeStored sync_plain (writes_and_stores []) 2 1 (take 2 takes_later_store)
late_made zero x at some is = absurd (not_a_store _ x at (none_some _ refl) some)
late_made (suc zero) x at some is = at_place (writes_and_stores []) _ 1 _ x at (record { requests = omega arith; waits = waits })
  where
    waits : (n block : ℕ) (y : Step) → slice_get (program_of 1 (take 1 (writes_and_stores []))) n ≡ Some y → y.kind ≡ Await block
        → WaitedFor 1 block (length (requests_of sync_plain (take n (program_of 1 (take 1 (writes_and_stores [])))))) (take 2 takes_later_store)
    waits zero block y there kind = let same = some_is _ y there in cc
    waits (suc n) block y there kind = absurd (none_is y there)
late_made (suc (suc place)) x at some is = absurd (none_is x at)

pub late_run : IsRun sync_plain (writes_and_stores []) (saw 2 1) takes_later_store
late_run = record {
  one_start = refl;
  order = late_order;
  in_order = one_look _;
  shown = (tt, (tt, ((record { seen = (0, omega arith, refl); made = late_made }, refl), tt)));
}

-- the write is pending where it takes the store
still_waits : WaitedFor 1 2 1 (take 2 takes_later_store) → ⊥
still_waits w = by w.entries w.within w.asked w.over
  where
    by : (n : ℕ) → n ≤ 2 → length (asks_of 1 (take n (take 2 takes_later_store))) ≡ 1 → IsTrue (is_over 2 (take n (take 2 takes_later_store))) → ⊥
    by zero within asked over = omega arith
    by (suc zero) within asked over = omega arith
    by (suc (suc zero)) within asked over = false≢true over
    by (suc (suc (suc n))) within asked over = omega (arith, within)

pub no_store_behind_its_wait : IsRun sync_plain (writes_and_stores (by 1 (Await 2) ∷ [])) (saw 2 1) takes_later_store → ⊥
no_store_behind_its_wait run = still_waits ((run.shown.1.1.0.0.made 2 _ refl refl refl).waits 1 2 _ refl refl)

pub no_store_behind_a_request : IsRun sync_plain (writes_and_stores (by 1 (AskStep (Status 2)) ∷ [])) (saw 2 1) takes_later_store → ⊥
no_store_behind_a_request run = let few : 2 ≤ 1 = (run.shown.1.1.0.0.made 2 _ refl refl refl).requests in omega (arith, few)

-- the first write is over behind its Post
first_over : (h : List Entry) → take 5 h ≡ take 5 takes_twice → 5 ≤ length h → WaitedFor 1 2 1 h
first_over h begins long = record {
  entries = 5;
  some = omega arith;
  within = long;
  asked = rw begins refl;
  over = rw begins refl;
}

twice_order : (caller : ℕ) → IsInOrder sync_plain caller (program_of caller writes_twice) takes_twice
twice_order zero = record { requests = refl; awaits = no_awaits sync_plain _ _ }
twice_order (suc zero) = record { requests = refl; awaits = awaits }
  where
    awaits : KeepsAwaits sync_plain 1 (program_of 1 writes_twice) takes_twice
    awaits zero block x at kind more = let same = some_is _ x at in cc
    awaits (suc zero) block x at kind more = subst (λ (b : ℕ). WaitedFor 1 b 1 takes_twice) (awaited x block at kind) (first_over takes_twice refl (omega arith))
    awaits (suc (suc zero)) block x at kind more = let same = some_is _ x at in cc
    awaits (suc (suc (suc zero))) block x at kind more = let same = some_is _ x at in cc
    awaits (suc (suc (suc (suc n)))) block x at kind more = absurd (none_is x at)
twice_order (suc (suc n)) = no_order (suc (suc n)) writes_twice takes_twice (simp (not_1 n) refl) (simp (not_1 n) refl)

twice_made : CanBeStored sync_plain writes_twice 2 1 (take 6 takes_twice)
twice_made zero x at some is = absurd (not_a_store _ x at (none_some _ refl) some)
twice_made (suc zero) x at some is = absurd (not_a_store _ x at (none_some _ refl) some)
twice_made (suc (suc zero)) x at some is = at_place writes_twice _ 2 _ x at (record { requests = omega arith; waits = waits })
  where
    waits : (n block : ℕ) (y : Step) → slice_get (program_of 1 (take 2 writes_twice)) n ≡ Some y → y.kind ≡ Await block
        → WaitedFor 1 block (length (requests_of sync_plain (take n (program_of 1 (take 2 writes_twice))))) (take 6 takes_twice)
    waits zero block y there kind = let same = some_is _ y there in cc
    waits (suc zero) block y there kind = subst (λ (b : ℕ). WaitedFor 1 b 1 (take 6 takes_twice)) (awaited y block there kind) (first_over (take 6 takes_twice) refl (omega arith))
    waits (suc (suc n)) block y there kind = absurd (none_is y there)
twice_made (suc (suc (suc zero))) x at some is = absurd (not_a_store _ x at (none_some _ refl) some)
twice_made (suc (suc (suc (suc place)))) x at some is = absurd (none_is x at)

pub twice_run : IsRun sync_plain writes_twice (saw 2 0 ++ saw 6 1) takes_twice
twice_run = record {
  one_start = refl;
  order = twice_order;
  in_order = two_looks _ _ (omega arith) (omega arith);
  shown = (tt, (tt, ((record { seen = (0, omega arith, refl); made = no_store writes_twice _ }, refl), (tt, (tt, (tt, ((record { seen = (1, omega arith, refl); made = twice_made }, refl), tt)))))));
}
