-- Stores, whole, with their numbers.
use Rattle.std.specs.Prelude.{◌≡◌, ℕ, ◌+◌, ◌^◌, min, List, Option}
use mathlib.Core.Option.{some}
use lib.ListN.{get_elem?}
use Rattle.ram_mirrors.specs.declared.view.Store.{Store}
use Rattle.ram_mirrors.specs.declared.buffer.Buffer.{Buffer}

-- a store of this content, with what was handed along
abbrev pub store_of : {N : Type 0} → List ℕ → Option N → Store N
store_of content note = record { content = content; note = note }

-- the store that a buffer has
abbrev pub stored_in : {N : Type 0} → Buffer N → Store N
stored_in b = store_of b.bytes.items b.note

-- all stores, the first one first
abbrev pub Contents : Type 0 → Type 0
Contents N = List (Store N)

-- the number of the k-th store, counted from 1. It stands still at 2^60
abbrev pub store_number : ℕ → ℕ
store_number k = min k (2 ^ 60)

-- the pair is one of these stores, whole, with its number
abbrev pub IsStore : {N : Type 0} → Contents N → ℕ × Store N → Type 0
IsStore stores p = (k : ℕ) × (p.0 ≡ store_number (k + 1)) × (get_elem? stores k ≡ some p.1)

abbrev pub AllStored : {N : Type 0} → Contents N → List (ℕ × Store N) → Type 0
AllStored {N} stores got = (i : ℕ) (p : ℕ × Store N) → get_elem? got i ≡ some p → IsStore stores p
