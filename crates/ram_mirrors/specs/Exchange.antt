-- The rule of the exchange: one word, three slots, and what each kind of step tells.
-- The word is `home` after a take, and `home + 4 + 8 * number` after a store: `home` is the slot that neither end has, below 3.
use Rattle.std.specs.Prelude.{◌≡◌, ◌≢◌, ℕ, ◌+◌, ◌*◌, ◌/◌, ◌%◌, ◌<◌, ◌≤◌, ◌⊎◌, List, [], ◌∷◌, ◌++◌, length, Bool, true, false, None}
use mathlib.Core.Option.{Option, some, none}
use lib.ListN.{get_elem?}
use Rattle.atomic_table.specs.Table.{State, Me, Step}
use Rattle.ram_mirrors.specs.declared.view.View.{View}
use Rattle.ram_mirrors.specs.declared.view.Store.{Store}
use Rattle.ram_mirrors.specs.Stores.{Contents, store_number, store_of, AllStored}

-- x is the newest store
abbrev pub IsLast : {N : Type 0} → Contents N → Store N → Type 0
IsLast {N} log x = (front : Contents N) × (log ≡ front ++ x ∷ [])

-- the view of the seat that the table is made with
abbrev pub maker : {N : Type 0} → ℕ → View N
maker size = record {
  size = size;
  owns = true;
  takes = true;
  owner_out = false;
  taker_out = false;
  owner_slot = 0;
  taker_slot = 1;
  stores = [];
  got = [];
  taken = 0;
  shown = 0;
  looks = 0;
  all_shown = [];
}

-- the views after a store, a look and a take
abbrev pub stored : {N : Type 0} → View N → Store N → ℕ → View N
stored v x slot = record v { stores = v.stores ++ x ∷ []; owner_slot = slot }

abbrev pub looked : {N : Type 0} → View N → ℕ → View N
looked v n = record v { shown = n; looks = v.looks + 1; all_shown = v.all_shown ++ n ∷ [] }

abbrev pub took : {N : Type 0} → View N → ℕ → Store N → ℕ → View N
took v n x slot = record v { got = v.got ++ (store_number n, x) ∷ []; taken = n; shown = n; taker_slot = slot; all_shown = v.all_shown ++ n ∷ [] }

-- a look: the n-th store is the newest, and the word is 4 or more exactly where it came after the last take
abbrev pub Looks : {S N : Type 0} → Step S → Me S (View N) → ℕ → Me S (View N) → Type 0
Looks st m r m' = (n : ℕ) × (m'.1 ≡ m.1) × (m'.0 ≡ looked m.0 n) × (m.0.shown ≤ n) × (m.0.taken ≤ n) × (r < 4 → n ≡ m.0.taken) × (4 ≤ r → m.0.taken < n)

-- an end of the mirror: which seat has it, and which slot is its own
pub record End : Type 0 where
  pub seat : ℕ
  pub slot : ℕ

-- all stores, how many there were at the last take, and the three slots: the one at home, the owner's and the taker's
pub record Slots (N : Type 0) : Type 0 where
  pub log : Contents N
  pub taken : ℕ
  pub home : ℕ
  pub owner : End
  pub taker : End
  pub home_in : home < 3
  pub owner_in : owner.slot < 3
  pub taker_in : taker.slot < 3
  pub home_owner : home ≢ owner.slot
  pub home_taker : home ≢ taker.slot
  pub owner_taker : owner.slot ≢ taker.slot

module _ {S N : Type 0} (bytes : S → Store N) where
  -- a slot is out with its seat, or at home
  abbrev pub Lies : List (Option S) → ℕ → Bool → Type 0
  Lies homes k true = get_elem? homes k ≡ some none
  Lies homes k false = (y : S) × (get_elem? homes k ≡ some (some y))

  -- what the owner's view knows, and the taker's: all stores or the last take, and its slot
  abbrev pub FitsOwner : ℕ → Slots N → List (Option S) → ℕ → View N → Type 0
  FitsOwner size p homes j v = (j ≡ p.owner.seat) × (v.stores ≡ p.log) × Lies homes p.owner.slot v.owner_out × (v.owner_slot ≡ p.owner.slot) × (v.size ≡ size)

  abbrev pub FitsTaker : ℕ → Slots N → List (Option S) → ℕ → View N → Type 0
  FitsTaker size p homes j v = (j ≡ p.taker.seat) × (v.taken ≡ p.taken) × Lies homes p.taker.slot v.taker_out × (v.taker_slot ≡ p.taker.slot) × (v.size ≡ size)

  -- what is so of each view v, of the seat j: the stores are the owner's, the takes are the taker's, and each has its slot
  pub record Fits (size : ℕ) (p : Slots N) (homes : List (Option S)) (j : ℕ) (v : View N) : Type 0 where
    pub owns : v.owns ≡ true → FitsOwner size p homes j v
    pub takes : v.takes ≡ true → FitsTaker size p homes j v
    pub shown : v.shown ≤ length p.log
    pub agrees : AllStored p.log v.got

  -- the home slot has the newest store, which was not taken yet, or some old one
  abbrev pub Newest : List ℕ → Slots N → S → Type 0
  Newest words p y =
      ((words ≡ p.home ∷ []) × (p.taken ≡ length p.log))
      ⊎ ((words ≡ (p.home + 4 + 8 * store_number (length p.log)) ∷ []) × (p.taken < length p.log) × IsLast p.log (bytes y))

  -- the rule: the three slots are the one at home, the owner's and the taker's
  pub record Mirrored (size : ℕ) (s : State S (View N)) : Type 0 where
    pub slots : Slots N
    pub open slots use *
    pub three : length s.homes ≡ 3
    pub lies : (y : S) × (get_elem? s.homes home ≡ some (some y)) × (length (bytes y).content ≡ size) × Newest s.words slots y
    pub each : (j : ℕ) (v : View N) → get_elem? s.views j ≡ some v → Fits size slots s.homes j v

  -- the slots of a new mirror: any two, and one of the right length
  abbrev pub IsMade : ℕ → List S → Type 0
  IsMade size xs = (a : S) × (b : S) × (y : S) × (xs ≡ a ∷ b ∷ y ∷ []) × (length (bytes y).content ≡ size)

  -- what is in the slot that was taken last
  abbrev pub carried : List (ℕ × S) → Store N
  carried [] = store_of [] None
  carried (x ∷ xs) = bytes x.1

  -- the content that was carried becomes the newest store, and the owner has the slot that was at home
  abbrev pub Stores : Step S → Me S (View N) → ℕ → Me S (View N) → Type 0
  Stores st m r m' = (y : S) × (m'.1 ≡ (r % 4, y) ∷ []) × (length (bytes y).content ≡ m.0.size) × (m'.0 ≡ stored m.0 (carried m.1) (r % 4))

  -- the taker has the slot that was at home, with the newest store
  abbrev pub Takes : Step S → Me S (View N) → ℕ → Me S (View N) → Type 0
  Takes st m r m' = (n : ℕ) × (y : S) × (m'.1 ≡ (r % 4, y) ∷ []) × (length (bytes y).content ≡ m.0.size) × (m.0.shown ≤ n) × (r / 8 ≡ store_number n) × (m'.0 ≡ took m.0 n (bytes y) (r % 4))

-- the owner's half of a maker, and the taker's
abbrev pub owner_half : {N : Type 0} → View N → View N
owner_half v = record v { takes = false; got = []; shown = 0 }

abbrev pub taker_half : {N : Type 0} → View N → View N
taker_half v = record v { owns = false; stores = [] }

-- an owner that takes in what the taker got and was shown
abbrev pub whole_of : {N : Type 0} → View N → View N → View N
whole_of v w = record v { got = w.got; shown = w.shown }

abbrev pub nobody : {N : Type 0} → View N
nobody = record { size = 0; owns = false; takes = false; owner_out = false; taker_out = false; owner_slot = 0; taker_slot = 0; stores = []; got = []; taken = 0; shown = 0; looks = 0; all_shown = [] }

abbrev pub owner_begins : {N : Type 0} → View N → View N
owner_begins v = record v { owner_out = true }

abbrev pub taker_begins : {N : Type 0} → View N → View N
taker_begins v = record v { taker_out = true }

abbrev pub taker_ends : {N : Type 0} → View N → View N
taker_ends v = record v { takes = false; taker_out = false }

-- an end takes its first slot
abbrev pub Begins : {S N : Type 0} → (View N → ℕ) → (View N → View N) → Step S → Me S (View N) → ℕ → Me S (View N) → Type 0
Begins {S} {N} slot begun st m r m' = (y : S) × (m'.1 ≡ (slot m.0, y) ∷ []) × (m'.0 ≡ begun m.0)

abbrev pub BeginsOwner : {S N : Type 0} → Step S → Me S (View N) → ℕ → Me S (View N) → Type 0
BeginsOwner st m r m' = Begins (λ v. v.owner_slot) owner_begins st m r m'

abbrev pub BeginsTaker : {S N : Type 0} → Step S → Me S (View N) → ℕ → Me S (View N) → Type 0
BeginsTaker st m r m' = Begins (λ v. v.taker_slot) taker_begins st m r m'

abbrev pub EndsTaker : {S N : Type 0} → Step S → Me S (View N) → ℕ → Me S (View N) → Type 0
EndsTaker st m r m' = (m'.1 ≡ []) × (m'.0 ≡ taker_ends m.0)
