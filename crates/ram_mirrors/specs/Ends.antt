-- What contracts see of a mirror and of its two ends, and what a look does to a taker.
use Rattle.std.specs.Prelude.{◌≡◌, ℕ, ◌+◌, ◌-◌, ◌^◌, ◌<◌, min, List, [], ◌∷◌, ◌++◌, length, replicate, Option, None}
use Rattle.atomic_table.specs.Seated.{TableId}
use Rattle.ram_mirrors.specs.declared.view.Store.{Store}
use Rattle.ram_mirrors.specs.Stores.{Contents, store_number, store_of}

-- which mirror it is, and the length of its contents
pub record MirrorValue : Type 0 where
  pub table : TableId
  pub size : ℕ

-- which mirror the owner belongs to, and all that it stored
pub record OwnerValue (N : Type 0) : Type 0 where
  pub table : TableId
  pub size : ℕ
  pub stores : Contents N

-- which mirror the taker belongs to, the pairs that it got, how many stores there were at its last look, how often it looked, the
-- content of its last take, what was handed along with it and is still there, and how many stores there were at each of its steps on the word: a take after a look is a step more
pub record TakerValue (N : Type 0) : Type 0 where
  pub table : TableId
  pub size : ℕ
  pub got : List (ℕ × Store N)
  pub shown : ℕ
  pub looks : ℕ
  pub content : List ℕ
  pub note : Option N
  pub all_shown : List ℕ

abbrev pub IsOwnerOf : {N : Type 0} → MirrorValue → OwnerValue N → Type 0
IsOwnerOf m o = (o.table ≡ m.table) × (o.size ≡ m.size)

abbrev pub IsTakerOf : {N : Type 0} → MirrorValue → TakerValue N → Type 0
IsTakerOf m t = (t.table ≡ m.table) × (t.size ≡ m.size)

-- a count of looks as the taker keeps it. It stands still at its type's end
abbrev pub counted : ℕ → ℕ
counted n = min n (2 ^ 64 - 1)

-- a taker that has not looked yet
abbrev pub IsFresh : {N : Type 0} → ℕ → TakerValue N → Type 0
IsFresh size t = (t.got ≡ []) × (t.shown ≡ 0) × (t.looks ≡ 0) × (t.content ≡ replicate size 0) × (t.note ≡ None)

-- the taker looked once, and the word showed no store since the last take
abbrev pub NothingNewer : {N : Type 0} → TakerValue N → TakerValue N → Type 0
NothingNewer t u = (u.got ≡ t.got) × (u.shown ≡ t.shown) × (u.looks ≡ t.looks + 1) × (u.content ≡ t.content) × (u.note ≡ t.note)

-- the taker looked once, and got the newest store, which came after its last take
abbrev pub TakesNewest : {N : Type 0} → TakerValue N → ℕ → TakerValue N → Type 0
TakesNewest t n u = (t.shown < u.shown) × (n ≡ store_number u.shown) × (u.got ≡ t.got ++ (n, store_of u.content u.note) ∷ []) × (length u.content ≡ u.size) × (u.looks ≡ t.looks + 1)

-- its last step on the word showed the newest store
abbrev pub ShowsNewest : {N : Type 0} → TakerValue N → TakerValue N → Type 0
ShowsNewest t u = (more : List ℕ) × (u.all_shown ≡ (t.all_shown ++ more) ++ u.shown ∷ [])
