-- A file of bytes.
use Rattle.std.specs.Prelude.{◌≡◌, ◌⊎◌, ◌≤◌, ◌+◌, ℕ, Bool, true, false, List, [], ◌∷◌, length, Option, Some, None}
use Rattle.fls_model.specs.Bytes.{spliced}

-- The bytes that reads give, and those that the disk holds: what a power cut leaves. Behind a sync that failed a file is lost until
-- it is settled: what the system gives may be other than what the disk has, and reads say nothing. Of a file that couldn't be
-- settled both are the bytes that are found once it can be read, by a later settling or behind a power cut.
pub record FileBytes : Type 0 where
  pub now : List ℕ
  pub disk : List ℕ
  pub lost : Bool

-- as many bytes, each of them the old one or the new one
abbrev pub Mixed : List ℕ → List ℕ → List ℕ → Type 0
Mixed [] [] [] = Unit {0}
Mixed (x ∷ xs) (y ∷ ys) (z ∷ zs) = ((z ≡ x) ⊎ (z ≡ y)) × Mixed xs ys zs
Mixed _ _ _ = ⊥

-- what settling does: reads give what the disk has. Each byte that was written since the last sync that
-- was done is the old one or the new one there.
pub record Settles (ok : Bool) (old new : FileBytes) : Type 0 where
  pub some : length old.disk ≡ length old.now → Mixed old.disk old.now new.now × (new.disk ≡ new.now)
  pub done : ok ≡ true → (new.disk ≡ new.now) × (new.lost ≡ false)
  pub brought : ok ≡ true → old.lost ≡ false → new.now ≡ old.now

-- what a write does to a file that isn't lost, by whether it was done: bytes behind the end make the file longer. Of a write into
-- the file that failed any part may be there, and of each such write any part may be on the disk before the next sync.
pub record Writes (address : ℕ) (bytes : List ℕ) (ok : Bool) (old new : FileBytes) : Type 0 where
  pub done : ok ≡ true → old.lost ≡ false → address ≤ length old.now → new.now ≡ spliced old.now address bytes
  pub failed : ok ≡ false → old.lost ≡ false → address + length bytes ≤ length old.now → Mixed old.now (spliced old.now address bytes) new.now
  pub disk : old.lost ≡ false → old.disk ≡ old.now → address + length bytes ≤ length old.now → Mixed old.now (spliced old.now address bytes) new.disk
  pub lost : new.lost ≡ old.lost

-- What a sync does to a file that isn't lost: the disk holds what reads give. Where it failed, each byte that was written since the
-- last sync that was done is the old one or the new one on the disk, and the file is lost: the system may forget that it has to
-- write it, so that the next sync is done and brings nothing of it.
pub record Syncs (ok : Bool) (old new : FileBytes) : Type 0 where
  pub done : ok ≡ true → old.lost ≡ false → (new.now ≡ old.now) × (new.disk ≡ old.now) × (new.lost ≡ false)
  pub failed : ok ≡ false → old.lost ≡ false → length old.disk ≡ length old.now → Mixed old.disk old.now new.disk × Mixed old.disk old.now new.now

-- the file has no bytes, where that was done
pub record Clears (ok : Bool) (old new : FileBytes) : Type 0 where
  pub done : ok ≡ true → old.lost ≡ false → new.now ≡ []
  pub lost : new.lost ≡ old.lost

-- of a file that may not be open
abbrev pub held_by : {T : Type 0} → (T → Option FileBytes) → Option T → Option FileBytes
held_by held None = None
held_by held (Some file) = held file
