-- What was seen of a file.
use Rattle.std.specs.Prelude.{◌≡◌, ◌++◌, ℕ, Bool, true, false, List}
use Rattle.fls_files.specs.ByteFile.{FileBytes}

-- these are the first bytes that reads give of a file that isn't lost
pub record IsFront (seen : List ℕ) (f : FileBytes) : Type 0 where
  pub known : f.lost ≡ false
  pub rest : List ℕ
  pub whole : f.now ≡ seen ++ rest

-- of one that was settled, and of which no sync has failed since
abbrev pub HasSeen : Bool → List ℕ → FileBytes → Type 0
HasSeen settled seen f = settled ≡ true → IsFront seen f
