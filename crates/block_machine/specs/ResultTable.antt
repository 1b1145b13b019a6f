-- The table of results: what a job ends with, by the outcomes of its device operations, and where the content comes from
-- that it gives. The outcomes that it is taken over stand in Results.
use Rattle.std.specs.Prelude.{Bool, true, false, List, [], ◌∷◌, if◌then◌else◌}
use Rattle.block_machine.specs.Words.{ReqResult, Fine, NotOk, IntegrityFailed, BlockSkipped, Invalidated, RedundancyFailed, Restored, JobKind, ReadJob, RestoreJob, Outcome, WroteMark, ReadContent, FoundErased, FoundInvalid, GivenFrom, FromNowhere, FromDevice, FromDefaults, FromRom}

-- the result 8 with the defaults, or another one with nothing where the block has none
abbrev pub defaults_or : Bool → ReqResult → ReqResult × GivenFrom
defaults_or true r = (Restored, FromDefaults)
defaults_or false r = (r, FromNowhere)

-- a read of one instance of a block that has defaults or none
abbrev pub read_one : Bool → Outcome → ReqResult × GivenFrom
read_one defaults ReadContent = (Fine, FromDevice)
read_one defaults FoundInvalid = (Invalidated, FromNowhere)
read_one defaults FoundErased = defaults_or defaults IntegrityFailed
read_one defaults outcome = defaults_or defaults NotOk

-- a read of copy 0, and then of copy 1, which counts only where copy 0 gave neither a content nor Invalid
abbrev pub read_copies : Bool → Outcome → Outcome → ReqResult × GivenFrom
read_copies defaults ReadContent copy_1 = (Fine, FromDevice)
read_copies defaults FoundInvalid copy_1 = (Invalidated, FromNowhere)
read_copies defaults FoundErased ReadContent = (Fine, FromDevice)
read_copies defaults copy_0 ReadContent = (RedundancyFailed, FromDevice)
read_copies defaults copy_0 FoundInvalid = (Invalidated, FromNowhere)
read_copies defaults FoundErased FoundErased = defaults_or defaults IntegrityFailed
read_copies defaults copy_0 copy_1 = defaults_or defaults NotOk

-- each instance was written, none, or one of two
abbrev pub write_result : List Outcome → ReqResult
write_result (WroteMark ∷ []) = Fine
write_result (WroteMark ∷ WroteMark ∷ rest) = Fine
write_result (WroteMark ∷ copy_1 ∷ rest) = RedundancyFailed
write_result (copy_0 ∷ WroteMark ∷ rest) = RedundancyFailed
write_result outcomes = NotOk

-- What a job ends with, by its kind and the outcomes of its instances in order: none of a ROM dataset, which is given as
-- it is, and two of a redundant block, of which a read needs the second only as said above.
abbrev pub table : Bool → JobKind → List Outcome → ReqResult × GivenFrom
table defaults ReadJob [] = (Fine, FromRom)
table defaults ReadJob (outcome ∷ []) = read_one defaults outcome
table defaults ReadJob (copy_0 ∷ copy_1 ∷ rest) = read_copies defaults copy_0 copy_1
table defaults RestoreJob outcomes = (Fine, FromDefaults)
table defaults kind outcomes = (write_result outcomes, FromNowhere)

-- what a member of a sweep ends with that isn't picked: a WriteAll skips it, a ReadAll gives its defaults where it has some
abbrev pub unpicked : Bool → Bool → ReqResult × GivenFrom
unpicked writes defaults = if writes then (BlockSkipped, FromNowhere) else defaults_or defaults IntegrityFailed
