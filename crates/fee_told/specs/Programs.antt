-- What a program leaves of the active bank.
use Rattle.std.specs.Prelude.{◌≡◌, ◌≤◌, ◌<◌, ℕ, List, length}
use Rattle.fls_model.specs.Op.{MayLeave}
use Rattle.fee_image.specs.Image.{IsLegalLayout}
use Rattle.fee_image.specs.BankLaws.{program_of}
use Rattle.promise_device.specs.Making.{Making, banks_of}
use Rattle.promise_device.specs.Image.{IsOfLastGeneration}

-- a program behind the gate of any bank leaves the active bank active, with its generation
abbrev pub ProgramsKeepLast : Type 0
ProgramsKeepLast =
    (m : Making) (old new page : List ℕ) (k q : ℕ)
    → IsLegalLayout (banks_of m) → length page ≡ m.geometry.page → 2 ≤ q → q < (banks_of m).pages → MayLeave (program_of (banks_of m) k q page) old new
    → IsOfLastGeneration m old → IsOfLastGeneration m new
