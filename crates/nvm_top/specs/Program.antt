-- The program: the command that its words name, on the flash that they name.
use Rattle.std.specs.Prelude.{◌≡◌, ℕ, Bool, List, [], Option, Some, None, Result, Ok, Err}
use Rattle.std.specs.Option.{option_map_or}
use Rattle.nvm_flash.specs.fls_model.Memory.{in_memory}
use Rattle.nvm_flash.specs.fls_model.Told.{Told}
use Rattle.nvm_words.specs.Words.{command_of, image_path, is_dump}
use Rattle.nvm_lines.specs.declared.status.Status.{Status}
use Rattle.nvm_lines.specs.declared.status.Status.TheVariants as status
use Rattle.nvm_lines.specs.Status.{code_of_status}
use Rattle.nvm_top.specs.Commands.{Ended, KeepsCommand}

-- the flash in the image file of that path, which `dump` reads alone; where the words name no file, one of no bytes in memory
abbrev pub flash_of : (List ℕ → Bool → Told) → List (List ℕ) → Told
flash_of opened words = option_map_or (λ path. opened path (is_dump (command_of words))) (image_path words) (in_memory [] 0).told

-- What comes back: the flash in the file of that path. What opens a file opened none where there is no path, or memory was wanting before.
abbrev pub ComesBack : {Image Opener : Type 0} → (Image → Told) → Opener → Option (List ℕ) → Result Image Opener → Status → (entry exit : Told) → Type 0
ComesBack told opener None back x entry exit = back ≡ Err opener
ComesBack told opener (Some path) (Ok image) x entry exit = told image ≡ exit
ComesBack told opener (Some path) (Err unused) x entry exit = (unused ≡ opener) × (x ≡ status.Memory) × (exit ≡ entry)

-- a call by its status and its flash, before and behind, keeps what the command keeps, and ends with the code of the status
abbrev pub IsExecuted : {Image Opener : Type 0} → List (List ℕ) → (List ℕ → Bool → Told) → (Image → Told) → Opener → (Status → (entry exit : Told) → Ended) → (code : ℕ) → Result Image Opener → Type 0
IsExecuted words opened told opener call code back =
    (x : Status) × (exit : Told) × (code ≡ code_of_status x) × KeepsCommand (command_of words) (call x (flash_of opened words) exit)
    × ComesBack told opener (image_path words) back x (flash_of opened words) exit
