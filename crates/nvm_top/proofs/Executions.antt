-- A call of the program, by the call of its command.
use Rattle.std.proofs.Common.{◌≡◌, ◌∙◌, ℕ, Bool, List, [], Option, Some, None, Ok, Err, refl, sym, ap, subst}
use Rattle.std.specs.Option.{option_map_or}
use Rattle.nvm_flash.specs.fls_model.Memory.{in_memory}
use Rattle.nvm_flash.specs.fls_model.Told.{Told}
use Rattle.nvm_lines.specs.nv_streams.Sink.{Written}
use Rattle.nvm_words.specs.Words.{command_of, image_path, is_dump}
use Rattle.nvm_lines.specs.declared.status.Status.{Status}
use Rattle.nvm_lines.specs.declared.status.Status.TheVariants as status
use Rattle.nvm_lines.specs.Status.{code_of_status}
use Rattle.nvm_top.specs.Commands.{ended, KeepsCommand}
use Rattle.nvm_top.specs.Program.{flash_of, ComesBack, IsExecuted}
use Rattle.nvm_top.proofs.Calls.{wanting}

abbrev flash_by : (List ℕ → Bool → Told) → List (List ℕ) → Option (List ℕ) → Told
flash_by opened words path = option_map_or (λ p. opened p (is_dump (command_of words))) path (in_memory [] 0).told

-- on the image file that the words name
pub on_file : {Image Opener : Type 0} (words : List (List ℕ)) (opened : List ℕ → Bool → Told) (told : Image → Told) (opener : Opener) (left left' : Option (List ℕ)) (reads reads' : ℕ) (written written' : Written) (writes writes' code : ℕ) (path : List ℕ) (image : Image) (x : Status) (entry exit : Told)
    → code ≡ code_of_status x → image_path words ≡ Some path → entry ≡ opened path (is_dump (command_of words)) → KeepsCommand (command_of words) (ended x left left' reads reads' written written' writes writes' entry exit) → told image ≡ exit
    → IsExecuted words opened told opener (λ y. ended y left left' reads reads' written written' writes writes') code (Ok image)
on_file words opened told opener left left' reads reads' written written' writes writes' code path image x entry exit ends named is keeps back =
    let same : entry ≡ flash_of opened words = is ∙ sym (ap (flash_by opened words) named) in (
      x,
      exit,
      ends,
      subst (λ (t : Told). KeepsCommand (command_of words) (ended x left left' reads reads' written written' writes writes' t exit)) same keeps,
      subst (λ (o : Option (List ℕ)). ComesBack told opener o (Ok image) x (flash_of opened words) exit) (sym named) back,
    )

-- in memory, where they name none
pub in_none : {Image Opener : Type 0} (words : List (List ℕ)) (opened : List ℕ → Bool → Told) (told : Image → Told) (opener : Opener) (left left' : Option (List ℕ)) (reads reads' : ℕ) (written written' : Written) (writes writes' code : ℕ) (x : Status) (entry exit : Told)
    → code ≡ code_of_status x → image_path words ≡ None → entry ≡ (in_memory [] 0).told → KeepsCommand (command_of words) (ended x left left' reads reads' written written' writes writes' entry exit)
    → IsExecuted words opened told opener (λ y. ended y left left' reads reads' written written' writes writes') code (Err opener)
in_none words opened told opener left left' reads reads' written written' writes writes' code x entry exit ends named is keeps =
    let same : entry ≡ flash_of opened words = is ∙ sym (ap (flash_by opened words) named) in (
      x,
      exit,
      ends,
      subst (λ (t : Told). KeepsCommand (command_of words) (ended x left left' reads reads' written written' writes writes' t exit)) same keeps,
      subst (λ (o : Option (List ℕ)). ComesBack told opener o (Err opener) x (flash_of opened words) exit) (sym named) refl,
    )

not_opened : {Image Opener : Type 0} (told : Image → Told) (opener : Opener) (path : Option (List ℕ)) (t : Told) → ComesBack told opener path (Err opener) status.Memory t t
not_opened told opener None t = refl
not_opened told opener (Some path) t = (refl, refl, refl)

-- and where memory was wanting before the command
pub on_nothing : {Image Opener : Type 0} (words : List (List ℕ)) (opened : List ℕ → Bool → Told) (told : Image → Told) (opener : Opener) (left : Option (List ℕ)) (reads : ℕ) (written : Written) (writes code : ℕ)
    → code ≡ code_of_status status.Memory → IsExecuted words opened told opener (λ x. ended x left left reads reads written written writes writes) code (Err opener)
on_nothing words opened told opener left reads written writes code ends =
    (status.Memory, flash_of opened words, ends, wanting (command_of words) left reads written writes (flash_of opened words), not_opened told opener (image_path words) (flash_of opened words))
