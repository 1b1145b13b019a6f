-- The words of the steps.
use Rattle.std.specs.Prelude.{ℕ, nat_eq, List, [], ◌∷◌, codes, Option}
use Rattle.std.specs.List.{find}
use Rattle.std.specs.Cmp.Lexicographic.{pointwise}
use Rattle.nvm_script.specs.declared.word.Word.{Word}
use Rattle.nvm_script.specs.declared.word.Word.TheVariants.{Read, ReadRam, Write, WriteRam, Restore, RestoreRam, Erase, Invalidate, SetIndex, GetIndex, Protect, Lock, SetRam, Ram, Status, ReadAll, WriteAll, Cancel, Turn, Drain, Restart, Cut, CutSecond, Refuse, Await}

abbrev pub word_text : Word → List ℕ
word_text Read = codes "read"
word_text ReadRam = codes "readram"
word_text Write = codes "write"
word_text WriteRam = codes "writeram"
word_text Restore = codes "restore"
word_text RestoreRam = codes "restoreram"
word_text Erase = codes "erase"
word_text Invalidate = codes "invalidate"
word_text SetIndex = codes "setindex"
word_text GetIndex = codes "getindex"
word_text Protect = codes "protect"
word_text Lock = codes "lock"
word_text SetRam = codes "setram"
word_text Ram = codes "ram"
word_text Status = codes "status"
word_text ReadAll = codes "readall"
word_text WriteAll = codes "writeall"
word_text Cancel = codes "cancel"
word_text Turn = codes "turn"
word_text Drain = codes "drain"
word_text Restart = codes "restart"
word_text Cut = codes "cut"
word_text CutSecond = codes "cutee"
word_text Refuse = codes "refuse"
word_text Await = codes "await"

abbrev pub all_words : List Word
all_words =
    Write ∷ Read ∷ Drain ∷ Turn ∷ ReadRam ∷ WriteRam ∷ Restore ∷ RestoreRam ∷ Erase ∷ Invalidate ∷ SetIndex ∷ GetIndex ∷ Protect ∷ Lock
    ∷ SetRam ∷ Ram ∷ Status ∷ ReadAll ∷ WriteAll ∷ Cancel ∷ Restart ∷ Cut ∷ CutSecond ∷ Refuse ∷ Await ∷ []

-- the word that a text is
unfoldable pub word_of : List ℕ → Option Word
word_of text = find (λ w. pointwise nat_eq (word_text w) text) all_words
