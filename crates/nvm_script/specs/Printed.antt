-- What the text of a history tells: each of its entries, whole.
use Rattle.std.specs.Prelude.{◌≡◌, ℕ, List, [], ◌∷◌, ◌++◌, map, Some}
use Rattle.std.specs.List.{flat_map}
use Rattle.nv_base.specs.declared.request.Request.TheVariants.{Write}
use Rattle.nv_base.specs.declared.request.Reply.{Reply}
use Rattle.nv_base.specs.declared.request.JobKind.{JobKind}
use Rattle.nv_base.specs.declared.entry.Taken.TheVariants.{Stale}
use Rattle.nv_base.specs.declared.entry.Entry.{Entry}
use Rattle.nv_base.specs.declared.entry.Entry.TheVariants.{Ask, Pick}
use Rattle.nvm_script.specs.Lines.{entry_line, end_line}
use Rattle.nvm_script.specs.Values.{IsEntryValue}

-- WHAT A LINE LEAVES OUT

-- a write of a content that the request brings has no store
abbrev pub HasNoStore : Entry → Type 0
HasNoStore (Ask caller (Write block (Some bytes) store) reply) = store ≡ 0
HasNoStore _ = Unit {0}

-- where every copy was too old, as many were tried as the block has tries
abbrev pub CountsTries : (ℕ → ℕ) → Entry → Type 0
CountsTries tries (Pick block job (Stale asked got count) ops) = count ≡ tries block
CountsTries tries _ = Unit {0}

-- an entry whose line tells it, where each block has so many tries
pub record IsPrinted (tries : ℕ → ℕ) (e : Entry) : Type 0 where
  pub value : IsEntryValue e
  pub no_store : HasNoStore e
  pub each_try : CountsTries tries e

abbrev pub ArePrinted : (ℕ → ℕ) → List Entry → Type 0
ArePrinted tries [] = Unit {0}
ArePrinted tries (e ∷ es) = IsPrinted tries e × ArePrinted tries es

-- THE LAWS

-- the line of an entry, with anything behind it, tells the entry
abbrev pub LinesTellEntries : Type 0
LinesTellEntries =
    (tries : ℕ → ℕ) (a b : Entry) (s t : List ℕ) → IsPrinted tries a → IsPrinted tries b → entry_line a ++ s ≡ entry_line b ++ t → (a ≡ b) × (s ≡ t)

-- and it tells no more: neither such a store nor such a count
abbrev pub LinesLeaveOut : Type 0
LinesLeaveOut =
    ((caller block store other : ℕ) (bytes : List ℕ) (reply : Reply) → entry_line (Ask caller (Write block (Some bytes) store) reply) ≡ entry_line (Ask caller (Write block (Some bytes) other) reply))
    × ((block asked got count other ops : ℕ) (job : JobKind) → entry_line (Pick block job (Stale asked got count) ops) ≡ entry_line (Pick block job (Stale asked got other) ops))

-- the lines of a history, one for each entry
abbrev pub history_lines : List Entry → List (List ℕ)
history_lines h = map entry_line h

-- and joined
abbrev pub history_text : List Entry → List ℕ
history_text h = flat_map entry_line h

-- no entry's line stands in front of this text
abbrev pub BeginsNoEntry : List ℕ → Type 0
BeginsNoEntry text = (e : Entry) (rest : List ℕ) → text ≡ entry_line e ++ rest → ⊥

-- the lines of a history, with anything behind them that begins as no entry, tell the history
abbrev pub TextsTellHistories : Type 0
TextsTellHistories =
    (tries : ℕ → ℕ) (a b : List Entry) (s t : List ℕ) → ArePrinted tries a → ArePrinted tries b → BeginsNoEntry s → BeginsNoEntry t → history_text a ++ s ≡ history_text b ++ t
    → (a ≡ b) × (s ≡ t)

-- nothing, and the last line, begin as no entry
abbrev pub EndsBeginNoEntry : Type 0
EndsBeginNoEntry = BeginsNoEntry [] × ((count : ℕ) → BeginsNoEntry (end_line count))
