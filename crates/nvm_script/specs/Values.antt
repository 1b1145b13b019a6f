-- Numbers and bytes as the types of an entry have them.
use Rattle.std.specs.Prelude.{◌<◌, ◌≤◌, ◌^◌, ℕ, List, [], ◌∷◌, length, Option, Some, None}
use Rattle.hex.specs.Hex.{IsBytes}
use Rattle.nv_base.specs.declared.instance.Instance.{Instance}
use Rattle.nv_base.specs.declared.mark.Mark.{Mark}
use Rattle.nv_base.specs.declared.mark.Mark.TheVariants.{Content}
use Rattle.nv_base.specs.declared.request.Request.{Request}
use Rattle.nv_base.specs.declared.request.Request.TheVariants.{Read, Write, Restore, Erase, Invalidate, SetIndex, GetIndex, SetProtection, SetLock, SetRam, PutRam, Status}
use Rattle.nv_base.specs.declared.request.Reply.{Reply}
use Rattle.nv_base.specs.declared.request.Reply.TheVariants.{IndexIs}
use Rattle.nv_base.specs.declared.entry.Taken.{Taken}
use Rattle.nv_base.specs.declared.entry.Taken.TheVariants.{Nothing, Content as TakenContent, Refused, Stale}
use Rattle.nv_base.specs.declared.entry.Entry.{Entry}
use Rattle.nv_base.specs.declared.entry.Entry.TheVariants.{Ask, Pick, Wrote, Post, Off, Found}

-- a number of at most 64 bits
abbrev pub IsNumber : ℕ → Type 0
IsNumber n = n < 2 ^ 64

-- so many bytes
pub record IsContent (bytes : List ℕ) : Type 0 where
  pub bytes_small : IsBytes bytes
  pub length_small : IsNumber (length bytes)

abbrev pub IsBlockNumber : ℕ → Type 0
IsBlockNumber block = block ≤ 65535

abbrev pub IsRequestValue : Request → Type 0
IsRequestValue (Read block ram) = IsBlockNumber block
IsRequestValue (Write block None store) = IsBlockNumber block × IsNumber store
IsRequestValue (Write block (Some bytes) store) = IsBlockNumber block × IsContent bytes
IsRequestValue (Restore block ram) = IsBlockNumber block
IsRequestValue (Erase block) = IsBlockNumber block
IsRequestValue (Invalidate block) = IsBlockNumber block
IsRequestValue (SetIndex block index) = IsBlockNumber block × (index ≤ 255)
IsRequestValue (GetIndex block) = IsBlockNumber block
IsRequestValue (SetProtection block on) = IsBlockNumber block
IsRequestValue (SetLock block on) = IsBlockNumber block
IsRequestValue (SetRam block on) = IsBlockNumber block
IsRequestValue (PutRam block bytes) = IsBlockNumber block × IsContent bytes
IsRequestValue (Status block) = IsBlockNumber block
IsRequestValue _ = Unit {0}

abbrev pub IsReplyValue : Reply → Type 0
IsReplyValue (IndexIs index) = IsNumber index
IsReplyValue _ = Unit {0}

abbrev pub IsTakenValue : Taken → Type 0
IsTakenValue Nothing = Unit {0}
IsTakenValue (TakenContent bytes store) = IsContent bytes × IsNumber store
IsTakenValue (Refused count) = IsNumber count
IsTakenValue (Stale asked got count) = IsNumber asked × IsNumber got

abbrev pub IsMarkValue : Mark → Type 0
IsMarkValue (Content bytes) = IsContent bytes
IsMarkValue _ = Unit {0}

abbrev pub IsGivenValue : Option (List ℕ) → Type 0
IsGivenValue None = Unit {0}
IsGivenValue (Some bytes) = IsContent bytes

abbrev pub IsInstanceValue : Instance → Type 0
IsInstanceValue instance = IsNumber instance.block × IsNumber instance.index

abbrev pub AreMarkValues : List (Instance × Mark) → Type 0
AreMarkValues [] = Unit {0}
AreMarkValues (x ∷ xs) = IsInstanceValue x.0 × IsMarkValue x.1 × AreMarkValues xs

abbrev pub IsEntryValue : Entry → Type 0
IsEntryValue (Ask caller request reply) = IsNumber caller × IsRequestValue request × IsReplyValue reply
IsEntryValue (Pick block job taken ops) = IsNumber block × IsTakenValue taken × IsNumber ops
IsEntryValue (Wrote instance mark ops) = IsInstanceValue instance × IsMarkValue mark × IsNumber ops
IsEntryValue (Post block result_of given refused ops) = IsNumber block × IsGivenValue given × IsNumber refused × IsNumber ops
IsEntryValue (Off ops) = IsNumber ops
IsEntryValue (Found marks ops) = IsNumber (length marks) × AreMarkValues marks × IsNumber ops
