-- What the parts of a line are printed as.
use Rattle.std.specs.Prelude.{ℕ, ◌==◌, Bool, true, false, ◌&&◌, nat_le, if◌then◌else◌, List, [], ◌∷◌, ◌++◌, length, slice_index, codes, Option, Some, None}
use Rattle.std.specs.List.{list_all}
use Rattle.std.specs.Fmt.{decimal}
use Rattle.hex.specs.Hex.{encode_lower}
use Rattle.nv_base.specs.Refusal.{number_of_refusal}
use Rattle.nv_base.specs.Result.{code_of}
use Rattle.nv_base.specs.declared.mark.Mark.{Mark}
use Rattle.nv_base.specs.declared.mark.Mark.TheVariants.{Content, Invalid, Erased}
use Rattle.nv_base.specs.declared.request.Request.{Request}
use Rattle.nv_base.specs.declared.request.Request.TheVariants.{Read as ReadBlock, Write as WriteBlock, Restore as RestoreBlock, Erase as EraseBlock, Invalidate as InvalidateBlock, SetIndex, GetIndex, SetProtection, SetLock, SetRam, PutRam, Status, ReadAll as ReadAllBlocks, WriteAll as WriteAllBlocks, CancelWriteAll}
use Rattle.nv_base.specs.declared.request.Reply.{Reply}
use Rattle.nv_base.specs.declared.request.Reply.TheVariants.{Accepted, Refused as IsRefused, StatusIs, IndexIs}
use Rattle.nv_base.specs.declared.request.JobKind.{JobKind}
use Rattle.nv_base.specs.declared.request.JobKind.TheVariants.{Read, Write, Restore, Erase, Invalidate, ReadAll, WriteAll}
use Rattle.nv_base.specs.declared.entry.Taken.{Taken}
use Rattle.nv_base.specs.declared.entry.Taken.TheVariants.{Nothing, Content as TakenContent, Refused, Stale}

-- five bytes or more, all equal
abbrev pub is_long_run : List ℕ → Bool
is_long_run bytes = nat_le 5 (length bytes) && list_all (λ b. b == slice_index bytes 0) bytes

-- a long run as its byte and its length, any other content as two digits a byte, in lower case
abbrev pub content_text : List ℕ → List ℕ
content_text bytes =
    if is_long_run bytes then encode_lower (slice_index bytes 0 ∷ []) ++ (codes "*" ++ decimal (length bytes))
    else encode_lower bytes

abbrev pub mark_text : Mark → List ℕ
mark_text (Content bytes) = codes "data " ++ content_text bytes
mark_text Invalid = codes "invalid"
mark_text Erased = codes "erased"

abbrev pub switch_text : Bool → List ℕ
switch_text true = codes "1"
switch_text false = codes "0"

-- a word and the block that it names
abbrev pub of_block : List ℕ → ℕ → List ℕ
of_block word block = word ++ (codes " " ++ decimal block)

-- a word, the block that it names, and one thing more
abbrev pub of_block_with : List ℕ → ℕ → List ℕ → List ℕ
of_block_with word block argument = word ++ (codes " " ++ (decimal block ++ (codes " " ++ argument)))

-- the number of a store, which is 0 where nothing was stored
abbrev pub store_text : ℕ → List ℕ
store_text store = if store == 0 then [] else codes " store " ++ decimal store

-- a request as the step that asks for it
abbrev pub request_text : Request → List ℕ
request_text (ReadBlock block false) = of_block (codes "read") block
request_text (ReadBlock block true) = of_block (codes "readram") block
request_text (WriteBlock block (Some bytes) store) = of_block_with (codes "write") block (content_text bytes)
request_text (WriteBlock block None store) = of_block (codes "writeram") block ++ store_text store
request_text (RestoreBlock block false) = of_block (codes "restore") block
request_text (RestoreBlock block true) = of_block (codes "restoreram") block
request_text (EraseBlock block) = of_block (codes "erase") block
request_text (InvalidateBlock block) = of_block (codes "invalidate") block
request_text (SetIndex block index) = of_block_with (codes "setindex") block (decimal index)
request_text (GetIndex block) = of_block (codes "getindex") block
request_text (SetProtection block on) = of_block_with (codes "protect") block (switch_text on)
request_text (SetLock block on) = of_block_with (codes "lock") block (switch_text on)
request_text (SetRam block on) = of_block_with (codes "setram") block (switch_text on)
request_text (PutRam block bytes) = of_block_with (codes "ram") block (content_text bytes)
request_text (Status block) = of_block (codes "status") block
request_text ReadAllBlocks = codes "readall"
request_text WriteAllBlocks = codes "writeall"
request_text CancelWriteAll = codes "cancel"

abbrev pub reply_text : Reply → List ℕ
reply_text Accepted = codes "ok"
reply_text (IsRefused refusal) = codes "refused " ++ decimal (number_of_refusal refusal)
reply_text (StatusIs status) = codes "status " ++ decimal (code_of status)
reply_text (IndexIs index) = codes "index " ++ decimal index

abbrev pub job_text : JobKind → List ℕ
job_text Read = codes "read"
job_text Write = codes "write"
job_text Restore = codes "restore"
job_text Erase = codes "erase"
job_text Invalidate = codes "invalidate"
job_text ReadAll = codes "readall"
job_text WriteAll = codes "writeall"

-- what a job took, after its word
abbrev pub taken_text : Taken → List ℕ
taken_text Nothing = []
taken_text (TakenContent bytes store) = codes " " ++ (content_text bytes ++ store_text store)
taken_text (Refused count) = codes " refused " ++ decimal count
taken_text (Stale asked got count) = codes " stale " ++ (decimal asked ++ (codes " " ++ decimal got))

-- what a job gave, after its result
abbrev pub given_text : Option (List ℕ) → List ℕ
given_text (Some bytes) = codes " data " ++ content_text bytes
given_text None = []

-- how many copies were refused, where all were
abbrev pub refused_text : ℕ → List ℕ
refused_text count = if count == 0 then [] else codes " refused " ++ decimal count
