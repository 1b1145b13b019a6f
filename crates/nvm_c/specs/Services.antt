-- The services by their numbers, and what each asks.
use Rattle.std.specs.Prelude.{ℕ, Bool, not, ◌==◌, true, false, List, Some, None, Result, Ok, Err}
use Rattle.nvm.specs.block_machine.Words.{Request, Reply, Read, Write, Restore, Erase, Invalidate, SetIndex, GetIndex, SetProtection, SetLock, SetRam, PutRam, ReadAll, WriteAll, CancelWriteAll}
use Rattle.nvm.specs.nv_base.Refusal.{number_of_refusal}
use Rattle.nvm.specs.nv_base.Result.{code_of}
use Rattle.nvm.specs.nv_base.declared.request.Reply.TheVariants as reply
use Rattle.nvm.specs.nv_desk.declared.ask.AskFault.{AskFault}
use Rattle.nvm.specs.nv_desk.declared.ask.AskFault.TheVariants as fault
use Rattle.nvm_c.specs.declared.services.Service.{Service}
use Rattle.nvm_c.specs.declared.services.Service.TheVariants as service

-- the standard's identifiers of its services; 128 is none of them
abbrev pub number_of : Service → ℕ
number_of service.SetDataIndex = 1
number_of service.GetDataIndex = 2
number_of service.SetBlockProtection = 3
number_of service.SetRamBlockStatus = 5
number_of service.ReadBlock = 6
number_of service.WriteBlock = 7
number_of service.RestoreBlockDefaults = 8
number_of service.EraseNvBlock = 9
number_of service.CancelWriteAll = 10
number_of service.InvalidateNvBlock = 11
number_of service.ReadAll = 12
number_of service.WriteAll = 13
number_of service.SetBlockLockStatus = 19
number_of service.ReadPermanentRam = 22
number_of service.WritePermanentRam = 23
number_of service.RestorePermanentRam = 24
number_of service.PutRam = 128

-- what a number says of a setting: 0 is off
abbrev pub is_on : ℕ → Bool
is_on n = not (n == 0)

-- what each asks for a block, a number beside it, and a content
abbrev pub request_of : Service → (block number : ℕ) → List ℕ → Request
request_of service.SetDataIndex block number content = SetIndex block number
request_of service.GetDataIndex block number content = GetIndex block
request_of service.SetBlockProtection block number content = SetProtection block (is_on number)
request_of service.SetRamBlockStatus block number content = SetRam block (is_on number)
request_of service.ReadBlock block number content = Read block false
request_of service.WriteBlock block number content = Write block (Some content) 0
request_of service.RestoreBlockDefaults block number content = Restore block false
request_of service.EraseNvBlock block number content = Erase block
request_of service.CancelWriteAll block number content = CancelWriteAll
request_of service.InvalidateNvBlock block number content = Invalidate block
request_of service.ReadAll block number content = ReadAll
request_of service.WriteAll block number content = WriteAll
request_of service.SetBlockLockStatus block number content = SetLock block (is_on number)
request_of service.ReadPermanentRam block number content = Read block true
request_of service.WritePermanentRam block number content = Write block None 0
request_of service.RestorePermanentRam block number content = Restore block true
request_of service.PutRam block number content = PutRam block content

-- whether it brings a content
abbrev pub brings_content : Service → Bool
brings_content service.WriteBlock = true
brings_content service.PutRam = true
brings_content v = false

-- ANSWERS
-- as C gets them: 0 accepted, 1 refused, 2 a value, 3 the history is full, 4 there is no memory
abbrev pub answer_code : Result Reply AskFault → ℕ
answer_code (Ok reply.Accepted) = 0
answer_code (Ok (reply.Refused why)) = 1
answer_code (Ok (reply.StatusIs result)) = 2
answer_code (Ok (reply.IndexIs index)) = 2
answer_code (Err fault.NoRoom) = 3
answer_code (Err fault.Memory) = 4

-- and the number of the refusal, or the value
abbrev pub answer_value : Result Reply AskFault → ℕ
answer_value (Ok reply.Accepted) = 0
answer_value (Ok (reply.Refused why)) = number_of_refusal why
answer_value (Ok (reply.StatusIs result)) = code_of result
answer_value (Ok (reply.IndexIs index)) = index
answer_value (Err why) = 0
