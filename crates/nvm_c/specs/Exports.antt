-- What a call of C does.
use Rattle.std.specs.Prelude.{◌≡◌, ◌≢◌, ◌⊎◌, ℕ, List, Option, None, Some, IsSomeAnd, IfSome, IfOk, Result, Ok, Err}
use Rattle.nvm.specs.block_config.Config.{Configuration}
use Rattle.nvm.specs.block_config.Reading.{meaning_of}
use Rattle.nvm.specs.block_machine.Blocks.{block_at}
use Rattle.nvm.specs.block_machine.Reply.{reply_of}
use Rattle.nvm.specs.block_config.declared.fault.ConfigFault.{ConfigFault}
use Rattle.nvm.specs.fls_model.Told.{Told, bytes_now}
use Rattle.nvm.specs.nvm_flash.Made.{ComesBack}
use Rattle.nvm.specs.nvm_flash.declared.device.MakeFault.{MakeFault}
use Rattle.nvm.specs.nvm_flash.declared.device.MakeFault.TheVariants as fault
use Rattle.nvm.specs.nv_desk.Desk.{state_of}
use Rattle.nvm.specs.nv_desk.declared.ask.AskFault.{AskFault}
use Rattle.nvm.specs.block_machine.Words.{Reply}
use Rattle.nvm.specs.nvm_flash.nvm_laws.declared.turned.Turned.{Turned}
use Rattle.nvm.specs.nvm_flash.nvm_laws.declared.turned.Turned.TheVariants as turned
use Rattle.nvm.specs.nvm_flash.nvm_laws.declared.turned.FoundAnswer.{FoundAnswer}
use Rattle.nvm.specs.nvm_flash.nvm_laws.declared.turned.FoundAnswer.TheVariants as found
use Rattle.lent_flash.specs.Flash.{flash_over}
use Rattle.nvm_c.specs.Filled.{IsFilled}
use Rattle.nvm_c.specs.Held.{Kept, origin_by}
use Rattle.nvm_c.specs.Services.{answer_code, answer_value, number_of, request_of}
use Rattle.nvm_c.specs.Standing.{IsNotTold}
use Rattle.nvm_c.specs.declared.standing.LineFault.{LineFault}
use Rattle.nvm_c.specs.declared.standing.LineFault.TheVariants as line
use Rattle.nvm_c.specs.Unit.{UnitState, IsAskCall, IsStartCall, IsTurnCall, given_last, last_line, Opens}
use Rattle.nvm_c.specs.Work.{PlansCut, PlansNone, StaysDown}
use Rattle.nvm_c.specs.declared.services.Service.{Service}

-- an open handle stays open, of the same opening, and its unit goes on so
abbrev pub Goes : Option Kept → Option Kept → (UnitState → UnitState → Type 0) → Type 0
Goes old new P = IsSomeAnd old (λ k. (t : UnitState) × (new ≡ Some (record k { state = t })) × P k.state t)

-- an open handle stays as it is, and this is so of its unit
abbrev pub Looks : Option Kept → Option Kept → (UnitState → Type 0) → Type 0
Looks old new P = (new ≡ old) × IfSome old (λ k. P k.state)

-- REQUESTS
-- the service's request was asked, of the one caller, and this is the answer
pub record AsksBy (v : Service) (block number : ℕ) (content : List ℕ) (code value : ℕ) (s t : UnitState) : Type 0 where
  pub answer : Result Reply AskFault
  pub asks : IsAskCall (request_of v block number content) answer s t
  pub replies : IfOk answer (λ reply. reply ≡ reply_of s.desk.config s.desk.cap (state_of s.desk) (request_of v block number content))
  pub code_is : code ≡ answer_code answer
  pub value_is : value ≡ answer_value answer

-- of a service's number: it was asked, or there was no memory for the request, or the last start-up failed, or no service has it; these
-- tell no value
abbrev pub IsAsked : (service block number : ℕ) → List ℕ → (code value : ℕ) → UnitState → UnitState → Type 0
IsAsked service block number content code value s t =
    ((v : Service) × (number_of v ≡ service) × AsksBy v block number content code value s t)
    ⊎ ((value ≡ 0)
    × (((code ≡ 4) × (t ≡ s)) ⊎ (((code ≡ 5) × StaysDown s t) ⊎ ((code ≡ 6) × (t ≡ s) × ((v : Service) → number_of v ≢ service)))))

-- TURNS
abbrev pub turned_code : Turned → ℕ
turned_code turned.Idle = 0
turned_code turned.Worked = 1
turned_code turned.Picked = 2
turned_code turned.Posted = 3
turned_code turned.Off = 4

-- one turn was made, or the last start-up failed
abbrev pub IsTurned : ℕ → UnitState → UnitState → Type 0
IsTurned code s t = ((answer : Turned) × (code ≡ turned_code answer) × IsTurnCall answer s t) ⊎ ((code ≡ 5) × StaysDown s t)

-- a power cut was planned; or none was, since none could be, and nothing changed; or the last start-up failed
abbrev pub IsPlanned : (nth keep code : ℕ) → UnitState → UnitState → Type 0
IsPlanned nth keep code s t = ((code ≡ 0) × PlansCut nth keep s t) ⊎ (((code ≡ 6) × (t ≡ s) × PlansNone nth s) ⊎ ((code ≡ 5) × StaysDown s t))

abbrev pub found_code : FoundAnswer → ℕ
found_code found.Ready = 0
found_code found.Failed = 1
found_code found.NoRoom = 3
found_code found.Memory = 4

abbrev pub IsRestarted : ℕ → UnitState → UnitState → Type 0
IsRestarted code s t = (answer : FoundAnswer) × (code ≡ found_code answer) × IsStartCall answer s t

-- OPENING AND CLOSING
-- the handle keeps a unit of a configuration over what a flash told, behind its first start-up
pub record IsOpenedOver (c : Configuration) (flash : Told) (cuts : ℕ) (k : Kept) : Type 0 where
  pub config_is : k.config ≡ c
  pub flash_is : k.flash ≡ flash
  pub cuts_are : k.cuts ≡ cuts
  pub opens : Opens c (origin_by c flash cuts).making (origin_by c flash cuts).entry k.state

-- of the configuration of a text, over these bytes
abbrev pub IsOpened : (text bytes : List ℕ) → (cuts : ℕ) → Kept → Type 0
IsOpened text bytes cuts k = (c : Configuration) × (meaning_of text ≡ Ok c) × IsOpenedOver c (flash_over bytes) cuts k

-- WITHOUT A UNIT
abbrev pub fault_code : MakeFault → ℕ
fault_code (fault.WrongSize found) = 2
fault_code fault.Flash = 3
fault_code fault.InUse = 3
fault_code fault.Memory = 4
fault_code fault.NoSecond = 5

-- Of a configuration over a flash there is no unit: the stack says why, and the flash comes back as it was, or attached, in the memory
-- that comes back.
abbrev pub IsNotOpened : Configuration → Told → (code : ℕ) → Option (List ℕ) → Type 0
IsNotOpened c flash code back = (why : MakeFault) × (exit : Told) × (code ≡ fault_code why) × ComesBack c why flash exit × (back ≡ bytes_now exit)

-- of a text over bytes: it is no configuration, or there was no memory, and the bytes come back; or there is no unit of its configuration
abbrev pub IsStopped : (text bytes : List ℕ) → (code : ℕ) → Option (List ℕ) → Type 0
IsStopped text bytes code back =
    ((why : ConfigFault) × (meaning_of text ≡ Err why) × (code ≡ 1) × (back ≡ Some bytes))
    ⊎ (((c : Configuration) × (meaning_of text ≡ Ok c) × IsNotOpened c (flash_over bytes) code back) ⊎ ((code ≡ 4) × (back ≡ Some bytes)))

-- CONTENTS
-- of a block's RAM
abbrev pub IsRam : (block code size : ℕ) → List ℕ → List ℕ → UnitState → Type 0
IsRam block code size old new s = (code ≡ 0) × IsFilled (block_at (state_of s.desk) block).ram size old new

-- of a content that there may be
abbrev pub IsShown : Option (List ℕ) → (code size : ℕ) → List ℕ → List ℕ → Type 0
IsShown shown code size old new =
    ((content : List ℕ) × (shown ≡ Some content) × (code ≡ 0) × IsFilled content size old new)
    ⊎ ((shown ≡ None) × (code ≡ 1) × (size ≡ 0) × (new ≡ old))

-- of what the last entry gave, if it gave something
abbrev pub IsGiven : (code size : ℕ) → List ℕ → List ℕ → UnitState → Type 0
IsGiven code size old new s = IsShown (given_last s) code size old new

-- why it isn't told, as a code
abbrev pub line_code : LineFault → ℕ
line_code line.Memory = 4
line_code line.Down = 5
line_code line.Unsound = 6

-- of the line of the last entry, if there is one; or it isn't told
abbrev pub IsLine : (code size : ℕ) → List ℕ → List ℕ → UnitState → Type 0
IsLine code size old new s =
    IsShown (last_line s) code size old new ⊎ ((why : LineFault) × (code ≡ line_code why) × IsNotTold why s × (size ≡ 0) × (new ≡ old))
