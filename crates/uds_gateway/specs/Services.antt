-- The two services, and what a request asks the NVRAM Manager for (ISO 14229-1).
use Rattle.std.specs.Prelude.{ℕ, ◌+◌, ◌*◌, ◌-◌, ◌==◌, ◌&&◌, nat_le, false, List, length, drop, get_or, if◌then◌else◌, Option, Some, None, Result, Ok, Err}
use Rattle.std.specs.Option.{option_map_or}
use Rattle.nvm_moves.specs.block_machine.Words.{Request, Read, Write, Configuration}
use Rattle.nvm_moves.specs.block_machine.Blocks.{desc_of}
use Rattle.uds_gateway.specs.declared.code.NegativeCode.{NegativeCode}
use Rattle.uds_gateway.specs.declared.code.NegativeCode.TheVariants.{ServiceNotSupported, IncorrectLength, ConditionsNotCorrect, OutOfRange, ProgrammingFailure}

-- NUMBERS

-- ReadDataByIdentifier
abbrev pub read_service : ℕ
read_service = 0x22

-- WriteDataByIdentifier
abbrev pub write_service : ℕ
write_service = 0x2e

abbrev pub number_of : NegativeCode → ℕ
number_of ServiceNotSupported = 0x11
number_of IncorrectLength = 0x13
number_of ConditionsNotCorrect = 0x22
number_of OutOfRange = 0x31
number_of ProgrammingFailure = 0x72

-- IDENTIFIERS

-- block B has the identifier 0x0100 + B, from block 2 on
abbrev pub block_by : Configuration → ℕ → ℕ → Option ℕ
block_by c high low = let id = high * 256 + low in if nat_le 0x0102 id && nat_le (id - 0x0100) (length c.blocks) then Some (id - 0x0100) else None

-- REQUESTS

-- three bytes, the last two an identifier
abbrev pub read_by : Configuration → List ℕ → Result Request NegativeCode
read_by c request =
    if length request == 3 then option_map_or (λ block. Ok (Read block false)) (block_by c (get_or request 1 0) (get_or request 2 0)) (Err OutOfRange) else Err IncorrectLength

abbrev pub write_of : Configuration → List ℕ → ℕ → Result Request NegativeCode
write_of c bytes block = if length bytes == (desc_of c block).length then Ok (Write block (Some bytes) 0) else Err IncorrectLength

-- four at least, those behind the identifier the content
abbrev pub write_by : Configuration → List ℕ → Result Request NegativeCode
write_by c request =
    if nat_le 4 (length request) then option_map_or (write_of c (drop 3 request)) (block_by c (get_or request 1 0) (get_or request 2 0)) (Err OutOfRange) else Err IncorrectLength

-- the first byte is the service's number
abbrev pub service_in : List ℕ → ℕ
service_in request = get_or request 0 0

-- what the NVRAM Manager is asked for, or why it isn't asked
abbrev pub asked_by : Configuration → List ℕ → Result Request NegativeCode
asked_by c request =
    if service_in request == read_service then read_by c request else (if service_in request == write_service then write_by c request else Err ServiceNotSupported)
