-- The answer of a request, by the entries of its job.
use Rattle.std.specs.Prelude.{◌≡◌, ℕ, ◌==◌, List, [], ◌∷◌, ◌++◌, take, drop, unwrap_or, if◌then◌else◌, Option, Some, None, Result, Ok, Err}
use Rattle.std.specs.Option.{option_or}
use Rattle.nvm_moves.specs.block_machine.Words.{ReqResult, Fine, RedundancyFailed, Restored, Request, Refused, Entry, Ask, Post, Configuration}
use Rattle.uds_gateway.specs.declared.code.NegativeCode.{NegativeCode}
use Rattle.uds_gateway.specs.declared.code.NegativeCode.TheVariants.{ConditionsNotCorrect, ProgrammingFailure}
use Rattle.uds_gateway.specs.declared.asked.AskedFault.{AskedFault}
use Rattle.uds_gateway.specs.declared.asked.AskedFault.TheVariants.{Refused as NotAsked, Memory as NoMemory}
use Rattle.uds_gateway.specs.Services.{read_service, number_of, service_in, asked_by}

-- THE PARTS OF AN ANSWER

abbrev pub identifier_in : List ℕ → List ℕ
identifier_in request = take 2 (drop 1 request)

-- a negative answer to this request
abbrev pub negative : List ℕ → NegativeCode → List ℕ
negative request code = 0x7f ∷ service_in request ∷ number_of code ∷ []

-- a content was given
abbrev pub content_answer : List ℕ → Option (List ℕ) → List ℕ
content_answer request given = 0x62 ∷ identifier_in request ++ unwrap_or given []

-- ANSWERS

-- to a read that was posted with this result
abbrev pub read_answer : List ℕ → ReqResult → Option (List ℕ) → List ℕ
read_answer request Fine given = content_answer request given
read_answer request RedundancyFailed given = content_answer request given
read_answer request Restored given = content_answer request given
read_answer request r given = negative request ConditionsNotCorrect

-- to a write
abbrev pub write_answer : List ℕ → ReqResult → List ℕ
write_answer request Fine = 0x6e ∷ identifier_in request
write_answer request r = negative request ProgrammingFailure

abbrev pub posted_answer : List ℕ → ReqResult → Option (List ℕ) → List ℕ
posted_answer request r given = if service_in request == read_service then read_answer request r given else write_answer request r

-- BY THE ENTRIES

-- a refusal decides, and so does a Post
abbrev pub answer_at : List ℕ → Entry → Option (List ℕ)
answer_at request (Ask caller r (Refused why)) = Some (negative request ConditionsNotCorrect)
answer_at request (Post block r given refused ops) = Some (posted_answer request r given)
answer_at request e = None

-- the first entry that decides; where none does, as where the power goes off before the Post, there is no answer
abbrev pub answer_in : List ℕ → List Entry → Option (List ℕ)
answer_in request [] = None
answer_in request (e ∷ es) = option_or (answer_at request e) (answer_in request es)

abbrev pub answer_by : List ℕ → Result Request NegativeCode → List Entry → Option (List ℕ)
answer_by request (Err code) entries = Some (negative request code)
answer_by request (Ok asked) entries = answer_in request entries

-- the answer of a request whose job has these entries, from its Ask to its Post
abbrev pub uds : Configuration → List ℕ → List Entry → Option (List ℕ)
uds c request entries = answer_by request (asked_by c request) entries

-- why nothing is asked: the request is refused so, or memory was wanting
abbrev pub IsWhy : Result Request NegativeCode → AskedFault → Type 0
IsWhy asked (NotAsked code) = asked ≡ Err code
IsWhy asked NoMemory = Unit {0}
