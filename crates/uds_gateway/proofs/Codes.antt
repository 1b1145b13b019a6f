-- When each negative code comes.
use Rattle.std.specs.Prelude.{◌≢◌, ◌↔◌, ◌==◌, nat_le, length, drop, get_or, unwrap_or}
use Rattle.std.specs.Option.{option_map_or}
use Rattle.std.proofs.Common.{◌≡◌, ◌⊎◌, ℕ, true, false, if◌then◌else◌, List, [], ◌∷◌, ◌++◌, Option, Some, None, Result, Ok, Err, refl, sym, ap, ◌∙◌, subst, inl, inr}
use Rattle.std.proofs.lemmas.Bool.{cases_Bool}
use Rattle.nvm_moves.specs.block_machine.Words.{ReqResult, Fine, RedundancyFailed, Restored, Request, Read, Write, Entry, Configuration}
use Rattle.nvm_moves.specs.block_machine.Blocks.{desc_of}
use Rattle.uds_gateway.specs.declared.code.NegativeCode.{NegativeCode}
use Rattle.uds_gateway.specs.declared.code.NegativeCode.TheVariants.{ServiceNotSupported, IncorrectLength, ConditionsNotCorrect, OutOfRange, ProgrammingFailure}
use Rattle.uds_gateway.specs.Services.{read_service, write_service, number_of, block_by, write_of, read_by, write_by, service_in, asked_by}
use Rattle.uds_gateway.specs.Answers.{identifier_in, negative, content_answer, read_answer, write_answer, posted_answer, answer_in, answer_by}
use Rattle.uds_gateway.specs.Jobs.{IsOwn, IsRefused, EndsPosted}
use Rattle.uds_gateway.specs.Served.{HasPiece}
use Rattle.uds_gateway.specs.Codes.{is_read, gives_content, CaseOf, CaseBy, CodesHaveCases}
use Rattle.uds_gateway.proofs.Served.{posted_answers}

-- WHAT IS ASKED

ok_same : {x y : Request} → ◌≡◌ {A = Result Request NegativeCode} (Ok x) (Ok y) → x ≡ y
ok_same is = cc is

of_block : (P : Request → Type 0) → ((block : ℕ) → P (Read block false)) → (block : Option ℕ) (asked : Request) → option_map_or (λ b. Ok (Read b false)) block (Err OutOfRange) ≡ Ok asked → P asked
of_block P read None asked is = absurd (cc is)
of_block P read (Some block) asked is = subst P (ok_same is) (read block)

write_block : (P : Request → Type 0) → ((block : ℕ) (bytes : List ℕ) → P (Write block (Some bytes) 0)) → (c : Configuration) (bytes : List ℕ) (block : Option ℕ) (asked : Request) → option_map_or (write_of c bytes) block (Err OutOfRange) ≡ Ok asked → P asked
write_block P write c bytes None asked is = absurd (cc is)
write_block P write c bytes (Some block) asked is = elim (cases_Bool (length bytes == (desc_of c block).length)) [
  | inl same ↦ let writes : Ok (Write block (Some bytes) 0) ≡ Ok asked = rw same at is in subst P (ok_same writes) (write block bytes)
  | inr other ↦ let none : Err IncorrectLength ≡ Ok asked = rw other at is in absurd (cc none)
]

-- what is so of each read to the caller's buffer is so of what the one service asks for,
reads : (P : Request → Type 0) → ((block : ℕ) → P (Read block false)) → (c : Configuration) (request : List ℕ) (asked : Request) → read_by c request ≡ Ok asked → P asked
reads P read c request asked is = elim (cases_Bool (length request == 3)) [
  | inl three ↦ of_block P read (block_by c (get_or request 1 0) (get_or request 2 0)) asked (rw three at is)
  | inr other ↦ let none : Err IncorrectLength ≡ Ok asked = rw other at is in absurd (cc none)
]

-- and what is so of each write of a content is so of what the other does
writes : (P : Request → Type 0) → ((block : ℕ) (bytes : List ℕ) → P (Write block (Some bytes) 0)) → (c : Configuration) (request : List ℕ) (asked : Request) → write_by c request ≡ Ok asked → P asked
writes P write c request asked is = elim (cases_Bool (nat_le 4 (length request))) [
  | inl four ↦ write_block P write c (drop 3 request) (block_by c (get_or request 1 0) (get_or request 2 0)) asked (rw four at is)
  | inr other ↦ let none : Err IncorrectLength ≡ Ok asked = rw other at is in absurd (cc none)
]

other_service : (P : Request → Type 0) → ((block : ℕ) (bytes : List ℕ) → P (Write block (Some bytes) 0)) → (c : Configuration) (request : List ℕ) (asked : Request)
    → (if service_in request == write_service then write_by c request else Err ServiceNotSupported) ≡ Ok asked → P asked
other_service P write c request asked is = elim (cases_Bool (service_in request == write_service)) [
  | inl writes_it ↦ writes P write c request asked (rw writes_it at is)
  | inr other ↦ let none : Err ServiceNotSupported ≡ Ok asked = rw other at is in absurd (cc none)
]

-- a read is asked for by the service of reads alone
pub asked_kind : (c : Configuration) (request : List ℕ) (asked : Request) → asked_by c request ≡ Ok asked → (service_in request == read_service) ≡ is_read asked
asked_kind c request asked is = elim (cases_Bool (service_in request == read_service)) [
  | inl read ↦ read ∙ sym (reads (λ r. is_read r ≡ true) (λ block. refl) c request asked (rw read at is))
  | inr other ↦ other ∙ sym (other_service (λ r. is_read r ≡ false) (λ block bytes. refl) c request asked (rw other at is))
]

-- it reads to the caller's own buffer, or writes the content that it brings
pub asked_is_own : (c : Configuration) (request : List ℕ) (asked : Request) → asked_by c request ≡ Ok asked → IsOwn asked
asked_is_own c request asked is = elim (cases_Bool (service_in request == read_service)) [
  | inl read ↦ reads IsOwn (λ block. refl) c request asked (rw read at is)
  | inr other ↦ other_service IsOwn (λ block bytes. refl) c request asked (rw other at is)
]

-- THE ANSWERS

code_from : ℕ → NegativeCode
code_from n = if n == 0x11 then ServiceNotSupported else (if n == 0x13 then IncorrectLength else (if n == 0x22 then ConditionsNotCorrect else (if n == 0x31 then OutOfRange else ProgrammingFailure)))

code_from-number : (code : NegativeCode) → code_from (number_of code) ≡ code
unfolding code_from
code_from-number ServiceNotSupported = refl
code_from-number IncorrectLength = refl
code_from-number ConditionsNotCorrect = refl
code_from-number OutOfRange = refl
code_from-number ProgrammingFailure = refl

-- a negative answer tells its code
negative_same : (request : List ℕ) (a b : NegativeCode) → Some (negative request a) ≡ Some (negative request b) → a ≡ b
negative_same request a b is = sym (code_from-number a) ∙ ap (λ (answer : Option (List ℕ)). code_from (get_or (unwrap_or answer []) 2 0)) is ∙ code_from-number b

-- and one that gives a content, or acknowledges a write, is none
other_answer : (request rest : List ℕ) (first : ℕ) (code : NegativeCode) → (first == 0x7f) ≡ false → Some (first ∷ rest) ≡ Some (negative request code) → ⊥
other_answer request rest first code other is = cc (sym other ∙ ap (λ (answer : Option (List ℕ)). get_or (unwrap_or answer []) 0 0 == 0x7f) is)

-- a read that gives nothing
read_fails : (request : List ℕ) (r : ReqResult) (given : Option (List ℕ)) → gives_content r ≡ false → read_answer request r given ≡ negative request ConditionsNotCorrect
read_fails request Fine given fails = absurd (cc fails)
read_fails request RedundancyFailed given fails = absurd (cc fails)
read_fails request Restored given fails = absurd (cc fails)
read_fails request r given fails = refl

read_gives : (request : List ℕ) (r : ReqResult) (given : Option (List ℕ)) → gives_content r ≡ true → read_answer request r given ≡ content_answer request given
read_gives request Fine given gives = refl
read_gives request RedundancyFailed given gives = refl
read_gives request Restored given gives = refl
read_gives request r given gives = absurd (cc gives)

write_or : (request : List ℕ) (r : ReqResult) → (r ≡ Fine) ⊎ ((r ≢ Fine) × (write_answer request r ≡ negative request ProgrammingFailure))
write_or request Fine = inl refl
write_or request r = inr (λ e. cc e, refl)

-- THE CASES

module _ (request : List ℕ) (asked : Request) (piece : List Entry) where
  -- by the service of the request
  posted_read : (r : ReqResult) (given : Option (List ℕ)) → (service_in request == read_service) ≡ true → posted_answer request r given ≡ read_answer request r given
  posted_read r given on = rw on refl

  posted_write : (r : ReqResult) (given : Option (List ℕ)) → (service_in request == read_service) ≡ false → posted_answer request r given ≡ write_answer request r
  posted_write r given off = rw off refl

  -- a code tells its case
  refused_case : (code : NegativeCode) → IsRefused asked piece → answer_in request piece ≡ Some (negative request code) → CaseOf code asked piece
  refused_case code refused is =
      let same : ConditionsNotCorrect ≡ code = negative_same request ConditionsNotCorrect code (sym (ap (λ (es : List Entry). answer_in request es) refused.1) ∙ is) in
      subst (λ (k : NegativeCode). CaseOf k asked piece) same (inl refused)

  read_case : (code : NegativeCode) (p : EndsPosted asked piece) → is_read asked ≡ true → Some (read_answer request p.result p.given) ≡ Some (negative request code) → CaseOf code asked piece
  read_case code p read is = elim (cases_Bool (gives_content p.result)) [
    | inl gives ↦ absurd (other_answer request (identifier_in request ++ unwrap_or p.given []) 0x62 code refl (ap (λ (a : List ℕ). Some a) (sym (read_gives request p.result p.given gives)) ∙ is))
    | inr fails ↦
        let same : ConditionsNotCorrect ≡ code = negative_same request ConditionsNotCorrect code (ap (λ (a : List ℕ). Some a) (sym (read_fails request p.result p.given fails)) ∙ is) in
        subst (λ (k : NegativeCode). CaseOf k asked piece) same (inr (read, p, fails))
  ]

  write_case : (code : NegativeCode) (p : EndsPosted asked piece) → is_read asked ≡ false → Some (write_answer request p.result) ≡ Some (negative request code) → CaseOf code asked piece
  write_case code p write is = elim (write_or request p.result) [
    | inl fine ↦ absurd (other_answer request (identifier_in request) 0x6e code refl (ap (λ (r : ReqResult). Some (write_answer request r)) (sym fine) ∙ is))
    | inr fails ↦
        let same : ProgrammingFailure ≡ code = negative_same request ProgrammingFailure code (ap (λ (a : List ℕ). Some a) (sym fails.1) ∙ is) in
        subst (λ (k : NegativeCode). CaseOf k asked piece) same (write, p, fails.0)
  ]

  tells_case : (code : NegativeCode) → (service_in request == read_service) ≡ is_read asked → HasPiece (Ok asked) piece → answer_in request piece ≡ Some (negative request code) → CaseOf code asked piece
  tells_case code kind (inl refused) is = refused_case code refused is
  tells_case code kind (inr p) is = elim (cases_Bool (is_read asked)) [
    | inl read ↦ read_case code p read (ap (λ (a : List ℕ). Some a) (sym (posted_read p.result p.given (kind ∙ read))) ∙ sym (posted_answers request asked piece p) ∙ is)
    | inr write ↦ write_case code p write (ap (λ (a : List ℕ). Some a) (sym (posted_write p.result p.given (kind ∙ write))) ∙ sym (posted_answers request asked piece p) ∙ is)
  ]

  write_fails : (r : ReqResult) → r ≢ Fine → write_answer request r ≡ negative request ProgrammingFailure
  write_fails r other = elim (write_or request r) [ inl fine ↦ absurd (other fine) | inr fails ↦ fails.1 ]

  -- and its case comes with it
  has_code : (code : NegativeCode) → (service_in request == read_service) ≡ is_read asked → CaseOf code asked piece → answer_in request piece ≡ Some (negative request code)
  has_code ConditionsNotCorrect kind (inl refused) = ap (λ (es : List Entry). answer_in request es) refused.1
  has_code ConditionsNotCorrect kind (inr (read, p, fails)) =
      posted_answers request asked piece p ∙ ap (λ (a : List ℕ). Some a) (posted_read p.result p.given (kind ∙ read) ∙ read_fails request p.result p.given fails)
  has_code ProgrammingFailure kind (write, p, fails) = posted_answers request asked piece p ∙ ap (λ (a : List ℕ). Some a) (posted_write p.result p.given (kind ∙ write) ∙ write_fails p.result fails)
  has_code ServiceNotSupported kind none = absurd none
  has_code IncorrectLength kind none = absurd none
  has_code OutOfRange kind none = absurd none

pub codes_have_cases : CodesHaveCases
codes_have_cases c request piece code served = by (asked_by c request) refl served
  where
    by : (asked : Result Request NegativeCode) → asked_by c request ≡ asked → HasPiece asked piece → (answer_by request asked piece ≡ Some (negative request code)) ↔ CaseBy code asked piece
    by (Err why) is empty = (λ e. negative_same request why code e, λ same. ap (λ (k : NegativeCode). Some (negative request k)) same)
    by (Ok asked) is has = (tells_case request asked piece code (asked_kind c request asked is) has, has_code request asked piece code (asked_kind c request asked is))
