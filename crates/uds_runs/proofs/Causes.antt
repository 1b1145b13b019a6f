-- Why requests fail.
use Rattle.std.specs.Prelude.{unwrap_or, IsSome, ◌==◌, nat_le, length, drop, get_or}
use Rattle.std.specs.Option.{option_map_or}
use Rattle.std.proofs.Common.{◌≡◌, ◌≢◌, ◌⊎◌, ℕ, Bool, true, false, if◌then◌else◌, List, [], ◌∷◌, ◌++◌, Option, Some, None, Result, Ok, Err, refl, sym, ap, ◌∙◌, subst, inl, inr, append_assoc}
use Rattle.std.proofs.lemmas.Bool.{cases_Bool}
use Rattle.uds_gateway.specs.block_machine.Words.{Fine, ReadJob, Request, Read, Write, Accepted, Entry, Ask, Post, Found, Configuration}
use Rattle.uds_gateway.specs.block_machine.State.{State, Job}
use Rattle.uds_gateway.specs.block_machine.Blocks.{desc_of, asked_block, job_kind, mark_by, mark_of}
use Rattle.uds_gateway.specs.block_machine.Steps.{step, after, after_from}
use Rattle.uds_gateway.specs.block_machine.Legal.{IsLegalFrom}
use Rattle.uds_gateway.specs.promise_blocks.Payment.{Worn}
use Rattle.uds_gateway.specs.script_walks.Walk.{joined}
use Rattle.promise_device.specs.Bridge.{IsWornOut}
use Rattle.uds_gateway.specs.promise_run.Completeness.{EachEntry, PostsWell}
use Rattle.uds_gateway.specs.promise_run.Promise.{making_of}
use Rattle.uds_gateway.specs.block_machine.StartUp.{at_first}
use Rattle.uds_gateway.specs.declared.code.NegativeCode.TheVariants.{ServiceNotSupported, IncorrectLength, ConditionsNotCorrect, OutOfRange, ProgrammingFailure}
use Rattle.uds_gateway.specs.declared.code.NegativeCode.{NegativeCode}
use Rattle.uds_gateway.specs.Services.{read_service, write_service, block_by, write_of, read_by, write_by, service_in, asked_by}
use Rattle.uds_gateway.specs.Jobs.{HasNone, IsOwn, IsRefused, EndsPosted}
use Rattle.uds_gateway.specs.Served.{IsServedBy, AreServed}
use Rattle.uds_gateway.specs.Codes.{is_read, gives_content, CaseBy}
use Rattle.uds_gateway.specs.Causes.{FailsNothing, before_end}
use Rattle.uds_gateway.proofs.Codes.{asked_is_own, codes_have_cases}
use Rattle.uds_gateway.proofs.Causes.{legal_parts, posted_hand, served_none, reads_fail_by_marks, writes_succeed}
use Rattle.uds_runs.specs.Causes.{FoundNoContent, WasWornOut, HasCauses, EachHasCauses, AnswersHaveCauses}

-- of entries that keep a fact those behind others do, and the first one behind them
each_parts : (c : Configuration) (P : State → Entry → Type 0) (s : State) (es more : List Entry) → EachEntry c P s (es ++ more) → EachEntry c P s es × EachEntry c P (after_from c s es) more
each_parts c P s [] more each = (tt, each)
each_parts c P s (e ∷ es) more each = let (first, rest) = each_parts c P (step c s e) es more each.1 in ((each.0, first), rest)

-- the Post of a request keeps it
post_keeps : (c : Configuration) (P : State → Entry → Type 0) (s : State) (asked : Request) (piece : List Entry) → (p : EndsPosted asked piece) → EachEntry c P s piece
    → P (before_end c s asked p.ends.way) (Post (asked_block asked) p.result p.given p.refused p.ops)
post_keeps c P s asked piece p each =
    let e = Post (asked_block asked) p.result p.given p.refused p.ops in
    (each_parts c P s (Ask 0 asked Accepted ∷ p.ends.way) (e ∷ []) (subst (λ (es : List Entry). EachEntry c P s es) p.ends.is each)).1.0

-- a read writes no mark
read_marks : (j : Job) (asked : Request) → j.request ≡ asked → is_read asked ≡ true → IsSome (mark_of j) → ⊥
read_marks j (Read block ram) same read some = cc (subst (λ (r : Request). IsSome (mark_by (unwrap_or (job_kind r) ReadJob) j.content)) same some)
read_marks j _ same read some = cc read

hand_same : {x y : Job} → Some x ≡ Some y → x ≡ y
hand_same is = cc is

module _ (c : Configuration) (most : ℕ) (worn : Worn) (s : State) (asked : Request) (piece : List Entry) (own : IsOwn asked) (none : HasNone s) (legal : IsLegalFrom c most s piece) (well : EachEntry c (PostsWell c worn) s piece) where
  -- no operation of a read is excused
  read_fails_nothing : (p : EndsPosted asked piece) → is_read asked ≡ true → FailsNothing c (before_end c s asked p.ends.way) p.result p.given
  read_fails_nothing p read = elim (post_keeps c (PostsWell c worn) s asked piece p well) [
    | inl nothing ↦ nothing
    | inr excused ↦
        let h = posted_hand c most asked s piece p own none legal in
        let same : excused.0 ≡ h.job = hand_same (sym excused.1 ∙ h.hand) in absurd (read_marks excused.0 asked (ap (λ (j : Job). j.request) same ∙ h.request) read excused.2)
  ]

  failed_read : (p : EndsPosted asked piece) → is_read asked ≡ true → gives_content p.result ≡ false → FoundNoContent c s asked piece
  failed_read p read fails = (p, reads_fail_by_marks c most s asked piece p none own legal read fails (read_fails_nothing p read))

  failed_write : (p : EndsPosted asked piece) → is_read asked ≡ false → p.result ≢ Fine → WasWornOut c worn s asked piece
  failed_write p write fails = (
    p,
    elim (post_keeps c (PostsWell c worn) s asked piece p well) [
      | inl nothing ↦ absurd (fails (writes_succeed c most s asked piece p none own legal write nothing))
      | inr excused ↦ excused
    ],
  )

-- A REQUEST THAT ASKS FOR NOTHING

abbrev is_early : NegativeCode → Bool
is_early ConditionsNotCorrect = false
is_early ProgrammingFailure = false
is_early code = true

err_same : {x y : NegativeCode} → ◌≡◌ {A = Result Request NegativeCode} (Err x) (Err y) → x ≡ y
err_same is = cc is

is_so : (x why : NegativeCode) → is_early x ≡ true → ◌≡◌ {A = Result Request NegativeCode} (Err x) (Err why) → is_early why ≡ true
is_so x why early is = subst (λ (code : NegativeCode). is_early code ≡ true) (err_same is) early

early_read : (block : Option ℕ) (why : NegativeCode) → option_map_or (λ b. Ok (Read b false)) block (Err OutOfRange) ≡ Err why → is_early why ≡ true
early_read None why is = is_so OutOfRange why refl is
early_read (Some block) why is = absurd (cc is)

early_write : (c : Configuration) (bytes : List ℕ) (block : Option ℕ) (why : NegativeCode) → option_map_or (write_of c bytes) block (Err OutOfRange) ≡ Err why → is_early why ≡ true
early_write c bytes None why is = is_so OutOfRange why refl is
early_write c bytes (Some block) why is = elim (cases_Bool (length bytes == (desc_of c block).length)) [
  | inl same ↦ let write : Ok (Write block (Some bytes) 0) ≡ Err why = rw same at is in absurd (cc write)
  | inr other ↦ is_so IncorrectLength why refl (rw other at is)
]

early_reads : (c : Configuration) (request : List ℕ) (why : NegativeCode) → read_by c request ≡ Err why → is_early why ≡ true
early_reads c request why is = elim (cases_Bool (length request == 3)) [
  | inl three ↦ early_read (block_by c (get_or request 1 0) (get_or request 2 0)) why (rw three at is)
  | inr other ↦ is_so IncorrectLength why refl (rw other at is)
]

early_writes : (c : Configuration) (request : List ℕ) (why : NegativeCode) → write_by c request ≡ Err why → is_early why ≡ true
early_writes c request why is = elim (cases_Bool (nat_le 4 (length request))) [
  | inl four ↦ early_write c (drop 3 request) (block_by c (get_or request 1 0) (get_or request 2 0)) why (rw four at is)
  | inr other ↦ is_so IncorrectLength why refl (rw other at is)
]

early_other : (c : Configuration) (request : List ℕ) (why : NegativeCode) → (if service_in request == write_service then write_by c request else Err ServiceNotSupported) ≡ Err why → is_early why ≡ true
early_other c request why is = elim (cases_Bool (service_in request == write_service)) [
  | inl writes ↦ early_writes c request why (rw writes at is)
  | inr other ↦ is_so ServiceNotSupported why refl (rw other at is)
]

-- its code is neither 22 nor 72
asked_early : (c : Configuration) (request : List ℕ) (why : NegativeCode) → asked_by c request ≡ Err why → is_early why ≡ true
asked_early c request why is = elim (cases_Bool (service_in request == read_service)) [
  | inl reads ↦ early_reads c request why (rw reads at is)
  | inr other ↦ early_other c request why (rw other at is)
]

-- THE LAW

-- of one request
has_causes : (c : Configuration) (most : ℕ) (worn : Worn) (s : State) (request : List ℕ) (piece : List Entry) → HasNone s → IsLegalFrom c most s piece → EachEntry c (PostsWell c worn) s piece → IsServedBy c request piece → HasCauses c worn s request piece
has_causes c most worn s request piece none legal well served = record {
  conditions = λ e. conditions_of (asked_by c request) refl ((codes_have_cases c request piece ConditionsNotCorrect served).0 e);
  programming = λ e. programming_of (asked_by c request) refl ((codes_have_cases c request piece ProgrammingFailure served).0 e);
}
  where
    -- why a request has this code
    conditions_of : (asked : Result Request NegativeCode) → asked_by c request ≡ asked → CaseBy ConditionsNotCorrect asked piece
        → (a : Request) × (asked_by c request ≡ Ok a) × (IsRefused a piece ⊎ ((is_read a ≡ true) × FoundNoContent c s a piece))
    conditions_of (Err why) is same = absurd (cc (sym (asked_early c request why is) ∙ ap is_early same))
    conditions_of (Ok asked) is (inl refused) = (asked, is, inl refused)
    conditions_of (Ok asked) is (inr (read, p, fails)) = (asked, is, inr (read, failed_read c most worn s asked piece (asked_is_own c request asked is) none legal well p read fails))

    programming_of : (asked : Result Request NegativeCode) → asked_by c request ≡ asked → CaseBy ProgrammingFailure asked piece → (a : Request) × (asked_by c request ≡ Ok a) × (is_read a ≡ false) × WasWornOut c worn s a piece
    programming_of (Err why) is same = absurd (cc (sym (asked_early c request why is) ∙ ap is_early same))
    programming_of (Ok asked) is (write, p, fails) = (asked, is, write, failed_write c most worn s asked piece (asked_is_own c request asked is) none legal well p write fails)

-- of each
each_has_causes : (c : Configuration) (most : ℕ) (worn : Worn) (s : State) (requests : List (List ℕ)) (pieces : List (List Entry)) (rest : List Entry) → HasNone s → IsLegalFrom c most s (joined pieces ++ rest)
    → EachEntry c (PostsWell c worn) s (joined pieces ++ rest) → AreServed c requests pieces → EachHasCauses c worn s requests pieces
each_has_causes c most worn s [] [] rest none legal well served = tt
each_has_causes c most worn s [] (piece ∷ pieces) rest none legal well served = absurd served
each_has_causes c most worn s (request ∷ requests) [] rest none legal well served = absurd served
each_has_causes c most worn s (request ∷ requests) (piece ∷ pieces) rest none legal well served =
    let (legal_here, legal_behind) = legal_parts c most s piece (joined pieces ++ rest) (subst (λ (es : List Entry). IsLegalFrom c most s es) (append_assoc piece (joined pieces) rest) legal) in
    let (well_here, well_behind) = each_parts c (PostsWell c worn) s piece (joined pieces ++ rest) (subst (λ (es : List Entry). EachEntry c (PostsWell c worn) s es) (append_assoc piece (joined pieces) rest) well) in (
      has_causes c most worn s request piece none legal_here well_here served.0,
      each_has_causes c most worn (after_from c s piece) requests pieces rest (served_none c most request s piece served.0 none legal_here) legal_behind well_behind served.1,
    )

pub answers_have_causes : AnswersHaveCauses
answers_have_causes r marks ops requests pieces rest is legal well served =
    let worn = IsWornOut (making_of r.configuration) r.flash in
    let all = subst (λ (h : List Entry). IsLegalFrom r.configuration r.most at_first h) is legal in
    let each = subst (λ (h : List Entry). EachEntry r.configuration (PostsWell r.configuration worn) at_first h) is well in
    each_has_causes r.configuration r.most worn (after r.configuration (Found marks ops ∷ [])) requests pieces rest (record { hand = refl; waiting = refl; sweep = refl }) all.1 each.1 served
