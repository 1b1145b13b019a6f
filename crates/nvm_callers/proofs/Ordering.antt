-- What a caller did, against its program.
use Rattle.nvm_callers.proofs.Common.{slice_get, IsTrue, ◌≡◌, ◌⊎◌, inl, inr, ℕ, zero, suc, ◌+◌, ◌<◌, ◌≤◌, ◌∙◌, true, false, Bool, List, [], ◌∷◌, ◌++◌, length, take, drop, Some, refl, sym, ap, subst, arith, length-append, append_assoc, append-nil, take-append_seam, some, get_elem?, at_longer, Request, Entry, Ask, Configuration, after, Note, StartsWith, AllAgree, Step, StepKind, AwaitStep, WaitedFor, asks_of, program_of, CanBeMade, HadNoRoom, gives, IsEntry, AreAll, Deed, AskDeed, Await, requests_in, requests_append, deeds_append, deeds_have_the_requests, deeds_by, deeds_from, deeds_of, Shows, WereOver, fits, requests_of, IsNextAsk, BeginningsAsk, BeginningsKeepOrder, DeedsCanBeMade, AllIsAsked, FoundNoRoom, NoRoomIsHad}
use Rattle.std.specs.Prelude.{not}
use Rattle.nvm_callers.proofs.Doing.{deeds_hold, wait_among, waits_more}

-- PLACES
pub split_at : {A : Type 0} (l : List A) (i : ℕ) (a : A) → slice_get l i ≡ Some a → l ≡ take i l ++ a ∷ drop (suc i) l
split_at [] i a at = absurd (cc at)
split_at (x ∷ xs) zero a at = cc at
split_at {A} (x ∷ xs) (suc i) a at = ap (λ (l : List A). x ∷ l) (split_at xs i a at)

pub at_length : {A : Type 0} (l : List A) (a : A) (more : List A) → slice_get (l ++ a ∷ more) (length l) ≡ Some a
at_length [] a more = refl
at_length (x ∷ l) a more = at_length l a more

-- THE DEEDS OF A STEP
-- they stand behind those of the steps before it
pub deeds_split : (c : Configuration) (steps : List Step) (n : ℕ) (x : Step) → slice_get steps n ≡ Some x
    → (behind : List Deed) × (deeds_of c steps ≡ deeds_of c (take n steps) ++ (deeds_by c (take n steps) x.line x.caller x.kind ++ behind))
deeds_split c steps n x at = (
  deeds_from c (take n steps ++ x ∷ []) (drop (suc n) steps),
  ap (deeds_of c) (split_at steps n x at) ∙ deeds_append c [] (take n steps) (x ∷ drop (suc n) steps),
)

-- more of the requests of a program come behind so many, or nothing is left to do
abbrev Reaches : ℕ → List Deed → List Deed → Type 0
Reaches count done rest = (count < length (requests_in done)) ⊎ (rest ≡ [])

reaches_on : (d e : Deed) (front done rest : List Deed) → d ≡ e → Reaches (length (requests_in (d ∷ front))) (e ∷ done) rest → Reaches (length (requests_in front)) done rest
reaches_on d e front done rest same (inr none) = inr none
reaches_on d e front done rest same (inl more) =
    let one = ap length (requests_append (d ∷ []) front) ∙ length-append (requests_in (d ∷ [])) (requests_in front) in
    let two = ap length (requests_append (e ∷ []) done) ∙ length-append (requests_in (e ∷ [])) (requests_in done) in
    let like = ap (λ (x : Deed). length (requests_in (x ∷ []))) same in inl (omega (arith, more, one, two, like))

-- so a deed that isn't behind them is among those that were done
among : (front behind done rest : List Deed) (d : Deed) → front ++ d ∷ behind ≡ done ++ rest → Reaches (length (requests_in front)) done rest → (after : List Deed) × (done ≡ front ++ d ∷ after)
among front behind [] rest d is (inl more) = absurd (omega (arith, more))
among [] behind [] rest d is (inr none) = absurd (cc (is, none))
among (f ∷ front) behind [] rest d is (inr none) = absurd (cc (is, none))
among [] behind (e ∷ done) rest d is reaches = let same : e ∷ done ≡ d ∷ done = cc in (done, same)
among (f ∷ front) behind (e ∷ done) rest d is reaches =
    let same : f ≡ e = cc in
    let later : front ++ d ∷ behind ≡ done ++ rest = cc in
    let (after, has) = among front behind done rest d later (reaches_on f e front done rest same reaches) in
    let whole : e ∷ done ≡ f ∷ (front ++ d ∷ after) = cc in (after, whole)

-- THE LAWS
module _ (c : Configuration) (caller : ℕ) (program : List Step) (done rest : List Deed) (h : List Entry) (is : deeds_of c program ≡ done ++ rest) where
  asked : requests_of c program ≡ requests_in done ++ requests_in rest
  asked = sym (deeds_have_the_requests c program) ∙ ap requests_in is ∙ requests_append done rest

  -- a wait within what was done
  waited : (n block : ℕ) (x : Step) → WereOver caller h done → slice_get program n ≡ Some x → x.kind ≡ AwaitStep block
      → Reaches (length (requests_of c (take n program))) done rest → WaitedFor caller block (length (requests_of c (take n program))) h
  waited n block x over at await reaches =
      let front = deeds_of c (take n program) in
      let many : length (requests_in front) ≡ length (requests_of c (take n program)) = ap length (deeds_have_the_requests c (take n program)) in
      let (behind, split) = deeds_split c program n x at in
      let one : deeds_of c program ≡ front ++ Await x.line block ∷ behind = split ∙ ap (λ (k : StepKind). front ++ (deeds_by c (take n program) x.line x.caller k ++ behind)) await in
      let (after, has) = among front behind done rest (Await x.line block) (sym one ∙ is) (subst (λ (k : ℕ). Reaches k done rest) (sym many) reaches) in
      wait_among (λ b k. WaitedFor caller b k h) block x.line (length (requests_of c (take n program))) 0 front after (omega (arith, many)) (subst (λ (ds : List Deed). WereOver caller h ds) has over)

pub beginnings_ask : BeginningsAsk
beginnings_ask c caller program done rest h is asks =
    asks ∙ sym (take-append_seam (requests_in done) (requests_in rest)) ∙ ap (λ (l : List Request). take (length (requests_in done)) l) (sym (asked c caller program done rest h is))
    ∙ ap (λ (l : List Request). take (length l) (requests_of c program)) (sym asks)

pub beginnings_keep_order : BeginningsKeepOrder
beginnings_keep_order c caller program done rest h is shows =
    let many = ap length shows.asks in record {
      requests = beginnings_ask c caller program done rest h is shows.asks;
      awaits = λ n block x at await more. waited c caller program done rest h is n block x shows.waits at await (inl (omega (arith, more, many)));
    }

-- what a caller did it can have done, whatever it asked for later
pub deeds_made_by : (c : Configuration) (caller : ℕ) (program : List Step) (h : List Entry) → length (requests_in (deeds_of c program)) ≤ length (asks_of caller h)
    → WereOver caller h (deeds_of c program) → CanBeMade c caller program h
deeds_made_by c caller program h enough over =
    let many = ap length (deeds_have_the_requests c program) in record {
      requests = omega (arith, many, enough);
      waits = λ n block x at await. waited c caller program (deeds_of c program) [] h (sym (append-nil (deeds_of c program))) n block x over at await (inr refl);
    }

pub deeds_can_be_made : DeedsCanBeMade
deeds_can_be_made c caller program h shows = let many = ap length shows.asks in deeds_made_by c caller program h (omega (arith, many)) shows.waits

pub all_is_asked : AllIsAsked
all_is_asked c steps caller h shows = shows.asks ∙ deeds_have_the_requests c (program_of caller steps)

module _ (c : Configuration) (cap : ℕ) (own : List ℕ) (seen : List Entry) (notes : List Note) (steps : List Step) (caller : ℕ) (done rest : List Deed) (line : ℕ) (r : Request) (h : List Entry)
    (is : deeds_of c (program_of caller steps) ≡ done ++ AskDeed line r ∷ rest) (found : FoundNoRoom c cap own seen notes caller done) (starts : StartsWith h seen)
    (all : AreAll h caller own) where
  taken : take (length seen) h ≡ seen
  taken = ap (take (length seen)) starts.1 ∙ take-append_seam seen starts.0

  all_seen : AreAll seen caller own
  all_seen k q reply at = all k q reply (subst (λ (l : List Entry). IsEntry l k (Ask caller q reply)) (sym starts.1) (at_longer seen starts.0 k (Ask caller q reply) at))

  shown : Shows caller done seen
  shown = deeds_hold c cap own seen notes caller done seen found.done ([], sym (append-nil seen)) found.agree all_seen

  agree_on : AllAgree gives h notes
  agree_on i n at =
      let gave = found.agree i n at in
      (gave.0, subst (λ (l : List Entry). get_elem? l n.1 ≡ some gave.0) (sym starts.1) (at_longer seen starts.0 n.1 gave.0 gave.1), gave.2)

  shown_last : Shows caller done h
  shown_last = deeds_hold c cap own seen notes caller done h found.done starts agree_on all

  -- the request that found no room comes next
  many : length (asks_of caller seen) ≡ length (requests_in done)
  many = ap length shown.asks

  comes : slice_get (requests_of c (program_of caller steps)) (length (asks_of caller seen)) ≡ Some r
  comes = ap (λ (l : List Request). slice_get l (length (asks_of caller seen))) (asked c caller (program_of caller steps) done (AskDeed line r ∷ rest) seen is)
      ∙ ap (λ (k : ℕ). slice_get (requests_in done ++ r ∷ requests_in rest) k) many ∙ at_length (requests_in done) r (requests_in rest)

  more_done : deeds_of c (program_of caller steps) ≡ (done ++ AskDeed line r ∷ []) ++ rest
  more_done = is ∙ sym (append_assoc done (AskDeed line r ∷ []) rest)

  nothing_waits : (n block : ℕ) (x : Step) → slice_get (program_of caller steps) n ≡ Some x → x.kind ≡ AwaitStep block
      → length (requests_of c (take n (program_of caller steps))) ≡ length (asks_of caller seen) → WaitedFor caller block (length (asks_of caller seen)) seen
  nothing_waits n block x at await same =
      let one : length (requests_in (done ++ AskDeed line r ∷ [])) ≡ length (requests_in done) + 1 = ap length (requests_append done (AskDeed line r ∷ [])) ∙ length-append (requests_in done) (r ∷ []) in
      let over = waits_more (λ b k. WaitedFor caller b k seen) (AskDeed line r) (length (requests_in done)) 0 done (omega arith) tt shown.waits in
      subst (λ (k : ℕ). WaitedFor caller block k seen) same
      (waited c caller (program_of caller steps) (done ++ AskDeed line r ∷ []) rest seen more_done n block x over at await (inl (omega (arith, same, many, one))))

  full_there : (b : Bool) → b ≡ false → IsTrue (not b)
  full_there true none = cc none
  full_there false none = refl

  no_room : HadNoRoom cap c steps h caller
  no_room = record {
    entries = length seen;
    request = r;
    next = subst (λ (l : List Entry). IsNextAsk c steps l caller r) (sym taken) (record { next = comes; waited = nothing_waits });
    full = full_there (fits c cap (after c (take (length seen) h)) 1) (ap (λ (l : List Entry). fits c cap (after c l) 1) taken ∙ found.full);
    last = shown_last.asks ∙ sym shown.asks ∙ ap (asks_of caller) (sym taken);
  }

pub no_room_is_had : NoRoomIsHad
no_room_is_had c cap own seen notes steps caller done rest line r h is found starts all = no_room c cap own seen notes steps caller done rest line r h is found starts all
