-- What a poll tells of a wait.
use Rattle.nvm_callers.proofs.Common.{unwrap_or, option_and_then, Option, Some, None, ◌≡◌, ◌≢◌, ◌⊎◌, inl, inr, ℕ, zero, suc, ◌<◌, ◌≤◌, ◌+◌, ◌∙◌, not, Bool, true, false, List, [], ◌∷◌, ◌++◌, length, take, refl, sym, ap, subst, arith, length-append, append_assoc, cases_Bool, cases_lt, ne_eqb, some, some-ne-none, some-injective, get_elem?, at_last, at_longer, code_of, ReqResult, Fine, Pending, Accepted, Entry, Ask, Pick, Wrote, Post, Off, Found, Configuration, is_pending, Note, StartsWith, AllAgree, Gave, NotBelow, tells_status, tells_off, told_last, gives, off_word, IsLast, nat_lt, option_map_or, ltb-true, max, lt-ltb, note, pending_block, gives_by, Waited, OffEndsWaits, PollsEndWaits, WaitsLast}
use Rattle.std.specs.Prelude.{if◌then◌else◌, ◌==◌}
use Rattle.std.proofs.Common.{eqb-true, ◌||◌, IsTrue}
use Rattle.driver_moves.specs.nvm_shared.StatusWords.{told_at}

-- PLACES
module _ {A : Type 0} where
  pub inside_length : (l : List A) (j : ℕ) (a : A) → get_elem? l j ≡ some a → j < length l
  inside_length [] j a e = absurd (some-ne-none a (sym e))
  inside_length (x ∷ xs) zero a e = omega arith
  inside_length (x ∷ xs) (suc j) a e = let h = inside_length xs j a e in omega arith

  pub at_take : (m : ℕ) (l : List A) (j : ℕ) (a : A) → j < m → get_elem? l j ≡ some a → get_elem? (take m l) j ≡ some a
  at_take zero l j a less e = absurd (omega (arith, less))
  at_take (suc m) [] j a less e = absurd (some-ne-none a (sym e))
  at_take (suc m) (x ∷ xs) zero a less e = e
  at_take (suc m) (x ∷ xs) (suc j) a less e = at_take m xs j a (omega (arith, less)) e

  pub of_take : (m : ℕ) (l : List A) (j : ℕ) (a : A) → get_elem? (take m l) j ≡ some a → (j < m) × (get_elem? l j ≡ some a)
  of_take (suc m) (x ∷ xs) zero a e = (omega arith, e)
  of_take (suc m) (x ∷ xs) (suc j) a e = let rest = of_take m xs j a e in (omega (arith, rest.0), rest.1)
  of_take m l j a e = absurd (some-ne-none a (sym e))

  pub at_front : (l more : List A) (j : ℕ) (a : A) → j < length l → get_elem? (l ++ more) j ≡ some a → get_elem? l j ≡ some a
  at_front [] more j a less e = absurd (omega (arith, less))
  at_front (x ∷ xs) more zero a less e = e
  at_front (x ∷ xs) more (suc j) a less e = at_front xs more j a (omega (arith, less)) e

  pub starts_longer : (h seen : List A) → StartsWith h seen → length seen ≤ length h
  starts_longer h seen starts = omega (arith, ap length starts.1, length-append seen starts.0)

  pub starts_again : (h l seen : List A) → StartsWith h l → StartsWith l seen → StartsWith h seen
  starts_again h l seen whole starts = (starts.0 ++ whole.0, whole.1 ∙ ap (λ (x : List A). x ++ whole.0) starts.1 ∙ append_assoc seen starts.0 whole.0)

pub agree_before : (h : List Entry) (notes more : List Note) → AllAgree gives h (notes ++ more) → AllAgree gives h notes
agree_before h notes more agree i n at = agree i n (at_longer notes more i n at)

-- A STATUS
over_by : (r : ReqResult) (off : Bool) → code_of r ≢ 2 → IsTrue (not (is_pending r) || off)
over_by Pending off is = absurd (is refl)
over_by r off is = refl

over_off : (b off : Bool) → off ≡ true → IsTrue (b || off)
over_off false false is = cc
over_off b off is = refl

-- A WORD
pub given_or : (o : Option ℕ) → (o ≡ None) ⊎ ((x : ℕ) × (o ≡ Some x))
given_or None = inl refl
given_or (Some x) = inr (x, refl)

-- what an entry tells of a thing has the number that it gives, and where it gives none it tells nothing
abbrev Alike : {A : Type 0} → (A → ℕ) → Option A → Option ℕ → Type 0
Alike {A} code told given = (given ≡ None → told ≡ None) × ((x : ℕ) → given ≡ Some x → (a : A) × (told ≡ Some a) × (code a ≡ x))

quiet : {A : Type 0} (code : A → ℕ) (given : Option ℕ) → given ≡ None → Alike code None given
quiet code given none = (λ is. refl, λ x is. absurd (let no_ : None ≡ Some x = sym none ∙ is in cc no_))

tells : {A : Type 0} (code : A → ℕ) (a : A) (n : ℕ) → code a ≡ n → Alike code (Some a) (Some n)
tells code a n same = (λ is. absurd (cc is), λ x is. (a, refl, same ∙ (let number : n ≡ x = cc in number)))

-- what entries tell of a thing goes by the numbers that they give its word
module _ {A : Type 0} (told : Entry → Option A) (code : A → ℕ) (word : ℕ) (alike : (e : Entry) → Alike code (told e) (gives e word)) where
  stays : (es : List Entry) (last : A) → ((j y : ℕ) → Gave gives es word j y → ⊥) → told_last told last es ≡ last
  stays [] last none = refl
  stays (e ∷ es) last none = elim (given_or (gives e word)) [
    | inl nothing ↦ ap (λ (o : Option A). told_last told (unwrap_or o last) es) ((alike e).0 nothing) ∙ stays es last (λ j y gave. none (suc j) y gave)
    | inr one ↦ absurd (none 0 one.0 (e, refl, one.1))
  ]

  -- the last one that gave it a number tells what was told last
  pub tells_last : (h : List Entry) (entry x : ℕ) (last : A) → Gave gives h word entry x → IsLast h word entry → code (told_last told last h) ≡ x
  tells_last [] entry x last gave is_last = absurd (some-ne-none gave.0 (sym gave.1))
  tells_last (e ∷ es) zero x last gave is_last =
      let same : e ≡ gave.0 = some-injective e gave.0 gave.1 in
      let (a, is, number) = (alike e).1 x (ap (λ (y : Entry). gives y word) same ∙ gave.2) in
      ap code (ap (λ (o : Option A). told_last told (unwrap_or o last) es) is ∙ stays es a (λ j y later. let low = is_last (suc j) y later in omega (arith, low))) ∙ number
  tells_last (e ∷ es) (suc entry) x last gave is_last =
      tells_last es entry x (unwrap_or (told e) last) gave (λ j y later. let low = is_last (suc j) y later in omega (arith, low))

-- so it is of a block and its status
module _ (block : ℕ) (low : block < off_word) where
  given_by : (status id : ℕ) → gives_by (told_at status id) block ≡ (if id == block then Some status else None)
  given_by status id = elim (cases_Bool (id == block)) [
    | inl own ↦ (let at : id ≡ block = eqb-true id block own in let under : nat_lt id off_word ≡ true = lt-ltb id off_word (omega (arith, at, low)) in rw (under, own) refl)
    | inr other ↦ elim (cases_Bool (nat_lt id off_word)) [ inl under ↦ rw (under, other) refl | inr over ↦ rw (over, other) refl ]
  ]

  by_request : (o : Option ℕ) → gives_by (option_and_then (told_at (code_of Pending)) o) block ≡ (if option_map_or (λ id. id == block) o false then Some (code_of Pending) else None)
  by_request None = refl
  by_request (Some id) = given_by (code_of Pending) id

  if_told : (b : Bool) (r : ReqResult) → Alike code_of (if b then Some r else None) (if b then Some (code_of r) else None)
  if_told true r = tells code_of r (code_of r) refl
  if_told false r = quiet code_of None refl

  alike : (e : Entry) → Alike code_of (tells_status block e) (gives e block)
  alike (Ask caller r Accepted) = subst (Alike code_of (tells_status block (Ask caller r Accepted))) (sym (by_request (pending_block r))) (if_told (option_map_or (λ id. id == block) (pending_block r) false) Pending)
  alike (Ask caller r reply) = quiet code_of None refl
  alike (Pick id kind t ops) = subst (Alike code_of (tells_status block (Pick id kind t ops))) (sym (given_by (code_of Pending) id)) (if_told (id == block) Pending)
  alike (Post id r given refused ops) = subst (Alike code_of (tells_status block (Post id r given refused ops))) (sym (given_by (code_of r) id)) (if_told (id == block) r)
  alike (Wrote i mark ops) = quiet code_of None refl
  alike (Off ops) =
      let other : (off_word == block) ≡ false = ne_eqb off_word block (λ is. omega (arith, is, low)) in
      quiet code_of (gives (Off ops) block) (ap (λ (b : Bool). if b then Some 1 else None) other)
  alike (Found marks ops) = tells code_of Fine 0 refl

  pub status_told : (h : List Entry) (entry x : ℕ) → Gave gives h block entry x → IsLast h block entry → code_of (told_last (tells_status block) Fine h) ≡ x
  status_told h entry x = tells_last (tells_status block) code_of block alike h entry x Fine

-- and of the power
abbrev off_code : Bool → ℕ
off_code b = if b then 1 else 0

below_off : (status id : ℕ) → gives_by (told_at status id) off_word ≡ None
below_off status id = elim (cases_Bool (nat_lt id off_word)) [
  | inl under ↦ (let less : id < off_word = ltb-true id off_word under in let other : (id == off_word) ≡ false = ne_eqb id off_word (λ is. omega (arith, is, less)) in rw (under, other) refl)
  | inr over ↦ rw over refl
]

request_off : (o : Option ℕ) → gives_by (option_and_then (told_at (code_of Pending)) o) off_word ≡ None
request_off None = refl
request_off (Some id) = below_off (code_of Pending) id

alike_off : (e : Entry) → Alike off_code (tells_off e) (gives e off_word)
alike_off (Ask caller r Accepted) = quiet off_code _ (request_off (pending_block r))
alike_off (Ask caller r reply) = quiet off_code None refl
alike_off (Pick id kind t ops) = quiet off_code _ (below_off (code_of Pending) id)
alike_off (Post id r given refused ops) = quiet off_code _ (below_off (code_of r) id)
alike_off (Wrote i mark ops) = quiet off_code None refl
alike_off (Off ops) = tells off_code true 1 refl
alike_off (Found marks ops) = tells off_code false 0 refl

off_of : (b : Bool) → off_code b ≡ 1 → b ≡ true
off_of true is = refl
off_of false is = cc is

-- the power is told to be off where 1 was given last
pub off_number_told : (h : List Entry) (entry x : ℕ) → Gave gives h off_word entry x → IsLast h off_word entry → told_last tells_off false h ≡ true → x ≡ 1
off_number_told h entry x gave is_last on = sym (tells_last tells_off off_code off_word alike_off h entry x false gave is_last) ∙ ap off_code on

off_told : (h : List Entry) (entry : ℕ) → Gave gives h off_word entry 1 → IsLast h off_word entry → told_last tells_off false h ≡ true
off_told h entry gave is_last = off_of (told_last tells_off false h) (tells_last tells_off off_code off_word alike_off h entry 1 false gave is_last)

-- A POLL
module _ (word : ℕ) (seen : List Entry) (notes : List Note) (entry status : ℕ) (fresh : NotBelow gives seen notes word entry) where
  abbrev told : List Note
  told = notes ++ note word entry status ∷ []

  abbrev end : ℕ
  end = max (entry + 1) (length seen)

  was_given : (h : List Entry) → AllAgree gives h told → Gave gives h word entry status
  was_given h agree = agree (length notes) (note word entry status) (at_last notes (note word entry status) (length notes) refl)

  given_in : (h : List Entry) → AllAgree gives h told → Gave gives (take end h) word entry status
  given_in h agree = let gave = was_given h agree in (gave.0, at_take end h entry gave.0 (omega arith) gave.1, gave.2)

  last_in : (h : List Entry) → StartsWith h seen → IsLast (take end h) word entry
  last_in h starts j y gave =
      let at = of_take end h j gave.0 gave.1 in elim (cases_lt j (length seen)) [
        | inl less ↦ fresh.0 j y (gave.0, at_front seen starts.0 j gave.0 less (subst (λ (l : List Entry). get_elem? l j ≡ some gave.0) starts.1 at.1), gave.2)
        | inr more ↦ omega (arith, at.0, more)
      ]

  ends_within : (h : List Entry) → StartsWith h seen → AllAgree gives h told → end ≤ length h
  ends_within h starts agree = let gave = was_given h agree in omega (arith, starts_longer h seen starts, inside_length h entry gave.0 gave.1)

pub polls_end_waits : PollsEndWaits
polls_end_waits c cap block seen notes entry status few low not_pending fresh =
    let last = max (entry + 1) (length seen) in (
      last,
      omega arith,
      record {
        some = omega arith;
        within = ends_within block seen notes entry status fresh;
        over = λ h starts agree.
            let is : code_of (told_last (tells_status block) Fine (take last h)) ≡ status =
            status_told block low (take last h) entry status (given_in block seen notes entry status fresh h agree) (last_in block seen notes entry status fresh h starts) in
            over_by (told_last (tells_status block) Fine (take last h)) (told_last tells_off false (take last h)) (λ pending. not_pending (sym is ∙ pending));
      },
    )

pub off_ends_waits : OffEndsWaits
off_ends_waits c cap block seen notes entry fresh =
    let last = max (entry + 1) (length seen) in (
      last,
      omega arith,
      record {
        some = omega arith;
        within = ends_within off_word seen notes entry 1 fresh;
        over = λ h starts agree.
            over_off (not (is_pending (told_last (tells_status block) Fine (take last h)))) (told_last tells_off false (take last h))
            (off_told (take last h) entry (given_in off_word seen notes entry 1 fresh h agree) (last_in off_word seen notes entry 1 fresh h starts));
      },
    )

pub waited_on : (c : Configuration) (cap block place : ℕ) (seen seen_new : List Entry) (notes notes_new : List Note) → Waited c cap block place seen notes
    → StartsWith seen_new seen → ((h : List Entry) → AllAgree gives h notes_new → AllAgree gives h notes) → Waited c cap block place seen_new notes_new
waited_on c cap block place seen seen_new notes notes_new waited onwards agrees = record {
  some = waited.some;
  within = λ h starts agree. waited.within h (starts_again h seen_new seen starts onwards) (agrees h agree);
  over = λ h starts agree. waited.over h (starts_again h seen_new seen starts onwards) (agrees h agree);
}

pub waits_last : WaitsLast
waits_last c cap block place seen seen_new notes more waited onwards =
    waited_on c cap block place seen seen_new notes (notes ++ more) waited onwards (λ h agree. agree_before h notes more agree)
