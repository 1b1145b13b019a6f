-- Logs whose banks' pages stay, and logs of which nothing but the content of a record in work changes.
use Rattle.std.proofs.Common.{◌≡◌, inl, inr, ◌<◌, ◌≤◌, ℕ, ◌+◌, ◌*◌, Bool, List, [], ◌∷◌, length, Some, None, refl, sym, ap, ◌∙◌, subst, arith}
use Rattle.fee_image.specs.Bank.{page_of}
use Rattle.fee_image.specs.RecordList.{Rec, IsClosed, IsTailBlank, pages_of_head, records_of, end_of, end_after}
use Rattle.fee_image.specs.Log.{HoldsLog, Tail as LogTail}
use Rattle.fee_image.specs.May.{May, IsWider}
use Rattle.fee_image.specs.Places.{places_of}
use Rattle.fee_image.proofs.Logs.{logs_stay, logs_widen}
use Rattle.fee_image.proofs.Reading.{records_stay}
use Rattle.fee_switch_laws.specs.fee_log.declared.tail.Tail.{Tail}
use Rattle.fee_switch_laws.specs.fee_log.declared.tail.Tail.TheVariants.{Open, Writes, Owes, Closed}
use Rattle.fee_switch_laws.specs.fee_log.Laws.{HoldsState, MayFollow}
use Rattle.fee_switch_laws.specs.fee_log.Log.{LogState, bank_of, pages_in, log_of, tail_with, work_in}
use Rattle.fee_laws.specs.Follows.{anything}

-- THE PAGES
-- those of a log's bank behind its head and gate are as they were
abbrev pub SameBody : LogState → List ℕ → List ℕ → Type 0
SameBody s old new = (q : ℕ) → 2 ≤ q → q < pages_in s → page_of (bank_of s) new q ≡ page_of (bank_of s) old q

pub state_moves : (s : LogState) (body old new : List ℕ) (may : May) → 16 ≤ s.geometry.page → length new ≡ length old → SameBody s old new → HoldsState s body old may → HoldsState s body new may
state_moves s body old new may low long same holds = record {
  size = omega (arith, long, holds.size);
  holds = logs_stay (bank_of s) s.numbers old new (s.bank * pages_in s) may (log_of s body) low same holds.holds;
  follows = holds.follows;
}

-- records end behind the page where the first one begins
end_low : (p q : ℕ) (records : List Rec) → q ≤ end_after p q records
end_low p q [] = omega arith
end_low p q (r ∷ rs) = omega (arith, end_low p (q + pages_of_head p r.head) rs)

-- and a bank that is closed stays so
module _ (s : LogState) (old new : List ℕ) (same : SameBody s old new) where
  same_end : end_of (bank_of s) new ≡ end_of (bank_of s) old
  same_end = ap (end_after (bank_of s).page 2) (records_stay (bank_of s) old new (bank_of s).at same)

  blank_before : IsTailBlank (bank_of s) new (end_of (bank_of s) new) → IsTailBlank (bank_of s) old (end_of (bank_of s) old)
  blank_before blank q low inside =
      let two = end_low (bank_of s).page 2 (records_of (bank_of s) old) in
      sym (same q (omega (arith, low, two)) inside) ∙ blank q (omega (arith, low, same_end)) inside

  pub closed_stays : IsClosed (bank_of s) old (end_of (bank_of s) old) → IsClosed (bank_of s) new (end_of (bank_of s) new)
  closed_stays (inl format) = inl format
  closed_stays (inr used) = inr (λ blank. used (blank_before blank))

-- and its records give the same places
pub places_stay : (s : LogState) (old new : List ℕ) → SameBody s old new → s.places ≡ places_of s.numbers (records_of (bank_of s) old) → s.places ≡ places_of s.numbers (records_of (bank_of s) new)
places_stay s old new same placed = placed ∙ ap (places_of s.numbers) (sym (records_stay (bank_of s) old new (bank_of s).at same))

-- THE CONTENT
-- with no record in work there is none
idle_with : (t : Tail) (body after : List ℕ) → work_in t ≡ None → tail_with t body ≡ tail_with t after
idle_with Open body after idle = refl
idle_with (Writes head done) body after idle = cc idle
idle_with (Owes head next) body after idle = refl
idle_with Closed body after idle = refl

idle_follows : (may : May) (t : Tail) (body : List ℕ) → work_in t ≡ None → MayFollow may t body
idle_follows may Open body idle = tt
idle_follows may (Writes head done) body idle = tt
idle_follows may (Owes head None) body idle = tt
idle_follows may (Owes head (Some next)) body idle = cc idle
idle_follows may Closed body idle = tt

pub any_content : (s : LogState) (body after bytes : List ℕ) (may : May) → work_in s.tail ≡ None → HoldsState s body bytes may → HoldsState s after bytes may
any_content s body after bytes may idle holds = record {
  size = holds.size;
  holds = subst (λ (t : LogTail). HoldsLog (bank_of s) s.numbers bytes may (record { end = s.end; tail = t; places = s.places })) (idle_with s.tail body after idle) holds.holds;
  follows = idle_follows may s.tail after idle;
}

-- THE MARKS
all_wider : (may : May) → IsWider may anything
all_wider may number length m among = tt

any_follows : (may : May) (t : Tail) (body : List ℕ) → MayFollow may t body → MayFollow anything t body
any_follows may Open body follows = tt
any_follows may (Writes head done) body follows = tt
any_follows may (Owes head None) body follows = tt
any_follows may (Owes head (Some next)) body follows = (follows.0, λ number length fit. tt)
any_follows may Closed body follows = tt

pub any_marks : (s : LogState) (body bytes : List ℕ) (may : May) → HoldsState s body bytes may → HoldsState s body bytes anything
any_marks s body bytes may holds = record {
  size = holds.size;
  holds = logs_widen (bank_of s) s.numbers bytes may anything (log_of s body) (all_wider may) holds.holds;
  follows = any_follows may s.tail body holds.follows;
}

-- THE FLAGS
pub any_flags : (s : LogState) (flags : List Bool) (body bytes : List ℕ) (may : May) → HoldsState s body bytes may → HoldsState (record s { flags = flags }) body bytes may
any_flags s flags body bytes may holds = record { size = holds.size; holds = holds.holds; follows = holds.follows }
