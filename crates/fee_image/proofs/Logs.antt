-- What becomes of a log in memory, what it reads, and how it begins.
use Rattle.std.proofs.Common.{◌≡◌, inl, inr, ◌<◌, ◌≤◌, ℕ, suc, ◌+◌, List, [], ◌∷◌, ◌++◌, length, Option, Some, None, refl, sym, ap, ◌∙◌, subst, arith}
use Rattle.std.proofs.lemmas.List.{append-nil}
use Rattle.nv_base.specs.Held.{Held}
use Rattle.fee_format.specs.declared.rec_head.RecHead.{RecHead}
use Rattle.fee_image.specs.Append.{Staged}
use Rattle.fee_image.specs.Bank.{Bank, page_of, moved}
use Rattle.fee_image.specs.Found.{last_held, shown_in}
use Rattle.fee_image.specs.RecordList.{Rec, Walks, records_of, end_of, end_after, pages_of_head}
use Rattle.fee_image.specs.LogLaws.{RecordsBegin, FreePagesAreRoom, LogsWiden, HasWork, LogsTighten, LogsStay, LoadedLogsHold, ErasedLogsHold, IsLoadedTail}
use Rattle.fee_image.specs.Log.{Tail, Open, Writes, Owes, Closed, Log, free_behind, IsOpen, HasTail}
use Rattle.fee_image.specs.May.{May, IsAmong, IsWider, exactly, beside, doubting}
use Rattle.fee_image.proofs.Marks.{untouched}
use Rattle.fee_image.proofs.Placed.{placed_loaded, placed_wider, placed_stay}
use Rattle.fee_image.proofs.Appends.{appends_leave_one_more, stops_behind}
use Rattle.fee_image.proofs.Reading.{records_stay}
use Rattle.fee_image.proofs.Records.{logs_compute}
use Rattle.fee_image.proofs.Walks.{walk_up}

-- IN MEMORY
begun : (b : Bank) (bytes : List ℕ) (may : May) (log : Log) (tail : Tail) (h : RecHead) (body : List ℕ) → tail ≡ Open → HasTail b bytes may log.end tail → IsOpen b bytes log.end
begun b bytes may log Open h body is at = at
begun b bytes may log (Writes g c k) h body is at = cc is
begun b bytes may log (Owes g) h body is at = cc is
begun b bytes may log Closed h body is at = cc is

pub records_begin : RecordsBegin
records_begin b numbers bytes may log h body holds is record_is commit =
    let o = begun b bytes may log log.tail h body is holds.tail in
    let at = (logs_compute b bytes (records_of b bytes) log.end).1 (refl, o.is_end) in
    record {
      low = holds.low;
      high = holds.high;
      shows = holds.shows;
      tail = record {
        records = records_of b bytes;
        staged = record {
          format = record_is.format;
          front = at.walk;
          legal = record_is.legal;
          size = record_is.size;
          room = record_is.room;
          written = λ j below. absurd (omega arith);
          blank = λ q above inside. o.blank q (omega arith) inside;
        };
        left = omega arith;
        commit = commit;
      };
      placed = holds.placed;
    }

free_room : (p pages end : ℕ) (tail : Tail) (h : RecHead) → tail ≡ Open → pages_of_head p h ≤ free_behind p pages end tail → end + pages_of_head p h ≤ pages
free_room p pages end Open h is le = omega arith
free_room p pages end (Writes g c k) h is le = cc is
free_room p pages end (Owes g) h is le = cc is
free_room p pages end Closed h is le = cc is

pub free_pages_are_room : FreePagesAreRoom
free_pages_are_room b log h is le = free_room b.page b.pages log.end log.tail h is le

tail_widens : (b : Bank) (bytes : List ℕ) (may wide : May) (end : ℕ) (tail : Tail) → IsWider may wide → HasTail b bytes may end tail → HasTail b bytes wide end tail
tail_widens b bytes may wide end Open more o = o
tail_widens b bytes may wide end (Writes h body k) more w = record { records = w.records; staged = w.staged; left = w.left; commit = λ number length fit. more number length _ (w.commit number length fit) }
tail_widens b bytes may wide end (Owes h) more o = o
tail_widens b bytes may wide end Closed more o = o

pub logs_widen : LogsWiden
logs_widen b numbers bytes may wide log more holds = record {
  low = holds.low;
  high = holds.high;
  shows = λ number length. more number length (shown_in b bytes number length) (holds.shows number length);
  tail = tail_widens b bytes may wide log.end log.tail more holds.tail;
  placed = placed_wider b bytes may wide log.end numbers log.places more holds.placed;
}

-- DOUBTS
pub first_among : (m : Held) (o : Option (List Held)) → IsAmong (beside m o) m
first_among m None = tt
first_among m (Some marks) = (0, (let lt : 0 < suc (length marks) = omega arith in lt), refl)

pub later_among : (m n : Held) (o : Option (List Held)) → IsAmong o n → IsAmong (beside m o) n
later_among m n None is = tt
later_among m n (Some marks) (k, lt, is) = (suc k, (let l : suc k < suc (length marks) = omega arith in l), is)

more_wide : (b : Bank) (bytes : List ℕ) (more : May) → IsWider more (doubting b bytes more)
more_wide b bytes more number length m is = later_among (shown_in b bytes number length) m (more number length) is

tail_tightens : (b : Bank) (bytes : List ℕ) (may more : May) (end : ℕ) (tail : Tail) → HasTail b bytes may end tail → HasWork more tail → HasTail b bytes (doubting b bytes more) end tail
tail_tightens b bytes may more end Open o work = o
tail_tightens b bytes may more end (Writes h body k) w work = record { records = w.records; staged = w.staged; left = w.left; commit = λ number length fit. more_wide b bytes more number length _ (work number length fit) }
tail_tightens b bytes may more end (Owes h) o work = o
tail_tightens b bytes may more end Closed o work = o

pub logs_tighten : LogsTighten
logs_tighten b numbers bytes may more log holds placed work = record {
  low = holds.low;
  high = holds.high;
  shows = λ number length. first_among (shown_in b bytes number length) (more number length);
  tail = tail_tightens b bytes may more log.end log.tail holds.tail work;
  placed = placed_wider b bytes more (doubting b bytes more) log.end numbers log.places (more_wide b bytes more) placed;
}

-- STAYS
-- the first of records that stand one after another, where they did
walk_front : (b a : Bank) (bytes old : List ℕ) (rs ss : List Rec) (q e f : ℕ) → a.page ≡ b.page → Walks b bytes q (rs ++ ss) f → Walks a old q rs e → Walks b bytes q rs e
walk_front b a bytes old [] ss q e f is all front = front
walk_front b a bytes old (r ∷ rs) ss q e f is all front = (all.0, walk_front b a bytes old rs ss (q + pages_of_head b.page r.head) e f is all.1 (subst (λ (p : ℕ). Walks a old (q + pages_of_head p r.head) rs e) is front.1))

module _ (b : Bank) (old new : List ℕ) (at : ℕ) (big : 16 ≤ b.page) (same : (q : ℕ) → 2 ≤ q → q < b.pages → page_of (moved b at) new q ≡ page_of b old q) where
  list_same : records_of (moved b at) new ≡ records_of b old
  list_same = records_stay b old new at same

  staged_stays : (rs : List Rec) (e : ℕ) (h : RecHead) (body : List ℕ) (k : ℕ) → 2 ≤ e → k < pages_of_head b.page h → Staged b old rs e h body k → Staged (moved b at) new rs e h body k
  staged_stays rs e h body k low lt s =
      let here = ((logs_compute (moved b at) new (records_of (moved b at) new) (end_of (moved b at) new)).1 (refl, refl)).walk in
      let front : (ss : List Rec) → records_of b old ≡ rs ++ ss → Walks (moved b at) new 2 rs e = λ ss is. walk_front (moved b at) b new old rs ss 2 e (end_of (moved b at) new) refl (subst (λ (l : List Rec). Walks (moved b at) new 2 l (end_of (moved b at) new)) (list_same ∙ is) here) s.front in
      record {
        format = s.format;
        front = elim (appends_leave_one_more b old old rs e h body k big s lt (untouched b old (e + k))) [
          | inl none ↦ front [] (sym ((logs_compute b old rs e).0 none.1).0 ∙ sym (append-nil rs))
          | inr more ↦ front (more.last ∷ []) (sym ((logs_compute b old (rs ++ more.last ∷ []) _).0 more.log).0)
        ];
        legal = s.legal;
        size = s.size;
        room = s.room;
        written = λ j below. same (e + j) (omega arith) (omega (arith, s.room)) ∙ s.written j below;
        blank = λ q above inside. same q (omega arith) inside ∙ s.blank q above inside;
      }

  tail_stays : (may : May) (end : ℕ) (tail : Tail) → 2 ≤ end → HasTail b old may end tail → HasTail (moved b at) new may end tail
  tail_stays may end Open low o = record {
    is_end = o.is_end ∙ ap (end_after b.page 2) (sym list_same);
    blank = λ q above inside. same q (omega arith) inside ∙ o.blank q above inside;
  }
  tail_stays may end (Writes h body k) low w = record { records = w.records; staged = staged_stays w.records end h body k low w.left w.staged; left = w.left; commit = w.commit }
  tail_stays may end (Owes h) low o = record { records = o.records; body = o.body; staged = staged_stays o.records end h o.body 1 low (omega arith) o.staged }
  tail_stays may end Closed low o = o

pub logs_stay : LogsStay
logs_stay b numbers old new at may log big same holds = record {
  low = holds.low;
  high = holds.high;
  shows = λ number length. subst (λ (l : List Rec). IsAmong (may number length) (last_held number length l)) (sym (list_same b old new at big same)) (holds.shows number length);
  tail = tail_stays b old new at big same may log.end log.tail holds.low holds.tail;
  placed = placed_stay b old new at log.end (omega arith) (λ q low lt. same q low (omega (arith, holds.high))) may log.end numbers log.places (omega arith) holds.placed;
}

-- STARTS
-- a walk ends in the bank
walk_high : (b : Bank) (bytes : List ℕ) (rs : List Rec) (q e : ℕ) → q ≤ b.pages → Walks b bytes q rs e → e ≤ b.pages
walk_high b bytes [] q e le walk = omega (arith, walk)
walk_high b bytes (r ∷ rs) q e le walk = walk_high b bytes rs (q + pages_of_head b.page r.head) e walk.0.head.within walk.1

loaded_tail : (b : Bank) (bytes : List ℕ) (may : May) (tail : Tail) → IsLoadedTail b bytes tail → HasTail b bytes may (end_of b bytes) tail
loaded_tail b bytes may tail (inl (is, format, blank)) = subst (HasTail b bytes may (end_of b bytes)) (sym is) (record { is_end = refl; blank = blank })
loaded_tail b bytes may tail (inr is) = subst (HasTail b bytes may (end_of b bytes)) (sym is) tt

pub loaded_logs_hold : LoadedLogsHold
loaded_logs_hold b numbers bytes tail big two is =
    let walk = ((logs_compute b bytes (records_of b bytes) (end_of b bytes)).1 (refl, refl)).walk in
    let give : (number length : ℕ) → IsAmong (exactly b bytes number length) (shown_in b bytes number length) = λ number length. first_among (shown_in b bytes number length) (Some []) in
    record {
      low = walk_up b bytes (records_of b bytes) 2 (end_of b bytes) walk;
      high = walk_high b bytes (records_of b bytes) 2 (end_of b bytes) two walk;
      shows = give;
      tail = loaded_tail b bytes (exactly b bytes) tail is;
      placed = placed_loaded b bytes (exactly b bytes) numbers (records_of b bytes) (end_of b bytes) big walk give;
    }

pub erased_logs_hold : ErasedLogsHold
erased_logs_hold b numbers bytes may big two blank give =
    let all = (logs_compute b bytes [] 2).0 (record { walk = refl; stop = stops_behind b bytes 2 big (λ inside. blank 3 (omega arith) inside) }) in
    record {
      low = omega arith;
      high = two;
      shows = λ number length. subst (λ (l : List Rec). IsAmong (may number length) (last_held number length l)) all.0 (give number length);
      tail = record { is_end = all.1; blank = blank };
      placed = placed_loaded b bytes may numbers [] 2 big refl give;
    }
