-- A load of a log, from page to page.
use Rattle.std.specs.Prelude.{if◌then◌else◌, IsTrue, ◌↔◌, false}
use Rattle.std.proofs.Common.{◌≡◌, inl, inr, ◌<◌, ◌≤◌, ◌+◌, ◌-◌, ◌*◌, ℕ, Bool, true, List, [], ◌∷◌, ◌++◌, length, refl, sym, ap, ◌∙◌, subst, append_assoc, append-nil, arith}
use Rattle.std.proofs.lemmas.Bool.{cases_lt}
use Rattle.std.proofs.Math.Nat.{mul-le-mul_right}
use Rattle.fee_format.specs.declared.rec_head.RecHead.{RecHead}
use Rattle.fee_format.specs.Formats.{IsFormat}
use Rattle.fee_format.specs.Gate.{IsGate}
use Rattle.fee_format.specs.Pages.{blank_page, body_pages_of}
use Rattle.fee_format.specs.RecHead.{IsLegalRecHead, IsRecHead}
use Rattle.fee_image.specs.Bank.{Bank, page_of}
use Rattle.fee_image.specs.RecordList.{Rec, Stands, IsTailBlank, pages_of_head, records_left, records_of, end_after, end_of}
use Rattle.fee_image.specs.declared.place.Place.{Place}
use Rattle.fee_image.specs.Places.{noted, places_of}
use Rattle.fee_image.proofs.Records.{lists_unfold}
use Rattle.fee_view.specs.declared.record.Seen.{Seen}
use Rattle.fee_view.specs.Record.{rec_seen}
use Rattle.fee_view.specs.View.{own_bank}
use Rattle.fee_log.specs.declared.load.Awaited.{Awaited}
use Rattle.fee_log.specs.declared.load.Awaited.TheVariants.{Header, Gate, Commit, Rest}
use Rattle.fee_log.specs.declared.load.Load.{Load}
use Rattle.fee_log.specs.declared.tail.Tail.{Tail}
use Rattle.fee_log.specs.declared.tail.Tail.TheVariants.{Closed}
use Rattle.fee_log.specs.Index.{AreCounted, AreWithin}
use Rattle.fee_log.specs.Load.{IsNext, IsLoad, load_begun, with_record, IsOfBank, HasPages, IsSeen, HasTaken, IsLoading}
use Rattle.fee_log.specs.Log.{LogState, IsLogState, HasFormat, IsTail, pages_in}
use Rattle.fee_log.proofs.Counts.{noted_counted}
use Rattle.fee_log.proofs.Soundness.{moved_sound}
use Rattle.fee_log.proofs.Walking.{places_push}
use Rattle.fee_log.proofs.Within.{further, noted_within}

-- IT BEGINS
pub begun_load : (old new : LogState) (bank format : ℕ) (load : Load) → IsFormat format → new ≡ load_begun old bank format → ((p : ℕ) → IsNext p (pages_in new) 2 load.next load.awaited)
    → IsLoad new load
begun_load old new bank format load is same next =
    subst (λ (s : LogState). ((p : ℕ) → IsNext p (pages_in s) 2 load.next load.awaited) → IsLoad s load) (sym same) (λ n. record { tail = refl; format = is; next = n old.geometry.page }) next

pub begun_loading : (old new : LogState) (bank format : ℕ) (load : Load) (b : Bank) (bytes : List ℕ) → new ≡ load_begun old bank format → IsSeen b bytes 2 load.next load.awaited
    → IsLoading b bytes new load
begun_loading old new bank format load b bytes same seen =
    subst (λ (s : LogState). IsLoading b bytes s load) (sym same) (record { first = record { taken = []; all = refl; places = refl; ends = refl }; seen = seen })

-- the next page isn't before the end
pub end_before : (p pages end next : ℕ) (awaited : Awaited) → IsNext p pages end next awaited → end ≤ next
end_before p pages end next Header is = omega (arith, is.0)
end_before p pages end next (Gate head blank) is = omega (arith, is.0)
end_before p pages end next (Commit head) is = omega (arith, is.0)
end_before p pages end next (Rest blank) is = is.0

-- IT GOES ON
pub load_stays : (s t : LogState) (load load' : Load) → t ≡ record s { places = t.places; end = t.end } → IsLoad s load
    → IsNext t.geometry.page (pages_in t) t.end load'.next load'.awaited → IsLoad t load'
load_stays s t load load' same is next = record {
  tail = ap (λ (x : LogState). x.tail) same ∙ is.tail;
  format = subst IsFormat (sym (ap (λ (x : LogState). x.format) same)) is.format;
  next = next;
}

-- where a record may begin
pub end_now : (s : LogState) (load : Load) → IsLoad s load → load.awaited ≡ Header → load.next ≡ s.end
end_now s load is at = let next = subst (IsNext s.geometry.page (pages_in s) s.end load.next) at is.next in next.0

-- A RECORD IS TAKEN
taken_within : (s : LogState) (h : RecHead) (committed : Bool) (end : ℕ) → IsLogState s → s.end + pages_of_head s.geometry.page h ≤ end
    → AreWithin s.geometry.page end s.numbers (with_record s h committed).places
taken_within s h true end sound le = noted_within s.geometry.page s.end end s.numbers s.places h sound.end_low le sound.places
taken_within s h false end sound le = further s.geometry.page s.end end s.numbers s.places (omega (arith, le)) sound.places

taken_counted : (s : LogState) (h : RecHead) (committed : Bool) → IsLogState s → IsLegalRecHead h → AreCounted (with_record s h committed).places
taken_counted s h true sound legal = noted_counted s.numbers s.places s.end h legal.count sound.counts
taken_counted s h false sound legal = sound.counts

pub taken_sound : (s : LogState) (h : RecHead) (committed : Bool) → IsLogState s → s.tail ≡ Closed → IsLegalRecHead h → s.end + pages_of_head s.geometry.page h ≤ pages_in s
    → IsLogState (with_record s h committed)
taken_sound s h committed sound closed legal le =
    let end = s.end + pages_of_head s.geometry.page h in
    let tail : IsTail s.geometry.page (pages_in s) end s.tail = subst (IsTail s.geometry.page (pages_in s) end) (sym closed) tt in
    moved_sound s (with_record s h committed).places end s.tail sound sound.format
    (taken_within s h committed end sound (omega arith)) (taken_counted s h committed sound legal) (omega arith) le tail

-- it stands where the log ended
pub record_taken : (b : Bank) (bytes : List ℕ) (s : LogState) (seen : Seen) → b.page ≡ s.geometry.page → Stands b bytes s.end (rec_seen b bytes s.end seen) → HasTaken b bytes s
    → HasTaken b bytes (with_record s seen.head seen.committed)
record_taken b bytes s seen size stands on =
    let r = rec_seen b bytes s.end seen in
    let q = s.end + pages_of_head s.geometry.page seen.head in
    let pages : s.end + pages_of_head b.page seen.head ≡ q = ap (λ (x : ℕ). s.end + pages_of_head x seen.head) size in
    let first : records_left b bytes s.end ≡ r ∷ records_left b bytes q = (lists_unfold b bytes s.end).first r stands ∙ ap (λ (x : ℕ). r ∷ records_left b bytes x) pages in
    record {
      taken = on.taken ++ r ∷ [];
      all = append_assoc on.taken (r ∷ []) (records_left b bytes q) ∙ ap (λ (rest : List Rec). on.taken ++ rest) (sym first) ∙ on.all;
      places = ap (λ (x : List Place). if seen.committed then noted s.numbers x s.end seen.head else x) on.places ∙ sym (places_push s.numbers on.taken r seen.committed refl);
      ends = sym (ap (end_after b.page s.end) first ∙ ap (λ (x : ℕ). end_after b.page x (records_left b bytes q)) pages) ∙ on.ends;
    }

-- where its last page is awaited
pub commit_next : (s : LogState) (load : Load) (h : RecHead) → IsLoad s load → load.awaited ≡ Commit h
    → IsNext s.geometry.page (pages_in s) s.end load.next (Commit h)
commit_next s load h is at = subst (IsNext s.geometry.page (pages_in s) s.end load.next) at is.next

pub commit_stands : (b : Bank) (bytes : List ℕ) (s : LogState) (load : Load) (h : RecHead) (committed : Bool) (page : List ℕ)
    → b.page ≡ s.geometry.page → length page ≡ s.geometry.page → page_of b bytes load.next ≡ page → IsTrue committed ↔ IsGate (length page) page
    → load.awaited ≡ Commit h → load.next + 1 ≡ s.end + pages_of_head s.geometry.page h → IsSeen b bytes s.end load.next load.awaited
    → Stands b bytes s.end (rec_seen b bytes s.end (record { head = h; committed = committed }))
commit_stands b bytes s load h committed page size long is test at next on =
    let seen : IsSeen b bytes s.end load.next (Commit h) = subst (IsSeen b bytes s.end load.next) at on in
    let place : load.next ≡ s.end + 2 + body_pages_of h.length b.page = omega (arith, next, ap (λ (x : ℕ). body_pages_of h.length x) size) in
    let same : page ≡ page_of b bytes (s.end + 2 + body_pages_of h.length b.page) = sym is ∙ ap (page_of b bytes) place in
    let whole : length page ≡ b.page = long ∙ sym size in
    record {
      place = refl;
      head = seen.0;
      gate = seen.1;
      commit = subst (λ (x : List ℕ). IsTrue committed ↔ IsGate b.page x) same (subst (λ (k : ℕ). IsTrue committed ↔ IsGate k page) whole test);
      payload = refl;
    }

-- A PIECE
-- a record of it stands where a log ends so far
abbrev pub StandsIn : LogState → List ℕ → ℕ → ℕ → Seen → Type 0
StandsIn s piece from count seen = let b = own_bank s.geometry.page count s.format in Stands b piece (s.end - from) (rec_seen b piece (s.end - from) seen)

-- a page of it is the bank's
pub page_there : (b : Bank) (own piece : List ℕ) (from next count page : ℕ) → b.page ≡ page → HasPages b own from piece → length piece ≡ count * page
    → from ≤ next → next < from + count → page_of b own next ≡ page_of (own_bank page count 1) piece (next - from)
page_there b own piece from next count page size pages long low lt =
    let at : from + (next - from) ≡ next = omega (arith, low) in
    let fits : (next - from + 1) * b.page ≤ length piece = omega (arith, long, ap (λ (x : ℕ). (next - from + 1) * x) size, mul-le-mul_right page (let t : next - from + 1 ≤ count = omega (arith, low, lt) in t)) in
    ap (page_of b own) (sym at) ∙ pages (next - from) fits ∙ ap (λ (x : ℕ). page_of (own_bank x 2 1) piece (next - from)) size

pub page_here : (b : Bank) (own piece : List ℕ) (from next count : ℕ) (s : LogState) → IsOfBank s b → HasPages b own from piece → length piece ≡ count * s.geometry.page
    → from ≤ next → next < from + count → page_of b own next ≡ page_of (own_bank s.geometry.page 2 1) piece (next - from)
page_here b own piece from next count s in_log pages long low lt = page_there b own piece from next count s.geometry.page in_log.page pages long low lt

-- what is so of it is so of the bank's
page_moved : (b : Bank) (own piece : List ℕ) (from count page : ℕ) (Is : ℕ → List ℕ → Type 0) (q at : ℕ) → b.page ≡ page → HasPages b own from piece
    → length piece ≡ count * page → from ≤ q → q < from + count → q - from ≡ at → Is page (page_of (own_bank page count 1) piece at) → Is b.page (page_of b own q)
page_moved b own piece from count page Is q at size pages long low lt place is =
    let same : page_of b own q ≡ page_of (own_bank page count 1) piece at = page_there b own piece from q count page size pages long low lt ∙ ap (page_of (own_bank page count 1) piece) place in
    subst (λ (x : List ℕ). Is b.page x) (sym same) (subst (λ (n : ℕ). Is n (page_of (own_bank page count 1) piece at)) (sym size) is)

-- a record that stands in it, where the log ends so far, stands in the bank
pub record_there : (b : Bank) (own piece : List ℕ) (from count : ℕ) (s : LogState) (seen : Seen) → IsOfBank s b → HasPages b own from piece → length piece ≡ count * s.geometry.page
    → from ≤ s.end → from + count ≤ pages_in s → StandsIn s piece from count seen → Stands b own s.end (rec_seen b own s.end seen)
record_there b own piece from count s seen in_log pages long low inside is =
    let h = seen.head in
    let end = s.end in
    let n = body_pages_of h.length s.geometry.page in
    let same : body_pages_of h.length b.page ≡ n = ap (body_pages_of h.length) in_log.page in
    let within : end - from + (3 + n) ≤ count = is.head.within in
    let moves = page_moved b own piece from count s.geometry.page in
    record {
      place = refl;
      head = record {
        format = subst IsFormat (sym in_log.format) is.head.format;
        page = subst (λ (format : ℕ). IsRecHead format b.page (page_of b own end) h) (sym in_log.format)
            (moves (λ (k : ℕ) (x : List ℕ). IsRecHead s.format k x h) end (end - from) in_log.page pages long low (omega (arith, low, within)) refl is.head.page);
        within = omega (arith, low, within, inside, same, in_log.pages);
      };
      gate = moves IsGate (end + 1) (end - from + 1) in_log.page pages long (omega (arith, low)) (omega (arith, low, within)) (omega (arith, low)) is.gate;
      commit = moves (λ (k : ℕ) (x : List ℕ). IsTrue seen.committed ↔ IsGate k x) (end + 2 + body_pages_of h.length b.page) (end - from + 2 + n) in_log.page pages long
          (omega (arith, low)) (omega (arith, low, within, same)) (omega (arith, low, same)) is.commit;
      payload = refl;
    }

-- and is taken from there
pub piece_taken : (b : Bank) (own piece : List ℕ) (from count : ℕ) (s t : LogState) (seen : Seen) → IsOfBank s b → HasPages b own from piece → length piece ≡ count * s.geometry.page
    → from ≤ s.end → from + count ≤ pages_in s → StandsIn s piece from count seen → t ≡ with_record s seen.head seen.committed → HasTaken b own s → HasTaken b own t
piece_taken b own piece from count s t seen in_log pages long low inside stands is on =
    subst (HasTaken b own) (sym is) (record_taken b own s seen in_log.page (record_there b own piece from count s seen in_log pages long low inside stands) on)

-- a log with one more record has the same bank
pub record_same : (s t : LogState) (h : RecHead) (committed : Bool) → t ≡ with_record s h committed → t ≡ record s { places = t.places; end = t.end }
record_same s t h committed is = subst (λ (x : LogState). x ≡ record s { places = x.places; end = x.end }) (sym is) refl

-- a log that takes records stays one of its bank
pub log_stays : (s t : LogState) (b : Bank) → t ≡ record s { places = t.places; end = t.end } → IsOfBank s b → IsOfBank t b
log_stays s t b same is = record {
  page = is.page ∙ sym (ap (λ (x : LogState). x.geometry.page) same);
  pages = is.pages ∙ sym (ap pages_in same);
  format = is.format ∙ sym (ap (λ (x : LogState). x.format) same);
}

-- THE PAGES BEHIND THE LAST RECORD
-- blank so far, and in a piece that comes
pub rest_goes : (b : Bank) (own piece : List ℕ) (end next from count page : ℕ) (blank test : Bool) → b.page ≡ page → HasPages b own from piece → length piece ≡ count * page
    → from ≤ next → next < from + count → IsTrue test ↔ IsTailBlank (own_bank page count 1) piece (next - from)
    → IsSeen b own end next (Rest blank) → end ≤ next → (both : Bool) → (IsTrue both ↔ (IsTrue blank × IsTrue test))
    → IsSeen b own end (from + count) (Rest both)
rest_goes b own piece end next from count page blank test size pages long low high tests seen after both is = (
  seen.0,
  (
    λ yes q le lt.
        let parts = is.0 yes in
        elim (cases_lt q next) [
          | inl before ↦ seen.1.0 parts.0 q le before
          | inr behind ↦
              page_there b own piece from q count page size pages long (omega (arith, low, behind)) lt ∙ tests.0 parts.1 (q - from) (omega (arith, low, behind)) (omega (arith, low, behind, lt)) ∙ ap blank_page (sym size)
        ],
    λ all. is.1 (
      seen.1.1 (λ q le lt. all q le (omega (arith, lt, high))),
      tests.1 (λ q le lt.
          let back : from + q ≡ from + q = refl in
          sym (page_there b own piece from (from + q) count page size pages long (omega arith) (omega (arith, lt)) ∙ ap (λ (x : ℕ). page_of (own_bank page count 1) piece x) (omega arith)) ∙ all (from + q) (omega (arith, low, le, after)) (omega (arith, lt)) ∙ ap blank_page size),
    ),
  ),
)

-- THE END
-- what a load that saw all pages has found
pub record Ended (b : Bank) (bytes : List ℕ) (s : LogState) (test : Bool) : Type 0 where
  pub places : s.places ≡ places_of s.numbers (records_of b bytes)
  pub end : s.end ≡ end_of b bytes
  pub blank : IsTrue test ↔ IsTailBlank b bytes (end_of b bytes)

pub ended : (b : Bank) (bytes : List ℕ) (s : LogState) (load : Load) (blank : Bool) → load.awaited ≡ Rest blank → load.next ≡ b.pages → IsLoading b bytes s load → Ended b bytes s blank
ended b bytes s load blank at all on =
    let seen : IsSeen b bytes s.end load.next (Rest blank) = subst (IsSeen b bytes s.end load.next) at on.seen in
    let none : records_left b bytes s.end ≡ [] = (lists_unfold b bytes s.end).none seen.0 in
    let first = on.first in
    let taken : first.taken ≡ records_of b bytes = sym (append-nil first.taken) ∙ ap (λ (rest : List Rec). first.taken ++ rest) (sym none) ∙ first.all in
    let end : s.end ≡ end_of b bytes = sym (ap (end_after b.page s.end) none) ∙ first.ends in
    record {
      places = first.places ∙ ap (places_of s.numbers) taken;
      end = end;
      blank = (
        λ yes q low lt. seen.1.0 yes q (omega (arith, low, end)) (omega (arith, lt, all)),
        λ each. seen.1.1 (λ q low lt. each q (omega (arith, low, end)) (omega (arith, lt, all))),
      );
    }

-- all pages were seen
pub all_seen : (s : LogState) (load : Load) (blank : Bool) → IsLoad s load → load.awaited ≡ Rest blank → pages_in s ≤ load.next → load.next ≡ pages_in s
all_seen s load blank is at all = let next = subst (IsNext s.geometry.page (pages_in s) s.end load.next) at is.next in omega (arith, next.1, all)

-- what holds of a log with what stands behind its records
pub ended_sound : (s : LogState) (tail : Tail) → IsLogState s → HasFormat s.format tail → IsTail s.geometry.page (pages_in s) s.end tail → IsLogState (record s { tail = tail })
ended_sound s tail sound format is = moved_sound s s.places s.end tail sound format sound.places sound.counts (omega arith) sound.end_high is
