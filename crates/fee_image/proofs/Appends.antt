-- What an append leaves.
use Rattle.std.specs.Prelude.{◌&&◌, if◌then◌else◌}
use Rattle.std.proofs.Common.{◌≡◌, ◌⊎◌, inl, inr, ◌<◌, ◌≤◌, ℕ, ◌+◌, ◌-◌, false, List, [], ◌∷◌, ◌++◌, length, take, Option, Some, refl, sym, ap, ◌∙◌, subst, eq-eqb, arith}
use Rattle.std.proofs.lemmas.Bool.{cases_eq, cases_lt, cases_Bool, false≢true, ne_eqb}
use Rattle.fee_format.specs.declared.rec_head.RecHead.{RecHead}
use Rattle.fee_format.specs.Gate.{IsGate, is_gate}
use Rattle.fee_format.specs.Formats.{new_format}
use Rattle.fee_format.specs.RecHead.{IsLegalRecHead, IsRecHead, rec_head_page}
use Rattle.fee_format.specs.Pages.{gate_page, blank_page, body_pages_of}
use Rattle.fee_format.specs.RecordPages.{body_page, record_page}
use Rattle.fee_image.specs.Append.{Staged, Touches, whole, IsNoMore, IsOneMore, AppendsLeaveOneMore, CutsOfAppend, AppendsGoOn, WholeIsLast, LastIsNew}
use Rattle.fee_image.specs.Bank.{Bank, page_of, pages_from}
use Rattle.fee_image.specs.RecordList.{Rec, HasHead, Stops, Walks, IsLog, pages_of_head}
use Rattle.fee_image.specs.Found.{counts, fits, last_from, last_record, last_held, held_shown}
use Rattle.fee_image.proofs.Walks.{walks_go_on, walk_same}
use Rattle.fee_image.proofs.Bodies.{blank_gate, bodies_have_room, body_bytes}
use Rattle.fee_format.proofs.Tests.{gates_compute}
use Rattle.fee_image.proofs.Records.{logs_compute}

-- ONE RECORD MORE
last_push : (number length : ℕ) (rs : List Rec) (o : Option Rec) (r : Rec) → last_from number length o (rs ++ r ∷ []) ≡ (if counts number length r then Some r else last_from number length o rs)
last_push number length [] o r = refl
last_push number length (x ∷ rs) o r = last_push number length rs (if counts number length x then Some x else o) r

pub last_is_new : LastIsNew
last_is_new number length rs r = last_push number length rs _ r

-- A PAGE OF AN APPEND
-- page 2 + i of a record is one of its body
body_at : (p : ℕ) (h : RecHead) (body : List ℕ) (i : ℕ) → i < body_pages_of h.length p → record_page p h body (2 + i) ≡ body_page p body i
body_at p h body i below =
    let n = body_pages_of h.length p in
    let back : 2 + i - 2 ≡ i = omega arith in
    rw (ne_eqb (2 + i) 0 (λ s. absurd (omega arith)), ne_eqb (2 + i) 1 (λ s. absurd (omega arith)), ne_eqb (2 + i) (2 + n) (λ s. absurd (omega arith))) (ap (body_page p body) back)

content : (b : Bank) (bytes : List ℕ) (e : ℕ) (h : RecHead) (body : List ℕ) → 16 ≤ b.page → length body ≡ h.length → ((j : ℕ) → j < 2 + body_pages_of h.length b.page → page_of b bytes (e + j) ≡ record_page b.page h body j) → body ≡ take h.length (pages_from b bytes (e + 2) (body_pages_of h.length b.page))
content b bytes e h body big size written =
    let p = b.page in
    let n = body_pages_of h.length p in
    let pages : (i : ℕ) → i < n → page_of b bytes (e + 2 + i) ≡ body_page p body i = λ i below.
    let at : e + (2 + i) ≡ e + 2 + i = omega arith in
    ap (page_of b bytes) (sym at) ∙ written (2 + i) (omega arith) ∙ body_at p h body i below in
    sym (body_bytes b bytes n body (e + 2) (omega arith) pages (omega (arith, size, bodies_have_room h.length p (omega arith)))) ∙ ap (λ (s : ℕ). take s (pages_from b bytes (e + 2) n)) size

-- a header that was written is one of its bank's format
head_on : (f p : ℕ) (page : List ℕ) (h : RecHead) → f ≡ new_format → IsLegalRecHead h → page ≡ rec_head_page new_format p h → IsRecHead f p page h
head_on f p page h format legal is =
    subst (λ (n : ℕ). IsRecHead n p page h) (sym format) (let new : IsRecHead new_format p page h = record { legal = legal; counted = tt; page_is = is } in new)

-- where the page behind it is blank, no record stands
pub stops_behind : (b : Bank) (bytes : List ℕ) (e : ℕ) → 16 ≤ b.page → (e + 1 < b.pages → page_of b bytes (e + 1) ≡ blank_page b.page) → Stops b bytes e
stops_behind b bytes e big blank = elim (cases_lt b.pages (e + 3)) [
  | inl few ↦ inl few
  | inr room ↦ inr (inl (λ gate. blank_gate b.page (omega arith) (sym (blank (omega arith)) ∙ gate)))
]

module _ (b : Bank) (old new : List ℕ) (rs : List Rec) (e : ℕ) (h : RecHead) (body : List ℕ) (k : ℕ) (big : 16 ≤ b.page) (staged : Staged b old rs e h body k) (lt : k < pages_of_head b.page h) (touches : Touches b (e + k) old new) where
  abbrev p : ℕ
  p = b.page

  abbrev Q : ℕ → List ℕ
  Q = page_of b new

  abbrev n : ℕ
  n = body_pages_of h.length p

  room : e + (3 + n) ≤ b.pages
  room = staged.room

  -- the pages before the record are as they were
  walk : Walks b new 2 rs e
  walk = walk_same b old new rs 2 e (λ j below inside. touches j inside (λ same. absurd (omega arith))) staged.front

  -- a page behind the touched one is blank
  behind : (q : ℕ) → e + k < q → q < b.pages → Q q ≡ blank_page p
  behind q above inside = touches q inside (λ same. absurd (omega arith)) ∙ staged.blank q (omega arith) inside

  -- a page before the touched one is the record's
  ahead : (j : ℕ) → j < k → Q (e + j) ≡ record_page p h body j
  ahead j below = touches (e + j) (omega (arith, room, lt)) (λ same. absurd (omega arith)) ∙ staged.written j below

  ends : Stops b new (e + pages_of_head p h)
  ends = stops_behind b new (e + (3 + n)) big (λ inside. behind (e + (3 + n) + 1) (omega (arith, lt)) inside)

  -- where the header gate is open, the header stands
  header : IsGate p (Q (e + 1)) → HasHead b new e h
  header gate =
      let some : 0 < k = elim (cases_lt 0 k) [
        | inl above ↦ above
        | inr none ↦ absurd (blank_gate p (omega arith) (sym (behind (e + 1) (omega arith) (omega (arith, room))) ∙ gate))
      ] in
      let at_e : e + 0 ≡ e = omega arith in
      record { format = inr staged.format; page = head_on b.format p (Q e) h staged.format staged.legal (ap Q (sym at_e) ∙ ahead 0 some); within = room }

  -- the record without its commit gate
  abbrev part : Rec
  part = record { at = e; head = h; committed = false; payload = take h.length (pages_from b new (e + 2) n) }

  part_log : IsGate p (Q (e + 1)) → (IsGate p (Q (e + 2 + n)) → ⊥) → IsLog b new (rs ++ part ∷ []) (e + pages_of_head p h)
  part_log gate no_commit = record {
    walk = walks_go_on b new 2 e rs part walk (record {
      place = refl;
      head = header gate;
      gate = gate;
      commit = (λ t. absurd (false≢true t), λ c. absurd (no_commit c));
      payload = refl;
    });
    stop = ends;
  }

  -- where the commit gate is open, it is the page that was touched
  last_page : IsGate p (Q (e + 2 + n)) → k ≡ 2 + n
  last_page gate = elim (cases_eq k (2 + n)) [
    | inl same ↦ same
    | inr other ↦ absurd (blank_gate p (omega arith) (sym (behind (e + 2 + n) (omega (arith, lt)) (omega (arith, room))) ∙ gate))
  ]

  body_stands : k ≡ 2 + n → body ≡ take h.length (pages_from b new (e + 2) n)
  body_stands is = content b new e h body big staged.size (λ j below. ahead j (omega (arith, is)))

  whole_log : IsGate p (Q (e + 1)) → IsGate p (Q (e + 2 + n)) → IsLog b new (rs ++ whole e h body ∷ []) (e + pages_of_head p h)
  whole_log gate commit = record {
    walk = walks_go_on b new 2 e rs (whole e h body) walk (record {
      place = refl;
      head = header gate;
      gate = gate;
      commit = (λ t. commit, λ c. refl);
      payload = body_stands (last_page commit);
    });
    stop = ends;
  }

  no_more : (IsGate p (Q (e + 1)) → ⊥) → IsNoMore b new rs e k
  no_more shut = elim (cases_lt k 2) [
    | inl early ↦ (early, record { walk = walk; stop = inr (inl shut) })
    | inr late ↦ absurd (shut (ahead 1 (omega arith)))
  ]

  more : IsGate p (Q (e + 1)) → IsOneMore b new rs e h body k
  more gate = elim (cases_Bool (is_gate p (Q (e + 2 + n)))) [
    | inl t ↦
        let commit = (gates_compute p (Q (e + 2 + n))).0 t in
        record {
          last = whole e h body;
          at = refl;
          head = refl;
          committed = λ c. ((let is : k ≡ 2 + n = last_page commit in let all : k + 1 ≡ 3 + n = omega arith in all), refl);
          log = whole_log gate commit;
        }
    | inr f ↦ record {
      last = part;
      at = refl;
      head = refl;
      committed = λ c. absurd (false≢true c);
      log = part_log gate (λ commit. false≢true (sym f ∙ (gates_compute p (Q (e + 2 + n))).1 commit));
    }
  ]

  pub leaves : IsNoMore b new rs e k ⊎ IsOneMore b new rs e h body k
  leaves = elim (cases_Bool (is_gate p (Q (e + 1)))) [
    | inl t ↦ inr (more ((gates_compute p (Q (e + 1))).0 t))
    | inr f ↦ inl (no_more (λ gate. false≢true (sym f ∙ (gates_compute p (Q (e + 1))).1 gate)))
  ]

pub appends_leave_one_more : AppendsLeaveOneMore
appends_leave_one_more b old new rs e h body k big staged lt touches = leaves b old new rs e h body k big staged lt touches

-- CUTS
-- a record that isn't committed changes no mark
pub uncounted : (number length : ℕ) (rs : List Rec) (r : Rec) → r.committed ≡ false → last_held number length (rs ++ r ∷ []) ≡ last_held number length rs
uncounted number length rs r shut =
    ap held_shown (last_is_new number length rs r ∙ ap (λ c. if c && fits number length r.head then Some r else last_record number length rs) shut)

pub cuts_of_append : CutsOfAppend
cuts_of_append b old new rs e h body k big staged lt touches number length m found =
    let one : (ss : List Rec) (f : ℕ) → IsLog b new ss f → found.records ≡ ss = λ ss f log. ((logs_compute b new found.records found.end).0 found.log).0 ∙ sym ((logs_compute b new ss f).0 log).0 in
    elim (leaves b old new rs e h body k big staged lt touches) [
      | inl (early, log) ↦ inl (found.is ∙ ap (last_held number length) (one rs e log))
      | inr more ↦
          let is : m ≡ last_held number length (rs ++ more.last ∷ []) = found.is ∙ ap (last_held number length) (one (rs ++ more.last ∷ []) _ more.log) in
          elim (cases_Bool more.last.committed) [
            | inr shut ↦ inl (is ∙ uncounted number length rs more.last shut)
            | inl t ↦
                let all = more.committed t in
                inr (all.0, is ∙ ap (λ (r : Rec). last_held number length (rs ++ r ∷ [])) all.1)
          ]
    ]

-- DONE PAGES
pub appends_go_on : AppendsGoOn
appends_go_on b old new rs e h body k staged lt touches is =
    let room : e + pages_of_head b.page h ≤ b.pages = staged.room in
    record {
      format = staged.format;
      front = walk_same b old new rs 2 e (λ j below inside. touches j inside (λ same. absurd (omega arith))) staged.front;
      legal = staged.legal;
      size = staged.size;
      room = staged.room;
      written = λ j below. elim (cases_eq j k) [
        | inl same ↦ ap (λ (i : ℕ). page_of b new (e + i)) same ∙ is ∙ ap (record_page b.page h body) (sym same)
        | inr other ↦ touches (e + j) (omega (arith, room, lt)) (λ same. other (omega arith)) ∙ staged.written j (let less : j < k = omega (arith, other) in less)
      ];
      blank = λ q above inside. touches q inside (λ same. absurd (omega arith)) ∙ staged.blank q (omega arith) inside;
    }

pub whole_is_last : WholeIsLast
whole_is_last b bytes rs e h body big staged =
    let p = b.page in
    let n = body_pages_of h.length p in
    let at_e : e + 0 ≡ e = omega arith in
    let commit_at : e + (2 + n) ≡ e + 2 + n = omega arith in
    let commit_page : record_page p h body (2 + n) ≡ gate_page p =
    rw (ne_eqb (2 + n) 0 (λ s. absurd (omega arith)), ne_eqb (2 + n) 1 (λ s. absurd (omega arith)), eq-eqb (2 + n) (2 + n) refl) refl in
    record {
      walk = walks_go_on b bytes 2 e rs (whole e h body) staged.front (record {
        place = refl;
        head = record { format = inr staged.format; page = head_on b.format p (page_of b bytes e) h staged.format staged.legal (ap (page_of b bytes) (sym at_e) ∙ staged.written 0 (omega arith)); within = staged.room };
        gate = staged.written 1 (omega arith);
        commit = (λ t. ap (page_of b bytes) (sym commit_at) ∙ staged.written (2 + n) (omega arith) ∙ commit_page, λ c. refl);
        payload = content b bytes e h body big staged.size (λ j below. staged.written j (omega arith));
      });
      stop = stops_behind b bytes (e + (3 + n)) big (λ inside. staged.blank (e + (3 + n) + 1) (omega arith) inside);
    }
