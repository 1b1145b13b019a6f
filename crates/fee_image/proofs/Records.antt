-- The record list of a bank, computed.
use Rattle.std.specs.Prelude.{◌==◌, ◌&&◌, ◌||◌, nat_le}
use Rattle.std.proofs.Common.{◌≡◌, inl, inr, ◌≤◌, ℕ, zero, suc, ◌+◌, Bool, true, false, IsTrue, List, [], ◌∷◌, Option, Some, None, refl, sym, ap, ◌∙◌, subst, arith}
use Rattle.std.proofs.lemmas.Bool.{cases_lt, cases_Bool, false≢true, and_from, and_parts, eqb-true}
use Rattle.std.proofs.lemmas.Bool.Decides.{nat_tests}
use Rattle.std.proofs.lemmas.Option.{none-some, same_Some}
use Rattle.fee_format.specs.declared.rec_head.RecHead.{RecHead}
use Rattle.fee_format.specs.Formats.{IsFormat, is_format}
use Rattle.fee_format.specs.Gate.{IsGate, is_gate}
use Rattle.fee_format.specs.RecHead.{IsRecHead, rec_head_of}
use Rattle.fee_format.specs.Pages.{body_pages_of}
use Rattle.fee_image.specs.Bank.{Bank, page_of}
use Rattle.fee_image.specs.RecordList.{Rec, HasHead, Stands, Stops, Walks, IsLog, pages_of_head, rec_of, rec_within, record_at, and_behind, records_from, records_left, records_of, end_after, end_of}
use Rattle.fee_image.specs.Found.{last_held}
use Rattle.fee_image.specs.Laws.{LogsCompute, ListsUnfold, MarksCompute}
use Rattle.fee_image.proofs.Picks.{then_is, if_some, same_bool}
use Rattle.fee_format.proofs.Heads.{rec_heads_compute}
use Rattle.fee_format.proofs.Tests.{gates_compute, le_is}

le_true : (m n : ℕ) → m ≤ n → IsTrue (nat_le m n)
le_true m n le = grind (arith, nat_tests)

eq_true : (m n : ℕ) → m ≡ n → IsTrue (m == n)
eq_true m n e = grind (arith, nat_tests)

format_true : (n : ℕ) → IsFormat n → IsTrue (is_format n)
format_true n (inl one) = rw (eq_true n 1 one) refl
format_true n (inr two) = or_true (n == 1) (n == 2) (eq_true n 2 two)
  where
    or_true : (a b : Bool) → IsTrue b → IsTrue (a || b)
    or_true true b t = refl
    or_true false b t = t

true_format : (n : ℕ) → IsTrue (is_format n) → IsFormat n
true_format n t = elim (cases_Bool (n == 1)) [
  | inl one ↦ inl (eqb-true n 1 one)
  | inr other ↦ inr (eqb-true n 2 (let rest : IsTrue (n == 2) = rw other at t in rest))
]

module _ (b : Bank) (bytes : List ℕ) where
  abbrev p : ℕ
  p = b.page

  abbrev P : ℕ → List ℕ
  P = page_of b bytes

  abbrev gate_at : ℕ → Bool
  gate_at q = is_gate p (P (q + 1))

  abbrev test : ℕ → Bool
  test q = is_format b.format && (nat_le (q + 3) b.pages && gate_at q)

  -- A RECORD AT A PAGE
  built : (q : ℕ) (h : RecHead) → HasHead b bytes q h → IsGate p (P (q + 1)) → Stands b bytes q (rec_of b bytes q h)
  built q h has gate = record { place = refl; head = has; gate = gate; commit = gates_compute p (P (q + 2 + body_pages_of h.length p)); payload = refl }

  seen : (q : ℕ) (h : RecHead) → HasHead b bytes q h → IsGate p (P (q + 1)) → record_at b bytes q ≡ Some (rec_of b bytes q h)
  seen q h has gate =
      let room : q + 3 ≤ b.pages = omega (arith, has.within) in
      let all : IsTrue (test q) = and_from (is_format b.format) (nat_le (q + 3) b.pages && gate_at q) (format_true b.format has.format) (and_from (nat_le (q + 3) b.pages) (gate_at q) (le_true (q + 3) b.pages room) ((gates_compute p (P (q + 1))).1 gate)) in
      then_is (test q) (rec_within b bytes q (rec_head_of b.format p (P q))) None all
      ∙ ap (rec_within b bytes q) ((rec_heads_compute b.format p (P q) h).0 has.page)
      ∙ then_is (nat_le (q + pages_of_head p h) b.pages) (Some (rec_of b bytes q h)) None (le_true (q + pages_of_head p h) b.pages has.within)

  pub stands_seen : (q : ℕ) (r : Rec) → Stands b bytes q r → record_at b bytes q ≡ Some r
  stands_seen q r stands =
      let commit : is_gate p (P (q + 2 + body_pages_of r.head.length p)) ≡ r.committed = same_bool (is_gate p (P (q + 2 + body_pages_of r.head.length p))) r.committed (IsGate p (P (q + 2 + body_pages_of r.head.length p))) (gates_compute p (P (q + 2 + body_pages_of r.head.length p))) stands.commit in
      let same : rec_of b bytes q r.head ≡ r = λ i. record { at = sym stands.place i; head = r.head; committed = commit i; payload = sym stands.payload i } in
      seen q r.head stands.head stands.gate ∙ ap Some same

  within_stands : (q : ℕ) (r : Rec) (o : Option RecHead) → ((h : RecHead) → o ≡ Some h → IsRecHead b.format p (P q) h) → IsTrue (test q) → rec_within b bytes q o ≡ Some r → Stands b bytes q r
  within_stands q r None head passed e = absurd (none-some r e)
  within_stands q r (Some h) head passed e =
      let one = and_parts (is_format b.format) (nat_le (q + 3) b.pages && gate_at q) passed in
      let two = and_parts (nat_le (q + 3) b.pages) (gate_at q) one.1 in
      let fit = if_some (nat_le (q + pages_of_head p h) b.pages) (Some (rec_of b bytes q h)) r e in
      let has : HasHead b bytes q h = record { format = true_format b.format one.0; page = head h refl; within = (le_is (q + pages_of_head p h) b.pages).0 fit.0 } in
      subst (Stands b bytes q) (same_Some (rec_of b bytes q h) r fit.1) (built q h has ((gates_compute p (P (q + 1))).0 two.1))

  pub seen_stands : (q : ℕ) (r : Rec) → record_at b bytes q ≡ Some r → Stands b bytes q r
  seen_stands q r e =
      let all = if_some (test q) (rec_within b bytes q (rec_head_of b.format p (P q))) r e in
      within_stands q r (rec_head_of b.format p (P q)) (λ h is. (rec_heads_compute b.format p (P q) h).1 is) all.0 all.1

  stops_not : (q : ℕ) (r : Rec) → Stops b bytes q → Stands b bytes q r → ⊥
  stops_not q r (inl few) stands = absurd (omega (arith, stands.head.within))
  stops_not q r (inr (inl shut)) stands = shut stands.gate
  stops_not q r (inr (inr none)) stands = none r.head stands.head

  none_where : (q : ℕ) (o : Option Rec) → ((r : Rec) → o ≡ Some r → ⊥) → o ≡ None
  none_where q None none = refl
  none_where q (Some r) none = absurd (none r refl)

  pub stops_none : (q : ℕ) → Stops b bytes q → record_at b bytes q ≡ None
  stops_none q stops = none_where q (record_at b bytes q) (λ r is. stops_not q r stops (seen_stands q r is))

  pub none_stops : (q : ℕ) → record_at b bytes q ≡ None → Stops b bytes q
  none_stops q none = elim (cases_lt b.pages (q + 3)) [
    | inl few ↦ inl few
    | inr room ↦ elim (cases_Bool (gate_at q)) [
      | inr shut ↦ inr (inl (λ gate. false≢true (sym shut ∙ (gates_compute p (P (q + 1))).1 gate)))
      | inl gate ↦ inr (inr (λ h has. none-some (rec_of b bytes q h) (sym none ∙ seen q h has ((gates_compute p (P (q + 1))).0 gate))))
    ]
  ]

  -- THE LIST
  walked : (rs : List Rec) (q e n : ℕ) → b.pages ≤ q + n → Walks b bytes q rs e → Stops b bytes e → records_from b bytes n q ≡ rs
  walked [] q e zero le walk stop = refl
  walked [] q e (suc n) le walk stop =
      ap (λ (o : Option Rec). and_behind o (λ r. records_from b bytes n (q + pages_of_head p r.head))) (stops_none q (subst (Stops b bytes) (sym walk) stop))
  walked (r ∷ rs) q e zero le walk stop = absurd (omega (arith, walk.0.head.within))
  walked (r ∷ rs) q e (suc n) le walk stop =
      ap (λ (o : Option Rec). and_behind o (λ s. records_from b bytes n (q + pages_of_head p s.head))) (stands_seen q r walk.0)
      ∙ ap (λ (l : List Rec). r ∷ l) (walked rs (q + pages_of_head p r.head) e n (omega arith) walk.1 stop)

  ends : (rs : List Rec) (q e : ℕ) → Walks b bytes q rs e → e ≡ end_after p q rs
  ends [] q e walk = sym walk
  ends (r ∷ rs) q e walk = ends rs (q + pages_of_head p r.head) e walk.1

  abbrev Walked : ℕ → List Rec → Type 0
  Walked q rs = Walks b bytes q rs (end_after p q rs) × Stops b bytes (end_after p q rs)

  walk_pick : (q : ℕ) (o : Option Rec) (f : Rec → List Rec) → record_at b bytes q ≡ o → ((r : Rec) → Walked (q + pages_of_head p r.head) (f r)) → Walked q (and_behind o f)
  walk_pick q None f is rest = (refl, none_stops q is)
  walk_pick q (Some r) f is rest = ((seen_stands q r is, (rest r).0), (rest r).1)

  walk_of : (n q : ℕ) → b.pages ≤ q + n → Walked q (records_from b bytes n q)
  walk_of zero q le = (refl, inl (omega arith))
  walk_of (suc n) q le = walk_pick q (record_at b bytes q) (λ r. records_from b bytes n (q + pages_of_head p r.head)) refl (λ r. walk_of n (q + pages_of_head p r.head) (omega arith))

  pub log_of : IsLog b bytes (records_of b bytes) (end_of b bytes)
  log_of = let all = walk_of b.pages 2 (omega arith) in record { walk = all.0; stop = all.1 }

  pub one_log : (rs : List Rec) (e : ℕ) → IsLog b bytes rs e → (rs ≡ records_of b bytes) × (e ≡ end_of b bytes)
  one_log rs e log =
      let same : rs ≡ records_of b bytes = sym (walked rs 2 e b.pages (omega arith) log.walk log.stop) in
      (same, ends rs 2 e log.walk ∙ ap (end_after p 2) same)

pub lists_unfold : ListsUnfold
lists_unfold b bytes q = record {
  none = λ stops. walked b bytes [] q q b.pages (omega arith) refl stops;
  first = λ r stands. (
      let q2 = q + pages_of_head b.page r.head in
      let rest = walk_of b bytes b.pages q2 (omega arith) in
      walked b bytes (r ∷ records_left b bytes q2) q (end_after b.page q2 (records_left b bytes q2)) b.pages (omega arith) (stands, rest.0) rest.1);
}

pub logs_compute : LogsCompute
logs_compute b bytes rs e = (
  one_log b bytes rs e,
  λ same. subst (λ (x : List Rec). IsLog b bytes x e) (sym same.0) (subst (IsLog b bytes (records_of b bytes)) (sym same.1) (log_of b bytes)),
)

pub marks_compute : MarksCompute
marks_compute b bytes number length m = (
  λ found. found.is ∙ ap (last_held number length) (one_log b bytes found.records found.end found.log).0,
  λ is. record { records = records_of b bytes; end = end_of b bytes; log = log_of b bytes; is = is },
)
