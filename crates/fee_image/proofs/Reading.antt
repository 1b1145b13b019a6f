-- What a bank's records read.
use Rattle.std.specs.Prelude.{nat_le}
use Rattle.std.proofs.Common.{◌≡◌, ◌<◌, ◌≤◌, ℕ, zero, suc, ◌+◌, ◌*◌, List, ◌∷◌, ◌++◌, take, drop, Option, Some, None, refl, sym, ap, ◌∙◌, arith}
use Rattle.std.proofs.lemmas.List.{drop-drop, drop-take, take-take}
use Rattle.std.proofs.Math.Nat.{mul-le-mul_right}
use Rattle.std.proofs.Math.Seq.{take-add}
use Rattle.fee_format.specs.declared.rec_head.RecHead.{RecHead}
use Rattle.fee_format.specs.Formats.{is_format}
use Rattle.fee_format.specs.Gate.{is_gate}
use Rattle.fee_format.specs.RecHead.{rec_head_of}
use Rattle.fee_format.specs.Pages.{body_pages_of}
use Rattle.fee_image.specs.Bank.{Bank, page_of, place_of_page, pages_from, moved}
use Rattle.fee_image.specs.RecordList.{Rec, pages_of_head, rec_of, rec_within, record_at, and_behind, records_from, records_of}
use Rattle.fee_image.specs.Laws.{RecordsStay, SlicesAgree, PagesAreOneRange}
use Rattle.fee_image.proofs.Picks.{if_alike, ifs_alike}
use Rattle.fee_format.proofs.Tests.{le_is}

behind_same : (o : Option Rec) (f g : Rec → List Rec) → ((r : Rec) → f r ≡ g r) → and_behind o f ≡ and_behind o g
behind_same None f g same = refl
behind_same (Some r) f g same = ap (λ (l : List Rec). r ∷ l) (same r)

module _ (b : Bank) (old new : List ℕ) (at : ℕ) (same : (q : ℕ) → 2 ≤ q → q < b.pages → page_of (moved b at) new q ≡ page_of b old q) where
  abbrev p : ℕ
  p = b.page

  pages_same : (n q : ℕ) → 2 ≤ q → q + n ≤ b.pages → pages_from (moved b at) new q n ≡ pages_from b old q n
  pages_same zero q low le = refl
  pages_same (suc n) q low le =
      let one : page_of (moved b at) new q ≡ page_of b old q = same q low (omega arith) in
      let rest = pages_same n (suc q) (omega arith) (omega arith) in
      λ i. one i ++ rest i

  rec_same : (q : ℕ) (h : RecHead) → 2 ≤ q → q + pages_of_head p h ≤ b.pages → rec_of (moved b at) new q h ≡ rec_of b old q h
  rec_same q h low le =
      let n = body_pages_of h.length p in
      let last : page_of (moved b at) new (q + 2 + n) ≡ page_of b old (q + 2 + n) = same (q + 2 + n) (omega arith) (omega arith) in
      let body = pages_same n (q + 2) (omega arith) (omega arith) in
      λ i. record { at = q; head = h; committed = is_gate p (last i); payload = take h.length (body i) }

  within_same : (q : ℕ) (o : Option RecHead) → 2 ≤ q → rec_within (moved b at) new q o ≡ rec_within b old q o
  within_same q None low = refl
  within_same q (Some h) low = if_alike (nat_le (q + pages_of_head p h) b.pages) (Some (rec_of (moved b at) new q h)) (Some (rec_of b old q h)) None (λ t. ap Some (rec_same q h low ((le_is (q + pages_of_head p h) b.pages).0 t)))

  at_same : (q : ℕ) → 2 ≤ q → record_at (moved b at) new q ≡ record_at b old q
  at_same q low =
      ifs_alike (is_format b.format) (nat_le (q + 3) b.pages) (is_gate p (page_of (moved b at) new (q + 1))) (is_gate p (page_of b old (q + 1)))
      (rec_within (moved b at) new q (rec_head_of b.format p (page_of (moved b at) new q))) (rec_within b old q (rec_head_of b.format p (page_of b old q))) None
      (λ t.
      let room : q + 3 ≤ b.pages = (le_is (q + 3) b.pages).0 t in
      (ap (is_gate p) (same (q + 1) (omega arith) (omega arith)), within_same q (rec_head_of b.format p (page_of (moved b at) new q)) low ∙ ap (λ (l : List ℕ). rec_within b old q (rec_head_of b.format p l)) (same q low (omega arith))))

  list_same : (n q : ℕ) → 2 ≤ q → records_from (moved b at) new n q ≡ records_from b old n q
  list_same zero q low = refl
  list_same (suc n) q low =
      ap (λ (o : Option Rec). and_behind o (λ r. records_from (moved b at) new n (q + pages_of_head p r.head))) (at_same q low)
      ∙ behind_same (record_at b old q) (λ r. records_from (moved b at) new n (q + pages_of_head p r.head)) (λ r. records_from b old n (q + pages_of_head p r.head)) (λ r. list_same n (q + pages_of_head p r.head) (omega arith))

  pub records_same : records_of (moved b at) new ≡ records_of b old
  records_same = list_same b.pages 2 (omega arith)

pub records_stay : RecordsStay
records_stay b old new at same = records_same b old new at same

pub slices_agree : SlicesAgree
slices_agree b bytes q lt =
    let p = b.page in
    let N = b.pages * p in
    let ys = drop (b.at * p) bytes in
    let m = q * p in
    let one : suc q * p ≡ q * p + p = omega arith in
    let le : m + p ≤ N = omega (arith, one, mul-le-mul_right p (let s : suc q ≤ b.pages = omega arith in s)) in
    let zeroth : (0 + q) * p ≡ m = omega arith in
    let place : b.at * p + m ≡ (b.at + q) * p = grind arith in
    ap (λ (n : ℕ). take p (drop n (take N ys))) zeroth
    ∙ sym (drop-take m p (take N ys)) ∙ ap (drop m) (take-take (m + p) N ys le) ∙ drop-take m p ys
    ∙ ap (take p) (drop-drop m (b.at * p) bytes) ∙ ap (λ (n : ℕ). take p (drop n bytes)) place

pub pages_are_one_range : PagesAreOneRange
pages_are_one_range b bytes q zero = let none : 0 ≡ 0 * b.page = omega arith in ap (λ (x : ℕ). take x (drop (place_of_page b q) bytes)) none
pages_are_one_range b bytes q (suc n) =
    let p = b.page in
    let a = place_of_page b q in
    let next : place_of_page b (suc q) ≡ a + p = grind arith in
    let size : suc n * p ≡ p + n * p = omega arith in
    let rest : pages_from b bytes (suc q) n ≡ take (n * p) (drop p (drop a bytes)) =
    pages_are_one_range b bytes (suc q) n ∙ ap (λ (x : ℕ). take (n * p) (drop x bytes)) next ∙ ap (take (n * p)) (sym (drop-drop p a bytes)) in
    ap (λ (l : List ℕ). take p (drop a bytes) ++ l) rest ∙ sym (take-add p (n * p) (drop a bytes)) ∙ ap (λ (x : ℕ). take x (drop a bytes)) (sym size)
