-- Blank pages, one after another.
use Rattle.std.proofs.Common.{◌≡◌, ◌↔◌, inl, inr, ◌≤◌, ℕ, zero, suc, ◌+◌, ◌*◌, ◌-◌, Bool, IsTrue, List, ◌++◌, length, take, drop, replicate, sym, ap, ◌∙◌, subst, arith}
use Rattle.std.proofs.Math.Seq.{take-add}
use Rattle.std.proofs.lemmas.Bool.{cases_lt}
use Rattle.std.proofs.lemmas.List.{take-take, drop-drop, drop-take, drop_at, take-replicate, length-replicate, replicate-append-replicate, length-take-le, length-drop}
use Rattle.fee_image.specs.Bank.{page_of}
use Rattle.fee_image.specs.RecordList.{IsTailBlank}
use Rattle.fee_view.specs.View.{own_bank}

-- so many pages are blank together exactly where each is
blank_together : (p pages n q : ℕ) (bytes : List ℕ) → q + n ≡ pages → (take (n * p) (drop (q * p) bytes) ≡ replicate (n * p) 255) ↔ IsTailBlank (own_bank p pages 1) bytes q
blank_together p pages zero q bytes end =
    let none : 0 * p ≡ 0 = omega arith in (
      λ whole j low lt. absurd (omega (arith, end, low, lt)),
      λ blank. ap (λ (k : ℕ). take k (drop (q * p) bytes)) none ∙ ap (λ (k : ℕ). replicate k 255) (sym none),
    )
blank_together p pages (suc n) q bytes end =
    let m = n * p in
    let zs = drop (q * p) bytes in
    let more : suc n * p ≡ p + m = omega arith in
    let past : suc q * p ≡ q * p + p = omega arith in
    let at : 0 + q ≡ q = omega arith in
    let le : p ≤ p + m = omega arith in
    let behind : drop p zs ≡ drop (suc q * p) bytes = drop-drop p (q * p) bytes ∙ ap (λ (k : ℕ). drop k bytes) (sym past) in
    let here : page_of (own_bank p pages 1) bytes q ≡ take p zs = ap (λ (k : ℕ). take p (drop (k * p) bytes)) at in
    let rest = blank_together p pages n (suc q) bytes (omega (arith, end)) in
    let cut : take (suc n * p) zs ≡ take p zs ++ take m (drop p zs) = ap (λ (k : ℕ). take k zs) more ∙ take-add p m zs in
    let both : replicate (suc n * p) 255 ≡ replicate p 255 ++ replicate m 255 = ap (λ (k : ℕ). replicate k 255) more ∙ sym (replicate-append-replicate p m 255) in (
      λ whole j low lt.
          let all : take (p + m) zs ≡ replicate (p + m) 255 = ap (λ (k : ℕ). take k zs) (sym more) ∙ whole ∙ ap (λ (k : ℕ). replicate k 255) more in
          let first : take p zs ≡ replicate p 255 = sym (take-take p (p + m) zs le) ∙ ap (take p) all ∙ take-replicate p (p + m) 255 le in
          let last : take m (drop (suc q * p) bytes) ≡ replicate m 255 = ap (take m) (sym behind) ∙ sym (drop-take p m zs) ∙ ap (drop p) (all ∙ sym (replicate-append-replicate p m 255)) ∙ drop_at (replicate p 255) (replicate m 255) p (length-replicate p 255) in
          elim (cases_lt q j) [
            | inl later ↦ rest.0 last j later lt
            | inr first_page ↦
                let same : q ≡ j = omega (arith, low, first_page) in
                subst (λ (k : ℕ). page_of (own_bank p pages 1) bytes k ≡ replicate p 255) same (here ∙ first)
          ],
      λ blank.
          let first : take p zs ≡ replicate p 255 = sym here ∙ blank q (omega arith) (omega (arith, end)) in
          let last : take m (drop p zs) ≡ replicate m 255 = ap (take m) behind ∙ rest.1 (λ j low lt. blank j (omega (arith, low)) lt) in
          cut ∙ (λ i. first i ++ last i) ∙ sym both,
    )

-- from a page to the end
pub tail_together : (p pages end : ℕ) (bytes tail : List ℕ) (test : Bool) → end ≤ pages → pages * p ≤ length bytes
    → tail ≡ take (pages * p - end * p) (drop (end * p) bytes) → IsTrue test ↔ (tail ≡ replicate (length tail) 255)
    → IsTrue test ↔ IsTailBlank (own_bank p pages 1) bytes end
tail_together p pages end bytes tail test inside fits is tests =
    let n = pages - end in
    let all : end + n ≡ pages = omega (arith, inside) in
    let sum : end * p + n * p ≡ pages * p = (let split : end * p + n * p ≡ (end + n) * p = grind arith in split ∙ ap (λ (k : ℕ). k * p) all) in
    let count : pages * p - end * p ≡ n * p = omega (arith, sum) in
    let behind : tail ≡ take (n * p) (drop (end * p) bytes) = is ∙ ap (λ (k : ℕ). take k (drop (end * p) bytes)) count in
    let size : length tail ≡ n * p = ap length behind ∙ length-take-le (n * p) (drop (end * p) bytes) (omega (arith, length-drop (end * p) bytes, sum, fits)) in
    let law = blank_together p pages n end bytes all in (
      λ yes. law.0 (sym behind ∙ tests.0 yes ∙ ap (λ (k : ℕ). replicate k 255) size),
      λ blank. tests.1 (behind ∙ law.1 blank ∙ ap (λ (k : ℕ). replicate k 255) (sym size)),
    )
