-- The pages of a body.
use Rattle.std.proofs.Common.{◌≡◌, inl, inr, ◌<◌, ◌≤◌, ℕ, zero, suc, ◌+◌, ◌*◌, ◌/◌, ◌%◌, ◌-◌, List, [], ◌∷◌, ◌++◌, length, take, drop, replicate, refl, sym, ap, ◌∙◌, arith, length-drop, length-append}
use Rattle.std.proofs.lemmas.Bool.{cases_lt}
use Rattle.std.proofs.lemmas.List.{take_at, take_all, take-take, drop-drop, length-take, length-take-le, length-replicate, append-nil, take-append-drop}
use Rattle.std.proofs.Math.Nat.{div-add-mod, mul_comm, mul-le-mul_right}
use Rattle.std.proofs.Math.Seq.{take-append-add}
use Rattle.fee_format.specs.Pages.{page_at, body_pages_of}
use Rattle.fee_format.specs.RecordPages.{filled, body_page}

pub body_page_size : (p : ℕ) (content : List ℕ) (i : ℕ) → length (body_page p content i) ≡ p
body_page_size p content i =
    let piece = take p (drop (i * p) content) in
    let few : length piece ≤ p = omega (arith, length-take p (drop (i * p) content)) in
    omega (arith, length-append piece (replicate (p - length piece) 255), length-replicate {A = ℕ} (p - length piece) 255, few)

-- they have room for the content
pub bodies_have_room : (n p : ℕ) → 1 ≤ p → n ≤ body_pages_of n p * p
bodies_have_room n p one =
    let x = n + (p - 1) in
    let whole = div-add-mod x p in
    let turn : p * (x / p) ≡ x / p * p = mul_comm p (x / p) in
    omega (arith, whole, turn)

-- and lie in a sector that has
pub bodies_fit : (n p z i : ℕ) → 1 ≤ p → z % p ≡ 0 → n ≤ z → i < body_pages_of n p → i * p + p ≤ z
bodies_fit n p z i one whole le lt =
    let x = n + (p - 1) in
    let all = div-add-mod x p in
    let turn : p * (x / p) ≡ x / p * p = mul_comm p (x / p) in
    let sector = div-add-mod z p in
    let turn2 : p * (z / p) ≡ z / p * p = mul_comm p (z / p) in
    elim (cases_lt (z / p) (suc i)) [
      | inl few ↦
          let most = mul-le-mul_right p (let t : suc (z / p) ≤ x / p = omega arith in t) in
          let one_more : suc (z / p) * p ≡ z / p * p + p = omega arith in
          absurd (omega (arith, all, turn, sector, turn2, most, one_more, whole))
      | inr enough ↦
          let most = mul-le-mul_right p enough in
          let one_more : suc i * p ≡ i * p + p = omega arith in
          omega (arith, most, one_more, sector, turn2, whole)
    ]

-- where each page of a body holds the content's, the content stands at its front
pub body_reads : (p n : ℕ) (body content : List ℕ) → 1 ≤ p → ((i : ℕ) → i < n → page_at p body i ≡ body_page p content i) → length content ≤ n * p → take (length content) body ≡ content
body_reads p zero body [] one is le = refl
body_reads p zero body (x ∷ content) one is le = absurd (omega arith)
body_reads p (suc n) body content one is le =
    let none : 0 * p ≡ 0 = omega arith in
    let here : take p body ≡ filled p (take p content) = ap (λ (k : ℕ). take p (drop k body)) (sym none) ∙ is 0 (omega arith) ∙ ap (λ (k : ℕ). filled p (take p (drop k content))) none in
    elim (cases_lt (length content) p) [
      | inl lt ↦
          let all : take p content ≡ content = take_all p content (omega arith) in
          sym (take-take (length content) p body (omega arith)) ∙ ap (take (length content)) (here ∙ ap (filled p) all)
          ∙ take_at content (replicate (p - length content) 255) (length content) refl
      | inr ge ↦
          let front = take p content in
          let size : length front ≡ p = length-take-le p content ge in
          let full : filled p front ≡ front = ap (λ (k : ℕ). front ++ replicate k 255) (let e : p - length front ≡ 0 = omega arith in e) ∙ append-nil front in
          let left : length content ≡ length front + length (drop p content) = omega (arith, size, length-drop p content) in
          let rest : take (length (drop p content)) (drop p body) ≡ drop p content =
          body_reads p n (drop p body) (drop p content) one
          (λ i lt.
          let past : p + i * p ≡ suc i * p = omega arith in
          ap (take p) (drop-drop (i * p) p body ∙ ap (λ (k : ℕ). drop k body) past) ∙ is (suc i) (omega arith)
          ∙ ap (λ (l : List ℕ). filled p (take p l)) (sym (drop-drop (i * p) p content ∙ ap (λ (k : ℕ). drop k content) past)))
          (let split : suc n * p ≡ p + n * p = omega arith in omega (arith, length-drop p content)) in
          ap (take (length content)) (sym (take-append-drop p body))
          ∙ ap (λ (l : List ℕ). take (length content) (l ++ drop p body)) (here ∙ full)
          ∙ ap (λ (k : ℕ). take k (front ++ drop p body)) left
          ∙ take-append-add front (drop p body) (length (drop p content))
          ∙ ap (λ (l : List ℕ). front ++ l) rest
          ∙ take-append-drop p content
    ]
