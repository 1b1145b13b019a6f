-- Gates, blank pages, and the pages of a body.
use Rattle.std.proofs.Common.{◌≡◌, inl, inr, ◌<◌, ◌≤◌, ℕ, zero, suc, ◌+◌, ◌*◌, ◌/◌, ◌-◌, List, [], ◌∷◌, ◌++◌, length, take, drop, replicate, refl, sym, ap, ◌∙◌, arith, append_assoc, length-drop}
use Rattle.std.proofs.lemmas.Bool.{cases_lt}
use Rattle.std.proofs.lemmas.List.{take_at, take_all, drop-drop, length-take-le, append-nil, take-append-drop}
use Rattle.std.proofs.Math.Nat.{div-add-mod, mul_comm}
use Rattle.std.proofs.Math.Seq.{take-append-add}
use Rattle.fee_format.specs.Pages.{gate_page, blank_page}
use Rattle.fee_format.specs.RecordPages.{filled, body_page}
use Rattle.fee_image.specs.Bank.{Bank, page_of, pages_from}
use Rattle.fee_image.specs.Laws.{BodiesHaveRoom}

pub blank_gate : (p : ℕ) → 1 ≤ p → blank_page p ≡ gate_page p → ⊥
blank_gate zero le e = absurd (omega arith)
blank_gate (suc p) le e = cc e

-- the body's pages are enough
pub bodies_have_room : BodiesHaveRoom
bodies_have_room length p one =
    let x = length + (p - 1) in
    let whole = div-add-mod x p in
    let turn : p * (x / p) ≡ x / p * p = mul_comm p (x / p) in
    omega (arith, whole, turn)

-- they hold the content
pub body_bytes : (b : Bank) (bytes : List ℕ) (n : ℕ) (payload : List ℕ) (q : ℕ) → 1 ≤ b.page → ((i : ℕ) → i < n → page_of b bytes (q + i) ≡ body_page b.page payload i) → length payload ≤ n * b.page → take (length payload) (pages_from b bytes q n) ≡ payload
body_bytes b bytes zero [] q one is le = refl
body_bytes b bytes zero (x ∷ payload) q one is le = absurd (omega arith)
body_bytes b bytes (suc n) payload q one is le =
    let p = b.page in
    let behind = pages_from b bytes (suc q) n in
    let at_q : q + 0 ≡ q = omega arith in
    let none : 0 * p ≡ 0 = omega arith in
    let here : page_of b bytes q ≡ filled p (take p payload) = ap (page_of b bytes) (sym at_q) ∙ is 0 (omega arith) ∙ ap (λ (k : ℕ). filled p (take p (drop k payload))) none in
    elim (cases_lt (length payload) p) [
      | inl lt ↦
          let all : take p payload ≡ payload = take_all p payload (omega arith) in
          ap (λ (l : List ℕ). take (length payload) (l ++ behind)) (here ∙ ap (filled p) all)
          ∙ ap (take (length payload)) (append_assoc payload (replicate (p - length payload) 255) behind)
          ∙ take_at payload (replicate (p - length payload) 255 ++ behind) (length payload) refl
      | inr ge ↦
          let front = take p payload in
          let size : length front ≡ p = length-take-le p payload ge in
          let full : filled p front ≡ front = ap (λ (k : ℕ). front ++ replicate k 255) (let e : p - length front ≡ 0 = omega arith in e) ∙ append-nil front in
          let left : length payload ≡ length front + length (drop p payload) = omega (arith, size, length-drop p payload) in
          let rest : take (length (drop p payload)) behind ≡ drop p payload =
          body_bytes b bytes n (drop p payload) (suc q) one
          (λ i lt.
          let at : suc q + i ≡ q + suc i = omega arith in
          let past : suc i * p ≡ p + i * p = omega arith in
          ap (page_of b bytes) at ∙ is (suc i) (omega arith) ∙ ap (λ (k : ℕ). filled p (take p (drop k payload))) past ∙ ap (λ (l : List ℕ). filled p (take p l)) (sym (drop-drop (i * p) p payload)))
          (let split : suc n * p ≡ p + n * p = omega arith in omega (arith, length-drop p payload)) in
          ap (λ (l : List ℕ). take (length payload) (l ++ behind)) (here ∙ full)
          ∙ ap (λ (k : ℕ). take k (front ++ behind)) left
          ∙ take-append-add front behind (length (drop p payload))
          ∙ ap (λ (l : List ℕ). front ++ l) rest
          ∙ take-append-drop p payload
    ]
