-- The pages that are programmed are whole pages of bytes.
use Rattle.std.specs.Prelude.{take, drop, replicate, length, ◌||◌, if◌then◌else◌}
use Rattle.std.specs.List.{All}
use Rattle.std.specs.Int.{byte_at}
use Rattle.std.proofs.Common.{◌≤◌, ◌<◌, ◌+◌, ◌-◌, ◌*◌, ◌==◌, ℕ, zero, suc, List, ◌∷◌, arith}
use Rattle.std.proofs.lemmas.Bool.{cond_both}
use Rattle.std.proofs.lemmas.List.Elements.{All-take, All-drop, All-append, All-replicate}
use Rattle.std.proofs.Math.ListN.{length-replicate, length-append, length-take}
use Rattle.fee_format.specs.declared.rec_head.RecHead.{RecHead}
use Rattle.fee_format.specs.declared.rec_head.RecordKind.{RecordKind}
use Rattle.fee_format.specs.declared.rec_head.RecordKind.TheVariants as kind
use Rattle.fee_format.specs.BankHead.{bank_head_page}
use Rattle.fee_format.specs.Formats.{new_format}
use Rattle.fee_format.specs.RecHead.{IsLegalRecHead, kind_byte, rec_head_page}
use Rattle.fee_format.specs.Pages.{gate_page, body_pages_of}
use Rattle.fee_format.specs.RecordPages.{filled, body_page, record_page}
use Rattle.fee_format.proofs.Torn.{byte_small}
use Rattle.fee_switch_laws.specs.fee_log.Step.{IsPageOf}
use Rattle.fee_switch_laws.proofs.SwitchTargets.{head_small}

abbrev Small : ℕ → Type 0
Small x = x < 256

pub all_cons : (x : ℕ) (xs : List ℕ) → x < 256 → All Small xs → All Small (x ∷ xs)
all_cons x xs small all zero d lt = small
all_cons x xs small all (suc k) d lt = all k d (omega arith)

kind_small : (k : RecordKind) → kind_byte k < 256
kind_small kind.Content = omega arith
kind_small kind.Invalid = omega arith
kind_small kind.Erased = omega arith

pub head_page : (p : ℕ) (h : RecHead) → 16 ≤ p → IsLegalRecHead h → IsPageOf p (rec_head_page new_format p h)
head_page p h low legal =
    let blank = replicate (p - 10) 255 in
    let t0 = byte_at 0 h.count ∷ blank in
    let t1 = byte_at 1 h.count ∷ t0 in
    let t2 = byte_at 2 h.count ∷ t1 in
    let t3 = byte_at 3 h.count ∷ t2 in
    let l0 = byte_at 0 h.length ∷ t3 in
    let l1 = byte_at 1 h.length ∷ l0 in
    let n0 = byte_at 0 h.number.0 ∷ l1 in
    let n1 = byte_at 1 h.number.0 ∷ n0 in
    record {
      size = omega (arith, length-replicate {A = ℕ} (p - 10) 255);
      bytes =
          (let rest = All-replicate Small (p - 10) 255 (omega arith) in
          let h' = all_cons (byte_at 0 h.count) blank (byte_small 0 h.count) rest in
          let g = all_cons (byte_at 1 h.count) t0 (byte_small 1 h.count) h' in
          let f = all_cons (byte_at 2 h.count) t1 (byte_small 2 h.count) g in
          let e = all_cons (byte_at 3 h.count) t2 (byte_small 3 h.count) f in
          let d = all_cons (byte_at 0 h.length) t3 (byte_small 0 h.length) e in
          let c = all_cons (byte_at 1 h.length) l0 (byte_small 1 h.length) d in
          let b = all_cons (byte_at 0 h.number.0) l1 (byte_small 0 h.number.0) c in
          let a = all_cons (byte_at 1 h.number.0) n0 (byte_small 1 h.number.0) b in
          let k = all_cons (kind_byte h.kind) n1 (kind_small h.kind) a in
          all_cons 0x52 (kind_byte h.kind ∷ n1) (omega arith) k);
    }

pub gate_is : (p : ℕ) → IsPageOf p (gate_page p)
gate_is p = record { size = length-replicate {A = ℕ} p 0; bytes = All-replicate Small p 0 (omega arith) }

pub few_taken : (p : ℕ) (xs : List ℕ) → length (take p xs) ≤ p
few_taken p xs = let h = length-take p xs in omega (arith, h)

pub filled_is : (p : ℕ) (xs : List ℕ) → length xs ≤ p → All Small xs → IsPageOf p (filled p xs)
filled_is p xs few all = record {
  size = (let a = length-append xs (replicate (p - length xs) 255) in let b = length-replicate {A = ℕ} (p - length xs) 255 in omega (arith, a, b));
  bytes = All-append Small xs (replicate (p - length xs) 255) all (All-replicate Small (p - length xs) 255 (omega arith));
}

pub record_page_is : (p : ℕ) (h : RecHead) (payload : List ℕ) (k : ℕ) → 16 ≤ p → IsLegalRecHead h → All (λ x. x < 256) payload → IsPageOf p (record_page p h payload k)
record_page_is p h payload k low legal all =
    cond_both (k == 0) (rec_head_page new_format p h) (if (k == 1) || (k == 2 + body_pages_of h.length p) then gate_page p else body_page p payload (k - 2)) (IsPageOf p)
    (λ e. head_page p h low legal)
    (λ e. cond_both ((k == 1) || (k == 2 + body_pages_of h.length p)) (gate_page p) (body_page p payload (k - 2)) (IsPageOf p) (λ e'. gate_is p)
    (λ e'. filled_is p (take p (drop ((k - 2) * p) payload)) (few_taken p (drop ((k - 2) * p) payload)) (All-take Small p (drop ((k - 2) * p) payload) (All-drop Small ((k - 2) * p) payload all))))

-- A BANK'S HEAD
pub bank_head_is : (p g : ℕ) → 16 ≤ p → IsPageOf p (bank_head_page p (record { format = new_format; generation = g }))
bank_head_is p g low = record { size = omega (arith, length-replicate {A = ℕ} (p - 12) 255); bytes = head_small p g }
