-- A content that is found has at least one byte.
use Rattle.std.proofs.Common.{◌≡◌, ℕ, zero, suc, ◌<◌, ◌≤◌, ◌+◌, ◌-◌, ◌*◌, Bool, true, false, if◌then◌else◌, List, [], ◌∷◌, Option, Some, length, drop, refl, ap, ◌∙◌, arith, length-drop, length-append}
use Rattle.std.proofs.Math.Nat.{mul-le-mul_right}
use Rattle.std.proofs.lemmas.Bool.{and_parts}
use Rattle.std.proofs.lemmas.List.{length-take, length-replicate}
use Rattle.std.proofs.lemmas.Nat.{le-div}
use Rattle.nv_base.specs.declared.mark.Mark.{Mark}
use Rattle.nv_base.specs.declared.mark.Mark.TheVariants.{Content, Invalid, Erased}
use Rattle.fee_format.specs.declared.rec_head.RecHead.{RecHead}
use Rattle.fee_format.specs.declared.rec_head.RecordKind.{RecordKind}
use Rattle.fee_format.specs.declared.rec_head.RecordKind.TheVariants as kind
use Rattle.fee_format.specs.RecHead.{IsLengthOfKind, IsLegalRecHead, rec_head_page}
use Rattle.fee_format.specs.Pages.{page_at, body_pages_of}
use Rattle.fee_image.specs.Bank.{Bank, page_of, pages_from}
use Rattle.fee_image.specs.RecordList.{Rec, Stands, Walks, pages_of_head}
use Rattle.fee_image.specs.Found.{mark_of_kind, counts, fits, last_from, last_held, held_shown}

-- a content that isn't empty, or no content
abbrev pub HasBytes : Mark → Type 0
HasBytes (Content bytes) = 0 < length bytes
HasBytes Invalid = Unit {0}
HasBytes Erased = Unit {0}

-- a page before one that isn't empty isn't empty either
earlier : (p : ℕ) (bytes : List ℕ) (a b : ℕ) → a ≤ b → 0 < length (page_at p bytes b) → 0 < length (page_at p bytes a)
earlier p bytes a b le some =
    let times = mul-le-mul_right p le in
    rw (length-take p (drop (a * p) bytes), length-drop (a * p) bytes) (let more = rw (length-take p (drop (b * p) bytes), length-drop (b * p) bytes) at some in omega (arith, times, more))

-- a header isn't empty, so no page of its bank is of no bytes
page_some : (f p : ℕ) (h : RecHead) (page : List ℕ) → length page ≤ p → page ≡ rec_head_page f p h → 1 ≤ p
page_some f p h page le is = omega (arith, le, ap length is)

some_from : (b : Bank) (bytes : List ℕ) (q n : ℕ) → 1 ≤ n → 0 < length (page_of b bytes q) → 0 < length (pages_from b bytes q n)
some_from b bytes q zero le here = absurd (omega arith)
some_from b bytes q (suc n) le here = rw (length-append (page_of b bytes q) (pages_from b bytes (suc q) n)) (omega arith)

payload_some : (b : Bank) (bytes : List ℕ) (q : ℕ) (r : Rec) → Stands b bytes q r → r.committed ≡ true → 0 < r.head.length → 0 < length r.payload
payload_some b bytes q r stands committed some =
    let p = b.page in
    let n = body_pages_of r.head.length p in
    let page : 1 ≤ p = page_some b.format p r.head (page_of b bytes q) (rw (length-take p (drop ((b.at + q) * p) bytes)) (omega arith)) stands.head.page.page_is in
    let body : 1 ≤ n = le-div 1 (r.head.length + (p - 1)) p page (omega arith) in
    let gate : length (page_of b bytes (q + 2 + n)) ≡ p = ap length (stands.commit.0 committed) ∙ length-replicate p 0 in
    let here : 0 < length (page_of b bytes (q + 2)) = earlier p bytes (b.at + (q + 2)) (b.at + (q + 2 + n)) (omega arith) (omega (arith, gate, page)) in
    let from : 0 < length (pages_from b bytes (q + 2) n) = some_from b bytes (q + 2) n body here in
    rw (stands.payload, length-take r.head.length (pages_from b bytes (q + 2) n)) (omega (arith, from, some))

kind_some : (k : RecordKind) (size : ℕ) (payload : List ℕ) → IsLengthOfKind k size → (0 < size → 0 < length payload) → HasBytes (mark_of_kind k payload)
kind_some kind.Content size payload legal some = some legal
kind_some kind.Invalid size payload legal some = tt
kind_some kind.Erased size payload legal some = tt

-- the last record that counts has a mark with bytes, or no content
pick_some : (number size : ℕ) (r : Rec) (o : Option Rec) (c : Bool) → counts number size r ≡ c → IsLegalRecHead r.head → (r.committed ≡ true → 0 < r.head.length → 0 < length r.payload) → HasBytes (held_shown o).mark → HasBytes (held_shown (if c then Some r else o)).mark
pick_some number size r o false count legal some has = has
pick_some number size r o true count legal some has = kind_some r.head.kind r.head.length r.payload legal.kind (some (and_parts r.committed (fits number size r.head) count).0)

last_some : (b : Bank) (bytes : List ℕ) (number size q e : ℕ) (o : Option Rec) (rs : List Rec) → Walks b bytes q rs e → HasBytes (held_shown o).mark → HasBytes (held_shown (last_from number size o rs)).mark
last_some b bytes number size q e o [] walk has = has
last_some b bytes number size q e o (r ∷ rs) walk has =
    last_some b bytes number size (q + pages_of_head b.page r.head) e _ rs walk.1
    (pick_some number size r o (counts number size r) refl walk.0.head.page.legal (payload_some b bytes q r walk.0) has)

pub mark_some : (b : Bank) (bytes : List ℕ) (number size e : ℕ) (rs : List Rec) → Walks b bytes 2 rs e → HasBytes (last_held number size rs).mark
mark_some b bytes number size e rs walk = last_some b bytes number size 2 e _ rs walk tt
