-- Steps that are done.
use Rattle.std.specs.Prelude.{nat_lt, if◌then◌else◌, drop}
use Rattle.std.specs.List.{All}
use Rattle.std.proofs.Common.{◌≡◌, inl, inr, ◌<◌, ◌≤◌, ℕ, zero, suc, ◌+◌, ◌*◌, ◌-◌, Bool, List, [], ◌∷◌, Some, None, length, take, replicate, sym, ap, ◌∙◌, subst, arith}
use Rattle.std.proofs.lemmas.Bool.{cases_Bool, cases_eq, cases_lt, cases_order, false≢true}
use Rattle.std.proofs.lemmas.List.{length-replicate, take-replicate, drop-replicate}
use Rattle.std.proofs.lemmas.List.Elements.{All-append, All-take, All-drop, All-replicate}
use Rattle.std.proofs.Math.Nat.{mul-le-mul_right, mul_comm}
use Rattle.nv_base.specs.declared.geometry.Geometry.{Geometry}
use Rattle.nv_base.specs.Geometry.{size_of}
use Rattle.fls_model.specs.Bytes.{piece}
use Rattle.fls_model.specs.Op.{Program, Erase, MayLeave, after_op}
use Rattle.fee_format.specs.Pages.{page_at, blank_page, gate_page, body_pages_of}
use Rattle.fee_format.specs.RecordPages.{body_page}
use Rattle.fee_format.proofs.Tests.{lt_is}
use Rattle.ea_image.specs.declared.slot_head.SlotHead.{SlotHead}
use Rattle.ea_image.specs.declared.which.Which.{Which}
use Rattle.ea_image.specs.declared.step.SlotStep.TheVariants.{EraseHead, EraseBody, Body, Head, Gate}
use Rattle.ea_image.specs.SlotHead.{slot_head_page}
use Rattle.ea_image.specs.Slots.{SlotBytes, slot_bytes, fitting, head_sector, body_sector, place_of_page}
use Rattle.ea_image.specs.Steps.{body_or_head, BodyHolds, HasCome}
use Rattle.ea_image.specs.Laws.{IsSlotOf, StepsGoOn, GatesOpen, StepsAreSteps}
use Rattle.ea_image.proofs.Bodies.{body_page_size, bodies_fit, bodies_have_room, body_reads}
use Rattle.ea_image.proofs.Heads.{slot_heads_compute}
use Rattle.ea_image.proofs.Pieces.{pieces_stay, piece_of_piece, erased_piece, programmed_piece, zeroed_piece}
use Rattle.ea_image.proofs.Reach.{sector_inside, head_page_size, steps_leave}
use Rattle.ea_image.proofs.SoundHeads.{AllSmall, page_small}
use Rattle.ea_image.proofs.Standing.{standing_open}

pub steps_are_steps : StepsAreSteps
steps_are_steps p pages h content EraseHead b come = tt
steps_are_steps p pages h content EraseBody b come = tt
steps_are_steps p pages h content (Body i) b come = come.3
steps_are_steps p pages h content Head b come = tt
steps_are_steps p pages h content Gate b come = tt

-- BYTES
all_small : (xs : List ℕ) → AllSmall xs → All (λ (x : ℕ). x < 256) xs
all_small [] small k d lt = absurd (omega arith)
all_small (x ∷ xs) small zero d lt = small.0
all_small (x ∷ xs) small (suc k) d lt = all_small xs small.1 k d (omega arith)

body_small : (p : ℕ) (content : List ℕ) (i : ℕ) → All (λ (x : ℕ). x < 256) content → All (λ (x : ℕ). x < 256) (body_page p content i)
body_small p content i all =
    let P = λ (x : ℕ). x < 256 in
    let front = take p (drop (i * p) content) in
    All-append P front (replicate (p - length front) 255) (All-take P p (drop (i * p) content) (All-drop P (i * p) content all)) (All-replicate P (p - length front) 255 (omega arith))

-- a sector lies in the bytes
sector_in : (g : Geometry) (k : ℕ) (old : List ℕ) → k < g.sectors → length old ≡ size_of g → k * g.sector + g.sector ≤ length old
sector_in g k old lt size =
    let le = mul-le-mul_right g.sector (let t : suc k ≤ g.sectors = lt in t) in
    let one : suc k * g.sector ≡ k * g.sector + g.sector = omega arith in
    let turn : g.sectors * g.sector ≡ g.sector * g.sectors = mul_comm g.sectors g.sector in
    omega (arith, le, one, turn, size)

head_below : (g : Geometry) (n j : ℕ) (s : Which) (h : SlotHead) (content : List ℕ) → IsSlotOf g n j h content → head_sector j s < g.sectors
head_below g n j s h content of = omega (arith, sector_inside n j s of.inside, of.room)

body_below : (g : Geometry) (n j : ℕ) (s : Which) (h : SlotHead) (content : List ℕ) → IsSlotOf g n j h content → body_sector j s < g.sectors
body_below g n j s h content of = omega (arith, sector_inside n j s of.inside, of.room)

-- a page of a body in the image
body_at : (g : Geometry) (image : List ℕ) (j : ℕ) (s : Which) (k : ℕ) → k * g.page + g.page ≤ g.sector → page_at g.page (slot_bytes g image j s).body k ≡ piece (place_of_page g (body_sector j s) k) g.page image
body_at g image j s k le =
    let b = body_sector j s in
    let at : place_of_page g b 0 + k * g.page ≡ place_of_page g b k = omega arith in
    piece_of_piece (place_of_page g b 0) g.sector (k * g.page) g.page image le ∙ ap (λ (a : ℕ). piece a g.page image) at

-- THE NEXT STEP
come_next : (p pages : ℕ) (h : SlotHead) (content : List ℕ) (i : ℕ) (b : SlotBytes) → b.head ≡ blank_page p → b.gate ≡ blank_page p → BodyHolds p content pages i b.body → i ≤ pages → HasCome p pages h content (body_or_head pages i) b
come_next p pages h content i b head gate body le = elim (cases_Bool (nat_lt i pages)) [
  | inl t ↦ subst (λ (v : Bool). HasCome p pages h content (if v then Body i else Head) b) (sym t) (head, gate, body, (lt_is i pages).0 t)
  | inr f ↦
      let most : pages ≤ i = elim (cases_lt i pages) [ inl lt ↦ absurd (false≢true (sym f ∙ (lt_is i pages).1 lt)) | inr ge ↦ ge ] in
      let all : i ≡ pages = omega arith in
      subst (λ (v : Bool). HasCome p pages h content (if v then Body i else Head) b) (sym f) (head, gate, subst (λ (n : ℕ). BodyHolds p content pages n b.body) all body)
]

-- THE STEPS
module _ (g : Geometry) (n j : ℕ) (s : Which) (h : SlotHead) (content : List ℕ) (old new : List ℕ) (of : IsSlotOf g n j h content) (size : length old ≡ size_of g) where
  abbrev p : ℕ
  p = g.page

  abbrev pages : ℕ
  pages = body_pages_of h.length g.page

  fits : (k : ℕ) → k < pages → k * p + p ≤ g.sector
  fits k lt = bodies_fit h.length p g.sector k (omega (arith, of.legal.page_low)) of.legal.whole_pages of.few lt

  -- an erase of the head's sector
  head_erased : (q : ℕ) → q < 2 → new ≡ after_op (Erase (head_sector j s * g.sector) g.sector) old → piece (place_of_page g (head_sector j s) q) p new ≡ blank_page p
  head_erased q two done =
      let k = head_sector j s in
      let inside = sector_in g k old (head_below g n j s h content of) size in
      let le : q * p ≤ p = (let m = mul-le-mul_right p (let t : q ≤ 1 = omega arith in t) in omega (arith, m)) in
      ap (λ (x : List ℕ). piece (place_of_page g k q) p x) done ∙ erased_piece old (k * g.sector) g.sector (q * p) p (omega (arith, inside)) (omega (arith, le, of.legal.sector_low))

  -- an erase of the body's
  body_erased : new ≡ after_op (Erase (body_sector j s * g.sector) g.sector) old → BodyHolds p content pages 0 (slot_bytes g new j s).body
  body_erased done =
      let b = body_sector j s in
      let inside = sector_in g b old (body_below g n j s h content of) size in
      let whole : (slot_bytes g new j s).body ≡ replicate g.sector 255 = ap (λ (x : List ℕ). piece (place_of_page g b 0) g.sector x) done ∙ erased_piece old (b * g.sector) g.sector (0 * p) g.sector (omega (arith, inside)) (omega arith) in
      record {
        written = λ k lt. absurd (omega arith);
        blank = λ k le lt.
            ap (λ (x : List ℕ). take p (drop (k * p) x)) whole ∙ ap (take p) (drop-replicate (k * p) g.sector 255) ∙ take-replicate p (g.sector - k * p) 255 (omega (arith, fits k lt));
      }

  -- a page of the body
  body_stays_at : (i k : ℕ) → (k ≡ i → ⊥) → k < pages → i < pages → MayLeave (Program (place_of_page g (body_sector j s) i) (body_page p content i)) old new → page_at p (slot_bytes g new j s).body k ≡ page_at p (slot_bytes g old j s).body k
  body_stays_at i k other lt lt2 leaves =
      let b = body_sector j s in
      let wide = body_page_size p content i in
      let stays : piece (place_of_page g b k) p new ≡ piece (place_of_page g b k) p old = elim (cases_order k i) [
        | inl same ↦ absurd (other same)
        | inr (inl less) ↦
            let le = mul-le-mul_right p (let t : suc k ≤ i = less in t) in
            let one : suc k * p ≡ k * p + p = omega arith in
            pieces_stay (place_of_page g b i) (length (body_page p content i)) (place_of_page g b k) p old new leaves.0 (inl (omega (arith, le, one)))
        | inr (inr more) ↦
            let le = mul-le-mul_right p (let t : suc i ≤ k = more in t) in
            let one : suc i * p ≡ i * p + p = omega arith in
            pieces_stay (place_of_page g b i) (length (body_page p content i)) (place_of_page g b k) p old new leaves.0 (inr (omega (arith, le, one, wide)))
      ] in
      body_at g new j s k (fits k lt) ∙ stays ∙ sym (body_at g old j s k (fits k lt))

  body_written : (i : ℕ) → i < pages → All (λ (x : ℕ). x < 256) content → page_at p (slot_bytes g old j s).body i ≡ blank_page p → new ≡ after_op (Program (place_of_page g (body_sector j s) i) (body_page p content i)) old → page_at p (slot_bytes g new j s).body i ≡ body_page p content i
  body_written i lt small blank done =
      let b = body_sector j s in
      let a = place_of_page g b i in
      let page = body_page p content i in
      let wide : length page ≡ p = body_page_size p content i in
      let inside = sector_in g b old (body_below g n j s h content of) size in
      let was : piece a p old ≡ replicate p 255 = sym (body_at g old j s i (fits i lt)) ∙ blank in
      let now = programmed_piece old page a (body_small p content i small) (omega (arith, inside, fits i lt)) (subst (λ (m : ℕ). piece a m old ≡ replicate m 255) (sym wide) was) in
      body_at g new j s i (fits i lt) ∙ ap (λ (x : List ℕ). piece a p x) done ∙ subst (λ (m : ℕ). piece a m (after_op (Program a page) old) ≡ page) wide now

  -- the head
  head_written : (slot_bytes g old j s).head ≡ blank_page p → new ≡ after_op (Program (place_of_page g (head_sector j s) 0) (slot_head_page p h)) old → (slot_bytes g new j s).head ≡ slot_head_page p h
  head_written blank done =
      let k = head_sector j s in
      let a = place_of_page g k 0 in
      let page = slot_head_page p h in
      let wide : length page ≡ p = head_page_size p h of.legal.page_low in
      let inside = sector_in g k old (head_below g n j s h content of) size in
      let now = programmed_piece old page a (all_small page (page_small p h)) (omega (arith, inside)) (subst (λ (m : ℕ). piece a m old ≡ replicate m 255) (sym wide) blank) in
      ap (λ (x : List ℕ). piece a p x) done ∙ subst (λ (m : ℕ). piece a m (after_op (Program a page) old) ≡ page) wide now

  -- the gate
  gate_opened : (slot_bytes g old j s).gate ≡ blank_page p → new ≡ after_op (Program (place_of_page g (head_sector j s) 1) (gate_page p)) old → (slot_bytes g new j s).gate ≡ gate_page p
  gate_opened blank done =
      let k = head_sector j s in
      let a = place_of_page g k 1 in
      let inside = sector_in g k old (head_below g n j s h content of) size in
      ap (λ (x : List ℕ). piece a p x) done ∙ zeroed_piece old a p (ap length blank ∙ length-replicate p 255) (omega (arith, inside, of.legal.sector_low))

pub steps_go_on : StepsGoOn
steps_go_on g n j s h content EraseHead old new of small size come leaves done = (head_erased g n j s h content old new of size 0 (omega arith) done, head_erased g n j s h content old new of size 1 (omega arith) done)
steps_go_on g n j s h content EraseBody old new of small size come leaves done =
    let same = steps_leave g n j s h content EraseBody old new of tt leaves in
    come_next g.page (body_pages_of h.length g.page) h content 0 (slot_bytes g new j s) (same.0 ∙ come.0) (same.1 ∙ come.1) (body_erased g n j s h content old new of size done) (omega arith)
steps_go_on g n j s h content (Body i) old new of small size come leaves done =
    let same = steps_leave g n j s h content (Body i) old new of come.3 leaves in
    let body = come.2 in
    come_next g.page (body_pages_of h.length g.page) h content (i + 1) (slot_bytes g new j s) (same.0 ∙ come.0) (same.1 ∙ come.1)
    (record {
      written = λ k lt. elim (cases_eq k i) [
        | inl is ↦ subst (λ (m : ℕ). page_at g.page (slot_bytes g new j s).body m ≡ body_page g.page content m) (sym is) (body_written g n j s h content old new of size i come.3 small (body.blank i (omega arith) come.3) done)
        | inr other ↦
            let below : k < i = omega arith in
            body_stays_at g n j s h content old new of size i k other (omega (arith, come.3)) come.3 leaves ∙ body.written k below
      ];
      blank = λ k le lt. body_stays_at g n j s h content old new of size i k (λ e. omega (arith, e)) lt come.3 leaves ∙ body.blank k (omega arith) lt;
    })
    (omega (arith, come.3))
steps_go_on g n j s h content Head old new of small size come leaves done =
    let same = steps_leave g n j s h content Head old new of tt leaves in
    (head_written g n j s h content old new of size come.0 done, same.0 ∙ come.1, subst (λ (l : List ℕ). BodyHolds g.page content (body_pages_of h.length g.page) (body_pages_of h.length g.page) l) (sym same.1) come.2)
steps_go_on g n j s h content Gate old new of small size come leaves done = tt

pub gates_open : GatesOpen
gates_open g n j wanted s h content old new of fits size come leaves done =
    let same = steps_leave g n j s h content Gate old new of tt leaves in
    let b = slot_bytes g new j s in
    let gate = gate_opened g n j s h content old new of size come.1 done in
    let head : b.head ≡ slot_head_page g.page h = same.0 ∙ come.0 in
    let pages = body_pages_of h.length g.page in
    let body = (slot_bytes g old j s).body in
    let one : 1 ≤ g.page = omega (arith, of.legal.page_low) in
    let room = bodies_have_room h.length g.page one in
    let reads : take (length content) body ≡ content = body_reads g.page pages body content one come.2.written (omega (arith, room, of.size)) in (
      standing_open g.page wanted b gate ∙ ap (fitting wanted) ((slot_heads_compute g.page b.head h).0 (record { legal = of.head; page_is = head }))
          ∙ ap (λ (t : Bool). if t then Some h else None) fits,
      ap (take h.length) same.1 ∙ ap (λ (m : ℕ). take m body) (sym of.size) ∙ reads,
    )
