-- What the steps of a target make of the banks.
use Rattle.std.specs.Int.{byte_at}
use Rattle.std.proofs.Common.{◌≡◌, ◌<◌, ◌≤◌, ◌+◌, ◌-◌, ◌*◌, ◌/◌, ◌^◌, ℕ, zero, suc, List, [], ◌∷◌, length, replicate, sym, ap, ◌∙◌, subst, arith}
use Rattle.std.proofs.lemmas.List.{length-replicate}
use Rattle.std.proofs.Math.Nat.{mul-le-mul_right, mul_comm}
use Rattle.std.specs.List.{All}
use Rattle.nv_base.specs.declared.instance.DeviceNumber.{DeviceNumber}
use Rattle.fls_model.specs.declared.flash.FlashAnswer.{FlashAnswer}
use Rattle.fls_model.specs.declared.flash.FlashAnswer.TheVariants.{Done, Failed, Off}
use Rattle.fls_model.specs.Op.{MayLeave, after_op}
use Rattle.fls_model.specs.Step.{Leaves}
use Rattle.fee_format.specs.declared.bank_head.BankHead.{BankHead}
use Rattle.fee_format.specs.BankHead.{bank_head_page}
use Rattle.fee_format.specs.Pages.{gate_page}
use Rattle.fee_image.specs.Bank.{place_of_page}
use Rattle.fee_image.specs.Image.{Layout, IsLegalLayout, layout_of, bank_in, image_page}
use Rattle.fee_image.specs.Sound.{IsSoundImage}
use Rattle.fee_image.specs.Log.{Log}
use Rattle.fee_image.specs.Banks.{Erasing, Copying, Sealing, Banks, Holds, HoldsPhase, ImageShows, IsCopying, next_head}
use Rattle.fee_image.specs.BankLaws.{program_of}
use Rattle.fee_switch.specs.declared.target.Stage.{Stage}
use Rattle.fee_switch.specs.declared.target.Stage.TheVariants.{Erase, Head, Gate}
use Rattle.fee_switch.specs.declared.target.Target.{Target}
use Rattle.fee_switch.specs.Target.{IsTarget, IsWorking, head_of, op_at, phase_of, IsReady, IsSafe, banks_at, TargetsHold, CutsShow}
use Rattle.fee_image.proofs.Erases.{erases_done, erases_fail, erases_keep_sound}
use Rattle.fee_image.proofs.Ranges.{gates_stand, programs_stand}
use Rattle.fee_image.proofs.Seals.{copies_fail, copies_keep_sound, gates_done, gates_fail, gates_keep_sound, heads_done}
use Rattle.fee_image.proofs.Sectors.{layouts_are_legal}
use Rattle.fee_image.proofs.Shows.{banks_show}
use Rattle.fee_format.proofs.Torn.{byte_small}

-- A HEAD'S BYTES
abbrev Small : List ℕ → Type 0
Small [] = Unit {0}
Small (x ∷ xs) = (x < 256) × Small xs

all_small : (xs : List ℕ) → Small xs → All (λ (x : ℕ). x < 256) xs
all_small [] small k d lt = absurd (omega arith)
all_small (x ∷ xs) small zero d lt = small.0
all_small (x ∷ xs) small (suc k) d lt = all_small xs small.1 k d (omega arith)

blank_small : (n : ℕ) → Small (replicate n 255)
blank_small zero = tt
blank_small (suc n) = (omega arith, blank_small n)

turned : (x : ℕ) → 255 - x < 256
turned x = omega arith

pub head_small : (p g : ℕ) → All (λ (x : ℕ). x < 256) (bank_head_page p (record { format = 2; generation = g }))
head_small p g =
    let low : Small ((255 - byte_at 3 g) ∷ (255 - byte_at 2 g) ∷ (255 - byte_at 1 g) ∷ (255 - byte_at 0 g) ∷ replicate (p - 12) 255) = (turned (byte_at 3 g), (turned (byte_at 2 g), (turned (byte_at 1 g), (turned (byte_at 0 g), blank_small (p - 12))))) in
    all_small (bank_head_page p (record { format = 2; generation = g })) (omega arith, (omega arith, (byte_small 3 g, (byte_small 2 g, (byte_small 1 g, (byte_small 0 g, (omega arith, (omega arith, low))))))))

-- a page of a bank lies in the bytes
pub page_inside : (l : Layout) (bytes : List ℕ) (k q : ℕ) → l.pages * l.page * l.banks ≤ length bytes → k < l.banks → q < l.pages → place_of_page (bank_in l 1 k) q + l.page ≤ length bytes
page_inside l bytes k q size low lt =
    let p = l.page in
    let B = l.pages in
    let one = mul-le-mul_right p (let t : suc q ≤ B = omega arith in t) in
    let two = mul-le-mul_right (B * p) (let t : suc k ≤ l.banks = omega arith in t) in
    let turn : B * p * l.banks ≡ l.banks * (B * p) = mul_comm (B * p) l.banks in
    let a : suc q * p ≡ q * p + p = omega arith in
    let b : suc k * (B * p) ≡ k * (B * p) + B * p = omega arith in
    let c : (k * B + q) * p ≡ k * (B * p) + q * p = grind arith in
    omega (arith, size, one, two, turn, a, b, c)

module _ (t : Target) (numbers : List (DeviceNumber × ℕ)) (old new : List ℕ) (s : Banks) (log : Log) (is : IsTarget t) (banks : Holds (layout_of t.geometry t.banks) numbers old s) (at : s.target ≡ t.bank) where
  abbrev l : Layout
  l = layout_of t.geometry t.banks

  shape : IsLegalLayout l
  shape = layouts_are_legal t.geometry t.banks is.legal is.shared

  -- the target's own number
  own : (stage : Stage) → MayLeave (op_at t stage) old new → MayLeave (op_at (record t { bank = s.target }) stage) old new
  own stage leaves = subst (λ (k : ℕ). MayLeave (op_at (record t { bank = k }) stage) old new) (sym at) leaves

  erase_fails : (n : ℕ) → n < t.geometry.sectors / t.banks → IsSoundImage l old → s.phase ≡ phase_of t (Erase n) log → MayLeave (op_at t (Erase n)) old new → Holds l numbers new s
  erase_fails n lt sound phase leaves = erases_fail t.geometry t.banks numbers old new s n is.legal is.shared sound banks phase lt (own (Erase n) leaves)

  head_fails : s.phase ≡ Copying log → MayLeave (op_at t Head) old new → Holds l numbers new (record s { phase = Erasing 0 })
  head_fails phase leaves =
      let page = bank_head_page l.page (head_of t) in
      let size : length page ≡ l.page = omega (arith, shape.page, length-replicate {A = ℕ} (l.page - 12) 255) in
      copies_fail l numbers old new page s 0 log shape banks phase size (omega (arith, shape.pages)) (λ e. omega (arith, e)) (own Head leaves)

  head_stands : s.phase ≡ Copying log → IsReady t Head s → MayLeave (op_at t Head) old new → new ≡ after_op (op_at t Head) old → Holds l numbers new (record s { phase = Sealing log })
  head_stands phase ready leaves done =
      let page = bank_head_page l.page (head_of t) in
      let b = bank_in l 1 s.target in
      let size : length page ≡ l.page = omega (arith, shape.page, length-replicate {A = ℕ} (l.page - 12) 255) in
      let c : IsCopying l numbers old s.target log s.copied = subst (HoldsPhase l numbers old s) phase banks.phase in
      let done_own : new ≡ after_op (op_at (record t { bank = s.target }) Head) old = subst (λ (k : ℕ). new ≡ after_op (op_at (record t { bank = k }) Head) old) (sym at) done in
      let stood = programs_stand b old page 0 size (head_small l.page t.generation) (page_inside l old s.target 0 banks.size banks.target (omega (arith, shape.pages))) (c.first 0 (omega arith) (omega (arith, shape.pages))) in
      let here : image_page l new s.target 0 ≡ page = subst (λ (bytes : List ℕ). image_page l bytes s.target 0 ≡ page) (sym done_own) stood.0 in
      let same : page ≡ bank_head_page l.page (next_head s.old) = ap (bank_head_page l.page) ready.0 in
      let last : (next_head s.old).generation < 2 ^ 32 = subst (λ (h : BankHead). h.generation < 2 ^ 32) ready.0 ready.1 in
      heads_done l numbers old new s log shape banks phase last ready.2 (subst (λ (x : List ℕ). MayLeave (program_of l s.target 0 x) old new) same (own Head leaves)) (here ∙ same)

  gate_stands : (next : ℕ) → next < t.banks → (next ≡ t.bank → ⊥) → s.phase ≡ Sealing log → MayLeave (op_at t Gate) old new → new ≡ after_op (op_at t Gate) old → Holds l numbers new (banks_at t Gate s log next Done)
  gate_stands next inside other phase leaves done =
      let b = bank_in l 1 s.target in
      let done_own : new ≡ after_op (op_at (record t { bank = s.target }) Gate) old = subst (λ (k : ℕ). new ≡ after_op (op_at (record t { bank = k }) Gate) old) (sym at) done in
      let stood = gates_stand b old 1 (page_inside l old s.target 1 banks.size banks.target (omega (arith, shape.pages))) in
      let here : image_page l new s.target 1 ≡ gate_page l.page = subst (λ (bytes : List ℕ). image_page l bytes s.target 1 ≡ gate_page l.page) (sym done_own) stood.0 in
      gates_done l numbers old new s log next shape banks phase (own Gate leaves) here inside (λ e. other (e ∙ at))

  by_stage : (next : ℕ) → next < t.banks → (next ≡ t.bank → ⊥) → (stage : Stage) (answer : FlashAnswer) → IsWorking (t.geometry.sectors / t.banks) stage → s.phase ≡ phase_of t stage log → IsReady t stage s → IsSafe stage l old → MayLeave (op_at t stage) old new → Leaves (op_at t stage) answer old new
      → Holds l numbers new (banks_at t stage s log next answer)
  by_stage next inside other (Erase n) Done lt phase ready safe leaves done =
      erases_done t.geometry t.banks numbers old new s n is.legal is.shared safe banks phase lt (own (Erase n) leaves) (subst (λ (k : ℕ). new ≡ after_op (op_at (record t { bank = k }) (Erase n)) old) (sym at) done)
  by_stage next inside other (Erase n) Failed lt phase ready safe leaves also = erase_fails n lt safe phase leaves
  by_stage next inside other (Erase n) Off lt phase ready safe leaves also = erase_fails n lt safe phase leaves
  by_stage next inside other Head Done lt phase ready safe leaves done = head_stands phase ready leaves done
  by_stage next inside other Head Failed lt phase ready safe leaves also = head_fails phase leaves
  by_stage next inside other Head Off lt phase ready safe leaves also = head_fails phase leaves
  by_stage next inside other Gate Done lt phase ready safe leaves done = gate_stands next inside other phase leaves done
  by_stage next inside other Gate Failed lt phase ready safe leaves also = gates_fail l numbers old new s log shape banks phase (own Gate leaves)
  by_stage next inside other Gate Off lt phase ready safe leaves also = gates_fail l numbers old new s log shape banks phase (own Gate leaves)

  -- CUTS
  shown : (x : Banks) → Holds l numbers new x → ImageShows l new x.may
  shown x h = banks_show l numbers new x shape h

  cut_by_stage : (stage : Stage) → IsWorking (t.geometry.sectors / t.banks) stage → s.phase ≡ phase_of t stage log → IsSafe stage l old → MayLeave (op_at t stage) old new
      → ImageShows l new s.may × (IsSoundImage l old → IsSoundImage l new)
  cut_by_stage (Erase n) lt phase safe leaves = (shown s (erase_fails n lt safe phase leaves), erases_keep_sound t.geometry t.banks old new t.bank n leaves)
  cut_by_stage Head lt phase safe leaves =
      let page = bank_head_page l.page (head_of t) in
      let size : length page ≡ l.page = omega (arith, shape.page, length-replicate {A = ℕ} (l.page - 12) 255) in (
        shown (record s { phase = Erasing 0 }) (head_fails phase leaves),
        copies_keep_sound l numbers old new page s 0 log shape banks phase size (omega (arith, shape.pages)) (λ e. omega (arith, e)) (own Head leaves),
      )
  cut_by_stage Gate lt phase safe leaves = (
    shown s (gates_fail l numbers old new s log shape banks phase (own Gate leaves)),
    gates_keep_sound l numbers old new s log shape banks phase (own Gate leaves),
  )

pub targets_hold : TargetsHold
targets_hold t numbers old new s log next answer is holds inside other leaves after =
    by_stage t numbers old new s log is holds.banks holds.target next inside other t.stage answer is.working holds.phase holds.ready holds.safe leaves after

pub cuts_show : CutsShow
cuts_show t numbers old image s log is holds leaves = cut_by_stage t numbers old image s log is holds.banks holds.target t.stage is.working holds.phase holds.safe leaves
