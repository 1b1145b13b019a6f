-- The banks take turns: a program keeps it.
use Rattle.std.specs.Prelude.{IsTrue, IfSome, ◌&&◌, ◌||◌, ◌==◌, not, length}
use Rattle.std.specs.List.{All, list_any}
use Rattle.std.proofs.Common.{◌≡◌, ◌⊎◌, inl, inr, ◌<◌, ◌≤◌, ◌+◌, ◌-◌, ◌^◌, ◌++◌, ◌∷◌, ℕ, zero, suc, Bool, true, false, List, [], Option, Some, None, take, get_or, refl, sym, ap, ◌∙◌, subst, arith}
use Rattle.std.proofs.lemmas.Bool.{cases_eq}
use Rattle.std.proofs.lemmas.List.{length-replicate}
use Rattle.std.proofs.lemmas.Option.{same_Some}
use Rattle.nv_base.specs.Geometry.{IsLegal, HasBanks, address_of_page}
use Rattle.nv_base.proofs.Shapes.{pages_lie_inside}
use Rattle.fls_model.specs.declared.flash.FlashAnswer.{FlashAnswer}
use Rattle.fls_model.specs.declared.flash.FlashAnswer.TheVariants.{Done, Failed, Off}
use Rattle.fls_model.specs.Attach.{AreBytesOf}
use Rattle.fls_model.specs.Op.{Op, Program, MayLeave, after_op}
use Rattle.fls_model.specs.Step.{Leaves}
use Rattle.fls_model.specs.Told.{Change}
use Rattle.fls_model.proofs.Kept.{leaves_bytes}
use Rattle.fee_format.specs.declared.bank_head.BankHead.{BankHead}
use Rattle.fee_format.specs.BankHead.{IsBankHead, last_generation, bank_head_page}
use Rattle.fee_format.specs.Pages.{blank_page, gate_page, same_bytes}
use Rattle.fee_format.specs.SoundHead.{IsSoundHead}
use Rattle.fee_format.proofs.Heads.{bank_heads_compute}
use Rattle.fee_format.proofs.Tests.{eq_is, bytes_are}
use Rattle.fee_image.specs.Image.{Layout, bank_in, image_page, BankStands, IsActive, head_of_bank, active_of}
use Rattle.fee_image.specs.Sound.{IsSoundImage}
use Rattle.fee_image.specs.BankLaws.{program_of}
use Rattle.fee_image.proofs.Banks.{heads_compute, active_computes, no_active_computes, active_stays, first_is_active, sealed_is_active}
use Rattle.fee_image.proofs.Frames.{SameOthers, stands_same, others_stay, page_stays}
use Rattle.fee_image.proofs.Ranges.{programs_stand, gates_stand, programs_keep_sound}
use Rattle.fee_image.proofs.Shows.{blank_shut}
use Rattle.promise_device.specs.Making.{Making, banks_of}
use Rattle.promise_device.specs.Traits.{page_in_bank, is_done}
use Rattle.promise_device.specs.Wear.{bank_of_op, same_op, bank_behind, generation_in, head_behind, has_blank_front, is_next_head, is_head_due, comes_behind, is_page_due, is_front_due, leaves_room, finds_blank, is_repeated, has_place, is_due_there, is_due_by}
use Rattle.promise_device.specs.Generations.{bank_of_generation, IsTurn, head_op, sets_generation, IsInTurn, generation_of}
use Rattle.promise_device.proofs.Wears.{all_two, first_of, second_of, same_once}
use Rattle.promise_device.specs.SwitchErases.{begins_switch, ends_switch}
use Rattle.promise_device.proofs.Places.{bank_of_program, own_page}
use Rattle.promise_device.proofs.SwitchErases.{test, AreFew, goes_few, sealed_few}
use Rattle.promise_device.proofs.Operations.{IsProgramOf, program_has, leaves_within}
use Rattle.promise_device.proofs.GenerationsKept.{turn_behind, head_small, any_more, any_last, all_more, more_turns, legal_layout, some_banks, some_bytes, four_pages, gate_op, still_active, Waits, Inv, led, gate_behind, stays, active_turn, first_own}

module _ (m : Making) (legal : IsLegal m.geometry) (shared : HasBanks m.geometry m.banks) where
  abbrev l : Layout
  l = banks_of m

  -- A PROGRAM
  module _ (earlier : List Change) (x : Change) (image new : List ℕ) (inv : Inv m legal shared earlier image) (address : ℕ) (page : List ℕ) (op : x.op ≡ Program address page) (due : IsTrue (is_due_by m earlier image (Program address page))) (left : Leaves (Program address page) x.answer image new) where
    abbrev k : ℕ
    k = bank_of_op m.geometry m.banks (Program address page)

    abbrev q : ℕ
    q = page_in_bank m.geometry m.banks address

    placed : IsTrue (has_place m (Program address page))
    placed = first_of (has_place m (Program address page)) (is_due_there m earlier image (Program address page)) due

    of : IsProgramOf m legal shared k q address page
    of = program_has m legal shared address page placed

    within : MayLeave (Program address page) image new
    within = leaves_within m legal shared (Program address page) x.answer image new placed inv.bytes left

    leaves : MayLeave (program_of l k q page) image new
    leaves = subst (λ (a : ℕ). MayLeave (Program a page) image new) of.at within

    now_bytes : AreBytesOf m.geometry new
    now_bytes = leaves_bytes m.geometry (Program address page) image new within inv.bytes

    others : SameOthers l image new k
    others = others_stay l image new page k q of.size of.inside leaves

    own : (i : ℕ) → i < l.pages → (i ≡ q → ⊥) → image_page l new k i ≡ image_page l image k i
    own = page_stays l image new page k q of.size of.inside leaves

    first_two : (i j : ℕ) → (i ≡ k → ⊥) → j < 2 → image_page l new i j ≡ image_page l image i j
    first_two i j apart less = others i apart j (let four = four_pages m legal shared in omega (arith, four, less))

    stands_there : (i : ℕ) (h : BankHead) → (i ≡ k → ⊥) → BankStands l new i h → BankStands l image i h
    stands_there i h apart stands = stands_same l new image i h (sym (first_two i 0 apart (omega arith))) (sym (first_two i 1 apart (omega arith))) stands

    stands_here : (i : ℕ) (h : BankHead) → (i ≡ k → ⊥) → BankStands l image i h → BankStands l new i h
    stands_here i h apart stands = stands_same l image new i h (first_two i 0 apart (omega arith)) (first_two i 1 apart (omega arith)) stands

    page_due : IsTrue (is_page_due m earlier k q address page image)
    page_due =
        let there = second_of (has_place m (Program address page)) (is_due_there m earlier image (Program address page)) due in
        second_of (leaves_room m address image) (is_front_due m earlier address page image)
        (second_of (finds_blank m.geometry.page address image || is_repeated m.geometry m.banks earlier (Program address page)) (leaves_room m address image && is_front_due m earlier address page image) there)

    -- bank j's page i is programmed
    at_page : (j i : ℕ) → i < 2 → address ≡ address_of_page m.geometry m.banks j i → (j ≡ k) × (i ≡ q)
    at_page j i less at =
        let inside : i < l.pages = (let four = four_pages m legal shared in omega (arith, four, less)) in (
          sym (bank_of_program m.geometry m.banks j i page (some_bytes m legal shared) inside) ∙ sym (ap (λ (a : ℕ). bank_of_op m.geometry m.banks (Program a page)) at),
          sym (own_page m.geometry m.banks j i (some_bytes m legal shared) inside) ∙ sym (ap (page_in_bank m.geometry m.banks) at),
        )

    not_first : (i : ℕ) → q ≡ i → (i ≡ 0 → ⊥) → (most : ℕ) → IsInTurn m most x.op
    not_first i is apart most = subst (IsInTurn m most) (sym op) (λ first. absurd (apart (sym is ∙ first)))

    -- it begins no switch, and ends none but by a gate that is done
    none_begun : begins_switch m x.op ≡ false
    none_begun = ap (begins_switch m) op

    open_by : (test : Bool) → (q == 1) ≡ test → (IsTrue test → ⊥) ⊎ (is_done x.answer ≡ false) → ends_switch m x.op x.answer ≡ false
    open_by true is (inl other) = absurd (other refl)
    open_by true is (inr undone) = ap (λ (o : Op). ends_switch m o x.answer) op ∙ (λ i. is i && undone i)
    open_by false is why = ap (λ (o : Op). ends_switch m o x.answer) op ∙ ap (λ (b : Bool). b && is_done x.answer) is

    few_by : (q ≡ 1 → ⊥) ⊎ (is_done x.answer ≡ false) → (j g : ℕ) → AreFew m earlier j g → AreFew m (earlier ++ x ∷ []) j g
    few_by why j g are =
        let reason : (IsTrue (q == 1) → ⊥) ⊎ (is_done x.answer ≡ false) = elim why [ inl other ↦ inl (λ is. other ((eq_is q 1).0 is)) | inr undone ↦ inr undone ] in
        goes_few m earlier x j g none_begun (open_by (q == 1) refl reason) (first_own m legal shared j x.op) are

    -- BEHIND THE GATE
    logged : 2 ≤ q → Inv m legal shared (earlier ++ x ∷ []) new
    logged low =
        let stay : (i : ℕ) → i < l.banks → (j : ℕ) → j < 2 → image_page l new i j ≡ image_page l image i j = (λ i lt j less. elim (cases_eq i k) [
          | inl same ↦ subst (λ (b : ℕ). image_page l new b j ≡ image_page l image b j) (sym same) (own j (let four = four_pages m legal shared in omega (arith, four, less)) (λ e. omega (arith, e, low, less)))
          | inr apart ↦ first_two i j apart less
        ]) in
        stays m legal shared earlier x image new inv now_bytes (programs_keep_sound l image new page k q (legal_layout m legal shared).pages of.size leaves of.inside (inr (inr low)) inv.sound)
        (λ i h lt stands. stands_same l new image i h (sym (stay i lt 0 (omega arith))) (sym (stay i lt 1 (omega arith))) stands)
        (active_stays l image new (λ i lt. (stay i lt 0 (omega arith), stay i lt 1 (omega arith))))
        (not_first q refl (λ e. omega (arith, e, low)) (generation_of m image + 1)) (λ j lt. few_by (inl (λ e. omega (arith, e, low))) j (generation_of m image) (inv.few j lt))
        (λ j gate lt behind. elim (gate_behind m legal shared j gate x address page op (led m legal shared earlier x j gate behind)) [
          | inl head ↦ (let e = (at_page j 0 (omega arith) head.1).1 in absurd (omega (arith, e, low)))
          | inr failed ↦ (let e = (at_page j 1 (omega arith) failed.1).1 in absurd (omega (arith, e, low)))
        ])

    -- THE HEAD
    module _ (first : q ≡ 0) where
      abbrev active : Option (ℕ × BankHead)
      active = active_of l image

      head_due : IsTrue (is_head_due m k page image)
      head_due = subst (λ (i : ℕ). IsTrue (is_page_due m earlier k i address page image)) first page_due

      is_next : IsTrue (is_next_head m k page active)
      is_next = first_of (is_next_head m k page active) (has_blank_front m k image) head_due

      blank_front : IsTrue (has_blank_front m k image)
      blank_front = second_of (is_next_head m k page active) (has_blank_front m k image) head_due

      blank_head : image_page l image k 0 ≡ blank_page m.geometry.page
      blank_head = (bytes_are _ _).0 (first_of (same_bytes (image_page l image k 0) (blank_page m.geometry.page)) (same_bytes (image_page l image k 1) (blank_page m.geometry.page)) blank_front)

      blank_gate : image_page l image k 1 ≡ blank_page m.geometry.page
      blank_gate = (bytes_are _ _).0 (second_of (same_bytes (image_page l image k 0) (blank_page m.geometry.page)) (same_bytes (image_page l image k 1) (blank_page m.geometry.page)) blank_front)

      head_next : k ≡ bank_behind m.banks active
      head_next = (eq_is _ _).0 (first_of (k == bank_behind m.banks active) (not (generation_in active == last_generation) && same_bytes page (bank_head_page m.geometry.page (head_behind active))) is_next)

      head_rest : IsTrue (not (generation_in active == last_generation) && same_bytes page (bank_head_page m.geometry.page (head_behind active)))
      head_rest = second_of (k == bank_behind m.banks active) (not (generation_in active == last_generation) && same_bytes page (bank_head_page m.geometry.page (head_behind active))) is_next

      head_page_is : page ≡ bank_head_page m.geometry.page (head_behind active)
      head_page_is = (bytes_are _ _).0 (second_of (not (generation_in active == last_generation)) (same_bytes page (bank_head_page m.geometry.page (head_behind active))) head_rest)

      denies : (b : Bool) → IsTrue (not b) → IsTrue b → ⊥
      denies true is' is = cc is'
      denies false is' is = cc is

      not_last : generation_in active ≡ last_generation → ⊥
      not_last e = denies (generation_in active == last_generation) (first_of (not (generation_in active == last_generation)) (same_bytes page (bank_head_page m.geometry.page (head_behind active))) head_rest) ((eq_is _ _).1 e)

      small_by : (o : Option (ℕ × BankHead)) → active_of l image ≡ o → generation_in o < 2 ^ 32
      small_by None at = omega arith
      small_by (Some y) at = (let is : IsActive l image y.0 y.1 = (active_computes l image y.0 y.1).1 at in is.stands.head.legal.generation)

      head_low : generation_of m image + 1 < 2 ^ 32
      head_low = let small = small_by active refl in let last = not_last in omega (arith, small, last)

      shut : (h : BankHead) → BankStands l image k h → ⊥
      shut h stands = blank_shut m.geometry.page (image_page l image k 1) legal.page_low blank_gate stands.gate

      gate_stays : image_page l new k 1 ≡ image_page l image k 1
      gate_stays = own 1 (let four = four_pages m legal shared in omega (arith, four)) (λ e. (let z : ◌≡◌ {A = ℕ} 1 0 = e ∙ first in cc z))

      shut_now : (h : BankHead) → BankStands l new k h → ⊥
      shut_now h stands = blank_shut m.geometry.page (image_page l new k 1) legal.page_low (gate_stays ∙ blank_gate) stands.gate

      head_stood : (i : ℕ) (h : BankHead) → i < l.banks → BankStands l new i h → BankStands l image i h
      head_stood i h lt stands = elim (cases_eq i k) [
        | inl same ↦ absurd (shut_now h (subst (λ (b : ℕ). BankStands l new b h) same stands))
        | inr apart ↦ stands_there i h apart stands
      ]

      head_still : (o : Option (ℕ × BankHead)) → IfSome o (λ y. BankStands l image y.0 y.1 → BankStands l new y.0 y.1)
      head_still None = tt
      head_still (Some y) = λ stands. stands_here y.0 y.1 (λ same. shut y.1 (subst (λ (b : ℕ). BankStands l image b y.1) same stands)) stands

      head_turn : IsTurn m.banks k (generation_of m image + 1)
      head_turn = subst (λ (b : ℕ). IsTurn m.banks b (generation_of m image + 1)) (sym head_next) (turn_behind m.banks (some_banks m legal shared) active (active_turn m legal shared earlier image inv active refl))

      at_front : address ≡ address_of_page m.geometry m.banks k 0
      at_front = of.at ∙ ap (address_of_page m.geometry m.banks k) first

      op_is : Program address page ≡ head_op m (generation_of m image + 1)
      op_is =
          let at : address ≡ address_of_page m.geometry m.banks (bank_of_generation m.banks (generation_of m image + 1)) 0 = at_front ∙ ap (λ (b : ℕ). address_of_page m.geometry m.banks b 0) head_turn.1 in
          λ i. Program (at i) (head_page_is i)

      in_turn : IsInTurn m (generation_of m image + 1) x.op
      in_turn = subst (IsInTurn m (generation_of m image + 1)) (sym op) (λ e. (generation_of m image + 1, head_turn.0, (let refl_le : generation_of m image + 1 ≤ generation_of m image + 1 = omega arith in refl_le), op_is))

      sets : x.answer ≡ Done → IsTrue (sets_generation m (generation_of m image + 1) x)
      sets done =
          let same : IsTrue (same_op (head_op m (generation_of m image + 1)) x.op) = subst (λ (o : Op). IsTrue (same_op (head_op m (generation_of m image + 1)) o)) (sym (op ∙ op_is)) (same_once (head_op m (generation_of m image + 1))) in
          all_two (is_done x.answer) (same_op (head_op m (generation_of m image + 1)) x.op) (ap is_done done) same

      -- behind it, done, the gate may come
      stood_there : x.answer ≡ Done → image_page l new k 0 ≡ bank_head_page m.geometry.page (head_behind active)
      stood_there done =
          let inside = pages_lie_inside m.geometry m.banks k 0 1 legal shared of.bank (let four = four_pages m legal shared in omega (arith, four)) in
          let all = inv.bytes.size in
          let size : length (bank_head_page m.geometry.page (head_behind active)) ≡ m.geometry.page = subst (λ (p : List ℕ). length p ≡ m.geometry.page) head_page_is of.size in
          let stands = programs_stand (bank_in l 1 k) image (bank_head_page m.geometry.page (head_behind active)) 0 size (head_small m.geometry.page (generation_of m image + 1)) (omega (arith, inside, all)) blank_head in
          let done_left : Leaves (Program address page) Done image new = subst (λ (a : FlashAnswer). Leaves (Program address page) a image new) done left in
          let same : new ≡ after_op (Program (address_of_page m.geometry m.banks k 0) (bank_head_page m.geometry.page (head_behind active))) image = done_left ∙ (λ i. after_op (Program (at_front i) (head_page_is i)) image) in
          subst (λ (bytes : List ℕ). image_page l bytes k 0 ≡ bank_head_page m.geometry.page (head_behind active)) (sym same) stands.0

      set_by : x.answer ≡ Done → (t : ℕ) → 1 ≤ t → t ≤ generation_of m image + 1 → IsTrue (list_any (sets_generation m t) (earlier ++ x ∷ []))
      set_by done t one high = elim (cases_eq t (generation_of m image + 1)) [
        | inl same ↦ subst (λ (n : ℕ). IsTrue (list_any (sets_generation m n) (earlier ++ x ∷ []))) (sym same) (any_last (sets_generation m (generation_of m image + 1)) earlier x (sets done))
        | inr apart ↦ any_more (sets_generation m t) earlier x (inv.set t one (omega (arith, high, apart)))
      ]

      few_on : (j : ℕ) → j < m.banks → AreFew m (earlier ++ x ∷ []) j (generation_of m image)
      few_on j lt = few_by (inl (λ e. (let z : ◌≡◌ {A = ℕ} 0 1 = sym first ∙ e in cc z))) j (generation_of m image) (inv.few j lt)

      waits : x.answer ≡ Done → Waits m legal shared (earlier ++ x ∷ []) new k
      waits done = record {
        was = image;
        shut = shut;
        others = λ i apart. (first_two i 0 apart (omega arith), first_two i 1 apart (omega arith));
        next = head_next;
        low = head_low;
        head = stood_there done;
        turn = head_turn;
        set = set_by done;
        asked = all_more (λ (y : Change). IsInTurn m (generation_of m image + 1) y.op) earlier x inv.asked in_turn;
        few = few_on;
      }

      headed : Inv m legal shared (earlier ++ x ∷ []) new
      headed =
          stays m legal shared earlier x image new inv now_bytes
          (programs_keep_sound l image new page k q (legal_layout m legal shared).pages of.size leaves of.inside (inl (first, λ gate. blank_shut m.geometry.page (image_page l image k 1) legal.page_low blank_gate gate)) inv.sound)
          head_stood (still_active m legal shared image new active refl head_stood (head_still active)) in_turn few_on
          (λ j gate lt behind. elim (gate_behind m legal shared j gate x address page op (led m legal shared earlier x j gate behind)) [
            | inl head ↦ subst (λ (b : ℕ). Waits m legal shared (earlier ++ x ∷ []) new b) (sym (at_page j 0 (omega arith) head.1).0) (waits head.0)
            | inr failed ↦ (let e = (at_page j 1 (omega arith) failed.1).1 in let z : ◌≡◌ {A = ℕ} 1 0 = e ∙ first in absurd (cc z))
          ])

    -- THE GATE
    module _ (second : q ≡ 1) where
      at_gate : address ≡ address_of_page m.geometry m.banks k 1
      at_gate = of.at ∙ ap (address_of_page m.geometry m.banks k) second

      behind_head : IsTrue (comes_behind m.geometry (gate_op m legal shared k page) earlier)
      behind_head =
          subst (λ (a : ℕ). IsTrue (comes_behind m.geometry (Program a page) earlier)) at_gate
          (second_of (same_bytes page (gate_page m.geometry.page)) (comes_behind m.geometry (Program address page) earlier) (subst (λ (i : ℕ). IsTrue (is_page_due m earlier k i address page image)) second page_due))

      w : Waits m legal shared earlier image k
      w = inv.gate k page of.bank behind_head

      abbrev top : ℕ
      top = generation_of m w.was

      abbrev head : BankHead
      head = head_behind (active_of l w.was)

      head_stays : image_page l new k 0 ≡ image_page l image k 0
      head_stays = own 0 (let four = four_pages m legal shared in omega (arith, four)) (λ e. (let z : ◌≡◌ {A = ℕ} 0 1 = e ∙ second in cc z))

      page_is : (p : ℕ) → p ≡ m.geometry.page → image_page l image k 0 ≡ bank_head_page p head
      page_is p is = w.head ∙ ap (λ (n : ℕ). bank_head_page n head) (sym is)

      is_head : IsBankHead m.geometry.page (image_page l new k 0) head
      is_head = record { legal = record { format = inr refl; generation = w.low }; page_is = head_stays ∙ w.head }

      length_is : length (image_page l image k 0) ≡ m.geometry.page
      length_is = ap length w.head ∙ (let low = legal.page_low in omega (arith, low, length-replicate {A = ℕ} (m.geometry.page - 12) 255))

      sound_head : IsSoundHead (image_page l image k 0)
      sound_head = inl (head, record { legal = record { format = inr refl; generation = w.low }; page_is = page_is (length (image_page l image k 0)) length_is })

      now_sound : IsSoundImage l new
      now_sound = programs_keep_sound l image new page k q (legal_layout m legal shared).pages of.size leaves of.inside (inr (inl (second, sound_head))) inv.sound

      others_was : (i : ℕ) → (i ≡ k → ⊥) → (image_page l new i 0 ≡ image_page l w.was i 0) × (image_page l new i 1 ≡ image_page l w.was i 1)
      others_was i apart = (first_two i 0 apart (omega arith) ∙ (w.others i apart).0, first_two i 1 apart (omega arith) ∙ (w.others i apart).1)

      was_there : (i : ℕ) (h : BankHead) → (i ≡ k → ⊥) → BankStands l new i h → BankStands l w.was i h
      was_there i h apart stands = stands_same l new w.was i h (sym (others_was i apart).0) (sym (others_was i apart).1) stands

      was_here : (i : ℕ) (h : BankHead) → (i ≡ k → ⊥) → BankStands l w.was i h → BankStands l new i h
      was_here i h apart stands = stands_same l w.was new i h (others_was i apart).0 (others_was i apart).1 stands

      -- a bank that stands with a head has this one
      same_head : (h : BankHead) → BankStands l new k h → head ≡ h
      same_head h stands = same_Some head h (sym ((bank_heads_compute m.geometry.page (image_page l new k 0) head).0 is_head) ∙ (bank_heads_compute m.geometry.page (image_page l new k 0) h).0 stands.head)

      turns : (i : ℕ) (h : BankHead) → i < l.banks → BankStands l new i h → IsTurn m.banks i h.generation
      turns i h lt stands = elim (cases_eq i k) [
        | inl same ↦ (let one : head ≡ h = same_head h (subst (λ (b : ℕ). BankStands l new b h) same stands) in
            subst (λ (b : ℕ). IsTurn m.banks b h.generation) (sym same) (subst (λ (y : BankHead). IsTurn m.banks k y.generation) one w.turn))
        | inr apart ↦ inv.turns i h lt (stands_there i h apart stands)
      ]

      set_more : (t : ℕ) → 1 ≤ t → t ≤ top + 1 → IsTrue (list_any (sets_generation m t) (earlier ++ x ∷ []))
      set_more t one high = any_more (sets_generation m t) earlier x (w.set t one high)

      asked_more : All (λ y. IsInTurn m (top + 1) y.op) (earlier ++ x ∷ [])
      asked_more = all_more (λ (y : Change). IsInTurn m (top + 1) y.op) earlier x w.asked (not_first 1 second (λ e. omega (arith, e)) (top + 1))

      waits_on : x.answer ≡ Failed → Waits m legal shared (earlier ++ x ∷ []) new k
      waits_on failed = record {
        was = w.was;
        shut = w.shut;
        others = others_was;
        next = w.next;
        low = w.low;
        head = head_stays ∙ w.head;
        turn = w.turn;
        set = set_more;
        asked = asked_more;
        few = λ j lt. few_by (inr (ap is_done failed)) j top (w.few j lt);
      }

      gate_on : (j : ℕ) (gate : List ℕ) → j < m.banks → IsTrue (comes_behind m.geometry (gate_op m legal shared j gate) (earlier ++ x ∷ [])) → Waits m legal shared (earlier ++ x ∷ []) new j
      gate_on j gate lt behind = elim (gate_behind m legal shared j gate x address page op (led m legal shared earlier x j gate behind)) [
        | inl done ↦ (let e = (at_page j 0 (omega arith) done.1).1 in let z : ◌≡◌ {A = ℕ} 0 1 = e ∙ second in absurd (cc z))
        | inr failed ↦ subst (λ (b : ℕ). Waits m legal shared (earlier ++ x ∷ []) new b) (sym (at_page j 1 (omega arith) failed.1).0) (waits_on failed.0)
      ]

      -- with this active generation
      ends_with : (n : ℕ) → generation_of m new ≡ n → top ≤ n → n ≤ top + 1 → ((j : ℕ) → j < m.banks → AreFew m (earlier ++ x ∷ []) j n) → Inv m legal shared (earlier ++ x ∷ []) new
      ends_with n is low high few = record {
        bytes = now_bytes;
        sound = now_sound;
        turns = turns;
        set = λ t one less. set_more t one (omega (arith, less, is, high));
        asked = λ i d lt. more_turns m (top + 1) (generation_of m new + 1) (get_or (earlier ++ x ∷ []) i d).op (omega (arith, is, low)) (asked_more i d lt);
        few = λ j lt. subst (AreFew m (earlier ++ x ∷ []) j) (sym is) (few j lt);
        gate = gate_on;
      }

      -- the bank doesn't stand: the old one is active
      old_still : (o : Option (ℕ × BankHead)) → IfSome o (λ y. BankStands l w.was y.0 y.1 → BankStands l new y.0 y.1)
      old_still None = tt
      old_still (Some y) = λ stands. was_here y.0 y.1 (λ same. w.shut y.1 (subst (λ (b : ℕ). BankStands l w.was b y.1) same stands)) stands

      shut_again : head_of_bank l new k ≡ None → active_of l new ≡ active_of l w.was
      shut_again none =
          still_active m legal shared w.was new (active_of l w.was) refl
          (λ i h lt stands. elim (cases_eq i k) [
            | inl same ↦ (let e : None ≡ Some h = sym none ∙ (heads_compute l new k h).0 (subst (λ (b : ℕ). BankStands l new b h) same stands) in cc e)
            | inr apart ↦ was_there i h apart stands
          ])
          (old_still (active_of l w.was))

      -- or it is active
      takes_over : (o : Option (ℕ × BankHead)) → active_of l w.was ≡ o → BankStands l new k (head_behind o) → active_of l new ≡ Some (k, head_behind o)
      takes_over None at stands = (active_computes l new k (head_behind None)).0 (first_is_active l w.was new k (head_behind None) ((no_active_computes l w.was).1 at) of.bank stands (λ j other lt apart also. was_there j other apart also))
      takes_over (Some y) at stands =
          let is : IsActive l w.was y.0 y.1 = (active_computes l w.was y.0 y.1).1 at in
          (active_computes l new k (head_behind (Some y))).0 (sealed_is_active l w.was new y.0 k y.1 (head_behind (Some y)) is of.bank stands (omega arith) (λ j other lt apart also. was_there j other apart also))

      -- done, it stands
      gate_is : page ≡ gate_page m.geometry.page
      gate_is = (bytes_are _ _).0 (first_of (same_bytes page (gate_page m.geometry.page)) (comes_behind m.geometry (Program address page) earlier) (subst (λ (i : ℕ). IsTrue (is_page_due m earlier k i address page image)) second page_due))

      stands_done : x.answer ≡ Done → BankStands l new k head
      stands_done done =
          let inside = pages_lie_inside m.geometry m.banks k 1 1 legal shared of.bank (let four = four_pages m legal shared in omega (arith, four)) in
          let all = inv.bytes.size in
          let stands = gates_stand (bank_in l 1 k) image 1 (omega (arith, inside, all)) in
          let done_left : Leaves (Program address page) Done image new = subst (λ (a : FlashAnswer). Leaves (Program address page) a image new) done left in
          let same : new ≡ after_op (Program (address_of_page m.geometry m.banks k 1) (gate_page m.geometry.page)) image = done_left ∙ (λ i. after_op (Program (at_gate i) (gate_is i)) image) in
          record { head = is_head; gate = subst (λ (bytes : List ℕ). image_page l bytes k 1 ≡ gate_page m.geometry.page) (sym same) stands.0 }

      shut_few : head_of_bank l new k ≡ None → (answer : FlashAnswer) → x.answer ≡ answer → (j : ℕ) → j < m.banks → AreFew m (earlier ++ x ∷ []) j top
      shut_few none Done is j lt = absurd (let e : None ≡ Some head = sym none ∙ (heads_compute l new k head).0 (stands_done is) in cc e)
      shut_few none Failed is j lt = few_by (inr (ap is_done is)) j top (w.few j lt)
      shut_few none Off is j lt = few_by (inr (ap is_done is)) j top (w.few j lt)

      gated_by : (o : Option BankHead) → head_of_bank l new k ≡ o → Inv m legal shared (earlier ++ x ∷ []) new
      gated_by None none = ends_with top (ap generation_in (shut_again none)) (omega arith) (omega arith) (shut_few none x.answer refl)
      gated_by (Some h) some =
          let stands : BankStands l new k h = (heads_compute l new k h).1 some in
          let here : BankStands l new k head = subst (BankStands l new k) (sym (same_head h stands)) stands in
          ends_with (top + 1) (ap generation_in (takes_over (active_of l w.was) refl here)) (omega arith) (omega arith) (λ j lt. sealed_few m earlier x j top address page op (w.few j lt))

      gated : Inv m legal shared (earlier ++ x ∷ []) new
      gated = gated_by (head_of_bank l new k) refl

    pub programmed : (i : ℕ) → q ≡ i → Inv m legal shared (earlier ++ x ∷ []) new
    programmed zero is = headed is
    programmed (suc zero) is = gated is
    programmed (suc (suc i)) is = logged (omega (arith, is))
