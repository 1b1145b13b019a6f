-- The marks that a bank shows while a record is written.
use Rattle.std.specs.Prelude.{if◌then◌else◌}
use Rattle.std.proofs.Common.{rules, ◌≡◌, inl, inr, ◌<◌, ◌≤◌, ℕ, ◌+◌, Bool, true, false, List, [], ◌∷◌, ◌++◌, Option, Some, refl, sym, ap, ◌∙◌, subst, arith}
use Rattle.std.proofs.lemmas.Bool.{cases_Bool}
use Rattle.fee_format.specs.declared.rec_head.RecHead.{RecHead}
use Rattle.fee_format.specs.Pages.{blank_page, body_pages_of}
use Rattle.fee_image.specs.Append.{Staged, Touches, whole}
use Rattle.fee_image.specs.Bank.{Bank, page_of}
use Rattle.fee_image.specs.Found.{fits, counts, last_record, last_held, held_of, held_shown, shown_in}
use Rattle.nv_base.specs.Held.{Held}
use Rattle.fee_image.specs.RecordList.{Rec, Stands, Walks, IsLog, records_of, pages_of_head}
use Rattle.fee_image.specs.May.{May, IsAmong, Shows, MayCommit, held_written, settling}
use Rattle.fee_image.proofs.Appends.{appends_leave_one_more, cuts_of_append, last_is_new, uncounted}
use Rattle.fee_image.proofs.Records.{logs_compute, marks_compute}
use Rattle.fee_image.proofs.Bodies.{blank_gate}

-- the last one of records that stand one after another
pub walk_last : (b : Bank) (bytes : List ℕ) (rs : List Rec) (q e f : ℕ) (r : Rec) → Walks b bytes q (rs ++ r ∷ []) f → Walks b bytes q rs e → Stands b bytes e r
walk_last b bytes [] q e f r all front = subst (λ (n : ℕ). Stands b bytes n r) front all.0
walk_last b bytes (x ∷ rs) q e f r all front = walk_last b bytes rs (q + pages_of_head b.page x.head) e f r all.1 front.1

-- a page that is as it was
pub untouched : (b : Bank) (bytes : List ℕ) (q : ℕ) → Touches b q bytes bytes
untouched b bytes q j lt other = refl

shown_pick : (c : Bool) (r : Rec) (o : Option Rec) → held_shown (if c then Some r else o) ≡ (if c then held_of r else held_shown o)
shown_pick true r o = refl
shown_pick false r o = refl

-- a mark of one record more
mark_more : (number length : ℕ) (rs : List Rec) (r : Rec) → last_held number length (rs ++ r ∷ []) ≡ (if counts number length r then held_of r else last_held number length rs)
mark_more number length rs r = ap held_shown (last_is_new number length rs r) ∙ shown_pick (counts number length r) r (last_record number length rs)

pick : (C : Held → Type 0) (c : Bool) (x y : Held) → (c ≡ true → C x) → C y → C (if c then x else y)
pick C true x y this rest = this refl
pick C false x y this rest = rest

settled_one : (c : Bool) (may : Option (List Held)) (m old : Held) → IsAmong may old → IsAmong (if c then Some (m ∷ []) else may) (if c then m else old)
settled_one true may m old is = search rules
settled_one false may m old is = is

module _ (b : Bank) (bytes : List ℕ) (rs : List Rec) (e : ℕ) (h : RecHead) (body : List ℕ) (k : ℕ) (big : 16 ≤ b.page) (staged : Staged b bytes rs e h body k) (lt : k < pages_of_head b.page h) where
  abbrev n : ℕ
  n = body_pages_of h.length b.page

  commit_blank : k ≡ 2 + n → page_of b bytes (e + 2 + n) ≡ blank_page b.page
  commit_blank is = staged.blank (e + 2 + n) (omega (arith, is)) (omega (arith, staged.room))

  list : (ss : List Rec) (f : ℕ) → IsLog b bytes ss f → records_of b bytes ≡ ss
  list ss f log = sym ((logs_compute b bytes ss f).0 log).0

  -- so long as its last page isn't done, the bank shows the marks of the records before it
  pub staged_marks : (number length : ℕ) → shown_in b bytes number length ≡ last_held number length rs
  staged_marks number length = elim (appends_leave_one_more b bytes bytes rs e h body k big staged lt (untouched b bytes (e + k))) [
    | inl none ↦ ap (last_held number length) (list rs e none.1)
    | inr more ↦ elim (cases_Bool more.last.committed) [
      | inr shut ↦ ap (last_held number length) (list (rs ++ more.last ∷ []) _ more.log) ∙ uncounted number length rs more.last shut
      | inl t ↦
          let stands = walk_last b bytes rs 2 e _ more.last more.log.walk staged.front in
          let at : page_of b bytes (e + 2 + body_pages_of more.last.head.length b.page) ≡ page_of b bytes (e + 2 + n) = ap (λ (x : RecHead). page_of b bytes (e + 2 + body_pages_of x.length b.page)) more.head in
          let all = (more.committed t).0 in
          absurd (blank_gate b.page (omega arith) (sym (commit_blank (omega (arith, all))) ∙ sym at ∙ stands.commit.0 t))
    ]
  ]

  -- what may be found of those records, and of one more that may be committed
  pub give : (may : May) → Shows b bytes may → (number length : ℕ) → IsAmong (may number length) (last_held number length rs)
  give may shows number length = subst (IsAmong (may number length)) (staged_marks number length) (shows number length)

  give_more : (may : May) → Shows b bytes may → MayCommit may h body → (number length : ℕ) → IsAmong (may number length) (last_held number length (rs ++ whole e h body ∷ []))
  give_more may shows commit number length =
      subst (IsAmong (may number length)) (sym (mark_more number length rs (whole e h body)))
      (pick (IsAmong (may number length)) (fits number length h) (held_written h body) (last_held number length rs) (commit number length) (give may shows number length))

  -- whatever stands on the next page
  pub cut_shows : (new : List ℕ) (may : May) → Shows b bytes may → MayCommit may h body → Touches b (e + k) bytes new → Shows b new may
  cut_shows new may shows commit touches number length =
      elim (cuts_of_append b bytes new rs e h body k big staged lt touches number length (shown_in b new number length) ((marks_compute b new number length (shown_in b new number length)).1 refl)) [
        | inl old ↦ subst (IsAmong (may number length)) (sym old) (give may shows number length)
        | inr more ↦ subst (IsAmong (may number length)) (sym more.1) (give_more may shows commit number length)
      ]

  -- before the last page no record is committed
  pub early_shows : (new : List ℕ) (may : May) → Shows b bytes may → k + 1 < pages_of_head b.page h → Touches b (e + k) bytes new → Shows b new may
  early_shows new may shows early touches number length =
      elim (cuts_of_append b bytes new rs e h body k big staged lt touches number length (shown_in b new number length) ((marks_compute b new number length (shown_in b new number length)).1 refl)) [
        | inl old ↦ subst (IsAmong (may number length)) (sym old) (give may shows number length)
        | inr more ↦ absurd (omega (arith, more.0))
      ]

  -- the record is committed
  pub committed_shows : (new : List ℕ) (may : May) → Shows b bytes may → IsLog b new (rs ++ whole e h body ∷ []) (e + pages_of_head b.page h) → Shows b new (settling may h body)
  committed_shows new may shows log number length =
      let is : shown_in b new number length ≡ last_held number length (rs ++ whole e h body ∷ []) = ap (last_held number length) (sym ((logs_compute b new _ _).0 log).0) in
      subst (IsAmong (settling may h body number length)) (sym (is ∙ mark_more number length rs (whole e h body)))
      (settled_one (fits number length h) (may number length) (held_written h body) (last_held number length rs) (give may shows number length))
