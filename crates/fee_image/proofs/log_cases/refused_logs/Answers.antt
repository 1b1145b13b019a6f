use Rattle.std.proofs.Common.{◌≡◌, ℕ, zero, suc, List, [], ◌∷◌, Contains, ap, arith}
use Rattle.nv_base.specs.declared.mark.Mark.TheVariants.{Content}
use Rattle.nv_base.specs.Held.{Held, never_written}
use Rattle.fee_image.specs.Cases.{new_bank, pages, after_new, content_1, content_2}
use Rattle.fee_image.specs.Bank.{place_of_page}
use Rattle.fls_model.specs.Bytes.{piece}
use Rattle.fee_image.proofs.log_cases.refused_logs.Goals as goal

only_one : (m n : Held) → Contains (n ∷ []) m → n ≡ m
only_one m n (zero, lt, is) = is
only_one m n (suc k, lt, is) = absurd (omega arith)

abbrev held : ℕ → List ℕ → Held
held count bytes = record { mark = Content bytes; count = count }

pub returns-clause-other_content : goal.returns-clause-other_content
returns-clause-other_content c ns log holds =
    let found : held 1 content_2 ≡ held 1 content_1 = only_one (held 1 content_1) (held 1 content_2) (holds.shows 128 4) in
    cc (ap (λ (h : Held). h.mark) found)

pub returns-clause-torn_header : goal.returns-clause-torn_header
returns-clause-torn_header c ns may holds = cc (holds.tail.blank 6 (omega arith) (omega arith))

pub returns-clause-wrong_place : goal.returns-clause-wrong_place
returns-clause-wrong_place c holds =
    let shown = piece (place_of_page new_bank 4) 7 (after_new (pages 4 255)) in
    let found : never_written ≡ held 1 shown = only_one (held 1 shown) never_written holds.placed.2.1 in
    cc (ap (λ (h : Held). h.mark) found)
