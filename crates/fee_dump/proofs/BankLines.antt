-- The lines of a bank that stands, one behind the other.
use Rattle.std.proofs.Common.{◌≡◌, ℕ, Bool, List, ◌++◌, Option, Some, ap, ◌∙◌, subst}
use Rattle.std.proofs.lemmas.List.{append_assoc}
use Rattle.std.specs.List.{flat_map}
use Rattle.fee_format.specs.declared.bank_head.BankHead.{BankHead}
use Rattle.fee_image.specs.Image.{Layout, bank_in}
use Rattle.fee_image.specs.RecordList.{Rec, records_of}
use Rattle.fee_dump.specs.Dump.{record_line, head_line, tail_line, log_text, has_blank_tail, bank_text}

joined : (t a b c : List ℕ) → ((t ++ a) ++ b) ++ c ≡ t ++ (a ++ (b ++ c))
joined t a b c = append_assoc (t ++ a) b c ∙ append_assoc t a (b ++ c)

pub bank_lines : (l : Layout) (image : List ℕ) (k : ℕ) (o : Option BankHead) (h : BankHead) (records : List Rec) (blank : Bool) (t t1 t2 t3 : List ℕ)
    → Some h ≡ o → records ≡ records_of (bank_in l h.format k) image → blank ≡ has_blank_tail (bank_in l h.format k) image
    → t1 ≡ t ++ head_line k h → t2 ≡ t1 ++ flat_map (record_line h.format) records → t3 ≡ t2 ++ tail_line blank → t3 ≡ t ++ bank_text l image k o
bank_lines l image k o h records blank t t1 t2 t3 is same tail e1 e2 e3 =
    let text : t3 ≡ t ++ (head_line k h ++ log_text h.format records blank) =
    e3 ∙ ap (λ (x : List ℕ). x ++ tail_line blank) (e2 ∙ ap (λ (x : List ℕ). x ++ flat_map (record_line h.format) records) e1) ∙ joined t (head_line k h) (flat_map (record_line h.format) records) (tail_line blank) in
    let shown : t3 ≡ t ++ bank_text l image k (Some h) = text ∙ ap (λ (rs : List Rec). t ++ (head_line k h ++ log_text h.format rs blank)) same ∙ ap (λ (b : Bool). t ++ (head_line k h ++ log_text h.format (records_of (bank_in l h.format k) image) b)) tail in
    subst (λ (x : Option BankHead). t3 ≡ t ++ bank_text l image k x) is shown
