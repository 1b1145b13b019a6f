use Rattle.std.proofs.Common.{◌≡◌, ◌+◌, ℕ, ◌∷◌, None, length, refl, sym, ap, ◌∙◌, subst, rules}
use Rattle.fee_image.specs.RecordList.{Rec, Stands, records_left, pages_of_head}
use Rattle.fee_view.specs.Record.{Walk, GivesRecord, behind, rec_shown, records_in}
use Rattle.fee_view.specs.View.{own_bank}
use Rattle.fee_view.specs.declared.record.Record.{Record}
use Rattle.fee_image.proofs.Records.{lists_unfold}
use Rattle.fee_view.proofs.records.RecordsIterator.next.Goals as goal

-- the record that stands where a walk is comes next
comes_next : (v w : Walk) (more : ℕ) (seen : Rec) (r : Record) → v ≡ w → Stands v.bank v.bytes v.at seen → rec_shown r ≡ seen → more ≡ pages_of_head v.bank.page seen.head
    → records_in w ≡ rec_shown r ∷ records_left v.bank v.bytes (v.at + more)
comes_next v w more seen r is stands shown pages = rw (← is, shown, pages) ((lists_unfold v.bank v.bytes v.at).first seen stands)

-- and the walk goes on behind it
goes_on : (v w : Walk) (more : ℕ) (seen : Rec) (r : Record) → v ≡ w → rec_shown r ≡ seen → more ≡ pages_of_head v.bank.page seen.head → record v { at = v.at + more } ≡ behind w (rec_shown r)
goes_on v w more seen r is shown pages = ap (λ (n : ℕ). record v { at = v.at + n }) pages ∙ ap (behind v) (sym shown) ∙ ap (λ (x : Walk). behind x (rec_shown r)) is

pub returns-in_err-seen-clause-steps : goal.returns-in_err-seen-clause-steps
returns-in_err-seen-clause-steps c =
    let i = c.self.inside in
    let none = (lists_unfold (own_bank i.page i.pages i.format) i.bytes.now i.at).none c.in_err-seen.ensures in
    rw c.from_residual.ensures (subst (λ (w : Walk). GivesRecord w None w) c.self.view_is (none, refl))

pub returns-clause-steps : goal.returns-clause-steps
returns-clause-steps c =
    let next = comes_next _ c.args.self.now c.pages_of.result _ c.record_of-record.result c.self.view_is c.in_ok-seen.ensures c.record_of-record.ensures.shown c.pages_of.ensures in
    let on = goes_on _ c.args.self.now c.pages_of.result _ c.record_of-record.result c.self.view_is c.record_of-record.ensures.shown c.pages_of.ensures in
    (next, c.record_of-record.ensures.trusted, on)

pub returns-clause-goes : goal.returns-clause-goes
returns-clause-goes c =
    let next = comes_next _ c.args.self.now c.pages_of.result _ c.record_of-record.result c.self.view_is c.in_ok-seen.ensures c.record_of-record.ensures.shown c.pages_of.ensures in
    let shorter = ap length next in
    search rules
