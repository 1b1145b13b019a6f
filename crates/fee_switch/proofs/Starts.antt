-- What is loaded from a bank that is read.
use Rattle.std.proofs.Common.{◌≡◌, ◌≤◌, ◌*◌, ◌+◌, ℕ, List, length, Option, Some, None, true, sym, ap, ◌∙◌, refl, subst, add-one}
use Rattle.std.specs.Prelude.{IfSome}
use Rattle.nv_base.specs.declared.geometry.Geometry.{Geometry}
use Rattle.nv_base.specs.Geometry.{pages_of_bank}
use Rattle.fls_model.specs.Told.{ToldBytes}
use Rattle.fee_format.specs.declared.bank_head.BankHead.{BankHead}
use Rattle.fee_image.specs.Bank.{Bank}
use Rattle.fee_image.specs.RecordList.{StandsAs, StandsNot, IsClosed, end_of}
use Rattle.fee_image.specs.Image.{Layout, layout_of, bank_in, head_of_bank, first_of, active_below}
use Rattle.fee_view.specs.View.{own_bank}
use Rattle.fee_log.specs.Index.{clear_flags}
use Rattle.fee_log.specs.declared.tail.Tail.{Tail}
use Rattle.fee_log.specs.declared.tail.Tail.TheVariants as tail
use Rattle.fee_log.specs.Load.{HasPages, IsOfBank, IsTailOf, IsLoaded, load_begun}
use Rattle.fee_log.specs.Log.{LogState, is_closed}
use Rattle.fee_switch.specs.declared.active.ActiveBank.{ActiveBank}
use Rattle.fee_switch.specs.declared.loading.Coming.{Coming}
use Rattle.fee_switch.specs.Active.{active_shown}
use Rattle.fee_switch.specs.Start.{IsLoadedAs, HasComing}
use Rattle.fee_log.proofs.Loads.{loads_are_loaded}
use Rattle.fee_switch.proofs.Heads.{heads_are_read}

-- where a fact of told bytes follows from others
pub told_then : (o : Option ToldBytes) (P Q : ToldBytes → Type 0) → ((b : ToldBytes) → P b → Q b) → IfSome o P → IfSome o Q
told_then None P Q then is = tt
told_then (Some b) P Q then is = then b is

pub told_both : (o : Option ToldBytes) (P Q R : ToldBytes → Type 0) → ((b : ToldBytes) → P b → Q b → R b) → IfSome o P → IfSome o Q → IfSome o R
told_both None P Q R then p q = tt
told_both (Some b) P Q R then p q = then b p q

-- WHICH BANK COMES FIRST
module _ (l : Layout) (k : ℕ) (bytes own : List ℕ) (first : Option ActiveBank) (two : 2 * l.page ≤ length own) (has : HasPages (bank_in l 1 k) bytes 0 own) where
  pub none_comes : StandsNot (own_bank l.page 2 1) own → active_shown first ≡ active_below l bytes k → active_shown first ≡ active_below l bytes (k + 1)
  none_comes not taken =
      let none : head_of_bank l bytes k ≡ None = heads_are_read l bytes own k None two has not in
      let next : active_below l bytes (k + 1) ≡ active_below l bytes k = rw (add-one k, none) refl in
      taken ∙ sym next

  some_comes : (h : BankHead) → StandsAs (own_bank l.page 2 1) own h → active_shown first ≡ active_below l bytes k → active_below l bytes (k + 1) ≡ first_of (active_shown first) k (Some h)
  some_comes h stands taken =
      let some : head_of_bank l bytes k ≡ Some h = heads_are_read l bytes own k (Some h) two has stands in
      rw (add-one k, some, taken) refl

  pub it_comes : (h : BankHead) → StandsAs (own_bank l.page 2 1) own h → first_of (active_shown first) k (Some h) ≡ Some (k, h) → active_shown first ≡ active_below l bytes k → active_below l bytes (k + 1) ≡ Some (k, h)
  it_comes h stands comes taken = some_comes h stands taken ∙ comes

  pub it_stays : (h : BankHead) → StandsAs (own_bank l.page 2 1) own h → first_of (active_shown first) k (Some h) ≡ active_shown first → active_shown first ≡ active_below l bytes k → active_shown first ≡ active_below l bytes (k + 1)
  it_stays h stands stays taken = sym (some_comes h stands taken ∙ stays)

-- ITS LOG
closed_there : (b : Bank) (bytes : List ℕ) (t : Tail) → is_closed t ≡ true → IsTailOf b bytes t → IsClosed b bytes (end_of b bytes)
closed_there b bytes tail.Open closed is = cc
closed_there b bytes (tail.Writes h k) closed is = cc
closed_there b bytes (tail.Owes h next) closed is = cc
closed_there b bytes tail.Closed closed is = is

pub loaded_as : (l : Layout) (bytes : List ℕ) (k : ℕ) (h : BankHead) (log : LogState) → log.bank ≡ k → log.format ≡ h.format → log.flags ≡ clear_flags log.numbers → IsLoaded (bank_in l h.format k) bytes log
    → IsLoadedAs l bytes k h log
loaded_as l bytes k h log bank format flags is = record {
  bank = bank;
  format = format;
  flags = flags;
  loaded = λ body. (loads_are_loaded (bank_in l h.format k) bytes log body is).0;
  tail = λ body. (loads_are_loaded (bank_in l h.format k) bytes log body is).1;
  closed = λ closed. closed_there (bank_in l h.format k) bytes log.tail closed is.tail;
}

-- its bank, as the layout has it
pub bank_begun : (log new : LogState) (g : Geometry) (banks k format : ℕ) → new ≡ load_begun log k format → log.geometry ≡ g → log.banks ≡ banks → IsOfBank new (bank_in (layout_of g banks) format k)
bank_begun log new g banks k format is of shared = record {
  page = sym (ap (λ (s : LogState). s.geometry.page) is ∙ ap (λ (x : Geometry). x.page) of);
  pages = sym (ap (λ (s : LogState). pages_of_bank s.geometry s.banks) is ∙ (λ i. pages_of_bank (of i) (shared i)));
  format = sym (ap (λ (s : LogState). s.format) is);
}

pub bank_there : (log : LogState) (k format : ℕ) → log.format ≡ format → IsOfBank log (bank_in (layout_of log.geometry log.banks) format k)
bank_there log k format is = record { page = refl; pages = refl; format = sym is }

pub layout_same : (log : LogState) (g : Geometry) (banks : ℕ) → log.geometry ≡ g → log.banks ≡ banks → layout_of log.geometry log.banks ≡ layout_of g banks
layout_same log g banks of shared = λ i. layout_of (of i) (shared i)

-- so many pages were read
pub further_coming : (k from to : ℕ) (log : LogState) (o : Option Coming) → from ≡ to → IfSome o (HasComing k from log) → IfSome o (HasComing k to log)
further_coming k from to log o same is = subst (λ (n : ℕ). IfSome o (HasComing k n log)) same is

-- a bank that doesn't come leaves the one before it as it is
pub first_stays : (l : Layout) (bytes : List ℕ) (first : Option ActiveBank) (log new : LogState) → new ≡ log → IfSome first (λ a. IsLoadedAs l bytes a.bank a.head log) → IfSome first (λ a. IsLoadedAs l bytes a.bank a.head new)
first_stays l bytes first log new same is = subst (λ (x : LogState). IfSome first (λ a. IsLoadedAs l bytes a.bank a.head x)) (sym same) is
