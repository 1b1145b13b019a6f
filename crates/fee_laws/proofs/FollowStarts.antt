-- What a start-up found follows the bytes.
use Rattle.std.specs.Prelude.{IfSome}
use Rattle.std.proofs.Common.{◌≡◌, inl, inr, ◌≤◌, ◌*◌, ℕ, List, length, Option, Some, None, sym, ap, ◌∙◌, subst, arith}
use Rattle.nv_base.specs.Geometry.{pages_of_bank}
use Rattle.nv_base.proofs.Shapes.{banks_fill}
use Rattle.fls_model.specs.Attach.{AreBytesOf}
use Rattle.fls_model.specs.Told.{Change}
use Rattle.fee_image.specs.Bank.{Bank}
use Rattle.fee_image.specs.Image.{Layout, layout_of, bank_in, IsLegalLayout}
use Rattle.fee_image.specs.Places.{places_of}
use Rattle.fee_image.specs.RecordList.{IsClosed, records_of, end_of}
use Rattle.fee_image.specs.LogLaws.{loaded_log, IsLoadedTail}
use Rattle.fee_image.specs.Log.{Log, HoldsLog}
use Rattle.fee_image.specs.May.{exactly}
use Rattle.fee_image.proofs.Logs.{loaded_logs_hold, logs_widen}
use Rattle.fee_switch_laws.specs.fee_log.declared.tail.Tail.{Tail}
use Rattle.fee_switch_laws.specs.fee_log.declared.tail.Tail.TheVariants.{Open, Writes, Owes, Closed}
use Rattle.fee_switch_laws.specs.fee_log.Laws.{MayFollow}
use Rattle.fee_switch_laws.specs.fee_log.Log.{bank_of, log_of, pages_in, tail_with, work_in}
use Rattle.fee_switch_laws.specs.fee_switch.declared.active.ActiveBank.{ActiveBank}
use Rattle.fee_course.specs.declared.course.Course.{Course}
use Rattle.fee_switch_laws.specs.fee_switch.Banks.{BanksState, IsBanksState, FindsActive, LoadsActive}
use Rattle.fee_switch_laws.specs.fee_switch.Start.{IsLoadedAs}
use Rattle.fee_switch_laws.specs.Shown.{layout_in}
use Rattle.fee_laws.specs.Inside.{body_of}
use Rattle.fee_laws.specs.Follows.{anything, FollowsLog, FollowsBanks, FollowsNext, FollowsBytes}
use Rattle.fee_laws.proofs.FollowBanks.{legal}

-- THE SIZE
-- the pages of all banks lie in the bytes
pub wide : (s : BanksState) → IsBanksState s → (bytes : List ℕ) → AreBytesOf s.geometry bytes → (layout_in s).pages * (layout_in s).page * s.banks ≤ length bytes
wide s is bytes are = let all = (banks_fill s.geometry s.banks is.legal is.shared).0 in let size = are.size in omega (arith, all, size)

-- THE LOG
-- no record waits in a log that is loaded
loaded_follows : (b : Bank) (bytes body : List ℕ) (t : Tail) → IsLoadedTail b bytes (tail_with t body) → MayFollow anything t body
loaded_follows b bytes body Open loaded = tt
loaded_follows b bytes body (Writes h done) loaded = tt
loaded_follows b bytes body (Owes h None) loaded = tt
loaded_follows b bytes body (Owes h (Some next)) (inl open') = cc
loaded_follows b bytes body (Owes h (Some next)) (inr shut) = cc
loaded_follows b bytes body Closed loaded = tt

module _ (s : BanksState) (is : IsBanksState s) (bytes : List ℕ) (are : AreBytesOf s.geometry bytes) (content : List ℕ) (xs : List Change) where
  abbrev l : Layout
  l = layout_in s

  abbrev body : List ℕ
  body = body_of (work_in s.log.tail) content

  module _ (a : ActiveBank) (bank : s.log.bank ≡ a.bank) (loaded : IsLoadedAs l bytes a.bank a.head s.log) where
    bank_is : bank_in l a.head.format a.bank ≡ bank_of s.log
    bank_is = λ i. bank_in (layout_of (sym is.log.shape i) (sym is.log.shared i)) (sym loaded.format i) (sym bank i)

    size_is : l.pages * l.page * s.banks ≡ pages_in s.log * s.log.geometry.page * s.log.banks
    size_is = λ i. pages_of_bank (sym is.log.shape i) (sym is.log.shared i) * (sym is.log.shape i).page * sym is.log.shared i

    fits : IsLegalLayout l
    fits = legal s is bytes bytes

    held : HoldsLog (bank_in l a.head.format a.bank) s.log.numbers bytes anything (log_of s.log body)
    held =
        let b = bank_in l a.head.format a.bank in
        let h = loaded_logs_hold b s.log.numbers bytes (tail_with s.log.tail body) fits.page fits.pages (loaded.tail body) in
        let any = logs_widen b s.log.numbers bytes (exactly b bytes) anything (loaded_log b s.log.numbers bytes (tail_with s.log.tail body)) (λ number length m among. tt) h in
        subst (HoldsLog b s.log.numbers bytes anything) (sym (loaded.loaded body)) any

    pub log_found : FollowsLog s.course s.log body xs bytes
    log_found = record {
      holds = record {
        size = subst (λ (n : ℕ). n ≤ length bytes) size_is (wide s is bytes are);
        holds = subst (λ (b : Bank). HoldsLog b s.log.numbers bytes anything (log_of s.log body)) bank_is held;
        follows = loaded_follows (bank_in l a.head.format a.bank) bytes body s.log.tail (loaded.tail body);
      };
      closed = λ shut. inl (subst (λ (b : Bank). IsClosed b bytes (end_of b bytes)) bank_is (loaded.closed shut));
      placed = inr (ap (λ (x : Log). x.places) (loaded.loaded body) ∙ ap (λ (b : Bank). places_of s.log.numbers (records_of b bytes)) bank_is);
    }

  found_by : (o : Option ActiveBank) → IfSome o (λ a. (a.bank ≡ s.target → ⊥) × (s.log.bank ≡ a.bank)) → IfSome o (λ a. IsLoadedAs l bytes a.bank a.head s.log) → IfSome o (λ a. FollowsLog s.course s.log body xs bytes)
  found_by None state loaded = tt
  found_by (Some a) state loaded = log_found a state.1 loaded

  pub found_follows : s.course ≡ None → FindsActive bytes s → LoadsActive bytes s → FollowsBytes s content xs bytes
  found_follows shut finds loaded = record {
    log = found_by s.active is.active loaded;
    banks = subst (λ (c : Option Course). FollowsBanks s c bytes) (sym shut) finds;
    next = subst (λ (c : Option Course). IfSome c (λ x. FollowsNext s x xs bytes)) (sym shut) tt;
  }
