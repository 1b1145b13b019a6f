-- A run of callers at its beginning.
use Rattle.nvm_callers.proofs.Common.{map, ◌≡◌, ◌^◌, ◌≤◌, length, ℕ, true, false, List, [], get_or, sym, ap, ◌∙◌, subst, arith, DeviceTold, Clock, Entry, Configuration, Told, PlainBlock, DeskState, state_of, AreSynchronized, View, Has, knows, Terms, desk_with, IsFirst, PassValue, SharedState, IsDriven, DriverState, IsDriverOf, driver_of, stack_of, Step, program_of, Deed, MayDo, deeds_of, program_by, programs_of, AreRun, MayRun, deeds_may_be_done, Ending, IsBegun, WasRun, range_with_len, All-filter, All-map, get_or-range_with_len, length-range_with_len, IsTied, NextIsPending, StackState, beginner, HandIsPending, IsShared, terms_at, does_something, MayMake}
use Rattle.std.specs.List.{All}
use Rattle.script_callers.specs.declared.deed.Deed.TheVariants as deed_of

-- WHAT IS SHARED
module _ {D : Type 0} (told : D → DeviceTold) (clock : D → Clock) (copies : List PlainBlock → List Told) (s : StackState D (List PlainBlock)) (shared : SharedState) (p : PassValue) (r : DriverState D (List PlainBlock)) (is : IsShared told copies s false shared p r) where
  seen_first : (knows p).seen ≡ s.desk.entries
  seen_first = ap (λ (v : View Entry Terms). v.seen) is.knows_it

  desk_first : desk_with shared.terms (knows p).seen ≡ s.desk
  desk_first = ap (λ (t : Terms). desk_with t (knows p).seen) is.terms ∙ ap (desk_with (terms_at s.desk false)) seen_first

  pub begun : (c : Configuration) → IsFirst s.desk.entries → c ≡ s.desk.config → length c.blocks ≤ 512 → IsBegun told c shared p r
  begun c first own few = record {
    own = is.own;
    knows_it = subst (λ (l : List Entry). knows p ≡ beginner l shared.terms) (sym seen_first) is.knows_it;
    first = subst IsFirst (sym seen_first) first;
    config = ap (λ (t : Terms). t.config) is.terms ∙ sym own;
    few = few;
    untold = ap (λ (t : Terms). t.tells) is.terms;
    tied = subst (λ (y : DeskState). IsTied y r.hand (told r.device)) (sym desk_first) (subst (λ (x : DriverState D (List PlainBlock)). IsTied s.desk x.hand (told x.device)) (sym is.driver) is.tied);
    pending = subst (λ (y : DeskState). HandIsPending (state_of y)) (sym desk_first) is.pending;
    next = subst (λ (y : DeskState). NextIsPending y.config (state_of y)) (sym desk_first) is.next;
  }

  -- its parts are those of the stack
  pub was_its : (e : Ending) (desk : DeskState) (device : D) → WasRun told clock (stack_of (desk_with shared.terms (knows p).seen) r) e desk device → WasRun told clock s e desk device
  was_its e desk device was =
      let own = subst (λ (x : DriverState D (List PlainBlock)). WasRun told clock (stack_of s.desk x) e desk device) is.driver
      (subst (λ (y : DeskState). WasRun told clock (stack_of y r) e desk device) desk_first was) in
      record {
        config = own.config;
        cap = own.cap;
        more = own.more;
        grows = own.grows;
        no_start = own.no_start;
        starts = own.starts;
        no_refusal = own.no_refusal;
        hand = own.hand;
        keeps = own.keeps;
        cuts = own.cuts;
        moved = own.moved;
        ends = own.ends;
      }

  pub device_its : r.device ≡ s.device
  device_its = ap (λ (x : DriverState D (List PlainBlock)). x.device) is.driver

-- THE DRIVER
module _ {D C : Type 0} (told : D → DeviceTold) (clock : D → Clock) (copies : C → List Told) (c : Configuration) (shared : SharedState) (p : PassValue) (r : DriverState D (List PlainBlock)) (begins : IsBegun told c shared p r) where
  -- with any copies of the synchronized blocks it may begin its turns
  pub may_drive : (m : C) → AreSynchronized shared.terms.config (copies m) → IsDriverOf told clock copies shared p (driver_of r.device m r.hand)
  may_drive m synchronized = record {
    own = begins.own;
    mark = ap (λ (v : View Entry Terms). v.mark) begins.knows_it;
    drives = record {
      tied = begins.tied;
      pending = begins.pending;
      next = begins.next;
      synchronized = synchronized;
      kept = λ tells. let no_ : false ≡ true = sym begins.untold ∙ tells in absurd (cc no_);
    };
  }

  pub has_all : (knows p).parts ≡ 2 ^ 64
  has_all = ap (λ (v : View Entry Terms). v.parts) begins.knows_it

  none_own : (k : ℕ) → Has [] k → ⊥
  none_own k (i, at) = cc at

  pub added_none : (k : ℕ) → Has (knows p).own k → IsDriven (knows p).seen k
  added_none k has = absurd (none_own k (subst (λ (own : List ℕ). Has own k) (ap (λ (v : View Entry Terms). v.own) begins.knows_it) has))

-- THE PROGRAMS
may_make : (c : Configuration) → length c.blocks ≤ 512 → (d : Deed) → MayDo c d → MayMake c d
may_make c few (deed_of.Ask line r) may = may
may_make c few (deed_of.Store line block number content) may = tt
may_make c few (deed_of.Await line block) may = (may, omega (arith, may, few))

pub may_run : (c : Configuration) (steps : List Step) → length c.blocks ≤ 512 → AreRun c steps → All (MayRun c) (programs_of c steps)
may_run c steps few run =
    All-filter does_something (MayRun c) (map (program_by c steps) (range_with_len 0 16))
    (All-map (MayRun c) (program_by c steps) (range_with_len 0 16) (λ i d within.
    let long = length-range_with_len 0 16 in
    let at = get_or-range_with_len 0 16 i d (omega (arith, within, long)) in (
      omega (arith, at, within, long),
      λ k e inside. may_make c few (get_or (deeds_of c (program_of (get_or (range_with_len 0 16) i d) steps)) k e) (deeds_may_be_done c steps (get_or (range_with_len 0 16) i d) run k e inside),
    )))
