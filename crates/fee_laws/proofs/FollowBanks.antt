-- Banks whose pages stay.
use Rattle.std.specs.Prelude.{IfSome, IsTrue, ◌&&◌}
use Rattle.std.proofs.Common.{◌≡◌, ◌⊎◌, inl, inr, ◌<◌, ◌≤◌, ◌++◌, ◌∷◌, ℕ, zero, suc, Bool, true, false, List, [], length, Option, Some, None, refl, sym, ◌∙◌, subst, arith}
use Rattle.std.proofs.lemmas.Bool.{cond_both}
use Rattle.nv_base.specs.Geometry.{IsLegal, pages_of_bank, sectors_of_bank}
use Rattle.nv_base.specs.declared.geometry.Geometry.{Geometry}
use Rattle.fls_model.specs.declared.flash.FlashAnswer.TheVariants.{Failed}
use Rattle.fls_model.specs.Told.{Change}
use Rattle.fee_format.specs.declared.rec_head.RecordKind.{RecordKind}
use Rattle.fee_image.specs.Bank.{page_of}
use Rattle.fee_image.specs.Image.{Layout, layout_of, bank_in, image_page, BankStands, IsLegalLayout}
use Rattle.fee_image.proofs.Banks.{active_stays}
use Rattle.fee_image.proofs.Sectors.{layouts_are_legal}
use Rattle.fee_image.proofs.Frames.{stands_same}
use Rattle.fee_switch_laws.specs.fee_log.Index.{clear_flags}
use Rattle.fee_switch_laws.specs.fee_log.Log.{LogState, bank_of, work_in}
use Rattle.fee_switch_laws.specs.fee_switch.declared.active.ActiveBank.{ActiveBank}
use Rattle.fee_course.specs.declared.course.Course.{Course}
use Rattle.fee_course.specs.declared.course.Course.TheVariants.{Erase, Copy, Head, Gate}
use Rattle.fee_course.specs.Course.{IsShort}
use Rattle.fee_switch_laws.specs.fee_switch.Banks.{BanksState, IsBanksState, IsLogOf, TakesRecord, appended_at}
use Rattle.fee_switch_laws.specs.Shown.{layout_in}
use Rattle.promise_device.specs.Bridge.{is_program, may_be_closed}
use Rattle.promise_device.specs.Wear.{bank_of_op}
use Rattle.promise_device.proofs.Wears.{all_two}
use Rattle.fee_laws.specs.Inside.{body_of}
use Rattle.fee_laws.specs.Follows.{anything, failed_of, may_be_closed_beside, IsPlacedFor, FollowsLog, StandsFirst, FollowsCopies, FollowsTarget, FollowsBanks, FollowsNext}
use Rattle.fee_image.proofs.Frames.{SamePages}
use Rattle.promise_device.proofs.Places.{bank_of_erase}
use Rattle.fee_laws.proofs.FollowOperations.{AreOf, failed_behind, order_behind, failed_last, failed_here, failed_once, failed_on}
use Rattle.fee_laws.proofs.FollowStates.{SameBody, state_moves, closed_stays, places_stay}

-- A LOG THAT IS CLOSED
-- a program of its bank that failed last may have closed it
pub failed_beside : (c : Option Course) (log : LogState) (xs : List Change) (x : Change) → bank_of_op log.geometry log.banks x.op ≡ log.bank → is_program x.op ≡ true → x.answer ≡ Failed → IsTrue (may_be_closed_beside c log (xs ++ x ∷ []))
failed_beside None log xs x of program is = all_two _ _ (failed_last false xs x program is) (failed_here log.geometry log.banks log.bank xs x of program is)
failed_beside (Some c) log xs x of program is = failed_here log.geometry log.banks log.bank xs x of program is

first_of : (a b : Bool) → IsTrue (a && b) → IsTrue a
first_of true b is = refl
first_of false b is = cc is

second_of : (a b : Bool) → IsTrue (a && b) → IsTrue b
second_of true b is = is
second_of false b is = cc is

-- and so may one before a program of its bank
pub failed_still : (c : Option Course) (log : LogState) (xs : List Change) (x : Change) → bank_of_op log.geometry log.banks x.op ≡ log.bank → is_program x.op ≡ true → IsTrue (may_be_closed_beside c log xs) → IsTrue (may_be_closed_beside c log (xs ++ x ∷ []))
failed_still None log xs x of program is =
    all_two _ _ (failed_once false xs x program (first_of (may_be_closed xs) (failed_of log xs) is)) (failed_on log.geometry log.banks log.bank xs x of program (second_of (may_be_closed xs) (failed_of log xs) is))
failed_still (Some c) log xs x of program is = failed_on log.geometry log.banks log.bank xs x of program is

-- and so it may while a switch is open, whatever comes behind it in other banks
once_beside : (c : Option Course) (log : LogState) (xs : List Change) → IsTrue (may_be_closed_beside c log xs) → IsTrue (failed_of log xs)
once_beside None log xs is = second_of (may_be_closed xs) (failed_of log xs) is
once_beside (Some c) log xs is = is

pub closed_while : (c : Option Course) (next : Course) (log : LogState) (xs : List Change) (A : Type 0) → A ⊎ IsTrue (may_be_closed_beside c log xs) → A ⊎ IsTrue (may_be_closed_beside (Some next) log xs)
closed_while c next log xs A (inl is) = inl is
closed_while c next log xs A (inr failed) = inr (once_beside c log xs failed)

pub placed_while : (c : Option Course) (next : Course) (log : LogState) (xs : List Change) (A : Type 0) → IsTrue (may_be_closed_beside c log xs) ⊎ A → IsTrue (may_be_closed_beside (Some next) log xs) ⊎ A
placed_while c next log xs A (inl failed) = inl (once_beside c log xs failed)
placed_while c next log xs A (inr is) = inr is

-- an append that begins leaves it
pub placed_appended : (o : Option ℕ) (c : Option Course) (log : LogState) (xs : List Change) (bytes : List ℕ) → IsPlacedFor c log xs bytes → IsPlacedFor (appended_at o c) log xs bytes
placed_appended None c log xs bytes placed = placed
placed_appended (Some i) None log xs bytes placed = placed
placed_appended (Some i) (Some c) log xs bytes placed = placed

-- THE PAGES OF A LOG'S BANK
module _ (g : Geometry) (banks : ℕ) (log : LogState) (of : IsLogOf g banks log) (old new : List ℕ) where
  page_is : (bytes : List ℕ) (q : ℕ) → page_of (bank_of log) bytes q ≡ image_page (layout_of g banks) bytes log.bank q
  page_is bytes q = λ i. page_of (bank_in (layout_of (of.shape i) (of.shared i)) log.format log.bank) bytes q

  pub same_body : SamePages (layout_of g banks) old new log.bank → SameBody log old new
  same_body same q low inside = page_is new q ∙ same q (subst (λ (n : ℕ). q < n) (λ i. pages_of_bank (of.shape i) (of.shared i)) inside) ∙ sym (page_is old q)

-- THE ACTIVE LOG
-- while a switch is open, whose operations are of another bank
pub log_stays : (c : Option Course) (next : Course) (s : LogState) (body old new : List ℕ) (xs more : List Change) (t : ℕ) → 16 ≤ s.geometry.page → length new ≡ length old → SameBody s old new → (t ≡ s.bank → ⊥) → AreOf s.geometry s.banks t more → FollowsLog c s body xs old
    → FollowsLog (Some next) s body (xs ++ more) new
log_stays c next s body old new xs more t low long same differs of follows = record {
  holds = state_moves s body old new anything low long same follows.holds;
  closed = λ shut. elim (follows.closed shut) [
    | inl is ↦ inl (closed_stays s old new same is)
    | inr failed ↦ inr (subst (λ (b : Bool). IsTrue b) (sym (failed_behind s.geometry s.banks s.bank t differs false xs more of)) (once_beside c s xs failed))
  ];
  placed = elim follows.placed [
    | inl failed ↦ inl (subst (λ (b : Bool). IsTrue b) (sym (failed_behind s.geometry s.banks s.bank t differs false xs more of)) (once_beside c s xs failed))
    | inr is ↦ inr (places_stay s old new same is)
  ];
}

-- SHAPES
pub some_page : (g : Geometry) → IsLegal g → 0 < g.page
some_page g legal = let low = legal.page_low in omega (arith, low)

pub some_sector : (g : Geometry) → IsLegal g → 0 < g.sector
some_sector g legal = let low = legal.page_low in let four = legal.sector_low in omega (arith, low, four)

-- THE BANKS
module _ (s : BanksState) (is : IsBanksState s) (old new : List ℕ) where
  abbrev l : Layout
  l = layout_in s

  pub legal : IsLegalLayout l
  legal = layouts_are_legal s.geometry s.banks is.legal is.shared

  -- their heads and gates are as they were
  abbrev pub SameFronts : ℕ → Type 0
  SameFronts j = (image_page l new j 0 ≡ image_page l old j 0) × (image_page l new j 1 ≡ image_page l old j 1)

  pub fronts_of : (j : ℕ) → SamePages l old new j → SameFronts j
  fronts_of j same = let two = legal.pages in (same 0 (omega (arith, two)), same 1 (omega (arith, two)))

  stands_by : (o : Option ActiveBank) → ((j : ℕ) → (j ≡ s.target → ⊥) → SameFronts j) → IfSome o (λ a. (a.bank ≡ s.target → ⊥) × (s.log.bank ≡ a.bank)) → IfSome o (λ a. BankStands l old a.bank a.head) → IfSome o (λ a. BankStands l new a.bank a.head)
  stands_by None same other stands = tt
  stands_by (Some a) same other stands = let f = same a.bank other.0 in stands_same l old new a.bank a.head f.0 f.1 stands

  pub first_stays : ((j : ℕ) → (j ≡ s.target → ⊥) → SameFronts j) → StandsFirst s old → StandsFirst s new
  first_stays same first = record {
    stands = stands_by s.active same is.active first.stands;
    behind = λ j other inside differs stands. (let f = same j differs in first.behind j other inside differs (stands_same l new old j other (sym f.0) (sym f.1) stands));
  }

  target_page : (bytes : List ℕ) (q : ℕ) → page_of (bank_of s.copies) bytes q ≡ image_page l bytes s.target q
  target_page bytes q = λ i. page_of (bank_in (layout_of (is.copies.shape i) (is.copies.shared i)) s.copies.format (is.target_log i)) bytes q

  pub copies_stay : length new ≡ length old → ((q : ℕ) → 2 ≤ q → q < l.pages → image_page l new s.target q ≡ image_page l old s.target q) → FollowsCopies s old → FollowsCopies s new
  copies_stay long same copies =
      let low = subst (λ (g : Geometry). 16 ≤ g.page) (sym is.copies.shape) is.legal.page_low in
      let body : SameBody s.copies old new = λ q two inside. target_page new q ∙ same q two (subst (λ (n : ℕ). q < n) (λ i. pages_of_bank (is.copies.shape i) (is.copies.shared i)) inside) ∙ sym (target_page old q) in
      record {
        holds = state_moves s.copies (body_of (work_in s.copies.tail) s.buffer) old new anything low long body copies.holds;
        placed = places_stay s.copies old new body copies.placed;
      }

  -- all pages of the target are
  pub target_stays : (c : Course) → length new ≡ length old → SamePages l old new s.target → FollowsTarget s c old → FollowsTarget s c new
  target_stays (Erase done) long same (blank, clear) = (λ q below inside. same q inside ∙ blank q below inside, clear)
  target_stays (Copy work) long same (blank, copies) = (λ q below inside. same q inside ∙ blank q below inside, copies_stay long (λ q two inside. same q inside) copies)
  target_stays Head long same (blank, copies) = (λ q below inside. same q inside ∙ blank q below inside, copies_stay long (λ q two inside. same q inside) copies)
  target_stays (Gate failed) long same (head, copies) = (same 0 (let two = legal.pages in omega (arith, two)) ∙ head, copies_stay long (λ q two inside. same q inside) copies)

  pub banks_stay : (c : Option Course) → length new ≡ length old → ((j : ℕ) → SameFronts j) → SamePages l old new s.target → FollowsBanks s c old → FollowsBanks s c new
  banks_stay None long fronts same shown = shown ∙ sym (active_stays l old new (λ j inside. fronts j))
  banks_stay (Some c) long fronts same (first, target) = (first_stays (λ j other. fronts j) first, target_stays c long same target)

  -- THE NEXT OPERATION
  -- operations of another bank leave it, where the switch takes a record beside them
  pub next_stays : (c : Course) (kind : RecordKind) (xs more : List Change) (t : ℕ) → TakesRecord kind (Some c) → IsShort (sectors_of_bank s.geometry s.banks) c → (t ≡ s.target → ⊥) → AreOf s.geometry s.banks t more → FollowsNext s c xs old → FollowsNext s c (xs ++ more) new
  next_stays (Erase zero) kind xs more t takes short differs of next = tt
  next_stays (Erase (suc n)) kind xs more t takes short differs of next =
      order_behind s.geometry s.banks t s.target (suc n) xs more (λ e. differs (e ∙ bank_of_erase s.geometry s.banks s.target (suc n) (some_sector s.geometry is.legal) short)) of next
  next_stays (Copy work) kind xs more t takes short differs of next = tt
  next_stays Head kind xs more t takes short differs of next = tt
  next_stays (Gate false) kind xs more t takes short differs of next = absurd takes
  next_stays (Gate true) kind xs more t takes short differs of next = absurd takes

-- WHAT THEY DON'T READ
-- the target's log reads no other log, and no course
pub with_copies : (s : BanksState) (log : LogState) (after : Option Course) (bytes : List ℕ) → FollowsCopies s bytes → FollowsCopies (record s { log = log; course = after }) bytes
with_copies s log after bytes copies = record { holds = copies.holds; placed = copies.placed }

-- another log of the active bank, which sets no flag, and another course, leave them
pub with_log : (s : BanksState) (log : LogState) (after c : Option Course) (bytes : List ℕ) → (s.log.flags ≡ clear_flags s.log.numbers → log.flags ≡ clear_flags log.numbers)
    → FollowsBanks s c bytes → FollowsBanks (record s { log = log; course = after }) c bytes
with_log s log after None bytes clears shown = shown
with_log s log after (Some (Erase done)) bytes clears (first, target) = (record { stands = first.stands; behind = first.behind }, (target.0, clears target.1))
with_log s log after (Some (Copy work)) bytes clears (first, target) = (record { stands = first.stands; behind = first.behind }, (target.0, with_copies s log after bytes target.1))
with_log s log after (Some Head) bytes clears (first, target) = (record { stands = first.stands; behind = first.behind }, (target.0, with_copies s log after bytes target.1))
with_log s log after (Some (Gate failed)) bytes clears (first, target) = (record { stands = first.stands; behind = first.behind }, (target.0, with_copies s log after bytes target.1))

pub next_with_log : (s : BanksState) (log : LogState) (after c : Option Course) (xs : List Change) (bytes : List ℕ) → IfSome c (λ x. FollowsNext s x xs bytes) → IfSome c (λ x. FollowsNext (record s { log = log; course = after }) x xs bytes)
next_with_log s log after None xs bytes next = next
next_with_log s log after (Some (Erase zero)) xs bytes next = next
next_with_log s log after (Some (Erase (suc done))) xs bytes next = next
next_with_log s log after (Some (Copy work)) xs bytes next = next
next_with_log s log after (Some Head) xs bytes next = next
next_with_log s log after (Some (Gate false)) xs bytes next = next
next_with_log s log after (Some (Gate true)) xs bytes next = next

-- and so does an append to a number
pub next_appended : (s : BanksState) (o : Option ℕ) (c : Option Course) (xs : List Change) (bytes : List ℕ) → IfSome c (λ x. FollowsNext s x xs bytes) → IfSome (appended_at o c) (λ x. FollowsNext s x xs bytes)
next_appended s None None xs bytes next = next
next_appended s None (Some c) xs bytes next = next
next_appended s (Some i) None xs bytes next = next
next_appended s (Some i) (Some (Erase done)) xs bytes next = next
next_appended s (Some i) (Some (Copy None)) xs bytes next = next
next_appended s (Some i) (Some (Copy (Some w))) xs bytes next =
    cond_both _ (Copy (Some (record w { sets = false }))) (Copy (Some w)) (λ (c : Course). FollowsNext s c xs bytes) (λ e. tt) (λ e. tt)
next_appended s (Some i) (Some Head) xs bytes next = next
next_appended s (Some i) (Some (Gate failed)) xs bytes next = next

pub appended : (s : BanksState) (o : Option ℕ) (c : Option Course) (bytes : List ℕ) → FollowsBanks s c bytes → FollowsBanks s (appended_at o c) bytes
appended s None None bytes holds = holds
appended s None (Some c) bytes holds = holds
appended s (Some i) None bytes holds = holds
appended s (Some i) (Some (Erase done)) bytes holds = holds
appended s (Some i) (Some (Copy None)) bytes holds = holds
appended s (Some i) (Some (Copy (Some w))) bytes holds =
    cond_both _ (Copy (Some (record w { sets = false }))) (Copy (Some w)) (λ (c : Course). FollowsBanks s (Some c) bytes) (λ e. holds) (λ e. holds)
appended s (Some i) (Some Head) bytes holds = holds
appended s (Some i) (Some (Gate failed)) bytes holds = holds
