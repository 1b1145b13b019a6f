-- The steps of the player: a power cut that is planned, a store, copies that are to be refused.
use Rattle.script_player.proofs.Common.{◌==◌, ◌&&◌, min, unwrap_or, option_map, map, nat_le, slice_set, if◌then◌else◌, ◌≡◌, ◌≢◌, get_or-set_other, ◌≤◌, ◌+◌, ◌⊎◌, ℕ, zero, suc, Bool, true, false, List, [], ◌∷◌, length, get_or, Option, Some, None, refl, sym, ap, ◌∙◌, subst, inl, inr, arith, eqb_tells, leb_tells, map-set, last_count, ops_behind, Planning, DeviceTold, armed, ops_of, faults_of, is_off, PlainBlock, next_number, Told, Synchronized, IsSynchronized, to_refuse_by, told_of, store_of, stored, refusing, no_plain, DeskState, HandState, PowersOff, Cut, Refuse, DueCut, plan_after, asked_by, IsNoEarlier, IsComing, PlansCuts, Arms, Stores, Refuses, plan_from, plan_in, takes_in, ops_in, to_refuse_in, shown, planned, stack_work, causes_in, IsErrOf, ◌↔◌, Result, Ok, AskFault, Reply, IsTrue}
use Rattle.uds_gateway.specs.nv_desk.declared.ask.AskFault.TheVariants as fault
use Rattle.uds_gateway.specs.nv_desk.Desk.{state_of}
use Rattle.script_player.proofs.Coming.{pending_same}
use Rattle.script_player.proofs.PlainPlans.{ops_told}
use Rattle.script_player.proofs.PlainCopies.{store_here, stored_told, stored_stores, refusing_stores}

-- A REQUEST
-- a request that was answered had room
pub had_room : (r : Result Reply AskFault) (reply : Reply) (room : Bool) → r ≡ Ok reply → IsErrOf r fault.NoRoom ↔ room ≡ false → IsTrue room
had_room r reply true is exactly = refl
had_room r reply false is exactly = let none : IsErrOf r fault.NoRoom = exactly.1 refl in absurd (cc (none, is))

-- A POWER CUT

planned_keeps : (nth keep : ℕ) (p : Planning) → ((planned nth keep p).unplanned ≡ p.unplanned) × ((planned nth keep p).came ≡ p.came) × (p.takes ≤ (planned nth keep p).takes + 1)
planned_keeps nth keep p = by (nat_le 1 p.takes && nat_le 1 nth) refl
  where
    by : (t : Bool) → (nat_le 1 p.takes && nat_le 1 nth) ≡ t → ((planned nth keep p).unplanned ≡ p.unplanned) × ((planned nth keep p).came ≡ p.came) × (p.takes ≤ (planned nth keep p).takes + 1)
    by true is = rw is (refl, refl, omega arith)
    by false is = rw is (refl, refl, omega arith)

takes_first : (n : ℕ) → 1 ≤ n → nat_le 1 n ≡ true
takes_first n some = elim (leb_tells 1 n) [ inl has ↦ has.0 | inr few ↦ absurd (let less = few.1 in omega (arith, less, some)) ]

is_some_nth : (n : ℕ) → nat_le 1 (suc n) ≡ true
is_some_nth n = elim (leb_tells 1 (suc n)) [ inl has ↦ has.0 | inr none ↦ absurd (let less = none.1 in omega (arith, less)) ]

-- its 0th operation changes nothing
planned_none : (keep : ℕ) (p : Planning) → planned 0 keep p ≡ p
planned_none keep p = by (nat_le 1 p.takes) refl
  where
    by : (t : Bool) → nat_le 1 p.takes ≡ t → planned 0 keep p ≡ p
    by true is = rw is refl
    by false is = rw is refl

-- it comes with the nth operation
arms_cuts : (nth keep : ℕ) (desk : DeskState) (hand : Option HandState) (copies : List PlainBlock) (ready : Bool) (d : DeviceTold)
    → PowersOff desk d → 1 ≤ takes_in d → PlansCuts (Cut nth keep) [] (shown desk hand copies ready d) (shown desk hand copies ready (armed 0 nth keep d))
arms_cuts zero keep desk hand copies ready d power takes alone plan pending = (
  tt,
  pending_same plan (shown desk hand copies ready d) (shown desk hand copies ready (armed 0 0 keep d))
      (ap (λ (p : Planning). plan_from (is_off d) (ops_in d) p.plan) (planned_none keep d.first.planning)) refl refl (λ off. off) pending,
)
arms_cuts (suc n) keep desk hand copies ready d power takes alone plan pending = (tt, by (is_off d) refl)
  where
    by : (off : Bool) → is_off d ≡ off → IsComing (record { due = ops_in d + suc n; since = faults_of d }) (shown desk hand copies ready (armed 0 (suc n) keep d))
    by true is = inr (inl (power is))
    by false is = inl (record {
      cut = record { due = ops_in d + suc n; keep = keep };
      is = rw (is, takes_first d.first.planning.takes takes, is_some_nth n) refl;
      later = omega arith;
      soon = omega arith;
    })

-- it comes no earlier than at the nth operation, and lets so much be done
planned_later : (n ops nth keep : ℕ) (off : Bool) (p : Planning) (plan : Option DueCut) → n ≤ ops → 1 ≤ p.takes → IsNoEarlier plan (plan_from off ops p.plan)
    → IsNoEarlier (plan_after (Cut nth keep) plan n) (plan_from off ops (planned nth keep p).plan)
planned_later n ops zero keep off p plan less one stays = subst (λ (q : Planning). IsNoEarlier plan (plan_from off ops q.plan)) (sym (planned_none keep p)) stays
planned_later n ops (suc nth) keep true p plan less one stays = tt
planned_later n ops (suc nth) keep false p plan less one stays = rw (takes_first p.takes one, is_some_nth nth) (inl (omega (arith, less)), refl)

armed_work : (nth keep : ℕ) (desk : DeskState) (hand : Option HandState) (d : DeviceTold) → stack_work desk hand (armed 0 nth keep d) ≡ stack_work desk hand d
armed_work nth keep desk None d = refl
armed_work nth keep desk (Some h) d = refl

pub arms : (nth keep : ℕ) (desk : DeskState) (hand : Option HandState) (copies : List PlainBlock) (ready : Bool) (d : DeviceTold)
    → (state_of desk).ops ≤ ops_of d → PowersOff desk d → Arms nth keep (shown desk hand copies ready d) (shown desk hand copies ready (armed 0 nth keep d))
arms nth keep desk hand copies ready d later power = record {
  only = ap (λ (n : ℕ). record (shown desk hand copies ready (armed 0 nth keep d)) { work = n }) (armed_work nth keep desk hand d)
      ∙ ap (λ (n : ℕ). record (shown desk hand copies ready d) {
        causes = record (causes_in copies d) {
          unplanned = n + (d.second.planning.unplanned + length d.second.planning.came);
          came = (planned nth keep d.first.planning).came;
          takes = takes_in (armed 0 nth keep d);
          plan = plan_in (armed 0 nth keep d);
        };
      }) (planned_keeps nth keep d.first.planning).0
      ∙ ap (λ (ks : List ℕ). record (shown desk hand copies ready d) {
        causes = record (causes_in copies d) {
          came = ks;
          takes = takes_in (armed 0 nth keep d);
          plan = plan_in (armed 0 nth keep d);
        };
      }) (planned_keeps nth keep d.first.planning).1;
  takes = (planned_keeps nth keep d.first.planning).2;
  planned = λ one plan stays. planned_later (ops_behind 0 desk.entries) (ops_in d) nth keep (is_off d) d.first.planning plan
      (let told = ops_told desk.config desk.entries in omega (arith, told, later)) one stays;
  comes = λ takes. arms_cuts nth keep desk hand copies ready d power takes;
}

-- A STORE

pub stores : (block number : ℕ) (content : List ℕ) (desk : DeskState) (hand : Option HandState) (copies : List PlainBlock) (ready : Bool) (d : DeviceTold)
    → IsSynchronized (map told_of copies) block (length content) → number ≡ next_number (get_or copies block no_plain).number
    → Stores block content number (shown desk hand copies ready d) (shown desk hand (slice_set copies block (stored content (get_or copies block no_plain))) ready d)
stores block number content desk hand copies ready d synchronized is =
    let after = slice_set copies block (stored content (get_or copies block no_plain)) in record {
      numbered = is ∙ ap (λ (x : ℕ × List ℕ). next_number x.0) (sym (store_here copies block));
      stored = ap (λ (xs : List (ℕ × List ℕ)). record (shown desk hand after ready d) { stores = xs }) (stored_stores copies block number content is)
          ∙ ap (λ (told : List Told). record (shown desk hand copies ready d) { stores = slice_set (map store_of copies) block (number, content); causes = record (causes_in copies d) { to_refuse = to_refuse_in told } })
          (stored_told copies block content synchronized);
    }

-- COPIES THAT ARE TO BE REFUSED

-- of one among others, which is synchronized
refusing_left : (b : PlainBlock) (n count : ℕ) → option_map (λ (x : Synchronized). x.bytes) (told_of b) ≡ Some n
    → unwrap_or (to_refuse_by (told_of (refusing count b))) 0 ≡ min (unwrap_or (to_refuse_by (told_of b)) 0 + count) last_count
refusing_left b n count is = by (length b.content == 0) refl is
  where
    by : (t : Bool) → (length b.content == 0) ≡ t
        → option_map (λ (x : Synchronized). x.bytes) (if t then None else Some (record { bytes = length b.content; refusals = b.refusals; to_refuse = Some b.to_refuse; handed = b.handed; last = b.last })) ≡ Some n
        → unwrap_or (to_refuse_by (told_of (refusing count b))) 0 ≡ min (unwrap_or (to_refuse_by (told_of b)) 0 + count) last_count
    by true empty none = cc none
    by false full some = rw full refl

more_left : (bs : List PlainBlock) (k n count : ℕ) → IsSynchronized (map told_of bs) k n
    → to_refuse_in (map told_of (slice_set bs k (refusing count (get_or bs k no_plain)))) k ≡ min (to_refuse_in (map told_of bs) k + count) last_count
more_left [] k n count is = cc is
more_left (x ∷ xs) zero n count is = refusing_left x n count is
more_left (x ∷ xs) (suc k) n count is = more_left xs k n count is

same_left : (bs : List PlainBlock) (k id : ℕ) (b : PlainBlock) → id ≢ k → to_refuse_in (map told_of (slice_set bs k b)) id ≡ to_refuse_in (map told_of bs) id
same_left bs k id b other =
    ap (λ (ts : List Told). to_refuse_in ts id) (map-set told_of bs k b)
    ∙ ap (λ (t : Told). unwrap_or (to_refuse_by t) 0) (get_or-set_other (map told_of bs) k id (told_of b) None other)

more_at : (bs : List PlainBlock) (k id n count : ℕ) → IsSynchronized (map told_of bs) k n
    → to_refuse_in (map told_of (slice_set bs k (refusing count (get_or bs k no_plain)))) id ≡ asked_by id (Refuse k count) (to_refuse_in (map told_of bs) id)
more_at bs k id n count is = by (eqb_tells k id)
  where
    after : List Told
    after = map told_of (slice_set bs k (refusing count (get_or bs k no_plain)))

    by : (((k == id) ≡ true) × (k ≡ id)) ⊎ (((k == id) ≡ false) × (k ≢ id)) → to_refuse_in after id ≡ (if k == id then min (to_refuse_in (map told_of bs) id + count) last_count else to_refuse_in (map told_of bs) id)
    by (inl own) = rw own.0 (subst (λ (i : ℕ). to_refuse_in after i ≡ min (to_refuse_in (map told_of bs) i + count) last_count) own.1 (more_left bs k n count is))
    by (inr other) = rw other.0 (same_left bs k id (refusing count (get_or bs k no_plain)) (λ same. other.1 (sym same)))

pub refuses : (block n count : ℕ) (desk : DeskState) (hand : Option HandState) (copies : List PlainBlock) (ready : Bool) (d : DeviceTold) → IsSynchronized (map told_of copies) block n
    → Refuses block count (shown desk hand copies ready d) (shown desk hand (slice_set copies block (refusing count (get_or copies block no_plain))) ready d)
refuses block n count desk hand copies ready d synchronized =
    let after = slice_set copies block (refusing count (get_or copies block no_plain)) in record {
      only = ap (λ (xs : List (ℕ × List ℕ)). record (shown desk hand after ready d) { stores = xs }) (refusing_stores copies block count);
      more = λ id. more_at copies block id n count synchronized;
    }
