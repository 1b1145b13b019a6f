-- A record begins.
use Rattle.std.proofs.Common.{◌≡◌, ◌≤◌, ◌+◌, ◌-◌, ℕ, Bool, true, false, Option, Some, None, refl, arith}
use Rattle.std.proofs.lemmas.Bool.{leb-true}
use Rattle.fee_format.specs.declared.rec_head.RecHead.{RecHead}
use Rattle.fee_image.specs.RecordList.{pages_of_head}
use Rattle.fee_switch_laws.specs.fee_log.declared.tail.Tail.{Tail}
use Rattle.fee_switch_laws.specs.fee_log.declared.tail.Tail.TheVariants.{Open, Writes, Owes, Closed}
use Rattle.fee_switch_laws.specs.fee_log.Log.{work_in, free_behind, tail_begun}
use Rattle.fee_switch_laws.specs.fee_switch.Banks.{appended_at}
use Rattle.fee_switch_laws.specs.Space.{has_room}
use Rattle.fee_laws.specs.Work.{is_owed, pages_left}

-- MEMORY
pub no_course : (o : Option ℕ) → appended_at o None ≡ None
no_course None = refl
no_course (Some i) = refl

-- a tail behind which a record may begin, with free pages
pub data Ready : Tail → Type 0 where
  opens : Ready Open
  owes : (owed : RecHead) → Ready (Owes owed None)

pub ready_by : (p pages end : ℕ) (t : Tail) → work_in t ≡ None → 1 ≤ free_behind p pages end t → Ready t
ready_by p pages end Open idle free = opens
ready_by p pages end (Writes h done) idle free = absurd (cc idle)
ready_by p pages end (Owes owed None) idle free = owes owed
ready_by p pages end (Owes owed (Some h)) idle free = absurd (cc idle)
ready_by p pages end Closed idle free = absurd (omega (arith, free))

-- what holds of an open tail, and of one that owes a gate alone
pub by_ready : (P : Tail → Type 0) → P Open → ((owed : RecHead) → P (Owes owed None)) → (t : Tail) → Ready t → P t
by_ready P at_open at_owes Open opens = at_open
by_ready P at_open at_owes (Owes owed None) (owes _) = at_owes owed
by_ready P at_open at_owes (Writes _ _) x = elim x [ ]
by_ready P at_open at_owes (Owes _ (Some _)) x = elim x [ ]
by_ready P at_open at_owes Closed x = elim x [ ]

-- it takes its own pages of the free ones
pub free_less : (p pages end : ℕ) (t : Tail) (h : RecHead) → Ready t → free_behind p pages end (tail_begun t h) ≡ free_behind p pages end t - pages_of_head p h
free_less p pages end t h ready =
    by_ready (λ (x : Tail). free_behind p pages end (tail_begun x h) ≡ free_behind p pages end x - pages_of_head p h)
    (let goal : pages - (end + pages_of_head p h) ≡ pages - (end + 0) - pages_of_head p h = omega arith in goal)
    (λ owed. (let goal : pages - (end + (pages_of_head p owed + pages_of_head p h)) ≡ pages - (end + (pages_of_head p owed + 0)) - pages_of_head p h = omega arith in goal)) t ready

pub begun_work : (t : Tail) (h : RecHead) → Ready t → work_in (tail_begun t h) ≡ Some h
begun_work t h ready = by_ready (λ (x : Tail). work_in (tail_begun x h) ≡ Some h) refl (λ owed. refl) t ready

pub begun_owed : (t : Tail) (h : RecHead) → Ready t → is_owed (tail_begun t h) ≡ is_owed t
begun_owed t h ready = by_ready (λ (x : Tail). is_owed (tail_begun x h) ≡ is_owed x) refl (λ owed. refl) t ready

pub begun_pages : (p wanted : ℕ) (t : Tail) (h : RecHead) → pages_of_head p h ≡ wanted → Ready t → pages_left p wanted (tail_begun t h) ≡ wanted
begun_pages p wanted t h same ready = by_ready (λ (x : Tail). pages_left p wanted (tail_begun x h) ≡ wanted) (let goal : pages_of_head p h - 0 ≡ wanted = omega (arith, same) in goal) (λ owed. refl) t ready

-- ROOM
pub room_is : (u : Bool) (pages reserve free : ℕ) → has_room u pages reserve free ≡ true → pages ≤ free
room_is true pages reserve free room = omega (arith, leb-true pages free room)
room_is false pages reserve free room = omega (arith, leb-true (pages + reserve) free room)

pub ready_pages : (p wanted : ℕ) (t : Tail) → Ready t → pages_left p wanted t ≡ wanted
ready_pages p wanted t ready = by_ready (λ (x : Tail). pages_left p wanted x ≡ wanted) refl (λ owed. refl) t ready
