-- What a pair tells of free pages is what its first device tells of them.
use Rattle.std.specs.Prelude.{min, is_some, ◌&&◌}
use Rattle.std.proofs.Common.{◌≡◌, ℕ, ◌≤◌, Bool, true, false, if◌then◌else◌, List, length, refl, sym, ap, ◌∙◌, subst, arith}
use Rattle.nv_base.specs.Count.{last_count}
use Rattle.memif.specs.Told.{DeviceTold, Figures, Part, First, Stand, Open, Ended, figures_at, is_open}
use Rattle.memif.specs.Clock.{Clock}
use Rattle.memif.specs.Calls.{FreesReady, InOrder, RoomIsLeft, is_first, job_first, pages_open, pages_urgent, urgent_first}
use Rattle.memif_pair.specs.Pair.{told_both, fixed_both, stand_both}
use Rattle.memif_pair.specs.PairClock.{own, IsCourse, SpareBoth}
use Rattle.memif_pair.specs.Laws.{pair_clock}
use Rattle.memif_pair.specs.Together.{AreTogether, IsOwnJob}
use Rattle.memif_pair.proofs.Asked.{both_up}
use Rattle.memif_pair.proofs.Orders.{figures_first, most_closed, IsFirstJob}
use Rattle.memif_pair.proofs.Together.{closed_first, closed_second, figures_second, urgent_closed}

-- now both are at the end of the course
spare_now : (a : DeviceTold) (ca : Clock) (b : DeviceTold) (course : List Bool) (s : ℕ) → IsCourse a b course → SpareBoth course ca (min (length course) last_count) s → ca.spare a.ops s
spare_now a ca b course s is out =
    let end : min (length course) last_count ≡ length course = (let small = out.small in omega (arith, small)) in
    subst (λ (n : ℕ). ca.spare n s) (ap (own false course) end ∙ is.first) out.spare

-- THE OPEN JOB
pages_first : (a b : DeviceTold) (stand : Stand) → IsFirstJob b stand → pages_open (fixed_both a.fixed b.fixed) stand ≡ pages_open a.fixed stand
pages_first a b (Open j) of = ap (λ (x : Figures). if is_some j.mark then x.pages else 0) (figures_first a.fixed b.fixed j.number of)
pages_first a b (Ended result given) of = refl

urgent_same : (a b : DeviceTold) (stand : Stand) → ((n : ℕ) → (figures_at a.fixed n).part ≡ First) → IsFirstJob b stand → urgent_first (fixed_both a.fixed b.fixed) stand ≡ urgent_first a.fixed stand
urgent_same a b (Open j) part of =
    ap (λ (p : Part). j.urgent && is_first p) (ap (λ (x : Figures). x.part) (figures_first a.fixed b.fixed j.number of) ∙ sym (part j.number))
urgent_same a b (Ended result given) part of = refl

-- a job of the first device is of the first part, and one of the second isn't
first_is : (f g : DeviceTold) (stand : Stand) → ((n : ℕ) → (figures_at f.fixed n).part ≡ First) → job_first g.fixed stand ≡ true → job_first f.fixed stand ≡ true
first_is f g (Open j) part first = ap is_first (part j.number)
first_is f g (Ended result given) part first = first

second_not : (a b : DeviceTold) (stand : Stand) → IsOwnJob true b stand → job_first (fixed_both a.fixed b.fixed) stand ≡ true → ⊥
second_not a b (Open j) of first = (let wrong : false ≡ true = sym (ap (λ (x : Figures). is_first x.part) (figures_second a.fixed b.fixed j.number of)) ∙ first in cc wrong)
second_not a b (Ended result given) of first = cc first

-- WHAT IS FREE IS READY
pub frees_both : (a : DeviceTold) (ca : Clock) (b : DeviceTold) (cb : Clock) (last : Bool) (course : List Bool) → AreTogether a b last course → FreesReady a ca → FreesReady (told_both a b last course) (pair_clock ca b cb course)
frees_both a ca b cb last course t frees started on s out =
    let has = frees (both_up a.started b.started started).0 on s (spare_now a ca b course s t.counted out) in
    let more = urgent_more last t.one.first in omega (arith, has, more)
  where
    urgent_more : (x : Bool) → (is_open a.stand ≡ true → x ≡ false) → pages_urgent a.fixed a.stand ≤ pages_urgent (fixed_both a.fixed b.fixed) (stand_both x a.stand b.stand)
    urgent_more false alone =
        let pages = pages_first a b a.stand t.first_job in
        let urgent = urgent_same a b a.stand t.part t.first_job in
        let same : pages_urgent (fixed_both a.fixed b.fixed) a.stand ≡ pages_urgent a.fixed a.stand = λ i. if urgent i then pages i else 0 in omega (arith, same)
    urgent_more true alone =
        let none : pages_urgent a.fixed a.stand ≡ 0 = ap (λ (u : Bool). if u then pages_open a.fixed a.stand else 0) (urgent_closed a.fixed a.stand (closed_first (is_open a.stand) alone)) in omega (arith, none)

-- and a job of the first device has room where that one has it: the other device has no work open
pub room_both : (a : DeviceTold) (ca : Clock) (b : DeviceTold) (cb : Clock) (last : Bool) (course : List Bool) → AreTogether a b last course → RoomIsLeft a ca → InOrder b cb → RoomIsLeft (told_both a b last course) (pair_clock ca b cb course)
room_both a ca b cb false course t room order started on shut first other s out needed =
    let pages = pages_first a b a.stand t.first_job in
    let few = room (both_up a.started b.started started).0 on shut (first_is a (told_both a b false course) a.stand t.part first) other s (spare_now a ca b course s t.counted out) (omega (arith, needed, pages)) in
    let none = most_closed b.fixed b.stand (closed_second (is_open b.stand) t.one.second) in
    let bounded = order.bounded in
    let own = t.own in omega (arith, few, pages, none, bounded, own)
room_both a ca b cb true course t room order started on shut first other s out needed = absurd (second_not a b b.stand t.second_job first)
