-- A turn of the first device with no job open.
use Rattle.std.specs.Prelude.{not, ◌&&◌}
use Rattle.std.proofs.Common.{◌≡◌, ◌⊎◌, ◌≤◌, Bool, true, false, List, refl, sym, ap, ◌∙◌, subst, inl, inr, arith}
use Rattle.memif.specs.declared.answer.DeviceTurn.{DeviceTurn}
use Rattle.memif.specs.declared.answer.DeviceTurn.TheVariants.{Idle, Worked, Off}
use Rattle.memif.specs.Told.{DeviceTold, Fixed, Part, First, Second, Stand, Open, Ended, is_open, is_urgent, nothing_open, IfElse}
use Rattle.memif.specs.Marks.{KeepsAll}
use Rattle.memif.specs.Clock.{Clock, SameClock, Ticks}
use Rattle.memif.specs.Calls.{InOrder, IsOf, IsOff, IsCut, IsSealing, Turns, TurnsAs, Works, JobTurns, is_read, urgent_first, TurnsReady, Nearer}
use Rattle.memif_pair.specs.Pair.{told_both, fixed_both, is_second, ArePair, stand_both}
use Rattle.memif_pair.specs.PairClock.{IsCourse}
use Rattle.memif_pair.specs.Laws.{Goes, OwnTurns, pair_clock}
use Rattle.memif_pair.proofs.Seals.{seals_first}
use Rattle.memif_pair.proofs.Ticking.{first_ticks}
use Rattle.memif_pair.proofs.Clocks.{same_both, same_self}
use Rattle.memif_pair.proofs.Turning.{keeps_both, part_both, pair_new, course_new}
use Rattle.memif_pair.proofs.Together.{order_rest, urgent_closed}

-- NO JOB
-- what an open job would say, of a stand that has none
never_read : (s : Stand) → is_open s ≡ false → is_read s ≡ false
never_read (Open j) closed = cc closed
never_read (Ended r given) closed = refl

never_urgent : (s : Stand) → is_open s ≡ false → is_urgent s ≡ true → ⊥
never_urgent (Open j) closed urgent = cc closed
never_urgent (Ended r given) closed urgent = cc urgent

of_first : (f : Fixed) (p : Part) (s : Stand) → is_open s ≡ false → IsOf p f s → p ≡ First
of_first f p (Open j) closed of = cc closed
of_first f p (Ended r given) closed of = of

is_first_of : (f : Fixed) (s : Stand) → is_open s ≡ false → IsOf First f s
is_first_of f (Open j) closed = cc closed
is_first_of f (Ended r given) closed = refl

stays : (p : Part) (s u : Stand) (a anew : DeviceTold) (c : Clock) → is_open s ≡ false → JobTurns p s u a anew c → (u ≡ s) × KeepsAll a anew
stays p (Open j) u a anew c closed turns = cc closed
stays p (Ended r given) u a anew c closed turns = turns

job_rests : (p : Part) (s u : Stand) (old new : DeviceTold) (c : Clock) → is_open s ≡ false → u ≡ s → KeepsAll old new → JobTurns p s u old new c
job_rests p (Open j) u old new c closed same keeps = cc closed
job_rests p (Ended r given) u old new c closed same keeps = (same, keeps)

pub own_only : (o p : Bool) → o ≡ false → (not o && not p) ≡ not p
own_only true p is = cc is
own_only false p is = refl

pub closed_both : (last : Bool) (s u : Stand) → is_open s ≡ false → is_open u ≡ false → is_open (stand_both last s u) ≡ false
closed_both true s u one two = two
closed_both false s u one two = one

module _ (a : DeviceTold) (ca : Clock) (anew : DeviceTold) (ca_new : Clock) (b : DeviceTold) (cb : Clock) (course next : List Bool) (last : Bool)
    (pair : ArePair a b) (is : IsCourse a b course) (goes : Goes false a.ops anew.ops course next)
    (closed : is_open a.stand ≡ false) (other : is_open b.stand ≡ false) (up : nothing_open a ≡ false → b.started ≡ true) where
  abbrev old : DeviceTold
  old = told_both a b last course

  abbrev new : DeviceTold
  new = told_both anew b last next

  no_job : is_open old.stand ≡ false
  no_job = closed_both last a.stand b.stand closed other

  nothing_same : nothing_open old ≡ nothing_open a
  nothing_same = own_only (is_open old.stand) a.switching no_job ∙ sym (own_only (is_open a.stand) a.switching closed)

  stand_same : anew.stand ≡ a.stand → new.stand ≡ old.stand
  stand_same same = λ i. stand_both last (same i) b.stand

  not_urgent : urgent_first old.fixed old.stand ≡ false
  not_urgent = urgent_closed old.fixed old.stand no_job

  module _ (some : nothing_open a ≡ false) (works : Works First a anew ca_new) where
    own : (anew.stand ≡ a.stand) × KeepsAll a anew
    own = stays First a.stand anew.stand a anew ca_new closed works.job

    fixed : anew.fixed ≡ a.fixed
    fixed = ap (λ (d : DeviceTold). d.fixed) works.only

    ready_rests : TurnsReady old new
    ready_rests calm =
        let here : IfElse (urgent_first a.fixed a.stand) (Nearer a anew) (a.ready ≤ anew.ready) = works.ready (record { faults = calm.faults; off = calm.off }) in
        subst (λ (u : Bool). IfElse u (Nearer old new) (a.ready ≤ anew.ready)) (sym not_urgent)
        (subst (λ (u : Bool). IfElse u (Nearer a anew) (a.ready ≤ anew.ready)) (urgent_closed a.fixed a.stand closed) here)

    -- where it was at its seal, it is so in both
    sealing_was : IsSealing old → IsSealing a
    sealing_was was = record { switching = was.switching; ready = λ calm. was.ready not_urgent }

    sealing_now : IsSealing anew → IsSealing new
    sealing_now now = record { switching = now.switching; ready = λ calm. now.ready (urgent_closed anew.fixed anew.stand (ap is_open own.0 ∙ closed)) }

    works_rest : Works First old new (pair_clock ca_new b cb next)
    works_rest = record {
      only = λ i. record new { fixed = fixed_both (fixed i) b.fixed; started = (ap (λ (d : DeviceTold). d.started) works.only) i && b.started; tells = (ap (λ (d : DeviceTold). d.tells) works.only) i && b.tells; starts = (ap (λ (d : DeviceTold). d.starts) works.only) i };
      up = λ i. works.up i && up some i;
      of = is_first_of old.fixed old.stand no_job;
      part = part_both a ca anew ca_new b cb course next pair is goes fixed false works.part;
      job = job_rests First old.stand new.stand old new (pair_clock ca_new b cb next) no_job (stand_same own.0) (keeps_both a ca anew ca_new b cb course next pair is goes fixed own.1);
      read = λ read. absurd (let wrong : true ≡ false = sym read ∙ never_read old.stand no_job in cc wrong);
      nearer = elim works.nearer [ inl less ↦ inl (omega (arith, less)) | inr rose ↦ inr rose ];
      ready = ready_rests;
      seals = λ k ops small was either. sealing_now (seals_first a anew ca_new b course next is goes (course_new a ca anew ca_new b cb course next pair is goes fixed) works.seals k ops small was (elim either [ inl le ↦ inl le | inr sealing ↦ inr (sealing_was sealing) ]));
    }

  cut_rest : IsCut First a anew → IsCut First old new
  cut_rest cut =
      let fixed : anew.fixed ≡ a.fixed = ap (λ (d : DeviceTold). d.fixed) cut.only in
      record {
        only = λ i. record new { fixed = fixed_both (fixed i) b.fixed; started = (ap (λ (d : DeviceTold). d.started) cut.only) i && b.started; tells = (ap (λ (d : DeviceTold). d.tells) cut.only) i && b.tells; starts = (ap (λ (d : DeviceTold). d.starts) cut.only) i; stand = stand_same (ap (λ (d : DeviceTold). d.stand) cut.only) i };
        of = is_first_of old.fixed old.stand no_job;
        part = part_both a ca anew ca_new b cb course next pair is goes fixed true cut.part;
        no_read = never_read old.stand no_job;
        marks = keeps_both a ca anew ca_new b cb course next pair is goes fixed cut.marks;
      }

  still_rest : anew ≡ a → new ≡ old
  still_rest same = elim goes.one [
    | inl still ↦ λ i. told_both (same i) b last (still.1 i)
    | inr more ↦ absurd (let none = ap (λ (d : DeviceTold). d.ops) same in omega (arith, more.0, none))
  ]

  clock_rests : SameClock ca ca_new → anew ≡ a → SameClock (pair_clock ca b cb course) (pair_clock ca_new b cb next)
  clock_rests same still = elim goes.one [
    | inl stays ↦ subst (λ (cs : List Bool). SameClock (pair_clock ca b cb course) (pair_clock ca_new b cb cs)) (sym stays.1) (same_both (is_second b.fixed.numbers) course ca ca_new cb cb same (same_self cb))
    | inr more ↦ absurd (let none = ap (λ (d : DeviceTold). d.ops) still in omega (arith, more.0, none))
  ]

  first_works : nothing_open a ≡ false → (p : Part) → p ≡ First → Works p a anew ca_new → Ticks p Worked a ca anew ca_new → InOrder b cb
      → (q : Part) × Works q old new (pair_clock ca_new b cb next) × Ticks q Worked old (pair_clock ca b cb course) new (pair_clock ca_new b cb next)
  first_works some First at works ticks order = (First, works_rest some works, first_ticks Worked a ca anew ca_new b cb order course next last last pair is goes (λ urgent. absurd (never_urgent a.stand closed urgent)) ticks)
  first_works some Second at works ticks order = cc at

  first_off : (p : Part) → p ≡ First → IsOff p a ca anew ca_new ⊎ (IsCut p a anew × Ticks p Off a ca anew ca_new) → InOrder b cb
      → (q : Part) × (IsOff q old (pair_clock ca b cb course) new (pair_clock ca_new b cb next) ⊎ (IsCut q old new × Ticks q Off old (pair_clock ca b cb course) new (pair_clock ca_new b cb next)))
  first_off First at (inl off) order = (First, inl (off.0, is_first_of old.fixed old.stand no_job, still_rest off.2, clock_rests off.3 off.2))
  first_off First at (inr cut) order = (First, inr (cut_rest cut.0, first_ticks Off a ca anew ca_new b cb order course next last last pair is goes (λ urgent. absurd (never_urgent a.stand closed urgent)) cut.1))
  first_off Second at off order = cc at

  of_off : (p : Part) → IsOff p a ca anew ca_new ⊎ (IsCut p a anew × Ticks p Off a ca anew ca_new) → p ≡ First
  of_off p (inl off) = of_first a.fixed p a.stand closed off.1
  of_off p (inr cut) = of_first a.fixed p a.stand closed cut.0.of

  pub turns_rest : (answer : DeviceTurn) → InOrder b cb → TurnsAs answer a ca anew ca_new → TurnsAs answer old (pair_clock ca b cb course) new (pair_clock ca_new b cb next)
  turns_rest Idle order turns = (nothing_same ∙ turns.0, still_rest turns.1, clock_rests turns.2 turns.1)
  turns_rest Worked order turns = (nothing_same ∙ turns.0, first_works turns.0 turns.1.0 (of_first a.fixed turns.1.0 a.stand closed turns.1.1.of) turns.1.1 turns.1.2 order)
  turns_rest Off order turns = (nothing_same ∙ turns.0, first_off turns.1.0 (of_off turns.1.0 turns.1.1) turns.1.1 order)

-- what stays of the first device
kept_works : (p : Part) (a anew : DeviceTold) (c : Clock) → is_open a.stand ≡ false → Works p a anew c → (anew.fixed ≡ a.fixed) × (anew.stand ≡ a.stand)
kept_works First a anew c closed works = (ap (λ (d : DeviceTold). d.fixed) works.only, (stays First a.stand anew.stand a anew c closed works.job).0)
kept_works Second a anew c closed works = (ap (λ (d : DeviceTold). d.fixed) works.only, (stays Second a.stand anew.stand a anew c closed works.job).0)

kept_cut : (p : Part) (a anew : DeviceTold) → IsCut p a anew → (anew.fixed ≡ a.fixed) × (anew.stand ≡ a.stand)
kept_cut First a anew cut = (ap (λ (d : DeviceTold). d.fixed) cut.only, ap (λ (d : DeviceTold). d.stand) cut.only)
kept_cut Second a anew cut = (ap (λ (d : DeviceTold). d.fixed) cut.only, ap (λ (d : DeviceTold). d.stand) cut.only)

pub kept : (answer : DeviceTurn) (a : DeviceTold) (ca : Clock) (anew : DeviceTold) (ca_new : Clock) → is_open a.stand ≡ false → TurnsAs answer a ca anew ca_new → (anew.fixed ≡ a.fixed) × (anew.stand ≡ a.stand)
kept Idle a ca anew ca_new closed turns = (ap (λ (d : DeviceTold). d.fixed) turns.1, ap (λ (d : DeviceTold). d.stand) turns.1)
kept Worked a ca anew ca_new closed turns = kept_works turns.1.0 a anew ca_new closed turns.1.1
kept Off a ca anew ca_new closed turns = elim turns.1.1 [
  | inl off ↦ (ap (λ (d : DeviceTold). d.fixed) off.2, ap (λ (d : DeviceTold). d.stand) off.2)
  | inr cut ↦ kept_cut turns.1.0 a anew cut.0
]

pub own_turns : (answer : DeviceTurn) (a : DeviceTold) (ca : Clock) (anew : DeviceTold) (ca_new : Clock) (b : DeviceTold) (cb : Clock) → InOrder b cb → Turns answer a ca anew ca_new → OwnTurns answer a ca anew ca_new b cb
own_turns answer a ca anew ca_new b cb order turns course next last pair is goes closed other up =
    let same = kept answer a ca anew ca_new closed turns.0 in (
      turns_rest a ca anew ca_new b cb course next last pair is goes closed other up answer order turns.0,
      order_rest anew ca_new b cb last next (pair_new a ca anew ca_new b cb course next pair is goes same.0) (course_new a ca anew ca_new b cb course next pair is goes same.0) (ap is_open same.1 ∙ closed) other turns.1 order,
    )
