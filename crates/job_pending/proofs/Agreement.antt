-- What is kept agrees with the machine's jobs through each change.
use Rattle.std.proofs.Common.{◌≡◌, ℕ, ◌+◌, ◌-◌, ◌==◌, ◌<◌, ◌≤◌, ◌&&◌, not, Bool, true, false, cond, if◌then◌else◌, List, [], ◌∷◌, ◌++◌, length, inl, inr, refl, sym, ap, ◌∙◌, arith, Option, Some, None, IsSome, IfSome, is_some, is_none, option_map, subst, length-append, count_by}
use Rattle.std.specs.Prelude.{option_to_list}
use Rattle.std.specs.Option.{option_or}
use Rattle.std.proofs.lemmas.Bool.Decides.{eqb_tells}
use Rattle.std.proofs.lemmas.List.Elements.{Contains-append_right}
use Rattle.std.proofs.lemmas.List.Folds.{find-append}
use Rattle.std.proofs.lemmas.List.Sums.{sum_by_push, sum_by-cons}
use Rattle.block_machine.specs.Words.{Configuration, Taken}
use Rattle.block_machine.specs.State.{Job}
use Rattle.block_machine.specs.Blocks.{job_block, rank_of}
use Rattle.block_machine.specs.Legal.{HandIsFree}
use Rattle.block_machine.specs.Next.{next_in}
use Rattle.block_machine.specs.Steps.{without_job, interrupted}
use Rattle.block_laws.specs.Consistent.{Each}
use Rattle.block_laws.proofs.NextLaws.{next_is_waiting}
use Rattle.job_queues.specs.declared.waiting.Waiting.{Waiting}
use Rattle.job_queues.specs.Jobs.{Jobs, jobs_of, size_of, with_job, with_job_first, first_in, without_first}
use Rattle.job_queues.specs.Laws.{waiting_of, queues_of}
use Rattle.job_queues.proofs.Order.{first_is_next, added_waits, put_back_waits}
use Rattle.job_queues.proofs.Taken.{next_leaves}
use Rattle.job_pending.specs.declared.unpicked.Unpicked.{Unpicked}
use Rattle.job_pending.specs.Slots.{IsLeft, SlotsState, job_on, slot}
use Rattle.job_pending.specs.Line.{AreInLine, InLine, IsFresh, Leads}
use Rattle.job_pending.specs.Room.{HasRoom}
use Rattle.job_pending.specs.Unpicked.{unpicked_in, unpicked_with, unpicked_without}
use Rattle.job_pending.specs.Pending.{Pending, Agree, IsOther, IsHeld, IsNew, IsTakenOut, StandsApart, most_of, unpicked_of, reserved_by}
use Rattle.job_pending.proofs.Splits.{SplitAt, split_of, all_parts, without_is, tells, none_on, on_block, on_left, less_at, each_push, apart_push}
use Rattle.job_pending.proofs.Fitting.{MayWait, all_fit, immediate_by, immediate_queue, immediate_stays, immediate_stays_first, is_standard, one_if, queue_fits, standard_queue, standard_stays, standard_stays_first}
use Rattle.job_pending.proofs.Lines.{behind_all, each_of, leads_again, leads_all, line_left, line_waits, picked_in_line, stays_in_line}

no_count : (b : Bool) (t : Option Taken) → IsSome t → cond {A = ℕ} (b && is_none t) 1 0 ≡ 0
no_count true (Some t) some = refl
no_count false (Some t) some = refl
no_count b None some = cc

both : (j : Job) (b a : List Job) → StandsApart j b → StandsApart j a → StandsApart j (b ++ a)
both j [] a h m = m
both j (x ∷ b) a h m = (h.0, both j b a h.1 m)

sized : (f : ℕ → ℕ → Jobs) {i s j t : ℕ} → i ≡ j → s ≡ t → f i s ≡ f j t
sized f immediate standard = rw (immediate, standard) refl

-- THE QUEUES AND THE JOBS HAVE ROOM

-- for one job more
pub more_fit : (c : Configuration) (p : Pending) (waiting more : List Job) (held : Option Job) → Agree c p waiting held → MayWait c p.slots.places more → length more ≡ length waiting + 1
    → length p.slots.jobs < p.slots.room
more_fit c p waiting more held h may one =
    omega (arith, h.count, one, all_fit c p.slots.places p.slots.room p.queues.immediate_size p.queues.standard_size more h.room may)

-- and in its queue
pub more_queued : (c : Configuration) (p : Pending) (waiting more : List Job) (held : Option Job) (j : Job) (i : Bool) → Agree c p waiting held → MayWait c p.slots.places more
    → ((f : Job → Bool) → count_by f more ≡ count_by f waiting + one_if (f j)) → (rank_of c j).immediate ≡ i → length (jobs_of p.queues i) < size_of p.queues i
more_queued c p waiting more held j true h may counts is =
    let fits = queue_fits c p.slots.places p.slots.room p.queues.immediate_size p.queues.standard_size more true h.room may in
    omega (arith, fits, immediate_queue c more, counts (immediate_by c), immediate_queue c waiting, ap one_if is, ap (λ (q : Jobs). length q.immediate) h.queues)
more_queued c p waiting more held j false h may counts is =
    let fits = queue_fits c p.slots.places p.slots.room p.queues.immediate_size p.queues.standard_size more false h.room may in
    omega (arith, fits, standard_queue c more, counts (is_standard c), standard_queue c waiting, ap (λ b. one_if (not b)) is, ap (λ (q : Jobs). length q.standard) h.queues)

pub new_apart : (waiting : List Job) (held : Option Job) (j : Job) → IsNew j waiting held → StandsApart j waiting
new_apart waiting held j new = each_of (λ x. IsOther x j) waiting (λ x k. (new x (Contains-append_right (option_to_list held) waiting x k)).0)

-- A JOB BEGINS TO BE PENDING

one_more : (i : Bool) (t : Option Taken) (u : Unpicked) (s m : ℕ) → t ≡ None → u ≡ record { standard = s; immediate = m } → unpicked_with i u ≡ record { standard = s + cond (not i && is_none t) 1 0; immediate = m + cond (i && is_none t) 1 0 }
one_more true None u s m new e = let a : s + 0 ≡ s = omega arith in rw (e, a) refl
one_more false None u s m new e = let b : m + 0 ≡ m = omega arith in rw (e, b) refl
one_more i (Some t) u s m new e = cc

unpicked_push : (c : Configuration) (jobs : List Job) (j : Job) → unpicked_of c (jobs ++ j ∷ []) ≡ record { standard = (unpicked_of c jobs).standard + cond (not (rank_of c j).immediate && is_none j.taken) 1 0; immediate = (unpicked_of c jobs).immediate + cond ((rank_of c j).immediate && is_none j.taken) 1 0 }
unpicked_push c jobs j = rw (sum_by_push (λ j. cond (not (rank_of c j).immediate && is_none j.taken) 1 0) jobs j, sum_by_push (λ j. cond ((rank_of c j).immediate && is_none j.taken) 1 0) jobs j) refl

flip : (a b : Job) → IsOther a b → IsOther b a
flip a b d = record { block = λ e. d.block (sym e); number = λ e. d.number (sym e) }

held_more : (n : ℕ) (waiting : List Job) (j : Job) (held : Option Job) → IfSome held (IsHeld n waiting) → IsNew j waiting held → IfSome held (IsHeld n (waiting ++ j ∷ []))
held_more n waiting j None h new = tt
held_more n waiting j (Some x) h new = record { picked = h.picked; place = h.place; apart = each_push (λ y. IsOther y x) waiting j h.apart (flip x j (new x (0, omega arith, refl)).0) }

put_last : (jobs xs : List Job) (j : Job) → ((id : ℕ) → job_on jobs id ≡ job_on xs id) → (id : ℕ) → job_on (jobs ++ j ∷ []) id ≡ job_on (xs ++ j ∷ []) id
put_last jobs xs j same id =
    find-append (λ x. job_block x == id) jobs (j ∷ []) ∙ ap (λ o. option_or o (job_on (j ∷ []) id)) (same id) ∙ sym (find-append (λ x. job_block x == id) xs (j ∷ []))

-- there are no more than its queue takes
counts_fit : (i : Bool) (t : Option Taken) (u : Unpicked) (s m standard immediate : ℕ) → t ≡ None → u ≡ record { standard = s; immediate = m } → s ≤ standard → m ≤ immediate
    → unpicked_in i u < (if i then immediate else standard) → (s + cond (not i && is_none t) 1 0 ≤ standard) × (m + cond (i && is_none t) 1 0 ≤ immediate)
counts_fit true None u s m standard immediate none is few more room = let e = ap (λ (u : Unpicked). u.immediate) is in (omega (arith, few), omega (arith, room, e))
counts_fit false None u s m standard immediate none is few more room = let e = ap (λ (u : Unpicked). u.standard) is in (omega (arith, room, e), omega (arith, more))
counts_fit i (Some t) u s m standard immediate none is few more room = cc

module _ (c : Configuration) (p : Pending) (waiting : List Job) (held : Option Job) (j : Job) (h : Agree c p waiting held) (new : IsNew j waiting held) (taken : j.taken ≡ None)
    (below : job_block j < p.slots.places) (room : unpicked_in (rank_of c j).immediate p.unpicked < most_of c (rank_of c j).immediate) where
  counts : ((unpicked_of c (waiting ++ j ∷ [])).standard ≤ c.standard) × ((unpicked_of c (waiting ++ j ∷ [])).immediate ≤ c.immediate)
  counts =
      let s = ap (λ (u : Unpicked). u.standard) h.unpicked in
      let m = ap (λ (u : Unpicked). u.immediate) h.unpicked in
      let pushed = unpicked_push c waiting j in
      let fit = counts_fit (rank_of c j).immediate j.taken p.unpicked _ _ c.standard c.immediate taken h.unpicked (omega (arith, s, h.standard)) (omega (arith, m, h.immediate)) room in
      (omega (arith, fit.0, ap (λ (u : Unpicked). u.standard) pushed), omega (arith, fit.1, ap (λ (u : Unpicked). u.immediate) pushed))

  pub accepted_may : MayWait c p.slots.places (waiting ++ j ∷ [])
  accepted_may = record {
    apart = apart_push waiting j h.apart (new_apart waiting held j new);
    below = each_push (λ x. job_block x < p.slots.places) waiting j h.below below;
    line = line_waits c held (waiting ++ j ∷ []) (behind_all c held waiting j h.line new taken);
    fresh = each_push (IsFresh c) waiting j h.fresh (λ immediate. taken);
    standard = counts.0;
    immediate = counts.1;
  }

  pub accepted_counts : (f : Job → Bool) → count_by f (waiting ++ j ∷ []) ≡ count_by f waiting + one_if (f j)
  accepted_counts f = sum_by_push (λ x. one_if (f x)) waiting j

  pub accepted : Agree c (record p { slots = record p.slots { jobs = p.slots.jobs ++ j ∷ [] }; queues = with_job (waiting_of c j) p.queues; unpicked = unpicked_with (rank_of c j).immediate p.unpicked; reserved = p.reserved + j.reserved }) (waiting ++ j ∷ []) held
  accepted =
      let apart = new_apart waiting held j new in
      let counted = one_more (rank_of c j).immediate j.taken p.unpicked _ _ taken h.unpicked ∙ sym (unpicked_push c waiting j) in
      record {
        slots = put_last p.slots.jobs waiting j h.slots;
        hand = h.hand;
        queues = ap (with_job (waiting_of c j)) h.queues ∙ sym (added_waits c waiting j p.queues.immediate_size p.queues.standard_size)
            ∙ sized (queues_of c (waiting ++ j ∷ [])) (sym (immediate_stays (waiting_of c j) p.queues)) (sym (standard_stays (waiting_of c j) p.queues));
        unpicked = counted;
        reserved = rw (sum_by_push (λ j. j.reserved) waiting j, h.reserved) refl;
        apart = apart_push waiting j h.apart apart;
        hand_apart = held_more p.slots.places waiting j held h.hand_apart new;
        count = omega (arith, h.count, length-append p.slots.jobs (j ∷ []), length-append waiting (j ∷ []));
        below = accepted_may.below;
        line = behind_all c held waiting j h.line new taken;
        fresh = accepted_may.fresh;
        standard = rw counted counts.0;
        immediate = rw counted counts.1;
        room = rw (immediate_stays (waiting_of c j) p.queues, standard_stays (waiting_of c j) p.queues) h.room;
      }

-- A JOB THAT WAITED IS TAKEN OUT

one_less : (i : Bool) (t : Option Taken) (u : Unpicked) (s m : ℕ) → u ≡ record { standard = s + cond (not i && is_none t) 1 0; immediate = m + cond (i && is_none t) 1 0 } → unpicked_without i (is_some t) u ≡ record { standard = s; immediate = m }
one_less true None u s m e = let a : (m + 1) - 1 ≡ m = omega arith in let b : s + 0 ≡ s = omega arith in rw (e, a, b) refl
one_less false None u s m e = let a : (s + 1) - 1 ≡ s = omega arith in let b : m + 0 ≡ m = omega arith in rw (e, a, b) refl
one_less true (Some t) u s m e = let a : s + 0 ≡ s = omega arith in let b : m + 0 ≡ m = omega arith in rw (e, a, b) refl
one_less false (Some t) u s m e = let a : s + 0 ≡ s = omega arith in let b : m + 0 ≡ m = omega arith in rw (e, a, b) refl

unpicked_at : (c : Configuration) (b : List Job) (j : Job) (a : List Job) → unpicked_of c (b ++ j ∷ a) ≡ record { standard = (unpicked_of c (b ++ a)).standard + cond (not (rank_of c j).immediate && is_none j.taken) 1 0; immediate = (unpicked_of c (b ++ a)).immediate + cond ((rank_of c j).immediate && is_none j.taken) 1 0 }
unpicked_at c b j a = rw (less_at (λ j. cond (not (rank_of c j).immediate && is_none j.taken) 1 0) b j a, less_at (λ j. cond ((rank_of c j).immediate && is_none j.taken) 1 0) b j a) refl

apart_less : (n : ℕ) (waiting : List Job) (j : Job) (sp : SplitAt waiting j) (held : Option Job) → IfSome held (IsHeld n waiting) → IfSome held (IsHeld n (sp.before ++ sp.after))
apart_less n waiting j sp None h = tt
apart_less n waiting j sp (Some x) h = record { picked = h.picked; place = h.place; apart = (all_parts (λ y. IsOther y x) sp.before j sp.after (subst (StandsApart x) sp.is h.apart)).1 }

module _ (c : Configuration) (p : Pending) (waiting : List Job) (held : Option Job) (j : Job) (sp : SplitAt waiting j) (slots : SlotsState) (n : ℕ) (h : Agree c p waiting held)
    (share : n + j.reserved ≡ p.reserved) (left : IsLeft (job_block j) p.slots slots) where
  counted : unpicked_without (rank_of c j).immediate (is_some j.taken) p.unpicked ≡ unpicked_of c (sp.before ++ sp.after)
  counted = one_less (rank_of c j).immediate j.taken p.unpicked _ _ (h.unpicked ∙ ap (unpicked_of c) sp.is ∙ unpicked_at c sp.before j sp.after)

  fewer : ((unpicked_of c (sp.before ++ sp.after)).standard ≤ c.standard) × ((unpicked_of c (sp.before ++ sp.after)).immediate ≤ c.immediate)
  fewer =
      let is = h.unpicked ∙ ap (unpicked_of c) sp.is ∙ unpicked_at c sp.before j sp.after in
      (omega (arith, h.standard, ap (λ (u : Unpicked). u.standard) is), omega (arith, h.immediate, ap (λ (u : Unpicked). u.immediate) is))

  left_by : without_first p.queues ≡ queues_of c (sp.before ++ sp.after) p.queues.immediate_size p.queues.standard_size
      → Agree c (record p { slots = slots; queues = without_first p.queues; unpicked = unpicked_without (rank_of c j).immediate (is_some j.taken) p.unpicked; reserved = n }) (sp.before ++ sp.after) held
  left_by queues =
      let on : slot p.slots (job_block j) ≡ Some j = h.slots (job_block j) ∙ on_block waiting j sp in
      record {
        slots = λ id. left.slots id ∙ ap (λ o. cond (job_block j == id) None o) (h.slots id ∙ ap (λ xs. job_on xs id) sp.is)
            ∙ sym (on_left sp.before j sp.after sp.others sp.more id);
        hand = h.hand;
        queues = queues ∙ ap (λ (q : Jobs). queues_of c (sp.before ++ sp.after) q.immediate_size q.standard_size) (sym queues);
        unpicked = counted;
        reserved = omega (arith, share, h.reserved, ap reserved_by sp.is, less_at (λ j. j.reserved) sp.before j sp.after);
        apart = sp.apart;
        hand_apart = rw left.places (apart_less p.slots.places waiting j sp held h.hand_apart);
        count = omega (arith, h.count, left.count j on, ap length sp.is, length-append sp.before (j ∷ sp.after), length-append sp.before sp.after);
        below = rw left.places (all_parts (λ x. job_block x < p.slots.places) sp.before j sp.after (subst (Each (λ x. job_block x < p.slots.places)) sp.is h.below)).1;
        line = line_left c held sp.before j sp.after (subst (λ js. AreInLine c (option_to_list held ++ js)) sp.is h.line);
        fresh = (all_parts (IsFresh c) sp.before j sp.after (subst (Each (IsFresh c)) sp.is h.fresh)).1;
        standard = rw counted fewer.0;
        immediate = rw counted fewer.1;
        room = subst (λ (q : Jobs). HasRoom c slots.places slots.room q.immediate_size q.standard_size) (sym queues) (rw (left.places, left.room) h.room);
      }

-- what is known of the job that goes next
pub record IsNext (c : Configuration) (p : Pending) (waiting : List Job) (j : Job) : Type 0 where
  pub on : slot p.slots (job_block j) ≡ Some j
  pub split : SplitAt waiting j
  pub below : job_block j < p.slots.places
  pub among : j.reserved ≤ p.reserved

pub next_is : (c : Configuration) (p : Pending) (waiting : List Job) (held : Option Job) (j : Job) → Agree c p waiting held → next_in c waiting ≡ Some j → IsNext c p waiting j
next_is c p waiting held j h next =
    let (before, after, is) = next_is_waiting c waiting j next in
    let sp = split_of waiting before j after is h.apart in
    let r = ap reserved_by sp.is in
    let q = h.reserved in
    let e = less_at (λ j. j.reserved) sp.before j sp.after in
    record {
      on = h.slots (job_block j) ∙ on_block waiting j sp;
      split = sp;
      below = (all_parts (λ x. job_block x < p.slots.places) sp.before j sp.after (subst (Each (λ x. job_block x < p.slots.places)) sp.is h.below)).0;
      among = omega arith;
    }

pub taken_out : (c : Configuration) (p : Pending) (waiting : List Job) (held : Option Job) (j : Job) (slots : SlotsState) → Agree c p waiting held → next_in c waiting ≡ Some j → IsNext c p waiting j
    → IsLeft (job_block j) p.slots slots
    → Agree c (record p { slots = slots; queues = without_first p.queues; unpicked = unpicked_without (rank_of c j).immediate (is_some j.taken) p.unpicked; reserved = p.reserved - j.reserved }) (without_job j.number waiting) held
taken_out c p waiting held j slots h next x left =
    let sp = x.split in
    let less = x.among in
    let without = without_is waiting j sp in
    let queues : without_first p.queues ≡ queues_of c (sp.before ++ sp.after) p.queues.immediate_size p.queues.standard_size =
    ap without_first h.queues ∙ next_leaves c waiting j p.queues.immediate_size p.queues.standard_size (tells waiting j sp) next
    ∙ ap (λ xs. queues_of c xs p.queues.immediate_size p.queues.standard_size) without in
    rw without (left_by c p waiting held j sp slots (p.reserved - j.reserved) h (omega arith) left queues)

-- the job in hand is another one
other_hand : (n : ℕ) (waiting : List Job) (j : Job) (sp : SplitAt waiting j) (held : Option Job) → IfSome held (IsHeld n waiting) → IfSome held (λ h. IsOther h j)
other_hand n waiting j sp None h = tt
other_hand n waiting j sp (Some x) h = flip j x (all_parts (λ y. IsOther y x) sp.before j sp.after (subst (StandsApart x) sp.is h.apart)).0

-- the job that was taken out stands apart from those that still wait
pub left_apart : (waiting : List Job) (j : Job) (sp : SplitAt waiting j) → StandsApart j (without_job j.number waiting)
left_apart waiting j sp = rw (without_is waiting j sp) (both j sp.before sp.after sp.others sp.more)

-- THE JOB IN HAND

same_counts : (s m s' m' x y : ℕ) → s' ≡ x + s → m' ≡ y + m → x ≡ 0 → y ≡ 0 → (let u : Unpicked = record { standard = s'; immediate = m' } in u) ≡ record { standard = s; immediate = m }
same_counts s m s' m' x y e f a b = let g : s' ≡ s = omega arith in let h : m' ≡ m = omega arith in rw (g, h) refl

others : (waiting : List Job) (h g : Job) → StandsApart h waiting → g.number ≡ h.number → g.request ≡ h.request → StandsApart g waiting
others [] h g a number request = tt
others (x ∷ xs) h g a number request = (record { block = rw request a.0.block; number = rw number a.0.number }, others xs h g a.1 number request)

still : (n : ℕ) (waiting : List Job) (h g : Job) → IsHeld n waiting h → g.taken ≡ h.taken → g.number ≡ h.number → g.request ≡ h.request → IsHeld n waiting g
still n waiting h g x taken number request = record {
  picked = rw taken x.picked;
  place = rw request x.place;
  apart = others waiting h g x.apart number request;
}

put_first : (jobs xs : List Job) (g : Job) → ((id : ℕ) → job_on jobs id ≡ job_on xs id) → job_on xs (job_block g) ≡ None → (id : ℕ) → job_on (jobs ++ g ∷ []) id ≡ job_on (g ∷ xs) id
put_first jobs xs g same none id =
    find-append (λ x. job_block x == id) jobs (g ∷ []) ∙ ap (λ o. option_or o (job_on (g ∷ []) id)) (same id) ∙ elim (eqb_tells (job_block g) id) [
      | inl (t, is) ↦ rw (t, subst (λ n. job_on xs n ≡ None) is none) refl
      | inr (f, _) ↦ rw f (or_none (job_on xs id))
    ]
  where
    or_none : (o : Option Job) → option_or o None ≡ o
    or_none None = refl
    or_none (Some x) = refl

pub length_more : (j : Job) (waiting : List Job) → length (j ∷ waiting) ≡ length waiting + 1
length_more j waiting = omega arith

-- it waits again, with two entries more
module _ (c : Configuration) (p : Pending) (waiting : List Job) (h : Job) (a : Agree c p waiting (Some h)) (standard : (rank_of c h).immediate ≡ false) where
  abbrev pub again : Job
  again = record h { reserved = h.reserved + 2 }

  same_unpicked : p.unpicked ≡ unpicked_of c (again ∷ waiting)
  same_unpicked =
      let some = sum_by-cons (λ j. cond (not (rank_of c j).immediate && is_none j.taken) 1 0) again waiting in
      let more = sum_by-cons (λ j. cond ((rank_of c j).immediate && is_none j.taken) 1 0) again waiting in
      a.unpicked ∙ sym (same_counts _ _ _ _ _ _ some more (no_count (not (rank_of c h).immediate) h.taken a.hand_apart.picked) (no_count (rank_of c h).immediate h.taken a.hand_apart.picked))

  pub again_may : MayWait c p.slots.places (again ∷ waiting)
  again_may = record {
    apart = (others waiting h again a.hand_apart.apart refl refl, a.apart);
    below = (a.hand_apart.place, a.below);
    line = a.line;
    fresh = ((λ immediate. cc (standard, immediate)), a.fresh);
    standard = omega (arith, a.standard, ap (λ (u : Unpicked). u.standard) same_unpicked);
    immediate = omega (arith, a.immediate, ap (λ (u : Unpicked). u.immediate) same_unpicked);
  }

  pub again_counts : (f : Job → Bool) → count_by f (again ∷ waiting) ≡ count_by f waiting + one_if (f again)
  again_counts f = let e = sum_by-cons (λ x. one_if (f x)) again waiting in omega (arith, e)

  pub waits_again : Agree c (record p { slots = record p.slots { jobs = p.slots.jobs ++ again ∷ [] }; hand = None; queues = with_job_first (waiting_of c h) p.queues; reserved = p.reserved + (h.reserved + 2) }) (again ∷ waiting) None
  waits_again = record {
    slots = put_first p.slots.jobs waiting again a.slots (none_on waiting h a.hand_apart.apart);
    hand = refl;
    queues = ap (with_job_first (waiting_of c h)) a.queues ∙ sym (put_back_waits c waiting again p.queues.immediate_size p.queues.standard_size)
        ∙ sized (queues_of c (again ∷ waiting)) (sym (immediate_stays_first (waiting_of c h) p.queues)) (sym (standard_stays_first (waiting_of c h) p.queues));
    unpicked = same_unpicked;
    reserved = omega (arith, a.reserved, sum_by-cons (λ j. j.reserved) again waiting);
    apart = again_may.apart;
    hand_apart = tt;
    count = omega (arith, a.count, length-append p.slots.jobs (again ∷ []));
    below = again_may.below;
    line = a.line;
    fresh = again_may.fresh;
    standard = a.standard;
    immediate = a.immediate;
    room = rw (immediate_stays_first (waiting_of c h) p.queues, standard_stays_first (waiting_of c h) p.queues) a.room;
  }

-- a job comes in hand
pub comes_in_hand : (c : Configuration) (p : Pending) (waiting : List Job) (g : Job) → Agree c p waiting None → IsHeld p.slots.places waiting g → Each (InLine c g) waiting
    → Agree c (record p { hand = Some g }) waiting (Some g)
comes_in_hand c p waiting g a h line = record {
  slots = a.slots;
  hand = refl;
  queues = a.queues;
  unpicked = a.unpicked;
  reserved = a.reserved;
  apart = a.apart;
  hand_apart = h;
  count = a.count;
  below = a.below;
  line = (line, a.line);
  fresh = a.fresh;
  standard = a.standard;
  immediate = a.immediate;
  room = a.room;
}

-- it ends
pub ends : (c : Configuration) (p : Pending) (waiting : List Job) (held : Option Job) → Agree c p waiting held → Agree c (record p { hand = None }) waiting None
ends c p waiting held a = record {
  slots = a.slots;
  hand = refl;
  queues = a.queues;
  unpicked = a.unpicked;
  reserved = a.reserved;
  apart = a.apart;
  hand_apart = tt;
  count = a.count;
  below = a.below;
  line = line_waits c held waiting a.line;
  fresh = a.fresh;
  standard = a.standard;
  immediate = a.immediate;
  room = a.room;
}

-- or is changed
pub stays_in_hand : (c : Configuration) (p : Pending) (waiting : List Job) (h g : Job) → Agree c p waiting (Some h) → g.taken ≡ h.taken → g.number ≡ h.number → g.request ≡ h.request → g.member ≡ h.member
    → Agree c (record p { hand = Some g }) waiting (Some g)
stays_in_hand c p waiting h g a taken number request member =
    let ended = ends c p waiting (Some h) a in
    comes_in_hand c (record p { hand = None }) waiting g ended (still p.slots.places waiting h g a.hand_apart taken number request)
    (stays_in_line c waiting h g taken number request member a.line.0)

-- NO JOB IS PENDING

pub none_pending : (c : Configuration) (p : Pending) → p.slots.jobs ≡ [] → p.hand ≡ None → p.queues.immediate ≡ [] → p.queues.standard ≡ []
    → p.unpicked ≡ record { standard = 0; immediate = 0 } → p.reserved ≡ 0 → HasRoom c p.slots.places p.slots.room p.queues.immediate_size p.queues.standard_size → Agree c p [] None
none_pending c p none hand immediate standard unpicked reserved room = record {
  slots = λ id. ap (λ jobs. job_on jobs id) none;
  hand = hand;
  queues = ap (λ (ws : List Waiting). record p.queues { immediate = ws }) immediate ∙ ap (λ (ws : List Waiting). record p.queues { immediate = []; standard = ws }) standard;
  unpicked = unpicked;
  reserved = reserved;
  apart = tt;
  hand_apart = tt;
  count = ap length none;
  below = tt;
  line = tt;
  fresh = tt;
  standard = rw unpicked (omega arith);
  immediate = rw unpicked (omega arith);
  room = room;
}

-- THE NEXT JOB

some_queued : (c : Configuration) (p : Pending) (o : Option Job) (w : Waiting) → ((j : Job) → o ≡ Some j → slot p.slots (job_block j) ≡ Some j) → option_map (waiting_of c) o ≡ Some w → slot p.slots w.block ≡ o
some_queued c p None w on is = cc
some_queued c p (Some j) w on is = let e : waiting_of c j ≡ w = cc in rw (← e) (on j refl)

none_queued : (c : Configuration) (o : Option Job) → option_map (waiting_of c) o ≡ None → o ≡ None
none_queued c None is = refl
none_queued c (Some j) is = cc

-- it is in the place of the block that the queues name first
pub next_on : (c : Configuration) (p : Pending) (waiting : List Job) (held : Option Job) (w : Waiting) → Agree c p waiting held → Some w ≡ first_in p.queues → slot p.slots w.block ≡ next_in c waiting
next_on c p waiting held w h first =
    some_queued c p (next_in c waiting) w (λ j next. (next_is c p waiting held j h next).on) (first_is_next c waiting p.queues.immediate_size p.queues.standard_size ∙ sym (ap first_in h.queues) ∙ sym first)

-- none waits where they name none
pub no_next : (c : Configuration) (p : Pending) (waiting : List Job) (held : Option Job) → Agree c p waiting held → None ≡ first_in p.queues → next_in c waiting ≡ None
no_next c p waiting held h first = none_queued c (next_in c waiting) (first_is_next c waiting p.queues.immediate_size p.queues.standard_size ∙ sym (ap first_in h.queues) ∙ sym first)

-- and what they name is the job as it waits
pub first_is : (c : Configuration) (p : Pending) (waiting : List Job) (held : Option Job) (j : Job) → Agree c p waiting held → next_in c waiting ≡ Some j → first_in p.queues ≡ Some (waiting_of c j)
first_is c p waiting held j h next = ap first_in h.queues ∙ sym (first_is_next c waiting p.queues.immediate_size p.queues.standard_size) ∙ ap (option_map (waiting_of c)) next

pub taken : (c : Configuration) (p : Pending) (waiting : List Job) (held : Option Job) (j : Job) (slots : SlotsState) → Agree c p waiting held → next_in c waiting ≡ Some j
    → IsLeft (job_block j) p.slots slots
    → IsTakenOut c p (record p { slots = slots; queues = without_first p.queues; unpicked = unpicked_without (rank_of c j).immediate (is_some j.taken) p.unpicked; reserved = p.reserved - j.reserved }) waiting held j (Some j)
taken c p waiting held j slots h next left =
    let x = next_is c p waiting held j h next in
    record {
      job = refl;
      agrees = taken_out c p waiting held j slots h next x left;
      place = x.below;
      apart = left_apart waiting j x.split;
      other = other_hand p.slots.places waiting j x.split held h.hand_apart;
      leads = leads_all c held waiting j x.split h.line next;
    }

pub apart_again : (held : Option Job) (j : Job) (xs : List Job) → IfSome held (λ h. IsOther h j) → StandsApart j xs → StandsApart j (interrupted held xs)
apart_again None j xs o h = h
apart_again (Some x) j xs o h = (record { block = o.block; number = o.number }, h)

is_false : (b : Bool) → not b ≡ true → b ≡ false
is_false true is = cc
is_false false is = refl

-- a job that is interrupted is a standard one
pub interrupted_standard : (c : Configuration) (held : Option Job) (j : Job) → HandIsFree c held j → IfSome held (λ h. (rank_of c h).immediate ≡ false)
interrupted_standard c None j free = tt
interrupted_standard c (Some h) j free = is_false (rank_of c h).immediate free.standard

-- what was taken out comes in hand
pub picked : (c : Configuration) (p : Pending) (waiting : List Job) (held : Option Job) (j g : Job) → Agree c p (interrupted held waiting) None → StandsApart j (interrupted held waiting)
    → job_block j < p.slots.places → IsSome g.taken → g.number ≡ j.number → g.request ≡ j.request → g.member ≡ j.member → HandIsFree c held j
    → ((rank_of c j).immediate ≡ false → Each (λ x. (rank_of c x).immediate ≡ false → Leads c j x) waiting)
    → Agree c (record p { hand = Some g }) (interrupted held waiting) (Some g)
picked c p waiting held j g a apart below some number request member free leads =
    comes_in_hand c p (interrupted held waiting) g a
    (record { picked = some; place = rw request below; apart = others (interrupted held waiting) j g apart number request })
    (picked_in_line c (interrupted held waiting) j g number request member (leads_again c held j waiting free leads))
