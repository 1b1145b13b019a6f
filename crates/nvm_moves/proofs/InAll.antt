-- The turns that are left of the job in hand in all, whatever fails.
use Rattle.nvm_moves.proofs.Common.{is_none, option_map, ◌≡◌, inl, inr, ◌≤◌, ◌<◌, ◌+◌, ℕ, suc, Bool, true, false, if◌then◌else◌, Option, Some, None, refl, sym, ap, ◌∙◌, subst, arith, DeviceTold, Fixed, Part, Stand, Open, is_open, Clock, InOrder, Configuration, State, Job, most_turns, stack_left, HandState, is_finished, IsInHand, IsPaired, program_for, GoesOn, hand_by, TurnsDevice, LeavesDevice, tries_left, all_with, ◌*◌, mul-le-mul_right, suc-mul, JobTurns, tries_of, with_start, begun_takes, tries_bounded, turned_few, was_closed, turns_in_all}
use Rattle.nvm_core.specs.memif.Told.{Ended}
use Rattle.nvm_core.specs.nvm_laws.declared.turned.Turned.TheVariants as turned
use Rattle.nvm_moves.proofs.Most.{begun_most, hands_are_bounded, most_of_job, turned_most}

-- what is open, with the Post
abbrev part : DeviceTold → ℕ
part d = if is_open d.stand then d.left + 2 else 1

one_more : (t m : ℕ) → (t + 1) * m ≡ t * m + m
one_more t m = let same : t + 1 ≡ suc t = omega arith in ap (λ (n : ℕ). n * m) same ∙ suc-mul t m

-- AT ANY TIME
left_few : (finished : Bool) (h : HandState) (d : DeviceTold) (m : ℕ) → (if finished then stack_left None d + 1 else stack_left (Some h.program) d) ≤ m → d.left + 1 ≤ m
left_few true h d m few = omega (arith, few)
left_few false h d m few = omega (arith, few)

part_by : (open_now : Bool) (left m : ℕ) → left + 1 ≤ m → (if open_now then left + 2 else 1) ≤ m + 1
part_by true left m few = omega (arith, few)
part_by false left m few = omega arith

part_few : (c : Configuration) (s : State) (h : HandState) (d : DeviceTold) (clock : Clock) → InOrder d clock → IsInHand c s h d → part d ≤ most_turns d.fixed h.program + 1
part_few c s h d clock order is =
    part_by (is_open d.stand) d.left (most_turns d.fixed h.program) (left_few (is_finished h.step) h d (most_turns d.fixed h.program) (hands_are_bounded c s h d clock order is))

-- at most those that its job has in all
pub all_bounded : (c : Configuration) (s : State) (hand : Option HandState) (d : DeviceTold) (clock : Clock) → InOrder d clock → IsPaired c s hand d → (j : Job) → s.hand ≡ Some j
    → all_with hand d ≤ turns_in_all c s (most_turns d.fixed (program_for c s j))
all_bounded c s None d clock order paired j is = omega arith
all_bounded c s (Some h) d clock order paired j is =
    let most = most_turns d.fixed h.program in
    let tries = tries_left (Some h) (is_open d.stand) in
    let few = mul-le-mul_right (most + 1) (tries_bounded c s (Some h) d (is_open d.stand) paired) in
    let last = part_few c s h d clock order paired in
    let all = one_more (tries_of c s) (most + 1) in
    subst (λ (n : ℕ). all_with (Some h) d ≤ turns_in_all c s n) (sym (most_of_job c s h d d.fixed j paired is)) (omega (arith, few, last, all))

-- A TURN
part_falls : (q : Part) (a b : Stand) (old new : DeviceTold) (clock : Clock) → is_open a ≡ true → JobTurns q a b old new clock → (if is_open b then new.left + 2 else 1) < (if is_open a then old.left + 2 else 1)
part_falls q (Open j) (Open k) old new clock on turns = let less = turns.2 in omega (arith, less)
part_falls q (Open j) (Ended r given) old new clock on turns = omega arith
part_falls q (Ended r given) b old new clock on turns = absurd (let no_ : false ≡ true = on in cc no_)

no_hand : (a b : Stand) → hand_by a b None ≡ None
no_hand (Open j) (Open k) = refl
no_hand a b = refl

at_open : (c : Configuration) (s : State) (h : HandState) (d : DeviceTold) → IsInHand c s (with_start h) d → is_open d.stand ≡ true
at_open c s h d is = ap is_open is.at.stands

same_some : (a b : ℕ) → Some a ≡ Some b → a ≡ b
same_some a b is = cc is

falls : (tries before : ℕ) (m last was : ℕ) → tries ≤ before → last < was → tries * m + last < before * m + was
falls tries before m last was few less = let times = mul-le-mul_right m few in omega (arith, times, less)

begins_falls : (tries between before m last : ℕ) → tries ≤ between → between + 1 ≤ before → last ≤ m → tries * m + last < before * m + 1
begins_falls tries between before m last few begun least =
    let times = mul-le-mul_right m few in
    let more = mul-le-mul_right m begun in
    let one = one_more between m in omega (arith, times, more, one, least)

-- that leaves a job in hand takes one, whatever fails
module _ (c : Configuration) (s : State) (hand hand_b : Option HandState) (d b n : DeviceTold) (clock_b clock_n : Clock) (leaves : LeavesDevice d b) (goes : GoesOn hand d hand_b b) (paired : IsPaired c s hand_b b)
    (turns : TurnsDevice turned.Worked b clock_b n clock_n) (fixed : n.fixed ≡ d.fixed) (order : InOrder n clock_n) where
  module _ (h x : HandState) (was : hand ≡ Some h) (begins : hand_b ≡ Some (with_start h)) (is : hand_by b.stand n.stand hand_b ≡ Some x) (c_new : Configuration) (s_new : State) (held : IsInHand c_new s_new x n) where
    most_same : most_turns n.fixed x.program ≡ most_turns d.fixed h.program
    most_same =
        same_some (most_turns n.fixed x.program) (most_turns d.fixed h.program)
        (ap (option_map (λ (y : HandState). most_turns n.fixed y.program)) (sym is) ∙ turned_most n.fixed b.stand n.stand hand_b ∙ begun_most n.fixed hand hand_b d b goes ∙ ap (option_map (λ (y : HandState). most_turns n.fixed y.program)) was
        ∙ ap (λ (f : Fixed). Some (most_turns f h.program)) fixed)

    open_b : is_open b.stand ≡ true
    open_b = at_open c s h b (subst (λ (o : Option HandState). IsPaired c s o b) begins paired)

    fewer : tries_left (Some x) (is_open n.stand) ≤ tries_left (Some h) (is_open b.stand)
    fewer =
        subst (λ (o : Option HandState). tries_left o (is_open n.stand) ≤ tries_left (Some h) (is_open b.stand)) is
        (subst (λ (o : Option HandState). tries_left (hand_by b.stand n.stand hand_b) (is_open n.stand) ≤ tries_left o (is_open b.stand)) begins (turned_few hand_b turned.Worked b clock_b n clock_n turns))

    least : part n ≤ most_turns d.fixed h.program + 1
    least = subst (λ (m : ℕ). part n ≤ m + 1) most_same (part_few c_new s_new x n clock_n order held)

    all_falls : all_with (Some x) n < all_with (Some h) d
    all_falls =
        subst (λ (m : ℕ). tries_left (Some x) (is_open n.stand) * (m + 1) + part n < all_with (Some h) d) (sym most_same)
        (elim (subst (λ (o : Option HandState). GoesOn o d hand_b b) was goes).2 [
          | inl same ↦
              let part_is : part b ≡ part d = ap part same in
              let open_is : tries_left (Some h) (is_open b.stand) ≡ tries_left (Some h) (is_open d.stand) = ap (λ (e : DeviceTold). tries_left (Some h) (is_open e.stand)) same in
              let less = part_falls turns.0.1.0 b.stand n.stand b n clock_n open_b turns.0.1.1.job in
              falls (tries_left (Some x) (is_open n.stand)) (tries_left (Some h) (is_open d.stand)) (most_turns d.fixed h.program + 1) (part n) (part d) (omega (arith, fewer, open_is)) (omega (arith, less, part_is))
          | inr begun ↦
              let takes = begun_takes h d b (subst (λ (o : Option HandState). IsPaired c s o b) begins paired).working.tries begun in
              let closed : part d ≡ 1 = ap (λ (t : Bool). if t then d.left + 2 else 1) (was_closed d b begun.wish begun.accepts) in
              let less =
              begins_falls (tries_left (Some x) (is_open n.stand)) (tries_left (Some h) (is_open b.stand)) (tries_left (Some h) (is_open d.stand)) (most_turns d.fixed h.program + 1) (part n) fewer takes least in
              omega (arith, less, closed)
        ])

  pub turn_falls : (c_new : Configuration) (s_new : State) (hand_n : Option HandState) → hand_n ≡ hand_by b.stand n.stand hand_b → IsPaired c_new s_new hand_n n → is_none s_new.hand ≡ false
      → (0 < all_with hand_n n) × (all_with hand_n n < all_with hand d)
  turn_falls c_new s_new hand_n hands paired_new held = by hand hand_n refl refl
    where
      none_held : s_new.hand ≡ None → ⊥
      none_held none = let no_ : true ≡ false = sym (ap is_none none) ∙ held in cc no_

      by : (o p : Option HandState) → hand ≡ o → hand_n ≡ p → (0 < all_with hand_n n) × (all_with hand_n n < all_with hand d)
      by o None was is = absurd (none_held (subst (λ (q : Option HandState). IsPaired c_new s_new q n) is paired_new).0)
      by None (Some x) was is =
          let out : hand_b ≡ None = (subst (λ (o : Option HandState). GoesOn o d hand_b b) was goes).0 in
          let none : hand_n ≡ None = hands ∙ ap (hand_by b.stand n.stand) out ∙ no_hand b.stand n.stand in
          absurd (none_held (subst (λ (q : Option HandState). IsPaired c_new s_new q n) none paired_new).0)
      by (Some h) (Some x) was is =
          let begins : hand_b ≡ Some (with_start h) = (subst (λ (o : Option HandState). GoesOn o d hand_b b) was goes).1 in
          let less = all_falls h x was begins (sym hands ∙ is) c_new s_new (subst (λ (q : Option HandState). IsPaired c_new s_new q n) is paired_new) in
          subst (λ (o : Option HandState). (0 < all_with o n) × (all_with o n < all_with hand d)) (sym is)
          (subst (λ (o : Option HandState). (0 < all_with (Some x) n) × (all_with (Some x) n < all_with o d)) (sym was) (some_left x, less))
        where
          some_by : (t : Bool) (a left : ℕ) → 0 < a + (if t then left + 2 else 1)
          some_by true a left = omega arith
          some_by false a left = omega arith

          some_left : (x : HandState) → 0 < all_with (Some x) n
          some_left x = some_by (is_open n.stand) (tries_left (Some x) (is_open n.stand) * (most_turns n.fixed x.program + 1)) n.left
