-- The promise over two flashes from its two halves.
use Rattle.std.specs.Bool.{beq}
use Rattle.std.specs.Prelude.{slice_get, min, not, IfSome, IsTrue, if◌then◌else◌}
use Rattle.std.specs.Option.{option_map_or}
use Rattle.std.proofs.Common.{◌≡◌, ℕ, zero, suc, ◌<◌, ◌≤◌, ◌+◌, ◌-◌, ◌⊎◌, Bool, true, false, List, [], ◌∷◌, length, Option, Some, None, refl, sym, ap, ◌∙◌, subst, inl, inr, arith}
use Rattle.block_machine.specs.nv_base.Count.{last_count, WereCounted}
use Rattle.block_machine.specs.nv_base.Marks.{instance_of}
use Rattle.fls_model.specs.Bytes.{piece}
use Rattle.fls_model.specs.Op.{Op, MayLeave, Program, Erase}
use Rattle.fls_model.specs.Told.{Change, bytes_now}
use Rattle.fee_image.proofs.Soundness.{grown_self}
use Rattle.std.proofs.lemmas.Bool.{cases_lt}
use Rattle.promise_run.proofs.OneByOne.{some_same}
use Rattle.memif.specs.Told.{Fixed, IfElse, PartTold, Part, DeviceTold, First, Second, is_part, part_of_block}
use Rattle.memif.specs.Clock.{Clock, After, CutIn}
use Rattle.block_machine.specs.Words.{Entry, Ask, Pick, Wrote, Post, Off, Found, Configuration}
use Rattle.block_machine.specs.State.{State}
use Rattle.block_machine.specs.StartUp.{at_first}
use Rattle.block_machine.specs.Steps.{step, after}
use Rattle.promise_blocks.specs.Payment.{Worn, ArePaid, IsPaid, price_for}
use Rattle.promise_blocks.specs.OverDevice.{is_of}
use Rattle.promise_device.specs.Image.{held_in, IsSoundFlash}
use Rattle.promise_device.specs.Reading.{BeginsSound}
use Rattle.promise_device.specs.FlashRun.{FlashRun, TellsBytes, StartsSound, TellsOperations, IsCutImage, AreOperations, bytes_after}
use Rattle.promise_device.specs.Bridge.{cuts_of, reading_of}
use Rattle.promise_device.proofs.FlashRun.{seen_more}
use Rattle.promise_device.proofs.Readings.{sound_flashes_compute, sound_starts_compute, worn_banks_compute}
use Rattle.promise_run.specs.Beside.{Beside, is_beside, ops_of}
use Rattle.promise_run.specs.ClocksOfBoth.{AreOverBoth}
use Rattle.promise_run.specs.HalvesOfBoth.{BlockHalfOfBoth, HalvesMakeBoth, JoinsMaps}
use Rattle.promise_run.specs.Promise.{making_first}
use Rattle.promise_run.specs.Run.{Run, has_cutter}
use Rattle.promise_run.specs.TwoFlashes.{CutsCountBoth, CutsKeepBoth, ExitKeepsBoth, HasOffOf, IfBothAfter, IsWornOfBoth, MayBeKeptOf, StartUpsFindBoth, held_both, of_both, own_ops}
use Rattle.promise_run.proofs.ClocksOfBoth as clocks
use Rattle.promise_run.proofs.Composition.{one_of, past}
use Rattle.promise_run.proofs.Founds.{last_soon}
use Rattle.promise_run.proofs.Paid.{excused_too}

-- COUNTS
at_most : (x y z : ℕ) → x ≤ y → y ≤ z → x ≤ z
at_most x y z less more = omega (arith, less, more)

module _ (c : Configuration) (h : List Entry) (b : Beside) where
  of_either : (k : ℕ) → ops_of false c h b k + ops_of true c h b k ≡ k
  of_either zero = refl
  of_either (suc k) = let before = of_either k in by (is_beside c h b k) before
    where
      by : (t : Bool) → ops_of false c h b k + ops_of true c h b k ≡ k
          → ops_of false c h b k + (if beq false t then 1 else 0) + (ops_of true c h b k + (if beq true t then 1 else 0)) ≡ suc k
      by true before = omega (arith, before)
      by false before = omega (arith, before)

  later : (second : Bool) (j d : ℕ) → ops_of second c h b j ≤ ops_of second c h b (j + d)
  later second j zero =
      let same : j ≡ j + 0 = omega arith in
      let least : ops_of second c h b j ≤ ops_of second c h b j = omega arith in
      subst (λ (n : ℕ). ops_of second c h b j ≤ ops_of second c h b n) same least
  later second j (suc d) =
      let same : suc (j + d) ≡ j + suc d = omega arith in
      let more : ops_of second c h b (j + d) ≤ ops_of second c h b (j + d) + (if beq second (is_beside c h b (j + d)) then 1 else 0) = omega arith in
      subst (λ (n : ℕ). ops_of second c h b j ≤ ops_of second c h b n) same (at_most (ops_of second c h b j) (ops_of second c h b (j + d)) (ops_of second c h b (suc (j + d))) (later second j d) more)

  no_fewer : (second : Bool) (j k : ℕ) → j ≤ k → ops_of second c h b j ≤ ops_of second c h b k
  no_fewer second j k less =
      let same : j + (k - j) ≡ k = omega (arith, less) in
      subst (λ (n : ℕ). ops_of second c h b j ≤ ops_of second c h b n) same (later second j (k - j))

both_told : (x y : Option (List ℕ)) (P Q : List ℕ → Type 0) (R : List ℕ → List ℕ → Type 0) → ((image other : List ℕ) → P image → Q other → R image other) → IfSome x P → IfSome y Q
    → IfSome x (λ image. IfSome y (R image))
both_told (Some image) (Some other) P Q R more p q = more image other p q
both_told (Some image) None P Q R more p q = tt
both_told None y P Q R more p q = tt

if_both : (x y : Option (List ℕ)) (P Q : List ℕ → List ℕ → Type 0) → ((image other : List ℕ) → P image other → Q image other) → IfSome x (λ image. IfSome y (P image)) → IfSome x (λ image. IfSome y (Q image))
if_both (Some image) (Some other) P Q more p = more image other p
if_both (Some image) None P Q more p = tt
if_both None y P Q more p = tt

with_both : (x y : Option (List ℕ)) (P : List ℕ → List ℕ → Type 0) (S T : List ℕ → Type 0) (Q : List ℕ → List ℕ → Type 0) → ((image other : List ℕ) → P image other → S image → T other → Q image other)
    → IfSome x (λ image. IfSome y (P image)) → IfSome x S → IfSome y T → IfSome x (λ image. IfSome y (Q image))
with_both (Some image) (Some other) P S T Q more p one two = more image other p one two
with_both (Some image) None P S T Q more p one two = tt
with_both None y P S T Q more p one two = tt

told_some : (x : Option (List ℕ)) (image : List ℕ) (P : List ℕ → Type 0) → x ≡ Some image → IfSome x P → P image
told_some x image P is p = subst (λ (y : Option (List ℕ)). IfSome y P) is p

-- BYTES
-- a cut before an operation leaves the bytes before it
leaves_itself : (op : Op) (bytes : List ℕ) → MayLeave op bytes bytes
leaves_itself (Program address page) bytes = (record { size = refl; front = refl; back = refl }, λ are. are)
leaves_itself (Erase address n) bytes = (record { size = refl; front = refl; back = refl }, grown_self (piece address n bytes))

-- the bytes between two operations are sound where what a cut leaves is, and those at the exit
sound_between : (f : FlashRun) (k : ℕ) (image : List ℕ) (P : List ℕ → Type 0) → ((x : List ℕ) → IsCutImage f k x → P x) → IfSome (bytes_now f.exit) P → bytes_after f k ≡ Some image → P image
sound_between f k image P cuts exit is = by (slice_get f.operations k) refl is
  where
    by : (o : Option Change) → slice_get f.operations k ≡ o → option_map_or (λ x. Some x.before) o (bytes_now f.exit) ≡ Some image → P image
    by None at same = told_some (bytes_now f.exit) image P same exit
    by (Some x) at same =
        let before : x.before ≡ image = some_same x.before image same in
        subst P before (cuts x.before (x, at, leaves_itself x.op x.before))

-- PAYMENT
module _ (of other : ℕ → Bool) (all : (block : ℕ) → of block ≡ other block) where
  price_same : (c : Configuration) (s : State) (e : Entry) → price_for of c s e ≡ price_for other c s e
  price_same c s (Post block r given refused ops) = rw (all block) refl
  price_same c s (Ask caller r reply) = refl
  price_same c s (Pick block kind t ops) = refl
  price_same c s (Wrote i mark ops) = refl
  price_same c s (Off ops) = refl
  price_same c s (Found marks ops) = refl

  paid_same : (c : Configuration) (worn more : Worn) (n : ℕ) (s : State) (es : List Entry) → ((k m : ℕ) (urgent : Bool) → worn k m urgent → more k m urgent) → ArePaid of c worn n s es → ArePaid other c more n s es
  paid_same c worn more n s [] sooner paid = tt
  paid_same c worn more n s (e ∷ es) sooner (inl (cheap, rest)) = inl (
    subst (λ (p : ℕ). p ≤ n) (price_same c s e) cheap,
    subst (λ (p : ℕ). ArePaid other c more (n - p) (step c s e) es) (price_same c s e) (paid_same c worn more (n - price_for of c s e) (step c s e) es sooner rest),
  )
  paid_same c worn more n s (e ∷ es) sooner (inr (excused, rest)) = inr (excused_too c worn more s e sooner excused, paid_same c worn more n (step c s e) es sooner rest)

  pays_same : (c : Configuration) (worn more : Worn) (before after first last : ℕ) (h : List Entry) → ((k n : ℕ) (urgent : Bool) → worn k n urgent → more k n urgent)
      → ((n : ℕ) → WereCounted n before after → WereCounted n first last) → IsPaid of c worn before after h → IsPaid other c more first last h
  pays_same c worn more before after first last h sooner counts paid = record { faults = paid.faults; counted = counts paid.faults paid.counted; pay = paid_same c worn more paid.faults at_first h sooner paid.pay }

not_second : (f : Fixed) (block : ℕ) → is_of First f block ≡ not (is_of Second f block)
not_second f block = by (part_of_block f block)
  where
    by : (p : Part) → is_part First p ≡ not (is_part Second p)
    by First = refl
    by Second = refl

module _ (r : Run) (b : Beside) (before : Part → PartTold) (first second now : DeviceTold) (clock_first clock_second clock : Clock) (half : BlockHalfOfBoth r b before first second now clock)
    (over : AreOverBoth r b (has_cutter r.course) (before First) (before Second) first second now now clock_first clock_second clock clock)
    (maps : JoinsMaps (λ n. b.blocks (instance_of (record { 0 = n })).block) over.count first second now clock_first clock_second clock) where
  own_is : (p : Bool) (k : ℕ) → k ≤ now.ops → own_ops r b p k ≡ over.count p k
  own_is = clocks.own_is r b (has_cutter r.course) (before First) (before Second) first second now now clock_first clock_second clock clock over

  of_second : (k : ℕ) → k < now.ops → is_beside r.configuration r.history b k ≡ true → clock.of_second k
  of_second = clocks.of_second r b (has_cutter r.course) (before First) (before Second) first second now now clock_first clock_second clock clock over

  of_first : (k : ℕ) → k < now.ops → is_beside r.configuration r.history b k ≡ false → ¬ clock.of_second k
  of_first = clocks.of_first r b (has_cutter r.course) (before First) (before Second) first second now now clock_first clock_second clock clock over

  begins : StartsSound (making_first r.configuration) r.flash → BeginsSound (reading_of (making_first r.configuration)) r.flash
  begins = sound_starts_compute (making_first r.configuration) r.flash

  -- of each no more than it was asked for
  first_within : (k : ℕ) → k ≤ now.ops → k < last_count → own_ops r b false k ≤ length r.flash.operations
  first_within k few small = let is = own_is false k few in let less = (over.joins.within k few small).0 in let ops = over.of_first.ops in omega (arith, is, less, ops)

  second_within : (k : ℕ) → k ≤ now.ops → k < last_count → own_ops r b true k ≤ length b.flash.operations
  second_within k few small = let is = own_is true k few in let less = (over.joins.within k few small).1 in let ops = over.of_second.ops in omega (arith, is, less, ops)

  own_small : (p : Bool) (k : ℕ) → k < last_count → own_ops r b p k < last_count
  own_small p k small = let few = clocks.few_own p r.configuration r.history b k in omega (arith, few, small)

  -- an operation of one of them that was asked for is one of both that was
  was_asked : (k : ℕ) → k < last_count → (own_ops r b false k < length r.flash.operations) ⊎ (own_ops r b true k < length b.flash.operations) → k < now.ops
  was_asked k small asked = by (clocks.few_own false r.configuration r.history b k) asked
    where
      ops : now.ops ≡ min (first.ops + second.ops) last_count
      ops = over.joins.ops

      one : first.ops ≡ min (length r.flash.operations) last_count
      one = over.of_first.ops

      other : second.ops ≡ min (length b.flash.operations) last_count
      other = over.of_second.ops

      -- else all of both were made before it
      reached : now.ops ≤ k → (own_ops r b false now.ops ≡ first.ops) × (own_ops r b true now.ops ≡ second.ops)
      reached less =
          let own_first = own_is false now.ops (omega arith) in
          let own_second = own_is true now.ops (omega arith) in
          let within = over.joins.within now.ops (omega arith) (omega (arith, less, small)) in
          let sum : own_ops r b false now.ops + own_ops r b true now.ops ≡ now.ops = of_either r.configuration r.history b now.ops in
          let few_first = within.0 in let few_second = within.1 in
          (omega (arith, own_first, own_second, few_first, few_second, sum, ops, less, small), omega (arith, own_first, own_second, few_first, few_second, sum, ops, less, small))

      late : now.ops ≤ k → (own_ops r b false k < length r.flash.operations) ⊎ (own_ops r b true k < length b.flash.operations) → ⊥
      late less (inl few) = let all = (reached less).0 in let more : own_ops r b false now.ops ≤ own_ops r b false k = no_fewer r.configuration r.history b false now.ops k less in omega (arith, few, all, more, one, ops, less, small)
      late less (inr few) = let all = (reached less).1 in let more : own_ops r b true now.ops ≤ own_ops r b true k = no_fewer r.configuration r.history b true now.ops k less in omega (arith, few, all, more, other, ops, less, small)

      by : own_ops r b false k ≤ k → (own_ops r b false k < length r.flash.operations) ⊎ (own_ops r b true k < length b.flash.operations) → k < now.ops
      by few asked = elim (cases_lt k now.ops) [
        | inl less ↦ less
        | inr more ↦ absurd (late more asked)
      ]

  -- MAPS
  found_after : (k : ℕ) → k ≤ now.ops → k < last_count → TellsBytes r.flash → StartsSound (making_first r.configuration) r.flash → TellsBytes b.flash → BeginsSound b.reading b.flash
      → IfBothAfter r b k (λ image other. clock.may_find (After k) (held_both r.configuration b image other))
  found_after k few small told sound tells from =
      let m = making_first r.configuration in
      both_told (bytes_after r.flash (own_ops r b false k)) (bytes_after b.flash (own_ops r b true k)) (λ image. clock_first.may_find (After (own_ops r b false k)) (held_in m image)) (λ other. clock_second.may_find (After (own_ops r b true k)) (b.reading.held other)) _
      (λ image other one two. maps.after k (held_in m image) (b.reading.held other) few small
      (subst (λ (n : ℕ). clock_first.may_find (After n) (held_in m image)) (own_is false k few) one) (subst (λ (n : ℕ). clock_second.may_find (After n) (b.reading.held other)) (own_is true k few) two))
      (over.of_first.after told (own_ops r b false k) (inl (begins sound)) (first_within k few small) (own_small false k small))
      (over.of_second.after tells (own_ops r b true k) (inl from) (second_within k few small) (own_small true k small))

  -- an image that a cut may leave, beside the bytes of the other flash
  abbrev CutFound : ℕ → List ℕ → List ℕ → Type 0
  CutFound k image other =
      (k < now.ops) × clock.may_find (CutIn k) (held_both r.configuration b image other) × IsSoundFlash (making_first r.configuration) image × IsTrue (b.reading.is_sound other)

  cut_found : (k : ℕ) (image other : List ℕ) → k < last_count → TellsOperations r.flash → StartsSound (making_first r.configuration) r.flash → TellsOperations b.flash → BeginsSound b.reading b.flash
      → (t : Bool) → is_beside r.configuration r.history b k ≡ t
      → IfElse t ((bytes_after r.flash (own_ops r b false k) ≡ Some image) × IsCutImage b.flash (own_ops r b true k) other) (IsCutImage r.flash (own_ops r b false k) image × (bytes_after b.flash (own_ops r b true k) ≡ Some other))
      → CutFound k image other
  cut_found k image other small told sound tells from true of (at, cut) =
      let m = making_first r.configuration in
      let few : k < now.ops = was_asked k small (inr (one_of (own_ops r b true k) b.flash.operations cut.0 cut.1)) in (
        few,
        maps.cut_second k (held_in m image) (b.reading.held other) few small (of_second k few of)
            (subst (λ (n : ℕ). clock_first.may_find (After n) (held_in m image)) (own_is false k (omega (arith, few)))
            (told_some (bytes_after r.flash (own_ops r b false k)) image (λ x. clock_first.may_find (After (own_ops r b false k)) (held_in m x)) at
            (over.of_first.after told.bytes (own_ops r b false k) (inl (begins sound)) (first_within k (omega (arith, few)) small) (own_small false k small))))
            (subst (λ (n : ℕ). clock_second.may_find (CutIn n) (b.reading.held other)) (own_is true k (omega (arith, few))) (over.of_second.cut tells from (own_ops r b true k) other (own_small true k small) cut)),
        (sound_flashes_compute m image).0
            (sound_between r.flash (own_ops r b false k) image (λ x. IsTrue ((reading_of m).is_sound x)) (λ x is. over.of_first.sound_cut told (begins sound) (own_ops r b false k) x (own_small false k small) is) (over.of_first.sound told.bytes (begins sound)) at),
        over.of_second.sound_cut tells from (own_ops r b true k) other (own_small true k small) cut,
      )
  cut_found k image other small told sound tells from false of (cut, at) =
      let m = making_first r.configuration in
      let few : k < now.ops = was_asked k small (inl (one_of (own_ops r b false k) r.flash.operations cut.0 cut.1)) in (
        few,
        maps.cut_first k (held_in m image) (b.reading.held other) few small (of_first k few of)
            (subst (λ (n : ℕ). clock_first.may_find (CutIn n) (held_in m image)) (own_is false k (omega (arith, few))) (over.of_first.cut told (begins sound) (own_ops r b false k) image (own_small false k small) cut))
            (subst (λ (n : ℕ). clock_second.may_find (After n) (b.reading.held other)) (own_is true k (omega (arith, few)))
            (told_some (bytes_after b.flash (own_ops r b true k)) other (λ x. clock_second.may_find (After (own_ops r b true k)) (b.reading.held x)) at
            (over.of_second.after tells.bytes (own_ops r b true k) (inl from) (second_within k (omega (arith, few)) small) (own_small true k small)))),
        (sound_flashes_compute m image).0 (over.of_first.sound_cut told (begins sound) (own_ops r b false k) image (own_small false k small) cut),
        sound_between b.flash (own_ops r b true k) other (λ x. IsTrue (b.reading.is_sound x)) (λ x is. over.of_second.sound_cut tells from (own_ops r b true k) x (own_small true k small) is) (over.of_second.sound tells.bytes from) at,
      )

  cuts_keep : TellsOperations r.flash → StartsSound (making_first r.configuration) r.flash → CutsKeepBoth r b
  cuts_keep told sound tells from k image other small cut =
      let (few, finds, one, two) = cut_found k image other small told sound tells from (is_beside r.configuration r.history b k) refl cut in
      record { marks = half.over.cut k (held_both r.configuration b image other) small few finds; sound = one; sound_beside = two }

  cuts_count : TellsOperations r.flash → StartsSound (making_first r.configuration) r.flash → CutsCountBoth r b
  cuts_count told sound tells from k ops image other small cut last =
      let (few, finds, one, two) = cut_found k image other small told sound tells from (is_beside r.configuration r.history b k) refl cut in
      let soon : ops ≤ k = last_soon r.configuration r.most k r.history ops half.over.legal last in
      if_both (bytes_after r.flash (own_ops r b false ops)) (bytes_after b.flash (own_ops r b true ops)) (λ x y. clock.may_find (After ops) (held_both r.configuration b x y)) _
      (λ x y found. half.over.counts k ops (held_both r.configuration b x y) (held_both r.configuration b image other) small few finds last found)
      (found_after ops (omega (arith, soon, few)) (omega (arith, soon, small)) told.bytes sound tells.bytes from)

  start_ups_find : TellsBytes r.flash → StartsSound (making_first r.configuration) r.flash → StartUpsFindBoth r b
  start_ups_find told sound tells from marks ops has small =
      if_both (bytes_after r.flash (own_ops r b false ops)) (bytes_after b.flash (own_ops r b true ops)) (λ x y. clock.may_find (After ops) (held_both r.configuration b x y)) _
      (λ x y found. half.over.found marks ops (held_both r.configuration b x y) has small found)
      (found_after ops (half.over.counted (Found marks ops) ops has refl) small told sound tells from)

  exit_keeps : TellsBytes r.flash → StartsSound (making_first r.configuration) r.flash → ExitKeepsBoth r b
  exit_keeps told sound tells from started small =
      let m = making_first r.configuration in
      let ops = over.joins.ops in let one = over.of_first.ops in let two = over.of_second.ops in
      let all : now.ops < last_count = omega (arith, small, ops, one, two) in
      let within = over.joins.within now.ops (omega arith) all in
      let own_first = own_is false now.ops (omega arith) in
      let own_second = own_is true now.ops (omega arith) in
      let sum : own_ops r b false now.ops + own_ops r b true now.ops ≡ now.ops = of_either r.configuration r.history b now.ops in
      let few_first = within.0 in let few_second = within.1 in
      let first_all : own_ops r b false now.ops ≡ length r.flash.operations = omega (arith, small, ops, one, two, own_first, own_second, sum, few_first, few_second) in
      let second_all : own_ops r b true now.ops ≡ length b.flash.operations = omega (arith, small, ops, one, two, own_first, own_second, sum, few_first, few_second) in
      let at_first : bytes_after r.flash (own_ops r b false now.ops) ≡ bytes_now r.flash.exit = ap (λ (n : ℕ). bytes_after r.flash n) first_all ∙ ap (λ (o : Option Change). option_map_or (λ x. Some x.before) o (bytes_now r.flash.exit)) (past r.flash.operations) in
      let at_second : bytes_after b.flash (own_ops r b true now.ops) ≡ bytes_now b.flash.exit = ap (λ (n : ℕ). bytes_after b.flash n) second_all ∙ ap (λ (o : Option Change). option_map_or (λ x. Some x.before) o (bytes_now b.flash.exit)) (past b.flash.operations) in
      let finds : IfSome (bytes_now r.flash.exit) (λ x. IfSome (bytes_now b.flash.exit) (λ y. clock.may_find (After now.ops) (held_both r.configuration b x y))) =
      subst (λ (p : Option (List ℕ)). IfSome p (λ x. IfSome (bytes_now b.flash.exit) (λ y. clock.may_find (After now.ops) (held_both r.configuration b x y)))) at_first
      (subst (λ (q : Option (List ℕ)). IfSome (bytes_after r.flash (own_ops r b false now.ops)) (λ x. IfSome q (λ y. clock.may_find (After now.ops) (held_both r.configuration b x y)))) at_second (found_after now.ops (omega arith) all told sound tells from)) in
      with_both (bytes_now r.flash.exit) (bytes_now b.flash.exit) (λ x y. clock.may_find (After now.ops) (held_both r.configuration b x y)) (λ x. IsTrue ((reading_of m).is_sound x)) (λ y. IsTrue (b.reading.is_sound y)) _
      (λ x y found sound_x sound_y. record { marks = half.over.at_end (held_both r.configuration b x y) started all found; sound = (sound_flashes_compute m x).0 sound_x; sound_beside = sound_y })
      finds (over.of_first.sound told (begins sound)) (over.of_second.sound tells from)

  -- OPERATIONS
  total : last_count ≤ first.ops + second.ops → last_count ≤ of_both (λ f. length f.operations) r b
  total many = let one = over.of_first.ops in let two = over.of_second.ops in omega (arith, many, one, two)

  kept_first : (n : ℕ) → IsTrue (has_cutter r.course) × ((last_count ≤ n) ⊎ clock_first.off_in n) → MayBeKeptOf r b false n
  kept_first n (cutter, inl past_end) = (cutter, inl past_end)
  kept_first n (cutter, inr off) = (
    cutter,
    inr (elim (maps.off_first n off) [
      | inl many ↦ inl (total many)
      | inr at ↦ inr (by at.0 at.1 at.2 at.3 at.4 (is_beside r.configuration r.history b at.0) refl)
    ]),
  )
    where
      by : (k : ℕ) → k < now.ops → over.count false k ≡ n → ¬ clock.of_second k → clock.off_in k → (t : Bool) → is_beside r.configuration r.history b k ≡ t → HasOffOf r b false n
      by k few number apart off true of = absurd (apart (of_second k few of))
      by k few number apart off false of = record { operation = k; whose = of; number = own_is false k (omega (arith, few)) ∙ number; off = half.over.off k off }

  kept_second : (n : ℕ) → IsTrue (has_cutter r.course) × ((last_count ≤ n) ⊎ clock_second.off_in n) → MayBeKeptOf r b true n
  kept_second n (cutter, inl past_end) = (cutter, inl past_end)
  kept_second n (cutter, inr off) = (
    cutter,
    inr (elim (maps.off_second n off) [
      | inl many ↦ inl (total many)
      | inr at ↦ inr (by at.0 at.1 at.2 at.3 at.4 (is_beside r.configuration r.history b at.0) refl)
    ]),
  )
    where
      by : (k : ℕ) → k < now.ops → over.count true k ≡ n → clock.of_second k → clock.off_in k → (t : Bool) → is_beside r.configuration r.history b k ≡ t → HasOffOf r b true n
      by k few number is off true of = record { operation = k; whose = of; number = own_is true k (omega (arith, few)) ∙ number; off = half.over.off k off }
      by k few number is off false of = absurd (of_first k few of is)

  worn_out : (t : Bool) (k n : ℕ) (urgent : Bool) → b.blocks (instance_of (record { 0 = n })).block ≡ t → clock.worn k n urgent → IsWornOfBoth r b k n urgent
  worn_out true k n urgent of worn =
      let (moment, soon, is) = over.joins.worn_second k n urgent of worn in record {
        second = true;
        of = of;
        moment = moment;
        by_then = λ small.
            let own = own_is true (min k now.ops) (omega arith) in
            let more : own_ops r b true (min k now.ops) ≤ own_ops r b true k = no_fewer r.configuration r.history b true (min k now.ops) k (omega arith) in
            let least = soon small in omega (arith, own, more, least);
        is = over.of_second.worn moment n urgent is;
      }
  worn_out false k n urgent of worn =
      let (moment, soon, is) = over.joins.worn_first k n urgent of worn in record {
        second = false;
        of = of;
        moment = moment;
        by_then = λ small.
            let own = own_is false (min k now.ops) (omega arith) in
            let more : own_ops r b false (min k now.ops) ≤ own_ops r b false k = no_fewer r.configuration r.history b false (min k now.ops) k (omega arith) in
            let least = soon small in omega (arith, own, more, least);
        is = worn_banks_compute (making_first r.configuration) r.flash moment n urgent (over.of_first.worn moment n urgent is);
      }

  faults_first : (n : ℕ) → WereCounted n (before First).faults now.first.faults → WereCounted n r.flash.entry.faults r.flash.exit.faults
  faults_first n counted = over.of_first.faults n (subst (λ (p : PartTold). WereCounted n (before First).faults p.faults) over.parts.0 counted)

  faults_second : (n : ℕ) → WereCounted n (before Second).faults now.second.faults → WereCounted n b.flash.entry.faults b.flash.exit.faults
  faults_second n counted = over.of_second.faults n (subst (λ (p : PartTold). WereCounted n (before Second).faults p.faults) over.parts.1 counted)

  more_worn : (k n : ℕ) (urgent : Bool) → clock.worn k n urgent → IsWornOfBoth r b k n urgent
  more_worn k n urgent worn = worn_out (b.blocks (instance_of (record { 0 = n })).block) k n urgent refl worn

pub halves_make_both : HalvesMakeBoth
halves_make_both r b before first second now clock_first clock_second clock half over maps wear = record {
  beside = half.beside;
  order = half.order;
  power_cut = cuts_keep r b before first second now clock_first clock_second clock half over maps;
  counts = cuts_count r b before first second now clock_first clock_second clock half over maps;
  found = start_ups_find r b before first second now clock_first clock_second clock half over maps;
  at_exit = exit_keeps r b before first second now clock_first clock_second clock half over maps;
  block_machine = half.over.legal;
  faults = (
    pays_same (is_of First now.fixed) (λ block. not (b.blocks block)) (λ block. not_second now.fixed block ∙ ap (λ (p : Bool). not p) (sym (over.blocks block))) r.configuration clock.worn (IsWornOfBoth r b) (before First).faults now.first.faults r.flash.entry.faults r.flash.exit.faults r.history
        (more_worn r b before first second now clock_first clock_second clock half over maps) (faults_first r b before first second now clock_first clock_second clock half over maps) (half.over.paid First),
    pays_same (is_of Second now.fixed) b.blocks (λ block. sym (over.blocks block)) r.configuration clock.worn (IsWornOfBoth r b) (before Second).faults now.second.faults b.flash.entry.faults b.flash.exit.faults r.history
        (more_worn r b before first second now clock_first clock_second clock half over maps) (faults_second r b before first second now clock_first clock_second clock half over maps) (half.over.paid Second),
  );
  wear = wear;
  refusals = half.refusals;
  own = half.own;
  other = half.other;
  off = record {
    merged = half.merged;
    are = half.are;
    counted = over.of_first.cuts half.own.others (subst (λ (p : PartTold). WereCounted half.own.others (before First).planning.unplanned p.planning.unplanned) over.parts.0 half.counted);
    counted_beside = over.of_second.cuts half.other.others (subst (λ (p : PartTold). WereCounted half.other.others (before Second).planning.unplanned p.planning.unplanned) over.parts.1 half.counted_second);
  };
  operations = λ started. (
    subst (AreOperations r.configuration.geometry r.flash (MayBeKeptOf r b false)) half.came.0 (record {
      told_alike = over.of_first.operations.told_alike;
      chain = over.of_first.operations.chain;
      seen = λ t. seen_more (λ k. IsTrue (has_cutter r.course) × ((last_count ≤ k) ⊎ clock_first.off_in k)) (MayBeKeptOf r b false) 0 t.bytes.last r.flash.operations (cuts_of (has_cutter r.course) first) t.changes
          (kept_first r b before first second now clock_first clock_second clock half over maps) (over.of_first.operations.seen t);
      counted = over.of_first.operations.counted;
      told = over.of_first.operations.told;
    }),
    subst (AreOperations b.reading.geometry b.flash (MayBeKeptOf r b true)) half.came.1 (record {
      told_alike = over.of_second.operations.told_alike;
      chain = over.of_second.operations.chain;
      seen = λ t. seen_more (λ k. IsTrue (has_cutter r.course) × ((last_count ≤ k) ⊎ clock_second.off_in k)) (MayBeKeptOf r b true) 0 t.bytes.last b.flash.operations (cuts_of (has_cutter r.course) second) t.changes
          (kept_second r b before first second now clock_first clock_second clock half over maps) (over.of_second.operations.seen t);
      counted = over.of_second.operations.counted;
      told = over.of_second.operations.told;
    }),
  );
  begins = half.over.begins;
  counted = λ e ops has is. let most = half.over.counted e ops has is in let ops = over.joins.ops in let one = over.of_first.ops in let two = over.of_second.ops in omega (arith, most, ops, one, two);
}
