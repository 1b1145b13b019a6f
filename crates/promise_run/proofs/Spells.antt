-- The life of a unit, spell by spell.
use Rattle.std.specs.Prelude.{Contains, slice_get, cond, IfSome}
use Rattle.std.specs.List.{list_any}
use Rattle.std.specs.Option.{option_map_or}
use Rattle.std.proofs.Common.{◌≡◌, ◌⊎◌, ◌||◌, ℕ, zero, suc, Bool, List, [], ◌∷◌, Option, Some, None, refl, sym, subst, ap, ◌∙◌, inl, inr, arith}
use Rattle.std.proofs.Math.Dec.{leb-zero}
use Rattle.block_machine.specs.nv_base.Geometry.{size_of}
use Rattle.block_machine.specs.nv_base.declared.geometry.Geometry.{Geometry}
use Rattle.block_machine.specs.nv_base.declared.instance.DeviceNumber.{DeviceNumber}
use Rattle.block_machine.specs.nv_base.Marks.{instance_of}
use Rattle.block_machine.specs.block_config.Lengths.{lengths_of}
use Rattle.fls_model.specs.Told.{Change, IfBothTold, bytes_now}
use Rattle.fls_model.specs.Attach.{enlarged}
use Rattle.memif.specs.Told.{length_of}
use Rattle.block_machine.specs.Words.{Instance, Mark, Entry, Ask, Pick, Wrote, Post, Off, Found, Configuration}
use Rattle.block_machine.specs.StartUp.{at_first, listed_mark}
use Rattle.block_machine.specs.History.{up_to, is_driver_until}
use Rattle.block_machine.specs.Accepted.{IsNotOlder, IsTakenIn}
use Rattle.promise_blocks.specs.Marks.{Lists}
use Rattle.promise_blocks.specs.OverDevice.{BeginsBefore, HasStarted}
use Rattle.fee_image.specs.Sound.{IsSoundImage}
use Rattle.promise_device.specs.Making.{banks_of}
use Rattle.promise_device.specs.Image.{held_as, IsSoundFlash}
use Rattle.promise_device.specs.FlashRun.{TellsBytes, StartsSound, bytes_after, IsChain}
use Rattle.promise_run.specs.Run.{Run, HasOrder, alone}
use Rattle.promise_run.specs.Promise.{Promise, Keeps, found_by, making_of}
use Rattle.promise_run.specs.Life.{Spell, IsSpell, LeavesImage, history_by, Holds, UnitsHoldMarks}

-- a flash that was enlarged is large enough
twice : (n : ℕ) (bytes : List ℕ) → enlarged n (enlarged n bytes) ≡ enlarged n bytes
twice zero [] = refl
twice (suc n) [] = refl
twice n (x ∷ xs) = refl

-- WHAT ONE SPELL COMES TO
record Passes (c : Configuration) (first : List ℕ) (h : List Entry) (image : List ℕ) : Type 0 where
  sound : IsSoundFlash (making_of c) image
  newest : (x : DeviceNumber × ℕ) → Contains (lengths_of c) x → IsNotOlder c h (instance_of x.0) (found_by c image x.0.0)
  taken : (x : DeviceNumber × ℕ) → Contains (lengths_of c) x → (found_by c image x.0.0 ≡ found_by c first x.0.0) ⊎ IsTakenIn c h at_first (instance_of x.0) (found_by c image x.0.0) h

same_found : (c : Configuration) (a b : List ℕ) (n : ℕ) → enlarged (size_of c.geometry) a ≡ enlarged (size_of c.geometry) b → found_by c a n ≡ found_by c b n
same_found c a b n same = ap (λ (bytes : List ℕ). (held_as (banks_of (making_of c)) bytes n (length_of (lengths_of c) n)).mark) same

-- where no start-up was made the image is the same, once it is enlarged
idles : (c : Configuration) (first image : List ℕ) → IsSoundFlash (making_of c) first → enlarged (size_of c.geometry) image ≡ enlarged (size_of c.geometry) first → Passes c first [] image
idles c first image sound same = record {
  sound = subst (λ (bytes : List ℕ). IsSoundImage (banks_of (making_of c)) bytes) (sym same) sound;
  newest = λ x has. tt;
  taken = λ x has. inl (same_found c image first x.0.0 same);
}

-- where one was, the marks keep to the history, which begins with what was found in the first image
keeps_on : (c : Configuration) (first image : List ℕ) (marks : List (Instance × Mark)) (es : List Entry)
    → Keeps c (Found marks 0 ∷ es) image → Lists c marks (found_by c first) → Passes c first (Found marks 0 ∷ es) image
keeps_on c first image marks es keeps lists = record {
  sound = keeps.sound;
  newest = keeps.marks.newest;
  taken = λ x has. elim ((keeps.marks.newest x has).0 (listed_mark marks (instance_of x.0)) refl) [
    | inl is ↦ inl (is ∙ lists x has)
    | inr later ↦ inr (inr later)
  ];
}

-- THE FIRST START-UP
begins_with : (h : List Entry) → BeginsBefore h → (h ≡ []) ⊎ ((marks : List (Instance × Mark)) × (es : List Entry) × (h ≡ Found marks 0 ∷ es))
begins_with [] is = inl refl
begins_with (Found marks ops ∷ es) is = inr (marks, es, ap (λ (n : ℕ). Found marks n ∷ es) is)
begins_with (Ask caller r reply ∷ es) is = absurd is
begins_with (Pick block kind t ops ∷ es) is = absurd is
begins_with (Wrote i mark ops ∷ es) is = absurd is
begins_with (Post block r given refused ops ∷ es) is = absurd is
begins_with (Off ops ∷ es) is = absurd is

starts_with : (ops : List Change) (exit : Option (List ℕ)) (start last : List ℕ) → exit ≡ Some last → IsChain start ops last → option_map_or (λ x. Some x.before) (slice_get ops 0) exit ≡ Some start
starts_with [] exit start last told chain = told ∙ ap (λ (bytes : List ℕ). Some bytes) chain
starts_with (x ∷ xs) exit start last told chain = ap (λ (bytes : List ℕ). Some bytes) chain.0

-- it lists what was found in the first image
lists_first : (r : Run) (t : TellsBytes r.flash) (marks : List (Instance × Mark)) (es : List Entry) → Promise (alone r) → StartsSound (making_of r.configuration) r.flash
    → r.history ≡ Found marks 0 ∷ es → Lists r.configuration marks (found_by r.configuration t.first)
lists_first r t marks es promise sound is x has =
    let c = r.configuration in
    let first : Contains r.history (Found marks 0) = subst (λ (h : List Entry). Contains h (Found marks 0)) (sym is) (0, omega arith, refl) in
    let started : HasStarted r.history = subst (λ (h : List Entry). HasStarted h) (sym is) tt in
    let told : bytes_after r.flash 0 ≡ Some (enlarged (size_of c.geometry) t.first) =
    starts_with r.flash.operations (bytes_now r.flash.exit) (enlarged (size_of c.geometry) t.first) t.last t.exit ((promise.operations started).chain t) in
    let listed : Lists c marks (found_by c (enlarged (size_of c.geometry) t.first)) =
    subst (λ (bytes : Option (List ℕ)). IfSome bytes (λ image. Lists c marks (found_by c image))) told (promise.found t sound marks 0 first (omega arith)) in
    listed x has ∙ same_found c (enlarged (size_of c.geometry) t.first) t.first x.0.0 (twice (size_of c.geometry) t.first)

-- ONE SPELL
both_are : (g : Geometry) (entry exit : Option (List ℕ)) (first image : List ℕ) → entry ≡ Some first → exit ≡ Some image
    → IfBothTold entry exit (λ old new. (new ≡ old) ⊎ (new ≡ enlarged (size_of g) old)) → enlarged (size_of g) image ≡ enlarged (size_of g) first
both_are g entry exit first image a b both =
    let left : IfBothTold (Some first) exit (λ old new. (new ≡ old) ⊎ (new ≡ enlarged (size_of g) old)) =
    subst (λ (o : Option (List ℕ)). IfBothTold o exit (λ old new. (new ≡ old) ⊎ (new ≡ enlarged (size_of g) old))) a both in
    let all : (image ≡ first) ⊎ (image ≡ enlarged (size_of g) first) =
    subst (λ (o : Option (List ℕ)). IfBothTold (Some first) o (λ old new. (new ≡ old) ⊎ (new ≡ enlarged (size_of g) old))) b left in
    elim all [
      | inl same ↦ ap (λ (bytes : List ℕ). enlarged (size_of g) bytes) same
      | inr grown ↦ ap (λ (bytes : List ℕ). enlarged (size_of g) bytes) grown ∙ twice (size_of g) first
    ]

-- without a start-up no operation can be cut
idle_spell : (r : Run) (cut : Option ℕ) (first image : List ℕ) → Promise (alone r) → bytes_now r.flash.entry ≡ Some first → LeavesImage r cut image
    → IsSoundFlash (making_of r.configuration) first → r.history ≡ [] → Passes r.configuration first (history_by cut r.history) image
idle_spell r None first image promise starts leaves sound empty =
    let order : HasOrder (alone r) [] = subst (λ (h : List Entry). HasOrder (alone r) h) empty promise.order in
    subst (λ (h : List Entry). Passes r.configuration first h image) (sym empty)
    (idles r.configuration first image sound (both_are r.configuration.geometry (bytes_now r.flash.entry) (bytes_now r.flash.exit) first image starts leaves.0 order.2.bytes))
idle_spell r (Some k) first image promise starts leaves sound empty =
    let order : HasOrder (alone r) [] = subst (λ (h : List Entry). HasOrder (alone r) h) empty promise.order in
    let none : slice_get r.flash.operations k ≡ None = ap (λ (ops : List Change). slice_get ops k) order.2.none in
    absurd (cc (none, leaves.2.1))

-- the history by then begins with the first start-up
begins_too : (k : ℕ) (marks : List (Instance × Mark)) (es : List Entry) → up_to k (Found marks 0 ∷ es) ≡ Found marks 0 ∷ up_to k es
begins_too k marks es = ap (λ (b : Bool). cond (b || list_any (is_driver_until k) es) (Found marks 0 ∷ up_to k es) []) (leb-zero k)

sound_start : (r : Run) (first : List ℕ) → bytes_now r.flash.entry ≡ Some first → IsSoundFlash (making_of r.configuration) first → StartsSound (making_of r.configuration) r.flash
sound_start r first starts sound = subst (λ (bytes : Option (List ℕ)). IfSome bytes (IsSoundFlash (making_of r.configuration))) (sym starts) sound

busy_spell : (r : Run) (cut : Option ℕ) (first image : List ℕ) (marks : List (Instance × Mark)) (es : List Entry) → Promise (alone r) → bytes_now r.flash.entry ≡ Some first → LeavesImage r cut image
    → IsSoundFlash (making_of r.configuration) first → r.history ≡ Found marks 0 ∷ es → Passes r.configuration first (history_by cut r.history) image
busy_spell r None first image marks es promise starts leaves sound is =
    let t : TellsBytes r.flash = record { first = first; entry = starts; last = image; exit = leaves.0 } in
    let from : StartsSound (making_of r.configuration) r.flash = sound_start r first starts sound in
    let started : HasStarted r.history = subst (λ (h : List Entry). HasStarted h) (sym is) tt in
    let keeps : Keeps r.configuration r.history image =
    subst (λ (bytes : Option (List ℕ)). IfSome bytes (Keeps r.configuration r.history)) leaves.0 (promise.at_exit t from started leaves.1) in
    subst (λ (h : List Entry). Passes r.configuration first h image) (sym is)
    (keeps_on r.configuration first image marks es (subst (λ (h : List Entry). Keeps r.configuration h image) is keeps) (lists_first r t marks es promise from is))
busy_spell r (Some k) first image marks es promise starts leaves sound is =
    let t : TellsBytes r.flash = record { first = first; entry = starts; last = leaves.0.bytes.last; exit = leaves.0.bytes.exit } in
    let from : StartsSound (making_of r.configuration) r.flash = sound_start r first starts sound in
    let same : up_to k r.history ≡ Found marks 0 ∷ up_to k es = ap (λ (h : List Entry). up_to k h) is ∙ begins_too k marks es in
    let keeps : Keeps r.configuration (up_to k r.history) image = promise.power_cut leaves.0 from k image leaves.1 leaves.2 in
    subst (λ (h : List Entry). Passes r.configuration first h image) (sym same)
    (keeps_on r.configuration first image marks (up_to k es) (subst (λ (h : List Entry). Keeps r.configuration h image) same keeps) (lists_first r t marks es promise from is))

passes_by : (r : Run) (cut : Option ℕ) (first image : List ℕ) → Promise (alone r) → bytes_now r.flash.entry ≡ Some first → LeavesImage r cut image
    → IsSoundFlash (making_of r.configuration) first → Passes r.configuration first (history_by cut r.history) image
passes_by r cut first image promise starts leaves sound = elim (begins_with r.history promise.begins) [
  | inl empty ↦ idle_spell r cut first image promise starts leaves sound empty
  | inr (marks, es, is) ↦ busy_spell r cut first image marks es promise starts leaves sound is
]

passes : (c : Configuration) (first image : List ℕ) (x : Spell) → IsSpell c first x image → IsSoundFlash (making_of c) first → Passes c first (history_by x.cut x.run.history) image
passes c first image x spell = subst (λ (d : Configuration). IsSoundFlash (making_of d) first → Passes d first (history_by x.cut x.run.history) image) spell.same_unit
    (passes_by x.run x.cut first image (subst Promise (λ i. record x.run { beside = spell.alone i }) spell.promise) spell.starts spell.leaves)

-- ONE AFTER ANOTHER
both : (c : Configuration) (first image last : List ℕ) (x : Spell) (xs : List Spell) → Passes c first (history_by x.cut x.run.history) image → Holds c image xs last → Holds c first (x ∷ xs) last
both c first image last x xs one more =
    let h = history_by x.cut x.run.history in
    record {
      newest = λ y has. (
        elim (more.taken y has) [
          | inl same ↦ inl (subst (λ (m : Mark). IsNotOlder c h (instance_of y.0) m) (sym same) (one.newest y has))
          | inr later ↦ inr later
        ],
        more.newest y has,
      );
      taken = λ y has. elim (more.taken y has) [
        | inl same ↦ elim (one.taken y has) [
          | inl before ↦ inl (same ∙ before)
          | inr now ↦ inr (inl (subst (λ (m : Mark). IsTakenIn c h at_first (instance_of y.0) m h) (sym same) now))
        ]
        | inr later ↦ inr (inr later)
      ];
      sound = more.sound;
    }

pub holds : UnitsHoldMarks
holds c first [] last sound same = record {
  newest = λ x has. tt;
  taken = λ x has. inl (ap (λ (bytes : List ℕ). found_by c bytes x.0.0) same);
  sound = subst (λ (bytes : List ℕ). IsSoundFlash (making_of c) bytes) (sym same) sound;
}
holds c first (x ∷ xs) last sound (image, spell, rest) =
    let one : Passes c first (history_by x.cut x.run.history) image = passes c first image x spell sound in
    both c first image last x xs one (holds c image xs last one.sound rest)
