-- The operations that a cutter tells, and those of the flash within it.
use Rattle.std.specs.Prelude.{IsTrue, slice_get, ◌++◌, take, drop, map}
use Rattle.std.specs.List.{list_all}
use Rattle.std.proofs.Common.{◌≡◌, inl, inr, ℕ, zero, suc, ◌+◌, true, List, [], ◌∷◌, Some, refl, subst, arith}
use Rattle.std.proofs.lemmas.Bool.{and_parts}
use Rattle.memif_fee_ea.specs.fee_core.nv_base.declared.geometry.Geometry.{Geometry}
use Rattle.memif_fee_ea.specs.fee_core.fls_model.declared.flash.FlashAnswer.{FlashAnswer}
use Rattle.memif_fee_ea.specs.fee_core.fls_model.declared.flash.FlashAnswer.TheVariants.{Done, Failed, Off}
use Rattle.memif_fee_ea.specs.fee_core.fls_model.Call.{op_of}
use Rattle.memif_fee_ea.specs.fee_core.fls_model.Told.{Change}
use Rattle.fls_devices.specs.Journal.{Harmed, has_reached, HasPart, HaveParts, change_of, before_all, without_part, merged}
use Rattle.fls_devices.specs.Part.{off_of}
use Rattle.memif_fee_ea.specs.fee_core.promise_device.FlashRun.{AreSeen, next_bytes}
use Rattle.memif_fee_ea.proofs.FlashRun.{seen_all}

-- THE ANSWERS
off_is : (a : FlashAnswer) → off_of a ≡ true → a ≡ Off
off_is Done off = cc
off_is Failed off = cc
off_is Off off = refl

-- OPERATIONS THAT WERE ANSWERED OFF
abbrev pub OffsKept : (ℕ → Type 0) → ℕ → List Change → Type 0
OffsKept kept k [] = Unit {0}
OffsKept kept k (x ∷ xs) = (x.answer ≡ Off → kept k) × OffsKept kept (k + 1) xs

pub offs_kept : (kept : ℕ → Type 0) (k : ℕ) (xs : List Change) → ((i : ℕ) (x : Change) → slice_get xs i ≡ Some x → x.answer ≡ Off → kept (k + i)) → OffsKept kept k xs
offs_kept kept k [] all = tt
offs_kept kept k (x ∷ xs) all = (
  (λ off. subst kept (omega arith) (all 0 x refl off)),
  offs_kept kept (k + 1) xs (λ i y at off. subst kept (omega arith) (all (suc i) y at off)),
)

-- THE BYTES BEFORE
next_is_before : (cs : List Change) (last : List ℕ) → next_bytes cs last ≡ before_all cs last
next_is_before [] last = refl
next_is_before (c ∷ cs) last = refl

next_front : (n : ℕ) (cs rest : List Change) (x : Change) (last : List ℕ) → x.before ≡ before_all (drop n cs) last → next_bytes (take n cs ++ x ∷ rest) last ≡ before_all cs last
next_front zero cs rest x last is = is
next_front (suc n) [] rest x last is = is
next_front (suc n) (c ∷ cs) rest x last is = refl

next_merged : (g : Geometry) (es : List Harmed) (cs : List Change) (last : List ℕ) → next_bytes (merged g es cs last) last ≡ before_all cs last
next_merged g [] cs last = next_is_before cs last
next_merged g (e ∷ es) cs last =
    next_front e.since cs (merged g es (without_part (has_reached e.keep) (drop e.since cs)) last) (change_of g e (before_all (drop e.since cs) last)) last refl

-- THE OPERATIONS
abbrev pub keeps_of : List Harmed → List ℕ
keeps_of es = map (λ e. e.keep) es

seen_front : (kept : ℕ → Type 0) (last cuts : List ℕ) (n k : ℕ) (cs rest : List Change) → OffsKept kept k (take n cs ++ rest)
    → ((j : ℕ) → OffsKept kept j rest → AreSeen kept j last rest cuts (drop n cs)) → AreSeen kept k last (take n cs ++ rest) cuts cs
seen_front kept last cuts zero k cs rest offs more = more k offs
seen_front kept last cuts (suc n) k [] rest offs more = more k offs
seen_front kept last cuts (suc n) k (x ∷ cs) rest offs more = inl (cs, refl, seen_front kept last cuts n (k + 1) cs rest offs.1 more)

-- a cut operation: the part of so many bytes was seen, or nothing
seen_event : (kept : ℕ → Type 0) (g : Geometry) (last : List ℕ) (e : Harmed) (es : List Harmed) (keep : ℕ) (ds : List Change) (k : ℕ)
    → HasPart keep (op_of g e.call) ds → off_of e.answer ≡ true → OffsKept kept k (change_of g e (before_all ds last) ∷ merged g es (without_part (has_reached keep) ds) last)
    → ((j : ℕ) → OffsKept kept j (merged g es (without_part (has_reached keep) ds) last) → AreSeen kept j last (merged g es (without_part (has_reached keep) ds) last) (keeps_of es) (without_part (has_reached keep) ds))
    → AreSeen kept k last (change_of g e (before_all ds last) ∷ merged g es (without_part (has_reached keep) ds) last) (keep ∷ keeps_of es) ds
seen_event kept g last e es (suc keep) [] k part off offs more = absurd part
seen_event kept g last e es (suc keep) (y ∷ ys) k part off offs more =
    inr (
      keeps_of es,
      ys,
      record {
        off = (offs.0 (off_is e.answer off), off_is e.answer off);
        keep = suc keep;
        first = refl;
        part = (y.answer, λ i. record { op = part i; before = y.before; answer = y.answer } ∷ ys);
      },
      more (k + 1) offs.1,
    )
seen_event kept g last e es zero ds k part off offs more =
    inr (
      keeps_of es,
      ds,
      record {
        off = (offs.0 (off_is e.answer off), off_is e.answer off);
        keep = 0;
        first = refl;
        part = (refl, next_merged g es ds last);
      },
      more (k + 1) offs.1,
    )

pub seen_merged : (kept : ℕ → Type 0) (g : Geometry) (last : List ℕ) (es : List Harmed) (cs : List Change) (k : ℕ)
    → HaveParts g es cs → IsTrue (list_all (λ (e : Harmed). off_of e.answer) es) → OffsKept kept k (merged g es cs last) → AreSeen kept k last (merged g es cs last) (keeps_of es) cs
seen_merged kept g last [] cs k have offs kept_offs = seen_all kept k last cs
seen_merged kept g last (e ∷ es) cs k have offs kept_offs =
    let both = and_parts (off_of e.answer) (list_all (λ (x : Harmed). off_of x.answer) es) offs in
    seen_front kept last (e.keep ∷ keeps_of es) e.since k cs (change_of g e (before_all (drop e.since cs) last) ∷ merged g es (without_part (has_reached e.keep) (drop e.since cs)) last) kept_offs
    (λ j o. seen_event kept g last e es e.keep (drop e.since cs) j have.0 both.0 o
    (λ i p. seen_merged kept g last es (without_part (has_reached e.keep) (drop e.since cs)) i have.1 both.1 p))
