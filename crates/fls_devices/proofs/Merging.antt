-- the list of all changes, one operation further
use Rattle.std.proofs.Common.{◌≡◌, ◌≤◌, ℕ, ◌+◌, ◌-◌, Bool, true, false, List, [], ◌∷◌, ◌++◌, length, take, drop, refl, sym, ap, arith, append_assoc, length-drop}
use Rattle.std.proofs.lemmas.List.{take-append-le, drop-append-le, take_all, drop_all}
use Rattle.nv_base.specs.declared.geometry.Geometry.{Geometry}
use Rattle.fls_model.specs.Told.{Change}
use Rattle.fls_devices.specs.Journal.{Harmed, has_reached, change_of, before_all, without_part, merged}
use Rattle.fls_devices.specs.Overlay.{reached_count, span}

before_push : (cs : List Change) (c : Change) (now later : List ℕ) → c.before ≡ now → before_all (cs ++ c ∷ []) later ≡ before_all cs now
before_push [] c now later is = is
before_push (x ∷ cs) c now later is = refl

pub without_push : (r : Bool) (cs : List Change) (c : Change) → reached_count r ≤ length cs → without_part r (cs ++ c ∷ []) ≡ without_part r cs ++ c ∷ []
without_push false cs c le = refl
without_push true [] c le = absurd (omega arith)
without_push true (x ∷ cs) c le = refl

length-without : (r : Bool) (cs : List Change) → reached_count r ≤ length cs → length (without_part r cs) + reached_count r ≡ length cs
length-without false cs le = omega arith
length-without true [] le = absurd (omega arith)
length-without true (x ∷ cs) le = omega arith

-- what is left after an event
pub left : (e : Harmed) (cs : List Change) (k n : ℕ) → length cs ≡ e.since + reached_count (has_reached e.keep) + k + n → length (without_part (has_reached e.keep) (drop e.since cs)) ≡ k + n
left e cs k n is =
    let d : length (drop e.since cs) ≡ length cs - e.since = length-drop e.since cs in
    omega (arith, length-without (has_reached e.keep) (drop e.since cs) (omega arith))

-- an operation behind the events, which reached the inner flash
pub merged_pass : (g : Geometry) (es : List Harmed) (cs : List Change) (c : Change) (now later : List ℕ) (k : ℕ) → length cs ≡ span es + k → c.before ≡ now → merged g es (cs ++ c ∷ []) later ≡ merged g es cs now ++ c ∷ []
merged_pass g [] cs c now later k fits is = refl
merged_pass g (e ∷ es) cs c now later k fits is =
    let within : e.since ≤ length cs = omega arith in
    let d : length (drop e.since cs) ≡ length cs - e.since = length-drop e.since cs in
    let rest : without_part (has_reached e.keep) (drop e.since cs ++ c ∷ []) ≡ without_part (has_reached e.keep) (drop e.since cs) ++ c ∷ [] = without_push (has_reached e.keep) (drop e.since cs) c (omega arith) in
    rw (take-append-le e.since cs (c ∷ []) within, drop-append-le e.since cs (c ∷ []) within, before_push (drop e.since cs) c now later is, rest, merged_pass g es (without_part (has_reached e.keep) (drop e.since cs)) c now later k (left e cs (span es) k fits) is)
    (sym (append_assoc (take e.since cs) (change_of g e (before_all (drop e.since cs) now) ∷ merged g es (without_part (has_reached e.keep) (drop e.since cs)) now) (c ∷ [])))

-- an event of which nothing reached the inner flash
pub merged_withheld : (g : Geometry) (es : List Harmed) (cs : List Change) (e : Harmed) (now : List ℕ) → length cs ≡ span es + e.since → e.keep ≡ 0 → merged g (es ++ e ∷ []) cs now ≡ merged g es cs now ++ change_of g e now ∷ []
merged_withheld g [] cs e now fits not =
    let none : drop e.since cs ≡ [] = drop_all e.since cs (omega arith) in
    rw (not, take_all e.since cs (omega arith), none) refl
merged_withheld g (x ∷ es) cs e now fits not =
    rw (merged_withheld g es (without_part (has_reached x.keep) (drop x.since cs)) e now (left x cs (span es) e.since fits) not)
    (sym (append_assoc (take x.since cs) (change_of g x (before_all (drop x.since cs) now) ∷ merged g es (without_part (has_reached x.keep) (drop x.since cs)) now) (change_of g e now ∷ [])))

-- an event of which a part reached it
pub merged_reached : (g : Geometry) (es : List Harmed) (cs : List Change) (e : Harmed) (c : Change) (now later : List ℕ) → length cs ≡ span es + e.since → has_reached e.keep ≡ true → c.before ≡ now → merged g (es ++ e ∷ []) (cs ++ c ∷ []) later ≡ merged g es cs now ++ change_of g e now ∷ []
merged_reached g [] cs e c now later fits true_is is =
    let none : drop e.since cs ≡ [] = drop_all e.since cs (omega arith) in
    rw (true_is, take-append-le e.since cs (c ∷ []) (omega arith), drop-append-le e.since cs (c ∷ []) (omega arith), take_all e.since cs (omega arith), none) (ap (λ (b : List ℕ). cs ++ change_of g e b ∷ []) is)
merged_reached g (x ∷ es) cs e c now later fits true_is is =
    let within : x.since ≤ length cs = omega arith in
    let d : length (drop x.since cs) ≡ length cs - x.since = length-drop x.since cs in
    let rest : without_part (has_reached x.keep) (drop x.since cs ++ c ∷ []) ≡ without_part (has_reached x.keep) (drop x.since cs) ++ c ∷ [] = without_push (has_reached x.keep) (drop x.since cs) c (omega arith) in
    rw (take-append-le x.since cs (c ∷ []) within, drop-append-le x.since cs (c ∷ []) within, before_push (drop x.since cs) c now later is, rest, merged_reached g es (without_part (has_reached x.keep) (drop x.since cs)) e c now later (left x cs (span es) e.since fits) true_is is)
    (sym (append_assoc (take x.since cs) (change_of g x (before_all (drop x.since cs) now) ∷ merged g es (without_part (has_reached x.keep) (drop x.since cs)) now) (change_of g e now ∷ [])))
