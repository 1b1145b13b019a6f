-- A ring that is turned.
use Rattle.std.proofs.Common.{◌≡◌, ℕ, zero, suc, ◌+◌, ◌<◌, ◌==◌, ◌&&◌, not, Bool, true, false, if◌then◌else◌, List, [], ◌∷◌, ◌++◌, length, take, drop, slice_get, get_or, subst, refl, ap, ◌∙◌, append_assoc, arith, add-one, Some}
use Rattle.std.specs.List.{list_all}
use Rattle.std.proofs.lemmas.Bool.{eq-eqb}
use Rattle.std.proofs.lemmas.List.Elements.{filter-append}
use Rattle.job_queues.specs.declared.waiting.Waiting.{Waiting}
use Rattle.job_queues.specs.Jobs.{without, turned}

append_none : (xs : List Waiting) → xs ++ [] ≡ xs
append_none [] = refl
append_none (x ∷ xs) = ap (λ ys. x ∷ ys) (append_none xs)

turned_by : (t : Bool) (x : Waiting) (xs acc : List Waiting) → (if t then xs ++ (acc ++ []) else (xs ++ (acc ++ [])) ++ x ∷ []) ≡ xs ++ (acc ++ (if not t then x ∷ [] else []))
turned_by true x xs acc = refl
turned_by false x xs acc = rw (append_none acc) (append_assoc xs acc (x ∷ []))

more_by : (t : Bool) (n i : ℕ) (x : Waiting) (xs acc : List Waiting)
    → (turned n (drop i xs ++ ((if t then acc else acc ++ x ∷ []) ++ without n (take i xs))) ≡ drop (suc i) xs ++ ((if t then acc else acc ++ x ∷ []) ++ without n (take (suc i) xs)))
    → turned n (drop i xs ++ (acc ++ (if not t then x ∷ without n (take i xs) else without n (take i xs)))) ≡ drop (suc i) xs ++ (acc ++ (if not t then x ∷ without n (take (suc i) xs) else without n (take (suc i) xs)))
more_by true n i x xs acc h = h
more_by false n i x xs acc h = rw (← append_assoc acc (x ∷ []) (without n (take i xs)), ← append_assoc acc (x ∷ []) (without n (take (suc i) xs))) h

turned_more : (n i : ℕ) (xs acc : List Waiting) → i < length xs → turned n (drop i xs ++ (acc ++ without n (take i xs))) ≡ drop (suc i) xs ++ (acc ++ without n (take (suc i) xs))
turned_more n i [] acc below = absurd (omega arith)
turned_more n zero (x ∷ xs) acc below = turned_by (x.number == n) x xs acc
turned_more n (suc i) (x ∷ xs) acc below = more_by (x.number == n) n i x xs acc (turned_more n i xs (if x.number == n then acc else acc ++ x ∷ []) (omega arith))

-- one more job was turned on
pub turned_next : (n i : ℕ) (xs : List Waiting) → i < length xs → turned n (drop i xs ++ without n (take i xs)) ≡ drop (i + 1) xs ++ without n (take (i + 1) xs)
turned_next n i xs below = rw (add-one i) (turned_more n i xs [] below)

-- the first job of a ring, and where it goes
pub turned_first : (n : ℕ) (xs : List Waiting) (w : Waiting) → slice_get xs 0 ≡ Some w → (w.number == n) ≡ false → drop 1 xs ++ w ∷ [] ≡ turned n xs
turned_first n [] w is other = cc
turned_first n (x ∷ xs) w is other = let e : x ≡ w = cc in rw (e, other) refl

kept_by : (t r : Bool) (x : Waiting) (xs ys : List Waiting) → (t && r) ≡ true → (r ≡ true → ys ≡ xs) → (if t then x ∷ ys else ys) ≡ x ∷ xs
kept_by true r x xs ys both same = ap (λ zs. x ∷ zs) (same both)
kept_by false r x xs ys both same = cc

all_kept : (n : ℕ) (xs : List Waiting) → list_all (λ w. not (w.number == n)) xs ≡ true → without n xs ≡ xs
all_kept n [] all = refl
all_kept n (x ∷ xs) all = kept_by (not (x.number == n)) (list_all (λ w. not (w.number == n)) xs) x xs (without n xs) all (all_kept n xs)

first_leaves : (t : Bool) (x : Waiting) (xs ys : List Waiting) → t ≡ true → ys ≡ xs → (if not t then x ∷ ys else ys) ≡ xs
first_leaves t x xs ys is same = rw is same

-- a first job that alone has its number leaves the others
pub without_first_alone : (n : ℕ) (front back items : List Waiting) (d : Waiting) → front ++ back ≡ items → (length front == 0) ≡ false → (get_or front 0 d).number ≡ n
    → list_all (λ w. not (w.number == n)) (drop 1 front) ≡ true → list_all (λ w. not (w.number == n)) back ≡ true → without n items ≡ drop 1 items
without_first_alone n [] back items d is some first rest behind = cc
without_first_alone n (x ∷ others) back items d is some first rest behind =
    subst (λ (ws : List Waiting). without n ws ≡ drop 1 ws) is
    (first_leaves (x.number == n) x (others ++ back) (without n (others ++ back)) (eq-eqb x.number n first)
    (filter-append (λ w. not (w.number == n)) others back ∙ rw (all_kept n others rest, all_kept n back behind) refl))
