-- Words are told apart by their texts.
use Rattle.std.proofs.Common.{◌≡◌, ℕ, Bool, true, false, cond, nat_eq, List, [], ◌∷◌, IfSome, Option, Some, refl, sym}
use Rattle.std.proofs.lemmas.Bool.{and_parts, eqb-true}
use Rattle.std.specs.List.{find}
use Rattle.std.specs.Cmp.Lexicographic.{pointwise}
use Rattle.nvm_script.specs.declared.word.Word.{Word}
use Rattle.nvm_script.specs.declared.word.Word.TheVariants.{Read}
use Rattle.nvm_script.specs.Word.{word_text, all_words, word_of}
use Rattle.nvm_script.proofs.Cuts.{Lacks}

pub word_of-word_text : (w : Word) → word_of (word_text w) ≡ Some w
unfolding word_of
word_of-word_text Read = refl
word_of-word_text _ = refl

pub word_text-lacks : (w : Word) → Lacks 32 (word_text w)
word_text-lacks Read = refl
word_text-lacks _ = refl

same_bytes : (a b : List ℕ) → pointwise nat_eq a b ≡ true → b ≡ a
same_bytes [] [] h = refl
same_bytes [] (y ∷ ys) h = cc
same_bytes (x ∷ xs) [] h = cc
same_bytes (x ∷ xs) (y ∷ ys) h =
    let parts = and_parts (nat_eq x y) (pointwise nat_eq xs ys) h in
    let head : y ≡ x = sym (eqb-true x y parts.0) in
    let tail : ys ≡ xs = same_bytes xs ys parts.1 in
    cc

cond_found : {X : Type 0} (test : X → Bool) (P : X → Type 0) (x : X) (o : Option X) (b : Bool) → test x ≡ b → ((y : X) → test y ≡ true → P y) → IfSome o P → IfSome (cond b (Some x) o) P
cond_found test P x o true is all rest = all x is
cond_found test P x o false is all rest = rest

found : {X : Type 0} (test : X → Bool) (P : X → Type 0) (xs : List X) → ((y : X) → test y ≡ true → P y) → IfSome (find test xs) P
found test P [] all = tt
found test P (x ∷ xs) all = cond_found test P x (find test xs) (test x) refl all (found test P xs all)

-- a word that is found has this text
pub word_of-found : (text : List ℕ) → IfSome (word_of text) (λ w. text ≡ word_text w)
unfolding word_of
word_of-found text = found (λ w. pointwise nat_eq (word_text w) text) (λ w. text ≡ word_text w) all_words (λ w h. same_bytes (word_text w) text h)
