-- A law along moves, one behind another.
use Rattle.nvm_moves.proofs.Common.{◌≡◌, ◌≤◌, ℕ, List, [], ◌∷◌, ◌++◌, refl, sym, ap, ◌∙◌, arith, append_assoc, Entry, after_from, histories_go_on, Move, entry_list, entries_of, moment_behind, Cursor, Frame, next_by, cursor_behind, Along}

-- THE CURSOR
pub cursor_more : (c : Frame) (k : Cursor) (a b : List Move) → cursor_behind c k (a ++ b) ≡ cursor_behind c (cursor_behind c k a) b
cursor_more c k [] b = refl
cursor_more c k (m ∷ ms) b = cursor_more c (next_by c k m) ms b

pub cursor_now : (c : Frame) (k : Cursor) (ms : List Move) → (cursor_behind c k ms).now ≡ moment_behind k.now ms
cursor_now c k [] = refl
cursor_now c k (m ∷ ms) = cursor_now c (next_by c k m) ms

pub cursor_state : (c : Frame) (k : Cursor) (ms : List Move) → (cursor_behind c k ms).state ≡ after_from c.config k.state (entries_of ms)
cursor_state c k [] = refl
cursor_state c k (m ∷ ms) = cursor_state c (next_by c k m) ms ∙ sym (histories_go_on c.config k.state (entry_list m.entry) (entries_of ms))

pub entries_more : (a b : List Move) → entries_of (a ++ b) ≡ entries_of a ++ entries_of b
entries_more [] b = refl
entries_more (m ∷ ms) b = ap (λ (es : List Entry). entry_list m.entry ++ es) (entries_more ms b) ∙ sym (append_assoc (entry_list m.entry) (entries_of ms) (entries_of b))

-- THE LAW
module _ (c : Frame) (law : Cursor → Move → Type 0) where
  pub along_more : (k : Cursor) (a b : List Move) → Along c law k a → Along c law (cursor_behind c k a) b → Along c law k (a ++ b)
  along_more k [] b one two = two
  along_more k (m ∷ ms) b one two = (one.0, along_more (next_by c k m) ms b one.1 two)

  -- another law follows, of moves of the first so many operations
  module _ (later : (k : Cursor) (m : Move) → law k m → k.now.ops ≤ m.behind.ops) where
    pub along_later : (k : Cursor) (ms : List Move) → Along c law k ms → k.now.ops ≤ (cursor_behind c k ms).now.ops
    along_later k [] along = omega arith
    along_later k (m ∷ ms) (one, rest) = let here = later k m one in let more = along_later (next_by c k m) ms rest in omega (arith, here, more)

    pub along_to : (other : Cursor → Move → Type 0) (n : ℕ) → ((k : Cursor) (m : Move) → m.behind.ops ≤ n → law k m → other k m) → (k : Cursor) (ms : List Move) → (cursor_behind c k ms).now.ops ≤ n → Along c law k ms → Along c other k ms
    along_to other n goes k [] within along = tt
    along_to other n goes k (m ∷ ms) within (one, rest) =
        let more = along_later (next_by c k m) ms rest in (goes k m (omega (arith, more, within)) one, along_to other n goes (next_by c k m) ms within rest)

  pub along_by : (other : Cursor → Move → Type 0) → ((k : Cursor) (m : Move) → law k m → other k m) → (k : Cursor) (ms : List Move) → Along c law k ms → Along c other k ms
  along_by other goes k [] along = tt
  along_by other goes k (m ∷ ms) (one, rest) = (goes k m one, along_by other goes (next_by c k m) ms rest)
