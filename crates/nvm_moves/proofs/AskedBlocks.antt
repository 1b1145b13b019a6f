-- The block of an immediate write, while requests come.
use Rattle.nvm_moves.proofs.Common.{IsTrue, ◌==◌, ◌≡◌, ◌+◌, ◌<◌, ℕ, zero, suc, true, List, length, Option, Some, None, refl, ap, ◌∙◌, arith, Request, Write, Reply, Accepted, Ask, Configuration, State, is_pending, status_of, reply_of, step, unwrap_or, slice_get, plain_block, Fine, BlockDesc, BlockState, is_immediate, entries_give_status, pending_stay, slice_get_within, IsSized}

-- its block is configured
urgent_by : (c : Configuration) (i : ℕ) (o : Option BlockDesc) → slice_get c.blocks i ≡ o → ((unwrap_or o (plain_block 0)).priority == 0) ≡ true → i < length c.blocks
urgent_by c i None is urgent = cc urgent
urgent_by c i (Some d) is urgent = slice_get_within c.blocks i d is

configured : (c : Configuration) (id : ℕ) (content : Option (List ℕ)) (store : ℕ) → is_immediate c (Write id content store) ≡ true → id < length c.blocks + 1
configured c zero content store urgent = cc urgent
configured c (suc i) content store urgent = let less = urgent_by c i (slice_get c.blocks i) refl urgent in omega (arith, less)

-- once it is accepted its block is PENDING
pub accepted_pending : (c : Configuration) (cap : ℕ) (s : State) (caller id : ℕ) (content : Option (List ℕ)) (store : ℕ) → IsSized c s → IsTrue s.started → is_immediate c (Write id content store) ≡ true
    → is_pending (status_of (step c s (Ask caller (Write id content store) Accepted)) id) ≡ true
accepted_pending c cap s caller id content store sized on urgent =
    let size = sized on in
    let less = configured c id content store urgent in
    (entries_give_status c cap s 0 0 0 caller Fine None (Write id content store)).1 refl (omega (arith, size, less))

-- and it stays so
pub pending_on : (c : Configuration) (cap : ℕ) (s : State) (caller : ℕ) (r : Request) (reply : Reply) (id : ℕ) → reply ≡ reply_of c cap s r → is_pending (status_of s id) ≡ true
    → is_pending (status_of (step c s (Ask caller r reply)) id) ≡ true
pending_on c cap s caller r reply id is pending = ap (λ (b : BlockState). is_pending b.status) (pending_stay c cap s caller r reply id is pending) ∙ pending
