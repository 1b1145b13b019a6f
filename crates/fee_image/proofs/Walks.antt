-- Records one after another.
use Rattle.std.proofs.Common.{◌≡◌, ◌<◌, ◌≤◌, ℕ, zero, suc, ◌+◌, List, [], ◌∷◌, ◌++◌, take, refl, sym, ap, ◌∙◌, subst, arith}
use Rattle.fee_format.specs.Pages.{body_pages_of}
use Rattle.fee_image.specs.Bank.{Bank, page_of, pages_from}
use Rattle.fee_image.specs.Laws.{WalksGoOn}
use Rattle.fee_image.specs.RecordList.{Rec, Stands, Walks, pages_of_head}

pub walks_go_on : WalksGoOn
walks_go_on b bytes q e [] r walk stands = (subst (λ (j : ℕ). Stands b bytes j r) (sym walk) stands, ap (λ (j : ℕ). j + pages_of_head b.page r.head) walk)
walks_go_on b bytes q e (x ∷ rs) r walk stands = (walk.0, walks_go_on b bytes (q + pages_of_head b.page x.head) e rs r walk.1 stands)

-- RECORDS WHOSE PAGES STAY
pages_same : (b : Bank) (old new : List ℕ) (n q : ℕ) → ((j : ℕ) → q ≤ j → j < q + n → page_of b new j ≡ page_of b old j) → pages_from b new q n ≡ pages_from b old q n
pages_same b old new zero q same = refl
pages_same b old new (suc n) q same =
    let one : page_of b new q ≡ page_of b old q = same q (omega arith) (omega arith) in
    let rest = pages_same b old new n (suc q) (λ j low lt. same j (omega arith) (omega arith)) in
    λ i. one i ++ rest i

stands_same : (b : Bank) (old new : List ℕ) (q : ℕ) (r : Rec) → ((j : ℕ) → q ≤ j → j < q + pages_of_head b.page r.head → page_of b new j ≡ page_of b old j) → Stands b old q r → Stands b new q r
stands_same b old new q r same stands =
    let n = body_pages_of r.head.length b.page in
    let last : page_of b new (q + 2 + n) ≡ page_of b old (q + 2 + n) = same (q + 2 + n) (omega arith) (omega arith) in
    record {
      place = stands.place;
      head = record {
        format = stands.head.format;
        page = record { legal = stands.head.page.legal; counted = stands.head.page.counted; page_is = same q (omega arith) (omega arith) ∙ stands.head.page.page_is };
        within = stands.head.within;
      };
      gate = same (q + 1) (omega arith) (omega arith) ∙ stands.gate;
      commit = (λ t. last ∙ stands.commit.0 t, λ e. stands.commit.1 (sym last ∙ e));
      payload = stands.payload ∙ ap (take r.head.length) (sym (pages_same b old new n (q + 2) (λ j low lt. same j (omega arith) (omega arith))));
    }

pub walk_up : (b : Bank) (bytes : List ℕ) (rs : List Rec) (q e : ℕ) → Walks b bytes q rs e → q ≤ e
walk_up b bytes [] q e walk = omega (arith, walk)
walk_up b bytes (r ∷ rs) q e walk = omega (arith, walk_up b bytes rs (q + pages_of_head b.page r.head) e walk.1)

pub walk_same : (b : Bank) (old new : List ℕ) (rs : List Rec) (q e : ℕ) → ((j : ℕ) → j < e → j < b.pages → page_of b new j ≡ page_of b old j) → Walks b old q rs e → Walks b new q rs e
walk_same b old new [] q e same walk = walk
walk_same b old new (r ∷ rs) q e same walk =
    let up = walk_up b old rs (q + pages_of_head b.page r.head) e walk.1 in
    let room : q + pages_of_head b.page r.head ≤ b.pages = walk.0.head.within in
    (stands_same b old new q r (λ j low lt. same j (omega (arith, up)) (omega (arith, room))) walk.0, walk_same b old new rs (q + pages_of_head b.page r.head) e same walk.1)
