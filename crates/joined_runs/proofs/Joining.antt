-- Runs joined one by one: what the next run makes of the last of them, and what holds of the joined runs.
use Rattle.std.specs.Prelude.{if◌then◌else◌}
use mathlib.Core.Path.{◌≡◌, refl, ap, ◌∙◌}
use mathlib.Core.Bool.{Bool, true, false}
use mathlib.Core.List.{List, [], ◌∷◌}
use Prim.Native.Nat.{ℕ, suc, ◌+◌, ◌^◌, ◌≤◌}
use native.Mathlib.Omega.{arith}
use lib.Dec.{ltb, leb}
use lib.ListN.{length}
use borrow.Author.Tests.{eqb-true, eqb-false, ltb-true, leb-true, lt-ltb, le-leb, ne_eqb}
use Rattle.base.proofs.Test.{both_true}
use Rattle.sheet.specs.Sheet.{end_of}
use Rattle.sheet.specs.declared.Run.{Run}
use Rattle.sheet.proofs.OneRun.{Follows}
use Rattle.sheet.proofs.AcceptedCase.{Chain}
use Rattle.sheet_limits.specs.Write.{touches, as_one, joined_before, joined_runs, follows, in_order}

-- ---- the last of the joined runs so far, before the next run and the joined runs after that

pub touching : (last r : Run) (qs : List Run) → touches last r ≡ true → joined_before last (joined_before r qs) ≡ joined_before (as_one last r) qs
unfolding joined_before
touching last r [] h = rw h
touching last r (q ∷ qs) h =
    let end : end_of (as_one last r) ≡ end_of r = omega (arith, eqb-true (end_of last) r.first.0 h) in
    rw end (go (touches r q))
  where
    sum : last.pages + (r.pages + q.pages) ≡ last.pages + r.pages + q.pages
    sum = omega arith

    go : (b : Bool) → joined_before last (if b then as_one r q ∷ qs else r ∷ q ∷ qs) ≡ (if b then as_one (as_one last r) q ∷ qs else as_one last r ∷ q ∷ qs)
    go true = rw (h, sum)
    go false = rw h

pub apart : (last r : Run) (qs : List Run) → touches last r ≡ false → joined_before last (joined_before r qs) ≡ last ∷ joined_before r qs
unfolding joined_before
apart last r [] h = rw h
apart last r (q ∷ qs) h = go (touches r q)
  where
    go : (b : Bool) → joined_before last (if b then as_one r q ∷ qs else r ∷ q ∷ qs) ≡ last ∷ (if b then as_one r q ∷ qs else r ∷ q ∷ qs)
    go true = rw h
    go false = rw h

-- two runs as one end where the second does
pub one_end : (last r : Run) → touches last r ≡ true → end_of (as_one last r) ≡ end_of r
one_end last r h = omega (arith, eqb-true (end_of last) r.first.0 h)

-- ---- runs in order, one by one

pub run_follows : (end : ℕ) (r : Run) → follows end r ≡ true → Follows 0 end r
run_follows end r h =
    let p = both_true (ltb 0 r.pages) _ h in
    let q = both_true (leb end r.first.0) _ p.1 in
    record {
      apart = omega (arith, leb-true end r.first.0 q.0);
      some = omega (arith, ltb-true 0 r.pages p.0);
      top = leb-true (end_of r) (2 ^ 36) q.1;
    }

pub in_order_lem : (end : ℕ) (r : Run) (rs : List Run) → in_order end (r ∷ rs) ≡ true → Follows 0 end r × (in_order (end_of r) rs ≡ true)
in_order_lem end r rs h =
    let p = both_true (follows end r) (in_order (end_of r) rs) h in
    (run_follows end r p.0, p.1)

-- ---- joined runs are ascending and, after the first, apart

before_chain : (end : ℕ) (r : Run) (qs : List Run) → Follows 0 end r → Chain 0 (end_of r) qs → Chain 0 end (joined_before r qs)
unfolding joined_before
before_chain end r [] f c = (f, tt)
before_chain end r (q ∷ qs) f c = go (touches r q) refl
  where
    go : (b : Bool) → touches r q ≡ b → Chain 0 end (if b then as_one r q ∷ qs else r ∷ q ∷ qs)
    go true h =
        let same : end_of q ≡ end_of (as_one r q) = omega (arith, eqb-true (end_of r) q.first.0 h) in
        (record { apart = f.apart; some = omega (arith, f.some); top = omega (arith, c.0.top) }, rw same at c.1)
    go false h =
        let differs : end_of r ≡ q.first.0 → ⊥ = eqb-false (end_of r) q.first.0 h in
        (f, (record { apart = omega (arith, c.0.apart, differs); some = c.0.some; top = c.0.top }, c.1))

pub joined_chain : (end : ℕ) (rs : List Run) → in_order end rs ≡ true → Chain 0 end (joined_runs rs)
joined_chain end [] h = tt
joined_chain end (r ∷ rs) h =
    let q = in_order_lem end r rs h in
    before_chain end r (joined_runs rs) q.0 (joined_chain (end_of r) rs q.1)

-- ---- as many joined runs as given ones at most, and one at least

before_length : (r : Run) (qs : List Run) → (1 ≤ length (joined_before r qs)) × (length (joined_before r qs) ≤ suc (length qs))
unfolding joined_before
before_length r [] = (omega arith, omega arith)
before_length r (q ∷ qs) = go (touches r q)
  where
    go : (b : Bool) → (1 ≤ length (if b then as_one r q ∷ qs else r ∷ q ∷ qs)) × (length (if b then as_one r q ∷ qs else r ∷ q ∷ qs) ≤ suc (suc (length qs)))
    go true = (omega arith, omega arith)
    go false = (omega arith, omega arith)

pub joined_most : (rs : List Run) → length (joined_runs rs) ≤ length rs
joined_most [] = omega arith
joined_most (r ∷ rs) = omega (arith, before_length r (joined_runs rs), joined_most rs)

pub joined_some : (rs : List Run) → 1 ≤ length rs → 1 ≤ length (joined_runs rs)
joined_some [] h = omega arith
joined_some (r ∷ rs) h = (before_length r (joined_runs rs)).0

-- ---- runs that are apart are in order, and join to themselves

pub chain_order : (least end : ℕ) (rs : List Run) → Chain least end rs → in_order end rs ≡ true
chain_order least end [] c = refl
chain_order least end (r ∷ rs) c =
    rw (lt-ltb 0 r.pages (omega (arith, c.0.some)), le-leb end r.first.0 (omega (arith, c.0.apart)), le-leb (end_of r) (2 ^ 36) c.0.top) (chain_order 1 (end_of r) rs c.1)

pub chain_joined : (least end : ℕ) (rs : List Run) → Chain least end rs → joined_runs rs ≡ rs
unfolding joined_before
chain_joined least end [] c = refl
chain_joined least end (r ∷ rs) c = ap (joined_before r) (chain_joined 1 (end_of r) rs c.1) ∙ alone rs c.1
  where
    alone : (qs : List Run) → Chain 1 (end_of r) qs → joined_before r qs ≡ r ∷ qs
    alone [] k = refl
    alone (q ∷ qs) k = rw (ne_eqb (end_of r) q.first.0 (λ e. omega (arith, e, k.0.apart)))
