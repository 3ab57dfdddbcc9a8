-- A map that was read: its extents sum to the count, and each has a listed code.
use mathlib.Core.Path.{◌≡◌, sym}
use mathlib.Core.List.{List, [], ◌∷◌}
use mathlib.Core.Bool.{true}
use Prim.Native.Nat.{ℕ, zero, suc, ◌-◌, ◌<◌, ◌≤◌}
use native.Mathlib.Omega.{arith}
use lib.Dec.{eqb}
use lib.ListN.{length}
use borrow.Author.Tests.{eq-eqb, ne_eqb, lt-ltb, le-ltb}
use Rattle.base.specs.Codes.{is_code}
use Rattle.base.specs.declared.Refusal.TheVariants.{TrailingBytes}
use Rattle.base.proofs.Test.{Test, test, below, above}
use Rattle.varint.specs.Reader.{got, return}
use Rattle.varint.proofs.Reader.{came, held, returned}
use Rattle.map_format.specs.Extents.{no_extent, page_at, extent_pages}
use Rattle.map_format.specs.Reading.{header_fields, extent_from, extents_from, Map, map_fields}
use Rattle.map_format.specs.declared.Extent.{Extent}
use Rattle.map_format.proofs.OneExtent.{WithPagesLeft, extent_keeps}
use Rattle.map_format.proofs.Steps.{after_extent, after_extents, after_header}

-- every extent has a listed code
abbrev pub Listed : List Extent → Type 0
Listed [] = Unit {0}
Listed (e ∷ es) = (is_code e.code ≡ true) × Listed es

-- the extents of `left` pages
pub record Covering (left : ℕ) (es : List Extent) : Type 0 where
  pub sum : extent_pages es ≡ left
  pub listed : Listed es

covers_none : (left : ℕ) (es : List Extent) → left ≡ 0 → [] ≡ es → Covering left es
covers_none left es z e = rw (← e) (record { sum = sym z; listed = tt })

covers_one : (left : ℕ) (e : Extent) (rest es : List Extent) → WithPagesLeft left e → Covering (left - e.pages) rest → (e ∷ rest) ≡ es → Covering left es
covers_one left e rest es q c f = rw (← f) (record { sum = omega (arith, c.sum, q.most); listed = (q.rules.code, c.listed) })

-- each extent has a page or more, so that `left` of them are enough
extents_cover : (n left : ℕ) (prev : Extent) (s : List ℕ) (at : ℕ) (es : List Extent) (next : ℕ) → left ≤ n → extents_from n left prev s at ≡ got es next → Covering left es
unfolding extents_from
extents_cover zero left prev s at es next l w = covers_none left es (omega arith) (returned [] es at next w).0
extents_cover (suc n) left prev s at es next l w = go (test 0 left) (λ e i rest end h f. extents_cover n (left - e.pages) e s i rest end (omega arith) f)
  where
    go : Test 0 left
        → ((e : Extent) (i : ℕ) (rest : List Extent) (end : ℕ) → 1 ≤ e.pages → extents_from n (left - e.pages) e s i ≡ got rest end → Covering (left - e.pages) rest)
        → Covering left es
    go (above h) ih =
        let z : left ≡ 0 = omega arith in
        covers_none left es z (returned [] es at next (rw (eq-eqb left 0 z) at w)).0
    go (below h) ih =
        let c₁ = came s (after_extent n left) (extent_from left prev s at) es next (rw (ne_eqb left 0 (λ z. omega arith)) at w) in
        let e = c₁.value in
        let q = extent_keeps s at left prev e c₁.at c₁.field in
        let c₂ = came s (λ es. return (e ∷ es)) (extents_from n (left - e.pages) e s c₁.at) es next c₁.rest in
        covers_one left e c₂.value es q (ih e c₁.at c₂.value c₂.at q.rules.some c₂.field) (returned (e ∷ c₂.value) es c₂.at next c₂.rest).0

pub map_covers : (s : List ℕ) (m : Map) (at : ℕ) → map_fields s 0 ≡ got m at → Covering m.header.count m.extents
unfolding map_fields
map_covers s m at w =
    let c₁ = came s after_header (header_fields s 0) m at w in
    let h = c₁.value in
    let c₂ = came s (after_extents h) (extents_from h.count h.count no_extent s c₁.at) m at c₁.rest in
    let t = held s (λ x. return (record { header = h; extents = c₂.value })) (eqb c₂.at (length s)) TrailingBytes c₂.at m at c₂.rest in
    let same = (returned (record { header = h; extents = c₂.value }) m c₂.at at t.1).0 in
    rw (← same) (extents_cover h.count h.count no_extent s c₁.at c₂.value c₂.at (omega arith) c₂.field)

-- a page below the sum is a page of an extent
pub page_listed : (es : List Extent) (k : ℕ) → Listed es → k < extent_pages es → is_code (page_at es k).code ≡ true
page_listed [] k q h = absurd (omega arith)
page_listed (e ∷ es) k q h = go (test k e.pages) (page_listed es (k - e.pages) q.1)
  where
    go : Test k e.pages → (k - e.pages < extent_pages es → is_code (page_at es (k - e.pages)).code ≡ true) → is_code (page_at (e ∷ es) k).code ≡ true
    go (below l) ih = rw (lt-ltb k e.pages l) q.0
    go (above l) ih = rw (le-ltb k e.pages l) (ih (omega arith))
