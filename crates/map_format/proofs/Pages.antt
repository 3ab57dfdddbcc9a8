-- The extents of a list of pages say what the pages say.
use Rattle.std.specs.Prelude.{if◌then◌else◌}
use mathlib.Core.Path.{◌≡◌, refl, sym, ap, ◌∙◌}
use mathlib.Core.List.{List, [], ◌∷◌, ◌++◌, append_assoc}
use mathlib.Core.Bool.{Bool, true, false}
use Prim.Native.Nat.{ℕ, zero, suc, ◌+◌, ◌-◌, ◌<◌, ◌≤◌}
use native.Mathlib.Nat.{zero-add, suc-add}
use native.Mathlib.Omega.{arith}
use lib.Dec.{eqb}
use lib.ListN.{length, get_or}
use lib.Seq.{get_or-append-add}
use borrow.Author.Tests.{eq-eqb, eqb-true, lt-ltb, le-ltb}
use Rattle.base.proofs.Test.{Test, test, below, above, both_true}
use Rattle.map_format.specs.Extents.{mapped_page, has_file_page, page_after, extent, joins, joined, extents_of, page_at, extent_pages}
use Rattle.map_format.specs.declared.Extent.{Extent}
use Rattle.map_format.specs.declared.MappedPage.{MappedPage}
use Rattle.map_format.proofs.Answers.{nth_page}

-- ---- the file page some pages on
pub after_none : (c f : ℕ) → page_after c 0 f ≡ f
unfolding page_after
after_none c f = go (has_file_page c)
  where
    go : (b : Bool) → (if b then f + 0 else f) ≡ f
    go true = omega arith
    go false = refl

pub after_add : (c n m f : ℕ) → page_after c (n + m) f ≡ page_after c m (page_after c n f)
unfolding page_after
after_add c n m f = go (has_file_page c)
  where
    go : (b : Bool) → (if b then f + (n + m) else f) ≡ (if b then (if b then f + n else f) + m else (if b then f + n else f))
    go true = omega arith
    go false = refl

after_suc : (c k f : ℕ) → page_after c (suc k) f ≡ page_after c k (page_after c 1 f)
after_suc c k f =
    let e : suc k ≡ 1 + k = omega arith in
    rw e (after_add c 1 k f)

-- ---- joining
pub joins_true : (e : Extent) (c f : ℕ) → joins e c f ≡ true → (e.code ≡ c) × (page_after e.code e.pages e.first ≡ f)
joins_true e c f h =
    let t = both_true (eqb e.code c) (eqb (page_after e.code e.pages e.first) f) h in
    (eqb-true e.code c t.0, eqb-true (page_after e.code e.pages e.first) f t.1)

joins_next : (c n f : ℕ) → joins (extent c n f) c (page_after c n f) ≡ true
joins_next c n f = rw (eq-eqb c c refl, eq-eqb (page_after c n f) (page_after c n f) refl)

-- pages that follow make the extent longer
pub joined_joined : (c n f m : ℕ) (es : List Extent) → joined c n f (joined c m (page_after c n f) es) ≡ joined c (n + m) f es
unfolding joined
joined_joined c n f m [] = rw (joins_next c n f)
joined_joined c n f m (e ∷ es) = go (joins (extent c m (page_after c n f)) e.code e.first) (rw (after_add c n m f))
  where
    go : (b : Bool)
        → joins (extent c (n + m) f) e.code e.first ≡ b
        → joined c n f (if b then extent c (m + e.pages) (page_after c n f) ∷ es else extent c m (page_after c n f) ∷ e ∷ es) ≡ joined c (n + m) f (e ∷ es)
    go true q = rw (q, joins_next c n f) (ap (λ (k : ℕ). extent c k f ∷ es) (omega arith))
    go false q = rw (q, joins_next c n f)

-- ---- the pages of extents
-- n pages of code c, the first at f
abbrev pub spread : ℕ → ℕ → ℕ → List MappedPage
spread c zero f = []
spread c (suc n) f = mapped_page c f ∷ spread c n (page_after c 1 f)

abbrev pub expand : List Extent → List MappedPage
expand [] = []
expand (e ∷ es) = spread e.code e.pages e.first ++ expand es

spread_add : (c n m f : ℕ) → spread c (n + m) f ≡ spread c n f ++ spread c m (page_after c n f)
spread_add c zero m f = rw (after_none c f, zero-add m)
spread_add c (suc n) m f = rw (suc-add n m, after_suc c n f) (ap (λ (l : List MappedPage). mapped_page c f ∷ l) (spread_add c n m (page_after c 1 f)))

joined_expand : (c n f : ℕ) (es : List Extent) → expand (joined c n f es) ≡ spread c n f ++ expand es
unfolding joined
joined_expand c n f [] = refl
joined_expand c n f (e ∷ es) = go (joins (extent c n f) e.code e.first) refl
  where
    go : (b : Bool)
        → joins (extent c n f) e.code e.first ≡ b
        → expand (if b then extent c (n + e.pages) f ∷ es else extent c n f ∷ e ∷ es) ≡ spread c n f ++ expand (e ∷ es)
    go true q =
        let h = joins_true (extent c n f) e.code e.first q in
        let ec : c ≡ e.code = h.0 in
        let ef : page_after c n f ≡ e.first = h.1 in
        rw (spread_add c n e.pages f, ef, append_assoc) (ap (λ (k : ℕ). spread c n f ++ (spread k e.pages e.first ++ expand es)) ec)
    go false q = refl

pub extents_expand : (ps : List MappedPage) → expand (extents_of ps) ≡ ps
extents_expand [] = refl
extents_expand (p ∷ ps) = joined_expand p.code 1 p.file (extents_of ps) ∙ ap (λ (l : List MappedPage). p ∷ l) (extents_expand ps)

-- the extents of pages that follow each other, and of the pages after them
extents_spread : (c n f : ℕ) (ps : List MappedPage) → extents_of (spread c (suc n) f ++ ps) ≡ joined c (suc n) f (extents_of ps)
extents_spread c zero f ps = refl
extents_spread c (suc n) f ps = ap (joined c 1 f) (extents_spread c n (page_after c 1 f) ps) ∙ joined_joined c 1 f (suc n) (extents_of ps) ∙ ap (λ (k : ℕ). joined c k f (extents_of ps)) (omega arith)

pub extents_stretch : (c n f : ℕ) (ps : List MappedPage) → 1 ≤ n → extents_of (spread c n f ++ ps) ≡ joined c n f (extents_of ps)
extents_stretch c zero f ps h = absurd (omega arith)
extents_stretch c (suc n) f ps h = extents_spread c n f ps

-- ---- page k
get_d_spread : (c n f k : ℕ) (ps : List MappedPage) (d : MappedPage) → k < n → get_or (spread c n f ++ ps) k d ≡ mapped_page c (page_after c k f)
get_d_spread c zero f k ps d h = absurd (omega arith)
get_d_spread c (suc n) f zero ps d h = ap (mapped_page c) (sym (after_none c f))
get_d_spread c (suc n) f (suc k) ps d h = get_d_spread c n (page_after c 1 f) k ps d (omega arith) ∙ ap (mapped_page c) (sym (after_suc c k f))

pub length_spread : (c n f : ℕ) → length (spread c n f) ≡ n
length_spread c zero f = refl
length_spread c (suc n) f = ap suc (length_spread c n (page_after c 1 f))

pub page_at_lem : (es : List Extent) (k : ℕ) (d : MappedPage) → k < extent_pages es → page_at es k ≡ get_or (expand es) k d
page_at_lem [] k d h = absurd (omega arith)
page_at_lem (e ∷ es) k d h = go (test k e.pages) (λ l. page_at_lem es (k - e.pages) d l)
  where
    go : Test k e.pages → (k - e.pages < extent_pages es → page_at es (k - e.pages) ≡ get_or (expand es) (k - e.pages) d) → page_at (e ∷ es) k ≡ get_or (expand (e ∷ es)) k d
    go (below l) ih = rw (lt-ltb k e.pages l) (sym (get_d_spread e.code e.pages e.first k (expand es) d l))
    go (above l) ih =
        rw (le-ltb k e.pages l)
        (ih (omega arith)
        ∙ sym (get_or-append-add (spread e.code e.pages e.first) (expand es) (k - e.pages) d)
        ∙ ap (λ (m : ℕ). get_or (expand (e ∷ es)) m d) (ap (λ (m : ℕ). m + (k - e.pages)) (length_spread e.code e.pages e.first) ∙ omega arith))

joined_sum : (c n f : ℕ) (es : List Extent) → extent_pages (joined c n f es) ≡ n + extent_pages es
unfolding joined
joined_sum c n f [] = refl
joined_sum c n f (e ∷ es) = go (joins (extent c n f) e.code e.first)
  where
    go : (b : Bool) → extent_pages (if b then extent c (n + e.pages) f ∷ es else extent c n f ∷ e ∷ es) ≡ n + extent_pages (e ∷ es)
    go true = omega arith
    go false = refl

-- the lengths sum to the count of the pages
pub pages_sum : (ps : List MappedPage) → extent_pages (extents_of ps) ≡ length ps
pages_sum [] = refl
pages_sum (p ∷ ps) = joined_sum p.code 1 p.file (extents_of ps) ∙ omega (arith, pages_sum ps)

-- page k of the extents is page k
pub pages_back : (ps : List MappedPage) (k : ℕ) → k < length ps → page_at (extents_of ps) k ≡ nth_page ps k
pages_back ps k h = page_at_lem (extents_of ps) k (mapped_page 0 0) (omega (arith, pages_sum ps)) ∙ ap (λ (l : List MappedPage). nth_page l k) (extents_expand ps)
