-- No list of extents that answers as the pages do is shorter than theirs.
use Rattle.std.specs.Prelude.{if◌then◌else◌}
use mathlib.Core.Path.{◌≡◌, refl, sym, ap, ◌∙◌}
use mathlib.Core.List.{List, [], ◌∷◌}
use mathlib.Core.Bool.{Bool, true, false}
use Prim.Native.Nat.{ℕ, zero, suc, ◌+◌, ◌-◌, ◌<◌, ◌≤◌}
use native.Mathlib.Omega.{arith}
use lib.ListN.{length, length-append}
use borrow.Author.Tests.{lt-ltb, le-ltb}
use Rattle.base.proofs.Test.{Test, test, below, above}
use Rattle.map_format.specs.Extents.{mapped_page, has_file_page, page_after, extent, joins, joined, extents_of, page_at, extent_pages, Lengths}
use Rattle.map_format.specs.declared.Extent.{Extent}
use Rattle.map_format.specs.declared.MappedPage.{MappedPage}
use Rattle.map_format.proofs.Answers.{nth_page, ZeroWithoutFile, SameAnswer, AnswersAs}
use Rattle.map_format.proofs.Pages.{spread, expand, length_spread, extents_stretch, page_at_lem}

joined_length : (c n f : ℕ) (es : List Extent) → length (joined c n f es) ≤ suc (length es)
unfolding joined
joined_length c n f [] = omega arith
joined_length c n f (e ∷ es) = go (joins (extent c n f) e.code e.first)
  where
    go : (b : Bool) → length (if b then extent c (n + e.pages) f ∷ es else extent c n f ∷ e ∷ es) ≤ suc (length (e ∷ es))
    go true = omega arith
    go false = omega arith

-- each extent adds one at most to the extents of the pages after it
least : (es : List Extent) → Lengths es → length (extents_of (expand es)) ≤ length es
least [] s = omega arith
least (e ∷ es) s =
    rw (extents_stretch e.code e.pages e.first (expand es) s.0)
    (omega (arith, joined_length e.code e.pages e.first (extents_of (expand es)), least es s.1))

-- ---- file page 0 for codes other than 1 and 2
abbrev zeroed : ℕ → ℕ → ℕ
zeroed c f = if has_file_page c then f else 0

abbrev plain : Extent → Extent
plain e = extent e.code e.pages (zeroed e.code e.first)

abbrev plains : List Extent → List Extent
plains [] = []
plains (e ∷ es) = plain e ∷ plains es

plains_length : (es : List Extent) → length (plains es) ≡ length es
plains_length [] = refl
plains_length (e ∷ es) = ap suc (plains_length es)

plains_sum : (es : List Extent) → extent_pages (plains es) ≡ extent_pages es
plains_sum [] = refl
plains_sum (e ∷ es) = ap (λ (n : ℕ). e.pages + n) (plains_sum es)

plains_lengths : (es : List Extent) → Lengths es → Lengths (plains es)
plains_lengths [] s = tt
plains_lengths (e ∷ es) s = (s.0, plains_lengths es s.1)

after_zeroed : (c k f : ℕ) → page_after c k (zeroed c f) ≡ zeroed c (page_after c k f)
unfolding page_after
after_zeroed c k f = go (has_file_page c)
  where
    go : (b : Bool) → (if b then (if b then f else 0) + k else (if b then f else 0)) ≡ (if b then (if b then f + k else f) else 0)
    go true = refl
    go false = refl

abbrev plain_page : MappedPage → MappedPage
plain_page p = mapped_page p.code (zeroed p.code p.file)

plains_page : (es : List Extent) (k : ℕ) → k < extent_pages es → page_at (plains es) k ≡ plain_page (page_at es k)
plains_page [] k h = absurd (omega arith)
plains_page (e ∷ es) k h = go (test k e.pages) (λ l. plains_page es (k - e.pages) l)
  where
    go : Test k e.pages → (k - e.pages < extent_pages es → page_at (plains es) (k - e.pages) ≡ plain_page (page_at es (k - e.pages))) → page_at (plains (e ∷ es)) k ≡ plain_page (page_at (e ∷ es) k)
    go (below l) ih = rw (lt-ltb k e.pages l) (ap (mapped_page e.code) (after_zeroed e.code k e.first))
    go (above l) ih = rw (le-ltb k e.pages l) (ih (omega arith))

-- ---- two lists with the same pages
same_pages : (ps qs : List MappedPage) → length ps ≡ length qs → ((k : ℕ) → k < length qs → nth_page ps k ≡ nth_page qs k) → ps ≡ qs
same_pages [] [] l h = refl
same_pages [] (q ∷ qs) l h = absurd (omega arith)
same_pages (p ∷ ps) [] l h = absurd (omega arith)
same_pages (p ∷ ps) (q ∷ qs) l h =
    let first : p ≡ q = h 0 (omega arith) in
    let rest : ps ≡ qs = same_pages ps qs (omega arith) (λ k b. h (suc k) (omega arith)) in
    rw (first, rest)

expand_length : (es : List Extent) → length (expand es) ≡ extent_pages es
expand_length [] = refl
expand_length (e ∷ es) = omega (arith, length-append (spread e.code e.pages e.first) (expand es), length_spread e.code e.pages e.first, expand_length es)

normal_page : (ps : List MappedPage) → ZeroWithoutFile ps → (k : ℕ) → k < length ps → has_file_page (nth_page ps k).code ≡ false → (nth_page ps k).file ≡ 0
normal_page [] n k h = absurd (omega arith)
normal_page (p ∷ ps) n zero h = n.0
normal_page (p ∷ ps) n (suc k) h = normal_page ps n.1 k (omega arith)

same_plain : (a p : MappedPage) → SameAnswer a p → (has_file_page p.code ≡ false → p.file ≡ 0) → plain_page a ≡ p
same_plain a p s n = rw s.code (go (has_file_page p.code) s.file n)
  where
    go : (b : Bool) → (b ≡ true → a.file ≡ p.file) → (b ≡ false → p.file ≡ 0) → mapped_page p.code (if b then a.file else 0) ≡ p
    go true y z = ap (mapped_page p.code) (y refl)
    go false y z = ap (mapped_page p.code) (sym (z refl))

module _ (ps : List MappedPage) (es : List Extent) (n : ZeroWithoutFile ps) (q : AnswersAs es ps) where
  sum : extent_pages (plains es) ≡ length ps
  sum = plains_sum es ∙ q.sum

  each : (k : ℕ) → k < length ps → nth_page (expand (plains es)) k ≡ nth_page ps k
  each k h =
      sym (page_at_lem (plains es) k (mapped_page 0 0) (omega (arith, sum)))
      ∙ plains_page es k (omega (arith, q.sum))
      ∙ same_plain (page_at es k) (nth_page ps k) (q.answers k h) (normal_page ps n k h)

  pub fewest : length (extents_of ps) ≤ length es
  fewest =
      let same : expand (plains es) ≡ ps = same_pages (expand (plains es)) ps (expand_length (plains es) ∙ sum) each in
      let short : length (extents_of ps) ≤ length (plains es) = rw same at (least (plains es) (plains_lengths es q.lengths)) in
      omega (arith, plains_length es)
