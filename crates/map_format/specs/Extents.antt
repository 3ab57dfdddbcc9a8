-- 01 "Maps": pages of a range, joined into extents.
use Rattle.std.specs.Prelude.{ℕ, ◌+◌, ◌-◌, ◌≤◌, Bool, ◌&&◌, ◌||◌, List, [], ◌∷◌, ltb, eqb, if◌then◌else◌}
use Rattle.map_format.specs.declared.Extent.{Extent}
use Rattle.map_format.specs.declared.MappedPage.{MappedPage}

abbrev pub mapped_page : ℕ → ℕ → MappedPage
mapped_page c f = record { code = c; file = f }

abbrev pub extent : ℕ → ℕ → ℕ → Extent
extent c n f = record { code = c; pages = n; first = f }

-- stands before the first extent
abbrev pub no_extent : Extent
no_extent = extent 0 0 0

-- codes 1 and 2 have a page of a file
abbrev pub has_file_page : ℕ → Bool
has_file_page c = eqb c 1 || eqb c 2

-- the file page n pages after f, for code c
unfoldable pub page_after : ℕ → ℕ → ℕ → ℕ
page_after c n f = if has_file_page c then f + n else f

-- does a page of code c at f belong to the extent before it?
abbrev pub joins : Extent → ℕ → ℕ → Bool
joins e c f = eqb e.code c && eqb (page_after e.code e.pages e.first) f

-- n pages of code c, the first at f, put before the extents of the pages after them
unfoldable pub joined : ℕ → ℕ → ℕ → List Extent → List Extent
joined c n f [] = extent c n f ∷ []
joined c n f (e ∷ es) = if joins (extent c n f) e.code e.first then extent c (n + e.pages) f ∷ es else extent c n f ∷ e ∷ es

abbrev pub extents_of : List MappedPage → List Extent
extents_of [] = []
extents_of (p ∷ ps) = joined p.code 1 p.file (extents_of ps)

-- page k of a list of extents, counted from 0
abbrev pub page_at : List Extent → ℕ → MappedPage
page_at [] k = mapped_page 0 0
page_at (e ∷ es) k = if ltb k e.pages then mapped_page e.code (page_after e.code k e.first) else page_at es (k - e.pages)

abbrev pub extent_pages : List Extent → ℕ
extent_pages [] = 0
extent_pages (e ∷ es) = e.pages + extent_pages es

-- every length is 1 or more
abbrev pub Lengths : List Extent → Type 0
Lengths [] = Unit {0}
Lengths (e ∷ es) = (1 ≤ e.pages) × Lengths es
