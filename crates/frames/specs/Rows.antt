-- The code's lookup of a frame: by the rows, in an image of a given length.
use Rattle.std.specs.Prelude.{ℕ, ◌/◌, List, ltb, if◌then◌else◌, Option, Some, None}
use Rattle.entry.specs.declared.Frame.{Frame}
use Rattle.frames.specs.Search.{search_of}

-- what the search by halving finds
unfoldable pub page_in_rows : List ℕ → Frame → Option ℕ
page_in_rows rows f = (search_of rows f).page

-- the page, where it lies in an image of n bytes
unfoldable pub guarded : ℕ → Option ℕ → Option ℕ
guarded n None = None
guarded n (Some p) = if ltb p (n / 4096) then Some p else None

-- the code's lookup of a frame: by the rows, in an image of n bytes
abbrev pub rows_page : List ℕ → ℕ → Frame → Option ℕ
rows_page rows n f = guarded n (page_in_rows rows f)
