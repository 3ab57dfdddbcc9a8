-- 01 "Case sheet": where a frame lies in the image, by the runs.
use Rattle.std.specs.Prelude.{ℕ, ◌+◌, ◌-◌, ◌&&◌, List, [], ◌∷◌, ltb, leb, if◌then◌else◌, Option, Some, None}
use Rattle.entry.specs.declared.Frame.{Frame}
use Rattle.sheet.specs.Sheet.{end_of}
use Rattle.sheet.specs.declared.Run.{Run}

-- the image page of a frame, `base` being the image page of the first run's first frame
abbrev pub page_from : ℕ → List Run → Frame → Option ℕ
page_from base [] f = None
page_from base (r ∷ rs) f =
    if leb r.first.0 f.0 && ltb f.0 (end_of r) then Some (base + (f.0 - r.first.0)) else
    page_from (base + r.pages) rs f
