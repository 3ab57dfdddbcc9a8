-- A search run by run finds the same page and breaks the bound: 32 runs of one frame, one frame apart, the last one asked.
use Rattle.std.specs.Prelude.{if◌then◌else◌, Some, None}
use mathlib.Core.Path.{◌≡◌, refl}
use mathlib.Core.List.{List, [], ◌∷◌}
use mathlib.Core.Bool.{◌&&◌}
use Prim.Native.Nat.{ℕ, zero, suc, ◌+◌, ◌-◌, ◌/◌, ◌<◌}
use native.Mathlib.Omega.{arith}
use lib.Dec.{ltb, leb}
use lib.ListN.{length}
use Rattle.entry.specs.Pages.{frame}
use Rattle.entry.specs.declared.Frame.{Frame}
use Rattle.sheet.specs.Call.{rows_from}
use Rattle.sheet.specs.declared.Run.{Run}
use Rattle.frames.specs.Search.{searched, after, search_in, search_of, halvings_in, halvings}
use Rattle.frames.specs.declared.Search.{Search}

pub linear : List ℕ → Frame → Search
linear [] f = searched None 0
linear (first ∷ []) f = searched None 0
linear (first ∷ end ∷ []) f = searched None 0
linear (first ∷ end ∷ skipped ∷ rows) f = after 1 (if leb first f.0 && ltb f.0 end then searched (Some (f.0 - skipped)) 0 else linear rows f)

pub runs_of_one : ℕ → ℕ → List Run
runs_of_one zero first = []
runs_of_one (suc n) first = record { first = frame first; pages = 1 } ∷ runs_of_one n (first + 2)

pub rows : List ℕ
rows = rows_from 0 (runs_of_one 32 0)

pub last : Frame
last = frame 62

pub linear_finds : linear rows last ≡ searched (Some 31) 32
unfolding rows runs_of_one last linear
linear_finds = refl

pub linear_breaks : halvings (length rows / 3) < (linear rows last).looks
unfolding rows runs_of_one last linear halvings_in
linear_breaks = omega arith

pub halving_finds : search_of rows last ≡ searched (Some 31) 5
unfolding rows runs_of_one last search_in
halving_finds = refl

-- the first run takes as many looks as the bound allows
pub halving_most : search_of rows (frame 0) ≡ searched (Some 0) 6
unfolding rows runs_of_one search_in
halving_most = refl
