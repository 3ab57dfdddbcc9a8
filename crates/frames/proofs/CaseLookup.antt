-- For an accepted case the code's lookup of a frame is the paper's, and a page that it gives lies in the image.
use Rattle.std.specs.Prelude.{if◌then◌else◌, Option, Some, None}
use mathlib.Core.Path.{◌≡◌, refl, ap, ◌∙◌}
use mathlib.Core.List.{List, [], ◌∷◌}
use mathlib.Core.Bool.{Bool, true, false, ◌&&◌}
use Prim.Native.Nat.{ℕ, ◌+◌, ◌*◌, ◌-◌, ◌/◌, ◌≤◌, ◌<◌}
use native.Mathlib.Omega.{arith}
use lib.Dec.{ltb, leb}
use lib.ListN.{length}
use borrow.Author.Tests.{lt-ltb, leb-true, ltb-true}
use Rattle.base.proofs.Test.{both_true}
use Rattle.entry.specs.declared.Frame.{Frame}
use Rattle.sheet.specs.Sheet.{Sheet, end_of, run_pages}
use Rattle.sheet.specs.Call.{rows_from}
use Rattle.sheet.specs.declared.Run.{Run}
use Rattle.sheet.proofs.ManyRuns.{rows_length}
use Rattle.sheet.proofs.AcceptedCase.{AcceptedCase, Chain}
use Rattle.frames.specs.Runs.{page_from}
use Rattle.frames.specs.Search.{search_in}
use Rattle.frames.specs.Rows.{page_in_rows, guarded, rows_page}
use Rattle.frames.proofs.Ascending.{halved}

-- a frame of a run lies between the run's first frame and the frame after its last
has : Run → Frame → Bool
has r f = leb r.first.0 f.0 && ltb f.0 (end_of r)

has_frame : (r : Run) (f : Frame) → has r f ≡ true → (r.first.0 ≤ f.0) × (f.0 < end_of r)
unfolding has
has_frame r f e =
    let h : (leb r.first.0 f.0 ≡ true) × (ltb f.0 (end_of r) ≡ true) = both_true _ _ e in
    (leb-true _ _ h.0, ltb-true _ _ h.1)

-- ---- the rows say what the runs say

rows_page_lem : (rs : List Run) (base least end : ℕ) (f : Frame) → base ≤ end → Chain least end rs → page_in_rows (rows_from base rs) f ≡ page_from base rs f
unfolding page_in_rows
rows_page_lem rs base least end f h c =
    let all : length (rows_from base rs) / 3 ≡ length rs = omega (arith, rows_length base rs) in
    ap (λ (n : ℕ). (search_in n (rows_from base rs) 0 n f).page) all
    ∙ halved rs base least end f h c (length rs) 0 (length rs) (omega arith) (omega arith) (λ j l. absurd (omega arith)) (λ j l m. absurd (omega arith))

-- ---- the guard never refuses

abbrev Below : ℕ → Option ℕ → Type 0
Below b None = Unit {0}
Below b (Some p) = p < b

page_below : (rs : List Run) (base : ℕ) (f : Frame) → Below (base + run_pages rs) (page_from base rs f)
unfolding has
page_below [] base f = tt
page_below (r ∷ rs) base f = go (has r f) refl (page_below rs (base + r.pages) f)
  where
    weaken : (x : Option ℕ) → Below (base + r.pages + run_pages rs) x → Below (base + (r.pages + run_pages rs)) x
    weaken None h = tt
    weaken (Some p) h = omega (arith, h)

    go : (b : Bool) → has r f ≡ b → Below (base + r.pages + run_pages rs) (page_from (base + r.pages) rs f)
        → Below (base + (r.pages + run_pages rs)) (if b then Some (base + (f.0 - r.first.0)) else page_from (base + r.pages) rs f)
    go true e ih = omega (arith, has_frame r f e)
    go false e ih = weaken (page_from (base + r.pages) rs f) ih

guard_idle : (rs : List Run) (n : ℕ) → n ≡ 4096 * run_pages rs → (f : Frame) → guarded n (page_from 0 rs f) ≡ page_from 0 rs f
unfolding guarded
guard_idle rs n e f = go (page_from 0 rs f) (page_below rs 0 f)
  where
    go : (x : Option ℕ) → Below (0 + run_pages rs) x → guarded n x ≡ x
    go None h = refl
    go (Some p) h = rw (lt-ltb p (n / 4096) (omega (arith, e, h)))

-- ---- one lookup

module _ (s : Sheet) (image pagefile : ℕ) (q : AcceptedCase image pagefile s) (f : Frame) where
  pub same_lookup : rows_page (rows_from 0 s.runs) image f ≡ page_from 0 s.runs f
  same_lookup = rw (rows_page_lem s.runs 0 0 0 f (omega arith) q.chain) (guard_idle s.runs image q.image_pages f)

  pub whole_page : (p : ℕ) → page_from 0 s.runs f ≡ Some p → p * 4096 + 4096 ≤ image
  whole_page p e =
      let h : p < 0 + run_pages s.runs = rw e at (page_below s.runs 0 f) in
      omega (arith, q.image_pages)
