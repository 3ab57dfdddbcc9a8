-- A sheet refused by 11 or 18 at a position: the number that begins there is refused so, and every number before it was read.
use Rattle.entry.specs.Pages.{frame}
use mathlib.Core.Path.{◌≡◌}
use mathlib.Core.Bool.{Bool, true, false}
use mathlib.Core.List.{List, ◌∷◌}
use Prim.Native.Nat.{ℕ, zero, suc, ◌+◌, ◌*◌, ◌%◌, ◌^◌}
use native.Mathlib.Omega.{arith}
use lib.Dec.{ltb, leb, eqb}
use lib.ListN.{length}
use Rattle.std.specs.Prelude.{if◌then◌else◌}
use Rattle.base.specs.Notation.{within}
use Rattle.base.specs.declared.Fault.{Fault}
use Rattle.base.specs.declared.Refusal.TheVariants.{OutOfLimits, BadRun, TrailingBytes, ImageLengthDiffers, PagefileNotWholePages}
use Rattle.varint.specs.Reader.{refused, return, need, ◌>>=◌, ◌>>◌, ended}
use Rattle.varint.specs.Groups.{number}
use Rattle.varint.proofs.Placed.{Blamed, AtFault, Placed, here, then_placed, need_placed, not_blamed, number_placed}
use Rattle.entry.specs.declared.PagingMode.TheVariants.{FourLevel}
use Rattle.sheet.specs.Sheet.{is_place, mode_fields, mode_by, header, run_from, runs_from, end_of, run_pages, own_fields, sheet_fields, sheet_of, paging_mode}

out_of_limits : Blamed OutOfLimits → ⊥
out_of_limits = not_blamed OutOfLimits (λ e. omega (arith, e)) (λ e. omega (arith, e))

mode_placed : (s : List ℕ) (at : ℕ) → Placed s at (mode_fields s at)
unfolding mode_fields
mode_placed s at =
    then_placed s at (λ mode. ◌>>◌ (need (within 1 2 mode) OutOfLimits) (◌>>=◌ number (λ place. ◌>>◌ (need (is_place mode place) OutOfLimits) (return (paging_mode mode place))))) (number s at) (number_placed s at) λ mode a.
    need_placed s a (λ _. ◌>>=◌ number (λ place. ◌>>◌ (need (is_place mode place) OutOfLimits) (return (paging_mode mode place)))) (within 1 2 mode) OutOfLimits out_of_limits λ x b.
    then_placed s b (λ place. ◌>>◌ (need (is_place mode place) OutOfLimits) (return (paging_mode mode place))) (number s b) (number_placed s b) λ place c.
    need_placed s c (λ _. return (paging_mode mode place)) (is_place mode place) OutOfLimits out_of_limits (λ y d. here d)

by_placed : (edition : ℕ) (s : List ℕ) (at : ℕ) → Placed s at (mode_by edition s at)
by_placed edition s at = go (eqb edition 1)
  where
    go : (b : Bool) → Placed s at ((if b then return FourLevel else mode_fields) s at)
    go true = here at
    go false = mode_placed s at

header_placed : (s : List ℕ) (at : ℕ) → Placed s at (header s at)
unfolding header
header_placed s at =
    then_placed s at (λ edition. ◌>>◌ (need (within 1 2 edition) OutOfLimits) (◌>>=◌ number (λ directory. ◌>>=◌ (mode_by edition) (λ mode. ◌>>=◌ number (λ count. ◌>>◌ (need (within 1 1000 count) OutOfLimits) (return record { space = record { mode = mode; directory = frame directory }; count = count })))))) (number s at) (number_placed s at) λ edition a.
    need_placed s a (λ _. ◌>>=◌ number (λ directory. ◌>>=◌ (mode_by edition) (λ mode. ◌>>=◌ number (λ count. ◌>>◌ (need (within 1 1000 count) OutOfLimits) (return record { space = record { mode = mode; directory = frame directory }; count = count }))))) (within 1 2 edition) OutOfLimits out_of_limits λ x b.
    then_placed s b (λ directory. ◌>>=◌ (mode_by edition) (λ mode. ◌>>=◌ number (λ count. ◌>>◌ (need (within 1 1000 count) OutOfLimits) (return record { space = record { mode = mode; directory = frame directory }; count = count })))) (number s b) (number_placed s b) λ directory c.
    then_placed s c (λ mode. ◌>>=◌ number (λ count. ◌>>◌ (need (within 1 1000 count) OutOfLimits) (return record { space = record { mode = mode; directory = frame directory }; count = count }))) (mode_by edition s c) (by_placed edition s c) λ mode d.
    then_placed s d (λ count. ◌>>◌ (need (within 1 1000 count) OutOfLimits) (return record { space = record { mode = mode; directory = frame directory }; count = count })) (number s d) (number_placed s d) λ count f.
    need_placed s f (λ _. return record { space = record { mode = mode; directory = frame directory }; count = count }) (within 1 1000 count) OutOfLimits out_of_limits (λ y g. here g)

bad_run : Blamed BadRun → ⊥
bad_run = not_blamed BadRun (λ e. omega (arith, e)) (λ e. omega (arith, e))

run_placed : (least end : ℕ) (s : List ℕ) (at : ℕ) → Placed s at (run_from least end s at)
unfolding run_from
run_placed least end s at =
    then_placed s at (λ gap. ◌>>=◌ number (λ pages. ◌>>◌ (need (leb least gap) BadRun) (◌>>◌ (need (ltb 0 pages) BadRun) (◌>>◌ (need (leb (end + gap + pages) (2 ^ 36)) BadRun) (return record { first = frame (end + gap); pages = pages }))))) (number s at) (number_placed s at) λ gap a.
    then_placed s a (λ pages. ◌>>◌ (need (leb least gap) BadRun) (◌>>◌ (need (ltb 0 pages) BadRun) (◌>>◌ (need (leb (end + gap + pages) (2 ^ 36)) BadRun) (return record { first = frame (end + gap); pages = pages })))) (number s a) (number_placed s a) λ pages b.
    need_placed s b (λ _. ◌>>◌ (need (ltb 0 pages) BadRun) (◌>>◌ (need (leb (end + gap + pages) (2 ^ 36)) BadRun) (return record { first = frame (end + gap); pages = pages }))) (leb least gap) BadRun bad_run λ x c.
    need_placed s c (λ _. ◌>>◌ (need (leb (end + gap + pages) (2 ^ 36)) BadRun) (return record { first = frame (end + gap); pages = pages })) (ltb 0 pages) BadRun bad_run λ y d.
    need_placed s d (λ _. return record { first = frame (end + gap); pages = pages }) (leb (end + gap + pages) (2 ^ 36)) BadRun bad_run (λ z e. here e)

runs_placed : (n least end : ℕ) (s : List ℕ) (at : ℕ) → Placed s at (runs_from n least end s at)
unfolding runs_from
runs_placed zero least end s at = here at
runs_placed (suc n) least end s at =
    then_placed s at (λ r. ◌>>=◌ (runs_from n 1 (end_of r)) (λ rs. return (r ∷ rs))) (run_from least end s at) (run_placed least end s at) λ r a.
    then_placed s a (λ rs. return (r ∷ rs)) (runs_from n 1 (end_of r) s a) (runs_placed n 1 (end_of r) s a) λ rs b. here b

own_placed : (s : List ℕ) (at : ℕ) → Placed s at (own_fields s at)
unfolding own_fields
own_placed s at =
    then_placed s at (λ h. ◌>>=◌ (runs_from h.count 0 0) (λ runs. ◌>>◌ ended (return record { space = h.space; runs = runs }))) (header s at) (header_placed s at) λ h a.
    then_placed s a (λ rs. ◌>>◌ ended (return record { space = h.space; runs = rs })) (runs_from h.count 0 0 s a) (runs_placed h.count 0 0 s a) λ rs b.
    need_placed s b (λ _. return record { space = h.space; runs = rs }) (eqb b (length s)) TrailingBytes (not_blamed TrailingBytes (λ e. omega (arith, e)) (λ e. omega (arith, e))) (λ x c. here c)

sheet_placed : (s : List ℕ) (image pagefile : ℕ) → Placed s 0 (sheet_of s image pagefile)
unfolding sheet_of sheet_fields
sheet_placed s image pagefile =
    then_placed s 0 (λ t. ◌>>◌ (need (eqb image (4096 * run_pages t.runs)) ImageLengthDiffers) (◌>>◌ (need (eqb (pagefile % 4096) 0) PagefileNotWholePages) (return t))) (own_fields s 0) (own_placed s 0) λ t a.
    need_placed s a (λ _. ◌>>◌ (need (eqb (pagefile % 4096) 0) PagefileNotWholePages) (return t)) (eqb image (4096 * run_pages t.runs)) ImageLengthDiffers (not_blamed ImageLengthDiffers (λ e. omega (arith, e)) (λ e. omega (arith, e))) λ x b.
    need_placed s b (λ _. return t) (eqb (pagefile % 4096) 0) PagefileNotWholePages (not_blamed PagefileNotWholePages (λ e. omega (arith, e)) (λ e. omega (arith, e))) (λ y c. here c)

pub sheet_at_fault : (s : List ℕ) (image pagefile : ℕ) (f : Fault) → sheet_of s image pagefile ≡ refused f → Blamed f.refusal → AtFault s 0 f
sheet_at_fault s image pagefile f e h = (rw e at (sheet_placed s image pagefile)) h
