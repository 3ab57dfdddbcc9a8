-- A sheet's own faults have the numbers 10 to 14 and 18: each step of reading refuses with one of them.
use mathlib.Core.Path.{◌≡◌, refl}
use mathlib.Core.Logic.{◌⊎◌, inl, inr}
use mathlib.Core.List.{List, [], ◌∷◌}
use mathlib.Core.Bool.{Bool, true, false}
use Prim.Native.Nat.{ℕ, zero, suc, ◌+◌, ◌-◌, ◌*◌, ◌^◌, ◌≤◌}
use native.Mathlib.Omega.{arith}
use lib.Dec.{ltb, leb, eqb}
use lib.ListN.{length, drop}
use Rattle.std.specs.Prelude.{if◌then◌else◌}
use Rattle.base.specs.Notation.{within}
use Rattle.base.specs.Refusal.{refusal_number, unplaced}
use Rattle.base.specs.declared.Refusal.{Refusal}
use Rattle.base.specs.declared.Refusal.TheVariants.{NumberNotShortest, OutOfLimits, BadRun, TrailingBytes}
use Rattle.varint.specs.Reader.{Read, got, refused, Reader, after, ◌>>=◌, ◌>>◌, return, need, ended}
use Rattle.varint.specs.Groups.{under, dec, begun_at, decode, number}
use Rattle.entry.specs.Pages.{frame}
use Rattle.entry.specs.declared.PagingMode.{PagingMode}
use Rattle.entry.specs.declared.PagingMode.TheVariants.{FourLevel}
use Rattle.sheet.specs.Sheet.{is_place, paging_mode, mode_fields, mode_by, header, run_from, runs_from, run_pages, end_of, own_fields}
use Rattle.sheet.specs.declared.Header.{Header}
use Rattle.sheet.specs.declared.Run.{Run}
use Rattle.case_runs.specs.Call.{image_bytes}

-- 10 to 14, or 18
abbrev pub Own : ℕ → Type 0
Own n = (n ≤ 14) ⊎ (n ≡ 18)

abbrev pub OwnFault : {A : Type 0} → Read A → Type 0
OwnFault (got x at) = Unit {0}
OwnFault (refused f) = Own (refusal_number f.refusal)

then_own : {A B : Type 0} (s : List ℕ) (k : A → Reader B) (d : Read A) → OwnFault d → ((x : A) (at : ℕ) → OwnFault (k x s at)) → OwnFault (after s k d)
then_own s k (got x at) h g = g x at
then_own s k (refused r) h g = h

need_own : {B : Type 0} (s : List ℕ) (k : Unit {0} → Reader B) (b : Bool) (r : Refusal) (at : ℕ)
    → Own (refusal_number r) → ((x : Unit {0}) (next : ℕ) → OwnFault (k x s next)) → OwnFault (after s k (need b r s at))
need_own s k true r at h g = g tt at
need_own s k false r at h g = h

under_own : (x : ℕ) (d : Read ℕ) → OwnFault d → OwnFault (under x d)
under_own x (got n next) h = tt
under_own x (refused r) h = h

dec_own : (g least at : ℕ) (xs : List ℕ) → OwnFault (dec g least at xs)
dec_own zero least at xs = inl (omega arith)
dec_own (suc g) least at [] = inl (omega arith)
dec_own (suc g) least at (x ∷ xs) = go (ltb x 128) (ltb x least) (dec g 1 (suc at) xs) (dec_own g 1 (suc at) xs)
  where
    go : (a b : Bool) (d : Read ℕ) → OwnFault d → OwnFault (if a then (if b then refused (unplaced NumberNotShortest) else got x (suc at)) else under (x - 128) d)
    go true true d h = inr refl
    go true false d h = tt
    go false b d h = under_own (x - 128) d h

begun_own : (at : ℕ) (d : Read ℕ) → OwnFault d → OwnFault (begun_at at d)
begun_own at (got n next) h = tt
begun_own at (refused f) h = h

decode_own : (s : List ℕ) (at : ℕ) → OwnFault (decode s at)
unfolding decode
decode_own s at = begun_own at (dec 6 0 at (drop at s)) (dec_own 6 0 at (drop at s))

number_own : (s : List ℕ) (at : ℕ) → OwnFault (number s at)
unfolding number
number_own s at =
    then_own s (λ n. ◌>>◌ (need (ltb n (2 ^ 36)) OutOfLimits) (return n)) (decode s at) (decode_own s at) (λ n next.
    need_own s (λ x. return n) (ltb n (2 ^ 36)) OutOfLimits next (inl (omega arith)) (λ x end. tt))

out_of_limits : Own (refusal_number OutOfLimits)
out_of_limits = inl (omega arith)

mode_own : (s : List ℕ) (at : ℕ) → OwnFault (mode_fields s at)
unfolding mode_fields
mode_own s at =
    then_own s (λ mode. ◌>>◌ (need (within 1 2 mode) OutOfLimits) (◌>>=◌ number (λ place. ◌>>◌ (need (is_place mode place) OutOfLimits) (return (paging_mode mode place))))) (number s at) (number_own s at) (λ mode a.
    need_own s (λ x. ◌>>=◌ number (λ place. ◌>>◌ (need (is_place mode place) OutOfLimits) (return (paging_mode mode place)))) (within 1 2 mode) OutOfLimits a out_of_limits (λ x b.
    then_own s (λ place. ◌>>◌ (need (is_place mode place) OutOfLimits) (return (paging_mode mode place))) (number s b) (number_own s b) (λ place c.
    need_own s (λ x. return (paging_mode mode place)) (is_place mode place) OutOfLimits c out_of_limits (λ y d. tt))))

by_own : (edition : ℕ) (s : List ℕ) (at : ℕ) → OwnFault (mode_by edition s at)
by_own edition s at = go (eqb edition 1)
  where
    go : (b : Bool) → OwnFault ((if b then return FourLevel else mode_fields) s at)
    go true = tt
    go false = mode_own s at

abbrev header_with : ℕ → PagingMode → ℕ → Header
header_with directory mode count = record { space = record { directory = frame directory; mode = mode }; count = count }

abbrev after_count : ℕ → PagingMode → ℕ → Reader Header
after_count directory mode count = ◌>>◌ (need (within 1 1000 count) OutOfLimits) (return (header_with directory mode count))

abbrev after_mode : ℕ → PagingMode → Reader Header
after_mode directory mode = ◌>>=◌ number (after_count directory mode)

abbrev after_directory : ℕ → ℕ → Reader Header
after_directory edition directory = ◌>>=◌ (mode_by edition) (after_mode directory)

abbrev after_edition : ℕ → Reader Header
after_edition edition = ◌>>◌ (need (within 1 2 edition) OutOfLimits) (◌>>=◌ number (after_directory edition))

header_own : (s : List ℕ) (at : ℕ) → OwnFault (header s at)
unfolding header
header_own s at =
    then_own s after_edition (number s at) (number_own s at) (λ edition a.
    need_own s (λ x. ◌>>=◌ number (after_directory edition)) (within 1 2 edition) OutOfLimits a out_of_limits (λ x b.
    then_own s (after_directory edition) (number s b) (number_own s b) (λ directory c.
    then_own s (after_mode directory) (mode_by edition s c) (by_own edition s c) (λ mode d.
    then_own s (after_count directory mode) (number s d) (number_own s d) (λ count f.
    need_own s (λ x. return (header_with directory mode count)) (within 1 1000 count) OutOfLimits f out_of_limits (λ y g. tt))))))

abbrev at_top : ℕ → ℕ → ℕ → Reader Run
at_top end gap pages = ◌>>◌ (need (leb (end + gap + pages) (2 ^ 36)) BadRun) (return (record { first = frame (end + gap); pages = pages }))

abbrev at_some : ℕ → ℕ → ℕ → Reader Run
at_some end gap pages = ◌>>◌ (need (ltb 0 pages) BadRun) (at_top end gap pages)

abbrev at_pages : ℕ → ℕ → ℕ → ℕ → Reader Run
at_pages least end gap pages = ◌>>◌ (need (leb least gap) BadRun) (at_some end gap pages)

run_own : (least end : ℕ) (s : List ℕ) (at : ℕ) → OwnFault (run_from least end s at)
unfolding run_from
run_own least end s at =
    then_own s (λ gap. ◌>>=◌ number (at_pages least end gap)) (number s at) (number_own s at) (λ gap a.
    then_own s (at_pages least end gap) (number s a) (number_own s a) (λ pages b.
    need_own s (λ x. at_some end gap pages) (leb least gap) BadRun b (inl (omega arith)) (λ x c.
    need_own s (λ x. at_top end gap pages) (ltb 0 pages) BadRun c (inl (omega arith)) (λ y d.
    need_own s (λ x. return (record { first = frame (end + gap); pages = pages })) (leb (end + gap + pages) (2 ^ 36)) BadRun d (inl (omega arith)) (λ z e. tt)))))

runs_own : (n least end : ℕ) (s : List ℕ) (at : ℕ) → OwnFault (runs_from n least end s at)
unfolding runs_from
runs_own zero least end s at = tt
runs_own (suc n) least end s at =
    then_own s (λ r. ◌>>=◌ (runs_from n 1 (end_of r)) (λ rs. return (r ∷ rs))) (run_from least end s at) (run_own least end s at) (λ r a.
    then_own s (λ rs. return (r ∷ rs)) (runs_from n 1 (end_of r) s a) (runs_own n 1 (end_of r) s a) (λ rs b. tt))

fields_own_faults : (s : List ℕ) (at : ℕ) → OwnFault (own_fields s at)
unfolding own_fields
fields_own_faults s at =
    then_own s (λ h. ◌>>=◌ (runs_from h.count 0 0) (λ rs. ◌>>◌ ended (return (record { space = h.space; runs = rs })))) (header s at) (header_own s at) (λ h a.
    then_own s (λ rs. ◌>>◌ ended (return (record { space = h.space; runs = rs }))) (runs_from h.count 0 0 s a) (runs_own h.count 0 0 s a) (λ rs b.
    need_own s (λ x. return (record { space = h.space; runs = rs })) (eqb b (length s)) TrailingBytes b (inl (omega arith)) (λ x c. tt)))

pub own_faults : (s : List ℕ) (at : ℕ) → OwnFault (image_bytes s at)
unfolding image_bytes
own_faults s at = then_own s (λ t. return (4096 * run_pages t.runs)) (own_fields s at) (fields_own_faults s at) (λ t a. tt)
