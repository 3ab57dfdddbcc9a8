-- A map refused by 11 or 18 at a position: the number that begins there is refused so, and every number before it was read.
use Rattle.std.specs.Prelude.{if◌then◌else◌}
use mathlib.Core.Path.{◌≡◌}
use mathlib.Core.Bool.{Bool, true, false}
use mathlib.Core.List.{List, [], ◌∷◌}
use Prim.Native.Nat.{ℕ, zero, suc, ◌-◌}
use native.Mathlib.Omega.{arith}
use lib.Dec.{eqb}
use lib.ListN.{length}
use Rattle.base.specs.Codes.{is_code}
use Rattle.base.specs.declared.Fault.{Fault}
use Rattle.base.specs.declared.Refusal.TheVariants.{OutOfLimits, BadExtent, TrailingBytes}
use Rattle.varint.specs.Reader.{refused, Reader, ◌>>=◌, return}
use Rattle.varint.specs.Groups.{number}
use Rattle.varint.specs.Edition.{edition_fields}
use Rattle.varint.proofs.Placed.{Blamed, AtFault, Placed, here, then_placed, need_placed, not_blamed, number_placed, fields_placed}
use Rattle.entry.specs.Pages.{virtual_page}
use Rattle.map_format.specs.Extents.{has_file_page, extent, no_extent}
use Rattle.map_format.specs.Reading.{in_half, header_fields, first_from, sound, extent_from, extents_from, map_fields}
use Rattle.map_format.specs.declared.Extent.{Extent}
use Rattle.map_format.proofs.Steps.{header_of, after_edition, after_code, after_listed, after_length, after_first, after_extent, after_extents, after_header}

header_placed : (s : List ℕ) (at : ℕ) → Placed s at (header_fields s at)
unfolding header_fields
header_placed s at =
    then_placed s at after_edition (edition_fields s at) (fields_placed s at) λ f a.
    need_placed s a (λ x. return (header_of f)) (in_half (virtual_page f.first) f.second) OutOfLimits (not_blamed OutOfLimits (λ e. omega (arith, e)) (λ e. omega (arith, e))) (λ x b. here b)

first_placed : (s : List ℕ) (at : ℕ) (b : Bool) → Placed s at ((if b then number else return 0) s at)
first_placed s at true = number_placed s at
first_placed s at false = here at

bad_extent : Blamed BadExtent → ⊥
bad_extent = not_blamed BadExtent (λ e. omega (arith, e)) (λ e. omega (arith, e))

extent_placed : (left : ℕ) (prev : Extent) (s : List ℕ) (at : ℕ) → Placed s at (extent_from left prev s at)
unfolding extent_from
extent_placed left prev s at =
    then_placed s at (after_code left prev) (number s at) (number_placed s at) λ code a.
    need_placed s a (λ x. after_listed left prev code) (is_code code) BadExtent bad_extent λ x b.
    then_placed s b (after_length left prev code) (number s b) (number_placed s b) λ pages c.
    then_placed s c (after_first left prev code pages) (first_from code s c) (first_placed s c (has_file_page code)) λ first d.
    need_placed s d (λ y. return (extent code pages first)) (sound left prev (extent code pages first)) BadExtent bad_extent (λ y e. here e)

extents_placed : (n left : ℕ) (prev : Extent) (s : List ℕ) (at : ℕ) → Placed s at (extents_from n left prev s at)
unfolding extents_from
extents_placed zero left prev s at = here at
extents_placed (suc n) left prev s at = go (λ e a. extents_placed n (left - e.pages) e s a) (eqb left 0)
  where
    rest : Reader (List Extent)
    rest = do
      e ← extent_from left prev
      es ← extents_from n (left - e.pages) e
      return (e ∷ es)

    go : ((e : Extent) (a : ℕ) → Placed s a (extents_from n (left - e.pages) e s a)) → (b : Bool) → Placed s at ((if b then return [] else rest) s at)
    go more true = here at
    go more false =
        then_placed s at (after_extent n left) (extent_from left prev s at) (extent_placed left prev s at) λ e a.
        then_placed s a (λ es. return (e ∷ es)) (extents_from n (left - e.pages) e s a) (more e a) λ es b. here b

map_placed : (s : List ℕ) → Placed s 0 (map_fields s 0)
unfolding map_fields
map_placed s =
    then_placed s 0 after_header (header_fields s 0) (header_placed s 0) λ h a.
    then_placed s a (after_extents h) (extents_from h.count h.count no_extent s a) (extents_placed h.count h.count no_extent s a) λ es b.
    need_placed s b (λ x. return (record { header = h; extents = es })) (eqb b (length s)) TrailingBytes (not_blamed TrailingBytes (λ e. omega (arith, e)) (λ e. omega (arith, e))) (λ x c. here c)

pub map_at_fault : (s : List ℕ) (f : Fault) → map_fields s 0 ≡ refused f → Blamed f.refusal → AtFault s 0 f
map_at_fault s f e h = (rw e at (map_placed s)) h
