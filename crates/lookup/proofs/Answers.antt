-- What the lookup hands back keeps its promise: a page in the range is a page of an extent.
use Rattle.std.specs.Prelude.{Result, if◌then◌else◌}
use mathlib.Core.Path.{◌≡◌, refl, ap, ◌∙◌}
use mathlib.Core.Logic.{◌⊎◌, inl, inr}
use mathlib.Core.List.{List}
use mathlib.Core.Bool.{Bool, true, false, not}
use Prim.Native.Nat.{ℕ, ◌-◌, ◌≤◌}
use native.Mathlib.Omega.{arith}
use Rattle.base.specs.Codes.{is_code}
use Rattle.base.specs.declared.Fault.{Fault}
use Rattle.base.specs.declared.Refusal.TheVariants.{NotCanonical, OutsideMap}
use Rattle.base.proofs.Numbers.{ten_or_more}
use Rattle.varint.specs.Reader.{Read, got, refused}
use Rattle.entry.specs.Addresses.{canonical}
use Rattle.entry.specs.Pages.{virtual_page_of}
use Rattle.map_format.specs.Extents.{page_at}
use Rattle.map_format.specs.Reading.{Map, map_fields}
use Rattle.map_format.proofs.WholeRead.{Covering, map_covers, page_listed}
use Rattle.lookup.specs.Call.{refused_lookup, answer_at, in_range, lookup_read, lookup_of, LookupAnswer}
use Rattle.lookup.specs.Inner.{found_in}
use Rattle.lookup.specs.declared.Found.{Found}
use Rattle.lookup.proofs.WholeMap.{page_in_range, told, told_as}

abbrev Numbered : Found → Type 0
Numbered r = (is_code r.number ≡ true) ⊎ (10 ≤ r.number)

numbered : (a : ℕ) (d : Read Map) → ((m : Map) (at : ℕ) → d ≡ got m at → Covering m.header.count m.extents) → Numbered (lookup_read a d)
numbered a (refused f) q = inr (ten_or_more f.refusal)
numbered a (got m at) q = go (canonical a) (in_range m.header (virtual_page_of a)) refl
  where
    go : (b c : Bool) → in_range m.header (virtual_page_of a) ≡ c
        → Numbered (if not b then refused_lookup NotCanonical else if c then answer_at a (page_at m.extents ((virtual_page_of a).0 - m.header.start.0)) else refused_lookup OutsideMap)
    go false c e = inr (ten_or_more NotCanonical)
    go true false e = inr (ten_or_more OutsideMap)
    go true true e =
        let covers = q m at refl in
        inl (page_listed m.extents _ covers.listed (omega (arith, covers.sum, page_in_range m.header (virtual_page_of a) e)))

pub promised : (s : List ℕ) (a : ℕ) (v : Result Found Fault) (r : Found) → v ≡ found_in a (map_fields s 0) → r ≡ told v → LookupAnswer s a r
unfolding lookup_of
promised s a v r e f =
    let same : r ≡ lookup_read a (map_fields s 0) = f ∙ ap told e ∙ told_as a (map_fields s 0) in
    record { same = same; whole = λ m at w. (map_covers s m at w).sum; number = rw same (numbered a (map_fields s 0) (map_covers s)) }
