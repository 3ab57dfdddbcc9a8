-- The lookup in a whole map, step by step.
use Rattle.std.specs.Prelude.{Result, Ok, Err, if◌then◌else◌}
use mathlib.Core.Path.{◌≡◌, refl, sym, ap, ◌∙◌}
use mathlib.Core.List.{List}
use mathlib.Core.Bool.{Bool, true, false, not}
use Prim.Native.Nat.{ℕ, ◌+◌, ◌-◌, ◌<◌, ◌≤◌}
use native.Mathlib.Omega.{arith}
use lib.Dec.{eqb, leb, ltb}
use lib.ListN.{length}
use borrow.Author.Tests.{leb-true, ltb-true}
use Rattle.std.specs.Result.{result_unwrap_or}
use Rattle.base.specs.Refusal.{unplaced, shown_position}
use Rattle.base.proofs.Test.{both_true}
use Rattle.base.specs.declared.Fault.{Fault}
use Rattle.base.specs.declared.Refusal.{Refusal}
use Rattle.base.specs.declared.Refusal.TheVariants.{TrailingBytes, NotCanonical, OutsideMap}
use Rattle.entry.specs.Addresses.{canonical}
use Rattle.entry.specs.Pages.{virtual_page_of}
use Rattle.entry.specs.declared.VirtualPage.{VirtualPage}
use Rattle.varint.specs.Reader.{Read, got, refused, after, return}
use Rattle.map_format.specs.Extents.{no_extent, page_at}
use Rattle.map_format.specs.Reading.{header_fields, extents_from, Map, map_fields}
use Rattle.map_format.specs.declared.Extent.{Extent}
use Rattle.map_format.specs.declared.Header.{Header}
use Rattle.map_format.specs.declared.MappedPage.{MappedPage}
use Rattle.map_format.proofs.HeaderFields.{header_range}
use Rattle.lookup.specs.Call.{refused_lookup, fault_found, answer_at, in_range, lookup_read}
use Rattle.lookup.specs.Inner.{page_of_read, asked_of, answer_for, found_in}
use Rattle.lookup.specs.declared.Found.{Found}

-- the map of a header, when its extents were read and the end is judged
abbrev ending : Header → List Extent → List ℕ → ℕ → Bool → Read Map
ending h es s i b = after s (λ (u : Unit {0}). return (record { header = h; extents = es })) (if b then got tt i else refused (unplaced TrailingBytes))

abbrev map_read : Header → List ℕ → Read (List Extent) → Read Map
map_read h s d = after s (λ (es : List Extent). λ (t : List ℕ) (i : ℕ). ending h es t i (eqb i (length t))) d

-- a whole map was read, whose page k has the answer p
record WholeMap (k : ℕ) (h : Header) (p : MappedPage) (d : Read Map) : Type 0 where
  pub extents : List Extent
  pub end : ℕ
  pub read : d ≡ got (record { header = h; extents = extents }) end
  pub page : p ≡ page_at extents k

pub page_in_range : (h : Header) (page : VirtualPage) → in_range h page ≡ true → page.0 - h.start.0 < h.count
page_in_range h page e =
    let t = both_true (leb h.start.0 page.0) (ltb page.0 (h.start.0 + h.count)) e in
    omega (arith, leb-true h.start.0 page.0 t.0, ltb-true page.0 (h.start.0 + h.count) t.1)

asked_below : (h : Header) (a : ℕ) → 1 ≤ h.count → result_unwrap_or (asked_of h a) 0 < h.count
unfolding asked_of
asked_below h a some = go (canonical a) (in_range h (virtual_page_of a)) refl
  where
    go : (b c : Bool) → in_range h (virtual_page_of a) ≡ c
        → result_unwrap_or (if not b then Err NotCanonical else if c then Ok ((virtual_page_of a).0 - h.start.0) else Err OutsideMap) 0 < h.count
    go false c e = some
    go true true e = page_in_range h (virtual_page_of a) e
    go true false e = some

module _ (s : List ℕ) (a : ℕ) where
  pub no_header : (f : Fault) → header_fields s 0 ≡ refused f → Err f ≡ found_in a (map_fields s 0)
  unfolding map_fields
  no_header f e = rw e

  module _ (h : Header) (at : ℕ) (e : header_fields s 0 ≡ got h at) where
    abbrev extents : Read (List Extent)
    extents = extents_from h.count h.count no_extent s at

    whole_read : map_fields s 0 ≡ map_read h s extents
    unfolding map_fields
    whole_read = rw e

    pub asked_count : result_unwrap_or (asked_of h a) 0 < h.count
    asked_count = asked_below h a (header_range s 0 h at e).some

    module _ (k : ℕ) where
      refused_in : (d : Read (List Extent)) (f : Fault) → page_of_read s k d ≡ Err f → Err f ≡ found_in a (map_read h s d)
      refused_in (refused q) f w =
          let same : q ≡ f = cc in
          ap Err (sym same)
      refused_in (got es i) f w = go (eqb i (length s)) w
        where
          go : (b : Bool) → (if b then Ok (page_at es k) else Err (unplaced TrailingBytes)) ≡ Err f → Err f ≡ found_in a (ending h es s i b)
          go true w = cc
          go false w =
              let same : unplaced TrailingBytes ≡ f = cc in
              ap Err (sym same)

      read_in : (d : Read (List Extent)) (p : MappedPage) → page_of_read s k d ≡ Ok p → WholeMap k h p (map_read h s d)
      read_in (refused q) p w = cc
      read_in (got es i) p w = go (eqb i (length s)) w
        where
          go : (b : Bool) → (if b then Ok (page_at es k) else Err (unplaced TrailingBytes)) ≡ Ok p → WholeMap k h p (ending h es s i b)
          go true w = record { extents = es; end = i; read = refl; page = cc }
          go false w = cc

      module _ (v : Result MappedPage Fault) (ev : v ≡ page_of_read s k extents) where
        pub no_extents : (f : Fault) → v ≡ Err f → Err f ≡ found_in a (map_fields s 0)
        no_extents f w = rw whole_read (refused_in extents f (sym ev ∙ w))

        module _ (p : MappedPage) (w : v ≡ Ok p) where
          pub not_asked : (r : Refusal) → asked_of h a ≡ Err r → Err (unplaced r) ≡ found_in a (map_fields s 0)
          not_asked r q =
              let m = read_in extents p (sym ev ∙ w) in
              rw (whole_read, m.read, q)

          pub answered : asked_of h a ≡ Ok k → Ok (answer_at a p) ≡ found_in a (map_fields s 0)
          answered q =
              let m = read_in extents p (sym ev ∙ w) in
              rw (whole_read, m.read, q) (ap (λ (x : MappedPage). Ok (answer_at a x)) m.page)

-- ---- what the call hands back

abbrev pub told : Result Found Fault → Found
told (Ok r) = r
told (Err f) = fault_found f

pub told_as : (a : ℕ) (d : Read Map) → told (found_in a d) ≡ lookup_read a d
unfolding asked_of shown_position
told_as a (refused f) = refl
told_as a (got m i) = go (canonical a) (in_range m.header (virtual_page_of a))
  where
    asked : Bool → Bool → Result ℕ Refusal
    asked b c = if not b then Err NotCanonical else if c then Ok ((virtual_page_of a).0 - m.header.start.0) else Err OutsideMap

    go : (b c : Bool) → told (answer_for a m.extents (asked b c)) ≡ (if not b then refused_lookup NotCanonical else if c then answer_at a (page_at m.extents ((virtual_page_of a).0 - m.header.start.0)) else refused_lookup OutsideMap)
    go false c = refl
    go true true = refl
    go true false = refl
