-- Writing a map page by page, and what the map call makes of it.
use Rattle.std.specs.Prelude.{Result, Ok, Err}
use mathlib.Core.Path.{◌≡◌, refl, ap, ◌∙◌}
use mathlib.Core.Bool.{true, false}
use mathlib.Core.List.{List, [], ◌∷◌, ◌++◌}
use Prim.Native.Nat.{ℕ, zero, suc, ◌+◌, ◌-◌, ◌*◌, ◌^◌, ◌≤◌, ◌<◌}
use native.Mathlib.Omega.{arith}
use lib.ListN.{length}
use lib.Seq.{sets, length-sets}
use borrow.Author.Tests.{lt-ltb, le-ltb}
use Rattle.base.specs.Codes.{is_code}
use Rattle.base.specs.Overlay.{Wrote}
use Rattle.base.specs.Refusal.{unplaced}
use Rattle.base.specs.declared.Fault.{Fault}
use Rattle.base.specs.declared.Refusal.TheVariants.{BadMapRange, MapBufferShort}
use Rattle.base.proofs.Codes.{code_small}
use Rattle.base.proofs.Overlay.{sets_none, wrote_then}
use Rattle.walk.specs.Walk.{World, resolve_of}
use Rattle.walk.specs.Rows.{resolved_of}
use Rattle.walk.specs.declared.Resolved.{Resolved}
use Rattle.walk.specs.declared.Place.{Place}
use Rattle.walk.specs.declared.Place.TheVariants.{Image, Pagefile, Zeros, Refused}
use Rattle.walk.proofs.Ground.{Sound}
use Rattle.walk.proofs.Codes.{PlaceCoded, resolve_coded}
use Rattle.map_format.specs.Extents.{extents_of}
use Rattle.map_format.specs.Layout.{header_bytes, extents_bytes, map_bytes}
use Rattle.map_format.specs.Build.{open_bytes, PagesTaken, RoomFor}
use Rattle.map_format.specs.declared.Builder.{Builder}
use Rattle.map_format.specs.declared.MappedPage.{MappedPage}
use Rattle.map_format.proofs.Answers.{Mappable}
use Rattle.map_format.proofs.Building.{empty_at, taken_none, taken_then, taken_finish, header_length, room_empty, room_less, room_pushed}
use Rattle.maps.specs.MapOf.{allowed, mapped_page_of, pages_of, header_of, map_of}
use Rattle.maps.specs.Inner.{map_into}
use Rattle.maps.proofs.Ranges.{range_reached}

-- an answer whose number is a code can stand in a map
pub mappable : (p : Place) → PlaceCoded p → Mappable (mapped_page_of p)
unfolding is_code
mappable (Image o) m = record { code = refl; file = omega arith; zero_without_file = λ e. absurd (let z : ◌≡◌ {A = ℕ} 0 1 = cc in omega arith) }
mappable (Pagefile o) m = record { code = refl; file = omega arith; zero_without_file = λ e. absurd (let z : ◌≡◌ {A = ℕ} 0 1 = cc in omega arith) }
mappable Zeros m = record { code = refl; file = omega arith; zero_without_file = λ e. refl }
mappable (Refused r) m = record { code = m; file = omega arith; zero_without_file = λ e. refl }

-- one page more
pages_next : (n : ℕ) (w : World) (a : ℕ) → pages_of (n + 1) w a ≡ pages_of n w a ++ (mapped_page_of (resolve_of 3 w (a + 4096 * n)).place ∷ [])
unfolding pages_of
pages_next zero w a =
    let e : a + 4096 * 0 ≡ a = omega arith in
    rw e
pages_next (suc n) w a =
    let k : suc n + 1 ≡ suc (n + 1) = omega arith in
    let e : a + 4096 + 4096 * n ≡ a + 4096 * suc n = omega arith in
    rw (k, ← e) (ap (λ (l : List MappedPage). mapped_page_of (resolve_of 3 w a).place ∷ l) (pages_next n w (a + 4096)))

pub pages_long : (n : ℕ) (w : World) (a : ℕ) → length (pages_of n w a) ≡ n
unfolding pages_of
pages_long zero w a = refl
pages_long (suc n) w a = ap suc (pages_long n w (a + 4096))

-- i pages are taken
pub record Mapping (w : World) (start count : ℕ) (old : List ℕ) (b₀ : Builder) (i : ℕ) (out : List ℕ) (b : Builder) : Type 0 where
  pub within : i ≤ count
  pub taken : PagesTaken old b₀ (pages_of i w start) out b
  pub room : RoomFor b (count - i)

pub mapping_none : (w : World) (start count : ℕ) {o : List ℕ} (old : List ℕ) (at : ℕ)
    → count ≤ 2 ^ 20 → Wrote o 0 (header_bytes (header_of start count)) at old → Mapping w start count old (empty_at at) 0 old (empty_at at)
unfolding pages_of
mapping_none w start count old at h q =
    let small : at ≤ 18 = omega (arith, q.place, header_length (header_of start count)) in
    record { within = omega arith; taken = taken_none old (empty_at at); room = room_empty at (count - 0) (omega arith) (omega arith) }

module _ {w : World} {start count : ℕ} {old : List ℕ} {b₀ : Builder} {i : ℕ} {out : List ℕ} {b : Builder} (q : Mapping w start count old b₀ i out b) where
  pub mapping_room : i < count → RoomFor b 1
  mapping_room h = room_less 1 (omega arith) q.room

  mappable_at : Sound w → length w.image ≤ 2 ^ 48 → allowed w.space.mode start count ≡ true → i < count → Mappable (mapped_page_of (resolve_of 3 w (start + 4096 * i)).place)
  mappable_at sound small range h =
      let reached = range_reached w.space.mode start count range (start + 4096 * i) (omega arith) (omega arith) in
      mappable (resolve_of 3 w (start + 4096 * i)).place (resolve_coded w sound small 3 (start + 4096 * i) reached)

  pub mapping_next : Sound w → length w.image ≤ 2 ^ 48 → allowed w.space.mode start count ≡ true → i < count
      → (v : Resolved) → v ≡ resolved_of (resolve_of 3 w (start + 4096 * i)) → (page : MappedPage) → page ≡ mapped_page_of v.place
      → (new : List ℕ) (b' : Builder) → PagesTaken out b (page ∷ []) new b' → Mapping w start count old b₀ (i + 1) new b'
  mapping_next sound small range h v e page f new b' p =
      let same : page ≡ mapped_page_of (resolve_of 3 w (start + 4096 * i)).place = f ∙ ap (λ (z : Resolved). mapped_page_of z.place) e in
      let p' : PagesTaken out b (mapped_page_of (resolve_of 3 w (start + 4096 * i)).place ∷ []) new b' = rw same at p in
      let holds = mappable_at sound small range h in
      let k : count - i ≡ suc (count - (i + 1)) = omega arith in
      record {
        within = omega arith;
        taken = rw (pages_next i w start) (taken_then q.taken p');
        room = room_pushed (count - (i + 1)) (omega (arith, code_small _ holds.code)) (omega (arith, holds.file)) (rw k at q.room) p';
      }

  pub mapping_end : count ≤ i → RoomFor b 0
  mapping_end h = room_less 0 (omega arith) q.room

pub map_written : {w : World} {start count : ℕ} {o old out new : List ℕ} {at i r : ℕ} {b : Builder}
    → Wrote o 0 (header_bytes (header_of start count)) at old → Mapping w start count old (empty_at at) i out b → count ≤ i
    → Wrote out b.at (open_bytes b) r new → Wrote o 0 (map_of w start count) r new
unfolding map_of map_bytes
map_written {w} {start} {count} {o} {old} {out} {new} {at} {i} {r} {b} p q h f =
    let all : i ≡ count = omega (arith, q.within) in
    let extents : Wrote old at (extents_bytes (extents_of (pages_of count w start))) r new = rw all at (taken_finish q.taken f) in
    wrote_then p extents

pub wrote_long : {o o' bs : List ℕ} {at r : ℕ} → Wrote o at bs r o' → length o' ≡ length o
wrote_long {o} {o'} {bs} {at} {r} q = rw q.bytes (length-sets o at bs)

-- ---- the range, and the two passes

-- the result and the buffer are those of a pair
abbrev pub Told : Result ℕ Fault → List ℕ → Result ℕ Fault × List ℕ → Type 0
Told r new told = (r, new) ≡ told

module _ (w : World) (start count : ℕ) (old : List ℕ) where
  pub bad_range : allowed w.space.mode start count ≡ false → Told (Err (unplaced BadMapRange)) old (map_into w start count old)
  bad_range h = rw h

  module _ (range : allowed w.space.mode start count ≡ true) (last : List ℕ) (r : ℕ) (p : Wrote [] 0 (map_of w start count) r last) where
    nothing : last ≡ []
    nothing = p.bytes ∙ sets_none 0 (map_of w start count)

    pub short_map : length (last ++ old) < r → Told (Err (unplaced MapBufferShort)) (last ++ old) (map_into w start count old)
    short_map h =
        let l : length old < length (map_of w start count) = omega (arith, p.place, rw nothing at h) in
        rw (range, nothing, lt-ltb (length old) (length (map_of w start count)) l)

    pub full_map : r ≤ length (last ++ old) → (r₂ : ℕ) (new : List ℕ) → Wrote (last ++ old) 0 (map_of w start count) r₂ new → Told (Ok r) new (map_into w start count old)
    full_map h r₂ new q =
        let l : length (map_of w start count) ≤ length old = omega (arith, p.place, rw nothing at h) in
        let e : r ≡ length (map_of w start count) = omega (arith, p.place) in
        let b : new ≡ sets old 0 (map_of w start count) = rw nothing at q.bytes in
        rw (range, le-ltb (length old) (length (map_of w start count)) l, e, b)
