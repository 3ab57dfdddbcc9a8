-- A builder that takes pages one by one writes the extents of the pages.
use Rattle.std.specs.Prelude.{Option, None, Some, if◌then◌else◌}
use mathlib.Core.Path.{◌≡◌, refl, sym, ap, ◌∙◌}
use mathlib.Core.List.{List, [], ◌∷◌, ◌++◌, append_assoc, append-nil}
use mathlib.Core.Bool.{Bool, true, false}
use Prim.Native.Nat.{ℕ, suc, ◌+◌, ◌*◌, ◌^◌, ◌<◌, ◌≤◌}
use native.Mathlib.Omega.{arith}
use lib.ListN.{length, length-append}
use lib.Seq.{sets}
use Rattle.base.specs.Overlay.{Wrote}
use Rattle.base.proofs.Overlay.{sets_append, wrote_then}
use Rattle.varint.specs.Groups.{encode}
use Rattle.varint.proofs.Writing.{encode_length}
use Rattle.map_format.specs.Extents.{has_file_page, page_after, extent, joins, joined, extents_of}
use Rattle.map_format.specs.Layout.{header_bytes, extent_bytes, extents_bytes}
use Rattle.map_format.specs.Build.{open_extent, bytes_of, open_bytes, follows_of, after_page, written_for, after_pages, written_for_all, PagesTaken, RoomFor}
use Rattle.map_format.specs.declared.Builder.{Builder}
use Rattle.map_format.specs.declared.Extent.{Extent}
use Rattle.map_format.specs.declared.Header.{Header}
use Rattle.map_format.specs.declared.MappedPage.{MappedPage}
use Rattle.map_format.proofs.Pages.{joins_true, joined_joined}

-- no extent is open, and the first will stand at `at`
abbrev pub empty_at : ℕ → Builder
empty_at at = record { at = at; last = None }

abbrev longer : Builder → Builder
longer b = let e = open_extent b in record { at = b.at; last = Some (extent e.code (e.pages + 1) e.first) }

abbrev opened : Builder → MappedPage → Builder
opened b p = record { at = b.at + length (open_bytes b); last = Some (extent p.code 1 p.file) }

-- ---- the builder's place
page_place : (b : Builder) (p : MappedPage) → (after_page b p).at ≡ b.at + length (written_for b p)
unfolding after_page written_for
page_place b p = go (follows_of b p)
  where
    go : (t : Bool)
        → (if◌then◌else◌ {A = Builder} t (longer b) (opened b p)).at
        ≡ b.at + length (if t then [] else open_bytes b)
    go true = omega arith
    go false = refl

pub taken_place : (b : Builder) (ps : List MappedPage) → (after_pages b ps).at ≡ b.at + length (written_for_all b ps)
taken_place b [] = omega arith
taken_place b (p ∷ ps) = omega (arith, taken_place (after_page b p) ps, page_place b p, length-append (written_for b p) (written_for_all (after_page b p) ps))

-- ---- some pages, and then more
taken_append : (b : Builder) (ps qs : List MappedPage) → after_pages b (ps ++ qs) ≡ after_pages (after_pages b ps) qs
taken_append b [] qs = refl
taken_append b (p ∷ ps) qs = taken_append (after_page b p) ps qs

bytes_append : (b : Builder) (ps qs : List MappedPage) → written_for_all b (ps ++ qs) ≡ written_for_all b ps ++ written_for_all (after_pages b ps) qs
bytes_append b [] qs = refl
bytes_append b (p ∷ ps) qs =
    let next = after_page b p in
    ap (λ (l : List ℕ). written_for b p ++ l) (bytes_append next ps qs)
    ∙ sym (append_assoc (written_for b p) (written_for_all next ps) (written_for_all (after_pages next ps) qs))

pub taken_none : (o : List ℕ) (b : Builder) → PagesTaken o b [] o b
taken_none o b = record { state = refl; bytes = refl }

pub taken_then : {o o' o'' : List ℕ} {b b' b'' : Builder} {ps qs : List MappedPage} → PagesTaken o b ps o' b' → PagesTaken o' b' qs o'' b'' → PagesTaken o b (ps ++ qs) o'' b''
taken_then {o} {o'} {o''} {b} {b'} {b''} {ps} {qs} p q =
    record {
      state = q.state ∙ ap (λ (x : Builder). after_pages x qs) p.state ∙ sym (taken_append b ps qs);
      bytes =
          q.bytes
          ∙ ap (λ (x : Builder). sets o' x.at (written_for_all x qs)) p.state
          ∙ ap (λ (l : List ℕ). sets l (after_pages b ps).at (written_for_all (after_pages b ps) qs)) p.bytes
          ∙ ap (λ (k : ℕ). sets (sets o b.at (written_for_all b ps)) k (written_for_all (after_pages b ps) qs)) (taken_place b ps)
          ∙ sym (sets_append o b.at (written_for_all b ps) (written_for_all (after_pages b ps) qs))
          ∙ ap (sets o b.at) (sym (bytes_append b ps qs));
    }

-- ---- all that is written, from a builder on, for the pages and the end
begins : (c f n k g : ℕ) (es : List Extent) → joins (extent c n f) k g ≡ false → joined c n f (joined k 1 g es) ≡ extent c n f ∷ joined k 1 g es
unfolding joined
begins c f n k g [] q = rw q
begins c f n k g (e ∷ es) q = go (joins (extent k 1 g) e.code e.first)
  where
    go : (b : Bool) → joined c n f (if b then extent k (1 + e.pages) g ∷ es else extent k 1 g ∷ e ∷ es) ≡ extent c n f ∷ (if b then extent k (1 + e.pages) g ∷ es else extent k 1 g ∷ e ∷ es)
    go true = rw q
    go false = rw q

abbrev whole : Builder → List MappedPage → List ℕ
whole b ps = written_for_all b ps ++ open_bytes (after_pages b ps)

-- the extent e is open
abbrev open_at : ℕ → Extent → Builder
open_at at e = record { at = at; last = Some e }

whole_open : (ps : List MappedPage) (at : ℕ) (e : Extent) → whole (open_at at e) ps ≡ extents_bytes (joined e.code e.pages e.first (extents_of ps))
unfolding joined after_page written_for follows_of open_bytes
whole_open [] at e = sym (append-nil _)
whole_open (p ∷ ps) at e =
    let b = open_at at e in
    append_assoc (written_for b p) (written_for_all (after_page b p) ps) (open_bytes (after_pages (after_page b p) ps)) ∙ go (joins e p.code p.file) refl (λ k x. whole_open ps k x)
  where
    go : (t : Bool)
        → joins e p.code p.file ≡ t
        → ((k : ℕ) (x : Extent) → whole (open_at k x) ps ≡ extents_bytes (joined x.code x.pages x.first (extents_of ps)))
        → written_for (open_at at e) p ++ whole (after_page (open_at at e) p) ps ≡ extents_bytes (joined e.code e.pages e.first (extents_of (p ∷ ps)))
    go true q ih =
        let j = joins_true e p.code p.file q in
        let ec : e.code ≡ p.code = j.0 in
        let ef : page_after e.code e.pages e.first ≡ p.file = j.1 in
        rw (q, ← ec, ← ef, joined_joined e.code e.pages e.first 1 (extents_of ps)) (ih at (extent e.code (e.pages + 1) e.first))
    go false q ih =
        rw (q, begins e.code e.first e.pages p.code p.file (extents_of ps) q)
        (ap (λ (l : List ℕ). extent_bytes e ++ l) (ih (at + length (extent_bytes e)) (extent p.code 1 p.file)))

-- from a builder with no extent open
pub whole_extents : (ps : List MappedPage) (at : ℕ) → whole (empty_at at) ps ≡ extents_bytes (extents_of ps)
unfolding after_page written_for follows_of open_bytes
whole_extents [] at = refl
whole_extents (p ∷ ps) at = whole_open ps (at + 0) (extent p.code 1 p.file)

-- all pages after_pages to an empty builder, and its last extent written
pub taken_finish : {o o' o'' : List ℕ} {at r : ℕ} {b : Builder} {ps : List MappedPage}
    → PagesTaken o (empty_at at) ps o' b → Wrote o' b.at (open_bytes b) r o'' → Wrote o at (extents_bytes (extents_of ps)) r o''
taken_finish {o} {o'} {o''} {at} {r} {b} {ps} p w =
    let first : Wrote o at (written_for_all (empty_at at) ps) (after_pages (empty_at at) ps).at o' = record { place = taken_place (empty_at at) ps; bytes = p.bytes } in
    let last : Wrote o' (after_pages (empty_at at) ps).at (open_bytes (after_pages (empty_at at) ps)) r o'' = rw p.state at w in
    rw (whole_extents ps at) at (wrote_then first last)

-- ---- room in the builder's numbers
pub header_length : (h : Header) → length (header_bytes h) ≤ 18
unfolding header_bytes
header_length h = rw (length-append, length-append) (omega (arith, encode_length 1, encode_length h.start.0, encode_length h.count))

extent_length : (e : Extent) → length (extent_bytes e) ≤ 18
unfolding extent_bytes
extent_length e = go (has_file_page e.code)
  where
    go : (b : Bool) → length (encode e.code ++ (encode e.pages ++ (if b then encode e.first else []))) ≤ 18
    go true = simp length-append (omega (arith, encode_length e.code, encode_length e.pages, encode_length e.first))
    go false = simp length-append (omega (arith, encode_length e.code, encode_length e.pages))

open_length : (b : Builder) → length (open_bytes b) ≤ 18
unfolding open_bytes
open_length b = go b.last
  where
    go : (o : Option Extent) → length (bytes_of o) ≤ 18
    go None = omega arith
    go (Some e) = extent_length e

pub room_empty : (at k : ℕ) → at + 18 * k < 2 ^ 61 → k < 2 ^ 39 → RoomFor (empty_at at) k
room_empty at k h l = record { place = h; pages = omega arith; code = omega arith; first = omega arith }

pub room_less : {b : Builder} {k : ℕ} (j : ℕ) → j ≤ k → RoomFor b k → RoomFor b j
room_less {b} {k} j h q = record { place = omega (arith, q.place); pages = omega (arith, q.pages); code = q.code; first = q.first }

pub room_next : (b : Builder) (p : MappedPage) (k : ℕ) → p.code < 2 ^ 40 → p.file < 2 ^ 40 → RoomFor b (suc k) → RoomFor (after_page b p) k
unfolding after_page
room_next b p k hc hf q = go (follows_of b p)
  where
    go : (t : Bool) → RoomFor (if t then longer b else opened b p) k
    go true = record { place = omega (arith, q.place); pages = omega (arith, q.pages); code = q.code; first = q.first }
    go false = record { place = omega (arith, q.place, open_length b); pages = omega (arith, q.pages); code = hc; first = hf }

-- the builder after one page that was pushed
pub room_pushed : {o o' : List ℕ} {b b' : Builder} {p : MappedPage} (k : ℕ) → p.code < 2 ^ 40 → p.file < 2 ^ 40 → RoomFor b (suc k) → PagesTaken o b (p ∷ []) o' b' → RoomFor b' k
room_pushed {o} {o'} {b} {b'} {p} k hc hf q w = rw w.state (room_next b p k hc hf q)
