-- What each function of the builder shows at its returns.
use Rattle.std.specs.Prelude.{Some}
use mathlib.Core.Path.{◌≡◌, ap}
use mathlib.Core.List.{List, [], ◌∷◌, append-nil}
use mathlib.Core.Bool.{true, false}
use Prim.Native.Nat.{ℕ, ◌+◌}
use Rattle.base.specs.Overlay.{Wrote}
use Rattle.base.proofs.Overlay.{wrote_then}
use Rattle.varint.specs.Groups.{encode}
use Rattle.map_format.specs.Extents.{has_file_page, extent, joins}
use Rattle.map_format.specs.Layout.{header_bytes, extent_bytes}
use Rattle.map_format.specs.Build.{open_bytes, follows_of, after_page, written_for, PagesTaken}
use Rattle.map_format.specs.declared.Builder.{Builder}
use Rattle.map_format.specs.declared.Extent.{Extent}
use Rattle.map_format.specs.declared.Header.{Header}
use Rattle.map_format.specs.declared.MappedPage.{MappedPage}

pub wrote_header : (h : Header) {o o₁ o₂ o₃ : List ℕ} {a b r : ℕ}
    → Wrote o 0 (encode 1) a o₁
    → Wrote o₁ a (encode h.start.0) b o₂
    → Wrote o₂ b (encode h.count) r o₃
    → Wrote o 0 (header_bytes h) r o₃
unfolding header_bytes
wrote_header h p q s = wrote_then p (wrote_then q s)

module _ {o o₁ o₂ : List ℕ} {at r₁ r₂ : ℕ} (e : Extent) where
  pub wrote_page : {o₃ : List ℕ} {r₃ : ℕ} → has_file_page e.code ≡ true
      → Wrote o at (encode e.code) r₁ o₁ → Wrote o₁ r₁ (encode e.pages) r₂ o₂ → Wrote o₂ r₂ (encode e.first) r₃ o₃ → Wrote o at (extent_bytes e) r₃ o₃
  unfolding extent_bytes
  wrote_page t p₁ p₂ p₃ = rw t (wrote_then p₁ (wrote_then p₂ p₃))

  pub wrote_no_page : has_file_page e.code ≡ false → Wrote o at (encode e.code) r₁ o₁ → Wrote o₁ r₁ (encode e.pages) r₂ o₂ → Wrote o at (extent_bytes e) r₂ o₂
  unfolding extent_bytes
  wrote_no_page t p₁ p₂ = rw (t, append-nil) (wrote_then p₁ p₂)

module _ (b : Builder) (p : MappedPage) where
  pub longer : (o : List ℕ) (e : Extent) → b.last ≡ Some e → joins e p.code p.file ≡ true → PagesTaken o b (p ∷ []) o (record { at = b.at; last = Some (extent e.code (e.pages + 1) e.first) })
  unfolding follows_of after_page written_for
  longer o e s t = record { state = rw (s, t); bytes = rw (s, t) }

  pub opened : {o o' : List ℕ} {at : ℕ} → follows_of b p ≡ false → Wrote o b.at (open_bytes b) at o' → PagesTaken o b (p ∷ []) o' (record { at = at; last = Some (extent p.code 1 p.file) })
  unfolding after_page written_for
  opened {o} {o'} {at} t w =
      record {
        state = rw t (ap (λ (k : ℕ). record { at = k; last = Some (extent p.code 1 p.file) }) w.place);
        bytes = rw (t, append-nil) w.bytes;
      }
