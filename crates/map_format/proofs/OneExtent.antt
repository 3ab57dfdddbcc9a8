-- What an extent that was read keeps to.
use Rattle.std.specs.Prelude.{if◌then◌else◌}
use mathlib.Core.Path.{◌≡◌, refl, sym, ap, ◌∙◌}
use mathlib.Core.List.{List}
use mathlib.Core.Bool.{Bool, true, false, not, ◌||◌}
use Prim.Native.Nat.{ℕ, ◌+◌, ◌^◌, ◌<◌, ◌≤◌}
use native.Mathlib.Omega.{arith}
use lib.Dec.{ltb, leb}
use borrow.Author.Tests.{leb-true, ltb-true}
use Rattle.base.specs.Codes.{is_code}
use Rattle.base.proofs.Test.{both_true}
use Rattle.base.specs.declared.Refusal.TheVariants.{BadExtent}
use Rattle.varint.specs.Reader.{got, return}
use Rattle.varint.specs.Groups.{number}
use Rattle.varint.proofs.Reader.{came, held, returned}
use Rattle.varint.proofs.Fields.{field_below}
use Rattle.map_format.specs.Extents.{has_file_page, extent}
use Rattle.map_format.specs.Reading.{first_from, sound, extent_from}
use Rattle.map_format.specs.declared.Extent.{Extent}
use Rattle.map_format.specs.Inner.{FieldsInLimits}
use Rattle.map_format.proofs.Rules.{KeepsRules}
use Rattle.map_format.proofs.Steps.{after_code, after_listed, after_length, after_first}

-- ---- the first page of the file

module _ (s : List ℕ) (at code : ℕ) where
  first_in_limits : (first next : ℕ) → first_from code s at ≡ got first next → first < 2 ^ 36
  first_in_limits first next e = go (has_file_page code) e
    where
      go : (b : Bool) → (if b then number else return 0) s at ≡ got first next → first < 2 ^ 36
      go true w = field_below s at first next w
      go false w =
          let z : 0 ≡ first = (returned 0 first at next w).0 in
          omega arith

  first_zero : (first next : ℕ) → first_from code s at ≡ got first next → has_file_page code ≡ false → first ≡ 0
  first_zero first next e h =
      let w : got 0 at ≡ got first next = sym (ap (λ (b : Bool). (if b then number else return 0) s at) h) ∙ e in
      sym (returned 0 first at next w).0

in_limits : (s : List ℕ) (code pages a b first next : ℕ) → number s a ≡ got pages b → first_from code s b ≡ got first next → FieldsInLimits (extent code pages first)
in_limits s code pages a b first next e₁ e₂ = record {
  pages_limit = field_below s a pages b e₁;
  first_limit = first_in_limits s b code first next e₂;
  zero_without_file = first_zero s b code first next e₂;
}

-- ---- an extent that was read

-- it keeps the rules where `left` pages are left
pub record WithPagesLeft (left : ℕ) (e : Extent) : Type 0 where
  pub rules : KeepsRules e
  pub most : e.pages ≤ left

top_of : (e : Extent) (b : Bool) → FieldsInLimits e → has_file_page e.code ≡ b → (not b || leb (e.first + e.pages) (2 ^ 36)) ≡ true → e.first + e.pages ≤ 2 ^ 36
top_of e true q h t = leb-true (e.first + e.pages) (2 ^ 36) t
top_of e false q h t =
    let z : e.first ≡ 0 = q.zero_without_file h in
    omega (arith, q.pages_limit)

sound_keeps : (left : ℕ) (prev e : Extent) → is_code e.code ≡ true → FieldsInLimits e → sound left prev e ≡ true → WithPagesLeft left e
unfolding sound
sound_keeps left prev e l q t =
    let t₁ = both_true (ltb 0 e.pages) _ t in
    let t₂ = both_true (leb e.pages left) _ t₁.1 in
    let t₃ = both_true (not (has_file_page e.code) || leb (e.first + e.pages) (2 ^ 36)) _ t₂.1 in
    let some : 0 < e.pages = ltb-true 0 e.pages t₁.0 in
    record {
      rules = record { code = l; some = omega arith; top = top_of e (has_file_page e.code) q refl t₃.0; fields = q };
      most = leb-true e.pages left t₂.0;
    }

pub extent_keeps : (s : List ℕ) (at left : ℕ) (prev e : Extent) (next : ℕ) → extent_from left prev s at ≡ got e next → WithPagesLeft left e
unfolding extent_from
extent_keeps s at left prev e next w =
    let c₁ = came s (after_code left prev) (number s at) e next w in
    let t₁ = held s (λ x. after_listed left prev c₁.value) (is_code c₁.value) BadExtent c₁.at e next c₁.rest in
    let c₂ = came s (after_length left prev c₁.value) (number s c₁.at) e next t₁.1 in
    let c₃ = came s (after_first left prev c₁.value c₂.value) (first_from c₁.value s c₂.at) e next c₂.rest in
    let t₂ = held s (λ x. return (extent c₁.value c₂.value c₃.value)) (sound left prev (extent c₁.value c₂.value c₃.value)) BadExtent c₃.at e next c₃.rest in
    let same = (returned (extent c₁.value c₂.value c₃.value) e c₃.at next t₂.1).0 in
    let q = in_limits s c₁.value c₂.value c₁.at c₂.at c₃.value c₃.at c₂.field c₃.field in
    rw same at (sound_keeps left prev (extent c₁.value c₂.value c₃.value) t₁.0 q t₂.0)
