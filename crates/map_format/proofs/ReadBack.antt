-- A map of pages that a map can hold is read back.
use Rattle.std.specs.Prelude.{if◌then◌else◌}
use mathlib.Core.Path.{◌≡◌, refl, sym, ap, ◌∙◌}
use mathlib.Core.List.{List, [], ◌∷◌, ◌++◌, append_assoc, append-nil}
use mathlib.Core.Bool.{Bool, true, false, not, ◌&&◌}
use Prim.Native.Nat.{ℕ, zero, suc, ◌+◌, ◌-◌, ◌^◌, ◌<◌, ◌≤◌}
use native.Mathlib.Omega.{arith}
use lib.Dec.{ltb}
use lib.ListN.{length, drop, length-append}
use borrow.Author.Tests.{eq-eqb, ne_eqb}
use Rattle.base.proofs.Codes.{code_small}
use Rattle.varint.specs.Reader.{got, Reader, return}
use Rattle.varint.specs.Groups.{encode, number}
use Rattle.varint.specs.Edition.{edition, edition_fields}
use Rattle.varint.proofs.Standing.{number_at, drop_after}
use Rattle.map_format.specs.Extents.{has_file_page, page_after, extent, no_extent, joins, joined, extents_of, extent_pages}
use Rattle.map_format.specs.Layout.{header_bytes, extent_bytes, extents_bytes, map_bytes}
use Rattle.map_format.specs.Reading.{in_half, header_fields, first_from, sound, extent_from, extents_from, map_fields}
use Rattle.map_format.specs.declared.Extent.{Extent}
use Rattle.map_format.specs.declared.Header.{Header}
use Rattle.map_format.specs.declared.MappedPage.{MappedPage}
use Rattle.map_format.proofs.Answers.{Mappable, AllMappable}
use Rattle.map_format.proofs.HeaderFields.{in_half_lem}
use Rattle.map_format.proofs.Rules.{KeepsRules, apart}
use Rattle.map_format.proofs.Pages.{joins_true, after_add, pages_sum}

-- ---- an extent that keeps the rules

-- does it belong to the extent before it? One of 0 pages is none
abbrev touches : Extent → Extent → Bool
touches prev e = ltb 0 prev.pages && joins prev e.code e.first

sound_true : (left : ℕ) (prev e : Extent) → KeepsRules e → e.pages ≤ left → touches prev e ≡ false → sound left prev e ≡ true
sound_true left prev e q h a = apart left prev e q.some h q.top ∙ ap not a

abbrev file_bytes : Extent → List ℕ
file_bytes e = if has_file_page e.code then encode e.first else []

file_at : (s : List ℕ) (at : ℕ) (e : Extent) (rest : List ℕ) → KeepsRules e → drop at s ≡ file_bytes e ++ rest
    → first_from e.code s at ≡ got e.first (at + length (file_bytes e))
file_at s at e rest q = go (has_file_page e.code) q.fields.zero_without_file
  where
    go : (b : Bool) → (b ≡ false → e.first ≡ 0) → drop at s ≡ (if b then encode e.first else []) ++ rest
        → (if◌then◌else◌ {A = Reader ℕ} b number (return 0)) s at ≡ got e.first (at + length (if b then encode e.first else []))
    go true z d = number_at s at e.first rest q.fields.first_limit d
    go false z d =
        let none : at ≡ at + 0 = omega arith in
        let first : 0 ≡ e.first = sym (z refl) in
        ap (got 0) none ∙ ap (λ (n : ℕ). got n (at + 0)) first

extent_split : (e : Extent) (rest : List ℕ) → extent_bytes e ++ rest ≡ encode e.code ++ (encode e.pages ++ (file_bytes e ++ rest))
unfolding extent_bytes
extent_split e rest =
    append_assoc (encode e.code) (encode e.pages ++ file_bytes e) rest
    ∙ ap (λ (l : List ℕ). encode e.code ++ l) (append_assoc (encode e.pages) (file_bytes e) rest)

extent_sum : (e : Extent) → length (extent_bytes e) ≡ length (encode e.code) + (length (encode e.pages) + length (file_bytes e))
unfolding extent_bytes
extent_sum e = length-append (encode e.code) (encode e.pages ++ file_bytes e) ∙ ap (λ (n : ℕ). length (encode e.code) + n) (length-append (encode e.pages) (file_bytes e))

extent_at : (s : List ℕ) (at left : ℕ) (prev e : Extent) (rest : List ℕ) → KeepsRules e → e.pages ≤ left → touches prev e ≡ false → drop at s ≡ extent_bytes e ++ rest
    → extent_from left prev s at ≡ got e (at + length (extent_bytes e))
unfolding extent_from
extent_at s at left prev e rest q h a d =
    let d₁ : drop at s ≡ encode e.code ++ (encode e.pages ++ (file_bytes e ++ rest)) = d ∙ extent_split e rest in
    let at₁ : ℕ = at + length (encode e.code) in
    let d₂ : drop at₁ s ≡ encode e.pages ++ (file_bytes e ++ rest) = drop_after s at (encode e.code) _ d₁ in
    let at₂ : ℕ = at₁ + length (encode e.pages) in
    let d₃ : drop at₂ s ≡ file_bytes e ++ rest = drop_after s at₁ (encode e.pages) _ d₂ in
    rw (
      number_at s at e.code _ (omega (arith, code_small e.code q.code)) d₁,
      q.code,
      number_at s at₁ e.pages _ q.fields.pages_limit d₂,
      file_at s at₂ e rest q d₃,
      sound_true left prev e q h a,
    ) (ap (got e) (omega (arith, extent_sum e)))

-- ---- extents that keep the rules, of which no two neighbours belong together
abbrev pub Apart : Extent → List Extent → Type 0
Apart e [] = Unit {0}
Apart e (x ∷ xs) = joins e x.code x.first ≡ false

abbrev pub Chain : List Extent → Type 0
Chain [] = Unit {0}
Chain (e ∷ es) = KeepsRules e × (Apart e es × Chain es)

-- the first of them does not belong to the extent before it
abbrev After : Extent → List Extent → Type 0
After prev [] = Unit {0}
After prev (e ∷ es) = touches prev e ≡ false

after_apart : (e : Extent) (es : List Extent) → Apart e es → After e es
after_apart e [] a = tt
after_apart e (x ∷ xs) a = rw a (go (ltb 0 e.pages))
  where
    go : (b : Bool) → (b && false) ≡ false
    go true = refl
    go false = refl

extents_at : (es : List Extent) (k left : ℕ) (prev : Extent) (s : List ℕ) (at : ℕ) (rest : List ℕ)
    → Chain es → After prev es → extent_pages es ≡ left → length es ≤ k → drop at s ≡ extents_bytes es ++ rest
    → extents_from k left prev s at ≡ got es (at + length (extents_bytes es))
unfolding extents_from
extents_at [] zero left prev s at rest ch a t l d = ap (got []) (omega arith)
extents_at [] (suc k) left prev s at rest ch a t l d = rw (eq-eqb left 0 (sym t)) (ap (got []) (omega arith))
extents_at (e ∷ es) zero left prev s at rest ch a t l d = absurd (omega arith)
extents_at (e ∷ es) (suc k) left prev s at rest ch a t l d =
    let d₁ : drop at s ≡ extent_bytes e ++ (extents_bytes es ++ rest) = d ∙ append_assoc (extent_bytes e) (extents_bytes es) rest in
    let at₁ : ℕ = at + length (extent_bytes e) in
    let d₂ : drop at₁ s ≡ extents_bytes es ++ rest = drop_after s at (extent_bytes e) _ d₁ in
    rw (
      ne_eqb left 0 (λ z. omega (arith, ch.0.some)),
      extent_at s at left prev e (extents_bytes es ++ rest) ch.0 (omega arith) a d₁,
      extents_at es k (left - e.pages) e s at₁ rest ch.1.1 (after_apart e es ch.1.0) (omega arith) (omega arith) d₂,
    ) (ap (got (e ∷ es)) (omega (arith, length-append (extent_bytes e) (extents_bytes es))))

-- ---- the extents of mappable pages keep the rules
joined_top : (c n f g : ℕ) → page_after c 1 f ≡ g → (has_file_page c ≡ false → f ≡ 0) → g + n ≤ 2 ^ 36 → 1 + n < 2 ^ 36 → f + (1 + n) ≤ 2 ^ 36
unfolding page_after
joined_top c n f g e z h l = go (has_file_page c) e z
  where
    go : (b : Bool) → (if b then f + 1 else f) ≡ g → (b ≡ false → f ≡ 0) → f + (1 + n) ≤ 2 ^ 36
    go true y w = omega arith
    go false y w = omega (arith, w refl)

one_keeps : (p : MappedPage) → Mappable p → KeepsRules (extent p.code 1 p.file)
one_keeps p q = record {
  code = q.code;
  some = omega arith;
  top = omega (arith, q.file);
  fields = record { pages_limit = omega arith; first_limit = q.file; zero_without_file = q.zero_without_file };
}

joined_chain : (p : MappedPage) (es : List Extent) → Mappable p → Chain es → suc (extent_pages es) < 2 ^ 36 → Chain (joined p.code 1 p.file es)
unfolding joined
joined_chain p [] q ch l = (one_keeps p q, (tt, tt))
joined_chain p (e ∷ es) q ch l = go (joins (extent p.code 1 p.file) e.code e.first) refl
  where
    apart : (xs : List Extent) → p.code ≡ e.code → page_after p.code 1 p.file ≡ e.first → Apart e xs → Apart (extent p.code (1 + e.pages) p.file) xs
    apart [] ec ef a = tt
    apart (x ∷ xs) ec ef a = rw (after_add p.code 1 e.pages p.file, ef, ec) a

    go : (b : Bool)
        → joins (extent p.code 1 p.file) e.code e.first ≡ b
        → Chain (if b then extent p.code (1 + e.pages) p.file ∷ es else extent p.code 1 p.file ∷ e ∷ es)
    go true y =
        let h = joins_true (extent p.code 1 p.file) e.code e.first y in
        let ec : p.code ≡ e.code = h.0 in
        let ef : page_after p.code 1 p.file ≡ e.first = h.1 in
        let kept : KeepsRules (extent p.code (1 + e.pages) p.file) =
        record {
          code = q.code;
          some = omega arith;
          top = joined_top p.code e.pages p.file e.first ef q.zero_without_file ch.0.top (omega arith);
          fields = record { pages_limit = omega arith; first_limit = q.file; zero_without_file = q.zero_without_file };
        } in
        (kept, (apart es ec ef ch.1.0, ch.1.1))
    go false y = (one_keeps p q, (y, ch))

pub extents_chain : (ps : List MappedPage) → AllMappable ps → length ps < 2 ^ 36 → Chain (extents_of ps)
extents_chain [] q l = tt
extents_chain (p ∷ ps) q l = joined_chain p (extents_of ps) q.0 (extents_chain ps q.1 (omega arith)) (omega (arith, pages_sum ps))

chain_length : (es : List Extent) → Chain es → length es ≤ extent_pages es
chain_length [] q = omega arith
chain_length (e ∷ es) q = omega (arith, chain_length es q.1.1, q.0.some)

none_before : (es : List Extent) → After no_extent es
none_before [] = tt
none_before (e ∷ es) = refl

-- ---- the whole map

map_split : (h : Header) (es : List Extent) → map_bytes h es ≡ encode 1 ++ (encode h.start.0 ++ (encode h.count ++ (extents_bytes es ++ [])))
unfolding map_bytes header_bytes
map_split h es = rw (append-nil (extents_bytes es), append_assoc, append_assoc)

map_sum : (h : Header) (es : List Extent) → length (map_bytes h es) ≡ length (encode 1) + (length (encode h.start.0) + (length (encode h.count) + length (extents_bytes es)))
unfolding map_bytes header_bytes
map_sum h es = rw (append_assoc, append_assoc, length-append, length-append, length-append)

pub map_reads : (s : List ℕ) (h : Header) (es : List Extent) → s ≡ map_bytes h es → in_half h.start h.count ≡ true → Chain es → extent_pages es ≡ h.count
    → map_fields s 0 ≡ got (record { header = h; extents = es }) (length s)
unfolding map_fields header_fields edition_fields edition
map_reads s h es e half ch t =
    let start = h.start.0 in
    let count = h.count in
    let r = in_half_lem h.start count half in
    let d₀ : drop 0 s ≡ encode 1 ++ (encode start ++ (encode count ++ (extents_bytes es ++ []))) = e ∙ map_split h es in
    let at₁ : ℕ = 0 + length (encode 1) in
    let d₁ : drop at₁ s ≡ encode start ++ (encode count ++ (extents_bytes es ++ [])) = drop_after s 0 (encode 1) _ d₀ in
    let at₂ : ℕ = at₁ + length (encode start) in
    let d₂ : drop at₂ s ≡ encode count ++ (extents_bytes es ++ []) = drop_after s at₁ (encode start) _ d₁ in
    let at₃ : ℕ = at₂ + length (encode count) in
    let d₃ : drop at₃ s ≡ extents_bytes es ++ [] = drop_after s at₂ (encode count) _ d₂ in
    let end : at₃ + length (extents_bytes es) ≡ length s = omega (arith, map_sum h es, ap length e) in
    rw (
      number_at s 0 1 _ (omega arith) d₀,
      number_at s at₁ start _ (omega (arith, r.some, r.top)) d₁,
      number_at s at₂ count _ (omega (arith, r.most)) d₂,
      half,
      extents_at es count count no_extent s at₃ [] ch (none_before es) t (omega (arith, chain_length es ch)) d₃,
      eq-eqb (at₃ + length (extents_bytes es)) (length s) end,
    ) (ap (got (record { header = h; extents = es })) end)

pub reads_back : (ps : List MappedPage) (h : Header) → AllMappable ps → h.count ≡ length ps → in_half h.start h.count ≡ true
    → map_fields (map_bytes h (extents_of ps)) 0 ≡ got (record { header = h; extents = extents_of ps }) (length (map_bytes h (extents_of ps)))
reads_back ps h q n half =
    let r = in_half_lem h.start h.count half in
    map_reads (map_bytes h (extents_of ps)) h (extents_of ps) refl half (extents_chain ps q (omega (arith, r.most))) (pages_sum ps ∙ sym n)
