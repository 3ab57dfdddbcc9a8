-- The loop over the extents: what is left to read, with the answer so far, gives the answer of the whole.
use Rattle.std.specs.Prelude.{Result, Ok, Err, if◌then◌else◌}
use mathlib.Core.Path.{◌≡◌, refl, sym, ap, ◌∙◌}
use mathlib.Core.List.{List, [], ◌∷◌}
use mathlib.Core.Bool.{Bool, true, false}
use Prim.Native.Nat.{ℕ, zero, suc, ◌+◌, ◌-◌, ◌^◌, ◌<◌, ◌≤◌}
use native.Mathlib.Nat.{sub-zero}
use native.Mathlib.Omega.{arith}
use lib.Dec.{ltb, eqb}
use lib.ListN.{length}
use borrow.Author.Tests.{lt-ltb, le-ltb, le-leb, lt-leb, eq-eqb, ne_eqb}
use Rattle.base.specs.Refusal.{unplaced}
use Rattle.base.specs.declared.Fault.{Fault}
use Rattle.base.specs.declared.Refusal.TheVariants.{TrailingBytes}
use Rattle.base.proofs.Test.{Test, test, below, above}
use Rattle.varint.specs.Reader.{Read, got, refused, after, return}
use Rattle.map_format.specs.Extents.{mapped_page, has_file_page, page_after, no_extent, page_at}
use Rattle.map_format.specs.Reading.{extent_from, extents_from}
use Rattle.map_format.specs.Inner.{FieldsInLimits}
use Rattle.map_format.specs.declared.Extent.{Extent}
use Rattle.map_format.specs.declared.MappedPage.{MappedPage}
use Rattle.map_format.proofs.OneExtent.{WithPagesLeft, extent_keeps}
use Rattle.map_format.proofs.Rules.{KeepsRules}
use Rattle.lookup.specs.Inner.{extent_noted, page_of_read}

-- ---- the answer of the extents that are left

-- the page that was noted: the place is counted from the extent's first page
abbrev pub page_noted : Extent × ℕ → MappedPage
page_noted old = mapped_page old.0.code (page_after old.0.code old.1 old.0.first)

-- page k, where `done` pages stand before the extents and `old` answers those
abbrev answer_after : MappedPage → ℕ → ℕ → List Extent → MappedPage
answer_after old done k es = if ltb k done then old else page_at es (k - done)

abbrev read_after : List ℕ → MappedPage → ℕ → ℕ → Read (List Extent) → Result MappedPage Fault
read_after s old done k (got es at) = if eqb at (length s) then Ok (answer_after old done k es) else Err (unplaced TrailingBytes)
read_after s old done k (refused r) = Err r

page_none : (s : List ℕ) (old : MappedPage) (k : ℕ) (d : Read (List Extent)) → page_of_read s k d ≡ read_after s old 0 k d
page_none s old k (got es at) = rw (le-ltb k 0 (omega arith), sub-zero k)
page_none s old k (refused r) = refl

answer_more : (old : Extent × ℕ) (done k : ℕ) (e : Extent) (es : List Extent) → answer_after (page_noted old) done k (e ∷ es) ≡ answer_after (page_noted (extent_noted old done k e)) (done + e.pages) k es
unfolding extent_noted
answer_more old done k e es = go (test k done) (test (k - done) e.pages)
  where
    go : Test k done → Test (k - done) e.pages → answer_after (page_noted old) done k (e ∷ es) ≡ answer_after (page_noted (extent_noted old done k e)) (done + e.pages) k es
    go (below h) t = rw (lt-ltb k done h, lt-ltb k (done + e.pages) (omega arith), lt-leb done k h)
    go (above h) (below l) = rw (le-ltb k done h, lt-ltb k (done + e.pages) (omega arith), le-leb done k h, lt-ltb (k - done) e.pages l)
    go (above h) (above l) =
        rw (le-ltb k done h, le-ltb k (done + e.pages) (omega arith), le-ltb (k - done) e.pages l)
        (ap (λ (n : ℕ). page_at es n) (omega arith))

-- one extent more is noted, or still to come
page_more : (s : List ℕ) (old : Extent × ℕ) (done k : ℕ) (e : Extent) (d : Read (List Extent))
    → read_after s (page_noted old) done k (after s (λ (es : List Extent). return (e ∷ es)) d) ≡ read_after s (page_noted (extent_noted old done k e)) (done + e.pages) k d
page_more s old done k e (got es at) = ap (λ (p : MappedPage). if eqb at (length s) then Ok p else Err (unplaced TrailingBytes)) (answer_more old done k e es)
page_more s old done k e (refused r) = refl

-- the page that was noted lies in its extent
pub record Held (old : Extent × ℕ) : Type 0 where
  pub rules : KeepsRules old.0
  pub within : old.1 < old.0.pages

held_more : (old : Extent × ℕ) (done k left : ℕ) (e : Extent) → WithPagesLeft left e → (k < done → Held old) → k < done + e.pages → Held (extent_noted old done k e)
unfolding extent_noted
held_more old done k left e q h l = go (test k done)
  where
    go : Test k done → Held (extent_noted old done k e)
    go (below m) = rw (lt-leb done k m) (h m)
    go (above m) = rw (le-leb done k m) (record { rules = q.rules; within = omega arith })

after_below : (e : Extent) (n : ℕ) → KeepsRules e → n < e.pages → (b : Bool) → (if b then e.first + n else e.first) < 2 ^ 36
after_below e n q h true = omega (arith, q.top)
after_below e n q h false = q.fields.first_limit

pub held_below : (old : Extent × ℕ) → Held old → (page_noted old).file < 2 ^ 36
unfolding page_after
held_below old h = after_below old.0 old.1 h.rules h.within (has_file_page old.0.code)

-- ---- the steps of the reader

module _ (n left : ℕ) (prev : Extent) (s : List ℕ) (at : ℕ) where
  read_more : (left ≡ 0 → ⊥) → (e : Extent) (next : ℕ) → extent_from left prev s at ≡ got e next
      → extents_from (suc n) left prev s at ≡ after s (λ (es : List Extent). return (e ∷ es)) (extents_from n (left - e.pages) e s next)
  unfolding extents_from
  read_more h e next w = rw (ne_eqb left 0 h, w)

  read_bad : (left ≡ 0 → ⊥) → (r : Fault) → extent_from left prev s at ≡ refused r → extents_from (suc n) left prev s at ≡ refused r
  unfolding extents_from
  read_bad h r w = rw (ne_eqb left 0 h, w)

read_none : (n left : ℕ) (prev : Extent) (s : List ℕ) (at : ℕ) → left ≡ 0 → extents_from n left prev s at ≡ got [] at
unfolding extents_from
read_none zero left prev s at h = refl
read_none (suc n) left prev s at h = rw (eq-eqb left 0 h)

-- ---- the loop

-- `fuel` is how many extents the reader may still read
pub record Looking (s : List ℕ) (from count k at left : ℕ) (prev : Extent) (old : Extent × ℕ) : Type 0 where
  pub fuel : ℕ
  pub enough : left ≤ fuel
  pub part : left ≤ count
  pub limits : FieldsInLimits prev
  pub held : k < count - left → Held old
  pub same : page_of_read s k (extents_from count count no_extent s from) ≡ read_after s (page_noted old) (count - left) k (extents_from fuel left prev s at)

pub starts : (s : List ℕ) (from count k : ℕ) → Looking s from count k from count no_extent (no_extent, 0)
starts s from count k = record {
  fuel = count;
  enough = omega arith;
  part = omega arith;
  limits = record { pages_limit = omega arith; first_limit = omega arith; zero_without_file = λ h. refl };
  held = λ h. absurd (omega (arith, h));
  same =
      page_none s (page_noted (no_extent, 0)) k (extents_from count count no_extent s from)
      ∙ ap (λ (d : ℕ). read_after s (page_noted (no_extent, 0)) d k (extents_from count count no_extent s from)) (omega arith);
}

suc_pred : (n m : ℕ) → 0 < m → m ≤ n → n ≡ suc (n - 1)
suc_pred n m h l = omega arith

module _ {s : List ℕ} {from count k at left : ℕ} {prev : Extent} {old : Extent × ℕ} (q : Looking s from count k at left prev old) where
  module _ (h : 0 < left) where
    one_left : q.fuel ≡ suc (q.fuel - 1)
    one_left = suc_pred q.fuel left h q.enough

    pub no_extent_read : (r : Fault) → extent_from left prev s at ≡ refused r → Err r ≡ page_of_read s k (extents_from count count no_extent s from)
    no_extent_read r w = sym (q.same ∙ rw one_left (ap (read_after s (page_noted old) (count - left) k) (read_bad (q.fuel - 1) left prev s at (λ z. omega arith) r w)))

    pub again : (e : Extent) (next : ℕ) → extent_from left prev s at ≡ got e next → Looking s from count k next (left - e.pages) e (extent_noted old (count - left) k e)
    again e next w =
        let g : WithPagesLeft left e = extent_keeps s at left prev e next w in
        record {
          fuel = q.fuel - 1;
          enough = omega (arith, q.enough, g.rules.some);
          part = omega (arith, q.part);
          limits = g.rules.fields;
          held = λ h. held_more old (count - left) k left e g q.held (omega (arith, h, q.part, g.most));
          same =
              q.same
              ∙ ap (λ (m : ℕ). read_after s (page_noted old) (count - left) k (extents_from m left prev s at)) one_left
              ∙ ap (read_after s (page_noted old) (count - left) k) (read_more (q.fuel - 1) left prev s at (λ z. omega arith) e next w)
              ∙ page_more s old (count - left) k e (extents_from (q.fuel - 1) (left - e.pages) e s next)
              ∙ ap (λ (d : ℕ). read_after s (page_noted (extent_noted old (count - left) k e)) d k (extents_from (q.fuel - 1) (left - e.pages) e s next)) (omega (arith, q.part, g.most));
        }

  module _ (h : left ≤ 0) where
    finished : page_of_read s k (extents_from count count no_extent s from) ≡ read_after s (page_noted old) (count - left) k (got [] at)
    finished = q.same ∙ ap (read_after s (page_noted old) (count - left) k) (read_none q.fuel left prev s at (omega arith))

    pub trailing : (at ≡ length s → ⊥) → Err (unplaced TrailingBytes) ≡ page_of_read s k (extents_from count count no_extent s from)
    trailing l = sym (finished ∙ rw (ne_eqb at (length s) l))

    module _ (b : k < count) where
      pub holds : Held old
      holds = q.held (omega arith)

      pub answered : at ≡ length s → Ok (page_noted old) ≡ page_of_read s k (extents_from count count no_extent s from)
      answered l = sym (finished ∙ rw (eq-eqb at (length s) l, lt-ltb k (count - left) (omega arith)))
