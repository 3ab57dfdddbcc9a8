-- What the list means: an offset is in it exactly if it holds a header, and it ascends; and the call's answers.
use Rattle.std.specs.Prelude.{Ok, Err, if◌then◌else◌}
use mathlib.Core.Path.{◌≡◌, refl, sym, ap, ◌∙◌}
use mathlib.Core.Bool.{Bool, true, false}
use mathlib.Core.List.{List, ◌∷◌}
use Prim.Native.Nat.{ℕ, zero, suc, ◌+◌, ◌/◌, ◌%◌, ◌≤◌, ◌<◌}
use native.Mathlib.Omega.{arith}
use lib.Dec.{ltb, leb, eqb}
use lib.ListN.{length, take, drop}
use lib.Seq.{sets, sets-eq, take_at}
use borrow.Author.Tests.{leb-true, leb-false, ltb-false, lt-ltb, le-ltb, le-leb, eq-eqb, ne_eqb}
use Rattle.base.specs.Codes.{member}
use Rattle.base.specs.Overlay.{Wrote}
use Rattle.base.specs.Refusal.{refusal_number}
use Rattle.base.specs.Written.{WriteOutcome, unwritten, written}
use Rattle.base.specs.declared.Refusal.{Refusal}
use Rattle.base.specs.declared.Refusal.TheVariants.{ImageNotWholePages, PoolBufferShort}
use Rattle.base.specs.declared.Written.{Written}
use Rattle.base.proofs.Numbers.{ten_or_more}
use Rattle.base.proofs.Test.{Test, test, below, above}
use Rattle.pool.specs.Pool.{is_header, headers_from, headers_of}
use Rattle.pool.specs.Call.{headers_call, Above, Ascends, PoolAnswer}
use Rattle.pool.specs.Inner.{answered}
use Rattle.pool.proofs.Fitting.{words_inside, past_image}
use Rattle.pool.proofs.Listing.{few_headers}

module _ (image : List ℕ) where
  -- ---- members

  absent_before : (n p o : ℕ) → o < p → member o (headers_from n image p) ≡ false
  unfolding headers_from
  absent_before zero p o l = refl
  absent_before (suc n) p o l = go (is_header image p) (absent_before n (suc p) o (omega arith))
    where
      go : (b : Bool) → member o (headers_from n image (suc p)) ≡ false → member o (if b then p ∷ headers_from n image (suc p) else headers_from n image (suc p)) ≡ false
      go true e = rw (ne_eqb o p (λ z. omega (arith, z))) e
      go false e = e

  -- n offsets from p on reach the image's end
  member_from : (n p o : ℕ) → p ≤ o → length image ≤ p + n → member o (headers_from n image p) ≡ is_header image o
  unfolding headers_from
  member_from zero p o l h = sym (past_image image o (omega arith))
  member_from (suc n) p o l h = go (is_header image p) refl (λ m. member_from n (suc p) o m (omega arith)) (test p o)
    where
      go : (b : Bool) → is_header image p ≡ b → (suc p ≤ o → member o (headers_from n image (suc p)) ≡ is_header image o) → Test p o
          → member o (if b then p ∷ headers_from n image (suc p) else headers_from n image (suc p)) ≡ is_header image o
      go true e later (below m) = rw (ne_eqb o p (λ z. omega (arith, z))) (later (omega arith))
      go false e later (below m) = later (omega arith)
      go true e later (above m) =
          let z : o ≡ p = omega arith in
          rw (z, eq-eqb p p refl, e)
      go false e later (above m) =
          let z : o ≡ p = omega arith in
          rw z (absent_before n (suc p) p (omega arith) ∙ sym e)

  -- ---- ascending

  above_from : (n p x : ℕ) → x < p → Above x (headers_from n image p)
  unfolding headers_from
  above_from zero p x l = tt
  above_from (suc n) p x l = go (is_header image p) (above_from n (suc p) x (omega arith))
    where
      go : (b : Bool) → Above x (headers_from n image (suc p)) → Above x (if b then p ∷ headers_from n image (suc p) else headers_from n image (suc p))
      go true q = (l, q)
      go false q = q

  ascends_from : (n p : ℕ) → Ascends (headers_from n image p)
  unfolding headers_from
  ascends_from zero p = tt
  ascends_from (suc n) p = go (is_header image p) (above_from n (suc p) p (omega arith)) (ascends_from n (suc p))
    where
      go : (b : Bool) → Above p (headers_from n image (suc p)) → Ascends (headers_from n image (suc p)) → Ascends (if b then p ∷ headers_from n image (suc p) else headers_from n image (suc p))
      go true a q = (a, q)
      go false a q = q

-- ---- the call

written_front : (xs old : List ℕ) → length xs ≤ length old → take (length xs) (sets old 0 xs) ≡ xs
written_front xs old l = rw (sets-eq xs old 0 (omega arith)) (take_at xs (drop (0 + length xs) old) (length xs) refl)

module _ (image old : List ℕ) where
  abbrev headers : List ℕ
  headers = headers_of image

  module _ (r : Written) (new : List ℕ) (e : record { answer = r; buffer = new } ≡ headers_call image old) where
    abbrev Means : Type 0
    Means = r.number ≡ 0 → ((o : ℕ) → member o (take r.length new) ≡ is_header image o) × Ascends (take r.length new)

    not_refused : (x : Refusal) → record { answer = r; buffer = new } ≡ unwritten old x → Means
    not_refused x f z =
        let n : r.number ≡ refusal_number x = ap (λ (o : WriteOutcome). o.answer.number) f in
        absurd (omega (arith, ten_or_more x))

    means : Means
    unfolding headers_call
    means = go (eqb (length image % 4096) 0) (ltb (length old) (length headers)) refl e
      where
        go : (a b : Bool) → ltb (length old) (length headers) ≡ b
            → record { answer = r; buffer = new } ≡ (if a then if b then unwritten old PoolBufferShort else written old headers else unwritten old ImageNotWholePages) → Means
        go false b l f z = not_refused ImageNotWholePages f z
        go true true l f z = not_refused PoolBufferShort f z
        go true false l f z =
            let n : r.length ≡ length headers = ap (λ (o : WriteOutcome). o.answer.length) f in
            let s : new ≡ sets old 0 headers = ap (λ (o : WriteOutcome). o.buffer) f in
            rw (n, s, written_front headers old (ltb-false (length old) (length headers) l))
            ((λ o. member_from image (length image) 0 o (omega arith) (omega arith)), ascends_from image (length image) 0)

    pub promise : PoolAnswer image old r new
    promise = record { same = e; exact = λ z. (means z).0; ascends = λ z. (means z).1; inside = λ pages o l a. words_inside image o pages l a }

  pub part_page : (length image % 4096 ≡ 0 → ⊥) → answered (Err ImageNotWholePages) old ≡ headers_call image old
  unfolding headers_call
  part_page h = rw (ne_eqb (length image % 4096) 0 h)

  module _ (pages : length image % 4096 ≡ 0) where
    pub short_buffer : leb (length headers) (length old) ≡ false → answered (Err PoolBufferShort) old ≡ headers_call image old
    unfolding headers_call
    short_buffer h = rw (eq-eqb (length image % 4096) 0 pages, lt-ltb (length old) (length headers) (leb-false (length headers) (length old) h))

    pub headers_answered : leb (length headers) (length old) ≡ true → (r : ℕ) (new : List ℕ) → Wrote old 0 headers r new → answered (Ok r) new ≡ headers_call image old
    unfolding headers_call
    headers_answered h r new w =
        let count : r ≡ length headers = omega (arith, w.place) in
        rw (eq-eqb (length image % 4096) 0 pages, le-ltb (length old) (length headers) (leb-true (length headers) (length old) h), count, w.bytes)

    -- what was found to fit and was written is the whole promise
    pub headers_written : (b : Bool) (lent : List ℕ) → (b ≡ leb (length headers) (length old)) × (lent ≡ old) → b ≡ true → (r : ℕ) (new : List ℕ) → Wrote lent 0 headers r new → PoolAnswer image old (record { number = 0; length = r }) new
    headers_written b lent c h r new w =
        let same : Wrote old 0 headers r new = rw c.1 at w in
        promise (record { number = 0; length = r }) new (headers_answered (sym c.0 ∙ h) r new same)

-- as many places as words are enough
pub room_for_words : (image : List ℕ) (places : ℕ) → length image % 4096 ≡ 0 → length image / 8 ≤ places → leb (length (headers_of image)) places ≡ true
room_for_words image places pages h = le-leb (length (headers_of image)) places (omega (arith, few_headers image (omega arith)))
