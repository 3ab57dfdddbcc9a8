-- The list is laid word by word: past offsets that hold no header, eight at a time.
use mathlib.Core.Path.{◌≡◌, refl, ap, ◌∙◌}
use mathlib.Core.Bool.{Bool, true, false}
use mathlib.Core.List.{List, [], ◌∷◌, ◌++◌, append_assoc, append-nil}
use Prim.Native.Nat.{ℕ, zero, suc, ◌+◌, ◌-◌, ◌*◌, ◌/◌, ◌%◌, ◌≤◌, ◌<◌}
use native.Mathlib.Numerals.{sub-one}
use native.Mathlib.Omega.{arith}
use lib.ListN.{length, set, length-append}
use lib.Seq.{length-sets}
use Rattle.base.specs.Overlay.{Wrote}
use Rattle.base.proofs.Overlay.{wrote_none, wrote_then}
use Rattle.base.proofs.Test.{Test, test, below, above}
use Rattle.pool.specs.Pool.{is_header, headers_from, headers_of}
use Rattle.pool.proofs.Fitting.{unaligned}

module _ (image : List ℕ) where
  -- ---- the list from an offset on

  at_same : (m n o p : ℕ) → m ≡ n → o ≡ p → headers_from m image o ≡ headers_from n image p
  at_same m n o p e f = rw (e, f)

  skip : (n o : ℕ) → is_header image o ≡ false → headers_from n image o ≡ headers_from (n - 1) image (suc o)
  unfolding headers_from
  skip zero o h = refl
  skip (suc n) o h = rw (h, sub-one)

  skips : (j n o : ℕ) → ((k : ℕ) → k < j → is_header image (o + k) ≡ false) → headers_from n image o ≡ headers_from (n - j) image (o + j)
  skips zero n o h = at_same n (n - 0) o (o + 0) (omega arith) (omega arith)
  skips (suc j) n o h =
      skips j n o (λ k l. h k (omega arith))
      ∙ skip (n - j) (o + j) (h j (omega arith))
      ∙ at_same (n - j - 1) (n - suc j) (suc (o + j)) (o + suc j) (omega arith) (omega arith)

  take_one : (n o : ℕ) → 0 < n → is_header image o ≡ true → headers_from n image o ≡ o ∷ headers_from (n - 1) image (suc o)
  unfolding headers_from
  take_one zero o l h = absurd (omega arith)
  take_one (suc n) o l h = rw (h, sub-one)

  -- the list from word i on, of n offsets in all
  abbrev words_on : ℕ → ℕ → List ℕ
  words_on n i = headers_from (n - 8 * i) image (8 * i)

  -- the seven offsets after a word's first are no multiples of 8
  between : (i k : ℕ) → 0 < k → k < 8 → is_header image (8 * i + k) ≡ false
  between i k l h = unaligned image (8 * i + k) (λ z. omega arith)

  next_word : (n i : ℕ) → is_header image (8 * i) ≡ false → words_on n i ≡ words_on n (i + 1)
  next_word n i h = skips 8 (n - 8 * i) (8 * i) (λ k l. none k l (test 0 k)) ∙ at_same (n - 8 * i - 8) (n - 8 * (i + 1)) (8 * i + 8) (8 * (i + 1)) (omega arith) (omega arith)
    where
      none : (k : ℕ) → k < 8 → Test 0 k → is_header image (8 * i + k) ≡ false
      none k l (below m) = between i k m l
      none k l (above m) =
          let z : 8 * i + k ≡ 8 * i = omega arith in
          rw z h

  header_word : (n i : ℕ) → 8 * i < n → is_header image (8 * i) ≡ true → words_on n i ≡ 8 * i ∷ words_on n (i + 1)
  header_word n i l h =
      take_one (n - 8 * i) (8 * i) (omega arith) h
      ∙ ap (λ (xs : List ℕ). 8 * i ∷ xs)
      (skips 7 (n - 8 * i - 1) (suc (8 * i)) (λ k m. rest k m)
      ∙ at_same (n - 8 * i - 1 - 7) (n - 8 * (i + 1)) (suc (8 * i) + 7) (8 * (i + 1)) (omega arith) (omega arith))
    where
      rest : (k : ℕ) → k < 7 → is_header image (suc (8 * i) + k) ≡ false
      rest k m =
          let z : suc (8 * i) + k ≡ 8 * i + suc k = omega arith in
          rw z (between i (suc k) (omega arith) (omega arith))

  no_words_left : (n i : ℕ) → n ≤ 8 * i → words_on n i ≡ []
  no_words_left n i h = at_same (n - 8 * i) 0 (8 * i) (8 * i) (omega arith) refl ∙ unfold headers_from in refl

  -- a word is at most one header
  few : (k n i : ℕ) → n ≤ 8 * (i + k) → length (words_on n i) ≤ k
  few zero n i h = rw (no_words_left n i (omega arith)) (omega arith)
  few (suc k) n i h = go (is_header image (8 * i)) refl (few k n (i + 1) (omega arith)) (test (8 * i) n)
    where
      go : (b : Bool) → is_header image (8 * i) ≡ b → length (words_on n (i + 1)) ≤ k → Test (8 * i) n → length (words_on n i) ≤ suc k
      go false e f t = rw (next_word n i e) (omega arith)
      go true e f (below l) = rw (header_word n i l e) (omega arith)
      go true e f (above l) = rw (no_words_left n i l) (omega arith)

  all_words : headers_of image ≡ words_on (length image) 0
  all_words = at_same (length image) (length image - 8 * 0) 0 (8 * 0) (omega arith) (omega arith)

  pub few_headers : length image % 8 ≡ 0 → length (headers_of image) ≤ length image / 8
  few_headers h = rw all_words (few (length image / 8) (length image) 0 (omega arith))

-- ---- what is laid at word i: the headers before it

pub record Laying (image old : List ℕ) (i count : ℕ) (out : List ℕ) : Type 0 where
  pub done : List ℕ
  pub rest : headers_of image ≡ done ++ words_on image (length image) i
  pub wrote : Wrote old 0 done count out

pub laying_none : (image old : List ℕ) → Laying image old 0 0 old
laying_none image old = record { done = []; rest = all_words image; wrote = wrote_none old 0 }

module _ {image old : List ℕ} {i count : ℕ} {out : List ℕ} (q : Laying image old i count out) where
  pub laying_long : length out ≡ length old
  laying_long = rw q.wrote.bytes (length-sets old 0 q.done)

  pub laying_few : length image % 4096 ≡ 0 → count ≤ length image / 8
  laying_few h =
      let all : length (headers_of image) ≡ length q.done + length (words_on image (length image) i) = ap length q.rest ∙ length-append q.done (words_on image (length image) i) in
      omega (arith, all, q.wrote.place, few_headers image (omega arith))

  -- on to the next word, with the buffer and the count that the code has there
  pub passed_word : is_header image (8 * i) ≡ false → {new : List ℕ} {n : ℕ} → new ≡ out → n ≡ count → Laying image old (i + 1) n new
  passed_word h {new} {n} s e = rw (s, e) (record { done = q.done; rest = rw (next_word image (length image) i h) at q.rest; wrote = q.wrote })

  pub laid_word : 8 * i < length image → is_header image (8 * i) ≡ true → {new : List ℕ} {n : ℕ} → new ≡ set out count (8 * i) → n ≡ count + 1 → Laying image old (i + 1) n new
  laid_word l h {new} {n} s e =
      record {
        done = q.done ++ (8 * i ∷ []);
        rest = q.rest ∙ rw (header_word image (length image) i l h, append_assoc);
        wrote = wrote_then q.wrote (record { place = e; bytes = s });
      }

  pub all_laid : length image % 4096 ≡ 0 → length image / 8 ≤ i → Wrote old 0 (headers_of image) count out
  all_laid e h =
      let all : headers_of image ≡ q.done = q.rest ∙ rw (no_words_left image (length image) i (omega arith), append-nil) in
      rw all q.wrote
