-- Whether an offset holds a header depends on its page alone, so the headers of an image are those of its parts of whole pages.
use mathlib.Core.Path.{◌≡◌, refl, ap, ◌∙◌}
use mathlib.Core.Bool.{Bool, true, false, not, ◌&&◌, ◌||◌}
use mathlib.Core.List.{List, ◌∷◌, ◌++◌, map}
use Prim.Native.Nat.{ℕ, zero, suc, ◌+◌, ◌-◌, ◌*◌, ◌%◌, ◌≤◌, ◌<◌}
use native.Mathlib.Omega.{arith}
use lib.Dec.{ltb, leb, eqb}
use lib.ListN.{length, drop, length-append, length-drop}
use lib.Seq.{take-append-le, drop-append-le, drop-append-add}
use borrow.Author.Tests.{leb-true, leb-false, eqb-true, lt-ltb, le-ltb}
use Rattle.std.specs.Prelude.{if◌then◌else◌}
use Rattle.base.specs.Notation.{bits}
use Rattle.base.proofs.Test.{Test, test, below, above}
use Rattle.words.specs.Words.{word_at, little_at}
use Rattle.pool.specs.Pool.{previous_size, block_size, block_end, is_header, headers_from, headers_of}

-- ---- tests that are the same, where those before them hold

both : {x x' y y' : Bool} → x ≡ x' → (x' ≡ true → y ≡ y') → (x && y) ≡ (x' && y')
both {x} {x'} {y} {y'} e f = go x' e f
  where
    go : (z : Bool) → x ≡ z → (z ≡ true → y ≡ y') → (x && y) ≡ (z && y')
    go true e f = rw e (f refl)
    go false e f = rw e

under : (x : Bool) {y y' : Bool} → (x ≡ true → y ≡ y') → (x && y) ≡ (x && y')
under x f = both refl f

unless : (x : Bool) {y y' : Bool} → (x ≡ false → y ≡ y') → (x || y) ≡ (x || y')
unless true f = refl
unless false f = f refl

-- ---- one page in two images

pub record SamePage (s t : List ℕ) (p q : ℕ) : Type 0 where
  pub place : p % 4096 ≡ q % 4096
  pub inside : ltb p (length s) ≡ ltb q (length t)
  pub words : (d : ℕ) → d + 8 ≤ 4096 → word_at s (p - p % 4096 + d) ≡ word_at t (q - q % 4096 + d)

module _ {s t : List ℕ} {p q : ℕ} (h : SamePage s t p q) where
  same_aligned : eqb (p % 8) 0 ≡ eqb (q % 8) 0
  same_aligned =
      let e : p % 8 ≡ q % 8 = omega (arith, h.place) in
      rw e

  at_word : (m n d : ℕ) → d + 8 ≤ 4096 → m ≡ p - p % 4096 + d → n ≡ q - q % 4096 + d → word_at s m ≡ word_at t n
  at_word m n d l e f = rw (e, f) (h.words d l)

  module _ (a : q % 8 ≡ 0) where
    own : word_at s p ≡ word_at t q
    own = at_word p q (q % 4096) (omega arith) (omega (arith, h.place)) (omega arith)

    before : 8 * previous_size t q ≤ q % 4096 → block_size s (p - 8 * previous_size t q) ≡ block_size t (q - 8 * previous_size t q)
    before l = ap (λ (w : ℕ). bits w 16 24) (at_word (p - 8 * previous_size t q) (q - 8 * previous_size t q) (q % 4096 - 8 * previous_size t q) (omega arith) (omega (arith, h.place)) (omega arith))

    behind : block_end t q < 4096 → previous_size s (p + 8 * block_size t q) ≡ previous_size t (q + 8 * block_size t q)
    behind l = ap (λ (w : ℕ). bits w 0 8) (at_word (p + 8 * block_size t q) (q + 8 * block_size t q) (block_end t q) (omega arith) (omega (arith, h.place)) (omega arith))

  pub same_header : is_header s p ≡ is_header t q
  unfolding is_header
  same_header =
      both h.inside (λ _.
      both same_aligned (λ z.
      let a : q % 8 ≡ 0 = eqb-true (q % 8) 0 z in
      rw (own a, h.place) (
      under (leb 1 (block_size t q)) (λ _.
      under (leb (block_end t q) 4096) (λ _.
      under (if eqb (q % 4096) 0 then eqb (previous_size t q) 0 else not (eqb (previous_size t q) 0)) (λ _.
      under (leb (8 * previous_size t q) (q % 4096)) (λ r.
      both (unless (eqb (q % 4096) 0) (λ _. rw (before a (leb-true (8 * previous_size t q) (q % 4096) r)))) (λ _.
      both (unless (leb 4096 (block_end t q)) (λ e. rw (behind a (leb-false 4096 (block_end t q) e)))) (λ _. refl)))))))))

-- ---- words and headers of two parts, one behind the other

headers_append : (s : List ℕ) (m n o : ℕ) → headers_from (m + n) s o ≡ headers_from m s o ++ headers_from n s (o + m)
unfolding headers_from
headers_append s zero n o =
    let e : 0 + n ≡ n = omega arith in
    let f : o + 0 ≡ o = omega arith in
    rw (e, f)
headers_append s (suc m) n o =
    let e : suc m + n ≡ suc (m + n) = omega arith in
    let f : o + suc m ≡ suc o + m = omega arith in
    rw (e, f) (go (is_header s o) (headers_append s m n (suc o)))
  where
    go : (z : Bool) → headers_from (m + n) s (suc o) ≡ headers_from m s (suc o) ++ headers_from n s (suc o + m)
        → (if z then o ∷ headers_from (m + n) s (suc o) else headers_from (m + n) s (suc o)) ≡ (if z then o ∷ headers_from m s (suc o) else headers_from m s (suc o)) ++ headers_from n s (suc o + m)
    go true q = rw q
    go false q = q

module _ (a b : List ℕ) where
  word_in_first : (o : ℕ) → o + 8 ≤ length a → word_at (a ++ b) o ≡ word_at a o
  unfolding little_at
  word_in_first o l =
      let room : 8 ≤ length (drop o a) = rw length-drop (omega arith) in
      rw (drop-append-le o a b (omega arith), take-append-le 8 (drop o a) b room)

  word_in_second : (o : ℕ) → word_at (a ++ b) (length a + o) ≡ word_at b o
  unfolding little_at
  word_in_second o = rw drop-append-add

  module _ (pages : length a % 4096 ≡ 0) where
    in_first : (o : ℕ) → o < length a → SamePage (a ++ b) a o o
    in_first o l = record {
      place = refl;
      inside = rw (lt-ltb o (length a) l, lt-ltb o (length (a ++ b)) (rw length-append (omega arith)));
      words = λ d r. word_in_first (o - o % 4096 + d) (omega arith);
    }

    in_second : (o : ℕ) → SamePage (a ++ b) b (length a + o) o
    in_second o = record {
      place = omega arith;
      inside = past (test o (length b));
      words = λ d r. at d (length a + o - (length a + o) % 4096 + d) (omega arith);
    }
      where
        past : Test o (length b) → ltb (length a + o) (length (a ++ b)) ≡ ltb o (length b)
        past (below l) = rw (lt-ltb o (length b) l, lt-ltb (length a + o) (length (a ++ b)) (rw length-append (omega arith)))
        past (above l) = rw (le-ltb o (length b) l, le-ltb (length a + o) (length (a ++ b)) (rw length-append (omega arith)))

        at : (d m : ℕ) → m ≡ length a + (o - o % 4096 + d) → word_at (a ++ b) m ≡ word_at b (o - o % 4096 + d)
        at d m e = rw e (word_in_second (o - o % 4096 + d))

    headers_in_first : (n o : ℕ) → o + n ≤ length a → headers_from n (a ++ b) o ≡ headers_from n a o
    unfolding headers_from
    headers_in_first zero o l = refl
    headers_in_first (suc n) o l = rw (same_header (in_first o (omega arith)), headers_in_first n (suc o) (omega arith))

    headers_in_second : (n o p : ℕ) → p ≡ length a + o → headers_from n (a ++ b) p ≡ map (λ k. length a + k) (headers_from n b o)
    unfolding headers_from
    headers_in_second zero o p e = refl
    headers_in_second (suc n) o p e = rw (e, same_header (in_second o)) (go (is_header b o) (headers_in_second n (suc o) (suc (length a + o)) (omega arith)))
      where
        go : (z : Bool) → headers_from n (a ++ b) (suc (length a + o)) ≡ map (λ k. length a + k) (headers_from n b (suc o))
            → (if z then (length a + o) ∷ headers_from n (a ++ b) (suc (length a + o)) else headers_from n (a ++ b) (suc (length a + o)))
            ≡ map (λ k. length a + k) (if z then o ∷ headers_from n b (suc o) else headers_from n b (suc o))
        go true f = rw f
        go false f = f

    -- those of the first part, then those of the second moved by the first's length
    pub headers_of_parts : headers_of (a ++ b) ≡ headers_of a ++ map (λ o. length a + o) (headers_of b)
    headers_of_parts =
        let first : headers_from (length a) (a ++ b) 0 ≡ headers_of a = headers_in_first (length a) 0 (omega arith) in
        let second : headers_from (length b) (a ++ b) (0 + length a) ≡ map (λ o. length a + o) (headers_of b) = headers_in_second (length b) 0 (0 + length a) (omega arith) in
        rw length-append (headers_append (a ++ b) (length a) (length b) 0 ∙ rw (first, second))
