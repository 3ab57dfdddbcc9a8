-- The conditions of one offset, one by one: what makes it a header, and what does not.
use mathlib.Core.Path.{◌≡◌, refl}
use mathlib.Core.Bool.{Bool, true, false, not, ◌&&◌, ◌||◌, and-false}
use mathlib.Core.List.{List}
use Prim.Native.Nat.{ℕ, ◌-◌, ◌*◌, ◌%◌, ◌≤◌, ◌<◌}
use native.Mathlib.Omega.{arith}
use lib.Dec.{leb, eqb}
use lib.ListN.{length}
use borrow.Author.Tests.{leb-true, eqb-true, eqb-false, lt-ltb, le-ltb, le-leb, eq-eqb, ne_eqb}
use Rattle.std.specs.Prelude.{if◌then◌else◌}
use Rattle.words.specs.Words.{word_at}
use Rattle.pool.specs.Pool.{previous_size, block_size, tag, tag_fits, is_header}
use Rattle.pool.specs.Call.{WordsInside}
use Rattle.pool.specs.Inner.{may_begin, is_chained}
use Rattle.pool.proofs.Beginning.{sized, tagged}

-- ---- the words asked for lie in the image

pub words_inside : (image : List ℕ) (o : ℕ) → length image % 4096 ≡ 0 → o < length image → o % 8 ≡ 0 → WordsInside image o
words_inside image o pages l a = record { own = omega arith; before = λ h. (omega arith, omega arith); behind = λ h. omega arith }

-- the same tests in another order, with one that follows from two of them
in_order : (end behind reaches before start tag : Bool) → tag ≡ true → (reaches ≡ true → before ≡ true → start ≡ true)
    → (end && (behind && (reaches && before))) ≡ (end && (start && (reaches && (before && (behind && tag)))))
in_order false behind reaches before start tag t s = refl
in_order true behind false before start tag t s = simp and-false
in_order true behind true false start tag t s = simp and-false
in_order true behind true true start tag t s = rw (s refl refl, t)

module _ (image : List ℕ) (o : ℕ) where
  abbrev pub size : ℕ
  size = block_size image o

  abbrev pub previous : ℕ
  previous = previous_size image o

  pub past_image : length image ≤ o → is_header image o ≡ false
  unfolding is_header
  past_image h = rw (le-ltb o (length image) h)

  pub unaligned : (o % 8 ≡ 0 → ⊥) → is_header image o ≡ false
  unfolding is_header
  unaligned h = rw (ne_eqb (o % 8) 0 h, and-false)

  pub cannot_begin : may_begin (word_at image o) ≡ false → is_header image o ≡ false
  unfolding is_header
  cannot_begin h = go (leb 1 size) refl h
    where
      go : (b : Bool) → leb 1 size ≡ b → (b && tag_fits (tag image o)) ≡ false → is_header image o ≡ false
      go false e h = rw e (simp and-false)
      go true e h = rw h (simp and-false)

  -- ---- "PreviousSize is 0 exactly at the page's start" follows from the other conditions

  module _ (some : 1 ≤ size) (reaches : 8 * previous ≤ o % 4096) (before : (eqb (o % 4096) 0 || eqb (block_size image (o - 8 * previous)) previous) ≡ true) where
    -- at the start 1 or more would reach before the page
    pub zero_at_start : o % 4096 ≡ 0 → previous ≡ 0
    zero_at_start e = omega arith

    -- elsewhere 0 would point back to the header itself
    pub start_at_zero : previous ≡ 0 → o % 4096 ≡ 0
    start_at_zero e = go (eqb (o % 4096) 0) refl before
      where
        go : (b : Bool) → eqb (o % 4096) 0 ≡ b → (b || eqb (block_size image (o - 8 * previous)) previous) ≡ true → o % 4096 ≡ 0
        go true f h = eqb-true (o % 4096) 0 f
        go false f h =
            let back : o - 8 * previous ≡ o = omega arith in
            let own : size ≡ previous = rw back at (eqb-true (block_size image (o - 8 * previous)) previous h) in
            absurd (omega (arith, own))

    pub start_follows : (if eqb (o % 4096) 0 then eqb previous 0 else not (eqb previous 0)) ≡ true
    start_follows = go (eqb (o % 4096) 0) refl
      where
        go : (b : Bool) → eqb (o % 4096) 0 ≡ b → (if b then eqb previous 0 else not (eqb previous 0)) ≡ true
        go true f = eq-eqb previous 0 (zero_at_start (eqb-true (o % 4096) 0 f))
        go false f = rw (ne_eqb previous 0 (λ e. eqb-false (o % 4096) 0 f (start_at_zero e)))

  -- ---- a word that may begin a block holds a header exactly if the block and its neighbours name each other's sizes

  pub chained : o < length image → o % 8 ≡ 0 → may_begin (word_at image o) ≡ true → is_chained image o previous size ≡ is_header image o
  unfolding is_header is_chained
  chained l a m =
      let some : 1 ≤ size = sized (word_at image o) m in
      rw (lt-ltb o (length image) l, eq-eqb (o % 8) 0 a, le-leb 1 size some)
      (in_order _ _ _ _ _ _ (tagged (word_at image o) m) (λ r b. start_follows some (leb-true (8 * previous) (o % 4096) r) b))
