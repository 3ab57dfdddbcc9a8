-- The tests of one offset, one by one: what makes it a block, and what does not.
use Rattle.std.proofs.Common.{◌≡◌, ℕ, ◌+◌, ◌*◌, ◌%◌, ◌^◌, ◌<◌, ◌≤◌, Bool, true, false, eqb, List, length, Some, None, sym, ap, ◌∙◌, arith, le-ltb, lt-ltb, eq-eqb, ne_eqb}
use mathlib.Core.Bool.{and-false, false≢true}
use borrow.Author.Tests.{lt-leb}
use Rattle.base.proofs.Test.{Test, test, below, above}
use Rattle.entry.specs.Entry.{frame_of}
use Rattle.entry.specs.declared.Frame.{Frame}
use Rattle.walk.specs.Walk.{World, resolve_of}
use Rattle.walk.specs.Rows.{resolved_of}
use Rattle.walk.specs.declared.Resolved.{Resolved}
use Rattle.processor_block.specs.Block.{self_word, prcb_word, directory_word, words_fit, with_directory, self_walk, is_at, is_block}
use Rattle.processor_block.specs.Inner.{NoneFit, block_at}

-- ---- the place in the page, and the three words

-- the words at a place that fits lie in an image of whole pages
pub whole : (o n : ℕ) → o < n → n % 4096 ≡ 0 → o % 4096 ≤ 0xE28 → o + 0x1D8 ≤ n
whole o n h e p = omega arith

module _ (image : List ℕ) (o : ℕ) where
  pub too_far : 0xE28 < o % 4096 → words_fit image o ≡ false
  unfolding words_fit
  too_far h = rw (lt-leb (o % 4096) 0xE28 h)

  pub fit_near : words_fit image o ≡ true → o % 4096 ≤ 0xE28
  fit_near h = go (test 0xE28 (o % 4096))
    where
      go : Test 0xE28 (o % 4096) → o % 4096 ≤ 0xE28
      go (below l) = absurd (false≢true (sym (too_far l) ∙ h))
      go (above l) = l

  -- words whose sum differs, wrapped or not, are no two words of a block
  pub not_pair : (own prcb : ℕ) → own ≡ self_word image o → prcb ≡ prcb_word image o → prcb < 2 ^ 64 → ((own + 0x180) % 2 ^ 64 ≡ prcb → ⊥) → words_fit image o ≡ false
  unfolding words_fit
  not_pair own prcb e f l h =
      let apart : prcb ≡ own + 0x180 → ⊥ = λ z. h (omega arith) in
      rw (← e, ← f, ne_eqb prcb (own + 0x180) apart) (simp and-false)

-- ---- words that do not fit, one after the other

pub none_yet : {image : List ℕ} {i : ℕ} → NoneFit image i i
none_yet = record { onward = omega arith; none = λ k l h. absurd (omega arith) }

pub one_word : {image : List ℕ} {i : ℕ} → words_fit image (8 * i) ≡ false → NoneFit image i (i + 1)
one_word {image} {i} h = record { onward = omega arith; none = λ k l u. go k (omega arith) }
  where
    go : (k : ℕ) → k ≡ i → words_fit image (8 * k) ≡ false
    go k z = rw z h

pub joined : {image : List ℕ} {i j k n m : ℕ} → NoneFit image i j → j ≡ k → NoneFit image k n → n ≡ m → NoneFit image i m
joined {image} {i} {j} {k} {n} {m} p e q f = record { onward = omega (arith, p.onward, q.onward); none = λ x l u. go x l u (test x j) }
  where
    go : (x : ℕ) → i ≤ x → x < m → Test x j → words_fit image (8 * x) ≡ false
    go x l u (below t) = p.none x l t
    go x l u (above t) = q.none x (omega arith) (omega arith)

-- ---- a block or none

module _ (w : World) (o : ℕ) where
  pub past_image : length w.image ≤ o → is_block w o ≡ false
  unfolding is_block
  past_image h = rw (le-ltb o (length w.image) h)

  pub unaligned : (o % 8 ≡ 0 → ⊥) → is_block w o ≡ false
  unfolding is_block
  unaligned h = rw (ne_eqb (o % 8) 0 h, and-false)

  pub unfit : words_fit w.image o ≡ false → is_block w o ≡ false
  unfolding is_block
  unfit h = rw (h, and-false (eqb (o % 8) 0), and-false)

  pub elsewhere : is_at o (self_walk w o).place ≡ false → is_block w o ≡ false
  unfolding is_block
  elsewhere h = rw (h, and-false (words_fit w.image o), and-false (eqb (o % 8) 0), and-false)

  pub block_here : o < length w.image → o % 8 ≡ 0 → words_fit w.image o ≡ true → is_at o (self_walk w o).place ≡ true → is_block w o ≡ true
  unfolding is_block
  block_here h a f p = rw (lt-ltb o (length w.image) h, eq-eqb (o % 8) 0 a, f, p)

-- ---- the answer for one offset

module _ (w : World) (o : ℕ) where
  pub unfit_none : words_fit w.image o ≡ false → None ≡ block_at w o
  unfolding block_at
  unfit_none h = rw (unfit w o h)

  module _ (r : Resolved) (e : r ≡ resolved_of (self_walk w o)) where
    at_self : (b : Bool) → is_at o r.place ≡ b → is_at o (self_walk w o).place ≡ b
    at_self b h = ap (λ (z : Resolved). is_at o z.place) (sym e) ∙ h

    pub elsewhere_none : is_at o r.place ≡ false → None ≡ block_at w o
    unfolding block_at
    elsewhere_none h = rw (elsewhere w o (at_self false h))

    pub here_some : o < length w.image → o % 8 ≡ 0 → words_fit w.image o ≡ true → is_at o r.place ≡ true → Some (record { number = 1; offset = o; entries = r.entries }) ≡ block_at w o
    unfolding block_at
    here_some l a f h =
        let n : r.entries ≡ length (self_walk w o).trace = ap (λ (z : Resolved). z.entries) e in
        rw (block_here w o l a f (at_self true h), n)

  -- the walk that the code takes is the block's own
  pub own_walk : (own : ℕ) (f : Frame) (r : Resolved) → own ≡ self_word w.image o → f ≡ frame_of (directory_word w.image o) → r ≡ resolved_of (resolve_of 3 (with_directory f w) own) → r ≡ resolved_of (self_walk w o)
  unfolding self_walk
  own_walk own f r e g q = q ∙ rw (e, g)
