-- The search passes over offsets that hold no block, eight at a time.
use Rattle.std.specs.Prelude.{if◌then◌else◌, Some, None}
use Rattle.std.specs.Int.{div_ceil}
use Rattle.std.proofs.Common.{◌≡◌, ℕ, zero, suc, ◌+◌, ◌-◌, ◌*◌, ◌/◌, ◌%◌, ◌<◌, ◌≤◌, Bool, true, false, length, sym, refl, ◌∙◌, sub-one, arith}
use Rattle.base.specs.declared.Refusal.TheVariants.{NoProcessorBlock}
use Rattle.base.proofs.Test.{Test, test, below, above}
use Rattle.walk.specs.Walk.{World}
use Rattle.case.specs.Answer.{refusal}
use Rattle.case.specs.declared.Answer.{Answer}
use Rattle.processor_block.specs.Block.{self_walk, is_block, first_block, block_from}
use Rattle.processor_block.specs.Inner.{NoneFit, block_at}
use Rattle.processor_block.proofs.Fitting.{too_far, unaligned, unfit}

module _ (w : World) where
  skip : (n o : ℕ) → is_block w o ≡ false → first_block n w o ≡ first_block (n - 1) w (suc o)
  unfolding first_block
  skip zero o h = refl
  skip (suc n) o h = rw (h, sub-one)

  at_same : (m n o p : ℕ) → m ≡ n → o ≡ p → first_block m w o ≡ first_block n w p
  at_same m n o p e f = rw (e, f)

  skips : (j n o : ℕ) → ((k : ℕ) → k < j → is_block w (o + k) ≡ false) → first_block n w o ≡ first_block (n - j) w (o + j)
  skips zero n o h = at_same n (n - 0) o (o + 0) (omega arith) (omega arith)
  skips (suc j) n o h =
      skips j n o (λ k l. h k (omega arith))
      ∙ skip (n - j) (o + j) (h j (omega arith))
      ∙ at_same (n - j - 1) (n - suc j) (suc (o + j)) (o + suc j) (omega arith) (omega arith)

  -- the seven offsets after a word's first are no multiples of 8
  pub next_word : (n i : ℕ) → is_block w (8 * i) ≡ false → first_block (n - 8 * i) w (8 * i) ≡ first_block (n - 8 * (i + 1)) w (8 * (i + 1))
  next_word n i h = skips 8 (n - 8 * i) (8 * i) (λ k l. none k l (test 0 k)) ∙ at_same (n - 8 * i - 8) (n - 8 * (i + 1)) (8 * i + 8) (8 * (i + 1)) (omega arith) (omega arith)
    where
      none : (k : ℕ) → k < 8 → Test 0 k → is_block w (8 * i + k) ≡ false
      none k l (below m) = unaligned w (8 * i + k) (λ z. omega arith)
      none k l (above m) =
          let z : 8 * i + k ≡ 8 * i = omega arith in
          rw z h

  first_word : (from : ℕ) → block_from w from ≡ first_block (length w.image - 8 * div_ceil from 8) w (8 * div_ceil from 8)
  unfolding block_from
  first_word from =
      let i = div_ceil from 8 in
      skips (8 * i - from) (length w.image - from) from (λ k l. unaligned w (from + k) (λ z. omega arith))
      ∙ at_same (length w.image - from - (8 * i - from)) (length w.image - 8 * i) (from + (8 * i - from)) (8 * i) (omega arith) (omega arith)

  no_words_left : (i : ℕ) → length w.image ≤ 8 * i → first_block (length w.image - 8 * i) w (8 * i) ≡ refusal NoProcessorBlock
  no_words_left i h = at_same (length w.image - 8 * i) 0 (8 * i) (8 * i) (omega arith) refl ∙ unfold first_block in refl

  found_block : (n o : ℕ) → o < n → is_block w o ≡ true → first_block (n - o) w o ≡ record { number = 1; offset = o; entries = length (self_walk w o).trace }
  found_block n o h b = at_same (n - o) (suc (n - o - 1)) o o (omega arith) refl ∙ go (n - o - 1)
    where
      go : (m : ℕ) → first_block (suc m) w o ≡ record { number = 1; offset = o; entries = length (self_walk w o).trace }
      go m = unfold first_block in (rw b)

  -- ---- what the search holds at word i: the first block of the whole is the first from there on

  pub record Searching (from i : ℕ) : Type 0 where
    pub rest : block_from w from ≡ first_block (length w.image - 8 * i) w (8 * i)

  pub at_word : {from i j : ℕ} → i ≡ j → Searching from i → Searching from j
  at_word e q = rw e at q

  pub search_begins : (from : ℕ) → Searching from (div_ceil from 8)
  search_begins from = record { rest = first_word from }

  -- at word i the first block from there on is the first from its offset on
  pub begins_at : (i : ℕ) → Searching (8 * i) i
  begins_at i = record { rest = unfold block_from in refl }

  pub onward : {from i : ℕ} → Searching from i → block_from w from ≡ block_from w (8 * i)
  onward q = q.rest ∙ unfold block_from in refl

  pub found_on : {from i : ℕ} → Searching from i → {r : Answer} → r ≡ block_from w (8 * i) → r ≡ block_from w from
  found_on q e = e ∙ sym (onward q)

  pub none_of_four : {from i : ℕ} → Searching from i → block_from w (8 * i) ≡ block_from w (8 * (i + 4)) → Searching from (i + 4)
  none_of_four {from} {i} q e = record { rest = onward q ∙ e ∙ (begins_at (i + 4)).rest }

  module _ {from i : ℕ} (q : Searching from i) where
    passed : is_block w (8 * i) ≡ false → Searching from (i + 1)
    passed h = record { rest = q.rest ∙ next_word (length w.image) i h }

    abbrev here : Answer
    here = record { number = 1; offset = 8 * i; entries = length (self_walk w (8 * i)).trace }

    pub none_at : block_at w (8 * i) ≡ None → Searching from (i + 1)
    unfolding block_at
    none_at e = go (is_block w (8 * i)) refl e
      where
        go : (b : Bool) → is_block w (8 * i) ≡ b → (if b then Some here else None) ≡ None → Searching from (i + 1)
        go true f e = cc
        go false f e = passed f

    pub found_at : (r : Answer) → 8 * i < length w.image → block_at w (8 * i) ≡ Some r → r ≡ block_from w from
    unfolding block_at
    found_at r l e = go (is_block w (8 * i)) refl e
      where
        go : (b : Bool) → is_block w (8 * i) ≡ b → (if b then Some here else None) ≡ Some r → r ≡ block_from w from
        go true f e =
            let same : here ≡ r = cc in
            sym (q.rest ∙ found_block (length w.image) (8 * i) l f ∙ same)
        go false f e = cc

  -- past words that do not fit
  pub none_between : {from i r : ℕ} → Searching from i → NoneFit w.image i r → Searching from r
  none_between {from} {i} {r} q n =
      let e : i + (r - i) ≡ r = omega (arith, n.onward) in
      rw e at (go (r - i) (omega (arith, n.onward)))
    where
      go : (j : ℕ) → i + j ≤ r → Searching from (i + j)
      go zero h =
          let e : i + 0 ≡ i = omega arith in
          rw e q
      go (suc j) h =
          let e : i + j + 1 ≡ i + suc j = omega arith in
          rw e at (passed (go j (omega arith)) (unfit w (8 * (i + j)) (n.none (i + j) (omega arith) (omega arith))))

  -- no block begins at the last 7 words of a page
  pub search_ends : {from i : ℕ} → length w.image % 4096 ≡ 0 → length w.image / 8 ≤ i + 7 → Searching from i → refusal NoProcessorBlock ≡ block_from w from
  search_ends {from} {i} e h q = go (test i (length w.image / 8))
    where
      go : Test i (length w.image / 8) → refusal NoProcessorBlock ≡ block_from w from
      go (below l) =
          let last : Searching from (length w.image / 8) = none_between q (record { onward = omega arith; none = λ k g u. too_far w.image (8 * k) (omega arith) }) in
          sym (last.rest ∙ no_words_left (length w.image / 8) (omega arith))
      go (above l) = sym (q.rest ∙ no_words_left i (omega arith))
