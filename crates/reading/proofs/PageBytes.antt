-- The bytes of one page at a time are the bytes one by one.
use mathlib.Core.Path.{◌≡◌, refl, sym, ap, ◌∙◌}
use mathlib.Core.List.{List, [], ◌∷◌, ◌++◌, append_assoc, append-nil}
use mathlib.Core.Bool.{Bool, true, false, ◌||◌}
use Prim.Native.Nat.{ℕ, zero, suc, ◌+◌, ◌-◌, ◌*◌, ◌/◌, ◌%◌, ◌^◌, ◌≤◌, ◌<◌, min}
use native.Mathlib.Numerals.{add-one}
use native.Mathlib.Omega.{arith}
use lib.ListN.{length, take, drop, replicate, length-append, length-drop, length-replicate}
use lib.Seq.{sets, length-sets, length-take-le}
use Rattle.base.specs.declared.Refusal.{Refusal}
use Rattle.base.specs.declared.Refusal.TheVariants.{NotCanonical}
use Rattle.base.proofs.Overlay.{sets_append}
use Rattle.walk.specs.Walk.{World, resolve_of}
use Rattle.entry.proofs.Addresses.{past_top as unreachable}
use Rattle.walk.specs.declared.Place.{Place}
use Rattle.walk.specs.declared.Place.TheVariants.{Image, Pagefile, Zeros, Refused}
use Rattle.walk.proofs.SamePage.{moved, same_page}
use Rattle.walk.proofs.Ground.{At, resolve_at}
use Rattle.walk.proofs.Cycle.{body, sound_rows}
use Rattle.resolution.specs.Open.{open_world}
use Rattle.resolution.specs.declared.OpenCase.{OpenCase}
use Rattle.reading.specs.Bytes.{Bytes, bytes, refused, before, byte_then, bytes_of}
use Rattle.reading.specs.Inner.{piece_of, PieceInside, filled_of, BytesLaid, FilledWith}
use Rattle.std.proofs.Common.{Result, Ok, Err}

-- ---- the next byte of the page

moved_on : (k : ℕ) (p : Place) → moved (k + 1) p ≡ moved 1 (moved k p)
moved_on k (Image o) = ap Image (omega arith)
moved_on k (Pagefile o) = ap Pagefile (omega arith)
moved_on k Zeros = refl
moved_on k (Refused r) = refl

next_byte : (w : World) (a : ℕ) → a % 4096 + 1 < 4096 → (resolve_of 3 w (suc a)).place ≡ moved 1 (resolve_of 3 w a).place
next_byte w a h =
    let b = a / 4096 * 4096 in
    let k = a % 4096 in
    let hb : b % 4096 ≡ 0 = omega arith in
    let here : b + k ≡ a = omega arith in
    let there : b + (k + 1) ≡ suc a = omega arith in
    let at_here : (resolve_of 3 w a).place ≡ moved k (resolve_of 3 w b).place = ap (λ (x : ℕ). (resolve_of 3 w x).place) (sym here) ∙ ap (λ v. v.place) (same_page w b k hb (omega arith) 3) in
    let at_there : (resolve_of 3 w (suc a)).place ≡ moved (k + 1) (resolve_of 3 w b).place = ap (λ (x : ℕ). (resolve_of 3 w x).place) (sym there) ∙ ap (λ v. v.place) (same_page w b (k + 1) hb (omega arith) 3) in
    at_there ∙ moved_on k (resolve_of 3 w b).place ∙ ap (moved 1) (sym at_here)

-- ---- bytes before bytes

or_assoc : (x y z : Bool) → (x || (y || z)) ≡ ((x || y) || z)
or_assoc true y z = refl
or_assoc false y z = refl

pub before_before : (xs ys : List ℕ) (x y : Bool) (b : Bytes) → before xs x (before ys y b) ≡ before (xs ++ ys) (x || y) b
before_before xs ys x y (bytes zs z) = rw (append_assoc, or_assoc x y z)
before_before xs ys x y (refused r) = refl

before_none : (b : Bytes) → b ≡ before [] false b
before_none (bytes xs z) = refl
before_none (refused r) = refl

-- what a page's bytes are, and then the rest
abbrev pub and_then : Bytes → Bytes → Bytes
and_then (bytes xs z) rest = before xs z rest
and_then (refused r) rest = refused r

take_none : (m : ℕ) → ◌≡◌ {A = List ℕ} (take m []) []
take_none zero = refl
take_none (suc m) = refl

take_step : (m o : ℕ) (l : List ℕ) → take 1 (drop o l) ++ take m (drop (o + 1) l) ≡ take (suc m) (drop o l)
take_step m o l = rw (add-one o) (go o l)
  where
    go : (o : ℕ) (l : List ℕ) → take 1 (drop o l) ++ take m (drop (suc o) l) ≡ take (suc m) (drop o l)
    go zero [] = take_none m
    go zero (x ∷ l) = refl
    go (suc o) [] = take_none m
    go (suc o) (x ∷ l) = go o l

module _ (w : World) where
  abbrev piece : ℕ → Place → Bytes
  piece m p = piece_of w.image w.pagefile m p

  -- one byte before m bytes of the same page
  one_more : (m : ℕ) (p : Place) (rest : Bytes) → byte_then w p (and_then (piece (suc m) (moved 1 p)) rest) ≡ and_then (piece (suc (suc m)) p) rest
  one_more m (Image o) rest = before_before _ _ false false rest ∙ ap (λ (l : List ℕ). before l false rest) (take_step (suc m) o w.image)
  one_more m (Pagefile o) rest = before_before _ _ false false rest ∙ ap (λ (l : List ℕ). before l false rest) (take_step (suc m) o w.pagefile)
  one_more m Zeros rest = before_before (0 ∷ []) (replicate (suc m) 0) true true rest
  one_more m (Refused r) rest = refl

  one_byte : (p : Place) (rest : Bytes) → byte_then w p rest ≡ and_then (piece 1 p) rest
  one_byte (Image o) rest = refl
  one_byte (Pagefile o) rest = refl
  one_byte Zeros rest = refl
  one_byte (Refused r) rest = refl

  page_bytes_lem : (m r a : ℕ) → a % 4096 + suc m ≤ 4096 → bytes_of (suc m + r) w a ≡ and_then (piece (suc m) (resolve_of 3 w a).place) (bytes_of r w (a + suc m))
  unfolding bytes_of
  page_bytes_lem zero r a h =
      let n : suc 0 + r ≡ suc r = omega arith in
      let e : a + suc 0 ≡ suc a = omega arith in
      rw (n, e) (one_byte (resolve_of 3 w a).place (bytes_of r w (suc a)))
  page_bytes_lem (suc m) r a h =
      let n : suc (suc m) + r ≡ suc (suc m + r) = omega arith in
      let e : suc a + suc m ≡ a + suc (suc m) = omega arith in
      rw (n, page_bytes_lem m r (suc a) (omega arith), e, next_byte w a (omega arith))
      (one_more m (resolve_of 3 w a).place (bytes_of r w (a + suc (suc m))))

  -- past the top no byte can be read
  past_top : (n a : ℕ) → 2 ^ 64 ≤ a → bytes_of (suc n) w a ≡ refused NotCanonical
  unfolding bytes_of
  past_top n a h = rw (body 3 w a, unreachable w.space.mode a h)

piece_long : (image pagefile : List ℕ) (m : ℕ) (p : Place) (xs : List ℕ) (z : Bool) → PieceInside image pagefile m p → piece_of image pagefile m p ≡ bytes xs z → length xs ≡ m
piece_long image pagefile m (Image o) xs z h e =
    let same : take m (drop o image) ≡ xs = cc in
    rw (← same) (length-take-le m (drop o image) (omega (arith, length-drop o image)))
piece_long image pagefile m (Pagefile o) xs z h e =
    let same : take m (drop o pagefile) ≡ xs = cc in
    rw (← same) (length-take-le m (drop o pagefile) (omega (arith, length-drop o pagefile)))
piece_long image pagefile m Zeros xs z h e =
    let same : replicate m 0 ≡ xs = cc in
    rw (← same) (length-replicate m 0)
piece_long image pagefile m (Refused r) xs z h e = absurd (let z : ◌≡◌ {A = ℕ} 0 1 = cc in omega arith)

-- ---- filling a buffer page by page

pub record Filling (w : World) (a n : ℕ) (old : List ℕ) (i : ℕ) (zeros : Bool) (out : List ℕ) : Type 0 where
  pub done : List ℕ
  pub long : length done ≡ i
  pub within : i ≤ n
  pub same : bytes_of n w a ≡ before done zeros (bytes_of (n - i) w (a + i))
  pub laid : out ≡ sets old 0 done

pub filling_none : (w : World) (a n : ℕ) (old : List ℕ) → Filling w a n old 0 false old
filling_none w a n old =
    let e : n - 0 ≡ n = omega arith in
    let f : a + 0 ≡ a = omega arith in
    record { done = []; long = refl; within = omega arith; same = rw (e, f) (before_none (bytes_of n w a)); laid = refl }

module _ {w : World} {a n : ℕ} {old : List ℕ} {i : ℕ} {zeros : Bool} {out : List ℕ} (q : Filling w a n old i zeros out) where
  pub filling_long : length out ≡ length old
  filling_long = rw q.laid (length-sets old 0 q.done)

  pub at_top : i < n → 2 ^ 64 ≤ a + i → FilledWith (bytes_of n w a) 0 old (Err NotCanonical) out
  at_top h t =
      let e : n - i ≡ suc (n - i - 1) = omega arith in
      let none : bytes_of n w a ≡ refused NotCanonical = q.same ∙ rw (e, past_top w (n - i - 1) (a + i) t) in
      record { answer = rw none; buffer = rw none filling_long }

  module _ (m : ℕ) (some : 1 ≤ m) (most : m ≤ n - i) (one_page : (a + i) % 4096 + m ≤ 4096) where
    abbrev place : Place
    place = (resolve_of 3 w (a + i)).place

    split : bytes_of n w a ≡ before q.done zeros (and_then (piece_of w.image w.pagefile m place) (bytes_of (n - (i + m)) w (a + (i + m))))
    split =
        let e : m ≡ suc (m - 1) = omega arith in
        let f : n - i ≡ suc (m - 1) + (n - (i + m)) = omega arith in
        let g : a + i + suc (m - 1) ≡ a + (i + m) = omega arith in
        q.same
        ∙ ap (λ (k : ℕ). before q.done zeros (bytes_of k w (a + i))) f
        ∙ ap (before q.done zeros) (page_bytes_lem w (m - 1) (n - (i + m)) (a + i) (omega arith))
        ∙ ap (λ (k : ℕ). before q.done zeros (and_then (piece_of w.image w.pagefile (suc (m - 1)) place) (bytes_of (n - (i + m)) w k))) g
        ∙ ap (λ (k : ℕ). before q.done zeros (and_then (piece_of w.image w.pagefile k place) (bytes_of (n - (i + m)) w (a + (i + m))))) (sym e)

    module _ (r : Result Bool Refusal) (new : List ℕ) (f : FilledWith (piece_of w.image w.pagefile m place) i out r new) where
      pub page_refused : (x : Refusal) → r ≡ Err x → FilledWith (bytes_of n w a) 0 old (Err x) new
      page_refused x e = go (piece_of w.image w.pagefile m place) refl (sym f.answer ∙ e) f.buffer
        where
          go : (b : Bytes) → piece_of w.image w.pagefile m place ≡ b → filled_of b ≡ Err x → BytesLaid out i b new → FilledWith (bytes_of n w a) 0 old (Err x) new
          go (bytes xs z) h g l = absurd (let z : ◌≡◌ {A = ℕ} 0 1 = cc in omega arith)
          go (refused y) h g l =
              let same : y ≡ x = cc in
              let none : bytes_of n w a ≡ refused x = split ∙ rw (h, same) in
              record { answer = rw none; buffer = rw none (l ∙ filling_long) }

      pub page_laid : (z : Bool) → r ≡ Ok z → PieceInside w.image w.pagefile m place → Filling w a n old (i + m) (zeros || z) new
      page_laid z e inside = go (piece_of w.image w.pagefile m place) refl (sym f.answer ∙ e) f.buffer
        where
          go : (b : Bytes) → piece_of w.image w.pagefile m place ≡ b → filled_of b ≡ Ok z → BytesLaid out i b new → Filling w a n old (i + m) (zeros || z) new
          go (refused y) h g l = absurd (let z : ◌≡◌ {A = ℕ} 0 1 = cc in omega arith)
          go (bytes xs y) h g l =
              let same : y ≡ z = cc in
              let k : length xs ≡ m = piece_long w.image w.pagefile m place xs y inside h in
              record {
                done = q.done ++ xs;
                long = rw length-append (omega (arith, q.long));
                within = omega arith;
                same = split ∙ rw (h, same) (before_before q.done xs zeros z (bytes_of (n - (i + m)) w (a + (i + m))));
                laid = l ∙ ap (λ (t : List ℕ). sets t i xs) q.laid ∙ ap (λ (j : ℕ). sets (sets old 0 q.done) j xs) (sym q.long ∙ here) ∙ sym (sets_append old 0 q.done xs);
              }
            where
              here : length q.done ≡ 0 + length q.done
              here = omega arith

  pub filled : n ≤ i → FilledWith (bytes_of n w a) 0 old (Ok zeros) out
  unfolding bytes_of
  filled h =
      let e : n - i ≡ 0 = omega arith in
      let all : bytes_of n w a ≡ bytes q.done zeros = q.same ∙ rw (e, append-nil, or_false zeros) in
      record { answer = rw all; buffer = rw all q.laid }
    where
      or_false : (z : Bool) → (z || false) ≡ z
      or_false true = refl
      or_false false = refl

-- a piece within the page lies in its file
pub piece_at : (o : OpenCase) (a m : ℕ) → a % 4096 + m ≤ 4096 → PieceInside o.image.now o.pagefile.now m (resolve_of 3 (open_world o) a).place
piece_at o a m h = go (resolve_of 3 (open_world o) a).place (resolve_at (open_world o) (sound_rows o.rows.now o.space o.image.now o.pagefile.now) 3 a)
  where
    go : (p : Place) → At (open_world o) a p → PieceInside o.image.now o.pagefile.now m p
    go (Image x) g = omega (arith, g.0, g.1)
    go (Pagefile x) g = omega (arith, g.0, g.1)
    go Zeros g = tt
    go (Refused r) g = tt

-- filling keeps the buffer's length
pub fills_long : {b : Bytes} {at : ℕ} {old : List ℕ} {r : Result Bool Refusal} {new : List ℕ} → FilledWith b at old r new → length new ≡ length old
fills_long {b} {at} {old} {r} {new} f = go b f.buffer
  where
    go : (b : Bytes) → BytesLaid old at b new → length new ≡ length old
    go (bytes xs z) l = rw l (length-sets old at xs)
    go (refused x) l = l

-- the piece that the code takes of a page: some bytes, up to the page's end
pub some_piece : (a n i m : ℕ) → i < n → m ≡ min (4096 - a % 4096) (n - i) → (1 ≤ m) × (m ≤ n - i)
some_piece a n i m h e = (omega arith, omega arith)

pub page_piece : (a n i m : ℕ) → m ≡ min (4096 - a % 4096) (n - i) → a % 4096 + m ≤ 4096
page_piece a n i m e = omega arith
