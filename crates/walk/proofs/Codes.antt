-- The number of every answer for a reachable address is a code, and a file offset is below 2^48, so that the answer can stand in a map.
use Rattle.std.specs.Prelude.{if◌then◌else◌, Option, Some, None}
use mathlib.Core.Path.{◌≡◌, refl}
use mathlib.Core.Bool.{Bool, true, false}
use Prim.Native.Nat.{ℕ, zero, suc, ◌+◌, ◌*◌, ◌%◌, ◌^◌, ◌≤◌, ◌<◌}
use native.Mathlib.Omega.{arith}
use lib.Dec.{eqb, leb}
use lib.ListN.{length}
use Rattle.base.specs.Codes.{is_code}
use Rattle.base.specs.Refusal.{refusal_number}
use Rattle.base.specs.declared.Refusal.TheVariants.{PrototypeUnaligned, PastPagefile}
use Rattle.entry.specs.Addresses.{reachable_in}
use Rattle.entry.specs.Entry.{levels_below, level_of, top_offset, upper_of, leaf_in, prototype_of}
use Rattle.entry.specs.declared.PagingMode.{PagingMode}
use Rattle.entry.specs.declared.Frame.{Frame}
use Rattle.entry.specs.declared.Level.{Level}
use Rattle.entry.specs.declared.EntryPlace.{EntryPlace}
use Rattle.entry.specs.declared.EntryPlace.TheVariants.{InFrame, InPagefile, ZeroPage}
use Rattle.entry.specs.declared.EntryPlace.TheVariants as entry_place
use Rattle.entry.specs.declared.Upper.{Upper}
use Rattle.entry.specs.declared.Upper.TheVariants.{Table, LargePage, UpperNeedsRegion}
use Rattle.entry.specs.declared.Upper.TheVariants as upper
use Rattle.entry.specs.declared.Leaf.{Leaf}
use Rattle.entry.specs.declared.Leaf.TheVariants.{Settled, Prototype, NeedsRegion}
use Rattle.entry.proofs.Codes.{EntryPlaceCoded, UpperCoded, LeafCoded, prototype_coded, upper_coded, leaf_in_coded}
use Rattle.words.specs.Words.{little_at}
use Rattle.walk.specs.Walk.{
  World,
  Walked,
  Trail,
  Next,
  no_more,
  deeper,
  in_page,
  frame_in,
  settle_of,
  settled,
  word_at_place,
  entry_offset,
  entry_of,
  upper_step,
  descend_of,
  descended,
  halt,
  leaf_step,
  proto_step,
  follow,
  judged_at,
  body_of,
  resolve_of,
  stop,
}
use Rattle.walk.specs.declared.Place.{Place}
use Rattle.walk.specs.declared.Place.TheVariants.{Image, Pagefile, Zeros, Refused}
use Rattle.walk.proofs.Ground.{Sound}

abbrev pub PlaceCoded : Place → Type 0
PlaceCoded (Image o) = o < 2 ^ 48
PlaceCoded (Pagefile o) = o < 2 ^ 48
PlaceCoded Zeros = Unit {0}
PlaceCoded (Refused r) = is_code (refusal_number r) ≡ true

module _ (w : World) (q : Sound w) (small : length w.image ≤ 2 ^ 48) where
  page_coded : (a : ℕ) (f : Frame) (x : Option ℕ) → w.page f ≡ x → PlaceCoded (in_page a x)
  unfolding is_code
  page_coded a f None e = refl
  page_coded a f (Some p) e = let h : p * 4096 + 4096 ≤ length w.image = q.whole f p e in omega arith

  settle_coded : (a : ℕ) (r : EntryPlace) → EntryPlaceCoded r → PlaceCoded (settled w a r)
  unfolding settle_of is_code
  settle_coded a (InFrame f s) t = page_coded a (frame_in f s a) (w.page (frame_in f s a)) refl
  settle_coded a (InPagefile p) t = go (leb (p.0 * 4096 + 4096) (length w.pagefile))
    where
      go : (b : Bool) → PlaceCoded (if b then Pagefile (p.0 * 4096 + a % 4096) else Refused PastPagefile)
      go true = omega arith
      go false = refl
  settle_coded a ZeroPage t = tt
  settle_coded a (entry_place.Refused r) t = t

  -- the paging mode
  abbrev m : PagingMode
  m = w.space.mode

  entry_coded : (l : Level) (o a : ℕ) (next : ℕ → Trail) (x : Option ℕ) → ((e : ℕ) → LeafCoded m (next e).leaf) → LeafCoded m (entry_of w.image l o a next x).leaf
  unfolding is_code
  entry_coded l o a next None h = refl
  entry_coded l o a next (Some p) h = h (little_at l.bytes w.image (entry_offset l p o a))

  step_coded : (u : Upper) (next : Frame → Trail) → UpperCoded u → ((f : Frame) → LeafCoded m (next f).leaf) → LeafCoded m (upper_step next u).leaf
  step_coded (Table f) next t h = h f
  step_coded (LargePage f s) next t h = tt
  step_coded (upper.Refused r) next t h = t
  step_coded UpperNeedsRegion next t h = tt

  descend_coded : (n o : ℕ) (t : Option ℕ) (a : ℕ) → LeafCoded m (descend_of m n w.page w.image o t a).leaf
  unfolding descend_of
  descend_coded zero o t a = entry_coded (level_of m 0) o a (λ e. halt (leaf_in m e)) t (λ e. leaf_in_coded m e)
  descend_coded (suc n) o t a =
      entry_coded (level_of m (suc n)) o a (λ e. upper_step (λ f. descend_of m n w.page w.image 0 (w.page f) a) (upper_of (level_of m (suc n)) e)) t
      (λ e. step_coded (upper_of (level_of m (suc n)) e) (λ f. descend_of m n w.page w.image 0 (w.page f) a) (upper_coded m (suc n) e) (λ f. descend_coded n 0 (w.page f) a))

  abbrev NextCoded : Next → Type 0
  NextCoded no_more = Unit {0}
  NextCoded (deeper next) = (t : ℕ) → reachable_in m t ≡ true → PlaceCoded (next t).place

  judged_coded : (a : ℕ) (v : Walked) (p : Place) → v.place ≡ p → PlaceCoded p → PlaceCoded (judged_at w a v p).place
  judged_coded a v (Refused r) e m = rw e m
  judged_coded a v (Image o) e m = settle_coded a (prototype_of (word_at_place w (Image o))) (prototype_coded (word_at_place w (Image o)))
  judged_coded a v (Pagefile o) e m = settle_coded a (prototype_of (word_at_place w (Pagefile o))) (prototype_coded (word_at_place w (Pagefile o)))
  judged_coded a v Zeros e m = settle_coded a (prototype_of 0) (prototype_coded 0)

  proto_coded : (a t : ℕ) (next : Next) → NextCoded next → reachable_in m t ≡ true → PlaceCoded (proto_step w next a t).place
  unfolding is_code
  proto_coded a t next s h = go (eqb (t % 8) 0) next s
    where
      go : (c : Bool) (next : Next) → NextCoded next → PlaceCoded (if c then follow w a t next else stop (Refused PrototypeUnaligned)).place
      go true no_more s = refl
      go true (deeper next) s = judged_coded a (next t) (next t).place refl (s t h)
      go false next s = refl

  leaf_step_coded : (a : ℕ) (next : Next) (l : Leaf) → NextCoded next → LeafCoded m l → PlaceCoded (leaf_step w next a l).place
  unfolding is_code
  leaf_step_coded a next (Settled r) s t = settle_coded a r t
  leaf_step_coded a next (Prototype x) s t = proto_coded a x next s t
  leaf_step_coded a next NeedsRegion s t = refl

  body_coded : (a : ℕ) (next : Next) → NextCoded next → reachable_in m a ≡ true → PlaceCoded (body_of w next a).place
  body_coded a next s h = rw h (leaf_step_coded a next (descended w a).leaf s (descend_coded (levels_below m) (top_offset m) (w.page w.space.directory) a))

  pub resolve_coded : (n a : ℕ) → reachable_in w.space.mode a ≡ true → PlaceCoded (resolve_of n w a).place
  unfolding resolve_of
  resolve_coded zero a h = body_coded a no_more tt h
  resolve_coded (suc n) a h = body_coded a (deeper (resolve_of n w)) (λ t g. resolve_coded n t g) h
