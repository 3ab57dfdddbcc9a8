-- The 32-bit profiles: at most 2 or 3 entries are read, and which answers can come.
use mathlib.Core.Path.{◌≡◌, refl, ap}
use mathlib.Core.List.{List, []}
use mathlib.Core.Bool.{Bool, true, false, not}
use Prim.Native.Nat.{ℕ, zero, suc, ◌≤◌}
use native.Mathlib.Omega.{arith}
use lib.ListN.{length, length-append}
use Rattle.std.specs.Prelude.{if◌then◌else◌, Option, Some, None}
use Rattle.base.specs.Notation.{bit}
use Rattle.base.specs.declared.Refusal.{Refusal}
use Rattle.base.specs.declared.Refusal.TheVariants.{NotCanonical, UpperEntryNotValid, FrameInNoRun, FrameTooWide, ReservedBitSet, StateNotFollowed}
use Rattle.entry.specs.Addresses.{reachable_in}
use Rattle.entry.specs.Entry.{levels_below, level_of, top_offset, valid, too_wide, frame_of, large_of, has_reserved, reserved_of, upper_of, valid_of, transition, transition_of, narrow_leaf_of, leaf_in}
use Rattle.entry.specs.declared.Frame.{Frame}
use Rattle.entry.specs.declared.PagingMode.{PagingMode}
use Rattle.entry.specs.declared.PagingMode.TheVariants.{FourLevel, Plain, Pae}
use Rattle.entry.specs.declared.PageSize.{PageSize}
use Rattle.entry.specs.declared.PageSize.TheVariants.{Page4K, Page2M, Page4M, Page1G}
use Rattle.entry.specs.declared.Level.{Level}
use Rattle.entry.specs.declared.EntryPlace.{EntryPlace}
use Rattle.entry.specs.declared.EntryPlace.TheVariants.{InFrame, InPagefile, ZeroPage}
use Rattle.entry.specs.declared.EntryPlace.TheVariants as entry_place
use Rattle.entry.specs.declared.Upper.{Upper}
use Rattle.entry.specs.declared.Upper.TheVariants.{Table, LargePage, UpperNeedsRegion}
use Rattle.entry.specs.declared.Upper.TheVariants as upper
use Rattle.entry.specs.declared.Leaf.{Leaf}
use Rattle.entry.specs.declared.Leaf.TheVariants.{Settled, Prototype, NeedsRegion}
use Rattle.words.specs.Words.{little_at}
use Rattle.walk.specs.Walk.{World, Walked, Trail, Next, no_more, deeper, in_page, frame_in, settle_of, settled, entry_offset, entry_of, upper_step, descend_of, descended, halt, leaf_step, body_of, resolve_of, noting, stop}
use Rattle.walk.proofs.Descending.{Narrow}
use Rattle.walk.specs.declared.Place.{Place}
use Rattle.walk.specs.declared.Place.TheVariants.{Image, Refused}
use Rattle.walk.proofs.Count.{walk_count}

-- PAE: the plain mode has no reserved bits that are 33
abbrev pub IsPae : PagingMode → Type 0
IsPae FourLevel = ⊥
IsPae Plain = ⊥
IsPae (Pae place) = Unit {0}

-- the refusals of an address of the address space
pub data NarrowRefusal (m : PagingMode) : Refusal → Type 0 where
  not_valid : NarrowRefusal m UpperEntryNotValid
  in_no_run : NarrowRefusal m FrameInNoRun
  frame_too_wide : NarrowRefusal m FrameTooWide
  reserved_set : IsPae m → NarrowRefusal m ReservedBitSet
  not_followed : NarrowRefusal m StateNotFollowed

-- an entry settles a frame or one of these
abbrev NarrowEntry : PagingMode → EntryPlace → Type 0
NarrowEntry m (InFrame f s) = Unit {0}
NarrowEntry m (InPagefile p) = ⊥
NarrowEntry m ZeroPage = ⊥
NarrowEntry m (entry_place.Refused r) = NarrowRefusal m r

abbrev NarrowLeaf : PagingMode → Leaf → Type 0
NarrowLeaf m (Settled r) = NarrowEntry m r
NarrowLeaf m (Prototype t) = ⊥
NarrowLeaf m NeedsRegion = ⊥

abbrev NarrowUpper : PagingMode → Upper → Type 0
NarrowUpper m (Table f) = Unit {0}
NarrowUpper m (LargePage f s) = Unit {0}
NarrowUpper m (upper.Refused r) = NarrowRefusal m r
NarrowUpper m UpperNeedsRegion = ⊥

-- 1, or one of these, or 20
pub data NarrowPlace (m : PagingMode) : Place → Type 0 where
  in_image : (o : ℕ) → NarrowPlace m (Image o)
  refused : {r : Refusal} → NarrowRefusal m r → NarrowPlace m (Refused r)
  past_top : NarrowPlace m (Refused NotCanonical)

-- ---- entries

valid_narrow : (m : PagingMode) (e : ℕ) → NarrowEntry m (valid_of e)
valid_narrow m e = go (too_wide e)
  where
    go : (b : Bool) → NarrowEntry m (if b then entry_place.Refused FrameTooWide else InFrame (frame_of e) Page4K)
    go true = frame_too_wide
    go false = tt

last_narrow : (m : PagingMode) (e : ℕ) → NarrowLeaf m (narrow_leaf_of e)
unfolding narrow_leaf_of
last_narrow m e = go (valid e) (transition e)
  where
    go : (a b : Bool) → NarrowLeaf m (if a then Settled (valid_of e) else if b then Settled (transition_of e) else Settled (entry_place.Refused StateNotFollowed))
    go true b = valid_narrow m e
    go false true = tt
    go false false = not_followed

leaf_narrow : (m : PagingMode) (e : ℕ) → Narrow m → NarrowLeaf m (leaf_in m e)
unfolding leaf_in
leaf_narrow FourLevel e h = absurd h
leaf_narrow Plain e h = last_narrow Plain e
leaf_narrow (Pae place) e h = last_narrow (Pae place) e

-- a level of a 32-bit profile: no region record, and reserved bits that are ignored, 24 or in PAE 33
pub record NarrowLevel (m : PagingMode) (l : Level) : Type 0 where
  pub no_region : l.region ≡ false
  pub reserved : (u : Upper) (b : Bool) → NarrowUpper m u → NarrowUpper m (reserved_of l.reserved b u)

ignored_narrow : (m : PagingMode) (u : Upper) (b : Bool) → NarrowUpper m u → NarrowUpper m (reserved_of None b u)
ignored_narrow m u b h = h

refused_narrow : (m : PagingMode) (r : Refusal) → NarrowRefusal m r → (u : Upper) (b : Bool) → NarrowUpper m u → NarrowUpper m (reserved_of (Some r) b u)
refused_narrow m r q u true h = q
refused_narrow m r q u false h = h

level_narrow : (m : PagingMode) (n : ℕ) → Narrow m → NarrowLevel m (level_of m n)
unfolding level_of
level_narrow FourLevel n h = absurd h
level_narrow Plain zero h = record { no_region = refl; reserved = ignored_narrow Plain }
level_narrow Plain (suc n) h = record { no_region = refl; reserved = refused_narrow Plain FrameTooWide frame_too_wide }
level_narrow (Pae place) zero h = record { no_region = refl; reserved = ignored_narrow (Pae place) }
level_narrow (Pae place) (suc zero) h = record { no_region = refl; reserved = refused_narrow (Pae place) ReservedBitSet (reserved_set tt) }
level_narrow (Pae place) (suc (suc n)) h = record { no_region = refl; reserved = refused_narrow (Pae place) ReservedBitSet (reserved_set tt) }

large_narrow : (m : PagingMode) (s : PageSize) (f : Frame) → NarrowUpper m (large_of s f)
large_narrow m Page4K f = tt
large_narrow m Page2M f = tt
large_narrow m Page4M f = tt
large_narrow m Page1G f = tt

upper_narrow : (m : PagingMode) (l : Level) (e : ℕ) → NarrowLevel m l → NarrowUpper m (upper_of l e)
unfolding upper_of
upper_narrow m l e q = rw q.no_region (go (not (valid e)) (too_wide e) (bit e 7))
  where
    go : (a b c : Bool)
        → NarrowUpper m (
        if a then upper.Refused UpperEntryNotValid else
        if b then upper.Refused FrameTooWide else
        if c then reserved_of l.reserved (has_reserved l.large e) (large_of l.large (frame_of e)) else
        Table (frame_of e))
    go true b c = not_valid
    go false true c = frame_too_wide
    go false false true = q.reserved (large_of l.large (frame_of e)) (has_reserved l.large e) (large_narrow m l.large (frame_of e))
    go false false false = tt

-- ---- the descent

entry_narrow : (m : PagingMode) (image : List ℕ) (l : Level) (o a : ℕ) (next : ℕ → Trail) (t : Option ℕ) → ((e : ℕ) → NarrowLeaf m (next e).leaf) → NarrowLeaf m (entry_of image l o a next t).leaf
entry_narrow m image l o a next None h = in_no_run
entry_narrow m image l o a next (Some p) h = h (little_at l.bytes image (entry_offset l p o a))

step_narrow : (m : PagingMode) (u : Upper) (next : Frame → Trail) → NarrowUpper m u → ((f : Frame) → NarrowLeaf m (next f).leaf) → NarrowLeaf m (upper_step next u).leaf
step_narrow m (Table f) next t h = h f
step_narrow m (LargePage f s) next t h = tt
step_narrow m (upper.Refused r) next t h = t
step_narrow m UpperNeedsRegion next t h = absurd t

descend_narrow_lem : (m : PagingMode) → Narrow m → (n : ℕ) (page : Frame → Option ℕ) (image : List ℕ) (o : ℕ) (t : Option ℕ) (a : ℕ) → NarrowLeaf m (descend_of m n page image o t a).leaf
unfolding descend_of
descend_narrow_lem m h zero page image o t a = entry_narrow m image (level_of m 0) o a (λ e. halt (leaf_in m e)) t (λ e. leaf_narrow m e h)
descend_narrow_lem m h (suc n) page image o t a =
    entry_narrow m image (level_of m (suc n)) o a (λ e. upper_step (λ f. descend_of m n page image 0 (page f) a) (upper_of (level_of m (suc n)) e)) t
    (λ e. step_narrow m (upper_of (level_of m (suc n)) e) (λ f. descend_of m n page image 0 (page f) a) (upper_narrow m (level_of m (suc n)) e (level_narrow m (suc n) h)) (λ f. descend_narrow_lem m h n page image 0 (page f) a))

-- ---- the walk

module _ (w : World) (h : Narrow w.space.mode) where
  abbrev m : PagingMode
  m = w.space.mode

  page_narrow : (a : ℕ) (x : Option ℕ) → NarrowPlace m (in_page a x)
  page_narrow a None = refused in_no_run
  page_narrow a (Some p) = in_image _

  settle_narrow_lem : (a : ℕ) (r : EntryPlace) → NarrowEntry m r → NarrowPlace m (settled w a r)
  unfolding settle_of
  settle_narrow_lem a (InFrame f s) t = page_narrow a (w.page (frame_in f s a))
  settle_narrow_lem a (InPagefile p) t = absurd t
  settle_narrow_lem a ZeroPage t = absurd t
  settle_narrow_lem a (entry_place.Refused r) t = refused t

  -- a descent ends by itself: nothing is read after it
  leaf_place : (next : Next) (a : ℕ) (l : Leaf) → NarrowLeaf m l → NarrowPlace m (leaf_step w next a l).place × ((leaf_step w next a l).trace ≡ [])
  leaf_place next a (Settled r) t = (settle_narrow_lem a r t, refl)
  leaf_place next a (Prototype x) t = absurd t
  leaf_place next a NeedsRegion t = absurd t

  body_narrow : (next : Next) (a : ℕ) → NarrowPlace m (body_of w next a).place × (length (body_of w next a).trace ≤ suc (levels_below w.space.mode))
  body_narrow next a = go (reachable_in w.space.mode a)
    where
      d : Trail
      d = descended w a

      found : NarrowPlace m (leaf_step w next a d.leaf).place × ((leaf_step w next a d.leaf).trace ≡ [])
      found = leaf_place next a d.leaf (descend_narrow_lem m h (levels_below m) w.page w.image (top_offset m) (w.page w.space.directory) a)

      go : (c : Bool) → NarrowPlace m (if c then noting d.trace (leaf_step w next a d.leaf) else stop (Refused NotCanonical)).place
          × (length (if c then noting d.trace (leaf_step w next a d.leaf) else stop (Refused NotCanonical)).trace ≤ suc (levels_below w.space.mode))
      go true = (found.0, rw found.1 (simp length-append (omega (arith, walk_count w a))))
      go false = (past_top, omega arith)

  -- the answers of a 32-bit profile, and the entries read: one a level
  pub narrow_walk : (n a : ℕ) → NarrowPlace w.space.mode (resolve_of n w a).place × (length (resolve_of n w a).trace ≤ suc (levels_below w.space.mode))
  unfolding resolve_of
  narrow_walk zero a = body_narrow no_more a
  narrow_walk (suc n) a = body_narrow (deeper (resolve_of n w)) a

-- ---- the pagefile is never asked

module _ (w : World) (h : Narrow w.space.mode) (q : List ℕ) where
  -- the same world with another pagefile
  abbrev other : World
  other = record { space = w.space; page = w.page; image = w.image; pagefile = q }

  settled_same : (a : ℕ) (r : EntryPlace) → NarrowEntry w.space.mode r → settled other a r ≡ settled w a r
  unfolding settle_of
  settled_same a (InFrame f s) t = refl
  settled_same a (InPagefile p) t = absurd t
  settled_same a ZeroPage t = absurd t
  settled_same a (entry_place.Refused r) t = refl

  leaf_same : (next last : Next) (a : ℕ) (l : Leaf) → NarrowLeaf w.space.mode l → leaf_step other next a l ≡ leaf_step w last a l
  leaf_same next last a (Settled r) t = ap (λ (p : Place). stop p) (settled_same a r t)
  leaf_same next last a (Prototype x) t = absurd t
  leaf_same next last a NeedsRegion t = absurd t

  body_same : (next last : Next) (a : ℕ) → body_of other next a ≡ body_of w last a
  body_same next last a =
      ap (λ (x : Walked). if reachable_in w.space.mode a then noting (descended w a).trace x else stop (Refused NotCanonical))
      (leaf_same next last a (descended w a).leaf (descend_narrow_lem w.space.mode h (levels_below w.space.mode) w.page w.image (top_offset w.space.mode) (w.page w.space.directory) a))

  -- an address of a 32-bit profile leads to one place, whatever the pagefile
  pub any_pagefile : (n a : ℕ) → resolve_of n other a ≡ resolve_of n w a
  unfolding resolve_of
  any_pagefile zero a = body_same no_more no_more a
  any_pagefile (suc n) a = body_same (deeper (resolve_of n other)) (deeper (resolve_of n w)) a

-- at most 2 entries in the plain mode, 3 in PAE
pub plain_entries : (w : World) → w.space.mode ≡ Plain → (n a : ℕ) → length (resolve_of n w a).trace ≤ 2
plain_entries w e n a =
    let k : levels_below w.space.mode ≡ 1 = ap (λ (m : PagingMode). levels_below m) e in
    omega (arith, (narrow_walk w (rw e tt) n a).1)

pub pae_entries : (w : World) (place : ℕ) → w.space.mode ≡ Pae place → (n a : ℕ) → length (resolve_of n w a).trace ≤ 3
pae_entries w place e n a =
    let k : levels_below w.space.mode ≡ 2 = ap (λ (m : PagingMode). levels_below m) e in
    omega (arith, (narrow_walk w (rw e tt) n a).1)
