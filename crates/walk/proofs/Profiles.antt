-- Whole walks of the 32-bit profiles: document 000's translation, and inputs at which wrong walks would answer otherwise.
use mathlib.Core.Path.{refl}
use mathlib.Core.List.{List, [], ◌∷◌, ◌++◌}
use Prim.Native.Nat.{ℕ, ◌+◌, ◌*◌, ◌/◌, ◌%◌, ◌^◌}
use lib.ListN.{length, replicate}
use Rattle.base.specs.Example.{Example, same, Hold}
use Rattle.entry.specs.Pages.{frame}
use Rattle.entry.specs.Addresses.{reachable_in}
use Rattle.entry.specs.Entry.{level_of, has_reserved, upper_of, narrow_leaf_of, leaf_in}
use Rattle.entry.specs.declared.PagingMode.{PagingMode}
use Rattle.entry.specs.declared.PagingMode.TheVariants.{Plain, Pae}
use Rattle.sheet.specs.declared.Run.{Run}
use Rattle.words.specs.Words.{little_at}
use Rattle.walk.specs.Walk.{World, world_of, frame_in, settle_of, descend_of, resolve_of, number_of, offset_of}

-- the 8 bytes of a word, and the 4 of a half
unfoldable pub word : ℕ → List ℕ
word x = x % 256 ∷ x / 2 ^ 8 % 256 ∷ x / 2 ^ 16 % 256 ∷ x / 2 ^ 24 % 256 ∷ x / 2 ^ 32 % 256 ∷ x / 2 ^ 40 % 256 ∷ x / 2 ^ 48 % 256 ∷ x / 2 ^ 56 ∷ []

half : ℕ → List ℕ
half x = x % 256 ∷ x / 2 ^ 8 % 256 ∷ x / 2 ^ 16 % 256 ∷ x / 2 ^ 24 ∷ []

unfoldable pub run : ℕ → Run
run first = record { first = frame first; pages = 1 }

unfoldable pub world : PagingMode → ℕ → List Run → List ℕ → World
world mode directory runs image = world_of (record { space = record { directory = frame directory; mode = mode }; runs = runs }) image []

-- number, offset and entries read
unfoldable pub walked : World → ℕ → ℕ × (ℕ × ℕ)
walked w a = let v = resolve_of 3 w a in (number_of v.place, (offset_of v.place, length v.trace))

-- ---- document 000, section 3.1: frames 0x73F1, 0x7600, 0xDA6B and 0x11DF3 are the pages of the image

dock : World
dock =
    world (Pae 65) 0x7600 (run 0x73F1 ∷ run 0x7600 ∷ run 0xDA6B ∷ run 0x11DF3 ∷ [])
    ((replicate 776 0 ++ (word 0x11DF3921 ++ (word 0xE1B1151000000400 ++ replicate 3304 0)))
    ++ ((replicate 2104 0 ++ (word 0x0DA6B801 ++ replicate 1984 0)) ++ ((replicate 184 0 ++ (word 0x073F1963 ++ replicate 3904 0)) ++ replicate 4096 0)))

pub translated : List Example
translated = same (walked dock 0xC2E61940) (1, (3 * 4096 + 0x940, 3)) ∷ same (walked dock 0xC2E62940) (34, (0, 3)) ∷ []

pub translated_hold : Hold translated
unfolding translated dock world run word walked level_of has_reserved upper_of narrow_leaf_of leaf_in frame_in settle_of resolve_of reachable_in descend_of little_at
translated_hold = (refl, (refl, tt))

-- ---- the plain mode, with a directory that is its own page table: entries 0 to 8 by their 4 bytes

plain : World
plain =
    world Plain 0 (run 0 ∷ run 0x400 ∷ [])
    ((half 0x1 ++ (half 0x81 ++ (half 0x2081 ++ (half 0x200081 ++ (half 0x800 ++ (half 0x80000001 ++ (half 0x400800 ++ (half 0x400 ++ (half 0x400001 ++ replicate 4060 0)))))))))
    ++ replicate 4096 0)

pub plain_walks : List Example
plain_walks =
    -- entry 0 has 4 bytes: of 8 it would have bits of entry 1
    same (walked plain 0x123) (1, (0x123, 2))
    -- a page of 4 MiB from frame 0: its frame 0x400 is not the byte's, and bits 12-21 are the address's
    ∷ same (walked plain 0x400123) (1, (0x123, 1))
    ∷ same (walked plain 0x401123) (23, (0, 1))
    -- bits 13 and 21 of such an entry, also where the byte's frame is in no run: before 23
    ∷ same (walked plain 0x800123) (24, (0, 1))
    ∷ same (walked plain 0xC00123) (24, (0, 1))
    ∷ same (walked plain 0x801123) (24, (0, 1))
    -- an upper entry in transition is not followed; the same entry at the last level is
    ∷ same (walked plain 0x1000123) (21, (0, 1))
    ∷ same (walked plain 0x4123) (1, (0x123, 2))
    ∷ same (walked plain 0x6123) (1, (0x1123, 2))
    -- any other state, a frame and a table in no run, an entry of 0
    ∷ same (walked plain 0x7123) (34, (0, 2))
    ∷ same (walked plain 0x5123) (23, (0, 2))
    ∷ same (walked plain 0x1400123) (23, (0, 1))
    ∷ same (walked plain 0x9123) (34, (0, 2))
    ∷ same (walked plain 0x3000123) (21, (0, 1))
    -- the last address, and the first past it
    ∷ same (walked plain 0xFFFFFFFF) (21, (0, 1))
    ∷ same (walked plain 0x100000000) (20, (0, 0))
    ∷ []

pub plain_hold : Hold plain_walks
unfolding plain_walks plain world run half walked level_of has_reserved upper_of narrow_leaf_of leaf_in frame_in settle_of resolve_of reachable_in descend_of little_at
plain_hold = (refl, (refl, (refl, (refl, (refl, (refl, (refl, (refl, (refl, (refl, (refl, (refl, (refl, (refl, (refl, (refl, tt))))))))))))))))

-- ---- PAE, with the four top entries at the end of their page: its last place is 127

last_place : World
last_place = world (Pae 127) 0 (run 0 ∷ []) ((word 0x1 ++ (word 0x81 ++ replicate 4048 0)) ++ (word 0x1 ++ (word 0x1000000000001 ++ (word 0x801 ++ word 0x800))))

pub pae_walks : List Example
pae_walks =
    same (walked last_place 0x123) (1, (0x123, 3))
    ∷ same (walked last_place 0x200123) (1, (0x123, 2))
    ∷ same (walked last_place 0x201123) (23, (0, 2))
    -- bits 48-51 of a top entry, which is followed whatever its bits 9-11 say, and not in transition
    ∷ same (walked last_place 0x40000123) (24, (0, 1))
    ∷ same (walked last_place 0x80000123) (1, (0x123, 3))
    ∷ same (walked last_place 0xC0000123) (21, (0, 1))
    ∷ same (walked last_place 0x100000000) (20, (0, 0))
    ∷ []

pub pae_hold : Hold pae_walks
unfolding pae_walks last_place world run word walked level_of has_reserved upper_of narrow_leaf_of leaf_in frame_in settle_of resolve_of reachable_in descend_of little_at
pae_hold = (refl, (refl, (refl, (refl, (refl, (refl, (refl, tt)))))))

-- ---- a directory page in no run: 23, and no entry is read

pub nowhere : List Example
nowhere = same (walked (world (Pae 0) 1 (run 0 ∷ []) (replicate 4096 0)) 0x123) (23, (0, 0)) ∷ same (walked (world Plain 1 (run 0 ∷ []) (replicate 4096 0)) 0x123) (23, (0, 0)) ∷ []

pub nowhere_hold : Hold nowhere
unfolding nowhere world run walked level_of has_reserved upper_of narrow_leaf_of leaf_in frame_in settle_of resolve_of reachable_in descend_of little_at
nowhere_hold = (refl, (refl, tt))
