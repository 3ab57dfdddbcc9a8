-- P11 of 01, for the statement over P1 to P12; and named inputs at which a wrong list would answer otherwise.
use Rattle.std.specs.Prelude.{Ok, Err}
use mathlib.Core.Path.{◌≡◌, refl}
use mathlib.Core.List.{List, [], ◌∷◌, ◌++◌}
use Prim.Native.Nat.{ℕ, ◌/◌, ◌%◌}
use native.Mathlib.Omega.{arith}
use lib.ListN.{length, replicate}
use Rattle.base.specs.Example.{Example, same, every, Hold}
use Rattle.base.specs.Written.{fault_outcome, written}
use Rattle.base.specs.declared.Refusal.TheVariants.{BackLinkDiffers, ListBufferShort, LinkUnaligned}
use Rattle.varint.specs.Reader.{Read, got}
use Rattle.varint.specs.Reader as read
use Rattle.entry.specs.Pages.{frame}
use Rattle.entry.specs.Addresses.{reachable, reachable_in}
use Rattle.entry.specs.Entry.{level_of, leaf_of, leaf_in, upper_of}
use Rattle.words.specs.Words.{little_at}
use Rattle.sheet.specs.Sheet.{Sheet, space_at}
use Rattle.walk.specs.Walk.{World, world_of, frame_in, settle_of, descend_of, resolve_of}
use Rattle.case.specs.Case.{Case, check_of, by_check, served, in_four_levels}
use Rattle.process_list.specs.List.{link_of, next_node, nodes_after, nodes_of}
use Rattle.process_list.specs.Call.{nodes_outcome, list_of}
use Rattle.process_list.specs.Exact.{Follows}
use Rattle.process_list.proofs.Closing.{exact_list}

word : ℕ → List ℕ
word x = x % 256 ∷ x / 256 ∷ replicate 6 0

-- a page that is its own table at every level, with the links of 0x100 and of 0x110
linked : ℕ → ℕ → ℕ → ℕ → World
linked forward back forward' back' =
    world_of
    (record { space = space_at 0; runs = record { first = frame 0; pages = 1 } ∷ [] })
    ((1 ∷ replicate 255 0) ++ ((word forward ++ word back) ++ ((word forward' ++ word back') ++ replicate 3808 0)))
    []

-- ---- P11

-- a case, a head and a lent buffer
record Asked : Type 0 where
  case : Case
  head : ℕ
  buffer : List ℕ

-- the case of four levels is accepted, and the head, a multiple of 8, links to itself both ways
LinksToItself : Asked → Type 0
LinksToItself x = in_four_levels x.case (λ r. ⊥) (λ w. Follows w x.head x.head)

-- zero nodes, and the buffer stays
pub p11 : List Example
p11 =
    every LinksToItself (λ x. list_of x.case x.head x.buffer) (λ x. record { answer = record { number = 0; length = 0 }; buffer = x.buffer })
    ∷ same (nodes_of (linked 0x100 0x100 0 0) 0 0x100) (Ok [])
    ∷ []

pub p11_holds : Hold p11
unfolding p11 LinksToItself list_of linked word level_of leaf_of leaf_in upper_of frame_in settle_of resolve_of reachable reachable_in descend_of little_at link_of next_node nodes_after nodes_of
p11_holds = (λ x f. go x (served (check_of x.case)) f, (refl, tt))
  where
    go : (x : Asked) (d : Read Sheet) → by_check x.case (λ f. ⊥) (λ w. Follows w x.head x.head) d
        → by_check x.case (fault_outcome x.buffer) (λ w. nodes_outcome x.buffer (nodes_of w (length x.buffer) x.head)) d ≡ written x.buffer []
    go x (got s at) f =
        let w = world_of s x.case.image x.case.pagefile in
        (exact_list w x.head x.buffer).complete [] (record { head = f.aligned; closes = f; most = omega arith }) (omega arith)
    go x (read.refused r) f = absurd f

-- ---- other lists

pub lists : List Example
lists =
    -- the head's own back word is compared
    same (nodes_of (linked 0x100 0x110 0 0) 0 0x100) (Err BackLinkDiffers)
    -- a node, with room for it and without
    ∷ same (nodes_of (linked 0x110 0x110 0x100 0x100) 1 0x100) (Ok (0x110 ∷ []))
    ∷ same (nodes_of (linked 0x110 0x110 0x100 0x100) 0 0x100) (Err ListBufferShort)
    -- back at the head, whose back word is not the node
    ∷ same (nodes_of (linked 0x110 0x100 0x100 0x100) 1 0x100) (Err BackLinkDiffers)
    -- a node whose back word is not the head comes before the room
    ∷ same (nodes_of (linked 0x110 0x110 0x100 0x110) 0 0x100) (Err BackLinkDiffers)
    ∷ same (nodes_of (linked 0x114 0x110 0x100 0x100) 1 0x100) (Err LinkUnaligned)
    ∷ []

pub lists_hold : Hold lists
unfolding lists linked word level_of leaf_of leaf_in upper_of frame_in settle_of resolve_of reachable reachable_in descend_of little_at link_of next_node nodes_after nodes_of
lists_hold = (refl, (refl, (refl, (refl, (refl, (refl, tt))))))
