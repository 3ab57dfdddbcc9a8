-- 01 "Processor block and process list": the process list.
use Rattle.std.specs.Prelude.{ℕ, zero, suc, ◌+◌, ◌-◌, ◌%◌, List, [], ◌∷◌, Result, Ok, Err, eqb, if◌then◌else◌}
use Rattle.base.specs.declared.Refusal.{Refusal}
use Rattle.base.specs.declared.Refusal.TheVariants.{LinkUnaligned, BackLinkDiffers, TooManyProcesses, ListBufferShort}
use Rattle.words.specs.Words.{word_at}
use Rattle.walk.specs.Walk.{World, resolve_of}
use Rattle.walk.specs.declared.Place.{Place}
use Rattle.walk.specs.declared.Place.TheVariants.{Image, Pagefile, Zeros, Refused}

-- ---- links

-- the word at a place, 0 in a page of zeros; a refusal is passed up
abbrev pub link_at : List ℕ → List ℕ → Place → Result ℕ Refusal
link_at image pagefile (Image o) = Ok (word_at image o)
link_at image pagefile (Pagefile o) = Ok (word_at pagefile o)
link_at image pagefile Zeros = Ok 0
link_at image pagefile (Refused r) = Err r

-- the word at an address
unfoldable pub link_of : World → ℕ → Result ℕ Refusal
link_of w a = link_at w.image w.pagefile (resolve_of 3 w a).place

abbrev pub and_then : {A B : Type 0} → Result A Refusal → (A → Result B Refusal) → Result B Refusal
and_then (Ok x) next = next x
and_then (Err r) next = Err r

-- an address of the list is a multiple of 8 (50)
abbrev pub aligned : ℕ → Result ℕ Refusal
aligned x = if eqb (x % 8) 0 then Ok x else Err LinkUnaligned

-- the node after x: x's forward word, a multiple of 8, whose back word, 8 bytes on, is x (51)
unfoldable pub next_node : World → ℕ → Result ℕ Refusal
next_node w x =
    and_then (and_then (link_of w x) aligned) λ next.
    and_then (link_of w (next + 8)) λ back.
    if eqb back x then Ok next else Err BackLinkDiffers

-- ---- nodes

-- the nodes in order, or the first refusal met
abbrev pub Nodes : Type 0
Nodes = Result (List ℕ) Refusal

-- back at the head the list ends; another node is judged next
abbrev pub unless_head : ℕ → (ℕ → Nodes) → Result ℕ Refusal → Nodes
unless_head h judge l = and_then l (λ x. if eqb x h then Ok [] else judge x)

-- the nodes after x, of which n may still come (52), with room for `room` (53)
unfoldable pub nodes_after : ℕ → World → ℕ → ℕ → ℕ → Nodes
nodes_after zero w room h x = unless_head h (λ y. Err TooManyProcesses) (next_node w x)
nodes_after (suc n) w room h x = unless_head h (λ y. if eqb room 0 then Err ListBufferShort else and_then (nodes_after n w (room - 1) h y) (λ ys. Ok (y ∷ ys))) (next_node w x)

-- the list at a head, which must be a multiple of 8 too
unfoldable pub nodes_of : World → ℕ → ℕ → Nodes
nodes_of w room h = and_then (aligned h) λ x. nodes_after 4096 w room x x
