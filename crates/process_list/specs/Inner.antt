-- What the inner functions of the list call hand back.
use Rattle.std.specs.Prelude.{ℕ, ◌≡◌, List, Result, Ok, Err, length}
use Rattle.std.proofs.lemmas.List.Edits.{sets}
use Rattle.base.specs.Refusal.{unplaced}
use Rattle.base.specs.declared.Fault.{Fault}
use Rattle.base.specs.declared.Refusal.{Refusal}
use Rattle.base.specs.declared.Refusal.TheVariants.{ModeNotServed}
use Rattle.entry.specs.declared.PagingMode.{PagingMode}
use Rattle.entry.specs.declared.PagingMode.TheVariants.{FourLevel, Plain, Pae}
use Rattle.walk.specs.Walk.{World}
use Rattle.process_list.specs.declared.link.Link.{Link}
use Rattle.process_list.specs.List.{Nodes, nodes_of, and_then}

-- the address of a link
abbrev pub linked : Result Link Refusal → Result ℕ Refusal
linked l = and_then l (λ x. Ok x.address)

abbrev pub count_of : Nodes → Result ℕ Refusal
count_of ns = and_then ns (λ xs. Ok (length xs))

-- the nodes lie over the buffer's front, as far as it goes; a refusal only keeps its length
abbrev pub NodesLaid : List ℕ → Nodes → List ℕ → Type 0
NodesLaid old (Ok xs) new = new ≡ sets old 0 xs
NodesLaid old (Err r) new = length new ≡ length old

pub record Pass (ns : Nodes) (old : List ℕ) (r : Result ℕ Refusal) (new : List ℕ) : Type 0 where
  pub answer : r ≡ count_of ns
  pub buffer : NodesLaid old ns new

-- the count of the nodes, and the buffer; a refusal leaves it as it was lent
abbrev pub listed : List ℕ → Nodes → Result ℕ Fault × List ℕ
listed out (Ok xs) = (Ok (length xs), sets out 0 xs)
listed out (Err r) = (Err (unplaced r), out)

-- 37, then the nodes
abbrev pub list_into : PagingMode → World → ℕ → List ℕ → Result ℕ Fault × List ℕ
list_into FourLevel w h out = listed out (nodes_of w (length out) h)
list_into Plain w h out = (Err (unplaced ModeNotServed), out)
list_into (Pae place) w h out = (Err (unplaced ModeNotServed), out)
