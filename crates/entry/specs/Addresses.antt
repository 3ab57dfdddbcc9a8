-- 01 "One address": which addresses are canonical; 02, order 7: which a 32-bit profile has.
use Rattle.std.specs.Prelude.{ℕ, ◌-◌, ◌^◌, Bool, ◌&&◌, ◌||◌, ltb, eqb}
use Rattle.base.specs.Notation.{bits}
use Rattle.entry.specs.declared.PagingMode.{PagingMode}
use Rattle.entry.specs.declared.PagingMode.TheVariants.{FourLevel, Plain, Pae}

-- bits 47 to 63 equal
abbrev pub canonical : ℕ → Bool
canonical a = eqb (bits a 47 63) 0 || eqb (bits a 47 63) (2 ^ 17 - 1)

-- an address of 64 bits that is canonical
unfoldable pub reachable : ℕ → Bool
reachable a = ltb a (2 ^ 64) && canonical a

-- an address of the address space: 20 for any other
unfoldable pub reachable_in : PagingMode → ℕ → Bool
reachable_in FourLevel a = reachable a
reachable_in Plain a = ltb a (2 ^ 32)
reachable_in (Pae place) a = ltb a (2 ^ 32)
