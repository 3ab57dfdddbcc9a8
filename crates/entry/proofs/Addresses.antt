-- Canonical addresses of 64 bits: what lies above bit 46 decides.
use mathlib.Core.Path.{◌≡◌, refl}
use mathlib.Core.Bool.{false}
use Prim.Native.Nat.{ℕ, ◌^◌, ◌<◌, ◌≤◌}
use native.Mathlib.Omega.{arith}
use borrow.Author.Tests.{lt-ltb, le-ltb}
use Rattle.entry.specs.Addresses.{canonical, reachable, reachable_in}
use Rattle.entry.specs.declared.PagingMode.{PagingMode}
use Rattle.entry.specs.declared.PagingMode.TheVariants.{FourLevel, Plain, Pae}

-- an address of 64 bits is reachable exactly if it is canonical
pub reaches : (a : ℕ) → a < 2 ^ 64 → reachable a ≡ canonical a
unfolding reachable
reaches a h = rw (lt-ltb a (2 ^ 64) h)

-- past the top no mode has an address
pub past_top : (m : PagingMode) (a : ℕ) → 2 ^ 64 ≤ a → reachable_in m a ≡ false
unfolding reachable_in reachable
past_top FourLevel a h = rw (le-ltb a (2 ^ 64) h)
past_top Plain a h = le-ltb a (2 ^ 32) (omega arith)
past_top (Pae place) a h = le-ltb a (2 ^ 32) (omega arith)

-- nor has any mode P4's
pub p4_unreachable : (m : PagingMode) → reachable_in m 0x0000800000000000 ≡ false
unfolding reachable_in reachable
p4_unreachable FourLevel = refl
p4_unreachable Plain = refl
p4_unreachable (Pae place) = refl
