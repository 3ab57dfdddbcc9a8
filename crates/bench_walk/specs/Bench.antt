-- What the benchmark's exports answer.
use Rattle.std.specs.Prelude.{ℕ, zero, suc, ◌+◌, ◌%◌, ◌^◌, List}
use Rattle.entry.specs.Pages.{frame}
use Rattle.sheet.specs.Sheet.{paging_mode}
use Rattle.sheet.specs.declared.AddressSpace.{AddressSpace}
use Rattle.walk.specs.Walk.{World, resolve_of}
use Rattle.walk.specs.Rows.{rows_world}
use Rattle.walk.specs.declared.Place.{Place}
use Rattle.walk.specs.declared.Place.TheVariants.{Image, Pagefile, Zeros, Refused}

-- this directory page and paging mode
abbrev pub bench_space : ℕ → ℕ → ℕ → AddressSpace
bench_space directory mode place = record { directory = frame directory; mode = paging_mode mode place }

-- the world of the lent rows, with this address space
abbrev pub bench_world : List ℕ → List ℕ → List ℕ → ℕ → ℕ → ℕ → World
bench_world rows image pagefile directory mode place = rows_world rows (bench_space directory mode place) image pagefile

-- an image offset, 0 elsewhere
abbrev pub image_offset : Place → ℕ
image_offset (Image o) = o
image_offset (Pagefile o) = 0
image_offset Zeros = 0
image_offset (Refused r) = 0

abbrev pub walked_offset : World → ℕ → ℕ
walked_offset w a = image_offset (resolve_of 3 w a).place

-- the sum over n pages from an address on; addresses wrap modulo 2^64
unfoldable pub walked_sum : ℕ → World → ℕ → ℕ
walked_sum zero w a = 0
walked_sum (suc n) w a = walked_offset w a + walked_sum n w ((a + 4096) % 2 ^ 64)
