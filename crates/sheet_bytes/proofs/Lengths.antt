-- How long the parts of a sheet are at most, and the whole: 12,011 bytes.
use mathlib.Core.Path.{◌≡◌, ap}
use mathlib.Core.List.{List, [], ◌∷◌}
use Prim.Native.Nat.{ℕ, ◌-◌, ◌*◌, ◌/◌, ◌<◌, ◌≤◌}
use native.Mathlib.Omega.{arith}
use lib.ListN.{length, length-append}
use Rattle.base.proofs.Test.{Test, test, below, above}
use Rattle.varint.specs.Groups.{encode}
use Rattle.varint.proofs.Forms.{enc_small}
use Rattle.varint.proofs.Writing.{encode_more, encode_length}
use Rattle.entry.specs.declared.PagingMode.{PagingMode}
use Rattle.entry.specs.declared.PagingMode.TheVariants.{FourLevel, Plain, Pae}
use Rattle.sheet.specs.Sheet.{end_of, Sheet}
use Rattle.sheet.specs.Inner.{PlaceInPage}
use Rattle.sheet.specs.declared.Header.{Header}
use Rattle.sheet.specs.declared.Run.{Run}
use Rattle.sheet_limits.specs.Write.{edition_of, mode_bytes, header_bytes, run_bytes, runs_bytes, sheet_bytes}

-- a number below 2^14 has two groups at most
encode_short : (n : ℕ) → n < 16384 → length (encode n) ≤ 2
unfolding encode
encode_short n h = go (test n 128)
  where
    go : Test n 128 → length (encode n) ≤ 2
    go (below l) = omega (arith, ap length (enc_small 5 n l))
    go (above l) = omega (arith, ap length (encode_more n l (omega arith)), ap length (enc_small 5 (n / 128) (omega arith)))

encode_one : (n : ℕ) → n < 128 → length (encode n) ≡ 1
unfolding encode
encode_one n h = ap length (enc_small 5 n h)

pub edition_most : (m : PagingMode) → edition_of m ≤ 2
edition_most FourLevel = omega arith
edition_most Plain = omega arith
edition_most (Pae place) = omega arith

edition_length : (m : PagingMode) → length (encode (edition_of m)) ≡ 1
edition_length m = encode_one (edition_of m) (omega (arith, edition_most m))

pub mode_length : (m : PagingMode) → PlaceInPage m → length (mode_bytes m) ≤ 2
mode_length FourLevel h = omega arith
mode_length Plain h = rw length-append (omega (arith, encode_one 1 (omega arith), encode_one 0 (omega arith)))
mode_length (Pae place) h = rw length-append (omega (arith, encode_one 2 (omega arith), encode_one place (omega (arith, h))))

pub header_length : (h : Header) → PlaceInPage h.space.mode → h.count ≤ 1000 → length (header_bytes h) ≤ 11
unfolding header_bytes
header_length h p c =
    let m = h.space.mode in
    rw (length-append, length-append, length-append)
    (omega (arith, edition_length m, encode_length h.space.directory.0, mode_length m p, encode_short h.count (omega arith)))

pub run_length : (end : ℕ) (r : Run) → length (run_bytes end r) ≤ 12
unfolding run_bytes
run_length end r = rw length-append (omega (arith, encode_length (r.first.0 - end), encode_length r.pages))

runs_length : (end : ℕ) (rs : List Run) → length (runs_bytes end rs) ≤ 12 * length rs
runs_length end [] = omega arith
runs_length end (r ∷ rs) = rw length-append (omega (arith, run_length end r, runs_length (end_of r) rs))

pub sheet_length : (s : Sheet) → PlaceInPage s.space.mode → length s.runs ≤ 1000 → length (sheet_bytes s) ≤ 12011
unfolding sheet_bytes
sheet_length s p h = rw length-append (omega (arith, header_length (record { space = s.space; count = length s.runs }) p h, runs_length 0 s.runs))
