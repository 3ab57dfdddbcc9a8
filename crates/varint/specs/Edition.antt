-- 01 "Case sheet", "Maps": a sheet and a map open with edition 1 and two fields.
use Rattle.std.specs.Prelude.{ℕ, eqb}
use Rattle.base.specs.declared.Refusal.TheVariants.{OutOfLimits}
use Rattle.varint.specs.Reader.{Reader, ◌>>=◌, ◌>>◌, return, need}
use Rattle.varint.specs.Groups.{number}

-- another edition is 12 before the next field is read
unfoldable pub edition : Reader ℕ
edition = do
  n ← number
  need (eqb n 1) OutOfLimits
  return n

-- the two fields after the edition
pub record EditionFields : Type 0 where
  pub first : ℕ
  pub second : ℕ

unfoldable pub edition_fields : Reader EditionFields
edition_fields = do
  n ← edition
  first ← number
  second ← number
  return (record { first = first; second = second })
