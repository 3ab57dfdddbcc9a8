-- What the laws of the reader say of an extent that was read.
use Rattle.std.specs.Prelude.{◌≡◌, false, ◌^◌, ◌<◌}
use Rattle.map_format.specs.Extents.{has_file_page}
use Rattle.map_format.specs.declared.Extent.{Extent}

-- fields below 2^36, the first page 0 for codes that have none
pub record FieldsInLimits (e : Extent) : Type 0 where
  pub pages_limit : e.pages < 2 ^ 36
  pub first_limit : e.first < 2 ^ 36
  pub zero_without_file : has_file_page e.code ≡ false → e.first ≡ 0
