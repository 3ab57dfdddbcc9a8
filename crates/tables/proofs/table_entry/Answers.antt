-- The entry lies in its table, the table in its page, the page in the image.
use Rattle.std.proofs.Common.{arith, ◌≡◌}
use Rattle.walk.specs.Rows.{Shaped}
use Rattle.walk.proofs.Indices.{level_shaped}
use Rattle.tables.proofs.table_entry.Goals as goal

pub place_in_table-requires : goal.place_in_table-requires
place_in_table-requires c = rw c.level_at-level.ensures (level_shaped _ _)

pub dword_at-requires : goal.dword_at-requires
dword_at-requires c =
    let shape : Shaped c.level_at-level.result = rw c.level_at-level.ensures (level_shaped _ _) in
    let four : c.level_at-level.result.bytes ≡ 4 = omega (arith, shape.width) in
    grind arith

pub returns-else-level-eq8 : goal.returns-else-level-eq8
returns-else-level-eq8 c =
    let shape : Shaped c.level_at-level.result = rw c.level_at-level.ensures (level_shaped _ _) in
    let four : c.level_at-level.result.bytes ≡ 4 = omega (arith, shape.width) in
    grind arith
