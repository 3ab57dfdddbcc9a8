-- The page of an address, by the answer for it.
use Rattle.std.specs.Prelude.{◌*◌, ◌/◌, eqb, if◌then◌else◌}
use Rattle.case.specs.declared.Answer.{Answer}
use Rattle.address.specs.Page.{no_part}
use Rattle.address.specs.declared.Part.{Part}

-- the page that holds the offset, in the file that the number names
abbrev pub part_at : Answer → Part
part_at r =
    if eqb r.number 1 then record { file = 1; offset = r.offset / 4096 * 4096; length = 4096 } else
    if eqb r.number 2 then record { file = 2; offset = r.offset / 4096 * 4096; length = 4096 } else
    no_part
