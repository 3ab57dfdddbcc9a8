-- The world of an opened case.
use Rattle.walk.specs.Walk.{World}
use Rattle.walk.specs.Rows.{rows_world}
use Rattle.resolution.specs.declared.OpenCase.{OpenCase}

abbrev pub open_world : OpenCase → World
open_world c = rows_world c.rows.now c.space c.image.now c.pagefile.now
