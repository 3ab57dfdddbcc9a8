-- Three numbers written one after another.
use Rattle.map_format.proofs.Returns.{wrote_header}
use Rattle.map_format.proofs.write_header.Goals as goal

pub returns : goal.returns
returns c =
    let start = rw c.number.ensures at c.write_number-at-2.ensures in
    wrote_header c.args.header c.write_number-at.ensures start c.write_number.ensures
