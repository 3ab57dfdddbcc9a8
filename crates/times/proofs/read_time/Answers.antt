-- The read call's number, or the word of the bytes that it laid over the field.
use mathlib.Core.Path.{refl, sym, ◌∙◌}
use native.Mathlib.Omega.{arith}
use Rattle.case.specs.Case.{case_of}
use Rattle.times.proofs.Field.{refused_field, read_field_lem, told_read}
use Rattle.times.proofs.read_time.Goals as goal

pub returns-then-read-ne0 : goal.returns-then-read-ne0
returns-then-read-ne0 c =
    let args = c.args in
    let the_case = case_of args.sheet.now args.image.now args.pagefile.now in
    refused_field the_case _ _ _ _ refl c.read_bytes-read.ensures (λ z. omega (arith, z)) _ c.refuse.ensures

pub returns-in-Ok : goal.returns-in-Ok
returns-in-Ok c =
    let args = c.args in
    let the_case = case_of args.sheet.now args.image.now args.pagefile.now in
    read_field_lem the_case _ _ _ _ refl c.read_bytes-read.ensures (omega arith) _ (told_read _ _ (sym c.in-Ok.is ∙ rw (← c.word_at.ensures) c.judge.ensures))

pub returns-in-Err : goal.returns-in-Err
returns-in-Err c =
    let args = c.args in
    let the_case = case_of args.sheet.now args.image.now args.pagefile.now in
    read_field_lem the_case _ _ _ _ refl c.read_bytes-read.ensures (omega arith) _ (c.into.ensures ∙ told_read _ _ (sym c.in-Err.is ∙ rw (← c.word_at.ensures) c.judge.ensures))
