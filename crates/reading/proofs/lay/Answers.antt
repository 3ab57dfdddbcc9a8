-- The part of the buffer that the bytes fall on takes as many of them as it has room for.
use mathlib.Core.Path.{refl}
use Prim.Native.Nat.{◌≤◌}
use native.Mathlib.Omega.{arith}
use lib.ListN.{length, drop, length-drop}
use Rattle.std.proofs.Math.Nat.{add-sub_cancel_left}
use Rattle.reading.proofs.Laying.{laid, zeros_laid}
use Rattle.reading.proofs.lay.Goals as goal

pub returns-in-Image : goal.returns-in-Image
returns-in-Image c =
    let args = c.args in
    let inside = rw c.in-Image.is at c.requires in
    let file = drop c.in-Image.o args.case.now.image.now in
    let long : args.m ≤ length file = rw length-drop (omega (arith, inside)) in
    rw (c.in-Image.is, c.copy.ensures, add-sub_cancel_left)
    (record { answer = refl; buffer = laid args.out.now args.at args.m c.min-start.result c.min-end.result (omega arith) (omega arith) file long })

pub returns-in-Pagefile : goal.returns-in-Pagefile
returns-in-Pagefile c =
    let args = c.args in
    let inside = rw c.in-Pagefile.is at c.requires in
    let file = drop c.in-Pagefile.o args.case.now.pagefile.now in
    let long : args.m ≤ length file = rw length-drop (omega (arith, inside)) in
    rw (c.in-Pagefile.is, c.copy-in-Pagefile.ensures, add-sub_cancel_left)
    (record { answer = refl; buffer = laid args.out.now args.at args.m c.min-start.result c.min-end.result (omega arith) (omega arith) file long })

pub returns-in-Zeros : goal.returns-in-Zeros
returns-in-Zeros c =
    let args = c.args in
    rw (c.in-Zeros.is, c.fill.ensures.after (λ y e. e))
    (record { answer = refl; buffer = zeros_laid args.out.now args.at args.m c.min-start.result c.min-end.result (omega arith) (omega arith) })
