-- Each return cites the law for how far the groups go.
use mathlib.Core.Path.{refl}
use native.Mathlib.Omega.{arith}
use lib.ListN.{length-drop}
use Rattle.varint.proofs.Short.{no_group, one_group, no_second, second_zero, two_groups, no_third, third_zero, three_groups, more_groups}
use Rattle.varint.proofs.read_short.Goals as goal

pub returns-then-s-at : goal.returns-then-s-at
returns-then-s-at c = no_group _ _ _ refl c.type_inv.s (rw length-drop (omega (arith, c.if-s-at.true)))

pub returns-in-len1-up : goal.returns-in-len1-up
returns-in-len1-up c =
    rw c.from.ensures
    (one_group _ _ _ c.rest.ensures c.type_inv.s c.in-len1-up.len_at_least _ refl c.if-first-lt128.true)

pub returns-in-len2-up : goal.returns-in-len2-up
returns-in-len2-up c =
    second_zero _ _ _ c.rest.ensures c.type_inv.s c.in-len1-up.len_at_least _ refl c.if-first-lt128.false
    c.in-len2-up.len_at_least _ refl c.if-second-eq0.true

pub returns-in-len2-up-2 : goal.returns-in-len2-up-2
returns-in-len2-up-2 c =
    rw (c.low.ensures, c.from-in-len2-up-2.ensures)
    (two_groups _ _ _ c.rest.ensures c.type_inv.s c.in-len1-up.len_at_least _ refl c.if-first-lt128.false
    c.in-len2-up.len_at_least _ refl c.if-second-lt128.true c.if-second-eq0.false)

pub returns-in-len3-up : goal.returns-in-len3-up
returns-in-len3-up c =
    third_zero _ _ _ c.rest.ensures c.type_inv.s c.in-len1-up.len_at_least _ refl c.if-first-lt128.false
    c.in-len2-up.len_at_least _ refl c.if-second-lt128.false c.in-len3-up.len_at_least _ refl c.if-third-eq0.true

pub returns-in-len3-up-2 : goal.returns-in-len3-up-2
returns-in-len3-up-2 c =
    rw (c.low-in-len3-up-2.ensures, c.low-in-len3-up-2-2.ensures, c.from-in-len3-up-2.ensures)
    (three_groups _ _ _ c.rest.ensures c.type_inv.s c.in-len1-up.len_at_least _ refl c.if-first-lt128.false
    c.in-len2-up.len_at_least _ refl c.if-second-lt128.false
    c.in-len3-up.len_at_least _ refl c.if-third-lt128.true c.if-third-eq0.false)

pub returns-in_default : goal.returns-in_default
returns-in_default c = no_group _ _ _ c.rest.ensures c.type_inv.s c.in_default.len_below

pub returns-in_default-2 : goal.returns-in_default-2
returns-in_default-2 c =
    no_second _ _ _ c.rest.ensures c.type_inv.s c.in-len1-up.len_at_least _ refl c.if-first-lt128.false c.in_default.len_below

pub returns-in_default-4 : goal.returns-in_default-4
returns-in_default-4 c =
    no_third _ _ _ c.rest.ensures c.type_inv.s c.in-len1-up.len_at_least _ refl c.if-first-lt128.false
    c.in-len2-up.len_at_least _ refl c.if-second-lt128.false c.in_default.len_below

pub returns-in_default-5 : goal.returns-in_default-5
returns-in_default-5 c =
    more_groups _ _ _ c.rest.ensures c.type_inv.s c.in-len1-up.len_at_least _ refl c.if-first-lt128.false
    c.in-len2-up.len_at_least _ refl c.if-second-lt128.false c.in-len3-up.len_at_least _ refl c.if-third-lt128.false
