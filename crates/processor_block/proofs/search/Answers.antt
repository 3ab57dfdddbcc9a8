-- No word so far begins a block, so the first block from there on is the first of all.
use Rattle.std.proofs.Common.{sym, ◌∙◌, arith}
use Rattle.processor_block.proofs.Answers.{served_image, served_block, none_found}
use Rattle.processor_block.proofs.Searching.{search_begins, found_on, none_of_four, none_between, search_ends, at_word}
use Rattle.processor_block.proofs.search.Goals.{then-has_pair+in_default, else-has_pair}
use Rattle.processor_block.proofs.search.Goals as goal

pub invariant_of-pages : goal.invariant_of-pages
invariant_of-pages c = record { whole = served_image _ _ c.args.from _ c.four_levels_case.ensures _ c.in_ok-case.was c.requires }

pub loop-four-init : goal.loop-four-init
loop-four-init c = at_word _ (omega (arith, c.div_ceil-first.ensures)) (search_begins _ c.args.from)

pub returns-in-Some : goal.returns-in-Some
returns-in-Some c = found_on _ (at_word _ (omega arith) c.loop-four.invariant) (rw c.in-Some.is at c.block_of_four.ensures) ∙ served_block _ _ _ _ c.four_levels_case.ensures _ c.in_ok-case.was

pub loop-four-preserved : goal.loop-four-preserved
loop-four-preserved c =
    elim c.if-has_pair.branch [
      | then-has_pair+in_default w ↦ at_word _ (omega arith) (none_of_four _ (at_word _ (omega arith) c.loop-four.invariant) (rw w.in_default.is at w.block_of_four.ensures))
      | else-has_pair w ↦ at_word _ (omega arith) (none_between _ c.loop-four.invariant (c.has_pair.ensures w.if-has_pair.false))
    ]

pub returns : goal.returns
returns c =
    let image = served_image _ _ c.args.from _ c.four_levels_case.ensures _ c.in_ok-case.was c.requires in
    rw c.into.ensures (none_found ∙ search_ends _ image (omega arith) c.loop-four.invariant ∙ served_block _ _ _ _ c.four_levels_case.ensures _ c.in_ok-case.was)
