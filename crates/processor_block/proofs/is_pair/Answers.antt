-- A sum that differs, wrapped or not, is not the word after.
use borrow.Author.Tests.{eqb-false}
use Rattle.std.proofs.Common.{arith}
use Rattle.processor_block.proofs.Fitting.{not_pair, one_word}
use Rattle.processor_block.proofs.is_pair.Goals as goal

pub returns : goal.returns
returns c says = one_word (not_pair _ _ _ _ c.word_at-own.ensures c.word_at-prcb.ensures (omega arith) (eqb-false _ _ says))
