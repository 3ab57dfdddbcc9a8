-- 70 by the length, 71 by the counting pass; the writing pass lays what the definition lists.
use mathlib.Core.Path.{sym, ◌∙◌}
use native.Mathlib.Omega.{arith}
use Rattle.pool.proofs.Meaning.{part_page, short_buffer, headers_answered}
use Rattle.pool.proofs.list_headers.Goals as goal

pub returns-then-image-ne0 : goal.returns-then-image-ne0
returns-then-image-ne0 c = part_page _ _ (λ z. c.if-image-ne0.true (omega (arith, z)))

pub returns-then-not-headers_fit : goal.returns-then-not-headers_fit
returns-then-not-headers_fit c = short_buffer _ _ c.if-image-ne0.false (sym c.headers_fit.ensures ∙ c.if-not-headers_fit.true)

pub returns : goal.returns
returns c = headers_answered _ _ c.if-image-ne0.false (sym c.headers_fit.ensures ∙ c.if-not-headers_fit.false) _ _ c.write_headers.ensures
