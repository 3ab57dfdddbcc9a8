-- What the crates above ask of the lists.
use Rattle.std.specs.Prelude.{ℕ, ◌≤◌, ◌≡◌, true, List, length}
use Rattle.sheet_limits.specs.Write.{all_below}

-- lists in their limits
pub record Given (starts lengths : List ℕ) : Type 0 where
  pub some : 1 ≤ length starts
  pub most : length starts ≤ 1000
  pub alike : length starts ≡ length lengths
  pub starts_below : all_below starts ≡ true
  pub lengths_below : all_below lengths ≡ true
