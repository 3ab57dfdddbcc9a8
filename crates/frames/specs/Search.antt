-- 02 order 2: the search of a frame in the rows by halving, and how many runs it looks at.
use Rattle.std.specs.Prelude.{ℕ, zero, suc, ◌+◌, ◌-◌, ◌*◌, ◌/◌, List, ltb, length, get_or, if◌then◌else◌, Option, Some, None}
use Rattle.entry.specs.declared.Frame.{Frame}
use Rattle.frames.specs.declared.Search.{Search}

-- row i, three numbers: the first frame of a run, the frame after its last, and how many frames below it are in no run
abbrev pub first_at : List ℕ → ℕ → ℕ
first_at rows i = get_or rows (3 * i) 0

abbrev pub end_at : List ℕ → ℕ → ℕ
end_at rows i = get_or rows (3 * i + 1) 0

abbrev pub skipped_at : List ℕ → ℕ → ℕ
skipped_at rows i = get_or rows (3 * i + 2) 0

-- page p, after n looks
abbrev pub searched : Option ℕ → ℕ → Search
searched p n = record { page = p; looks = n }

-- with n looks before it
abbrev pub after : ℕ → Search → Search
after n s = searched s.page (n + s.looks)

-- how many of n rows lie behind the one in the middle; n / 2 lie before it
abbrev pub behind : ℕ → ℕ
behind n = n - n / 2 - 1

-- with n rows in question, row `low` the first, and at most k looks: a look at the one in the middle leaves those before it or those behind it
unfoldable pub search_in : ℕ → List ℕ → ℕ → ℕ → Frame → Search
search_in zero rows low n f = searched None 0
search_in (suc k) rows low zero f = searched None 0
search_in (suc k) rows low (suc n) f =
    let middle = low + suc n / 2 in
    after 1 (
    if ltb f.0 (first_at rows middle) then search_in k rows low (suc n / 2) f else
    if ltb f.0 (end_at rows middle) then searched (Some (f.0 - skipped_at rows middle)) 0 else
    search_in k rows (middle + 1) (behind (suc n)) f)

-- in the n rows from row `low` on: n looks are enough
abbrev pub search_from : List ℕ → ℕ → ℕ → Frame → Search
search_from rows low n f = search_in n rows low n f

-- in all rows; numbers that make no whole row are in none
abbrev pub search_of : List ℕ → Frame → Search
search_of rows f = search_from rows 0 (length rows / 3) f

-- how often n can be halved, rounding down, until nothing is left: 0 for 0, else 1 more than for n / 2
unfoldable pub halvings_in : ℕ → ℕ → ℕ
halvings_in zero n = 0
halvings_in (suc k) zero = 0
halvings_in (suc k) (suc n) = suc (halvings_in k (suc n / 2))

abbrev pub halvings : ℕ → ℕ
halvings n = halvings_in n n
