-- 02 orders 4 and 7: the sheet of an address space, and of runs that are given as starts and lengths in pages.
use Rattle.std.specs.Prelude.{ℕ, ◌+◌, ◌-◌, ◌^◌, Bool, true, ◌&&◌, List, [], ◌∷◌, ◌++◌, ltb, leb, eqb, length, if◌then◌else◌}
use Rattle.std.specs.List.{list_all}
use Rattle.base.specs.Notation.{within}
use Rattle.varint.specs.Groups.{encode}
use Rattle.entry.specs.Pages.{frame}
use Rattle.entry.specs.declared.PagingMode.{PagingMode}
use Rattle.entry.specs.declared.PagingMode.TheVariants.{FourLevel, Plain, Pae}
use Rattle.sheet.specs.Sheet.{is_place, end_of, Sheet}
use Rattle.sheet.specs.declared.Header.{Header}
use Rattle.sheet.specs.declared.Run.{Run}

-- every number is below 2^36
abbrev pub all_below : List ℕ → Bool
all_below ns = list_all (λ n. ltb n (2 ^ 36)) ns

-- a paging mode's number, and a place that the directory can have in it
abbrev pub is_mode : ℕ → ℕ → Bool
is_mode mode place = leb mode 2 && is_place mode place

-- else 12: the paging mode, the numbers, starts and lengths as many as each other, 1 to 1,000 of them as given
unfoldable pub in_limits : ℕ → ℕ → ℕ → List ℕ → List ℕ → Bool
in_limits directory mode place starts lengths =
    is_mode mode place
    && (all_below (directory ∷ starts)
    && (all_below lengths
    && (eqb (length starts) (length lengths)
    && within 1 1000 (length starts))))

-- the runs as given
abbrev pub runs_of : List ℕ → List ℕ → List Run
runs_of [] ls = []
runs_of (s ∷ ss) [] = []
runs_of (s ∷ ss) (l ∷ ls) = record { first = frame s; pages = l } ∷ runs_of ss ls

-- the starts and the lengths of runs
abbrev pub starts_of : List Run → List ℕ
starts_of [] = []
starts_of (r ∷ rs) = r.first.0 ∷ starts_of rs

abbrev pub lengths_of : List Run → List ℕ
lengths_of [] = []
lengths_of (r ∷ rs) = r.pages ∷ lengths_of rs

-- a run that has a page, starts at or after `end`, the end of the run given just before it, and ends at or below page 2^36
abbrev pub follows : ℕ → Run → Bool
follows end r = ltb 0 r.pages && (leb end r.first.0 && leb (end_of r) (2 ^ 36))

abbrev pub in_order : ℕ → List Run → Bool
in_order end [] = true
in_order end (r ∷ rs) = follows end r && in_order (end_of r) rs

-- does a run start at the end of the last one?
abbrev pub touches : Run → Run → Bool
touches last r = eqb (end_of last) r.first.0

-- two runs that touch, as one
abbrev pub as_one : Run → Run → Run
as_one r q = record { first = r.first; pages = r.pages + q.pages }

-- a run put before joined runs
unfoldable pub joined_before : Run → List Run → List Run
joined_before r [] = r ∷ []
joined_before r (q ∷ qs) = if touches r q then as_one r q ∷ qs else r ∷ q ∷ qs

-- runs that touch are joined
abbrev pub joined_runs : List Run → List Run
joined_runs [] = []
joined_runs (r ∷ rs) = joined_before r (joined_runs rs)

-- a run of 2^36 pages has no written length
abbrev pub writable : List Run → Bool
writable rs = all_below (lengths_of rs)

-- else 13
abbrev pub sound_runs : List Run → Bool
sound_runs rs = in_order 0 rs && writable (joined_runs rs)

abbrev pub edition_of : PagingMode → ℕ
edition_of FourLevel = 1
edition_of Plain = 2
edition_of (Pae place) = 2

-- edition 2's mode and place
abbrev pub mode_bytes : PagingMode → List ℕ
mode_bytes FourLevel = []
mode_bytes Plain = encode 1 ++ encode 0
mode_bytes (Pae place) = encode 2 ++ encode place

-- edition, directory page, paging mode, run count
unfoldable pub header_bytes : Header → List ℕ
header_bytes h = encode (edition_of h.space.mode) ++ (encode h.space.directory.0 ++ (mode_bytes h.space.mode ++ encode h.count))

-- gap from the end of the run before, length
unfoldable pub run_bytes : ℕ → Run → List ℕ
run_bytes end r = encode (r.first.0 - end) ++ encode r.pages

abbrev pub runs_bytes : ℕ → List Run → List ℕ
runs_bytes end [] = []
runs_bytes end (r ∷ rs) = run_bytes end r ++ runs_bytes (end_of r) rs

unfoldable pub sheet_bytes : Sheet → List ℕ
sheet_bytes s = header_bytes (record { space = s.space; count = length s.runs }) ++ runs_bytes 0 s.runs
