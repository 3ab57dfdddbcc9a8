-- Down the tables step by step, as a loop goes: the entries read so far, and the descent from where it stands, are the whole descent.
use Rattle.std.specs.Prelude.{Option, Some, None}
use mathlib.Core.Path.{◌≡◌, refl, sym, ap, ◌∙◌}
use mathlib.Core.List.{List}
use Prim.Native.Nat.{ℕ, suc, ◌+◌, ◌-◌, ◌≤◌, ◌<◌}
use native.Mathlib.Omega.{arith}
use lib.ListN.{length}
use Rattle.entry.specs.Entry.{levels_below, level_of, top_offset, upper_of, leaf_in}
use Rattle.entry.proofs.Levels.{level_fits}
use Rattle.entry.specs.declared.PagingMode.{PagingMode}
use Rattle.entry.specs.declared.Frame.{Frame}
use Rattle.entry.specs.declared.Level.{Level}
use Rattle.entry.specs.declared.Upper.TheVariants.{Table}
use Rattle.entry.specs.declared.Leaf.{Leaf}
use Rattle.words.specs.Words.{little_at}
use Rattle.frames.specs.Rows.{rows_page}
use Rattle.walk.specs.Walk.{Trail, halt, entry_offset, upper_step, descend_of}
use Rattle.walk.specs.Rows.{TableInside, FitsAt, entry_read, descent_of, no_table}
use Rattle.walk.specs.declared.Descent.{Descent}
use Rattle.walk.proofs.Descending.{TopFits, plus, table_absent, table_last, table_upper, rows_inside}

pub record EntryAt (image : List ℕ) (l : Level) (o a : ℕ) (x : Option ℕ) (value : ℕ) : Type 0 where
  pub page : ℕ
  pub found : x ≡ Some page
  pub read : value ≡ little_at l.bytes image (entry_offset l page o a)

-- what was read of a table: no entry where it is in no run, else the entry
pub no_entry : (image : List ℕ) (l : Level) (o a : ℕ) (x v : Option ℕ) → v ≡ entry_read image l o a x → v ≡ None → x ≡ None
no_entry image l o a None v e f = refl
no_entry image l o a (Some p) v e f = absurd (let z : ◌≡◌ {A = ℕ} 0 1 = cc in omega arith)

pub an_entry : (image : List ℕ) (l : Level) (o a : ℕ) (x v : Option ℕ) (value : ℕ) → v ≡ entry_read image l o a x → v ≡ Some value → EntryAt image l o a x value
an_entry image l o a None v value e f = absurd (let z : ◌≡◌ {A = ℕ} 0 1 = cc in omega arith)
an_entry image l o a (Some p) v value e f = record { page = p; found = refl; read = cc }

-- the descent of a mode from the top table, and where the loop stands
pub record Going (m : PagingMode) (rows image : List ℕ) (top : Option ℕ) (a : ℕ) (o : ℕ) (table : Option ℕ) (below entries : ℕ) : Type 0 where
  pub levels : entries + below ≡ levels_below m
  pub fits : FitsAt o (level_of m below)
  pub inside : TableInside image table
  pub same : descent_of (descend_of m (levels_below m) (rows_page rows (length image)) image (top_offset m) top a) ≡ plus entries (descent_of (descend_of m below (rows_page rows (length image)) image o table a))

pub starts : (m : PagingMode) (rows image : List ℕ) (top : Option ℕ) (a : ℕ) → TableInside image top → TopFits m → Going m rows image top a (top_offset m) top (levels_below m) 0
starts m rows image top a h f = record {
  levels = omega arith;
  fits = f;
  inside = h;
  same = ap (λ (k : ℕ). record { leaf = all.leaf; entries = k }) (omega arith);
}
  where
    all : Trail
    all = descend_of m (levels_below m) (rows_page rows (length image)) image (top_offset m) top a

plus_plus : (n : ℕ) (x : Descent) → plus n (plus 1 x) ≡ plus (n + 1) x
plus_plus n x = ap (λ (k : ℕ). record { leaf = x.leaf; entries = k }) (omega arith)

module _ {m : PagingMode} {rows image : List ℕ} {top : Option ℕ} {a o : ℕ} {table : Option ℕ} {below entries : ℕ} (q : Going m rows image top a o table below entries) where
  abbrev page : Frame → Option ℕ
  page = rows_page rows (length image)

  abbrev whole : Descent
  whole = descent_of (descend_of m (levels_below m) page image (top_offset m) top a)

  abbrev Answers : Descent → Type 0
  Answers r = r ≡ whole

  pub stopped : table ≡ None → Answers (no_table entries)
  stopped e = sym (q.same ∙ ap (plus entries) (table_absent m page image o table a below e) ∙ ap (λ (k : ℕ). no_table k) (omega arith))

  module _ (h : 0 < below) (e : ℕ) (r : EntryAt image (level_of m below) o a table e) where
    -- what follows an entry of the table
    abbrev next : Frame → Trail
    next f = descend_of m (below - 1) page image 0 (page f) a

    stepped : whole ≡ plus (entries + 1) (descent_of (upper_step next (upper_of (level_of m below) e)))
    stepped =
        let one : below ≡ suc (below - 1) = omega arith in
        q.same
        ∙ ap (plus entries) (table_upper m page image o table a below (below - 1) r.page e one r.found (sym r.read))
        ∙ plus_plus entries (descent_of (upper_step next (upper_of (level_of m below) e)))

    -- an entry that ends the descent
    pub ended : (l : Leaf) → ((next : Frame → Trail) → upper_step next (upper_of (level_of m below) e) ≡ halt l) → Answers (record { leaf = l; entries = entries + 1 })
    ended l u = sym (stepped ∙ rw (u next) (ap (λ (k : ℕ). record { leaf = l; entries = k }) (omega arith)))

    pub again : (f : Frame) (x : Option ℕ) → upper_of (level_of m below) e ≡ Table f → x ≡ page f → Going m rows image top a 0 x (below - 1) (entries + 1)
    again f x u g = record {
      levels = omega (arith, q.levels);
      fits = omega (arith, (level_fits m (below - 1)).1);
      inside = rows_inside rows image f x g;
      same = stepped ∙ rw (u, g);
    }

  pub last : below ≤ 0 → (e : ℕ) → EntryAt image (level_of m 0) o a table e → Answers (record { leaf = leaf_in m e; entries = entries + 1 })
  last h e r =
      let z : below ≡ 0 = omega arith in
      sym (q.same
      ∙ ap (λ (n : ℕ). plus entries (descent_of (descend_of m n page image o table a))) z
      ∙ ap (plus entries) (table_last m page image o table a 0 r.page e (omega arith) r.found (sym r.read)))
