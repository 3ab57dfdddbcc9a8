-- What the list call hands back.
use Rattle.std.specs.Prelude.{Result, Ok, Err}
use Rattle.std.proofs.Common.{MutBor}
use mathlib.Core.Path.{◌≡◌, refl, sym, ap, ◌∙◌}
use mathlib.Core.List.{List, [], ◌∷◌, ◌++◌}
use Prim.Native.Nat.{ℕ}
use native.Mathlib.Omega.{arith}
use lib.ListN.{length}
use Rattle.base.specs.Refusal.{unplaced}
use Rattle.base.specs.Written.{fault_written}
use Rattle.base.specs.declared.Written.{Written}
use Rattle.base.specs.declared.Fault.{Fault}
use Rattle.base.specs.declared.Refusal.{Refusal}
use Rattle.base.specs.declared.Refusal.TheVariants.{ModeNotServed}
use Rattle.base.proofs.Overlay.{sets_none}
use Rattle.varint.specs.Reader.{Read, got, refused}
use Rattle.entry.specs.declared.PagingMode.{PagingMode}
use Rattle.entry.specs.declared.PagingMode.TheVariants.{FourLevel, Plain, Pae}
use Rattle.sheet.specs.Sheet.{Sheet}
use Rattle.sheet.proofs.AcceptedCase.{accepted_laws}
use Rattle.walk.specs.Walk.{World, world_of, resolve_of}
use Rattle.walk.specs.Rows.{placed_mode}
use Rattle.walk.proofs.Ground.{word_inside, resolve_at}
use Rattle.walk.proofs.CaseWorld.{sound_case}
use Rattle.resolution.specs.Open.{open_world}
use Rattle.resolution.specs.declared.OpenCase.{OpenCase}
use Rattle.case.specs.Case.{Case, check_of, by_check, served_in, served}
use Rattle.case.specs.Inner.{four_levels_case}
use Rattle.case.specs.Run.{Ran}
use Rattle.case.proofs.Opening.{case_grounded}
use Rattle.case.proofs.Running.{ran_in, nowhere}
use Rattle.process_list.specs.declared.link.Link.{Link}
use Rattle.process_list.specs.List.{Nodes, aligned, nodes_after, nodes_of}
use Rattle.process_list.specs.Call.{nodes_outcome, list_of, ListAnswer}
use Rattle.process_list.specs.Inner.{linked, count_of, NodesLaid, Pass, listed, list_into}
use Rattle.process_list.proofs.Closing.{exact_list}

-- the result and the buffer are those of a pair
abbrev pub Told : Result ℕ Fault → List ℕ → Result ℕ Fault × List ℕ → Type 0
Told r new told = (r, new) ≡ told

-- ---- the two passes

module _ (ns : Nodes) (old last : List ℕ) (r : Result ℕ Refusal) (p : Pass ns [] r last) where
  -- the first pass has no room to write in
  nothing : last ≡ []
  nothing = go ns p.buffer
    where
      empty : (l : List ℕ) → length l ≡ 0 → l ≡ []
      empty [] e = refl
      empty (x ∷ l) e = absurd (omega (arith, e))

      go : (ns : Nodes) → NodesLaid [] ns last → last ≡ []
      go (Ok xs) l = l ∙ sets_none 0 xs
      go (Err x) l = empty last l

  pub refused_list : (x : Refusal) → r ≡ Err x → Told (Err (unplaced x)) (last ++ old) (listed old ns)
  refused_list x e = rw nothing (go ns (sym p.answer ∙ e))
    where
      go : (ns : Nodes) → count_of ns ≡ Err x → Told (Err (unplaced x)) old (listed old ns)
      go (Ok xs) f = cc
      go (Err y) f =
          let same : y ≡ x = cc in
          rw same

  pub whole_list : (again : Result ℕ Refusal) (new : List ℕ) → Pass ns (last ++ old) again new → (m : ℕ) → again ≡ Ok m → Told (Ok m) new (listed old ns)
  whole_list again new q m f = go ns (sym q.answer ∙ f) (rw nothing at q.buffer)
    where
      go : (ns : Nodes) → count_of ns ≡ Ok m → NodesLaid old ns new → Told (Ok m) new (listed old ns)
      go (Err y) f l = cc
      go (Ok xs) f l =
          let same : length xs ≡ m = cc in
          rw (l, same)

-- ---- the mode and the head

module _ (m : PagingMode) (o : OpenCase) (h : ℕ) (old : List ℕ) (d : Result OpenCase Refusal) (e : d ≡ four_levels_case m o) where
  module _ (k : OpenCase) (f : d ≡ Ok k) where
    pub served_mode : m ≡ o.space.mode → k.space.mode ≡ FourLevel
    served_mode z = go m (sym e ∙ f) z
      where
        go : (m : PagingMode) → four_levels_case m o ≡ Ok k → m ≡ o.space.mode → k.space.mode ≡ FourLevel
        go FourLevel g z =
            let same : k ≡ o = cc in
            rw same (sym z)
        go Plain g z = cc
        go (Pae place) g z = cc

    pub served_list : listed old (nodes_of (open_world k) (length old) h) ≡ list_into m (open_world o) h old
    served_list = go m (sym e ∙ f)
      where
        go : (m : PagingMode) → four_levels_case m o ≡ Ok k → listed old (nodes_of (open_world k) (length old) h) ≡ list_into m (open_world o) h old
        go FourLevel g =
            let same : o ≡ k = cc in
            rw same
        go Plain g = cc
        go (Pae place) g = cc

    module _ (l : Result Link Refusal) (g : linked l ≡ aligned h) where
      nodes_at : (x : Link) → l ≡ Ok x → nodes_after 4096 (open_world k) (length old) x.address x.address ≡ nodes_of (open_world k) (length old) h
      unfolding nodes_of
      nodes_at x i = rw (← g, i)

      no_nodes : (x : Refusal) → l ≡ Err x → Err x ≡ nodes_of (open_world k) (length old) h
      unfolding nodes_of
      no_nodes x i = rw (← g, i)

      pub unaligned_head : (x : Refusal) → l ≡ Err x → Told (Err (unplaced x)) old (list_into m (open_world o) h old)
      unaligned_head x i = ap (listed old) (no_nodes x i) ∙ served_list

      pub aligned_head : (x : Link) → l ≡ Ok x → listed old (nodes_after 4096 (open_world k) (length old) x.address x.address) ≡ list_into m (open_world o) h old
      aligned_head x i = ap (listed old) (nodes_at x i) ∙ served_list

-- ---- the call

-- 0 and the count, or what is at fault
abbrev pub as_written : Result ℕ Fault → Written
as_written (Ok n) = record { number = 0; length = n }
as_written (Err f) = fault_written f

placed_list : (m : PagingMode) (w : World) (h : ℕ) (old : List ℕ) → list_into m w h old ≡ list_into (placed_mode m) w h old
placed_list FourLevel w h old = refl
placed_list Plain w h old = refl
placed_list (Pae place) w h old = refl

module _ (c : Case) (h : ℕ) (old : List ℕ) (post : OpenCase → MutBor (List ℕ) → Result ℕ Fault → MutBor (List ℕ) → Type 0) (r : Result ℕ Fault) (new : List ℕ) where
  pub list_answer : Ran c old post r new
      → ((o : OpenCase) (lent left : MutBor (List ℕ)) (x : Result ℕ Fault) → post o lent x left → (x, left.now) ≡ list_into o.space.mode (open_world o) h lent.now) → ListAnswer c h old (as_written r) new
  unfolding list_of
  list_answer ran each =
      go (check_of c) refl (ran_in c old post r new ran (λ w old r new. (r, new) ≡ list_into w.space.mode w h old) (λ o lent left x p. each o lent left x p ∙ placed_list o.space.mode (open_world o) h lent.now))
    where
      first : {p : Result ℕ Fault × List ℕ} → (r, new) ≡ p → r ≡ p.0
      first e = ap (λ (q : Result ℕ Fault × List ℕ). q.0) e

      last : {p : Result ℕ Fault × List ℕ} → (r, new) ≡ p → new ≡ p.1
      last e = ap (λ (q : Result ℕ Fault × List ℕ). q.1) e

      in_world : (ns : Nodes) → (r, new) ≡ listed old ns → record { answer = as_written r; buffer = new } ≡ nodes_outcome old ns
      in_world (Ok xs) e = rw (first e, last e)
      in_world (Err x) e = rw (first e, last e, nowhere x)

      by_mode : (s : Sheet) (at : ℕ) → check_of c ≡ got s at → (m : PagingMode) → s.space.mode ≡ m → (r, new) ≡ list_into m (world_of s c.image c.pagefile) h old → ListAnswer c h old (as_written r) new
      by_mode s at e FourLevel f k =
          let world = world_of s c.image c.pagefile in
          let check : served (check_of c) ≡ got s at = rw e (ap (λ (m : PagingMode). served_in m (got s at)) f) in
          let same = in_world (nodes_of world (length old) h) k in
          let sound = sound_case s c.image c.pagefile (accepted_laws c.sheet (length c.image) (length c.pagefile) s at e) in
          record {
            same = rw check same;
            exact = rw (check, same) (exact_list world h old);
            found = rw check (λ a z. word_inside world a (resolve_of 3 world a).place z (resolve_at world sound 3 a));
            grounded = case_grounded c;
          }
      by_mode s at e Plain f k =
          let check : served (check_of c) ≡ refused (unplaced ModeNotServed) = rw e (ap (λ (m : PagingMode). served_in m (got s at)) f) in
          record { same = rw (check, first k, last k); exact = rw check tt; found = rw check tt; grounded = case_grounded c }
      by_mode s at e (Pae place) f k =
          let check : served (check_of c) ≡ refused (unplaced ModeNotServed) = rw e (ap (λ (m : PagingMode). served_in m (got s at)) f) in
          record { same = rw (check, first k, last k); exact = rw check tt; found = rw check tt; grounded = case_grounded c }

      go : (d : Read Sheet) → check_of c ≡ d → by_check c (λ f. (r ≡ Err f) × (new ≡ old)) (λ w. (r, new) ≡ list_into w.space.mode w h old) d → ListAnswer c h old (as_written r) new
      go (refused f) e k = record { same = rw (e, k.0, k.1); exact = rw e tt; found = rw e tt; grounded = case_grounded c }
      go (got s at) e k = by_mode s at e s.space.mode refl k
