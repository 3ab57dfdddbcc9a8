-- The 8 bytes that the read call hands back are the field of the definition.
use mathlib.Core.Path.{◌≡◌, refl, ap, ◌∙◌}
use mathlib.Core.List.{List, [], ◌∷◌, ◌++◌}
use mathlib.Core.Bool.{Bool}
use Prim.Native.Nat.{ℕ, zero, suc, ◌+◌, ◌*◌, ◌/◌, ◌≤◌}
use native.Mathlib.Omega.{arith}
use lib.ListN.{length, take, drop, length-append, length-drop}
use lib.Seq.{sets, sets-eq, take_at, length-take-le}
use borrow.Author.Tests.{le-ltb}
use Rattle.std.proofs.Common.{Result, Ok, Err}
use Rattle.base.specs.Refusal.{refusal_number}
use Rattle.base.specs.declared.Refusal.{Refusal}
use Rattle.base.proofs.Numbers.{ten_or_more}
use Rattle.varint.specs.Reader as reader
use Rattle.words.specs.Words.{little, word_at, little_at}
use Rattle.sheet.specs.Sheet.{Sheet}
use Rattle.walk.specs.Walk.{World, world_of, resolve_of, Inside, Grounded}
use Rattle.walk.specs.declared.Place.{Place}
use Rattle.walk.specs.declared.Place.TheVariants.{Image, Pagefile, Zeros, Refused}
use Rattle.case.specs.Case.{Case, check_of, by_check}
use Rattle.reading.specs.Bytes.{Bytes, bytes, byte_then, bytes_of}
use Rattle.reading.specs.Bytes as reading
use Rattle.reading.specs.Call.{ReadOutcome, fault_bytes, read_all, read_of, ReadAnswer}
use Rattle.reading.specs.declared.BytesRead.{BytesRead}
use Rattle.times.specs.Time.{Ticks, ticks, refused, judged, ticks_in, ticks_at}
use Rattle.times.specs.Call.{no_time, time_read, time_told, TimeAnswer}
use Rattle.times.specs.declared.Time.{Time}
use Rattle.times.specs.declared.TimeRead.{TimeRead}
use Rattle.times.proofs.Doubles.{exact_answer}

-- ---- as many bytes as were asked for

one_long : (o : ℕ) (file : List ℕ) → o / 4096 * 4096 + 4096 ≤ length file → length (take 1 (drop o file)) ≡ 1
one_long o file h = length-take-le 1 (drop o file) (omega (arith, length-drop o file))

module _ (w : World) where
  byte_more : (p : Place) → Inside w p → (n : ℕ) (b : Bytes) → ((ys : List ℕ) (z : Bool) → b ≡ bytes ys z → length ys ≡ n)
      → (xs : List ℕ) (z : Bool) → byte_then w p b ≡ bytes xs z → length xs ≡ suc n
  byte_more (Image o) h n (bytes ys y) all xs z e =
      let same : take 1 (drop o w.image) ++ ys ≡ xs = cc in
      rw (← same, length-append) (omega (arith, all ys y refl, one_long o w.image h))
  byte_more (Pagefile o) h n (bytes ys y) all xs z e =
      let same : take 1 (drop o w.pagefile) ++ ys ≡ xs = cc in
      rw (← same, length-append) (omega (arith, all ys y refl, one_long o w.pagefile h))
  byte_more Zeros h n (bytes ys y) all xs z e =
      let same : 0 ∷ ys ≡ xs = cc in
      rw (← same) (ap suc (all ys y refl))
  byte_more (Refused r) h n (bytes ys y) all xs z e = absurd (let z : ◌≡◌ {A = ℕ} 0 1 = cc in omega arith)
  byte_more (Image o) h n (reading.refused r) all xs z e = absurd (let z : ◌≡◌ {A = ℕ} 0 1 = cc in omega arith)
  byte_more (Pagefile o) h n (reading.refused r) all xs z e = absurd (let z : ◌≡◌ {A = ℕ} 0 1 = cc in omega arith)
  byte_more Zeros h n (reading.refused r) all xs z e = absurd (let z : ◌≡◌ {A = ℕ} 0 1 = cc in omega arith)
  byte_more (Refused q) h n (reading.refused r) all xs z e = absurd (let z : ◌≡◌ {A = ℕ} 0 1 = cc in omega arith)

  bytes_long : (n a : ℕ) → ((k : ℕ) → Grounded w (resolve_of 3 w (a + k))) → (xs : List ℕ) (z : Bool) → bytes_of n w a ≡ bytes xs z → length xs ≡ n
  unfolding bytes_of
  bytes_long zero a g xs z e =
      let same : ◌≡◌ {A = List ℕ} [] xs = cc in
      rw (← same)
  bytes_long (suc n) a g xs z e = byte_more (resolve_of 3 w a).place here.inside n (bytes_of n w (suc a)) (λ ys y f. bytes_long n (suc a) rest ys y f) xs z e
    where
      here : Grounded w (resolve_of 3 w a)
      here =
          let k : a + 0 ≡ a = omega arith in
          rw k at (g 0)

      rest : (k : ℕ) → Grounded w (resolve_of 3 w (suc a + k))
      rest k =
          let j : a + suc k ≡ suc a + k = omega arith in
          rw j at (g (suc k))

-- ---- the read of the field

laid_word : (old xs : List ℕ) → length old ≡ 8 → length xs ≡ 8 → word_at (sets old 0 xs) 0 ≡ little xs
unfolding little_at
laid_word old xs h n = rw (sets-eq xs old 0 (omega arith)) (ap little (take_at xs _ 8 n))

module _ (c : Case) (a : ℕ) (old : List ℕ) (v : BytesRead) (new : List ℕ) (room : length old ≡ 8) (q : ReadAnswer c a 8 old v new) where
  abbrev outcome : ReadOutcome
  outcome = record { answer = v; buffer = new }

  promise : (r : TimeRead) → r ≡ time_read (ticks_at c a) → TimeAnswer c a r
  promise r e = record { same = e; exact = rw e (exact_answer c a); grounded = q.grounded }

  pub refused_field : (v.number ≡ 0 → ⊥) → (r : TimeRead) → r ≡ no_time v.number → TimeAnswer c a r
  unfolding read_of ticks_at
  refused_field h r e = promise r (e ∙ go (check_of c) (rw (le-ltb (length old) 8 (omega arith)) at q.same))
    where
      field : (b : Bytes) → outcome ≡ read_all old 8 b → no_time v.number ≡ time_read (ticks_in b)
      field (bytes xs z) f = absurd (h (ap (λ (o : ReadOutcome). o.answer.number) f))
      field (reading.refused x) f = ap (λ (o : ReadOutcome). no_time o.answer.number) f

      go : (d : reader.Read Sheet) → outcome ≡ by_check c (λ f. record { answer = fault_bytes f; buffer = old }) (λ w. read_all old 8 (bytes_of 8 w a)) d
          → no_time v.number ≡ time_read (by_check c (λ f. refused f.refusal) (λ w. ticks_in (bytes_of 8 w a)) d)
      go (reader.got s at) f = field (bytes_of 8 (world_of s c.image c.pagefile) a) f
      go (reader.refused x) f = ap (λ (o : ReadOutcome). no_time o.answer.number) f

  pub read_field_lem : v.number ≡ 0 → (r : TimeRead) → r ≡ time_read (judged (word_at new 0)) → TimeAnswer c a r
  unfolding read_of ticks_at
  read_field_lem h r e = promise r (e ∙ ap time_read (go (check_of c) q.grounded (rw (le-ltb (length old) 8 (omega arith)) at q.same)))
    where
      no : (x : Refusal) → v.number ≡ refusal_number x → ⊥
      no x f = omega (arith, ten_or_more x, f, h)

      field : (w : World) → ((k : ℕ) → Grounded w (resolve_of 3 w (a + k))) → (b : Bytes) → bytes_of 8 w a ≡ b → outcome ≡ read_all old 8 b → judged (word_at new 0) ≡ ticks_in b
      field w g (bytes xs z) f k = ap judged (ap (λ (o : ReadOutcome). word_at o.buffer 0) k ∙ laid_word old xs room (bytes_long w 8 a g xs z f))
      field w g (reading.refused x) f k = absurd (no x (ap (λ (o : ReadOutcome). o.answer.number) k))

      go : (d : reader.Read Sheet) → ((k : ℕ) → by_check c (λ x. Unit {0}) (λ w. Grounded w (resolve_of 3 w (a + k))) d)
          → outcome ≡ by_check c (λ f. record { answer = fault_bytes f; buffer = old }) (λ w. read_all old 8 (bytes_of 8 w a)) d → judged (word_at new 0) ≡ by_check c (λ f. refused f.refusal) (λ w. ticks_in (bytes_of 8 w a)) d
      go (reader.got s at) g f =
          let w = world_of s c.image c.pagefile in
          field w g (bytes_of 8 w a) refl f
      go (reader.refused x) g f = absurd (no x.refusal (ap (λ (o : ReadOutcome). o.answer.number) f))

-- ---- the answer

-- of the time, or of what is at fault
abbrev pub answer : Result Time Refusal → TimeRead
answer (Ok t) = record { number = 0; time = t }
answer (Err r) = no_time (refusal_number r)

pub told_read : (t : Ticks) (r : Result Time Refusal) → r ≡ time_told t → answer r ≡ time_read t
told_read t r e = ap answer e ∙ go t
  where
    go : (t : Ticks) → answer (time_told t) ≡ time_read t
    go (ticks t) = refl
    go (refused r) = refl
