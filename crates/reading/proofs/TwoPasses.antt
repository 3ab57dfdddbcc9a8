-- What the passes over an opened case answer is what the read call says of the case.
use mathlib.Core.Path.{◌≡◌, refl, ap}
use mathlib.Core.List.{List}
use mathlib.Core.Bool.{Bool, true, false}
use Prim.Native.Nat.{ℕ, ◌+◌}
use lib.Dec.{ltb}
use lib.ListN.{length}
use Rattle.std.proofs.Common.{MutBor, Result, Ok, Err, if◌then◌else◌}
use mir.Val.{bool_byte}
use Rattle.base.specs.Refusal.{unplaced}
use Rattle.base.specs.declared.Fault.{Fault}
use Rattle.base.specs.declared.Refusal.TheVariants.{ReadBufferShort}
use Rattle.varint.specs.Reader.{Read, got, refused}
use Rattle.sheet.specs.Sheet.{Sheet}
use Rattle.walk.specs.Walk.{world_of}
use Rattle.resolution.specs.Open.{open_world}
use Rattle.resolution.specs.declared.OpenCase.{OpenCase}
use Rattle.case.specs.Case.{Case, check_of, by_check}
use Rattle.case.specs.Run.{Ran}
use Rattle.case.proofs.Opening.{case_grounded}
use Rattle.case.proofs.Running.{ran_in, nowhere}
use Rattle.reading.specs.Bytes as read
use Rattle.reading.specs.Bytes.{Bytes, bytes_of}
use Rattle.reading.specs.Call.{zeros_number, fault_bytes, done_bytes, read_refusal, read_all, read_of, ReadAnswer}
use Rattle.reading.specs.Inner.{read_from, read_into, read_case}
use Rattle.reading.specs.declared.BytesRead.{BytesRead}

pub case_read : (c : Case) (a n : ℕ) (old : List ℕ) (post : OpenCase → MutBor (List ℕ) → Result Bool Fault → MutBor (List ℕ) → Type 0) (r : Result Bool Fault) (new : List ℕ) → Ran c old post r new
    → ((o : OpenCase) (lent left : MutBor (List ℕ)) (x : Result Bool Fault) → post o lent x left → (x, left.now) ≡ read_into (open_world o) a n lent.now)
    → (r, new) ≡ read_case c a n old
case_read c a n old post r new ran each = go (check_of c) (ran_in c old post r new ran (λ w old r new. (r, new) ≡ read_into w a n old) each)
  where
    go : (d : Read Sheet) → by_check c (λ f. (r ≡ Err f) × (new ≡ old)) (λ w. (r, new) ≡ read_into w a n old) d → (r, new) ≡ by_check c (λ f. (Err f, old)) (λ w. read_into w a n old) d
    go (refused f) k = rw (k.0, k.1)
    go (got s at) k = k

-- the answer of n bytes read, or of a fault
abbrev pub bytes_read : ℕ → Result Bool Fault → BytesRead
bytes_read n (Ok z) = done_bytes n z
bytes_read n (Err f) = fault_bytes f

pub read_answer : (c : Case) (a n : ℕ) (old : List ℕ) (r : Result Bool Fault) (new : List ℕ) → (r, new) ≡ read_case c a n old → ReadAnswer c a n old (bytes_read n r) new
unfolding read_of
read_answer c a n old r new e = record { same = go (check_of c) e; grounded = λ k. case_grounded c (a + k) }
  where
    first : {p : Result Bool Fault × List ℕ} → (r, new) ≡ p → r ≡ p.0
    first e = ap (λ (q : Result Bool Fault × List ℕ). q.0) e

    last : {p : Result Bool Fault × List ℕ} → (r, new) ≡ p → new ≡ p.1
    last e = ap (λ (q : Result Bool Fault × List ℕ). q.1) e

    in_world : (b : Bool) (d : Bytes) → (r, new) ≡ (if b then (Err (unplaced ReadBufferShort), old) else read_from old d) → record { answer = bytes_read n r; buffer = new } ≡ (if b then read_refusal old ReadBufferShort else read_all old n d)
    in_world true d e = rw (first e, last e, nowhere ReadBufferShort)
    in_world false (read.bytes xs z) e = rw (first e, last e)
    in_world false (read.refused x) e = rw (first e, last e, nowhere x)

    go : (d : Read Sheet) → (r, new) ≡ by_check c (λ f. (Err f, old)) (λ w. read_into w a n old) d
        → record { answer = bytes_read n r; buffer = new } ≡ by_check c (λ f. record { answer = fault_bytes f; buffer = old }) (λ w. if ltb (length old) n then read_refusal old ReadBufferShort else read_all old n (bytes_of n w a)) d
    go (refused f) k = rw (first k, last k)
    go (got s at) k = in_world (ltb (length old) n) (bytes_of n (world_of s c.image c.pagefile) a) k

-- a flag as a number
pub told : (z : Bool) → bool_byte z ≡ zeros_number z
told true = refl
told false = refl
