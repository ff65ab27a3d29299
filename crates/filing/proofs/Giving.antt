-- Which numbers opening and taking in can be refused by.
use Rattle.std.proofs.Common.{ℕ, zero, suc, ◌+◌, ◌-◌, Bool, leb, ltb, true, false, cond, List, [], ◌∷◌, Contains, length, Some, None, Ok, Err, Option, Result, refl, arith}
use Rattle.field.specs.Chains.{then}
use Rattle.record.specs.declared.faults.RecordFault.TheVariants.{Code, Layout}
use Rattle.record.specs.declared.fields.End.{End}
use Rattle.trailer.specs.declared.layout.Totals.{Totals}
use Rattle.trailer.specs.declared.layout.Trailer.{Trailer}
use Rattle.trailer.specs.Trailers.{right_closing, closing_says}
use Rattle.manual.specs.declared.faults.Cause.{Cause}
use Rattle.manual.specs.declared.faults.Cause.TheVariants as cause
use Rattle.manual.specs.declared.faults.FileFault.{FileFault}
use Rattle.filing.specs.declared.faults.VolumeFault.{VolumeFault}
use Rattle.filing.specs.declared.faults.VolumeFault.TheVariants.{File, Marked, NoRoom, NoTrailer, Differs, ClosingDiffers}
use Rattle.filing.specs.declared.standing.Opened.{Opened}
use Rattle.filing.specs.declared.standing.Standing.TheVariants as standing
use Rattle.filing.specs.Refusals.{number_told, RefusedBy, of_opening, of_taking}
use Rattle.filing.specs.Taking.{by_file, unless_same, admitted, marked, start_of, first_same}
use Rattle.filing.specs.Volumes.{Records, Reads, Part, after_trailer, before, walk, agrees, compared, judge, judged, begins_98, last_of, ends_open, ends_closed, found, opening_open, opening_closed, opening}

module _ (numbers : List ℕ) where
  pub then_gives : {T U : Type 0} (r : Result T VolumeFault) (f : T → Result U VolumeFault) → RefusedBy numbers r → ((x : T) → RefusedBy numbers (f x)) → RefusedBy numbers (then r f)
  then_gives (Ok x) f h g = g x
  then_gives (Err e) f h g = h

  pub cond_gives : {T : Type 0} (b : Bool) (r q : Result T VolumeFault) → RefusedBy numbers r → RefusedBy numbers q → RefusedBy numbers (cond b r q)
  cond_gives true r q h g = h
  cond_gives false r q h g = g

-- OPENING.

no_room : Contains of_opening (number_told NoRoom)
no_room = (0, omega arith, refl)

no_trailer : (n : ℕ) → Contains of_opening (number_told (NoTrailer n))
no_trailer n = (1, omega arith, refl)

closing : Contains of_opening (number_told ClosingDiffers)
closing = (3, omega arith, refl)

after_gives : (o : Option Trailer) (n : ℕ) (f : Trailer → Result (List Part) VolumeFault) → ((t : Trailer) → RefusedBy of_opening (f t))
    → RefusedBy of_opening (after_trailer o (NoTrailer n) f)
after_gives (Some t) n f h = h t
after_gives None n f h = no_trailer n

walk_gives : (rs : Records) (i n : ℕ) → RefusedBy of_opening (walk rs i n)
unfolding walk
walk_gives rs zero n = tt
walk_gives rs (suc i) zero = no_trailer (suc i)
walk_gives rs (suc i) (suc n) = after_gives _ (suc i) _ (λ t. then_gives of_opening (walk rs t.previous n) (before rs i t) (walk_gives rs t.previous n) (λ ps. tt))

compared_gives : (k : ℕ) (p : Part) (r : Result Totals FileFault) → RefusedBy of_opening (compared k p r)
compared_gives k p (Ok t) = cond_gives of_opening (agrees k p t) (Ok tt) (Err (Differs k)) tt (3, omega arith, refl)
compared_gives k p (Err f) = (2, omega arith, refl)

judge_gives : (reads : Reads) (ps : List Part) → RefusedBy of_opening (judge reads ps)
unfolding judge
judge_gives reads [] = tt
judge_gives reads (p ∷ ps) = then_gives of_opening (judge reads ps) _ (judge_gives reads ps) (λ _. compared_gives (suc (length ps)) p (reads p.entry))

judged_gives : (reads : Reads) (end : List Part → Result Opened VolumeFault) (ps : List Part) → RefusedBy of_opening (end ps) → RefusedBy of_opening (judged reads end ps)
judged_gives reads end ps h = then_gives of_opening (judge reads ps) _ (judge_gives reads ps) (λ _. h)

closed_gives : (reads : Reads) (rs : Records) → RefusedBy of_opening (opening_closed reads rs)
closed_gives reads rs =
    cond_gives of_opening (right_closing (last_of rs) (length rs)) (then (walk rs (length rs - 1) (length rs - 1)) (judged reads (ends_closed rs))) (Err (NoTrailer (length rs)))
    (then_gives of_opening (walk rs (length rs - 1) (length rs - 1)) (judged reads (ends_closed rs)) (walk_gives rs (length rs - 1) (length rs - 1))
    (λ ps. judged_gives reads (ends_closed rs) ps
    (cond_gives of_opening (closing_says (last_of rs) (length ps)) (Ok (found standing.Closed (length rs) ps)) (Err ClosingDiffers) tt closing)))
    (no_trailer (length rs))

open_gives : (reads : Reads) (limit : ℕ) (rs : Records) → RefusedBy of_opening (opening_open reads limit rs)
open_gives reads limit rs =
    then_gives of_opening (walk rs (length rs) (length rs)) (judged reads (ends_open limit rs)) (walk_gives rs (length rs) (length rs))
    (λ ps. judged_gives reads (ends_open limit rs) ps
    (cond_gives of_opening (ltb (length rs) limit) (Ok (found standing.Open (length rs) ps)) (Err NoRoom) tt no_room))

pub opening_gives : (reads : Reads) (limit : ℕ) (rs : Records) → RefusedBy of_opening (opening reads limit rs)
unfolding opening
opening_gives reads limit rs = cond_gives of_opening (begins_98 (last_of rs)) (opening_closed reads rs) (opening_open reads limit rs) (closed_gives reads rs) (open_gives reads limit rs)

-- TAKING IN.

file_gives : (n : ℕ) (c : Cause) → Contains of_taking (number_told (File (record { number = n; cause = c })))
file_gives n cause.Broken = (0, omega arith, refl)
file_gives n (cause.Unreadable Code) = (1, omega arith, refl)
file_gives n (cause.Unreadable (Layout f)) = (3, omega arith, refl)
file_gives n cause.Order = (2, omega arith, refl)
file_gives n cause.UnlikeItem = (4, omega arith, refl)
file_gives n cause.Information = (5, omega arith, refl)
file_gives n cause.NoPlace = (6, omega arith, refl)
file_gives n cause.PayerOwes = (7, omega arith, refl)
file_gives n cause.Deposit = (8, omega arith, refl)
file_gives n cause.Counts = (9, omega arith, refl)
file_gives n cause.TooMany = (10, omega arith, refl)
file_gives n cause.Unfinished = (11, omega arith, refl)
file_gives n cause.RiderIllFormed = (12, omega arith, refl)
file_gives n cause.RiderLevel = (13, omega arith, refl)

pub checked_gives : (r : Result End FileFault) → RefusedBy of_taking (by_file r)
checked_gives (Ok e) = tt
checked_gives (Err f) = file_gives f.number f.cause

unless_gives : (o : Option ℕ) (next : Result (Unit {0}) VolumeFault) → RefusedBy of_taking next → RefusedBy of_taking (unless_same o next)
unless_gives None next h = h
unless_gives (Some k) next h = (15, omega arith, refl)

pub admitted_gives : (limit count : ℕ) (es : List Records) (e : Records) → RefusedBy of_taking (admitted limit count es e)
admitted_gives limit count es e =
    let room : Result (Unit {0}) VolumeFault = cond (leb (count + length e + 2) limit) (Ok tt) (Err NoRoom) in
    cond_gives of_taking (marked (start_of e)) (Err Marked) (unless_same (first_same (start_of e) 1 es) room) (14, omega arith, refl)
    (unless_gives (first_same (start_of e) 1 es) room (cond_gives of_taking (leb (count + length e + 2) limit) (Ok tt) (Err NoRoom) tt (16, omega arith, refl)))
