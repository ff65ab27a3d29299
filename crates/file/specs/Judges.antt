-- The judge in code, as a state of the judging machine.
use Rattle.std.specs.Prelude.{ℕ, cond, List, Ok, Err, Result, nat_le}
use Rattle.sums.specs.declared.Row.{Row}
use Rattle.sums.specs.Table.{capped}
use Rattle.record.specs.declared.fields.Transfer.{Transfer}
use Rattle.record.specs.declared.fields.Core.{Core}
use Rattle.record.specs.declared.fields.End.{End}
use Rattle.record.specs.Editions.{Meaning}
use Rattle.manual.specs.declared.faults.Cause.{Cause}
use Rattle.manual.specs.declared.faults.Cause.TheVariants.{TooMany, Unfinished}
use Rattle.manual.specs.declared.faults.FileFault.{FileFault}
use Rattle.manual.specs.Slots.{Slot}
use Rattle.manual.specs.Judging as judging
use Rattle.manual.specs.Judging.{Mode, State, content, first, counts_after, section_after, item_after, slot_step, at_record, ended}
use Rattle.file.specs.declared.judge.Judge.{Judge}
use Rattle.file.specs.declared.judge.Section.{Section}
use Rattle.file.specs.Numbering.{numbered}

-- the section that is open, with these rows in use
abbrev pub section_held : Section → List (Row ℕ) → judging.Section
section_held x rows = record { currency = x.currency; records = x.records; payments = x.payments; plus = x.plus; minus = x.minus; rows = rows }

-- the state that a judge holds with these rows in use
abbrev pub held_by : {P : Type 0} → Judge P → List (Row ℕ) → State
held_by j rows = record {
  place = j.place;
  counts = j.counts;
  section = section_held j.section rows;
  item = record { payer = j.item.payer; serial = j.item.serial; infos = j.item.infos };
}

-- the state of a judge, by what its way of knowing payers holds
abbrev pub state_of : {P : Type 0} → (P → List (Row ℕ)) → Judge P → State
state_of held j = held_by j (held j.payers)

-- what a call that changes x in place answers: x as it then is, or the fault
abbrev pub outcome : {X A B : Type 0} → Result A B → X → Result X B
outcome (Ok y) x = Ok x
outcome (Err f) x = Err f

-- the judge behind a payment or deduction, but for sums and counts of its own sort
abbrev pub headed_judge : {P : Type 0} → Judge P → Transfer → Judge P
headed_judge j t = record {
  place = j.place;
  counts = j.counts;
  section = record { currency = j.section.currency; records = capped j.section.records 1; payments = j.section.payments; plus = j.section.plus; minus = j.section.minus };
  item = record { payer = t.payer; serial = t.serial; infos = 0 };
  payers = j.payers;
}

-- a core record's fields taken in, its place aside
abbrev pub taken_in : Mode → State → Core → Result State Cause
taken_in mode s c = first (content mode s c) (record {
  place = s.place;
  counts = counts_after s.counts c;
  section = section_after mode s.section c;
  item = item_after s.item c;
})

-- the line with number n judged: refused past record 50,000, else as the machine has it
abbrev pub read_step : Mode → Meaning → ℕ → State → Slot → Result State FileFault
read_step mode m n s x = cond (nat_le n 50000) (numbered n (slot_step mode m s x)) (at_record n TooMany)

-- no line comes any more: the counts, if the end record has come; else record n is missing
abbrev pub finished : ℕ → State → Result End FileFault
finished n s = cond (ended s.place) (Ok s.counts) (at_record n Unfinished)
