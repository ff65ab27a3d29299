-- The causes of refusals in words, by number.
use Rattle.std.specs.Prelude.{ℕ, List, codes, Option, None, Some}
use Rattle.refusal.specs.declared.Reason.{Reason}
use Rattle.refusal.specs.Reasons.{words_of, reason_of}

-- the words of a reason, or that there is none
abbrev words_or_none : Option Reason → List ℕ
words_or_none None = codes "no such refusal"
words_or_none (Some r) = words_of r

-- the words in which the cause of a refusal is told
abbrev pub cause_of : ℕ → List ℕ
cause_of n = words_or_none (reason_of n)
