-- What the words of a command line name.
use Rattle.std.specs.Prelude.{◌≡◌, ℕ, ◌<◌, ◌^◌, ◌⊎◌, List, [], ◌∷◌, codes, drop, min, Result, MatchResult, ◌≢◌, String, string_bytes}
use Rattle.std.specs.Str.Parse.{IsNumeral, digits_value, without_leading_plus}
use Rattle.tifrozel.specs.declared.words.EditionName.{EditionName}
use Rattle.tifrozel.specs.declared.words.EditionName.TheVariants.{Bare, House}
use Rattle.tifrozel.specs.declared.words.NoSuchEdition.{NoSuchEdition}
use Rattle.tifrozel.specs.declared.words.Command.{Command}
use Rattle.tifrozel.specs.declared.words.Command.TheVariants.{Read, Check, Open, TakeIn, Close, Show, Fetch, Balance, Plain}
use Rattle.tifrozel.specs.declared.words.NoSuchCommand.{NoSuchCommand}

-- the word that names an edition
abbrev pub edition_word : EditionName → List ℕ
edition_word Bare = codes "bare"
edition_word House = codes "house"

-- the answer is the edition that the word names, or that it names none
abbrev pub IsEditionNamed : List ℕ → Result EditionName NoSuchEdition → Type 0
IsEditionNamed word r = MatchResult r (λ e. word ≡ edition_word e) (λ _. (word ≢ codes "bare") × (word ≢ codes "house"))

-- behind a command and a word `under` and an edition's name, or nothing, which stands for the house edition
abbrev pub AsksEdition : {Z : Type 0} → List (String Z) → EditionName → Type 0
AsksEdition (first ∷ second ∷ []) e = e ≡ House
AsksEdition (first ∷ second ∷ under ∷ name ∷ []) e = (string_bytes under ≡ codes "under") × (string_bytes name ≡ edition_word e)
AsksEdition words e = ⊥

-- the word that names a command
abbrev pub command_word : Command → List ℕ
command_word Read = codes "read"
command_word Check = codes "check"
command_word Open = codes "open"
command_word TakeIn = codes "take-in"
command_word Close = codes "close"
command_word Show = codes "show"
command_word Fetch = codes "fetch"
command_word Balance = codes "balance"
command_word Plain = codes "plain"

-- the answer is the command that the word names, or that it names none
abbrev pub IsCommandNamed : List ℕ → Result Command NoSuchCommand → Type 0
IsCommandNamed word r =
    MatchResult
    r
    (λ c. word ≡ command_word c)
    (λ _. (word ≢ codes "read") × ((word ≢ codes "check") × ((word ≢ codes "open") × ((word ≢ codes "take-in") × ((word ≢ codes "close") × ((word ≢ codes "show") × ((word ≢ codes "fetch") × ((word ≢ codes "balance") × (word ≢ codes "plain")))))))))

-- a word writes a number: decimal digits, perhaps behind a plus, of less than 2 ^ 64
abbrev pub Writes : List ℕ → ℕ → Type 0
Writes word n =
    let digits = without_leading_plus word in IsNumeral 10 digits × ((digits_value 10 digits < 2 ^ 64) × (n ≡ digits_value 10 digits))

-- the first of the words writes this number
abbrev pub FirstWrites : {Z : Type 0} → List (String Z) → ℕ → Type 0
FirstWrites [] n = ⊥
FirstWrites (first ∷ rest) n = Writes (string_bytes first) n

-- the words begin with this one
abbrev pub BeginWith : {Z : Type 0} → List ℕ → List (String Z) → Type 0
BeginWith name [] = ⊥
BeginWith name (first ∷ rest) = string_bytes first ≡ name

-- the second of the words writes this number
abbrev pub SecondWrites : {Z : Type 0} → List (String Z) → ℕ → Type 0
SecondWrites (first ∷ second ∷ rest) n = Writes (string_bytes second) n
SecondWrites words n = ⊥

-- what an option gives: where the words begin with its name, the number that the next word writes, and the words behind both; else the number that
-- stands for its want, and all the words
abbrev pub IsOption : {Z : Type 0} → List ℕ → ℕ → List (String Z) → ℕ → List (String Z) → Type 0
IsOption name otherwise words n behind =
    (BeginWith name words × (SecondWrites words n × (behind ≡ drop 2 words))) ⊎ (¬ BeginWith name words × ((n ≡ otherwise) × (behind ≡ words)))

-- what stands before a shelf or a command: `--limit N`, then `--payers N`, either of which may be missing. Above the most places or payers it is the
-- most. Some words stand behind
abbrev pub IsAsked : {Z : Type 0} → List (String Z) → ℕ → ℕ → List (String Z) → Type 0
IsAsked {Z} args limit payers words =
    (n : ℕ) × ((behind : List (String Z)) × ((p : ℕ) × (IsOption (codes "--limit") 500000 args n behind × (IsOption (codes "--payers") 50000 behind p words × ((limit ≡ min n 500000) × ((payers ≡ min p 50000) × (words ≢ [])))))))
