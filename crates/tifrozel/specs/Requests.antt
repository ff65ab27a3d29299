-- What the words of a command ask for.
use Rattle.std.specs.Prelude.{◌≡◌, ℕ, List, [], ◌∷◌, ⊤, String, string_bytes}
use Rattle.tifrozel.specs.declared.words.Command.{Command}
use Rattle.tifrozel.specs.declared.words.Command.TheVariants as command
use Rattle.tifrozel.specs.declared.requests.FileAsked.{FileAsked}
use Rattle.tifrozel.specs.declared.requests.EntryAsked.{EntryAsked}
use Rattle.tifrozel.specs.declared.requests.Request.{Request}
use Rattle.tifrozel.specs.declared.requests.Request.TheVariants as request
use Rattle.tifrozel.specs.declared.requests.AtShelf.TheVariants as shelf
use Rattle.tifrozel.specs.Words.{AsksEdition, FirstWrites, SecondWrites, Writes}

module _ {Z : Type 0} where
  -- the word behind the command
  abbrev pub SecondIs : List (String Z) → List ℕ → Type 0
  SecondIs (first ∷ second ∷ rest) word = word ≡ string_bytes second
  SecondIs words word = ⊥

  -- behind the command a file, and perhaps an edition
  abbrev pub AsksFile : List (String Z) → FileAsked → Type 0
  AsksFile words f = AsksEdition words f.edition × SecondIs words f.path.now

  -- behind the command the numbers of an entry and of a record in it
  abbrev pub AsksRecord : List (String Z) → ℕ → ℕ → Type 0
  AsksRecord (first ∷ entry ∷ number ∷ []) k n = Writes (string_bytes entry) k × Writes (string_bytes number) n
  AsksRecord words k n = ⊥

  -- behind the command the number of an entry, and perhaps an edition
  abbrev pub AsksEntry : List (String Z) → EntryAsked → Type 0
  AsksEntry words a = SecondWrites words a.entry × AsksEdition words a.edition

  -- behind the command the number of an entry, a file, and perhaps an edition
  abbrev pub AsksCopy : List (String Z) → EntryAsked → List ℕ → Type 0
  AsksCopy (first ∷ rest) a path = FirstWrites rest a.entry × (SecondIs rest path × AsksEdition rest a.edition)
  AsksCopy [] a path = ⊥

  -- nothing stands behind the command
  abbrev pub AsksAlone : List (String Z) → Type 0
  AsksAlone (first ∷ []) = ⊤
  AsksAlone words = ⊥

  -- the words ask this of the command
  abbrev pub Asks : Command → List (String Z) → Request → Type 0
  Asks command.Read words (request.Read f) = AsksFile words f
  Asks command.Check words (request.Check f) = AsksFile words f
  Asks command.TakeIn words (request.AtShelf (shelf.TakeIn f)) = AsksFile words f
  Asks command.Open words (request.AtShelf shelf.Open) = AsksAlone words
  Asks command.Close words (request.AtShelf shelf.Close) = AsksAlone words
  Asks command.Show words (request.AtShelf (shelf.Show a)) = AsksEntry words a
  Asks command.Fetch words (request.AtShelf (shelf.Fetch k n)) = AsksRecord words k n
  Asks command.Balance words (request.AtShelf shelf.Balance) = AsksAlone words
  Asks command.Plain words (request.AtShelf (shelf.Plain a path)) = AsksCopy words a path.now
  Asks c words r = ⊥
