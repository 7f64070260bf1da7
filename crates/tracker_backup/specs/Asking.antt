-- What words ask for.
use Rattle.std.specs.Prelude.{ℕ, List}
use Rattle.tracker_backup.specs.Ends.{IsDump, IsRestore}
use Rattle.tracker_backup.specs.declared.words.Word.{Word}
use Rattle.tracker_backup.specs.declared.words.Word.TheVariants as word

-- the words ask for this command
abbrev pub Asks : Word → List (List ℕ) → Type 0
Asks word.Dump words = IsDump words
Asks word.Restore words = IsRestore words
