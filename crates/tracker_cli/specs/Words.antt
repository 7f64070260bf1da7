-- What words ask for, and the grammar by which `clap` reads them.
use Rattle.std.specs.Prelude.{ℕ, List, [], ◌∷◌, Option, Some, None, true, codes}
use Rattle.clap.specs.Words.{App, Rule, new_app, new_rule, with_rule, with_subcommand}
use Rattle.clap.specs.Simple.{on_top}
use Rattle.clap.specs.declared.builder.action.ArgAction.TheVariants.{Set}
use Rattle.tracker_cli.specs.Outcome.{IsExec, IsCheck, IsInit, IsExport, IsImport, IsGenerate}
use Rattle.tracker_cli.specs.declared.words.Command.{Command}
use Rattle.tracker_cli.specs.declared.words.Command.TheVariants as command

-- the words ask for this command
abbrev pub Asks : Command → List (List ℕ) → Type 0
Asks command.Exec words = IsExec words
Asks command.Check words = IsCheck words
Asks command.Init words = IsInit words
Asks (command.Import user) words = IsImport words user.now
Asks command.Export words = IsExport words
Asks (command.Generate n) words = IsGenerate words n

-- a name, and the word behind it, if there is one
abbrev pub words_of : List ℕ → Option (List ℕ) → List (List ℕ)
words_of name None = name ∷ []
words_of name (Some operand) = name ∷ operand ∷ []

-- ---- the grammar

-- a word that has to come behind a name
abbrev pub operand : Rule
operand = record (new_rule (codes "operand")) { required = true; action = Some Set }

abbrev pub taking_one : List ℕ → App
taking_one name = with_rule (new_app name) operand

-- all words are the program's, one of them has to be a command's, and there is no help
abbrev pub top : App
top =
    on_top (λ s. record s {
      no_binary_name = true;
      disable_help_flag = true;
      disable_help_subcommand = true;
      subcommand_required = true;
    }) (new_app (codes "tracker"))

abbrev pub with_one : App → App → App
with_one all one = with_subcommand all one.top

abbrev pub grammar : App
grammar =
    with_one (with_one (with_one (with_one (with_one (with_one top
    (new_app (codes "exec"))) (new_app (codes "check"))) (new_app (codes "init")))
    (taking_one (codes "import"))) (new_app (codes "export"))) (taking_one (codes "generate"))
