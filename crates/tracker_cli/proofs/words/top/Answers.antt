use Rattle.std.proofs.Common.{ap, true}
use Rattle.clap.specs.Simple.{on_top}
use Rattle.tracker_cli.proofs.words.top.Goals as goal

pub returns : goal.returns
returns c =
    rw (c.subcommand_required.ensures, c.disable_help_subcommand.ensures, c.disable_help_flag.ensures, c.no_binary_name.ensures)
    (ap (on_top (λ s. record s { no_binary_name = true; disable_help_flag = true; disable_help_subcommand = true; subcommand_required = true })) c.new.ensures.app)
