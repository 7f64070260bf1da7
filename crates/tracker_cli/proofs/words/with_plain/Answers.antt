use Rattle.std.proofs.Common.{◌∙◌, ap}
use Rattle.clap.specs.Words.{app_of}
use Rattle.tracker_cli.specs.Words.{with_one}
use Rattle.tracker_cli.proofs.words.with_plain.Goals as goal

pub returns : goal.returns
returns c = c.in_ok-both.ensures.shape c.new-one.ensures.local ∙ ap (with_one (app_of c.args.all)) c.new-one.ensures.app
