use Rattle.std.proofs.Common.{◌∙◌, ap, codes}
use Rattle.clap.specs.Words.{App, new_app}
use Rattle.tracker_cli.specs.Words.{taking_one, with_one}
use Rattle.tracker_cli.proofs.words.grammar.Goals as goal

pub returns : goal.returns
returns c =
    let one = c.in_ok-one.ensures ∙ ap (λ (a : App). with_one a (new_app (codes "exec"))) c.top.ensures in
    let two = c.in_ok-two.ensures ∙ ap (λ (a : App). with_one a (new_app (codes "check"))) one in
    let three = c.in_ok-three.ensures ∙ ap (λ (a : App). with_one a (new_app (codes "init"))) two in
    let four = c.in_ok-four.ensures ∙ ap (λ (a : App). with_one a (taking_one (codes "import"))) three in
    let five = c.in_ok-five.ensures ∙ ap (λ (a : App). with_one a (new_app (codes "export"))) four in
    c.in_ok-six.ensures ∙ ap (λ (a : App). with_one a (taking_one (codes "generate"))) five
