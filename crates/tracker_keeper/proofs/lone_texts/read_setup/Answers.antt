use Rattle.std.proofs.Common.{ℕ, sym, subst}
use Rattle.tracker_keeper.specs.declared.part.Part.TheVariants as part
use Rattle.tracker_keeper.specs.Kept.{IsRowOf}
use Rattle.tracker_keeper.proofs.Lone.{setup_row, setup_reads}
use Rattle.tracker_keeper.proofs.lone_texts.read_setup.Goals as goal

pub returns-then-not-branch : goal.returns-then-not-branch
returns-then-not-branch c = λ setup p h. c.in_ok-is_setup.ensures.absent c.if-not-branch.true (setup_reads setup c.args.no c.args.body.now p h)

pub returns : goal.returns
returns c = λ setup.
    let row = setup_row c.args.body.now (c.in_ok-is_setup.ensures.there c.if-not-branch.false) setup in
    subst (λ (n : ℕ). IsRowOf setup 1 n c.args.body.now (part.Setup c.in_ok-copy_of.field-0)) (sym c.if-no-ne0.false)
    (subst (λ text. IsRowOf setup 1 0 c.args.body.now (part.Setup text)) (sym c.in_ok-copy_of.ensures) row)
