use Rattle.std.proofs.Common.{◌≤◌, sym, subst, arith}
use Rattle.tracker_rows.specs.Gathered.Gathered.{HasSetup}
use Rattle.tracker_rows.specs.Listed.{changes_in}
use Rattle.tracker_rows.specs.Rules.{MayFollow}
use Rattle.tracker_loading.specs.Reading.{IsStanding}
use Rattle.tracker_loading.proofs.Opening.{present_stands, present_counted, only_present}
use Rattle.tracker_loading.proofs.opening_rows.standing_of.Goals as goal

pub returns-in_default : goal.returns-in_default
returns-in_default c = λ text setup may. only_present c.args.rows.now text setup c.args.part.now c.in_default.not-Present may

pub returns-then-change-count_changes : goal.returns-then-change-count_changes
returns-then-change-count_changes c = λ text setup may.
    let p = c.in-Present in
    let counted = present_counted c.args.rows.now text setup p.balance p.change p.format p.moment (subst (MayFollow c.args.rows.now (HasSetup text setup)) p.is may) in
    omega (arith, counted, c.count_changes.ensures)

pub returns : goal.returns
returns c = λ text setup.
    let p = c.in-Present in
    let counted : p.change ≤ changes_in c.args.rows.now = omega (arith, c.count_changes.ensures) in
    subst (λ q. IsStanding c.args.rows.now text setup q p.format p.balance p.change p.moment) (sym p.is)
    (present_stands c.args.rows.now text setup p.balance p.change p.format p.moment counted)
