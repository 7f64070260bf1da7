use Rattle.std.proofs.Common.{◌≡◌, sym, ◌∙◌, subst}
use Rattle.std.proofs.lemmas.Bool.{false≢true}
use Rattle.fields.specs.SetupParts.{parts}
use Rattle.tracker_keeper.specs.declared.part.Part.{Part}
use Rattle.tracker_keeper.specs.Kept.{IsRowOf}
use Rattle.tracker_rows.specs.Listed.{HasSprintsOf}
use Rattle.tracker_loading.proofs.own_part.own_part.Goals as goal

pub returns-then-not-is_alone : goal.returns-then-not-is_alone
returns-then-not-is_alone c = λ p own. false≢true (sym c.if-not-is_alone.true ∙ c.is_alone.ensures.1 own.alone)

pub returns-in-None : goal.returns-in-None
returns-in-None c = λ p own. (rw c.in-None.is at c.in_ok-part.ensures) p own.tells

pub returns-then-has_sprints_of : goal.returns-then-has_sprints_of
returns-then-has_sprints_of c =
    let row = c.args.row.now in
    let part : Part = c.in-Some.part in
    let tells : IsRowOf (parts c.args.setup.now) row.kind row.no row.body part = rw c.in-Some.is at c.in_ok-part.ensures in
    record {
      own = record { alone = c.is_alone.ensures.0 c.if-not-is_alone.false; tells = tells; sprints = c.has_sprints_of.ensures.0 c.if-has_sprints_of.true };
      only = λ q own. c.bodies_tell_their_parts.ensures row.kind row.no row.body q part own.tells tells;
    }

pub returns-else-has_sprints_of : goal.returns-else-has_sprints_of
returns-else-has_sprints_of c = λ p own.
    let row = c.args.row.now in
    let part : Part = c.in-Some.part in
    let same : p ≡ part = c.bodies_tell_their_parts.ensures row.kind row.no row.body p part own.tells (rw c.in-Some.is at c.in_ok-part.ensures) in
    false≢true (sym c.if-has_sprints_of.false ∙ c.has_sprints_of.ensures.1 (subst (HasSprintsOf c.args.rows.now) same own.sprints))
