use Rattle.std.proofs.Common.{◌∙◌, ◌≡◌, ◌<◌, length, sym, ap, subst, arith, List}
use Rattle.field_values.specs.declared.parts.Group.{Group}
use Rattle.fields.specs.SetupParts.{parts}
use Rattle.row_amend.proofs.KeptMembers.{next_kept, setup_kept}
use Rattle.row_amend.proofs.kept_members.with_kept_members.Goals as goal

pub loop-place-preserved : goal.loop-place-preserved
loop-place-preserved c =
    let inside : c.loop-place.place < length c.args.setup.group = subst (λ (gs : List Group). c.loop-place.place < length gs) c.as_slice-place-end.ensures c.loop-place-test.true in (
      next_kept (parts c.args.old.now) (parts c.args.setup) (parts c.loop-place.setup) (parts c.keep_members.new.setup) c.loop-place.place c.loop-place.invariant.0 inside c.in_ok-keep_members.ensures.parts,
      c.in_ok-keep_members.ensures.text ∙ c.loop-place.invariant.1,
    )

pub returns-clause-parts : goal.returns-clause-parts
returns-clause-parts c =
    let ends : length c.as_slice-place-end.result.now ≡ length c.args.setup.group = ap (λ (gs : List Group). length gs) c.as_slice-place-end.ensures in
    let all : c.loop-place.place ≡ length c.args.setup.group = omega (arith, c.loop-place-test.false, c.loop-place.auto.place-end, ends) in
    setup_kept (parts c.args.old.now) (parts c.args.setup) (parts c.loop-place.setup) c.loop-place.place c.loop-place.invariant.0 all
