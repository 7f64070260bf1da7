use Rattle.std.proofs.Common.{refl}
use Rattle.fields.specs.SetupParts.{parts}
use Rattle.tracker_amend.specs.Amend.{HasInTheWay, IsReadAs}
use Rattle.tracker_amend.proofs.Amends.{row_front, row_grew, fault_front, has_amended, leaves_either, in_the_way}
use Rattle.tracker_amend.proofs.command.amend_by.Goals as goal

pub returns-in-Ok-clause-done : goal.returns-in-Ok-clause-done
returns-in-Ok-clause-done g c = λ is.
    let done = c.amend_to.ensures.done is in (
      done.0,
      has_amended g.P.Keeper.keeps g.P.Keeper.tells g.P.Keeper.leaves c.args.keeper.now c.amend_to.new.keeper c.args.text.now c.in-Ok.setup.text (parts c.in-Ok.setup)
          (record { is_text = c.in-Ok.ensures.ok.0; reads = c.in-Ok.ensures.ok.1 }) c.in-Ok.ensures.text done.1,
    )

pub returns-in-Ok-clause-left : goal.returns-in-Ok-clause-left
returns-in-Ok-clause-left g c = λ is.
    leaves_either g.P.Keeper.keeps g.P.Keeper.tells g.P.Keeper.leaves c.args.keeper.now c.amend_to.new.keeper c.args.text.now c.in-Ok.setup.text (parts c.in-Ok.setup)
    (record { is_text = c.in-Ok.ensures.ok.0; reads = c.in-Ok.ensures.ok.1 }) c.in-Ok.ensures.text (c.amend_to.ensures.left is)

pub returns-in-Ok-clause-written : goal.returns-in-Ok-clause-written
returns-in-Ok-clause-written g c = λ is.
    let reads : IsReadAs c.args.text.now (parts c.in-Ok.setup) = record { is_text = c.in-Ok.ensures.ok.0; reads = c.in-Ok.ensures.ok.1 } in
    row_front _ (HasInTheWay g.P.Keeper.keeps g.P.Keeper.tells c.args.keeper.now c.amend_to.new.keeper) _ _ c.args.text.now c.requires.within
    (in_the_way g.P.Keeper.keeps g.P.Keeper.tells g.P.Keeper.leaves c.args.keeper.now c.amend_to.new.keeper c.args.text.now c.in-Ok.setup.text (parts c.in-Ok.setup) reads c.in-Ok.ensures.text)
    (c.amend_to.ensures.written is)

pub returns-in-Ok-clause-bad : goal.returns-in-Ok-clause-bad
returns-in-Ok-clause-bad g c = λ is.
    let reads : IsReadAs c.args.text.now (parts c.in-Ok.setup) = record { is_text = c.in-Ok.ensures.ok.0; reads = c.in-Ok.ensures.ok.1 } in
    row_grew _ (HasInTheWay g.P.Keeper.keeps g.P.Keeper.tells c.args.keeper.now c.amend_to.new.keeper) _ _ c.args.text.now c.requires.within
    (in_the_way g.P.Keeper.keeps g.P.Keeper.tells g.P.Keeper.leaves c.args.keeper.now c.amend_to.new.keeper c.args.text.now c.in-Ok.setup.text (parts c.in-Ok.setup) reads c.in-Ok.ensures.text)
    (c.amend_to.ensures.bad is)

pub returns-in-Err-clause-written : goal.returns-in-Err-clause-written
returns-in-Err-clause-written g c = λ is.
    let told = c.tell_fault.ensures.written is in
    fault_front (HasInTheWay g.P.Keeper.keeps g.P.Keeper.tells c.args.keeper.now c.args.keeper.now) _ _ c.args.text.now c.in-Err.fault c.requires.within told.0 c.in-Err.ensures.err told.1

pub returns-in-Err-clause-setup : goal.returns-in-Err-clause-setup
returns-in-Err-clause-setup g c = λ is.
    let told = c.tell_fault.ensures.told is in (_, (c.in-Err.fault, told.0, (c.requires.within, c.in-Err.ensures.err), refl), told.1)
