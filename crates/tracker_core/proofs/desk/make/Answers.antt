use Rattle.std.proofs.Common.{◌≡◌, ◌∙◌, ap, subst}
use Rattle.tracker_machine.specs.Effect.{applied}
use Rattle.tracker_machine.specs.Kept.{rows_of}
use Rattle.tracker_state.specs.Plan.{effect_of}
use Rattle.tracker_state.specs.State.{Held}
use Rattle.tracker_core.proofs.Desks.{small_ops, rows_after}
use Rattle.tracker_core.proofs.Left.{some_ops, kept_leaves, refused_leaves}
use Rattle.tracker_core.proofs.desk.make.Goals as goal

pub commit-requires : goal.commit-requires
commit-requires g c = record { numbers = small_ops c.as_slice.result.now (effect_of c.args.plan) c.args.state.now.machine (c.as_slice.ensures.value ∙ c.requires.keeps) c.requires.allowed c.is_tracker.ensures }

pub returns-in-Ok-clause-rows : goal.returns-in-Ok-clause-rows
returns-in-Ok-clause-rows g c = λ kept.
    let m = c.args.state.now.machine in
    subst (g.P.Keeper.keeps c.commit.new.self)
    (rows_after c.as_slice.result.now (effect_of c.args.plan) m c.keep_row_room.new.self.machine (c.as_slice.ensures.value ∙ c.requires.keeps) c.requires.allowed c.is_tracker.ensures
    (ap (λ (s : Held). s.machine) c.keep_row_room.ensures ∙ c.install.ensures.machine))
    (c.in-Ok.ensures.done (rows_of m) kept)

pub returns-in-Ok-clause-left : goal.returns-in-Ok-clause-left
returns-in-Ok-clause-left g c = λ kept.
    let m = c.args.state.now.machine in
    kept_leaves g.P.Keeper.leaves c.as_slice.result.now (effect_of c.args.plan) m c.keep_row_room.new.self.machine (c.as_slice.ensures.value ∙ c.requires.keeps) c.requires.allowed
    c.is_tracker.ensures (ap (λ (s : Held). s.machine) c.keep_row_room.ensures ∙ c.install.ensures.machine)
    (λ n then. (n ≡ m) × (then ≡ applied (effect_of c.args.plan) m)) c.args.keeper.now c.commit.new.self (c.in-Ok.ensures.left_ok (rows_of m) kept)

pub returns-in-Err-Failed-clause-left : goal.returns-in-Err-Failed-clause-left
returns-in-Err-Failed-clause-left g c = λ kept before tracker left.
    let m = c.args.state.now.machine in
    let ops = c.as_slice.result.now in
    let is = c.as_slice.ensures.value ∙ c.requires.keeps in
    refused_leaves g.P.Keeper.leaves ops (effect_of c.args.plan) m is c.requires.allowed c.is_tracker.ensures c.commit.new.self before tracker
    (c.in-Err-Failed.ensures.left_err (some_ops ops (effect_of c.args.plan) m is c.requires.allowed) (rows_of m) (rows_of before) kept left)

pub returns-clause-left : goal.returns-clause-left
returns-clause-left g c = λ kept before tracker left.
    let m = c.args.state.now.machine in
    let ops = c.as_slice.result.now in
    let is = c.as_slice.ensures.value ∙ c.requires.keeps in
    refused_leaves g.P.Keeper.leaves ops (effect_of c.args.plan) m is c.requires.allowed c.is_tracker.ensures c.commit.new.self before tracker
    (c.in-Err-Memory.ensures.left_err (some_ops ops (effect_of c.args.plan) m is c.requires.allowed) (rows_of m) (rows_of before) kept left)
