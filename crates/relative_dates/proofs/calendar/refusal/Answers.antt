use Rattle.std.proofs.Common.{◌∙◌, sym, FitsSigned, w32, w64, rules}
use Rattle.std.proofs.lemmas.Int.{to_z-of_z}
use Rattle.relative_dates.proofs.StepLemmas.{fault_not_later, fault_goes_back, fault_full, fault_none}
use Rattle.relative_dates.proofs.calendar.refusal.Goals as goal

pub turns_back-requires-clause-later : goal.turns_back-requires-clause-later
turns_back-requires-clause-later c =
    let s : FitsSigned w64 c.args.step.from = search rules in
    let later = simp to_z-of_z at c.is_later.ensures in
    sym later ∙ c.if-not-is_later.false

pub returns-then-not-is_later : goal.returns-then-not-is_later
returns-then-not-is_later c =
    let s : FitsSigned w64 c.args.step.from = search rules in
    let later = simp to_z-of_z at c.is_later.ensures in
    sym (fault_not_later (record { first_offset = c.args.first_offset; steps = c.args.steps.now }) c.args.step (sym later ∙ c.if-not-is_later.true))

pub returns-then-turns_back : goal.returns-then-turns_back
returns-then-turns_back c =
    let s : FitsSigned w64 c.args.step.from = search rules in
    let f : FitsSigned w32 c.args.first_offset = c.ranges.first_offset in
    let later = simp to_z-of_z at c.is_later.ensures in
    let back = simp to_z-of_z at c.turns_back.ensures in
    sym (fault_goes_back (record { first_offset = c.args.first_offset; steps = c.args.steps.now }) c.args.step (sym later ∙ c.if-not-is_later.false) (sym back ∙ c.if-turns_back.true))

pub returns-then-steps-eq-MOST_STEPS : goal.returns-then-steps-eq-MOST_STEPS
returns-then-steps-eq-MOST_STEPS c =
    let s : FitsSigned w64 c.args.step.from = search rules in
    let f : FitsSigned w32 c.args.first_offset = c.ranges.first_offset in
    let later = simp to_z-of_z at c.is_later.ensures in
    let back = simp to_z-of_z at c.turns_back.ensures in
    sym (fault_full (record { first_offset = c.args.first_offset; steps = c.args.steps.now }) c.args.step (sym later ∙ c.if-not-is_later.false) (sym back ∙ c.if-turns_back.false) c.if-steps-eq-MOST_STEPS.true)

pub returns : goal.returns
returns c =
    let s : FitsSigned w64 c.args.step.from = search rules in
    let f : FitsSigned w32 c.args.first_offset = c.ranges.first_offset in
    let later = simp to_z-of_z at c.is_later.ensures in
    let back = simp to_z-of_z at c.turns_back.ensures in
    sym (fault_none (record { first_offset = c.args.first_offset; steps = c.args.steps.now }) c.args.step (sym later ∙ c.if-not-is_later.false) (sym back ∙ c.if-turns_back.false) c.if-steps-eq-MOST_STEPS.false)
