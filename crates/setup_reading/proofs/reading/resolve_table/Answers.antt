use Rattle.std.proofs.Common.{subst}
use Rattle.setup_drafts.specs.declared.draft.Draft.{Draft}
use Rattle.setup_drafts.specs.Faults.{Answers}
use Rattle.setup_reading.specs.Resolving.{resolve_fault, resolved}
use Rattle.setup_reading.proofs.reading.resolve_table.Goals as goal

pub returns-clause-told : goal.returns-clause-told
returns-clause-told c =
    subst (λ (d : Draft). Answers (resolve_fault d) (resolved d) c.resolve.result) c.requires.draft c.resolve.ensures.told
