use Rattle.std.proofs.Common.{inl, inr}
use Rattle.setup_reading.specs.declared.built_in_text.TheConstants.{BUILT_IN}
use Rattle.tracker_serve.proofs.ManyRounds.{served_worded}
use Rattle.tracker_serve.proofs.serving.serve.Goals as goal

pub returns-in-Some-clause-served_all : goal.returns-in-Some-clause-served_all
returns-in-Some-clause-served_all g c = λ is.
    served_worded g.P.Keeper.keeps g.P.Keeper.tells g.P.Keeper.faults g.P.Keeper.leaves c.in-Some.workers _ _ BUILT_IN.now _ _ c.in-Some.ensures.some (c.serve_workers.ensures.served_all is)

pub returns-in-Some-clause-served_some : goal.returns-in-Some-clause-served_some
returns-in-Some-clause-served_some g c = λ is.
    served_worded g.P.Keeper.keeps g.P.Keeper.tells g.P.Keeper.faults g.P.Keeper.leaves c.in-Some.workers _ _ BUILT_IN.now _ _ c.in-Some.ensures.some (c.serve_workers.ensures.served_some is)

pub returns-in-Some-clause-lacked : goal.returns-in-Some-clause-lacked
returns-in-Some-clause-lacked g c = λ is. elim (c.serve_workers.ensures.lacked is) [
  | inl same ↦ inl same
  | inr served ↦ inr (served_worded g.P.Keeper.keeps g.P.Keeper.tells g.P.Keeper.faults g.P.Keeper.leaves c.in-Some.workers _ _ BUILT_IN.now _ _ c.in-Some.ensures.some served)
]

pub returns-in-Some-clause-words : goal.returns-in-Some-clause-words
returns-in-Some-clause-words g c = λ none. absurd (none c.in-Some.ensures.some.0 c.in-Some.workers c.in-Some.ensures.some.1)
