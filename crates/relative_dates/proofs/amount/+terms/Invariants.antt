use Rattle.relative_dates.proofs.amount.+terms.Given as goal

abbrev pub decreases-terms : goal.decreases-terms
decreases-terms l = l.most
