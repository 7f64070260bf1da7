use Rattle.std.proofs.Common.{is_some}
use Rattle.tracker_rounds.proofs.round.serve_round.Given as goal

-- The call picks what stands for the faults so far, and whether the links are told.
abbrev pub ghosts-serve_links : goal.ghosts-serve_links
ghosts-serve_links g a = record { faults_before = g.K.Links.faults a.links; were_told = is_some (g.K.Links.ahead a.links) }
