use Rattle.tracker_server.proofs.serve.+serve_rest.Given as goal

abbrev pub decreases-serve_rest : goal.decreases-serve_rest
decreases-serve_rest g l = l.left
