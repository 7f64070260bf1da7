use Rattle.tracker_cli.proofs.serving.serve.Given as goal

abbrev pub ghosts-serve_desk : goal.ghosts-serve_desk
ghosts-serve_desk g a = record { name = a.blank.name; parts = a.blank.parts }
