use Rattle.tracker_cli.proofs.generate.generate.Given as goal

abbrev pub ghosts-load : goal.ghosts-load
ghosts-load g a = record { name = a.blank.name; parts = a.blank.parts }
