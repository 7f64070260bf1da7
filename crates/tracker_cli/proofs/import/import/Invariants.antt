use Rattle.tracker_cli.proofs.import.import.Given as goal

abbrev pub ghosts-import_input : goal.ghosts-import_input
ghosts-import_input g a = record { name = a.blank.name; parts = a.blank.parts }
