use Rattle.fault_tests.proofs.connections.served.Given as goal

abbrev pub ghosts-served_by : goal.ghosts-served_by
ghosts-served_by a = record { name = a.blank.name; parts = a.blank.parts }
