use Rattle.tracker_serve.proofs.served_desk.ServedDeskWatched.call.Given as goal

abbrev pub ghosts-counted_call : goal.ghosts-counted_call
ghosts-counted_call g a = record { name = a.blank.name; parts = a.blank.parts }
