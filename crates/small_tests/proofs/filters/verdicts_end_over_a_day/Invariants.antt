use Rattle.small_tests.proofs.filters.verdicts_end_over_a_day.Given as goal

abbrev pub ghosts-passes : goal.ghosts-passes
ghosts-passes g a = record { name = a.blank.name; parts = a.blank.parts }
