use Rattle.std.proofs.Common.{◌≡◌, ◌++◌, ◌≤◌, drop}
use Rattle.std.specs.List.{slice_range}
use Rattle.std.specs.Str.{IsCharBoundary}
use Rattle.jql_bound.specs.Words.{words_of, words_from}
use Rattle.jql_grammar.proofs.words.words_of.Given as goal

abbrev pub invariant-loop-place : goal.invariant-loop-place
invariant-loop-place l =
    (words_of l.text ≡ l.words ++ words_from (slice_range l.text l.start l.place) (drop l.place l.text))
    × IsCharBoundary l.text l.start × (l.start ≤ l.place)
