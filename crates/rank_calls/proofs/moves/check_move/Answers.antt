use Rattle.std.proofs.Common.{arith}
use Rattle.rank_calls.proofs.Ranking.{places_differ}
use Rattle.rank_calls.proofs.moves.check_move.Goals as goal

pub returns-clause-apart : goal.returns-clause-apart
returns-clause-apart c = λ same.
    places_differ c.args.issue.now c.args.other.now c.args.state.now.machine.histories c.in_ok-moved.moved.place c.in_ok-beside.beside.place c.requires.apart
    c.in_ok-moved.ensures.place c.in_ok-beside.ensures.place (omega (arith, same, c.number_of.ensures.next, c.number_of-2.ensures.next))
