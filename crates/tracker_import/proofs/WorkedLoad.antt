-- The number of calls of some loads, and the calls of a small one.
use Rattle.std.proofs.Common.{◌≡◌, [], ◌∷◌, length, refl}
use Rattle.tracker_calls.specs.declared.call.Call.TheVariants as call
use Rattle.tracker_import.specs.Load.{create, finish, into_sprint, load_calls, make_sprint, move_up, save_filter, start, start_sprint, step}

pub calls_of_four : length (load_calls 4) ≡ 20
calls_of_four = refl

pub calls_of_twenty : length (load_calls 20) ≡ 81
calls_of_twenty = refl

pub calls_of_a_thousand : length (load_calls 1000) ≡ 3789
calls_of_a_thousand = refl

-- five issues: the third is in the sprint, the second and the fourth are worked on, the fourth is finished, and the fifth goes up
pub five_issues : load_calls 5 ≡
    call.Tick 1 ∷ create 1 ∷ call.Tick 2 ∷ create 2 ∷ call.Tick 3 ∷ create 3 ∷ call.Tick 4 ∷ create 4 ∷ call.Tick 5 ∷ create 5
    ∷ make_sprint ∷ into_sprint 3 ∷ start_sprint ∷ save_filter
    ∷ call.Tick 7 ∷ start 2 ∷ call.Tick 9 ∷ start 4 ∷ finish 4
    ∷ move_up 5 ∷ call.RebalanceStart ∷ step ∷ call.Tick 86_407 ∷ []
five_issues = refl
