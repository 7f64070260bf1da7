-- Issues that are found hold what fits.
use Rattle.std.proofs.Common.{ℕ, zero, suc, List, [], ◌∷◌, map, drop, arith, subst}
use Rattle.std.specs.List.{All}
use Rattle.std.proofs.lemmas.List.{get_or-map, length-map}
use Rattle.std.proofs.lemmas.List.Elements.{All-filter, All-take, All-drop}
use Rattle.change_history.specs.History.{History}
use Rattle.tracker_calls.specs.Part.{part_of}
use Rattle.tracker_calls.specs.declared.call.Part.{Part}
use Rattle.tracker_machine.specs.Machine.{Machine}
use Rattle.tracker_machine.specs.Query.{Query}
use Rattle.tracker_machine.specs.Search.{found, listed, is_found, comes_before}
use Rattle.tracker_machine.specs.Tracker.{IsTracker}
use Rattle.tracker_machine.proofs.InOrder.{Each, each_order}
use Rattle.list_calls.specs.Found.{found_in_order}
use Rattle.page_calls.specs.Fitting.{HoldsWhatFits}

each_of_all : {X : Type 0} (P : X → Type 0) (xs : List X) → All P xs → Each P xs
each_of_all P [] all = tt
each_of_all P (x ∷ xs) all = (all 0 x (omega arith), each_of_all P xs (λ k d in'. all (suc k) d (omega (arith, in'))))

all_of_each : {X : Type 0} (P : X → Type 0) (xs : List X) → Each P xs → All P xs
all_of_each P [] each k d in' = absurd (omega (arith, in'))
all_of_each P (x ∷ xs) each zero d in' = each.0
all_of_each P (x ∷ xs) each (suc k) d in' = all_of_each P xs each.1 k d (omega (arith, in'))

-- what holds of each image holds of each element's image
pub all_of_map : {X Y : Type 0} (f : X → Y) (P : Y → Type 0) (xs : List X) → All P (map f xs) → All (λ x. P (f x)) xs
all_of_map f P xs all k d in' = subst P (get_or-map f xs k d (f d) in') (all k (f d) (rw (length-map xs f) in'))

each_holds : (m : Machine) → IsTracker m → All (HoldsWhatFits m.setup) m.histories
each_holds m is k d in' = (is.settled k d in').holding

-- so of each in a part of what is found
pub part_holds : (m : Machine) (caller : ℕ) (query : Query) (part : Part) → IsTracker m → All (HoldsWhatFits m.setup) (part_of part (found_in_order m caller query))
unfolding found listed
part_holds m caller query part is =
    let P : History → Type 0 = HoldsWhatFits m.setup in
    let some : All P (found m caller query.condition) = All-filter (is_found m caller query.condition) P m.histories (each_holds m is) in
    let ordered : All P (found_in_order m caller query) =
    all_of_each P (found_in_order m caller query) (each_order (comes_before m.setup query.keys m.order) P (found m caller query.condition) (each_of_all P (found m caller query.condition) some)) in
    All-take P part.count (drop part.from (found_in_order m caller query)) (All-drop P part.from (found_in_order m caller query) ordered)
