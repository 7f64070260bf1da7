-- What an effect changes of lists.
use Rattle.std.proofs.Common.{◌≡◌, ℕ, zero, suc, ◌+◌, ◌<◌, ◌≤◌, Bool, true, false, List, [], ◌∷◌, ◌++◌, get_or, length, map, set, slice_get, nat_lt, Option, Some, None, if◌then◌else◌, refl, sym, ◌∙◌, ap, arith}
use Rattle.std.specs.Option.{option_map_or}
use Rattle.std.proofs.lemmas.Bool.Decides.{nat_tests}
use Rattle.std.proofs.lemmas.List.{length-map, map-append, map-set, set-get_or}
use Rattle.std.proofs.lemmas.Option.{slice_get_within}
use Rattle.change_history.specs.declared.entry.Entry.{Entry}
use Rattle.change_history.specs.declared.entry.Group.{Group}
use Rattle.change_history.specs.History.{History}
use Rattle.rank_strings.specs.Rank.{RankParts}
use Rattle.rising_numbers.specs.ByNumber.{by_number}
use Rattle.list_changes.specs.Differ.{DifferAt, with_at}
use Rattle.tracker_machine.specs.Machine.{Machine}
use Rattle.tracker_machine.specs.Effect.{grown, longer, with_issue, with_group}
use Rattle.tracker_machine.specs.Saved.{filter_number}
use Rattle.filter_lists.specs.Listed.{listed, lists}

-- a list has so many as there are issues
pub length-listed : (m : Machine) (user filter_no : ℕ) → length (listed m user filter_no) ≡ length m.histories
unfolding listed
length-listed m user filter_no = length-map m.histories (lists m user (by_number filter_number filter_no m.filters))

with_at_end : (list : List Bool) (place : ℕ) (is : Bool) → place ≡ length list → with_at place is list ≡ list ++ is ∷ []
with_at_end list place is e =
    let behind : nat_lt place (length list) ≡ false = grind (arith, nat_tests, e) in
    ap (λ t. if t then set list place is else list ++ is ∷ []) behind

with_at_within : (list : List Bool) (place : ℕ) (is : Bool) → place < length list → with_at place is list ≡ set list place is
with_at_within list place is lt =
    let within : nat_lt place (length list) ≡ true = grind (arith, nat_tests, lt) in
    ap (λ t. if t then set list place is else list ++ is ∷ []) within

-- a new issue stands at the end of each list
pub issue_differs : (m : Machine) (h : History) (rank : RankParts) (external : Option (List ℕ)) (user filter_no : ℕ)
    → DifferAt (length m.histories) (listed m user filter_no) (listed (with_issue m h rank external) user filter_no)
unfolding listed
issue_differs m h rank external user filter_no =
    let holds : History → Bool = lists m user (by_number filter_number filter_no m.filters) in
    let long : length (map holds m.histories) ≡ length m.histories = length-map m.histories holds in
    record {
      is = holds h;
      within = omega (arith, long);
      same = map-append holds m.histories (h ∷ []) ∙ sym (with_at_end (map holds m.histories) (length m.histories) (holds h) (sym long));
    }

-- a change of an issue may change its place in each list
pub group_differs : (m : Machine) (place : ℕ) (group : Group) (h : History) (user filter_no : ℕ) → slice_get m.histories place ≡ Some h
    → DifferAt place (listed m user filter_no) (listed (with_group m place group) user filter_no)
unfolding listed
group_differs m place group h user filter_no there =
    let holds : History → Bool = lists m user (by_number filter_number filter_no m.filters) in
    let after = longer h group.entries in
    let long : length (map holds m.histories) ≡ length m.histories = length-map m.histories holds in
    let within : place < length m.histories = slice_get_within m.histories place h there in
    record {
      is = holds after;
      within = omega (arith, long, within);
      same =
          ap (λ o. map holds (option_map_or (λ g. set m.histories place (longer g group.entries)) o m.histories)) there
          ∙ (map-set holds m.histories place after ∙ sym (with_at_within (map holds m.histories) place (holds after) (omega (arith, long, within))));
    }

-- a list that stays is as one that differs at a place
pub same_at : (m : Machine) (place : ℕ) (h : History) (user filter_no : ℕ) → slice_get m.histories place ≡ Some h
    → DifferAt place (listed m user filter_no) (listed m user filter_no)
same_at m place h user filter_no there =
    let list = listed m user filter_no in
    let long = length-listed m user filter_no in
    let within : place < length m.histories = slice_get_within m.histories place h there in
    record {
      is = get_or list place false;
      within = omega (arith, long, within);
      same = sym (with_at_within list place (get_or list place false) (omega (arith, long, within)) ∙ set-get_or list place false);
    }
