-- In the data of a part's body the reader finds that part.
use Rattle.std.proofs.Common.{◌≡◌, ℕ, ◌^◌, true, List, Option, None, option_map, Some, nat_lt, refl, lt-ltb, ltb-true, sym, unwrap_or, ap, ◌∙◌, [], length, le-leb, ◌==◌}
use Rattle.std.proofs.lemmas.Bool.{and_parts}
use Rattle.std.proofs.lemmas.Option.{slice_get-get_or}
use Rattle.field_values.specs.declared.numbers.UserNo.{UserNo}
use Rattle.field_forms.specs.Names.{place_named, AreDistinct}
use Rattle.field_forms.proofs.RoundTrip.{place_is}
use Rattle.fields.specs.Naming.{name_at}
use Rattle.field_values.specs.declared.numbers.IssueNo.{IssueNo}
use Rattle.field_values.specs.declared.numbers.SprintNo.{SprintNo}
use Rattle.field_values.specs.declared.numbers.FilterNo.{FilterNo}
use Rattle.field_values.specs.declared.numbers.BoardNo.{BoardNo}
use Rattle.request_lines.specs.Readings.{last_moment}
use Rattle.rank_balancer.specs.Balance.{next_bucket}
use Rattle.rank_balancer.specs.declared.balance.Balance.{Balance}
use Rattle.rank_balancer.specs.declared.balance.Balance.TheVariants.{Idle, Moving}
use Rattle.sprints.specs.declared.state.SprintState.{SprintState}
use Rattle.sprints.specs.declared.state.SprintState.TheVariants.{Future, Active, Closed}
use Rattle.tracker_keeper.specs.declared.part.Format.{Format}
use Rattle.tracker_keeper.specs.declared.part.Format.TheVariants.{First, Second}
use Rattle.tracker_keeper.specs.declared.part.Part.TheVariants as part
use Rattle.tracker_keeper.specs.Bodies.{present_data, sprint_data, filter_data, board_data}
use Rattle.tracker_keeper.specs.Forms.{IsNumber, is_balance, IsPresentPart, IsSprintPart, IsBoardPart, IsFilterPart, IsExternalPart, is_user}
use Rattle.tracker_keeper.proofs.ReadBack.{to_inside}
use Rattle.tracker_keeper.specs.Looking.{number_in, present_like, sprint_like, board_like, filter_like, external_like}

pub numbered : (n : ℕ) → IsNumber n → number_in n ≡ Some n
numbered n h = rw (le-leb 1 n h.0, lt-ltb n (2 ^ 32) h.1) refl

pub board_found : (row_no : BoardNo) (name : List ℕ) (filter : FilterNo) → IsBoardPart row_no.0 name filter.0
    → board_like row_no.0 (board_data filter.0 name) ≡ Some (part.Board row_no name filter)
unfolding board_data board_like
board_found row_no name filter h = rw (numbered row_no.0 h.numbered, h.named, lt-ltb filter.0 (2 ^ 32) h.small) refl

pub external_found : (issue : IssueNo) (external : List ℕ) → IsExternalPart issue.0 external → external_like issue.0 external ≡ Some (part.External issue external)
unfolding external_like
external_found issue external h = rw (numbered issue.0 h.numbered, h.formed) refl

pub sprint_found : (row_no : SprintNo) (name : List ℕ) (state : SprintState) → IsSprintPart row_no.0 name state
    → sprint_like row_no.0 (sprint_data name state) ≡ Some (part.Sprint row_no (record { name = name; state = state }))
unfolding sprint_data sprint_like
sprint_found row_no name Future h = rw (numbered row_no.0 h.numbered, h.named) refl
sprint_found row_no name (Active at change) h = rw (numbered row_no.0 h.numbered, h.named, le-leb at last_moment h.stamped.timely, lt-ltb change (2 ^ 64) h.stamped.counted) refl
sprint_found row_no name (Closed start_at start_change at change) h =
    rw (numbered row_no.0 h.numbered, h.named, le-leb start_at last_moment h.stamped.0.timely, le-leb at last_moment h.stamped.1.timely, lt-ltb start_change (2 ^ 64) h.stamped.0.counted, lt-ltb change (2 ^ 64) h.stamped.1.counted) refl

abbrev HasBuckets : ℕ → ℕ → Type 0
HasBuckets from to = (nat_lt from 3 ≡ true) × (nat_lt to 3 ≡ true) × ((to == next_bucket from) ≡ true)

buckets : (from to : ℕ) → is_balance (Moving from to) ≡ true → HasBuckets from to
buckets from to h =
    let parts = and_parts (nat_lt from 3) (to == next_bucket from) h in
    (parts.0, lt-ltb to 3 (to_inside from to h), parts.1)

pub present_found : (balance : Balance) (change : ℕ) (format : Format) (moment : ℕ) → IsPresentPart balance change moment
    → present_like 0 (present_data balance change format moment) ≡ Some (part.Present balance change format moment)
unfolding present_data present_like
present_found (Idle bucket) change First moment h = rw (h.balanced, le-leb moment last_moment h.stamped.timely, lt-ltb change (2 ^ 64) h.stamped.counted) refl
present_found (Idle bucket) change Second moment h = rw (h.balanced, le-leb moment last_moment h.stamped.timely, lt-ltb change (2 ^ 64) h.stamped.counted) refl
present_found (Moving from to) change First moment h = let b = buckets from to h.balanced in rw (b.0, b.1, b.2, le-leb moment last_moment h.stamped.timely, lt-ltb change (2 ^ 64) h.stamped.counted) refl
present_found (Moving from to) change Second moment h = let b = buckets from to h.balanced in rw (b.0, b.1, b.2, le-leb moment last_moment h.stamped.timely, lt-ltb change (2 ^ 64) h.stamped.counted) refl

-- the name of a user is that user's alone
pub name_tells : (users : List (List ℕ)) (user : UserNo) → AreDistinct users → is_user (length users) user ≡ true → place_named (name_at users user.0) users ≡ Some user.0
name_tells users user distinct inside =
    let there = slice_get-get_or users user.0 [] (ltb-true user.0 (length users) inside) in
    place_is users user.0 (name_at users user.0) distinct (ap (λ o. Some (unwrap_or o [])) there ∙ sym there)

pub filter_found : (users : List (List ℕ)) (row_no : FilterNo) (owner : UserNo) (name jql : List ℕ) → AreDistinct users → IsFilterPart users row_no.0 owner name
    → filter_like users row_no.0 (filter_data jql name (name_at users owner.0)) ≡ Some (part.Filter row_no owner name jql)
unfolding filter_data filter_like
filter_found users row_no owner name jql distinct h = rw (numbered row_no.0 h.numbered, name_tells users owner distinct h.owned, h.named) refl

-- a number that is looked up is the user of that number
pub user_of : (user : Option UserNo) (place : Option ℕ) → option_map (λ u. u.0) user ≡ place → user ≡ option_map (λ p. let u : UserNo = record { 0 = p } in u) place
user_of None place e = ap (λ o. option_map (λ p. let u : UserNo = record { 0 = p } in u) o) e
user_of (Some user) place e = ap (λ o. option_map (λ p. let u : UserNo = record { 0 = p } in u) o) e
