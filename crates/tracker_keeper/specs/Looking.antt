-- What a body would be the row of, by what it says where such a row says it. Whether the body is that row's text is asked
-- afterwards, so nothing here looks for other members, other spellings or another order.
use Rattle.std.specs.Prelude.{ℕ, ◌^◌, ◌==◌, ◌&&◌, List, Option, Some, None, codes, nat_le, nat_lt, option_map, option_and_then, if◌then◌else◌}
use Rattle.field_values.specs.declared.numbers.UserNo.{UserNo}
use Rattle.field_forms.specs.Names.{place_named}
use Rattle.json_texts.specs.JsonMembers.{text_at, title_at}
use Rattle.request_lines.specs.Readings.{last_moment}
use Rattle.rank_balancer.specs.Balance.{next_bucket}
use Rattle.rank_balancer.specs.declared.balance.Balance.{Balance}
use Rattle.rank_balancer.specs.declared.balance.Balance.TheVariants.{Idle, Moving}
use Rattle.sprints.specs.declared.state.SprintState.{SprintState}
use Rattle.sprints.specs.declared.state.SprintState.TheVariants.{Future, Active, Closed}
use Rattle.serde_json.specs.Data.{Data, null, array, no_items, item}
use Rattle.serde_json.specs.Find.{get, as_number, as_u64}
use Rattle.tracker_keeper.specs.declared.part.Part.{Part}
use Rattle.tracker_keeper.specs.declared.part.Part.TheVariants as part
use Rattle.tracker_keeper.specs.declared.part.Format.{Format}
use Rattle.tracker_keeper.specs.declared.part.Format.TheVariants.{First, Second}
use Rattle.external_ids.specs.Form.{is_external}

-- ---- numbers and texts

-- a number of issues, sprints, filters or boards
abbrev pub number_in : ℕ → Option ℕ
number_in row_no = if nat_le 1 row_no && nat_lt row_no (2 ^ 32) then Some row_no else None

-- a whole number of JSON
abbrev pub natural_of : Data → Option ℕ
natural_of d = option_and_then as_u64 (as_number d)

-- one that is no more than a change number can be
abbrev pub whole_of : Data → Option ℕ
whole_of d = option_and_then (λ n. if nat_lt n (2 ^ 64) then Some n else None) (natural_of d)

abbrev pub moment_of : Data → Option ℕ
moment_of d = option_and_then (λ n. if nat_le n last_moment then Some n else None) (natural_of d)

abbrev pub small_of : Data → Option ℕ
small_of d = option_and_then (λ n. if nat_lt n (2 ^ 32) then Some n else None) (natural_of d)

abbrev pub whole_at : List ℕ → Data → Option ℕ
whole_at name d = option_and_then whole_of (get name d)

abbrev pub moment_at : List ℕ → Data → Option ℕ
moment_at name d = option_and_then moment_of (get name d)

abbrev pub small_at : List ℕ → Data → Option ℕ
small_at name d = option_and_then small_of (get name d)

-- the user of a name
abbrev pub user_at : List (List ℕ) → List ℕ → Data → Option UserNo
user_at users name d =
    option_map (λ place. record { 0 = place })
    (option_and_then (λ text. place_named text users) (text_at name d))

-- ---- parts that name nothing of the setup but users

abbrev pub pair_of : Data → Option (ℕ × ℕ)
pair_of (array (item one (item other no_items))) =
    option_and_then (λ at. option_map (λ change. (at, change)) (whole_of other)) (moment_of one)
pair_of _ = None

-- one of the three buckets
abbrev pub bucket_of : Data → Option ℕ
bucket_of d = option_and_then (λ n. if nat_lt n 3 then Some n else None) (natural_of d)

abbrev pub balance_of : Data → Option Balance
balance_of (array (item one no_items)) = option_map Idle (bucket_of one)
balance_of (array (item one (item other no_items))) =
    option_and_then (λ from. option_and_then
    (λ to. if to == next_bucket from then Some (Moving from to) else None) (bucket_of other))
    (bucket_of one)
balance_of _ = None

abbrev pub balance_at : Data → Option Balance
balance_at d = option_and_then balance_of (get (codes "balance") d)

abbrev pub format_at : Data → Option Format
format_at d =
    option_and_then (λ n. if n == 1 then Some First else if n == 2 then Some Second else None)
    (option_and_then natural_of (get (codes "format") d))

unfoldable pub present_like : ℕ → Data → Option Part
present_like row_no d =
    if row_no == 0 then
    option_and_then (λ balance. option_and_then
    (λ change. option_and_then (λ format. option_map (λ moment.
    part.Present balance change format moment)
    (moment_at (codes "moment") d)) (format_at d)) (whole_at (codes "change") d)) (balance_at d)
    else None

unfoldable pub external_like : ℕ → List ℕ → Option Part
external_like row_no body =
    option_and_then (λ n. if is_external body then Some (part.External (record { 0 = n }) body)
    else None) (number_in row_no)

-- a stamp, or null
abbrev pub stamp_of : Data → Option (Option (ℕ × ℕ))
stamp_of null = Some None
stamp_of d = option_map Some (pair_of d)

abbrev pub state_by : Option (ℕ × ℕ) → Option (ℕ × ℕ) → Option SprintState
state_by None None = Some Future
state_by (Some start) None = Some (Active start.0 start.1)
state_by (Some start) (Some close) = Some (Closed start.0 start.1 close.0 close.1)
state_by None (Some close) = None

abbrev pub state_at : Data → Option SprintState
state_at d = option_and_then (λ start. option_and_then (λ close. state_by start close)
    (option_and_then stamp_of (get (codes "close") d)))
    (option_and_then stamp_of (get (codes "start") d))

unfoldable pub sprint_like : ℕ → Data → Option Part
sprint_like row_no d =
    option_and_then (λ n. option_and_then (λ name. option_map (λ state.
    part.Sprint (record { 0 = n }) (record { name = name; state = state }))
    (state_at d)) (title_at (codes "name") d)) (number_in row_no)

unfoldable pub filter_like : List (List ℕ) → ℕ → Data → Option Part
filter_like users row_no d =
    option_and_then (λ n. option_and_then (λ owner. option_and_then (λ name. option_map (λ jql.
    part.Filter (record { 0 = n }) owner name jql)
    (text_at (codes "jql") d)) (title_at (codes "name") d)) (user_at users (codes "owner") d))
    (number_in row_no)

unfoldable pub board_like : ℕ → Data → Option Part
board_like row_no d =
    option_and_then (λ n. option_and_then (λ name. option_map (λ filter.
    part.Board (record { 0 = n }) name (record { 0 = filter }))
    (small_at (codes "filter") d)) (title_at (codes "name") d)) (number_in row_no)
