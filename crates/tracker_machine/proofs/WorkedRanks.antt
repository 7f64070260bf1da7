-- Moves, rebalancings and searches of a tracker of three issues: worked replies.
use Rattle.std.proofs.Common.{◌≡◌, ℕ, List, [], ◌∷◌, Ok, codes, map, refl, pos, false}
use Rattle.field_values.specs.declared.numbers.UserNo.{UserNo}
use Rattle.field_values.specs.declared.numbers.GroupNo.{GroupNo}
use Rattle.field_values.specs.declared.words.Weekday.TheVariants.{Monday}
use Rattle.field_values.specs.declared.words.Category.TheVariants.{ToDo}
use Rattle.field_values.specs.Parts.{Parts}
use Rattle.change_history.specs.History.{History}
use Rattle.workflow.specs.Conditions.{project_number}
use Rattle.rank_strings.specs.Choice.{chosen_between}
use Rattle.board.specs.Order.{Pair}
use Rattle.board.specs.Moved.{rank_given}
use Rattle.jql_bound.specs.declared.order.Direction.{Direction}
use Rattle.jql_bound.specs.declared.order.Direction.TheVariants.{Ascending, Descending}
use Rattle.jql_bound.specs.declared.order.SortField.TheVariants as SortField
use Rattle.jql_meaning.specs.Order.{issue_cmp}
use Rattle.rank_balancer.specs.declared.balance.Balance.{Balance}
use Rattle.rank_balancer.specs.declared.balance.Balance.TheVariants.{Idle}
use Rattle.rank_balancer.specs.Planned.{planned}
use Rattle.tracker_calls.specs.declared.call.Call.{Call}
use Rattle.tracker_calls.specs.declared.call.Call.TheVariants as call
use Rattle.tracker_calls.specs.declared.reply.RankedKey.{RankedKey}
use Rattle.tracker_calls.specs.declared.reply.Answer.TheVariants as answer
use Rattle.tracker_calls.specs.declared.reply.BalanceState.TheVariants as state
use Rattle.tracker_calls.specs.declared.cause.BalanceKept.TheVariants as kept
use Rattle.tracker_calls.specs.declared.cause.Cause.TheVariants as cause
use Rattle.tracker_calls.specs.declared.reply.Refusal.TheVariants as refusal
use Rattle.tracker_calls.specs.declared.reply.Reply.{Reply}
use Rattle.tracker_calls.specs.declared.reply.Reply.TheVariants as reply
use Rattle.tracker_machine.specs.Machine.{Machine}
use Rattle.tracker_machine.specs.Effect.{applied}
use Rattle.tracker_machine.specs.Rank.{last_rank}
use Rattle.tracker_machine.specs.Listing.{in_order, put_in}
use Rattle.tracker_machine.specs.Search.{listed}
use Rattle.tracker_machine.specs.Step.{meaning, meaning_for, form_refusal, reply_of, next_of}

abbrev user : ℕ → UserNo
user place = record { 0 = place }

abbrev pub team : List GroupNo
team = (record { 0 = 1 }) ∷ []

abbrev pub setup : Parts
setup = record {
  utc_offset_minutes = pos 0;
  week_starts = Monday;
  rebalancer = user 0;
  users = codes "anna" ∷ [];
  types = codes "Task" ∷ [];
  priorities = codes "High" ∷ [];
  resolutions = codes "Fixed" ∷ [];
  versions = [];
  first_status = record { 0 = 0 };
  plan = [];
  administer = team;
  group = (record { name = codes "team"; members = user 0 ∷ [] }) ∷ [];
  project = (record { key = codes "OPS"; lead = user 0; browse = team; create = []; edit = []; transition = []; rank = team }) ∷ [];
  status = (record { name = codes "Open"; category = ToDo }) ∷ [];
  transition = [];
  field = [];
  offset = [];
}

abbrev pub issue : ℕ → List ℕ → History
issue n key = record { no = record { 0 = n }; key = key; change = n; at = 0; author = user 0; opening = []; entries = [] }

-- a rank of six digits, and the pair of an issue
abbrev pair : ℕ → List ℕ → ℕ → Pair
pair bucket front n = (record { bucket = bucket; front = front; further = [] }, record { 0 = n })

abbrev tracker : List Pair → Balance → Machine
tracker order balance = record {
  text = codes "a setup's text";
  setup = setup;
  moment = 0;
  change = 3;
  histories = issue 1 (codes "OPS-1") ∷ issue 2 (codes "OPS-2") ∷ issue 3 (codes "OPS-3") ∷ [];
  externals = [];
  order = order;
  balance = balance;
  sprints = [];
  filters = [];
  boards = [];
}

-- the ranks that three creates give: `0|i00000:`, `0|i006bk:` and `0|i00cn4:`
abbrev pub three : Machine
three = tracker (pair 0 (18 ∷ 0 ∷ 0 ∷ 0 ∷ 0 ∷ 0 ∷ []) 1 ∷ pair 0 (18 ∷ 0 ∷ 0 ∷ 6 ∷ 11 ∷ 20 ∷ []) 2 ∷ pair 0 (18 ∷ 0 ∷ 0 ∷ 12 ∷ 23 ∷ 4 ∷ []) 3 ∷ []) (Idle 0)

abbrev tells : Machine → Call → Reply
tells m c = reply_of m (codes "anna") c

abbrev after : Machine → Call → Machine
after m c = next_of m (codes "anna") c

abbrev moved : List ℕ → List ℕ → Reply
moved name rank = reply.Ok (answer.Move name rank)

abbrev told : List ℕ → List ℕ → RankedKey
told name rank = record { issue = name; rank = rank }

abbrev all : Call
all = call.Ranks (record { from = 0; count = 1_000 })

-- ---- moves

-- the first issue goes between the two others
abbrev first_move : Call
first_move = call.MoveAfter (codes "OPS-1") (codes "OPS-2")

pub between_two : tells three first_move ≡ moved (codes "OPS-1") (codes "0|i009hc:")
unfolding reply_of next_of meaning meaning_for form_refusal applied project_number planned rank_given chosen_between
between_two = refl

-- where it is moved to the place at which it stands it keeps its rank, and nothing changes
abbrev same_move : Call
same_move = call.MoveBefore (codes "OPS-1") (codes "OPS-3")

pub same_place : tells (after three first_move) same_move ≡ moved (codes "OPS-1") (codes "0|i009hc:")
unfolding reply_of next_of meaning meaning_for form_refusal applied project_number planned rank_given chosen_between
same_place = refl

pub nothing_changes : after (after three first_move) same_move ≡ after three first_move
unfolding reply_of next_of meaning meaning_for form_refusal applied project_number planned rank_given chosen_between
nothing_changes = refl

-- before all others the rank is 8,192 below the first one
pub before_all : tells (after three first_move) (call.MoveBefore (codes "OPS-3") (codes "OPS-2")) ≡ moved (codes "OPS-3") (codes "0|i00000:")
unfolding reply_of next_of meaning meaning_for form_refusal applied project_number planned rank_given chosen_between
before_all = refl

-- ---- a search in the order of ranks

abbrev keys_listed : Machine → Direction → List (List ℕ)
keys_listed m direction = map (λ h. h.key) (listed m.setup ((record { field = SortField.Rank; direction = direction }) ∷ []) m.order m.histories)

-- after that move the second issue stands above the first one
pub from_the_top : keys_listed (after three first_move) Ascending ≡ codes "OPS-2" ∷ codes "OPS-1" ∷ codes "OPS-3" ∷ []
unfolding next_of meaning meaning_for form_refusal applied project_number rank_given chosen_between issue_cmp listed in_order put_in
from_the_top = refl

pub from_the_bottom : keys_listed (after three first_move) Descending ≡ codes "OPS-3" ∷ codes "OPS-1" ∷ codes "OPS-2" ∷ []
unfolding next_of meaning meaning_for form_refusal applied project_number rank_given chosen_between issue_cmp listed in_order put_in
from_the_bottom = refl

-- ---- a move in the middle of a rebalancing

abbrev step : ℕ → Call
step count = call.RebalanceStep count

abbrev one_step : Machine
one_step = after (after three call.RebalanceStart) (step 1)

pub started : tells three call.RebalanceStart ≡ reply.Ok (answer.RebalanceStart 0 1)
unfolding reply_of next_of meaning meaning_for form_refusal applied project_number planned rank_given chosen_between
started = refl

pub stepped_once : tells (after three call.RebalanceStart) (step 1) ≡ reply.Ok (answer.RebalanceStep 2 1)
unfolding reply_of next_of meaning meaning_for form_refusal applied project_number planned rank_given chosen_between
stepped_once = refl

-- between a rank of the old bucket and one of the new one a place is in the new one
pub moved_over : tells one_step first_move ≡ moved (codes "OPS-1") (codes "1|qzztog:")
unfolding reply_of next_of meaning meaning_for form_refusal applied project_number planned rank_given chosen_between
moved_over = refl

abbrev moved_tracker : Machine
moved_tracker = after one_step first_move

pub stepped_to_the_end : tells moved_tracker (step 16) ≡ reply.Ok (answer.RebalanceStep 0 1)
unfolding reply_of next_of meaning meaning_for form_refusal applied project_number planned rank_given chosen_between
stepped_to_the_end = refl

pub ranks_at_the_end : tells (after moved_tracker (step 16)) all
    ≡ reply.Ok (answer.Ranks (told (codes "OPS-2") (codes "1|qzzncw:") ∷ told (codes "OPS-1") (codes "1|qzztog:") ∷ told (codes "OPS-3") (codes "1|r00000:") ∷ []) 3)
unfolding reply_of next_of meaning meaning_for form_refusal applied project_number planned rank_given chosen_between
ranks_at_the_end = refl

pub idle_refuses : tells (after moved_tracker (step 16)) (step 16) ≡ reply.Refused (refusal.Cause (cause.BalanceIs (kept.Idle 1)))
unfolding reply_of next_of meaning meaning_for form_refusal applied project_number planned rank_given chosen_between
idle_refuses = refl

pub moving_refuses : tells one_step call.RebalanceStart ≡ reply.Refused (refusal.Cause (cause.BalanceIs (kept.Moving 0 1)))
unfolding reply_of next_of meaning meaning_for form_refusal applied project_number planned rank_given chosen_between
moving_refuses = refl

pub moving_is_told : tells one_step call.Balance ≡ reply.Ok (answer.Balance (state.Moving 0 2 1) 9 false)
unfolding reply_of next_of meaning meaning_for form_refusal applied project_number planned rank_given chosen_between
moving_is_told = refl

-- ---- from bucket 2 to bucket 0 the first goes first

-- `2|qzzncw:`, `2|qzztog:` and `2|r00000:`
abbrev high : Machine
high = tracker (pair 2 (26 ∷ 35 ∷ 35 ∷ 23 ∷ 12 ∷ 32 ∷ []) 1 ∷ pair 2 (26 ∷ 35 ∷ 35 ∷ 29 ∷ 24 ∷ 16 ∷ []) 2 ∷ pair 2 (27 ∷ 0 ∷ 0 ∷ 0 ∷ 0 ∷ 0 ∷ []) 3 ∷ []) (Idle 2)

pub started_from_two : tells high call.RebalanceStart ≡ reply.Ok (answer.RebalanceStart 2 0)
unfolding reply_of next_of meaning meaning_for form_refusal applied project_number planned rank_given chosen_between
started_from_two = refl

pub first_goes_first : tells (after (after high call.RebalanceStart) (step 1)) all
    ≡ reply.Ok (answer.Ranks (told (codes "OPS-1") (codes "0|900000:") ∷ told (codes "OPS-2") (codes "2|qzztog:") ∷ told (codes "OPS-3") (codes "2|r00000:") ∷ []) 3)
unfolding reply_of next_of meaning meaning_for form_refusal applied project_number planned rank_given chosen_between
first_goes_first = refl

-- a new issue still goes behind all others, `2|r006bk:`
pub new_one_goes_last : last_rank (after (after high call.RebalanceStart) (step 1)) ≡ Ok (record { bucket = 2; front = 27 ∷ 0 ∷ 0 ∷ 6 ∷ 11 ∷ 20 ∷ []; further = [] })
unfolding reply_of next_of meaning meaning_for form_refusal applied project_number planned rank_given chosen_between
new_one_goes_last = refl

pub all_in_bucket_zero : tells (after (after high call.RebalanceStart) (step 16)) all
    ≡ reply.Ok (answer.Ranks (told (codes "OPS-1") (codes "0|900000:") ∷ told (codes "OPS-2") (codes "0|9006bk:") ∷ told (codes "OPS-3") (codes "0|900cn4:") ∷ []) 3)
unfolding reply_of next_of meaning meaning_for form_refusal applied project_number planned rank_given chosen_between
all_in_bucket_zero = refl
