-- The text of each body is read as its data.
use Rattle.std.proofs.Common.{◌≡◌, ℕ, ◌<◌, ◌^◌, ◌==◌, nat_lt, true, List, Some, refl, sym, subst, arith, zero, suc, ltb-true, eqb-true}
use Rattle.std.proofs.lemmas.Bool.{and_parts}
use Rattle.serde_json.specs.Read.{read}
use Rattle.serde_json.specs.Written.{compact_text}
use Rattle.serde_json.proofs.Numbers.{number_of-decimal}
use Rattle.json.proofs.Printed.Decimals.{IsNumber-decimal}
use Rattle.rank_balancer.specs.Balance.{next_bucket}
use Rattle.rank_balancer.specs.declared.balance.Balance.{Balance}
use Rattle.rank_balancer.specs.declared.balance.Balance.TheVariants.{Idle, Moving}
use Rattle.sprints.specs.declared.state.SprintState.{SprintState}
use Rattle.sprints.specs.declared.state.SprintState.TheVariants.{Future, Active, Closed}
use Rattle.tracker_keeper.specs.declared.part.Format.{Format}
use Rattle.tracker_keeper.specs.declared.part.Format.TheVariants.{First, Second}
use Rattle.tracker_keeper.specs.Parts.{format_number}
use Rattle.tracker_keeper.specs.Bodies.{present_data, sprint_data, filter_data, board_data}
use Rattle.tracker_keeper.specs.Forms.{is_balance, IsStamp, HasStamps}
use Rattle.tracker_keeper.proofs.Texts.{reads_compact}

pub reads_board : (filter : ℕ) (name : List ℕ) → filter < 2 ^ 64 → read (compact_text (board_data filter name)) ≡ Some (board_data filter name)
unfolding board_data
reads_board filter name fits =
    reads_compact (board_data filter name) (IsNumber-decimal filter fits, (tt, tt)) (omega arith) (rw (number_of-decimal filter fits) refl)

pub reads_filter : (jql name owner : List ℕ) → read (compact_text (filter_data jql name owner)) ≡ Some (filter_data jql name owner)
unfolding filter_data
reads_filter jql name owner = reads_compact (filter_data jql name owner) (tt, (tt, (tt, tt))) (omega arith) refl

pub reads_sprint : (name : List ℕ) (state : SprintState) → HasStamps state → read (compact_text (sprint_data name state)) ≡ Some (sprint_data name state)
unfolding sprint_data
reads_sprint name Future h = reads_compact (sprint_data name Future) (tt, (tt, (tt, tt))) (omega arith) refl
reads_sprint name (Active at change) h =
    let small : at < 2 ^ 64 = omega (arith, h.timely) in
    reads_compact (sprint_data name (Active at change))
    (tt, (tt, ((IsNumber-decimal at small, (IsNumber-decimal change h.counted, tt)), tt))) (omega arith)
    (rw (number_of-decimal at small, number_of-decimal change h.counted) refl)
reads_sprint name (Closed start_at start_change at change) h =
    let start_small : start_at < 2 ^ 64 = omega (arith, h.0.timely) in
    let small : at < 2 ^ 64 = omega (arith, h.1.timely) in
    reads_compact (sprint_data name (Closed start_at start_change at change))
    ((IsNumber-decimal at small, (IsNumber-decimal change h.1.counted, tt)), (tt, ((IsNumber-decimal start_at start_small, (IsNumber-decimal start_change h.0.counted, tt)), tt))) (omega arith)
    (rw (number_of-decimal at small, number_of-decimal change h.1.counted, number_of-decimal start_at start_small, number_of-decimal start_change h.0.counted) refl)

format_small : (format : Format) → format_number format < 2 ^ 64
format_small First = omega arith
format_small Second = omega arith

pub next_inside : (bucket : ℕ) → bucket < 3 → next_bucket bucket < 3
next_inside zero h = omega arith
next_inside (suc zero) h = omega arith
next_inside (suc (suc zero)) h = omega arith
next_inside (suc (suc (suc n))) h = absurd (omega (arith, h))

idle_small : (bucket : ℕ) → is_balance (Idle bucket) ≡ true → bucket < 2 ^ 64
idle_small bucket h = let inside = ltb-true bucket 3 h in omega (arith, inside)

from_small : (from to : ℕ) → is_balance (Moving from to) ≡ true → from < 2 ^ 64
from_small from to h = let inside = ltb-true from 3 (and_parts (nat_lt from 3) (to == next_bucket from) h).0 in omega (arith, inside)

pub to_inside : (from to : ℕ) → is_balance (Moving from to) ≡ true → to < 3
to_inside from to h =
    let parts = and_parts (nat_lt from 3) (to == next_bucket from) h in
    subst (λ n. n < 3) (sym (eqb-true to (next_bucket from) parts.1)) (next_inside from (ltb-true from 3 parts.0))

to_small : (from to : ℕ) → is_balance (Moving from to) ≡ true → to < 2 ^ 64
to_small from to h = let inside = to_inside from to h in omega (arith, inside)

pub reads_present : (balance : Balance) (change : ℕ) (format : Format) (moment : ℕ) → is_balance balance ≡ true → IsStamp moment change
    → read (compact_text (present_data balance change format moment)) ≡ Some (present_data balance change format moment)
unfolding present_data
reads_present (Idle bucket) change format moment b h =
    let small : moment < 2 ^ 64 = omega (arith, h.timely) in
    let bucket_small = idle_small bucket b in
    reads_compact (present_data (Idle bucket) change format moment)
    ((IsNumber-decimal bucket bucket_small, tt), (IsNumber-decimal change h.counted, (IsNumber-decimal (format_number format) (format_small format), (IsNumber-decimal moment small, tt)))) (omega arith)
    (rw (number_of-decimal bucket bucket_small, number_of-decimal change h.counted, number_of-decimal (format_number format) (format_small format), number_of-decimal moment small) refl)
reads_present (Moving from to) change format moment b h =
    let small : moment < 2 ^ 64 = omega (arith, h.timely) in
    reads_compact (present_data (Moving from to) change format moment)
    ((IsNumber-decimal from (from_small from to b), (IsNumber-decimal to (to_small from to b), tt)), (IsNumber-decimal change h.counted, (IsNumber-decimal (format_number format) (format_small format), (IsNumber-decimal moment small, tt)))) (omega arith)
    (rw (number_of-decimal from (from_small from to b), number_of-decimal to (to_small from to b), number_of-decimal change h.counted, number_of-decimal (format_number format) (format_small format), number_of-decimal moment small) refl)
