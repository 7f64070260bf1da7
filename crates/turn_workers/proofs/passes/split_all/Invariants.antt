use Rattle.std.proofs.Common.{◌≡◌, ◌<◌, ◌≤◌, ◌+◌, ◌*◌, ◌-◌, ℕ, [], slice_index_or, vec_len, vec_capacity}
use Rattle.desk_turn.specs.Passes.{IsPassOf, caller_of, left_of, made_of, out_of, seen, own, lists}
use Rattle.turn_workers.proofs.passes.split_all.Given as goal

-- The calls that are still to be given out are said as a product that shrinks, which spares a subtraction of products.
abbrev pub invariant-loop : goal.invariant-loop
invariant-loop g l =
    IsPassOf l.turn l.first
    × (caller_of l.first ≡ 0)
    × (made_of l.first ≡ made_of l.fn.first + l.counter)
    × (l.counter ≤ l.workers)
    × ((l.workers - l.counter) * l.calls ≤ left_of l.first)
    × (out_of l.first ≡ out_of l.fn.first + l.counter)
    × (seen l.first ≡ seen l.fn.first) × (own l.first ≡ own l.fn.first) × (lists l.first ≡ lists l.fn.first)
    × (vec_len l.seats ≡ l.counter)
    × (vec_capacity l.seats ≡ vec_capacity l.fn.seats)
    × ((i : ℕ) (d : _) → i < l.counter → IsPassOf l.turn (slice_index_or l.seats.items i d).pass)
    × ((i : ℕ) (d : _) → i < l.counter → caller_of (slice_index_or l.seats.items i d).pass ≡ 1 + (made_of l.fn.first + i))
    × ((i : ℕ) (d : _) → i < l.counter → own (slice_index_or l.seats.items i d).pass ≡ [])
