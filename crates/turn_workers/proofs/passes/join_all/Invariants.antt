use Rattle.std.proofs.Common.{◌≡◌, ◌<◌, ◌+◌, ◌++◌, ℕ, map, slice_index_or, vec_len, vec_capacity, length}
use Rattle.std.specs.Vec.Iter.{into_iter_items}
use Rattle.desk_turn.specs.Passes.{IsPassOf, caller_of, out_of, own, lists}
use Rattle.turn_workers.specs.Round.{signed, owned}
use Rattle.turn_workers.proofs.passes.join_all.Given as goal

-- What is said of the seats that are left begins at the first of them, so that each turn of the loop takes it at place 0.
abbrev pub invariant-loop-seat : goal.invariant-loop-seat
invariant-loop-seat g l =
    IsPassOf l.turn l.first
    × (caller_of l.first ≡ 0)
    × (out_of l.first ≡ length (into_iter_items l.seat-iterator))
    × (own l.first ≡ own l.fn.first)
    × (vec_len l.ended + length (into_iter_items l.seat-iterator) ≡ vec_len l.fn.seats)
    × (vec_capacity l.ended ≡ vec_capacity l.fn.ended)
    × (lists l.first ≡ lists l.fn.first ++ map signed l.ended.items)
    × (map signed l.ended.items ++ map (λ s. owned s.pass) (into_iter_items l.seat-iterator) ≡ map (λ s. owned s.pass) l.fn.seats.items)
    × ((i : ℕ) (d : _) → i < length (into_iter_items l.seat-iterator)
    → IsPassOf l.turn (slice_index_or (into_iter_items l.seat-iterator) i d).pass × (0 < caller_of (slice_index_or (into_iter_items l.seat-iterator) i d).pass))
