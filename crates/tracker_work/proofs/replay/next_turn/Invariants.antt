use Rattle.std.proofs.Common.{ℕ, ◌≤◌, ◌<◌, IfSome}
use Rattle.tracker_work.specs.Seen.{state_in}
use Rattle.tracker_work.specs.States.{StaysUntil}
use Rattle.tracker_work.proofs.replay.next_turn.Given as goal

abbrev pub invariant-loop-place : goal.invariant-loop-place
invariant-loop-place l = record {
  next : (s : ℕ) → s ≤ l.place → StaysUntil l.after l.next (state_in l.sprints.sprints s);
  ahead : IfSome l.next (λ next. l.after < next);
}
