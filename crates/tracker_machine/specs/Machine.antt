-- The abstract tracker's state. It keeps no present values, no verdicts and no totals.
use Rattle.std.specs.Prelude.{ℕ, List, []}
use Rattle.field_values.specs.Parts.{Parts}
use Rattle.change_history.specs.History.{History}
use Rattle.external_ids.specs.declared.external_id.ExternalId.{ExternalId}
use Rattle.board.specs.Order.{Pair}
use Rattle.board.specs.declared.board.Board.{Board}
use Rattle.rank_balancer.specs.declared.balance.Balance.{Balance}
use Rattle.rank_balancer.specs.declared.balance.Balance.TheVariants.{Idle}
use Rattle.sprints.specs.declared.sprint.Sprint.{Sprint}
use Rattle.tracker_machine.specs.Saved.{SavedFilter}

pub record Machine : Type 0 where
  -- the text of the setup, and its parts, where each group has its present members
  pub text : List ℕ
  pub setup : Parts
  pub moment : ℕ
  -- the number of the last change group
  pub change : ℕ
  -- the issues, by their numbers from 1
  pub histories : List History
  -- what they are called where they came from, by their numbers
  pub externals : List ExternalId
  -- their ranks, the top of a board first, and in which buckets these are
  pub order : List Pair
  pub balance : Balance
  -- the sprints, by their numbers from 1
  pub sprints : List Sprint
  -- saved filters and boards, by their numbers
  pub filters : List SavedFilter
  pub boards : List Board

-- a new tracker of this setup
abbrev pub opening : List ℕ → Parts → Machine
opening text setup = record {
  text = text;
  setup = setup;
  moment = 0;
  change = 0;
  histories = [];
  externals = [];
  order = [];
  balance = Idle 0;
  sprints = [];
  filters = [];
  boards = [];
}
