-- Verdicts that were made before they are put in.
use Rattle.std.specs.Prelude.{ℕ, ◌≡◌, List, length, slice_get, Option, Some}
use Rattle.change_history.specs.History.{History}
use Rattle.jql_bound.specs.Condition.{Condition}
use Rattle.jql_meaning.specs.Surroundings.{Surroundings}
use Rattle.jql_eval.specs.Told.{Told}
use Rattle.jql_eval.specs.Right.{IsRight}

-- one for each issue, in order, and each is right
pub record AreVerdicts (around : Surroundings) (moment : ℕ) (query : Option Condition)
    (hs : List History) (verdicts : List Told) : Type 0 where
  pub many : length verdicts ≡ length hs
  pub right : (place : ℕ) (h : History) (t : Told) → slice_get hs place ≡ Some h
      → slice_get verdicts place ≡ Some t →
      IsRight around h query moment t.holds t.until
