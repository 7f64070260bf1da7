-- Right verdicts at other moments and in other surroundings.
use Rattle.std.proofs.Common.{◌≡◌, ℕ, ◌≤◌, Bool, Option, Some, None, arith, sym, ◌∙◌}
use Rattle.change_history.specs.History.{History}
use Rattle.jql_bound.specs.Condition.{Condition}
use Rattle.jql_meaning.specs.Surroundings.{Surroundings}
use Rattle.jql_meaning.specs.Sprints.{DifferInOtherSprints}
use Rattle.jql_meaning.specs.Truth.{query_holds}
use Rattle.jql_meaning.specs.Critical.{IsCriticalForQuery}
use Rattle.jql_meaning.specs.Ends.{Stays}
use Rattle.jql_meaning.proofs.OwnSprint.{only_own_sprint_matters}
use Rattle.jql_meaning.proofs.Calendars.{critical_by_the_calendar}
use Rattle.jql_eval.specs.Right.{IsRight, IsBeforeEnd}

pub stays_right : (s : Surroundings) (h : History) (query : Option Condition) (at later : ℕ) (holds : Bool) (end : Option ℕ) → IsRight s h query at holds end → at ≤ later → IsBeforeEnd later end → IsRight s h query later holds end
stays_right s h query at later holds None right more before = record {
  truth = right.truth ∙ sym (right.stays later more before);
  stays = λ t low high. right.stays t (omega (arith, low, more)) high ∙ sym (right.stays later more before);
}
stays_right s h query at later holds (Some end) right more before = record {
  truth = right.truth ∙ sym (right.stays.stays later more before);
  stays = record {
    later = before;
    in_time = right.stays.in_time;
    critical = right.stays.critical;
    stays = λ t low high. right.stays.stays t (omega (arith, low, more)) high ∙ sym (right.stays.stays later more before);
  };
}

module _ (one other : Surroundings) (h : History) (query : Option Condition) (d : DifferInOtherSprints one other h) where
  same : (t : ℕ) → query_holds one h t query ≡ query_holds other h t query
  same t = only_own_sprint_matters one other h t query d

  stays_elsewhere : (at : ℕ) (end : Option ℕ) → Stays (λ t. query_holds one h t query) (λ t. IsCriticalForQuery one h t query) at end →
      Stays (λ t. query_holds other h t query) (λ t. IsCriticalForQuery other h t query) at end
  stays_elsewhere at None stays = λ t low high. sym (same t) ∙ stays t low high ∙ same at
  stays_elsewhere at (Some end) stays = record {
    later = stays.later;
    in_time = stays.in_time;
    critical = critical_by_the_calendar one other h end query d.calendar stays.critical;
    stays = λ t low high. sym (same t) ∙ stays.stays t low high ∙ same at;
  }

pub right_elsewhere : (one other : Surroundings) (h : History) (query : Option Condition) (at : ℕ) (holds : Bool) (end : Option ℕ) → DifferInOtherSprints one other h → IsRight one h query at holds end → IsRight other h query at holds end
right_elsewhere one other h query at holds end d right = record {
  truth = right.truth ∙ same one other h query d at;
  stays = stays_elsewhere one other h query d at end right.stays;
}
