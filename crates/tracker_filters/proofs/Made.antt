-- Verdicts that are made one after the other.
use Rattle.std.proofs.Common.{◌≡◌, ℕ, ◌+◌, Some, Option, List, [], ◌∷◌, ◌++◌, length, slice_get, refl, sym, ◌∙◌, ap, subst, inl, inr, length-append}
use Rattle.std.proofs.lemmas.List.{length-map}
use Rattle.std.proofs.lemmas.Option.{none-some, same_Some}
use Rattle.change_history.specs.History.{RoomyHistory, History, histories_of}
use Rattle.jql_bound.specs.Condition.{Condition}
use Rattle.jql_meaning.specs.Surroundings.{Surroundings}
use Rattle.jql_eval.specs.Told.{Told}
use Rattle.jql_eval.specs.Right.{IsRight}
use Rattle.tracker_filters.specs.Ready.{AreVerdicts}
use Rattle.tracker_filters.proofs.Lists.{get_pushed, history_at}

-- so many verdicts on the first issues are right
pub record FirstVerdicts (around : Surroundings) (moment : ℕ) (query : Option Condition) (issues : List RoomyHistory) (verdicts : List Told) (count : ℕ) : Type 0 where
  pub many : length verdicts ≡ count
  pub right : (place : ℕ) (h : History) (t : Told) → slice_get (histories_of issues) place ≡ Some h → slice_get verdicts place ≡ Some t →
      IsRight around h query moment t.holds t.until

pub no_verdict_yet : (around : Surroundings) (moment : ℕ) (query : Option Condition) (issues : List RoomyHistory) → FirstVerdicts around moment query issues [] 0
no_verdict_yet around moment query issues = record { many = refl; right = λ place h t at_h at_t. absurd (none-some t at_t) }

pub one_verdict_more : (around : Surroundings) (moment : ℕ) (query : Option Condition) (issues : List RoomyHistory) (verdicts : List Told) (count : ℕ) (issue : RoomyHistory) (t : Told) → slice_get issues count ≡ Some issue
    → IsRight around issue.history query moment t.holds t.until → FirstVerdicts around moment query issues verdicts count → FirstVerdicts around moment query issues (verdicts ++ t ∷ []) (count + 1)
one_verdict_more around moment query issues verdicts count issue t at right so_far = record {
  many = length-append verdicts (t ∷ []) ∙ ap (λ n. n + 1) so_far.many;
  right = λ place h u at_h at_u. elim (get_pushed verdicts t u place at_u) [
    | inl old ↦ so_far.right place h u at_h old
    | inr new ↦
        let here : place ≡ count = new.0 ∙ so_far.many in
        let history : issue.history ≡ h = same_Some issue.history h (sym (history_at issues count issue at) ∙ ap (slice_get (histories_of issues)) (sym here) ∙ at_h) in
        subst (λ (v : Told). IsRight around h query moment v.holds v.until) new.1 (subst (λ (x : History). IsRight around x query moment t.holds t.until) history right)
  ];
}

pub all_verdicts : (around : Surroundings) (moment : ℕ) (query : Option Condition) (issues : List RoomyHistory) (verdicts : List Told) (count : ℕ) → count ≡ length issues → FirstVerdicts around moment query issues verdicts count → AreVerdicts around moment query (histories_of issues) verdicts
all_verdicts around moment query issues verdicts count all so_far = record { many = so_far.many ∙ all ∙ sym (length-map issues (λ (i : RoomyHistory). i.history)); right = so_far.right }
