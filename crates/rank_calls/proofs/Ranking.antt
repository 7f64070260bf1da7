-- Ranks that are given, and moves, as calls prepare them.
use Rattle.std.proofs.Common.{◌≡◌, ◌≢◌, ℕ, suc, List, [], ◌∷◌, true, false, slice_get, Option, Some, None, option_map, refl, sym, ap, ◌∙◌, inl, inr}
use Rattle.std.specs.Prelude.{Result, Ok, Err}
use Rattle.std.specs.Str.{bytes_eq}
use Rattle.std.proofs.lemmas.Bool.{cases_Bool}
use Rattle.std.proofs.lemmas.Option.{same_Some, none-some}
use Rattle.std.proofs.lemmas.Slice.Eq.{bytes_eq-Decides}
use Rattle.field_values.specs.declared.numbers.IssueNo.{IssueNo}
use Rattle.change_history.specs.History.{History}
use Rattle.rank_strings.specs.Rank.{RankParts}
use Rattle.board.specs.declared.place.Place.{Place}
use Rattle.board.specs.Moved.{Sides}
use Rattle.tracker_calls.specs.declared.cause.Cause.{Cause}
use Rattle.tracker_machine.specs.Machine.{Machine}
use Rattle.tracker_machine.specs.Known.{place_of_issue, history_named}
use Rattle.tracker_machine.specs.Rank.{with_given, moved_rank, no_room, has_rank}
use Rattle.tracker_machine.specs.Move.{move_refusal, move_meaning, move_answer, moved_beside, newly_ranked}
use Rattle.tracker_machine.specs.Effect.Effect.{NewRank}
use Rattle.tracker_machine.specs.Meaning.{Meaning, unless}
use Rattle.tracker_machine.specs.Meaning.Meaning.{Refuses, Tells, Makes}
use Rattle.tracker_state.specs.Check.{room_refusal}

-- ---- ranks that are given

-- where none is left, the call is refused
pub given_refused : (given : Result RankParts Sides) (due : RankParts → Meaning) (r : Cause) → room_refusal given ≡ Some r
    → with_given given due ≡ Refuses r
given_refused (Ok rank) due r is = absurd (none-some r is)
given_refused (Err sides) due r is = ap Refuses (same_Some (no_room sides) r is)

pub given_means : (given : Result RankParts Sides) (due : RankParts → Meaning) (rank : RankParts) → given ≡ Ok rank
    → with_given given due ≡ due rank
given_means given due rank is = rw is refl

-- ---- issues that are moved

-- the issue at a place has that key
abbrev HasKey : List ℕ → List History → ℕ → Type 0
HasKey name hs k = (h : History) × (slice_get hs k ≡ Some h) × (h.key ≡ name)

key_behind : (name : List ℕ) (g : History) (gs : List History) (k : ℕ) (o : Option ℕ) → ((j : ℕ) → place_of_issue name gs ≡ Some j → HasKey name gs j)
    → place_of_issue name gs ≡ o → option_map suc o ≡ Some k → HasKey name (g ∷ gs) k
key_behind name g gs k None later found e = absurd (none-some k e)
key_behind name g gs k (Some j) later found e =
    let own = later j found in
    (own.0, ap (λ i. slice_get (g ∷ gs) i) (sym (same_Some (suc j) k e)) ∙ own.1, own.2)

-- so has the one that a name leads to
key_is : (name : List ℕ) (hs : List History) (k : ℕ) → place_of_issue name hs ≡ Some k → HasKey name hs k
key_is name [] k at = absurd (none-some k at)
key_is name (g ∷ gs) k at = elim (cases_Bool (bytes_eq g.key name)) [
  | inl same ↦ (g, ap (λ j. slice_get (g ∷ gs) j) (sym (same_Some 0 k (rw same at at))), (bytes_eq-Decides g.key name).0 same)
  | inr other ↦ key_behind name g gs k (place_of_issue name gs) (λ j found. key_is name gs j found) refl (rw other at at)
]

-- issues of two names stand at two places
pub places_differ : (one other : List ℕ) (hs : List History) (j k : ℕ) → bytes_eq other one ≡ false
    → place_of_issue one hs ≡ Some j → place_of_issue other hs ≡ Some k → j ≢ k
places_differ one other hs j k apart at beside same =
    let a = key_is one hs j at in
    let b = key_is other hs k beside in
    let alike : a.0 ≡ b.0 = same_Some a.0 b.0 (sym a.1 ∙ ap (slice_get hs) same ∙ b.1) in
    let names : other ≡ one = sym b.2 ∙ ap (λ (h : History). h.key) (sym alike) ∙ a.2 in
    let equal : bytes_eq other one ≡ true = (bytes_eq-Decides other one).1 names in
    absurd (cc)

-- what the call means where no check refuses it
pub move_means : (m : Machine) (caller : ℕ) (issue other : List ℕ) (place : IssueNo → Place) (own beside : IssueNo)
    → move_refusal m caller issue other ≡ None → option_map (λ h. h.no) (history_named m issue) ≡ Some own
    → option_map (λ h. h.no) (history_named m other) ≡ Some beside
    → move_meaning m caller issue other place ≡ with_given (moved_rank m own (place beside)) (newly_ranked m issue own)
move_means m caller issue other place own beside none here there =
    ap (λ due. unless due (moved_beside m issue place (history_named m issue) (history_named m other))) none
    ∙ by_found (history_named m issue) (history_named m other) here there
  where
    by_found : (one two : Option History) → option_map (λ h. h.no) one ≡ Some own → option_map (λ h. h.no) two ≡ Some beside
        → moved_beside m issue place one two ≡ with_given (moved_rank m own (place beside)) (newly_ranked m issue own)
    by_found None two is also = absurd (none-some own is)
    by_found (Some h) None is also = absurd (none-some beside also)
    by_found (Some h) (Some o) is also =
        let here : h.no ≡ own = same_Some h.no own is in
        let there : o.no ≡ beside = same_Some o.no beside also in
        (λ i. with_given (moved_rank m (here i) (place (there i))) (newly_ranked m issue (here i)))

-- the issue has the rank already, or has another one from now on
pub stays_ranked : (m : Machine) (name : List ℕ) (issue : IssueNo) (rank : RankParts) → has_rank m.order issue rank ≡ true
    → newly_ranked m name issue rank ≡ Tells (move_answer name rank)
stays_ranked m name issue rank is = rw is refl

pub ranked_anew : (m : Machine) (name : List ℕ) (issue : IssueNo) (rank : RankParts) → has_rank m.order issue rank ≡ false
    → newly_ranked m name issue rank ≡ Makes (move_answer name rank) (NewRank issue rank)
ranked_anew m name issue rank is = rw is refl
