-- The issues that a move names are two of those that are ranked.
use Rattle.std.proofs.Common.{◌≡◌, ◌≢◌, ℕ, suc, ◌+◌, ◌<◌, Bool, true, false, List, [], ◌∷◌, length, slice_get, Option, Some, None, option_map, bytes_eq, IfSome, refl, sym, ap, ◌∙◌, subst, arith}
use Rattle.std.specs.Prelude.{option_and_then, if◌then◌else◌}
use Rattle.std.proofs.lemmas.Option.{same_Some, none-some}
use Rattle.std.proofs.lemmas.Slice.Eq.{bytes_eq-Decides}
use Rattle.change_history.specs.History.{History}
use Rattle.board.specs.declared.place.Place.{Place}
use Rattle.board.specs.Place.{named_by}
use Rattle.tracker_ranks.specs.Ranked.{IsOneOf, AreNumbered}
use Rattle.tracker_machine.specs.Machine.{Machine}
use Rattle.tracker_machine.specs.Known.{place_of_issue, history_named}
use Rattle.tracker_machine.specs.Checks.{other_refusal}
use Rattle.tracker_machine.specs.Tracker.{HasRanks}
use Rattle.tracker_machine.proofs.Keepable.{number_at}

-- the names of a move that is well formed aren't the same
pub apart : (issue other : List ℕ) → other_refusal issue other ≡ None → bytes_eq other issue ≡ false
apart issue other none = by (bytes_eq other issue) refl
  where
    by : (b : Bool) → bytes_eq other issue ≡ b → bytes_eq other issue ≡ false
    by false is = is
    by true is = absurd (none-some _ (sym (rw is at none)))

-- the issue of a name stands at a place, under that name
abbrev StandsUnder : List History → List ℕ → History → Type 0
StandsUnder hs name h = (k : ℕ) × (slice_get hs k ≡ Some h) × (h.key ≡ name)

found_under : (name : List ℕ) (hs : List History) (h : History) → option_and_then (λ place. slice_get hs place) (place_of_issue name hs) ≡ Some h → StandsUnder hs name h
found_under name [] h found = absurd (none-some h found)
found_under name (g ∷ gs) h found = by (found_under name gs h) (bytes_eq g.key name) refl found
  where
    later : (o : Option ℕ) → option_and_then (λ place. slice_get (g ∷ gs) place) (option_map suc o) ≡ Some h → option_and_then (λ place. slice_get gs place) o ≡ Some h
    later None is = is
    later (Some k) is = is

    by : (option_and_then (λ place. slice_get gs place) (place_of_issue name gs) ≡ Some h → StandsUnder gs name h) → (b : Bool) → bytes_eq g.key name ≡ b
        → option_and_then (λ place. slice_get (g ∷ gs) place) (if b then Some 0 else option_map suc (place_of_issue name gs)) ≡ Some h → StandsUnder (g ∷ gs) name h
    by behind true same is = (0, is, sym (ap (λ (i : History). i.key) (same_Some g h is)) ∙ (bytes_eq-Decides g.key name).0 same)
    by behind false other is = let there = behind (later (place_of_issue name gs) is) in (suc there.0, there.1, there.2)

-- two names stand for two issues
module _ (m : Machine) (has : HasRanks m) (issue other : List ℕ) (h o : History) (names_differ : bytes_eq other issue ≡ false)
    (here : history_named m issue ≡ Some h) (there : history_named m other ≡ Some o) where
  own : StandsUnder m.histories issue h
  own = found_under issue m.histories h here

  others : StandsUnder m.histories other o
  others = found_under other m.histories o there

  own_number : (h.no.0 ≡ 1 + own.0) × (own.0 < length m.histories)
  own_number = number_at 1 m.histories own.0 h has.numbers own.1

  others_number : (o.no.0 ≡ 1 + others.0) × (others.0 < length m.histories)
  others_number = number_at 1 m.histories others.0 o has.numbers others.1

  differ : h.no.0 ≢ o.no.0
  differ same =
      let places : others.0 ≡ own.0 = omega (arith, own_number.0, others_number.0, same) in
      let one : h ≡ o = same_Some h o (sym own.1 ∙ ap (slice_get m.histories) (sym places) ∙ others.1) in
      let names : other ≡ issue = sym others.2 ∙ ap (λ (i : History). i.key) (sym one) ∙ own.2 in
      let equal : bytes_eq other issue ≡ true = (bytes_eq-Decides other issue).1 names in
      absurd (cc)

  pub are_numbered : (place : Place) → named_by place ≡ Some o.no → AreNumbered (length m.order) (Some h.no) place
  are_numbered place named = record {
    issue = (omega (arith, own_number.0), omega (arith, own_number, has.each));
    other = subst (λ n. IfSome n (λ i. IsOneOf (length m.order) i.0)) (sym named) (omega (arith, others_number.0), omega (arith, others_number, has.each));
    differ = subst (λ n. IfSome n (λ i. h.no.0 ≢ i.0)) (sym named) differ;
  }
