-- What a condition in memory says, by its kind.
use Rattle.std.proofs.Common.{◌≡◌, ℕ, true, false, Option, refl, Vec, Global, rules}
use Rattle.change_history.specs.History.{History}
use Rattle.jql_bound.specs.declared.cond.Cond.{Cond, All, Any, Now, Past, the_lemmas}
use Rattle.jql_bound.specs.declared.leaf.Leaf.{Leaf}
use Rattle.jql_bound.specs.declared.past.PastLeaf.{PastLeaf}
use Rattle.jql_bound.specs.Condition.{Condition, Conditions, now, past, all_of, any_of, view, views}
use Rattle.jql_meaning.specs.Surroundings.{Surroundings}
use Rattle.jql_meaning.specs.Present.{holds_now}
use Rattle.jql_meaning.specs.Past.{holds_past}
use Rattle.jql_meaning.specs.Truth.{holds}
use Rattle.jql_meaning.specs.Critical.{IsCritical, IsCriticalNow, IsCriticalPast, IsCriticalForOne}
use Rattle.jql_meaning.specs.Ends.{Stays}
use Rattle.jql_eval.specs.Joined.{joined}

pub view-All : (v : Vec Cond Global) → view (All v) ≡ all_of (views v.items)
view-All v = search (rules, the_lemmas)

pub view-Any : (v : Vec Cond Global) → view (Any v) ≡ any_of (views v.items)
view-Any v = search (rules, the_lemmas)

pub view-Now : (leaf : Leaf) → view (Now leaf) ≡ now leaf
view-Now leaf = search (rules, the_lemmas)

pub view-Past : (leaf : PastLeaf) → view (Past leaf) ≡ past leaf
view-Past leaf = search (rules, the_lemmas)

module _ (s : Surroundings) (h : History) where
  pub all_hold_is : (t : ℕ) (cs : Conditions) → joined false s h t cs ≡ holds s h t (all_of cs)
  unfolding holds
  all_hold_is t cs = refl

  pub some_holds_is : (t : ℕ) (cs : Conditions) → joined true s h t cs ≡ holds s h t (any_of cs)
  unfolding holds
  some_holds_is t cs = refl

  pub now_is : (t : ℕ) (leaf : Leaf) → holds_now s leaf h t ≡ holds s h t (now leaf)
  unfolding holds
  now_is t leaf = refl

  pub past_is : (t : ℕ) (leaf : PastLeaf) → holds_past s leaf h t ≡ holds s h t (past leaf)
  unfolding holds
  past_is t leaf = refl

  -- the truth of a condition stays until then
  abbrev pub ConditionStays : Condition → ℕ → Option ℕ → Type 0
  ConditionStays c at until = Stays (λ t. holds s h t c) (λ t. IsCritical s h t c) at until

  pub all_stay : (at : ℕ) (until : Option ℕ) (cs : Conditions) → Stays (λ t. joined false s h t cs) (λ t. IsCriticalForOne s h t cs) at until → ConditionStays (all_of cs) at until
  unfolding holds IsCritical
  all_stay at until cs stays = stays

  pub some_stay : (at : ℕ) (until : Option ℕ) (cs : Conditions) → Stays (λ t. joined true s h t cs) (λ t. IsCriticalForOne s h t cs) at until → ConditionStays (any_of cs) at until
  unfolding holds IsCritical
  some_stay at until cs stays = stays

  pub now_stays : (at : ℕ) (until : Option ℕ) (leaf : Leaf) → Stays (holds_now s leaf h) (IsCriticalNow s h leaf) at until → ConditionStays (now leaf) at until
  unfolding holds IsCritical
  now_stays at until leaf stays = stays

  pub past_stays : (at : ℕ) (until : Option ℕ) (leaf : PastLeaf) → Stays (holds_past s leaf h) (IsCriticalPast s h leaf) at until → ConditionStays (past leaf) at until
  unfolding holds IsCritical
  past_stays at until leaf stays = stays
