-- A filter of a tracker tells its owner what a search with its text does.
use Rattle.std.proofs.Common.{◌≡◌, ℕ, Bool, ◌&&◌, List, [], ◌∷◌, filter, map, length, Option, Some, None, Ok, inl, inr, refl, sym, ◌∙◌, ap, subst}
use Rattle.std.proofs.lemmas.Bool.{cases_Bool}
use Rattle.change_history.specs.History.{History}
use Rattle.tracker_calls.specs.Part.{part_of}
use Rattle.tracker_calls.specs.declared.call.Part.{Part}
use Rattle.tracker_calls.specs.declared.cause.Cause.{Cause}
use Rattle.tracker_calls.specs.declared.reply.Answer.TheVariants as answer
use Rattle.tracker_machine.specs.Machine.{Machine}
use Rattle.tracker_machine.specs.Checks.{caller_refusal, part_refusal}
use Rattle.tracker_machine.specs.Meaning.{Meaning, unless, reply_to}
use Rattle.tracker_machine.specs.Meaning.Meaning.{Tells, Finds}
use Rattle.tracker_calls.specs.declared.reply.Reply.TheVariants as reply
use Rattle.tracker_machine.specs.Query.{Query, asked}
use Rattle.tracker_machine.specs.Saved.{SavedFilter, IsFilter, filter_number, query_in, saved_query}
use Rattle.tracker_machine.specs.Search.{found, listed, searched, search_meaning, search_answer}
use Rattle.tracker_machine.specs.Filters.{filter_numbered, shown, filter_answer, filter_told, filter_meaning}
use Rattle.tracker_machine.specs.Step.{meaning, meaning_for, form_refusal, reply_of, user_of}
use Rattle.tracker_machine.proofs.Saved.{all_found}
use Rattle.tracker_sight.specs.Sight.{sees}
use Rattle.tracker_sight.specs.SavedSearches.{as_filtered, FiltersAreSearches, OthersFindOfTheOwners}
use Rattle.tracker_sight.proofs.Lists.{filter_and, filter_and_too}
use Rattle.tracker_sight.proofs.Told.{holds_in, shown_is, found_is}

-- a test that is made twice is made once
filter_twice : {X : Type 0} (a : X → Bool) (xs : List X) → filter (λ x. a x && a x) xs ≡ filter a xs
filter_twice a [] = refl
filter_twice a (x ∷ xs) = elim (cases_Bool (a x)) [
  | inl holds ↦ rw holds (ap (λ v. x ∷ v) (filter_twice a xs))
  | inr fails ↦ rw fails (filter_twice a xs)
]

filters_swap : {X : Type 0} (a b : X → Bool) (xs : List X) → filter a (filter b xs) ≡ filter b (filter a xs)
filters_swap a b xs = sym (filter_and_too a b xs) ∙ filter_and a b xs

-- the owner finds by the filter what he finds by its query
owner_finds : (m : Machine) (f : SavedFilter) → shown m f.owner.0 f ≡ found m f.owner.0 (saved_query m.setup f).condition
owner_finds m f =
    let holds : History → Bool = holds_in m (saved_query m.setup f).condition in
    shown_is m f.owner.0 f ∙ ap (filter holds) (filter_twice (sees m.setup f.owner.0) m.histories) ∙ sym (found_is m f.owner.0 (saved_query m.setup f).condition)

pub others_find_of_the_owners : OthersFindOfTheOwners
others_find_of_the_owners m caller f =
    let holds : History → Bool = holds_in m (saved_query m.setup f).condition in
    let own : History → Bool = sees m.setup f.owner.0 in
    let his : History → Bool = sees m.setup caller in
    shown_is m caller f
    ∙ ap (filter holds) (filter_and own his m.histories)
    ∙ filters_swap holds his (filter own m.histories)
    ∙ ap (λ (hs : List History). filter his (filter holds hs)) (sym (filter_twice own m.histories))
    ∙ ap (filter his) (sym (shown_is m f.owner.0 f))

module _ (m : Machine) (part : Part) (f : SavedFilter) where
  answers : (user : ℕ) (query : Query) → user ≡ f.owner.0 → saved_query m.setup f ≡ query
      → reply_to (Tells (filter_answer m user part f)) ≡ as_filtered (reply_to (Finds (search_answer m user part query)))
  answers user query own is =
      subst (λ u. reply_to (Tells (filter_answer m u part f)) ≡ as_filtered (reply_to (Finds (search_answer m u part query)))) (sym own)
      (subst (λ q. reply_to (Tells (filter_answer m f.owner.0 part f)) ≡ as_filtered (reply_to (Finds (search_answer m f.owner.0 part q)))) is
      (ap (λ (hs : List History). reply.Ok (answer.Filter (map (λ h. h.key) (part_of part (listed m.setup (saved_query m.setup f).keys m.order hs))) (length hs)))
      (owner_finds m f)))

unless_filtered : (r : Option Cause) (one other : Meaning) → reply_to one ≡ as_filtered (reply_to other) → reply_to (unless r one) ≡ as_filtered (reply_to (unless r other))
unless_filtered None one other same = same
unless_filtered (Some r) one other same = refl

pub filters_are_searches : FiltersAreSearches
unfolding reply_of meaning meaning_for form_refusal filter_meaning search_meaning
filters_are_searches m owner filter_no part f is there own =
    let user : ℕ = user_of m owner in
    let one : IsFilter m.setup f = all_found filter_number (IsFilter m.setup) filter_no.0 f m.filters there is.saved.each in
    let asks : asked m.setup user f.text ≡ Ok one.query = ap (λ u. asked m.setup u f.text) own ∙ one.asks in
    unless_filtered (part_refusal 1_000 part) (unless (caller_refusal m owner) (filter_told m user filter_no part (filter_numbered m filter_no)))
    (unless (caller_refusal m owner) (searched m user part (asked m.setup user f.text)))
    (unless_filtered (caller_refusal m owner) (filter_told m user filter_no part (filter_numbered m filter_no)) (searched m user part (asked m.setup user f.text))
    (rw (there, asks) (answers m part f user one.query own (ap query_in one.asks))))
