-- Counts of issues, entries and text bytes, as an issue or a group comes.
use Rattle.std.proofs.Common.{◌≡◌, ℕ, ◌+◌, List, [], ◌∷◌, ◌++◌, length, slice_get, get_or, set, Some, bytes_eq, ap, arith}
use Rattle.std.specs.Prelude.{if◌then◌else◌, sum_by}
use Rattle.std.proofs.lemmas.List.Sums.{sum_by_push, sum_by-set}
use Rattle.std.proofs.lemmas.Option.{slice_get_within, get_or_from_slice_get}
use Rattle.change_history.specs.declared.entry.Entry.{Entry}
use Rattle.change_history.specs.History.{History}
use Rattle.change_history.specs.Key.{project_of}
use Rattle.tracker_machine.specs.Known.{issues_of}
use Rattle.tracker_machine.specs.Checks.{entries_kept, bytes_kept, history_bytes, entry_bytes}
use Rattle.std.proofs.lemmas.List.Sums.{sum_by-append}

pub issues_of-set : (p : List ℕ) (hs : List History) (k : ℕ) (old new : History) → slice_get hs k ≡ Some old → new.key ≡ old.key → issues_of p (set hs k new) ≡ issues_of p hs
issues_of-set p hs k old new at same =
    let f : History → ℕ = λ i. if bytes_eq (project_of i.key) p then 1 else 0 in
    let here : f (get_or hs k old) ≡ f old = ap f (get_or_from_slice_get hs k old old at) in
    let count : List ℕ → ℕ = λ key. if bytes_eq (project_of key) p then 1 else 0 in
    let alike : f new ≡ f old = ap count same in
    omega (arith, sum_by-set f hs k new old (slice_get_within hs k old at), here, alike)

-- ---- entries

pub entries_kept-push : (hs : List History) (h : History) → entries_kept (hs ++ h ∷ []) ≡ entries_kept hs + length h.entries
entries_kept-push hs h = sum_by_push (λ (i : History). length i.entries) hs h

pub entries_kept-set : (hs : List History) (k : ℕ) (old new : History) → slice_get hs k ≡ Some old → entries_kept (set hs k new) + length old.entries ≡ entries_kept hs + length new.entries
entries_kept-set hs k old new at =
    let here : length (get_or hs k old).entries ≡ length old.entries = ap (λ (h : History). length h.entries) (get_or_from_slice_get hs k old old at) in
    omega (arith, sum_by-set (λ (i : History). length i.entries) hs k new old (slice_get_within hs k old at), here)

-- ---- text bytes

-- those of a history with entries more
pub history_bytes-more : (h : History) (es : List Entry) → history_bytes (record h { entries = h.entries ++ es }) ≡ history_bytes h + sum_by entry_bytes es
history_bytes-more h es = omega (arith, sum_by-append entry_bytes h.entries es)

pub bytes_kept-push : (hs : List History) (h : History) → bytes_kept (hs ++ h ∷ []) ≡ bytes_kept hs + history_bytes h
bytes_kept-push hs h = sum_by_push history_bytes hs h

pub bytes_kept-set : (hs : List History) (k : ℕ) (old new : History) → slice_get hs k ≡ Some old → bytes_kept (set hs k new) + history_bytes old ≡ bytes_kept hs + history_bytes new
bytes_kept-set hs k old new at =
    let here : history_bytes (get_or hs k old) ≡ history_bytes old = ap history_bytes (get_or_from_slice_get hs k old old at) in
    omega (arith, sum_by-set history_bytes hs k new old (slice_get_within hs k old at), here)
