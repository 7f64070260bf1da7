-- What a tracker in the making has already, where the next row's part joins it.
use Rattle.std.proofs.Common.{◌≡◌, ℕ, ◌<◌, inl, inr, List, [], ◌∷◌, length, slice_get, Option, Some, None, IfSome, refl, sym, ◌∙◌, subst, arith, zero, suc}
use Rattle.std.specs.List.{All}
use Rattle.std.proofs.lemmas.List.{length-map}
use Rattle.std.proofs.lemmas.List.Elements.{All-weaker}
use Rattle.std.proofs.lemmas.List.Sums.{sum_by-cons}
use Rattle.std.proofs.lemmas.Option.{none-some}
use Rattle.rising_numbers.specs.ByNumber.{by_number}
use Rattle.field_values.specs.declared.parts.Group.{Group}
use Rattle.change_history.specs.declared.entry.Entry.{Entry}
use Rattle.change_history.specs.History.{History}
use Rattle.fields.specs.SetupParts.{names_in}
use Rattle.external_ids.specs.declared.external_id.ExternalId.{ExternalId}
use Rattle.board.specs.declared.board.Board.{Board}
use Rattle.tracker_keeper.specs.declared.row.Row.{Row}
use Rattle.tracker_keeper.specs.declared.part.Format.{Format}
use Rattle.tracker_keeper.specs.declared.part.Part.{Part}
use Rattle.tracker_keeper.specs.declared.part.Part.TheVariants as part
use Rattle.tracker_keeper.specs.Bodies.{body_text}
use Rattle.tracker_keeper.specs.Kept.{IsPart}
use Rattle.tracker_keeper.specs.Parts.{part_kind, part_number}
use Rattle.tracker_machine.specs.Machine.{Machine}
use Rattle.tracker_machine.specs.Chronicle.{HasEntry}
use Rattle.tracker_machine.specs.Checks.{entries_kept}
use Rattle.tracker_machine.specs.Kept.{filter_part}
use Rattle.tracker_machine.specs.Saved.{SavedFilter, filter_number, board_number}
use Rattle.tracker_rows.specs.Gathered.{due}
use Rattle.tracker_rows.specs.Gathered.Gathered.{Stands}
use Rattle.tracker_rows.proofs.Making.{IsUpTo, IsBefore, less_of_kind, IsInMaking, next_rank, next_members}
use Rattle.tracker_rows.proofs.Told.{told_at, told_rows}
use Rattle.tracker_loading.specs.Making.{IsNextPart}

-- ---- issues

-- where no issue has an entry, none are kept
none_kept : (hs : List History) → ((place : ℕ) (h : History) (n a : ℕ) → slice_get hs place ≡ Some h → HasEntry h.entries n a → ⊥) → entries_kept hs ≡ 0
none_kept [] none = refl
none_kept (h ∷ hs) none =
    omega (arith, sum_by-cons (λ (g : History). length g.entries) h hs, own h.entries (λ n a has. none zero h n a refl has), none_kept hs (λ place g n a there has. none (suc place) g n a there has))
  where
    own : (es : List Entry) → ((n a : ℕ) → HasEntry es n a → ⊥) → length es ≡ 0
    own [] no_entry = refl
    own (e ∷ es) no_entry = absurd (no_entry e.change e.at (inl (refl, refl)))

-- groups stand behind all issues
no_group : (kind number n issue : ℕ) → IsUpTo 4 n kind number → IsBefore kind number 3 issue → ⊥
no_group kind number n issue (inl less) (inl more) = omega (arith, less, more)
no_group kind number n issue (inl less) (inr same) = omega (arith, less, same.0)
no_group kind number n issue (inr is) (inl more) = omega (arith, is.0, more)
no_group kind number n issue (inr is) (inr same) = omega (arith, is.0, same.0)

-- ---- the part

module _ (rows : List Row) (format : Format) (told : ℕ) (m : Machine) (changes kind number : ℕ) (is : IsInMaking rows format told m changes kind number) where
  filter_row : (n : ℕ) (f : SavedFilter) → by_number filter_number n m.filters ≡ Some f → told_rows format told m 8 n ≡ Some (body_text (names_in m.setup) (filter_part f))
  unfolding told_at
  filter_row n f found = rw found refl

  filter_free : (n : ℕ) → told_rows format told m 8 n ≡ None → by_number filter_number n m.filters ≡ None
  filter_free n none = by (by_number filter_number n m.filters) refl
    where
      by : (o : Option SavedFilter) → by_number filter_number n m.filters ≡ o → by_number filter_number n m.filters ≡ None
      by None found = found
      by (Some f) found = absurd (none-some (body_text (names_in m.setup) (filter_part f)) (sym none ∙ filter_row n f found))

  board_free : (n : ℕ) → IsBefore kind number 9 n → by_number board_number n m.boards ≡ None
  board_free n before = by (by_number board_number n m.boards) refl
    where
      by : (o : Option Board) → by_number board_number n m.boards ≡ o → by_number board_number n m.boards ≡ None
      by None found = found
      by (Some x) found =
          let less = less_of_kind 9 n kind number n (is.boards n (λ none. none-some x (sym none ∙ found))) before in
          absurd (omega (arith, less))

  externals_before : (issue : ℕ) → IsBefore kind number 6 issue → All (λ e. e.no.0 < issue) m.externals
  externals_before issue before =
      All-weaker (λ (e : ExternalId). IsUpTo 6 e.no.0 kind number) (λ (e : ExternalId). e.no.0 < issue) (λ e up. less_of_kind 6 e.no.0 kind number issue up before)
      m.externals is.last_external

  abbrev IsTimelyAt : ℕ → ℕ → Type 0
  IsTimelyAt k n = IfSome (due (Stands format told m)) (λ wanted. ¬ IsBefore wanted.0 wanted.1 k n)

  -- the part of a row behind all of this, in time and of a place of its own, is the next one
  pub next_part : (p : Part) → IsPart m.setup p → IsBefore kind number (part_kind p) (part_number p) → IsTimelyAt (part_kind p) (part_number p)
      → told_rows format told m (part_kind p) (part_number p) ≡ None → IsNextPart format told m p
  unfolding IsPart IsNextPart
  next_part (part.Setup text) form before timely free = tt
  next_part (part.Present balance change row_format moment) form before timely free = tt
  next_part (part.Issue issue key change at author values) form before timely free =
      none_kept m.histories (λ place h n a there has. no_group kind number n issue.0 (is.groups place h n a there has) before)
  next_part (part.Group issue group) form before timely free =
      λ place n a h there has. less_of_kind 4 n kind number group.change (is.groups place h n a there has) before
  next_part (part.Rank issue rank) form before timely free =
      λ there. next_rank format told m issue.0 kind number form.0.0 there is.last_rank before timely
  next_part (part.External issue external) form before timely free = externals_before issue.0 before
  next_part (part.Sprint sprint_no sprint) form before timely free = tt
  next_part (part.Filter filter_no owner name jql) form before timely free = filter_free filter_no.0 free
  next_part (part.Board board_no name filter) form before timely free = board_free board_no.0 before
  next_part (part.Members group members) form before timely free =
      λ second. next_members told m group.0 kind number form.from_one (omega (arith, form.there, length-map m.setup.group (λ (g : Group). g.name))) is.last_told before
      (subst (λ (f : Format). IfSome (due (Stands f told m)) (λ wanted. ¬ IsBefore wanted.0 wanted.1 10 group.0)) second timely)
