-- Histories that tell the same under two setups.
use Rattle.std.proofs.Common.{◌≡◌, ℕ, zero, suc, ◌-◌, ◌⊎◌, Bool, true, false, List, [], ◌∷◌, ◌++◌, map, Option, Some, None, refl, sym, ap, ◌∙◌, subst, arith, inl, inr}
use Rattle.std.specs.Prelude.{slice_get, slice_set}
use Rattle.std.specs.List.{All}
use Rattle.std.specs.Option.{option_map_or}
use Rattle.std.proofs.lemmas.Bool.{true≢false}
use Rattle.std.proofs.lemmas.List.{map-append}
use Rattle.std.proofs.lemmas.List.Elements.{All-head, All-tail}
use Rattle.std.proofs.lemmas.Option.{none-some, same_Some}
use Rattle.field_forms.specs.Known.{Names}
use Rattle.field_values.specs.Parts.{Parts}
use Rattle.field_values.specs.declared.numbers.UserNo.{UserNo}
use Rattle.fields.specs.Naming.{name_at, field_name}
use Rattle.fields.specs.Sound.{part_names, IsSound}
use Rattle.change_history.specs.declared.change.Change.{Change}
use Rattle.change_history.specs.declared.entry.Entry.{Entry}
use Rattle.change_history.specs.declared.entry.Group.{Group}
use Rattle.change_history.specs.History.{History}
use Rattle.serde_json.specs.Data.{unsigned, Data, null, number, string, array, object, Items, no_items, item, Members, no_members, member}
use Rattle.serde_json.specs.Read.{read}
use Rattle.serde_json.specs.View.{items_of}
use Rattle.serde_json.specs.Written.{compact_text}
use Rattle.tracker_keeper.specs.declared.row.Row.{Row}
use Rattle.tracker_keeper.specs.Bodies.{with_values, issue_data, entry_data, group_data}
use Rattle.tracker_keeper.specs.Forms.{IsIssuePart, IsGroupEntry, IsGroupPart}
use Rattle.tracker_keeper.specs.Kept.{part_keys}
use Rattle.tracker_keeper.specs.ValueData.{value_data}
use Rattle.tracker_keeper.proofs.GroupsBack.{reads_group}
use Rattle.tracker_keeper.proofs.IssuesBack.{reads_issue}
use Rattle.tracker_machine.specs.Effect.{longer, grown}

-- ---- what is told of an entry

pub record Told : Type 0 where
  pub at : ℕ
  pub change : ℕ
  pub by : List ℕ
  pub field : List ℕ
  pub from : Data
  pub to : Data

abbrev pub told : Names → Entry → Told
told names e = record {
  at = e.at;
  change = e.change;
  by = name_at names.users e.author.0;
  field = field_name names.fields e.field.0;
  from = value_data names e.field.0 e.from;
  to = value_data names e.field.0 e.to;
}

-- both histories tell the same: of the opening values, and of each entry
pub record IsAlike (names other : Names) (h g : History) : Type 0 where
  pub key : h.key ≡ g.key
  pub at : h.at ≡ g.at
  pub opening : with_values names no_members h.opening ≡ with_values other no_members g.opening
  pub entries : map (told names) h.entries ≡ map (told other) g.entries

abbrev pub AreAlike : Names → Names → List History → List History → Type 0
AreAlike names other [] [] = Unit {0}
AreAlike names other (h ∷ hs) (g ∷ gs) = IsAlike names other h g × AreAlike names other hs gs
AreAlike names other [] (g ∷ gs) = ⊥
AreAlike names other (h ∷ hs) [] = ⊥

alike_pushed : (names other : Names) (hs gs : List History) (h g : History) → AreAlike names other hs gs → IsAlike names other h g
    → AreAlike names other (hs ++ h ∷ []) (gs ++ g ∷ [])
alike_pushed names other [] [] h g all one = (one, tt)
alike_pushed names other (x ∷ hs) (y ∷ gs) h g all one = (all.0, alike_pushed names other hs gs h g all.1 one)
alike_pushed names other [] (y ∷ gs) h g all one = absurd all
alike_pushed names other (x ∷ hs) [] h g all one = absurd all

-- ---- a history grows

grown_first : (h : History) (hs : List History) (entries : List Entry) → grown (h ∷ hs) zero entries ≡ longer h entries ∷ hs
grown_first h hs entries = refl

grown_later : (h : History) (hs : List History) (place : ℕ) (entries : List Entry) → grown (h ∷ hs) (suc place) entries ≡ h ∷ grown hs place entries
grown_later h hs place entries = by (slice_get hs place) refl
  where
    by : (o : Option History) → slice_get hs place ≡ o
        → option_map_or (λ x. slice_set (h ∷ hs) (suc place) (longer x entries)) o (h ∷ hs) ≡ h ∷ option_map_or (λ x. slice_set hs place (longer x entries)) o hs
    by None is = refl
    by (Some x) is = refl

alike_longer : (names other : Names) (h g : History) (es fs : List Entry) → IsAlike names other h g → map (told names) es ≡ map (told other) fs
    → IsAlike names other (longer h es) (longer g fs)
alike_longer names other h g es fs one same = record {
  key = one.key;
  at = one.at;
  opening = one.opening;
  entries = map-append (told names) h.entries es
      ∙ (ap (λ ts. ts ++ map (told names) es) one.entries ∙ (ap (λ ts. map (told other) g.entries ++ ts) same ∙ sym (map-append (told other) g.entries fs)));
}

alike_grown : (names other : Names) (hs gs : List History) (place : ℕ) (es fs : List Entry) → AreAlike names other hs gs → map (told names) es ≡ map (told other) fs
    → AreAlike names other (grown hs place es) (grown gs place fs)
alike_grown names other [] [] place es fs all same = tt
alike_grown names other (h ∷ hs) (g ∷ gs) zero es fs all same = (alike_longer names other h g es fs all.0 same, all.1)
alike_grown names other (h ∷ hs) (g ∷ gs) (suc place) es fs all same =
    subst (λ xs. AreAlike names other xs (grown (g ∷ gs) (suc place) fs)) (sym (grown_later h hs place es))
    (subst (λ ys. AreAlike names other (h ∷ grown hs place es) ys) (sym (grown_later g gs place fs))
    (all.0, alike_grown names other hs gs place es fs all.1 same))
alike_grown names other [] (g ∷ gs) place es fs all same = absurd all
alike_grown names other (h ∷ hs) [] place es fs all same = absurd all

-- ---- what data say

abbrev number_of : Data → ℕ
number_of (number (unsigned n)) = n
number_of _ = 0

abbrev text_of : Data → List ℕ
text_of (string text) = text
text_of _ = []

abbrev items_in : Data → Items
items_in (array ds) = ds
items_in _ = no_items

abbrev members_in : Data → Members
members_in (object ms) = ms
members_in _ = no_members

-- the first member, and those behind it
abbrev first_in : Members → Data
first_in no_members = null
first_in (member k d ms) = d

abbrev behind : Members → Members
behind no_members = no_members
behind (member k d ms) = ms

abbrev first_item : Items → Data
first_item no_items = null
first_item (item d ds) = d

abbrev more_items : Items → Items
more_items no_items = no_items
more_items (item d ds) = ds

abbrev has_items : Items → Bool
has_items no_items = false
has_items (item d ds) = true

-- ---- a change group

abbrev all_of : ℕ → ℕ → List ℕ → List ℕ → Data → Data → Told
all_of at change by field from to = record { at = at; change = change; by = by; field = field; from = from; to = to }

same_told : (x y : Told) → x.at ≡ y.at → x.change ≡ y.change → x.by ≡ y.by → x.field ≡ y.field → x.from ≡ y.from → x.to ≡ y.to → x ≡ y
same_told x y at change by field from to =
    ap (λ (n : ℕ). all_of n x.change x.by x.field x.from x.to) at
    ∙ (ap (λ (n : ℕ). all_of y.at n x.by x.field x.from x.to) change
    ∙ (ap (λ (text : List ℕ). all_of y.at y.change text x.field x.from x.to) by
    ∙ (ap (λ (text : List ℕ). all_of y.at y.change y.by text x.from x.to) field
    ∙ (ap (λ (d : Data). all_of y.at y.change y.by y.field d x.to) from ∙ ap (λ (d : Data). all_of y.at y.change y.by y.field y.from d) to))))

module _ (names other : Names) (change at author_at : ℕ) (author writer : UserNo) (by_same : name_at names.users author.0 ≡ name_at other.users writer.0) where
  entry_alike : (e f : Entry) → IsGroupEntry names change at author e → IsGroupEntry other change author_at writer f → at ≡ author_at → entry_data names e ≡ entry_data other f
      → told names e ≡ told other f
  entry_alike e f of_one of_other at_same same =
      let items = ap items_in same in
      same_told (told names e) (told other f) (of_one.at_is ∙ (at_same ∙ sym of_other.at_is)) (of_one.change_is ∙ sym of_other.change_is)
      (ap (λ (u : UserNo). name_at names.users u.0) of_one.author_is ∙ (by_same ∙ sym (ap (λ (u : UserNo). name_at other.users u.0) of_other.author_is)))
      (ap (λ ds. text_of (first_item ds)) items) (ap (λ ds. first_item (more_items ds)) items) (ap (λ ds. first_item (more_items (more_items ds))) items)

  entries_alike : (es fs : List Entry) → All (IsGroupEntry names change at author) es → All (IsGroupEntry other change author_at writer) fs → at ≡ author_at
      → items_of (map (entry_data names) es) ≡ items_of (map (entry_data other) fs) → map (told names) es ≡ map (told other) fs
  entries_alike [] [] all each at_same same = refl
  entries_alike [] (f ∷ fs) all each at_same same = absurd (true≢false (sym (ap has_items same)))
  entries_alike (e ∷ es) [] all each at_same same = absurd (true≢false (ap has_items same))
  entries_alike (e ∷ es) (f ∷ fs) all each at_same same =
      let first = entry_alike e f (All-head (IsGroupEntry names change at author) e es all) (All-head (IsGroupEntry other change author_at writer) f fs each) at_same (ap first_item same) in
      let rest = entries_alike es fs (All-tail (IsGroupEntry names change at author) e es all) (All-tail (IsGroupEntry other change author_at writer) f fs each) at_same (ap more_items same) in
      ap (λ t. t ∷ map (told names) es) first ∙ ap (λ ts. told other f ∷ ts) rest

-- ---- rows of changes

-- the row is that of the creation of this issue
pub record Opens (setup : Parts) (row : Row) (h : History) : Type 0 where
  pub kind : row.kind ≡ 3
  pub is_part : IsIssuePart (part_names setup) (part_keys setup) h.no.0 h.key h.change h.at h.author h.opening
  pub body : row.body ≡ compact_text (issue_data (part_names setup) h.key h.change h.at h.author h.opening)
  pub none : h.entries ≡ []

-- the row is that of this change group of an issue
pub record Grows (setup : Parts) (row : Row) (issue : ℕ) (g : Group) : Type 0 where
  pub kind : row.kind ≡ 4
  pub change : g.change ≡ row.no
  pub is_part : IsGroupPart (part_names setup) issue g.change g.at g.author g.entries
  pub body : row.body ≡ compact_text (group_data (part_names setup) g.at g.author g.entries issue)

same_issue_data : (one other : Parts) (row : Row) (h g : History) → Opens one row h → Opens other row g
    → issue_data (part_names one) h.key h.change h.at h.author h.opening ≡ issue_data (part_names other) g.key g.change g.at g.author g.opening
same_issue_data one other row h g is also =
    same_Some _ _ (sym (reads_issue one h.no.0 h.key h.change h.at h.author h.opening is.is_part)
    ∙ (ap read (sym is.body ∙ also.body) ∙ reads_issue other g.no.0 g.key g.change g.at g.author g.opening also.is_part))

issue_alike_by : (names other : Names) (h g : History) → h.entries ≡ [] → g.entries ≡ []
    → issue_data names h.key h.change h.at h.author h.opening ≡ issue_data other g.key g.change g.at g.author g.opening → IsAlike names other h g
unfolding issue_data
issue_alike_by names other h g none nothing same =
    let ms = ap members_in same in
    record {
      key = ap (λ x. text_of (first_in (behind (behind (behind (behind x)))))) ms;
      at = ap (λ x. number_of (first_in x)) ms;
      opening = ap (λ x. members_in (first_in (behind (behind (behind x))))) ms;
      entries = ap (map (told names)) none ∙ sym (ap (map (told other)) nothing);
    }

issue_alike : (one other : Parts) (row : Row) (h g : History) → Opens one row h → Opens other row g → IsAlike (part_names one) (part_names other) h g
issue_alike one other row h g is also =
    issue_alike_by (part_names one) (part_names other) h g is.none also.none (same_issue_data one other row h g is also)

same_group_data : (one other : Parts) (row : Row) (issue task : ℕ) (g f : Group) → IsSound one → IsSound other → Grows one row issue g → Grows other row task f
    → group_data (part_names one) g.at g.author g.entries issue ≡ group_data (part_names other) f.at f.author f.entries task
same_group_data one other row issue task g f sound sounds is also =
    same_Some _ _ (sym (reads_group one issue g.change g.at g.author g.entries sound is.is_part)
    ∙ (ap read (sym is.body ∙ also.body) ∙ reads_group other task f.change f.at f.author f.entries sounds also.is_part))

-- what is told of both
record IsSameGroup (names other : Names) (issue task : ℕ) (g f : Group) : Type 0 where
  issue_is : issue ≡ task
  entries : map (told names) g.entries ≡ map (told other) f.entries

group_alike_by : (names other : Names) (issue task : ℕ) (g f : Group) → IsGroupPart names issue g.change g.at g.author g.entries → IsGroupPart other task f.change f.at f.author f.entries
    → g.change ≡ f.change → group_data names g.at g.author g.entries issue ≡ group_data other f.at f.author f.entries task → IsSameGroup names other issue task g f
unfolding group_data
group_alike_by names other issue task g f is also change same =
    let ms = ap members_in same in
    record {
      issue_is = ap (λ x. number_of (first_in (behind (behind (behind x))))) ms;
      entries = entries_alike names other g.change g.at f.at g.author f.author (ap (λ x. text_of (first_in (behind x))) ms) g.entries f.entries is.each
          (subst (λ (c : ℕ). All (IsGroupEntry other c f.at f.author) f.entries) (sym change) also.each) (ap (λ x. number_of (first_in x)) ms)
          (ap (λ x. items_in (first_in (behind (behind x)))) ms);
    }

group_alike : (one other : Parts) (row : Row) (issue task : ℕ) (g f : Group) → IsSound one → IsSound other → Grows one row issue g → Grows other row task f
    → IsSameGroup (part_names one) (part_names other) issue task g f
group_alike one other row issue task g f sound sounds is also =
    group_alike_by (part_names one) (part_names other) issue task g f is.is_part also.is_part (is.change ∙ sym also.change)
    (same_group_data one other row issue task g f sound sounds is also)

-- ---- histories that rows of changes make

-- these rows make the first histories the second ones
abbrev pub Makes : Parts → List History → List Row → List History → Type 0
Makes setup hs [] after = after ≡ hs
Makes setup hs (row ∷ rows) after =
    ((h : History) × Opens setup row h × Makes setup (hs ++ h ∷ []) rows after)
    ⊎ ((issue : ℕ) × (g : Group) × Grows setup row issue g × Makes setup (grown hs (issue - 1) g.entries) rows after)

differ : (row : Row) → row.kind ≡ 3 → row.kind ≡ 4 → ⊥
differ row three four = omega (arith, three, four)

-- the same rows make such as tell the same of such
module _ (one other : Parts) (sound : IsSound one) (sounds : IsSound other) where
  pub make_alike : (rows : List Row) (hs gs after later : List History) → AreAlike (part_names one) (part_names other) hs gs → Makes one hs rows after → Makes other gs rows later
      → AreAlike (part_names one) (part_names other) after later
  make_alike [] hs gs after later all make makes =
      subst (λ xs. AreAlike (part_names one) (part_names other) xs later) (sym make) (subst (AreAlike (part_names one) (part_names other) hs) (sym makes) all)
  make_alike (row ∷ rows) hs gs after later all (inl make) (inl makes) =
      make_alike rows (hs ++ make.0 ∷ []) (gs ++ makes.0 ∷ []) after later
      (alike_pushed (part_names one) (part_names other) hs gs make.0 makes.0 all (issue_alike one other row make.0 makes.0 make.1 makes.1)) make.2 makes.2
  make_alike (row ∷ rows) hs gs after later all (inr make) (inr makes) =
      let same = group_alike one other row make.0 makes.0 make.1 makes.1 sound sounds make.2 makes.2 in
      make_alike rows (grown hs (make.0 - 1) make.1.entries) (grown gs (makes.0 - 1) makes.1.entries) after later
      (subst (λ (n : ℕ). AreAlike (part_names one) (part_names other) (grown hs (make.0 - 1) make.1.entries) (grown gs (n - 1) makes.1.entries)) same.issue_is
      (alike_grown (part_names one) (part_names other) hs gs (make.0 - 1) make.1.entries makes.1.entries all same.entries)) make.3 makes.3
  make_alike (row ∷ rows) hs gs after later all (inl make) (inr makes) = absurd (differ row make.1.kind makes.2.kind)
  make_alike (row ∷ rows) hs gs after later all (inr make) (inl makes) = absurd (differ row makes.1.kind make.2.kind)
