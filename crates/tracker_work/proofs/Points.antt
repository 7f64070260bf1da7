-- The points of an issue, over all change groups.
use Rattle.std.proofs.Common.{◌⊎◌, inl, inr, ◌≡◌, ℕ, ◌+◌, ◌<◌, ◌≤◌, nat_lt, nat_le, Bool, true, false, cond, List, [], ◌∷◌, ◌++◌, All, Some, None, IfSome, if◌then◌else◌, refl, sym, ◌∙◌, ap, subst, append-nil, arith}
use Rattle.std.proofs.lemmas.Bool.{cases_lt, le-leb, lt-leb}
use Rattle.std.proofs.lemmas.List.Elements.{filter-append, All-nil, All-cons, All-head, All-tail}
use Rattle.field_values.specs.declared.numbers.UserNo.{UserNo}
use Rattle.field_values.specs.declared.numbers.FieldNo.{FieldNo}
use Rattle.field_values.specs.declared.value.Value.{Value}
use Rattle.change_history.specs.declared.entry.Entry.{Entry}
use Rattle.change_history.specs.History.{History, value_after, opening_value, present, AreGroupEntries}
use Rattle.burndown.specs.declared.share.Share.{Share}
use Rattle.burndown.specs.AfterGroup.{up_to, share_then}
use Rattle.burndown.specs.Told.{ArePoints}
use Rattle.burndown.specs.ChartLaws.{with_entries}

-- ---- entries by their numbers

-- entries of one group
abbrev pub AreOfGroup : ℕ → List Entry → Type 0
AreOfGroup number [] = Unit {0}
AreOfGroup number (e ∷ es) = (e.change ≡ number) × AreOfGroup number es

pub of_group : (values : FieldNo → Value) (low number at : ℕ) (author : UserNo) (es : List Entry) → AreGroupEntries values low number at author es → AreOfGroup number es
of_group values low number at author [] group = tt
of_group values low number at author (e ∷ es) group = (group.1, of_group values (e.field.0 + 1) number at author es group.6)

pub are_up_to : (number : ℕ) (es : List Entry) → AreOfGroup number es → All (λ e. e.change ≤ number) es
are_up_to number [] are = All-nil (λ e. e.change ≤ number)
are_up_to number (e ∷ es) are = All-cons (λ (d : Entry). d.change ≤ number) e es (omega (arith, are.0)) (are_up_to number es are.1)

-- all that are of no greater number
pub up_to_whole : (n m : ℕ) (es : List Entry) → All (λ e. e.change ≤ m) es → m ≤ n → up_to n es ≡ es
up_to_whole n m [] all le = refl
up_to_whole n m (e ∷ es) all le =
    let low = All-head (λ (d : Entry). d.change ≤ m) e es all in
    let here : nat_le e.change n ≡ true = le-leb e.change n (omega (arith, low, le)) in
    ap (λ (t : Bool). cond t (e ∷ up_to n es) (up_to n es)) here ∙ ap (λ rest. e ∷ rest) (up_to_whole n m es (All-tail (λ (d : Entry). d.change ≤ m) e es all) le)

-- a group's entries are there from its number on
up_to_later : (n number : ℕ) (es : List Entry) → AreOfGroup number es → number ≤ n → up_to n es ≡ es
up_to_later n number [] are le = refl
up_to_later n number (e ∷ es) are le =
    let here : nat_le e.change n ≡ true = le-leb e.change n (omega (arith, are.0, le)) in
    ap (λ (t : Bool). cond t (e ∷ up_to n es) (up_to n es)) here ∙ ap (λ rest. e ∷ rest) (up_to_later n number es are.1 le)

up_to_earlier : (n number : ℕ) (es : List Entry) → AreOfGroup number es → n < number → up_to n es ≡ []
up_to_earlier n number [] are lt = refl
up_to_earlier n number (e ∷ es) are lt =
    let here : nat_le e.change n ≡ false = lt-leb e.change n (omega (arith, are.0, lt)) in
    ap (λ (t : Bool). cond t (e ∷ up_to n es) (up_to n es)) here ∙ up_to_earlier n number es are.1 lt

-- ---- points

module _ (reading : (FieldNo → Value) → Share) where
  -- the points that an issue had are of the range, by the values that it had then
  abbrev PointsBy : Bool → (FieldNo → Value) → Type 0
  PointsBy before values = IfSome (if before then None else Some (reading values)) (λ share. ArePoints share.points)

  -- the points of an issue are of the range at all times
  abbrev pub AlwaysPoints : History → Type 0
  AlwaysPoints h = (n : ℕ) → IfSome (share_then reading h n) (λ share. ArePoints share.points)

  few_by : (before : Bool) (values : FieldNo → Value) → ArePoints (reading values).points → PointsBy before values
  few_by true values few = tt
  few_by false values few = few

  -- those of an issue without entries, where they are now
  pub bare_points : (h : History) → h.entries ≡ [] → ArePoints (reading (present h)).points → AlwaysPoints h
  bare_points h bare few n =
      let all : h.entries ≡ up_to n h.entries = bare ∙ sym (ap (up_to n) bare) in
      subst (λ es. PointsBy (nat_lt n h.change) (λ f. value_after (opening_value h.opening f) es f)) all (few_by (nat_lt n h.change) (present h) few)

  -- those of an issue that gets a further group, where they were before and are now
  module _ (h : History) (es : List Entry) (now : ℕ) (past : All (λ e. e.change ≤ now) h.entries) (are : AreOfGroup (now + 1) es) where
    before : (n : ℕ) → n ≤ now → up_to n h.entries ≡ up_to n (h.entries ++ es)
    before n le =
        sym (filter-append (λ (e : Entry). nat_le e.change n) h.entries es ∙ ap (λ r. up_to n h.entries ++ r) (up_to_earlier n (now + 1) es are (omega (arith, le))) ∙ append-nil (up_to n h.entries))

    since : (n : ℕ) → now < n → h.entries ++ es ≡ up_to n (h.entries ++ es)
    since n lt =
        sym (filter-append (λ (e : Entry). nat_le e.change n) h.entries es
        ∙ ap (λ r. r ++ up_to n es) (up_to_whole n now h.entries past (omega (arith, lt)))
        ∙ ap (λ r. h.entries ++ r) (up_to_later n (now + 1) es are (omega (arith, lt))))

    pub grown_points : AlwaysPoints h → ArePoints (reading (present (with_entries h es))).points → AlwaysPoints (with_entries h es)
    grown_points had few n = by (cases_lt now n) where
      by : (now < n) ⊎ (n ≤ now) → IfSome (share_then reading (with_entries h es) n) (λ share. ArePoints share.points)
      by (inl lt) =
          subst (λ xs. PointsBy (nat_lt n h.change) (λ f. value_after (opening_value h.opening f) xs f)) (since n lt) (few_by (nat_lt n h.change) (present (with_entries h es)) few)
      by (inr le) =
          subst (λ xs. PointsBy (nat_lt n h.change) (λ f. value_after (opening_value h.opening f) xs f)) (before n le) (had n)
