-- The net difference is the difference, and the only one.
use Rattle.std.proofs.Common.{◌≡◌, ◌≢◌, ◌==◌, ℕ, ◌+◌, ◌<◌, ◌≤◌, List, [], ◌∷◌, ◌++◌, length, Bool, true, false, not, refl, sym, ap, ◌∙◌, arith, inl, inr}
use Rattle.std.specs.Prelude.{if◌then◌else◌, filter}
use Rattle.std.proofs.lemmas.Bool.{eqb-true, eq-eqb, cases_order, not-true, not-false, true≢false}
use Rattle.field_values.specs.declared.numbers.UserNo.{UserNo}
use Rattle.field_values.specs.declared.numbers.FieldNo.{FieldNo}
use Rattle.field_values.specs.declared.value.Value.{Value}
use Rattle.change_history.specs.declared.change.Change.{Change}
use Rattle.change_history.specs.declared.entry.Entry.{Entry}
use Rattle.change_history.specs.History.{History, present, value_after, opening_value, updated, last_change, AreGroupEntries, MayAdd}
use Rattle.workflow.specs.Same.{same_value}
use Rattle.workflow.specs.Net.{last_value, with_changes, put_changes, is_news, net_changes}
use Rattle.workflow.specs.Difference.{AreNews, IsDifference, entries_of}
use Rattle.workflow.proofs.Sameness.{same_value-Decides}
use Rattle.workflow.proofs.Sorting.{AreRising, last_value-other, rising-puts, last_value-puts}

-- ---- what a change to another value is

not_same : (one other : Value) → not (same_value one other) ≡ true → one ≢ other
not_same one other news e = true≢false (sym ((same_value-Decides one other).1 e) ∙ not-true (same_value one other) news)

is_same : (one other : Value) → not (same_value one other) ≡ false → one ≡ other
is_same one other news = (same_value-Decides one other).0 (not-false (same_value one other) news)

news_step : (before : FieldNo → Value) (low : ℕ) (c : Change) (kept : List Change) (news : Bool) → is_news before c ≡ news → low ≤ c.field.0
    → AreNews before (c.field.0 + 1) kept → ((less : ℕ) → less ≤ c.field.0 + 1 → AreNews before less kept)
    → AreNews before low (if news then c ∷ kept else kept)
news_step before low c kept true is from rest weaker = (from, not_same c.to (before c.field) is, rest)
news_step before low c kept false is from rest weaker = weaker low (omega arith)

pub news_from : (before : FieldNo → Value) (low less : ℕ) (cs : List Change) → less ≤ low → AreNews before low cs → AreNews before less cs
news_from before low less [] le news = tt
news_from before low less (c ∷ cs) le news = (omega (arith, news.0), news.1, news.2)

pub news-filter : (before : FieldNo → Value) (low : ℕ) (cs : List Change) → AreRising low cs → AreNews before low (filter (is_news before) cs)
news-filter before low [] rising = tt
news-filter before low (c ∷ cs) rising =
    let rest = news-filter before (c.field.0 + 1) cs rising.1 in
    news_step before low c (filter (is_news before) cs) (is_news before c) refl rising.0 rest
    (λ less le. news_from before (c.field.0 + 1) less (filter (is_news before) cs) le rest)

pub rising_news : (before : FieldNo → Value) (low : ℕ) (cs : List Change) → AreNews before low cs → AreRising low cs
rising_news before low [] news = tt
rising_news before low (c ∷ cs) news = (news.0, rising_news before (c.field.0 + 1) cs news.2)

-- ---- the values after the news alone

field_is : (values : FieldNo → Value) (e f : FieldNo) → e.0 ≡ f.0 → values e ≡ values f
field_is values e f same = ap (λ (n : ℕ). let g : FieldNo = record { 0 = n } in values g) same

kept_step : (before : FieldNo → Value) (c : Change) (cs : List Change) (f : FieldNo) (news hits : Bool) → is_news before c ≡ news → (c.field.0 == f.0) ≡ hits
    → AreRising (c.field.0 + 1) cs → AreRising (c.field.0 + 1) (filter (is_news before) cs)
    → last_value (before f) (filter (is_news before) cs) f ≡ last_value (before f) cs f
    → last_value (before f) (if news then c ∷ filter (is_news before) cs else filter (is_news before) cs) f ≡ last_value (if hits then c.to else before f) cs f
kept_step before c cs f true true is_new is_hit rising fewer more =
    let at = eqb-true c.field.0 f.0 is_hit in
    ap (λ (b : Bool). last_value (if b then c.to else before f) (filter (is_news before) cs) f) is_hit
    ∙ last_value-other (c.field.0 + 1) (filter (is_news before) cs) f c.to fewer (omega arith)
    ∙ sym (last_value-other (c.field.0 + 1) cs f c.to rising (omega arith))
kept_step before c cs f true false is_new is_hit rising fewer more =
    ap (λ (b : Bool). last_value (if b then c.to else before f) (filter (is_news before) cs) f) is_hit ∙ more
kept_step before c cs f false true is_new is_hit rising fewer more =
    let at = eqb-true c.field.0 f.0 is_hit in
    last_value-other (c.field.0 + 1) (filter (is_news before) cs) f (before f) fewer (omega arith)
    ∙ sym (field_is before c.field f at) ∙ sym (is_same c.to (before c.field) is_new)
    ∙ sym (last_value-other (c.field.0 + 1) cs f c.to rising (omega arith))
kept_step before c cs f false false is_new is_hit rising fewer more = more

pub last_value-filter : (before : FieldNo → Value) (low : ℕ) (cs : List Change) (f : FieldNo) → AreRising low cs
    → last_value (before f) (filter (is_news before) cs) f ≡ last_value (before f) cs f
last_value-filter before low [] f rising = refl
last_value-filter before low (c ∷ cs) f rising =
    kept_step before c cs f (is_news before c) (c.field.0 == f.0) refl refl rising.1
    (rising_news before (c.field.0 + 1) (filter (is_news before) cs) (news-filter before (c.field.0 + 1) cs rising.1))
    (last_value-filter before (c.field.0 + 1) cs f rising.1)

pub net_is : (before : FieldNo → Value) (changes : List Change) → IsDifference before (with_changes before changes) (net_changes before changes)
unfolding net_changes
net_is before changes =
    let rising = rising-puts [] changes tt in
    record {
      news = news-filter before 0 (put_changes [] changes) rising;
      gives = λ f. last_value-filter before 0 (put_changes [] changes) f rising ∙ last_value-puts (before f) [] changes f tt;
    }

-- ---- there is one difference

first_hit : (before : FieldNo → Value) (c : Change) (cs : List Change) → AreNews before (c.field.0 + 1) cs → last_value (before c.field) (c ∷ cs) c.field ≡ c.to
first_hit before c cs news =
    ap (λ (b : Bool). last_value (if b then c.to else before c.field) cs c.field) (eq-eqb c.field.0 c.field.0 refl)
    ∙ last_value-other (c.field.0 + 1) cs c.field c.to (rising_news before (c.field.0 + 1) cs news) (omega arith)

-- a change to another value isn't matched by changes of higher fields
unmatched : (before : FieldNo → Value) (c : Change) (cs others : List Change) → AreNews before (c.field.0 + 1) cs → c.to ≢ before c.field → AreNews before (c.field.0 + 1) others
    → last_value (before c.field) (c ∷ cs) c.field ≡ last_value (before c.field) others c.field → ⊥
unmatched before c cs others news other_value higher same =
    other_value (sym (first_hit before c cs news) ∙ same
    ∙ last_value-other (c.field.0 + 1) others c.field (before c.field) (rising_news before (c.field.0 + 1) others higher) (omega arith))

Agree : (FieldNo → Value) → List Change → List Change → Type 0
Agree before one other = (f : FieldNo) → last_value (before f) one f ≡ last_value (before f) other f

tails_agree : (before : FieldNo → Value) (c d : Change) (cs ds : List Change) → c.field.0 ≡ d.field.0 → AreNews before (c.field.0 + 1) cs → AreNews before (d.field.0 + 1) ds
    → ((f : FieldNo) → last_value (before f) (c ∷ cs) f ≡ last_value (before f) (d ∷ ds) f)
    → (f : FieldNo) (hits : Bool) → (c.field.0 == f.0) ≡ hits → last_value (before f) cs f ≡ last_value (before f) ds f
tails_agree before c d cs ds same one other agree f true is_hit =
    let at = eqb-true c.field.0 f.0 is_hit in
    last_value-other (c.field.0 + 1) cs f (before f) (rising_news before (c.field.0 + 1) cs one) (omega arith)
    ∙ sym (last_value-other (d.field.0 + 1) ds f (before f) (rising_news before (d.field.0 + 1) ds other) (omega arith))
tails_agree before c d cs ds same one other agree f false is_hit =
    let apart : (d.field.0 == f.0) ≡ false = ap (λ (n : ℕ). n == f.0) (sym same) ∙ is_hit in
    sym (ap (λ (b : Bool). last_value (if b then c.to else before f) cs f) is_hit) ∙ agree f
    ∙ ap (λ (b : Bool). last_value (if b then d.to else before f) ds f) apart

heads_are : (c d : Change) → c.field.0 ≡ d.field.0 → c.to ≡ d.to → c ≡ d
heads_are c d field to =
    ap (λ (n : ℕ). let x : Change = record { field = record { 0 = n }; to = c.to } in x) field
    ∙ ap (λ (v : Value). let x : Change = record { field = d.field; to = v } in x) to

pub one_difference : (before : FieldNo → Value) (low other_low : ℕ) (one other : List Change) → AreNews before low one → AreNews before other_low other
    → ((f : FieldNo) → last_value (before f) one f ≡ last_value (before f) other f) → one ≡ other
one_difference before low other_low [] [] first second agree = refl
one_difference before low other_low [] (d ∷ ds) first second agree = absurd (unmatched before d ds [] second.2 second.1 tt (sym (agree d.field)))
one_difference before low other_low (c ∷ cs) [] first second agree = absurd (unmatched before c cs [] first.2 first.1 tt (agree c.field))
one_difference before low other_low (c ∷ cs) (d ∷ ds) first second agree =
    elim (cases_order c.field.0 d.field.0) [
      | inl same ↦
          let head : c.to ≡ d.to = sym (first_hit before c cs first.2) ∙ agree c.field
          ∙ ap (λ (n : ℕ). let f : FieldNo = record { 0 = n } in last_value (before f) (d ∷ ds) f) same ∙ first_hit before d ds second.2 in
          let tail : cs ≡ ds = one_difference before (c.field.0 + 1) (d.field.0 + 1) cs ds first.2 second.2
          (λ f. tails_agree before c d cs ds same first.2 second.2 agree f (c.field.0 == f.0) refl) in
          ap (λ (x : Change). x ∷ cs) (heads_are c d same head) ∙ ap (λ (l : List Change). d ∷ l) tail
      | inr apart ↦ elim apart [
        | inl less ↦ absurd (unmatched before c cs (d ∷ ds) first.2 first.1 (omega arith, second.1, second.2) (agree c.field))
        | inr more ↦ absurd (unmatched before d ds (c ∷ cs) second.2 second.1 (omega arith, first.1, first.2) (sym (agree d.field)))
      ]
    ]

pub differences_are_one : (before after : FieldNo → Value) (one other : List Change) → IsDifference before after one → IsDifference before after other → one ≡ other
differences_are_one before after one other first second =
    one_difference before 0 0 one other first.news second.news (λ f. first.gives f ∙ sym (second.gives f))

-- ---- the difference as a change group

group_of : (before : FieldNo → Value) (low change at : ℕ) (author : UserNo) (cs : List Change) → AreNews before low cs
    → AreGroupEntries before low change at author (entries_of before change at author cs)
group_of before low change at author [] news = tt
group_of before low change at author (c ∷ cs) news =
    (news.0, refl, refl, refl, refl, (λ e. news.1 (sym e)), group_of before (c.field.0 + 1) change at author cs news.2)

length-entries : (before : FieldNo → Value) (change at : ℕ) (author : UserNo) (cs : List Change) → length (entries_of before change at author cs) ≡ length cs
length-entries before change at author [] = refl
length-entries before change at author (c ∷ cs) = omega (arith, length-entries before change at author cs)

pub may_be_added : (h : History) (after : FieldNo → Value) (changes : List Change) (change at : ℕ) (author : UserNo)
    → IsDifference (present h) after changes → 0 < length changes → updated h ≤ at → last_change h.change h.entries < change
    → MayAdd h change at author (entries_of (present h) change at author changes)
may_be_added h after changes change at author is some later greater = record {
  some = omega (arith, length-entries (present h) change at author changes);
  later = later;
  greater = greater;
  group = group_of (present h) 0 change at author changes is.news;
}

value_after-append : (v : Value) (xs ys : List Entry) (f : FieldNo) → value_after v (xs ++ ys) f ≡ value_after (value_after v xs f) ys f
value_after-append v [] ys f = refl
value_after-append v (x ∷ xs) ys f = value_after-append (if x.field.0 == f.0 then x.to else v) xs ys f

value_after-entries : (before : FieldNo → Value) (change at : ℕ) (author : UserNo) (v : Value) (cs : List Change) (f : FieldNo)
    → value_after v (entries_of before change at author cs) f ≡ last_value v cs f
value_after-entries before change at author v [] f = refl
value_after-entries before change at author v (c ∷ cs) f = value_after-entries before change at author (if c.field.0 == f.0 then c.to else v) cs f

pub is_made : (h : History) (after : FieldNo → Value) (changes : List Change) (change at : ℕ) (author : UserNo) → IsDifference (present h) after changes
    → (f : FieldNo) → present (record h { entries = h.entries ++ entries_of (present h) change at author changes }) f ≡ after f
is_made h after changes change at author is f =
    value_after-append (opening_value h.opening f) h.entries (entries_of (present h) change at author changes) f
    ∙ value_after-entries (present h) change at author (present h f) changes f
    ∙ is.gives f
