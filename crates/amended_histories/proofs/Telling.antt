-- What is told of histories that are alike is the same.
use Rattle.std.proofs.Common.{◌≡◌, ℕ, zero, suc, ◌==◌, Bool, true, false, List, [], ◌∷◌, ◌++◌, length, map, take, drop, Option, Some, None, is_some, refl, sym, ap, ◌∙◌, subst, codes}
use Rattle.std.specs.Prelude.{slice_get, option_map, option_and_then, if◌then◌else◌}
use Rattle.std.specs.List.{All}
use Rattle.std.specs.Str.{bytes_eq}
use Rattle.std.proofs.lemmas.List.{length-map}
use Rattle.std.proofs.lemmas.List.Elements.{All-head, All-tail}
use Rattle.field_forms.specs.Known.{Names}
use Rattle.field_values.specs.Parts.{Parts}
use Rattle.fields.specs.Sound.{IsSound}
use Rattle.fields.specs.SetupParts.{names_in}
use Rattle.change_history.specs.declared.entry.Entry.{Entry}
use Rattle.change_history.specs.History.{History}
use Rattle.serde_json.specs.Data.{Data, string, object, array, member, no_members}
use Rattle.serde_json.specs.View.{items_of}
use Rattle.serde_json.specs.Written.{compact_text}
use Rattle.json_texts.specs.JsonData.{natural}
use Rattle.tracker_calls.specs.Part.{part_of}
use Rattle.tracker_calls.specs.declared.call.Part.{Part}
use Rattle.tracker_calls.specs.declared.reply.Answer.{Answer}
use Rattle.tracker_calls.specs.declared.reply.Answer.TheVariants as answer
use Rattle.tracker_calls.specs.declared.reply.Reply.TheVariants as reply
use Rattle.reply_texts.specs.Reply.{entry_data, shown_or_null, reply_text}
use Rattle.tracker_machine.specs.Machine.{Machine}
use Rattle.tracker_machine.specs.Known.{place_of_issue, history_named}
use Rattle.tracker_machine.specs.Entries.{told_entry, history_answer_of}
use Rattle.tracker_machine.specs.Show.{show_answer_of}
use Rattle.tracker_machine.specs.Tracker.{IsSettled, IsTracker, AllEntriesHold}
use Rattle.amended_histories.specs.Telling.{TellTheSame}
use Rattle.amended_histories.proofs.Alike.{Told, told, IsAlike, AreAlike}
use Rattle.amended_histories.proofs.Shows.{show_alike}
use Rattle.amended_histories.proofs.Values.{shown_held}

-- ---- entries

-- what a reply says of an entry
abbrev data_of : Told → Data
data_of t = object
    (member (codes "at") (natural t.at)
    (member (codes "by") (string t.by)
    (member (codes "change") (natural t.change)
    (member (codes "field") (string t.field)
    (member (codes "from") t.from
    (member (codes "to") t.to no_members))))))

entry_told : (names : Names) (e : Entry) → shown_or_null (told_entry names e).from ≡ (told names e).from → shown_or_null (told_entry names e).to ≡ (told names e).to
    → entry_data (told_entry names e) ≡ data_of (told names e)
entry_told names e from to =
    ap (λ d. data_of (record (told names e) { from = d; to = shown_or_null (told_entry names e).to })) from ∙ ap (λ d. data_of (record (told names e) { to = d })) to

entries_told : (names : Names) (es : List Entry) → AllEntriesHold names es → map entry_data (map (told_entry names) es) ≡ map data_of (map (told names) es)
entries_told names [] held = refl
entries_told names (e ∷ es) held =
    ap (λ d. d ∷ map entry_data (map (told_entry names) es))
    (entry_told names e (shown_held names e.field e.from held.0) (shown_held names e.field e.to held.1))
    ∙ ap (λ ds. data_of (told names e) ∷ ds) (entries_told names es held.2)

map_take : {X Y : Type 0} (f : X → Y) (k : ℕ) (xs : List X) → map f (take k xs) ≡ take k (map f xs)
map_take f zero xs = refl
map_take f (suc k) [] = refl
map_take f (suc k) (x ∷ xs) = ap (λ ys. f x ∷ ys) (map_take f k xs)

map_drop : {X Y : Type 0} (f : X → Y) (k : ℕ) (xs : List X) → map f (drop k xs) ≡ drop k (map f xs)
map_drop f zero xs = refl
map_drop f (suc k) [] = refl
map_drop f (suc k) (x ∷ xs) = map_drop f k xs

map_part : {X Y : Type 0} (f : X → Y) (part : Part) (xs : List X) → map f (part_of part xs) ≡ part_of part (map f xs)
map_part f part xs = map_take f part.count (drop part.from xs) ∙ ap (take part.count) (map_drop f part.from xs)

-- the data of a part of the entries
part_told : (names : Names) (part : Part) (es : List Entry) → AllEntriesHold names es
    → map entry_data (map (told_entry names) (part_of part es)) ≡ part_of part (map data_of (map (told names) es))
part_told names part es held =
    ap (map entry_data) (map_part (told_entry names) part es) ∙ (map_part entry_data part (map (told_entry names) es) ∙ ap (part_of part) (entries_told names es held))

-- ---- histories

-- what `history` replies of an issue, by the data of the entries that it tells
abbrev history_reply : List Data → ℕ → List ℕ
history_reply ds total = compact_text (object (member (codes "ok")
    (object (member (codes "entries") (array (items_of ds)) (member (codes "total") (natural total) no_members))) no_members))

abbrev told_text : Part → List Told → List ℕ
told_text part ts = history_reply (part_of part (map data_of ts)) (length ts)

abbrev history_of : Names → Part → History → Answer
history_of names part h = answer.History (map (told_entry names) (part_of part h.entries)) (length h.entries)

history_said : (names : Names) (part : Part) (h : History) → AllEntriesHold names h.entries → reply_text (reply.Ok (history_of names part h)) ≡ told_text part (map (told names) h.entries)
unfolding reply_text
history_said names part h held =
    ap (λ ds. history_reply ds (length h.entries)) (part_told names part h.entries held)
    ∙ ap (history_reply (part_of part (map data_of (map (told names) h.entries)))) (sym (length-map h.entries (told names)))

-- ---- issues that are named

abbrev found_in : List History → List ℕ → Option History
found_in hs key = option_and_then (λ place. slice_get hs place) (place_of_issue key hs)

found_later : (h : History) (hs : List History) (o : Option ℕ) → option_and_then (λ place. slice_get (h ∷ hs) place) (option_map suc o) ≡ option_and_then (λ place. slice_get hs place) o
found_later h hs None = refl
found_later h hs (Some place) = refl

module _ (names other : Names) (P Q : History → Type 0) where
  -- both are there and alike, or neither
  abbrev AreFound : Option History → Option History → Type 0
  AreFound None None = Unit {0}
  AreFound (Some h) (Some g) = IsAlike names other h g × P h × Q g
  AreFound None (Some g) = ⊥
  AreFound (Some h) None = ⊥

  found_alike : (hs gs : List History) (key : List ℕ) → AreAlike names other hs gs → All P hs → All Q gs → AreFound (found_in hs key) (found_in gs key)
  found_alike [] [] key all each every = tt
  found_alike [] (g ∷ gs) key all each every = absurd all
  found_alike (h ∷ hs) [] key all each every = absurd all
  found_alike (h ∷ hs) (g ∷ gs) key all each every =
      by (bytes_eq h.key key) refl (ap (λ (k : List ℕ). bytes_eq k key) (sym all.0.key))
      (found_alike hs gs key all.1 (All-tail P h hs each) (All-tail Q g gs every))
    where
      here : (hs : List History) (h : History) → bytes_eq h.key key ≡ true → found_in (h ∷ hs) key ≡ Some h
      here hs h is = rw is refl

      later : (hs : List History) (h : History) → bytes_eq h.key key ≡ false → found_in (h ∷ hs) key ≡ found_in hs key
      later hs h other = rw other (found_later h hs (place_of_issue key hs))

      by : (b : Bool) → bytes_eq h.key key ≡ b → bytes_eq g.key key ≡ bytes_eq h.key key → AreFound (found_in hs key) (found_in gs key)
          → AreFound (found_in (h ∷ hs) key) (found_in (g ∷ gs) key)
      by true is same rest =
          subst (λ o. AreFound o (found_in (g ∷ gs) key)) (sym (here hs h is))
          (subst (λ o. AreFound (Some h) o) (sym (here gs g (same ∙ is))) (all.0, All-head P h hs each, All-head Q g gs every))
      by false apart same rest =
          subst (λ o. AreFound o (found_in (g ∷ gs) key)) (sym (later hs h apart))
          (subst (λ o. AreFound (found_in hs key) o) (sym (later gs g (same ∙ apart))) rest)

-- ---- trackers

abbrev IsKept : Machine → History → Type 0
IsKept m h = IsSettled (names_in m.setup) m.moment m.change h

abbrev AreFoundIn : Machine → Machine → Option History → Option History → Type 0
AreFoundIn m later one other = AreFound (names_in m.setup) (names_in later.setup) (IsKept m) (IsKept later) one other

same_there : (m later : Machine) (one other : Option History) → AreFoundIn m later one other → is_some other ≡ is_some one
same_there m later None None found = refl
same_there m later (Some h) (Some g) found = refl
same_there m later None (Some g) found = absurd found
same_there m later (Some h) None found = absurd found

same_history : (m later : Machine) (part : Part) (one other : Option History) → AreFoundIn m later one other
    → reply_text (reply.Ok (history_answer_of later part other)) ≡ reply_text (reply.Ok (history_answer_of m part one))
same_history m later part None None found = refl
same_history m later part (Some h) (Some g) found =
    history_said (names_in later.setup) part g found.2.held
    ∙ (ap (told_text part) (sym found.0.entries) ∙ sym (history_said (names_in m.setup) part h found.1.held))
same_history m later part None (Some g) found = absurd found
same_history m later part (Some h) None found = absurd found

same_show : (m later : Machine) (one other : Option History) → IsSound m.setup → IsSound later.setup → AreFoundIn m later one other
    → reply_text (reply.Ok (show_answer_of later other)) ≡ reply_text (reply.Ok (show_answer_of m one))
same_show m later None None sound sounds found = refl
same_show m later (Some h) (Some g) sound sounds found =
    show_alike m.setup later.setup sound sounds m.moment m.change later.moment later.change h g found.1 found.2 found.0
same_show m later None (Some g) sound sounds found = absurd found
same_show m later (Some h) None sound sounds found = absurd found

-- histories that are alike are told the same
pub tell_the_same : (m later : Machine) → IsTracker m → IsTracker later → IsSound m.setup → IsSound later.setup
    → AreAlike (names_in m.setup) (names_in later.setup) m.histories later.histories → TellTheSame m later
tell_the_same m later is also sound sounds all =
    let found = λ (key : List ℕ). found_alike (names_in m.setup) (names_in later.setup) (IsKept m) (IsKept later) m.histories later.histories key all is.settled also.settled in
    record {
      there = λ issue. same_there m later (history_named m issue) (history_named later issue) (found issue);
      histories = λ part issue. same_history m later part (history_named m issue) (history_named later issue) (found issue);
      shows = λ issue. same_show m later (history_named m issue) (history_named later issue) sound sounds (found issue);
    }
