-- Reading calls of a user have the same replies whatever happens to issues that the user may not browse.
use Rattle.std.proofs.Common.{◌≡◌, ℕ, ◌||◌, Bool, true, false, List, [], ◌∷◌, filter, Option, Some, None, Result, Ok, Err, is_some, refl, sym, ◌∙◌, ap, ap₂, subst}
use Rattle.std.specs.Prelude.{if◌then◌else◌}
use Rattle.std.specs.Bool.{MatchBool}
use Rattle.std.specs.Str.{bytes_eq}
use Rattle.std.proofs.lemmas.Slice.Eq.{bytes_eq-Decides}
use Rattle.field_values.specs.Parts.{Parts}
use Rattle.board.specs.declared.board.Board.{Board}
use Rattle.tracker_calls.specs.declared.call.Call.{Call}
use Rattle.tracker_calls.specs.declared.call.Call.TheVariants as call
use Rattle.tracker_calls.specs.declared.call.Part.{Part}
use Rattle.tracker_calls.specs.declared.cause.Cause.{Cause}
use Rattle.tracker_calls.specs.declared.reply.Reply.{Reply}
use Rattle.call_lines.specs.Asked.{line_of}
use Rattle.tracker_machine.specs.Machine.{Machine}
use Rattle.tracker_machine.specs.Known.{known_place}
use Rattle.tracker_machine.specs.Checks.{caller_refusal}
use Rattle.tracker_machine.specs.Tracker.{HasRanks}
use Rattle.tracker_machine.specs.Meaning.{Meaning, unless, reply_to, next_after}
use Rattle.tracker_machine.specs.Meaning.Meaning.{Tells}
use Rattle.tracker_machine.specs.Query.{Query, asked}
use Rattle.tracker_machine.specs.Saved.{SavedFilter}
use Rattle.tracker_machine.specs.IssueList.{fields_refusal, wanted_fields, list_meaning, issues_listed}
use Rattle.tracker_machine.specs.Search.{search_meaning, searched}
use Rattle.tracker_machine.specs.Filters.{filter_meaning, filter_numbered, filter_told}
use Rattle.tracker_machine.specs.Boards.{board_meaning, board_numbered, board_told}
use Rattle.tracker_machine.specs.Step.{meaning, meaning_for, form_refusal, user_of, reply_of, next_of}
use Rattle.tracker_runs.specs.Run.{Mark, plain, memory, keeper, Marked, asked_reply, asked_next, marked_reply, marked_next}
use Rattle.tracker_sight.specs.Sight.{sees, numbers_by_rank, SeemAlike}
use Rattle.tracker_sight.specs.Confidentiality.{has_issue_named}
use Rattle.tracker_sight.specs.Hidden.{LineDoesHidden}
use Rattle.tracker_sight.specs.Readers.{is_setting, SeesNoMore, SeesNamed, Reads, is_asked_by, asks_to_set, is_by, is_open_to, AsksToRead, LeadsToNoMore, ReadsAmongHidden, replies_read, open_lines, ReadersSeeNoHidden, RunsReadTheSame}
use Rattle.tracker_sight.proofs.Told.{answers_tell_of_the_seen, issues_tell_of_the_seen, seen_issues_are_there}
use Rattle.tracker_sight.proofs.Unseen.{as_before, alike_then, marked_shows_not, marked_keeps}
use Rattle.tracker_sight.proofs.Settings.{settings_lead, settings_tell, users_stay}

-- ---- a call that only tells leaves the tracker

module _ (m : Machine) where
  unless_stays : (r : Option Cause) (due : Meaning) → next_after due m ≡ m → next_after (unless r due) m ≡ m
  unless_stays None due stays = stays
  unless_stays (Some r) due stays = refl

  searched_stays : (user : ℕ) (part : Part) (query : Result Query Cause) → next_after (searched m user part query) m ≡ m
  searched_stays user part (Err r) = refl
  searched_stays user part (Ok query) = refl

  listed_stays : (user : ℕ) (numbers : List ℕ) (part : Part) (query : Result Query Cause) → next_after (issues_listed m user numbers part query) m ≡ m
  listed_stays user numbers part (Err r) = refl
  listed_stays user numbers part (Ok query) = refl

  for_stays : (user : ℕ) (c : Call) → Reads m user c → next_after (meaning_for m user c) m ≡ m
  unfolding meaning_for search_meaning list_meaning filter_meaning board_meaning
  for_stays user (call.Search jql part) reads = searched_stays user part (asked m.setup user jql)
  for_stays user (call.Filter filter_no part) reads = by (filter_numbered m filter_no)
    where
      by : (o : Option SavedFilter) → next_after (filter_told m user filter_no part o) m ≡ m
      by None = refl
      by (Some f) = refl
  for_stays user (call.Board board_no part) reads = by (board_numbered m board_no)
    where
      by : (o : Option Board) → next_after (board_told m user board_no part o) m ≡ m
      by None = refl
      by (Some b) = refl
  for_stays user (call.List jql fields part) reads =
      unless_stays (fields_refusal m.setup.field fields) (issues_listed m user (wanted_fields m.setup.field fields) part (asked m.setup user jql))
      (listed_stays user (wanted_fields m.setup.field fields) part (asked m.setup user jql))
  for_stays user (call.Filters part) reads = refl
  for_stays user (call.Boards part) reads = refl
  for_stays user (call.Sprints part) reads = refl
  for_stays user call.Describe reads = refl
  for_stays user (call.Show issue) reads = unless_stays _ (Tells _) refl
  for_stays user (call.History issue part) reads = unless_stays _ (Tells _) refl
  for_stays user _ reads = absurd reads

  reads_stay : (caller : List ℕ) (c : Call) → Reads m (user_of m caller) c → next_of m caller c ≡ m
  unfolding next_of meaning
  reads_stay caller c reads =
      unless_stays (form_refusal c) (unless (caller_refusal m caller) (meaning_for m (user_of m caller) c))
      (unless_stays (caller_refusal m caller) (meaning_for m (user_of m caller) c) (for_stays (user_of m caller) c reads))

-- ---- a user who sees the same

pub same_user : (m other : Machine) (caller : List ℕ) → other.setup.users ≡ m.setup.users → user_of other caller ≡ user_of m caller
same_user m other caller same = ap (λ (names : List (List ℕ)). known_place caller names) same

pub alike_back : (user : ℕ) (m other : Machine) → SeemAlike user m other → SeemAlike user other m
alike_back user m other alike = record {
  setup = sym alike.setup;
  moment = sym alike.moment;
  filters = sym alike.filters;
  boards = sym alike.boards;
  sprints = sym alike.sprints;
  names = sym alike.names;
  issues = subst (λ (s : Parts). filter (sees s user) m.histories ≡ filter (sees s user) other.histories) (sym alike.setup) (sym alike.issues);
  ranks = subst (λ (s : Parts). numbers_by_rank (filter (sees s user) m.histories) m.order ≡ numbers_by_rank (filter (sees s user) other.histories) other.order)
      (sym alike.setup) (sym alike.ranks);
}

module _ (m other : Machine) (user : ℕ) (alike : SeemAlike user m other) where
  -- what is seen in the first is seen in the other
  named_on : (issue : List ℕ) → SeesNamed m user issue → SeesNamed other user issue
  named_on issue it = record {
    h = it.h;
    there = seen_issues_are_there m other user issue it.h alike it.there it.seen;
    seen = ap (λ (s : Parts). sees s user it.h) alike.setup ∙ it.seen;
  }

  reads_on : (c : Call) → Reads m user c → Reads other user c
  reads_on (call.Search jql part) reads = tt
  reads_on (call.Filter filter_no part) reads = tt
  reads_on (call.Board board_no part) reads = tt
  reads_on (call.List jql fields part) reads = tt
  reads_on (call.Filters part) reads = tt
  reads_on (call.Boards part) reads = tt
  reads_on (call.Sprints part) reads = tt
  reads_on call.Describe reads = tt
  reads_on (call.Show issue) reads = named_on issue reads
  reads_on (call.History issue part) reads = named_on issue reads
  reads_on _ reads = absurd reads

  there_in_both : (issue : List ℕ) → SeesNamed m user issue → has_issue_named other issue ≡ has_issue_named m issue
  there_in_both issue it = ap is_some (named_on issue it).there ∙ sym (ap is_some it.there)

reads_alike : (m other : Machine) (caller : List ℕ) (c : Call) → SeemAlike (user_of m caller) m other → Reads m (user_of m caller) c → meaning other caller c ≡ meaning m caller c
reads_alike m other caller (call.Search jql part) alike reads = answers_tell_of_the_seen m other caller (call.Search jql part) alike refl
reads_alike m other caller (call.Filter filter_no part) alike reads = answers_tell_of_the_seen m other caller (call.Filter filter_no part) alike refl
reads_alike m other caller (call.Board board_no part) alike reads = answers_tell_of_the_seen m other caller (call.Board board_no part) alike refl
reads_alike m other caller (call.List jql fields part) alike reads = answers_tell_of_the_seen m other caller (call.List jql fields part) alike refl
reads_alike m other caller (call.Filters part) alike reads = answers_tell_of_the_seen m other caller (call.Filters part) alike refl
reads_alike m other caller (call.Boards part) alike reads = answers_tell_of_the_seen m other caller (call.Boards part) alike refl
reads_alike m other caller (call.Sprints part) alike reads = answers_tell_of_the_seen m other caller (call.Sprints part) alike refl
reads_alike m other caller call.Describe alike reads = answers_tell_of_the_seen m other caller call.Describe alike refl
reads_alike m other caller (call.Show issue) alike reads =
    issues_tell_of_the_seen m other caller (call.Show issue) issue alike refl (there_in_both m other (user_of m caller) alike issue reads)
reads_alike m other caller (call.History issue part) alike reads =
    issues_tell_of_the_seen m other caller (call.History issue part) issue alike refl (there_in_both m other (user_of m caller) alike issue reads)
reads_alike m other caller _ alike reads = absurd reads

-- ---- an open line

-- the caller's own reply is the same, and both go on to trackers that seem alike
record GoOn (caller : List ℕ) (m other next other_next : Machine) (mine : Bool) (reply other_reply : Reply) : Type 0 where
  reply_same : mine ≡ true → other_reply ≡ reply
  alike : SeemAlike (user_of m caller) next other_next

left_of : (a : Bool) → a || false ≡ true → a ≡ true
left_of true is = refl
left_of false is = is

module _ (m other : Machine) (caller : List ℕ) (alike : SeemAlike (user_of m caller) m other) where
  abbrev AskedOn : Result (List ℕ × Call) Cause → Type 0
  AskedOn asked = GoOn caller m other (asked_next m asked) (asked_next other asked) (is_asked_by caller asked) (asked_reply m asked) (asked_reply other asked)

  own_read : (c : Call) → Reads m (user_of m caller) c
      → (reply_of other caller c ≡ reply_of m caller c) × SeemAlike (user_of m caller) (next_of m caller c) (next_of other caller c)
  unfolding reply_of
  own_read c reads =
      let others : Reads other (user_of other caller) c =
      subst (λ u. Reads other u c) (sym (same_user m other caller (ap (λ (s : Parts). s.users) alike.setup))) (reads_on m other (user_of m caller) alike c reads) in (
        ap reply_to (reads_alike m other caller c alike reads),
        subst (λ (n : Machine). SeemAlike (user_of m caller) n (next_of other caller c)) (sym (reads_stay m caller c reads))
            (subst (λ (n : Machine). SeemAlike (user_of m caller) m n) (sym (reads_stay other caller c others)) alike),
      )

  asked_on : (asked : Result (List ℕ × Call) Cause) → is_asked_by caller asked || asks_to_set asked ≡ true → AsksToRead m caller asked
      → SeesNoMore (user_of m caller) m.setup (asked_next m asked).setup → AskedOn asked
  asked_on (Err c) opens reads less = absurd reads
  asked_on (Ok asked) opens reads less = by (is_setting asked.1) refl opens reads
    where
      name : bytes_eq asked.0 caller ≡ true → asked.0 ≡ caller
      name mine = (bytes_eq-Decides asked.0 caller).0 mine

      by : (b : Bool) → is_setting asked.1 ≡ b → bytes_eq asked.0 caller || b ≡ true → MatchBool b (Unit {0}) (Reads m (user_of m caller) asked.1) → AskedOn (Ok asked)
      by true sets opens reads = record {
        reply_same = λ mine. subst (λ n. reply_of other n asked.1 ≡ reply_of m n asked.1) (sym (name mine)) (settings_tell m other caller alike asked.1 sets);
        alike = settings_lead (user_of m caller) m other asked.0 asked.1 alike sets less;
      }
      by false sets opens reads =
          let who : asked.0 ≡ caller = name (left_of (bytes_eq asked.0 caller) opens) in
          let own = own_read asked.1 reads in
          record {
            reply_same = λ mine. subst (λ n. reply_of other n asked.1 ≡ reply_of m n asked.1) (sym who) own.0;
            alike = subst (λ n. SeemAlike (user_of m caller) (next_of m n asked.1) (next_of other n asked.1)) (sym who) own.1;
          }

  line_on : (line : List ℕ) (mark : Mark) → is_open_to caller line ≡ true → AsksToRead m caller (line_of line)
      → SeesNoMore (user_of m caller) m.setup (marked_next m line mark).setup
      → GoOn caller m other (marked_next m line mark) (marked_next other line mark) (is_by caller line) (marked_reply m line mark) (marked_reply other line mark)
  line_on line plain opens reads less = asked_on (line_of line) opens reads less
  line_on line memory opens reads less = record { reply_same = λ mine. refl; alike = alike }
  line_on line keeper opens reads less = record { reply_same = λ mine. refl; alike = alike }

-- ---- all lines

asked_users : (m : Machine) (asked : Result (List ℕ × Call) Cause) → (asked_next m asked).setup.users ≡ m.setup.users
asked_users m (Ok asked) = users_stay m asked.0 asked.1
asked_users m (Err c) = refl

marked_users : (m : Machine) (line : List ℕ) (mark : Mark) → (marked_next m line mark).setup.users ≡ m.setup.users
marked_users m line plain = asked_users m (line_of line)
marked_users m line memory = refl
marked_users m line keeper = refl

not_mine : (a b : Bool) → a || b ≡ false → a ≡ false
not_mine true b is = is
not_mine false b is = refl

abbrev Same : List ℕ → List Marked → Type 0
Same caller lines =
    (m other : Machine) → HasRanks m → SeemAlike (user_of m caller) m other → ReadsAmongHidden caller m lines
    → replies_read caller m lines ≡ replies_read caller other (open_lines caller lines)

reads_same : (caller : List ℕ) (lines : List Marked) (m other : Machine) → HasRanks m → SeemAlike (user_of m caller) m other → ReadsAmongHidden caller m lines
    → replies_read caller m lines ≡ replies_read caller other (open_lines caller lines)
reads_same caller [] m other has alike all = refl
reads_same caller (x ∷ xs) m other has alike all =
    by (is_open_to caller x.line) refl all.0 (reads_same caller xs)
  where
    next : Machine
    next = marked_next m x.line x.mark

    next_has : HasRanks next
    next_has = marked_keeps m x.line x.mark has

    -- the caller stays the same user
    user : user_of next caller ≡ user_of m caller
    user = same_user m next caller (marked_users m x.line x.mark)

    rest_there : ReadsAmongHidden caller next xs
    rest_there = all.1

    told : (b : Bool) (one two : Reply) (ones twos : List Reply) → (b ≡ true → two ≡ one) → ones ≡ twos → (if b then one ∷ ones else ones) ≡ (if b then two ∷ twos else twos)
    told true one two ones twos first rest = ap₂ (λ (r : Reply) (rs : List Reply). r ∷ rs) (sym (first refl)) rest
    told false one two ones twos first rest = rest

    by : (b : Bool) → is_open_to caller x.line ≡ b
        → MatchBool b (AsksToRead m caller (line_of x.line) × LeadsToNoMore m caller x) (LineDoesHidden m (user_of m caller) x.line x.mark) → Same caller xs
        → (if is_by caller x.line then marked_reply m x.line x.mark ∷ replies_read caller next xs else replies_read caller next xs)
        ≡ replies_read caller other (if b then x ∷ open_lines caller xs else open_lines caller xs)
    by true opens asks same =
        let on = line_on m other caller alike x.line x.mark opens asks.0 asks.1 in
        let rest = same next (marked_next other x.line x.mark) next_has (subst (λ u. SeemAlike u next (marked_next other x.line x.mark)) (sym user) on.alike) rest_there in
        told (is_by caller x.line) (marked_reply m x.line x.mark) (marked_reply other x.line x.mark) (replies_read caller next xs)
        (replies_read caller (marked_next other x.line x.mark) (open_lines caller xs)) on.reply_same rest
    by false hides hidden same =
        let step : SeemAlike (user_of m caller) m next = marked_shows_not m (user_of m caller) x.line x.mark has hidden in
        let later : SeemAlike (user_of m caller) next other = alike_then (user_of m caller) next m other (alike_back (user_of m caller) m next step) alike in
        ap (λ (b : Bool). if b then marked_reply m x.line x.mark ∷ replies_read caller next xs else replies_read caller next xs)
        (not_mine (is_by caller x.line) (asks_to_set (line_of x.line)) hides)
        ∙ same next other next_has (subst (λ u. SeemAlike u next other) (sym user) later) rest_there

pub readers_see_no_hidden : ReadersSeeNoHidden
readers_see_no_hidden m caller lines has all = reads_same caller lines m m has (as_before m (user_of m caller) has) all

pub runs_read_the_same : RunsReadTheSame
runs_read_the_same m caller lines others has all all_others same =
    readers_see_no_hidden m caller others has all_others
    ∙ ap (λ (kept : List Marked). replies_read caller m kept) same
    ∙ sym (readers_see_no_hidden m caller lines has all)
