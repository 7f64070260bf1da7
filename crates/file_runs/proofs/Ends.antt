-- How a run ends, said otherwise.
use Rattle.std.proofs.Common.{◌≡◌, ℕ, List, [], ◌++◌, inl, inr, Option}
use Rattle.std.proofs.lemmas.Option.{IfSome_then}
use Rattle.request_lines.specs.Lines.{lines}
use Rattle.tracker_machine.specs.Machine.{Machine}
use Rattle.tracker_runs.specs.Run.{IsRun, IsCutRun, requests}
use Rattle.tracker_cli.specs.Outcome.{IsKeptBehind, AreReplies, AreCutReplies, AreRepliesOf, AreCutRepliesOf, GrewBy, GrewByFront, IsKeptText, IsLimitText, IsCutLimit, IsCutLimitText, LinesEnd}

abbrev Whole : Type 1
Whole = List (List ℕ) → List ℕ → Type 0

abbrev Part : Type 1
Part = List ℕ → List ℕ → Type 0

grew : (t u : Option (List ℕ)) (P Q : List ℕ → Type 0) → ((text : List ℕ) → P text → Q text) → GrewBy t u P → GrewBy t u Q
grew t u P Q f one = (one.0, f one.0 one.1, one.2)

grew_front : (t u : Option (List ℕ)) (P Q : List ℕ → Type 0) → ((text : List ℕ) → P text → Q text) → GrewByFront t u P → GrewByFront t u Q
grew_front t u P Q f one = (one.0, one.1, f (one.0 ++ one.1) one.2, one.3)

module _ (R Q : Whole) (f : (all : List (List ℕ)) (text : List ℕ) → R all text → Q all text) where
  limit : (bytes due : List ℕ) → IsLimitText R bytes due → IsLimitText Q bytes due
  limit bytes due (inl (done, text, stops, one, is)) = inl (done, text, stops, f done text one, is)
  limit bytes due (inr (done, text, stops, one, is)) = inr (done, text, stops, f done text one, is)

  cut_limit : (done : List (List ℕ)) (due text : List ℕ) → IsCutLimit R done due text → IsCutLimit Q done due text
  cut_limit done due text one = (one.0, one.1, one.2, f done one.0 one.3, one.4, one.5)

  limit_cut : (bytes text : List ℕ) → IsCutLimitText R bytes text → IsCutLimitText Q bytes text
  limit_cut bytes text (inl (done, stops, one)) = inl (done, stops, cut_limit done _ text one)
  limit_cut bytes text (inr (done, stops, one)) = inr (done, stops, cut_limit done _ text one)

bad_again : (B D : ℕ → ℕ → Type 0) → ((kind number : ℕ) → B kind number → D kind number) → (text : List ℕ) → IsKeptText B text → IsKeptText D text
bad_again B D f text one = (one.0, one.1, f one.0 one.1 one.2, one.3)

pub ends_again : (R Q : Whole) (C E : Part) (Opens S T : Type 0) (B D : ℕ → ℕ → Type 0) (status : ℕ) (left after t u : Option (List ℕ))
    → ((all : List (List ℕ)) (text : List ℕ) → R all text → Q all text) → ((bytes text : List ℕ) → C bytes text → E bytes text) → (S → T)
    → ((kind number : ℕ) → B kind number → D kind number) → LinesEnd R C Opens S B status left after t u → LinesEnd Q E Opens T D status left after t u
ends_again R Q C E Opens S T B D status left after t u f g h k ends = record {
  done = λ is. IfSome_then left (ends.done is) (λ bytes p. (p.0, p.1, grew t u _ _ (f (lines bytes)) p.2));
  read = λ is. IfSome_then left (ends.read is) (λ bytes p. (p.0, p.1, p.2, grew t u _ _ (f _) p.3));
  written = λ is. elim (ends.written is) [
    | inl some ↦ inl (IfSome_then left some (λ bytes p. elim p [
      | inl cut ↦ inl (grew t u _ _ (g bytes) cut)
      | inr limited ↦ inr (grew t u _ _ (limit_cut R Q f bytes) limited)
    ]))
    | inr bad ↦ inr (grew_front t u _ _ (bad_again B D k) bad.0, h bad.1)
  ];
  unopened = λ is. let it = ends.unopened is in (it.0, h it.1);
  bad = λ is. let it = ends.bad is in (grew t u _ _ (bad_again B D k) it.0, h it.1);
  opens = ends.opens;
  unread = ends.unread;
  memory = λ is. IfSome_then left (ends.memory is) (λ bytes p. grew t u _ _ (g bytes) p);
  limit = λ is. IfSome_then left (ends.limit is) (λ bytes p. grew t u _ _ (limit R Q f bytes) p);
  statuses = ends.statuses;
}

-- what is kept behind the answers, said otherwise, where the run is known
module _ (Begins Starts : Machine → Type 0) (Kept Left : IsKeptBehind) (S T : Type 0) (words : List (List ℕ)) (b : (start : Machine) → Begins start → Starts start)
    (f : (start last : Machine) (all : List (List ℕ)) (text : List ℕ) (failures : ℕ) → Begins start → IsRun start (requests all) text last failures → Kept all last failures → Left all last failures)
    (g : (start last : Machine) (all : List (List ℕ)) (text : List ℕ) (failures : ℕ) → Begins start → IsCutRun start all text last failures → Kept all last failures → Left all last failures)
    (h : S → T) where
  again : (all : List (List ℕ)) (text : List ℕ) → AreReplies Begins Kept all text → AreReplies Starts Left all text
  again all text (start, last, failures, begins, run, kept) = (start, last, failures, b start begins, run, f start last all text failures begins run kept)

  cut_again : (bytes text : List ℕ) → AreCutReplies Begins Kept S bytes text → AreCutReplies Starts Left T bytes text
  cut_again bytes text (inl none) = inl (none.0, h none.1)
  cut_again bytes text (inr (start, last, failures, begins, run, kept)) =
      inr (start, last, failures, b start begins, run, g start last (lines bytes) text failures begins run kept)

  pub replies_again : (all : List (List ℕ)) (text : List ℕ) → AreRepliesOf Begins Kept words all text → AreRepliesOf Starts Left words all text
  replies_again all text (inl (is, one)) = inl (is, again all text one)
  replies_again all text (inr checked) = inr checked

  pub cuts_again : (bytes text : List ℕ) → AreCutRepliesOf Begins Kept S words bytes text → AreCutRepliesOf Starts Left T words bytes text
  cuts_again bytes text (inl (is, one)) = inl (is, cut_again bytes text one)
  cuts_again bytes text (inr checked) = inr checked
