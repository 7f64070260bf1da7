-- An export, issue by issue.
use Rattle.std.proofs.Common.{◌≡◌, ◌≢◌, ◌+◌, ◌<◌, ℕ, zero, suc, List, [], ◌∷◌, ◌++◌, length, map, drop, slice_get, Option, Some, None, Ok, Err, refl, sym, ap, ap₂, ◌∙◌, subst, append_assoc, append-nil, arith}
use Rattle.std.specs.Prelude.{option_map, Result, IfSome, OnOk}
use Rattle.std.specs.Io.KnownBytes.{Appends}
use Rattle.std.proofs.lemmas.Bool.Decides.{nat_tests}
use Rattle.request_lines.specs.Bytes.{WritesAll}
use Rattle.request_lines.proofs.Known.{Appends-trans, WritesAll-after}
use Rattle.request_lines.proofs.Progress.{Appends-nil}
use Rattle.rising_numbers.specs.ByNumber.{RiseFrom}
use Rattle.rising_numbers.proofs.ByNumber.{none_below}
use Rattle.external_ids.specs.declared.external_id.ExternalId.{ExternalId}
use Rattle.external_ids.specs.Ids.{external_number}
use Rattle.field_forms.specs.Known.{Names}
use Rattle.fields.specs.SetupParts.{names_in}
use Rattle.change_history.specs.History.{History}
use Rattle.tracker_machine.specs.Machine.{Machine}
use Rattle.tracker_machine.specs.Tracker.{RunsFrom}
use Rattle.tracker_machine.proofs.Keepable.{number_at}
use Rattle.issue_csv.specs.Writing.{header_text, issue_text}
use Rattle.tracker_import.specs.Export.{external_at, issues_text, export_text, WritesFront}

-- ---- external ids

-- the first one has this number, or none has it
pub first_id : (e : ExternalId) (es : List ExternalId) (n : ℕ) → e.no.0 ≡ n → external_at (e ∷ es) n ≡ Some e.id
first_id e es n is = grind (arith, nat_tests, is)

pub no_id : (es : List ExternalId) (least n : ℕ) → RiseFrom external_number least es → n < least → external_at es n ≡ None
no_id es least n rising below = ap (option_map (λ (e : ExternalId). e.id)) (none_below external_number least n es rising below)

-- one of an issue before has no part in what is found
pub behind_first : (e : ExternalId) (es : List ExternalId) (n : ℕ) → e.no.0 < n → external_at es n ≡ external_at (e ∷ es) n
behind_first e es n below = grind (arith, nat_tests, below)

pub no_first : (ids : List ExternalId) (e : ExternalId) (es : List ExternalId) (n : ℕ) → RiseFrom external_number n ids → ids ≡ e ∷ es → e.no.0 ≢ n
    → None ≡ external_at ids n
no_first ids e es n rising is other =
    let rises = subst (RiseFrom external_number n) is rising in
    sym (ap (λ l. external_at l n) is ∙ no_id (e ∷ es) (e.no.0) n (omega arith, rises.1) (omega (arith, rises.0, other)))

-- ---- issues

pub drop_at : {X : Type 0} (xs : List X) (k : ℕ) (x : X) → slice_get xs k ≡ Some x → drop k xs ≡ x ∷ drop (k + 1) xs
drop_at [] k x is = cc
drop_at (y ∷ ys) zero x is = cc
drop_at (y ∷ ys) (suc k) x is = drop_at ys k x is ∙ ap (λ (n : ℕ). x ∷ drop n (y ∷ ys)) (next k) where
  next : (k : ℕ) → suc (k + 1) ≡ suc k + 1
  next k = omega arith

pub drop_all : {X : Type 0} (xs : List X) → drop (length xs) xs ≡ []
drop_all [] = refl
drop_all (x ∷ xs) = drop_all xs

-- the records of the issues before a place are written or pending, and these are the external ids of those from there on
pub record IsExporting (names : Names) (all : List ExternalId) (hs : List History) (text : List ℕ) (t u : Option (List ℕ)) (pending : List ℕ) (ids : List ExternalId) (place : ℕ) : Type 0 where
  pub written : List ℕ
  pub text_is : text ≡ written ++ (pending ++ issues_text names all (drop place hs))
  pub appended : Appends t u written
  pub rising : RiseFrom external_number (place + 1) ids
  pub same : (n : ℕ) → place < n → external_at ids n ≡ external_at all n

module _ (names : Names) (all : List ExternalId) (hs : List History) where
  pub exporting_none : (t : Option (List ℕ)) (pending : List ℕ) → RiseFrom external_number 1 all
      → IsExporting names all hs (pending ++ issues_text names all hs) t t pending all 0
  exporting_none t pending rising =
      record { written = []; text_is = refl; appended = Appends-nil t; rising = rising; same = λ n positive. refl }

  -- what is left at a place begins with that issue's record
  left_at : (place : ℕ) (h : History) (external : Option (List ℕ)) (ids : List ExternalId) → slice_get hs place ≡ Some h → h.no.0 ≡ place + 1
      → external ≡ external_at ids (place + 1) → external_at ids (place + 1) ≡ external_at all (place + 1)
      → issues_text names all (drop place hs) ≡ issue_text names h external ++ issues_text names all (drop (place + 1) hs)
  left_at place h external ids there number found same =
      ap (issues_text names all) (drop_at hs place h there)
      ∙ ap (λ e. issue_text names h e ++ issues_text names all (drop (place + 1) hs)) (ap (external_at all) number ∙ sym same ∙ sym found)

  -- so it is all pending once the issue's record is
  put_at : (text written pending pending' first : List ℕ) (place : ℕ) → text ≡ written ++ (pending ++ issues_text names all (drop place hs))
      → issues_text names all (drop place hs) ≡ first ++ issues_text names all (drop (place + 1) hs) → pending' ≡ pending ++ first
      → text ≡ written ++ (pending' ++ issues_text names all (drop (place + 1) hs))
  put_at text written pending pending' first place is left put =
      let rest = issues_text names all (drop (place + 1) hs) in
      is ∙ ap (λ l. written ++ (pending ++ l)) left ∙ ap (λ l. written ++ l) (sym (append_assoc pending first rest) ∙ ap (λ l. l ++ rest) (sym put))

  pub exporting_more : (text : List ℕ) (t u v : Option (List ℕ)) (pending pending' later : List ℕ) (ids behind : List ExternalId) (place : ℕ) (h : History)
      (external : Option (List ℕ)) → IsExporting names all hs text t u pending ids place → slice_get hs place ≡ Some h → h.no.0 ≡ place + 1
      → external ≡ external_at ids (place + 1) → RiseFrom external_number (place + 1 + 1) behind → ((n : ℕ) → place + 1 < n → external_at behind n ≡ external_at ids n)
      → pending' ≡ pending ++ issue_text names h external → (piece : List ℕ) × (pending' ≡ piece ++ later) × Appends u v piece
      → IsExporting names all hs text t v later behind (place + 1)
  exporting_more text t u v pending pending' later ids behind place h external so_far there number found rising same put (piece, parts, appended) =
      let written = so_far.written in
      let rest = issues_text names all (drop (place + 1) hs) in
      let left = left_at place h external ids there number found (so_far.same (place + 1) (omega arith)) in
      let is = put_at text written pending pending' (issue_text names h external) place so_far.text_is left put in
      record {
        written = written ++ piece;
        text_is = is ∙ ap (λ l. written ++ (l ++ rest)) parts ∙ ap (λ l. written ++ l) (append_assoc piece later rest) ∙ sym (append_assoc written piece (later ++ rest));
        appended = Appends-trans t u v written piece so_far.appended appended;
        rising = rising;
        same = λ n above. same n above ∙ so_far.same n (omega arith);
      }

  pub exporting_cut : (text : List ℕ) (t u v : Option (List ℕ)) (pending pending' : List ℕ) (ids : List ExternalId) (place : ℕ) (h : History)
      (external : Option (List ℕ)) → IsExporting names all hs text t u pending ids place → slice_get hs place ≡ Some h → h.no.0 ≡ place + 1
      → external ≡ external_at ids (place + 1) → pending' ≡ pending ++ issue_text names h external → (front : List ℕ) × (back : List ℕ) × (pending' ≡ front ++ back) × Appends u v front
      → (front : List ℕ) × (back : List ℕ) × (text ≡ front ++ back) × Appends t v front
  exporting_cut text t u v pending pending' ids place h external so_far there number found put (front, back, parts, appended) =
      let written = so_far.written in
      let rest = issues_text names all (drop (place + 1) hs) in
      let left = left_at place h external ids there number found (so_far.same (place + 1) (omega arith)) in
      let is = put_at text written pending pending' (issue_text names h external) place so_far.text_is left put in (
        written ++ front,
        back ++ rest,
        is ∙ ap (λ l. written ++ (l ++ rest)) parts ∙ ap (λ l. written ++ l) (append_assoc front back rest) ∙ sym (append_assoc written front (back ++ rest)),
        Appends-trans t u v written front so_far.appended appended,
      )

  -- no further record is put
  pub exporting_stops : (text : List ℕ) (t u : Option (List ℕ)) (pending : List ℕ) (ids : List ExternalId) (place : ℕ) → IsExporting names all hs text t u pending ids place
      → (front : List ℕ) × (back : List ℕ) × (text ≡ front ++ back) × Appends t u front
  exporting_stops text t u pending ids place so_far =
      (so_far.written, pending ++ issues_text names all (drop place hs), so_far.text_is, so_far.appended)

  -- what is pending behind the last one is written, or a front of it
  exporting_ends : {T E : Type 0} (text : List ℕ) (t u v : Option (List ℕ)) (pending : List ℕ) (ids : List ExternalId) (place : ℕ) (r : Result T E)
      → IsExporting names all hs text t u pending ids place → place ≡ length hs → WritesAll u v r pending → WritesAll t v r text
  exporting_ends text t u v pending ids place r so_far end written =
      let none : drop place hs ≡ [] = ap (λ n. drop n hs) end ∙ drop_all hs in
      let is = so_far.text_is ∙ ap (λ l. so_far.written ++ (pending ++ issues_text names all l)) none ∙ ap (λ l. so_far.written ++ l) (append-nil pending) in
      subst (λ l. WritesAll t v r l) (sym is) (WritesAll-after t u v so_far.written pending r so_far.appended written)

  pub exporting_done : (text : List ℕ) (t u v : Option (List ℕ)) (pending : List ℕ) (ids : List ExternalId) (place : ℕ) → IsExporting names all hs text t u pending ids place
      → place ≡ length hs → Appends u v pending → Appends t v text
  exporting_done text t u v pending ids place so_far end written =
      exporting_ends {T = Unit {0}} {E = Unit {0}} text t u v pending ids place (Ok tt) so_far end written

  pub exporting_halts : (text : List ℕ) (t u v : Option (List ℕ)) (pending : List ℕ) (ids : List ExternalId) (place : ℕ) → IsExporting names all hs text t u pending ids place
      → place ≡ length hs → WritesFront u v pending → WritesFront t v text
  exporting_halts text t u v pending ids place so_far end written =
      exporting_ends {T = Unit {0}} {E = Unit {0}} text t u v pending ids place (Err tt) so_far end written

-- ---- one issue

-- the record of the issue at a place is put, under whichever names are those of the setup
pub put_record : {T E : Type 0} (r : Result T E) (hs : List History) (place : ℕ) (h : History) (names names' : Names) (external : Option (List ℕ)) (new old : List ℕ)
    → Some h ≡ slice_get hs place → names' ≡ names → OnOk r (new ≡ old ++ issue_text names' h external)
    → OnOk r (IfSome (slice_get hs place) (λ h. new ≡ old ++ issue_text names h external))
put_record r hs place h names names' external new old there same put =
    subst (λ o. OnOk r (IfSome o (λ (h : History). new ≡ old ++ issue_text names h external))) there
    (subst (λ n. OnOk r (new ≡ old ++ issue_text n h external)) same put)

-- what holds of the thing at a place, where there is one
pub some_at : {X : Type 0} (xs : List X) (k : ℕ) (P : X → Type 0) → k < length xs → IfSome (slice_get xs k) P → (x : X) × (slice_get xs k ≡ Some x) × P x
some_at [] k P below is = absurd (omega arith)
some_at (x ∷ xs) zero P below is = (x, refl, is)
some_at (x ∷ xs) (suc k) P below is = some_at xs k P (omega arith) is

-- so it is the record of an issue that has the next number
pub put_at_place : (hs : List History) (place : ℕ) (names : Names) (external : Option (List ℕ)) (new old : List ℕ) → RunsFrom 1 (map (λ (h : History). h.no.0) hs)
    → place < length hs → IfSome (slice_get hs place) (λ (h : History). new ≡ old ++ issue_text names h external)
    → (h : History) × (slice_get hs place ≡ Some h) × (h.no.0 ≡ place + 1) × (new ≡ old ++ issue_text names h external)
put_at_place hs place names external new old runs below put =
    let at = some_at hs place (λ (h : History). new ≡ old ++ issue_text names h external) below put in
    let number = number_at 1 hs place at.0 runs at.1 in
    (at.0, at.1, omega (arith, number.0), at.2)

-- ---- the whole

-- the header, and then the records of all issues
pub whole_text : (m n : Machine) (start pending : List ℕ) → n ≡ m → start ≡ [] → pending ≡ start ++ header_text
    → pending ++ issues_text (names_in n.setup) n.externals n.histories ≡ export_text m
unfolding export_text
whole_text m n start pending same none is =
    ap₂ (λ (l : List ℕ) (n : Machine). l ++ issues_text (names_in n.setup) n.externals n.histories) (is ∙ ap (λ l. l ++ header_text) none) same

-- a front of that is one of the whole
pub front_of_whole : (m n : Machine) (start pending : List ℕ) (t u : Option (List ℕ)) → n ≡ m → start ≡ [] → pending ≡ start ++ header_text
    → WritesFront t u (pending ++ issues_text (names_in n.setup) n.externals n.histories) → WritesFront t u (export_text m)
front_of_whole m n start pending t u same none is cut = subst (WritesFront t u) (whole_text m n start pending same none is) cut

-- nothing was written yet
pub unbegun : (text : List ℕ) (t : Option (List ℕ)) → WritesFront t t text
unbegun text t = ([], text, refl, Appends-nil t)
