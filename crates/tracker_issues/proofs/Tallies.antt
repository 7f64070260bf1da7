-- How many issues each project has and which project each issue is of, as an issue comes and as one changes, and beside other members of
-- groups.
use Rattle.std.proofs.Common.{◌≡◌, ℕ, ◌+◌, ◌<◌, List, [], ◌∷◌, ◌++◌, length, map, slice_get, set, bytes_eq, Option, Some, None, option_map, IfSome, refl, sym, ap, ◌∙◌}
use Rattle.std.specs.Prelude.{option_and_then}
use Rattle.std.proofs.lemmas.List.{map-append}
use Rattle.std.proofs.lemmas.Option.{slice_get-map, get_or_from_slice_get}
use Rattle.std.proofs.Math.Seq.{map-set_same}
use Rattle.field_values.specs.declared.numbers.ProjectNo.{ProjectNo}
use Rattle.field_values.specs.declared.parts.Project.{Project}
use Rattle.field_values.specs.Parts.{Parts}
use Rattle.field_forms.specs.Cuts.{cut_at}
use Rattle.field_forms.specs.Names.{place_named}
use Rattle.fields.specs.Naming.{name_at, key_of}
use Rattle.fields.specs.Sound.{IsSound}
use Rattle.change_history.specs.History.{History}
use Rattle.change_history.specs.Key.{project_of}
use Rattle.workflow.specs.Conditions.{project_number}
use Rattle.tracker_machine.specs.Known.{project_keys, issues_of}
use Rattle.tracker_machine.proofs.Settled.{from_found}
use Rattle.tracker_issues.specs.Counts.{counts_of, Tally, IsTally}
use Rattle.tracker_issues.proofs.Counts.{counts_of-push, counts_of-set, count_here}
use Rattle.tracker_issues.proofs.Projects.{only_project, own_project}

-- an issue comes, whose key is that of the project's next
pub tally_push : (setup : Parts) (hs : List History) (h : History) (old new : Tally) (project : ProjectNo) → IsSound setup → IsTally old setup hs → project.0 < length setup.project
    → h.key ≡ key_of (name_at (project_keys setup) project.0) (issues_of (name_at (project_keys setup) project.0) hs + 1)
    → IfSome (slice_get old.counts project.0) (λ n. new.counts ≡ set old.counts project.0 (n + 1)) → new.projects ≡ old.projects ++ project ∷ []
    → IsTally new setup (hs ++ h ∷ [])
tally_push setup hs h old new project sound is there key count noted =
    let ps = setup.project in
    let place = project.0 in
    let number = issues_of (name_at (project_keys setup) place) hs in
    let here : slice_get (counts_of ps hs) place ≡ Some number = count_here ps hs place there in
    let more : new.counts ≡ set old.counts place (number + 1) =
    from_found (slice_get old.counts place) number (λ n. new.counts ≡ set old.counts place (n + 1)) (ap (λ (ns : List ℕ). slice_get ns place) is.counted ∙ here) count in
    let own : project_number setup h ≡ Some place = own_project setup sound place (number + 1) there h key in
    let number_of : ProjectNo → Option ℕ = λ no. Some no.0 in
    record {
      counted = more ∙ ap (λ (ns : List ℕ). set ns place (number + 1)) is.counted
          ∙ counts_of-push ps hs h place number (λ j p at. ap (λ k. bytes_eq (project_of k) p.key) key ∙ only_project setup sound place (number + 1) there j p at) here;
      placed = ap (map number_of) noted ∙ map-append number_of old.projects (project ∷ [])
          ∙ ap (λ (os : List (Option ℕ)). os ++ Some place ∷ []) is.placed
          ∙ ap (λ (o : Option ℕ). map (project_number setup) hs ++ o ∷ []) (sym own)
          ∙ sym (map-append (project_number setup) hs (h ∷ []));
    }

-- an issue changes, and keeps its key

same_project : (setup : Parts) (old new : History) → new.key ≡ old.key → project_number setup new ≡ project_number setup old
unfolding project_number
same_project setup old new same = ap (λ (key : List ℕ). option_and_then (λ parts. place_named parts.0 (project_keys setup)) (cut_at 45 key)) same

pub tally_set : (setup : Parts) (hs : List History) (tally : Tally) (k : ℕ) (old new : History) → slice_get hs k ≡ Some old → new.key ≡ old.key → IsTally tally setup hs → IsTally tally setup (set hs k new)
tally_set setup hs tally k old new at same is = record {
  counted = is.counted ∙ sym (counts_of-set setup.project hs k old new at same);
  placed = is.placed
      ∙ sym (map-set_same (project_number setup) hs k new old (same_project setup old new same ∙ ap (project_number setup) (sym (get_or_from_slice_get hs k old old at))));
}

-- the setup becomes another one of the same projects
pub tally_beside : (setup other : Parts) (hs : List History) (tally : Tally) → other.project ≡ setup.project → IsTally tally setup hs → IsTally tally other hs
unfolding project_number
tally_beside setup other hs tally same is = record {
  counted = is.counted ∙ ap (λ (ps : List Project). counts_of ps hs) (sym same);
  placed = is.placed
      ∙ ap (λ (ps : List Project). map (λ (h : History). option_and_then (λ parts. place_named parts.0 (map (λ (p : Project). p.key) ps)) (cut_at 45 h.key)) hs) (sym same);
}

-- ---- the project of the issue at a place

abbrev joined : Option (Option ℕ) → Option ℕ
joined None = None
joined (Some o) = o

noted_number : (o : Option ProjectNo) → joined (option_map (λ no. Some no.0) o) ≡ option_map (λ no. no.0) o
noted_number None = refl
noted_number (Some project) = refl

own_number : (f : History → Option ℕ) (o : Option History) → joined (option_map f o) ≡ option_and_then f o
own_number f None = refl
own_number f (Some h) = refl

pub project_at : (setup : Parts) (hs : List History) (tally : Tally) (k : ℕ) → IsTally tally setup hs
    → option_map (λ no. no.0) (slice_get tally.projects k) ≡ option_and_then (project_number setup) (slice_get hs k)
project_at setup hs tally k is =
    let number_of : ProjectNo → Option ℕ = λ no. Some no.0 in
    sym (noted_number (slice_get tally.projects k))
    ∙ ap joined (sym (slice_get-map number_of tally.projects k) ∙ ap (λ (os : List (Option ℕ)). slice_get os k) is.placed ∙ slice_get-map (project_number setup) hs k)
    ∙ own_number (project_number setup) (slice_get hs k)
