-- Of a project that a user may browse, the user sees all issues.
use Rattle.std.proofs.Common.{◌≡◌, ℕ, ◌+◌, ◌==◌, ◌≤◌, true, List, [], ◌∷◌, ◌++◌, length, filter, slice_get, Some, bytes_eq, nat_lt, decimal, inl, inr, refl, sym, ap, ◌∙◌, subst, arith, lt-ltb, length-append}
use Rattle.std.specs.Prelude.{if◌then◌else◌}
use Rattle.std.specs.List.{position_or_len}
use Rattle.std.proofs.lemmas.Bool.{cases_Bool, true≢false}
use Rattle.std.proofs.lemmas.List.Sums.{sum_by-cons}
use Rattle.std.proofs.lemmas.Slice.Eq.{bytes_eq-Decides}
use Rattle.field_values.specs.declared.parts.Project.{Project}
use Rattle.field_values.specs.declared.rules.Permission.TheVariants as permission
use Rattle.field_values.specs.Parts.{Parts}
use Rattle.field_forms.specs.Names.{place_named}
use Rattle.fields.specs.Sound.{IsSound}
use Rattle.fields.specs.SetupParts.{may}
use Rattle.fields.specs.Naming.{name_at, key_of}
use Rattle.fields.proofs.PlaceNames.{projects_are_found}
use Rattle.change_history.specs.History.{History}
use Rattle.change_history.specs.Key.{project_of}
use Rattle.workflow.specs.Conditions.{project_number}
use Rattle.tracker_machine.specs.Known.{project_keys, issues_of}
use Rattle.tracker_machine.specs.Tracker.{AreKeyed}
use Rattle.tracker_sight.specs.Sight.{sees}

-- ---- an issue's key has a hyphen

hyphen_within : (xs ys : List ℕ) → position_or_len (λ b. b == 45) (xs ++ 45 ∷ ys) ≤ length xs
hyphen_within [] ys = omega arith
hyphen_within (x ∷ xs) ys =
    let rest = hyphen_within xs ys in
    elim (cases_Bool (x == 45)) [
      | inl here ↦ rw here (omega arith)
      | inr behind ↦ rw behind (omega (arith, rest))
    ]

hyphen_inside : (name : List ℕ) (number : ℕ) → nat_lt (position_or_len (λ b. b == 45) (key_of name number)) (length (key_of name number)) ≡ true
hyphen_inside name number =
    lt-ltb (position_or_len (λ b. b == 45) (key_of name number)) (length (key_of name number))
    (omega (arith, hyphen_within name (decimal number), length-append name (45 ∷ decimal number)))

-- the project of such a key is the one that stands before the hyphen
project_by_name : (setup : Parts) (h : History) (name : List ℕ) (number : ℕ) → h.key ≡ key_of name number
    → project_number setup h ≡ place_named (project_of h.key) (project_keys setup)
unfolding project_number
project_by_name setup h name number key =
    let inside : nat_lt (position_or_len (λ b. b == 45) h.key) (length h.key) ≡ true =
    subst (λ k. nat_lt (position_or_len (λ b. b == 45) k) (length k) ≡ true) (sym key) (hyphen_inside name number) in
    rw inside refl

-- ---- a project's issues

module _ (setup : Parts) (user place : ℕ) (p : Project) (at : slice_get setup.project place ≡ Some p) (sound : IsSound setup)
    (browse : may setup user permission.Browse (Some place) ≡ true) where
  own_seen : (h : History) (name : List ℕ) (number : ℕ) → h.key ≡ key_of name number → bytes_eq (project_of h.key) p.key ≡ true → sees setup user h ≡ true
  own_seen h name number key own =
      let project : project_of h.key ≡ p.key = (bytes_eq-Decides (project_of h.key) p.key).0 own in
      ap (may setup user permission.Browse)
      (project_by_name setup h name number key ∙ ap (λ k. place_named k (project_keys setup)) project ∙ projects_are_found setup place p sound at)
      ∙ browse

  abbrev one : History → ℕ
  one h = if bytes_eq (project_of h.key) p.key then 1 else 0

  pub all_counted : (before hs : List History) → AreKeyed setup before hs → issues_of p.key (filter (sees setup user) hs) ≡ issues_of p.key hs
  all_counted before [] keyed = refl
  all_counted before (h ∷ hs) keyed =
      let rest = all_counted (before ++ h ∷ []) hs keyed.1 in
      elim (cases_Bool (sees setup user h)) [
        | inl seen ↦ rw seen (sum_by-cons one h (filter (sees setup user) hs) ∙ ap (λ n. one h + n) rest ∙ sym (sum_by-cons one h hs))
        | inr unseen ↦ elim (cases_Bool (bytes_eq (project_of h.key) p.key)) [
          | inl own ↦
              absurd (true≢false (sym (own_seen h (name_at (project_keys setup) keyed.0.0) (issues_of (name_at (project_keys setup) keyed.0.0) before + 1) keyed.0.2 own) ∙ unseen))
          | inr others ↦
              let nothing : one h ≡ 0 = ap (λ b. if b then 1 else 0) others in
              rw unseen (rest ∙ omega (arith, sum_by-cons one h hs, nothing))
        ]
      ]
