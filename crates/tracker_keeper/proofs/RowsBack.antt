-- Of a row that is a part's the reader finds that part, and what it finds is of the row's kind and number.
use Rattle.std.proofs.Common.{◌≡◌, ◌≢◌, ℕ, ◌==◌, true, List, Option, Some, None, Result, Ok, Err, IfOk, MatchOption, refl, sym, ap, subst, ◌∙◌, arith, inl, inr}
use Rattle.std.proofs.lemmas.Bool.{cases_Bool, eqb-true}
use Rattle.std.proofs.lemmas.Bool.Decides.{nat_tests}
use Rattle.std.proofs.lemmas.Option.{none-some, same_Some, option_and_then_some}
use Rattle.field_values.specs.Parts.{Parts}
use Rattle.field_values.specs.declared.numbers.IssueNo.{IssueNo}
use Rattle.fields.specs.Sound.{part_names, IsSound}
use Rattle.rank_strings.specs.Rank.{RankParts, IsRank}
use Rattle.rank_strings.specs.Text.{rank_text}
use Rattle.rank_strings.proofs.Reading.{same_from_text}
use Rattle.serde_json.specs.Data.{Data}
use Rattle.serde_json.specs.Read.{read}
use Rattle.tracker_keeper.specs.declared.part.Part.{Part}
use Rattle.tracker_keeper.specs.declared.part.Part.TheVariants as part
use Rattle.tracker_keeper.specs.Bodies.{body_text, user_names}
use Rattle.tracker_keeper.specs.Kept.{IsPart, IsPartAt, IsRowOf, TellsItsPart}
use Rattle.tracker_keeper.specs.LookingAtRows.{told_like, part_like}
use Rattle.tracker_keeper.proofs.Fits.{present_fits, external_fits, sprint_fits, filter_fits, board_fits}
use Rattle.tracker_keeper.proofs.Found.{external_found}
use Rattle.tracker_keeper.proofs.GroupsBack.{reads_group, group_found, group_fits}
use Rattle.tracker_keeper.proofs.IssuesBack.{reads_issue, issue_found, issue_fits}
use Rattle.tracker_keeper.proofs.MembersBack.{reads_members, members_found, members_fit}
use Rattle.tracker_keeper.proofs.Told.{present_told, sprint_told, filter_told, board_told}

-- ---- what is found is of the row's kind and number

told_fits : (setup : Parts) (kind n : ℕ) (d : Data) (p : Part) → told_like setup kind n d ≡ Some p → IsPartAt setup kind n p
told_fits setup kind n d p e = elim (cases_Bool (kind == 2)) [
  | inl is2 ↦ at_kind 2 is2 (present_fits setup n d p (rw is2 at e))
  | inr no2 ↦ elim (cases_Bool (kind == 3)) [
    | inl is3 ↦ at_kind 3 is3 (issue_fits setup n d p (rw (no2, is3) at e))
    | inr no3 ↦ elim (cases_Bool (kind == 4)) [
      | inl is4 ↦ at_kind 4 is4 (group_fits setup n d p (rw (no2, no3, is4) at e))
      | inr no4 ↦ elim (cases_Bool (kind == 7)) [
        | inl is7 ↦ at_kind 7 is7 (sprint_fits setup n d p (rw (no2, no3, no4, is7) at e))
        | inr no7 ↦ elim (cases_Bool (kind == 8)) [
          | inl is8 ↦ at_kind 8 is8 (filter_fits setup n d p (rw (no2, no3, no4, no7, is8) at e))
          | inr no8 ↦ elim (cases_Bool (kind == 9)) [
            | inl is9 ↦ at_kind 9 is9 (board_fits setup n d p (rw (no2, no3, no4, no7, no8, is9) at e))
            | inr no9 ↦ elim (cases_Bool (kind == 10)) [
              | inl is10 ↦ at_kind 10 is10 (members_fit setup n d p (rw (no2, no3, no4, no7, no8, no9, is10) at e))
              | inr no10 ↦ absurd (none-some p (rw (no2, no3, no4, no7, no8, no9, no10) at e))
            ]
          ]
        ]
      ]
    ]
  ]
] where
  at_kind : (k : ℕ) → (kind == k) ≡ true → IsPartAt setup k n p → IsPartAt setup kind n p
  at_kind k is h = subst (λ (x : ℕ). IsPartAt setup x n p) (sym (eqb-true kind k is)) h

pub part_fits : (setup : Parts) (kind n : ℕ) (body : List ℕ) (p : Part) → part_like setup kind n body ≡ Some p → IsPartAt setup kind n p
unfolding part_like
part_fits setup kind n body p e = elim (cases_Bool (kind == 6)) [
  | inl is6 ↦ subst (λ (x : ℕ). IsPartAt setup x n p) (sym (eqb-true kind 6 is6)) (external_fits setup n body p (rw is6 at e))
  | inr no6 ↦ option_and_then_some (told_like setup kind n) (read body) p (rw no6 at e) (λ d d_is h. told_fits setup kind n d p h)
]

-- ---- a row that is a part's

pub row_found : (setup : Parts) (kind n : ℕ) (body : List ℕ) (p : Part) → IsSound setup → kind ≢ 1 → kind ≢ 5 → IsRowOf setup kind n body p → part_like setup kind n body ≡ Some p
unfolding part_like body_text IsPart
row_found setup kind n body (part.Setup text) sound no1 no5 h = absurd (no1 (sym h.at.kind_is))
row_found setup kind n body (part.Present balance change format moment) sound no1 no5 h =
    rw (sym h.at.kind_is, sym h.at.number_is) (present_told balance change format moment body h.at.is_part h.text_is)
row_found setup kind n body (part.Issue row_no key change moment author values) sound no1 no5 h =
    rw (sym h.at.kind_is, sym h.at.number_is) (rw (sym h.text_is, reads_issue setup row_no.0 key change moment author values h.at.is_part) (issue_found setup row_no key change moment author values sound h.at.is_part))
row_found setup kind n body (part.Group issue group) sound no1 no5 h =
    rw (sym h.at.kind_is, sym h.at.number_is) (rw (sym h.text_is, reads_group setup issue.0 group.change group.at group.author group.entries sound h.at.is_part) (group_found setup issue group sound h.at.is_part))
row_found setup kind n body (part.Rank issue rank) sound no1 no5 h = absurd (no5 (sym h.at.kind_is))
row_found setup kind n body (part.External issue external) sound no1 no5 h =
    rw (sym h.at.kind_is, sym h.at.number_is, sym h.text_is) (external_found issue external h.at.is_part)
row_found setup kind n body (part.Sprint row_no sprint) sound no1 no5 h =
    rw (sym h.at.kind_is, sym h.at.number_is) (sprint_told row_no sprint.name sprint.state body h.at.is_part h.text_is)
row_found setup kind n body (part.Filter row_no owner name jql) sound no1 no5 h =
    rw (sym h.at.kind_is, sym h.at.number_is) (filter_told setup.users row_no owner name jql body sound.users.distinct h.at.is_part h.text_is)
row_found setup kind n body (part.Board row_no name filter) sound no1 no5 h =
    rw (sym h.at.kind_is, sym h.at.number_is) (board_told row_no name filter body h.at.is_part h.text_is)
row_found setup kind n body (part.Members group members) sound no1 no5 h =
    rw (sym h.at.kind_is, sym h.at.number_is) (rw (sym h.text_is, reads_members (user_names setup.users members)) (members_found (part_names setup) group members sound.users.distinct sound.groups.few h.at.is_part))

-- ---- of one row there is at most one part

same_setup : (setup : Parts) (n : ℕ) (body : List ℕ) (p : Part) → IsRowOf setup 1 n body p → part.Setup body ≡ p
unfolding body_text
same_setup setup n body (part.Setup text) h = ap part.Setup (sym h.text_is)
same_setup setup n body (part.Present balance change format moment) h = absurd (omega (arith, h.at.kind_is))
same_setup setup n body (part.Issue row_no key change moment author values) h = absurd (omega (arith, h.at.kind_is))
same_setup setup n body (part.Group issue group) h = absurd (omega (arith, h.at.kind_is))
same_setup setup n body (part.Rank issue rank) h = absurd (omega (arith, h.at.kind_is))
same_setup setup n body (part.External issue external) h = absurd (omega (arith, h.at.kind_is))
same_setup setup n body (part.Sprint row_no sprint) h = absurd (omega (arith, h.at.kind_is))
same_setup setup n body (part.Filter row_no owner name jql) h = absurd (omega (arith, h.at.kind_is))
same_setup setup n body (part.Board row_no name filter) h = absurd (omega (arith, h.at.kind_is))
same_setup setup n body (part.Members group members) h = absurd (omega (arith, h.at.kind_is))

-- the rank's part
record IsOfRank (n : ℕ) (body : List ℕ) (p : Part) : Type 0 where
  issue : IssueNo
  rank : RankParts
  part_is : part.Rank issue rank ≡ p
  number_is : issue.0 ≡ n
  is_rank : IsRank rank
  text_is : rank_text rank ≡ body

of_rank : (setup : Parts) (n : ℕ) (body : List ℕ) (p : Part) → IsRowOf setup 5 n body p → IsOfRank n body p
unfolding body_text IsPart
of_rank setup n body (part.Rank issue rank) h =
    record { issue = issue; rank = rank; part_is = refl; number_is = h.at.number_is; is_rank = h.at.is_part.1; text_is = h.text_is }
of_rank setup n body (part.Setup text) h = absurd (omega (arith, h.at.kind_is))
of_rank setup n body (part.Present balance change format moment) h = absurd (omega (arith, h.at.kind_is))
of_rank setup n body (part.Issue row_no key change moment author values) h = absurd (omega (arith, h.at.kind_is))
of_rank setup n body (part.Group issue group) h = absurd (omega (arith, h.at.kind_is))
of_rank setup n body (part.External issue external) h = absurd (omega (arith, h.at.kind_is))
of_rank setup n body (part.Sprint row_no sprint) h = absurd (omega (arith, h.at.kind_is))
of_rank setup n body (part.Filter row_no owner name jql) h = absurd (omega (arith, h.at.kind_is))
of_rank setup n body (part.Board row_no name filter) h = absurd (omega (arith, h.at.kind_is))
of_rank setup n body (part.Members group members) h = absurd (omega (arith, h.at.kind_is))

same_rank : (n : ℕ) (body : List ℕ) (one other : Part) → IsOfRank n body one → IsOfRank n body other → one ≡ other
same_rank n body one other a b =
    let number : a.issue.0 ≡ b.issue.0 = a.number_is ∙ sym b.number_is in
    let rank : a.rank ≡ b.rank = same_from_text a.rank b.rank a.is_rank b.is_rank (a.text_is ∙ sym b.text_is) in
    sym a.part_is ∙ ap (λ (k : ℕ). let issue : IssueNo = record { 0 = k } in part.Rank issue a.rank) number ∙ ap (part.Rank b.issue) rank ∙ b.part_is

pub tells_its_part : (setup : Parts) → IsSound setup → TellsItsPart setup
tells_its_part setup sound kind n body one other a b = elim (cases_Bool (kind == 1)) [
  | inl is1 ↦
      let at1 : (p : Part) → IsRowOf setup kind n body p → IsRowOf setup 1 n body p = λ p. subst (λ (k : ℕ). IsRowOf setup k n body p) (eqb-true kind 1 is1) in
      sym (same_setup setup n body one (at1 one a)) ∙ same_setup setup n body other (at1 other b)
  | inr no1 ↦ elim (cases_Bool (kind == 5)) [
    | inl is5 ↦
        let at5 : (p : Part) → IsRowOf setup kind n body p → IsRowOf setup 5 n body p = λ p. subst (λ (k : ℕ). IsRowOf setup k n body p) (eqb-true kind 5 is5) in
        same_rank n body one other (of_rank setup n body one (at5 one a)) (of_rank setup n body other (at5 other b))
    | inr no5 ↦
        let apart1 : kind ≢ 1 = λ e. absurd (grind (arith, nat_tests, e, no1)) in
        let apart5 : kind ≢ 5 = λ e. absurd (grind (arith, nat_tests, e, no5)) in
        same_Some one other (sym (row_found setup kind n body one sound apart1 apart5 a) ∙ row_found setup kind n body other sound apart1 apart5 b)
  ]
]

-- ---- what the reader answers

pub none_of_row : (setup : Parts) (kind n : ℕ) (body : List ℕ) (p : Part) → IsSound setup → kind ≢ 1 → kind ≢ 5 → None ≡ part_like setup kind n body → IsRowOf setup kind n body p → ⊥
none_of_row setup kind n body p sound no1 no5 none h = none-some p (none ∙ row_found setup kind n body p sound no1 no5 h)

pub other_text : (setup : Parts) (kind n : ℕ) (body : List ℕ) (found p : Part) → IsSound setup → kind ≢ 1 → kind ≢ 5 → Some found ≡ part_like setup kind n body
    → body_text (part_names setup) found ≢ body → IsRowOf setup kind n body p → ⊥
other_text setup kind n body found p sound no1 no5 is other h =
    let same : found ≡ p = same_Some found p (is ∙ row_found setup kind n body p sound no1 no5 h) in
    other (ap (body_text (part_names setup)) same ∙ h.text_is)

pub found_row : (setup : Parts) (kind n : ℕ) (body : List ℕ) (found : Part) → Some found ≡ part_like setup kind n body → body_text (part_names setup) found ≡ body → IsRowOf setup kind n body found
found_row setup kind n body found is text = record { at = part_fits setup kind n body found (sym is); text_is = text }

-- the answer, by how the text of what was found compares
pub answered : {E : Type 0} (setup : Parts) (kind n : ℕ) (body : List ℕ) (found : Part) (r : Result (Option Part) E) → IsSound setup → kind ≢ 1 → kind ≢ 5 → Some found ≡ part_like setup kind n body
    → IfOk r (λ o. MatchOption o (body_text (part_names setup) found ≢ body) (λ p. (p ≡ found) × (body_text (part_names setup) found ≡ body)))
    → IfOk r (λ o. MatchOption o ((p : Part) → IsRowOf setup kind n body p → ⊥) (λ p. IsRowOf setup kind n body p))
answered setup kind n body found (Err e) sound no1 no5 is h = tt
answered setup kind n body found (Ok None) sound no1 no5 is h = λ p. other_text setup kind n body found p sound no1 no5 is h
answered setup kind n body found (Ok (Some p)) sound no1 no5 is h = subst (IsRowOf setup kind n body) (sym h.0) (found_row setup kind n body found is h.1)
