-- Bodies that are a text by itself: of a setup, of a rank and of an external id.
use Rattle.std.proofs.Common.{◌≡◌, ℕ, List, Some, None, Result, Ok, Err, refl, sym, subst, ◌∙◌, arith}
use Rattle.std.proofs.lemmas.Option.{none-some}
use Rattle.field_values.specs.Parts.{Parts}
use Rattle.setup_reading.specs.Reading.{setup_in}
use Rattle.fields.specs.declared.setup.Setup.{Setup}
use Rattle.fields.specs.SetupParts.{parts}
use Rattle.field_values.specs.declared.numbers.IssueNo.{IssueNo}
use Rattle.rank_strings.specs.Rank.{RankParts}
use Rattle.rank_strings.specs.Text.{IsTextOf}
use Rattle.tracker_keeper.specs.declared.part.Part.{Part}
use Rattle.tracker_keeper.specs.declared.part.Part.TheVariants as part
use Rattle.tracker_keeper.specs.Bodies.{body_text}
use Rattle.tracker_keeper.specs.Forms.{IsNumber}
use Rattle.tracker_keeper.specs.Kept.{IsPart, IsRowOf, IsSetupText}
use Rattle.tracker_keeper.specs.Looking.{number_in}
use Rattle.tracker_keeper.proofs.Found.{numbered}
use Rattle.tracker_keeper.proofs.Fits.{number_tells, is_number}

-- ---- a setup

pub a_setup : (text : List ℕ) (setup : Setup) → setup_in text ≡ Ok (parts setup) → IsSetupText text
a_setup text setup e = (parts setup, e)

err_is_no_ok : {E : Type 0} (fault : E) (setup : Parts) → ◌≡◌ {A = Result Parts E} (Err fault) (Ok setup) → ⊥
err_is_no_ok fault setup e = absurd (cc)

pub no_setup : (text : List ℕ) (fault : _) → setup_in text ≡ Err fault → ¬ IsSetupText text
no_setup text fault e setup = err_is_no_ok fault setup.0 (sym e ∙ setup.1)

pub setup_row : (body : List ℕ) → IsSetupText body → (setup : Parts) → IsRowOf setup 1 0 body (part.Setup body)
unfolding IsPart body_text
setup_row body h setup = record { at = record { is_part = h; kind_is = refl; number_is = refl }; text_is = refl }

record IsSetupRow (row_no : ℕ) (body : List ℕ) : Type 0 where
  numbered : row_no ≡ 0
  reads : IsSetupText body

setup_tells : (setup : Parts) (row_no : ℕ) (body : List ℕ) (p : Part) → IsRowOf setup 1 row_no body p → IsSetupRow row_no body
unfolding IsPart body_text
setup_tells setup row_no body (part.Setup text) h = record { numbered = sym h.at.number_is; reads = subst IsSetupText h.text_is h.at.is_part }
setup_tells setup row_no body (part.Present balance change format moment) h = absurd (omega (arith, h.at.kind_is))
setup_tells setup row_no body (part.Issue n key change at author values) h = absurd (omega (arith, h.at.kind_is))
setup_tells setup row_no body (part.Group issue group) h = absurd (omega (arith, h.at.kind_is))
setup_tells setup row_no body (part.Rank issue rank) h = absurd (omega (arith, h.at.kind_is))
setup_tells setup row_no body (part.External issue external) h = absurd (omega (arith, h.at.kind_is))
setup_tells setup row_no body (part.Sprint n sprint) h = absurd (omega (arith, h.at.kind_is))
setup_tells setup row_no body (part.Filter n owner name jql) h = absurd (omega (arith, h.at.kind_is))
setup_tells setup row_no body (part.Board n name filter) h = absurd (omega (arith, h.at.kind_is))
setup_tells setup row_no body (part.Members group members) h = absurd (omega (arith, h.at.kind_is))

pub setup_numbered : (setup : Parts) (row_no : ℕ) (body : List ℕ) (p : Part) → IsRowOf setup 1 row_no body p → row_no ≡ 0
setup_numbered setup row_no body p h = (setup_tells setup row_no body p h).numbered

pub setup_reads : (setup : Parts) (row_no : ℕ) (body : List ℕ) (p : Part) → IsRowOf setup 1 row_no body p → IsSetupText body
setup_reads setup row_no body p h = (setup_tells setup row_no body p h).reads

-- ---- a rank

pub rank_row : (n : ℕ) (issue : IssueNo) (rank : RankParts) (body : List ℕ) → Some issue.0 ≡ number_in n → IsTextOf body rank → (setup : Parts) → IsRowOf setup 5 n body (part.Rank issue rank)
unfolding IsPart body_text
rank_row n issue rank body numbered h setup = record {
  at = record { is_part = (is_number n issue.0 (sym numbered), h.is_rank); kind_is = refl; number_is = (number_tells n issue.0 (sym numbered)).0 };
  text_is = h.written;
}

record IsRankRow (row_no : ℕ) (body : List ℕ) : Type 0 where
  numbered : IsNumber row_no
  rank : RankParts
  reads : IsTextOf body rank

rank_tells : (setup : Parts) (row_no : ℕ) (body : List ℕ) (p : Part) → IsRowOf setup 5 row_no body p → IsRankRow row_no body
unfolding IsPart body_text
rank_tells setup row_no body (part.Rank issue rank) h = record {
  numbered = subst IsNumber h.at.number_is h.at.is_part.0;
  rank = rank;
  reads = record { is_rank = h.at.is_part.1; written = h.text_is };
}
rank_tells setup row_no body (part.Setup text) h = absurd (omega (arith, h.at.kind_is))
rank_tells setup row_no body (part.Present balance change format moment) h = absurd (omega (arith, h.at.kind_is))
rank_tells setup row_no body (part.Issue n key change at author values) h = absurd (omega (arith, h.at.kind_is))
rank_tells setup row_no body (part.Group issue group) h = absurd (omega (arith, h.at.kind_is))
rank_tells setup row_no body (part.External issue external) h = absurd (omega (arith, h.at.kind_is))
rank_tells setup row_no body (part.Sprint n sprint) h = absurd (omega (arith, h.at.kind_is))
rank_tells setup row_no body (part.Filter n owner name jql) h = absurd (omega (arith, h.at.kind_is))
rank_tells setup row_no body (part.Board n name filter) h = absurd (omega (arith, h.at.kind_is))
rank_tells setup row_no body (part.Members group members) h = absurd (omega (arith, h.at.kind_is))

pub rank_numbered : (setup : Parts) (row_no : ℕ) (body : List ℕ) (p : Part) → None ≡ number_in row_no → IsRowOf setup 5 row_no body p → ⊥
rank_numbered setup row_no body p none h =
    none-some row_no (none ∙ numbered row_no (rank_tells setup row_no body p h).numbered)

pub rank_reads : (setup : Parts) (row_no : ℕ) (body : List ℕ) (p : Part) → ((r : RankParts) → IsTextOf body r → ⊥) → IsRowOf setup 5 row_no body p → ⊥
rank_reads setup row_no body p none h = let r = rank_tells setup row_no body p h in none r.rank r.reads
