-- From the desk of `import`, `export` and `generate` to what the top call says.
use Rattle.std.proofs.Common.{◌≡◌, ℕ, List, [], ◌++◌, refl, sym, subst, Option, Some, None, IfSome, inl, inr, append-nil, arith}
use Rattle.std.specs.Prelude.{◌⊎◌, ◌≤◌, length}
use Rattle.std.specs.Io.KnownBytes.{Appends, Consumes, IsAtEnd}
use Rattle.std.proofs.lemmas.Option.{IfSome_then}
use Rattle.request_lines.proofs.Known.{Appends-trans}
use Rattle.tracker_calls.specs.declared.call.Call.{Call}
use Rattle.tracker_keeper.specs.Rows.{Rows}
use Rattle.tracker_machine.specs.Machine.{Machine}
use Rattle.tracker_machine.specs.Kept.{rows_of}
use Rattle.tracker_core.specs.Desk.{DeskParts, IsOpened}
use Rattle.issue_csv.specs.Reading.{batch_in}
use Rattle.tracker_import.specs.Calls.{HasKept}
use Rattle.tracker_import.specs.Import.{HasImported}
use Rattle.tracker_import.specs.Export.{export_text, WritesFront}
use Rattle.tracker_cli.specs.Answering.{RoseBy}
use Rattle.tracker_cli.specs.Outcome.{BeginsIn, HasRowsOf, GrewBy, GrewByFront, limit_input}
use Rattle.tracker_cli.specs.Commands.{Stands, IsExported, AreImported, AreCutImported, HandsBack, AreMadeFrom, AreCutFrom, IsWholeImport, IsRecordText, IsCutRecordText, IsUnwritten, IsTooLong, import_limit}
use Rattle.tracker_cli.specs.Texts.{csv_line}
use Rattle.tracker_cli.proofs.Counted.{rose_later, rose_none}
use Rattle.tracker_cli.proofs.Outcomes.{was_all}

-- which texts are the replies to calls
abbrev Made : Type 1
Made = List Call → List ℕ → Type 0

-- what is said of the bytes that were read to their end is said of the whole input
pub of_whole : (P : List ℕ → Type 0) (left after : Option (List ℕ)) (bytes : List ℕ) → Consumes left after bytes → IsAtEnd after → P bytes → IfSome left P
of_whole P None after bytes read end p = tt
of_whole P (Some all) None bytes read end p = absurd read
of_whole P (Some all) (Some rest) bytes read end p = subst P (was_all all rest bytes read end) p

-- ---- a desk that hands its keeper back

pub handed : {P : Type 0} (keeps : P → Rows → Type 0) (tells : P → Type 0) (faults : P → ℕ) (old new : DeskParts P) (last : P) (n : ℕ) → last ≡ new.keeper
    → HasKept keeps tells faults old new n → HandsBack keeps tells faults old last new.machine n
handed keeps tells faults old new last n back kept = record {
  rows = λ had. subst (λ k. keeps k (rows_of new.machine)) (sym back) (kept.rows had);
  told = λ told. kept.told (subst tells back told);
  counted = subst (λ k. RoseBy (faults old.keeper) (faults k) n) (sym back) kept.counted;
}

pub made_from : {P : Type 0} (keeps : P → Rows → Type 0) (tells : P → Type 0) (faults : P → ℕ) (user : List ℕ) (old new : DeskParts P) (last : P) (calls : List Call)
    (t u : Option (List ℕ)) → last ≡ new.keeper → HasImported keeps tells faults user old calls t u new → GrewBy t u (AreMadeFrom keeps tells faults old last user calls)
made_from keeps tells faults user old new last calls t u back one =
    (one.text, (new.machine, one.failures, one.made, handed keeps tells faults old new last one.failures back one.kept), one.written)

-- all were made, and nothing was written behind
pub cut_all : {P : Type 0} (keeps : P → Rows → Type 0) (tells : P → Type 0) (faults : P → ℕ) (user : List ℕ) (old : DeskParts P) (last : P) (calls : List Call)
    (t s u : Option (List ℕ)) → GrewBy t s (AreMadeFrom keeps tells faults old last user calls) → u ≡ s → GrewBy t u (AreCutFrom keeps tells faults old last user calls)
cut_all keeps tells faults user old last calls t s u one same =
    let made = one.1 in (
      one.0,
      (
        made.0,
        made.1,
        record {
          done = calls;
          rest = [];
          all_is = sym (append-nil calls);
          whole = one.0;
          middle = made.0;
          before = made.1;
          made = made.2;
          front = [];
          last = 0;
          next = inl (refl, refl, refl);
          text_is = sym (append-nil one.0);
          failures_are = omega arith;
        },
        made.3,
      ),
      subst (λ v. Appends t v one.0) (sym same) one.2,
    )

-- the text of a bad record follows the replies, or a front of it
pub record_told : (R : Made) (bytes : List ℕ) (number : ℕ) (t s u : Option (List ℕ)) → (batch_in bytes).bad ≡ Some number → GrewBy t s (R (batch_in bytes).calls)
    → Appends s u (csv_line number) → GrewBy t u (IsRecordText R bytes)
record_told R bytes number t s u bad one now =
    (one.0 ++ csv_line number, (number, one.0, bad, one.1, refl), Appends-trans t s u one.0 (csv_line number) one.2 now)

pub record_cut : (R : Made) (bytes : List ℕ) (number : ℕ) (t s u : Option (List ℕ)) → (batch_in bytes).bad ≡ Some number → GrewBy t s (R (batch_in bytes).calls)
    → GrewByFront s u (λ due. due ≡ csv_line number) → GrewBy t u (IsCutRecordText R bytes)
record_cut R bytes number t s u bad one cut =
    (one.0 ++ cut.0, (number, one.0, cut.0, cut.1, bad, one.1, sym cut.2, refl), Appends-trans t s u one.0 cut.0 one.2 cut.3)

-- ---- a desk that was opened over a keeper

module _ {P : Type 0} (keeps : P → Rows → Type 0) (tells : P → Type 0) (faults : P → ℕ) (setup_text : List ℕ) (keeper : P) (start : DeskParts P)
    (opened : (rows : Rows) → keeps keeper rows → tells start.keeper → IsOpened setup_text rows start.machine)
    (kept : (rows : Rows) → keeps keeper rows → tells start.keeper → keeps start.keeper (rows_of start.machine))
    (later : faults keeper ≤ faults start.keeper) (last : P) where
  begins : (tells last → tells start.keeper) → BeginsIn keeps tells setup_text keeper last start.machine
  begins told = λ rows is now. opened rows is (told now)

  pub has_rows : (m : Machine) (n : ℕ) → HandsBack keeps tells faults start last m n → HasRowsOf keeps tells faults keeper last m n
  has_rows m n back = record {
    rows = λ rows is told. back.rows (kept rows is (back.told told));
    counted = rose_later _ _ _ n later back.counted;
  }

  pub stands : last ≡ start.keeper → Stands keeps tells faults setup_text keeper last
  stands same =
      let back = handed keeps tells faults start start last 0 same (record { rows = λ had. had; told = λ told. told; counted = rose_none _ _ refl }) in
      (start.machine, begins back.told, has_rows start.machine 0 back)

  exported : last ≡ start.keeper → (text : List ℕ) → text ≡ export_text start.machine → IsExported keeps tells faults setup_text keeper last text
  unfolding stands
  exported same text is = let one = stands same in (one.0, one.1, one.2, is)

  pub all_exported : (t u : Option (List ℕ)) → last ≡ start.keeper → Appends t u (export_text start.machine) → GrewBy t u (IsExported keeps tells faults setup_text keeper last)
  all_exported t u same now = (export_text start.machine, exported same _ refl, now)

  pub front_exported : (t u : Option (List ℕ)) → last ≡ start.keeper → WritesFront t u (export_text start.machine) → GrewByFront t u (IsExported keeps tells faults setup_text keeper last)
  front_exported t u same cut = (cut.0, cut.1, exported same _ (sym cut.2), cut.3)

  made : (user : List ℕ) (calls : List Call) (text : List ℕ) → AreMadeFrom keeps tells faults start last user calls text
      → AreImported keeps tells faults setup_text keeper last user calls text
  made user calls text one = (start.machine, one.0, one.1, begins one.3.told, one.2, has_rows one.0 one.1 one.3)

  made_cut : (user : List ℕ) (calls : List Call) (text : List ℕ) → AreCutFrom keeps tells faults start last user calls text
      → AreCutImported keeps tells faults setup_text keeper last user calls text
  made_cut user calls text one = (start.machine, one.0, one.1, begins one.3.told, one.2, has_rows one.0 one.1 one.3)

  pub all_imported : (user : List ℕ) (left after t u : Option (List ℕ))
      → IfSome left (λ bytes. IsAtEnd after × (length bytes ≤ import_limit) × IsWholeImport (AreMadeFrom keeps tells faults start last user) t u bytes)
      → IfSome left (λ bytes. IsAtEnd after × (length bytes ≤ import_limit) × IsWholeImport (AreImported keeps tells faults setup_text keeper last user) t u bytes)
  all_imported user left after t u one = IfSome_then left one (λ bytes p.
      (p.0, p.1, (p.2.0, (p.2.1.0, made user _ _ p.2.1.1, p.2.1.2))))

  cut_imported : (user : List ℕ) (left t u : Option (List ℕ))
      → IfSome left (λ bytes. (length bytes ≤ import_limit) × GrewBy t u (AreCutFrom keeps tells faults start last user (batch_in bytes).calls))
      → IfSome left (λ bytes. (length bytes ≤ import_limit) × GrewBy t u (AreCutImported keeps tells faults setup_text keeper last user (batch_in bytes).calls))
  cut_imported user left t u one = IfSome_then left one (λ bytes p. (p.0, (p.1.0, made_cut user _ _ p.1.1, p.1.2)))

  pub record_imported : (user : List ℕ) (left t u : Option (List ℕ))
      → IfSome left (λ bytes. (length bytes ≤ import_limit) × GrewBy t u (IsRecordText (AreMadeFrom keeps tells faults start last user) bytes))
      → IfSome left (λ bytes. (length bytes ≤ import_limit) × GrewBy t u (IsRecordText (AreImported keeps tells faults setup_text keeper last user) bytes))
  record_imported user left t u one = IfSome_then left one (λ bytes p.
      let text = p.1.1 in (p.0, (p.1.0, (text.0, text.1, text.2, made user _ _ text.3, text.4), p.1.2)))

  unwritten : (user bytes : List ℕ) (t u : Option (List ℕ))
      → IsUnwritten (AreMadeFrom keeps tells faults start last user) (AreCutFrom keeps tells faults start last user) t u bytes
      → IsUnwritten (AreImported keeps tells faults setup_text keeper last user) (AreCutImported keeps tells faults setup_text keeper last user) t u bytes
  unwritten user bytes t u (inl p) = inl (p.0, made_cut user _ _ p.1, p.2)
  unwritten user bytes t u (inr (text, (number, whole, front, back, bad, one, parts, is), now)) =
      inr (text, (number, whole, front, back, bad, made user _ _ one, parts, is), now)

  unwritten_imported : (user : List ℕ) (left t u : Option (List ℕ))
      → IfSome left (λ bytes. (length bytes ≤ import_limit) × IsUnwritten (AreMadeFrom keeps tells faults start last user) (AreCutFrom keeps tells faults start last user) t u bytes)
      → IfSome left (λ bytes. (length bytes ≤ import_limit) × IsUnwritten (AreImported keeps tells faults setup_text keeper last user) (AreCutImported keeps tells faults setup_text keeper last user) t u bytes)
  unwritten_imported user left t u one = IfSome_then left one (λ bytes p. (p.0, unwritten user bytes t u p.1))

  pub written_of : (Else : Type 0) (user : List ℕ) (left t u : Option (List ℕ))
      → IfSome left (λ bytes. (length bytes ≤ import_limit) × IsUnwritten (AreMadeFrom keeps tells faults start last user) (AreCutFrom keeps tells faults start last user) t u bytes)
      ⊎ (GrewByFront t u (λ due. due ≡ limit_input) × IsTooLong left × (last ≡ start.keeper))
      → IfSome left (λ bytes. (length bytes ≤ import_limit) × IsUnwritten (AreImported keeps tells faults setup_text keeper last user) (AreCutImported keeps tells faults setup_text keeper last user) t u bytes)
      ⊎ (GrewByFront t u (λ due. due ≡ limit_input) × IsTooLong left × Stands keeps tells faults setup_text keeper last)
      ⊎ Else
  written_of Else user left t u (inl one) = inl (unwritten_imported user left t u one)
  written_of Else user left t u (inr one) = inr (inl (one.0, one.1, stands one.2))

  pub memory_of : (Else : Type 0) (user : List ℕ) (left t u : Option (List ℕ))
      → IfSome left (λ bytes. (length bytes ≤ import_limit) × GrewBy t u (AreCutFrom keeps tells faults start last user (batch_in bytes).calls))
      ⊎ ((u ≡ t) × (last ≡ start.keeper))
      → IfSome left (λ bytes. (length bytes ≤ import_limit) × GrewBy t u (AreCutImported keeps tells faults setup_text keeper last user (batch_in bytes).calls))
      ⊎ ((u ≡ t) × Stands keeps tells faults setup_text keeper last)
      ⊎ Else
  memory_of Else user left t u (inl one) = inl (cut_imported user left t u one)
  memory_of Else user left t u (inr one) = inr (inl (one.0, stands one.1))
