-- How the commands end.
use Rattle.std.proofs.Common.{◌≡◌, ◌≢◌, ◌⊎◌, ◌<◌, ◌≤◌, ℕ, List, ◌++◌, length, Option, Some, None, IfSome, refl, sym, ap, subst, ◌∙◌, inl, inr, arith, append-nil}
use Rattle.std.specs.List.{All}
use Rattle.std.specs.Io.KnownBytes.{Appends, Consumes, IsAtEnd}
use Rattle.tracker_keeper.specs.declared.row.Row.{Row}
use Rattle.tracker_keeper.specs.Rows.{Rows, IsListing}
use Rattle.row_lines.specs.RowText.{rows_text}
use Rattle.row_lines.specs.Writing.{WritesFront}
use Rattle.row_dumps.specs.Dump.{HasForm}
use Rattle.row_restore.specs.Restoring.{IsRestoreFault}
use Rattle.row_restore.specs.declared.restoring.RestoreFault.{RestoreFault}
use Rattle.row_restore.specs.declared.restoring.RestoreFault.TheVariants.{BadLine, BadRow}
use Rattle.tracker_backup.specs.Dumping.{IsDumped, DumpEnd}
use Rattle.status_texts.specs.Texts.{held, kept_line, limit_input, usage}
use Rattle.status_texts.specs.Written.{GrewByFront}
use Rattle.tracker_backup.specs.Ends.{WritesFrontOf, UsageEnd, bad_line}
use Rattle.tracker_backup.specs.Restoring.{restore_limit, IsLineText, IsRowText, IsInputText, IsRestoreText, RestoreEnd}

-- ---- what was due where a write failed

-- a sink that grew by a front of a text has a front of it
pub grown_front : (old new : Option (List ℕ)) (text : List ℕ) → GrewByFront old new (λ due. due ≡ text) → WritesFront old new text
grown_front old new text (front, back, is, grew) = (front, back, sym is, grew)

pub line_front : (bytes : List ℕ) (fault : RestoreFault) (number : ℕ) (old new : Option (List ℕ)) → IsRestoreFault bytes fault → fault ≡ BadLine number
    → WritesFront old new (bad_line number) → WritesFrontOf old new (λ text. IsLineText bytes text ⊎ IsRowText bytes text)
line_front bytes fault number old new why is front =
    (bad_line number, inl (number, subst (IsRestoreFault bytes) is why, refl), front)

pub row_front : (bytes : List ℕ) (fault : RestoreFault) (kind number : ℕ) (old new : Option (List ℕ)) → IsRestoreFault bytes fault → fault ≡ BadRow kind number
    → GrewByFront old new (λ due. due ≡ kept_line kind number) → WritesFrontOf old new (λ text. IsLineText bytes text ⊎ IsRowText bytes text)
row_front bytes fault kind number old new why is front =
    (kept_line kind number, inr (kind, number, subst (IsRestoreFault bytes) is why, refl), grown_front old new (kept_line kind number) front)

was_all : (all rest bytes : List ℕ) → Consumes (Some all) (Some rest) bytes → IsAtEnd (Some rest) → bytes ≡ all
was_all all rest bytes read end = sym (append-nil bytes) ∙ ap (λ list. bytes ++ list) (sym end) ∙ sym read

-- what was read to its end was the whole input
whole_text : (left after : Option (List ℕ)) (bytes text : List ℕ) → Consumes left after bytes → IsAtEnd after → IsLineText bytes text ⊎ IsRowText bytes text
    → IfSome left (λ all. IsLineText all text ⊎ IsRowText all text)
whole_text None after bytes text read end one = tt
whole_text (Some all) None bytes text read end one = absurd read
whole_text (Some all) (Some rest) bytes text read end one =
    subst (λ list. IsLineText list text ⊎ IsRowText list text) (was_all all rest bytes read end) one

pub input_front : (left after : Option (List ℕ)) (bytes : List ℕ) (old new : Option (List ℕ)) → Consumes left after bytes → IsAtEnd after
    → WritesFrontOf old new (λ text. IsLineText bytes text ⊎ IsRowText bytes text) → WritesFrontOf old new (IsInputText left)
input_front left after bytes old new read end (text, one, front) = (text, inr (whole_text left after bytes text read end one), front)

pub limit_front : (left old new : Option (List ℕ)) → IfSome left (λ bytes. restore_limit < length bytes) → GrewByFront old new (λ due. due ≡ limit_input) → WritesFrontOf old new (IsInputText left)
limit_front left old new long front = (limit_input, inl (refl, long), grown_front old new limit_input front)

-- ---- other words

pub usage_end : (status : ℕ) (old new : Option (List ℕ)) → (status ≡ 1 → Appends old new usage) → (status ≡ 3 → GrewByFront old new (λ due. due ≡ usage)) → (status ≡ 1) ⊎ (status ≡ 3)
    → UsageEnd status old new
usage_end status old new told front which = record {
  told = told;
  written = λ is. grown_front old new usage (front is);
  statuses = which;
}

-- ---- a dump

module _ {P : Type 0} (keeps : P → Rows → Type 0) (tells : P → Type 0) (old new : P) (list : List Row) (formed : All HasForm list)
    (listing : tells new → (rows : Rows) → keeps old rows → IsListing rows list) (before after : Option (List ℕ)) where
  dumped : IsDumped keeps tells old new (rows_text list)
  dumped = record { list = list; text_is = refl; formed = formed; listing = λ rows kept told. listing told rows kept }

  pub all_dumped : Appends before after (rows_text list) → DumpEnd (IsDumped keeps tells old new) 0 before after
  all_dumped all = record {
    done = λ is. (rows_text list, dumped, all);
    written = λ is. absurd (omega (arith, is));
    unkept = λ is. absurd (omega (arith, is));
    memory = λ is. absurd (omega (arith, is));
    statuses = inl refl;
  }

  pub front_dumped : WritesFront before after (rows_text list) → DumpEnd (IsDumped keeps tells old new) 3 before after
  front_dumped front = record {
    done = λ is. absurd (omega (arith, is));
    written = λ is. (rows_text list, dumped, front);
    unkept = λ is. absurd (omega (arith, is));
    memory = λ is. absurd (omega (arith, is));
    statuses = inr (inl refl);
  }

  pub short_dumped : WritesFront before after (rows_text list) → DumpEnd (IsDumped keeps tells old new) 6 before after
  short_dumped front = record {
    done = λ is. absurd (omega (arith, is));
    written = λ is. absurd (omega (arith, is));
    unkept = λ is. absurd (omega (arith, is));
    memory = λ is. inl (rows_text list, dumped, front);
    statuses = inr (inr (inr refl));
  }

-- ---- a restore where there are rows

neither : (status other : ℕ) → (status ≡ 9) ⊎ (status ≡ 3) → status ≡ other → (other ≡ 9 → ⊥) → (other ≡ 3 → ⊥) → ⊥
neither status other (inl nine) is no9 no3 = no9 (sym is ∙ nine)
neither status other (inr three) is no9 no3 = no3 (sym is ∙ three)

few : (status : ℕ) → (status ≡ 9) ⊎ (status ≡ 3) → (status ≤ 9) × (status ≢ 1)
few status (inl nine) = (omega (arith, nine), λ is. omega (arith, nine, is))
few status (inr three) = (omega (arith, three), λ is. omega (arith, three, is))

pub held_end : (Restored : List ℕ → Type 0) (Same Held : Type 0) (status : ℕ) (left old new : Option (List ℕ)) → Same → Held → (status ≡ 9) ⊎ (status ≡ 3)
    → (status ≡ 9 → Appends old new held) → (status ≡ 3 → GrewByFront old new (λ due. due ≡ held)) → RestoreEnd Restored Same Held status left left old new
held_end Restored Same Held status left old new same has which told front = record {
  done = λ is. absurd (neither status 0 which is (λ e. omega (arith, e)) (λ e. omega (arith, e)));
  read = λ is. absurd (neither status 2 which is (λ e. omega (arith, e)) (λ e. omega (arith, e)));
  written = λ is. (held, inl (refl, has), grown_front old new held (front is));
  unkept = λ is. absurd (neither status 4 which is (λ e. omega (arith, e)) (λ e. omega (arith, e)));
  bad = λ is. absurd (neither status 5 which is (λ e. omega (arith, e)) (λ e. omega (arith, e)));
  memory = λ is. absurd (neither status 6 which is (λ e. omega (arith, e)) (λ e. omega (arith, e)));
  limit = λ is. absurd (neither status 7 which is (λ e. omega (arith, e)) (λ e. omega (arith, e)));
  line = λ is. absurd (neither status 8 which is (λ e. omega (arith, e)) (λ e. omega (arith, e)));
  held_is = λ is. (told is, has, refl);
  same = λ no0. same;
  statuses = few status which;
}
