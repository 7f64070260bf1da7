-- The texts of refusals that have a number alone, which no cause's text is.
use Rattle.std.proofs.Common.{◌≡◌, ℕ, codes, refl, arith, ◌<◌, lit<, sym}
use Rattle.std.specs.Prelude.{List, slice_index}
use Rattle.std.specs.Fmt.{digits}
use Rattle.serde_json.proofs.OnLiterals.{serde_json_on_literals}
use Rattle.reply_texts.specs.Reply.{reply_text}
use Rattle.tracker_calls.specs.declared.cause.Cause.{Cause}
use Rattle.tracker_calls.specs.declared.cause.Cause.TheVariants as cause
use Rattle.tracker_calls.specs.declared.reply.Reply.TheVariants as reply
use Rattle.tracker_calls.specs.declared.reply.Refusal.TheVariants as refusal

pub apart : (x y : ℕ) → x < y → x ≡ y → ⊥
apart x y below e = omega arith

-- the text of a number alone has an n where its first member begins, and its number begins with a 1
pub record HasNumberAlone (text : List ℕ) : Type 0 where
  pub first : slice_index text 13 ≡ 110
  pub one : slice_index text 17 ≡ 49

pub cause_apart : (c : Cause) → HasNumberAlone (reply_text (reply.Refused (refusal.Cause c))) → ⊥
unfolding digits serde_json_on_literals reply_text
cause_apart (cause.Form f) alone = apart 109 110 (lit< tt) alone.first
cause_apart (cause.Unknown k f) alone = apart 107 110 (lit< tt) alone.first
cause_apart (cause.Forbidden p q) alone = apart 49 51 (lit< tt) (sym alone.one)
cause_apart (cause.Condition k) alone = apart 105 110 (lit< tt) alone.first
cause_apart (cause.Validator k) alone = apart 105 110 (lit< tt) alone.first
cause_apart (cause.Unfit f) alone = apart 102 110 (lit< tt) alone.first
cause_apart (cause.Query k p) alone = apart 107 110 (lit< tt) alone.first
cause_apart (cause.NoRoom low high) alone = apart 104 110 (lit< tt) alone.first
cause_apart (cause.SprintIs p) alone = apart 49 57 (lit< tt) (sym alone.one)
cause_apart (cause.Limit l) alone = apart 108 110 (lit< tt) alone.first
cause_apart (cause.Earlier k) alone = apart 107 110 (lit< tt) alone.first
cause_apart (cause.BalanceIs balance) alone = apart 107 110 (lit< tt) alone.first
cause_apart (cause.ExternalIs external kept) alone = apart 101 110 (lit< tt) alone.first

pub keeper_alone : HasNumberAlone (codes "{\"refused\":{\"no\":14}}")
unfolding serde_json_on_literals
keeper_alone = record { first = refl; one = refl }

pub memory_alone : HasNumberAlone (codes "{\"refused\":{\"no\":15}}")
unfolding serde_json_on_literals
memory_alone = record { first = refl; one = refl }

-- the refusal for want of memory has its constant text
pub memory_text : reply_text (reply.Refused refusal.Memory) ≡ codes "{\"refused\":{\"no\":15}}"
unfolding digits serde_json_on_literals reply_text
memory_text = refl

-- so has that of a keeper that failed
pub keeper_text : reply_text (reply.Refused refusal.Keeper) ≡ codes "{\"refused\":{\"no\":14}}"
unfolding digits serde_json_on_literals reply_text
keeper_text = refl
