use Rattle.std.proofs.Common.{◌≡◌, [], ◌∷◌, ◌++◌, ap, sym, ◌∙◌, codes, subst}
use Rattle.std.specs.Prelude.{OnOk}
use Rattle.reply_texts.specs.Reply.{reply_text}
use Rattle.tracker_calls.specs.declared.reply.Reply.{Reply}
use Rattle.tracker_calls.specs.declared.reply.Reply.TheVariants as reply
use Rattle.tracker_calls.specs.declared.reply.Refusal.{Refusal}
use Rattle.tracker_calls.specs.declared.reply.Refusal.TheVariants as refusal
use Rattle.tracker_runs.specs.Run.{reply_line}
use Rattle.reply_texts.proofs.Numbers.{memory_text, keeper_text}
use Rattle.tracker_import.proofs.reply_line.put_reply_line.Goals as goal

memory_line : (r : Reply) (inner : Refusal) → r ≡ reply.Refused inner → inner ≡ refusal.Memory → codes "{\"refused\":{\"no\":15}}" ++ 10 ∷ [] ≡ reply_line r
memory_line r inner is within = ap (λ l. l ++ 10 ∷ []) (sym memory_text ∙ ap reply_text (sym (is ∙ ap reply.Refused within)))

pub returns-in-Refused-Memory : goal.returns-in-Refused-Memory
returns-in-Refused-Memory c =
    let inner : c.in-Refused-Memory.field-0 ≡ refusal.Memory = rw c.in-Refused-Memory.is at c.in-Refused-Memory.field-0-is in
    subst (λ l. OnOk c.put_line.result (c.put_line.new.answer.items ≡ l)) (memory_line _ _ c.in-Refused-Memory.is inner) c.put_line.ensures

keeper_line : (r : Reply) (inner : Refusal) → r ≡ reply.Refused inner → inner ≡ refusal.Keeper → codes "{\"refused\":{\"no\":14}}" ++ 10 ∷ [] ≡ reply_line r
keeper_line r inner is within = ap (λ l. l ++ 10 ∷ []) (sym keeper_text ∙ ap reply_text (sym (is ∙ ap reply.Refused within)))

pub returns-in-Refused-Keeper : goal.returns-in-Refused-Keeper
returns-in-Refused-Keeper c =
    let inner : c.in-Refused-Keeper.field-0 ≡ refusal.Keeper = rw c.in-Refused-Keeper.is at c.in-Refused-Keeper.field-0-is in
    subst (λ l. OnOk c.put_line-in-Refused-Keeper.result (c.put_line-in-Refused-Keeper.new.answer.items ≡ l)) (keeper_line _ _ c.in-Refused-Keeper.is inner) c.put_line-in-Refused-Keeper.ensures
