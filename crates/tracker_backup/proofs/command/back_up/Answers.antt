use Rattle.std.proofs.Common.{inl, inr}
use Rattle.tracker_backup.specs.declared.words.Word.TheVariants as word
use Rattle.tracker_backup.proofs.Ended.{usage_end}
use Rattle.tracker_backup.proofs.command.back_up.Goals as goal

pub returns-in-None-clause-dump : goal.returns-in-None-clause-dump
returns-in-None-clause-dump g c = λ is. absurd (c.in-None.ensures word.Dump is)

pub returns-in-None-clause-restore : goal.returns-in-None-clause-restore
returns-in-None-clause-restore g c = λ is. absurd (c.in-None.ensures word.Restore is)

pub returns-in-None-clause-words : goal.returns-in-None-clause-words
returns-in-None-clause-words g c = λ told both. elim both [ inl dump ↦ c.in-None.ensures word.Dump dump | inr restore ↦ c.in-None.ensures word.Restore restore ]

pub returns-in-None-clause-usage : goal.returns-in-None-clause-usage
returns-in-None-clause-usage g c = λ other. (usage_end c.tell.result _ _ c.tell.ensures.told c.tell.ensures.written c.tell.ensures.statuses, λ rows kept. kept)
