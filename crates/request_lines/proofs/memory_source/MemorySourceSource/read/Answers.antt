use Rattle.request_lines.proofs.Cut.{consumed, ended}
use Rattle.request_lines.proofs.memory_source.MemorySourceSource.read.Goals as goal

pub returns-clause-bytes : goal.returns-clause-bytes
returns-clause-bytes c =
    let bytes = c.args.self.now.bytes.items in
    let at = c.args.self.now.at in
    let n = c.piece_len-count.result in (
      consumed bytes c.args.room.now c.copy_from_slice.new.self at n c.piece_len-count.ensures.left (rw c.deref-2.ensures.value at c.copy_from_slice.ensures.after),
      λ none room. ended bytes at n c.piece_len-count.ensures.some none,
    )
