use Rattle.std.proofs.Common.{◌≡◌, drop}
use Rattle.fields.specs.SetupParts.{parts}
use Rattle.workflow.specs.PostFunctions.{with_post}
use Rattle.workflow.proofs.post_functions.put_post.Given as goal

abbrev pub invariant-loop-post : goal.invariant-loop-post
invariant-loop-post l =
    with_post (parts l.setup) l.issue.history l.caller l.fn.changes.items l.posts
    ≡ with_post (parts l.setup) l.issue.history l.caller l.changes.items (drop l.post-index l.posts)
