use Rattle.std.proofs.Common.{◌≡◌, refl, ◌∙◌, codes}
use Rattle.time_view.proofs.Noting.{same_story, first_told}
use Rattle.time_view.proofs.story.Story.start.Goals as goal

pub returns-clause-told : goal.returns-clause-told
returns-clause-told c m none_yet =
    let last : c.put_bytes.new.out.items ≡ codes "- clean idle -" = rw c.new-last.ensures.items at c.in_ok-put_bytes.ensures.ok in
    let text : c.put_bytes-2.new.out.items ≡ codes "0 - clean idle -\n" = rw c.new-text.ensures.items at c.in_ok-put_bytes-2.ensures.ok in
    same_story c.args.line 0 0 _ _ _ _ refl last text ∙ first_told m c.args.line none_yet
