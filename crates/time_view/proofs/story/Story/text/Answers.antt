use Rattle.std.proofs.Common.{rules, ◌≡◌, ap, ◌∙◌}
use Rattle.time_view.specs.Stories.{text_of, story_text}
use Rattle.time_view.proofs.story.Story.text.Goals as goal

pub returns-clause-told : goal.returns-clause-told
unfolding story_text
returns-clause-told c m is =
    let text : c.put_bytes-3.new.out.items ≡ text_of c.args.self.now = search rules in
    text ∙ ap text_of is
