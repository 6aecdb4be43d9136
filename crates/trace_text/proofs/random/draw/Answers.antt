use Rattle.trace_text.proofs.Generated.{drawn_by}
use Rattle.trace_text.proofs.random.draw.Goals as goal

pub returns-clause-value : goal.returns-clause-value
returns-clause-value c =
    drawn_by c.args.rng.now c.next_word-a.new.self c.next_word-b.new.self c.next_word-c.new.self c.next_word-d.new.self c.next_word-a.result c.next_word-b.result c.next_word-c.result c.next_word-d.result c.access.result
    c.next_word-a.ensures c.next_word-b.ensures c.next_word-c.ensures c.next_word-d.ensures c.access.ensures.value

pub returns-clause-good : goal.returns-clause-good
returns-clause-good c = c.access.ensures.good
