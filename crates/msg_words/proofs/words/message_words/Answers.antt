use Rattle.std.proofs.Common.{arith}
use Rattle.msg_words.proofs.Named.{named, names, one, word_above, word_below, few_nodes}
use Rattle.msg_words.proofs.words.message_words.Goals as goal

pub returns-clause-named : goal.returns-clause-named
returns-clause-named c = λ sizes m words are is behind. named sizes m words (let few = few_nodes sizes are in omega arith) is behind

pub returns-clause-names : goal.returns-clause-names
returns-clause-names c = names

pub returns-clause-one : goal.returns-clause-one
returns-clause-one c = one

pub returns-clause-above : goal.returns-clause-above
returns-clause-above c = word_above

pub returns-clause-below : goal.returns-clause-below
returns-clause-below c = word_below
