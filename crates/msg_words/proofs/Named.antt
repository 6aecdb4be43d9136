-- A header word and the words behind it name one message: the fields of the header word give the content and the line, and these give
-- the header word.
use Rattle.std.proofs.Common.{◌≡◌, ℕ, ◌*◌, ◌/◌, ◌%◌, ◌^◌, ◌<◌, ◌≤◌, Bool, true, false, cond, nat_le, nat_lt, length, refl, sym, ap, ◌∙◌, ◌↔◌, arith, Option, Some, None, Result, Ok, Err, IsErr, MatchResult}
use Rattle.std.proofs.lemmas.Bool.{lt-ltb, ltb-true, leb-true, and_parts}
use Rattle.std.proofs.lemmas.Nat.{mul-le}
use Rattle.line_map.specs.Sizes.{Sizes, AreSizes}
use Rattle.op_model.specs.Operations.{Words}
use Rattle.op_model.specs.declared.messages.Msg.{Msg}
use Rattle.op_model.specs.Messages.{Content, msg_line, msg_content, message, msg_line-message, msg_content-message, message-again}
use Rattle.op_model.specs.MessageWords.{has_words, words_behind, header_word_of, header_word, IsContentOf, IsMsgOf, content_by, msg_of_line, from_words}
use Rattle.msg_words.specs.Named.{IsBehind, IsNamedBy, NoMsgHas}
use Rattle.msg_words.proofs.Fields.{line_again, argument_again, kind_again, word_again, kind-small, argument-small}
use Rattle.msg_words.proofs.Contents.{reworded, reworded-own, content_again, width}
use Rattle.msg_words.proofs.Told.{IsTold, content_told}

-- a header word names its line and its content, with the words behind it
fields_again : (sizes : Sizes) (line : ℕ) (content : Content) (words : Words) → sizes.nodes ≤ 256 → line < sizes.nodes * sizes.lines → IsContentOf sizes content → (has_words content ≡ true → length words ≡ sizes.words)
    → msg_of_line sizes (header_word_of line content / 4096) (content_by sizes (header_word_of line content % 16) ((header_word_of line content / 16) % 256) words) ≡ Some (message line (reworded words content))
fields_again sizes line content words few below is wide =
    let small = (kind-small content).1 in
    let fits = argument-small sizes content few is in
    (λ i. msg_of_line sizes (line_again _ _ line small fits i) (content_by sizes (kind_again _ _ line small fits i) (argument_again _ _ line small fits i) words))
    ∙ ap (msg_of_line sizes line) (content_again sizes words content is wide)
    ∙ ap (λ b. cond b (Some (message line (reworded words content))) None) (lt-ltb line (sizes.nodes * sizes.lines) below)

pub msg_again : (sizes : Sizes) (m : Msg) (words : Words) → sizes.nodes ≤ 256 → IsMsgOf sizes m → (has_words (msg_content m) ≡ true → length words ≡ sizes.words)
    → from_words sizes (header_word m) words ≡ Some (message (msg_line m) (reworded words (msg_content m)))
unfolding from_words header_word
msg_again sizes m words few is wide = fields_again sizes (msg_line m) (msg_content m) words few is.0 is.1 wide

-- with the words that it brings it is the message itself
pub named : (sizes : Sizes) (m : Msg) (words : Words) → sizes.nodes ≤ 256 → IsMsgOf sizes m → IsBehind m words → from_words sizes (header_word m) words ≡ Some m
named sizes m words few is behind =
    msg_again sizes m words few is (λ has. ap length (sym (behind has)) ∙ width sizes (msg_content m) is.1 has)
    ∙ ap (λ content. Some (message (msg_line m) content)) (reworded-own words (msg_content m) behind)
    ∙ ap Some (message-again m)

-- what a content and a line name
record IsOfLine (sizes : Sizes) (line : ℕ) (told : Option Content) (m : Msg) : Type 0 where
  content : Content
  is : told ≡ Some content
  msg : message line content ≡ m
  below : line < sizes.nodes * sizes.lines

of_line : (sizes : Sizes) (line : ℕ) (told : Option Content) (m : Msg) → msg_of_line sizes line told ≡ Some m → IsOfLine sizes line told m
of_line sizes line None m e = cc
of_line sizes line (Some content) m e = by (nat_lt line (sizes.nodes * sizes.lines)) refl e
  where
    by : (b : Bool) → nat_lt line (sizes.nodes * sizes.lines) ≡ b → cond b (Some (message line content)) None ≡ Some m → IsOfLine sizes line (Some content) m
    by true lt f = record { content = content; is = refl; msg = (cc); below = ltb-true _ _ lt }
    by false lt f = cc

-- a message of this line and this content, told by the fields of a word, is named by that word
of_content : (sizes : Sizes) (word : ℕ) (words : Words) (content : Content) → IsTold sizes (word % 16) ((word / 16) % 256) words content → word / 4096 < sizes.nodes * sizes.lines → IsNamedBy sizes word words (message (word / 4096) content)
unfolding header_word
of_content sizes word words content told below =
    let l = msg_line-message (word / 4096) content in
    let c = msg_content-message (word / 4096) content in
    record {
      of_machine = (rw l below, rw c told.of_machine);
      header = rw (l, c, told.kind, told.argument) (word_again word);
      behind = rw c told.behind;
    }

pub names : (sizes : Sizes) (word : ℕ) (words : Words) (m : Msg) → from_words sizes word words ≡ Some m → IsNamedBy sizes word words m
unfolding from_words
names sizes word words m e =
    let of = of_line sizes (word / 4096) (content_by sizes (word % 16) ((word / 16) % 256) words) m e in
    rw of.msg at (of_content sizes word words of.content (content_told sizes _ _ words of.content of.is) of.below)

-- where a word and words of the right number name nothing, no message has the word
pub none_has : (sizes : Sizes) (word : ℕ) (words : Words) → sizes.nodes ≤ 256 → length words ≡ sizes.words → from_words sizes word words ≡ None → NoMsgHas sizes word
none_has sizes word words few wide none m is has =
    let again = msg_again sizes m words few is (λ h. wide) in
    let same = rw has at again in
    cc

pub few_nodes : (sizes : Sizes) → AreSizes sizes → sizes.nodes ≤ 64
few_nodes sizes are = leb-true _ _ (and_parts (nat_le 2 sizes.nodes) (nat_le sizes.nodes 64) are.nodes).1

few_lines : (sizes : Sizes) → AreSizes sizes → sizes.lines ≤ 4096
few_lines sizes are = leb-true _ _ (and_parts (nat_le 1 sizes.lines) (nat_le sizes.lines 4096) are.lines).1

pub word_above : (m : Msg) → 0 < header_word m
unfolding header_word
word_above m = let k = (kind-small (msg_content m)).0 in omega (arith, k)

pub one : (sizes : Sizes) (m other : Msg) → AreSizes sizes → IsMsgOf sizes m → IsMsgOf sizes other → header_word m ≡ header_word other → words_behind (msg_content m) ≡ words_behind (msg_content other) → m ≡ other
one sizes m other are is also word words =
    let few : sizes.nodes ≤ 256 = let f = few_nodes sizes are in omega arith in
    let a = named sizes m (words_behind (msg_content m)) few is (λ has. refl) in
    let b = named sizes other (words_behind (msg_content other)) few also (λ has. refl) in
    cc

pub word_below : (sizes : Sizes) (m : Msg) → AreSizes sizes → IsMsgOf sizes m → header_word m < 2 ^ 32
unfolding header_word
word_below sizes m are is =
    let nodes = few_nodes sizes are in
    let lines = few_lines sizes are in
    let small = (kind-small (msg_content m)).1 in
    let fits = argument-small sizes (msg_content m) (omega (arith, nodes)) is.1 in
    let lines_in_all = mul-le sizes.nodes sizes.lines 64 4096 nodes lines in
    let line : msg_line m < 262144 = let below = is.0 in omega (arith, lines_in_all) in
    omega (arith, small, fits, line)

-- so an answer that is the message named, or a refusal where none is, is right in these words too
pub answered : {E : Type 0} (sizes : Sizes) (word : ℕ) (words : Words) (r : Result Msg E) → sizes.nodes ≤ 64 → length words ≡ sizes.words
    → MatchResult r (λ m. from_words sizes word words ≡ Some m) (λ _. from_words sizes word words ≡ None)
    → MatchResult r (IsNamedBy sizes word words) (λ _. NoMsgHas sizes word) × (IsErr r ↔ NoMsgHas sizes word)
answered sizes word words (Ok m) few wide is =
    let by = names sizes word words m is in
    (by, (λ err. cc, λ none. absurd (none m by.of_machine by.header)))
answered sizes word words (Err e) few wide is =
    let none = none_has sizes word words (omega arith) wide is in
    (none, (λ err. none, λ n. refl))
