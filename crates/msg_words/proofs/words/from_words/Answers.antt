-- The definition tells the content first and then looks at the line; the code goes the other way round.
use Rattle.std.proofs.Common.{◌≡◌, ℕ, ◌/◌, ◌%◌, ◌<◌, ◌≤◌, cond, ap, sym, ◌∙◌, refl, None, Some, Option, Result, Ok, Err, IsErr, MatchResult}
use Rattle.std.proofs.lemmas.Bool.{lt-ltb, le-ltb}
use Rattle.line_map.specs.Sizes.{Sizes, all_lines}
use Rattle.op_model.specs.Operations.{Words}
use Rattle.op_model.specs.declared.messages.Msg.{Msg}
use Rattle.op_model.specs.Messages.{Content, msg_line, msg_content, message, message-again}
use Rattle.op_model.specs.MessageWords.{content_by, msg_of_line, from_words}
use Rattle.msg_words.proofs.Named.{answered}
use Rattle.msg_words.proofs.words.from_words.Goals as goal

no_line : (sizes : Sizes) (line : ℕ) (told : Option Content) → all_lines sizes ≤ line → msg_of_line sizes line told ≡ None
no_line sizes line None le = refl
no_line sizes line (Some content) le = rw (le-ltb line (all_lines sizes) le) refl

of_line : (sizes : Sizes) (line : ℕ) (told : Option Content) (m : Msg) → line < all_lines sizes → msg_line m ≡ line → told ≡ Some (msg_content m) → msg_of_line sizes line told ≡ Some m
of_line sizes line told m lt of is =
    ap (msg_of_line sizes line) is
    ∙ ap (λ b. cond b (Some (message line (msg_content m))) None) (lt-ltb line (all_lines sizes) lt)
    ∙ ap (λ l. Some (message l (msg_content m))) (sym of) ∙ ap Some (message-again m)

refused : (sizes : Sizes) (word : ℕ) (words : Words) → all_lines sizes ≤ word / 4096 → from_words sizes word words ≡ None
unfolding from_words
refused sizes word words le = no_line sizes (word / 4096) _ le

told : {E : Type 0} (sizes : Sizes) (word : ℕ) (words : Words) (r : Result Msg E) → word / 4096 < all_lines sizes
    → MatchResult r (λ m. (msg_line m ≡ word / 4096) × (content_by sizes (word % 16) ((word / 16) % 256) words ≡ Some (msg_content m))) (λ _. content_by sizes (word % 16) ((word / 16) % 256) words ≡ None)
    → MatchResult r (λ m. from_words sizes word words ≡ Some m) (λ _. from_words sizes word words ≡ None)
unfolding from_words
told sizes word words (Ok m) lt is = of_line sizes (word / 4096) _ m lt is.0 is.1
told sizes word words (Err e) lt is = ap (msg_of_line sizes (word / 4096)) is

nothing_told : {E : Type 0} (sizes : Sizes) (word : ℕ) (words : Words) (r : Result Msg E) → IsErr r → all_lines sizes ≤ word / 4096
    → MatchResult r (λ m. from_words sizes word words ≡ Some m) (λ _. from_words sizes word words ≡ None)
nothing_told sizes word words (Ok m) err le = cc
nothing_told sizes word words (Err e) err le = refused sizes word words le

pub returns : goal.returns
returns c =
    let sizes = c.args.cfg.now in
    let line = c.in_ok-line.ensures.line in
    let is = rw line.0 at c.said_of.ensures in
    let by = told sizes c.args.header c.args.body.now c.said_of.result line.1 is in
    let right = answered sizes c.args.header c.args.body.now c.said_of.result c.line_at.ensures.few c.requires by in
    record { named = by; message = right.0; refused = right.1 }

pub returns-in_err-line : goal.returns-in_err-line
returns-in_err-line c =
    let sizes = c.args.cfg.now in
    let by = nothing_told sizes c.args.header c.args.body.now c.from_residual.result c.from_residual.ensures.0 c.in_err-line.ensures.line in
    let right = answered sizes c.args.header c.args.body.now c.from_residual.result c.line_at.ensures.few c.requires by in
    record { named = by; message = right.0; refused = right.1 }
