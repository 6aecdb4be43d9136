-- A header word and the words read behind it name the message in the cell.
use Rattle.std.proofs.Common.{◌≡◌, ℕ, ◌<◌, ◌≤◌, ◌%◌, Bool, true, ◌==◌, length, refl, sym, ap, ◌∙◌, arith, Some}
use Rattle.std.specs.Prelude.{◌||◌, slice_index}
use Rattle.std.proofs.lemmas.List.{ext_get_or}
use Rattle.std.proofs.lemmas.Option.{same_Some}
use Rattle.line_map.specs.Sizes.{Sizes, AreSizes}
use Rattle.line_map.proofs.Public.{few-nodes}
use Rattle.op_model.specs.Operations.{Words}
use Rattle.op_model.specs.declared.messages.Msg.{Msg}
use Rattle.op_model.specs.Messages.{Content, Get, GetX, FwdGet, FwdGetX, Inv, Wb, Rpl, Put, PutX, Nak, InvAck, ShWb, FAck, Nakc, msg_line, msg_content}
use Rattle.op_model.specs.MessageWords.{kind_of, argument_of, has_words, words_behind, header_word, from_words, IsMsgOf}
use Rattle.msg_words.specs.Named.{IsBehind}
use Rattle.msg_words.proofs.Public.{argument-small, kind-small, kind_again, named, names, width}

abbrev kind_has_words : ℕ → Bool
kind_has_words kind = (kind == 6) || ((kind == 8) || ((kind == 9) || (kind == 12)))

has_by_kind : (content : Content) → has_words content ≡ kind_has_words (kind_of content)
has_by_kind Get = refl
has_by_kind GetX = refl
has_by_kind (FwdGet req) = refl
has_by_kind (FwdGetX req) = refl
has_by_kind Inv = refl
has_by_kind (Wb words) = refl
has_by_kind Rpl = refl
has_by_kind (Put words) = refl
has_by_kind (PutX words) = refl
has_by_kind (Nak cause) = refl
has_by_kind InvAck = refl
has_by_kind (ShWb words) = refl
has_by_kind FAck = refl
has_by_kind Nakc = refl

pub few_sizes : (sizes : Sizes) → AreSizes sizes → sizes.nodes ≤ 256
few_sizes sizes are = let few = few-nodes sizes are in omega arith

kind_in : (sizes : Sizes) (m : Msg) → AreSizes sizes → IsMsgOf sizes m → header_word m % 16 ≡ kind_of (msg_content m)
unfolding header_word
kind_in sizes m are is = kind_again (kind_of (msg_content m)) (argument_of (msg_content m)) (msg_line m) (kind-small (msg_content m)).1 (argument-small sizes (msg_content m) (few_sizes sizes are) is.1)

pub same_has : (sizes : Sizes) (m other : Msg) → AreSizes sizes → IsMsgOf sizes m → IsMsgOf sizes other → header_word m ≡ header_word other → has_words (msg_content m) ≡ has_words (msg_content other)
same_has sizes m other are is also e =
    has_by_kind (msg_content m)
    ∙ (ap kind_has_words (sym (kind_in sizes m are is) ∙ (ap (λ (w : ℕ). w % 16) e ∙ kind_in sizes other are also)) ∙ sym (has_by_kind (msg_content other)))

pub read_back : (sizes : Sizes) → AreSizes sizes → (msg m : Msg) (body : Words) → IsMsgOf sizes msg
    → ((i : ℕ) → i < length body → i < length (words_behind (msg_content msg)) → slice_index body i ≡ slice_index (words_behind (msg_content msg)) i)
    → from_words sizes (header_word msg) body ≡ Some m → m ≡ msg
read_back sizes are msg m body of same e =
    let by = names sizes (header_word msg) body m e in
    let has = same_has sizes m msg are by.of_machine of by.header in
    same_Some m msg (sym e ∙ named sizes msg body (few_sizes sizes are) of (λ some. behind has by.behind by.of_machine some))
  where
    behind : has_words (msg_content m) ≡ has_words (msg_content msg) → IsBehind m body → IsMsgOf sizes m → has_words (msg_content msg) ≡ true → words_behind (msg_content msg) ≡ body
    behind has mine is some =
        let read : length body ≡ sizes.words = sym (ap length (mine (has ∙ some))) ∙ width sizes (msg_content m) is.1 (has ∙ some) in
        let brought = width sizes (msg_content msg) of.1 some in
        sym (ext_get_or 0 body (words_behind (msg_content msg)) (read ∙ sym brought) (λ i below. same i below (omega (arith, below, read, brought))))
