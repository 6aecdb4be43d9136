-- What a message says of its line, and its kind, its argument and its words, each told from the other. By the cases of the kind.
use Rattle.std.proofs.Common.{◌≡◌, true, length, refl, Some}
use Rattle.std.proofs.lemmas.Bool.{lt-ltb, eq-eqb}
use Rattle.line_map.specs.Sizes.{Sizes}
use Rattle.op_model.specs.Operations.{Words}
use Rattle.op_model.specs.declared.messages.NakCause.TheVariants.{Pending, NoLink, Budget, Gone}
use Rattle.op_model.specs.Messages.{Content, Get, GetX, FwdGet, FwdGetX, Inv, Wb, Rpl, Put, PutX, Nak, InvAck, ShWb, FAck, Nakc}
use Rattle.op_model.specs.MessageWords.{kind_of, argument_of, has_words, words_behind, IsContentOf, content_by}

-- the same with other words, where there are words
abbrev pub reworded : Words → Content → Content
reworded words (Wb _) = Wb words
reworded words (Put _) = Put words
reworded words (PutX _) = PutX words
reworded words (ShWb _) = ShWb words
reworded words Get = Get
reworded words GetX = GetX
reworded words (FwdGet requester) = FwdGet requester
reworded words (FwdGetX requester) = FwdGetX requester
reworded words Inv = Inv
reworded words Rpl = Rpl
reworded words (Nak cause) = Nak cause
reworded words InvAck = InvAck
reworded words FAck = FAck
reworded words Nakc = Nakc

-- with its own words it is itself
pub reworded-own : (words : Words) (content : Content) → (has_words content ≡ true → words_behind content ≡ words) → reworded words content ≡ content
reworded-own words (Wb own) behind = let e = behind refl in cc
reworded-own words (Put own) behind = let e = behind refl in cc
reworded-own words (PutX own) behind = let e = behind refl in cc
reworded-own words (ShWb own) behind = let e = behind refl in cc
reworded-own words Get behind = refl
reworded-own words GetX behind = refl
reworded-own words (FwdGet requester) behind = refl
reworded-own words (FwdGetX requester) behind = refl
reworded-own words Inv behind = refl
reworded-own words Rpl behind = refl
reworded-own words (Nak cause) behind = refl
reworded-own words InvAck behind = refl
reworded-own words FAck behind = refl
reworded-own words Nakc behind = refl

pub content_again : (sizes : Sizes) (words : Words) (content : Content) → IsContentOf sizes content → (has_words content ≡ true → length words ≡ sizes.words) → content_by sizes (kind_of content) (argument_of content) words ≡ Some (reworded words content)
content_again sizes words Get is wide = refl
content_again sizes words GetX is wide = refl
content_again sizes words (FwdGet requester) is wide = rw (lt-ltb requester sizes.nodes is) refl
content_again sizes words (FwdGetX requester) is wide = rw (lt-ltb requester sizes.nodes is) refl
content_again sizes words Inv is wide = refl
content_again sizes words (Wb own) is wide = rw (eq-eqb (length words) sizes.words (wide refl)) refl
content_again sizes words Rpl is wide = refl
content_again sizes words (Put own) is wide = rw (eq-eqb (length words) sizes.words (wide refl)) refl
content_again sizes words (PutX own) is wide = rw (eq-eqb (length words) sizes.words (wide refl)) refl
content_again sizes words (Nak Pending) is wide = refl
content_again sizes words (Nak NoLink) is wide = refl
content_again sizes words (Nak Budget) is wide = refl
content_again sizes words (Nak Gone) is wide = refl
content_again sizes words InvAck is wide = refl
content_again sizes words (ShWb own) is wide = rw (eq-eqb (length words) sizes.words (wide refl)) refl
content_again sizes words FAck is wide = refl
content_again sizes words Nakc is wide = refl

-- words fill a line
pub width : (sizes : Sizes) (content : Content) → IsContentOf sizes content → has_words content ≡ true → length (words_behind content) ≡ sizes.words
width sizes (Wb own) is has = is
width sizes (Put own) is has = is
width sizes (PutX own) is has = is
width sizes (ShWb own) is has = is
width sizes Get is has = cc
width sizes GetX is has = cc
width sizes (FwdGet requester) is has = cc
width sizes (FwdGetX requester) is has = cc
width sizes Inv is has = cc
width sizes Rpl is has = cc
width sizes (Nak cause) is has = cc
width sizes InvAck is has = cc
width sizes FAck is has = cc
width sizes Nakc is has = cc
