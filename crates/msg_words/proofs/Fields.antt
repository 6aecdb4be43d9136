-- The three fields of a header word. The kind is below 16 and not 0, and the argument of a message of a machine is below 256, so that
-- each field is a digit of its own.
use Rattle.std.proofs.Common.{◌≡◌, ℕ, ◌+◌, ◌*◌, ◌/◌, ◌%◌, ◌<◌, ◌≤◌, arith}
use Rattle.line_map.specs.Sizes.{Sizes}
use Rattle.op_model.specs.declared.messages.NakCause.{NakCause}
use Rattle.op_model.specs.declared.messages.NakCause.TheVariants.{Pending, NoLink, Budget, Gone}
use Rattle.op_model.specs.Messages.{Content, Get, GetX, FwdGet, FwdGetX, Inv, Wb, Rpl, Put, PutX, Nak, InvAck, ShWb, FAck, Nakc}
use Rattle.op_model.specs.MessageWords.{kind_of, number_of, argument_of, IsContentOf}

pub line_again : (k a l : ℕ) → k < 16 → a < 256 → (k + 16 * a + 4096 * l) / 4096 ≡ l
line_again k a l small few = omega arith

pub argument_again : (k a l : ℕ) → k < 16 → a < 256 → ((k + 16 * a + 4096 * l) / 16) % 256 ≡ a
argument_again k a l small few = omega arith

pub kind_again : (k a l : ℕ) → k < 16 → a < 256 → (k + 16 * a + 4096 * l) % 16 ≡ k
kind_again k a l small few = omega arith

-- a word is made of its three fields
pub word_again : (word : ℕ) → word % 16 + 16 * ((word / 16) % 256) + 4096 * (word / 4096) ≡ word
word_again word = omega arith

pub kind-small : (content : Content) → (0 < kind_of content) × (kind_of content < 16)
kind-small Get = (omega arith, omega arith)
kind-small GetX = (omega arith, omega arith)
kind-small (FwdGet requester) = (omega arith, omega arith)
kind-small (FwdGetX requester) = (omega arith, omega arith)
kind-small Inv = (omega arith, omega arith)
kind-small (Wb words) = (omega arith, omega arith)
kind-small Rpl = (omega arith, omega arith)
kind-small (Put words) = (omega arith, omega arith)
kind-small (PutX words) = (omega arith, omega arith)
kind-small (Nak cause) = (omega arith, omega arith)
kind-small InvAck = (omega arith, omega arith)
kind-small (ShWb words) = (omega arith, omega arith)
kind-small FAck = (omega arith, omega arith)
kind-small Nakc = (omega arith, omega arith)

cause-small : (cause : NakCause) → number_of cause < 256
cause-small Pending = omega arith
cause-small NoLink = omega arith
cause-small Budget = omega arith
cause-small Gone = omega arith

pub argument-small : (sizes : Sizes) (content : Content) → sizes.nodes ≤ 256 → IsContentOf sizes content → argument_of content < 256
argument-small sizes (FwdGet requester) few is = omega (arith, is)
argument-small sizes (FwdGetX requester) few is = omega (arith, is)
argument-small sizes (Nak cause) few is = cause-small cause
argument-small sizes Get few is = omega arith
argument-small sizes GetX few is = omega arith
argument-small sizes Inv few is = omega arith
argument-small sizes (Wb words) few is = omega arith
argument-small sizes Rpl few is = omega arith
argument-small sizes (Put words) few is = omega arith
argument-small sizes (PutX words) few is = omega arith
argument-small sizes InvAck few is = omega arith
argument-small sizes (ShWb words) few is = omega arith
argument-small sizes FAck few is = omega arith
argument-small sizes Nakc few is = omega arith
