-- The header word is that of a message of the machine, and the words behind it are the message's.
use Rattle.std.proofs.Common.{◌≡◌, ℕ, length, sym, ap, ◌∙◌, subst, Some, None}
use Rattle.std.proofs.lemmas.List.{length-replicate}
use Rattle.line_map.specs.Sizes.{Sizes, AreSizes}
use Rattle.op_model.specs.declared.messages.Msg.{Msg}
use Rattle.op_model.specs.Messages.{msg_content}
use Rattle.op_model.specs.MessageWords.{has_words, words_behind, from_words}
use Rattle.op_model.specs.Parts.Part.{Part, in_note}
use Rattle.lane_table.specs.Layout.{cell_word}
use Rattle.lane_table.specs.Rule.{Keeps}
use Rattle.lane_table.specs.Steps.{loaded, looked_in}
use Rattle.lane_table.specs.Views.{SeatView, first_of}
use Rattle.lane_table.specs.Told.{IsHeader, IsFront, Fronts}
use Rattle.lane_table.specs.Calls.{Finds}
use Rattle.lane_table.proofs.Keeping.{keeps_in}
use Rattle.lane_table.proofs.OneSeat.{one_part_is}
use Rattle.lane_table.proofs.Notes.{looked_first, noted_in, front_found}
use Rattle.lane_table.proofs.Looking.{never_none, no_words, found_bare, found_body, if_none, if_some}
use Rattle.lane_table.proofs.seat.NodeSeat.look.Goals as goal

pub load_of-found-requires-clause-keeps : goal.load_of-found-requires-clause-keeps
load_of-found-requires-clause-keeps c =
    let z = c.args.t.now.setup.sizes in
    let setup = c.args.t.now.setup in
    let p : Part = first_of c.self.inside.seat.me in
    let P : ℕ → Type 0 = λ i. Keeps setup i (λ n. n) p (looked_in p c.args.src c.args.class) (λ n. IsHeader z n × Fronts setup (looked_in p c.args.src c.args.class n) c.args.src c.args.class) in
    let at : cell_word z c.args.src p.number c.args.class 0 ≡ c.header_at-at.result = ap (λ k. cell_word z c.args.src k c.args.class 0) c.self.invariant.1 ∙ sym c.header_at-at.ensures.place in
    subst P at (keeps_in setup p c.args.src c.args.class c.requires.src)

pub returns-then-found-eq0-clause-none : goal.returns-then-found-eq0-clause-none
returns-then-found-eq0-clause-none c =
    let p : Part = first_of c.self.inside.seat.me in
    let is = one_part_is c.load_of-found.new.seat.me (looked_in p c.args.src c.args.class c.load_of-found.result) c.load_of-found.ensures.part in
    let same : p ≡ c.args.self.now.part = ap (λ (s : SeatView). s.part) c.self.view_is in
    is ∙ (λ k. looked_in (same k) c.args.src c.args.class (c.if-found-eq0.true k))

pub returns-in_err-bare-clause-none : goal.returns-in_err-bare-clause-none
returns-in_err-bare-clause-none c =
    let z : Sizes = c.args.t.now.setup.sizes in
    let machine = c.cfg-cfg.ensures.value in
    let wide : length c.zeros.result ≡ z.words = ap length c.zeros.ensures ∙ (length-replicate c.words.result 0 ∙ (c.words.ensures.value ∙ ap (λ (s : Sizes). s.words) machine)) in
    let named : from_words z c.load_of-found.result c.zeros.result ≡ None = ap (λ s. from_words s c.load_of-found.result c.zeros.result) (sym machine) ∙ sym c.in_err-bare.ensures in
    absurd (never_none z c.load_of-found.result c.zeros.result c.cfg-cfg.ensures.sized c.if-found-eq0.false c.load_of-found.ensures.told.0 wide named)

pub returns-then-is_none-clause-some : goal.returns-then-is_none-clause-some
returns-then-is_none-clause-some c =
    let p : Part = first_of c.self.inside.seat.me in
    let old : Part = c.args.self.now.part in
    let mid : Part = first_of c.load_of-found.new.seat.me in
    let m : Msg = c.in_ok-bare.bare in
    let same : p ≡ old = ap (λ (s : SeatView). s.part) c.self.view_is in
    let is : mid ≡ looked_in old c.args.src c.args.class c.load_of-found.result =
    one_part_is c.load_of-found.new.seat.me (looked_in p c.args.src c.args.class c.load_of-found.result) c.load_of-found.ensures.part ∙ ap (λ x. looked_in x c.args.src c.args.class c.load_of-found.result) same in
    let none = no_words (has_words (msg_content m)) (words_behind (msg_content m)) c.body_words.result c.body_words.ensures c.if-is_none.ensures in
    let machine : old.sizes ≡ c.args.t.now.setup.sizes = c.requires.seat.part.machine in
    let named : from_words old.sizes c.load_of-found.result c.zeros.result ≡ Some m = ap (λ s. from_words s c.load_of-found.result c.zeros.result) (machine ∙ sym c.cfg-cfg.ensures.value) ∙ sym c.in_ok-bare.ensures in
    found_bare old mid c.args.src c.args.class c.load_of-found.result c.zeros.result m (subst AreSizes (sym machine) c.cfg-cfg.ensures.sized) c.if-found-eq0.false is named none

pub returns-then-is_none-clause-front : goal.returns-then-is_none-clause-front
returns-then-is_none-clause-front c =
    let p : Part = first_of c.self.inside.seat.me in
    let old : Part = c.args.self.now.part in
    let mid : Part = first_of c.load_of-found.new.seat.me in
    let is = one_part_is c.load_of-found.new.seat.me (looked_in p c.args.src c.args.class c.load_of-found.result) c.load_of-found.ensures.part in
    let P : Part → Type 0 = λ x. Fronts c.args.t.now.setup x c.args.src c.args.class in
    front_found c.args.t.now.setup old mid c.args.src c.args.class c.in_ok-bare.bare c.requires.seat.part.machine (returns-then-is_none-clause-some c) (subst P (sym is) c.load_of-found.ensures.told.1) c.requires.cleared

pub read_body-body-requires-clause-none : goal.read_body-body-requires-clause-none
read_body-body-requires-clause-none c =
    let p : Part = first_of c.self.inside.seat.me in
    let is = one_part_is c.load_of-found.new.seat.me (looked_in p c.args.src c.args.class c.load_of-found.result) c.load_of-found.ensures.part in
    ap (λ (x : Part). (in_note x c.args.src c.args.class).body) is
    ∙ ap (λ n. n.body) (noted_in p (looked_in p c.args.src c.args.class c.load_of-found.result) c.args.src c.args.class (loaded (in_note p c.args.src c.args.class) c.load_of-found.result) (looked_first p c.args.src c.args.class c.load_of-found.result))

pub read_body-body-requires-clause-front : goal.read_body-body-requires-clause-front
read_body-body-requires-clause-front c =
    let p : Part = first_of c.self.inside.seat.me in
    let is = one_part_is c.load_of-found.new.seat.me (looked_in p c.args.src c.args.class c.load_of-found.result) c.load_of-found.ensures.part in
    let P : Part → Type 0 = λ x. Fronts c.args.t.now.setup x c.args.src c.args.class in
    subst P (sym is) c.load_of-found.ensures.told.1

pub returns-clause-none : goal.returns-clause-none
returns-clause-none c =
    let machine = c.cfg-cfg.ensures.value in
    let named : c.message_of-2.result ≡ from_words c.args.t.now.setup.sizes c.load_of-found.result c.read_body-body.result = c.message_of-2.ensures ∙ ap (λ z. from_words z c.load_of-found.result c.read_body-body.result) machine in
    if_none _ c.message_of-2.result (λ none. never_none c.args.t.now.setup.sizes c.load_of-found.result c.read_body-body.result c.cfg-cfg.ensures.sized c.if-found-eq0.false c.load_of-found.ensures.told.0 c.read_body-body.ensures.words (sym named ∙ none))

found_some : (c : goal.After-message_of-2) (m : Msg) → c.message_of-2.result ≡ Some m → Finds c.args.self.now.part (first_of c.read_body-body.new.seat.me) c.args.src c.args.class m
found_some c m some =
    let p : Part = first_of c.self.inside.seat.me in
    let old : Part = c.args.self.now.part in
    let mid : Part = first_of c.load_of-found.new.seat.me in
    let new : Part = first_of c.read_body-body.new.seat.me in
    let same : p ≡ old = ap (λ (s : SeatView). s.part) c.self.view_is in
    let is : mid ≡ looked_in old c.args.src c.args.class c.load_of-found.result =
    one_part_is c.load_of-found.new.seat.me (looked_in p c.args.src c.args.class c.load_of-found.result) c.load_of-found.ensures.part ∙ ap (λ x. looked_in x c.args.src c.args.class c.load_of-found.result) same in
    let machine : old.sizes ≡ c.args.t.now.setup.sizes = c.requires.seat.part.machine in
    let named : from_words old.sizes c.load_of-found.result c.read_body-body.result ≡ Some m =
    ap (λ s. from_words s c.load_of-found.result c.read_body-body.result) (machine ∙ sym c.cfg-cfg.ensures.value) ∙ (sym c.message_of-2.ensures ∙ some) in
    found_body old mid new c.args.src c.args.class c.load_of-found.result c.read_body-body.result m c.if-found-eq0.false is c.read_body-body.ensures.note named

pub returns-clause-some : goal.returns-clause-some
returns-clause-some c = if_some (Finds c.args.self.now.part (first_of c.read_body-body.new.seat.me) c.args.src c.args.class) c.message_of-2.result (found_some c)

pub returns-clause-front : goal.returns-clause-front
returns-clause-front c =
    let setup = c.args.t.now.setup in
    let new : Part = first_of c.read_body-body.new.seat.me in
    if_some (IsFront setup new c.args.src c.args.class) c.message_of-2.result
    (λ m some. front_found setup c.args.self.now.part new c.args.src c.args.class m c.requires.seat.part.machine (found_some c m some) c.read_body-body.ensures.front c.requires.cleared)
