-- What a header word, with the words read behind it, names: never nothing.
use Rattle.std.proofs.Common.{◌≡◌, ◌≢◌, ℕ, Bool, true, false, cond, [], length, refl, sym, ap, ◌∙◌, subst, Option, Some, None}
use Rattle.std.specs.Prelude.{IfNone, IfSome, is_some}
use Rattle.line_map.specs.Sizes.{Sizes, AreSizes}
use Rattle.op_model.specs.declared.events.Class.{Class}
use Rattle.op_model.specs.declared.messages.Msg.{Msg}
use Rattle.op_model.specs.Operations.{Words}
use Rattle.op_model.specs.Messages.{msg_content}
use Rattle.op_model.specs.MessageWords.{has_words, from_words}
use Rattle.op_model.specs.Parts.Part.{Part, Note, ByLane, put_lane, in_note}
use Rattle.msg_words.proofs.Public.{named, names, none_has}
use Rattle.lane_table.specs.Steps.{loaded, looked_in}
use Rattle.lane_table.specs.Told.{IsHeader}
use Rattle.lane_table.specs.Calls.{NotesIn, Finds}
use Rattle.lane_table.proofs.Reading.{few_sizes}
use Rattle.lane_table.proofs.Notes.{looked_first, noted_in, noted_on, finds}

pub never_none : (sizes : Sizes) (word : ℕ) (words : Words) → AreSizes sizes → word ≢ 0 → IsHeader sizes word → length words ≡ sizes.words → from_words sizes word words ≡ None → ⊥
never_none sizes word words are some told wide none =
    let m = told some in
    none_has sizes word words (few_sizes sizes are) wide none m.0 m.1 m.2

-- a message that brings no words is named by its header word alone
pub bare_named : (sizes : Sizes) (word : ℕ) (words : Words) (m : Msg) → AreSizes sizes → from_words sizes word words ≡ Some m → has_words (msg_content m) ≡ false → from_words sizes word [] ≡ Some m
bare_named sizes word words m are is none =
    let by = names sizes word words m is in
    ap (λ w. from_words sizes w []) (sym by.header) ∙ named sizes m [] (few_sizes sizes are) by.of_machine (λ has. absurd (let e = sym none ∙ has in cc))

pub no_words : (has : Bool) (words : Words) (o : Option Words) → o ≡ cond has (Some words) None → is_some o ≡ false → has ≡ false
no_words true words o is none = absurd (let e : true ≡ false = ap is_some (sym is) ∙ none in cc)
no_words false words o is none = refl

-- the part after the loads of the words behind the header word
pub found_bare : (old new : Part) (src : ℕ) (class : Class) (word : ℕ) (words : Words) (m : Msg) → AreSizes old.sizes → word ≢ 0 → new ≡ looked_in old src class word → from_words old.sizes word words ≡ Some m → has_words (msg_content m) ≡ false → Finds old new src class m
found_bare old new src class word words m are some is named_so none =
    let P : Part → Type 0 = λ x. NotesIn old x src class (loaded (in_note old src class) word) in
    finds old new src class word [] m some (subst P (sym is) (looked_first old src class word)) (bare_named old.sizes word words m are named_so none)

pub found_body : (old mid new : Part) (src : ℕ) (class : Class) (word : ℕ) (body : Words) (m : Msg) → word ≢ 0 → mid ≡ looked_in old src class word → NotesIn mid new src class (record (in_note mid src class) { body = body })
    → from_words old.sizes word body ≡ Some m → Finds old new src class m
found_body old mid new src class word body m some is noted named_so =
    let first = looked_first old src class word in
    let P : Part → Type 0 = λ x. NotesIn x new src class (record (in_note x src class) { body = body }) in
    let at = subst P is noted in
    let same = noted_in old (looked_in old src class word) src class (loaded (in_note old src class) word) first in
    let Q : Note → Type 0 = λ n. NotesIn (looked_in old src class word) new src class (record n { body = body }) in
    finds old new src class word body m some (noted_on old (looked_in old src class word) new src class (loaded (in_note old src class) word) (record (loaded (in_note old src class) word) { body = body }) first (subst Q same at)) named_so

pub if_none : (P : Type 0) (o : Option Msg) → (o ≡ None → ⊥) → IfNone o P
if_none P None never = absurd (never refl)
if_none P (Some m) never = tt

pub if_some : (P : Msg → Type 0) (o : Option Msg) → ((m : Msg) → o ≡ Some m → P m) → IfSome o P
if_some P None each = tt
if_some P (Some m) each = each m refl

-- a look changes nothing but the notes
pub only_notes : (old new : Part) (src : ℕ) (class : Class) (o : Option Msg) → IfNone o (new ≡ looked_in old src class 0) → IfSome o (Finds old new src class) → (notes : ByLane Note) × (new ≡ record old { in_notes = notes })
only_notes old new src class None none some = (put_lane old.in_notes src class (loaded (in_note old src class) 0), none)
only_notes old new src class (Some m) none some = (some.noted.notes, some.noted.is)
