-- A fault names a line that counts, or else the line after the last: each phase reads on in the lines that are left, and a fault is told with the line just read.
use Rattle.std.proofs.Common.{◌≡◌, ℕ, zero, suc, List, [], ◌∷◌, ◌++◌, Result, Ok, Err, refl, sym, subst, ◌∙◌, ◌⊎◌, inl, inr}
use Rattle.std.specs.Prelude.{codes, IfErr}
use Rattle.std.specs.Str.{bytes_eq}
use Rattle.std.specs.Global.{Vec}
use Rattle.std.proofs.lemmas.Bool.{cases_Bool}
use Rattle.line_map.specs.Sizes.{Sizes, ◌>>=◌}
use Rattle.op_model.specs.declared.operations.Entry.{Entry}
use Rattle.text_lines.specs.Lines.{Line, Input, left, words_of}
use Rattle.text_lines.proofs.Public.{Has, has_first, has_later, line_named}
use Rattle.trace_text.specs.declared.fault.TraceCause.{TraceCause}
use Rattle.trace_text.specs.declared.fault.TraceCause.TheVariants.{NoEnd}
use Rattle.trace_text.specs.Forms.{named}
use Rattle.hist_check.specs.declared.fault.EntriesError.{EntriesError}
use Rattle.hist_check.specs.declared.fault.EntriesError.TheVariants.{Bad, Memory}
use Rattle.hist_check.specs.Forms.{report_line, entry_form}
use Rattle.hist_check.specs.Places.{NamesLine}
use Rattle.hist_check.specs.Reading.{Gives, of_line, next_of, behind_end, head_of, report_front, entries_from, entries_in}

abbrev Names : Input → EntriesError → Type 0
Names input (Bad number cause) = ((cause ≡ NoEnd) × (number ≡ input.end)) ⊎ Has input.lines number
Names input Memory = Unit {0}

-- what is left after some lines were read
record IsRest (input after : Input) : Type 0 where
  pub lines : (number : ℕ) → Has after.lines number → Has input.lines number
  pub end : after.end ≡ input.end

-- a phase with what it leaves leaves a rest, or names a line
abbrev Tells : {A : Type 0} → (A → Input) → Input → Result A EntriesError → Type 0
Tells leaves input (Ok x) = IsRest input (leaves x)
Tells leaves input (Err e) = Names input e

-- the last phase leaves nothing
abbrev Refuses : {A : Type 0} → Input → Result A EntriesError → Type 0
Refuses input (Ok x) = Unit {0}
Refuses input (Err e) = Names input e

names_on : (input after : Input) (e : EntriesError) → IsRest input after → Names after e → Names input e
names_on input after (Bad number cause) is (inl none) = inl (none.0, none.1 ∙ is.end)
names_on input after (Bad number cause) is (inr has) = inr (is.lines number has)
names_on input after Memory is names = tt

tells_on : {A : Type 0} (leaves : A → Input) (input after : Input) (r : Result A EntriesError) → IsRest input after → Tells leaves after r → Tells leaves input r
tells_on leaves input after (Ok x) is tells = record { lines = λ number has. is.lines number (tells.lines number has); end = tells.end ∙ is.end }
tells_on leaves input after (Err e) is names = names_on input after e is names

refuses_on : {A : Type 0} (input after : Input) (r : Result A EntriesError) → IsRest input after → Refuses after r → Refuses input r
refuses_on input after (Ok x) is refuses = tt
refuses_on input after (Err e) is names = names_on input after e is names

tells_then : {A B : Type 0} (leaves : A → Input) (next : B → Input) (input : Input) (r : Result A EntriesError) (f : A → Result B EntriesError) → Tells leaves input r → ((x : A) → Tells next (leaves x) (f x)) → Tells next input (r >>= f)
tells_then leaves next input (Ok x) f rest go = tells_on next input (leaves x) (f x) rest (go x)
tells_then leaves next input (Err e) f names go = names

refuses_then : {A B : Type 0} (leaves : A → Input) (input : Input) (r : Result A EntriesError) (f : A → Result B EntriesError) → Tells leaves input r → ((x : A) → Refuses (leaves x) (f x)) → Refuses input (r >>= f)
refuses_then leaves input (Ok x) f rest go = refuses_on input (leaves x) (f x) rest (go x)
refuses_then leaves input (Err e) f names go = names

rest_of : (line : Line) (lines : List Line) (end : ℕ) → IsRest (record { lines = line ∷ lines; end = end }) (record { lines = lines; end = end })
rest_of line lines end = record { lines = has_later line lines; end = refl }

same_rest : (input : Input) → IsRest input input
same_rest input = record { lines = λ number has. has; end = refl }

abbrev behind : {A : Type 0} → A × Input → Input
behind x = x.1

abbrev itself : Input → Input
itself input = input

next_told : (lines : List Line) (end : ℕ) → Tells (behind {A = Line}) (record { lines = lines; end = end }) (next_of (record { lines = lines; end = end }))
next_told [] end = inl (refl, refl)
next_told (line ∷ lines) end = rest_of line lines end

-- a line with what it says
line_told : {A : Type 0} (says : Line → Result A TraceCause) (lines : List Line) (end : ℕ)
    → Tells (behind {A = A}) (record { lines = lines; end = end }) (next_of (record { lines = lines; end = end }) >>= λ next. of_line next.0.number (says next.0) >>= λ a. Ok (a, next.1))
line_told says [] end = inl (refl, refl)
line_told says (line ∷ lines) end = one_told line lines end (says line)
  where
    one_told : {A : Type 0} (line : Line) (lines : List Line) (end : ℕ) (r : Result A TraceCause) → Tells (behind {A = A}) (record { lines = line ∷ lines; end = end }) (of_line line.number r >>= λ a. Ok (a, record { lines = lines; end = end }))
    one_told line lines end (Ok a) = rest_of line lines end
    one_told line lines end (Err cause) = inr (has_first line lines)

end_told : (lines : List Line) (end : ℕ) → Tells itself (record { lines = lines; end = end }) (behind_end lines end)
unfolding behind_end
end_told [] end = inl (refl, refl)
end_told (line ∷ lines) end = elim (cases_Bool (bytes_eq line.text (codes "end"))) [
  | inl is ↦ rw is (rest_of line lines end)
  | inr other ↦ rw other (tells_on itself (record { lines = line ∷ lines; end = end }) (record { lines = lines; end = end }) (behind_end lines end) (rest_of line lines end) (end_told lines end))
]

-- the first line, behind a section of steps, with what it says
head_told : {A : Type 0} (says : Line → Result A TraceCause) (lines : List Line) (end : ℕ)
    → Tells (behind {A = A}) (record { lines = lines; end = end }) (head_of (record { lines = lines; end = end }) >>= λ head. of_line head.0.number (says head.0) >>= λ a. Ok (a, head.1))
unfolding head_of
head_told says [] end = inl (refl, refl)
head_told says (line ∷ lines) end = elim (cases_Bool (bytes_eq line.text (codes "steps"))) [
  | inl is ↦ rw is (tells_on behind (record { lines = line ∷ lines; end = end }) (record { lines = lines; end = end }) _ (rest_of line lines end) (passed (behind_end lines end) (end_told lines end)))
  | inr other ↦ rw other (line_told says (line ∷ lines) end)
]
  where
    passed : (r : Result Input EntriesError) → Tells itself (record { lines = lines; end = end }) r → Tells behind (record { lines = lines; end = end }) ((r >>= next_of) >>= λ head. of_line head.0.number (says head.0) >>= λ a. Ok (a, head.1))
    passed (Ok after) rest = tells_on behind (record { lines = lines; end = end }) after _ rest (line_told says after.lines after.end)
    passed (Err e) names = names

-- what a line says, and what is left behind it
abbrev said : {B : Type 0} → ℕ → Result B TraceCause → Input → Result (B × Input) EntriesError
said number r after = of_line number r >>= λ b. Ok (b, after)

-- a line is read, and then reading goes on behind it
in_two : {A B C : Type 0} (r : Result A EntriesError) (number : A → ℕ) (says : A → Result B TraceCause) (leaves : A → Input) (go : Input → Result C EntriesError)
    → (r >>= λ a. of_line (number a) (says a) >>= λ b. go (leaves a)) ≡ ((r >>= λ a. said (number a) (says a) (leaves a)) >>= λ x. go x.1)
in_two (Err e) number says leaves go = refl
in_two {B = B} {C = C} (Ok a) number says leaves go = one (says a)
  where
    one : (r : Result B TraceCause) → (of_line (number a) r >>= λ b. go (leaves a)) ≡ (said (number a) r (leaves a) >>= λ x. go x.1)
    one (Ok b) = refl
    one (Err cause) = refl

abbrev count_of : Input → Result (ℕ × Input) EntriesError
count_of input = next_of input >>= λ next. of_line next.0.number (named (codes "history") (words_of next.0.text)) >>= λ count. Ok (count, next.1)

front_told : (version : ℕ) (input : Input) → Tells (behind {A = ℕ}) input (report_front version input)
unfolding report_front
front_told version input =
    let says : Line → Result (Unit {0}) TraceCause = λ line. report_line version (words_of line.text) in
    subst (λ (r : Result (ℕ × Input) EntriesError). Tells (behind {A = ℕ}) input r) (sym (in_two (head_of input) (λ head. head.0.number) (λ head. says head.0) (λ head. head.1) count_of))
    (tells_then behind behind input (head_of input >>= λ head. said head.0.number (says head.0) head.1) (λ x. count_of x.1) (head_told says input.lines input.end)
    (λ x. line_told (λ line. named (codes "history") (words_of line.text)) (x.1).lines (x.1).end))

entry_told : {A : Type 0} (line : Line) (lines : List Line) (end : ℕ) (r : Result Entry TraceCause) (go : Entry → Result A EntriesError)
    → ((entry : Entry) → Refuses (record { lines = lines; end = end }) (go entry)) → Refuses (record { lines = line ∷ lines; end = end }) (of_line line.number r >>= go)
entry_told line lines end (Ok entry) go told = refuses_on (record { lines = line ∷ lines; end = end }) (record { lines = lines; end = end }) (go entry) (rest_of line lines end) (told entry)
entry_told line lines end (Err cause) go told = inr (has_first line lines)

entries_told : (sizes : Sizes) (version : ℕ) (before : List Entry) (count : ℕ) (lines : List Line) (end : ℕ) → Refuses (record { lines = lines; end = end }) (entries_from sizes version before count (record { lines = lines; end = end }))
unfolding entries_from
entries_told sizes version before zero lines end = tt
entries_told sizes version before (suc count) [] end = inl (refl, refl)
entries_told sizes version before (suc count) (line ∷ lines) end =
    entry_told line lines end (entry_form sizes version (words_of line.text)) (λ entry. entries_from sizes version (before ++ entry ∷ []) count (record { lines = lines; end = end })) (λ entry. entries_told sizes version (before ++ entry ∷ []) count lines end)

history_told : (sizes : Sizes) (version : ℕ) (input : Input) → Refuses input (entries_in sizes version input)
unfolding entries_in
history_told sizes version input =
    refuses_then behind input (report_front version input) (λ front. entries_from sizes version [] front.0 front.1) (front_told version input) (λ front. entries_told sizes version [] front.0 (front.1).lines (front.1).end)

names_line : (first : ℕ) (text : List ℕ) (e : EntriesError) → Names (left first text) e → NamesLine first text e
names_line first text (Bad number cause) (inl none) = inl none
names_line first text (Bad number cause) (inr has) = inr (line_named first text number has)
names_line first text Memory names = tt

fault_named : (sizes : Sizes) (version first : ℕ) (text : List ℕ) (e : EntriesError) → entries_in sizes version (left first text) ≡ Err e → NamesLine first text e
fault_named sizes version first text e is = names_line first text e (subst (λ (r : Result (List Entry) EntriesError). Refuses (left first text) r) is (history_told sizes version (left first text)))

pub read_named : (sizes : Sizes) (version first : ℕ) (text : List ℕ) (result : Result (Vec Entry) EntriesError) → Gives (λ (v : Vec Entry). v.items) result (entries_in sizes version (left first text)) → IfErr result (NamesLine first text)
read_named sizes version first text (Ok v) is = tt
read_named sizes version first text (Err (Bad line cause)) is = fault_named sizes version first text (Bad line cause) is
read_named sizes version first text (Err Memory) is = tt
