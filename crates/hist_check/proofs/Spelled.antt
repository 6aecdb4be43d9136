-- What was read is spelled by the lines: each step of reading takes the lines that it says.
use Rattle.std.proofs.Common.{◌≡◌, ℕ, zero, suc, true, false, List, [], ◌∷◌, ◌++◌, length, Result, Ok, Err, refl, sym, ap, subst, ◌∙◌, append_assoc, ◌⊎◌, inl, inr}
use Rattle.std.specs.Prelude.{codes, IfOk}
use Rattle.std.specs.Str.{bytes_eq}
use Rattle.std.specs.Global.{Vec}
use Rattle.std.specs.List.{All}
use Rattle.std.proofs.lemmas.Bool.{cases_Bool}
use Rattle.std.proofs.lemmas.Slice.Eq.{bytes_eq-Decides}
use Rattle.std.proofs.lemmas.List.{append-nil}
use Rattle.std.proofs.lemmas.List.Elements.{All-cons, All-nil}
use Rattle.line_map.specs.Sizes.{Sizes}
use Rattle.op_model.specs.declared.operations.Entry.{Entry}
use Rattle.text_lines.specs.Lines.{Line, Input, words_of}
use Rattle.text_lines.proofs.Public.{bind_ok, same_value}
use Rattle.trace_text.specs.declared.fault.TraceCause.{TraceCause}
use Rattle.hist_check.specs.declared.fault.EntriesError.{EntriesError}
use Rattle.hist_check.specs.Forms.{entry_form}
use Rattle.hist_check.specs.Reading.{Gives, of_line, next_of, behind_end, head_of, report_front, entries_from, entries_in}
use Rattle.hist_check.specs.Spelling.{IsNoEnd, IsSection, SpellEntries, IsSpelled}

of_line_ok : {A : Type 0} (n : ℕ) (r : Result A TraceCause) (a : A) → of_line n r ≡ Ok a → r ≡ Ok a
of_line_ok n (Ok x) a e = ap Ok (same_value x a e)
of_line_ok n (Err cause) a e = absurd (cc e)

-- the next line is the first that is left
next_ok : (lines : List Line) (end : ℕ) (x : Line × Input) → next_of (record { lines = lines; end = end }) ≡ Ok x → lines ≡ x.0 ∷ (x.1).lines
next_ok [] end x e = absurd (cc e)
next_ok (line ∷ lines) end x e =
    let same = same_value (line, record { lines = lines; end = end }) x e in
    ap (λ (y : Line × Input). y.0 ∷ (y.1).lines) same

-- ---- a section of steps

record Passes (lines : List Line) (after : Input) : Type 0 where
  pub middle : List Line
  pub last : Line
  pub whole : lines ≡ middle ++ last ∷ after.lines
  pub within : All IsNoEnd middle
  pub over : last.text ≡ codes "end"

no-end : (line : Line) → bytes_eq line.text (codes "end") ≡ false → IsNoEnd line
no-end line other same =
    let e : true ≡ false = sym ((bytes_eq-Decides line.text (codes "end")).1 same) ∙ other in
    cc e

end_ok : (lines : List Line) (end : ℕ) (after : Input) → behind_end lines end ≡ Ok after → Passes lines after
unfolding behind_end
end_ok [] end after e = absurd (cc e)
end_ok (line ∷ lines) end after e = elim (cases_Bool (bytes_eq line.text (codes "end"))) [
  | inl is ↦
      let same = same_value (record { lines = lines; end = end }) after (rw is at e) in
      record { middle = []; last = line; whole = ap (λ (i : Input). line ∷ i.lines) same; within = All-nil IsNoEnd; over = (bytes_eq-Decides line.text (codes "end")).0 is }
  | inr other ↦
      let rest = end_ok lines end after (rw other at e) in
      record { middle = line ∷ rest.middle; last = rest.last; whole = ap (λ (ls : List Line). line ∷ ls) rest.whole; within = All-cons IsNoEnd line rest.middle (no-end line other) rest.within; over = rest.over }
]

record HasHead (lines : List Line) (x : Line × Input) : Type 0 where
  pub front : List Line
  pub whole : lines ≡ front ++ x.0 ∷ (x.1).lines
  pub passed : (front ≡ []) ⊎ IsSection front

head_ok : (lines : List Line) (end : ℕ) (x : Line × Input) → head_of (record { lines = lines; end = end }) ≡ Ok x → HasHead lines x
unfolding head_of
head_ok [] end x e = absurd (cc e)
head_ok (line ∷ lines) end x e = elim (cases_Bool (bytes_eq line.text (codes "steps"))) [
  | inl is ↦
      let p = bind_ok (behind_end lines end) next_of x (rw is at e) in
      let by = end_ok lines end p.value p.first in
      let next = next_ok (p.value).lines (p.value).end x p.rest in
      record {
        front = line ∷ (by.middle ++ by.last ∷ []);
        whole = ap (λ (ls : List Line). line ∷ ls) (by.whole ∙ ap (λ (ls : List Line). by.middle ++ by.last ∷ ls) next ∙ sym (append_assoc by.middle (by.last ∷ []) (x.0 ∷ (x.1).lines)));
        passed = inr (record { mark = line; middle = by.middle; last = by.last; whole = refl; begins = (bytes_eq-Decides line.text (codes "steps")).0 is; within = by.within; over = by.over });
      }
  | inr other ↦
      let same = same_value (line, record { lines = lines; end = end }) x (rw other at e) in
      record { front = []; whole = ap (λ (y : Line × Input). y.0 ∷ (y.1).lines) same; passed = inl refl }
]

-- ---- entries

record TakesEntries (sizes : Sizes) (version : ℕ) (before : List Entry) (count : ℕ) (lines : List Line) (entries : List Entry) : Type 0 where
  pub middle : List Line
  pub rest : List Line
  pub more : List Entry
  pub whole : lines ≡ middle ++ rest
  pub all : entries ≡ before ++ more
  pub long : length more ≡ count
  pub spelled : SpellEntries sizes version middle more

entries_ok : (sizes : Sizes) (version : ℕ) (before : List Entry) (count : ℕ) (lines : List Line) (end : ℕ) (entries : List Entry) → entries_from sizes version before count (record { lines = lines; end = end }) ≡ Ok entries → TakesEntries sizes version before count lines entries
unfolding entries_from
entries_ok sizes version before zero lines end entries e =
    record { middle = []; rest = lines; more = []; whole = refl; all = sym (same_value before entries e) ∙ sym (append-nil before); long = refl; spelled = tt }
entries_ok sizes version before (suc count) [] end entries e = absurd (cc e)
entries_ok sizes version before (suc count) (line ∷ lines) end entries e =
    let a = bind_ok (of_line line.number (entry_form sizes version (words_of line.text))) (λ entry. entries_from sizes version (before ++ entry ∷ []) count (record { lines = lines; end = end })) entries e in
    let is = of_line_ok line.number (entry_form sizes version (words_of line.text)) a.value a.first in
    let h = entries_ok sizes version (before ++ a.value ∷ []) count lines end entries a.rest in
    record {
      middle = line ∷ h.middle;
      rest = h.rest;
      more = a.value ∷ h.more;
      whole = ap (λ (ls : List Line). line ∷ ls) h.whole;
      all = h.all ∙ append_assoc before (a.value ∷ []) h.more;
      long = ap suc h.long;
      spelled = (is, h.spelled);
    }

-- ---- the whole

entries_spelled : (sizes : Sizes) (version : ℕ) (input : Input) (entries : List Entry) → entries_in sizes version input ≡ Ok entries → IsSpelled sizes version input.lines entries
unfolding entries_in report_front
entries_spelled sizes version input entries e =
    let front = bind_ok (report_front version input) (λ front. entries_from sizes version [] front.0 front.1) entries e in
    let head = bind_ok (head_of input) _ front.value front.first in
    let report = bind_ok _ _ front.value head.rest in
    let next = bind_ok _ _ front.value report.rest in
    let count = bind_ok _ _ front.value next.rest in
    let out = same_value (count.value, (next.value).1) front.value count.rest in
    let by = head_ok input.lines input.end head.value head.first in
    let behind = next_ok ((head.value).1).lines ((head.value).1).end next.value next.first in
    let is = of_line_ok _ _ count.value count.first in
    let read = entries_ok sizes version [] count.value ((next.value).1).lines ((next.value).1).end entries (subst (λ (x : ℕ × Input). entries_from sizes version [] x.0 x.1 ≡ Ok entries) (sym out) front.rest) in
    record {
      front = by.front;
      head = (head.value).0;
      count = (next.value).0;
      middle = read.middle;
      rest = read.rest;
      whole = by.whole ∙ ap (λ (ls : List Line). by.front ++ (head.value).0 ∷ ls) (behind ∙ ap (λ (ls : List Line). (next.value).0 ∷ ls) read.whole);
      passed = by.passed;
      report = of_line_ok _ _ tt report.first;
      counted = is ∙ ap Ok (sym read.long ∙ ap length (sym read.all));
      each = subst (SpellEntries sizes version read.middle) (sym read.all) read.spelled;
    }

pub read_spelled : (sizes : Sizes) (version : ℕ) (input : Input) (result : Result (Vec Entry) EntriesError) → Gives (λ (v : Vec Entry). v.items) result (entries_in sizes version input) → IfOk result (λ v. IsSpelled sizes version input.lines v.items)
read_spelled sizes version input (Ok v) is = entries_spelled sizes version input v.items is
read_spelled sizes version input (Err e) is = tt
