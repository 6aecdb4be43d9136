-- A note of one lane changes, step by step.
use Rattle.std.proofs.Common.{◌≡◌, ◌≢◌, ℕ, ◌+◌, false, List, [], ◌∷◌, cond, not, refl, sym, ap, ◌∙◌, subst, ne_eqb, drop, drop-drop, Option, Some, None}
use Rattle.std.specs.Prelude.{slice_get}
use Rattle.std.proofs.lemmas.Option.{same_Some}
use Rattle.line_map.specs.Sizes.{Sizes}
use Rattle.op_model.specs.declared.events.Class.{Class}
use Rattle.op_model.specs.declared.messages.Msg.{Msg}
use Rattle.op_model.specs.Operations.{Words}
use Rattle.op_model.specs.MessageWords.{header_word, from_words}
use Rattle.op_model.specs.Parts.Part.{Part, ByLane, Note, no_note, at_lane, put_lane, sent_to, flushed_to, taken_from, cleared_from, out_note, in_note, named}
use Rattle.msg_words.proofs.Public.{names}
use Rattle.lane_table.specs.Setups.{Setup}
use Rattle.lane_table.specs.Steps.{loaded, with_word, done_with, looked_in, read_in, looked_out, stored_out, posted}
use Rattle.lane_table.specs.Calls.{IsOtherLane, ChangesNote, NotesIn, NotesOut, Finds, Gives, Flushes}
use Rattle.lane_table.specs.Told.{unflushed, IsFront, Fronts}
use Rattle.lane_table.proofs.Fields.{at_here, at_else}
use Rattle.lane_table.proofs.OneSeat.{IsSamePart}

change_more : (old new : ByLane Note) (node : ℕ) (class : Class) (t u : Note) → ChangesNote old new node class t → ChangesNote old (put_lane new node class u) node class u
change_more old new node class t u h =
    record { here = at_here no_note new node class u; others = λ other k apart. at_else no_note new node class u other k apart ∙ h.others other k apart }

change_first : (old : ByLane Note) (node : ℕ) (class : Class) (u : Note) → ChangesNote old (put_lane old node class u) node class u
change_first old node class u = record { here = at_here no_note old node class u; others = λ other k apart. at_else no_note old node class u other k apart }

pub looked_first : (p : Part) (a : ℕ) (c : Class) (w : ℕ) → NotesIn p (looked_in p a c w) a c (loaded (in_note p a c) w)
looked_first p a c w = record { notes = put_lane p.in_notes a c (loaded (in_note p a c) w); is = refl; changes = change_first p.in_notes a c (loaded (in_note p a c) w) }

pub noted_in : (p q : Part) (a : ℕ) (c : Class) (t : Note) → NotesIn p q a c t → in_note q a c ≡ t
noted_in p q a c t h = ap (λ x. in_note x a c) h.is ∙ h.changes.here

pub same_in : (p q : Part) (a : ℕ) (c : Class) (t : Note) → NotesIn p q a c t → IsSamePart p q
same_in p q a c t h = (ap (λ x. x.number) h.is, ap (λ x. x.sizes) h.is, ap (λ x. x.program) h.is)

pub noted_out : (p q : Part) (a : ℕ) (c : Class) (t : Note) → NotesOut p q a c t → out_note q a c ≡ t
noted_out p q a c t h = ap (λ x. out_note x a c) h.is ∙ h.changes.here

pub same_out : (p q : Part) (a : ℕ) (c : Class) (t : Note) → NotesOut p q a c t → IsSamePart p q
same_out p q a c t h = (ap (λ x. x.number) h.is, ap (λ x. x.sizes) h.is, ap (λ x. x.program) h.is)

-- one word more read, or stored
pub read_more : (p q : Part) (a : ℕ) (c : Class) (t : Note) (w : ℕ) → NotesIn p q a c t → NotesIn p (read_in q a c w) a c (with_word t w)
read_more p q a c t w h =
    let u : Note = with_word (at_lane no_note h.notes a c) w in
    let P : Part → Type 0 = λ x. NotesIn p (read_in x a c w) a c (with_word t w) in
    let Q : Note → Type 0 = λ n. ChangesNote p.in_notes (put_lane h.notes a c u) a c n in
    subst P (sym h.is) (record { notes = put_lane h.notes a c u; is = refl; changes = subst Q (ap (λ n. with_word n w) h.changes.here) (change_more p.in_notes h.notes a c t u h.changes) })

pub stored_more : (p q : Part) (a : ℕ) (c : Class) (t : Note) (w : ℕ) → NotesOut p q a c t → NotesOut p (stored_out q a c w) a c (with_word t w)
stored_more p q a c t w h =
    let u : Note = with_word (at_lane no_note h.notes a c) w in
    let P : Part → Type 0 = λ x. NotesOut p (stored_out x a c w) a c (with_word t w) in
    let Q : Note → Type 0 = λ n. ChangesNote p.out_notes (put_lane h.notes a c u) a c n in
    subst P (sym h.is) (record { notes = put_lane h.notes a c u; is = refl; changes = subst Q (ap (λ n. with_word n w) h.changes.here) (change_more p.out_notes h.notes a c t u h.changes) })

-- nothing was done yet
pub noted_none : (p : Part) (a : ℕ) (c : Class) (t : Note) → in_note p a c ≡ t → NotesIn p p a c t
noted_none p a c t e = record { notes = p.in_notes; is = refl; changes = record { here = e; others = λ other k apart. refl } }

pub stored_none : (p : Part) (a : ℕ) (c : Class) (t : Note) → out_note p a c ≡ t → NotesOut p p a c t
stored_none p a c t e = record { notes = p.out_notes; is = refl; changes = record { here = e; others = λ other k apart. refl } }

-- one stretch after another
pub noted_on : (p q r : Part) (a : ℕ) (c : Class) (t u : Note) → NotesIn p q a c t → NotesIn q r a c u → NotesIn p r a c u
noted_on p q r a c t u h k =
    record {
      notes = k.notes;
      is = k.is ∙ ap {A = Part} {B = Part} (λ x. record x { in_notes = k.notes }) h.is;
      changes = record {
        here = k.changes.here;
        others = λ other d apart. k.changes.others other d apart ∙ (ap (λ x. in_note x other d) h.is ∙ h.changes.others other d apart);
      };
    }

-- a note that names a message
pub finds : (old new : Part) (src : ℕ) (class : Class) (found : ℕ) (behind : Words) (m : Msg) → found ≢ 0
    → NotesIn old new src class (record (loaded (in_note old src class) found) { body = behind }) → from_words old.sizes found behind ≡ Some m → Finds old new src class m
finds old new src class found behind m some noted is =
    let header : header_word m ≡ found = (names old.sizes found behind m is).header in
    let P : ℕ → Type 0 = λ w. NotesIn old new src class (record (loaded (in_note old src class) w) { body = behind }) in
    let note : Note = record (loaded (in_note old src class) found) { body = behind } in
    record {
      behind = behind;
      noted = subst P (sym header) noted;
      names = ap (named old.sizes) (noted_in old new src class note noted) ∙ (ap (λ v. cond (not v) (from_words old.sizes found behind) None) (ne_eqb found 0 some) ∙ is);
    }

-- what a standing note names is the front of its lane, as long as no event of it was made
pub front_found : (setup : Setup) (old new : Part) (src : ℕ) (class : Class) (m : Msg) → old.sizes ≡ setup.sizes → Finds old new src class m → Fronts setup new src class → taken_from old src class ≡ cleared_from old src class → IsFront setup new src class m
front_found setup old new src class m machine h fronts cleared =
    let P : Part → Type 0 = λ x. taken_from x src class ≡ cleared_from x src class in
    fronts m (ap (λ (z : Sizes). named z (in_note new src class)) (sym machine) ∙ h.names) (subst P (sym h.noted.is) cleared)

-- the sender gave the cell a message
pub gives : (old mid : Part) (dst : ℕ) (class : Class) (behind : Words) → NotesOut old mid dst class (record (out_note old dst class) { body = behind }) → Gives old (posted mid dst class) dst class
gives old mid dst class behind h =
    let note : Note = record (out_note old dst class) { body = behind } in
    let u : Note = done_with (at_lane no_note h.notes dst class) in
    let P : Part → Type 0 = λ x. Gives old (posted x dst class) dst class in
    let Q : Note → Type 0 = λ n. ChangesNote old.out_notes (put_lane h.notes dst class u) dst class n in
    subst P (sym h.is) (record {
      notes = put_lane h.notes dst class u;
      behind = behind;
      is = refl;
      changes = subst Q (ap done_with h.changes.here) (change_more old.out_notes h.notes dst class note u h.changes);
    })

pub same_given : (old new : Part) (dst : ℕ) (class : Class) → Gives old new dst class → IsSamePart old new
same_given old new dst class h = (ap (λ x. x.number) h.is, ap (λ x. x.sizes) h.is, ap (λ x. x.program) h.is)

-- and found it empty before
pub flushes : (old new : Part) (dst : ℕ) (class : Class) (word : ℕ) (m : Msg) (rest : List Msg) → word ≡ 0 → unflushed old dst class ≡ m ∷ rest → Gives (looked_out old dst class word) new dst class → Flushes old new dst class
flushes old new dst class word m rest empty first h =
    let seen : Note = loaded (out_note old dst class) word in
    let mid : Part = looked_out old dst class word in
    let Q : Note → Type 0 = λ n. at_lane no_note h.notes dst class ≡ n in
    let noted : out_note mid dst class ≡ seen = at_here no_note old.out_notes dst class seen in
    record {
      msg = m;
      rest = rest;
      first = first;
      notes = h.notes;
      behind = h.behind;
      is = h.is;
      changes = record {
        here = subst Q ((λ k. record (noted k) { body = h.behind; stands = false }) ∙ (λ k. record { loads = (out_note old dst class).loads + 1; word = empty k; body = h.behind; stands = false })) h.changes.here;
        others = λ other k apart. h.changes.others other k apart ∙ at_else no_note old.out_notes dst class seen other k apart;
      };
    }

-- one message fewer is left
pub one_fewer : (old new : Part) (dst : ℕ) (class : Class) → Flushes old new dst class → unflushed new dst class ≡ drop 1 (unflushed old dst class)
one_fewer old new dst class h =
    ap (λ x. unflushed x dst class) h.is
    ∙ (ap (λ n. drop n (sent_to old dst class)) (at_here 0 old.flushed dst class (flushed_to old dst class + 1)) ∙ sym (drop-drop 1 (flushed_to old dst class) (sent_to old dst class)))

-- what waits on other lanes stays
pub kept_waiting : (old new : Part) (dst : ℕ) (class : Class) → Flushes old new dst class → (other : ℕ) (k : Class) → IsOtherLane dst class other k → unflushed new other k ≡ unflushed old other k
kept_waiting old new dst class h other k apart =
    ap (λ x. unflushed x other k) h.is ∙ ap (λ n. drop n (sent_to old other k)) (at_else 0 old.flushed dst class (flushed_to old dst class + 1) other k apart)

-- the first of a list
pub first_waits : (xs : List Msg) (m : Msg) → Some m ≡ slice_get xs 0 → (rest : List Msg) × (xs ≡ m ∷ rest)
first_waits [] m e = absurd (let d : ◌≡◌ {A = Option Msg} (Some m) None = e in cc)
first_waits (x ∷ xs) m e = (xs, ap (λ y. y ∷ xs) (sym (same_Some m x e)))
