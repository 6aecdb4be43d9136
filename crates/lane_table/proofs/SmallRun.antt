-- A machine of two nodes with one line each, of which node 1 loads the line of node 0: what each does.
use Rattle.std.proofs.Common.{◌≡◌, ℕ, zero, suc, ◌+◌, Bool, true, false, ◌&&◌, List, [], ◌∷◌, length, refl, sym, ap, ◌∙◌, subst, lit<, Option, Some, None, Result, Ok, Err}
use Rattle.std.specs.Prelude.{IfSome, IfNone, IsSome, slice_get}
use Rattle.std.proofs.lemmas.Option.{same_Some}
use Rattle.line_map.specs.Sizes.{Sizes, sizes_of}
use Rattle.line_map.specs.declared.machine.OutOfRange.{OutOfRange}
use Rattle.op_model.specs.declared.events.Class.TheVariants.{Request, Reply}
use Rattle.op_model.specs.declared.events.Cause.{Cause}
use Rattle.op_model.specs.declared.events.Event.TheVariants.{Issue, Take}
use Rattle.op_model.specs.declared.messages.Msg.{Msg}
use Rattle.op_model.specs.declared.messages.Msg.TheVariants as msg
use Rattle.op_model.specs.declared.operations.Op.{Op}
use Rattle.op_model.specs.Nodes.{listings}
use Rattle.op_model.specs.Messages.{msg_content}
use Rattle.op_model.specs.Shares.{Share, Linked, copy_of, header_in}
use Rattle.op_model.specs.Events.Node.{NodeOutcome, IssueNext, TakeFrom, local, meets_row, is_get, with_victim}
use Rattle.op_model.specs.Run.Runs.{start_share}
use Rattle.op_model.specs.Tables.Processor.{begin_op, ask}
use Rattle.op_model.specs.Tables.Home.{wants_victim, on_get}
use Rattle.op_model.specs.Tables.Remote.{meets, row_of, on_message}
use Rattle.op_model.specs.declared.events.Class.{Class}
use Rattle.op_model.specs.declared.events.Event.{Event}
use Rattle.op_model.specs.declared.events.Numbered.{Numbered}
use Rattle.op_model.specs.MessageWords.{has_words}
use Rattle.op_model.specs.Messages.{Content, Get, GetX, FwdGet, FwdGetX, Inv, Wb, Rpl, Put, PutX, Nak, InvAck, ShWb, FAck, Nakc}
use Rattle.op_model.specs.Events.Step.{to_lane}
use Rattle.op_model.specs.Parts.Part.{Part, Note, ByLane, no_note, at_lane, put_lane, part_at_start, taken_from, cleared_from, in_note, named, logged}
use Rattle.op_model.specs.Parts.OwnStep.{own_step, after_outcome}
use Rattle.row_examples.proofs.Public.{entries-empty, entries-put, get-none, get-put}
use Rattle.node_parts.proofs.Public.{own_issue, own_take}
use Rattle.lane_table.specs.Steps.{looked_in, freed}
use Rattle.lane_table.specs.Told.{unflushed}
use Rattle.lane_table.specs.Calls.{Finds, Flushes}
use Rattle.lane_table.specs.Samples.{small_sizes, a_load, HasAsked}
use Rattle.op_model.specs.Programs.{IsOpOf, IsProgramOf, ArePrograms}

pub small-sizes : (cfg : Sizes) → Ok cfg ≡ sizes_of 2 1 1 1 1 1 1 → cfg ≡ small_sizes
unfolding sizes_of
small-sizes cfg is = let same : ◌≡◌ {A = Result Sizes OutOfRange} (Ok cfg) (Ok small_sizes) = is in cc

no-ops : IsProgramOf small_sizes 0 []
no-ops i op is = absurd (cc)

one-op : IsProgramOf small_sizes 1 (a_load ∷ [])
one-op zero op is = subst (IsOpOf small_sizes 1 0) (same_Some a_load op is) (record { of_node = refl; at_index = refl; word = lit< tt })
one-op (suc i) op is = absurd (cc)

pub small-programs : ArePrograms small_sizes ([] ∷ (a_load ∷ []) ∷ [])
small-programs = record { count = refl; each = go }
  where
    go : (node : ℕ) (own : List Op) → slice_get ([] ∷ (a_load ∷ []) ∷ []) node ≡ Some own → IsProgramOf small_sizes node own
    go zero own is = subst (IsProgramOf small_sizes 0) (same_Some [] own is) no-ops
    go (suc zero) own is = subst (IsProgramOf small_sizes 1) (same_Some (a_load ∷ []) own is) one-op
    go (suc (suc node)) own is = absurd (cc)

ruleset maps = (entries-empty, entries-put, get-none, get-put)

-- what a node does, as far as its messages go
pub record Sends (r : Result NodeOutcome Cause) (sends : List (ℕ × Msg)) : Type 0 where
  pub out : NodeOutcome
  pub is : r ≡ Ok out
  pub same : out.sends ≡ sends

sends-of : Result NodeOutcome Cause → Option (List (ℕ × Msg))
sends-of (Ok out) = Some out.sends
sends-of (Err cause) = None

sends_by : (r : Result NodeOutcome Cause) (sends : List (ℕ × Msg)) → sends-of r ≡ Some sends → Sends r sends
unfolding sends-of
sends_by (Ok out) sends e = record { out = out; is = refl; same = same_Some out.sends sends e }
sends_by (Err cause) sends e = absurd (let d : ◌≡◌ {A = Option (List (ℕ × Msg))} None (Some sends) = e in cc)

-- node 1 asks for the line
issued : sends-of (local Linked small_sizes 1 (a_load ∷ []) (start_share small_sizes 1) IssueNext) ≡ Some ((0, msg.Get 0) ∷ [])
unfolding sends-of local copy_of header_in begin_op ask
issued = simp maps refl

pub issue_sends : Sends (local Linked small_sizes 1 (a_load ∷ []) (start_share small_sizes 1) IssueNext) ((0, msg.Get 0) ∷ [])
issue_sends = sends_by _ _ issued

-- node 0 answers with the words of its memory
answered : sends-of (local Linked small_sizes 0 [] (start_share small_sizes 0) (TakeFrom 1 (msg.Get 0) None)) ≡ Some ((1, msg.Put 0 (0 ∷ [])) ∷ [])
unfolding sends-of local copy_of header_in meets_row meets wants_victim on_message row_of on_get
answered = simp (maps, listings) refl

pub get_sends : Sends (local Linked small_sizes 0 [] (start_share small_sizes 0) (TakeFrom 1 (msg.Get 0) None)) ((1, msg.Put 0 (0 ∷ [])) ∷ [])
get_sends = sends_by _ _ answered

-- a message that isn't a Get is taken without a victim, whatever the share is
no-victim : (sizes : Sizes) (node : ℕ) (share : Share) (src : ℕ) (m : Msg) (b c d : Bool) (out : NodeOutcome) → c ≡ false → with_victim Linked sizes node share (b && c && d) None out ≡ Ok out
no-victim sizes node share src m true true d out e = absurd (cc)
no-victim sizes node share src m true false d out e = refl
no-victim sizes node share src m false c d out e = refl

pub takes : (sizes : Sizes) (node : ℕ) (program : List Op) (share : Share) (src : ℕ) (m : Msg) → is_get (msg_content m) ≡ false → (out : NodeOutcome) × (local Linked sizes node program share (TakeFrom src m None) ≡ Ok out)
unfolding local
takes sizes node program share src m other = (_, no-victim sizes node share src m (meets_row sizes node share src m) (is_get (msg_content m)) _ _ other)

pub at_some : (P : Msg → Type 0) (o : Option Msg) (m : Msg) → o ≡ Some m → IfSome o P → P m
at_some P None m is h = absurd (cc)
at_some P (Some x) m is h = subst P (same_Some x m is) h

pub at_none : (P : Type 0) (o : Option Msg) → o ≡ None → IfNone o P → P
at_none P None is h = h
at_none P (Some x) is h = absurd (cc)

pub goes : (o : Option Part) (q : Part) → o ≡ Some q → IsSome o
goes None q is = absurd (cc)
goes (Some p) q is = refl

-- the part after a ticket
pub drew : (o : Option Part) (q new : Part) (entry : Numbered) → o ≡ Some q → IfSome o (λ after. new ≡ logged after entry) → new ≡ logged q entry
drew None q new entry is h = absurd (cc)
drew (Some p) q new entry is h = h ∙ ap (λ x. logged x entry) (same_Some p q is)

-- node 1 asks
abbrev pub asking : Part
asking = after_outcome (part_at_start small_sizes 1 (a_load ∷ [])) [] issue_sends.out

issue_goes : own_step Linked (part_at_start small_sizes 1 (a_load ∷ [])) (Issue 1) ≡ Some asking
issue_goes = own_issue Linked (part_at_start small_sizes 1 (a_load ∷ [])) issue_sends.out issue_sends.is

pub issue_is : (p : Part) → p ≡ part_at_start small_sizes 1 (a_load ∷ []) → own_step Linked p (Issue 1) ≡ Some asking
issue_is p is = ap (λ x. own_step Linked x (Issue 1)) is ∙ issue_goes

pub asking_waits : (new : Part) (entry : Numbered) → new ≡ logged asking entry → unflushed new 0 Request ≡ msg.Get 0 ∷ []
asking_waits new entry is = ap (λ x. unflushed x 0 Request) is ∙ ap (λ sends. to_lane 0 Request sends) issue_sends.same

pub has_asked : (mid new : Part) (entry : Numbered) → mid ≡ logged asking entry → Flushes mid new 0 Request → HasAsked new
has_asked mid new entry is h =
    record {
      number = ap (λ x. x.number) h.is ∙ ap (λ x. x.number) is;
      ready = ap (λ x. taken_from x 0 Reply) h.is ∙ (ap (λ x. taken_from x 0 Reply) is ∙ sym (ap (λ x. cleared_from x 0 Reply) h.is ∙ ap (λ x. cleared_from x 0 Reply) is));
      log = ap (λ x. length x.log) h.is ∙ ap (λ x. length x.log) is;
    }

-- node 0 takes the request
abbrev pub noted : ByLane Note → Part
noted notes = record (part_at_start small_sizes 0 []) { in_notes = notes }

abbrev pub answering : ByLane Note → Part
answering notes = after_outcome (noted notes) (put_lane [] 1 Request 1) get_sends.out

get_goes : (notes : ByLane Note) → named small_sizes (at_lane no_note notes 1 Request) ≡ Some (msg.Get 0) → own_step Linked (noted notes) (Take 1 0 Request None) ≡ Some (answering notes)
get_goes notes names = own_take Linked (noted notes) 1 Request None (msg.Get 0) get_sends.out refl names get_sends.is

pub get_is : (old new : Part) (m : Msg) → old ≡ part_at_start small_sizes 0 [] → m ≡ msg.Get 0 → Finds old new 1 Request m → (notes : ByLane Note) × (own_step Linked new (Take 1 0 Request None) ≡ Some (answering notes))
get_is old new m is get h =
    let notes = h.noted.notes in
    let at : new ≡ noted notes = h.noted.is ∙ ap {A = Part} {B = Part} (λ x. record x { in_notes = notes }) is in
    let names : named small_sizes (at_lane no_note notes 1 Request) ≡ Some (msg.Get 0) = sym (λ k. named (is k).sizes (in_note (at k) 1 Request)) ∙ (h.names ∙ ap Some get) in
    (notes, ap (λ x. own_step Linked x (Take 1 0 Request None)) at ∙ get_goes notes names)

pub answering_clears : (notes : ByLane Note) (new : Part) (entry : Numbered) → new ≡ logged (answering notes) entry → taken_from new 1 Request ≡ cleared_from new 1 Request + 1
answering_clears notes new entry is = ap (λ x. taken_from x 1 Request) is ∙ sym (ap (λ x. cleared_from x 1 Request + 1) is)

pub cleared_again : (notes : ByLane Note) (mid new : Part) (entry : Numbered) → mid ≡ logged (answering notes) entry → new ≡ freed mid 1 Request → taken_from new 1 Request ≡ cleared_from new 1 Request
cleared_again notes mid new entry is free =
    let at : new ≡ freed (logged (answering notes) entry) 1 Request = free ∙ ap (λ x. freed x 1 Request) is in
    ap (λ x. taken_from x 1 Request) at ∙ sym (ap (λ x. cleared_from x 1 Request) at)

pub answers : (notes : ByLane Note) (mid cleared new : Part) (entry : Numbered) → mid ≡ logged (answering notes) entry → cleared ≡ freed mid 1 Request → new ≡ looked_in cleared 1 Request 0 → unflushed new 1 Reply ≡ msg.Put 0 (0 ∷ []) ∷ []
answers notes mid cleared new entry is free looked =
    ap (λ x. unflushed x 1 Reply) looked ∙ (ap (λ x. unflushed x 1 Reply) free ∙ (ap (λ x. unflushed x 1 Reply) is ∙ ap (λ sends. to_lane 1 Reply sends) get_sends.same))

-- node 1 takes the answer
words_no_get : (content : Content) → has_words content ≡ true → is_get content ≡ false
words_no_get Get e = absurd (cc)
words_no_get GetX e = refl
words_no_get (FwdGet req) e = refl
words_no_get (FwdGetX req) e = refl
words_no_get Inv e = refl
words_no_get (Wb words) e = refl
words_no_get Rpl e = refl
words_no_get (Put words) e = refl
words_no_get (PutX words) e = refl
words_no_get (Nak cause) e = refl
words_no_get InvAck e = refl
words_no_get (ShWb words) e = refl
words_no_get FAck e = refl
words_no_get Nakc e = refl

pub record Taken (p : Part) (event : Event) (src : ℕ) (class : Class) : Type 0 where
  pub after : Part
  pub is : own_step Linked p event ≡ Some after
  pub more : taken_from after src class ≡ cleared_from after src class + 1
  pub log : after.log ≡ p.log

pub put_is : (old new : Part) (m : Msg) → HasAsked old → has_words (msg_content m) ≡ true → Finds old new 0 Reply m → Taken new (Take 0 1 Reply None) 0 Reply
put_is old new m asked has h =
    let ready : taken_from new 0 Reply ≡ cleared_from new 0 Reply = ap (λ x. taken_from x 0 Reply) h.noted.is ∙ (asked.ready ∙ sym (ap (λ x. cleared_from x 0 Reply) h.noted.is)) in
    let names : named new.sizes (in_note new 0 Reply) ≡ Some m = ap (λ x. named x.sizes (in_note new 0 Reply)) h.noted.is ∙ h.names in
    let number : new.number ≡ 1 = ap (λ x. x.number) h.noted.is ∙ asked.number in
    let out = takes new.sizes new.number new.program new.share 0 m (words_no_get (msg_content m) has) in
    let goes = own_take Linked new 0 Reply None m out.0 ready names out.1 in
    record {
      after = after_outcome new (put_lane new.taken 0 Reply (taken_from new 0 Reply + 1)) out.0;
      is = ap (λ n. own_step Linked new (Take 0 n Reply None)) (sym number) ∙ goes;
      more = ap (λ n. n + 1) ready;
      log = refl;
    }
