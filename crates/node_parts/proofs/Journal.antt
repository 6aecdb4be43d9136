-- The journal of the parts: an event that draws the next ticket is put at its end, and no entry of any log moves.
-- The number of entries with a ticket, summed over the nodes, changes by one term.
use Rattle.std.proofs.Common.{◌≡◌, ◌≢◌, ℕ, zero, suc, ◌+◌, ◌<◌, Bool, true, false, cond, ◌==◌, nat_lt, List, [], ◌∷◌, ◌++◌, length, slice_get, refl, sym, ap, ◌∙◌, subst, arith, Option, Some, None}
use Rattle.std.proofs.lemmas.Bool.Decides.{nat_tests}
use Rattle.std.proofs.lemmas.List.{length_push}
use Rattle.std.proofs.lemmas.List.Sums.{sum_by-append, sum_by-cons}
use Rattle.op_model.specs.declared.events.Event.{Event}
use Rattle.op_model.specs.declared.events.Numbered.{Numbered}
use Rattle.op_model.specs.Events.Step.{Programs, put_at}
use Rattle.op_model.specs.Run.Runs.{Past, run}
use Rattle.op_model.specs.Run.Weight.{total}
use Rattle.op_model.specs.Shares.{Charge, Trace, program}
use Rattle.op_model.specs.Parts.Part.{Part, logged, parts_at_start}
use Rattle.op_model.specs.Parts.OwnStep.{own_step}
use Rattle.op_model.specs.Parts.Composition.{IsReady, compose}
use Rattle.op_model.specs.Parts.Journal.{Agrees, IsJournal, drawn}
use Rattle.line_map.specs.Sizes.{Sizes}
use Rattle.op_model.proofs.Public.{eqb-self, total-alike, total-zero}
use Rattle.node_parts.proofs.Composed.{compose_alike}
use Rattle.node_parts.proofs.OwnChange.{own_change}
use Rattle.node_parts.proofs.Runs.{run_goes_on}

pub total-put : (f g : ℕ → ℕ) (n k d : ℕ) → k < n → ((i : ℕ) → i ≢ k → g i ≡ f i) → g k ≡ f k + d → total g n ≡ total f n + d
unfolding total
total-put f g zero k d within others more = absurd (omega arith)
total-put f g (suc n) k d within others more = go (k == n) refl (total-put f g n k d)
  where
    go : (c : Bool) → (k == n) ≡ c → (k < n → ((i : ℕ) → i ≢ k → g i ≡ f i) → g k ≡ f k + d → total g n ≡ total f n + d) → total g n + g n ≡ total f n + f n + d
    go true e rest =
        let same : k ≡ n = grind (arith, nat_tests) in
        let before = total-alike f g n (λ i less. others i (λ is. let t = is in omega arith)) in
        let last : g n ≡ f n + d = subst (λ j. g j ≡ f j + d) same more in
        omega arith
    go false e rest =
        let apart : n ≢ k = grind (arith, nat_tests) in
        let before = rest (grind (arith, nat_tests)) others more in
        let last = others n apart in
        omega arith

-- one entry more in a log
drawn-more : (ticket : ℕ) (log : List Numbered) (entry : Numbered) → drawn ticket (log ++ entry ∷ []) ≡ drawn ticket log + cond {A = ℕ} (entry.ticket == ticket) 1 0
drawn-more ticket log entry =
    let test = λ (x : Numbered). cond {A = ℕ} (x.ticket == ticket) 1 0 in
    let a = sum_by-append test log (entry ∷ []) in
    let b = sum_by-cons test entry [] in
    omega arith

-- what stands in a list stands there in a longer one, and the new element at its end
get-before : {A : Type 0} (xs : List A) (x : A) (i : ℕ) (y : A) → slice_get xs i ≡ Some y → slice_get (xs ++ x ∷ []) i ≡ Some y
get-before {A = A} [] x i y e = absurd (let n : ◌≡◌ {A = Option A} None (Some y) = e in cc)
get-before (z ∷ zs) x zero y e = e
get-before (z ∷ zs) x (suc i) y e = get-before zs x i y e

get-last : {A : Type 0} (xs : List A) (x : A) (n : ℕ) → n ≡ length xs → slice_get (xs ++ x ∷ []) n ≡ Some x
get-last [] x zero e = refl
get-last [] x (suc n) e = absurd (omega arith)
get-last (z ∷ zs) x zero e = absurd (omega arith)
get-last (z ∷ zs) x (suc n) e = get-last zs x n (omega arith)

agrees-more : (journal : List Event) (event : Event) (log : List Numbered) → Agrees journal log → Agrees (journal ++ event ∷ []) log
agrees-more journal event [] all = tt
agrees-more journal event (entry ∷ log) all = (get-before journal event entry.ticket entry.event all.0, agrees-more journal event log all.1)

agrees-push : (journal : List Event) (log : List Numbered) (entry : Numbered) → slice_get journal entry.ticket ≡ Some entry.event → Agrees journal log → Agrees journal (log ++ entry ∷ [])
agrees-push journal [] entry at all = (at, tt)
agrees-push journal (x ∷ log) entry at all = (all.0, agrees-push journal log entry at all.1)

once-more : (ticket n : ℕ) → cond {A = ℕ} (nat_lt ticket n) 1 0 + cond {A = ℕ} (n == ticket) 1 0 ≡ cond {A = ℕ} (nat_lt ticket (n + 1)) 1 0
once-more ticket n = grind (arith, nat_tests)

module _ (nodes : ℕ) (parts : ℕ → Part) (journal : List Event) (is : IsJournal nodes parts journal) (node : ℕ) (within : node < nodes) (event : Event) (after : Part) (kept : after.log ≡ (parts node).log) where
  abbrev entry : Numbered
  entry = record { ticket = length journal; event = event }

  abbrev next : ℕ → Part
  next = put_at parts node (logged after entry)

  log-there : (next node).log ≡ (parts node).log ++ entry ∷ []
  log-there = at (node == node) (eqb-self node)
    where
      at : (c : Bool) → c ≡ true → (cond c (logged after entry) (parts node)).log ≡ (parts node).log ++ entry ∷ []
      at true e = ap (λ l. l ++ entry ∷ []) kept
      at false e = cc

  log-else : (i : ℕ) → i ≢ node → (next i).log ≡ (parts i).log
  log-else i apart = at (i == node) refl
    where
      at : (c : Bool) → (i == node) ≡ c → (cond c (logged after entry) (parts i)).log ≡ (parts i).log
      at true e = absurd (let same : i ≡ node = grind (arith, nat_tests) in apart same)
      at false e = refl

  pub journal-more : IsJournal nodes next (journal ++ event ∷ [])
  journal-more = record { once = once; agrees = agrees }
    where
      once : (ticket : ℕ) → total (λ i. drawn ticket (next i).log) nodes ≡ cond {A = ℕ} (nat_lt ticket (length (journal ++ event ∷ []))) 1 0
      once ticket =
          let more = drawn-more ticket (parts node).log entry in
          let here : drawn ticket (next node).log ≡ drawn ticket (parts node).log + cond {A = ℕ} (length journal == ticket) 1 0 = ap (drawn ticket) log-there ∙ more in
          let sum = total-put (λ i. drawn ticket (parts i).log) (λ i. drawn ticket (next i).log) nodes node (cond {A = ℕ} (length journal == ticket) 1 0) within (λ i apart. ap (drawn ticket) (log-else i apart)) here in
          sum ∙ ap (λ n. n + cond {A = ℕ} (length journal == ticket) 1 0) (is.once ticket) ∙ once-more ticket (length journal) ∙ ap (λ n. cond {A = ℕ} (nat_lt ticket n) 1 0) (sym (length_push journal event))

      agrees : (i : ℕ) → i < nodes → Agrees (journal ++ event ∷ []) (next i).log
      agrees i less = go (i == node) refl
        where
          go : (c : Bool) → (i == node) ≡ c → Agrees (journal ++ event ∷ []) (next i).log
          go true e =
              let same : node ≡ i = grind (arith, nat_tests) in
              subst (λ n. Agrees (journal ++ event ∷ []) (next n).log) same
              (subst (Agrees (journal ++ event ∷ [])) (sym log-there)
              (agrees-push (journal ++ event ∷ []) (parts node).log entry (get-last journal event (length journal) refl) (agrees-more journal event (parts node).log (is.agrees node within))))
          go false e =
              let apart : i ≢ node = grind (arith, nat_tests) in
              subst (Agrees (journal ++ event ∷ [])) (sym (log-else i apart)) (agrees-more journal event (parts i).log (is.agrees i less))

pub journal-start : (nodes : ℕ) (sizes : Sizes) (programs : Programs) → IsJournal nodes (parts_at_start sizes programs) []
journal-start nodes sizes programs =
    record { once = λ ticket. total-zero nodes ∙ none ticket; agrees = λ node less. tt }
  where
    none : (ticket : ℕ) → 0 ≡ cond {A = ℕ} (nat_lt ticket 0) 1 0
    none ticket = grind (arith, nat_tests)

-- The ticket of a part's own step: the journal with the event at its end is that of the parts with the entry in the part's log, and runs to
-- what they make
abbrev pub TicketDrawn : Charge → Trace → (ℕ → Part) → List Event → Type 0
TicketDrawn charge trace parts journal = IsJournal trace.sizes.nodes parts journal × ((past : Past) × (run charge trace journal ≡ Some past) × (past.state ≡ compose parts))

pub ticket_drawn : (charge : Charge) (trace : Trace) (journal : List Event) (past : Past) (parts : ℕ → Part) (node : ℕ) (event : Event) (after : Part) → node < trace.sizes.nodes → IsJournal trace.sizes.nodes parts journal → run charge trace journal ≡ Some past → past.state ≡ compose parts →
    IsReady trace.sizes (program trace) parts node → own_step charge (parts node) event ≡ Some after →
    TicketDrawn charge trace (put_at parts node (logged after (record { ticket = length journal; event = event }))) (journal ++ event ∷ [])
ticket_drawn charge trace journal past parts node event after within is ran made ready own =
    let kept : after.log ≡ (parts node).log = (own_change charge (parts node) event after own).about.3 in
    let goes = run_goes_on charge trace journal past parts node event after ran made ready own in
    let entry : Numbered = record { ticket = length journal; event = event } in (
      journal-more trace.sizes.nodes parts journal is node within event after kept,
      (goes.0, goes.1, goes.2 ∙ sym (compose_alike parts node (logged after entry) after (λ i. (after.share, (after.sent, after.taken))))),
    )
