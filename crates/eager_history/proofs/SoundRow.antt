-- A row that keeps what holds of its line keeps what holds of the eager machine: at its own line the machine after it is that line after it, every other line stays as it was, and what is served has its place in the line's history and in its node's program.
use Rattle.std.proofs.Common.{◌≡◌, ◌≢◌, ℕ, ◌+◌, ◌≤◌, ◌<◌, append-nil, length, length-append, Bool, true, false, cond, ◌==◌, ◌⊎◌, List, [], ◌∷◌, ◌++◌, refl, arith, ap, sym, ◌∙◌, subst, Option, Some, None}
use Rattle.std.proofs.lemmas.List.{map-append, length-map}
use Rattle.std.proofs.lemmas.Bool.Decides.{nat_tests}
use Rattle.line_map.specs.Sizes.{Sizes, home_of}
use Rattle.op_model.specs.Events.Node.{messages}
use Rattle.op_model.specs.Events.Step.{to_lane}
use Rattle.op_model.specs.Flat.{IsLegal}
use Rattle.op_model.specs.Lines.{Outcome, Service, NoService, Own, For}
use Rattle.op_model.specs.Messages.{msg_content}
use Rattle.op_model.specs.Operations.{Words, is_load}
use Rattle.op_model.specs.Run.History.{entries_by}
use Rattle.op_model.specs.Run.Runs.{entries_of, entry_for}
use Rattle.op_model.specs.Shares.{Lanes, Trace, put_share, want_on}
use Rattle.op_model.proofs.Public.{eqb-self}
use Rattle.line_invariant.specs.Line.{share_of, answered_after}
use Rattle.line_invariant.specs.Rows.{IsDoneRight, IsLoadWanted}
use Rattle.eager_model.specs.Types.{Class, Entry, Want}
use Rattle.eager_model.specs.Ages.{LineAges, age_given, served_age, sent_age}
use Rattle.eager_model.specs.History.{in_age_order}
use Rattle.eager_model.specs.Line.{AgedLine, ages_of, aged_row}
use Rattle.eager_model.specs.Good.{IsEagerGood}
use Rattle.eager_model.specs.Runs.{AgedEntry, Past}
use Rattle.eager_model.specs.Served.{IsServedAt, IsServedOn}
use Rattle.eager_model.proofs.Public.{above, any-idle}
use Rattle.one_history.specs.Project.{project}
use Rattle.one_history.specs.Sound.{IsCached, IsOrdered, answered_of}
use Rattle.one_history.proofs.Public.{IsNextWant, IsOn, IsRoomFor, IsServedIn, nodes-after, begun-next, cached-row, unserved-before}
use Rattle.one_history.proofs.Public.{next-on}
use Rattle.eager_history.specs.Project.{plain, plain_past, served_on, last_age, aged_line}
use Rattle.eager_history.specs.Sound.{Each, IsPastOf, IsLineSound, IsEagerSound}
use Rattle.eager_history.proofs.Added.{IsAdded, none-added, load-added, for-added, write-added}
use Rattle.eager_history.proofs.AgedProject.{row_past, with_lanes, entries_at, project-aged, project-aged-other}
use Rattle.eager_history.proofs.LaneAges.{Ages, ages_sent}

-- a history is told by what was served on its line
same-past : (trace : Trace) (served now : List AgedEntry) (line top : ℕ) → served_on trace.sizes line now ≡ served_on trace.sizes line served → IsPastOf trace served line top → IsPastOf trace now line top
same-past trace served now line top same past =
    record {
      legal = subst (λ s. IsLegal (plain (in_age_order s))) (sym same) past.legal;
      within = subst (λ s. Each (λ x. x.age ≤ top) (in_age_order s)) (sym same) past.within;
      last = subst (λ s. Each (λ x. x.age ≤ last_age x.entry.node 0 s) (in_age_order s)) (sym same) past.last;
      order = λ node. subst (λ s. entries_by node (plain (in_age_order s)) ≡ entries_by node (plain s)) (sym same) (past.order node);
    }

module _ (trace : Trace) (positive : 0 < trace.sizes.words) (past : Past) (sound : IsEagerSound trace past) (node line : ℕ) (outcome : Outcome) (ages : LineAges) (given : ℕ) (told : LineAges) (lane : Lanes) (lane_age : Ages) where
  abbrev sizes : Sizes
  sizes = trace.sizes

  abbrev home : ℕ
  home = home_of sizes line

  abbrev top : ℕ
  top = (sound.lines line).top

  -- the machine without the message that is taken
  abbrev mid : Past
  mid = with_lanes past lane lane_age

  abbrev next : Past
  next = row_past sizes mid node line outcome ages given

  abbrev before : AgedLine
  before = aged_line sizes mid top line

  abbrev after : AgedLine
  after = aged_row home node outcome told before

  abbrev age : ℕ
  age = served_age given ages.copy outcome.served

  rises : top ≤ after.top
  unfolding aged_line project
  rises = above top _

  -- what is served has its place in the line's history
  adds : (words : Words) (service : Service) → IsServedIn trace (plain_past past) node line words service → IsServedAt (aged_line sizes past top line) after.top node age service →
      IsAdded trace past.served line after.top node age service (past.served ++ entries_at age (entries_of sizes past.state node line service))
  unfolding aged_line project
  adds words NoService well at = subst (IsAdded trace past.served line after.top node age NoService) (sym (append-nil past.served)) (none-added trace past.served line top after.top rises (sound.lines line).history node age)
  adds words (Own op on) well at = go (is_load op.kind) refl at.1
    where
      go : (c : Bool) → is_load op.kind ≡ c → IsServedOn c (aged_line sizes past top line) after.top age on → IsAdded trace past.served line after.top node age (Own op on) (past.served ++ entries_at age (entries_of sizes past.state node line (Own op on)))
      go true e is = load-added trace past.served line top after.top rises (sound.lines line).history node (past.state.share node).place op on age well.1.1 at.0 positive e is.0 is.1
      go false e is = write-added trace past.served line top after.top rises (sound.lines line).history node (past.state.share node).place op on age well.1.1 at.0 positive e is.0 is.1
  adds words (For other on) well at = by-want (want_on sizes (past.state.share other).want line) refl well.1
    where
      by-want : (want : Option Want) → want_on sizes (past.state.share other).want line ≡ want → IsLoadWanted want →
          IsAdded trace past.served line after.top node age (For other on) (past.served ++ entries_at age (entry_for other (past.state.share other).place on want))
      by-want None e load = absurd load
      by-want (Some want) e load =
          let is = begun-next trace other (past.state.share other).place (past.state.share other).want line want.op want.marked (sound.ordered other).begun e in
          for-added trace past.served line top after.top rises (sound.lines line).history other (past.state.share other).place want.op on age is.1 at.0 positive load at.1.0 at.1.1 node

  -- the entries without their ages
  plain-entries : (at : ℕ) (entries : List Entry) → plain (entries_at at entries) ≡ entries
  plain-entries at [] = refl
  plain-entries at (x ∷ xs) = ap (λ l. x ∷ l) (plain-entries at xs)

  plain-next : plain next.served ≡ plain past.served ++ entries_of sizes past.state node line outcome.served
  plain-next = map-append (λ aged. aged.entry) past.served (entries_at age (entries_of sizes past.state node line outcome.served)) ∙ ap (λ l. plain past.served ++ l) (plain-entries age (entries_of sizes past.state node line outcome.served))

  pub sound-row : (words : Words) →
      IsServedIn trace (plain_past past) node line words outcome.served →
      IsDoneRight (answered_of sizes (plain_past past) line node ≡ true) outcome.served outcome.done outcome.share.want →
      IsNextWant trace node (past.state.share node).place line outcome.share.want →
      IsRoomFor sizes (past.state.share node) line outcome.share →
      ((past.state.share node).want ≡ None) ⊎ (want_on sizes (past.state.share node).want line ≡ None → outcome.share.want ≡ None) →
      ((a b : ℕ) (class : Class) → length (lane_age a b class) ≡ length (lane a b class)) →
      ((at q : ℕ) → q ≢ line → aged_line sizes mid at q ≡ aged_line sizes past at q) →
      told.copy ≡ ages.copy → ((node == home) ≡ true → told.memory ≡ ages.memory) →
      age_given (node == home) (share_of before.line node) (ages_of before node) ≡ given →
      IsServedAt (aged_line sizes past top line) after.top node age outcome.served →
      IsEagerGood home after →
      IsEagerSound trace next
  unfolding aged_line project
  sound-row words well right begins room fits paired others copies memory gives aged good =
      record {
        cached = λ n. cached n (n == node) refl;
        ordered = λ n. (fine n).0;
        paired = λ a b class. pairs a b class;
        lines = λ q. line-at q (q == line) refl;
      }
    where
      added : IsAdded trace past.served line after.top node age outcome.served next.served
      added = adds words outcome.served well aged

      on : IsOn sizes line outcome.share.want
      on = next-on trace node (past.state.share node).place line outcome.share.want begins

      cached : (n : ℕ) (c : Bool) → (n == node) ≡ c → IsCached sizes (cond c (put_share sizes (node == home) line outcome.done outcome.share (past.state.share node)) (past.state.share n))
      cached n true e = cached-row sizes (node == home) line outcome.done outcome.share (past.state.share node) on (sound.cached node) room
      cached n false e = sound.cached n

      idle : outcome.share.want ≡ None → outcome.done ≡ false → answered_of sizes (plain_past past) line node ≡ false
      idle none still = unserved-before trace (plain_past past) node line words outcome.served outcome.done outcome.share.want well right still (any-idle home after good node (rw (eqb-self node) none))

      fine : (n : ℕ) → IsOrdered trace n (next.state.share n) (entries_by n (plain_past next).served) × ((q : ℕ) → q ≢ line → answered_of sizes (plain_past next) q n ≡ answered_of sizes (plain_past past) q n)
          × (answered_of sizes (plain_past next) line n ≡ answered_after node outcome.served outcome.done (answered_of sizes (plain_past past) line) n)
      fine n = rw plain-next (nodes-after trace (plain_past past) sound.ordered node line (node == home) outcome.share words outcome.served outcome.done well right begins idle n)

      pairs : (a b : ℕ) (class : Class) → length (next.ages.lane a b class) ≡ length (next.state.lane a b class)
      pairs a b class =
          length-append (lane_age a b class) (cond (a == node) (ages_sent given (to_lane b class (messages line outcome.sends))) [])
          ∙ both (paired a b class) (sent (a == node))
          ∙ sym (length-append (lane a b class) (cond (a == node) (to_lane b class (messages line outcome.sends)) []))
        where
          both : {k l m n : ℕ} → k ≡ l → m ≡ n → k + m ≡ l + n
          both e f = rw (e, f) refl

          sent : (c : Bool) → length (cond c (ages_sent given (to_lane b class (messages line outcome.sends))) []) ≡ length (cond c (to_lane b class (messages line outcome.sends)) [])
          sent true = length-map (to_lane b class (messages line outcome.sends)) (λ m. sent_age given (msg_content m))
          sent false = refl

      line-at : (q : ℕ) (c : Bool) → (q == line) ≡ c → IsLineSound trace next q
      line-at q true e =
          let same : line ≡ q = grind (arith, nat_tests) in
          subst (IsLineSound trace next) same
          (record {
            top = after.top;
            good = subst (IsEagerGood home) (sym (project-aged trace mid node line outcome ages given fits on paired top told copies memory gives added (λ n. (fine n).2))) good;
            history = added.past;
          })
      line-at q false e =
          let other : q ≢ line = grind (arith, nat_tests) in
          record {
            top = (sound.lines q).top;
            good = subst (IsEagerGood (home_of sizes q)) (sym (project-aged-other trace mid node line outcome ages given fits on paired (sound.lines q).top q other (added.others q other) (λ n. (fine n).1 q other) ∙ others (sound.lines q).top q other)) (sound.lines q).good;
            history = same-past trace past.served next.served q (sound.lines q).top (added.others q other) (sound.lines q).history;
          }
