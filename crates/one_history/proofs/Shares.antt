-- What a node's share has of each line after a row, and what the messages of a row say of each line.
-- A row of a line changes the share at that line alone, since the operation that it leaves begun is of that line.
use Rattle.std.proofs.Common.{◌≡◌, ◌≢◌, ℕ, Bool, true, false, cond, ◌==◌, ◌&&◌, ◌⊎◌, inl, inr, List, [], ◌∷◌, ◌++◌, refl, arith, ap, sym, ◌∙◌, unwrap_or, Option, Some, None}
use Rattle.std.proofs.lemmas.Bool.Decides.{nat_tests}
use Rattle.std.specs.Ordering.{nat_cmp}
use Rattle.std.specs.FinMap as fin
use Rattle.std.specs.FinMap.{gets}
use Rattle.line_map.specs.Sizes.{Sizes, home_of, line_of}
use Rattle.op_model.specs.declared.events.Class.{Class}
use Rattle.op_model.specs.declared.messages.Msg.{Msg}
use Rattle.op_model.specs.declared.state.Want.{Want}
use Rattle.op_model.specs.Events.Node.{messages}
use Rattle.op_model.specs.Events.Step.{put_at, to_lane}
use Rattle.op_model.specs.Lines.{Absent, Copy, Exclusive, LineShare, Outcome, Shared}
use Rattle.op_model.specs.Messages.{Content, class_of, message, msg_content, msg_content-message, msg_line, msg_line-message, same_class}
use Rattle.op_model.specs.Run.Runs.{Past, entries_of}
use Rattle.op_model.specs.Shares.{Lanes, Share, State, copy_of, first_header, header_of, put_copy, put_share, want_after, want_on, header_in}
use Rattle.line_invariant.specs.Line.{addressed}
use Rattle.one_history.specs.Project.{of_line}

copies-same : (copies : fin.FinMap nat_cmp Copy) (line : ℕ) (copy : Copy) → unwrap_or (fin.get (put_copy copies line copy) line) Absent ≡ copy
copies-same copies line Absent = grind (arith, gets)
copies-same copies line (Shared words) = grind (arith, gets)
copies-same copies line (Exclusive words) = grind (arith, gets)

copies-other : (copies : fin.FinMap nat_cmp Copy) (line q : ℕ) (copy : Copy) → q ≢ line → fin.get (put_copy copies line copy) q ≡ fin.get copies q
copies-other copies line q Absent other = grind (arith, nat_tests, gets)
copies-other copies line q (Shared words) other = grind (arith, nat_tests, gets)
copies-other copies line q (Exclusive words) other = grind (arith, nat_tests, gets)

-- what is begun is of this line
abbrev pub IsOn : Sizes → ℕ → Option Want → Type 0
IsOn sizes line None = Unit {0}
IsOn sizes line (Some want) = line_of sizes want.op.word ≡ line

pub on-line : (sizes : Sizes) (line : ℕ) (want : Option Want) → IsOn sizes line want → want_on sizes want line ≡ want
on-line sizes line None on = refl
on-line sizes line (Some want) on = here (line_of sizes want.op.word) on
  where
    here : (at : ℕ) → at ≡ line → cond (at == line) (Some want) None ≡ Some want
    here at e = grind (arith, nat_tests)

pub off-line : (sizes : Sizes) (line : ℕ) (want : Option Want) (q : ℕ) → IsOn sizes line want → q ≢ line → want_on sizes want q ≡ None
off-line sizes line None q on other = refl
off-line sizes line (Some want) q on other = there (line_of sizes want.op.word) on
  where
    there : (at : ℕ) → at ≡ line → cond (at == q) (Some want) None ≡ None
    there at e = grind (arith, nat_tests)

module _ (sizes : Sizes) (at_home : Bool) (line : ℕ) (done : Bool) (row : LineShare) (share : Share) where
  pub copy-same : copy_of (put_share sizes at_home line done row share) line ≡ row.copy
  unfolding copy_of put_share
  copy-same = copies-same share.copies line row.copy

  pub copy-other : (q : ℕ) → q ≢ line → copy_of (put_share sizes at_home line done row share) q ≡ copy_of share q
  unfolding copy_of put_share
  copy-other q other = rw (copies-other share.copies line q row.copy other)

  pub header-same : at_home ≡ true → header_of sizes (put_share sizes at_home line done row share) line ≡ row.header
  unfolding header_in put_share
  header-same home = rw home (grind (arith, nat_tests, gets))

  pub header-other : (q : ℕ) → (q ≢ line) ⊎ (at_home ≡ false) → header_of sizes (put_share sizes at_home line done row share) q ≡ header_of sizes share q
  unfolding header_in put_share
  header-other q other = ap (λ o. unwrap_or o (first_header sizes)) (kept at_home other)
    where
      kept : (b : Bool) → (q ≢ line) ⊎ (b ≡ false) → fin.get (cond b (fin.insert share.headers line row.header) share.headers) q ≡ fin.get share.headers q
      kept true other = grind (arith, nat_tests, gets)
      kept false other = refl

  pub want-same : (share.want ≡ None) ⊎ (want_on sizes share.want line ≡ None → row.want ≡ None) → IsOn sizes line row.want → want_on sizes (put_share sizes at_home line done row share).want line ≡ row.want
  unfolding put_share
  want-same fits on = by-want share.want fits
    where
      by-want : (want : Option Want) → (want ≡ None) ⊎ (want_on sizes want line ≡ None → row.want ≡ None) → want_on sizes (want_after sizes want line row.want) line ≡ row.want
      by-want None fits = on-line sizes line row.want on
      by-want (Some other) fits = go (line_of sizes other.op.word == line) refl fits
        where
          go : (c : Bool) → (line_of sizes other.op.word == line) ≡ c → (Some other ≡ None) ⊎ (cond c (Some other) None ≡ None → row.want ≡ None) → want_on sizes (cond c row.want (Some other)) line ≡ row.want
          go true e fits = on-line sizes line row.want on
          go false e (inl none) = absurd (cc)
          go false e (inr gone) = ap (λ c. cond c (Some other) None) e ∙ sym (gone refl)

  pub want-other : (q : ℕ) → q ≢ line → IsOn sizes line row.want → want_on sizes (put_share sizes at_home line done row share).want q ≡ want_on sizes share.want q
  unfolding put_share
  want-other q apart on = by-want share.want
    where
      by-want : (want : Option Want) → want_on sizes (want_after sizes want line row.want) q ≡ want_on sizes want q
      by-want None = off-line sizes line row.want q on apart
      by-want (Some other) = go (line_of sizes other.op.word == line) refl
        where
          here : (at : ℕ) → (at == line) ≡ true → None ≡ cond (at == q) (Some other) None
          here at e = grind (arith, nat_tests)

          go : (c : Bool) → (line_of sizes other.op.word == line) ≡ c → want_on sizes (cond c row.want (Some other)) q ≡ want_on sizes (Some other) q
          go true e = off-line sizes line row.want q on apart ∙ here (line_of sizes other.op.word) e
          go false e = refl

pub of_line-append : (line : ℕ) (xs ys : List Msg) → of_line line (xs ++ ys) ≡ of_line line xs ++ of_line line ys
of_line-append line [] ys = refl
of_line-append line (m ∷ xs) ys = go (msg_line m == line) (of_line-append line xs ys)
  where
    go : (c : Bool) → of_line line (xs ++ ys) ≡ of_line line xs ++ of_line line ys → cond c (msg_content m ∷ of_line line (xs ++ ys)) (of_line line (xs ++ ys)) ≡ cond c (msg_content m ∷ of_line line xs) (of_line line xs) ++ of_line line ys
    go true e = ap (λ l. msg_content m ∷ l) e
    go false e = e

-- one message of the line in front of others
of_line-first : (line : ℕ) (m : Msg) (content : Content) (rest : List Msg) → msg_line m ≡ line → msg_content m ≡ content → of_line line (m ∷ rest) ≡ content ∷ of_line line rest
of_line-first line m content rest here says = ap (λ c. cond c (msg_content m ∷ of_line line rest) (of_line line rest)) (same (msg_line m) here) ∙ ap (λ c. c ∷ of_line line rest) says
  where
    same : (at : ℕ) → at ≡ line → (at == line) ≡ true
    same at e = grind (arith, nat_tests)

pub of_line-behind : (q : ℕ) (m : Msg) (rest : List Msg) → q ≢ msg_line m → of_line q (m ∷ rest) ≡ of_line q rest
of_line-behind q m rest other = ap (λ c. cond c (msg_content m ∷ of_line q rest) (of_line q rest)) (apart (msg_line m) other)
  where
    apart : (at : ℕ) → q ≢ at → (at == q) ≡ false
    apart at e = grind (arith, nat_tests)

pub of_line-same : (line : ℕ) (b : ℕ) (class : Class) (sends : List (ℕ × Content)) → of_line line (to_lane b class (messages line sends)) ≡ addressed b class sends
of_line-same line b class [] = refl
of_line-same line b class (send ∷ sends) =
    ap (λ k. of_line line (cond ((send.0 == b) && same_class class (class_of k)) (message line send.1 ∷ to_lane b class (messages line sends)) (to_lane b class (messages line sends)))) (msg_content-message line send.1)
    ∙ go ((send.0 == b) && same_class class (class_of send.1)) (of_line-same line b class sends)
  where
    go : (c : Bool) → of_line line (to_lane b class (messages line sends)) ≡ addressed b class sends →
        of_line line (cond c (message line send.1 ∷ to_lane b class (messages line sends)) (to_lane b class (messages line sends))) ≡ cond c (send.1 ∷ addressed b class sends) (addressed b class sends)
    go true e = of_line-first line (message line send.1) send.1 _ (msg_line-message line send.1) (msg_content-message line send.1) ∙ ap (λ l. send.1 ∷ l) e
    go false e = e

pub of_line-other : (line q : ℕ) (b : ℕ) (class : Class) (sends : List (ℕ × Content)) → q ≢ line → of_line q (to_lane b class (messages line sends)) ≡ []
of_line-other line q b class [] other = refl
of_line-other line q b class (send ∷ sends) other = go ((send.0 == b) && same_class class (class_of (msg_content (message line send.1)))) (of_line-other line q b class sends other)
  where
    go : (c : Bool) → of_line q (to_lane b class (messages line sends)) ≡ [] → of_line q (cond c (message line send.1 ∷ to_lane b class (messages line sends)) (to_lane b class (messages line sends))) ≡ []
    go true e = of_line-behind q (message line send.1) _ (λ same. other (same ∙ msg_line-message line send.1)) ∙ e
    go false e = e

-- the message in front of a lane, at its line and at the others
pub of_line-front : (m : Msg) (rest : List Msg) → of_line (msg_line m) (m ∷ rest) ≡ msg_content m ∷ of_line (msg_line m) rest
of_line-front m rest = of_line-first (msg_line m) m (msg_content m) rest refl refl

-- the state after a row of a line at a node, and the lanes after the first message of one is taken
abbrev pub after_row_of : Sizes → ℕ → ℕ → Outcome → State → State
after_row_of sizes me line outcome state =
    record {
      share = put_at state.share me (put_share sizes (me == home_of sizes line) line outcome.done outcome.share (state.share me));
      lane = λ a b class. state.lane a b class ++ cond (a == me) (to_lane b class (messages line outcome.sends)) [];
    }

abbrev pub taken_of : ℕ → ℕ → Class → List Msg → Lanes → Lanes
taken_of src dst class rest lane a b k = cond ((b == dst) && ((a == src) && same_class k class)) rest (lane a b k)

-- a state and its entries after a row
abbrev pub row_past : Sizes → Past → ℕ → ℕ → Outcome → Lanes → Past
row_past sizes past node line outcome lane =
    record { state = after_row_of sizes node line outcome (record past.state { lane = lane }); served = past.served ++ entries_of sizes past.state node line outcome.served }
