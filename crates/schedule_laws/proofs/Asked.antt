-- After a node has asked the home for a line, while all else rests: the home's share is as it was, and so are all headers.
use Rattle.std.proofs.Common.{◌≡◌, ◌≢◌, ℕ, ◌<◌, inl, inr, Bool, true, false, ◌==◌, [], ◌∷◌, refl, arith, ap, sym, ◌∙◌, subst, Option}
use Rattle.std.proofs.lemmas.Bool.Decides.{nat_tests}
use Rattle.line_map.specs.Sizes.{Sizes, home_of}
use Rattle.op_model.specs.declared.events.Class.TheVariants.{Request}
use Rattle.op_model.specs.declared.events.Event.{Event}
use Rattle.op_model.specs.declared.operations.Op.{Op}
use Rattle.op_model.specs.Lines.{Absent, Copy, Exclusive, Shared, Header, LineShare, Outcome, Room, is_empty, is_exclusive, owner}
use Rattle.op_model.specs.Messages.{Content, Get, GetX, message, msg_content, msg_line}
use Rattle.op_model.specs.Nodes.{listed}
use Rattle.op_model.specs.Run.Rest.{IsAtRest}
use Rattle.op_model.specs.Run.Runs.{Past}
use Rattle.op_model.specs.Shares.{Charge, State, Trace, copy_of, share_at}
use Rattle.op_model.specs.Tables.Home.{on_get, on_getx}
use Rattle.op_model.specs.Tables.Processor.{serves}
use Rattle.op_model.specs.Tables.Remote.{meets, on_message, row_of}
use Rattle.line_invariant.proofs.Public.{owner-only}
use Rattle.one_history.proofs.Public.{meets-whole, of_line-front}
use Rattle.one_history.specs.Project.{of_line}
use Rattle.lane_bounds.proofs.Public.{after_row_of, sent_of}
use Rattle.schedule_laws.proofs.Known.{Delivers, IsKnown, IsUsual}
use Rattle.schedule_laws.proofs.Recalls.{header_at}
use Rattle.schedule_laws.proofs.RestLines.{IsRestLine}
use Rattle.schedule_laws.proofs.RestMoments.{listed-only, rest-at}
use Rattle.schedule_laws.proofs.Settling.{wait-other}
use Rattle.schedule_laws.proofs.Single.{OnlyOne, OnlySent, one-sent, only-sent}
use Rattle.schedule_laws.proofs.Stages.{header-away, share-away}

-- a request that meets its row does it
pub met-get : (me home src : ℕ) (alone : Bool) (room : Room) (share : LineShare) → meets me home src alone Get share ≡ true → on_message me home src alone room Get share ≡ on_get room src share
unfolding on_message row_of
met-get me home src alone room share meet = rw meet refl

pub met-getx : (me home src : ℕ) (alone : Bool) (room : Room) (share : LineShare) → meets me home src alone GetX share ≡ true → on_message me home src alone room GetX share ≡ on_getx room src share
unfolding on_message row_of
met-getx me home src alone room share meet = rw meet refl

-- an exclusive copy serves any operation
pub serves-exclusive : (op : Op) (copy : Copy) → is_exclusive copy ≡ true → serves op copy ≡ true
serves-exclusive op Absent e = cc
serves-exclusive op (Shared words) e = cc
serves-exclusive op (Exclusive words) e = refl

module _ (charge : Charge) (trace : Trace) (usual : IsUsual trace) (next : State → Option Event) (delivers : Delivers charge trace usual next)
    (first : Past) (known : IsKnown charge trace first) (rests : IsAtRest first.state) (p line : ℕ) (op : Op) (missed : serves op (copy_of (first.state.share p) line) ≡ false)
    (apart : p ≢ home_of trace.sizes line) (outcome : Outcome) (content : Content) (sends : outcome.sends ≡ (home_of trace.sizes line, content) ∷ [])
    (then : Past) (known_then : IsKnown charge trace then) (is : then.state ≡ after_row_of trace.sizes p line outcome first.state) where
  abbrev sizes : Sizes
  sizes = trace.sizes

  abbrev home : ℕ
  home = home_of sizes line

  abbrev places : ℕ → ℕ
  places n = (first.state.share n).place

  -- all other nodes' shares are as they were
  pub share-kept : (n : ℕ) → n ≢ p → then.state.share n ≡ first.state.share n
  share-kept = share-away charge trace usual next delivers p line places first.state first.state.lane p outcome then known_then is

  -- and so are all headers
  pub headers-kept : (x : ℕ) → header_at sizes then.state x ≡ header_at sizes first.state x
  headers-kept x = go (x == line) refl
    where
      go : (c : Bool) → (x == line) ≡ c → header_at sizes then.state x ≡ header_at sizes first.state x
      go true e =
          let same : line ≡ x = grind (arith, nat_tests) in
          subst (λ l. header_at sizes then.state l ≡ header_at sizes first.state l) same (header-away charge trace usual next delivers p line places first.state first.state.lane p outcome then known_then is apart)
      go false e =
          let other : x ≢ line = grind (arith, nat_tests) in
          ap (λ s. header_at sizes s x) is ∙ wait-other sizes first.state first.state.lane p line outcome x other

  -- the request is the only message
  pub only-request : OnlyOne p home (message line content) then.state.lane
  only-request =
      subst (λ (s : State). OnlyOne p home (message line content) s.lane) (sym is)
      (one-sent p line home content _ (subst (λ l. OnlySent p line l (sent_of p line outcome.sends first.state.lane)) sends (only-sent p line outcome.sends first.state.lane rests.lanes)))

  -- a line that is dirty and not local has an owner, who isn't the node that asks
  pub owned : (header_at sizes then.state line).dirty ≡ true → (header_at sizes then.state line).local ≡ false →
      (o : ℕ) × (owner (header_at sizes then.state line) ≡ o) × (o ≢ home) × (o ≢ p) × (o < sizes.nodes) × (is_exclusive (copy_of (then.state.share o) line) ≡ true)
  owned dirty away = go (rest-at charge trace usual first known rests line)
    where
      kept : header_at sizes then.state line ≡ header_at sizes first.state line
      kept = headers-kept line

      go : IsRestLine home (header_at sizes first.state line) (λ n. copy_of (first.state.share n) line) →
          (o : ℕ) × (owner (header_at sizes then.state line) ≡ o) × (o ≢ home) × (o ≢ p) × (o < sizes.nodes) × (is_exclusive (copy_of (then.state.share o) line) ≡ true)
      go (inl clean) = absurd (let n : true ≡ false = sym dirty ∙ ap (λ (h : Header). h.dirty) kept ∙ clean.1 in cc)
      go (inr (inl homes)) = absurd (let n : true ≡ false = sym homes.2 ∙ ap (λ (h : Header). h.local) (sym kept) ∙ away in cc)
      go (inr (inr (o, owns))) =
          let exclusive = owns.5 in
          let not_p : o ≢ p = (λ same. let yes = serves-exclusive op (copy_of (first.state.share p) line) (subst (λ n. is_exclusive (copy_of (first.state.share n) line) ≡ true) same exclusive) in let n : true ≡ false = sym yes ∙ missed in cc) in
          (o, ap owner kept ∙ owner-only (header_at sizes first.state line) o owns.3, owns.4, not_p, (known.ranged.headers line).lists o (ap (λ l. listed l o) owns.3 ∙ listed-only o), ap (λ s. is_exclusive (copy_of s line)) (share-kept o not_p) ∙ exclusive)

  -- the request meets a row at the home
  pub met : then.state.lane p home Request ≡ message line content ∷ [] → msg_content (message line content) ≡ content → msg_line (message line content) ≡ line →
      meets home home p (is_empty (copy_of (then.state.share home) line)) content (share_at sizes then.state home line) ≡ true
  met front says at =
      meets-whole charge trace then known_then.sound p home Request line content (of_line line [])
      (ap (of_line line) front ∙ subst (λ l. of_line l (message line content ∷ []) ≡ msg_content (message line content) ∷ of_line l []) at (of_line-front (message line content) []) ∙ ap (λ c. c ∷ of_line line []) says)
