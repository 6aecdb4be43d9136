-- Each message in a lane is of the lane's class, and goes to the home of its line or comes from it as its kind does.
-- The messages of a line are spelled by what is under way for the nodes at the ends of the lane, and the home is at one of them.
use Rattle.std.proofs.Common.{◌≡◌, ℕ, ◌<◌, Bool, true, false, cond, ◌==◌, List, [], ◌∷◌, ◌++◌, refl, arith, sym, subst, Option, Some, None}
use Rattle.std.proofs.lemmas.Bool.Decides.{nat_tests}
use Rattle.std.proofs.lemmas.List.Elements.{All-cons, All-nil}
use Rattle.std.specs.List.{All}
use Rattle.line_map.specs.Sizes.{home_of}
use Rattle.op_model.specs.declared.events.Class.{Class}
use Rattle.op_model.specs.declared.events.Class.TheVariants.{Reply, Request}
use Rattle.op_model.specs.declared.events.Event.{Event}
use Rattle.op_model.specs.declared.messages.Msg.{Msg}
use Rattle.op_model.specs.declared.state.Want.{Want}
use Rattle.op_model.specs.Lines.{Copy}
use Rattle.op_model.specs.Messages.{Content, FAck, FwdGet, FwdGetX, Get, GetX, Inv, InvAck, Nak, Nakc, Put, PutX, Rpl, ShWb, Wb, class_of, msg_class, msg_content, msg_line}
use Rattle.op_model.specs.Run.Runs.{Past, run, start}
use Rattle.op_model.specs.Shares.{Charge, Trace}
use Rattle.line_invariant.specs.Good.{Acked, Answered, Asking, AskingX, Carrier, Duty, Forwarded, Granted, Handed, Hints, IsCarried, IsGood, Leaving, NoDuty, NotLeaving, Refused, Resting, Returned, ToGive, Told, WritesBack, answer_part, asking_part, leaving_part, reply_part, told_part}
use Rattle.line_invariant.specs.Line.{Line}
use Rattle.one_history.specs.Project.{line_words, of_line, project}
use Rattle.one_history.specs.Sound.{IsSound, answered_of}
use Rattle.one_history.proofs.Public.{of_line-front, sound-from, sound-start}
use Rattle.lane_bounds.specs.Ways.{IsOnWay, IsWay}
use Rattle.lane_bounds.proofs.Spelled.{carried-of}

abbrev Each : (Content → Type 0) → List Content → Type 0
Each P [] = Unit {0}
Each P (c ∷ cs) = P c × Each P cs

each-append : (P : Content → Type 0) (xs ys : List Content) → Each P xs → Each P ys → Each P (xs ++ ys)
each-append P [] ys each more = more
each-append P (x ∷ xs) ys each more = (each.0, each-append P xs ys each.1 more)

-- the message is of the class, and on its way
abbrev Fits : (home src dst : ℕ) → Class → Content → Type 0
Fits home src dst class content = (class_of content ≡ class) × IsWay home src dst content

module _ (home src dst : ℕ) where
  leaving-fits : dst ≡ home → (leaving : Leaving) → Each (Fits home src dst Request) (leaving_part leaving)
  leaving-fits to NotLeaving = tt
  leaving-fits to (WritesBack words) = ((refl, to), tt)
  leaving-fits to Hints = ((refl, to), tt)

  asking-fits : dst ≡ home → (carries : Carrier) → Each (Fits home src dst Request) (asking_part carries)
  asking-fits to Resting = tt
  asking-fits to Asking = ((refl, to), tt)
  asking-fits to AskingX = ((refl, to), tt)
  asking-fits to Granted = tt
  asking-fits to (Forwarded write) = tt
  asking-fits to (Answered from content) = tt

  told-fits : src ≡ home → (duty : Duty) → Each (Fits home src dst Request) (told_part duty)
  told-fits from NoDuty = tt
  told-fits from Told = ((refl, from), tt)
  told-fits from Acked = tt
  told-fits from (ToGive true requester) = ((refl, from), tt)
  told-fits from (ToGive false requester) = ((refl, from), tt)
  told-fits from (Returned words) = tt
  told-fits from Handed = tt
  told-fits from Refused = tt

  reply-fits : dst ≡ home → (duty : Duty) → Each (Fits home src dst Reply) (reply_part duty)
  reply-fits to NoDuty = tt
  reply-fits to Told = tt
  reply-fits to Acked = ((refl, to), tt)
  reply-fits to (ToGive write requester) = tt
  reply-fits to (Returned words) = ((refl, to), tt)
  reply-fits to Handed = ((refl, to), tt)
  reply-fits to Refused = ((refl, to), tt)

  one-answer : (want : Option Want) (copy : Copy) (from : ℕ) (content : Content) → IsCarried want copy (Answered from content) → Fits home src dst Reply content
  one-answer None copy from content is = absurd (cc)
  one-answer (Some want) copy from (Put words) is = (refl, tt)
  one-answer (Some want) copy from (PutX words) is = (refl, tt)
  one-answer (Some want) copy from (Nak cause) is = (refl, tt)
  one-answer (Some want) copy from Get is = absurd is.1
  one-answer (Some want) copy from GetX is = absurd is.1
  one-answer (Some want) copy from (FwdGet r) is = absurd is.1
  one-answer (Some want) copy from (FwdGetX r) is = absurd is.1
  one-answer (Some want) copy from Inv is = absurd is.1
  one-answer (Some want) copy from (Wb words) is = absurd is.1
  one-answer (Some want) copy from Rpl is = absurd is.1
  one-answer (Some want) copy from InvAck is = absurd is.1
  one-answer (Some want) copy from (ShWb words) is = absurd is.1
  one-answer (Some want) copy from FAck is = absurd is.1
  one-answer (Some want) copy from Nakc is = absurd is.1

  answer-fits : (want : Option Want) (copy : Copy) (carries : Carrier) → IsCarried want copy carries → Each (Fits home src dst Reply) (answer_part src carries)
  answer-fits want copy Resting is = tt
  answer-fits want copy Asking is = tt
  answer-fits want copy AskingX is = tt
  answer-fits want copy Granted is = tt
  answer-fits want copy (Forwarded write) is = tt
  answer-fits want copy (Answered from content) is = go (src == from)
    where
      go : (c : Bool) → Each (Fits home src dst Reply) (cond c (content ∷ []) [])
      go true = (one-answer want copy from content is, tt)
      go false = tt

-- the messages of one line in a lane
line-fits : (home : ℕ) (line : Line) → IsGood home line → (a b : ℕ) (class : Class) → Each (Fits home a b class) (line.lane a b class)
line-fits home line good a b Request = subst (Each (Fits home a b Request)) (sym (good.lanes a b Request)) (go (b == home) refl (a == home) refl)
  where
    go : (c : Bool) → (b == home) ≡ c → (d : Bool) → (a == home) ≡ d → Each (Fits home a b Request) (cond c (leaving_part (good.status a).leaving ++ asking_part (good.status a).carrier) (cond d (told_part (good.status b).duty) []))
    go true e d f = let to : b ≡ home = grind (arith, nat_tests) in each-append _ (leaving_part (good.status a).leaving) _ (leaving-fits home a b to _) (asking-fits home a b to _)
    go false e true f = let from : a ≡ home = grind (arith, nat_tests) in told-fits home a b from _
    go false e false f = tt
line-fits home line good a b Reply = subst (Each (Fits home a b Reply)) (sym (good.lanes a b Reply)) (each-append _ (answer_part a (good.status b).carrier) _ (answer-fits home a b (line.want b) (line.copy b) _ (carried-of home line good b)) (go (b == home) refl))
  where
    go : (c : Bool) → (b == home) ≡ c → Each (Fits home a b Reply) (cond c (reply_part (good.status a).duty) [])
    go true e = let to : b ≡ home = grind (arith, nat_tests) in reply-fits home a b to _
    go false e = tt

-- what holds of each line's messages holds of each message
each-line : (P : ℕ → Content → Type 0) (ms : List Msg) → ((line : ℕ) → Each (P line) (of_line line ms)) → All (λ m. P (msg_line m) (msg_content m)) ms
each-line P [] each = All-nil _
each-line P (m ∷ ms) each =
    let first = subst (Each (P (msg_line m))) (of_line-front m ms) (each (msg_line m)) in
    All-cons (λ m. P (msg_line m) (msg_content m)) m ms first.0 (each-line P ms (λ line. rest line (msg_line m == line) (each line)))
  where
    rest : (line : ℕ) (c : Bool) → Each (P line) (cond c (msg_content m ∷ of_line line ms) (of_line line ms)) → Each (P line) (of_line line ms)
    rest line true it = it.1
    rest line false it = it

module _ (charge : Charge) (trace : Trace) (events : List Event) (past : Past) (a b : ℕ) (class : Class) (positive : 0 < trace.sizes.words) (runs : run charge trace events ≡ Some past) where
  fits : (line : ℕ) → Each (Fits (home_of trace.sizes line) a b class) (of_line line (past.state.lane a b class))
  unfolding project
  fits line =
      let sound : IsSound trace past = sound-from charge trace positive (start trace.sizes) past events (sound-start trace) runs in
      line-fits (home_of trace.sizes line) (project trace.sizes past.state (line_words trace.sizes past.served line) (answered_of trace.sizes past line) line) (sound.lines line) a b class

  pub lane_class : All (λ m. msg_class m ≡ class) (past.state.lane a b class)
  lane_class k d lt = (each-line (λ line. Fits (home_of trace.sizes line) a b class) (past.state.lane a b class) fits k d lt).0

  pub lane_way : All (IsOnWay trace.sizes a b) (past.state.lane a b class)
  lane_way k d lt = (each-line (λ line. Fits (home_of trace.sizes line) a b class) (past.state.lane a b class) fits k d lt).1
