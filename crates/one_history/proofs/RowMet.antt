-- The message at the front of a lane meets a row at its taker: it is the first message of its line there, and the line is good.
use Rattle.std.proofs.Common.{◌≡◌, ◌≢◌, ℕ, ◌<◌, Bool, true, false, ◌==◌, List, ◌∷◌, refl, arith, ap, sym, ◌∙◌, Some}
use Rattle.std.proofs.lemmas.Bool.Decides.{nat_tests}
use Rattle.line_map.specs.Sizes.{Sizes, home_of}
use Rattle.op_model.specs.declared.events.Class.{Class}
use Rattle.op_model.specs.declared.events.Event.{Event}
use Rattle.op_model.specs.declared.messages.Msg.{Msg}
use Rattle.op_model.specs.declared.operations.Op.{Op}
use Rattle.op_model.specs.Events.Node.{meets_row}
use Rattle.op_model.specs.Lines.{Absent, is_empty}
use Rattle.op_model.specs.Messages.{Content, msg_content, msg_line}
use Rattle.op_model.specs.Run.Runs.{Past, run, start}
use Rattle.op_model.specs.Shares.{Charge, Share, Trace, copy_of, header_of, is_set_empty, line_share, room_of, share_at, want_on}
use Rattle.op_model.specs.Tables.Remote.{meets}
use Rattle.line_invariant.specs.Line.{Line}
use Rattle.line_invariant.specs.Rows.{wanting}
use Rattle.line_invariant.proofs.Public.{away-meets, meets-take, same-alone, wants-empty}
use Rattle.one_history.specs.Project.{line_words, of_line, project}
use Rattle.one_history.specs.Sound.{IsSound, answered_of}
use Rattle.one_history.proofs.Owns.{at-home}
use Rattle.one_history.proofs.Runs.{sound-from, sound-start}
use Rattle.one_history.proofs.Sets.{waits-alone}
use Rattle.one_history.proofs.Shares.{of_line-front}

module _ (charge : Charge) (trace : Trace) (past : Past) (sound : IsSound trace past) (src dst : ℕ) (class : Class) where
  abbrev sizes : Sizes
  sizes = trace.sizes

  abbrev share : Share
  share = past.state.share dst

  abbrev line_at_all : ℕ → Line
  line_at_all line = project sizes past.state (line_words sizes past.served line) (answered_of sizes past line) line

  pub meets-whole : (line : ℕ) (content : Content) (rest : List Content) → of_line line (past.state.lane src dst class) ≡ content ∷ rest → meets dst (home_of sizes line) src (is_empty (copy_of share line)) content (share_at sizes past.state dst line) ≡ true
  unfolding project
  meets-whole line content rest front = meets-take (home_of sizes line) (line_at_all line) (sound.lines line) src rest dst class content front

  waits : (line : ℕ) (op : Op) (marked : Bool) → want_on sizes share.want line ≡ wanting op marked → is_set_empty sizes share line ≡ is_empty (copy_of share line)
  unfolding project
  waits line op marked wants =
      let empty : copy_of share line ≡ Absent = wants-empty (home_of sizes line) (line_at_all line) (sound.lines line) dst op marked wants in
      waits-alone sizes share line op marked (sound.cached dst) wants empty ∙ sym (ap is_empty empty)

  own-meets : (line : ℕ) (content : Content) (alone : Bool) → meets dst (home_of sizes line) src alone content (line_share sizes share line) ≡ meets dst (home_of sizes line) src alone content (share_at sizes past.state dst line)
  own-meets line content alone = go (dst == home_of sizes line) refl
    where
      go : (c : Bool) → (dst == home_of sizes line) ≡ c → meets dst (home_of sizes line) src alone content (line_share sizes share line) ≡ meets dst (home_of sizes line) src alone content (share_at sizes past.state dst line)
      go true e = ap (meets dst (home_of sizes line) src alone content) (at-home sizes past.state dst line e)
      go false e = let apart : dst ≢ home_of sizes line = grind (arith, nat_tests) in away-meets dst (home_of sizes line) apart (share_at sizes past.state dst line) (header_of sizes share line) src alone content

  pub sound-meets : (m : Msg) (rest : List Msg) → past.state.lane src dst class ≡ m ∷ rest → meets_row sizes dst share src m ≡ true
  unfolding meets_row
  sound-meets m rest front =
      own-meets (msg_line m) (msg_content m) (is_set_empty sizes share (msg_line m))
      ∙ same-alone dst (home_of sizes (msg_line m)) src (room_of charge sizes share) (share_at sizes past.state dst (msg_line m)) (is_set_empty sizes share (msg_line m)) (waits (msg_line m)) (msg_content m)
      ∙ meets-whole (msg_line m) (msg_content m) (of_line (msg_line m) rest) (ap (of_line (msg_line m)) front ∙ of_line-front m rest)

pub front_meets : (charge : Charge) (trace : Trace) (events : List Event) (past : Past) (src dst : ℕ) (class : Class) (m : Msg) (rest : List Msg) → 0 < trace.sizes.words → run charge trace events ≡ Some past → past.state.lane src dst class ≡ m ∷ rest →
    meets_row trace.sizes dst (past.state.share dst) src m ≡ true
front_meets charge trace events past src dst class m rest positive e front = sound-meets charge trace past (sound-from charge trace positive (start trace.sizes) past events (sound-start trace) e) src dst class m rest front
