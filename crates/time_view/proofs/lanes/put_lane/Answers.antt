use Rattle.std.proofs.Common.{◌++◌, List, ap, sym, ◌∙◌, ℕ, arith}
use Rattle.std.specs.List.{flat_map}
use Rattle.std.proofs.lemmas.List.{take_all, length-map}
use Rattle.text_lines.specs.Printing.{line_text}
use Rattle.op_model.specs.declared.messages.Msg.{Msg}
use Rattle.op_model.specs.Run.Schedules.{Lane}
use Rattle.time_view.specs.Messages.{message_words}
use Rattle.time_view.proofs.Putting.{mapped_more, mapped_text}
use Rattle.time_view.proofs.lanes.put_lane.Goals as goal

pub loop-i-preserved : goal.loop-i-preserved
loop-i-preserved g c =
    let m = g.M.Reported.meaning c.args.m.now in
    let lane : Lane = record { src = c.args.src; dst = c.args.dst; class = c.args.class } in
    mapped_more (message_words lane) (m.past.state.lane c.args.src c.args.dst c.args.class) c.loop-i.i c.lane_at.result c.args.out.now.items c.loop-i.out.items c.put_message.new.out.items c.lane_at.ensures.value c.loop-i.invariant c.in_ok-put_message.ensures

pub returns : goal.returns
returns g c =
    let m = g.M.Reported.meaning c.args.m.now in
    let lane : Lane = record { src = c.args.src; dst = c.args.dst; class = c.args.class } in
    let messages = m.past.state.lane c.args.src c.args.dst c.args.class in
    record {
      many = c.lane_len-count.ensures ∙ sym (length-map messages (message_words lane));
      text =
          c.loop-i.invariant
          ∙ ap (λ (ms : List Msg). c.args.out.now.items ++ flat_map (λ y. line_text (message_words lane y)) ms) (take_all c.loop-i.i messages (omega (arith, c.lane_len-count.ensures)))
          ∙ ap (λ (text : List ℕ). c.args.out.now.items ++ text) (mapped_text (message_words lane) messages);
    }
