-- A message's act: the row that it meets, with the ages of its line.
use Rattle.std.proofs.Common.{◌≡◌, ℕ, true, false, cond, ◌==◌, List, is_some, refl, sym, ap, ◌∙◌, Option, Some, None, Ok, Err}
use Rattle.std.proofs.lemmas.Bool.{cond-true, eq-eqb}
use Rattle.line_map.specs.Sizes.{Sizes, home_of}
use Rattle.op_model.specs.declared.events.Cause.TheVariants.{VictimUnasked}
use Rattle.op_model.specs.declared.messages.Msg.{Msg}
use Rattle.op_model.specs.declared.messages.Msg.TheVariants as msg
use Rattle.op_model.specs.declared.operations.Op.{Op}
use Rattle.op_model.specs.Messages.{msg_content, msg_line}
use Rattle.op_model.specs.MessageWords.{words_behind}
use Rattle.op_model.specs.Shares.{Charge, Share, Unlinked, is_set_empty, line_share, room_of}
use Rattle.op_model.specs.Events.Node.{NodeOutcome, TakeFrom, by_row, permit}
use Rattle.cpu_cache.specs.Effects.{effect_of}
use Rattle.cpu_cache.specs.declared.effects.Effect.{Effect}
use Rattle.eager_model.specs.Ages.{LineAges, ages_taken}
use Rattle.eager_model.specs.Node.{ages_by, local, meets_row, taking}
use Rattle.eager_model.specs.Rows.{meets, on_message}
use Rattle.message_range.specs.Fitting.{IsShareOf}
use Rattle.eager_part.specs.Part.{IsEagerPart}
use Rattle.eager_part.proofs.Public.{get-met, shwb-met, wb-met}
use Rattle.msg_words.specs.SendList.{SendList}
use Rattle.node_share.specs.Parts.{row_at, sent}
use Rattle.node_share.specs.Effects.{Acts}
use Rattle.eager_home.specs.Nodes.{DoesMessage, row_met, told_of}

module _ (sizes : Sizes) (node : ℕ) (program : List Op) (share : Share) (src : ℕ) (m : Msg) where
  -- no line is ever called in for a link
  pub unasked : (victim : Option ℕ) → is_some victim ≡ true → Err VictimUnasked ≡ permit (local sizes node program share (TakeFrom src m victim))
  unfolding local
  unasked None e = cc
  unasked (Some g) e = refl

  pub none-asked : (victim : Option ℕ) → is_some victim ≡ false → Ok tt ≡ permit (local sizes node program share (TakeFrom src m victim))
  unfolding local
  none-asked None e = refl
  none-asked (Some g) e = cc

  module _ (met : meets_row sizes node share src m ≡ true) where
    is-row : by_row sizes node share (msg_line m) (taking sizes node share src m) ≡ row_at sizes node share (msg_line m) (row_met sizes node src (room_of Unlinked sizes share) m)
    unfolding on_message meets_row
    is-row = ap (by_row sizes node share (msg_line m)) (cond-true (meets node (home_of sizes (msg_line m)) src (is_set_empty sizes share (msg_line m)) (msg_content m) (line_share sizes share (msg_line m))) _ _ met)

    pub takes : (charge : Charge) (victim : Option ℕ) (new : Share) (out out' : SendList) (effect : Effect) → charge ≡ Unlinked → Ok tt ≡ permit (local sizes node program share (TakeFrom src m victim)) → DoesMessage sizes node src (room_of charge sizes share) m share new out out' →
        effect ≡ told_of sizes node src (room_of charge sizes share) m program share → Acts node program share.place (words_behind (msg_content m)) (local sizes node program share (TakeFrom src m victim)) new out out' effect
    unfolding local
    takes charge (Some g) new out out' effect unlinked asked does told = cc
    takes charge None new out out' effect unlinked asked does told =
        let row : row_at sizes node share (msg_line m) (row_met sizes node src (room_of charge sizes share) m) ≡ by_row sizes node share (msg_line m) (taking sizes node share src m) =
        ap (λ k. row_at sizes node share (msg_line m) (row_met sizes node src (room_of k sizes share) m)) unlinked ∙ sym is-row in
        record {
          outcome = by_row sizes node share (msg_line m) (taking sizes node share src m);
          is = refl;
          share = does.share ∙ ap (λ (o : NodeOutcome). o.share) row;
          sends = does.sends ∙ ap (λ (o : NodeOutcome). sent out o.sends) row;
          told = told ∙ ap (effect_of node program share.place (words_behind (msg_content m))) row;
        }

    pub ages-taken : (victim : Option ℕ) (age : ℕ) (o : NodeOutcome) (pair : LineAges) → ages_taken (node == home_of sizes (msg_line m)) age (msg_content m) (line_share sizes share (msg_line m)) pair ≡ ages_by sizes node share (TakeFrom src m victim) age o pair
    ages-taken victim age o pair = sym (cond-true (meets_row sizes node share src m) _ _ met)

-- elsewhere than at its home memory keeps its age
module _ (sizes : Sizes) (node : ℕ) (program : List Op) (share : Share) (part : IsEagerPart sizes node program share) (fits : IsShareOf sizes share) (src age : ℕ) (pair : LineAges) where
  at-home : (line : ℕ) → home_of sizes line ≡ node → (node == home_of sizes line) ≡ false → ⊥
  at-home line is off = let t : true ≡ false = sym (eq-eqb node (home_of sizes line) (sym is)) ∙ off in cc

  pub memory-away : (m : Msg) → meets_row sizes node share src m ≡ true → (node == home_of sizes (msg_line m)) ≡ false → (ages_taken (node == home_of sizes (msg_line m)) age (msg_content m) (line_share sizes share (msg_line m)) pair).memory ≡ pair.memory
  memory-away (msg.Get line) met off = absurd (at-home line (get-met sizes node program share part fits line src met).0 off)
  memory-away (msg.GetX line) met off = refl
  memory-away (msg.FwdGet line req) met off = refl
  memory-away (msg.FwdGetX line req) met off = refl
  memory-away (msg.Inv line) met off = refl
  memory-away (msg.Wb line words) met off = absurd (at-home line (wb-met sizes node program share part fits line src words met).0 off)
  memory-away (msg.Rpl line) met off = refl
  memory-away (msg.Put line words) met off = ap (λ h. cond h age pair.memory) off
  memory-away (msg.PutX line words) met off = refl
  memory-away (msg.Nak line cause) met off = refl
  memory-away (msg.InvAck line) met off = refl
  memory-away (msg.ShWb line words) met off = absurd (at-home line (shwb-met sizes node program share part fits line src words met).0 off)
  memory-away (msg.FAck line) met off = refl
  memory-away (msg.Nakc line) met off = refl
