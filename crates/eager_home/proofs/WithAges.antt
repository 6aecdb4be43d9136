-- An act with the ages of its line, call by call.
use Rattle.std.proofs.Common.{◌≡◌, ◌≢◌, ℕ, false, cond, ◌==◌, List, sym, ap, ◌∙◌}
use Rattle.std.specs.Prelude.{◌%◌, slice_index}
use Rattle.line_map.specs.Sizes.{AreSizes, Sizes, home_of, set_of}
use Rattle.op_model.specs.declared.operations.Op.{Op}
use Rattle.op_model.specs.Lines.{Service, is_empty}
use Rattle.op_model.specs.Operations.{Words}
use Rattle.op_model.specs.Shares.{Share, copy_in, copy_of, line_share}
use Rattle.op_model.specs.Events.Node.{Input}
use Rattle.eager_model.specs.Ages.{LineAges, age_given, served_age, with_copy}
use Rattle.eager_model.specs.Node.{NodeAges, aged, ages_by, line_ages, local, put_ages}
use Rattle.eager_part.specs.Part.{IsEagerPart}
use Rattle.eager_part.proofs.Public.{eager_act}
use Rattle.cpu_cache.specs.Effects.{served_of}
use Rattle.cpu_cache.specs.declared.effects.Effect.{Effect}
use Rattle.msg_words.specs.SendList.{SendList}
use Rattle.node_share.specs.Effects.{Acts}
use Rattle.eager_home.specs.Aged.{AgedActs, line_named}
use Rattle.eager_home.specs.Ages.{AgeLists, AreAgeLists, ages_of, with_line}
use Rattle.eager_home.proofs.AtLine.{IsAtLine, each-line}
use Rattle.eager_home.proofs.Put.{ages-put}

module _ (sizes : Sizes) (node : ℕ) (program : List Op) (brought : Words) (old : Share) (lists : AgeLists) (are : AreSizes sizes) (of : AreAgeLists sizes lists) (part : IsEagerPart sizes node program old) where
  abbrev before : NodeAges
  before = ages_of sizes node old.copies lists

  module _ (input : Input) (age : ℕ) (new : Share) (out out' : SendList) (effect : Effect) (acts : Acts node program old.place brought (local sizes node program old input) new out out' effect) (line : ℕ) (line-is : line ≡ line_named sizes program old.place input) where
    at : IsAtLine sizes program old input acts.outcome
    at = each-line sizes node program old input acts.outcome acts.is

    pub same : acts.outcome.line ≡ line
    same = at.line ∙ sym line-is

    -- the copy of the line after the act
    pub copy-there : copy_of acts.outcome.share acts.outcome.line ≡ copy_in new.copies line
    unfolding copy_of
    copy-there = λ i. copy_in (sym acts.share i).copies (same i)

    others : (k : ℕ) → k ≢ line → copy_in new.copies k ≡ copy_in old.copies k
    others k other = ap (λ (s : Share). copy_in s.copies k) acts.share ∙ at.others k (λ e. other (e ∙ same))

    sets : (a b : ℕ) → is_empty (copy_in new.copies a) ≡ false → is_empty (copy_in new.copies b) ≡ false → set_of sizes a ≡ set_of sizes b → a ≡ b
    unfolding copy_of
    sets a b here there =
        (eager_act sizes node program old input acts.outcome part acts.is).sets a b
        (ap (λ (s : Share). is_empty (copy_in s.copies a)) (sym acts.share) ∙ here) (ap (λ (s : Share). is_empty (copy_in s.copies b)) (sym acts.share) ∙ there)

    pub with-ages : (pair now : LineAges) (lists' : AgeLists) (given copy served : ℕ) → pair ≡ line_ages before line → now ≡ ages_by sizes node old input age acts.outcome pair →
        given ≡ age_given (node == home_of sizes line) (line_share sizes old line) pair → copy ≡ (with_copy (copy_in new.copies line) now).copy → lists' ≡ with_line sizes node new.copies line now lists →
        ((n place : ℕ) (service : Service) → effect.served ≡ served_of n place service → served ≡ served_age given copy service) → ((node == home_of sizes line) ≡ false → now.memory ≡ pair.memory) →
        AgedActs sizes node program brought old before input age new (ages_of sizes node new.copies lists') out out' (record { effect = effect; given = given; served = served })
    unfolding aged copy_of
    with-ages pair now lists' given copy served pair-is now-is given-is copy-is lists-is served-is away =
        let now-there : now ≡ ages_by sizes node old input age acts.outcome (line_ages before acts.outcome.line) = now-is ∙ ap (ages_by sizes node old input age acts.outcome) (pair-is ∙ ap (line_ages before) (sym same)) in
        let row : with_copy (copy_in new.copies line) now ≡ with_copy (copy_in acts.outcome.share.copies acts.outcome.line) (ages_by sizes node old input age acts.outcome (line_ages before acts.outcome.line)) =
        (λ i. with_copy (sym copy-there i) (now-there i)) in
        let given-there : given ≡ age_given (node == home_of sizes acts.outcome.line) (line_share sizes old acts.outcome.line) (line_ages before acts.outcome.line) =
        given-is ∙ ap (age_given (node == home_of sizes line) (line_share sizes old line)) pair-is ∙ ap (λ l. age_given (node == home_of sizes l) (line_share sizes old l) (line_ages before l)) (sym same) in
        let copied : copy ≡ (with_copy (copy_in acts.outcome.share.copies acts.outcome.line) (ages_by sizes node old input age acts.outcome (line_ages before acts.outcome.line))).copy = copy-is ∙ ap (λ (r : LineAges). r.copy) row in
        record {
          acts = acts;
          ages = ap (ages_of sizes node new.copies) lists-is
              ∙ ages-put sizes node are old.copies new.copies line now lists of others sets (λ e. away e ∙ ap (λ (p : LineAges). p.memory) pair-is ∙ ap (λ b. cond b (slice_index lists.memory (line % sizes.lines)) 0) e)
              ∙ (λ i. put_ages (sym same i) (row i) before);
          given = given-there;
          served = served-is node old.place acts.outcome.served (ap (λ (e : Effect). e.served) acts.told) ∙ (λ i. served_age (given-there i) (copied i) acts.outcome.served);
        }
