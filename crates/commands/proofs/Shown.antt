-- What is shown of a machine that was at a trace's start and has made steps of the trace.
use Rattle.std.proofs.Common.{◌≡◌, ℕ, ◌+◌, ◌<◌, List, ◌++◌, length, sym, ap, subst, ◌∙◌}
use Rattle.std.proofs.lemmas.List.{length_push}
use Rattle.line_map.specs.Sizes.{all_lines}
use Rattle.op_model.specs.declared.events.Event.{Event}
use Rattle.op_model.specs.Run.Machines.{MachineRun, IsApplied}
use Rattle.op_model.specs.Run.Runs.{run_by}
use Rattle.op_model.specs.Shares.{Trace, Linked}
use Rattle.time_view.specs.Stories.{StoryView, first_story, story_of, story_text}
use Rattle.command_words.specs.declared.command.View.{View}
use Rattle.commands.specs.Runs.{machine_at_start}
use Rattle.commands.specs.Steps.{HasMade}
use Rattle.commands.specs.Views.{IsThere, IsView, steps_of, text_of}

-- ---- a text

pub shown-by : (view : View) (trace : Trace) (old new : MachineRun) (text : List ℕ) → IsThere view trace → old ≡ machine_at_start Linked trace → HasMade old (steps_of view trace) new → text ≡ text_of view new → IsView view trace text
shown-by view trace old new text there fresh made is = record {
  there = there;
  past = new.past;
  ran = sym (ap (λ (m : MachineRun). run_by m.charge m.sizes m.programs m.past (steps_of view trace)) fresh) ∙ made.ran;
  printed = is ∙ ap (text_of view) (made.went ∙ ap (λ (m : MachineRun). record m { events = m.events ++ steps_of view trace; past = new.past }) fresh);
}

-- ---- a story

pub told-line : (m : MachineRun) (line : ℕ) (story : StoryView) → story ≡ story_of m line → story.line ≡ line
unfolding story_of
told-line m line story told = ap (λ (s : StoryView). s.line) told

told-steps : (m : MachineRun) (line : ℕ) (story : StoryView) → story ≡ story_of m line → story.steps ≡ length m.events
unfolding story_of
told-steps m line story told = ap (λ (s : StoryView). s.steps) told

-- it is told of its own line
pub own-line : (m : MachineRun) (line : ℕ) (story : StoryView) → story ≡ story_of m line → story ≡ story_of m story.line
own-line m line story told = told ∙ ap (story_of m) (sym (told-line m line story told))

-- its text is that of the story of its line, in the run that it was told of
pub told-text : (m : MachineRun) (begun now : StoryView) (line : ℕ) (text : List ℕ) → begun ≡ first_story line → now ≡ story_of m begun.line → ((other : MachineRun) → now ≡ story_of other now.line → text ≡ story_text other now.line) → text ≡ story_text m line
told-text m begun now line text first told printed =
    printed m (own-line m begun.line now told) ∙ ap (story_text m) (told-line m begun.line now told ∙ ap (λ (s : StoryView). s.line) first)

-- a machine has made one event more than a story was told of; what reads it sees that run
module _ (before after seen : MachineRun) (event : Event) (line : ℕ) (story : StoryView) (same : seen ≡ after) (applied : IsApplied before event after) (told : story ≡ story_of before line) where
  pub next-step : length seen.events ≡ story.steps + 1
  next-step =
      ap (λ (m : MachineRun). length m.events) (same ∙ applied.2) ∙ length_push before.events event
      ∙ ap (λ (n : ℕ). n + 1) (sym (told-steps before line story told))

  pub still-there : (old : MachineRun) (steps : List Event) → HasMade old steps before → line < all_lines old.sizes → story.line < all_lines seen.sizes
  still-there old steps made below =
      let sizes : old.sizes ≡ seen.sizes = sym (ap (λ (m : MachineRun). m.sizes) (same ∙ applied.2) ∙ ap (λ (m : MachineRun). m.sizes) made.went) in
      subst (λ (n : ℕ). n < all_lines seen.sizes) (sym (told-line before line story told)) (subst (λ s. line < all_lines s) sizes below)

  pub seen-applied : IsApplied before event seen
  seen-applied = (applied.0, applied.1, same ∙ applied.2)

  -- what was noted is the story of the longer run
  pub noted-on : (noted : StoryView) → noted ≡ story_of seen story.line → noted ≡ story_of after line
  noted-on noted is = is ∙ ap (λ (m : MachineRun). story_of m story.line) same ∙ ap (story_of after) (told-line before line story told)
