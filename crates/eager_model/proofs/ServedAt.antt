-- What is served with the newest words is served on the words of its age.
use Rattle.std.proofs.Common.{◌≡◌, ℕ, ◌≤◌, Bool, true, false, refl, arith, ap, sym, ◌∙◌, Option}
use Rattle.std.proofs.lemmas.Bool.Decides.{nat_tests}
use Rattle.eager_model.specs.Types.{Op, Want}
use Rattle.op_model.specs.Operations.{Words, is_load}
use Rattle.op_model.specs.Lines.{Service, NoService, Own, For}
use Rattle.line_invariant.specs.Line.{IsServedWell}
use Rattle.line_invariant.specs.Rows.{IsServedFor, IsOwnServed}
use Rattle.eager_model.specs.Line.{AgedLine, greater}
use Rattle.eager_model.specs.Served.{IsServedOn, IsServedAt}
use Rattle.eager_model.proofs.NewestRows.{IsAtTop}

pub above : (top x : ℕ) → top ≤ greater top x
above top x = grind (arith, nat_tests)

pub for-well : (want : ℕ → Option Want) (answered : ℕ → Bool) (me : ℕ) (words : Words) (service : Service) → IsServedFor want answered me words service → IsServedWell service words
for-well want answered me words NoService s = tt
for-well want answered me words (Own op on) s = s.0
for-well want answered me words (For node on) s = s.0

pub own-well : (op : Op) (words : Words) (service : Service) → IsOwnServed op words service → IsServedWell service words
own-well op words NoService s = tt
own-well op words (Own served on) s = s.0
own-well op words (For node on) s = absurd s

pub served-at : (line : AgedLine) (me : ℕ) → line.words_at line.top ≡ line.line.words → ((node : ℕ) → line.last node ≤ line.top) → (next : ℕ) → line.top ≤ next → (service : Service) (age : ℕ) → IsServedWell service line.line.words → IsAtTop line.top next service age → IsServedAt line next me age service
served-at line me newest past next le NoService age well top = tt
served-at line me newest past next le (For node on) age well top =
    ((let p = past node in grind arith), (grind arith, well ∙ sym newest ∙ ap line.words_at (sym top)))
served-at line me newest past next le (Own op on) age well top = ((let p = past me in let e = top.0 in grind arith), go (is_load op.kind) refl)
  where
    go : (load : Bool) → is_load op.kind ≡ load → IsServedOn load line next age on
    go true e = let a = top.1 e in (grind arith, well ∙ sym newest ∙ ap line.words_at (sym a))
    go false e = (top.0, well)
