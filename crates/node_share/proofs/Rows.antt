-- What a row does at a line, told by what it makes of each part: so a handler that leaves the parts leaves the share of the row.
use Rattle.std.proofs.Common.{◌≡◌, ◌≢◌, ℕ, suc, Bool, true, false, cond, ◌==◌, List, Option, refl, sym, ap, ◌∙◌, arith}
use Rattle.std.proofs.lemmas.Bool.{cond-true, cond-false, eqb-true}
use Rattle.std.proofs.lemmas.Bool.Decides.{nat_tests}
use Rattle.std.specs.FinMap as fin
use Rattle.line_map.specs.Sizes.{Sizes, home_of}
use Rattle.op_model.specs.declared.state.Want.{Want}
use Rattle.op_model.specs.Lines.{Copy, Header, LineShare, Outcome}
use Rattle.op_model.specs.Shares.{Share, copy_of, line_share, put_copy, put_share, want_on, want_after, header_in, Copies, copy_in, Headers}
use Rattle.cpu_cache.specs.Processors.{ProcView}
use Rattle.dir_header.specs.HomeSides.{HomeView, header_at}
use Rattle.op_model.specs.Messages.{Content}
use Rattle.op_model.specs.Operations.{Words}
use Rattle.op_model.specs.Lines.{Service, NoService, For}
use Rattle.cpu_cache.specs.declared.effects.Effect.{Effect}
use Rattle.node_share.proofs.Wants.{effect-none, effect-for}
use Rattle.op_model.specs.Events.Node.{messages, by_row}
use Rattle.op_model.proofs.Public.{want-stays}
use Rattle.cpu_cache.specs.Effects.{effect_of, nothing, load_by}
use Rattle.msg_words.specs.SendList.{SendList}
use Rattle.node_share.specs.Parts.{share_of, AreCopies, row_at, sent, DoesRow}
use Rattle.node_share.proofs.Homes.{Puts}
use Rattle.node_share.proofs.Copies.{copy-kept}

module _ (sizes : Sizes) (node line : ℕ) (proc : ProcView) (copies : Copies) (headers : Headers) (row : LineShare → Outcome) where
  abbrev pub before : LineShare
  before = line_share sizes (share_of proc copies headers) line

  pub row-share : (proc' : ProcView) (copies' : Copies) (headers' : Headers) →
      proc'.place ≡ cond (row before).done (suc proc.place) proc.place →
      proc'.want ≡ want_after sizes proc.want line (row before).share.want →
      copies' ≡ put_copy copies line (row before).share.copy →
      headers' ≡ cond (node == home_of sizes line) (fin.insert headers line (row before).share.header) headers →
      share_of proc' copies' headers' ≡ (row_at sizes node (share_of proc copies headers) line row).share
  unfolding put_share
  row-share proc' copies' headers' place want copy header = λ i. record { place = place i; want = want i; copies = copy i; headers = header i }

pub at-home : (sizes : Sizes) (node line : ℕ) → home_of sizes line ≡ node → (node == home_of sizes line) ≡ true
at-home sizes node line own = grind (arith, nat_tests)

-- a row that changes the header of a line at its home, and neither the copy nor what is wanted
pub record IsHeaderRow {D : Type 0} (home : HomeView D) (line : ℕ) (header : Header) (row : LineShare → Outcome) : Type 0 where
  pub share : (copy : Copy) (want : Option Want) → (row (record { copy = copy; want = want; header = header_at home line })).share ≡ record { copy = copy; want = want; header = header }
  pub done : (copy : Copy) (want : Option Want) → (row (record { copy = copy; want = want; header = header_at home line })).done ≡ false

pub header-row : {D : Type 0} (old new : HomeView D) (line : ℕ) (header : Header) (row : LineShare → Outcome) → home_of old.sizes line ≡ old.node → Puts old new line header → IsHeaderRow old line header row →
    (proc : ProcView) (copies : Copies) → AreCopies copies → share_of proc copies new.headers ≡ (row_at old.sizes old.node (share_of proc copies old.headers) line row).share
unfolding copy_of header_in
header-row old new line header row own puts is proc copies are =
    let copy = copy_in copies line in
    let want = want_on old.sizes proc.want line in
    row-share old.sizes old.node line proc copies old.headers row proc copies new.headers
    (sym (ap (λ b. cond b (suc proc.place) proc.place) (is.done copy want)))
    (sym (ap (λ s. want_after old.sizes proc.want line s.want) (is.share copy want) ∙ want-stays old.sizes proc.want line))
    (sym (ap (λ s. put_copy copies line s.copy) (is.share copy want) ∙ copy-kept copies line are))
    (puts.headers ∙ sym (cond-true (old.node == home_of old.sizes line) _ _ (at-home old.sizes old.node line own) ∙ ap (λ s. fin.insert old.headers line s.header) (is.share copy want)))

-- a row that changes the header of a line at its home and the home's copy, and not what is wanted
module _ {D : Type 0} (old new : HomeView D) (copies copies' : Copies) (line : ℕ) (header : Header) (copy : Copy) (out out' : SendList) (sends : List (ℕ × Content)) (served : Service) (row : LineShare → Outcome) where
  abbrev pub IsHomeRow : Type 0
  IsHomeRow = (want : Option Want) → row (record { copy = copy_in copies line; want = want; header = header_at old line }) ≡ record { share = record { copy = copy; want = want; header = header }; sends = sends; served = served; done = false }

  pub home-row : home_of old.sizes line ≡ old.node → Puts old new line header → copies' ≡ put_copy copies line copy → out' ≡ sent out (messages line sends) → IsHomeRow →
      (proc : ProcView) → DoesRow old.sizes old.node (share_of proc copies old.headers) (share_of proc copies' new.headers) out out' line row
  unfolding copy_of header_in
  home-row own puts copies-are out-is is proc =
      let want = want_on old.sizes proc.want line in
      record {
        share = row-share old.sizes old.node line proc copies old.headers row proc copies' new.headers
            (sym (ap (λ o. cond o.done (suc proc.place) proc.place) (is want)))
            (sym (ap (λ o. want_after old.sizes proc.want line o.share.want) (is want) ∙ want-stays old.sizes proc.want line))
            (copies-are ∙ sym (ap (λ o. put_copy copies line o.share.copy) (is want)))
            (puts.headers ∙ sym (cond-true (old.node == home_of old.sizes line) _ _ (at-home old.sizes old.node line own) ∙ ap (λ o. fin.insert old.headers line o.share.header) (is want)));
        sends = out-is ∙ sym (ap (λ o. sent out (messages line o.sends)) (is want));
      }

-- a row that is another one here
pub same-row : (sizes : Sizes) (node : ℕ) (old new : Share) (out out' : SendList) (line : ℕ) (row row' : LineShare → Outcome) → row (line_share sizes old line) ≡ row' (line_share sizes old line) → DoesRow sizes node old new out out' line row' → DoesRow sizes node old new out out' line row
same-row sizes node old new out out' line row row' same does = record {
  share = does.share ∙ sym (ap (λ o. (by_row sizes node old line o).share) same);
  sends = does.sends ∙ sym (ap (λ o. sent out (by_row sizes node old line o).sends) same);
}

-- the same at a home, by what is known of the line's header
pub picks : {D : Type 0} (home : HomeView D) (copies : Copies) (new : ProcView → Share) (out out' : SendList) (line : ℕ) (row row' : LineShare → Outcome) →
    ((share : LineShare) → share.header ≡ header_at home line → row share ≡ row' share) →
    ((proc : ProcView) → DoesRow home.sizes home.node (share_of proc copies home.headers) (new proc) out out' line row') →
    (proc : ProcView) → DoesRow home.sizes home.node (share_of proc copies home.headers) (new proc) out out' line row
unfolding header_in
picks home copies new out out' line row row' same does proc =
    same-row home.sizes home.node (share_of proc copies home.headers) (new proc) out out' line row row' (same (line_share home.sizes (share_of proc copies home.headers) line) refl) (does proc)

-- a row that changes all parts
module _ {D : Type 0} (old new : HomeView D) (proc proc' : ProcView) (copies copies' : Copies) (line : ℕ) (out out' : SendList) (row : LineShare → Outcome) (o : Outcome) where
  pub own-row : home_of old.sizes line ≡ old.node → row (record { copy = copy_in copies line; want = want_on old.sizes proc.want line; header = header_at old line }) ≡ o →
      Puts old new line o.share.header → copies' ≡ put_copy copies line o.share.copy → proc'.place ≡ cond o.done (suc proc.place) proc.place → proc'.want ≡ want_after old.sizes proc.want line o.share.want →
      out' ≡ sent out (messages line o.sends) → DoesRow old.sizes old.node (share_of proc copies old.headers) (share_of proc' copies' new.headers) out out' line row
  unfolding copy_of header_in
  own-row own is puts copies-are place want out-is = record {
    share = row-share old.sizes old.node line proc copies old.headers row proc' copies' new.headers
        (place ∙ sym (ap (λ k. cond k.done (suc proc.place) proc.place) is))
        (want ∙ sym (ap (λ k. want_after old.sizes proc.want line k.share.want) is))
        (copies-are ∙ sym (ap (λ k. put_copy copies line k.share.copy) is))
        (puts.headers ∙ sym (cond-true (old.node == home_of old.sizes line) _ _ (at-home old.sizes old.node line own) ∙ ap (λ k. fin.insert old.headers line k.share.header) is));
    sends = out-is ∙ sym (ap (λ k. sent out (messages line k.sends)) is);
  }

  -- what the row serves, and whether it does the node's own operation
  pub own-outcome : row (record { copy = copy_in copies line; want = want_on old.sizes proc.want line; header = header_at old line }) ≡ o → (row_at old.sizes old.node (share_of proc copies old.headers) line row).served ≡ o.served
  unfolding copy_of header_in
  own-outcome is = ap (λ k. k.served) is

  pub own-done : row (record { copy = copy_in copies line; want = want_on old.sizes proc.want line; header = header_at old line }) ≡ o → (row_at old.sizes old.node (share_of proc copies old.headers) line row).done ≡ o.done
  unfolding copy_of header_in
  own-done is = ap (λ k. k.done) is

-- what is served and done by a row that is another one here
module _ {D : Type 0} (home : HomeView D) (copies : Copies) (line : ℕ) (brought : Words) (row row' : LineShare → Outcome) (same : (share : LineShare) → share.header ≡ header_at home line → row share ≡ row' share) (proc : ProcView) where
  abbrev pub told : Effect
  told = effect_of home.node proc.program proc.place brought (row_at home.sizes home.node (share_of proc copies home.headers) line row)

  abbrev pub here : LineShare
  here = line_share home.sizes (share_of proc copies home.headers) line

  is-here : row here ≡ row' here
  unfolding header_in
  is-here = same here refl

  pub tells-none : (row' here).served ≡ NoService → (row' here).done ≡ false → nothing ≡ told
  tells-none none undone = effect-none home.node proc.program proc.place brought (row_at home.sizes home.node (share_of proc copies home.headers) line row) (ap (λ o. o.served) is-here ∙ none) (ap (λ o. o.done) is-here ∙ undone)

  pub tells-for : (other : ℕ) (words : Words) → (row' here).served ≡ For other words → (row' here).done ≡ false → load_by other words ≡ told
  tells-for other words sent undone = effect-for home.node proc.program proc.place brought (row_at home.sizes home.node (share_of proc copies home.headers) line row) other words (ap (λ o. o.served) is-here ∙ sent) (ap (λ o. o.done) is-here ∙ undone)

-- a row at a node that isn't the line's home
pub is-away : (sizes : Sizes) (node line : ℕ) → home_of sizes line ≢ node → (node == home_of sizes line) ≡ false
is-away sizes node line away = by (node == home_of sizes line) refl
  where
    by : (b : Bool) → (node == home_of sizes line) ≡ b → b ≡ false
    by true e = absurd (away (sym (eqb-true node (home_of sizes line) e)))
    by false e = refl

module _ (sizes : Sizes) (node line : ℕ) (proc proc' : ProcView) (copies copies' : Copies) (headers : Headers) (out out' : SendList) (row : LineShare → Outcome) (o : Outcome) where
  abbrev at : LineShare
  at = line_share sizes (share_of proc copies headers) line

  pub away-row : home_of sizes line ≢ node → row at ≡ o → copies' ≡ put_copy copies line o.share.copy → proc'.place ≡ cond o.done (suc proc.place) proc.place → proc'.want ≡ want_after sizes proc.want line o.share.want →
      out' ≡ sent out (messages line o.sends) → DoesRow sizes node (share_of proc copies headers) (share_of proc' copies' headers) out out' line row
  away-row away is copies-are place want out-is = record {
    share = row-share sizes node line proc copies headers row proc' copies' headers
        (place ∙ sym (ap (λ k. cond k.done (suc proc.place) proc.place) is))
        (want ∙ sym (ap (λ k. want_after sizes proc.want line k.share.want) is))
        (copies-are ∙ sym (ap (λ k. put_copy copies line k.share.copy) is))
        (sym (cond-false (node == home_of sizes line) _ _ (is-away sizes node line away)));
    sends = out-is ∙ sym (ap (λ k. sent out (messages line k.sends)) is);
  }
