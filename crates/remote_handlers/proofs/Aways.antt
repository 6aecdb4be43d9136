-- Rows of a node that isn't the line's home: its copy is shared, handed on, called in, or gone already.
use Rattle.std.proofs.Common.{◌≡◌, ◌≢◌, ℕ, Bool, true, false, cond, ◌==◌, [], ◌∷◌, refl, sym, ap, ◌∙◌}
use Rattle.line_map.specs.Sizes.{Sizes, home_of}
use Rattle.op_model.specs.declared.messages.Msg.TheVariants as msg
use Rattle.op_model.specs.declared.messages.NakCause.TheVariants.{Gone}
use Rattle.op_model.specs.declared.state.CopyState.TheVariants as state
use Rattle.op_model.specs.Messages.{Content, Put, PutX, ShWb, FAck}
use Rattle.op_model.specs.Operations.{Words}
use Rattle.op_model.specs.Lines.{Copy, Absent, Shared, Exclusive, LineShare, NoService, For, Outcome, is_exclusive, state_of, without_shared, marked_load, words_of}
use Rattle.op_model.specs.Shares.{copy_of, line_share, want_on, want_after, copy_in, Headers}
use Rattle.op_model.specs.Events.Node.{messages}
use Rattle.op_model.specs.Tables.Remote.{on_fwd_get, on_fwd_getx, on_inv, gone}
use Rattle.op_model.proofs.Public.{want-stays}
use Rattle.cpu_cache.specs.Effects.{effect_of, nothing, load_by}
use Rattle.cpu_cache.specs.declared.effects.Effect.{Effect}
use Rattle.cpu_cache.specs.Caches.{CacheView, with_copy}
use Rattle.cpu_cache.specs.Processors.{ProcView}
use Rattle.msg_words.specs.SendList.{SendList}
use Rattle.node_share.specs.Parts.{share_of, row_at, sent, AreCopies, DoesRow}
use Rattle.node_share.proofs.Public.{away-row, copy-kept, effect-for, effect-none}

-- the messages of an answer, and of a report to the home where it isn't the requester
sends-are : (line home req : ℕ) (b : Bool) (words report : Content) → messages line (cond b ((home, words) ∷ []) ((req, words) ∷ (home, report) ∷ [])) ≡ cond b (messages line ((home, words) ∷ [])) (messages line ((req, words) ∷ (home, report) ∷ []))
sends-are line home req true words report = refl
sends-are line home req false words report = refl

pub absent-stays : (copy : Copy) → state_of copy ≡ state.Absent → without_shared copy ≡ copy
absent-stays Absent e = refl
absent-stays (Shared words) e = cc
absent-stays (Exclusive words) e = refl

pub exclusive-stays : (copy : Copy) → state_of copy ≡ state.Exclusive → without_shared copy ≡ copy
exclusive-stays Absent e = refl
exclusive-stays (Shared words) e = cc
exclusive-stays (Exclusive words) e = refl

pub shared-goes : (copy : Copy) → state_of copy ≡ state.Shared → without_shared copy ≡ Absent
shared-goes Absent e = refl
shared-goes (Shared words) e = refl
shared-goes (Exclusive words) e = cc

pub copy-stays : (cache : CacheView) (line : ℕ) → AreCopies cache.copies → without_shared (copy_in cache.copies line) ≡ copy_in cache.copies line → cache ≡ with_copy cache line (without_shared (copy_in cache.copies line))
copy-stays cache line held same = λ i. record { sizes = cache.sizes; copies = (sym (copy-kept cache.copies line held) ∙ ap (Rattle.op_model.specs.Shares.put_copy cache.copies line) (sym same)) i }

module _ (sizes : Sizes) (node line req : ℕ) (cache : CacheView) (out : SendList) (away : home_of sizes line ≢ node) (proc : ProcView) (headers : Headers) where
  abbrev home : ℕ
  home = home_of sizes line

  abbrev copy : Copy
  copy = copy_in cache.copies line

  abbrev pub Does : CacheView → SendList → (LineShare → Outcome) → Type 0
  Does cache' out' row = DoesRow sizes node (share_of proc cache.copies headers) (share_of proc cache'.copies headers) out out' line row

  abbrev pub Tells : (LineShare → Outcome) → Effect → Type 0
  Tells row effect = effect ≡ effect_of node proc.program proc.place [] (row_at sizes node (share_of proc cache.copies headers) line row)

  abbrev at : LineShare
  at = line_share sizes (share_of proc cache.copies headers) line

  -- the copy is gone already
  module _ (none : is_exclusive copy ≡ false) where
    get-gone : on_fwd_get home req at ≡ gone home req at
    unfolding on_fwd_get copy_of
    get-gone = ap (λ b. cond b (record { share = record at { copy = Shared (words_of copy) }; sends = cond (req == home) ((home, Put (words_of copy)) ∷ []) ((req, Put (words_of copy)) ∷ (home, ShWb (words_of copy)) ∷ []); served = For req (words_of copy); done = false }) (gone home req at)) none

    getx-gone : on_fwd_getx home req at ≡ gone home req at
    unfolding on_fwd_getx copy_of
    getx-gone = ap (λ b. cond b (record { share = record at { copy = Absent }; sends = cond (req == home) ((home, PutX (words_of copy)) ∷ []) ((req, PutX (words_of copy)) ∷ (home, FAck) ∷ []); served = NoService; done = false }) (gone home req at)) none

    module _ (row : LineShare → Outcome) (is : row at ≡ gone home req at) (out' : SendList) (held : AreCopies cache.copies) (pushed : out' ≡ sent out ((req, msg.Nak line Gone) ∷ (home, msg.Nakc line) ∷ [])) where
      gone-does : Does cache out' row
      unfolding copy_of
      gone-does = away-row sizes node line proc proc cache.copies cache.copies headers out out' row (gone home req at) away is (sym (copy-kept cache.copies line held)) refl (sym (want-stays sizes proc.want line)) pushed

    pub get-gone-does : (out' : SendList) → AreCopies cache.copies → out' ≡ sent out ((req, msg.Nak line Gone) ∷ (home, msg.Nakc line) ∷ []) → Does cache out' (on_fwd_get home req)
    get-gone-does out' held pushed = gone-does (on_fwd_get home req) get-gone out' held pushed

    pub getx-gone-does : (out' : SendList) → AreCopies cache.copies → out' ≡ sent out ((req, msg.Nak line Gone) ∷ (home, msg.Nakc line) ∷ []) → Does cache out' (on_fwd_getx home req)
    getx-gone-does out' held pushed = gone-does (on_fwd_getx home req) getx-gone out' held pushed

    pub get-gone-tells : Tells (on_fwd_get home req) nothing
    get-gone-tells = effect-none node proc.program proc.place [] (row_at sizes node (share_of proc cache.copies headers) line (on_fwd_get home req)) (ap (λ o. o.served) get-gone) (ap (λ o. o.done) get-gone)

    pub getx-gone-tells : Tells (on_fwd_getx home req) nothing
    getx-gone-tells = effect-none node proc.program proc.place [] (row_at sizes node (share_of proc cache.copies headers) line (on_fwd_getx home req)) (ap (λ o. o.served) getx-gone) (ap (λ o. o.done) getx-gone)

  -- the copy is exclusive
  module _ (there : is_exclusive copy ≡ true) where
    abbrev shared : Outcome
    shared = record { share = record at { copy = Shared (words_of copy) }; sends = cond (req == home) ((home, Put (words_of copy)) ∷ []) ((req, Put (words_of copy)) ∷ (home, ShWb (words_of copy)) ∷ []); served = For req (words_of copy); done = false }

    abbrev handed : Outcome
    handed = record { share = record at { copy = Absent }; sends = cond (req == home) ((home, PutX (words_of copy)) ∷ []) ((req, PutX (words_of copy)) ∷ (home, FAck) ∷ []); served = NoService; done = false }

    get-shared : on_fwd_get home req at ≡ shared
    unfolding on_fwd_get copy_of
    get-shared = ap (λ b. cond b shared (gone home req at)) there

    getx-handed : on_fwd_getx home req at ≡ handed
    unfolding on_fwd_getx copy_of
    getx-handed = ap (λ b. cond b handed (gone home req at)) there

    pub get-does : (cache' : CacheView) (out' : SendList) (words : Words) → words ≡ words_of copy → cache' ≡ with_copy cache line (Shared (words_of copy)) →
        out' ≡ sent out (cond (req == home) ((home, msg.Put line words) ∷ []) ((req, msg.Put line words) ∷ (home, msg.ShWb line words) ∷ [])) → Does cache' out' (on_fwd_get home req)
    get-does cache' out' words are cache-is pushed =
        away-row sizes node line proc proc cache.copies cache'.copies headers out out' (on_fwd_get home req) shared away get-shared (ap (λ c. c.copies) cache-is) refl (sym (want-stays sizes proc.want line))
        (pushed ∙ ap (λ w. sent out (cond (req == home) ((home, msg.Put line w) ∷ []) ((req, msg.Put line w) ∷ (home, msg.ShWb line w) ∷ []))) are
        ∙ ap (sent out) (sym (sends-are line home req (req == home) (Put (words_of copy)) (ShWb (words_of copy)))))

    pub get-tells : Tells (on_fwd_get home req) (load_by req (words_of copy))
    get-tells = effect-for node proc.program proc.place [] (row_at sizes node (share_of proc cache.copies headers) line (on_fwd_get home req)) req (words_of copy) (ap (λ o. o.served) get-shared) (ap (λ o. o.done) get-shared)

    pub getx-does : (cache' : CacheView) (out' : SendList) (words : Words) → words ≡ words_of copy → cache' ≡ with_copy cache line Absent →
        out' ≡ sent out (cond (req == home) ((home, msg.PutX line words) ∷ []) ((req, msg.PutX line words) ∷ (home, msg.FAck line) ∷ [])) → Does cache' out' (on_fwd_getx home req)
    getx-does cache' out' words are cache-is pushed =
        away-row sizes node line proc proc cache.copies cache'.copies headers out out' (on_fwd_getx home req) handed away getx-handed (ap (λ c. c.copies) cache-is) refl (sym (want-stays sizes proc.want line))
        (pushed ∙ ap (λ w. sent out (cond (req == home) ((home, msg.PutX line w) ∷ []) ((req, msg.PutX line w) ∷ (home, msg.FAck line) ∷ []))) are
        ∙ ap (sent out) (sym (sends-are line home req (req == home) (PutX (words_of copy)) FAck)))

    pub getx-tells : Tells (on_fwd_getx home req) nothing
    getx-tells = effect-none node proc.program proc.place [] (row_at sizes node (share_of proc cache.copies headers) line (on_fwd_getx home req)) (ap (λ o. o.served) getx-handed) (ap (λ o. o.done) getx-handed)

-- a shared copy goes, and a load is marked
pub inv-does : (sizes : Sizes) (node line told : ℕ) (cache cache' : CacheView) (proc proc' : ProcView) (out out' : SendList) (headers : Headers) → home_of sizes line ≢ node → told ≡ home_of sizes line →
    cache' ≡ with_copy cache line (without_shared (copy_in cache.copies line)) → proc' ≡ record proc { want = want_after sizes proc.want line (marked_load (want_on sizes proc.want line)) } → out' ≡ sent out ((told, msg.InvAck line) ∷ []) →
    DoesRow sizes node (share_of proc cache.copies headers) (share_of proc' cache'.copies headers) out out' line (on_inv (home_of sizes line))
unfolding on_inv copy_of
inv-does sizes node line told cache cache' proc proc' out out' headers away is cache-is proc-is pushed =
    away-row sizes node line proc proc' cache.copies cache'.copies headers out out' (on_inv (home_of sizes line))
    (on_inv (home_of sizes line) (line_share sizes (share_of proc cache.copies headers) line)) away refl
    (ap (λ c. c.copies) cache-is) (ap (λ p. p.place) proc-is) (ap (λ p. p.want) proc-is) (pushed ∙ ap (λ k. sent out ((k, msg.InvAck line) ∷ [])) is)
